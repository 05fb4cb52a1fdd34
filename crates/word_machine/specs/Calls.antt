-- A call: the callee's frame over the caller's, which waits.
use Prim.Native.Nat.{ℕ, suc, ◌+◌, ◌*◌, ◌≤◌, ◌<◌}
use Rattle.std.proofs.Common.{arith, ◌∙◌, inl, inr, length-set, get_or-set_same, get_or-set_other}
use Rattle.std.specs.Prelude.{◌≡◌, true, List, ◌∷◌, ◌≢◌, ◌⊎◌, pos, length, get_or, set}
use Rattle.std.proofs.Math.Path.{refl}
use Rattle.sets.specs.Members.{in_list, members}
use Rattle.language.specs.Program.{in_mode, Signature}
use Rattle.language.specs.Typing.{is_variable}
use Rattle.language.specs.Regions.{mapping, image_in}
use Rattle.language.specs.Lifetimes.{start_held}
use Rattle.language.specs.Frames.{numeral, callee_frame}
use Rattle.language.specs.AcceptedRun.{RegionFrame, callee_stands, mapping_from, callee_regions}
use Rattle.language.specs.Answers.{program}
use Rattle.language.specs.Format.{max_variables, max_regions}
use Rattle.language.specs.Numbers.{residue}
use Rattle.laws.specs.Numbers.{among_in}
use Rattle.region_graph.specs.Shared.{region_top}
use Rattle.chains.specs.Formed.{Formed}
use Rattle.safety.specs.Premises.{Accepted, laws}
use Rattle.heap.specs.Standing.{StandsFor}
use Rattle.word_machine.specs.Tables.{Tables, slot_of, given_of, Tabled}
use Rattle.word_machine.specs.Machine.{regions_from, regions_end, frame_words, goal_place, value_place, region_place, call_place, copied, cleared, blocks, values_in, regions_in, callee_words}
use Rattle.word_machine.specs.Copies.{copied_length, copied_other, copied_related, cleared_length, cleared_before, cleared_after, cleared_in, blocks_most, blocks_least, puts_give, puts_stand}
use Rattle.word_machine.specs.Relation.{Where, Means, Names, not_later, sig, FrameOk, CallLinked, Waiting, more, frame_later, waiting_later}
use Rattle.word_machine.specs.Returns.{members_range, passing, caller_range, caller_variable, callee_range}
use Rattle.word_machine.specs.Links.{body_todo}

-- a variable is one of as many as there are
pub variable_count : (S : Signature) (x : ℕ) → is_variable S x ≡ true → x ≤ length S.variables
unfolding is_variable
variable_count S x v = (among_in (length S.variables) x v).1

-- frame k stands for e, which goes on at record g; it calls q with arguments zs by the call at record i
module _ {f : List ℕ} {T : Tables} (B : Tabled f T) (A : Accepted (program f)) (F : Formed f) {fw : List ℕ} {L : Where} {k i q : ℕ} {zs : List ℕ}
    {e : RegionFrame} {fs : List RegionFrame} (G : FrameOk B fw k L (T.successor i) e)
    (W : Waiting B fw L e.frame.procedure e.frame.arguments k fs) (N : CallLinked B i e.frame.procedure q zs)
    (room : frame_words * suc (suc k) ≤ length fw) where
  abbrev ins : List ℕ
  ins = passing B A N in_mode (inl refl)

  abbrev helds : List ℕ
  helds = members (start_held (sig f q))

  abbrev count : ℕ
  count = blocks (length (sig f q).variables)

  abbrev fa : List ℕ
  fa = set fw (goal_place k) (T.successor i)

  abbrev fb : List ℕ
  fb = set fa (call_place (suc k)) i

  abbrev fc : List ℕ
  fc = cleared (suc (goal_place (suc k))) count fb

  abbrev fd : List ℕ
  fd = copied (λ a. value_place (suc k) (slot_of a)) (λ a. value_place k (given_of a)) ins fc

  abbrev fe : List ℕ
  fe = copied (λ r. region_place (suc k) r) (λ r. region_place k (T.image i r)) helds fd

  pub callee_is : callee_words f T k i q fw ≡ fe
  unfolding callee_words regions_in values_in
  callee_is = rw (B.held q N.some, B.size q N.some)

  few : count ≤ max_variables
  few = blocks_most (length (sig f q).variables)

  enough : length (sig f q).variables ≤ count
  enough = blocks_least (length (sig f q).variables) (laws A q).variables

  longc : length fc ≡ length fw
  longc = cleared_length count (suc (goal_place (suc k))) fb ∙ length-set fa (call_place (suc k)) i ∙ length-set fw (goal_place k) (T.successor i)

  longd : length fd ≡ length fw
  longd = copied_length (λ a. value_place (suc k) (slot_of a)) (λ a. value_place k (given_of a)) ins fc ∙ longc

  pub longe : length fe ≡ length fw
  longe = copied_length (λ r. region_place (suc k) r) (λ r. region_place k (T.image i r)) helds fd ∙ longd

  -- ---- words that stay
  keptb : (j : ℕ) → j ≢ goal_place k → j < goal_place (suc k) → get_or fb j 0 ≡ get_or fw j 0
  keptb j ne l =
      get_or-set_other fa (call_place (suc k)) j i 0 (λ z. omega arith) ∙ get_or-set_other fw (goal_place k) j (T.successor i) 0 ne

  keptd : (j : ℕ) → (j ≤ goal_place (suc k)) ⊎ (goal_place (suc k) + max_variables < j) → get_or fd j 0 ≡ get_or fc j 0
  keptd j o = copied_other (λ a. value_place (suc k) (slot_of a)) (λ a. value_place k (given_of a)) ins fc j (λ a h z. differ a h z o)
    where
      differ : (a : ℕ) → in_list a ins ≡ true → j ≡ value_place (suc k) (slot_of a) → (j ≤ goal_place (suc k)) ⊎ (goal_place (suc k) + max_variables < j) → ⊥
      differ a h z (inl o) = let r = callee_range B A N in_mode (inl refl) a h in omega (arith, r.0)
      differ a h z (inr o) = let r = callee_range B A N in_mode (inl refl) a h in omega (arith, r.1)

  kepte : (j : ℕ) → (j ≤ goal_place (suc k) + regions_from) ⊎ (goal_place (suc k) + regions_end < j) → get_or fe j 0 ≡ get_or fd j 0
  kepte j o = copied_other (λ r. region_place (suc k) r) (λ r. region_place k (T.image i r)) helds fd j (λ r h z. differ r h z o)
    where
      differ : (r : ℕ) → in_list r helds ≡ true → j ≡ region_place (suc k) r → (j ≤ goal_place (suc k) + regions_from) ⊎ (goal_place (suc k) + regions_end < j) → ⊥
      differ r h z (inl o) = let b = members_range _ r h in omega (arith, b.1)
      differ r h z (inr o) = let b = members_range _ r h in omega (arith, b.2)

  -- words of the caller and below
  keptc_low : (j : ℕ) → j ≤ goal_place (suc k) → get_or fc j 0 ≡ get_or fb j 0
  keptc_low j l = cleared_before count (suc (goal_place (suc k))) fb j (omega arith)

  below : (j : ℕ) → j ≤ goal_place (suc k) → get_or fe j 0 ≡ get_or fb j 0
  below j l = kepte j (inl (omega arith)) ∙ keptd j (inl l) ∙ keptc_low j l

  caller_word : (j : ℕ) → j ≢ goal_place k → j < goal_place (suc k) → get_or fe j 0 ≡ get_or fw j 0
  caller_word j ne l = below j (omega arith) ∙ keptb j ne l

  goal_word : get_or fe (goal_place k) 0 ≡ T.successor i
  goal_word =
      below (goal_place k) (omega arith) ∙ get_or-set_other fa (call_place (suc k)) (goal_place k) i 0 (λ z. omega arith)
      ∙ get_or-set_same fw (goal_place k) (T.successor i) 0 (omega arith)

  call_word : get_or fe (call_place (suc k)) 0 ≡ i
  call_word =
      kepte (call_place (suc k)) (inr (omega arith)) ∙ keptd (call_place (suc k)) (inr (omega arith))
      ∙ cleared_after count (suc (goal_place (suc k))) fb (call_place (suc k)) (omega (arith, few))
      ∙ get_or-set_same fa (call_place (suc k)) i 0 (omega (arith, length-set fw (goal_place k) (T.successor i)))

  -- ---- the callee's values and regions
  in_values : (x : ℕ) → 1 ≤ x → x ≤ max_variables → is_variable (sig f q) x ≡ true
      → Means L (get_or fe (value_place (suc k) x) 0) ((callee_frame (program f) e.frame q zs).values x)
  unfolding callee_frame StandsFor residue
  in_values x l h v =
      rw (
        kepte (value_place (suc k) x) (inl (omega arith)),
        ← N.places in_mode (inl refl),
        ← N.slots in_mode (inl refl),
        ← puts_give slot_of given_of e.frame.values ins (λ y. numeral (pos 0)),
      )
      (copied_related (Means L) (frame_words * suc k) (λ a. value_place (suc k) (slot_of a)) (λ a. value_place k (given_of a)) slot_of
      (λ a. e.frame.values (given_of a)) ins fc (λ y. numeral (pos 0)) x
      (λ a m. let r = caller_range B A N in_mode (inl refl) a m in let s = callee_range B A N in_mode (inl refl) a m in (
        refl,
        omega (arith, s.1, longc),
        rw (keptc_low (value_place k (given_of a)) (omega (arith, r.1)) ∙ keptb (value_place k (given_of a)) (λ z. omega (arith, r.0)) (omega (arith, r.1)))
            (G.values (given_of a) r.0 r.1 (caller_variable B A N in_mode (inl refl) a m)),
      ))
      (λ a b m n z. let r = callee_range B A N in_mode (inl refl) a m in let s = caller_range B A N in_mode (inl refl) b n in omega (arith, s.1))
      (rw (cleared_in count (suc (goal_place (suc k))) fb (value_place (suc k) x) (omega arith) (omega (arith, variable_count (sig f q) x v, enough))
      (omega (arith, few, longc, cleared_length count (suc (goal_place (suc k))) fb))) (refl, refl)))

  held_image : (r : ℕ) → in_list r helds ≡ true → (1 ≤ T.image i r) × (T.image i r ≤ max_regions)
  held_image r h = region_top _ _ (laws A e.frame.procedure) (T.image i r) (N.images r (inl (members_range _ r h).0)).1

  in_regions : (r : ℕ) → 1 ≤ r → r ≤ max_regions → Names L (get_or fe (region_place (suc k) r) 0)
      (callee_stands (mapping (sig f e.frame.procedure) (sig f q) zs) (sig f q) e.stands r)
  unfolding callee_stands
  in_regions r l h =
      rw (← puts_stand (λ u. u) (λ u. e.stands (image_in (mapping (sig f e.frame.procedure) (sig f q) zs) u)) helds (λ u. 0))
      (copied_related (Names L) (frame_words * suc k + regions_from) (λ u. region_place (suc k) u) (λ u. region_place k (T.image i u)) (λ u. u)
      (λ u. e.stands (image_in (mapping (sig f e.frame.procedure) (sig f q) zs) u)) helds fd (λ u. 0) r
      (λ u m. let b = held_image u m in let s = members_range _ u m in
      (refl, omega (arith, s.2, longd), source u (N.images u (inl s.0)).0 b.0 b.1))
      (λ a b m n z. let r = members_range _ a m in let s = held_image b n in omega (arith, s.1))
      (λ z. absurd (z refl)))
    where
      source : (u : ℕ) → T.image i u ≡ image_in (mapping (sig f e.frame.procedure) (sig f q) zs) u → 1 ≤ T.image i u → T.image i u ≤ max_regions
          → Names L (get_or fd (region_place k (T.image i u)) 0) (e.stands (image_in (mapping (sig f e.frame.procedure) (sig f q) zs) u))
      source u z a b =
          rw (
            ← z,
            keptd (region_place k (T.image i u)) (inl (omega arith)),
            keptc_low (region_place k (T.image i u)) (omega arith),
            keptb (region_place k (T.image i u)) (λ y. omega arith) (omega arith),
          ) (G.regions (T.image i u) a b)

  pub called_frame : FrameOk B fe (suc k) L (T.body q) (callee_regions (program f) e q zs)
  unfolding callee_regions mapping_from callee_frame
  called_frame = record { fits = omega (arith, room, longe); values = in_values; regions = in_regions; todo = body_todo B A F q N.some }

  pub called_waiting : Waiting B fe L q zs (suc k) (e ∷ fs)
  called_waiting =
      let l : CallLinked B (get_or fe (call_place (suc k)) 0) e.frame.procedure q zs = rw call_word N in
      let G' : FrameOk B fe k L (get_or fe (goal_place k) 0) e = rw goal_word (frame_later B (not_later L) longe (λ j a b. caller_word (frame_words * k + j) (λ z. omega arith) (omega arith)) G) in
      more l G' (waiting_later B (not_later L) longe (λ j h. caller_word j (λ z. omega arith) (omega arith)) (caller_word (call_place k) (λ z. omega arith) (omega arith)) W)
