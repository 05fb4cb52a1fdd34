-- A return: out values and born regions pass to the frame below, and frames that are done go.
use Rattle.std.specs.Prelude.{ℕ, zero, suc, ◌+◌, ◌*◌, ◌≤◌, ◌<◌, ◌≡◌, true, ◌⊎◌, length, get_or}
use Rattle.std.proofs.Common.{arith, ap, ◌∙◌, inl, inr, lt-ltb}
use Rattle.std.proofs.Math.Path.{refl}
use mathlib.Core.List.{List, [], ◌∷◌}
use Rattle.sets.specs.Sets.{member}
use Rattle.sets.specs.Members.{in_list, members, members_from_in, cons_here, cons_later}
use Rattle.language.specs.Lists.{put}
use Rattle.language.specs.File.{record_count}
use Rattle.language.specs.Program.{out_mode, Goals, done, ◌then◌, parameters_of}
use Rattle.language.specs.Typing.{is_variable}
use Rattle.language.specs.Regions.{mapping, image_in}
use Rattle.language.specs.Lifetimes.{born}
use Rattle.language.specs.Frames.{returning, settle}
use Rattle.language.specs.AcceptedRun.{RegionFrame, stand_each, mapping_from, return_stands, returning_regions}
use Rattle.language.specs.Answers.{program}
use Rattle.language.specs.Format.{max_variables, max_regions}
use Rattle.laws.specs.Choices.{choose_true}
use Rattle.laws.specs.Lists.{image_listed}
use Rattle.region_graph.specs.Parameters.{arguments_in_law, parameter_variable, mode_parameter}
use Rattle.region_graph.specs.Shared.{variable_top, region_top}
use Rattle.safety.specs.Premises.{Accepted, laws}
use Rattle.word_machine.specs.Tables.{Tables, slot_of, given_of, PassingMode, Tabled}
use Rattle.word_machine.specs.Machine.{regions_from, regions_end, frame_words, MachineWords, value_place, region_place, call_place, copied, values_out, regions_out, return_words, returned, settled_from}
use Rattle.word_machine.specs.Successors.{todo_end, todo_next}
use Rattle.word_machine.specs.Copies.{copied_length, copied_other, copied_related, puts_give, puts_stand}
use Rattle.word_machine.specs.Relation.{Where, Means, Names, not_later, sig, FrameOk, CallLinked, Waiting, none, more, waiting_later, Running}

-- members are numbers from 1 to 64
pub members_range : (s : _) (r : ℕ) → in_list r (members s) ≡ true → (member s r ≡ true) × (1 ≤ r) × (r ≤ max_regions)
unfolding members
members_range s r i = let m = members_from_in s max_regions 1 r i in (m.0, m.1, omega (arith, m.2))

-- equal names stand for the same
pub stand_named : (name name' meant : ℕ → ℕ) (rs : List ℕ) (t : ℕ → ℕ) → ((r : ℕ) → in_list r rs ≡ true → name r ≡ name' r)
    → stand_each name meant rs t ≡ stand_each name' meant rs t
unfolding stand_each
stand_named name name' meant [] t h = refl
stand_named name name' meant (r ∷ rs) t h =
    ap (λ n. stand_each name meant rs (put t n (meant r))) (h r (cons_here r r rs refl))
    ∙ stand_named name name' meant rs (put t (name' r) (meant r)) (λ q i. h q (cons_later q r rs i))

-- a record that is not 0
pub some_goal : (i : ℕ) → (i ≡ 0 → ⊥) → (j : ℕ) × (i ≡ suc j)
some_goal zero z = absurd (z refl)
some_goal (suc j) z = (j, refl)

module _ {f : List ℕ} {T : Tables} (B : Tabled f T) (A : Accepted (program f)) where
  -- ---- the variables that a call's arguments pass
  module _ {i p q : ℕ} {zs : List ℕ} (N : CallLinked B i p q zs) (m : ℕ) (d : PassingMode m) where
    abbrev pub passing : List ℕ
    passing = T.passes m i

    pub caller_variable : (a : ℕ) → in_list a passing ≡ true → is_variable (sig f p) (given_of a) ≡ true
    caller_variable a h =
        N.variables (given_of a) (arguments_in_law m (parameters_of (sig f q)) zs (given_of a) (rw (N.places m d) at (image_listed given_of passing a h)))

    pub callee_variable : (a : ℕ) → in_list a passing ≡ true → is_variable (sig f q) (slot_of a) ≡ true
    callee_variable a h =
        parameter_variable (sig f q) (slot_of a) (mode_parameter (sig f q) m (slot_of a) (rw (N.slots m d) at (image_listed slot_of passing a h)))

    pub caller_range : (a : ℕ) → in_list a passing ≡ true → (1 ≤ given_of a) × (given_of a ≤ max_variables)
    caller_range a h = variable_top _ _ (laws A p) (given_of a) (caller_variable a h)

    pub callee_range : (a : ℕ) → in_list a passing ≡ true → (1 ≤ slot_of a) × (slot_of a ≤ max_variables)
    callee_range a h = variable_top _ _ (laws A q) (slot_of a) (callee_variable a h)

  -- ---- frame suc k, which stands for e, returns to frame k, which stands for u
  module _ {fw : List ℕ} {L : Where} {k i g : ℕ} {e u : RegionFrame} {fs : List RegionFrame} (F : FrameOk B fw (suc k) L i e)
      (N : CallLinked B (get_or fw (call_place (suc k)) 0) u.frame.procedure e.frame.procedure e.frame.arguments) (G : FrameOk B fw k L g u)
      (W : Waiting B fw L u.frame.procedure u.frame.arguments k fs) where
    abbrev c : ℕ
    c = get_or fw (call_place (suc k)) 0

    abbrev outs : List ℕ
    outs = passing N out_mode (inr refl)

    abbrev borns : List ℕ
    borns = members (born (sig f e.frame.procedure))

    abbrev fw1 : List ℕ
    fw1 = copied (λ a. value_place k (given_of a)) (λ a. value_place (suc k) (slot_of a)) outs fw

    abbrev fw2 : List ℕ
    fw2 = copied (λ r. region_place k (T.image c r)) (λ r. region_place (suc k) r) borns fw1

    long1 : length fw1 ≡ length fw
    long1 = copied_length (λ a. value_place k (given_of a)) (λ a. value_place (suc k) (slot_of a)) outs fw

    long2 : length fw2 ≡ length fw
    long2 = copied_length (λ r. region_place k (T.image c r)) (λ r. region_place (suc k) r) borns fw1 ∙ long1

    -- words that are no value of frame k stay, then those that are no region's of it
    kept1 : (j : ℕ) → (j ≤ frame_words * k) ⊎ (frame_words * k + max_variables < j) → get_or fw1 j 0 ≡ get_or fw j 0
    kept1 j o = copied_other (λ a. value_place k (given_of a)) (λ a. value_place (suc k) (slot_of a)) outs fw j (λ a h z. differ a h z o)
      where
        differ : (a : ℕ) → in_list a outs ≡ true → j ≡ value_place k (given_of a) → (j ≤ frame_words * k) ⊎ (frame_words * k + max_variables < j) → ⊥
        differ a h z (inl o) = let r = caller_range N out_mode (inr refl) a h in omega (arith, r.0)
        differ a h z (inr o) = let r = caller_range N out_mode (inr refl) a h in omega (arith, r.1)

    born_image : (r : ℕ) → in_list r borns ≡ true → (1 ≤ T.image c r) × (T.image c r ≤ max_regions)
    born_image r h = region_top _ _ (laws A u.frame.procedure) (T.image c r) (N.images r (inr (members_range _ r h).0)).1

    kept2 : (j : ℕ) → (j ≤ frame_words * k + regions_from) ⊎ (frame_words * k + regions_end < j) → get_or fw2 j 0 ≡ get_or fw1 j 0
    kept2 j o = copied_other (λ r. region_place k (T.image c r)) (λ r. region_place (suc k) r) borns fw1 j (λ r h z. differ r h z o)
      where
        differ : (r : ℕ) → in_list r borns ≡ true → j ≡ region_place k (T.image c r) → (j ≤ frame_words * k + regions_from) ⊎ (frame_words * k + regions_end < j) → ⊥
        differ r h z (inl o) = let b = born_image r h in omega (arith, b.0)
        differ r h z (inr o) = let b = born_image r h in omega (arith, b.1)

    out_values : (x : ℕ) → 1 ≤ x → x ≤ max_variables → is_variable (sig f u.frame.procedure) x ≡ true
        → Means L (get_or fw2 (value_place k x) 0) ((returning (program f) e.frame u.frame).values x)
    unfolding returning
    out_values x l h v =
        rw (
          kept2 (value_place k x) (inl (omega arith)),
          ← N.places out_mode (inr refl),
          ← N.slots out_mode (inr refl),
          ← puts_give given_of slot_of e.frame.values outs u.frame.values,
        )
        (copied_related (Means L) (frame_words * k) (λ a. value_place k (given_of a)) (λ a. value_place (suc k) (slot_of a)) given_of
        (λ a. e.frame.values (slot_of a)) outs fw u.frame.values x
        (λ a m. let r = caller_range N out_mode (inr refl) a m in let s = callee_range N out_mode (inr refl) a m in
        (refl, omega (arith, r.1, G.fits), F.values (slot_of a) s.0 s.1 (callee_variable N out_mode (inr refl) a m)))
        (λ a b m n z. let r = caller_range N out_mode (inr refl) a m in let s = callee_range N out_mode (inr refl) b n in omega (arith, r.1, s.0))
        (G.values x l h v))

    out_regions : (r : ℕ) → 1 ≤ r → r ≤ max_regions → Names L (get_or fw2 (region_place k r) 0)
        (return_stands (mapping (sig f u.frame.procedure) (sig f e.frame.procedure) e.frame.arguments) (sig f e.frame.procedure) e.stands u.stands r)
    unfolding return_stands
    out_regions r l h =
        rw (
          ← stand_named (T.image c) (image_in (mapping (sig f u.frame.procedure) (sig f e.frame.procedure) e.frame.arguments)) e.stands borns u.stands
              (λ q m. (N.images q (inr (members_range _ q m).0)).0),
          ← puts_stand (T.image c) e.stands borns u.stands,
        )
        (copied_related (Names L) (frame_words * k + regions_from) (λ q. region_place k (T.image c q)) (λ q. region_place (suc k) q) (T.image c) e.stands borns fw1 u.stands r
        (λ q m. let b = born_image q m in let s = members_range _ q m in
        (refl, omega (arith, b.1, G.fits, long1), rw (kept1 (region_place (suc k) q) (inr (omega arith))) (F.regions q s.1 s.2)))
        (λ a b m n z. let r = born_image a m in let s = members_range _ b n in omega (arith, r.1))
        (rw (kept1 (region_place k r) (inr (omega arith))) (G.regions r l h)))

    pub returned_frame : FrameOk B fw2 k L g (returning_regions (program f) e u)
    unfolding returning_regions mapping_from returning
    returned_frame = record { fits = omega (arith, G.fits, long2); values = out_values; regions = out_regions; todo = G.todo }

    pub returned_waiting : Waiting B fw2 L u.frame.procedure u.frame.arguments k fs
    returned_waiting =
        waiting_later B (not_later L) long2 (λ j h. kept2 j (inl (omega arith)) ∙ kept1 j (inl (omega arith)))
        (kept2 (call_place k) (inr (omega arith)) ∙ kept1 (call_place k) (inr (omega arith))) W

    pub return_is : return_words f T k c fw ≡ fw2
    unfolding return_words regions_out values_out
    return_is = choose_true _ _ fw (lt-ltb c (record_count f) N.there) ∙ (rw (N.callee, B.bears e.frame.procedure N.some))

  -- ---- a run that has gone on: it has ended, or its newest frame has a goal
  pub data Related (w : MachineWords) (L : Where) (frames : List RegionFrame) : Type 0 where
    over : frames ≡ [] → w.goal ≡ 0 → Related w L frames
    runs : {e : RegionFrame} {fs : List RegionFrame} {i : ℕ} → frames ≡ e ∷ fs → w.goal ≡ suc i → Running B w L e fs → Related w L frames

  -- k is the newest frame, i its next goal
  pub settled_from_law : {L : Where} (fs : List RegionFrame) {k : ℕ} (i : ℕ) (w : MachineWords) (e : RegionFrame) (gs : Goals) → w.top ≡ k → w.goal ≡ i
      → e.frame.goals ≡ gs → FrameOk B w.frames k L i e → Waiting B w.frames L e.frame.procedure e.frame.arguments k fs
      → Related (settled_from f T k i w) L (settle (λ u. u.frame.goals) (returning_regions (program f)) fs e gs)
  unfolding settled_from settle returned returning_regions returning
  settled_from_law [] i w e done t o q F none = over refl (o ∙ todo_end B F.todo q)
  settled_from_law [] i w e (g then gs) t o q F none =
      let s = some_goal i (todo_next B F.todo g gs q).some in
      runs refl (o ∙ s.1) (record { newest = rw (t, o) F; waiting = rw t none })
  settled_from_law {L} (u ∷ fs) i w e done t o q F (more {k = k} N G W) =
      let z = todo_end B F.todo q in
      rw z (settled_from_law fs (returned f T k w).goal (returned f T k w) (returning_regions (program f) e u) u.frame.goals refl refl refl
      (rw (return_is F N G W) (returned_frame F N G W)) (rw (return_is F N G W) (returned_waiting F N G W)))
  settled_from_law {L} (u ∷ fs) i w e (g then gs) t o q F (more {k = k} N G W) =
      let s = some_goal i (todo_next B F.todo g gs q).some in
      rw s.1 (runs refl (o ∙ s.1) (record { newest = rw (t, o) F; waiting = rw t (more N G W) }))
