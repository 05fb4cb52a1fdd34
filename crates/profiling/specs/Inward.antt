-- What each way into, through and out of a condition comes to (C-20), from where a run stands.
use Prim.Native.Nat.{ℕ, zero, suc, ◌+◌, ◌*◌, ◌≤◌, ◌<◌}
use Rattle.std.proofs.Common.{arith, ◌∙◌, Result, Ok, Err, Continue, Break}
use Rattle.std.proofs.Math.Numerals.{add-one}
use Rattle.std.specs.Prelude.{◌≡◌, true, false, List, length, replicate}
use Rattle.std.proofs.Math.Path.{refl, sym, ap}
use Rattle.std.proofs.Math.ListN.{get_or, length-replicate}
use Rattle.language.specs.declared.Stop.{Stop}
use Rattle.language.specs.declared.Ending.TheVariants.{Stopped}
use Rattle.language.specs.Lists.{nth}
use Rattle.language.specs.File.{k_goal, k_try, kinds, kind_of, word, record_count}
use Rattle.language.specs.Format.{kind_word, next_word, try_kind, try_condition, try_then, try_else}
use Rattle.language.specs.Machine.{Room, room_in}
use Rattle.records.specs.Records.{record_at}
use Rattle.records.specs.declared.Record.TheVariants.{Try}
use Rattle.chains.specs.Shapes.{IsTry}
use Rattle.memory.specs.declared.Heap.{Heap}
use Rattle.memory.specs.Log.{stored, Is, undone, freed}
use Rattle.memory.specs.Moved.{moved, moved_here}
use Rattle.word_machine.specs.Tables.{Tables, onto}
use Rattle.word_machine.specs.Machine.{frame_words, regions_end, MachineWords, ConditionWords, Went, went, opens, stops, steps, steps_in, lent_words, with_frames, with_stored, stored_in, saved_frame, put_back, tries, fails, leaves, enters_at, enters}
use Rattle.word_machine.specs.Returns.{some_goal}
use Rattle.machine.specs.declared.State.{State}
use Rattle.machine.specs.declared.ConditionStep.{ConditionStep}
use Rattle.machine.specs.declared.ConditionStep.TheVariants.{On as StepOn, Fails}
use Rattle.machine.specs.Words.{words_of, onward_to, onward_placed}
use Rattle.machine.specs.Steps.{of_kind}
use Rattle.machine.specs.Entries.{Logs, logs_none}
use Rattle.machine.specs.Trying.{fails_in, Inside, Onward}
use Rattle.profiling.specs.declared.Counts.{Counts}
use Rattle.profiling.specs.declared.Point.{Point}
use Rattle.profiling.specs.Counting.{made_counted, counted}
use Rattle.profiling.specs.Tallying.{Tally, alike}
use Rattle.profiling.specs.Standing.{outside, inside, words_in, StandsAfter, at_as, steps_on, steps_into, inside_busy, inside_on, inside_ends, inside_fails, inside_stops}
use Rattle.profiling.specs.Turning.{placed_onward}
use Rattle.profiling.specs.Behind.{then_goal, else_goal, opened_to, Behind, Leaves, GoesBack, Took}
use Rattle.profiling.specs.Moving.{words_at, OpenAt, none_open, one_open, RunStands, EndsAfter, Moves, moves_to, ends, lent_same, stands_outside, stands_inside}

same_tally : {a b c d : Counts} (e : Counts) → a ≡ b → c ≡ d → ◌≡◌ {A = Tally} (record { held = a; left = c; before = e }) (record { held = b; left = d; before = e })
same_tally {a} {b} {c} {d} e p q = ap (λ k. record { held = k; left = c; before = e }) p ∙ ap (λ k. record { held = b; left = k; before = e }) q

-- ---- words moved from like words
moved_like : (p q n : ℕ) (a b to : List ℕ) → ((i : ℕ) → i < n → get_or a (p + i) 0 ≡ get_or b (p + i) 0) → moved p q n a to ≡ moved p q n b to
unfolding moved
moved_like p q zero a b to e = refl
moved_like p q (suc n) a b to e = rw (e n (omega arith)) (moved_like p q n a b _ (λ i l. e i (omega arith)))

-- ---- a try
try_record : (f : List ℕ) (i : ℕ) → IsTry f i → record_at f i ≡ Try (word f i next_word) (word f i try_condition) (word f i try_then) (word f i try_else)
unfolding kind_of kinds nth
try_record f i z = of_kind f i (word f i kind_word) refl try_kind (k_goal k_try) refl z

module _ {f : List ℕ} {T : Tables} {l : ℕ} {m rs fw ps log own : List ℕ} {p : Point} (H : RunStands f T l m rs fw ps log own p) (z : p.state.goal ≡ 0 → ⊥)
    (o : p.condition.at ≡ 0) (q : p.done < l) (t : IsTry f p.state.goal) where
  abbrev i : ℕ
  i = p.state.goal

  abbrev W : MachineWords
  W = words_at p m rs fw ps

  abbrev K : Room
  K = room_in (lent_words m rs fw ps l)

  abbrev first : ℕ
  first = word f i try_condition

  abbrev yes_part : ℕ
  yes_part = onto (word f i try_then) (T.successor i)

  abbrev no_part : ℕ
  no_part = onto (word f i try_else) (T.successor i)

  try_steps : steps f T K i (record_at f i) W ≡ enters (tries W first yes_part no_part)
  unfolding steps
  try_steps = rw (try_record f i t)

  some : W.goal ≡ suc (some_goal i z).0
  unfolding words_of
  some = (some_goal i z).1

  steps_low : p.done < (lent_words m rs fw ps l).steps
  unfolding lent_words
  steps_low = q

  same_record : steps f T K (suc (some_goal i z).0) (record_at f (suc (some_goal i z).0)) W ≡ enters (tries W first yes_part no_part)
  same_record = rw (← (some_goal i z).1) try_steps

  counts_same : counted W (record_at f (suc (some_goal i z).0)) p.counts ≡ p.counts
  unfolding counted made_counted
  counts_same = rw (← (some_goal i z).1) (rw (try_record f i t))

  -- it opens
  abbrev opened_words : ConditionWords
  opened_words = tries W first yes_part no_part

  opens_here : (first ≡ 0 → ⊥) → enters opened_words ≡ opens opened_words
  unfolding enters tries with_frames enters_at
  opens_here n = go first n
    where
      go : (j : ℕ) → (j ≡ 0 → ⊥) → enters_at j opened_words ≡ opens opened_words
      go zero n = absurd (n refl)
      go (suc j) n = refl

  own_saved : (own₁ : List ℕ) → own₁ ≡ moved (p.state.at + 1) 1 regions_end fw own → regions_end < length own → (j : ℕ) → j < regions_end
      → get_or own₁ (1 + j) 0 ≡ get_or opened_words.own (1 + j) 0
  unfolding tries saved_frame words_of
  own_saved own₁ e h j b =
      rw (e, H.placed.place)
      (moved_here (frame_words * p.state.top + 1) 1 regions_end fw own j b (omega arith)
      ∙ sym (moved_here (frame_words * p.state.top + 1) 1 regions_end fw (replicate (suc regions_end) 0) j b (omega (arith, length-replicate {A = ℕ} (suc regions_end) 0))))

  pub enter_opens : (first ≡ 0 → ⊥) → (own₁ : List ℕ) → own₁ ≡ moved (p.state.at + 1) 1 regions_end fw own → regions_end < length own
      → (s : State) → s ≡ onward_to p.state first → i < record_count f
      → Moves f T l m rs fw ps p m rs fw ps log own₁ (Continue (record {
        state = s;
        heap = p.heap;
        counts = p.counts;
        done = p.done + 1;
        condition = record { at = i; logged = 0; left = p.counts; before = p.counts };
      }))
  unfolding words_in tries with_frames words_of
  enter_opens nf own₁ eo ho s es b =
      let y : p.done + 1 ≡ suc p.done = add-one p.done in
      let ew = ap (λ (x : State). words_of p.heap m rs fw ps x) (sym es) in
      moves_to (record {
        next = y;
        low = q;
        busy = z;
        stands = record {
          stand = inside opened_words;
          tally = alike p.counts;
          here = at_as refl (sym y) refl (ap (λ k. alike k) counts_same) (steps_into (stands_outside H o) (some_goal i z).0 some opened_words steps_low (same_record ∙ opens_here nf));
          words = ew;
          held = refl;
          condition = one_open (record {
            some = z;
            low = b;
            kept = record { words = ew; count = refl; logs = logs_none log H.long };
            fewer = omega arith;
            then_part = refl;
            else_part = refl;
            saved = own_saved own₁ eo ho;
          });
          placed = placed_onward first es refl H.placed;
          long = H.long;
        };
      })

  -- it has no goal, and ends at once
  shuts_here : first ≡ 0 → enters opened_words ≡ went (words_of p.heap m rs fw ps (onward_to p.state yes_part))
  unfolding enters tries with_frames enters_at leaves with_stored stored_in freed words_of
  shuts_here n = rw n refl

  pub enter_ends : first ≡ 0 → (r : Point) (fy : List ℕ) → r.heap ≡ p.heap → Behind f T p yes_part p.counts fw fy r → length fy ≡ length fw
      → Moves f T l m rs fw ps p m rs fy ps log own (Continue r)
  unfolding words_in
  enter_ends nf r fy eh D lf =
      let y : r.done ≡ suc p.done = D.done ∙ add-one p.done in
      let a = steps_on (stands_outside H o) (some_goal i z).0 some _ steps_low (same_record ∙ shuts_here nf) in
      moves_to (record {
        next = y;
        low = q;
        busy = z;
        stands = record {
          stand = _;
          tally = _;
          here = at_as (lent_same m m rs rs fw fy ps ps l refl refl lf refl) (sym y) (ap (λ w. outside w) (sym (D.settles p.heap m rs ps))) (ap (λ k. alike k) counts_same) a;
          words = ap (λ (x : Heap). words_of x m rs fy ps r.state) (sym eh);
          held = sym D.counts;
          condition = none_open D.shut;
          placed = D.placed;
          long = H.long;
        };
      })

-- ---- a step in an open condition
module _ {f : List ℕ} {T : Tables} {l : ℕ} {m rs fw ps log own : List ℕ} {p : Point} (H : RunStands f T l m rs fw ps log own p) (y : p.condition.at ≡ 0 → ⊥)
    (q : p.done < l) where
  abbrev pub open_words : ConditionWords
  open_words = (stands_inside H y).0

  pub at_open : OpenAt f T m rs fw ps log own p open_words
  at_open = (stands_inside H y).1

  S : StandsAfter f T (lent_words m rs fw ps l) p.done (inside open_words) (record { held = p.counts; left = p.condition.left; before = p.condition.before })
  S = (stands_inside H y).2

  abbrev j : ℕ
  j = p.state.goal

  goal_same : open_words.words.goal ≡ j
  unfolding words_of
  goal_same = ap (λ w. w.goal) at_open.kept.words

  low_in : p.done < (lent_words m rs fw ps l).steps
  unfolding lent_words
  low_in = q

  busy_in : j ≡ 0 → ⊥
  busy_in e = inside_busy S (goal_same ∙ e)

  as_words : (x : Went) → steps_in f T j (record_at f j) open_words ≡ x → steps_in f T open_words.words.goal (record_at f open_words.words.goal) open_words ≡ x
  as_words x e = rw goal_same e

  pub stops_inside : (c : Stop) → steps_in f T j (record_at f j) open_words ≡ stops c → EndsAfter f (lent_words m rs fw ps l) (Stopped c) p.done
  stops_inside c e = record { is = inside_stops S c low_in (as_words (stops c) e) }

  -- the words of p, in counts
  left_as : counted open_words.words (record_at f open_words.words.goal) p.condition.left ≡ counted (words_at p m rs fw ps) (record_at f j) p.condition.left
  left_as = rw goal_same (rw at_open.kept.words)

  fails_as : fails_in (record_at f j) (words_at p m rs fw ps) ≡ fails_in (record_at f open_words.words.goal) open_words.words
  fails_as = rw (goal_same, at_open.kept.words) refl

  module _ {m₁ rs₁ fw₁ log₁ : List ℕ} {g : Heap} {a k : ℕ} (w : Onward f T p.state open_words log₁ g m₁ rs₁ fw₁ ps a k)
      (lm : length m₁ ≡ length m) (lr : length rs₁ ≡ length rs) (lf : length fw₁ ≡ length fw) where
    next_goal_law : w.next.words.goal ≡ a
    unfolding words_of
    next_goal_law = ap (λ x. x.goal) w.inside.words

    still_open : (a ≡ 0 → ⊥) → enters w.next ≡ opens w.next
    unfolding enters enters_at
    still_open n = ap (λ b. enters_at b w.next) next_goal_law ∙ go a n
      where
        go : (b : ℕ) → (b ≡ 0 → ⊥) → enters_at b w.next ≡ opens w.next
        go zero n = absurd (n refl)
        go (suc b) n = refl

    -- the condition goes on
    pub goes_inside : (a ≡ 0 → ⊥) → k ≤ suc p.condition.logged → (d : Counts) → d ≡ counted (words_at p m rs fw ps) (record_at f j) p.condition.left
        → Moves f T l m rs fw ps p m₁ rs₁ fw₁ ps log₁ own (Continue (opened_to f p g a k d))
    unfolding words_in opened_to
    goes_inside na few d ed =
        let x : p.done + 1 ≡ suc p.done = add-one p.done in
        let r = inside_on S w.next low_in (as_words _ (w.is ∙ still_open na)) in
        let t = same_tally p.condition.before (ap (λ (b : ℕ). made_counted (record_at f b) p.counts) goal_same) (left_as ∙ sym ed) in
        moves_to (record {
          next = x;
          low = q;
          busy = busy_in;
          stands = record {
            stand = inside w.next;
            tally = record { held = made_counted (record_at f j) p.counts; left = d; before = p.condition.before };
            here = at_as (lent_same m m₁ rs rs₁ fw fw₁ ps ps l lm lr lf refl) (sym x) refl t r;
            words = w.inside.words;
            held = refl;
            condition = one_open (record {
              some = at_open.some;
              low = at_open.low;
              kept = w.inside;
              fewer = omega (arith, few, at_open.fewer);
              then_part = w.then_part ∙ at_open.then_part;
              else_part = w.else_part ∙ at_open.else_part;
              saved = λ b h. at_open.saved b h ∙ ap (λ xs. get_or xs (1 + b) 0) (sym w.own);
            });
            placed = rw lf (onward_placed a H.placed);
            long = w.inside.logs.long;
          };
        })

    abbrev yes_at : ℕ
    yes_at = then_goal f T p.condition.at

    -- it ends: what it removed goes
    module _ (e : a ≡ 0) {h : Heap} {m₂ rs₂ : List ℕ} (freeing : (told : List ℕ) → Logs log₁ told k → Is h m₂ rs₂ (freed told k (stored g m₁ rs₁))) where
      left_words : leaves w.next ≡ words_of h m₂ rs₂ fw₁ ps (onward_to p.state yes_at)
      unfolding leaves with_stored stored_in words_of
      left_words =
          let i = freeing w.next.log w.inside.logs in
          rw (w.inside.words, w.inside.count, w.then_part ∙ at_open.then_part, i.0, i.1, i.2) refl

      shut : enters w.next ≡ went (words_of h m₂ rs₂ fw₁ ps (onward_to p.state yes_at))
      unfolding enters enters_at
      shut = ap (λ b. enters_at b w.next) (next_goal_law ∙ e) ∙ ap went left_words

      pub ends_inside : fails_in (record_at f j) (words_at p m rs fw ps) ≡ false → (c : Counts) (t : Point) (fy : List ℕ)
          → c ≡ counted (words_at p m rs fw ps) (record_at f j) p.condition.left → t.heap ≡ h → Behind f T p yes_at c fw₁ fy t
          → length m₂ ≡ length m → length rs₂ ≡ length rs → length fy ≡ length fw
          → Moves f T l m rs fw ps p m₂ rs₂ fy ps log₁ own (Continue t)
      unfolding words_in
      ends_inside nf c t fy ec eh D l₂ r₂ f₂ =
          let x : t.done ≡ suc p.done = D.done ∙ add-one p.done in
          let r = inside_ends S _ low_in (as_words _ (w.is ∙ shut)) (sym fails_as ∙ nf) in
          moves_to (record {
            next = x;
            low = q;
            busy = busy_in;
            stands = record {
              stand = _;
              tally = _;
              here =
                  at_as (lent_same m m₂ rs rs₂ fw fy ps ps l l₂ r₂ f₂ refl) (sym x) (ap (λ v. outside v) (sym (D.settles h m₂ rs₂ ps)))
                  (ap (λ v. alike v) (left_as ∙ sym ec)) r;
              words = ap (λ (x : Heap). words_of x m₂ rs₂ fy ps t.state) (sym eh);
              held = sym D.counts;
              condition = none_open D.shut;
              placed = D.placed;
              long = w.inside.logs.long;
            };
          })

  -- ---- a test fails
  abbrev no_at : ℕ
  no_at = else_goal f T p.condition.at

  module _ (e : steps_in f T j (record_at f j) open_words ≡ went (fails open_words)) {h : Heap} {m₁ rs₁ fw₁ : List ℕ}
      (undoing : (told : List ℕ) → Logs log told p.condition.logged → Is h m₁ rs₁ (undone told p.condition.logged (stored p.heap m rs)))
      (back : fw₁ ≡ moved 1 (p.state.at + 1) regions_end own fw) where
    frames_back : fw₁ ≡ put_back p.state.top open_words.own fw
    unfolding put_back
    frames_back = back ∙ ap (λ x. moved 1 (x + 1) regions_end own fw) H.placed.place ∙ (moved_like 1 (frame_words * p.state.top + 1) regions_end own open_words.own fw at_open.saved)

    back_words : fails open_words ≡ words_of h m₁ rs₁ fw₁ ps (onward_to p.state no_at)
    unfolding fails with_stored stored_in words_of
    back_words =
        let i = undoing open_words.log at_open.kept.logs in
        rw (at_open.kept.words, at_open.kept.count, at_open.else_part, i.0, i.1, i.2, frames_back) refl

    pub fails_inside : fails_in (record_at f j) (words_at p m rs fw ps) ≡ true → (t : Point) (fy : List ℕ) → t.heap ≡ h → Behind f T p no_at p.condition.before fw₁ fy t
        → length m₁ ≡ length m → length rs₁ ≡ length rs → length fy ≡ length fw
        → Moves f T l m rs fw ps p m₁ rs₁ fy ps log own (Continue t)
    unfolding words_in
    fails_inside nf t fy eh D l₁ r₁ f₁ =
        let x : t.done ≡ suc p.done = D.done ∙ add-one p.done in
        let r = inside_fails S _ low_in (as_words _ (e ∙ ap went back_words)) (sym fails_as ∙ nf) in
        moves_to (record {
          next = x;
          low = q;
          busy = busy_in;
          stands = record {
            stand = _;
            tally = _;
            here = at_as (lent_same m m₁ rs rs₁ fw fy ps ps l l₁ r₁ f₁ refl) (sym x) (ap (λ v. outside v) (sym (D.settles h m₁ rs₁ ps))) refl r;
            words = ap (λ (y : Heap). words_of y m₁ rs₁ fy ps t.state) (sym eh);
            held = sym D.counts;
            condition = none_open D.shut;
            placed = D.placed;
            long = H.long;
          };
        })

-- ---- the answer of the step in a condition
module _ {f : List ℕ} {T : Tables} {l : ℕ} {m rs fw ps log own : List ℕ} {p : Point} {r : Result ConditionStep Stop} {c : Counts} {m₁ rs₁ fw₁ log₁ : List ℕ}
    (K : Took f T l m rs fw ps log own p r c m₁ rs₁ fw₁ log₁) (y : p.condition.at ≡ 0 → ⊥) where
  kept_here : Inside log p.heap m rs fw ps p.state p.condition.logged (open_words K.stands y K.low)
  kept_here = (at_open K.stands y K.low).kept

  pub took_on : (g : Heap) (a k : ℕ) → r ≡ Ok (StepOn g a k) → (a ≡ 0 → ⊥) → (t : Point) → t ≡ opened_to f p g a k c → Moves f T l m rs fw ps p m₁ rs₁ fw₁ ps log₁ own (Continue t)
  took_on g a k e na t et =
      rw et
      (goes_inside K.stands y K.low (K.goes.on g a k e ps _ kept_here) K.cells K.regions K.frames na (K.goes.limits g a k e).1 c K.counts)

  pub took_last : (g : Heap) (a k : ℕ) → r ≡ Ok (StepOn g a k) → a ≡ 0 → (m₂ rs₂ fy : List ℕ) (t : Point) → Leaves f T p g k c log₁ m₁ rs₁ fw₁ m₂ rs₂ fy t
      → length m₂ ≡ length m₁ → length rs₂ ≡ length rs₁ → length fy ≡ length fw₁ → Moves f T l m rs fw ps p m₂ rs₂ fy ps log₁ own (Continue t)
  took_last g a k e ea m₂ rs₂ fy t L lm lr lf =
      ends_inside K.stands y K.low (K.goes.on g a k e ps _ kept_here) K.cells K.regions K.frames ea L.frees (K.goes.passes g a k e ps) c t fy K.counts
      refl L.behind (lm ∙ K.cells) (lr ∙ K.regions) (lf ∙ K.frames)

  pub took_lacks : (q : Stop) → r ≡ Err q → (m₂ rs₂ fy log₂ own₂ : List ℕ) → Moves f T l m rs fw ps p m₂ rs₂ fy ps log₂ own₂ (Break (Stopped q))
  took_lacks q e m₂ rs₂ fy log₂ own₂ = ends (stops_inside K.stands y K.low q (K.goes.lacks q e ps _ kept_here))

  -- the words are as before the test
  back_as : r ≡ Ok Fails → {m₂ rs₂ fy : List ℕ} {t : Point} → GoesBack f T p log₁ own m₁ rs₁ fw₁ m₂ rs₂ fy t → GoesBack f T p log own m rs fw m₂ rs₂ fy t
  back_as e D = let u = K.goes.undoes e in rw (u.0, u.1, u.2, u.3) at D

  pub took_fails : r ≡ Ok Fails → (m₂ rs₂ fy : List ℕ) (t : Point) → GoesBack f T p log₁ own m₁ rs₁ fw₁ m₂ rs₂ fy t
      → length m₂ ≡ length m₁ → length rs₂ ≡ length rs₁ → length fy ≡ length fw₁ → Moves f T l m rs fw ps p m₂ rs₂ fy ps log₁ own (Continue t)
  took_fails e m₂ rs₂ fy t D lm lr lf =
      let u = K.goes.undoes e in
      let G = back_as e D in
      rw u.3
      (fails_inside K.stands y K.low (K.goes.fails e ps _ kept_here) G.undoes refl (K.goes.failing e ps) t fy refl G.behind (lm ∙ K.cells)
      (lr ∙ K.regions) (lf ∙ K.frames))
