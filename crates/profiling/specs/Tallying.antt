-- What a step does to the counts: of what is held, of what a condition has left, and of what a failing test goes back to (C-20).
use Prim.Native.Nat.{ℕ, zero, suc, ◌≤◌}
use Rattle.std.proofs.Common.{arith, ◌∙◌, lt-ltb, to_z}
use Rattle.std.specs.Prelude.{◌≡◌, Bool, true, false, List, [], ◌∷◌}
use Rattle.std.proofs.Math.Path.{refl, ap}
use Rattle.std.specs.Int.{w32}
use Rattle.sets.specs.Tests.{◌or◌, and_true, true_or_right}
use Rattle.language.specs.Lists.{one, all, is_none, up_from}
use Rattle.language.specs.File.{GoalKind, k_literal, k_sum, k_assign, k_construct, k_switch, k_if, k_call, k_print, k_create, k_remove, k_try, k_test, k_goal, word}
use Rattle.language.specs.Program.{four, four_words, trim_onto, trimmed, arguments_of, Goals, ◌then◌, Goal, Program}
use Rattle.language.specs.Typing.{is_variable, functors_for, arguments_ok, goal_ok, step_ok}
use Rattle.language.specs.Frames.{Condition, closed, opened, ahead, number_in, less_in, with_goals}
use Rattle.language.specs.AcceptedRun.{RegionFrame, RegionCell, Memory, State, with_cell, with_built, with_printed, with_region, without_region, with_frame, whole, region_for, allowed}
use Rattle.language.specs.Machine.{Room, cells_held, count_alive, regions_held, counted_in}
use Rattle.language.specs.Machine as D
use Rattle.language.specs.Answers.{program}
use Rattle.laws.specs.Goals.{ahead_then}
use Rattle.records.specs.Records.{record_at, record_as}
use Rattle.records.specs.declared.Record.TheVariants.{Construct, Create, Remove, Test}
use Rattle.chains.specs.Formed.{Formed}
use Rattle.chains.specs.Goals.{literal_at, sum_at_law, assign_at, construct_at, print_at, create_at, remove_at, test_at}
use Rattle.chains.specs.Parts.{switch_at, if_at, try_at, call_at}
use Rattle.region_graph.specs.Shared.{variable_top, region_top}
use Rattle.safety.specs.Premises.{Accepted, laws}
use Rattle.safety.specs.Variables.{type_in, types_variables}
use Rattle.safety.specs.Invariant.{Inv}
use Rattle.heap.specs.Counts.{cells_in, within, alive_more}
use Rattle.heap.specs.Represents.{Represents}
use Rattle.heap.specs.Undoing.{Closed}
use Rattle.heap.specs.Logged.{none}
use Rattle.heap.proofs.LoggedLaws.{cells_counted, regions_counted}
use Rattle.word_machine.specs.Tables.{Tables, Tabled}
use Rattle.word_machine.specs.Machine.{MachineWords}
use Rattle.word_machine.specs.Machine as M
use Rattle.word_machine.specs.Trimmed.{no_arguments}
use Rattle.word_machine.specs.GoalKinds.{goal_is}
use Rattle.word_machine.specs.Premises.{Number, next_typed, next_allowed, test_numbers}
use Rattle.word_machine.specs.Numbers.{number_word}
use Rattle.word_machine.specs.Successors.{GoalOnward, todo_next}
use Rattle.word_machine.specs.Relation.{where_in, sig, FrameOk}
use Rattle.machine.specs.Trying.{fails_in}
use Rattle.profiling.specs.declared.Counts.{Counts}
use Rattle.profiling.specs.Walking.{size_at, size_is}
use Rattle.profiling.specs.Counting.{counts_in, term_counted, made_counted, counted, same_counts, built_counts, created_counts, removed_counts}
use Rattle.profiling.specs.Taking.{memory_after, saved_in, fails_at, Outside, stays_out, opens_here}

-- ---- the counts of a state: as it counts, of its memory, and of what a failing test goes back to; outside conditions these are the same
pub record Tally : Type 0 where
  pub held : Counts
  pub left : Counts
  pub before : Counts

unfoldable pub tally_in : State → Tally
tally_in s = record { held = counts_in (D.counted s); left = counts_in s.memory; before = counts_in (saved_in s.condition s.memory) }

abbrev pub alike : Counts → Tally
alike c = record { held = c; left = c; before = c }

-- ---- M has what m has, and what a condition removed from it
pub record Covers (M m : Memory) : Type 0 where
  pub made : m.made ≡ M.made
  pub cells : m.cells ≡ M.cells
  pub alive : (r : ℕ) → m.alive r ≡ true → M.alive r ≡ true

pub covers_same : (m : Memory) → Covers m m
covers_same m = record { made = refl; cells = refl; alive = λ r e. e }

-- ---- whichever goal is next: e is the newest frame, in condition c; the words stand for Q
module _ {f : List ℕ} {T : Tables} (B : Tabled f T) (A : Accepted (program f)) (F : Formed f) (K : Room) (w : MachineWords) (c : Condition RegionFrame Memory) (e : RegionFrame)
    (fs : List RegionFrame) (m Q : Memory) (ρ χ : ℕ → ℕ) (i : ℕ) (G : FrameOk B w.frames w.top (where_in m ρ χ) i e)
    (R : Represents K w.heap w.cells w.regions Q ρ χ) (S : Covers Q m) (I : Inv (program f) (whole c e) fs m)
    (g : Goal) (rest : Goals) (q : e.frame.goals ≡ g then rest) where
  O : GoalOnward B e.frame.procedure i g rest
  O = todo_next B G.todo g rest q

  abbrev u : RegionFrame
  u = with_frame e (with_goals e.frame rest)

  -- the goal is b, in front of all that is still to do
  ahead_goals : (b : Goal) → g ≡ b → (whole c e).frame.goals ≡ b then ahead c rest
  unfolding whole with_frame with_goals
  ahead_goals b z = ap (ahead c) (q ∙ ap (λ d. d then rest) z) ∙ ahead_then c b rest

  typed : (b : Goal) → g ≡ b → goal_ok (program f) (sig f e.frame.procedure) b ≡ true
  unfolding whole with_frame with_goals
  typed b z = next_typed A (whole c e) fs m I b (ahead c rest) (ahead_goals b z)

  may : (b : Goal) → g ≡ b → allowed (program f) b (whole c e) m ≡ true
  may b z = next_allowed A (whole c e) fs m I b (ahead c rest) (ahead_goals b z)

  made_low : all (within m.made) m.cells ≡ true
  made_low = rw (S.made, S.cells) R.made

  region_low : (r : ℕ) → m.alive r ≡ true → (1 ≤ r) × (r ≤ m.made)
  region_low r l = rw S.made (R.low r (S.alive r l))

  size_same : (r : ℕ) → m.alive r ≡ true → size_at w.heap.cells.limit w.cells w.regions (ρ r) ≡ cells_in r m.cells
  size_same r l = rw S.cells (size_is R r (S.alive r l))

  -- ---- a test fails in words as it does in the definition
  number_is : (y : ℕ) → is_variable (sig f e.frame.procedure) y ≡ true → Number (e.frame.values y) → to_z w32 (M.value_of w y) ≡ number_in (e.frame.values y)
  unfolding M.value_of
  number_is y o n =
      let r = variable_top _ _ (laws A e.frame.procedure) y o in
      (number_word (where_in m ρ χ) _ (e.frame.values y) (G.values y r.0 r.1 o) n.0 n.1).1

  abbrev Fails : Type 0
  Fails = fails_at g u ≡ fails_in (record_at f i) w

  fails_test : (j y k : ℕ) → record_at f i ≡ Test j y k → Fails
  unfolding fails_at fails_in goal_ok step_ok less_in whole with_frame with_goals
  fails_test j y k r =
      let z = O.is ∙ (test_at F refl r).goal in
      let d = and_true (typed _ z) in
      let n = test_numbers A (whole c e) fs m I y k (ahead c rest) (ahead_goals _ z) in
      rw (z, r, number_is y (type_in _ 0 y d.0).0 n.0, number_is k (type_in _ 0 k d.1).0 n.1)

  fails_by : (k : GoalKind) → record_at f i ≡ record_as (k_goal k) (word f i) → Fails
  unfolding fails_at fails_in
  fails_by k_literal r = rw (O.is ∙ (literal_at F refl r).goal, r)
  fails_by k_sum r = rw (O.is ∙ (sum_at_law F refl r).goal, r)
  fails_by k_assign r = rw (O.is ∙ (assign_at F refl r).goal, r)
  fails_by k_construct r = rw (O.is ∙ (construct_at F refl r).goal, r)
  fails_by k_switch r = rw (O.is ∙ (switch_at F refl r).goal, r)
  fails_by k_if r = rw (O.is ∙ (if_at F refl r).goal, r)
  fails_by k_call r = rw (O.is ∙ (call_at F refl r).goal, r)
  fails_by k_print r = rw (O.is ∙ (print_at F refl r).goal, r)
  fails_by k_create r = rw (O.is ∙ (create_at F refl r).goal, r)
  fails_by k_remove r = rw (O.is ∙ (remove_at F refl r).goal, r)
  fails_by k_try r = rw (O.is ∙ (try_at F refl r).goal, r)
  fails_by k_test r = fails_test _ _ _ r

  pub fails_is : fails_at g (with_frame e (with_goals e.frame rest)) ≡ fails_in (record_at f i) w
  fails_is = let k = goal_is O.stands O.some in fails_by k.0 k.1

  abbrev After : Memory
  After = memory_after (program f) g u m

  -- ---- of the memory
  abbrev Left : Type 0
  Left = counts_in After ≡ counted w (record_at f i) (counts_in m)

  left_construct : (n x k a b d h : ℕ) → record_at f i ≡ Construct n x k a b d h → Left
  unfolding memory_after counted made_counted term_counted with_built goal_ok step_ok functors_for arguments_ok arguments_of four_words trimmed trim_onto allowed is_none ◌or◌ whole with_frame with_goals region_for
  left_construct n x k zero b d h r =
      let z = O.is ∙ (construct_at F refl r).goal in
      let v = types_variables _ _ (arguments_of (four zero b d h)) (and_true (and_true (typed _ z)).1).1 in
      let o = no_arguments b d h (λ y p. variable_top _ _ (laws A e.frame.procedure) y (v y p)) in
      rw (z, r, o)
  left_construct n x k (suc a) b d h r =
      let z = O.is ∙ (construct_at F refl r).goal in
      rw (z, r) (built_counts m _ (may _ z))

  left_create : (n k : ℕ) → record_at f i ≡ Create n k → Left
  unfolding memory_after counted made_counted
  left_create n k r = rw (O.is ∙ (create_at F refl r).goal, r) (created_counts m made_low)

  left_remove : (n k : ℕ) → record_at f i ≡ Remove n k → Left
  unfolding memory_after counted made_counted goal_ok step_ok allowed whole with_frame with_goals M.region_for
  left_remove n k r =
      let z = O.is ∙ (remove_at F refl r).goal in
      let l = may _ z in
      let t = region_top _ _ (laws A e.frame.procedure) k (typed _ z) in
      let y = region_low (e.stands k) l in
      let p = (G.regions k t.0 t.1 (λ b. omega (arith, y.0))).1 in
      rw (z, r, p) (removed_counts m (e.stands k) _ l y (size_same (e.stands k) l))

  left_by : (k : GoalKind) → record_at f i ≡ record_as (k_goal k) (word f i) → Left
  unfolding memory_after counted made_counted counts_in with_printed regions_held
  left_by k_literal r = rw (O.is ∙ (literal_at F refl r).goal, r)
  left_by k_sum r = rw (O.is ∙ (sum_at_law F refl r).goal, r)
  left_by k_assign r = rw (O.is ∙ (assign_at F refl r).goal, r)
  left_by k_construct r = left_construct _ _ _ _ _ _ _ r
  left_by k_switch r = rw (O.is ∙ (switch_at F refl r).goal, r)
  left_by k_if r = rw (O.is ∙ (if_at F refl r).goal, r)
  left_by k_call r = rw (O.is ∙ (call_at F refl r).goal, r)
  left_by k_print r = rw (O.is ∙ (print_at F refl r).goal, r)
  left_by k_create r = left_create _ _ r
  left_by k_remove r = left_remove _ _ r
  left_by k_try r = rw (O.is ∙ (try_at F refl r).goal, r)
  left_by k_test r = rw (O.is ∙ (test_at F refl r).goal, r)

  pub left_counted : counts_in (memory_after (program f) g (with_frame e (with_goals e.frame rest)) m) ≡ counted w (record_at f i) (counts_in m)
  left_counted = let k = goal_is O.stands O.some in left_by k.0 k.1

  -- ---- as it counts in a condition that was opened with memory n: a removal changes nothing
  module _ (a : Goals) (b : RegionFrame) (n : Memory) (old : n.made ≤ m.made) (lives : (r : ℕ) → m.alive r ≡ true → (counted_in (opened a b n) m).alive r ≡ true) where
    abbrev held : Memory → Memory
    held k = counted_in (opened a b n) k

    abbrev Held : Type 0
    Held = counts_in (held After) ≡ made_counted (record_at f i) (counts_in (held m))

    held_region : counts_in (held (with_region m)) ≡ record { cells = (counts_in (held m)).cells; regions = suc (counts_in (held m)).regions }
    unfolding counts_in counted_in with_region regions_held
    held_region =
        same_counts refl (alive_more _ m.made 1 (suc m.made) (omega arith) (true_or_right _ (lt-ltb n.made (suc m.made) (omega (arith, old)))))

    held_built : (d : RegionCell) → m.alive d.region ≡ true → counts_in (held (with_cell m d)) ≡ record { cells = suc (counts_in (held m)).cells; regions = (counts_in (held m)).regions }
    unfolding counted_in with_cell
    held_built d l = built_counts (held m) d (lives d.region l)

    held_construct : (j x k y b d h : ℕ) → record_at f i ≡ Construct j x k y b d h → Held
    unfolding memory_after made_counted term_counted with_built goal_ok step_ok functors_for arguments_ok arguments_of four_words trimmed trim_onto allowed is_none ◌or◌ whole with_frame with_goals region_for
    held_construct j x k zero y d h r =
        let z = O.is ∙ (construct_at F refl r).goal in
        let v = types_variables _ _ (arguments_of (four zero y d h)) (and_true (and_true (typed _ z)).1).1 in
        let o = no_arguments y d h (λ s p. variable_top _ _ (laws A e.frame.procedure) s (v s p)) in
        rw (z, r, o)
    held_construct j x k (suc s) y d h r =
        let z = O.is ∙ (construct_at F refl r).goal in
        rw (z, r) (held_built _ (may _ z))

    held_by_law : (k : GoalKind) → record_at f i ≡ record_as (k_goal k) (word f i) → Held
    unfolding memory_after made_counted counts_in counted_in with_printed without_region regions_held
    held_by_law k_literal r = rw (O.is ∙ (literal_at F refl r).goal, r)
    held_by_law k_sum r = rw (O.is ∙ (sum_at_law F refl r).goal, r)
    held_by_law k_assign r = rw (O.is ∙ (assign_at F refl r).goal, r)
    held_by_law k_construct r = held_construct _ _ _ _ _ _ _ r
    held_by_law k_switch r = rw (O.is ∙ (switch_at F refl r).goal, r)
    held_by_law k_if r = rw (O.is ∙ (if_at F refl r).goal, r)
    held_by_law k_call r = rw (O.is ∙ (call_at F refl r).goal, r)
    held_by_law k_print r = rw (O.is ∙ (print_at F refl r).goal, r)
    held_by_law k_create r = rw (O.is ∙ (create_at F refl r).goal, r) held_region
    held_by_law k_remove r = rw (O.is ∙ (remove_at F refl r).goal, r)
    held_by_law k_try r = rw (O.is ∙ (try_at F refl r).goal, r)
    held_by_law k_test r = rw (O.is ∙ (test_at F refl r).goal, r)

    pub held_counted : counts_in (counted_in (opened a b n) (memory_after (program f) g (with_frame e (with_goals e.frame rest)) m))
        ≡ made_counted (record_at f i) (counts_in (counted_in (opened a b n) m))
    held_counted = let k = goal_is O.stands O.some in held_by_law k.0 k.1

-- ---- a condition that opens: all counts as before
pub opened_counts : (m : Memory) → Closed m → (a : Goals) (b : RegionFrame) → counts_in (counted_in (opened a b m) m) ≡ counts_in m
unfolding counts_in
opened_counts m C a b =
    same_counts (cells_counted {ρ = λ r. 0} {n = m} {log = []} none C a b) (regions_counted {ρ = λ r. 0} {n = m} {log = []} none C a b)

-- ---- the tally of a state: outside conditions, where a step outside leads, and in an open condition
pub shut_tally : (s : State) → s.condition ≡ closed → tally_in s ≡ alike (counts_in s.memory)
unfolding tally_in D.counted counted_in saved_in
shut_tally s e = rw e

pub open_tally : (s : State) (a : Goals) (b : RegionFrame) (n : Memory) → s.condition ≡ opened a b n
    → tally_in s ≡ record { held = counts_in (counted_in (opened a b n) s.memory); left = counts_in s.memory; before = counts_in n }
unfolding tally_in D.counted saved_in
open_tally s a b n e = rw e

pub out_tally : (P : Program) (s : State) (m : Memory) → Outside P m s → Closed m → tally_in s ≡ alike (counts_in s.memory)
out_tally P s m (stays_out e) C = shut_tally s e
out_tally P s m (opens_here a b e z) C = open_tally s a b m e ∙ rw z (rw (opened_counts m C a b) refl)

-- ---- fewer live, fewer count
one_fewer : (a b : Bool) → (a ≡ true → b ≡ true) → one a ≤ one b
unfolding one
one_fewer true b h = rw (h refl) (omega arith)
one_fewer false b h = omega arith

cells_fewer : (a b : ℕ → Bool) → ((r : ℕ) → a r ≡ true → b r ≡ true) → (cs : List RegionCell) → cells_held a cs ≤ cells_held b cs
unfolding cells_held
cells_fewer a b h [] = omega arith
cells_fewer a b h (c ∷ cs) = omega (arith, one_fewer (a c.region) (b c.region) (h c.region), cells_fewer a b h cs)

regions_fewer : (a b : ℕ → Bool) → ((r : ℕ) → a r ≡ true → b r ≡ true) → (rs : List ℕ) → count_alive a rs ≤ count_alive b rs
unfolding count_alive
regions_fewer a b h [] = omega arith
regions_fewer a b h (r ∷ rs) = omega (arith, one_fewer (a r) (b r) (h r), regions_fewer a b h rs)

pub fewer_left : (M m : Memory) → Covers M m → ((counts_in m).cells ≤ (counts_in M).cells) × ((counts_in m).regions ≤ (counts_in M).regions)
unfolding counts_in regions_held
fewer_left M m S = rw (S.cells, S.made) (cells_fewer m.alive M.alive S.alive M.cells, regions_fewer m.alive M.alive S.alive (up_from 1 M.made))
