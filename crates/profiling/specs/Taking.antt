-- What a goal does to the memory and to an open condition (C-20).
use Rattle.std.specs.Prelude.{◌≡◌, Bool, List, ◌⊎◌}
use Rattle.std.proofs.Math.Path.{refl}
use Rattle.std.proofs.Common.{sym}
use Rattle.std.proofs.Math.Bool.{true, false}
use Rattle.std.proofs.lemmas.Bool.{false≢true}
use Rattle.std.proofs.Math.Logic.{inl, inr}
use Rattle.sets.specs.Tests.{neg, ◌&◌}
use Rattle.language.specs.Lists.{choose}
use Rattle.language.specs.Program.{arguments_of, literal, sum, assign, construct, call, print, create, remove, test, Goals, done, ◌then◌, Goal, step, switch, if_less, try, Program}
use Rattle.language.specs.Conditions.{step_stands, goal_stands}
use Rattle.language.specs.Frames.{Condition, closed, opened, less_in, number_in}
use Rattle.language.specs.AcceptedRun.{RegionFrame, Memory, State, with_built, with_printed, with_region, without_region, restored, state, within, state_in, failed, region_for, take}

-- what a failing test in a condition goes back to
unfoldable pub saved_in : Condition RegionFrame Memory → Memory → Memory
saved_in closed m = m
saved_in (opened a e n) m = n

-- a goal is a test that fails
unfoldable pub fails_at : Goal → RegionFrame → Bool
fails_at (step (literal x v)) u = false
fails_at (step (sum x o y z)) u = false
fails_at (step (assign x y)) u = false
fails_at (step (construct x k ys)) u = false
fails_at (step (call q ys)) u = false
fails_at (step (print y)) u = false
fails_at (step (create r)) u = false
fails_at (step (remove r)) u = false
fails_at (step (test y z)) u = neg (less_in u.frame y z)
fails_at (switch x cs) u = false
fails_at (if_less y z a b) u = false
fails_at (try c a b) u = false

-- ---- the memory after a goal, if no test fails in it
module _ (P : Program) where
  unfoldable pub memory_after : Goal → RegionFrame → Memory → Memory
  memory_after (step (literal x v)) u m = m
  memory_after (step (sum x o y z)) u m = m
  memory_after (step (assign x y)) u m = m
  memory_after (step (construct x k ys)) u m = with_built m (region_for P u x) u.frame k (arguments_of ys)
  memory_after (step (call q ys)) u m = m
  memory_after (step (print y)) u m = with_printed m (number_in (u.frame.values y))
  memory_after (step (create r)) u m = with_region m
  memory_after (step (remove r)) u m = without_region m (u.stands r)
  memory_after (step (test y z)) u m = m
  memory_after (switch x cs) u m = m
  memory_after (if_less y z a b) u m = m
  memory_after (try c a b) u m = m

  -- ---- the memory
  within_memory : (c : Condition RegionFrame Memory) (gs : Goals) (u : RegionFrame) (fs : List RegionFrame) (m : Memory) → (within P c gs u fs m).memory ≡ m
  unfolding within state
  within_memory closed gs u fs m = refl
  within_memory (opened a e n) done u fs m = refl
  within_memory (opened a e n) (g then gs) u fs m = refl

  in_memory : (c : Condition RegionFrame Memory) (u : RegionFrame) (fs : List RegionFrame) (m : Memory) → (state_in P c u fs m).memory ≡ m
  unfolding state_in
  in_memory c u fs m = within_memory c u.frame.goals u fs m

  passed : (b : Bool) (s t : State) (m : Memory) → neg b ≡ false → s.memory ≡ m → (choose b s t).memory ≡ m
  unfolding neg choose
  passed true s t m h e = e
  passed false s t m h e = absurd (false≢true (sym h))

  pub take_memory : (c : Condition RegionFrame Memory) (g : Goal) (u : RegionFrame) (fs : List RegionFrame) (m : Memory) → fails_at g u ≡ false
      → (take P c g u fs m).memory ≡ memory_after g u m
  unfolding take memory_after fails_at state
  take_memory c (step (literal x v)) u fs m h = in_memory c _ fs m
  take_memory c (step (sum x o y z)) u fs m h = in_memory c _ fs m
  take_memory c (step (assign x y)) u fs m h = in_memory c _ fs m
  take_memory c (step (construct x k ys)) u fs m h = in_memory c _ fs _
  take_memory c (step (call q ys)) u fs m h = refl
  take_memory c (step (print y)) u fs m h = in_memory c _ fs _
  take_memory c (step (create r)) u fs m h = in_memory c _ fs _
  take_memory c (step (remove r)) u fs m h = in_memory c _ fs _
  take_memory c (step (test y z)) u fs m h = passed (less_in u.frame y z) _ _ m h (in_memory c _ fs m)
  take_memory c (switch x cs) u fs m h = in_memory c _ fs m
  take_memory c (if_less y z a b) u fs m h = in_memory c _ fs m
  take_memory c (try t a b) u fs m h = in_memory _ _ fs m

  -- .. outside conditions, where no test makes a difference
  either : (b : Bool) (s t : State) (m : Memory) → s.memory ≡ m → t.memory ≡ m → (choose b s t).memory ≡ m
  unfolding choose
  either true s t m p q = p
  either false s t m p q = q

  pub outside_memory : (g : Goal) (u : RegionFrame) (fs : List RegionFrame) (m : Memory) → (take P closed g u fs m).memory ≡ memory_after g u m
  unfolding take memory_after fails_at failed state
  outside_memory (step (literal x v)) u fs m = take_memory closed (step (literal x v)) u fs m refl
  outside_memory (step (sum x o y z)) u fs m = take_memory closed (step (sum x o y z)) u fs m refl
  outside_memory (step (assign x y)) u fs m = take_memory closed (step (assign x y)) u fs m refl
  outside_memory (step (construct x k ys)) u fs m = take_memory closed (step (construct x k ys)) u fs m refl
  outside_memory (step (call q ys)) u fs m = refl
  outside_memory (step (print y)) u fs m = take_memory closed (step (print y)) u fs m refl
  outside_memory (step (create r)) u fs m = take_memory closed (step (create r)) u fs m refl
  outside_memory (step (remove r)) u fs m = take_memory closed (step (remove r)) u fs m refl
  outside_memory (step (test y z)) u fs m = either (less_in u.frame y z) _ _ m (in_memory closed u fs m) refl
  outside_memory (switch x cs) u fs m = take_memory closed (switch x cs) u fs m refl
  outside_memory (if_less y z a b) u fs m = take_memory closed (if_less y z a b) u fs m refl
  outside_memory (try t a b) u fs m = take_memory closed (try t a b) u fs m refl

  -- a failing test
  goes_back : (b : Bool) (s t : State) → neg b ≡ true → choose b s t ≡ t
  unfolding neg choose
  goes_back true s t h = absurd (false≢true h)
  goes_back false s t h = refl

  pub take_fails : (a : Goals) (e : RegionFrame) (n : Memory) (g : Goal) (u : RegionFrame) (fs : List RegionFrame) (m : Memory) → fails_at g u ≡ true
      → take P (opened a e n) g u fs m ≡ state P e fs (restored n m)
  unfolding take fails_at failed
  take_fails a e n (step (literal x v)) u fs m h = absurd (false≢true h)
  take_fails a e n (step (sum x o y z)) u fs m h = absurd (false≢true h)
  take_fails a e n (step (assign x y)) u fs m h = absurd (false≢true h)
  take_fails a e n (step (construct x k ys)) u fs m h = absurd (false≢true h)
  take_fails a e n (step (call q ys)) u fs m h = absurd (false≢true h)
  take_fails a e n (step (print y)) u fs m h = absurd (false≢true h)
  take_fails a e n (step (create r)) u fs m h = absurd (false≢true h)
  take_fails a e n (step (remove r)) u fs m h = absurd (false≢true h)
  take_fails a e n (step (test y z)) u fs m h = goes_back (less_in u.frame y z) _ _ h
  take_fails a e n (switch x cs) u fs m h = absurd (false≢true h)
  take_fails a e n (if_less y z b d) u fs m h = absurd (false≢true h)
  take_fails a e n (try t b d) u fs m h = absurd (false≢true h)

  -- ---- the condition: closed, or as it was
  abbrev Stays : Condition RegionFrame Memory → State → Type 0
  Stays c s = (s.condition ≡ closed) ⊎ (s.condition ≡ c)

  within_stays : (c : Condition RegionFrame Memory) (gs : Goals) (u : RegionFrame) (fs : List RegionFrame) (m : Memory) → Stays c (within P c gs u fs m)
  unfolding within state
  within_stays closed gs u fs m = inl refl
  within_stays (opened a e n) done u fs m = inl refl
  within_stays (opened a e n) (g then gs) u fs m = inr refl

  in_stays : (c : Condition RegionFrame Memory) (u : RegionFrame) (fs : List RegionFrame) (m : Memory) → Stays c (state_in P c u fs m)
  unfolding state_in
  in_stays c u fs m = within_stays c u.frame.goals u fs m

  failed_stays : (c : Condition RegionFrame Memory) (u : RegionFrame) (fs : List RegionFrame) (m : Memory) → Stays c (failed P c u fs m)
  unfolding failed state
  failed_stays closed u fs m = inl refl
  failed_stays (opened a e n) u fs m = inl refl

  chosen_stays : (c : Condition RegionFrame Memory) (b : Bool) (s t : State) → Stays c s → Stays c t → Stays c (choose b s t)
  unfolding choose
  chosen_stays c true s t p q = p
  chosen_stays c false s t p q = q

  -- no goal opens one but a try, which stands outside conditions
  pub take_stays : (a : Goals) (e : RegionFrame) (n : Memory) (g : Goal) (u : RegionFrame) (fs : List RegionFrame) (m : Memory) → goal_stands true g ≡ true
      → Stays (opened a e n) (take P (opened a e n) g u fs m)
  unfolding take goal_stands step_stands neg ◌&◌
  take_stays a e n (step (literal x v)) u fs m h = in_stays _ _ fs m
  take_stays a e n (step (sum x o y z)) u fs m h = in_stays _ _ fs m
  take_stays a e n (step (assign x y)) u fs m h = in_stays _ _ fs m
  take_stays a e n (step (construct x k ys)) u fs m h = in_stays _ _ fs _
  take_stays a e n (step (call q ys)) u fs m h = absurd (false≢true h)
  take_stays a e n (step (print y)) u fs m h = in_stays _ _ fs _
  take_stays a e n (step (create r)) u fs m h = in_stays _ _ fs _
  take_stays a e n (step (remove r)) u fs m h = in_stays _ _ fs _
  take_stays a e n (step (test y z)) u fs m h = chosen_stays _ (less_in u.frame y z) _ _ (in_stays _ _ fs m) (failed_stays _ _ fs m)
  take_stays a e n (switch x cs) u fs m h = in_stays _ _ fs m
  take_stays a e n (if_less y z b d) u fs m h = in_stays _ _ fs m
  take_stays a e n (try t b d) u fs m h = absurd (false≢true h)

  -- ---- outside conditions: closed, or opened with the memory as it is
  pub data Outside (m : Memory) (s : State) : Type 0 where
    stays_out : s.condition ≡ closed → Outside m s
    opens_here : (a : Goals) (e : RegionFrame) → s.condition ≡ opened a e m → s.memory ≡ m → Outside m s

  shut : (u : RegionFrame) (fs : List RegionFrame) (k m : Memory) → Outside m (state_in P closed u fs k)
  unfolding state_in within state
  shut u fs k m = stays_out refl

  chosen_shut : (b : Bool) (s t : State) (m : Memory) → Outside m s → Outside m t → Outside m (choose b s t)
  unfolding choose
  chosen_shut true s t m p q = p
  chosen_shut false s t m p q = q

  opens : (a : Goals) (e : RegionFrame) (gs : Goals) (u : RegionFrame) (fs : List RegionFrame) (m : Memory) → Outside m (within P (opened a e m) gs u fs m)
  unfolding within state
  opens a e done u fs m = stays_out refl
  opens a e (g then gs) u fs m = opens_here a e refl refl

  pub take_outside : (g : Goal) (u : RegionFrame) (fs : List RegionFrame) (m : Memory) → Outside m (take P closed g u fs m)
  unfolding take state state_in failed
  take_outside (step (literal x v)) u fs m = shut _ fs m m
  take_outside (step (sum x o y z)) u fs m = shut _ fs m m
  take_outside (step (assign x y)) u fs m = shut _ fs m m
  take_outside (step (construct x k ys)) u fs m = shut _ fs _ m
  take_outside (step (call q ys)) u fs m = stays_out refl
  take_outside (step (print y)) u fs m = shut _ fs _ m
  take_outside (step (create r)) u fs m = shut _ fs _ m
  take_outside (step (remove r)) u fs m = shut _ fs _ m
  take_outside (step (test y z)) u fs m = chosen_shut (less_in u.frame y z) _ _ m (shut u fs m m) (stays_out refl)
  take_outside (switch x cs) u fs m = shut _ fs m m
  take_outside (if_less y z a b) u fs m = shut _ fs m m
  take_outside (try t a b) u fs m = opens _ _ _ _ fs m
