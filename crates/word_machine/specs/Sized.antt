-- "Each of its goal records is done at most once": a log of as many entries as a file has records is long enough. The goals ahead of every frame take no
-- more records than the longest body, and in an open condition those already done and those left together.
use Prim.Native.Nat.{ℕ, zero, suc, ◌+◌, ◌≤◌, ◌<◌}
use native.Mathlib.Omega.{arith}
use Rattle.std.proofs.Math.Path.{◌≡◌, refl}
use Rattle.std.specs.Prelude.{Bool, eqb}
use Rattle.std.proofs.Math.Bool.{true, false}
use mathlib.Core.List.{List, [], ◌∷◌}
use Rattle.language.specs.Lists.{choose}
use Rattle.language.specs.Program.{arguments_of, literal, sum, assign, construct, call, print, create, remove, test, Goals, done, ◌then◌, Goal, Step, step, switch, if_less, try, Arms, no_arms, arm, ◌before◌, Program, procedure_at}
use Rattle.language.specs.Frames.{Value, Frame, Condition, closed, opened, ahead, with_goals, giving, literal_in, sum_in, assign_in, build_in, branch_in, Picked, picked, pick, enter_arm, open_cell, callee_frame, returning, entry_frame, settle}
use Rattle.language.specs.AcceptedRun.{RegionFrame, Memory, State, with_frame, going, whole, callee_regions, returning_regions, state, within, state_in, start, failed, take, next, step_from, step_of, steps}
use Rattle.layout.specs.Sizes.{step_size, goals_size, goal_size, arms_size, before_size}

-- ---- sizes of what is left
some_step : (s : Step) → 1 ≤ step_size s
unfolding step_size
some_step (literal x v) = omega arith
some_step (sum x o y z) = omega arith
some_step (assign x y) = omega arith
some_step (construct x f ys) = omega arith
some_step (call q ys) = omega arith
some_step (print y) = omega arith
some_step (create r) = omega arith
some_step (remove r) = omega arith
some_step (test y z) = omega arith

-- n entries are in the log: there is room for one more at every goal, and what is left then is not longer
pub log_room : (b n : ℕ) (s : Step) (gs : Goals) → n + goals_size (step s then gs) ≤ b → (n < b) × (suc n + goals_size gs ≤ b)
unfolding goals_size
log_room b n s gs l = (omega (arith, some_step s), omega (arith, some_step s))

chosen_size : (b : Bool) (gs hs rest : Goals) → goals_size (choose b gs hs before rest) ≤ goals_size gs + goals_size hs + goals_size rest
unfolding choose
chosen_size true gs hs rest = omega (arith, before_size gs rest)
chosen_size false gs hs rest = omega (arith, before_size hs rest)

picked_size : (b : Bool) (ys : List ℕ) (gs : Goals) (p : Picked) (vs : List Value) (f : Frame) (n : ℕ) → goals_size (enter_arm p vs f).goals ≤ n + goals_size f.goals
    → goals_size (enter_arm (choose b (picked ys gs) p) vs f).goals ≤ suc (goals_size gs + n) + goals_size f.goals
unfolding choose enter_arm
picked_size true ys gs p vs f n l = omega (arith, before_size gs f.goals)
picked_size false ys gs p vs f n l = omega arith

pub arm_size : (cs : Arms) (k : ℕ) (vs : List Value) (f : Frame) → goals_size (enter_arm (pick cs k) vs f).goals ≤ arms_size cs + goals_size f.goals
unfolding pick enter_arm goals_size
arm_size no_arms k vs f = omega arith
arm_size (arm g ys gs cs) k vs f = picked_size (eqb g k) (arguments_of ys) gs (pick cs k) vs f (arms_size cs) (arm_size cs k vs f)

-- ---- states
module _ (P : Program) (b : ℕ) (bodies : (q : ℕ) → goals_size (procedure_at P q).body ≤ b) where
  abbrev Waiting : List RegionFrame → Type 0
  Waiting [] = Unit {0}
  Waiting (f ∷ fs) = (goals_size f.frame.goals ≤ b) × Waiting fs

  abbrev Fits : Condition RegionFrame Memory → ℕ → Type 0
  Fits closed z = z ≤ b
  Fits (opened a e n) z = (z + goals_size a ≤ b) × (goals_size e.frame.goals ≤ b)

  pub data Sized (s : State) : Type 0 where
    ended : s.frames ≡ [] → Sized s
    sized : {f : RegionFrame} {fs : List RegionFrame} → s.frames ≡ f ∷ fs → Fits s.condition (goals_size f.frame.goals) → Waiting fs → Sized s

  fits_less : (c : Condition RegionFrame Memory) (y z : ℕ) → y ≤ z → Fits c z → Fits c y
  fits_less closed y z l p = omega arith
  fits_less (opened a e n) y z l p = (omega (arith, p.0), p.1)

  fits_ahead : (c : Condition RegionFrame Memory) (gs : Goals) → Fits c (goals_size gs) → goals_size (ahead c gs) ≤ b
  unfolding ahead
  fits_ahead closed gs p = p
  fits_ahead (opened a e n) gs p = omega (arith, p.0, before_size gs a)

  sized_choose : (t : Bool) (s s' : State) → Sized s → Sized s' → Sized (choose t s s')
  unfolding choose
  sized_choose true s s' p q = p
  sized_choose false s s' p q = q

  settle_sized : (fs : List RegionFrame) (f : RegionFrame) (m : Memory) (gs : Goals) → f.frame.goals ≡ gs → goals_size gs ≤ b → Waiting fs
      → Sized (record { frames = settle (λ e. e.frame.goals) (returning_regions P) fs f gs; memory = m; condition = closed })
  unfolding settle returning_regions returning
  settle_sized [] f m done e p w = ended refl
  settle_sized [] f m (g then gs) e p w = sized refl (rw e p) tt
  settle_sized (d ∷ fs) f m done e p w = settle_sized fs (returning_regions P f d) m d.frame.goals refl w.0 w.1
  settle_sized (d ∷ fs) f m (g then gs) e p w = sized refl (rw e p) w

  state_sized : (f : RegionFrame) (fs : List RegionFrame) (m : Memory) → goals_size f.frame.goals ≤ b → Waiting fs → Sized (state P f fs m)
  unfolding state
  state_sized f fs m p w = settle_sized fs f m f.frame.goals refl p w

  within_sized : (c : Condition RegionFrame Memory) (gs : Goals) (f : RegionFrame) (fs : List RegionFrame) (m : Memory) → f.frame.goals ≡ gs
      → Fits c (goals_size f.frame.goals) → Waiting fs → Sized (within P c gs f fs m)
  unfolding within with_frame with_goals
  within_sized closed gs f fs m e p w = state_sized f fs m p w
  within_sized (opened a d n) done f fs m e p w = state_sized (going f a) fs m (omega (arith, p.0)) w
  within_sized (opened a d n) (g then gs) f fs m e p w = sized refl p w

  in_sized : (c : Condition RegionFrame Memory) (f : RegionFrame) (fs : List RegionFrame) (m : Memory) → Fits c (goals_size f.frame.goals) → Waiting fs
      → Sized (state_in P c f fs m)
  unfolding state_in
  in_sized c f fs m p w = within_sized c f.frame.goals f fs m refl p w

  failed_sized : (c : Condition RegionFrame Memory) (f : RegionFrame) (fs : List RegionFrame) (m : Memory) → Fits c (goals_size f.frame.goals) → Waiting fs
      → Sized (failed P c f fs m)
  unfolding failed
  failed_sized closed f fs m p w = state_sized f fs m p w
  failed_sized (opened a e n) f fs m p w = state_sized e fs _ p.1 w

  module _ (c : Condition RegionFrame Memory) (f : RegionFrame) (fs : List RegionFrame) (m : Memory) (w : Waiting fs) where
    rest : (z : ℕ) → Fits c (z + goals_size f.frame.goals) → Fits c (goals_size f.frame.goals)
    rest z p = fits_less c (goals_size f.frame.goals) (z + goals_size f.frame.goals) (omega arith) p

    try_fits : (t a d : Goals) → Fits c (goal_size (try t a d) + goals_size f.frame.goals)
        → Fits (opened (a before ahead c f.frame.goals) (going f (d before ahead c f.frame.goals)) m) (goals_size t)
    unfolding goal_size with_frame with_goals ahead
    try_fits t a d p = (
      omega (arith, aheads c p, before_size a (ahead c f.frame.goals)),
      omega (arith, aheads c p, before_size d (ahead c f.frame.goals)),
    )
      where
        aheads : (c : Condition RegionFrame Memory) → Fits c (suc (goals_size t + (goals_size a + goals_size d)) + goals_size f.frame.goals)
            → goals_size t + goals_size a + goals_size d + goals_size (ahead c f.frame.goals) ≤ b
        aheads closed p = omega arith
        aheads (opened x e n) p = omega (arith, p.0, before_size f.frame.goals x)

    switch_fits : (cs : Arms) (k : ℕ) (vs : List Value) → Fits c (suc (arms_size cs) + goals_size f.frame.goals) → Fits c (goals_size (enter_arm (pick cs k) vs f.frame).goals)
    switch_fits cs k vs p = fits_less c _ (suc (arms_size cs) + goals_size f.frame.goals) (omega (arith, arm_size cs k vs f.frame)) p

    if_fits : (t : Bool) (a d : Goals) → Fits c (suc (goals_size a + goals_size d) + goals_size f.frame.goals) → Fits c (goals_size (choose t a d before f.frame.goals))
    if_fits t a d p = fits_less c _ (suc (goals_size a + goals_size d) + goals_size f.frame.goals) (omega (arith, chosen_size t a d f.frame.goals)) p

    take_sized : (g : Goal) → Fits c (goal_size g + goals_size f.frame.goals) → Sized (take P c g f fs m)
    unfolding take goal_size with_frame with_goals giving literal_in sum_in assign_in build_in branch_in open_cell callee_regions callee_frame whole
    take_sized (step (literal x v)) p = in_sized c _ fs _ (rest _ p) w
    take_sized (step (sum x q y z)) p = in_sized c _ fs _ (rest _ p) w
    take_sized (step (assign x y)) p = in_sized c _ fs _ (rest _ p) w
    take_sized (step (construct x k ys)) p = in_sized c _ fs _ (rest _ p) w
    take_sized (step (call q ys)) p = state_sized _ _ m (bodies q) (fits_ahead c f.frame.goals (rest _ p), w)
    take_sized (step (print y)) p = in_sized c f fs _ (rest _ p) w
    take_sized (step (create r)) p = in_sized c _ fs _ (rest _ p) w
    take_sized (step (remove r)) p = in_sized c f fs _ (rest _ p) w
    take_sized (step (test y z)) p = sized_choose _ _ _ (in_sized c f fs m (rest _ p) w) (failed_sized c f fs m (rest _ p) w)
    take_sized (switch x cs) p = in_sized c _ fs m (switch_fits cs _ _ p) w
    take_sized (if_less y z a d) p = in_sized c _ fs m (if_fits _ a d p) w
    take_sized (try t a d) p = in_sized _ _ fs m (try_fits t a d p) w

  next_sized : (gs : Goals) (f : RegionFrame) (fs : List RegionFrame) (s : State) → s.frames ≡ f ∷ fs → f.frame.goals ≡ gs
      → Fits s.condition (goals_size gs) → Waiting fs → Sized (next P gs f fs s)
  unfolding next with_frame with_goals goals_size
  next_sized done f fs s e q p w = sized e (rw q p) w
  next_sized (g then gs) f fs s e q p w = sized_choose _ _ s (take_sized s.condition (going f gs) fs s.memory w g p) (sized e (rw q p) w)

  from_sized : (es : List RegionFrame) (s : State) → s.frames ≡ es → Sized s → Sized (step_from P es s)
  unfolding step_from
  from_sized [] s e p = p
  from_sized (f ∷ fs) s e (ended q) = let z : ◌≡◌ {A = ℕ} 0 1 = cc in absurd (omega arith)
  from_sized (f ∷ fs) s e (sized {f = g} {fs = gs} q p w) =
      let a : g ≡ f = cc in
      let d : gs ≡ fs = cc in
      next_sized f.frame.goals f fs s e refl (rw a at p) (rw d at w)

  pub steps_sized : (l : ℕ) → Sized (steps P l)
  unfolding steps start step_of entry_frame
  steps_sized zero = state_sized _ [] _ (bodies 0) tt
  steps_sized (suc l) = from_sized (steps P l).frames (steps P l) refl (steps_sized l)

  -- at a try, the condition's goals take fewer records than the longest body
  pub try_short : {s : State} {f : RegionFrame} {fs : List RegionFrame} {t a d gs : Goals} → Sized s → s.frames ≡ f ∷ fs → f.frame.goals ≡ try t a d then gs → goals_size t ≤ b
  unfolding goals_size
  try_short (ended q) e z = let y : ◌≡◌ {A = ℕ} 0 1 = cc in absurd (omega arith)
  try_short {s = s} {f = f} {t = t} {a = a} {d = d} {gs = gs} (sized {f = g} q p w) e z =
      let x : g ≡ f = cc in
      short s.condition (rw z at (rw x at p))
    where
      short : (c : Condition RegionFrame Memory) → Fits c (goals_size (try t a d then gs)) → goals_size t ≤ b
      short closed p = omega arith
      short (opened x y n) p = omega (arith, p.0)
