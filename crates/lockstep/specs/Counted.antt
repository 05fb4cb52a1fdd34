-- How many of the first n steps of the accepted file's run are creates and removes. Definitions only, for a reader to check.
use Rattle.std.specs.Prelude.{◌≡◌, Bool, true, false, List, [], ◌∷◌, ℕ, zero, suc, ◌+◌}
use Rattle.language.specs.Program.{Goals, done, ◌then◌, Goal, step, switch, if_less, try, Program}
use Rattle.language.specs.Annotation.{plain_step}
use Rattle.language.specs.AcceptedRun.{RegionFrame, State, allowed, steps}

-- a goal that is no create and no remove; its parts may hold some
unfoldable pub is_plain : Goal → Bool
is_plain (step g) = plain_step g
is_plain (switch x cs) = true
is_plain (if_less y z a b) = true
is_plain (try c a b) = true

-- the first of some goals, if there is one
unfoldable pub first_goal : Goals → List Goal
first_goal done = []
first_goal (g then gs) = g ∷ []

-- "the newest frame's next goal", if there is a frame
unfoldable pub next_in : List RegionFrame → List Goal
next_in [] = []
next_in (f ∷ fs) = first_goal f.frame.goals

-- the next goal of a state; none once the run has ended
unfoldable pub next_goal : State → List Goal
next_goal s = next_in s.frames

-- 0 for a plain goal, 1 for a create or a remove
unfoldable pub price : Bool → ℕ
price true = 0
price false = 1

-- the price of the next goal, if there is one
unfoldable pub price_of : List Goal → ℕ
price_of [] = 0
price_of (g ∷ gs) = price (is_plain g)

module _ (P : Program) where
  -- 1 if the state's next goal is a create or a remove, else 0; 0 once the run has ended
  unfoldable pub spends : State → ℕ
  spends s = price_of (next_goal s)

  -- how many of the first n steps were spent on creates and removes: one that a failing test undoes is counted, "its step stays spent on it" (C-20)
  unfoldable pub spent : ℕ → ℕ
  spent zero = 0
  spent (suc n) = spends (steps P n) + spent n

-- the state's next goal, if there is one, is a step that is taken
abbrev pub Free : Program → State → Type 0
Free P s =
    (f : RegionFrame) (fs : List RegionFrame) (g : Goal) (gs : Goals) → s.frames ≡ f ∷ fs → f.frame.goals ≡ (g then gs) →
    allowed P g f s.memory ≡ true

-- the run never comes to a step that is not taken: the only premise of the theorems in Lock
abbrev pub Safe : Program → Type 0
Safe P = (n : ℕ) → Free P (steps P n)
