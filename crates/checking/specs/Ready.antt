-- What the walk over goals asks of the tables, and what its functions answer by them.
use Rattle.std.specs.Prelude.{ℕ, Bool, true, false, List, ◌≡◌, Option, MatchOption}
use Rattle.language.specs.Program.{signature_of}
use Rattle.language.specs.Answers.{program}
use Rattle.tables.specs.Window.{Window}
use Rattle.tables.specs.Filled.{Accessed, Belongs, Owned}
use Rattle.walks.specs.Along.{GoalsWalked, GoalWalked, ArmsWalked}
use Rattle.checking.specs.Checker.{checker}
use Rattle.checking.specs.Carried.{state}
use Rattle.checking.specs.declared.carried.Carried.{Carried}

-- the rows are those of the file, the window is that of procedure q
pub record Ready (f rows own : List ℕ) (o : ℕ → ℕ) (q : ℕ) : Type 0 where
  pub accessed : Accessed f rows
  pub owned : Owned f rows o
  pub window : Window f (signature_of (program f) q) own

-- ---- b, and what is carried afterwards, is number 8 of the goals, the goal, the arms
module _ (f rows own : List ℕ) (i : ℕ) (c : Carried) (b : Bool) (c' : Carried) where
  abbrev pub GoalsChecked : Type 0
  GoalsChecked = (o : ℕ → ℕ) (q : ℕ) → Ready f rows own o q → Belongs o q i → GoalsWalked (checker (program f) (signature_of (program f) q)) f i (state c) b (state c')

  abbrev pub GoalChecked : Type 0
  GoalChecked = (o : ℕ → ℕ) (q : ℕ) → Ready f rows own o q → o i ≡ q → GoalWalked (checker (program f) (signature_of (program f) q)) f i (state c) b (state c')

  abbrev pub ArmsChecked : Type 0
  ArmsChecked = (o : ℕ → ℕ) (q : ℕ) → Ready f rows own o q → Belongs o q i → ArmsWalked (checker (program f) (signature_of (program f) q)) f i (state c) b (state c')

-- ---- what the code answers: nothing where a rule is broken, else what is carried afterwards
module _ (f rows own : List ℕ) (i : ℕ) (c : Carried) (r : Option Carried) where
  abbrev pub GoalsAfter : Type 0
  GoalsAfter = MatchOption r (GoalsChecked f rows own i c false c) (λ d. GoalsChecked f rows own i c true d)

  abbrev pub GoalAfter : Type 0
  GoalAfter = MatchOption r (GoalChecked f rows own i c false c) (λ d. GoalChecked f rows own i c true d)

  abbrev pub ArmsAfter : Type 0
  ArmsAfter = MatchOption r (ArmsChecked f rows own i c false c) (λ d. ArmsChecked f rows own i c true d)
