-- Number 4's walk as the code makes it: what is carried before and behind, and what a step and an arm do read off their rows.
use Rattle.std.specs.Prelude.{ℕ, ◌≡◌, Bool, true, false, List, Option, MatchOption}
use Rattle.language.specs.Answers.{program}
use Rattle.tables.specs.Rows.{reads_in, gives_in, mark_in}
use Rattle.walks.specs.Walk.{outcome}
use Rattle.walks.specs.Along.{GoalsWalked, GoalWalked, ArmsWalked}
use Rattle.values.specs.declared.carried.Valuation.{Valuation}
use Rattle.values.specs.Valuing.{giving, valuer}

-- with c before and d behind, the answer r is right
abbrev pub GoalsValued : List ℕ → ℕ → Valuation → Bool → Valuation → Type 0
GoalsValued f i c r d = GoalsWalked (valuer (program f)) f i c r d

abbrev pub GoalValued : List ℕ → ℕ → Valuation → Bool → Valuation → Type 0
GoalValued f i c r d = GoalWalked (valuer (program f)) f i c r d

abbrev pub ArmsValued : List ℕ → ℕ → Valuation → Bool → Valuation → Type 0
ArmsValued f i c r d = ArmsWalked (valuer (program f)) f i c r d

-- what row i does
abbrev pub RowValued : List ℕ → ℕ → Valuation → Bool → Valuation → Type 0
RowValued rows i c r d = outcome r d ≡ giving (reads_in rows i) (gives_in rows i) (mark_in rows i) c

-- what the code answers: nothing where the walk stops, and what is carried behind it where it goes on
abbrev pub GoalsAfter : List ℕ → ℕ → Valuation → Option Valuation → Type 0
GoalsAfter f i c o = MatchOption o (GoalsValued f i c false c) (λ d. GoalsValued f i c true d)

abbrev pub GoalAfter : List ℕ → ℕ → Valuation → Option Valuation → Type 0
GoalAfter f i c o = MatchOption o (GoalValued f i c false c) (λ d. GoalValued f i c true d)

abbrev pub ArmsAfter : List ℕ → ℕ → Valuation → Option Valuation → Type 0
ArmsAfter f i c o = MatchOption o (ArmsValued f i c false c) (λ d. ArmsValued f i c true d)

abbrev pub RowAfter : List ℕ → ℕ → Valuation → Option Valuation → Type 0
RowAfter rows i c o = MatchOption o (RowValued rows i c false c) (λ d. RowValued rows i c true d)
