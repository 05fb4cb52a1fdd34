-- The rules for a step, by its row and the window of its procedure.
use Rattle.std.specs.Prelude.{ℕ, Bool, true, false, List, ◌≡◌, Option, MatchOption}
use Rattle.sets.specs.Tests.{◌&◌}
use Rattle.sets.specs.Sets.{subset, apart}
use Rattle.sets.specs.declared.Set.{Set}
use Rattle.language.specs.Program.{Step, Signature, signature_of}
use Rattle.language.specs.Checking.{sound_given}
use Rattle.language.specs.Answers.{program}
use Rattle.tables.specs.Window.{Window, kept_place, set_in}
use Rattle.tables.specs.Rows.{reads_in, gives_in, needs_in, bears_in, ends_in, mark_in}
use Rattle.tables.specs.Filled.{GoalIsStep, Accessed, Effected}
use Rattle.walks.specs.Walk.{outcome}
use Rattle.checking.specs.Checker.{checker}
use Rattle.checking.specs.Carried.{state}
use Rattle.checking.specs.declared.carried.Carried.{Carried}
use Rattle.checking.specs.Sound.{ReachesAll}

unfoldable pub rules_at : List ℕ → List ℕ → ℕ → Set → Set → Bool
rules_at rows own i held sound =
    subset (reads_in rows i) sound & subset (needs_in rows i) held & apart (ends_in rows i) (set_in own kept_place) & apart (bears_in rows i) held & mark_in rows i

-- what `step` answers: nothing where a rule is broken
abbrev pub StepChecked : List ℕ → List ℕ → ℕ → Carried → Bool → Carried → Type 0
StepChecked rows own i c b c' =
    (f : List ℕ) (o : ℕ → ℕ) (q : ℕ) (g : Step) → Accessed f rows → Effected f o rows → Window f (signature_of (program f) q) own → GoalIsStep f i g → o i ≡ q
    → outcome b (state c') ≡ (checker (program f) (signature_of (program f) q)).at_step g (state c)

abbrev pub StepAfter : List ℕ → List ℕ → ℕ → Carried → Option Carried → Type 0
StepAfter rows own i c r = MatchOption r (StepChecked rows own i c false c) (λ d. StepChecked rows own i c true d)

-- ---- where an arm's goals start: its arguments have been given their values
abbrev pub Entered : List ℕ → List ℕ → ℕ → Carried → Carried → Type 0
Entered rows own i c c' =
    (c'.held ≡ c.held) × ((S : Signature) → ReachesAll S own → c'.sound ≡ sound_given S (gives_in rows i) c.held c.sound)
