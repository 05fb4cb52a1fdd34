-- From procedures to files: where a rule follows from the others for each procedure, a file that passes without it passes.
use Rattle.std.specs.Prelude.{Bool, true, false, List, ◌∷◌, ◌++◌, ◌≡◌, refl, ℕ, [], Ok}
use Rattle.sets.specs.Tests.{and_true, true_and}
use Rattle.language.specs.declared.Refusal.TheVariants.{Classes, Rules}
use Rattle.language.specs.Lists.{all}
use Rattle.language.specs.Program.{Procedure}
use Rattle.language.specs.Typing.{typing_ok}
use Rattle.language.specs.Answers.{Stage, stage, lowest, program, reached_stages}
use Rattle.laws.specs.Stages.{lowest_passed, passed_reached}

pub all_from : (c p q : Procedure → Bool) → ((x : Procedure) → c x ≡ true → p x ≡ true → q x ≡ true) → (xs : List Procedure)
    → all c xs ≡ true → all p xs ≡ true → all q xs ≡ true
unfolding all
all_from c p q f [] a b = refl
all_from c p q f (x ∷ xs) a b =
    true_and (f x (and_true a).0 (and_true b).0) (all_from c p q f xs (and_true a).1 (and_true b).1)

-- a file that passes with `less` for its last test passes with `more`, if that follows from number 7 and `less`
pub last_test : (ss : List Stage) (d less more : Bool) → (d ≡ true → less ≡ true → more ≡ true)
    → lowest (ss ++ (stage Classes d ∷ stage Rules less ∷ [])) ≡ Ok tt → lowest (ss ++ (stage Classes d ∷ stage Rules more ∷ [])) ≡ Ok tt
unfolding lowest
last_test [] true true more f e = rw (f refl refl)
last_test [] true false true f e = refl
last_test [] true false false f e = e
last_test [] false less more f e = e
last_test (stage r true ∷ ss) d less more f e = last_test ss d less more f e
last_test (stage r false ∷ ss) d less more f e = e

-- a file that passes has passed number 3
pub typed : (f : List ℕ) (ss : List Stage) → lowest (reached_stages f ++ ss) ≡ Ok tt → typing_ok (program f) ≡ true
typed f ss e = (passed_reached f ss (lowest_passed (reached_stages f ++ ss) e)).0.typing
