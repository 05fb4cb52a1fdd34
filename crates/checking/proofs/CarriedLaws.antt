-- Laws of `specs/Carried` that only proofs cite.
use mathlib.Core.Path.{◌≡◌, refl, sym, ap, ◌∙◌}
use mathlib.Core.Bool.{Bool, true, false}
use Rattle.std.proofs.Common.{Option, None, Some, MatchOption}
use Rattle.sets.specs.Sets.{◌∩◌, same_set}
use Rattle.sets.specs.declared.Set.{Set}
use Rattle.language.specs.Program.{Signature, Program}
use Rattle.walks.specs.Walk.{outcome, goes_on, require}
use Rattle.checking.specs.Checker.{carrying, checker}
use Rattle.checking.specs.Carried.{state, JoinAfter}
use Rattle.checking.specs.declared.carried.Carried.{Carried}

-- where arms end: what the first ended with, and c what the others did
module _ (P : Program) (S : Signature) (first c : Carried) {b : Bool} (e : b ≡ same_set first.held c.held) where
  pub join_differs : (d : Carried) → b ≡ false → outcome false (state d) ≡ (checker P S).join (state first) (state c)
  unfolding outcome checker require
  join_differs d j = rw (sym e ∙ j) refl

  pub join_same : {l : Set} → b ≡ true → l ≡ first.sound ∩ c.sound → outcome true (carrying first.held l) ≡ (checker P S).join (state first) (state c)
  unfolding outcome checker require
  join_same j p = ap (λ (x : Set). goes_on (carrying first.held x)) p ∙ rw (sym e ∙ j) refl

-- what holds of what the walk carries then, whether arms end alike or not
pub after_join : (X : Bool → Carried → Type 0) (c a b : Carried) (r : Option Carried) → JoinAfter a b r
    → ((y : Bool) (d : Carried) → ((P : Program) (S : Signature) → outcome y (state d) ≡ (checker P S).join (state a) (state b)) → X y d)
    → MatchOption r (X false c) (λ d. X true d)
after_join X c a b None h k = k false c (λ P S. h P S c)
after_join X c a b (Some d) h k = k true d h
