-- An arm against a functor: the number and the arguments.
use Prim.Native.Nat.{ℕ, ◌≤◌, ◌<◌}
use native.Mathlib.Omega.{arith}
use borrow.Author.Tests.{lt-ltb, le-ltb, eq-eqb, ne_eqb}
use mathlib.Core.Path.{◌≡◌, sym, ◌∙◌}
use mathlib.Core.Bool.{Bool, true, false, false≢true}
use mathlib.Core.List.{List}
use lib.Dec.{eqb}
use Rattle.laws.specs.Tests.{and_stop, and_on}
use Rattle.language.specs.Format.{term_functor}
use Rattle.language.specs.Lists.{choose}
use Rattle.language.specs.File.{word}
use Rattle.language.specs.Program.{Signature}
use Rattle.language.specs.Typing.{has_type, arguments_ok}
use Rattle.chains.specs.Parts.{four_at}
use Rattle.declarations.specs.Functors.{functor_at_record}
use Rattle.typing.specs.Arguments.{argument_slot, arm_fits}

module _ (S : Signature) where
  module _ (arity k u : ℕ) {a v : ℕ} (ea : a ≡ v) where
    pub argument_in : {ty : ℕ} {r : Bool} → k < arity → ty ≡ u → r ≡ has_type S ty a → r ≡ argument_slot S arity k u v
    unfolding argument_slot choose
    argument_in h et e = rw (lt-ltb k arity h, sym et, sym ea) e

    pub argument_past : arity ≤ k → eqb a 0 ≡ argument_slot S arity k u v
    unfolding argument_slot choose
    argument_past h = rw (le-ltb k arity h, ea)

-- ---- an arm against functor n, of record g: the number and the arguments
module _ (f : List ℕ) (S : Signature) (g n i : ℕ) where
  pub arm_none : g ≡ 0 → false ≡ arm_fits f S g n i
  unfolding arm_fits
  arm_none e = and_stop _ (le-ltb 0 g (omega arith))

  pub arm_some : {r : Bool} → r ≡ arm_fits f S g n i → r ≡ true → g ≡ 0 → ⊥
  arm_some e p z = false≢true (arm_none z ∙ sym e ∙ p)

  module _ (z : g ≡ 0 → ⊥) {w : ℕ} (ew : w ≡ word f i term_functor) where
    pub arm_order : (w ≡ n → ⊥) → false ≡ arm_fits f S g n i
    unfolding arm_fits
    arm_order h = and_on (lt-ltb 0 g (omega arith)) (and_stop _ (rw (sym ew) (ne_eqb w n h)))

    pub arm_all : w ≡ n → {q : Bool} → q ≡ arguments_ok S (functor_at_record f g) (four_at f i) → q ≡ arm_fits f S g n i
    unfolding arm_fits
    arm_all h k = and_on (lt-ltb 0 g (omega arith)) (and_on (rw (sym ew) (eq-eqb w n h)) k)
