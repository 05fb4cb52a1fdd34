-- The types by the number of types alone, and slot by slot: what the code tests is what the definition says.
use Rattle.std.specs.Prelude.{ℕ, Bool, List, eqb, leb, ltb, length}
use Rattle.sets.specs.Tests.{◌&◌}
use Rattle.language.specs.Format.{max_functors, max_arity}
use Rattle.language.specs.Lists.{all, among, choose}
use Rattle.language.specs.Program.{Four, four, Functor}

unfoldable pub type_slot : ℕ → ℕ → ℕ → ℕ → Bool
type_slot n arity k t = choose (ltb k arity) (leb t n) (eqb t 0)

unfoldable pub type_slots : ℕ → ℕ → Four → Bool
type_slots n arity (four a b c d) = type_slot n arity 0 a & type_slot n arity 1 b & type_slot n arity 2 c & type_slot n arity 3 d

unfoldable pub functor_fits : ℕ → Functor → Bool
functor_fits n f = leb f.arity max_arity & type_slots n f.arity f.argument_types

unfoldable pub type_fits : ℕ → List Functor → Bool
type_fits n fs = among max_functors (length fs) & all (functor_fits n) fs
