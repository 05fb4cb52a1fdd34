-- Types with regions: "A type all of whose functors have arity 0 has no regions" (C-14).
use Rattle.std.specs.Prelude.{ℕ, Bool, List, eqb}
use Rattle.sets.specs.Tests.{neg}
use Rattle.language.specs.Lists.{all, choose}
use Rattle.chains.specs.Formed.{functors_at}

-- the functors from record i on are constants
unfoldable pub constants_at : List ℕ → ℕ → Bool
constants_at f i = all (λ g. eqb g.arity 0) (functors_at f i)

-- where the functors of a type with regions start: at record i, unless all from there on are constants
unfoldable pub regioned_start : List ℕ → ℕ → ℕ
regioned_start f i = choose (neg (constants_at f i)) i 0
