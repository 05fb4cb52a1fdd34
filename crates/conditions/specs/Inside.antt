-- Whether a record stands in a condition: the attribute that one pass hands down. 1 in a condition, 0 elsewhere.
use Rattle.std.specs.Prelude.{ℕ, Bool, List, eqb, get_or, replicate}
use Rattle.sets.specs.Tests.{◌&◌}
use Rattle.language.specs.Lists.{choose}
use Rattle.language.specs.Format.{try_kind, try_condition, max_records}
use Rattle.owners.specs.Handed.{Attribute, handed}

-- "A condition is everything below w2" of a try (reading 24); every other reference stays where its record stands
unfoldable pub inside_by : Attribute
inside_by kind i k own = choose (eqb kind try_kind & eqb k try_condition) 1 own

module _ (f : List ℕ) where
  unfoldable pub insides : List ℕ
  insides = handed inside_by f (replicate max_records 0)

  unfoldable pub inside_at : ℕ → Bool
  inside_at i = eqb (get_or insides i 0) 1
