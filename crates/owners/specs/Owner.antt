-- The procedure that a record belongs to, by its number: the attribute that one pass hands down. Types and functors have 0, and so has record 0.
use Rattle.std.specs.Prelude.{ℕ, ◌+◌, List, eqb, get_or, replicate}
use Rattle.language.specs.Lists.{choose}
use Rattle.language.specs.Format.{procedure_kind}
use Rattle.language.specs.File.{record_count}
use Rattle.owners.specs.Handed.{Attribute, next_and, handed}

-- "procedures [are numbered] from 0 .. in chain order"; every other reference stays in the procedure
unfoldable pub owner_by : Attribute
owner_by kind i k own = next_and (choose (eqb kind procedure_kind) (own + 1) own) own k

module _ (f : List ℕ) where
  unfoldable pub owners_of : List ℕ
  owners_of = handed owner_by f (replicate (record_count f) 0)

  unfoldable pub owner_of : ℕ → ℕ
  owner_of i = get_or owners_of i 0
