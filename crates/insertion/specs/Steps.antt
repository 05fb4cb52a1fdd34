-- A step, from the row of its record and the point at its place.
use Rattle.std.specs.Prelude.{ℕ, List}
use Rattle.sets.specs.Sets.{◌∪◌, ◌∖◌}
use Rattle.sets.specs.declared.Set.{Set}
use Rattle.tables.specs.Rows.{needs_in, bears_in, ends_in}
use Rattle.liveness.specs.Table.{before_at, after_at}

unfoldable pub created_in : List ℕ → List ℕ → ℕ → ℕ → Set
created_in rows t i at = ((needs_in rows i ∪ after_at t at) ∖ before_at t at) ∖ bears_in rows i

unfoldable pub removed_in : List ℕ → List ℕ → ℕ → ℕ → Set → Set
removed_in rows t i at created = (((before_at t at ∪ created) ∖ ends_in rows i) ∪ bears_in rows i) ∖ after_at t at
