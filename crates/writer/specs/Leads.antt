-- The words that lead to a chain, by the number of the record's kind.
use Rattle.std.specs.Prelude.{ℕ, ◌-◌, Bool, true, false}
use Rattle.language.specs.Lists.{nth}
use Rattle.language.specs.File.{Use, number, unused, first, row, kind_of}

unfoldable pub is_first : Use → Bool
is_first number = false
is_first unused = false
is_first (first c) = true

-- word k of a record of the kind with number w leads to a chain
unfoldable pub leads_at : ℕ → ℕ → Bool
leads_at w k = is_first (nth unused (row (kind_of w)).words (k - 2))
