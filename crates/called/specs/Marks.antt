-- Marks in a table, and how many of its first places have none.
use Rattle.std.specs.Prelude.{ℕ, zero, suc, ◌+◌, List, ◌≡◌, get_or}
use Rattle.laws.specs.Counts.{hit}

-- a place of the table that is not 0
abbrev pub Marked : List ℕ → ℕ → Type 0
Marked t q = get_or t q 0 ≡ 0 → ⊥

-- how many of the first n places have none
unfoldable pub unmarked : List ℕ → ℕ → ℕ
unmarked t zero = 0
unmarked t (suc n) = hit (get_or t n 0) 0 + unmarked t n
