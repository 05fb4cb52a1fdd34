-- Places that stay above 4,096 once they are.
use Rattle.std.specs.Prelude.{ℕ, ◌+◌, ◌≤◌, ◌<◌, ◌≡◌}
use Rattle.std.proofs.Common.{arith}
use Rattle.language.specs.Format.{max_records}

-- r is the place n records behind c, up to 4,096; above that, r is above it too
pub record Behind (c n r : ℕ) : Type 0 where
  pub fits : c + n ≤ max_records → r ≡ c + n
  pub over : max_records < c + n → max_records < r

pub behind_none : (c : ℕ) → Behind c 0 c
behind_none c = record { fits = λ h. omega arith; over = λ h. omega arith }
