-- Tables of zeros, and how long a file may be. The code has the number under the same name (src/blank.rt).
use Rattle.std.specs.Prelude.{ℕ, zero, suc, ◌+◌, ◌≤◌, List, ◌≡◌, refl, length, get_or, replicate}
use Rattle.std.proofs.Common.{arith, ap}
use Rattle.std.proofs.lemmas.List.{length-replicate}
use Rattle.language.specs.Format.{max_bytes}

-- the longest file and one byte, so that a longer one is told
abbrev pub input_bytes : ℕ
input_bytes = max_bytes + 1

-- a table of zeros is as long as it was made
pub blank_fits : (n : ℕ) {t : List ℕ} → t ≡ replicate n 0 → n ≤ length t
blank_fits n e = omega (arith, ap length e, length-replicate {A = ℕ} n 0)

-- .. and has 0 everywhere
pub blank_zero : (n k : ℕ) → get_or {A = ℕ} (replicate n 0) k 0 ≡ 0
blank_zero zero k = refl
blank_zero (suc n) zero = refl
blank_zero (suc n) (suc k) = blank_zero n k
