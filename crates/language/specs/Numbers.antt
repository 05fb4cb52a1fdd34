-- Whole numbers of 32 bits, signed.
use Rattle.std.specs.Prelude.{ℕ, zero, suc, ◌-◌, ◌%◌, ◌^◌, Bool, ℤ, pos, negsuc, ◌+ℤ◌, ◌-ℤ◌}
use Rattle.std.specs.Int.Signed.{lt_z, le_z}
use Rattle.std.specs.Int.{w16}
use Rattle.std.proofs.Common.{to_z}
use Rattle.sets.specs.Tests.{◌&◌}

-- "A literal's 16 bits are read as two's complement, so 65,535 is −1."
unfoldable pub literal_number : ℕ → ℤ
literal_number v = to_z w16 v

-- a number's 32-bit word: the one below 2^32 that is congruent to it modulo 2^32
unfoldable pub residue : ℤ → ℕ
residue (pos n) = n % 2 ^ 32
residue (negsuc n) = 2 ^ 32 - suc (n % 2 ^ 32)

-- "w3 (0 add, 1 subtract)"
unfoldable pub sum_number : ℕ → ℤ → ℤ → ℤ
sum_number zero a b = a +ℤ b
sum_number (suc o) a b = a -ℤ b

-- not "outside −2,147,483,648 to 2,147,483,647" (C-15)
unfoldable pub in_range : ℤ → Bool
in_range z = le_z (negsuc 2147483647) z & le_z z (pos 2147483647)

-- "if Y < Z"
unfoldable pub less : ℤ → ℤ → Bool
less a b = lt_z a b
