-- Words of numbers: what the machine writes stands for the definition's number.
use Rattle.std.specs.Prelude.{ℕ, suc, ◌-◌, ◌%◌, ◌^◌, ◌<◌, true, ◌≡◌, refl, ℤ, pos, negsuc}
use Rattle.std.proofs.Common.{arith, le-ltb, leb-true, to_z}
use Rattle.std.proofs.Math.Decide.{dec_lt}
use Rattle.std.specs.Int.Signed.{mag}
use Rattle.std.specs.Int.{w16, w32}
use Rattle.std.proofs.Math.Facts.{to_z_pos, to_z-neg}
use Rattle.sets.specs.Tests.{and_true}
use Rattle.language.specs.Numbers.{literal_number, residue, in_range}
use Rattle.language.specs.Frames.{Value, numeral, number_in}
use Rattle.heap.specs.Standing.{StandsFor}
use Rattle.word_machine.specs.Machine.{literal_word}
use Rattle.word_machine.specs.Relation.{Where, Means}

-- a number in range has 31 bits beside its sign, and its word is read back as that number
read_pos : (n : ℕ) → n < 2 ^ 31 → to_z w32 (residue (pos n)) ≡ pos n
unfolding residue
read_pos n h = let z : n % 2 ^ 32 ≡ n = omega arith in rw z (to_z_pos w32 h)

read_neg : (n : ℕ) → n < 2 ^ 31 → to_z w32 (residue (negsuc n)) ≡ negsuc n
unfolding residue
read_neg n h = let z : n % 2 ^ 32 ≡ n = omega arith in rw z (to_z-neg w32 n h)

pub range_fits : (z : ℤ) → in_range z ≡ true → mag z < 2 ^ 31
unfolding in_range
range_fits (pos n) h = omega (arith, leb-true n 2147483647 (and_true h).1)
range_fits (negsuc n) h = omega (arith, leb-true n 2147483647 (and_true h).0)

pub range_word : (z : ℤ) → in_range z ≡ true → to_z w32 (residue z) ≡ z
range_word (pos n) h = read_pos n (range_fits (pos n) h)
range_word (negsuc n) h = read_neg n (range_fits (negsuc n) h)

literal_read : (v : ℕ) → to_z w32 (literal_word v) ≡ literal_number v
unfolding literal_word literal_number
literal_read v = elim (dec_lt v (2 ^ 15)) [
  | yes h ↦ rw (to_z_pos w16 h) (read_pos v (omega arith))
  | no h ↦ rw (le-ltb v (2 ^ 15) (omega (arith, h))) (read_neg (2 ^ 16 - suc v) (omega arith))
]

pub literal_word_law : (v : ℕ) → (literal_word v ≡ residue (literal_number v)) × (to_z w32 (literal_word v) ≡ literal_number v)
unfolding literal_word
literal_word_law v = (refl, literal_read v)

-- a word that stands for a number is that number's, and is read as it
pub number_word : (L : Where) (w : ℕ) (v : Value) → Means L w v → (z : ℤ) → v ≡ numeral z → (w ≡ residue (number_in v)) × (to_z w32 w ≡ number_in v)
unfolding StandsFor number_in
number_word L w v s z e = rw e (rw e at s)
