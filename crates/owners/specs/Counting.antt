-- How often the words of records refer to a record: what is counted is a word that refers.
use Rattle.std.specs.Prelude.{ℕ, zero, suc, ◌+◌, ◌≤◌, ◌<◌, ◌≡◌}
use native.Mathlib.Omega.{arith}
use Rattle.std.proofs.Math.Decide.{dec_lt, dec_le, ℕ_discrete}
use Rattle.std.proofs.Math.Path.{refl}
use mathlib.Core.List.{List, [], ◌∷◌}
use Rattle.language.specs.Lists.{nth, count}
use Rattle.language.specs.File.{Chain, Use, number, unused, first, leading, references}
use Rattle.laws.specs.Counts.{hit, hit_other, count_none, count_cons}
use Rattle.chains.specs.Layout.{hits, hits_suc, hits_zero}

hit_is : (r i : ℕ) → 0 < hit r i → r ≡ i
hit_is r i h = elim (ℕ_discrete r i) [ yes e ↦ e | no e ↦ absurd (omega (arith, hit_other r i e)) ]

-- ---- the words of record j, from word k on
module _ (W : ℕ → ℕ → ℕ) (n j : ℕ) where
  later : (k p i : ℕ) → W j (suc k + p) ≡ i → W j (k + suc p) ≡ i
  later k p i e = let z : k + suc p ≡ suc k + p = omega arith in rw z e

  -- what is counted is the word of a place
  pub count_at : (us : List Use) (k i : ℕ) → 0 < count i (leading W n j k us) → (p : ℕ) × (c : Chain) × (nth unused us p ≡ first c) × (W j (k + p) ≡ i)
  unfolding nth leading
  count_at [] k i h = absurd (omega (arith, count_none i))
  count_at (number ∷ us) k i h = let r = count_at us (suc k) i h in (suc r.0, r.1, r.2, later k r.0 i r.3)
  count_at (unused ∷ us) k i h = let r = count_at us (suc k) i h in (suc r.0, r.1, r.2, later k r.0 i r.3)
  count_at (first c ∷ us) k i h =
      elim (dec_lt 0 (hit (W j k) i)) [
        | yes y ↦ (0, c, refl, let z : k + 0 ≡ k = omega arith in rw z (hit_is (W j k) i y))
        | no y ↦ (let r = count_at us (suc k) i (omega (arith, count_cons i (W j k) (leading W n j (suc k) us))) in (suc r.0, r.1, r.2, later k r.0 i r.3))
      ]

-- ---- the m records from b on
module _ (W : ℕ → ℕ → ℕ) (n : ℕ) where
  pub hits_one : (m b j i : ℕ) → b ≤ j → j < b + m → count i (references W n j) ≤ hits W n b m i
  hits_one zero b j i l h = absurd (omega arith)
  hits_one (suc m) b j i l h =
      elim (dec_le j b) [
        | yes y ↦ (let z : j ≡ b = omega arith in rw z (omega (arith, hits_suc W n m b i)))
        | no y ↦ omega (arith, hits_suc W n m b i, hits_one m (suc b) j i (omega arith) (omega arith))
      ]

  pub hits_two : (m b j k i : ℕ) → b ≤ j → j < k → k < b + m → count i (references W n j) + count i (references W n k) ≤ hits W n b m i
  hits_two zero b j k i l o h = absurd (omega arith)
  hits_two (suc m) b j k i l o h =
      elim (dec_le j b) [
        | yes y ↦ (let z : j ≡ b = omega arith in rw z (omega (arith, hits_suc W n m b i, hits_one m (suc b) k i (omega arith) (omega arith))))
        | no y ↦ omega (arith, hits_suc W n m b i, hits_two m (suc b) j k i (omega arith) o (omega arith))
      ]

  pub hits_some : (m b i : ℕ) → 0 < hits W n b m i → (j : ℕ) × (b ≤ j) × (j < b + m) × (0 < count i (references W n j))
  hits_some zero b i h = absurd (omega (arith, hits_zero W n b i))
  hits_some (suc m) b i h =
      elim (dec_lt 0 (count i (references W n b))) [
        | yes y ↦ (b, omega arith, omega arith, y)
        | no y ↦ (let z = hits_some m (suc b) i (omega (arith, hits_suc W n m b i)) in (z.0, omega arith, omega arith, z.3))
      ]
