-- A word of a record that may be missing: 0 stands for "none". `field` gives it; `field_some` where the record is there.
use Rattle.std.specs.Prelude.{ℕ, zero, suc, ◌≡◌, refl, List}
use Rattle.language.specs.File.{word}

unfoldable pub field_of : List ℕ → ℕ → ℕ → ℕ
field_of f zero k = 0
field_of f (suc i) k = word f (suc i) k

pub field_none : (f : List ℕ) {i : ℕ} (k : ℕ) → i ≡ 0 → 0 ≡ field_of f i k
unfolding field_of
field_none f k z = rw z

pub field_some : (f : List ℕ) (i k : ℕ) → (i ≡ 0 → ⊥) → word f i k ≡ field_of f i k
unfolding field_of
field_some f zero k z = absurd (z refl)
field_some f (suc i) k z = refl
