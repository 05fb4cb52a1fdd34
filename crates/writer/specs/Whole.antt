-- The whole file in written order, and that it stands as the front part of what was lent.
use Rattle.std.specs.Prelude.{ℕ, zero, suc, ◌*◌, ◌≤◌, ◌<◌, List, [], ◌∷◌, ◌++◌, ◌≡◌, refl, length, get_or, take, drop}
use Rattle.std.proofs.Common.{arith, ap, ap₂, ◌∙◌}
use Rattle.language.specs.Format.{record_bytes}
use Rattle.language.specs.File.{Chain}
use Rattle.language.specs.Tree.{Tree}
use Rattle.language.specs.Layout.{size, lay, written}
use Rattle.records.specs.Sizes.{byte_end}
use Rattle.chains.specs.Layout.{Fits, lay_length, written_front}
use Rattle.writer.specs.Laid.{Laid}

-- ---- lists that agree from some place on
same_list : (xs ys : List ℕ) → length xs ≡ length ys → ((j : ℕ) → get_or xs j 0 ≡ get_or ys j 0) → xs ≡ ys
same_list [] [] e h = refl
same_list [] (y ∷ ys) e h = absurd (omega arith)
same_list (x ∷ xs) [] e h = absurd (omega arith)
same_list (x ∷ xs) (y ∷ ys) e h = ap₂ ◌∷◌ (h 0) (same_list xs ys (omega arith) (λ j. h (suc j)))

same_drop : (k : ℕ) (xs ys : List ℕ) → length xs ≡ length ys → ((j : ℕ) → k ≤ j → get_or xs j 0 ≡ get_or ys j 0) → drop k xs ≡ drop k ys
same_drop zero xs ys e h = same_list xs ys e (λ j. h j (omega arith))
same_drop (suc k) [] [] e h = refl
same_drop (suc k) [] (y ∷ ys) e h = absurd (omega arith)
same_drop (suc k) (x ∷ xs) [] e h = absurd (omega arith)
same_drop (suc k) (x ∷ xs) (y ∷ ys) e h = same_drop k xs ys (omega arith) (λ j l. h (suc j) (omega arith))

parts_again : (k : ℕ) (xs : List ℕ) → xs ≡ take k xs ++ drop k xs
parts_again zero xs = refl
parts_again (suc k) [] = refl
parts_again (suc k) (x ∷ xs) = ap (λ ys. x ∷ ys) (parts_again k xs)

-- THE FRONT PART: bytes in which a tree's records were written from 0 on are the tree's file, and behind it as they were
pub laid_written : {s : Chain} {t : Tree} {a b : List ℕ} → Fits s t → ((j : ℕ) → get_or b j 0 < byte_end) → record_bytes * size t ≤ length a → Laid a b 0 (lay t 0)
    → b ≡ written t ++ drop (record_bytes * size t) a
laid_written {s} {t} {a} {b} F B m L =
    parts_again (record_bytes * size t) b
    ∙ ap₂ ◌++◌ (written_front F b B (omega (arith, L.same)) L.there)
    (same_drop (record_bytes * size t) b a L.same (λ j l. L.past j (omega (arith, lay_length t 0))))
