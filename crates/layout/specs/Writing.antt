-- For a writer: how the records of a tree come to stand, and that bytes in which they stand begin with the tree's file.
use Rattle.std.specs.Prelude.{ℕ, suc, ◌+◌, ◌*◌, ◌/◌, ◌%◌, ◌≤◌, ◌<◌, List, [], ◌∷◌, ◌++◌, ◌≡◌, refl, length, get_or, take}
use Rattle.std.proofs.Common.{arith, append_assoc, ap, sym, ◌∙◌, length-append, get_or-append-add, take_at}
use Rattle.std.proofs.lemmas.List.{get_or_at}
use Rattle.language.specs.File.{Chain, word}
use Rattle.language.specs.Tree.{Tree}
use Rattle.language.specs.Layout.{size, lay, bytes_of_words, bytes_of, written}
use Rattle.layout.specs.Fits.{Fits}
use Rattle.layout.specs.Standing.{Spelled, Stand, lay_length}
use Rattle.layout.specs.Bytes.{Eights, record_length, lay_eights, written_length}

-- ---- records come to stand
pub stand_join : (xs ys : List (List ℕ)) (W : ℕ → ℕ → ℕ) (b c : ℕ) → b + length xs ≡ c → Stand W b xs → Stand W c ys → Stand W b (xs ++ ys)
stand_join [] ys W b c e h g = let q : b ≡ c = omega arith in rw q g
stand_join (x ∷ xs) ys W b c e h g = (h.0, stand_join xs ys W (suc b) c (omega arith) h.1 g)

-- words that agree on the records say the same
pub spelled_same : (xs : List ℕ) (w v : ℕ → ℕ) (k m : ℕ) → k + length xs ≤ m → ((j : ℕ) → k ≤ j → j < m → v j ≡ w j) → Spelled w k xs → Spelled v k xs
spelled_same [] w v k m l e h = tt
spelled_same (x ∷ xs) w v k m l e h =
    (e k (omega arith) (omega arith) ∙ h.0, spelled_same xs w v (suc k) m (omega arith) (λ j p q. e j (omega arith) q) h.1)

pub spelled_more : (xs : List ℕ) (w : ℕ → ℕ) (k m : ℕ) {x : ℕ} → m ≡ k + length xs → Spelled w k xs → w m ≡ x → Spelled w k (xs ++ x ∷ [])
spelled_more [] w k m l h e = let q : m ≡ k = omega arith in (rw q at e, tt)
spelled_more (y ∷ xs) w k m l h e = (h.0, spelled_more xs w (suc k) m (omega arith) h.1 e)

pub stand_same : (rs : List (List ℕ)) (W X : ℕ → ℕ → ℕ) (b : ℕ) → Eights rs
    → ((i k : ℕ) → b ≤ i → i < b + length rs → k < 8 → X i k ≡ W i k) → Stand W b rs → Stand X b rs
stand_same [] W X b l e h = tt
stand_same (r ∷ rs) W X b l e h = (
  spelled_same r (W b) (X b) 0 8 (omega (arith, l.0)) (λ j o p. e b j (omega arith) (omega arith) p) h.0,
  stand_same rs W X (suc b) l.1 (λ i k p q s. e i k (omega arith) (omega arith) s) h.1,
)

-- ---- bytes in which records stand begin with the records' bytes
-- a word's two bytes are decided by it
two_bytes : (p q : List ℕ) (y z x i k : ℕ) → length p ≡ 16 * i + 2 * k → y < 256 → word (p ++ (y ∷ z ∷ q)) i k ≡ x
    → (y ≡ x % 256) × (z ≡ x / 256)
unfolding word
two_bytes p q y z x i k e l h =
    let a : get_or (p ++ (y ∷ z ∷ q)) (16 * i + 2 * k) 0 ≡ y = get_or_at p _ _ 0 _ e in
    let b : get_or ((p ++ (y ∷ [])) ++ z ∷ q) (16 * i + 2 * k + 1) 0 ≡ z = get_or_at (p ++ (y ∷ [])) _ _ 0 _ (length-append p _ ∙ omega arith) in
    let c : get_or (p ++ (y ∷ z ∷ q)) (16 * i + 2 * k + 1) 0 ≡ z = rw append_assoc at b in
    (omega arith, omega arith)

-- q begins with the bytes b
abbrev Begins : List ℕ → List ℕ → Type 0
Begins q b = (rest : List ℕ) × (q ≡ b ++ rest)

record_begins : (r p q : List ℕ) (i k : ℕ) → length p ≡ 16 * i + 2 * k → ((j : ℕ) → get_or q j 0 < 256) → 2 * length r ≤ length q
    → Spelled (word (p ++ q) i) k r → Begins q (bytes_of_words r)
unfolding bytes_of_words
record_begins [] p q i k e l m h = (q, refl)
record_begins (x ∷ xs) p [] i k e l m h = absurd (omega arith)
record_begins (x ∷ xs) p (y ∷ []) i k e l m h = absurd (omega arith)
record_begins (x ∷ xs) p (y ∷ z ∷ q) i k e l m h =
    let two = two_bytes p q y z x i k e (l 0) h.0 in
    let more = record_begins xs (p ++ (y ∷ z ∷ [])) q i (suc k) (length-append p _ ∙ omega arith) (λ j. l (suc (suc j))) (omega arith) (rw append_assoc h.1) in
    (more.0, cc)

rest_small : (q b rest : List ℕ) → q ≡ b ++ rest → ((j : ℕ) → get_or q j 0 < 256) → (j : ℕ) → get_or rest j 0 < 256
rest_small q b rest e l j =
    let same : get_or q (length b + j) 0 ≡ get_or rest j 0 = ap (λ x. get_or x (length b + j) 0) e ∙ get_or-append-add b rest j 0 in
    rw same at (l (length b + j))

begins_more : (q a b rest : List ℕ) → q ≡ a ++ rest → Begins rest b → Begins q (a ++ b)
begins_more q a b rest e m = (m.0, e ∙ ap (λ x. a ++ x) m.1 ∙ sym (append_assoc a b m.0))

-- one record, and then the others
record_first : (r : List ℕ) (rs : List (List ℕ)) (p q : List ℕ) (b : ℕ) → length p ≡ 16 * b → length r ≡ 8 → ((j : ℕ) → get_or q j 0 < 256)
    → 16 * suc (length rs) ≤ length q → Stand (word (p ++ q)) b (r ∷ rs) → Begins q (bytes_of_words r)
    → ((rest : List ℕ) → length (p ++ bytes_of_words r) ≡ 16 * suc b → ((j : ℕ) → get_or rest j 0 < 256) → 16 * length rs ≤ length rest
    → Stand (word ((p ++ bytes_of_words r) ++ rest)) (suc b) rs → Begins rest (bytes_of rs))
    → Begins q (bytes_of_words r ++ bytes_of rs)
record_first r rs p q b e s l m h (rest, f) others =
    let long : length q ≡ length (bytes_of_words r) + length rest = ap length f ∙ length-append (bytes_of_words r) rest in
    begins_more q (bytes_of_words r) (bytes_of rs) rest f
    (others rest (length-append p (bytes_of_words r) ∙ omega (arith, record_length r)) (rest_small q (bytes_of_words r) rest f l) (omega (arith, record_length r))
    (rw (append_assoc, ← f) h.1))

records_begin : (rs : List (List ℕ)) (p q : List ℕ) (b : ℕ) → length p ≡ 16 * b → Eights rs → ((j : ℕ) → get_or q j 0 < 256)
    → 16 * length rs ≤ length q
    → Stand (word (p ++ q)) b rs → Begins q (bytes_of rs)
unfolding bytes_of
records_begin [] p q b e s l m h = (q, refl)
records_begin (r ∷ rs) p q b e s l m h =
    record_first r rs p q b e s.0 l m h (record_begins r p q b 0 (omega arith) l (omega (arith, s.0)) h.0)
    (λ rest d k n g. records_begin rs (p ++ bytes_of_words r) rest (suc b) d s.1 k n g)

-- where each byte is below 256 and the records of a tree stand, its file is the front part
pub written_front : {c : Chain} {t : Tree} → Fits c t → (f : List ℕ) → ((j : ℕ) → get_or f j 0 < 256) → 16 * size t ≤ length f
    → Stand (word f) 0 (lay t 0) → take (16 * size t) f ≡ written t
unfolding written
written_front {t = t} g f l m h =
    let front = records_begin (lay t 0) [] f 0 refl (lay_eights g 0) l (omega (arith, lay_length t 0)) h in
    ap (take (16 * size t)) front.1 ∙ take_at (bytes_of (lay t 0)) front.0 _ (written_length g)
