-- The bytes of records: where they stand, each word is read back; each record that is written takes 16 bytes.
use Rattle.std.specs.Prelude.{ℕ, suc, ◌+◌, ◌*◌, ◌/◌, ◌%◌, List, [], ◌∷◌, ◌++◌, ◌≡◌, refl, length, get_or}
use Rattle.std.proofs.Common.{arith, append_assoc, ap, ◌∙◌, length-append}
use Rattle.std.proofs.lemmas.List.{get_or_at}
use Rattle.language.specs.File.{Chain, Use, word}
use Rattle.language.specs.Tree.{Tree, Words}
use Rattle.language.specs.Layout.{size, size_words, word_list, lay, lay_words, bytes_of_words, bytes_of, written}
use Rattle.layout.specs.Table.{row_length}
use Rattle.layout.specs.Fits.{Fits, fits_end, fits_node, FitsWords, fits_none, fits_number, fits_unused, fits_first}
use Rattle.layout.specs.Standing.{Spelled, Stand, lay_length}

-- records of eight words
abbrev pub Eights : List (List ℕ) → Type 0
Eights [] = Unit {0}
Eights (r ∷ rs) = (length r ≡ 8) × Eights rs

pub record_length : (r : List ℕ) → length (bytes_of_words r) ≡ 2 * length r
unfolding bytes_of_words
record_length [] = refl
record_length (x ∷ xs) = omega (arith, record_length xs)

pub bytes_length : (rs : List (List ℕ)) → Eights rs → length (bytes_of rs) ≡ 16 * length rs
unfolding bytes_of
bytes_length [] e = refl
bytes_length (r ∷ rs) e = length-append (bytes_of_words r) (bytes_of rs) ∙ omega (arith, record_length r, bytes_length rs e.1, e.0)

-- two bytes make the word again
word_at : (p q : List ℕ) (x i k : ℕ) → length p ≡ 16 * i + 2 * k → word (p ++ (x % 256 ∷ x / 256 ∷ q)) i k ≡ x
unfolding word
word_at p q x i k e =
    let a : get_or (p ++ (x % 256 ∷ x / 256 ∷ q)) (16 * i + 2 * k) 0 ≡ x % 256 = get_or_at p _ _ 0 _ e in
    let b : get_or ((p ++ (x % 256 ∷ [])) ++ x / 256 ∷ q) (16 * i + 2 * k + 1) 0 ≡ x / 256 = get_or_at (p ++ (x % 256 ∷ [])) _ _ 0 _ (length-append p _ ∙ omega arith) in
    let c : get_or (p ++ (x % 256 ∷ x / 256 ∷ q)) (16 * i + 2 * k + 1) 0 ≡ x / 256 = rw append_assoc at b in
    omega arith

record_spelled : (r p q : List ℕ) (i k : ℕ) → length p ≡ 16 * i + 2 * k → Spelled (word (p ++ (bytes_of_words r ++ q)) i) k r
unfolding bytes_of_words
record_spelled [] p q i k e = tt
record_spelled (x ∷ xs) p q i k e =
    (word_at p (bytes_of_words xs ++ q) x i k e, rw append_assoc at (record_spelled xs (p ++ (x % 256 ∷ x / 256 ∷ [])) q i (suc k) (length-append p _ ∙ omega arith)))

stand_after : (rs : List (List ℕ)) (p : List ℕ) (b : ℕ) → length p ≡ 16 * b → Eights rs → Stand (word (p ++ bytes_of rs)) b rs
unfolding bytes_of
stand_after [] p b e h = tt
stand_after (r ∷ rs) p b e h = (
  record_spelled r p (bytes_of rs) b 0 (omega arith),
  rw append_assoc at (stand_after rs (p ++ bytes_of_words r) (suc b) (length-append p (bytes_of_words r) ∙ omega (arith, record_length r, h.0)) h.1),
)

-- ---- each record that is written has eight words
words_length : {us : List Use} {ws : Words} → FitsWords us ws → (b : ℕ) → length (word_list b ws) ≡ length us
unfolding word_list
words_length fits_none b = refl
words_length (fits_number f) b = ap suc (words_length f b)
words_length (fits_unused f) b = ap suc (words_length f b)
words_length (fits_first {t = t} f g) b = ap suc (words_length g (b + size t))

eights_append : (xs ys : List (List ℕ)) → Eights xs → Eights ys → Eights (xs ++ ys)
eights_append [] ys h g = g
eights_append (x ∷ xs) ys h g = (h.0, eights_append xs ys h.1 g)

mutual
  unfolding lay

  pub lay_eights : {c : Chain} {t : Tree} → Fits c t → (b : ℕ) → Eights (lay t b)
  lay_eights fits_end b = tt
  lay_eights (fits_node {k = k} {t = t} {ws = ws} e f g) b = (
    omega (arith, words_length g (suc b), row_length k),
    eights_append (lay_words ws (suc b)) (lay t (suc b + size_words ws)) (lay_words_eights g (suc b)) (lay_eights f (suc b + size_words ws)),
  )

  lay_words_eights : {us : List Use} {ws : Words} → FitsWords us ws → (b : ℕ) → Eights (lay_words ws b)
  lay_words_eights fits_none b = tt
  lay_words_eights (fits_number f) b = lay_words_eights f b
  lay_words_eights (fits_unused f) b = lay_words_eights f b
  lay_words_eights (fits_first {t = t} {ws = ws} f g) b = eights_append (lay t b) (lay_words ws (b + size t)) (lay_eights f b) (lay_words_eights g (b + size t))

-- ---- the file of a tree
pub written_length : {c : Chain} {t : Tree} → Fits c t → length (written t) ≡ 16 * size t
unfolding written
written_length {t = t} f = bytes_length (lay t 0) (lay_eights f 0) ∙ ap (λ n. 16 * n) (lay_length t 0)

pub written_stands : {c : Chain} {t : Tree} → Fits c t → Stand (word (written t)) 0 (lay t 0)
unfolding written
written_stands {t = t} f = stand_after (lay t 0) [] 0 refl (lay_eights f 0)
