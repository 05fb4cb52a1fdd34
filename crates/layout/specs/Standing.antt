-- A tree written from record b on is read back from there as the same tree.
use Rattle.std.specs.Prelude.{ℕ, zero, suc, ◌+◌, ◌≤◌, ◌<◌, List, [], ◌∷◌, ◌++◌, ◌≡◌, refl, length}
use Rattle.std.proofs.Common.{arith, ap, ap₂, ◌∙◌, length-append}
use Rattle.language.specs.File.{Kind, Chain, Use, row, kind_of}
use Rattle.language.specs.Tree.{Tree, end, node, Words, no_words, plain, leads, read_words, read_record, read_chain, read_tree}
use Rattle.language.specs.Layout.{size, size_words, reference, word_list, lay, lay_words}
use Rattle.layout.specs.Table.{kind_number}
use Rattle.layout.specs.Fits.{Fits, fits_end, fits_node, FitsWords, fits_none, fits_number, fits_unused, fits_first}

-- the words xs stand in w from word k on
abbrev pub Spelled : (ℕ → ℕ) → ℕ → List ℕ → Type 0
Spelled w k [] = Unit {0}
Spelled w k (x ∷ xs) = (w k ≡ x) × Spelled w (suc k) xs

-- the records rs stand in W from record b on
abbrev pub Stand : (ℕ → ℕ → ℕ) → ℕ → List (List ℕ) → Type 0
Stand W b [] = Unit {0}
Stand W b (r ∷ rs) = Spelled (W b) 0 r × Stand W (suc b) rs

mutual
  unfolding lay size

  pub lay_length : (t : Tree) (b : ℕ) → length (lay t b) ≡ size t
  lay_length end b = refl
  lay_length (node k t ws) b = ap suc (length-append (lay_words ws (suc b)) _ ∙ ap₂ ◌+◌ (lay_words_length ws (suc b)) (lay_length t (suc b + size_words ws)))

  pub lay_words_length : (ws : Words) (b : ℕ) → length (lay_words ws b) ≡ size_words ws
  lay_words_length no_words b = refl
  lay_words_length (plain n ws) b = lay_words_length ws b
  lay_words_length (leads t ws) b = length-append (lay t b) _ ∙ ap₂ ◌+◌ (lay_length t b) (lay_words_length ws (b + size t))

pub stand_left : (xs ys : List (List ℕ)) (W : ℕ → ℕ → ℕ) (b : ℕ) → Stand W b (xs ++ ys) → Stand W b xs
stand_left [] ys W b h = tt
stand_left (x ∷ xs) ys W b h = (h.0, stand_left xs ys W (suc b) h.1)

pub stand_right : (xs ys : List (List ℕ)) (W : ℕ → ℕ → ℕ) (b c : ℕ) → b + length xs ≡ c → Stand W b (xs ++ ys) → Stand W c ys
stand_right [] ys W b c e h = let q : b ≡ c = omega arith in rw q at h
stand_right (x ∷ xs) ys W b c e h = stand_right xs ys W (suc b) c (omega arith) h.1

-- the two parts behind a record: what its words lead to, and the rest of its chain
pub stand_words : (t : Tree) (ws : Words) (W : ℕ → ℕ → ℕ) (b : ℕ) → Stand W b (lay_words ws b ++ lay t (b + size_words ws))
    → Stand W b (lay_words ws b)
stand_words t ws W b h = stand_left (lay_words ws b) _ W b h

pub stand_next : (t : Tree) (ws : Words) (W : ℕ → ℕ → ℕ) (b : ℕ) → Stand W b (lay_words ws b ++ lay t (b + size_words ws))
    → Stand W (b + size_words ws) (lay t (b + size_words ws))
stand_next t ws W b h = stand_right (lay_words ws b) _ W b _ (omega (arith, lay_words_length ws b)) h

-- the two parts of words that begin with a reference
pub stand_first : (t : Tree) (ws : Words) (W : ℕ → ℕ → ℕ) (b : ℕ) → Stand W b (lay t b ++ lay_words ws (b + size t)) → Stand W b (lay t b)
stand_first t ws W b h = stand_left (lay t b) _ W b h

pub stand_others : (t : Tree) (ws : Words) (W : ℕ → ℕ → ℕ) (b : ℕ) → Stand W b (lay t b ++ lay_words ws (b + size t))
    → Stand W (b + size t) (lay_words ws (b + size t))
stand_others t ws W b h = stand_right (lay t b) _ W b _ (omega (arith, lay_length t b)) h

-- ---- the reader, a step at a time
pub chain_end_law : (n : ℕ) (W : ℕ → ℕ → ℕ) → read_chain n W 0 ≡ end
unfolding read_chain
chain_end_law zero W = refl
chain_end_law (suc n) W = refl

pub chain_at_law : (n i : ℕ) (W : ℕ → ℕ → ℕ) → 0 < i → read_chain (suc n) W i ≡ read_record (λ j. read_chain n W j) (W i) (kind_of (W i 0))
unfolding read_chain
chain_at_law n zero W h = absurd (omega arith)
chain_at_law n (suc i) W h = refl

record_is : (g : ℕ → Tree) (w : ℕ → ℕ) (k l : Kind) (t : Tree) (ws : Words) → l ≡ k → g (w 1) ≡ t → read_words g w 2 (row k).words ≡ ws
    → read_record g w l ≡ node k t ws
unfolding read_record
record_is g w k l t ws e p q = cc

mutual
  unfolding lay size reference word_list read_words

  read_lay : {c : Chain} {t : Tree} → Fits c t → (n b : ℕ) (W : ℕ → ℕ → ℕ) → 0 < b → size t ≤ n → Stand W b (lay t b)
      → read_chain n W (reference b t) ≡ t
  read_lay fits_end n b W p q h = chain_end_law n W
  read_lay (fits_node e f g) zero b W p q h = absurd (omega arith)
  read_lay (fits_node {k = k} {t = t} {ws = ws} e f g) (suc n) b W p q h =
      chain_at_law n b W p
      ∙ record_is _ _ k _ t ws (ap kind_of h.0.0 ∙ kind_number k)
      (ap (λ j. read_chain n W j) h.0.1.0 ∙ read_lay f n (suc b + size_words ws) W (omega arith) (omega arith) (stand_next t ws W (suc b) h.1))
      (read_lay_words g n (suc b) W (W b) 2 (omega arith) (omega arith) h.0.1.1 (stand_words t ws W (suc b) h.1))

  read_lay_words : {us : List Use} {ws : Words} → FitsWords us ws → (n b : ℕ) (W : ℕ → ℕ → ℕ) (w : ℕ → ℕ) (k : ℕ) → 0 < b → size_words ws ≤ n
      → Spelled w k (word_list b ws) → Stand W b (lay_words ws b) → read_words (λ j. read_chain n W j) w k us ≡ ws
  read_lay_words fits_none n b W w k p q r h = refl
  read_lay_words (fits_number f) n b W w k p q r h = cc (r.0, read_lay_words f n b W w (suc k) p q r.1 h)
  read_lay_words (fits_unused f) n b W w k p q r h = cc (r.0, read_lay_words f n b W w (suc k) p q r.1 h)
  read_lay_words (fits_first {t = t} {ws = ws} f g) n b W w k p q r h =
      let there = ap (λ j. read_chain n W j) r.0 ∙ read_lay f n b W p (omega arith) (stand_first t ws W b h) in
      ap₂ leads there (read_lay_words g n (b + size t) W w (suc k) (omega arith) (omega arith) r.1 (stand_others t ws W b h))

-- the whole tree, its first record the header
pub read_whole : {c : Chain} {t : Tree} → Fits c t → (n : ℕ) (W : ℕ → ℕ → ℕ) → 0 < size t → size t ≤ suc n → Stand W 0 (lay t 0)
    → read_tree W n ≡ t
unfolding lay size read_tree
read_whole fits_end n W p q h = absurd (omega arith)
read_whole (fits_node {k = k} {t = t} {ws = ws} e f g) n W p q h =
    record_is _ _ k _ t ws (ap kind_of h.0.0 ∙ kind_number k)
    (ap (λ j. read_chain n W j) h.0.1.0 ∙ read_lay f n (1 + size_words ws) W (omega arith) (omega arith) (stand_next t ws W 1 h.1))
    (read_lay_words g n 1 W (W 0) 2 (omega arith) (omega arith) h.0.1.1 (stand_words t ws W 1 h.1))
