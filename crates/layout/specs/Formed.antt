-- A tree that fits, in written order, passes number 2.
use Rattle.std.specs.Prelude.{ℕ, suc, ◌+◌, ◌-◌, ◌≤◌, ◌<◌, List, ◌≡◌, true, ◌⊎◌, eqb}
use Rattle.std.proofs.Common.{arith, ap, ◌∙◌, inl, inr, eq-eqb, lt-ltb}
use Rattle.std.proofs.Math.Decide.{dec_lt}
use Rattle.std.proofs.Math.Path.{refl}
use Rattle.sets.specs.Tests.{true_and, true_or_left, true_or_right}
use Rattle.language.specs.Lists.{count}
use Rattle.language.specs.File.{Kind, Chain, Use, row, kind_of, kind_at, reference_ok, words_ok, record_ok, leading, references, once_in, form_ok}
use Rattle.language.specs.Tree.{Tree, end, node, Words}
use Rattle.language.specs.Layout.{size, size_words, reference, word_list, lay, lay_words}
use Rattle.layout.specs.Table.{kind_number, chain_stands}
use Rattle.layout.specs.Fits.{Fits, fits_end, fits_node, FitsWords, fits_none, fits_number, fits_unused, fits_first}
use Rattle.layout.specs.Lists.{at_all, hit, hit_other, count_none, count_cons, run, run_add, run_suc, run_zero, run_in_law, hits, hits_add, hits_suc, hits_zero}
use Rattle.layout.specs.Standing.{Spelled, Stand, stand_words, stand_next, stand_first, stand_others}

module _ (W : ℕ → ℕ → ℕ) (n : ℕ) where
  -- ---- each record's words are as its row says
  reference_made : (i : ℕ) (c : Chain) (r : ℕ) → i < r → r < n → (row (kind_of (W r 0))).chain ≡ c → reference_ok W n i c r ≡ true
  unfolding reference_ok kind_at
  reference_made i c r p q e = true_or_right (eqb r 0) (true_and (lt-ltb _ _ p) (true_and (lt-ltb _ _ q) (chain_stands _ _ e)))

  reference_lay : {c : Chain} {t : Tree} → Fits c t → (b i : ℕ) → i < b → b + size t ≤ n → Stand W b (lay t b)
      → reference_ok W n i c (reference b t) ≡ true
  unfolding lay size reference reference_ok
  reference_lay fits_end b i p q h = true_or_left _ refl
  reference_lay (fits_node {k = k} e f g) b i p q h = reference_made i _ b p (omega arith) (ap (λ l. (row l).chain) (ap kind_of h.0.0 ∙ kind_number k) ∙ e)

  words_lay : {us : List Use} {ws : Words} → FitsWords us ws → (b i k : ℕ) → i < b → b + size_words ws ≤ n → Spelled (W i) k (word_list b ws)
      → Stand W b (lay_words ws b) → words_ok W n i k us ≡ true
  unfolding lay size word_list words_ok
  words_lay fits_none b i k p q r h = refl
  words_lay (fits_number f) b i k p q r h = words_lay f b i (suc k) p q r.1 h
  words_lay (fits_unused f) b i k p q r h = true_and (eq-eqb _ _ r.0) (words_lay f b i (suc k) p q r.1 h)
  words_lay (fits_first {t = t} {ws = ws} f g) b i k p q r h =
      true_and (rw r.0 (reference_lay f b i p (omega arith) (stand_first t ws W b h)))
      (words_lay g (b + size t) i (suc k) (omega arith) (omega arith) r.1 (stand_others t ws W b h))

  record_made : (i : ℕ) (k : Kind) → kind_of (W i 0) ≡ k → reference_ok W n i (row k).next (W i 1) ≡ true
      → words_ok W n i 2 (row k).words ≡ true → record_ok W n i ≡ true
  unfolding record_ok kind_at
  record_made i k e p q = rw e (true_and p q)

  -- the first record of a tree
  record_lay : (k : Kind) (t : Tree) (ws : Words) → Fits (row k).next t → FitsWords (row k).words ws → (b : ℕ)
      → suc b + (size_words ws + size t) ≤ n
      → Stand W b (lay (node k t ws) b) → record_ok W n b ≡ true
  unfolding lay
  record_lay k t ws f g b q h =
      record_made b k (ap kind_of h.0.0 ∙ kind_number k)
      (rw h.0.1.0 (reference_lay f (suc b + size_words ws) b (omega arith) (omega arith) (stand_next t ws W (suc b) h.1)))
      (words_lay g (suc b) b 2 (omega arith) (omega arith) h.0.1.1 (stand_words t ws W (suc b) h.1))

  halves : (b m l i : ℕ) → b ≤ i → i < b + (m + l) → (i < b + m) ⊎ (b + m ≤ i)
  halves b m l i p q = elim (dec_lt i (b + m)) [ yes y ↦ inl y | no z ↦ inr (omega arith) ]

  mutual
    unfolding lay size

    records_lay : {c : Chain} {t : Tree} → Fits c t → (b : ℕ) → b + size t ≤ n → Stand W b (lay t b) → (i : ℕ) → b ≤ i → i < b + size t
        → record_ok W n i ≡ true
    records_lay fits_end b q h i l m = absurd (omega arith)
    records_lay (fits_node {k = k} {t = t} {ws = ws} e f g) b q h i l m =
        elim (dec_lt b i) [
          | no z ↦ (let y : i ≡ b = omega arith in rw y (record_lay k t ws f g b (omega arith) h))
          | yes z ↦ elim (halves (suc b) (size_words ws) (size t) i z (omega arith)) [
            | inl y ↦ records_lay_words g (suc b) (omega arith) (stand_words t ws W (suc b) h.1) i z y
            | inr y ↦ records_lay f (suc b + size_words ws) (omega arith) (stand_next t ws W (suc b) h.1) i y (omega arith)
          ]
        ]

    records_lay_words : {us : List Use} {ws : Words} → FitsWords us ws → (b : ℕ) → b + size_words ws ≤ n → Stand W b (lay_words ws b) → (i : ℕ)
        → b ≤ i → i < b + size_words ws → record_ok W n i ≡ true
    records_lay_words fits_none b q h i l m = absurd (omega arith)
    records_lay_words (fits_number f) b q h i l m = records_lay_words f b q h i l m
    records_lay_words (fits_unused f) b q h i l m = records_lay_words f b q h i l m
    records_lay_words (fits_first {t = t} {ws = ws} f g) b q h i l m =
        elim (halves b (size t) (size_words ws) i l m) [
          | inl y ↦ records_lay f b (omega arith) (stand_first t ws W b h) i l y
          | inr y ↦ records_lay_words g (b + size t) (omega arith) (stand_others t ws W b h) i y (omega arith)
        ]

  -- ---- each record but the first is referred to once
  count_references : (i j : ℕ) (k : Kind) → kind_of (W i 0) ≡ k
      → count j (references W n i) ≡ hit (W i 1) j + count j (leading W n i 2 (row k).words)
  unfolding references kind_at
  count_references i j k e = rw e (count_cons j (W i 1) _)

  mutual
    unfolding lay size reference word_list leading

    -- the records of a tree and the one reference to it refer to each of them once, and to nothing else
    hits_lay : {c : Chain} {t : Tree} → Fits c t → (b j : ℕ) → 0 < j → Stand W b (lay t b)
        → hit (reference b t) j + hits W n b (size t) j ≡ run b (size t) j
    hits_lay fits_end b j p h = omega (arith, hit_other 0 j (omega arith), hits_zero W n b j, run_zero b j)
    hits_lay (fits_node {k = k} {t = t} {ws = ws} e f g) b j p h =
        let c = suc b + size_words ws in
        let e1 : hit (W b 1) j ≡ hit (reference c t) j = ap (λ r. hit r j) h.0.1.0 in
        let own = count_references b j k (ap kind_of h.0.0 ∙ kind_number k) in
        let inner = hits_lay_words g (suc b) j b 2 p h.0.1.1 (stand_words t ws W (suc b) h.1) in
        let after = hits_lay f c j p (stand_next t ws W (suc b) h.1) in
        let records = hits_suc W n (size_words ws + size t) b j ∙ ap (λ x. count j (references W n b) + x) (hits_add W n (size_words ws) (size t) (suc b) c j refl) in
        omega (arith, run_suc (size_words ws + size t) b j, run_add (size_words ws) (size t) (suc b) j)

    hits_lay_words : {us : List Use} {ws : Words} → FitsWords us ws → (b j i k : ℕ) → 0 < j → Spelled (W i) k (word_list b ws)
        → Stand W b (lay_words ws b) → count j (leading W n i k us) + hits W n b (size_words ws) j ≡ run b (size_words ws) j
    hits_lay_words fits_none b j i k p r h = omega (arith, count_none j, hits_zero W n b j, run_zero b j)
    hits_lay_words (fits_number f) b j i k p r h = hits_lay_words f b j i (suc k) p r.1 h
    hits_lay_words (fits_unused f) b j i k p r h = hits_lay_words f b j i (suc k) p r.1 h
    hits_lay_words (fits_first {us = us} {t = t} {ws = ws} f g) b j i k p r h =
        let e1 : hit (W i k) j ≡ hit (reference b t) j = ap (λ x. hit x j) r.0 in
        let own = count_cons j (W i k) (leading W n i (suc k) us) in
        let there = hits_lay f b j p (stand_first t ws W b h) in
        let others = hits_lay_words g (b + size t) j i (suc k) p r.1 (stand_others t ws W b h) in
        omega (arith, hits_add W n (size t) (size_words ws) b (b + size t) j refl, run_add (size t) (size_words ws) b j)

  reference_first : (t : Tree) (j : ℕ) → 0 < j → hit (reference 0 t) j ≡ 0
  unfolding reference
  reference_first end j p = hit_other 0 j (omega arith)
  reference_first (node k t ws) j p = hit_other 0 j (omega arith)

once_lay : {c : Chain} {t : Tree} → Fits c t → (W : ℕ → ℕ → ℕ) → Stand W 0 (lay t 0) → (j : ℕ) → 0 < j → j < size t
    → hits W (size t) 0 (size t) j ≡ 1
once_lay {t = t} f W h j p q =
    omega (arith, hits_lay W (size t) f 0 j p h, reference_first W (size t) t j p, run_in_law (size t) 0 j (omega arith) (omega arith))

-- a whole tree, from record 0 on
pub lay_formed : {c : Chain} {t : Tree} → Fits c t → (W : ℕ → ℕ → ℕ) → Stand W 0 (lay t 0) → form_ok W (size t) ≡ true
unfolding form_ok once_in hits
lay_formed {t = t} f W h =
    true_and (at_all (size t) 0 _ (λ i p q. records_lay W (size t) f 0 (omega arith) h i p q))
    (at_all (size t - 1) 1 _ (λ j p q. eq-eqb (hits W (size t) 0 (size t) j) 1 (once_lay f W h j p (omega arith))))
