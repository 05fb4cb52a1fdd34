-- Words that pass number 2: what each reference leads to, the step equation of the chains, and that they fit the table.
use Prim.Native.Nat.{ℕ, zero, suc, ◌+◌, ◌-◌, ◌≤◌, ◌<◌}
use Rattle.std.proofs.Common.{arith, sym, ◌∙◌}
use mathlib.Core.List.{List, [], ◌∷◌}
use Rattle.std.specs.Prelude.{◌≡◌, true, ◌⊎◌}
use Rattle.std.proofs.Math.Path.{refl}
use Rattle.std.proofs.Math.Logic.{inl, inr}
use Rattle.std.proofs.Math.Dec.{eqb}
use borrow.Author.Tests.{eqb-true, ltb-true}
use Rattle.sets.specs.Tests.{and_true, or_true}
use Rattle.language.specs.File.{Chain, Use, number, unused, first, row, kind_of, kind_at, reference_ok, words_ok, record_ok, once_in, form_ok}
use Rattle.language.specs.Tree.{Tree, read_words, read_record, read_chain}
use Rattle.layout.specs.Table.{stands_chain}
use Rattle.layout.specs.Fits.{Fits, fits_end, fits_node, FitsWords, fits_none, fits_number, fits_unused, fits_first}
use Rattle.layout.specs.Lists.{all_at, hits}
use Rattle.layout.specs.Standing.{chain_end_law, chain_at_law}

-- a chain of the sort c may start at record i: the end, or a record that stands in such a chain
abbrev pub Starts : (ℕ → ℕ → ℕ) → ℕ → Chain → ℕ → Type 0
Starts W n c i = (i ≡ 0) ⊎ ((i < n) × ((row (kind_of (W i 0))).chain ≡ c))

-- record i may refer to a chain of the sort c at r: likewise, and above record i
abbrev pub Leads : (ℕ → ℕ → ℕ) → ℕ → ℕ → Chain → ℕ → Type 0
Leads W n i c r = (r ≡ 0) ⊎ ((i < r) × (r < n) × ((row (kind_of (W r 0))).chain ≡ c))

module _ (W : ℕ → ℕ → ℕ) (n : ℕ) where
  pub leads_starts : (i : ℕ) (c : Chain) (r : ℕ) → Leads W n i c r → Starts W n c r
  leads_starts i c r l = elim l [ inl z ↦ inl z | inr z ↦ inr (z.1, z.2) ]

  reference_leads : (i : ℕ) (c : Chain) (r : ℕ) → reference_ok W n i c r ≡ true → Leads W n i c r
  unfolding reference_ok kind_at
  reference_leads i c r e =
      elim (or_true e) [
        | inl z ↦ inl (eqb-true _ _ z)
        | inr z ↦ inr (ltb-true _ _ (and_true z).0, ltb-true _ _ (and_true (and_true z).1).0, stands_chain _ _ (and_true (and_true z).1).1)
      ]

  -- what the words of record i from word k on are, by their uses
  abbrev pub Used : ℕ → ℕ → List Use → Type 0
  Used i k [] = Unit {0}
  Used i k (number ∷ us) = Used i (suc k) us
  Used i k (unused ∷ us) = (W i k ≡ 0) × Used i (suc k) us
  Used i k (first c ∷ us) = Leads W n i c (W i k) × Used i (suc k) us

  words_used : (us : List Use) (i k : ℕ) → words_ok W n i k us ≡ true → Used i k us
  unfolding words_ok
  words_used [] i k e = tt
  words_used (number ∷ us) i k e = words_used us i (suc k) e
  words_used (unused ∷ us) i k e = (eqb-true _ _ (and_true e).0, words_used us i (suc k) (and_true e).1)
  words_used (first c ∷ us) i k e = (reference_leads i c _ (and_true e).0, words_used us i (suc k) (and_true e).1)

  -- ---- two readers that agree on what a record refers to read the same there
  words_same : (us : List Use) (i k : ℕ) (g h : ℕ → Tree) → Used i k us → ((j : ℕ) (c : Chain) → Leads W n i c j → g j ≡ h j)
      → read_words g (W i) k us ≡ read_words h (W i) k us
  unfolding read_words
  words_same [] i k g h u e = refl
  words_same (number ∷ us) i k g h u e = cc (words_same us i (suc k) g h u e)
  words_same (unused ∷ us) i k g h u e = cc (words_same us i (suc k) g h u.1 e)
  words_same (first c ∷ us) i k g h u e = cc (e (W i k) c u.0, words_same us i (suc k) g h u.1 e)

  words_fit : (us : List Use) (i k : ℕ) (g : ℕ → Tree) → Used i k us → ((j : ℕ) (c : Chain) → Leads W n i c j → Fits c (g j))
      → FitsWords us (read_words g (W i) k us)
  unfolding read_words
  words_fit [] i k g u h = fits_none
  words_fit (number ∷ us) i k g u h = fits_number (words_fit us i (suc k) g u h)
  words_fit (unused ∷ us) i k g u h = rw u.0 (fits_unused (words_fit us i (suc k) g u.1 h))
  words_fit (first c ∷ us) i k g u h = fits_first (h _ c u.0) (words_fit us i (suc k) g u.1 h)

  module _ (P : form_ok W n ≡ true) where
    pub record_ok_law : (i : ℕ) → i < n → record_ok W n i ≡ true
    unfolding form_ok
    record_ok_law i p = all_at n 0 _ (and_true P).0 i (omega arith) (omega arith)

    pub once : (j : ℕ) → 0 < j → j < n → hits W n 0 n j ≡ 1
    unfolding form_ok once_in hits
    once j p q = eqb-true _ _ (all_at (n - 1) 1 (λ j. eqb (hits W n 0 n j) 1) (and_true P).1 j p (omega arith))

    -- ---- what the words of a record lead to
    pub next_leads : (i : ℕ) → i < n → Leads W n i (row (kind_of (W i 0))).next (W i 1)
    unfolding record_ok kind_at
    next_leads i p = reference_leads i _ _ (and_true (record_ok_law i p)).0

    pub record_used : (i : ℕ) → i < n → Used i 2 (row (kind_of (W i 0))).words
    unfolding record_ok kind_at
    record_used i p = words_used (row (kind_of (W i 0))).words i 2 (and_true (record_ok_law i p)).1

    record_same : (i : ℕ) (g h : ℕ → Tree) → i < n → ((j : ℕ) (c : Chain) → Leads W n i c j → g j ≡ h j)
        → read_record g (W i) (kind_of (W i 0)) ≡ read_record h (W i) (kind_of (W i 0))
    unfolding read_record
    record_same i g h p e = cc (e (W i 1) _ (next_leads i p), words_same (row (kind_of (W i 0))).words i 2 g h (record_used i p) e)

    -- ---- the chains
    -- the bound does not matter where it is enough
    chain_bound : (m l i : ℕ) → (i ≡ 0) ⊎ ((0 < i) × (i < n) × (n ≤ m + i) × (n ≤ l + i)) → read_chain m W i ≡ read_chain l W i
    chain_bound zero l i (inl z) = rw z (chain_end_law 0 W ∙ sym (chain_end_law l W))
    chain_bound zero l i (inr z) = absurd (omega arith)
    chain_bound (suc m) l i (inl z) = rw z (chain_end_law _ W ∙ sym (chain_end_law l W))
    chain_bound (suc m) zero i (inr z) = absurd (omega arith)
    chain_bound (suc m) (suc l) i (inr z) =
        chain_at_law m i W z.0
        ∙ record_same i (λ j. read_chain m W j) (λ j. read_chain l W j) z.1 (λ j c a. chain_bound m l j (elim a [ inl y ↦ inl y | inr y ↦ inr (omega arith) ]))
        ∙ sym (chain_at_law l i W z.0)

    -- THE STEP EQUATION: a chain is its first record, and each of its references the chain there
    pub chain_step : (i : ℕ) → 0 < i → i < n → read_chain n W i ≡ read_record (λ j. read_chain n W j) (W i) (kind_of (W i 0))
    chain_step i p q = chain_bound n (suc n) i (inr (omega arith)) ∙ chain_at_law n i W p

    record_fits : (i : ℕ) (g : ℕ → Tree) → i < n → ((j : ℕ) (c : Chain) → Leads W n i c j → Fits c (g j))
        → Fits (row (kind_of (W i 0))).chain (read_record g (W i) (kind_of (W i 0)))
    unfolding read_record
    record_fits i g p h = fits_node refl (h _ _ (next_leads i p)) (words_fit (row (kind_of (W i 0))).words i 2 g (record_used i p) h)

    chain_fits_up_to : (m i : ℕ) (c : Chain) → Starts W n c i → Fits c (read_chain m W i)
    unfolding read_chain
    chain_fits_up_to zero i c s = fits_end
    chain_fits_up_to (suc m) zero c s = fits_end
    chain_fits_up_to (suc m) (suc i) c (inl z) = absurd (omega arith)
    chain_fits_up_to (suc m) (suc i) c (inr z) =
        rw z.1 at (record_fits (suc i) (λ j. read_chain m W j) z.0 (λ j d r. chain_fits_up_to m j d (leads_starts (suc i) d j r)))

    pub chain_fits : (i : ℕ) (c : Chain) → Starts W n c i → Fits c (read_chain n W i)
    chain_fits i c s = chain_fits_up_to n i c s
