-- In a file that passes number 2, its first record the header, every record but 0 is of a known kind and stands in a chain of records.
use Rattle.std.specs.Prelude.{ℕ, zero, suc, ◌+◌, ◌≤◌, ◌<◌, ◌≡◌, refl, Bool, true, false, ◌⊎◌, eqb}
use Rattle.std.proofs.Common.{arith, sym, ◌∙◌, inl, inr, eqb-true}
use Rattle.std.proofs.Math.Decide.{dec_lt}
use mathlib.Core.List.{List, [], ◌∷◌}
use Rattle.std.proofs.Math.Path.{ap}
use Rattle.std.proofs.lemmas.Bool.{false≢true}
use Rattle.sets.specs.Tests.{◌&◌, and_true}
use Rattle.language.specs.Lists.{one, count}
use Rattle.language.specs.File.{k_literal, k_sum, k_assign, k_construct, k_switch, k_if, k_call, k_print, k_create, k_remove, k_try, k_test, Kind, k_none, k_header, k_type, k_functor, k_procedure, k_variable, k_region, k_edge, k_arm, k_argument, k_goal, Chain, Use, number, unused, first, row, kind_of, kind_at, leading, references, form_ok}
use Rattle.layout.specs.Table.{all_rows, number_kind}
use Rattle.layout.specs.Lists.{hit, count_none, count_cons, hits, hits_suc, hits_zero}
use Rattle.layout.specs.Passing.{Leads, Used, once, next_leads, record_used}
use Rattle.layout.specs.Chains.{real}

reals : List Use → Bool
reals [] = true
reals (number ∷ us) = reals us
reals (unused ∷ us) = reals us
reals (first c ∷ us) = real c & reals us

-- the header and every record that stands in a chain refer to chains only
row_real : (k : Kind) → (k ≡ k_header) ⊎ (real (row k).chain ≡ true) → reals (first (row k).next ∷ (row k).words) ≡ true
unfolding all_rows real reals ◌&◌
row_real k_none (inl e) = cc
row_real k_none (inr e) = e
row_real k_header r = refl
row_real k_type r = refl
row_real k_functor r = refl
row_real k_procedure r = refl
row_real k_variable r = refl
row_real k_region r = refl
row_real k_edge r = refl
row_real k_arm r = refl
row_real k_argument r = refl
row_real (k_goal k_literal) r = refl
row_real (k_goal k_sum) r = refl
row_real (k_goal k_assign) r = refl
row_real (k_goal k_construct) r = refl
row_real (k_goal k_switch) r = refl
row_real (k_goal k_if) r = refl
row_real (k_goal k_call) r = refl
row_real (k_goal k_print) r = refl
row_real (k_goal k_create) r = refl
row_real (k_goal k_remove) r = refl
row_real (k_goal k_try) r = refl
row_real (k_goal k_test) r = refl

one_is : (b : Bool) → 0 < one b → b ≡ true
unfolding one
one_is true h = refl
one_is false h = absurd (omega arith)

hit_is : (r j : ℕ) → 0 < hit r j → r ≡ j
unfolding hit
hit_is r j h = eqb-true r j (one_is (eqb r j) h)

-- the number of a record that stands in a chain is its kind's
pub real_number : (w : ℕ) → real (row (kind_of w)).chain ≡ true → w ≡ (row (kind_of w)).kind
unfolding all_rows real
real_number w r = elim (number_kind w) [ inl e ↦ absurd (false≢true (ap (λ k. real (row k).chain) (sym e) ∙ r)) | inr e ↦ e ]

module _ (W : ℕ → ℕ → ℕ) (n : ℕ) where
  -- a record that refers to j stands before it, and to a chain only if its row says so
  leads_to : (i : ℕ) (c : Chain) (r j : ℕ) → Leads W n i c r → 0 < hit r j → 0 < j → (i < j) × ((row (kind_of (W j 0))).chain ≡ c)
  leads_to i c r j l h p = let q : r ≡ j = hit_is r j h in elim l [ inl z ↦ absurd (omega arith) | inr z ↦ (omega arith, rw q at z.2) ]

  used_to : (us : List Use) (i k j : ℕ) → Used W n i k us → 0 < count j (leading W n i k us) → 0 < j
      → (i < j) × (reals us ≡ true → real (row (kind_of (W j 0))).chain ≡ true)
  unfolding leading reals
  used_to [] i k j u h p = absurd (omega (arith, count_none j))
  used_to (number ∷ us) i k j u h p = used_to us i (suc k) j u h p
  used_to (unused ∷ us) i k j u h p = used_to us i (suc k) j u.1 h p
  used_to (first c ∷ us) i k j u h p =
      elim (dec_lt 0 (hit (W i k) j)) [
        | yes y ↦ (let z = leads_to i c (W i k) j u.0 y p in (z.0, λ r. ap real z.1 ∙ (and_true r).0))
        | no y ↦ (let z = used_to us i (suc k) j u.1 (omega (arith, count_cons j (W i k) (leading W n i (suc k) us))) p in (z.0, λ r. z.1 (and_true r).1))
      ]

  hits_some : (m b j : ℕ) → 0 < hits W n b m j → (i : ℕ) × (b ≤ i) × (i < b + m) × (0 < count j (references W n i))
  hits_some zero b j h = absurd (omega (arith, hits_zero W n b j))
  hits_some (suc m) b j h =
      elim (dec_lt 0 (count j (references W n b))) [
        | yes y ↦ (b, omega arith, omega arith, y)
        | no y ↦ (let z = hits_some m (suc b) j (omega (arith, hits_suc W n m b j)) in (z.0, omega arith, omega arith, z.3))
      ]

  module _ (P : form_ok W n ≡ true) (header : kind_of (W 0 0) ≡ k_header) where
    record_to : (i j : ℕ) → i < n → 0 < count j (references W n i) → 0 < j
        → (i < j) × (reals (first (row (kind_of (W i 0))).next ∷ (row (kind_of (W i 0))).words) ≡ true → real (row (kind_of (W j 0))).chain ≡ true)
    unfolding references kind_at leading
    record_to i j q h p = used_to (first (row (kind_of (W i 0))).next ∷ (row (kind_of (W i 0))).words) i 1 j (next_leads W n P i q, record_used W n P i q) h p

    real_up_to : (m j : ℕ) → j ≤ m → 0 < j → j < n → real (row (kind_of (W j 0))).chain ≡ true
    real_up_to zero j l p q = absurd (omega arith)
    real_up_to (suc m) j l p q =
        let s = hits_some n 0 j (omega (arith, once W n P j p q)) in
        let z = record_to s.0 j (omega arith) s.3 p in
        z.1 (row_real (kind_of (W s.0 0)) (elim (dec_lt 0 s.0) [
          | yes y ↦ inr (real_up_to m s.0 (omega arith) y (omega arith))
          | no y ↦ inl (let o : s.0 ≡ 0 = omega arith in rw o header)
        ]))

    pub known_chain : (j : ℕ) → 0 < j → j < n → real (row (kind_of (W j 0))).chain ≡ true
    known_chain j p q = real_up_to j j (omega arith) p q

    pub known_number : (j : ℕ) → 0 < j → j < n → W j 0 ≡ (row (kind_of (W j 0))).kind
    known_number j p q = real_number (W j 0) (known_chain j p q)
