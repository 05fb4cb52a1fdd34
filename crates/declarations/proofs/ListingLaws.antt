-- The invariant of listing the records of a chain in a part of a table.
use Prim.Native.Nat.{ℕ, zero, suc, ◌+◌, ◌≤◌, ◌<◌}
use native.Mathlib.Omega.{arith}
use native.Mathlib.Decide.{dec_lt}
use mathlib.Core.Path.{◌≡◌, refl, ap, sym, ◌∙◌}
use mathlib.Core.List.{List}
use mathlib.Core.Logic.{◌⊎◌, inl, inr}
use lib.ListN.{length, get_or, set, replicate, length-set, length-replicate}
use lib.Seq.{get_or-set_same, get_or-set_other}
use Rattle.laws.specs.Lists.{nth_past}
use Rattle.language.specs.Format.{next_word}
use Rattle.language.specs.Lists.{nth}
use Rattle.language.specs.File.{word, record_count}
use Rattle.chains.specs.Formed.{Formed}
use Rattle.chains.specs.Records.{chain_records, records_none, records_step}
use Rattle.declarations.specs.DeclaredPlaces.{place_in}
use Rattle.declarations.proofs.LookupLaws.{place_past, place_there}
use Rattle.declarations.specs.Listing.{Lists}

-- the chain at record i is what is left of the chain at record start after n records
pub record ChainLeft (f : List ℕ) (start n i : ℕ) : Type 0 where
  pub rest : (m : ℕ) → nth 0 (chain_records f start) (n + m) ≡ nth 0 (chain_records f i) m
  pub count : n + length (chain_records f i) ≡ length (chain_records f start)

pub left_all : (f : List ℕ) (start : ℕ) → ChainLeft f start 0 start
left_all f start = record { rest = λ m. ap (nth 0 (chain_records f start)) (omega arith); count = omega arith }

module _ {f : List ℕ} {start n i : ℕ} (L : ChainLeft f start n i) where
  module _ (F : Formed f) (z : i ≡ 0 → ⊥) (b : i < record_count f) where
    pub left_here : nth 0 (chain_records f start) n ≡ i
    unfolding nth
    left_here =
        ap (nth 0 (chain_records f start)) (omega arith) ∙ L.rest 0 ∙ ap (λ xs. nth 0 xs 0) (records_step {w = word f i next_word} F z b refl)

    pub left_room : n < length (chain_records f start)
    left_room = omega (arith, L.count, ap length (records_step {w = word f i next_word} F z b refl))

    pub left_next : {w m : ℕ} → w ≡ word f i next_word → m ≡ suc n → ChainLeft f start m w
    unfolding nth
    left_next {w} ew em = record {
      rest = λ k. ap (nth 0 (chain_records f start)) (omega arith) ∙ L.rest (suc k) ∙ ap (λ xs. nth 0 xs (suc k)) (records_step F z b ew);
      count = omega (arith, L.count, ap length (records_step {w = w} F z b ew));
    }

  pub left_end : i ≡ 0 → n ≡ length (chain_records f start)
  left_end z = omega (arith, L.count, ap length (records_none f z))

-- after n records; the places behind are as they were
pub record ListsSo (f : List ℕ) (start at n : ℕ) (t u : List ℕ) : Type 0 where
  pub kept : length u ≡ length t
  pub here : (m : ℕ) → m < n → get_or u (at + m) 0 ≡ nth 0 (chain_records f start) m
  pub other : (k : ℕ) → (k < at) ⊎ (at + n ≤ k) → get_or u k 0 ≡ get_or t k 0

pub lists_none : (f : List ℕ) (start at : ℕ) {t : List ℕ} → ListsSo f start at 0 t t
lists_none f start at = record { kept = refl; here = λ m h. absurd (omega arith); other = λ k h. refl }

pub lists_next : {f : List ℕ} {start at n : ℕ} {t u : List ℕ} → ListsSo f start at n t u → {n' : ℕ} → n' ≡ suc n → at + n < length t → {v : ℕ}
    → nth 0 (chain_records f start) n ≡ v → ListsSo f start at n' t (set u (at + n) v)
lists_next {f} {start} {at} {n} {t} {u} L {n'} en h {v} e = record { kept = simp length-set L.kept; here = there; other = others }
  where
    there : (m : ℕ) → m < n' → get_or (set u (at + n) v) (at + m) 0 ≡ nth 0 (chain_records f start) m
    there m a =
        elim (dec_lt m n) [
          | yes d ↦ get_or-set_other u (at + n) (at + m) v 0 (λ q. omega arith) ∙ L.here m d
          | no d ↦ let q : m ≡ n = omega arith in rw q (get_or-set_same u (at + n) v 0 (omega (arith, L.kept)) ∙ sym e)
        ]

    others : (k : ℕ) → (k < at) ⊎ (at + n' ≤ k) → get_or (set u (at + n) v) k 0 ≡ get_or t k 0
    others k (inl a) = get_or-set_other u (at + n) k v 0 (λ q. omega arith) ∙ L.other k (inl a)
    others k (inr a) = get_or-set_other u (at + n) k v 0 (λ q. omega arith) ∙ L.other k (inr (omega arith))

pub lists_all : {f : List ℕ} {start at n : ℕ} {t u : List ℕ} → ListsSo f start at n t u → n ≡ length (chain_records f start) → Lists f start at t u
lists_all L e = record {
  kept = L.kept;
  here = λ m h. L.here m (omega arith);
  other = λ k o. L.other k (elim o [ inl a ↦ inl a | inr a ↦ inr (omega arith) ]);
}

-- ---- looking up an entry of `most` places that had zeros
module _ {f : List ℕ} {start at : ℕ} {t u : List ℕ} (L : Lists f start at t u) (most : ℕ) (z : (k : ℕ) → at ≤ k → k < at + most → get_or t k 0 ≡ 0) where
  pub lists_entry : (n : ℕ) → n < most → get_or u (at + n) 0 ≡ nth 0 (chain_records f start) n
  lists_entry n l =
      elim (dec_lt n (length (chain_records f start))) [
        | yes d ↦ L.here n d
        | no d ↦ L.other (at + n) (inr (omega arith)) ∙ z (at + n) (omega arith) (omega arith) ∙ sym (nth_past 0 (chain_records f start) n (omega arith))
      ]

  pub lists_place : length (chain_records f start) ≤ most → (n : ℕ) → place_in u at most n ≡ nth 0 (chain_records f start) n
  lists_place h n =
      elim (dec_lt n most) [
        | yes l ↦ sym (place_there u at most n l) ∙ lists_entry n l
        | no l ↦ sym (place_past u at most n (omega arith)) ∙ sym (nth_past 0 (chain_records f start) n (omega arith))
      ]

-- ---- a table of zeros
zeros_at : (n k : ℕ) → ◌≡◌ {A = ℕ} (get_or (replicate n 0) k 0) 0
zeros_at zero k = refl
zeros_at (suc n) zero = refl
zeros_at (suc n) (suc k) = zeros_at n k

module _ (n : ℕ) {t : List ℕ} (e : t ≡ replicate n 0) where
  pub blank_length : n ≤ length t
  blank_length = omega (arith, ap length e, length-replicate {A = ℕ} n 0)

  pub blank_at : (k : ℕ) → get_or t k 0 ≡ 0
  blank_at k = ap (λ u. get_or u k 0) e ∙ zeros_at n k
