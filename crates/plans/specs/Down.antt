-- A pass from the last record down to the first, whose step for a record changes that record's places only.
use Prim.Native.Nat.{ℕ, zero, suc, ◌-◌, ◌≤◌, ◌<◌}
use native.Mathlib.Omega.{arith}
use Rattle.std.proofs.Math.Decide.{ℕ_discrete}
use Rattle.std.specs.Prelude.{List, ◌≡◌, length, get_or}
use Rattle.std.proofs.Math.Path.{refl, sym}
use Rattle.std.proofs.Common.{ap, ◌∙◌}
use Rattle.plans.specs.Passes.{each_down}

-- records below i are still to do, of n; t₀ stood at the start
pub record Down (step : ℕ → List ℕ → List ℕ) (n : ℕ) (t₀ : List ℕ) (i : ℕ) (t : List ℕ) : Type 0 where
  pub most : i ≤ n
  pub rest : each_down step i t ≡ each_down step n t₀

one_down : (step : ℕ → List ℕ → List ℕ) (i : ℕ) (t : List ℕ) → 0 < i → each_down step (i - 1) (step (i - 1) t) ≡ each_down step i t
unfolding each_down
one_down step zero t l = absurd (omega arith)
one_down step (suc i) t l = let e : suc i - 1 ≡ i = omega arith in rw e refl

module _ (step : ℕ → List ℕ → List ℕ) {n : ℕ} where
  pub down_first : (t : List ℕ) → Down step n t n t
  down_first t = record { most = omega arith; rest = refl }

  module _ {t₀ : List ℕ} {i : ℕ} {t : List ℕ} (D : Down step n t₀ i t) where
    pub down_more : 0 < i → {u : List ℕ} → u ≡ step (i - 1) t → Down step n t₀ (i - 1) u
    down_more l e = record { most = omega (arith, D.most); rest = ap (each_down step (i - 1)) e ∙ one_down step i t l ∙ D.rest }

    pub down_last : i ≤ 0 → t ≡ each_down step n t₀
    unfolding each_down
    down_last l = let z : i ≡ 0 = omega arith in rw z at D.rest

-- ---- what stands at the end: `owner` says whose a place is; records are below `top`
module _ (step : ℕ → List ℕ → List ℕ) (owner : ℕ → ℕ) (top : ℕ)
    (own : (i : ℕ) → i < top → (t : List ℕ) (p : ℕ) → (owner p ≡ i → ⊥) → get_or (step i t) p 0 ≡ get_or t p 0) where
  down_above : (n : ℕ) → n ≤ top → (t : List ℕ) (p : ℕ) → n ≤ owner p → get_or (each_down step n t) p 0 ≡ get_or t p 0
  unfolding each_down
  down_above zero l t p h = refl
  down_above (suc n) l t p h = down_above n (omega arith) (step n t) p (omega arith) ∙ own n (omega arith) t p (λ e. omega arith)

  -- the table u that the step of record i finds: later records are done
  pub record StepFinds (n i : ℕ) (t u : List ℕ) : Type 0 where
    pub here : (p : ℕ) → owner p ≡ i → get_or (each_down step n t) p 0 ≡ get_or (step i u) p 0
    pub low : (p : ℕ) → owner p ≤ i → get_or u p 0 ≡ get_or t p 0
    pub high : (p : ℕ) → i < owner p → get_or u p 0 ≡ get_or (each_down step n t) p 0
    pub long : length u ≡ length t

  module _ (same : (i : ℕ) (t : List ℕ) → length (step i t) ≡ length t) where
    found_first : (n : ℕ) → suc n ≤ top → (t : List ℕ) → StepFinds (suc n) n t t
    unfolding each_down
    found_first n l t = record {
      here = λ p o. down_above n (omega arith) (step n t) p (omega arith);
      low = λ p o. refl;
      high = λ p o. sym (down_above n (omega arith) (step n t) p (omega arith) ∙ own n (omega arith) t p (λ z. omega arith));
      long = refl;
    }

    found_later : (n i : ℕ) → suc n ≤ top → i < n → (t u : List ℕ) → StepFinds n i (step n t) u → StepFinds (suc n) i t u
    unfolding each_down
    found_later n i l h t u R = record {
      here = R.here;
      low = λ p o. R.low p o ∙ own n (omega arith) t p (λ z. omega arith);
      high = R.high;
      long = R.long ∙ same n t;
    }

    pub found : (n i : ℕ) → n ≤ top → i < n → (t : List ℕ) → (u : List ℕ) × StepFinds n i t u
    found zero i l h t = absurd (omega arith)
    found (suc n) i l h t = elim (ℕ_discrete i n) [
      | yes e ↦ rw e (t, found_first n l t)
      | no ne ↦ (let r = found n i (omega arith) (omega (arith, ne)) (step n t) in (r.0, found_later n i l (omega (arith, ne)) t r.0 r.1))
    ]
