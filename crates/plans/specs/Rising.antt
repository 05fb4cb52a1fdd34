-- A pass from the first up: the step of each in turn. Where a step changes its own places only, what stands at the end is as its own step left it.
use Prim.Native.Nat.{ℕ, zero, suc, ◌+◌, ◌-◌, ◌≤◌, ◌<◌}
use native.Mathlib.Omega.{arith}
use Rattle.std.proofs.Math.Decide.{ℕ_discrete}
use Rattle.std.proofs.Math.Numerals.{add-one}
use Rattle.std.specs.Prelude.{List, ◌≡◌, length, get_or}
use Rattle.std.proofs.Math.Path.{refl}
use Rattle.std.proofs.Common.{ap, ◌∙◌}
use Rattle.plans.specs.Passes.{each_from}

module _ (step : ℕ → List ℕ → List ℕ) where
  pub each_more : (n i : ℕ) (t : List ℕ) {u : List ℕ} → i < n → u ≡ step i t → each_from step (n - (i + 1)) (i + 1) u ≡ each_from step (n - i) i t
  unfolding each_from
  each_more n i t l e =
      let d : n - i ≡ suc (n - (i + 1)) = omega arith in
      rw (d, add-one i, e)

  pub each_end : (n i : ℕ) (t : List ℕ) → n ≤ i → t ≡ each_from step (n - i) i t
  unfolding each_from
  each_end n i t l = let e : n - i ≡ 0 = omega arith in rw e

-- i is next, of n; t₀ stood at the start
pub record Rising (step : ℕ → List ℕ → List ℕ) (n : ℕ) (t₀ : List ℕ) (i : ℕ) (t : List ℕ) : Type 0 where
  pub rest : each_from step (n - i) i t ≡ each_from step n 0 t₀

module _ (step : ℕ → List ℕ → List ℕ) {n : ℕ} where
  pub rising_first : (t : List ℕ) → Rising step n t 0 t
  rising_first t = let e : n - 0 ≡ n = omega arith in record { rest = ap (λ (m : ℕ). each_from step m 0 t) e }

  module _ {t₀ : List ℕ} {i : ℕ} {t : List ℕ} (R : Rising step n t₀ i t) where
    pub rising_more : i < n → {u : List ℕ} → u ≡ step i t → Rising step n t₀ (i + 1) u
    rising_more l e = record { rest = each_more step n i t l e ∙ R.rest }

    pub rising_last : n ≤ i → t ≡ each_from step n 0 t₀
    rising_last l = each_end step n i t l ∙ R.rest

-- ---- what stands at the end: `owner` says whose a place is
module _ (step : ℕ → List ℕ → List ℕ) (owner : ℕ → ℕ)
    (own : (i : ℕ) (t : List ℕ) (p : ℕ) → (owner p ≡ i → ⊥) → get_or (step i t) p 0 ≡ get_or t p 0) where
  from_below : (m b : ℕ) (t : List ℕ) (p : ℕ) → owner p < b → get_or (each_from step m b t) p 0 ≡ get_or t p 0
  unfolding each_from
  from_below zero b t p h = refl
  from_below (suc m) b t p h = from_below m (suc b) (step b t) p (omega arith) ∙ own b t p (λ e. omega arith)

  -- the table u that the step of i finds
  pub record StepMeets (m b i : ℕ) (t u : List ℕ) : Type 0 where
    pub here : (p : ℕ) → owner p ≡ i → get_or (each_from step m b t) p 0 ≡ get_or (step i u) p 0
    pub long : length u ≡ length t

  module _ (same : (i : ℕ) (t : List ℕ) → length (step i t) ≡ length t) where
    met_first : (m b : ℕ) (t : List ℕ) → StepMeets (suc m) b b t t
    unfolding each_from
    met_first m b t = record { here = λ p o. from_below m (suc b) (step b t) p (omega arith); long = refl }

    met_later : (m b i : ℕ) (t u : List ℕ) → StepMeets m (suc b) i (step b t) u → StepMeets (suc m) b i t u
    unfolding each_from
    met_later m b i t u R = record { here = R.here; long = R.long ∙ same b t }

    pub met : (m b i : ℕ) → b ≤ i → i < b + m → (t : List ℕ) → (u : List ℕ) × StepMeets m b i t u
    met zero b i l h t = absurd (omega arith)
    met (suc m) b i l h t = elim (ℕ_discrete i b) [
      | yes e ↦ rw e (t, met_first m b t)
      | no ne ↦ (let r = met m (suc b) i (omega (arith, ne)) (omega arith) (step b t) in (r.0, met_later m b i t r.0 r.1))
    ]
