-- What holds of every word of a table, by its place, still does after stores of words of which it holds; and after passes of such stores.
use Prim.Native.Nat.{ℕ, zero, suc, ◌+◌, ◌≤◌, ◌<◌}
use Rattle.std.proofs.Common.{arith}
use Rattle.std.proofs.Math.Decide.{dec_lt}
use Rattle.std.specs.Prelude.{List, ◌≡◌, get_or, replicate}
use Rattle.std.proofs.lemmas.List.{get_or-replicate, length-replicate}
use Rattle.std.proofs.Math.ListN.{get_or-eq_default}
use Rattle.plans.specs.Passes.{each_from, each_down}
pub use Rattle.owners.specs.Handing.{Every, set_keeps}

module _ (Q : ℕ → ℕ → Type 0) where
  pub zeros_every : ((p : ℕ) → Q p 0) → (n : ℕ) {t : List ℕ} → t ≡ replicate n 0 → Every Q t
  zeros_every h n e p = rw e (go (dec_lt p n))
    where
      go : Dec (p < n) → Q p (get_or (replicate n 0) p 0)
      go (yes l) = rw (get_or-replicate {A = ℕ} n p 0 0 l) (h p)
      go (no l) = rw (get_or-eq_default {A = ℕ} (replicate n 0) 0 {n = p} (omega (arith, l, length-replicate {A = ℕ} n 0))) (h p)

  module _ (step : ℕ → List ℕ → List ℕ) where
    pub each_keeps : (m b : ℕ) → ((i : ℕ) → b ≤ i → i < b + m → (t : List ℕ) → Every Q t → Every Q (step i t)) → (t : List ℕ) → Every Q t → Every Q (each_from step m b t)
    unfolding each_from
    each_keeps zero b k t h = h
    each_keeps (suc m) b k t h = each_keeps m (suc b) (λ i l u. k i (omega arith) (omega arith)) (step b t) (k b (omega arith) (omega arith) t h)

    pub down_keeps : (n : ℕ) → ((i : ℕ) → i < n → (t : List ℕ) → Every Q t → Every Q (step i t)) → (t : List ℕ) → Every Q t → Every Q (each_down step n t)
    unfolding each_down
    down_keeps zero k t h = h
    down_keeps (suc n) k t h = down_keeps n (λ i l. k i (omega arith)) (step n t) (k n (omega arith) t h)
