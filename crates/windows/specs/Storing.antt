-- Stores into a table: what stands at each place afterwards.
use Rattle.std.specs.Prelude.{ℕ, ◌+◌, ◌≤◌, ◌<◌, List, ◌≡◌, length, get_or, set}
use Rattle.std.proofs.Common.{ap, ◌∙◌, get_or-set_same, get_or-set_other}

-- one store: the place has it, every other is as it was
pub set_here : (t : List ℕ) {u : List ℕ} {m w : ℕ} → m < length t → u ≡ set t m w → {p : ℕ} → p ≡ m → get_or u p 0 ≡ w
set_here t {u} {m} {w} l e {p} q = ap (λ (x : List ℕ). get_or x p 0) e ∙ ap (λ (k : ℕ). get_or (set t m w) k 0) q ∙ get_or-set_same t m w 0 l

pub set_else : (t : List ℕ) (m w : ℕ) {u : List ℕ} → u ≡ set t m w → (p : ℕ) → (p ≡ m → ⊥) → get_or u p 0 ≡ get_or t p 0
set_else t m w {u} e p n = ap (λ (x : List ℕ). get_or x p 0) e ∙ get_or-set_other t m p w 0 n

-- the first n of the words stand from place at on
pub record StoredWords (t₀ : List ℕ) (at : ℕ) (words : List ℕ) (n : ℕ) (t : List ℕ) : Type 0 where
  pub there : (k : ℕ) → k < n → get_or t (at + k) 0 ≡ get_or words k 0
  pub before : (p : ℕ) → p < at → get_or t p 0 ≡ get_or t₀ p 0
  pub behind : (p : ℕ) → at + n ≤ p → get_or t p 0 ≡ get_or t₀ p 0
