-- Words moved from one list to another: a frame that is saved, and put back.
use Rattle.std.specs.Prelude.{ℕ, zero, suc, ◌+◌, ◌-◌, ◌≤◌, ◌<◌, ◌≡◌, refl, List, ◌≢◌, length, get_or, set}
use Rattle.std.proofs.Common.{arith, ◌∙◌, length-set, get_or-set_same, get_or-set_other}
use Rattle.std.proofs.Math.Decide.{ℕ_discrete}

-- n words of `from`, from place p on, to place q of `to`
unfoldable pub moved : ℕ → ℕ → ℕ → List ℕ → List ℕ → List ℕ
moved p q zero from to = to
moved p q (suc n) from to = moved p q n from (set to (q + n) (get_or from (p + n) 0))

pub moved_length : (p q n : ℕ) (from to : List ℕ) → length (moved p q n from to) ≡ length to
unfolding moved
moved_length p q zero from to = refl
moved_length p q (suc n) from to = moved_length p q n from (set to (q + n) (get_or from (p + n) 0)) ∙ length-set to (q + n) (get_or from (p + n) 0)

-- a word elsewhere
pub moved_other : (p q n : ℕ) (from to : List ℕ) (j : ℕ) → ((i : ℕ) → i < n → j ≢ q + i) → get_or (moved p q n from to) j 0 ≡ get_or to j 0
unfolding moved
moved_other p q zero from to j out = refl
moved_other p q (suc n) from to j out =
    moved_other p q n from (set to (q + n) (get_or from (p + n) 0)) j (λ i l. out i (omega arith))
    ∙ get_or-set_other to (q + n) j (get_or from (p + n) 0) 0 (out n (omega arith))

-- a word that is moved
pub moved_here : (p q n : ℕ) (from to : List ℕ) (i : ℕ) → i < n → q + n ≤ length to → get_or (moved p q n from to) (q + i) 0 ≡ get_or from (p + i) 0
unfolding moved
moved_here p q zero from to i l h = absurd (omega arith)
moved_here p q (suc n) from to i l h =
    go (λ g. moved_here p q n from (set to (q + n) (get_or from (p + n) 0)) i g (omega (arith, length-set to (q + n) (get_or from (p + n) 0)))) (ℕ_discrete i n)
  where
    go : (i < n → get_or (moved p q n from (set to (q + n) (get_or from (p + n) 0))) (q + i) 0 ≡ get_or from (p + i) 0) → Dec (i ≡ n)
        → get_or (moved p q n from (set to (q + n) (get_or from (p + n) 0))) (q + i) 0 ≡ get_or from (p + i) 0
    go ih (yes z) =
        rw z
        (moved_other p q n from (set to (q + n) (get_or from (p + n) 0)) (q + n) (λ k g w. omega arith)
        ∙ get_or-set_same to (q + n) (get_or from (p + n) 0) 0 (omega arith))
    go ih (no ne) = ih (omega (arith, ne))

-- the first i are still to do
pub moved_next : (p q i : ℕ) (from to to' t : List ℕ) → 0 < i → moved p q i from to ≡ t → to' ≡ set to (q + (i - 1)) (get_or from (p + (i - 1)) 0) → moved p q (i - 1) from to' ≡ t
unfolding moved
moved_next p q zero from to to' t l e d = absurd (omega arith)
moved_next p q (suc i) from to to' t l e d = let z : suc i - 1 ≡ i = omega arith in rw (d, z) e

pub moved_none : (p q i : ℕ) (from to t : List ℕ) → i ≡ 0 → moved p q i from to ≡ t → to ≡ t
unfolding moved
moved_none p q zero from to t z e = e
moved_none p q (suc i) from to t z e = absurd (omega arith)
