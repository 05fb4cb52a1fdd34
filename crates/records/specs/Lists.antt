-- Runs of numbers, and counting up to 2. Assumes nothing.
use Rattle.std.specs.Prelude.{ℕ, zero, suc, ◌+◌, ◌-◌, ◌≤◌, ◌<◌, min, ◌≡◌, refl, Bool, List, [], ◌∷◌, get_or, set}
use Rattle.std.proofs.Common.{arith, ap, ap₂, ◌∙◌}
use Rattle.sets.specs.Tests.{◌&◌}
use Rattle.language.specs.Lists.{all, up_from}

-- ---- runs of numbers
pub all_same : (m b : ℕ) (p q : ℕ → Bool) → ((i : ℕ) → b ≤ i → i < b + m → p i ≡ q i) → all p (up_from b m) ≡ all q (up_from b m)
unfolding all up_from
all_same zero b p q h = refl
all_same (suc m) b p q h =
    ap₂ ◌&◌ (h b (omega arith) (omega arith)) (all_same m (suc b) p q (λ i l k. h i (omega arith) (omega arith)))

-- the numbers from i up to n, i itself first
pub from_here : (n i : ℕ) → i < n → up_from i (n - i) ≡ i ∷ up_from (i + 1) (n - (i + 1))
unfolding up_from
from_here n i h =
    let e : n - i ≡ suc (n - (i + 1)) = omega arith in
    let g : suc i ≡ i + 1 = omega arith in
    ap (up_from i) e ∙ ap (λ m. i ∷ up_from m (n - (i + 1))) g

pub from_end : (n i : ℕ) → n ≤ i → up_from i (n - i) ≡ []
unfolding up_from
from_end n i h = let e : n - i ≡ 0 = omega arith in ap (up_from i) e

-- ---- counting up to 2
-- one more for r, which is not 0
unfoldable pub counted : List ℕ → ℕ → List ℕ
counted a zero = a
counted a (suc r) = set a (suc r) (min 2 (get_or a (suc r) 0 + 1))

-- one more for each number of a list
unfoldable pub tally : List ℕ → List ℕ → List ℕ
tally a [] = a
tally a (r ∷ rs) = tally (counted a r) rs
