-- Going through the members by `next_member`: what it gives, and that the walk from 0 meets each entry of `members` in turn.
-- Assumes nothing.
use Rattle.std.specs.Prelude.{◌≡◌, refl, Bool, true, false, List, [], ◌∷◌, ℕ, zero, suc, ◌+◌, ◌-◌, ◌≤◌, ◌<◌, min}
use Rattle.std.proofs.Common.{sym, ◌∙◌, arith}
use Rattle.std.proofs.Math.Path.{ap}
use Rattle.std.proofs.Math.Decide.{dec_lt, ℕ_discrete}
use Rattle.sets.specs.Tests.{clash}
use Rattle.sets.specs.Sets.{member, empty_set, single, ◌∪◌}
use Rattle.sets.specs.Members.{cons_if, members_from, members, first_or65, next_member, union_all, union_over, image, in_list, members_from_in, members_from_mk}
use Rattle.sets.specs.declared.Set.{Set}

-- the members above n, in rising order
unfoldable pub above : Set → ℕ → List ℕ
above s n = members_from s (64 - n) (suc n)

-- r is the least member above n, or 65 where there is none
pub record Next (s : Set) (n r : ℕ) : Type 0 where
  pub low : min n 64 < r
  pub top : r ≤ 65
  pub none : (k : ℕ) → n < k → k < r → member s k ≡ false
  pub found : r < 65 → member s r ≡ true

-- ---- the first member among the k numbers from m on
data First (s : Set) (k m : ℕ) : Type 0 where
  nowhere : members_from s k m ≡ [] → ((j : ℕ) → m ≤ j → j < m + k → member s j ≡ false) → First s k m
  reached : (r : ℕ) → m ≤ r → r < m + k → member s r ≡ true → ((j : ℕ) → m ≤ j → j < r → member s j ≡ false)
      → members_from s k m ≡ r ∷ members_from s (m + k - suc r) (suc r) → First s k m

-- what fails at m and from m + 1 on fails from m on
from_next : (s : Set) (m t : ℕ) → member s m ≡ false → ((j : ℕ) → suc m ≤ j → j < t → member s j ≡ false)
    → (j : ℕ) → m ≤ j → j < t → member s j ≡ false
from_next s m t e f j h l = go (ℕ_discrete m j)
  where
    go : Dec (m ≡ j) → member s j ≡ false
    go (yes q) = ap (member s) (sym q) ∙ e
    go (no g) = f j (omega (arith, g)) l

first : (s : Set) (k m : ℕ) → First s k m
unfolding members_from cons_if
first s zero m = nowhere refl (λ j h l. absurd (omega arith))
first s (suc k) m = go (member s m) refl (first s k (suc m))
  where
    skip : {b : Bool} → member s m ≡ b → members_from s (suc k) m ≡ cons_if b m (members_from s k (suc m))
    skip e = ap (λ (b : Bool). cons_if b m (members_from s k (suc m))) e

    go : (b : Bool) → member s m ≡ b → First s k (suc m) → First s (suc k) m
    go true e f =
        let q : k ≡ m + suc k - suc m = omega arith in
        reached m (omega arith) (omega arith) e (λ j h l. absurd (omega arith)) (skip e ∙ ap (λ (i : ℕ). m ∷ members_from s i (suc m)) q)
    go false e (nowhere p f) = nowhere (skip e ∙ p) (λ j h l. from_next s m (suc m + k) e f j h (omega arith))
    go false e (reached r h l t f p) =
        let q : suc m + k - suc r ≡ m + suc k - suc r = omega arith in
        reached r (omega arith) (omega arith) t (from_next s m r e f) (skip e ∙ p ∙ ap (λ (i : ℕ). r ∷ members_from s i (suc r)) q)

-- ---- one turn of the walk
data Turn (s : Set) (n : ℕ) : Type 0 where
  over : next_member s n ≡ 65 → above s n ≡ [] → ((j : ℕ) → n < j → j < 65 → member s j ≡ false) → Turn s n
  goes : (r : ℕ) → next_member s n ≡ r → n < r → r < 65 → member s r ≡ true → ((j : ℕ) → n < j → j < r → member s j ≡ false)
      → above s n ≡ r ∷ above s r → Turn s n

turn : (s : Set) (n : ℕ) → Turn s n
unfolding next_member above first_or65
turn s n = go (first s (64 - n) (suc n))
  where
    go : First s (64 - n) (suc n) → Turn s n
    go (nowhere p f) = over (ap first_or65 p) p (λ j h l. f j h (omega arith))
    go (reached r h l t f p) =
        let q : suc n + (64 - n) - suc r ≡ 64 - r = omega arith in
        goes r (ap first_or65 p) h (omega arith) t f (p ∙ ap (λ (i : ℕ). r ∷ members_from s i (suc r)) q)

pub next_is : (s : Set) (n : ℕ) → Next s n (next_member s n)
next_is s n = go (turn s n)
  where
    go : Turn s n → Next s n (next_member s n)
    go (over e p f) = rw e (record { low = omega arith; top = omega arith; none = f; found = λ l. absurd (omega arith) })
    go (goes r e h l t f p) = rw e (record { low = omega arith; top = omega arith; none = f; found = λ _. t })

-- there is one such number
pub next_one : (s : Set) (n q r : ℕ) → Next s n q → Next s n r → q ≡ r
next_one s n q r a b = go (dec_lt q r) (dec_lt r q)
  where
    never : (q r : ℕ) → Next s n q → Next s n r → q < r → ⊥
    never q r a b h =
        let l = a.low in
        let t = b.top in
        clash (a.found (omega arith)) (b.none q (omega arith) h)

    go : Dec (q < r) → Dec (r < q) → q ≡ r
    go (yes h) g = absurd (never q r a b h)
    go (no f) (yes h) = absurd (never r q b a h)
    go (no f) (no g) = omega arith

pub next_eq : (s : Set) (n r : ℕ) → Next s n r → r ≡ next_member s n
next_eq s n r h = next_one s n r (next_member s n) h (next_is s n)

-- ---- the members above n: none, or the next and those above it
pub above_start : (s : Set) → above s 0 ≡ members s
unfolding above members
above_start s = refl

pub above_end : (s : Set) (n : ℕ) → next_member s n ≡ 65 → above s n ≡ []
above_end s n e = go (turn s n)
  where
    go : Turn s n → above s n ≡ []
    go (over q p f) = p
    go (goes r q h l t f p) = absurd (let z : r ≡ 65 = sym q ∙ e in omega arith)

pub above_next : (s : Set) (n r : ℕ) → next_member s n ≡ r → r < 65 → above s n ≡ r ∷ above s r
above_next s n r e l = go (turn s n)
  where
    go : Turn s n → above s n ≡ r ∷ above s r
    go (over q p f) = absurd (let z : r ≡ 65 = sym e ∙ q in omega arith)
    go (goes k q h m t f p) = p ∙ ap (λ (i : ℕ). i ∷ above s i) (sym q ∙ e)

pub above_in : (s : Set) (n k : ℕ) → in_list k (above s n) ≡ true → (member s k ≡ true) × (n < k) × (k ≤ 64)
unfolding above
above_in s n k e = let r = members_from_in s (64 - n) (suc n) k e in (r.0, omega arith, omega arith)

pub above_mk : (s : Set) (n k : ℕ) → member s k ≡ true → n < k → k ≤ 64 → in_list k (above s n) ≡ true
unfolding above
above_mk s n k e h l = members_from_mk s (64 - n) (suc n) k e h (omega arith)

-- ---- loops over the members: what is left to do from n on, at the start, at the end, and at the next member r
module _ (f : ℕ → Set) (s : Set) where
  pub union_over_start : union_all f (above s 0) ≡ union_over f s
  unfolding union_over
  union_over_start = ap (union_all f) (above_start s)

  pub union_over_end : (n : ℕ) → next_member s n ≡ 65 → union_all f (above s n) ≡ empty_set
  unfolding union_all
  union_over_end n e = ap (union_all f) (above_end s n e)

  pub union_over_next : (n r : ℕ) → next_member s n ≡ r → r < 65 → union_all f (above s n) ≡ f r ∪ union_all f (above s r)
  unfolding union_all
  union_over_next n r e l = ap (union_all f) (above_next s n r e l)

pub image_over : (f : ℕ → ℕ) (s : Set) → image f s ≡ union_over (λ x. single (f x)) s
unfolding image
image_over f s = refl
