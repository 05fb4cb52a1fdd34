-- Counting up to 2: what is counted of a number, and that 1 is once.
use Prim.Native.Nat.{ℕ, zero, suc, ◌+◌, ◌≤◌, ◌<◌, min}
use native.Mathlib.Omega.{arith}
use native.Mathlib.Decide.{dec_le, ℕ_discrete}
use mathlib.Core.Path.{◌≡◌, refl, sym, ap, ◌∙◌}
use mathlib.Core.Bool.{Bool, true}
use mathlib.Core.List.{List, ◌∷◌, ◌++◌, []}
use lib.Dec.{eqb}
use lib.ListN.{length, get_or, set, replicate, length-set, length-replicate, get_or-replicate}
use lib.Seq.{get_or-set_same, get_or-set_other}
use borrow.Author.Tests.{eq-eqb, ne_eqb}
use Rattle.sets.specs.Tests.{and_true}
use Rattle.language.specs.Lists.{all, up_from, one, count}
use Rattle.records.specs.Lists.{counted, tally}

-- ---- runs of numbers
pub all_at : (m b : ℕ) (p : ℕ → Bool) → all p (up_from b m) ≡ true → (i : ℕ) → b ≤ i → i < b + m → p i ≡ true
unfolding all up_from
all_at zero b p e i l h = absurd (omega arith)
all_at (suc m) b p e i l h =
    elim (dec_le i b) [
      | yes q ↦ (let z : i ≡ b = omega arith in rw z (and_true e).0)
      | no q ↦ all_at m (suc b) p (and_true e).1 i (omega arith) (omega arith)
    ]

-- ---- counting up to 2
pub counted_none : (a : List ℕ) {r : ℕ} → r ≡ 0 → counted a r ≡ a
unfolding counted
counted_none a e = rw e

pub counted_some : (a : List ℕ) (r : ℕ) → (r ≡ 0 → ⊥) → counted a r ≡ set a r (min 2 (get_or a r 0 + 1))
unfolding counted
counted_some a zero h = absurd (h refl)
counted_some a (suc r) h = refl

pub tally_append : (a xs ys : List ℕ) → tally a (xs ++ ys) ≡ tally (tally a xs) ys
unfolding tally
tally_append a [] ys = refl
tally_append a (x ∷ xs) ys = tally_append (counted a x) xs ys

counted_at : (a : List ℕ) (r j : ℕ) → 0 < j → j < length a → get_or a j 0 ≤ 2 → get_or (counted a r) j 0 ≡ min 2 (get_or a j 0 + one (eqb r j))
unfolding counted one
counted_at a zero j z h l = rw (ne_eqb 0 j (λ e. omega arith)) (omega arith)
counted_at a (suc r) j z h l =
    elim (ℕ_discrete (suc r) j) [
      | yes e ↦ rw (e, get_or-set_same a j (min 2 (get_or a j 0 + 1)) 0 h, eq-eqb j j refl)
      | no e ↦ rw (get_or-set_other a (suc r) j (min 2 (get_or a (suc r) 0 + 1)) 0 (λ z. e (sym z)), ne_eqb (suc r) j e) (omega arith)
    ]

counted_length : (a : List ℕ) (r : ℕ) → length (counted a r) ≡ length a
unfolding counted
counted_length a zero = refl
counted_length a (suc r) = length-set a (suc r) _

tally_at : (rs a : List ℕ) (j : ℕ) → 0 < j → j < length a → get_or a j 0 ≤ 2 → get_or (tally a rs) j 0 ≡ min 2 (get_or a j 0 + count j rs)
unfolding tally count
tally_at [] a j z h l = omega arith
tally_at (r ∷ rs) a j z h l =
    let e = counted_at a r j z h l in
    tally_at rs (counted a r) j z (omega (arith, counted_length a r)) (omega arith) ∙ omega arith

once_capped : (t : ℕ) → eqb (min 2 t) 1 ≡ eqb t 1
once_capped t =
    elim (ℕ_discrete t 1) [
      | yes e ↦ eq-eqb (min 2 t) 1 (omega arith) ∙ sym (eq-eqb t 1 e)
      | no e ↦ ne_eqb (min 2 t) 1 (λ z. e (omega arith)) ∙ sym (ne_eqb t 1 e)
    ]

-- counted from nothing, 1 is once
pub tally_once : (m j : ℕ) (rs : List ℕ) → 0 < j → j < m → eqb (get_or (tally (replicate m 0) rs) j 0) 1 ≡ eqb (count j rs) 1
tally_once m j rs g h =
    let z : get_or {A = ℕ} (replicate m 0) j 0 ≡ 0 = get_or-replicate m j 0 0 h in
    let l : length {A = ℕ} (replicate m 0) ≡ m = length-replicate m 0 in
    let t = tally_at rs (replicate m 0) j g (omega arith) (omega arith) in
    let e : get_or (tally (replicate m 0) rs) j 0 ≡ min 2 (count j rs) = omega arith in
    ap (λ x. eqb x 1) e ∙ once_capped (count j rs)
