-- How often a number stands in a list: laws of `count`.
use Rattle.std.specs.Prelude.{ℕ, zero, suc, ◌+◌, ◌≤◌, ◌<◌, ◌≡◌, refl, List, [], ◌∷◌, ◌++◌, eqb}
use Rattle.std.proofs.Common.{arith, ap, ◌∙◌, eq-eqb, ne_eqb}
use Rattle.std.proofs.Math.Decide.{dec_le}
use Rattle.language.specs.Lists.{up_from, one, count}
use Rattle.laws.specs.Numbers.{up_from_append}

-- whether r is j, as a number
unfoldable pub hit : ℕ → ℕ → ℕ
hit r j = one (eqb r j)

pub hit_same : (j : ℕ) → hit j j ≡ 1
unfolding hit one
hit_same j = rw (eq-eqb j j refl)

pub hit_other : (r j : ℕ) → (r ≡ j → ⊥) → hit r j ≡ 0
unfolding hit one
hit_other r j h = rw (ne_eqb r j h)

pub count_cons : (j r : ℕ) (rs : List ℕ) → count j (r ∷ rs) ≡ hit r j + count j rs
unfolding count hit
count_cons j r rs = refl

pub count_append : (j : ℕ) (xs ys : List ℕ) → count j (xs ++ ys) ≡ count j xs + count j ys
unfolding count
count_append j [] ys = omega arith
count_append j (x ∷ xs) ys = omega (arith, count_append j xs ys)

pub count_none : (j : ℕ) → count j [] ≡ 0
unfolding count
count_none j = refl

-- ---- how often j stands among the m numbers from b on
unfoldable pub run : ℕ → ℕ → ℕ → ℕ
run b m j = count j (up_from b m)

pub run_zero : (b j : ℕ) → run b 0 j ≡ 0
unfolding run up_from count
run_zero b j = refl

pub run_suc : (m b j : ℕ) → run b (suc m) j ≡ hit b j + run (suc b) m j
unfolding run up_from
run_suc m b j = count_cons j b (up_from (suc b) m)

pub run_add : (m l b j : ℕ) → run b (m + l) j ≡ run b m j + run (b + m) l j
unfolding run
run_add m l b j = ap (count j) (up_from_append m l b (b + m) refl) ∙ count_append j (up_from b m) (up_from (b + m) l)

run_below : (m b j : ℕ) → j < b → run b m j ≡ 0
run_below zero b j h = run_zero b j
run_below (suc m) b j h = omega (arith, run_suc m b j, hit_other b j (omega arith), run_below m (suc b) j (omega arith))

-- each of them stands there once
pub run_in_law : (m b j : ℕ) → b ≤ j → j < b + m → run b m j ≡ 1
run_in_law zero b j l h = absurd (omega arith)
run_in_law (suc m) b j l h =
    elim (dec_le j b) [
      | yes le ↦ (let z : j ≡ b = omega arith in rw z (omega (arith, run_suc m b b, hit_same b, run_below m (suc b) b (omega arith))))
      | no gt ↦ omega (arith, run_suc m b j, hit_other b j (omega arith), run_in_law m (suc b) j (omega arith) (omega arith))
    ]
