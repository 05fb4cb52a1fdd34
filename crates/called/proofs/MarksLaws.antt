-- Laws of `specs/Marks` that only proofs cite.
use Prim.Native.Nat.{ℕ, zero, suc, ◌≤◌, ◌<◌}
use native.Mathlib.Decide.{ℕ_discrete}
use native.Mathlib.Omega.{arith}
use mathlib.Core.List.{List}
use mathlib.Core.Path.{◌≡◌, refl, sym, ap, ◌∙◌}
use lib.ListN.{length, get_or, set}
use lib.Seq.{get_or-set_same, get_or-set_other}
use Rattle.laws.specs.Counts.{hit, hit_same, hit_other}
use Rattle.called.specs.Marks.{Marked, unmarked}

module _ (t : List ℕ) where
  pub unmarked_blank : ((q : ℕ) → get_or t q 0 ≡ 0) → (n : ℕ) → unmarked t n ≡ n
  unfolding unmarked
  unmarked_blank h zero = refl
  unmarked_blank h (suc n) = omega (arith, unmarked_blank h n, ap (λ x. hit x 0) (h n), hit_same 0)

  pub unmarked_some : (q n : ℕ) → q < n → get_or t q 0 ≡ 0 → 0 < unmarked t n
  unfolding unmarked
  unmarked_some q zero l e = absurd (omega arith)
  unmarked_some q (suc n) l e =
      elim (ℕ_discrete q n) [
        | yes z ↦ omega (arith, ap (λ x. hit x 0) (ap (λ k. get_or t k 0) (sym z) ∙ e), hit_same 0)
        | no z ↦ omega (arith, unmarked_some q n (omega (arith, z)) e)
      ]

  pub unmarked_none : (n : ℕ) → unmarked t n ≡ 0 → (q : ℕ) → q < n → Marked t q
  unmarked_none n e q l z = omega (arith, unmarked_some q n l z)

  pub none_unmarked : (n : ℕ) → ((q : ℕ) → q < n → Marked t q) → unmarked t n ≡ 0
  unfolding unmarked
  none_unmarked zero h = refl
  none_unmarked (suc n) h =
      omega (arith, hit_other (get_or t n 0) 0 (h n (omega arith)), none_unmarked n (λ q l. h q (omega arith)))

  -- one mark more
  pub unmarked_past : (q n : ℕ) → n ≤ q → unmarked (set t q 1) n ≡ unmarked t n
  unfolding unmarked
  unmarked_past q zero l = refl
  unmarked_past q (suc n) l =
      omega (arith, ap (λ x. hit x 0) (get_or-set_other t q n 1 0 (λ z. omega arith)), unmarked_past q n (omega arith))

  pub unmarked_set : (q n : ℕ) → q < n → q < length t → get_or t q 0 ≡ 0 → suc (unmarked (set t q 1) n) ≡ unmarked t n
  unfolding unmarked
  unmarked_set q zero l b e = absurd (omega arith)
  unmarked_set q (suc n) l b e =
      elim (ℕ_discrete n q) [
        | yes z ↦ omega (
          arith,
          ap (λ x. hit x 0) (ap (λ k. get_or t k 0) z ∙ e),
          hit_same 0,
          ap (λ x. hit x 0) (ap (λ k. get_or (set t q 1) k 0) z ∙ get_or-set_same t q 1 0 b),
          hit_other 1 0 (λ y. omega arith),
          unmarked_past q n (omega arith),
        )
        | no z ↦ omega (arith, ap (λ x. hit x 0) (get_or-set_other t q n 1 0 z), unmarked_set q n (omega (arith, z)) b e)
      ]
