-- Laws of the numbers from 1 to k, and of the k numbers from m on.
use Rattle.std.specs.Prelude.{ℕ, zero, suc, ◌+◌, ◌≤◌, ◌<◌, Bool, true, false, ◌∷◌, ◌++◌, ◌≡◌, refl, length}
use Rattle.std.proofs.Math.Decide.{dec_le, ℕ_discrete}
use Rattle.std.proofs.Common.{zero-add, suc-add, arith, ⊎_elim, ap, leb-true, le-leb}
use Rattle.sets.specs.Tests.{clash, and_true, true_and, and_false}
use Rattle.sets.specs.Members.{in_list, nil_in, cons_here, cons_later, cons_in}
use Rattle.language.specs.Lists.{all, among, up_from}

-- ---- numbers from 1 to k
pub among_in : (k n : ℕ) → among k n ≡ true → (1 ≤ n) × (n ≤ k)
unfolding among
among_in k n e = let r = and_true e in (leb-true 1 n r.0, leb-true n k r.1)

pub among_mk : (k n : ℕ) → 1 ≤ n → n ≤ k → among k n ≡ true
unfolding among
among_mk k n h l = true_and (le-leb 1 n h) (le-leb n k l)

pub among_wider : (k m n : ℕ) → k ≤ m → among k n ≡ true → among m n ≡ true
among_wider k m n h e = let r = among_in k n e in among_mk m n r.0 (omega arith)

-- ---- the k numbers from m on
pub up_from_in : (m k n : ℕ) → in_list n (up_from m k) ≡ true → (m ≤ n) × (n < m + k)
unfolding up_from
up_from_in m zero n e = absurd (nil_in n e)
up_from_in m (suc k) n e =
    ⊎_elim (λ p. (omega arith, omega arith)) (λ q. let r = up_from_in (suc m) k n q in (omega arith, omega arith))
    (cons_in n m (up_from (suc m) k) e)

pub up_from_mk : (m k n : ℕ) → m ≤ n → n < m + k → in_list n (up_from m k) ≡ true
unfolding up_from
up_from_mk m zero n h l = absurd (omega arith)
up_from_mk m (suc k) n h l = go (up_from_mk (suc m) k n) (ℕ_discrete m n)
  where
    go : (suc m ≤ n → n < suc m + k → in_list n (up_from (suc m) k) ≡ true) → Dec (m ≡ n) → in_list n (m ∷ up_from (suc m) k) ≡ true
    go ih (yes p) = cons_here n m (up_from (suc m) k) p
    go ih (no f) = cons_later n m (up_from (suc m) k) (ih (omega (arith, f)) (omega arith))

pub up_from_append : (m n b c : ℕ) → b + m ≡ c → up_from b (m + n) ≡ up_from b m ++ up_from c n
unfolding up_from
up_from_append zero n b c e = let z : b ≡ c = omega arith in rw (zero-add, z)
up_from_append (suc m) n b c e = rw suc-add (ap (λ l. b ∷ l) (up_from_append m n (suc b) c (omega arith)))

pub up_from_length : (m k : ℕ) → length (up_from m k) ≡ k
unfolding up_from
up_from_length m zero = refl
up_from_length m (suc k) = ap suc (up_from_length (suc m) k)

-- ---- a test of each of the m numbers from b on
pub all_at : (m b : ℕ) (p : ℕ → Bool) → all p (up_from b m) ≡ true → (i : ℕ) → b ≤ i → i < b + m → p i ≡ true
unfolding all up_from
all_at zero b p e i l h = absurd (omega arith)
all_at (suc m) b p e i l h =
    elim (dec_le i b) [
      | yes le ↦ (let z : i ≡ b = omega arith in rw z (and_true e).0)
      | no gt ↦ all_at m (suc b) p (and_true e).1 i (omega arith) (omega arith)
    ]

pub at_all : (m b : ℕ) (p : ℕ → Bool) → ((i : ℕ) → b ≤ i → i < b + m → p i ≡ true) → all p (up_from b m) ≡ true
unfolding all up_from
at_all zero b p h = refl
at_all (suc m) b p h = true_and (h b (omega arith) (omega arith)) (at_all m (suc b) p (λ i l q. h i (omega arith) (omega arith)))

pub at_fails : (m b : ℕ) (p : ℕ → Bool) → all p (up_from b m) ≡ false → (i : ℕ) × (b ≤ i) × (i < b + m) × (p i ≡ false)
unfolding all up_from
at_fails zero b p e = absurd (clash refl e)
at_fails (suc m) b p e =
    ⊎_elim (λ f. (b, omega arith, omega arith, f)) (λ f. let r = at_fails m (suc b) p f in (r.0, omega arith, omega arith, r.3)) (and_false e)
