-- What each place is for, with its height on its chain: no chain is ever written down.
use Rattle.std.specs.Prelude.{ℕ, ◌+◌, ◌≡◌, refl, Bool, true, false, ◌≢◌, eqb}
use Rattle.std.proofs.Common.{sym, ap, ◌∙◌, arith, eq-eqb, ne_eqb}
use Rattle.std.proofs.Math.Decide.{ℕ_discrete}

-- a place that was never used; a free one that has k free ones behind it; a busy one.
-- A busy cell: its region's place, and how many cells of the region stand behind it. A busy region: how many cells it has, and 0.
pub data Label : Type 0 where
  fresh : Label
  free : ℕ → Label
  busy : ℕ → ℕ → Label

abbrev pub having : ℕ → Label
having s = busy s 0

abbrev pub Labels : Type 0
Labels = ℕ → Label

pub data Vacant : Label → Type 0 where
  was_fresh : Vacant fresh
  was_free : {k : ℕ} → Vacant (free k)

-- ---- labels tell places apart, and give back what they were made of
pub fresh_free : {k : ℕ} → fresh ≡ free k → ⊥
fresh_free e = let z : ◌≡◌ {A = ℕ} 0 1 = cc in omega arith

pub fresh_busy : {a b : ℕ} → fresh ≡ busy a b → ⊥
fresh_busy e = let z : ◌≡◌ {A = ℕ} 0 1 = cc in omega arith

pub free_busy : {k a b : ℕ} → free k ≡ busy a b → ⊥
free_busy e = let z : ◌≡◌ {A = ℕ} 0 1 = cc in omega arith

pub vacant_busy : {l : Label} {a b : ℕ} → Vacant l → l ≡ busy a b → ⊥
vacant_busy was_fresh e = fresh_busy e
vacant_busy was_free e = free_busy e

pub free_height : {i j : ℕ} → free i ≡ free j → i ≡ j
free_height e = cc

pub busy_region : {a b c d : ℕ} → busy a b ≡ busy c d → a ≡ c
busy_region e = cc

pub busy_height : {a b c d : ℕ} → busy a b ≡ busy c d → b ≡ d
busy_height e = cc

-- ---- the cells of region r join the free ones, f of which there are: they stand before those
join_if : Bool → ℕ → ℕ → ℕ → Label
join_if true a k f = free (k + f)
join_if false a k f = busy a k

pub joined : ℕ → ℕ → Label → Label
joined r f fresh = fresh
joined r f (free k) = free k
joined r f (busy a k) = join_if (eqb a r) a k f

pub joined_fresh : (r f : ℕ) → joined r f fresh ≡ fresh
unfolding joined
joined_fresh r f = refl

pub joined_free : (r f k : ℕ) → joined r f (free k) ≡ free k
unfolding joined
joined_free r f k = refl

pub joined_in : (r f k : ℕ) → joined r f (busy r k) ≡ free (k + f)
unfolding joined join_if
joined_in r f k = rw (eq-eqb r r refl)

pub joined_out : (r f : ℕ) {a : ℕ} (k : ℕ) → a ≢ r → joined r f (busy a k) ≡ busy a k
unfolding joined join_if
joined_out r f {a} k ne = rw (ne_eqb a r ne)

pub joined_same : (r f : ℕ) (l : Label) → ((k : ℕ) → l ≡ busy r k → ⊥) → joined r f l ≡ l
joined_same r f fresh no_r = joined_fresh r f
joined_same r f (free k) no_r = joined_free r f k
joined_same r f (busy a k) no_r = joined_out r f k (λ z. no_r k (ap (λ n. busy n k) z))

-- where a joined label comes from
pub data Came (r f : ℕ) (l : Label) (i : ℕ) : Type 0 where
  was : l ≡ free i → Came r f l i
  came : (k : ℕ) → l ≡ busy r k → i ≡ k + f → Came r f l i

-- region r's own label, once joined
joined_at_law : (r f a k : ℕ) → a ≡ r → joined r f (busy a k) ≡ free (k + f)
joined_at_law r f a k q = rw q (joined_in r f k)

pub from_free : (r f : ℕ) (l : Label) (i : ℕ) → joined r f l ≡ free i → Came r f l i
from_free r f fresh i e = absurd (fresh_free (sym (joined_fresh r f) ∙ e))
from_free r f (free k) i e = was (sym (joined_free r f k) ∙ e)
from_free r f (busy a k) i e = elim (ℕ_discrete a r) [
  | yes q ↦ came k (ap (λ n. busy n k) q) (free_height (sym e ∙ joined_at_law r f a k q))
  | no ne ↦ absurd (free_busy (sym e ∙ joined_out r f k ne))
]

pub from_busy : (r f : ℕ) (l : Label) (a k : ℕ) → joined r f l ≡ busy a k → (l ≡ busy a k) × (a ≢ r)
from_busy r f fresh a k e = absurd (fresh_busy (sym (joined_fresh r f) ∙ e))
from_busy r f (free j) a k e = absurd (free_busy (sym (joined_free r f j) ∙ e))
from_busy r f (busy b j) a k e = elim (ℕ_discrete b r) [
  | yes q ↦ absurd (free_busy (sym (joined_at_law r f b j q) ∙ e))
  | no ne ↦ let d : busy b j ≡ busy a k = sym (joined_out r f j ne) ∙ e in (d, λ z. ne (busy_region d ∙ z))
]
