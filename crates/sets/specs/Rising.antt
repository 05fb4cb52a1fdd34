-- Lists in strictly rising order, and that the members stand so.
-- Assumes nothing.
use Rattle.std.specs.Prelude.{◌≡◌, refl, Bool, true, false, List, [], ◌∷◌, ℕ, zero, suc, ◌-◌, ◌≤◌, ◌<◌}
use Rattle.std.proofs.Common.{sym, ap₂, ◌∙◌, ⊎_elim, arith}
use Rattle.sets.specs.Tests.{same_truth}
use Rattle.sets.specs.Sets.{member}
use Rattle.sets.specs.Members.{cons_if, members_from, members, set_of, in_list, nil_in, cons_here, cons_later, cons_in, members_in, members_mk}
use Rattle.sets.specs.MemberLaws.{set_of_in, set_of_mk}
use Rattle.sets.specs.Walk.{above}
use Rattle.sets.specs.declared.Set.{Set}

-- each is above m, and above those in front of it
pub data Rising : ℕ → List ℕ → Type 0 where
  rising_nil : {m : ℕ} → Rising m []
  rising_cons : {m x : ℕ} {xs : List ℕ} → m < x → Rising x xs → Rising m (x ∷ xs)

pub rising_above : {m : ℕ} {xs : List ℕ} → Rising m xs → (n : ℕ) → in_list n xs ≡ true → m < n
rising_above rising_nil n e = absurd (nil_in n e)
rising_above (rising_cons h r) n e = ⊎_elim (λ q. omega arith) (λ q. let l = rising_above r n q in omega arith) (cons_in n _ _ e)

cons_if_rising : (b : Bool) (m x : ℕ) (xs : List ℕ) → m < x → Rising m xs → Rising x xs → Rising m (cons_if b x xs)
unfolding cons_if
cons_if_rising true m x xs h p q = rising_cons h q
cons_if_rising false m x xs h p q = p

from_rising : (s : Set) (k m l : ℕ) → l < m → Rising l (members_from s k m)
unfolding members_from
from_rising s zero m l h = rising_nil
from_rising s (suc k) m l h =
    cons_if_rising (member s m) l m _ h (from_rising s k (suc m) l (omega arith)) (from_rising s k (suc m) m (omega arith))

pub members_rising : (s : Set) → Rising 0 (members s)
unfolding members
members_rising s = from_rising s 64 1 0 (omega arith)

pub above_rising : (s : Set) (n : ℕ) → Rising n (above s n)
unfolding above
above_rising s n = from_rising s (64 - n) (suc n) n (omega arith)

-- ---- two rising lists of the same numbers are equal
heads : {x y : ℕ} {xs ys : List ℕ} → Rising x xs → Rising y ys → in_list x (y ∷ ys) ≡ true → in_list y (x ∷ xs) ≡ true → x ≡ y
heads {x} {y} {xs} {ys} r q e f = ⊎_elim (λ p. sym p) (λ p. ⊎_elim (λ t. t) (λ t. absurd (never p t)) (cons_in y x xs f)) (cons_in x y ys e)
  where
    never : in_list x ys ≡ true → in_list y xs ≡ true → ⊥
    never p t = omega (arith, rising_above q x p, rising_above r y t)

tails : {x y : ℕ} {xs : List ℕ} (ys : List ℕ) → Rising x xs → x ≡ y → (n : ℕ) → in_list n (y ∷ ys) ≡ in_list n (x ∷ xs)
    → in_list n xs ≡ true → in_list n ys ≡ true
tails {x} {y} {xs} ys r e n f m =
    ⊎_elim (λ p. absurd (let h = rising_above r n m in omega arith)) (λ p. p) (cons_in n y ys (f ∙ cons_later n x xs m))

pub rising_ext : {m k : ℕ} {xs ys : List ℕ} → Rising m xs → Rising k ys → ((n : ℕ) → in_list n xs ≡ in_list n ys) → xs ≡ ys
rising_ext rising_nil rising_nil f = refl
rising_ext rising_nil (rising_cons {x = y} {xs = ys} h q) f = absurd (nil_in y (f y ∙ cons_here y y ys refl))
rising_ext (rising_cons {x = x} {xs = xs} h r) rising_nil f = absurd (nil_in x (sym (f x) ∙ cons_here x x xs refl))
rising_ext (rising_cons {x = x} {xs = xs} h r) (rising_cons {x = y} {xs = ys} l q) f =
    let e = heads r q (sym (f x) ∙ cons_here x x xs refl) (f y ∙ cons_here y y ys refl) in
    ap₂ ◌∷◌ e (rising_ext r q (λ n. same_truth (tails ys r e n (sym (f n))) (tails xs q (sym e) n (f n))))

-- a rising list of numbers to 64 lists the members of its set
pub members_set_of : (xs : List ℕ) → Rising 0 xs → ((n : ℕ) → in_list n xs ≡ true → n ≤ 64) → members (set_of xs) ≡ xs
members_set_of xs r h = rising_ext (members_rising (set_of xs)) r (λ n. same_truth (down n) (up n))
  where
    down : (n : ℕ) → in_list n (members (set_of xs)) ≡ true → in_list n xs ≡ true
    down n e = set_of_in xs n (members_in (set_of xs) n e).0

    up : (n : ℕ) → in_list n xs ≡ true → in_list n (members (set_of xs)) ≡ true
    up n e = members_mk (set_of xs) n (set_of_mk xs n e (rising_above r n e) (h n e)) (h n e)
