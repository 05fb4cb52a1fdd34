-- Laws of lists: the element at a number, a test of all elements, and both with the library's `map` and `◌++◌`.
use Prim.Native.Nat.{ℕ, zero, suc, ◌+◌, ◌≤◌, ◌<◌}
use Rattle.std.proofs.Math.Decide.{dec_lt}
use Rattle.std.proofs.Common.{suc-add, inl, inr, ◌∙◌}
use native.Mathlib.Omega.{arith}
use Rattle.std.specs.Prelude.{Bool, ◌⊎◌, ◌≡◌, drop}
use Rattle.std.proofs.Math.Bool.{true, false}
use Rattle.std.proofs.lemmas.Bool.{false≢true}
use mathlib.Core.List.{List, [], ◌∷◌, ◌++◌, map}
use Rattle.std.proofs.Math.Logic.{⊎_elim}
use Rattle.std.proofs.Math.Path.{refl, sym, ap, ap₂}
use Rattle.std.proofs.Math.ListN.{length}
use Rattle.sets.specs.Tests.{◌&◌, clash, and_true, true_and, and_false}
use Rattle.sets.specs.Members.{in_list, nil_in, cons_here, cons_later, cons_in}
use Rattle.language.specs.Lists.{all, among, is_none, nth, nth1}
use Rattle.laws.specs.Tests.{and_assoc, and_swap, refuse, pass}
use Rattle.laws.specs.Numbers.{among_in, among_mk}

-- ---- the element at a number
module _ {A : Type 0} (d : A) where
  pub nth_past : (xs : List A) (n : ℕ) → length xs ≤ n → nth d xs n ≡ d
  unfolding nth
  nth_past [] n h = refl
  nth_past (x ∷ xs) zero h = absurd (omega arith)
  nth_past (x ∷ xs) (suc n) h = nth_past xs n (omega arith)

  pub nth1_past : (xs : List A) (n : ℕ) → among (length xs) n ≡ false → nth1 d xs n ≡ d
  unfolding nth1
  nth1_past xs zero h = refl
  nth1_past xs (suc n) h = go (dec_lt n (length xs))
    where
      go : Dec (n < length xs) → nth d xs n ≡ d
      go (yes l) = absurd (clash (among_mk (length xs) (suc n) (omega arith) (omega arith)) h)
      go (no f) = nth_past xs n (omega arith)

  pub nth_front : (xs ys : List A) (n : ℕ) → n < length xs → nth d (xs ++ ys) n ≡ nth d xs n
  unfolding nth
  nth_front [] ys n l = absurd (omega arith)
  nth_front (x ∷ xs) ys zero l = refl
  nth_front (x ∷ xs) ys (suc n) l = nth_front xs ys n (omega arith)

  pub nth_last : (xs : List A) (x : A) → nth d (xs ++ (x ∷ [])) (length xs) ≡ x
  unfolding nth
  nth_last [] x = refl
  nth_last (y ∷ xs) x = nth_last xs x

pub nth_map : {A B : Type 0} (f : A → B) (d : A) (xs : List A) (n : ℕ) → nth (f d) (map f xs) n ≡ f (nth d xs n)
unfolding nth
nth_map f d [] n = refl
nth_map f d (x ∷ xs) zero = refl
nth_map f d (x ∷ xs) (suc n) = nth_map f d xs n

-- ---- a test of all elements
module _ {A : Type 0} where
  pub all_append : (p : A → Bool) (xs ys : List A) → all p (xs ++ ys) ≡ (all p xs & all p ys)
  unfolding all ◌&◌
  all_append p [] ys = refl
  all_append p (x ∷ xs) ys = ap (λ (b : Bool). p x & b) (all_append p xs ys) ∙ sym (and_assoc (p x) (all p xs) (all p ys))

  pub all_same : (p q : A → Bool) → ((x : A) → p x ≡ q x) → (xs : List A) → all p xs ≡ all q xs
  unfolding all
  all_same p q e [] = refl
  all_same p q e (x ∷ xs) = ap₂ ◌&◌ (e x) (all_same p q e xs)

  pub all_both : (p q : A → Bool) (xs : List A) → all (λ x. p x & q x) xs ≡ (all p xs & all q xs)
  unfolding all ◌&◌
  all_both p q [] = refl
  all_both p q (x ∷ xs) = ap (λ (b : Bool). (p x & q x) & b) (all_both p q xs) ∙ and_swap (p x) (q x) (all p xs) (all q xs)

  -- a test beside each element of a list that has one
  pub all_beside : (b : Bool) (p : A → Bool) (xs : List A) → is_none xs ≡ false → all (λ x. b & p x) xs ≡ (b & all p xs)
  unfolding all is_none ◌&◌
  all_beside true p xs e = refl
  all_beside false p [] e = absurd (false≢true (sym e))
  all_beside false p (x ∷ xs) e = refl

  -- a weaker test
  pub all_weaker : (p q : A → Bool) (xs : List A) → ((x : A) → p x ≡ true → q x ≡ true) → all p xs ≡ true → all q xs ≡ true
  unfolding all
  all_weaker p q [] f e = refl
  all_weaker p q (x ∷ xs) f e = let r = and_true e in true_and (f x r.0) (all_weaker p q xs f r.1)

  -- a function that changes nothing that passes the test
  pub map_all : (p : A → Bool) (f : A → A) → ((x : A) → p x ≡ true → f x ≡ x) → (xs : List A) → all p xs ≡ true → map f xs ≡ xs
  unfolding all
  map_all p f h [] e = refl
  map_all p f h (x ∷ xs) e = ap₂ ◌∷◌ (h x (and_true e).0) (map_all p f h xs (and_true e).1)

pub all_map : {A B : Type 0} (p : B → Bool) (f : A → B) (xs : List A) → all p (map f xs) ≡ all (λ x. p (f x)) xs
unfolding all
all_map p f [] = refl
all_map p f (x ∷ xs) = ap (λ (b : Bool). p (f x) & b) (all_map p f xs)

-- ---- element by element, as code tests a list: the first that fails refuses the whole, and where one passes the rest decides
module _ {A : Type 0} (p : A → Bool) {xs : List A} where
  pub all_end : xs ≡ [] → true ≡ all p xs
  unfolding all
  all_end e = rw e

  module _ {ys : List A} {x : A} {r : Bool} (e : xs ≡ x ∷ ys) (h : r ≡ p x) where
    pub all_no : r ≡ false → false ≡ all p xs
    unfolding all
    all_no k = rw e (refuse (all p ys) h k)

    pub all_yes : r ≡ true → all p ys ≡ all p xs
    unfolding all
    all_yes k = rw e (pass h k refl)

-- ---- the elements from number n on
module _ {A : Type 0} {x : A} {ys : List A} where
  pub drop_more : (xs : List A) (n : ℕ) → drop n xs ≡ x ∷ ys → drop (n + 1) xs ≡ ys
  drop_more [] zero e = absurd (let l = ap length e in omega arith)
  drop_more [] (suc n) e = absurd (let l = ap length e in omega arith)
  drop_more (z ∷ xs) zero e = cc
  drop_more (z ∷ xs) (suc n) e = rw suc-add (drop_more xs n e)

  pub drop_nth : (d : A) (xs : List A) (n : ℕ) → drop n xs ≡ x ∷ ys → nth d xs n ≡ x
  unfolding nth
  drop_nth d [] zero e = absurd (let l = ap length e in omega arith)
  drop_nth d [] (suc n) e = absurd (let l = ap length e in omega arith)
  drop_nth d (z ∷ xs) zero e = cc
  drop_nth d (z ∷ xs) (suc n) e = drop_nth d xs n e

-- ---- the same, by the numbers of the elements
module _ {A : Type 0} (p : A → Bool) (d : A) where
  pub all_nth : (xs : List A) (n : ℕ) → all p xs ≡ true → n < length xs → p (nth d xs n) ≡ true
  unfolding all nth
  all_nth [] n e h = absurd (omega arith)
  all_nth (x ∷ xs) zero e h = (and_true e).0
  all_nth (x ∷ xs) (suc n) e h = all_nth xs n (and_true e).1 (omega arith)

  -- the default passes too: then so does whatever is looked up
  pub all_or_default : p d ≡ true → (xs : List A) (n : ℕ) → all p xs ≡ true → p (nth d xs n) ≡ true
  unfolding all nth
  all_or_default z [] n e = z
  all_or_default z (x ∷ xs) zero e = (and_true e).0
  all_or_default z (x ∷ xs) (suc n) e = all_or_default z xs n (and_true e).1

  pub nth_all : (xs : List A) → ((n : ℕ) → n < length xs → p (nth d xs n) ≡ true) → all p xs ≡ true
  unfolding all nth
  nth_all [] f = refl
  nth_all (x ∷ xs) f = true_and (f 0 (omega arith)) (nth_all xs (λ n l. f (suc n) (omega arith)))

  pub all_fails : (xs : List A) → all p xs ≡ false → (n : ℕ) × (n < length xs) × (p (nth d xs n) ≡ false)
  unfolding all nth
  all_fails [] e = absurd (false≢true (sym e))
  all_fails (x ∷ xs) e =
      ⊎_elim (λ f. (0, omega arith, f)) (λ f. let r = all_fails xs f in (suc r.0, (let l = r.1 in omega arith), r.2)) (and_false e)

-- counted from 1
pub all_nth1 : {A : Type 0} (d : A) (xs : List A) (p : A → Bool) (n : ℕ) → all p xs ≡ true → among (length xs) n ≡ true
    → p (nth1 d xs n) ≡ true
unfolding nth1
all_nth1 d xs p zero e h = absurd (let r = among_in (length xs) 0 h in omega arith)
all_nth1 d xs p (suc n) e h = let r = among_in (length xs) (suc n) h in all_nth p d xs n e (omega arith)

-- ---- lists that have an element, or none
pub none_append : {A : Type 0} (xs ys : List A) → is_none xs ≡ false → is_none (xs ++ ys) ≡ false
unfolding is_none
none_append [] ys e = absurd (false≢true (sym e))
none_append (x ∷ xs) ys e = refl

pub none_in : {A : Type 0} (xs : List A) → is_none xs ≡ true → xs ≡ []
unfolding is_none
none_in [] e = refl
none_in (x ∷ xs) e = absurd (false≢true e)

-- ---- lists of numbers: two in a row, and images
pub append_in : (n : ℕ) (xs ys : List ℕ) → in_list n (xs ++ ys) ≡ true → (in_list n xs ≡ true) ⊎ (in_list n ys ≡ true)
append_in n [] ys e = inr e
append_in n (x ∷ xs) ys e =
    ⊎_elim (λ p. inl (cons_here n x xs p)) (λ q. ⊎_elim (λ l. inl (cons_later n x xs l)) (λ r. inr r) (append_in n xs ys q)) (cons_in n x (xs ++ ys) e)

pub append_left : (n : ℕ) (xs ys : List ℕ) → in_list n xs ≡ true → in_list n (xs ++ ys) ≡ true
append_left n [] ys e = absurd (nil_in n e)
append_left n (x ∷ xs) ys e =
    ⊎_elim (λ p. cons_here n x (xs ++ ys) p) (λ q. cons_later n x (xs ++ ys) (append_left n xs ys q)) (cons_in n x xs e)

pub append_right : (n : ℕ) (xs ys : List ℕ) → in_list n ys ≡ true → in_list n (xs ++ ys) ≡ true
append_right n [] ys e = e
append_right n (x ∷ xs) ys e = cons_later n x (xs ++ ys) (append_right n xs ys e)

pub image_listed : (m : ℕ → ℕ) (ts : List ℕ) (t : ℕ) → in_list t ts ≡ true → in_list (m t) (map m ts) ≡ true
image_listed m [] t e = absurd (nil_in t e)
image_listed m (x ∷ ts) t e =
    ⊎_elim (λ p. cons_here (m t) (m x) (map m ts) (ap m p)) (λ q. cons_later (m t) (m x) (map m ts) (image_listed m ts t q))
    (cons_in t x ts e)

pub listed_image : (m : ℕ → ℕ) (ts : List ℕ) (u : ℕ) → in_list u (map m ts) ≡ true → (t : ℕ) × (in_list t ts ≡ true) × (m t ≡ u)
listed_image m [] u e = absurd (nil_in u e)
listed_image m (x ∷ ts) u e =
    ⊎_elim (λ p. (x, cons_here x x ts refl, p)) (λ q. let r = listed_image m ts u q in (r.0, cons_later r.0 x ts r.1, r.2))
    (cons_in u (m x) (map m ts) e)
