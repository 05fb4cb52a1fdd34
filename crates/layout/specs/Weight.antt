-- Words that pass number 2: the whole tree has as many records as the file, since each is referred to once.
use Prim.Native.Nat.{ℕ, zero, suc, ◌+◌, ◌-◌, ◌*◌, ◌≤◌, ◌<◌}
use Rattle.std.proofs.Common.{subst, arith, zero-mul, one-mul, add-mul, mul-zero, ap₂, ◌∙◌, inl, inr}
use Rattle.std.proofs.Math.Decide.{dec_le}
use mathlib.Core.List.{List, [], ◌∷◌, ◌++◌}
use Rattle.std.specs.Prelude.{◌≡◌, true}
use Rattle.std.proofs.Math.Path.{refl, ap, sym}
use Rattle.language.specs.Lists.{up_from, count}
use Rattle.language.specs.File.{Chain, Use, number, unused, first, row, kind_of, kind_at, leading, references, references_of, form_ok}
use Rattle.language.specs.Tree.{Tree, read_words, read_record, read_chain, read_tree}
use Rattle.language.specs.Layout.{size, size_words}
use Rattle.layout.specs.Lists.{hit, hit_same, hit_other, count_cons, hits}
use Rattle.layout.specs.Standing.{chain_end_law}
use Rattle.layout.specs.Passing.{Leads, Used, once, next_leads, record_used, chain_step}

-- ---- the sum of f over a list
weigh : (ℕ → ℕ) → List ℕ → ℕ
weigh f [] = 0
weigh f (x ∷ xs) = f x + weigh f xs

weigh_append : (f : ℕ → ℕ) (xs ys : List ℕ) → weigh f (xs ++ ys) ≡ weigh f xs + weigh f ys
unfolding weigh
weigh_append f [] ys = omega arith
weigh_append f (x ∷ xs) ys = omega (arith, weigh_append f xs ys)

weigh_plus : (f g : ℕ → ℕ) (xs : List ℕ) → weigh (λ j. f j + g j) xs ≡ weigh f xs + weigh g xs
unfolding weigh
weigh_plus f g [] = omega arith
weigh_plus f g (x ∷ xs) = omega (arith, weigh_plus f g xs)

weigh_same : (m b : ℕ) (f g : ℕ → ℕ) → ((j : ℕ) → b ≤ j → j < b + m → f j ≡ g j) → weigh f (up_from b m) ≡ weigh g (up_from b m)
unfolding weigh up_from
weigh_same zero b f g h = refl
weigh_same (suc m) b f g h = ap₂ ◌+◌ (h b (omega arith) (omega arith)) (weigh_same m (suc b) f g (λ j p q. h j (omega arith) (omega arith)))

weigh_zero : (m b : ℕ) (f : ℕ → ℕ) → ((j : ℕ) → b ≤ j → f j ≡ 0) → weigh f (up_from b m) ≡ 0
unfolding weigh up_from
weigh_zero zero b f h = refl
weigh_zero (suc m) b f h = omega (arith, h b (omega arith), weigh_zero m (suc b) f (λ j p. h j (omega arith)))

weigh_past : (m b r : ℕ) (f : ℕ → ℕ) → r < b → weigh (λ j. hit r j * f j) (up_from b m) ≡ 0
weigh_past m b r f p = weigh_zero m b (λ j. hit r j * f j) (λ j l. rw (hit_other r j (omega arith)) (zero-mul _))

-- of all weights, that of r alone
weigh_hit : (m b r : ℕ) (f : ℕ → ℕ) → b ≤ r → r < b + m → weigh (λ j. hit r j * f j) (up_from b m) ≡ f r
unfolding weigh up_from
weigh_hit zero b r f p q = absurd (omega arith)
weigh_hit (suc m) b r f p q =
    elim (dec_le r b) [
      | yes le ↦ (let z : b ≡ r = omega arith in
          subst (λ (x : ℕ). weigh (λ j. hit x j * f j) (up_from b (suc m)) ≡ f x) z
          (rw (hit_same b, one-mul) (omega (arith, weigh_past m (suc b) b f (omega arith)))))
      | no gt ↦ rw (hit_other r b (omega arith), zero-mul) (omega (arith, weigh_hit m (suc b) r f (omega arith) (omega arith)))
    ]

weigh_first : (n : ℕ) (f : ℕ → ℕ) → 0 < n → weigh f (up_from 0 n) ≡ f 0 + weigh f (up_from 1 (n - 1))
unfolding weigh up_from
weigh_first zero f p = absurd (omega arith)
weigh_first (suc m) f p = let e : suc m - 1 ≡ m = omega arith in rw e

abbrev Within : ℕ → List ℕ → Type 0
Within n [] = Unit {0}
Within n (r ∷ rs) = (r < n) × Within n rs

within_append : (n : ℕ) (xs ys : List ℕ) → Within n xs → Within n ys → Within n (xs ++ ys)
within_append n [] ys h g = g
within_append n (x ∷ xs) ys h g = (h.0, within_append n xs ys h.1 g)

-- a list of numbers below n weighs what its counts weigh
weigh_counts : (n : ℕ) (f : ℕ → ℕ) (rs : List ℕ) → Within n rs → weigh f rs ≡ weigh (λ j. count j rs * f j) (up_from 0 n)
unfolding weigh count
weigh_counts n f [] h = sym (weigh_zero n 0 _ (λ j p. zero-mul _))
weigh_counts n f (r ∷ rs) h =
    ap₂ ◌+◌ (sym (weigh_hit n 0 r f (omega arith) (omega arith))) (weigh_counts n f rs h.1)
    ∙ sym (weigh_plus (λ j. hit r j * f j) (λ j. count j rs * f j) (up_from 0 n))
    ∙ weigh_same n 0 _ _ (λ j p q. sym (add-mul (hit r j) (count j rs) (f j)) ∙ ap (λ x. x * f j) (sym (count_cons j r rs)))

module _ (W : ℕ → ℕ → ℕ) (n : ℕ) where
  -- ---- a record's tree is one more than what its references weigh
  words_weigh : (us : List Use) (i k : ℕ) (g : ℕ → Tree) → size_words (read_words g (W i) k us) ≡ weigh (λ j. size (g j)) (leading W n i k us)
  unfolding read_words leading size weigh
  words_weigh [] i k g = refl
  words_weigh (number ∷ us) i k g = words_weigh us i (suc k) g
  words_weigh (unused ∷ us) i k g = words_weigh us i (suc k) g
  words_weigh (first c ∷ us) i k g = ap (λ x. size (g (W i k)) + x) (words_weigh us i (suc k) g)

  record_weighs : (i : ℕ) (g : ℕ → Tree) → size (read_record g (W i) (kind_of (W i 0))) ≡ suc (weigh (λ j. size (g j)) (references W n i))
  unfolding read_record references kind_at size weigh
  record_weighs i g = omega (arith, words_weigh (row (kind_of (W i 0))).words i 2 g)

  records_weigh : (m b : ℕ) (g : ℕ → Tree)
      → weigh (λ i. size (read_record g (W i) (kind_of (W i 0)))) (up_from b m) ≡ m + weigh (λ j. size (g j)) (references_of W n (up_from b m))
  unfolding weigh up_from references_of
  records_weigh zero b g = refl
  records_weigh (suc m) b g =
      omega (arith, record_weighs b g, weigh_append (λ j. size (g j)) (references W n b) (references_of W n (up_from (suc b) m)), records_weigh m (suc b) g)

  -- ---- all references are below n
  leads_within : (i : ℕ) (c : Chain) (r : ℕ) → i < n → Leads W n i c r → r < n
  leads_within i c r p l = elim l [ inl z ↦ omega arith | inr z ↦ z.1 ]

  leading_within : (us : List Use) (i k : ℕ) → i < n → Used W n i k us → Within n (leading W n i k us)
  unfolding leading
  leading_within [] i k p u = tt
  leading_within (number ∷ us) i k p u = leading_within us i (suc k) p u
  leading_within (unused ∷ us) i k p u = leading_within us i (suc k) p u.1
  leading_within (first c ∷ us) i k p u = (leads_within i c _ p u.0, leading_within us i (suc k) p u.1)

  module _ (P : form_ok W n ≡ true) where
    references_within : (m b : ℕ) → b + m ≤ n → Within n (references_of W n (up_from b m))
    unfolding references_of up_from references kind_at
    references_within zero b q = tt
    references_within (suc m) b q =
        within_append n (references W n b) _ (
          leads_within b _ _ (omega arith) (next_leads W n P b (omega arith)),
          leading_within (row (kind_of (W b 0))).words b 2 (omega arith) (record_used W n P b (omega arith)),
        )
        (references_within m (suc b) (omega arith))

    record_at : ℕ → Tree
    record_at i = read_record (λ j. read_chain n W j) (W i) (kind_of (W i 0))

    weight : ℕ → ℕ
    weight j = size (read_chain n W j)

    all_records : weigh (λ i. size (record_at i)) (up_from 0 n) ≡ n + weigh (λ j. hits W n 0 n j * weight j) (up_from 0 n)
    unfolding record_at weight hits
    all_records = records_weigh n 0 (λ j. read_chain n W j) ∙ ap (λ x. n + x) (weigh_counts n _ _ (references_within n 0 (omega arith)))

    -- each but the first is what its one reference weighs
    record_once : (j : ℕ) → 0 < j → j < n → size (record_at j) ≡ hits W n 0 n j * weight j
    unfolding record_at weight
    record_once j p q =
        ap size (sym (chain_step W n P j p q)) ∙ sym (one-mul _) ∙ ap (λ x. x * size (read_chain n W j)) (sym (once W n P j p q))

    all_but_first : weigh (λ i. size (record_at i)) (up_from 1 (n - 1)) ≡ weigh (λ j. hits W n 0 n j * weight j) (up_from 1 (n - 1))
    all_but_first = weigh_same (n - 1) 1 _ _ (λ j p q. record_once j p (omega arith))

    none_at_end : hits W n 0 n 0 * weight 0 ≡ 0
    unfolding weight size
    none_at_end = rw (chain_end_law n W) (mul-zero _)

    pub whole_size : 0 < n → size (read_tree W n) ≡ n
    unfolding read_tree record_at
    whole_size p = omega (arith, all_records, all_but_first, none_at_end, weigh_first n (λ i. size (record_at i)) p, weigh_first n (λ j. hits W n 0 n j * weight j) p)
