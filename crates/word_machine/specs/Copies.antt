-- What stores and copies of words come to, where words stand for what a function gives: a store beside `put`, copies beside puts in a row.
use Rattle.std.specs.Prelude.{ℕ, zero, suc, ◌+◌, ◌<◌, ◌≤◌, ◌≡◌, Bool, true, false, ◌≢◌, ltb, length, get_or, set}
use Rattle.std.proofs.Common.{arith, ◌∙◌, ltb-true, get_or-set_same}
use Rattle.std.proofs.Math.Decide.{ℕ_discrete}
use Rattle.std.proofs.Math.Path.{refl}
use mathlib.Core.List.{List, [], ◌∷◌, map}
use Rattle.std.proofs.Math.ListN.{length-set}
use Rattle.std.proofs.Math.Seq.{get_or-set_other}
use Rattle.sets.specs.Members.{members, in_list, cons_here, cons_later}
use Rattle.language.specs.Lists.{choose, put}
use Rattle.language.specs.Frames.{Value, give_each}
use Rattle.language.specs.AcceptedRun.{stand_each}
use Rattle.language.specs.Format.{call_procedure, max_variables}
use Rattle.language.specs.File.{word, record_count}
use Rattle.laws.specs.Choices.{put_same, put_other}
use Rattle.word_machine.specs.Tables.{Tables}
use Rattle.word_machine.specs.Machine.{values_out, regions_out, return_words, copied, cleared, blocks}

-- ---- lengths, and words that no store meets
module _ (to from : ℕ → ℕ) where
  pub copied_length : (as' fw : List ℕ) → length (copied to from as' fw) ≡ length fw
  unfolding copied
  copied_length [] fw = refl
  copied_length (a ∷ as') fw = copied_length as' (set fw (to a) (get_or fw (from a) 0)) ∙ length-set fw (to a) (get_or fw (from a) 0)

  pub copied_other : (as' fw : List ℕ) (j : ℕ) → ((a : ℕ) → in_list a as' ≡ true → j ≢ to a) → get_or (copied to from as' fw) j 0 ≡ get_or fw j 0
  unfolding copied
  copied_other [] fw j h = refl
  copied_other (a ∷ as') fw j h =
      copied_other as' (set fw (to a) (get_or fw (from a) 0)) j (λ b i. h b (cons_later b a as' i))
      ∙ get_or-set_other fw (to a) j (get_or fw (from a) 0) 0 (h a (cons_here a a as' refl))

-- a return keeps the length
pub return_length : (f : List ℕ) (T : Tables) (k i : ℕ) (fw : List ℕ) → length (return_words f T k i fw) ≡ length fw
unfolding return_words regions_out values_out choose
return_length f T k i fw = by (ltb i (record_count f))
  where
    by : (b : Bool) → length (choose b (regions_out f T k i (members (T.bears (word f i call_procedure))) (values_out f T k i fw)) fw) ≡ length fw
    by true = copied_length _ _ _ _ ∙ copied_length _ _ _ fw
    by false = refl

pub cleared_length : (n p : ℕ) (fw : List ℕ) → length (cleared p n fw) ≡ length fw
unfolding cleared
cleared_length zero p fw = refl
cleared_length (suc n) p fw = cleared_length n (suc p) (set fw p 0) ∙ length-set fw p 0

pub cleared_before : (n p : ℕ) (fw : List ℕ) (j : ℕ) → j < p → get_or (cleared p n fw) j 0 ≡ get_or fw j 0
unfolding cleared
cleared_before zero p fw j h = refl
cleared_before (suc n) p fw j h = cleared_before n (suc p) (set fw p 0) j (omega arith) ∙ get_or-set_other fw p j 0 0 (λ z. omega arith)

pub cleared_after : (n p : ℕ) (fw : List ℕ) (j : ℕ) → p + n ≤ j → get_or (cleared p n fw) j 0 ≡ get_or fw j 0
unfolding cleared
cleared_after zero p fw j h = refl
cleared_after (suc n) p fw j h = cleared_after n (suc p) (set fw p 0) j (omega arith) ∙ get_or-set_other fw p j 0 0 (λ z. omega arith)

pub cleared_in : (n p : ℕ) (fw : List ℕ) (j : ℕ) → p ≤ j → j < p + n → p + n ≤ length fw → get_or (cleared p n fw) j 0 ≡ 0
unfolding cleared
cleared_in zero p fw j h l q = absurd (omega arith)
cleared_in (suc n) p fw j h l q = elim (ℕ_discrete p j) [
  | yes z ↦ cleared_before n (suc p) (set fw p 0) j (omega arith) ∙ (rw (← z) (get_or-set_same fw p 0 0 (omega arith)))
  | no ne ↦ cleared_in n (suc p) (set fw p 0) j (omega (arith, ne)) (omega arith) (omega (arith, length-set fw p 0))
]

-- ---- words are cleared in blocks
pub blocks_most : (n : ℕ) → blocks n ≤ max_variables
unfolding blocks choose
blocks_most n = by (ltb n 9) (ltb n 17)
  where
    by : (a b : Bool) → choose a 8 (choose b 16 max_variables) ≤ max_variables
    by true b = omega arith
    by false true = omega arith
    by false false = omega arith

pub blocks_least : (n : ℕ) → n ≤ max_variables → n ≤ blocks n
unfolding blocks choose
blocks_least n l = by (ltb n 9) (ltb n 17) refl refl
  where
    by : (a b : Bool) → ltb n 9 ≡ a → ltb n 17 ≡ b → n ≤ choose a 8 (choose b 16 max_variables)
    by true b ea eb = omega (arith, ltb-true n 9 ea)
    by false true ea eb = omega (arith, ltb-true n 17 eb)
    by false false ea eb = l

-- for each of a list, its value at its name
pub puts : {A : Type 0} → (ℕ → ℕ) → (ℕ → A) → List ℕ → (ℕ → A) → ℕ → A
puts name value [] t = t
puts name value (a ∷ as') t = puts name value as' (put t (name a) (value a))

-- ---- R says that a word stands for something: the word at base + x for what a function gives at x
module _ {A : Type 0} (R : ℕ → A → Type 0) (base : ℕ) where
  -- a word stored at the place of y
  pub set_related : (fw : List ℕ) (y v : ℕ) (a : A) (t : ℕ → A) (x : ℕ) → base + y < length fw → R v a → R (get_or fw (base + x) 0) (t x)
      → R (get_or (set fw (base + y) v) (base + x) 0) (put t y a x)
  set_related fw y v a t x l r h = elim (ℕ_discrete y x) [
    | yes z ↦ rw (← z) (rw (get_or-set_same fw (base + y) v 0 l, put_same t y a) r)
    | no ne ↦ rw (get_or-set_other fw (base + y) (base + x) v 0 (λ z. ne (omega arith)), put_other t y a x ne) h
  ]

  module _ (to from name : ℕ → ℕ) (value : ℕ → A) where
    pub copied_related : (as' fw : List ℕ) (t : ℕ → A) (x : ℕ)
        → ((a : ℕ) → in_list a as' ≡ true → (to a ≡ base + name a) × (to a < length fw) × R (get_or fw (from a) 0) (value a))
        → ((a b : ℕ) → in_list a as' ≡ true → in_list b as' ≡ true → from b ≢ to a) → R (get_or fw (base + x) 0) (t x)
        → R (get_or (copied to from as' fw) (base + x) 0) (puts name value as' t x)
    unfolding copied puts
    copied_related [] fw t x g d h = h
    copied_related (a ∷ as') fw t x g d h =
        let s = g a (cons_here a a as' refl) in
        copied_related as' (set fw (to a) (get_or fw (from a) 0)) (put t (name a) (value a)) x
        (λ b i. let u = g b (cons_later b a as' i) in (
          u.0,
          omega (arith, u.1, length-set fw (to a) (get_or fw (from a) 0)),
          rw (get_or-set_other fw (to a) (from b) (get_or fw (from a) 0) 0 (d a b (cons_here a a as' refl) (cons_later b a as' i))) u.2,
        ))
        (λ b c i j. d b c (cons_later b a as' i) (cons_later c a as' j))
        (rw s.0 (set_related fw (name a) (get_or fw (from a) 0) (value a) t x (rw (← s.0) s.1) s.2 h))

-- ---- puts in a row are the definitions'
pub puts_give : (name var : ℕ → ℕ) (values : ℕ → Value) (as' : List ℕ) (t : ℕ → Value)
    → puts name (λ a. values (var a)) as' t ≡ give_each (map name as') (map values (map var as')) t
unfolding puts give_each
puts_give name var values [] t = refl
puts_give name var values (a ∷ as') t = puts_give name var values as' (put t (name a) (values (var a)))

pub puts_stand : (name meant : ℕ → ℕ) (as' : List ℕ) (t : ℕ → ℕ) → puts name meant as' t ≡ stand_each name meant as' t
unfolding puts stand_each
puts_stand name meant [] t = refl
puts_stand name meant (a ∷ as') t = puts_stand name meant as' (put t (name a) (meant a))
