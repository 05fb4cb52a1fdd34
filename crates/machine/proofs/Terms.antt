-- Arguments of constructs and arms, one at a time up to the first that is numbered 0, as the code finds their words: n of them are done.
use Prim.Native.Nat.{ℕ, zero, suc, ◌+◌, ◌-◌, ◌*◌, ◌≤◌, ◌<◌}
use native.Mathlib.Omega.{arith}
use mathlib.Core.Path.{◌≡◌, refl, ap, ◌∙◌}
use mathlib.Core.List.{List, ◌∷◌}
use lib.ListN.{get_or, set}
use Rattle.language.specs.File.{word}
use Rattle.language.specs.Format.{max_arity, term_functor, term_arguments}
use Rattle.memory.specs.Memory.{cell_arguments, cell_words, cell_word, with_word}
use Rattle.word_machine.specs.Machine.{gives_each}
use Rattle.machine.specs.GoalWords.{value_in, pours_each, arguments_from, words_from, poured, arm_values}

-- some are left, or none
left : (n : ℕ) → n < max_arity → max_arity - n ≡ suc (max_arity - suc n)
left n l = omega arith

none : (n : ℕ) → max_arity ≤ n → max_arity - n ≡ 0
none n l = omega arith

-- ---- a construct's: into cell x
module _ (f : List ℕ) (i k : ℕ) (fw : List ℕ) (x : ℕ) where
  unfoldable pub poured_from : ℕ → List ℕ → List ℕ
  poured_from n m = pours_each (value_in k fw) x (suc n) (arguments_from f i (max_arity - n) n) m

  pub pour_first : (t : ℕ) (m m₁ : List ℕ) → t ≡ word f i term_functor → m₁ ≡ set m (cell_words * x) t → poured_from 0 m₁ ≡ poured f i k fw x m
  unfolding poured_from poured
  pour_first t m m₁ e em =
      let p : cell_words * x ≡ cell_words * x + 0 = omega arith in
      ap (λ v. pours_each (value_in k fw) x 1 (arguments_from f i max_arity 0) v) (em ∙ ap (λ j. set m j t) p ∙ ap (λ v. with_word m x 0 v) e)

  pub pour_end : (n : ℕ) (m : List ℕ) → max_arity ≤ n → m ≡ poured_from n m
  unfolding poured_from pours_each arguments_from
  pour_end n m l = rw (none n l)

  module _ (n a : ℕ) (l : n < max_arity) (e : a ≡ word f i (term_arguments + n)) where
    pub pour_stop : (m : List ℕ) → a ≡ 0 → m ≡ poured_from n m
    unfolding poured_from pours_each arguments_from
    pour_stop m z = rw (left n l, ← e, z)

    more : (b : ℕ) (as' m : List ℕ) → (b ≡ 0 → ⊥) → pours_each (value_in k fw) x (suc (suc n)) as' (with_word m x (suc n) (value_in k fw b)) ≡ pours_each (value_in k fw) x (suc n) (b ∷ as') m
    unfolding pours_each
    more zero as' m z = absurd (z refl)
    more (suc b) as' m z = refl

    pub pour_on : (v : ℕ) (m m₁ : List ℕ) → (a ≡ 0 → ⊥) → v ≡ value_in k fw a → m₁ ≡ set m (cell_words * x + cell_arguments + n) v → poured_from (n + 1) m₁ ≡ poured_from n m
    unfolding poured_from arguments_from
    pour_on v m m₁ z ev em =
        let o : n + 1 ≡ suc n = omega arith in
        let p : cell_words * x + cell_arguments + n ≡ cell_words * x + suc n = omega arith in
        rw (left n l, ← e, em, ev, o, p) (more a (arguments_from f i (max_arity - suc n) (suc n)) m z)

-- ---- an arm's: to variables of the frame at place k, from cell p
module _ (f : List ℕ) (j p k : ℕ) (m : List ℕ) where
  unfoldable pub given_from : ℕ → List ℕ → List ℕ
  given_from n fw = gives_each k (arguments_from f j (max_arity - n) n) (words_from m p (max_arity - n) n) fw

  pub give_first : (fw : List ℕ) → given_from 0 fw ≡ arm_values f j p k m fw
  unfolding given_from arm_values
  give_first fw = refl

  pub give_end : (n : ℕ) (fw : List ℕ) → max_arity ≤ n → fw ≡ given_from n fw
  unfolding given_from gives_each arguments_from
  give_end n fw l = rw (none n l)

  module _ (n a : ℕ) (l : n < max_arity) (e : a ≡ word f j (term_arguments + n)) where
    pub give_stop : (fw : List ℕ) → a ≡ 0 → fw ≡ given_from n fw
    unfolding given_from gives_each arguments_from words_from
    give_stop fw z = rw (left n l, ← e, z)

    more_given : (b w : ℕ) (xs ws fw : List ℕ) → (b ≡ 0 → ⊥) → gives_each k xs ws (set fw (k + b) w) ≡ gives_each k (b ∷ xs) (w ∷ ws) fw
    unfolding gives_each
    more_given zero w xs ws fw z = absurd (z refl)
    more_given (suc b) w xs ws fw z = refl

    pub give_on : (v : ℕ) (fw fx : List ℕ) → (a ≡ 0 → ⊥) → v ≡ get_or m (cell_words * p + cell_arguments + n) 0 → fx ≡ set fw (k + a) v → given_from (n + 1) fx ≡ given_from n fw
    unfolding given_from arguments_from words_from
    give_on v fw fx z ev ex =
        let o : n + 1 ≡ suc n = omega arith in
        let q : cell_words * p + cell_arguments + n ≡ cell_words * p + suc n = omega arith in
        rw (left n l, ← e, ex, ev, o, q) (more_given a (cell_word m p (suc n)) (arguments_from f j (max_arity - suc n) (suc n)) (words_from m p (max_arity - suc n) (suc n)) fw z)

-- an argument that is not numbered 0 is the first, or the first was not
pub any_yet : (f : List ℕ) (j n a : ℕ) → a ≡ word f j (term_arguments + n) → (a ≡ 0 → ⊥) → (0 < n → word f j term_arguments ≡ 0 → ⊥) → word f j term_arguments ≡ 0 → ⊥
any_yet f j zero a e z h w = z (e ∙ w)
any_yet f j (suc n) a e z h w = h (omega arith) w
