-- The arm of a functor, one record at a time.
use Rattle.std.specs.Prelude.{ℕ, ◌≡◌, List, [], ◌∷◌}
use borrow.Author.Tests.{eq-eqb, ne_eqb}
use Rattle.language.specs.Lists.{choose}
use Rattle.language.specs.File.{word}
use Rattle.language.specs.Format.{term_functor}
use Rattle.word_machine.specs.Machine.{arm_of}

module _ (f : List ℕ) (k : ℕ) where
  pub arm_none : (js : List ℕ) → js ≡ [] → 0 ≡ arm_of f k js
  unfolding arm_of
  arm_none js z = rw z

  pub arm_here : (j : ℕ) (js ks : List ℕ) → ks ≡ j ∷ js → word f j term_functor ≡ k → j ≡ arm_of f k ks
  unfolding arm_of choose
  arm_here j js ks e h = rw (e, eq-eqb (word f j term_functor) k h)

  pub arm_later : (j : ℕ) (js ks : List ℕ) → ks ≡ j ∷ js → (word f j term_functor ≡ k → ⊥) → arm_of f k js ≡ arm_of f k ks
  unfolding arm_of choose
  arm_later j js ks e h = rw (e, ne_eqb (word f j term_functor) k h)
