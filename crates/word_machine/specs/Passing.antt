-- What a call's arguments pass: where each argument's record says which variable of the callee it matches and that variable's mode, the words of
-- those of one mode, in chain order, have the callee's variables of that mode and the caller's.
use Rattle.std.specs.Prelude.{ℕ, ◌+◌, ◌*◌, ◌≤◌, ◌≡◌, Bool, true, false, eqb, length}
use Rattle.std.proofs.Common.{arith, ap, ◌∙◌}
use Rattle.std.proofs.Math.Path.{refl}
use mathlib.Core.List.{List, [], ◌∷◌, map}
use Rattle.sets.specs.Members.{cons_if, in_list, cons_here, cons_later}
use Rattle.language.specs.Program.{Parameter, parameter_variables, arguments_in}
use Rattle.language.specs.Format.{max_variables}
use Rattle.word_machine.specs.Tables.{given_unit, link_unit, slot_of, given_of}

-- the word of an argument: the callee's variable, the caller's, and what else it says
unfoldable pub packed : ℕ → ℕ → ℕ → ℕ
packed slot given more = slot + given_unit * given + link_unit * more

pub packed_slot : (s g n : ℕ) → s ≤ max_variables → g ≤ max_variables → slot_of (packed s g n) ≡ s
unfolding slot_of packed
packed_slot s g n a b = omega arith

pub packed_given : (s g n : ℕ) → s ≤ max_variables → g ≤ max_variables → given_of (packed s g n) ≡ g
unfolding given_of packed
packed_given s g n a b = omega arith

-- the records of a mode among those of a call's arguments
unfoldable pub of_mode : (ℕ → ℕ) → ℕ → List ℕ → List ℕ
of_mode mode m [] = []
of_mode mode m (a ∷ as') = cons_if (eqb (mode a) m) a (of_mode mode m as')

-- the records of a call's arguments beside the callee's in and out variables
abbrev pub Matches : (ℕ → ℕ) → (ℕ → ℕ) → List Parameter → List ℕ → Type 0
Matches slot mode [] as' = Unit {0}
Matches slot mode (p ∷ ps) [] = Unit {0}
Matches slot mode (p ∷ ps) (a ∷ as') = (slot a ≡ p.variable) × (mode a ≡ p.mode) × Matches slot mode ps as'

map_cons_if : (g : ℕ → ℕ) (b : Bool) (x : ℕ) (xs : List ℕ) → map g (cons_if b x xs) ≡ cons_if b (g x) (map g xs)
unfolding cons_if
map_cons_if g true x xs = refl
map_cons_if g false x xs = refl

module _ (slot mode link : ℕ → ℕ) (m : ℕ) where
  -- one record more, whose word says y by `part`
  one_more : (part : ℕ → ℕ) (a y k : ℕ) (as' ys : List ℕ) → mode a ≡ k → part (link a) ≡ y → map part (map link (of_mode mode m as')) ≡ ys
      → map part (map link (cons_if (eqb (mode a) m) a (of_mode mode m as'))) ≡ cons_if (eqb k m) y ys
  one_more part a y k as' ys e d h =
      ap (map part) (map_cons_if link (eqb (mode a) m) a (of_mode mode m as')) ∙ map_cons_if part (eqb (mode a) m) (link a) (map link (of_mode mode m as'))
      ∙ (rw (e, d, h))

  pub passed_slots : (ps : List Parameter) (as' : List ℕ) → length as' ≡ length ps → Matches slot mode ps as'
      → ((a : ℕ) → in_list a as' ≡ true → slot_of (link a) ≡ slot a)
      → map slot_of (map link (of_mode mode m as')) ≡ arguments_in m ps (parameter_variables ps)
  unfolding of_mode arguments_in parameter_variables
  passed_slots [] [] e M h = refl
  passed_slots [] (a ∷ as') e M h = absurd (omega arith)
  passed_slots (p ∷ ps) [] e M h = absurd (omega arith)
  passed_slots (p ∷ ps) (a ∷ as') e M h =
      one_more slot_of a p.variable p.mode as' _ M.1 (h a (cons_here a a as' refl) ∙ M.0)
      (passed_slots ps as' (omega arith) M.2 (λ b i. h b (cons_later b a as' i)))

  pub passed_givens : (given : ℕ → ℕ) (ps : List Parameter) (as' : List ℕ) → length as' ≡ length ps → Matches slot mode ps as'
      → ((a : ℕ) → in_list a as' ≡ true → given_of (link a) ≡ given a)
      → map given_of (map link (of_mode mode m as')) ≡ arguments_in m ps (map given as')
  unfolding of_mode arguments_in
  passed_givens given [] [] e M h = refl
  passed_givens given [] (a ∷ as') e M h = absurd (omega arith)
  passed_givens given (p ∷ ps) [] e M h = absurd (omega arith)
  passed_givens given (p ∷ ps) (a ∷ as') e M h =
      one_more given_of a (given a) p.mode as' _ M.1 (h a (cons_here a a as' refl))
      (passed_givens given ps as' (omega arith) M.2 (λ b i. h b (cons_later b a as' i)))
