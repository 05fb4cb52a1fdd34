-- Numbers of which, once the zeros at the end are off, each is a variable's: no 0 stands before those. So up to the first 0 is all of them.
use Rattle.std.specs.Prelude.{ℕ, zero, suc, ◌≤◌, ◌≡◌, refl, true, List, [], ◌∷◌, map}
use Rattle.std.proofs.Common.{arith}
use Rattle.sets.specs.Members.{in_list, cons_here, cons_later}
use Rattle.language.specs.Program.{four, trim_onto, trimmed, four_words, arguments_of}
use Rattle.language.specs.Frames.{Value}
use Rattle.language.specs.Format.{max_variables}
use Rattle.heap.specs.Words.{words_of}
use Rattle.heap.specs.Standing.{StandEach}
use Rattle.word_machine.specs.Machine.{term_of}

-- numbers from 1 to 64
abbrev pub RangedMembers : List ℕ → Type 0
RangedMembers ys = (y : ℕ) → in_list y ys ≡ true → (1 ≤ y) × (y ≤ max_variables)

-- of such numbers, zeros at the end aside: what follows the first, and nothing behind a 0
pub ranged_rest : (y : ℕ) (zs : List ℕ) → RangedMembers (suc y ∷ zs) → RangedMembers zs
ranged_rest y zs r x i = r x (cons_later x (suc y) zs i)

pub none_behind : (zs : List ℕ) → RangedMembers (trim_onto zero zs) → trim_onto zero zs ≡ []
unfolding trim_onto
none_behind [] r = refl
none_behind (z ∷ zs) r = absurd (let q = r 0 (cons_here 0 0 (z ∷ zs) refl) in omega (arith, q.0))

-- ---- a construct has no arguments exactly if the first number is 0
pub no_arguments : (b c d : ℕ) → RangedMembers (arguments_of (four zero b c d)) → arguments_of (four zero b c d) ≡ []
unfolding arguments_of trimmed four_words
no_arguments b c d r = none_behind (trimmed (b ∷ c ∷ d ∷ [])) r

pub first_argument : (a b c d : ℕ) → arguments_of (four (suc a) b c d) ≡ suc a ∷ trimmed (b ∷ c ∷ d ∷ [])
unfolding arguments_of trimmed trim_onto four_words
first_argument a b c d = refl

-- ---- a new cell
pub term_functor_law : (value old : ℕ → ℕ) (k a b c d : ℕ) → (term_of value old k a b c d).functor ≡ k
unfolding term_of
term_functor_law value old k zero b c d = refl
term_functor_law value old k (suc a) zero c d = refl
term_functor_law value old k (suc a) (suc b) zero d = refl
term_functor_law value old k (suc a) (suc b) (suc c) zero = refl
term_functor_law value old k (suc a) (suc b) (suc c) (suc d) = refl

-- its words stand for its arguments' values if the words of all four numbers do
pub term_words_law : (place : ℕ → ℕ) (n : ℕ) (value old : ℕ → ℕ) (values : ℕ → Value) (k a b c d : ℕ) → RangedMembers (arguments_of (four a b c d))
    → StandEach place n (map value (four_words (four a b c d))) (map values (arguments_of (four a b c d)))
    → StandEach place n (words_of (term_of value old k a b c d)) (map values (arguments_of (four a b c d)))
unfolding term_of arguments_of trimmed trim_onto four_words StandEach
term_words_law place n value old values k zero b c d r s = rw (none_behind (trimmed (b ∷ c ∷ d ∷ [])) r) tt
term_words_law place n value old values k (suc a) zero c d r s = rw (none_behind (trimmed (c ∷ d ∷ [])) (ranged_rest a _ r)) (s.0, tt)
term_words_law place n value old values k (suc a) (suc b) zero d r s =
    rw (none_behind (trimmed (d ∷ [])) (ranged_rest b _ (ranged_rest a _ r))) (s.0, (s.1.0, tt))
term_words_law place n value old values k (suc a) (suc b) (suc c) zero r s = s
term_words_law place n value old values k (suc a) (suc b) (suc c) (suc d) r s = s
