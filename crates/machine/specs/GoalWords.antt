-- What goals read in words and do to them, one function for each part.
use Rattle.std.specs.Prelude.{ℕ, zero, suc, ◌+◌, ◌-◌, ◌≤◌, ◌<◌, ◌≡◌, List, [], ◌∷◌, ltb, ℤ, get_or, set, Option, Some, None}
use Rattle.language.specs.Lists.{choose}
use Rattle.language.specs.File.{word}
use Rattle.language.specs.Format.{max_arity, max_variables, goal_x, sum_operation, sum_y, sum_z, term_functor, term_arguments, switch_arms, lifetime_region}
use Rattle.chains.specs.Records.{chain_records}
use Rattle.memory.specs.declared.Contents.{Contents}
use Rattle.memory.specs.declared.Heap.{Heap}
use Rattle.memory.specs.Memory.{constants_from, cell_word, with_word, built, built_cells, built_regions}
use Rattle.plans.specs.Plan.{sides_from}
use Rattle.word_machine.specs.Machine.{regions_from, sum_of_words, arm_of, gives_each, term_of}

-- the arguments of the construct or arm at record i are numbers of a frame's words
abbrev pub Low : List ℕ → ℕ → Type 0
Low f i = (n : ℕ) → n < max_arity → word f i (term_arguments + n) ≤ max_variables

-- .. if it has one
abbrev pub LowIfAny : List ℕ → ℕ → Type 0
LowIfAny f i = (word f i term_arguments ≡ 0 → ⊥) → Low f i

-- k is the place of a frame's first word: the value of its variable x
abbrev pub value_in : ℕ → List ℕ → ℕ → ℕ
value_in k fw x = get_or fw (k + x) 0

-- the sum or difference at record i, in full
abbrev pub sum_at : List ℕ → ℕ → ℕ → List ℕ → ℤ
sum_at f i k fw = sum_of_words (word f i sum_operation) (value_in k fw (word f i sum_y)) (value_in k fw (word f i sum_z))

-- what the construct at record i makes of the words of cell x
unfoldable pub term_in : List ℕ → ℕ → ℕ → List ℕ → List ℕ → ℕ → Contents
term_in f i k fw m x =
    term_of (value_in k fw) (λ n. cell_word m x n) (word f i term_functor)
    (word f i term_arguments) (word f i (term_arguments + 1)) (word f i (term_arguments + 2)) (word f i (term_arguments + 3))

-- the values of arguments, up to the first that is numbered 0, put into the words of cell x from word n on
unfoldable pub pours_each : (ℕ → ℕ) → ℕ → ℕ → List ℕ → List ℕ → List ℕ
pours_each value x n [] m = m
pours_each value x n (zero ∷ as') m = m
pours_each value x n (suc a ∷ as') m = pours_each value x (suc n) as' (with_word m x n (value (suc a)))

-- c words of record i from argument n on
unfoldable pub arguments_from : List ℕ → ℕ → ℕ → ℕ → List ℕ
arguments_from f i zero n = []
arguments_from f i (suc c) n = word f i (term_arguments + n) ∷ arguments_from f i c (suc n)

-- .. and of cell p
unfoldable pub words_from : List ℕ → ℕ → ℕ → ℕ → List ℕ
words_from m p zero n = []
words_from m p (suc c) n = cell_word m p (suc n) ∷ words_from m p c (suc n)

-- the functor and the arguments of the construct at record i put into cell x
unfoldable pub poured : List ℕ → ℕ → ℕ → List ℕ → ℕ → List ℕ → List ℕ
poured f i k fw x m = pours_each (value_in k fw) x 1 (arguments_from f i max_arity 0) (with_word m x 0 (word f i term_functor))

-- the place of its region, and of the region that a create or a remove names
unfoldable pub home_for : List ℕ → ℕ → ℕ → List ℕ → ℕ
home_for plan i k fw = get_or fw (k + regions_from + get_or plan (sides_from + i) 0) 0

unfoldable pub region_for : List ℕ → ℕ → ℕ → List ℕ → ℕ
region_for f i k fw = get_or fw (k + regions_from + word f i lifetime_region) 0

-- What a construct of functor t makes, by its first argument: a constant, which leaves the heap and the words of cells and regions alone, or a cell
-- in the region at place r.
unfoldable pub term_made : ℕ → ℕ → Heap → List ℕ → Option (ℕ × Heap)
term_made t zero h m = Some ((constants_from + t), h)
term_made t (suc a) h m = built h m

unfoldable pub cells_made : ℕ → Heap → List ℕ → List ℕ → ℕ → Contents → List ℕ
cells_made zero h m rs r c = m
cells_made (suc a) h m rs r c = built_cells h m rs r c

unfoldable pub regions_made : ℕ → Heap → List ℕ → List ℕ → ℕ → List ℕ
regions_made zero h m rs r = rs
regions_made (suc a) h m rs r = built_regions h m rs r

-- what was made is put into word a
unfoldable pub placed : ℕ → Option (ℕ × Heap) → List ℕ → List ℕ
placed a (Some (y, h)) fw = set fw a y
placed a None fw = fw

-- the functor of a term's word v: of the cell at that place, or of the constant
unfoldable pub functor_in : List ℕ → ℕ → ℕ
functor_in m v = choose (ltb v constants_from) (cell_word m v 0) (v - constants_from)

-- the arm that the switch at record i takes
unfoldable pub arm_for : List ℕ → ℕ → ℕ → List ℕ → List ℕ → ℕ
arm_for f i k m fw = arm_of f (functor_in m (value_in k fw (word f i goal_x))) (chain_records f (word f i switch_arms))

-- what the arguments of the arm at record j get from cell p, and from a term's word v: a constant has no values
unfoldable pub arm_values : List ℕ → ℕ → ℕ → ℕ → List ℕ → List ℕ → List ℕ
arm_values f j p k m fw = gives_each k (arguments_from f j max_arity 0) (words_from m p max_arity 0) fw

unfoldable pub term_values : List ℕ → ℕ → ℕ → ℕ → List ℕ → List ℕ → List ℕ
term_values f j v k m fw = choose (ltb v constants_from) (arm_values f j v k m fw) fw
