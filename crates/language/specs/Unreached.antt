-- Files for number 17 (C-18) with their answers, computed like the table's.
use Rattle.std.specs.Prelude.{ℕ, List, [], ◌∷◌, ◌++◌, ◌≡◌, refl, Ok}
use Rattle.language.specs.declared.Refusal.TheVariants.{Regions, Unreached}
use Rattle.language.specs.declared.Ending.TheVariants.{Finished}
use Rattle.language.specs.Machine.{runner_lent}
use Rattle.language.specs.Answers.{annotated, writes, annotator_bytes, checked, ran}
use Rattle.language.specs.Output.{refused_word, refusal_line}
use Rattle.language.specs.Computing.{computing}
use Rattle.language.specs.Table.{eight, rows, file, silent, AllRefuse}

-- the annotator hands the file back, the checker accepts it, and it runs to its end in n steps
abbrev Silent : List ℕ → ℕ → Type 0
Silent f n = (annotated f annotator_bytes ≡ writes f) × (checked f ≡ Ok tt) × (ran f runner_lent ≡ silent Finished n)

-- a procedure that nothing calls, one that only itself calls, two that call each other
unfoldable uncalled : List ℕ
uncalled = file ((1 ∷ 1 ∷ 0 ∷ 3 ∷ []) ∷ (4 ∷ 2 ∷ []) ∷ (4 ∷ []) ∷ [])

unfoldable calls_itself : List ℕ
calls_itself = file ((1 ∷ 1 ∷ 0 ∷ 4 ∷ []) ∷ (4 ∷ 2 ∷ []) ∷ (4 ∷ 0 ∷ 0 ∷ 0 ∷ 3 ∷ []) ∷ (15 ∷ 0 ∷ 1 ∷ []) ∷ [])

unfoldable island : List ℕ
island =
    file (
    (1 ∷ 1 ∷ 0 ∷ 6 ∷ []) ∷ (4 ∷ 2 ∷ []) ∷ (4 ∷ 4 ∷ 0 ∷ 0 ∷ 3 ∷ []) ∷ (15 ∷ 0 ∷ 2 ∷ []) ∷ (4 ∷ 0 ∷ 0 ∷ 0 ∷ 5 ∷ []) ∷ (15 ∷ 0 ∷ 1 ∷ []) ∷ [])

-- a procedure that nothing calls, and which calls the entry
unfoldable calls_the_entry : List ℕ
calls_the_entry = file ((1 ∷ 1 ∷ 0 ∷ 4 ∷ []) ∷ (4 ∷ 2 ∷ []) ∷ (4 ∷ 0 ∷ 0 ∷ 0 ∷ 3 ∷ []) ∷ (15 ∷ []) ∷ [])

unreached_answers :
    AllRefuse uncalled Unreached × AllRefuse calls_itself Unreached × AllRefuse island Unreached × AllRefuse calls_the_entry Unreached
unfolding computing eight rows file silent uncalled calls_itself island calls_the_entry
unreached_answers = ((refl, refl, refl), (refl, refl, refl), (refl, refl, refl), (refl, refl, refl))

-- "refused 17"
unreached_line : refusal_line Unreached ≡ refused_word ++ (49 ∷ 55 ∷ 10 ∷ [])
unfolding computing
unreached_line = refl

-- a chain of two calls, the first procedure called being the last of the file; and a call in a part that no run takes
unfoldable chain_of_two : List ℕ
chain_of_two =
    file (
    (1 ∷ 1 ∷ 0 ∷ 6 ∷ []) ∷ (4 ∷ 3 ∷ 0 ∷ 0 ∷ 2 ∷ []) ∷ (15 ∷ 0 ∷ 2 ∷ []) ∷ (4 ∷ 4 ∷ []) ∷ (4 ∷ 0 ∷ 0 ∷ 0 ∷ 5 ∷ []) ∷ (15 ∷ 0 ∷ 1 ∷ []) ∷ [])

unfoldable in_apart : List ℕ
in_apart =
    file (
    (1 ∷ 1 ∷ 0 ∷ 7 ∷ []) ∷ (4 ∷ 6 ∷ 2 ∷ 0 ∷ 3 ∷ []) ∷ (5 ∷ []) ∷ (8 ∷ 4 ∷ 1 ∷ 1 ∷ []) ∷ (14 ∷ 0 ∷ 1 ∷ 1 ∷ 5 ∷ []) ∷ (15 ∷ 0 ∷ 1 ∷ []) ∷
    (4 ∷ []) ∷ [])

reached_answers : Silent chain_of_two 2 × Silent in_apart 2
unfolding computing eight rows file silent chain_of_two in_apart
reached_answers = ((refl, refl, refl), (refl, refl, refl))

-- 17 comes before 6 (a create and a remove), 7 (a local region with a class) and 8 (a region that is not held), each in a file that has both causes
unfoldable with_create : List ℕ
with_create =
    file (
    (1 ∷ 4 ∷ 1 ∷ 9 ∷ []) ∷ (2 ∷ 0 ∷ 2 ∷ []) ∷ (3 ∷ 3 ∷ []) ∷ (3 ∷ 0 ∷ 1 ∷ []) ∷ (4 ∷ 5 ∷ []) ∷ (4 ∷ 0 ∷ 0 ∷ 6 ∷ 7 ∷ []) ∷ (6 ∷ 0 ∷ 1 ∷ []) ∷
    (18 ∷ 8 ∷ 1 ∷ []) ∷ (19 ∷ 0 ∷ 1 ∷ []) ∷ [])

unfoldable with_class : List ℕ
with_class =
    file (
    (1 ∷ 4 ∷ 1 ∷ 7 ∷ []) ∷ (2 ∷ 0 ∷ 2 ∷ []) ∷ (3 ∷ 3 ∷ []) ∷ (3 ∷ 0 ∷ 1 ∷ []) ∷ (4 ∷ 5 ∷ []) ∷ (4 ∷ 0 ∷ 0 ∷ 6 ∷ []) ∷ (6 ∷ 0 ∷ 1 ∷ 1 ∷ []) ∷ [])

unfoldable with_fault : List ℕ
with_fault =
    file (
    (1 ∷ 4 ∷ 1 ∷ 9 ∷ []) ∷ (2 ∷ 0 ∷ 2 ∷ []) ∷ (3 ∷ 3 ∷ []) ∷ (3 ∷ 0 ∷ 1 ∷ []) ∷ (4 ∷ 8 ∷ 5 ∷ 6 ∷ 7 ∷ []) ∷ (5 ∷ 0 ∷ 0 ∷ 1 ∷ 1 ∷ []) ∷
    (6 ∷ 0 ∷ 1 ∷ []) ∷ (11 ∷ 0 ∷ 1 ∷ []) ∷ (4 ∷ []) ∷ [])

seventeen_before : AllRefuse with_create Unreached × AllRefuse with_class Unreached × AllRefuse with_fault Unreached
unfolding computing eight rows file silent with_create with_class with_fault
seventeen_before = ((refl, refl, refl), (refl, refl, refl), (refl, refl, refl))

-- .. and after 5: an assign between two regions
unfoldable with_two_regions : List ℕ
with_two_regions =
    file (
    (1 ∷ 4 ∷ 1 ∷ 12 ∷ []) ∷ (2 ∷ 0 ∷ 2 ∷ []) ∷ (3 ∷ 3 ∷ []) ∷ (3 ∷ 0 ∷ 1 ∷ []) ∷ (4 ∷ 11 ∷ 5 ∷ 7 ∷ 9 ∷ []) ∷ (5 ∷ 6 ∷ 0 ∷ 1 ∷ 1 ∷ []) ∷
    (5 ∷ 0 ∷ 0 ∷ 1 ∷ 2 ∷ []) ∷ (6 ∷ 8 ∷ 1 ∷ []) ∷ (6 ∷ 0 ∷ 1 ∷ []) ∷ (11 ∷ 10 ∷ 1 ∷ []) ∷ (10 ∷ 0 ∷ 2 ∷ 1 ∷ []) ∷ (4 ∷ []) ∷ [])

five_before : AllRefuse with_two_regions Regions
unfolding computing eight rows file silent with_two_regions
five_before = (refl, refl, refl)
