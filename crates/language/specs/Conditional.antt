-- Files with tries (C-20) and their answers, computed like the table's: the corner cases of conditions that may fail.
use Rattle.std.specs.Prelude.{ℕ, ◌*◌, List, [], ◌∷◌, ◌≡◌, refl, pos, Result, Ok, Err}
use Rattle.language.specs.declared.Refusal.{Refusal}
use Rattle.language.specs.declared.Refusal.TheVariants.{Form, Values, Annotated, Rules}
use Rattle.language.specs.declared.Stop.TheVariants.{Cells, Places}
use Rattle.language.specs.declared.Ending.TheVariants.{Refused, Finished, Stopped}
use Rattle.language.specs.Machine.{Lent, Run, runner_lent}
use Rattle.language.specs.Answers.{AnnotatorAnswer, annotated, refuses, writes, annotator_bytes, checked, ran}
use Rattle.language.specs.Computing.{computing}
use Rattle.language.specs.Table.{eight, rows, file, silent}

-- lent n cells, r places for regions and 100 steps
unfoldable small : ℕ → ℕ → Lent
small n r = record { cell_words = 8 * n; region_words = 2 * r; frame_words = 136 * 100; print_words = 1024; steps = 100 }

-- what the annotator, the checker and a run with room answer to a file
abbrev Answered : List ℕ → AnnotatorAnswer → Result Unit Refusal → Run → Type 0
Answered f a c r = (annotated f annotator_bytes ≡ a) × (checked f ≡ c) × (ran f (small 1024 1024) ≡ r)

-- "Add kind 20, try": each of its parts may be empty
unfoldable empty_try : List ℕ
empty_try =
    file (
    (1 ∷ 1 ∷ 0 ∷ 3 ∷ []) ∷ (4 ∷ 0 ∷ 0 ∷ 0 ∷ 2 ∷ []) ∷ (20 ∷ []) ∷ [])

empty_try_answers : Answered empty_try (writes empty_try) (Ok tt) (record { ending = Finished; steps = 1; printed = [] })
unfolding computing eight rows file small empty_try
empty_try_answers = (refl, refl, refl)

-- "tests stand only in conditions; otherwise 2"
unfoldable test_outside : List ℕ
test_outside =
    file (
    (1 ∷ 1 ∷ 0 ∷ 5 ∷ []) ∷ (4 ∷ 0 ∷ 2 ∷ 0 ∷ 3 ∷ []) ∷ (5 ∷ []) ∷ (8 ∷ 4 ∷ 1 ∷ 1 ∷ []) ∷ (21 ∷ 0 ∷ 1 ∷ 1 ∷ []) ∷ [])

test_outside_answers : Answered test_outside (refuses Form) (Err Form) (record { ending = Refused Form; steps = 0; printed = [] })
unfolding computing eight rows file small test_outside
test_outside_answers = (refl, refl, refl)

-- "Conditions hold no call, print, if or try": not in an arm of a switch in it either
unfoldable print_in_arm_in_condition : List ℕ
print_in_arm_in_condition =
    file (
    (1 ∷ 3 ∷ 1 ∷ 12 ∷ []) ∷ (2 ∷ 0 ∷ 2 ∷ []) ∷ (3 ∷ []) ∷ (4 ∷ 0 ∷ 4 ∷ 0 ∷ 6 ∷ []) ∷ (5 ∷ 5 ∷ 0 ∷ 1 ∷ []) ∷ (5 ∷ []) ∷
    (11 ∷ 7 ∷ 1 ∷ []) ∷ (8 ∷ 8 ∷ 2 ∷ 1 ∷ []) ∷ (20 ∷ 0 ∷ 9 ∷ []) ∷ (12 ∷ 0 ∷ 1 ∷ 10 ∷ []) ∷ (13 ∷ 0 ∷ 11 ∷ []) ∷
    (17 ∷ 0 ∷ 2 ∷ []) ∷ [])

print_in_arm_in_condition_answers : Answered print_in_arm_in_condition (refuses Form) (Err Form) (record { ending = Refused Form; steps = 0; printed = [] })
unfolding computing eight rows file small print_in_arm_in_condition
print_in_arm_in_condition_answers = (refl, refl, refl)

-- but a test may stand there, and fails the whole condition
unfoldable test_in_arm_in_condition : List ℕ
test_in_arm_in_condition =
    file (
    (1 ∷ 3 ∷ 1 ∷ 13 ∷ []) ∷ (2 ∷ 0 ∷ 2 ∷ []) ∷ (3 ∷ []) ∷ (4 ∷ 0 ∷ 4 ∷ 0 ∷ 6 ∷ []) ∷ (5 ∷ 5 ∷ 0 ∷ 1 ∷ []) ∷ (5 ∷ []) ∷
    (11 ∷ 7 ∷ 1 ∷ []) ∷ (8 ∷ 8 ∷ 2 ∷ 1 ∷ []) ∷ (20 ∷ 0 ∷ 9 ∷ 0 ∷ 12 ∷ []) ∷ (12 ∷ 0 ∷ 1 ∷ 10 ∷ []) ∷ (13 ∷ 0 ∷ 11 ∷ []) ∷
    (21 ∷ 0 ∷ 2 ∷ 2 ∷ []) ∷ (17 ∷ 0 ∷ 2 ∷ []) ∷ [])

test_in_arm_in_condition_answers : Answered test_in_arm_in_condition (writes test_in_arm_in_condition) (Ok tt) (record { ending = Finished; steps = 6; printed = (pos 1 ∷ []) })
unfolding computing eight rows file small test_in_arm_in_condition
test_in_arm_in_condition_answers = (refl, refl, refl)

-- "The else part starts from what had a value .. before the try"
unfoldable given_in_condition_and_else : List ℕ
given_in_condition_and_else =
    file (
    (1 ∷ 1 ∷ 0 ∷ 10 ∷ []) ∷ (4 ∷ 0 ∷ 2 ∷ 0 ∷ 4 ∷ []) ∷ (5 ∷ 3 ∷ []) ∷ (5 ∷ []) ∷ (8 ∷ 5 ∷ 1 ∷ 1 ∷ []) ∷ (20 ∷ 9 ∷ 6 ∷ 0 ∷ 8 ∷ []) ∷
    (8 ∷ 7 ∷ 2 ∷ 5 ∷ []) ∷ (21 ∷ 0 ∷ 1 ∷ 1 ∷ []) ∷ (8 ∷ 0 ∷ 2 ∷ 6 ∷ []) ∷ (17 ∷ 0 ∷ 2 ∷ []) ∷ [])

given_in_condition_and_else_answers : Answered given_in_condition_and_else (writes given_in_condition_and_else) (Ok tt) (record { ending = Finished; steps = 6; printed = (pos 6 ∷ []) })
unfolding computing eight rows file small given_in_condition_and_else
given_in_condition_and_else_answers = (refl, refl, refl)

-- so it cannot read what the condition gave
unfoldable condition_value_in_else : List ℕ
condition_value_in_else =
    file (
    (1 ∷ 1 ∷ 0 ∷ 9 ∷ []) ∷ (4 ∷ 0 ∷ 2 ∷ 0 ∷ 4 ∷ []) ∷ (5 ∷ 3 ∷ []) ∷ (5 ∷ []) ∷ (8 ∷ 5 ∷ 1 ∷ 1 ∷ []) ∷ (20 ∷ 0 ∷ 6 ∷ 0 ∷ 8 ∷ []) ∷
    (8 ∷ 7 ∷ 2 ∷ 5 ∷ []) ∷ (21 ∷ 0 ∷ 1 ∷ 1 ∷ []) ∷ (17 ∷ 0 ∷ 2 ∷ []) ∷ [])

condition_value_in_else_answers : Answered condition_value_in_else (refuses Values) (Err Values) (record { ending = Refused Values; steps = 0; printed = [] })
unfolding computing eight rows file small condition_value_in_else
condition_value_in_else_answers = (refl, refl, refl)

-- "both parts end alike"
unfoldable parts_end_differently : List ℕ
parts_end_differently =
    file (
    (1 ∷ 4 ∷ 1 ∷ 8 ∷ []) ∷ (2 ∷ 0 ∷ 2 ∷ []) ∷ (3 ∷ 3 ∷ []) ∷ (3 ∷ 0 ∷ 1 ∷ []) ∷ (4 ∷ 0 ∷ 0 ∷ 5 ∷ 6 ∷ []) ∷ (6 ∷ 0 ∷ 1 ∷ []) ∷
    (20 ∷ 0 ∷ 7 ∷ []) ∷ (18 ∷ 0 ∷ 1 ∷ []) ∷ [])

parts_end_differently_answers : Answered parts_end_differently (refuses Annotated) (Err Rules) (record { ending = Refused Rules; steps = 0; printed = [] })
unfolding computing eight rows file small parts_end_differently
parts_end_differently_answers = (refl, refl, refl)

-- "inside the condition the else part doesn't count": a region that only the else part needs is removed in the condition
unfoldable else_only_region : List ℕ
else_only_region =
    file (
    (1 ∷ 4 ∷ 1 ∷ 17 ∷ []) ∷ (2 ∷ 0 ∷ 2 ∷ []) ∷ (3 ∷ 3 ∷ []) ∷ (3 ∷ 0 ∷ 1 ∷ []) ∷ (4 ∷ 0 ∷ 5 ∷ 8 ∷ 9 ∷ []) ∷
    (5 ∷ 6 ∷ 0 ∷ 1 ∷ 1 ∷ []) ∷ (5 ∷ 7 ∷ []) ∷ (5 ∷ []) ∷ (6 ∷ 0 ∷ 1 ∷ []) ∷ (8 ∷ 10 ∷ 3 ∷ 4 ∷ []) ∷ (11 ∷ 11 ∷ 1 ∷ 1 ∷ 3 ∷ []) ∷
    (20 ∷ 0 ∷ 12 ∷ 0 ∷ 13 ∷ []) ∷ (21 ∷ 0 ∷ 3 ∷ 3 ∷ []) ∷ (12 ∷ 0 ∷ 1 ∷ 14 ∷ []) ∷ (13 ∷ 15 ∷ []) ∷ (13 ∷ 0 ∷ 16 ∷ 1 ∷ 2 ∷ []) ∷
    (17 ∷ 0 ∷ 2 ∷ []) ∷ [])

unfoldable else_only_region_annotated : List ℕ
else_only_region_annotated =
    file (
    (1 ∷ 4 ∷ 1 ∷ 21 ∷ []) ∷ (2 ∷ 0 ∷ 2 ∷ []) ∷ (3 ∷ 3 ∷ []) ∷ (3 ∷ 0 ∷ 1 ∷ []) ∷ (4 ∷ 0 ∷ 5 ∷ 8 ∷ 9 ∷ []) ∷
    (5 ∷ 6 ∷ 0 ∷ 1 ∷ 1 ∷ []) ∷ (5 ∷ 7 ∷ []) ∷ (5 ∷ []) ∷ (6 ∷ 0 ∷ 1 ∷ []) ∷ (8 ∷ 10 ∷ 3 ∷ 4 ∷ []) ∷ (18 ∷ 11 ∷ 1 ∷ []) ∷
    (11 ∷ 12 ∷ 1 ∷ 1 ∷ 3 ∷ []) ∷ (20 ∷ 0 ∷ 13 ∷ 0 ∷ 15 ∷ []) ∷ (19 ∷ 14 ∷ 1 ∷ []) ∷ (21 ∷ 0 ∷ 3 ∷ 3 ∷ []) ∷
    (12 ∷ 0 ∷ 1 ∷ 16 ∷ []) ∷ (13 ∷ 18 ∷ 17 ∷ []) ∷ (19 ∷ 0 ∷ 1 ∷ []) ∷ (13 ∷ 0 ∷ 19 ∷ 1 ∷ 2 ∷ []) ∷ (19 ∷ 20 ∷ 1 ∷ []) ∷
    (17 ∷ 0 ∷ 2 ∷ []) ∷ [])

else_only_region_answers : Answered else_only_region (writes else_only_region_annotated) (Err Rules) (record { ending = Refused Rules; steps = 0; printed = [] })
unfolding computing eight rows file small else_only_region else_only_region_annotated
else_only_region_answers = (refl, refl, refl)

else_only_region_annotated_answers : Answered else_only_region_annotated (refuses Annotated) (Ok tt) (record { ending = Finished; steps = 9; printed = (pos 4 ∷ []) })
unfolding computing eight rows file small else_only_region_annotated
else_only_region_annotated_answers = (refl, refl, refl)

-- "exactly as before the condition" takes in what each region number stands for
unfoldable remove_create_same_name_in_condition : List ℕ
remove_create_same_name_in_condition =
    file (
    (1 ∷ 4 ∷ 1 ∷ 11 ∷ []) ∷ (2 ∷ 0 ∷ 2 ∷ []) ∷ (3 ∷ 3 ∷ []) ∷ (3 ∷ 0 ∷ 1 ∷ []) ∷ (4 ∷ 0 ∷ 0 ∷ 5 ∷ 6 ∷ []) ∷ (6 ∷ 0 ∷ 1 ∷ []) ∷
    (18 ∷ 7 ∷ 1 ∷ []) ∷ (20 ∷ 10 ∷ 8 ∷ []) ∷ (19 ∷ 9 ∷ 1 ∷ []) ∷ (18 ∷ 0 ∷ 1 ∷ []) ∷ (19 ∷ 0 ∷ 1 ∷ []) ∷ [])

remove_create_same_name_in_condition_answers : Answered remove_create_same_name_in_condition (refuses Annotated) (Ok tt) (record { ending = Finished; steps = 5; printed = [] })
unfolding computing eight rows file small remove_create_same_name_in_condition
remove_create_same_name_in_condition_answers = (refl, refl, refl)

remove_create_same_name_in_condition_room :
    (ran remove_create_same_name_in_condition (small 9 1) ≡ record { ending = Stopped Places; steps = 3; printed = [] })
    × (ran remove_create_same_name_in_condition (small 9 2) ≡ record { ending = Finished; steps = 5; printed = [] })
unfolding computing eight rows file small remove_create_same_name_in_condition
remove_create_same_name_in_condition_room = (refl, refl)

-- .. where a test fails: the construct behind it builds in the region that was there before
unfoldable pub numbers_come_back : List ℕ
numbers_come_back =
    file (
    (1 ∷ 4 ∷ 1 ∷ 16 ∷ []) ∷ (2 ∷ 0 ∷ 2 ∷ []) ∷ (3 ∷ 3 ∷ []) ∷ (3 ∷ 0 ∷ 1 ∷ []) ∷ (4 ∷ 0 ∷ 5 ∷ 7 ∷ 8 ∷ []) ∷ (5 ∷ 6 ∷ 0 ∷ 1 ∷ 1 ∷ []) ∷
    (5 ∷ []) ∷ (6 ∷ 0 ∷ 1 ∷ []) ∷ (8 ∷ 9 ∷ 2 ∷ 5 ∷ []) ∷ (18 ∷ 10 ∷ 1 ∷ []) ∷ (20 ∷ 14 ∷ 11 ∷ []) ∷ (19 ∷ 12 ∷ 1 ∷ []) ∷ (18 ∷ 13 ∷ 1 ∷ []) ∷
    (21 ∷ 0 ∷ 2 ∷ 2 ∷ []) ∷ (11 ∷ 15 ∷ 1 ∷ 1 ∷ 2 ∷ []) ∷ (19 ∷ 0 ∷ 1 ∷ []) ∷ [])

numbers_come_back_answers :
    Answered numbers_come_back (refuses Annotated) (Ok tt) (record { ending = Finished; steps = 8; printed = [] })
unfolding computing eight rows file small numbers_come_back
numbers_come_back_answers = (refl, refl, refl)

-- "which includes regions the condition removed"
unfoldable sound_in_else : List ℕ
sound_in_else =
    file (
    (1 ∷ 4 ∷ 1 ∷ 21 ∷ []) ∷ (2 ∷ 0 ∷ 2 ∷ []) ∷ (3 ∷ 3 ∷ []) ∷ (3 ∷ 0 ∷ 1 ∷ []) ∷ (4 ∷ 0 ∷ 5 ∷ 8 ∷ 9 ∷ []) ∷
    (5 ∷ 6 ∷ 0 ∷ 1 ∷ 1 ∷ []) ∷ (5 ∷ 7 ∷ []) ∷ (5 ∷ []) ∷ (6 ∷ 0 ∷ 1 ∷ []) ∷ (8 ∷ 10 ∷ 3 ∷ 4 ∷ []) ∷ (18 ∷ 11 ∷ 1 ∷ []) ∷
    (11 ∷ 12 ∷ 1 ∷ 1 ∷ 3 ∷ []) ∷ (20 ∷ 0 ∷ 13 ∷ 0 ∷ 15 ∷ []) ∷ (19 ∷ 14 ∷ 1 ∷ []) ∷ (21 ∷ 0 ∷ 3 ∷ 3 ∷ []) ∷
    (12 ∷ 0 ∷ 1 ∷ 16 ∷ []) ∷ (13 ∷ 18 ∷ 17 ∷ []) ∷ (19 ∷ 0 ∷ 1 ∷ []) ∷ (13 ∷ 0 ∷ 19 ∷ 1 ∷ 2 ∷ []) ∷ (17 ∷ 20 ∷ 2 ∷ []) ∷
    (19 ∷ 0 ∷ 1 ∷ []) ∷ [])

sound_in_else_answers : Answered sound_in_else (refuses Annotated) (Ok tt) (record { ending = Finished; steps = 9; printed = (pos 4 ∷ []) })
unfolding computing eight rows file small sound_in_else
sound_in_else_answers = (refl, refl, refl)

-- "A removal in a condition frees nothing before the then part begins", and then at once
unfoldable pub remove_at_condition_end_then_create : List ℕ
remove_at_condition_end_then_create =
    file (
    (1 ∷ 4 ∷ 1 ∷ 13 ∷ []) ∷ (2 ∷ 0 ∷ 2 ∷ []) ∷ (3 ∷ 3 ∷ []) ∷ (3 ∷ 0 ∷ 1 ∷ []) ∷ (4 ∷ 0 ∷ 0 ∷ 5 ∷ 7 ∷ []) ∷ (6 ∷ 6 ∷ 1 ∷ []) ∷
    (6 ∷ 0 ∷ 1 ∷ []) ∷ (18 ∷ 8 ∷ 1 ∷ []) ∷ (20 ∷ 0 ∷ 9 ∷ 10 ∷ 12 ∷ []) ∷ (19 ∷ 0 ∷ 1 ∷ []) ∷ (18 ∷ 11 ∷ 2 ∷ []) ∷
    (19 ∷ 0 ∷ 2 ∷ []) ∷ (19 ∷ 0 ∷ 1 ∷ []) ∷ [])

remove_at_condition_end_then_create_answers : Answered remove_at_condition_end_then_create (refuses Annotated) (Ok tt) (record { ending = Finished; steps = 5; printed = [] })
unfolding computing eight rows file small remove_at_condition_end_then_create
remove_at_condition_end_then_create_answers = (refl, refl, refl)

remove_at_condition_end_then_create_room :
    (ran remove_at_condition_end_then_create (small 9 1) ≡ record { ending = Finished; steps = 5; printed = [] })
unfolding computing eight rows file small remove_at_condition_end_then_create
remove_at_condition_end_then_create_room = refl

-- .. so a create behind it in the condition needs a place of its own
unfoldable pub remove_create_in_condition : List ℕ
remove_create_in_condition =
    file (
    (1 ∷ 4 ∷ 1 ∷ 13 ∷ []) ∷ (2 ∷ 0 ∷ 2 ∷ []) ∷ (3 ∷ 3 ∷ []) ∷ (3 ∷ 0 ∷ 1 ∷ []) ∷ (4 ∷ 0 ∷ 0 ∷ 5 ∷ 7 ∷ []) ∷ (6 ∷ 6 ∷ 1 ∷ []) ∷
    (6 ∷ 0 ∷ 1 ∷ []) ∷ (18 ∷ 8 ∷ 1 ∷ []) ∷ (20 ∷ 0 ∷ 9 ∷ 11 ∷ 12 ∷ []) ∷ (19 ∷ 10 ∷ 1 ∷ []) ∷ (18 ∷ 0 ∷ 2 ∷ []) ∷
    (19 ∷ 0 ∷ 2 ∷ []) ∷ (19 ∷ 0 ∷ 1 ∷ []) ∷ [])

remove_create_in_condition_answers : Answered remove_create_in_condition (refuses Annotated) (Ok tt) (record { ending = Finished; steps = 5; printed = [] })
unfolding computing eight rows file small remove_create_in_condition
remove_create_in_condition_answers = (refl, refl, refl)

remove_create_in_condition_room :
    (ran remove_create_in_condition (small 9 1) ≡ record { ending = Stopped Places; steps = 3; printed = [] })
    × (ran remove_create_in_condition (small 9 2) ≡ record { ending = Finished; steps = 5; printed = [] })
unfolding computing eight rows file small remove_create_in_condition
remove_create_in_condition_room = (refl, refl)

-- the cells of a condition that failed are free again
unfoldable cells_of_failed_condition : List ℕ
cells_of_failed_condition =
    file (
    (1 ∷ 4 ∷ 1 ∷ 17 ∷ []) ∷ (2 ∷ 0 ∷ 2 ∷ []) ∷ (3 ∷ 3 ∷ []) ∷ (3 ∷ 0 ∷ 1 ∷ []) ∷ (4 ∷ 0 ∷ 5 ∷ 8 ∷ 9 ∷ []) ∷
    (5 ∷ 6 ∷ 0 ∷ 1 ∷ 1 ∷ []) ∷ (5 ∷ 7 ∷ 0 ∷ 1 ∷ 1 ∷ []) ∷ (5 ∷ []) ∷ (6 ∷ 0 ∷ 1 ∷ []) ∷ (8 ∷ 10 ∷ 3 ∷ 4 ∷ []) ∷
    (18 ∷ 11 ∷ 1 ∷ []) ∷ (11 ∷ 12 ∷ 1 ∷ 1 ∷ 3 ∷ []) ∷ (20 ∷ 16 ∷ 13 ∷ 0 ∷ 15 ∷ []) ∷ (11 ∷ 14 ∷ 2 ∷ 1 ∷ 3 ∷ []) ∷
    (21 ∷ 0 ∷ 3 ∷ 3 ∷ []) ∷ (11 ∷ 0 ∷ 2 ∷ 1 ∷ 3 ∷ []) ∷ (19 ∷ 0 ∷ 1 ∷ []) ∷ [])

cells_of_failed_condition_answers : Answered cells_of_failed_condition (refuses Annotated) (Ok tt) (record { ending = Finished; steps = 8; printed = [] })
unfolding computing eight rows file small cells_of_failed_condition
cells_of_failed_condition_answers = (refl, refl, refl)

cells_of_failed_condition_room :
    (ran cells_of_failed_condition (small 9 0) ≡ record { ending = Stopped Places; steps = 1; printed = [] })
    × (ran cells_of_failed_condition (small 0 9) ≡ record { ending = Stopped Cells; steps = 2; printed = [] })
    × (ran cells_of_failed_condition (small 1 9) ≡ record { ending = Stopped Cells; steps = 4; printed = [] })
    × (ran cells_of_failed_condition (small 2 9) ≡ record { ending = Finished; steps = 8; printed = [] })
unfolding computing eight rows file small cells_of_failed_condition
cells_of_failed_condition_room = (refl, refl, refl, refl)

-- ---- what `hand_sized` has of the code
-- lent what the runner lends, but n places for regions
unfoldable pub in_places : ℕ → Lent
in_places n =
    record { cell_words = runner_lent.cell_words; region_words = 2 * n; frame_words = runner_lent.frame_words; print_words = runner_lent.print_words; steps = runner_lent.steps }

-- "The table gains": a try that fails, with a number removed and created again; a removal that waits, and one place short; one that does not fail
pub record TriedTable : Type 0 where
  pub comes_back : ran numbers_come_back runner_lent ≡ silent Finished 8
  pub waits : ran remove_create_in_condition (in_places 1) ≡ silent (Stopped Places) 3
  pub waits_no_more : ran remove_create_in_condition (in_places 2) ≡ silent Finished 5
  pub at_the_end : ran remove_at_condition_end_then_create (in_places 1) ≡ silent Finished 5

pub tried_table : TriedTable
unfolding computing eight rows file silent in_places numbers_come_back remove_create_in_condition remove_at_condition_end_then_create
tried_table = record { comes_back = refl; waits = refl; waits_no_more = refl; at_the_end = refl }
