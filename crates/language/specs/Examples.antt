-- Further files with their answers, computed like the table's: the corner cases of docs/DECISIONS.md.
use Rattle.std.specs.Prelude.{ℕ, List, [], ◌∷◌, ◌≡◌, refl, pos, negsuc, Result, Ok, Err}
use Rattle.language.specs.declared.Refusal.{Refusal}
use Rattle.language.specs.declared.Refusal.TheVariants.{Form, Typing, Values, Regions, Annotated, Classes, Rules, Room}
use Rattle.language.specs.declared.Stop.TheVariants.{Steps, Cells, Frames}
use Rattle.language.specs.declared.Ending.TheVariants.{Refused, Finished, Stopped}
use Rattle.language.specs.Machine.{Lent, Run, runner_lent, print_places}
use Rattle.language.specs.Answers.{AnnotatorAnswer, annotated, refuses, writes, annotator_memory, annotator_bytes, checked, ran}
use Rattle.language.specs.Computing.{computing}
use Rattle.language.specs.Table.{eight, rows, file, lending, in_steps, no_cells, no_frames, silent}

-- what the annotator, the checker and the runner answer to a file
abbrev Answered : List ℕ → AnnotatorAnswer → Result Unit Refusal → Run → Type 0
Answered f a c r = (annotated f annotator_bytes ≡ a) × (checked f ≡ c) × (ran f runner_lent ≡ r)

-- number 2: two procedures refer to one goal
unfoldable referred_twice : List ℕ
referred_twice = file ((1 ∷ 1 ∷ 0 ∷ 4 ∷ []) ∷ (4 ∷ 2 ∷ 0 ∷ 0 ∷ 3 ∷ []) ∷ (4 ∷ 0 ∷ 0 ∷ 0 ∷ 3 ∷ []) ∷ (17 ∷ 0 ∷ 1 ∷ []) ∷ [])

referred_twice_answers : Answered referred_twice (refuses Form) (Err Form) (silent (Refused Form) 0)
unfolding computing eight rows file silent referred_twice
referred_twice_answers = (refl, refl, refl)

-- the lower of two numbers that apply
unfoldable lowest_number : List ℕ
lowest_number =
    file (
    (1 ∷ 1 ∷ 0 ∷ 5 ∷ []) ∷ (4 ∷ 0 ∷ 2 ∷ 0 ∷ 3 ∷ []) ∷ (5 ∷ []) ∷ (17 ∷ 4 ∷ 1 ∷ []) ∷ (17 ∷ 0 ∷ 2 ∷ []) ∷ [])

lowest_number_answers : Answered lowest_number (refuses Typing) (Err Typing) (silent (Refused Typing) 0)
unfolding computing eight rows file silent lowest_number
lowest_number_answers = (refl, refl, refl)

-- number 4: given where some path already did
unfoldable some_path : List ℕ
some_path =
    file (
    (1 ∷ 1 ∷ 0 ∷ 8 ∷ []) ∷ (4 ∷ 0 ∷ 2 ∷ 0 ∷ 4 ∷ []) ∷ (5 ∷ 3 ∷ []) ∷ (5 ∷ []) ∷ (8 ∷ 5 ∷ 1 ∷ 1 ∷ []) ∷ (14 ∷ 7 ∷ 1 ∷ 1 ∷ 6 ∷ []) ∷
    (8 ∷ 0 ∷ 2 ∷ 2 ∷ []) ∷ (8 ∷ 0 ∷ 2 ∷ 3 ∷ []) ∷ [])

some_path_answers : Answered some_path (refuses Values) (Err Values) (silent (Refused Values) 0)
unfolding computing eight rows file silent some_path
some_path_answers = (refl, refl, refl)

-- number 5: a call that maps one region two ways
unfoldable mapped_two_ways : List ℕ
mapped_two_ways =
    file (
    (1 ∷ 4 ∷ 1 ∷ 18 ∷ []) ∷ (2 ∷ 0 ∷ 2 ∷ []) ∷ (3 ∷ 3 ∷ []) ∷ (3 ∷ 0 ∷ 1 ∷ []) ∷ (4 ∷ 14 ∷ 5 ∷ 7 ∷ 9 ∷ []) ∷
    (5 ∷ 6 ∷ 0 ∷ 1 ∷ 1 ∷ []) ∷ (5 ∷ 0 ∷ 0 ∷ 1 ∷ 2 ∷ []) ∷ (6 ∷ 8 ∷ 1 ∷ []) ∷ (6 ∷ 0 ∷ 1 ∷ []) ∷ (11 ∷ 10 ∷ 1 ∷ []) ∷
    (11 ∷ 11 ∷ 2 ∷ []) ∷ (15 ∷ 0 ∷ 1 ∷ 12 ∷ []) ∷ (16 ∷ 13 ∷ 1 ∷ []) ∷ (16 ∷ 0 ∷ 2 ∷ []) ∷ (4 ∷ 0 ∷ 15 ∷ 17 ∷ []) ∷
    (5 ∷ 16 ∷ 1 ∷ 1 ∷ 1 ∷ []) ∷ (5 ∷ 0 ∷ 1 ∷ 1 ∷ 1 ∷ []) ∷ (6 ∷ 0 ∷ 1 ∷ []) ∷ [])

mapped_two_ways_answers : Answered mapped_two_ways (refuses Regions) (Err Regions) (silent (Refused Regions) 0)
unfolding computing eight rows file silent mapped_two_ways
mapped_two_ways_answers = (refl, refl, refl)

-- a local region with a class: 6 comes before 7 for the annotator
unfoldable local_class : List ℕ
local_class =
    file (
    (1 ∷ 4 ∷ 1 ∷ 10 ∷ []) ∷ (2 ∷ 0 ∷ 2 ∷ []) ∷ (3 ∷ 3 ∷ []) ∷ (3 ∷ 0 ∷ 1 ∷ []) ∷ (4 ∷ 0 ∷ 5 ∷ 6 ∷ 7 ∷ []) ∷
    (5 ∷ 0 ∷ 0 ∷ 1 ∷ 1 ∷ []) ∷ (6 ∷ 0 ∷ 1 ∷ 1 ∷ []) ∷ (18 ∷ 8 ∷ 1 ∷ []) ∷ (11 ∷ 9 ∷ 1 ∷ []) ∷ (19 ∷ 0 ∷ 1 ∷ []) ∷ [])

local_class_answers : Answered local_class (refuses Annotated) (Err Classes) (silent (Refused Classes) 0)
unfolding computing eight rows file silent local_class
local_class_answers = (refl, refl, refl)

-- two regions of a callee on one of the caller, one of them dead
unfoldable shared_image : List ℕ
shared_image =
    file (
    (1 ∷ 4 ∷ 1 ∷ 16 ∷ []) ∷ (2 ∷ 0 ∷ 2 ∷ []) ∷ (3 ∷ 3 ∷ []) ∷ (3 ∷ 0 ∷ 1 ∷ []) ∷ (4 ∷ 11 ∷ 5 ∷ 6 ∷ 7 ∷ []) ∷
    (5 ∷ 0 ∷ 0 ∷ 1 ∷ 1 ∷ []) ∷ (6 ∷ 0 ∷ 1 ∷ []) ∷ (11 ∷ 8 ∷ 1 ∷ []) ∷ (15 ∷ 0 ∷ 1 ∷ 9 ∷ []) ∷ (16 ∷ 10 ∷ 1 ∷ []) ∷
    (16 ∷ 0 ∷ 1 ∷ []) ∷ (4 ∷ 0 ∷ 12 ∷ 14 ∷ []) ∷ (5 ∷ 13 ∷ 1 ∷ 1 ∷ 1 ∷ []) ∷ (5 ∷ 0 ∷ 1 ∷ 1 ∷ 2 ∷ []) ∷ (6 ∷ 15 ∷ 1 ∷ 2 ∷ []) ∷
    (6 ∷ 0 ∷ 1 ∷ []) ∷ [])

shared_image_answers : Answered shared_image (refuses Classes) (Err Rules) (silent (Refused Rules) 0)
unfolding computing eight rows file silent shared_image
shared_image_answers = (refl, refl, refl)

-- a region created again: a variable from before is not sound
unfoldable created_again : List ℕ
created_again =
    file (
    (1 ∷ 4 ∷ 1 ∷ 16 ∷ []) ∷ (2 ∷ 0 ∷ 2 ∷ []) ∷ (3 ∷ 3 ∷ []) ∷ (3 ∷ 0 ∷ 1 ∷ []) ∷ (4 ∷ 0 ∷ 5 ∷ 7 ∷ 8 ∷ []) ∷
    (5 ∷ 6 ∷ 0 ∷ 1 ∷ 1 ∷ []) ∷ (5 ∷ []) ∷ (6 ∷ 0 ∷ 1 ∷ []) ∷ (18 ∷ 9 ∷ 1 ∷ []) ∷ (11 ∷ 10 ∷ 1 ∷ []) ∷ (19 ∷ 11 ∷ 1 ∷ []) ∷
    (18 ∷ 12 ∷ 1 ∷ []) ∷ (12 ∷ 15 ∷ 1 ∷ 13 ∷ []) ∷ (13 ∷ 14 ∷ []) ∷ (13 ∷ 0 ∷ 0 ∷ 1 ∷ 2 ∷ []) ∷ (19 ∷ 0 ∷ 1 ∷ []) ∷ [])

created_again_answers : Answered created_again (refuses Annotated) (Err Rules) (silent (Refused Rules) 0)
unfolding computing eight rows file silent created_again
created_again_answers = (refl, refl, refl)

-- a dead image that the caller keeps for its own caller
unfoldable kept_image : List ℕ
kept_image =
    file (
    (1 ∷ 4 ∷ 1 ∷ 26 ∷ []) ∷ (2 ∷ 0 ∷ 2 ∷ []) ∷ (3 ∷ 3 ∷ []) ∷ (3 ∷ 0 ∷ 1 ∷ []) ∷ (4 ∷ 16 ∷ 5 ∷ 7 ∷ 8 ∷ []) ∷
    (5 ∷ 6 ∷ 0 ∷ 1 ∷ 1 ∷ []) ∷ (5 ∷ []) ∷ (6 ∷ 0 ∷ 1 ∷ []) ∷ (18 ∷ 9 ∷ 1 ∷ []) ∷ (11 ∷ 10 ∷ 1 ∷ []) ∷ (15 ∷ 12 ∷ 1 ∷ 11 ∷ []) ∷
    (16 ∷ 0 ∷ 1 ∷ []) ∷ (12 ∷ 15 ∷ 1 ∷ 13 ∷ []) ∷ (13 ∷ 14 ∷ []) ∷ (13 ∷ 0 ∷ 0 ∷ 1 ∷ 2 ∷ []) ∷ (19 ∷ 0 ∷ 1 ∷ []) ∷
    (4 ∷ 22 ∷ 17 ∷ 18 ∷ 19 ∷ []) ∷ (5 ∷ 0 ∷ 1 ∷ 1 ∷ 1 ∷ []) ∷ (6 ∷ 0 ∷ 1 ∷ []) ∷ (15 ∷ 21 ∷ 2 ∷ 20 ∷ []) ∷ (16 ∷ 0 ∷ 1 ∷ []) ∷
    (18 ∷ 0 ∷ 1 ∷ []) ∷ (4 ∷ 0 ∷ 23 ∷ 24 ∷ 25 ∷ []) ∷ (5 ∷ 0 ∷ 1 ∷ 1 ∷ 1 ∷ []) ∷ (6 ∷ 0 ∷ 1 ∷ 2 ∷ []) ∷ (19 ∷ 0 ∷ 1 ∷ []) ∷ [])

kept_image_answers : Answered kept_image (refuses Annotated) (Err Rules) (silent (Refused Rules) 0)
unfolding computing eight rows file silent kept_image
kept_image_answers = (refl, refl, refl)

-- a region removed that another name still holds
unfoldable removed_shared : List ℕ
removed_shared =
    file (
    (1 ∷ 4 ∷ 1 ∷ 22 ∷ []) ∷ (2 ∷ 0 ∷ 2 ∷ []) ∷ (3 ∷ 3 ∷ []) ∷ (3 ∷ 0 ∷ 1 ∷ []) ∷ (4 ∷ 12 ∷ 5 ∷ 6 ∷ 7 ∷ []) ∷
    (5 ∷ 0 ∷ 0 ∷ 1 ∷ 1 ∷ []) ∷ (6 ∷ 0 ∷ 1 ∷ []) ∷ (18 ∷ 8 ∷ 1 ∷ []) ∷ (11 ∷ 9 ∷ 1 ∷ []) ∷ (15 ∷ 0 ∷ 1 ∷ 10 ∷ []) ∷
    (16 ∷ 11 ∷ 1 ∷ []) ∷ (16 ∷ 0 ∷ 1 ∷ []) ∷ (4 ∷ 0 ∷ 13 ∷ 16 ∷ 18 ∷ []) ∷ (5 ∷ 14 ∷ 1 ∷ 1 ∷ 1 ∷ []) ∷
    (5 ∷ 15 ∷ 1 ∷ 1 ∷ 2 ∷ []) ∷ (5 ∷ []) ∷ (6 ∷ 17 ∷ 1 ∷ 2 ∷ []) ∷ (6 ∷ 0 ∷ 1 ∷ []) ∷ (19 ∷ 19 ∷ 1 ∷ []) ∷
    (12 ∷ 0 ∷ 2 ∷ 20 ∷ []) ∷ (13 ∷ 21 ∷ []) ∷ (13 ∷ 0 ∷ 0 ∷ 1 ∷ 3 ∷ []) ∷ [])

removed_shared_answers : Answered removed_shared (refuses Annotated) (Err Rules) (silent (Refused Rules) 0)
unfolding computing eight rows file silent removed_shared
removed_shared_answers = (refl, refl, refl)

-- lent n steps and no cells
unfoldable without_cells : ℕ → Lent
without_cells n = lending 0 runner_lent.frame_words n

-- a variable whose whole reach is held when it is given
unfoldable reach_held : List ℕ
reach_held =
    file (
    (1 ∷ 7 ∷ 1 ∷ 23 ∷ []) ∷ (2 ∷ 4 ∷ 2 ∷ []) ∷ (3 ∷ 3 ∷ []) ∷ (3 ∷ 0 ∷ 1 ∷ 2 ∷ []) ∷ (2 ∷ 0 ∷ 5 ∷ []) ∷ (3 ∷ 6 ∷ []) ∷
    (3 ∷ 0 ∷ 1 ∷ []) ∷ (4 ∷ 0 ∷ 8 ∷ 10 ∷ 13 ∷ []) ∷ (5 ∷ 9 ∷ 0 ∷ 1 ∷ 1 ∷ []) ∷ (5 ∷ 0 ∷ 0 ∷ 2 ∷ 2 ∷ []) ∷
    (6 ∷ 12 ∷ 1 ∷ 0 ∷ 11 ∷ []) ∷ (7 ∷ 0 ∷ 1 ∷ 1 ∷ 2 ∷ []) ∷ (6 ∷ 0 ∷ 2 ∷ []) ∷ (18 ∷ 14 ∷ 1 ∷ []) ∷ (18 ∷ 15 ∷ 2 ∷ []) ∷
    (11 ∷ 16 ∷ 1 ∷ []) ∷ (12 ∷ 0 ∷ 1 ∷ 17 ∷ []) ∷ (13 ∷ 20 ∷ 18 ∷ []) ∷ (19 ∷ 19 ∷ 1 ∷ []) ∷ (19 ∷ 0 ∷ 2 ∷ []) ∷
    (13 ∷ 0 ∷ 21 ∷ 1 ∷ 2 ∷ []) ∷ (19 ∷ 22 ∷ 1 ∷ []) ∷ (19 ∷ 0 ∷ 2 ∷ []) ∷ [])

reach_held_answers :
    (annotated reach_held annotator_bytes ≡ refuses Annotated) × (checked reach_held ≡ Ok tt) × (ran reach_held (without_cells 6) ≡ silent Finished 6)
unfolding computing eight rows file lending without_cells silent reach_held
reach_held_answers = (refl, refl, refl)

-- a run that stops for want of a frame
unfoldable recursion : List ℕ
recursion =
    file (
    (1 ∷ 1 ∷ 0 ∷ 3 ∷ []) ∷ (4 ∷ 0 ∷ 0 ∷ 0 ∷ 2 ∷ []) ∷ (15 ∷ []) ∷ [])

recursion_answers : Answered recursion (writes recursion) (Ok tt) (silent (Stopped Frames) 99)
unfolding computing eight rows file silent recursion
recursion_answers = (refl, refl, refl)

-- arms that give the same variable, annotated
unfoldable arms_share : List ℕ
arms_share =
    file (
    (1 ∷ 4 ∷ 1 ∷ 15 ∷ []) ∷ (2 ∷ 0 ∷ 2 ∷ []) ∷ (3 ∷ 3 ∷ 1 ∷ []) ∷ (3 ∷ 0 ∷ 1 ∷ []) ∷ (4 ∷ 0 ∷ 5 ∷ 8 ∷ 9 ∷ []) ∷
    (5 ∷ 6 ∷ 0 ∷ 1 ∷ 1 ∷ []) ∷ (5 ∷ 7 ∷ []) ∷ (5 ∷ []) ∷ (6 ∷ 0 ∷ 1 ∷ []) ∷ (8 ∷ 10 ∷ 3 ∷ 5 ∷ []) ∷ (11 ∷ 11 ∷ 1 ∷ 0 ∷ 3 ∷ []) ∷
    (12 ∷ 0 ∷ 1 ∷ 12 ∷ []) ∷ (13 ∷ 14 ∷ 13 ∷ 0 ∷ 2 ∷ []) ∷ (17 ∷ 0 ∷ 2 ∷ []) ∷ (13 ∷ 0 ∷ 0 ∷ 1 ∷ 2 ∷ []) ∷ [])

unfoldable arms_share_annotated : List ℕ
arms_share_annotated =
    file (
    (1 ∷ 4 ∷ 1 ∷ 18 ∷ []) ∷ (2 ∷ 0 ∷ 2 ∷ []) ∷ (3 ∷ 3 ∷ 1 ∷ []) ∷ (3 ∷ 0 ∷ 1 ∷ []) ∷ (4 ∷ 0 ∷ 5 ∷ 8 ∷ 9 ∷ []) ∷
    (5 ∷ 6 ∷ 0 ∷ 1 ∷ 1 ∷ []) ∷ (5 ∷ 7 ∷ []) ∷ (5 ∷ []) ∷ (6 ∷ 0 ∷ 1 ∷ []) ∷ (8 ∷ 10 ∷ 3 ∷ 5 ∷ []) ∷ (18 ∷ 11 ∷ 1 ∷ []) ∷
    (11 ∷ 12 ∷ 1 ∷ 0 ∷ 3 ∷ []) ∷ (12 ∷ 0 ∷ 1 ∷ 13 ∷ []) ∷ (13 ∷ 16 ∷ 14 ∷ 0 ∷ 2 ∷ []) ∷ (19 ∷ 15 ∷ 1 ∷ []) ∷ (17 ∷ 0 ∷ 2 ∷ []) ∷
    (13 ∷ 0 ∷ 17 ∷ 1 ∷ 2 ∷ []) ∷ (19 ∷ 0 ∷ 1 ∷ []) ∷ [])

arms_share_answers : Answered arms_share (writes arms_share_annotated) (Err Rules) (silent (Refused Rules) 0)
unfolding computing eight rows file silent arms_share arms_share_annotated
arms_share_answers = (refl, refl, refl)

arms_share_annotated_answers : Answered arms_share_annotated (refuses Annotated) (Ok tt) (record { ending = Finished; steps = 6; printed = pos 5 ∷ [] })
unfolding computing eight rows file silent arms_share_annotated
arms_share_annotated_answers = (refl, refl, refl)

-- two kept regions may share an image
unfoldable kept_shared : List ℕ
kept_shared =
    file (
    (1 ∷ 4 ∷ 1 ∷ 16 ∷ []) ∷ (2 ∷ 0 ∷ 2 ∷ []) ∷ (3 ∷ 3 ∷ []) ∷ (3 ∷ 0 ∷ 1 ∷ []) ∷ (4 ∷ 11 ∷ 5 ∷ 6 ∷ 7 ∷ []) ∷
    (5 ∷ 0 ∷ 0 ∷ 1 ∷ 1 ∷ []) ∷ (6 ∷ 0 ∷ 1 ∷ []) ∷ (11 ∷ 8 ∷ 1 ∷ []) ∷ (15 ∷ 0 ∷ 1 ∷ 9 ∷ []) ∷ (16 ∷ 10 ∷ 1 ∷ []) ∷
    (16 ∷ 0 ∷ 1 ∷ []) ∷ (4 ∷ 0 ∷ 12 ∷ 14 ∷ []) ∷ (5 ∷ 13 ∷ 1 ∷ 1 ∷ 1 ∷ []) ∷ (5 ∷ 0 ∷ 1 ∷ 1 ∷ 2 ∷ []) ∷ (6 ∷ 15 ∷ 1 ∷ []) ∷
    (6 ∷ 0 ∷ 1 ∷ []) ∷ [])

unfoldable kept_shared_annotated : List ℕ
kept_shared_annotated =
    file (
    (1 ∷ 4 ∷ 1 ∷ 18 ∷ []) ∷ (2 ∷ 0 ∷ 2 ∷ []) ∷ (3 ∷ 3 ∷ []) ∷ (3 ∷ 0 ∷ 1 ∷ []) ∷ (4 ∷ 13 ∷ 5 ∷ 6 ∷ 7 ∷ []) ∷
    (5 ∷ 0 ∷ 0 ∷ 1 ∷ 1 ∷ []) ∷ (6 ∷ 0 ∷ 1 ∷ []) ∷ (18 ∷ 8 ∷ 1 ∷ []) ∷ (11 ∷ 9 ∷ 1 ∷ []) ∷ (15 ∷ 12 ∷ 1 ∷ 10 ∷ []) ∷
    (16 ∷ 11 ∷ 1 ∷ []) ∷ (16 ∷ 0 ∷ 1 ∷ []) ∷ (19 ∷ 0 ∷ 1 ∷ []) ∷ (4 ∷ 0 ∷ 14 ∷ 16 ∷ []) ∷ (5 ∷ 15 ∷ 1 ∷ 1 ∷ 1 ∷ []) ∷
    (5 ∷ 0 ∷ 1 ∷ 1 ∷ 2 ∷ []) ∷ (6 ∷ 17 ∷ 1 ∷ []) ∷ (6 ∷ 0 ∷ 1 ∷ []) ∷ [])

kept_shared_answers : Answered kept_shared (writes kept_shared_annotated) (Err Rules) (silent (Refused Rules) 0)
unfolding computing eight rows file silent kept_shared kept_shared_annotated
kept_shared_answers = (refl, refl, refl)

kept_shared_annotated_answers : Answered kept_shared_annotated (refuses Annotated) (Ok tt) (silent Finished 4)
unfolding computing eight rows file silent kept_shared_annotated
kept_shared_annotated_answers = (refl, refl, refl)

-- The table's cases of U and A once more, where a cell is built: N = 5, X = sand(N), in a file of n records
unfoldable with_cell : ℕ → List (List ℕ) → List ℕ
with_cell n goals =
    file (
    (1 ∷ 4 ∷ 1 ∷ n ∷ []) ∷ (2 ∷ 0 ∷ 2 ∷ []) ∷ (3 ∷ 3 ∷ []) ∷ (3 ∷ 0 ∷ 1 ∷ []) ∷ (4 ∷ 0 ∷ 5 ∷ 7 ∷ 8 ∷ []) ∷
    (5 ∷ 6 ∷ 0 ∷ 1 ∷ 1 ∷ []) ∷
    (5 ∷ []) ∷ (6 ∷ 0 ∷ 1 ∷ []) ∷ (8 ∷ 9 ∷ 2 ∷ 5 ∷ []) ∷ goals)

unfoldable one_cell : List ℕ
one_cell = with_cell 10 ((11 ∷ 0 ∷ 1 ∷ 1 ∷ 2 ∷ []) ∷ [])

unfoldable one_cell_annotated : List ℕ
one_cell_annotated = with_cell 12 ((18 ∷ 10 ∷ 1 ∷ []) ∷ (11 ∷ 11 ∷ 1 ∷ 1 ∷ 2 ∷ []) ∷ (19 ∷ 0 ∷ 1 ∷ []) ∷ [])

-- removed before the construct, and removed twice
unfoldable one_cell_early : List ℕ
one_cell_early = with_cell 12 ((18 ∷ 10 ∷ 1 ∷ []) ∷ (19 ∷ 11 ∷ 1 ∷ []) ∷ (11 ∷ 0 ∷ 1 ∷ 1 ∷ 2 ∷ []) ∷ [])

unfoldable one_cell_twice : List ℕ
one_cell_twice = with_cell 13 ((18 ∷ 10 ∷ 1 ∷ []) ∷ (11 ∷ 11 ∷ 1 ∷ 1 ∷ 2 ∷ []) ∷ (19 ∷ 12 ∷ 1 ∷ []) ∷ (19 ∷ 0 ∷ 1 ∷ []) ∷ [])

one_cell_answers :
    (annotated one_cell 192 ≡ writes one_cell_annotated) × (annotated one_cell 191 ≡ refuses Room) × (checked one_cell ≡ Err Rules)
    × (checked one_cell_early ≡ Err Rules) × (checked one_cell_twice ≡ Err Rules)
unfolding computing eight rows file with_cell one_cell one_cell_annotated one_cell_early one_cell_twice
one_cell_answers = (refl, refl, refl, refl, refl)

one_cell_annotated_answers :
    Answered one_cell_annotated (refuses Annotated) (Ok tt) (silent Finished 4) × (ran one_cell_annotated (in_steps 2) ≡ silent (Stopped Steps) 2)
    × (ran one_cell_annotated no_cells ≡ silent (Stopped Cells) 2) × (ran one_cell_annotated no_frames ≡ silent (Stopped Frames) 0)
unfolding computing eight rows file with_cell lending in_steps no_cells no_frames silent one_cell_annotated
one_cell_annotated_answers = ((refl, refl, refl), refl, refl, refl)

-- a constant of a type that has a cell's functor too: its region is created and held "as before", and no cell is taken (C-14)
unfoldable mixed_constant : List ℕ
mixed_constant =
    file (
    (1 ∷ 4 ∷ 1 ∷ 8 ∷ []) ∷ (2 ∷ 0 ∷ 2 ∷ []) ∷ (3 ∷ 3 ∷ []) ∷ (3 ∷ 0 ∷ 1 ∷ []) ∷ (4 ∷ 0 ∷ 5 ∷ 6 ∷ 7 ∷ []) ∷
    (5 ∷ 0 ∷ 0 ∷ 1 ∷ 1 ∷ []) ∷ (6 ∷ 0 ∷ 1 ∷ []) ∷ (11 ∷ 0 ∷ 1 ∷ []) ∷ [])

unfoldable mixed_constant_annotated : List ℕ
mixed_constant_annotated =
    file (
    (1 ∷ 4 ∷ 1 ∷ 10 ∷ []) ∷ (2 ∷ 0 ∷ 2 ∷ []) ∷ (3 ∷ 3 ∷ []) ∷ (3 ∷ 0 ∷ 1 ∷ []) ∷ (4 ∷ 0 ∷ 5 ∷ 6 ∷ 7 ∷ []) ∷
    (5 ∷ 0 ∷ 0 ∷ 1 ∷ 1 ∷ []) ∷ (6 ∷ 0 ∷ 1 ∷ []) ∷ (18 ∷ 8 ∷ 1 ∷ []) ∷ (11 ∷ 9 ∷ 1 ∷ []) ∷ (19 ∷ 0 ∷ 1 ∷ []) ∷ [])

mixed_constant_answers : Answered mixed_constant (writes mixed_constant_annotated) (Err Rules) (silent (Refused Rules) 0)
unfolding computing eight rows file silent mixed_constant mixed_constant_annotated
mixed_constant_answers = (refl, refl, refl)

mixed_constant_run : (checked mixed_constant_annotated ≡ Ok tt) × (ran mixed_constant_annotated no_cells ≡ silent Finished 3)
unfolding computing eight rows file silent lending no_cells mixed_constant_annotated
mixed_constant_run = (refl, refl)

-- a switch on a constant of a type without regions
unfoldable constants_switched : List ℕ
constants_switched =
    file (
    (1 ∷ 4 ∷ 1 ∷ 13 ∷ []) ∷ (2 ∷ 0 ∷ 2 ∷ []) ∷ (3 ∷ 3 ∷ []) ∷ (3 ∷ []) ∷ (4 ∷ 0 ∷ 5 ∷ 0 ∷ 7 ∷ []) ∷ (5 ∷ 6 ∷ 0 ∷ 1 ∷ []) ∷
    (5 ∷ []) ∷ (11 ∷ 8 ∷ 1 ∷ 1 ∷ []) ∷ (12 ∷ 0 ∷ 1 ∷ 9 ∷ []) ∷ (13 ∷ 10 ∷ []) ∷ (13 ∷ 0 ∷ 11 ∷ 1 ∷ []) ∷ (8 ∷ 12 ∷ 2 ∷ 7 ∷ []) ∷
    (17 ∷ 0 ∷ 2 ∷ []) ∷ [])

constants_switched_answers :
    (annotated constants_switched annotator_bytes ≡ writes constants_switched) × (checked constants_switched ≡ Ok tt)
    × (ran constants_switched (without_cells 4) ≡ record { ending = Finished; steps = 4; printed = pos 7 ∷ [] })
unfolding computing eight rows file lending without_cells constants_switched
constants_switched_answers = (refl, refl, refl)

-- a cell with a constant and a number in it: its region has no edge; with one to the constants it is refused
unfoldable constant_inside : List ℕ
constant_inside =
    file (
    (1 ∷ 6 ∷ 1 ∷ 14 ∷ []) ∷ (2 ∷ 3 ∷ 2 ∷ []) ∷ (3 ∷ 0 ∷ 2 ∷ 2 ∷ []) ∷ (2 ∷ 0 ∷ 4 ∷ []) ∷ (3 ∷ 5 ∷ []) ∷ (3 ∷ []) ∷
    (4 ∷ 0 ∷ 7 ∷ 10 ∷ 11 ∷ []) ∷ (5 ∷ 8 ∷ 0 ∷ 1 ∷ 1 ∷ []) ∷ (5 ∷ 9 ∷ 0 ∷ 2 ∷ []) ∷ (5 ∷ []) ∷ (6 ∷ 0 ∷ 1 ∷ []) ∷
    (11 ∷ 12 ∷ 2 ∷ 1 ∷ []) ∷ (8 ∷ 13 ∷ 3 ∷ 7 ∷ []) ∷ (11 ∷ 0 ∷ 1 ∷ 0 ∷ 2 ∷ 3 ∷ []) ∷ [])

constant_inside_typed : checked constant_inside ≡ Err Rules
unfolding computing eight rows file constant_inside
constant_inside_typed = refl

unfoldable edge_to_constants : List ℕ
edge_to_constants =
    file (
    (1 ∷ 6 ∷ 1 ∷ 16 ∷ []) ∷ (2 ∷ 3 ∷ 2 ∷ []) ∷ (3 ∷ 0 ∷ 2 ∷ 2 ∷ []) ∷ (2 ∷ 0 ∷ 4 ∷ []) ∷ (3 ∷ 5 ∷ []) ∷ (3 ∷ []) ∷
    (4 ∷ 0 ∷ 7 ∷ 10 ∷ 13 ∷ []) ∷ (5 ∷ 8 ∷ 0 ∷ 1 ∷ 1 ∷ []) ∷ (5 ∷ 9 ∷ 0 ∷ 2 ∷ 2 ∷ []) ∷ (5 ∷ []) ∷ (6 ∷ 12 ∷ 1 ∷ 0 ∷ 11 ∷ []) ∷
    (7 ∷ 0 ∷ 0 ∷ 1 ∷ 2 ∷ []) ∷ (6 ∷ 0 ∷ 2 ∷ []) ∷ (11 ∷ 14 ∷ 2 ∷ 1 ∷ []) ∷ (8 ∷ 15 ∷ 3 ∷ 7 ∷ []) ∷
    (11 ∷ 0 ∷ 1 ∷ 0 ∷ 2 ∷ 3 ∷ []) ∷ [])

edge_to_constants_answers : Answered edge_to_constants (refuses Typing) (Err Typing) (silent (Refused Typing) 0)
unfolding computing eight rows file silent edge_to_constants
edge_to_constants_answers = (refl, refl, refl)

-- what stands in lent memory afterwards: two bytes of three written, one number of two places printed; all as it was after a refusal
memory_after_law :
    (annotator_memory (writes (1 ∷ 2 ∷ [])) (7 ∷ 8 ∷ 9 ∷ []) ≡ 1 ∷ 2 ∷ 9 ∷ []) × (annotator_memory (refuses Form) (7 ∷ 8 ∷ 9 ∷ []) ≡ 7 ∷ 8 ∷ 9 ∷ [])
    × (print_places (record { ending = Finished; steps = 2; printed = negsuc 0 ∷ [] }) (5 ∷ 6 ∷ []) ≡ 4294967295 ∷ 6 ∷ [])
unfolding computing
memory_after_law = (refl, refl, refl)
