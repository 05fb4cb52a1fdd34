-- "Proved by hand-sized files": the cases of document 01, together as one theorem. "The table keeps its cases with the answers that now follow and
-- gains the new U's" (C-14): U and A give a type of constants a region. "The last of the table cases" is a run that stops (C-15).
use Rattle.std.specs.Prelude.{ℕ, zero, suc, List, [], ◌∷◌, ◌++◌, ◌≡◌, refl, pos, negsuc, set, Ok, Err}
use Rattle.language.specs.declared.Refusal.{Refusal}
use Rattle.language.specs.declared.Refusal.TheVariants.{Header, Form, Typing, Room}
use Rattle.language.specs.declared.Stop.TheVariants.{Steps, Frames, Sums}
use Rattle.language.specs.declared.Ending.{Ending}
use Rattle.language.specs.declared.Ending.TheVariants.{Refused, Finished, Stopped}
use Rattle.language.specs.Layout.{bytes_of}
use Rattle.language.specs.Machine.{Lent, Run, runner_lent}
use Rattle.language.specs.Answers.{annotated, refuses, writes, annotator_bytes, checked, ran}
use Rattle.language.specs.Output.{refused_word, finished_word, stopped_word, runner_output}
use Rattle.language.specs.Computing.{computing}

-- a file from its records: "words left out are 0"
unfoldable pub eight : ℕ → List ℕ → List ℕ
eight zero ws = []
eight (suc n) [] = 0 ∷ eight n []
eight (suc n) (w ∷ ws) = w ∷ eight n ws

unfoldable pub rows : List (List ℕ) → List (List ℕ)
rows [] = []
rows (r ∷ rs) = eight 8 r ∷ rows rs

unfoldable pub file : List (List ℕ) → List ℕ
file rs = bytes_of (rows rs)

-- records 1 to 5 of U and A
unfoldable pub five : List (List ℕ)
five = (2 ∷ 0 ∷ 2 ∷ []) ∷ (3 ∷ []) ∷ (4 ∷ 0 ∷ 4 ∷ 5 ∷ 6 ∷ []) ∷ (5 ∷ 0 ∷ 0 ∷ 1 ∷ 1 ∷ []) ∷ (6 ∷ 0 ∷ 1 ∷ []) ∷ []

-- a file of n records: its header, records 1 to 5, and the goals
unfoldable pub with5 : ℕ → List (List ℕ) → List ℕ
with5 n goals = file ((1 ∷ 3 ∷ 1 ∷ n ∷ []) ∷ five ++ goals)

unfoldable pub U : List ℕ
U = with5 7 ((11 ∷ 0 ∷ 1 ∷ 0 ∷ []) ∷ [])

unfoldable pub A : List ℕ
A = with5 9 ((18 ∷ 7 ∷ 1 ∷ []) ∷ (11 ∷ 8 ∷ 1 ∷ 0 ∷ []) ∷ (19 ∷ 0 ∷ 1 ∷ []) ∷ [])

-- "File U then has no region record" (C-14)
unfoldable pub new_u : List ℕ
new_u =
    file (
    (1 ∷ 3 ∷ 1 ∷ 6 ∷ []) ∷ (2 ∷ 0 ∷ 2 ∷ []) ∷ (3 ∷ []) ∷ (4 ∷ 0 ∷ 4 ∷ 0 ∷ 5 ∷ []) ∷ (5 ∷ 0 ∷ 0 ∷ 1 ∷ []) ∷ (11 ∷ 0 ∷ 1 ∷ 0 ∷ []) ∷ [])

-- U with w7 = 1 in record 5, and in record 6: the byte 16 × 5 + 14, and 16 × 6 + 14
unfoldable pub U5 : List ℕ
U5 = set U 94 1

unfoldable pub U6 : List ℕ
U6 = set U 110 1

-- A with create, remove, construct, and A with a second remove
unfoldable pub early : List ℕ
early = with5 9 ((18 ∷ 7 ∷ 1 ∷ []) ∷ (19 ∷ 8 ∷ 1 ∷ []) ∷ (11 ∷ 0 ∷ 1 ∷ 0 ∷ []) ∷ [])

unfoldable pub twice : List ℕ
twice = with5 10 ((18 ∷ 7 ∷ 1 ∷ []) ∷ (11 ∷ 8 ∷ 1 ∷ 0 ∷ []) ∷ (19 ∷ 9 ∷ 1 ∷ []) ∷ (19 ∷ 0 ∷ 1 ∷ []) ∷ [])

-- n variables of type 0 from record i on; and n sums, of variable x with itself into the next, and so on
unfoldable pub number_variables : ℕ → ℕ → List (List ℕ)
number_variables zero i = []
number_variables (suc zero) i = (5 ∷ []) ∷ []
number_variables (suc (suc n)) i = (5 ∷ suc i ∷ []) ∷ number_variables (suc n) (suc i)

unfoldable pub doublings : ℕ → ℕ → ℕ → List (List ℕ)
doublings zero i x = []
doublings (suc n) i x = (9 ∷ suc i ∷ suc x ∷ 0 ∷ x ∷ x ∷ []) ∷ doublings n (suc i) (suc x)

-- A run to both ends of the range and past them (C-15). Variable 17 becomes −2,147,483,648: −32,768 doubled sixteen times. 19 becomes 2,147,483,647: −1,
-- which is 18, less that. 20 is a literal v; 19 is printed; then 21 is the sum or difference of y and z, 22 is 17 less 20, and both are printed.
unfoldable pub to_the_ends : ℕ → ℕ → ℕ → ℕ → List ℕ
to_the_ends v o y z =
    file (
    (1 ∷ 1 ∷ 0 ∷ 49 ∷ []) ∷ (4 ∷ 0 ∷ 2 ∷ 0 ∷ 24 ∷ []) ∷ number_variables 22 2 ++ ((8 ∷ 25 ∷ 1 ∷ 32768 ∷ []) ∷ doublings 16 25 1 ++ (
    (8 ∷ 42 ∷ 18 ∷ 65535 ∷ []) ∷ (9 ∷ 43 ∷ 19 ∷ 1 ∷ 18 ∷ 17 ∷ []) ∷ (8 ∷ 44 ∷ 20 ∷ v ∷ []) ∷ (17 ∷ 45 ∷ 19 ∷ []) ∷ (9 ∷ 46 ∷ 21 ∷ o ∷ y ∷ z ∷ []) ∷
    (17 ∷ 47 ∷ 21 ∷ []) ∷ (9 ∷ 48 ∷ 22 ∷ 1 ∷ 17 ∷ 20 ∷ []) ∷ (17 ∷ 0 ∷ 22 ∷ []) ∷ [])))

-- "2,147,483,647 + 1"
unfoldable pub over : List ℕ
over = to_the_ends 1 0 19 20

-- what the runner program is lent, but for n steps; no cells; no frame and no steps
unfoldable pub lending : ℕ → ℕ → ℕ → Lent
lending cell_words frame_words n =
    record { cell_words = cell_words; region_words = runner_lent.region_words; frame_words = frame_words; print_words = runner_lent.print_words; steps = n }

unfoldable pub in_steps : ℕ → Lent
in_steps n = lending runner_lent.cell_words runner_lent.frame_words n

unfoldable pub no_cells : Lent
no_cells = lending 0 runner_lent.frame_words runner_lent.steps

unfoldable pub no_frames : Lent
no_frames = lending runner_lent.cell_words 0 0

-- a run of `to_the_ends` that stops before the sum of y and z
unfoldable pub stopped_there : Run
stopped_there = record { ending = Stopped Sums; steps = 21; printed = pos 2147483647 ∷ [] }

-- a run that printed nothing
unfoldable pub silent : Ending → ℕ → Run
silent e n = record { ending = e; steps = n; printed = [] }

-- the three programs' answers where they are one refusal
abbrev pub AllRefuse : List ℕ → Refusal → Type 0
AllRefuse f r = (annotated f annotator_bytes ≡ refuses r) × (checked f ≡ Err r) × (ran f runner_lent ≡ silent (Refused r) 0)

pub record Table : Type 0 where
  pub annotated_144 : annotated U 144 ≡ refuses Typing
  pub annotated_143 : annotated U 143 ≡ refuses Typing
  pub empty_file : AllRefuse [] Header
  pub unused_word : AllRefuse U5 Form
  pub past_arity : AllRefuse U6 Typing
  pub already_annotated : annotated A annotator_bytes ≡ refuses Typing
  pub A-checked : checked A ≡ Err Typing
  pub U-checked : checked U ≡ Err Typing
  pub removed_early : checked early ≡ Err Typing
  pub removed_twice_law : checked twice ≡ Err Typing
  pub A-run : ran A runner_lent ≡ silent (Refused Typing) 0
  pub A-lines : runner_output (ran A runner_lent) ≡ refused_word ++ (51 ∷ 10 ∷ [])
  pub steps_spent : ran A (in_steps 2) ≡ silent (Refused Typing) 0
  pub no_cell_law : ran A no_cells ≡ silent (Refused Typing) 0
  pub no_frame_law : ran A no_frames ≡ silent (Refused Typing) 0
  pub new_u_96 : annotated new_u 96 ≡ writes new_u
  pub new_u_95 : annotated new_u 95 ≡ refuses Room
  pub new_u_checked : checked new_u ≡ Ok tt
  pub new_u_run : ran new_u runner_lent ≡ silent Finished 1
  pub new_u_lines : runner_output (ran new_u runner_lent) ≡ finished_word ++ (49 ∷ 10 ∷ [])
  pub new_u_no_steps : ran new_u (in_steps 0) ≡ silent (Stopped Steps) 0
  pub new_u_no_cell : ran new_u no_cells ≡ silent Finished 1
  pub new_u_no_frame : ran new_u no_frames ≡ silent (Stopped Frames) 0
  -- 2,147,483,647 + 1: stopped before that step, all steps before it done; 10 comes before 15
  pub sum_over : ran over runner_lent ≡ stopped_there
  pub sum_lines : runner_output stopped_there ≡ 50 ∷ 49 ∷ 52 ∷ 55 ∷ 52 ∷ 56 ∷ 51 ∷ 54 ∷ 52 ∷ 55 ∷ 10 ∷ stopped_word ++ (49 ∷ 53 ∷ 32 ∷ 50 ∷ 49 ∷ 10 ∷ [])
  pub sum_steps_spent : ran over (in_steps 21) ≡ record { ending = Stopped Steps; steps = 21; printed = pos 2147483647 ∷ [] }
  -- −2,147,483,648 + −1; 2,147,483,647 less −1; −2,147,483,648 less 1
  pub sum_under : ran (to_the_ends 0 0 17 18) runner_lent ≡ stopped_there
  pub difference_over : ran (to_the_ends 0 1 19 18) runner_lent ≡ stopped_there
  pub difference_under : ran (to_the_ends 1 1 17 20) runner_lent ≡ stopped_there
  -- each end of the range, by a sum and by a difference: −2,147,483,648 by sums, 2,147,483,647 by a difference, that + 0, the other less 0
  pub both_ends : ran (to_the_ends 0 0 19 20) runner_lent ≡ record { ending = Finished; steps = 25; printed = pos 2147483647 ∷ pos 2147483647 ∷ negsuc 2147483647 ∷ [] }

pub table : Table
unfolding computing eight rows file five with5 U A new_u U5 U6 early twice number_variables doublings to_the_ends over lending in_steps no_cells no_frames stopped_there silent
table = record {
  annotated_144 = refl;
  annotated_143 = refl;
  empty_file = (refl, refl, refl);
  unused_word = (refl, refl, refl);
  past_arity = (refl, refl, refl);
  already_annotated = refl;
  A-checked = refl;
  U-checked = refl;
  removed_early = refl;
  removed_twice_law = refl;
  A-run = refl;
  A-lines = refl;
  steps_spent = refl;
  no_cell_law = refl;
  no_frame_law = refl;
  new_u_96 = refl;
  new_u_95 = refl;
  new_u_checked = refl;
  new_u_run = refl;
  new_u_lines = refl;
  new_u_no_steps = refl;
  new_u_no_cell = refl;
  new_u_no_frame = refl;
  sum_over = refl;
  sum_lines = refl;
  sum_steps_spent = refl;
  sum_under = refl;
  difference_over = refl;
  difference_under = refl;
  both_ends = refl;
}
