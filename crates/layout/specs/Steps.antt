-- Words that pass number 2: what stands at a record, one step at a time, for walks over the records.
use Rattle.std.specs.Prelude.{ℕ, ◌<◌, List, [], ◌∷◌, ◌≡◌, true}
use Rattle.std.proofs.Math.Path.{ap}
use Rattle.language.specs.Lists.{nth}
use Rattle.language.specs.File.{k_literal, k_sum, k_assign, k_construct, k_switch, k_if, k_call, k_print, k_create, k_remove, k_try, k_test, Kind, k_type, k_functor, k_procedure, k_variable, k_region, k_edge, k_arm, k_argument, k_goal, row, kind_of, word, record_count, header_ok, form_ok}
use Rattle.language.specs.Tree.{Words, read_words, read_record, read_chain}
use Rattle.language.specs.Program.{four, Functor, Variable, Edge, Region, literal, sum, assign, construct, call, print, create, remove, test, Goals, done, ◌then◌, step, switch, if_less, try, Arms, no_arms, arm, Procedure}
use Rattle.language.specs.Reading.{word_at, chain_at, each, read_functor, read_type, read_variable, read_edge, read_region, no_sense, number_in, sense_in, num, sub, goal_of, in_front, sense_of, parts_of, read_procedure}
use Rattle.language.specs.Answers.{program}
use Rattle.layout.specs.Table.{all_rows}
use Rattle.layout.specs.Standing.{chain_end_law}
use Rattle.layout.specs.Passing.{chain_step}
use Rattle.layout.specs.Files.{program_read}

-- what stands in the chain at record i
module _ (W : ℕ → ℕ → ℕ) (n i : ℕ) where
  unfoldable pub goals_at : Goals
  goals_at = (sense_of (read_chain n W i)).as_goals

  unfoldable pub arms_at : Arms
  arms_at = (sense_of (read_chain n W i)).as_arms

  unfoldable pub arguments_at : List ℕ
  arguments_at = (sense_of (read_chain n W i)).as_arguments

  unfoldable pub functors_at : List Functor
  functors_at = each read_functor (read_chain n W i)

  unfoldable pub types_at : List (List Functor)
  types_at = each read_type (read_chain n W i)

  unfoldable pub variables_at : List Variable
  variables_at = each read_variable (read_chain n W i)

  unfoldable pub edges_at : List Edge
  edges_at = each read_edge (read_chain n W i)

  unfoldable pub regions_at : List Region
  regions_at = each read_region (read_chain n W i)

  unfoldable pub procedures_at : List Procedure
  procedures_at = each read_procedure (read_chain n W i)

-- ---- "zero ends a chain"
module _ (W : ℕ → ℕ → ℕ) (n : ℕ) where
  pub each_end : {A : Type 0} (f : Words → A) → each f (read_chain n W 0) ≡ []
  unfolding each
  each_end f = rw (chain_end_law n W)

  pub sense_end : sense_of (read_chain n W 0) ≡ no_sense
  unfolding sense_of
  sense_end = rw (chain_end_law n W)

  pub goals_end : goals_at W n 0 ≡ done
  unfolding goals_at no_sense
  goals_end = ap (λ s. s.as_goals) sense_end

  pub arms_end : arms_at W n 0 ≡ no_arms
  unfolding arms_at no_sense
  arms_end = ap (λ s. s.as_arms) sense_end

  pub arguments_end : arguments_at W n 0 ≡ []
  unfolding arguments_at no_sense
  arguments_end = ap (λ s. s.as_arguments) sense_end

  pub functors_end : functors_at W n 0 ≡ []
  unfolding functors_at
  functors_end = each_end read_functor

  pub types_end : types_at W n 0 ≡ []
  unfolding types_at
  types_end = each_end read_type

  pub variables_end : variables_at W n 0 ≡ []
  unfolding variables_at
  variables_end = each_end read_variable

  pub edges_end : edges_at W n 0 ≡ []
  unfolding edges_at
  edges_end = each_end read_edge

  pub regions_end_law : regions_at W n 0 ≡ []
  unfolding regions_at
  regions_end_law = each_end read_region

  pub procedures_end : procedures_at W n 0 ≡ []
  unfolding procedures_at
  procedures_end = each_end read_procedure

-- ---- a record in front of the rest of its chain, by its kind
unfoldable parts : Unit {0}
unfolding goals_at arms_at arguments_at read_words all_rows sense_of in_front goal_of num sub number_in sense_in nth
parts = tt

unfoldable fields : Unit {0}
unfolding read_words all_rows word_at chain_at
fields = tt

abbrev pub procedure_of : List Variable → List Region → Goals → Procedure
procedure_of vs rs gs = record { signature = record { variables = vs; regions = rs }; body = gs }

module _ (W : ℕ → ℕ → ℕ) (n : ℕ) (P : form_ok W n ≡ true) (i : ℕ) (p : 0 < i) (q : i < n) where
  pub each_step : {A : Type 0} (f : Words → A) (k : Kind) → kind_of (W i 0) ≡ k
      → each f (read_chain n W i) ≡ f (read_words (λ j. read_chain n W j) (W i) 2 (row k).words) ∷ each f (read_chain n W (W i 1))
  unfolding each read_record
  each_step f k e = rw (chain_step W n P i p q) (rw e)

  pub functor_step : kind_of (W i 0) ≡ k_functor
      → functors_at W n i ≡ record { arity = W i 2; argument_types = four (W i 3) (W i 4) (W i 5) (W i 6) } ∷ functors_at W n (W i 1)
  unfolding functors_at read_functor fields
  functor_step e = each_step read_functor k_functor e

  pub type_step : kind_of (W i 0) ≡ k_type → types_at W n i ≡ functors_at W n (W i 2) ∷ types_at W n (W i 1)
  unfolding types_at functors_at read_type fields
  type_step e = each_step read_type k_type e

  pub variable_step : kind_of (W i 0) ≡ k_variable
      → variables_at W n i ≡ record { mode = W i 2; type = W i 3; region = W i 4 } ∷ variables_at W n (W i 1)
  unfolding variables_at read_variable fields
  variable_step e = each_step read_variable k_variable e

  pub edge_step : kind_of (W i 0) ≡ k_edge
      → edges_at W n i ≡ record { functor = W i 2; position = W i 3; target = W i 4 } ∷ edges_at W n (W i 1)
  unfolding edges_at read_edge fields
  edge_step e = each_step read_edge k_edge e

  pub region_step : kind_of (W i 0) ≡ k_region
      → regions_at W n i ≡ record { type = W i 2; class = W i 3; edges = edges_at W n (W i 4) } ∷ regions_at W n (W i 1)
  unfolding regions_at edges_at read_region fields
  region_step e = each_step read_region k_region e

  pub procedure_step : kind_of (W i 0) ≡ k_procedure
      → procedures_at W n i ≡ procedure_of (variables_at W n (W i 2)) (regions_at W n (W i 3)) (goals_at W n (W i 4)) ∷ procedures_at W n (W i 1)
  unfolding procedures_at variables_at regions_at goals_at read_procedure fields
  procedure_step e = each_step read_procedure k_procedure e

  pub sense_step : (k : Kind) → kind_of (W i 0) ≡ k
      → sense_of (read_chain n W i) ≡ in_front (parts_of (read_words (λ j. read_chain n W j) (W i) 2 (row k).words)) k (sense_of (read_chain n W (W i 1)))
  unfolding sense_of read_record
  sense_step k e = rw (chain_step W n P i p q) (rw e)

  pub argument_step : kind_of (W i 0) ≡ k_argument → arguments_at W n i ≡ W i 2 ∷ arguments_at W n (W i 1)
  unfolding parts
  argument_step e = ap (λ s. s.as_arguments) (sense_step k_argument e)

  pub arm_step : kind_of (W i 0) ≡ k_arm
      → arms_at W n i ≡ arm (W i 3) (four (W i 4) (W i 5) (W i 6) (W i 7)) (goals_at W n (W i 2)) (arms_at W n (W i 1))
  unfolding parts
  arm_step e = ap (λ s. s.as_arms) (sense_step k_arm e)

  pub literal_step : kind_of (W i 0) ≡ k_goal k_literal → goals_at W n i ≡ step (literal (W i 2) (W i 3)) then goals_at W n (W i 1)
  unfolding parts
  literal_step e = ap (λ s. s.as_goals) (sense_step (k_goal k_literal) e)

  pub sum_step : kind_of (W i 0) ≡ k_goal k_sum → goals_at W n i ≡ step (sum (W i 2) (W i 3) (W i 4) (W i 5)) then goals_at W n (W i 1)
  unfolding parts
  sum_step e = ap (λ s. s.as_goals) (sense_step (k_goal k_sum) e)

  pub assign_step : kind_of (W i 0) ≡ k_goal k_assign → goals_at W n i ≡ step (assign (W i 2) (W i 3)) then goals_at W n (W i 1)
  unfolding parts
  assign_step e = ap (λ s. s.as_goals) (sense_step (k_goal k_assign) e)

  pub construct_step : kind_of (W i 0) ≡ k_goal k_construct
      → goals_at W n i ≡ step (construct (W i 2) (W i 3) (four (W i 4) (W i 5) (W i 6) (W i 7))) then goals_at W n (W i 1)
  unfolding parts
  construct_step e = ap (λ s. s.as_goals) (sense_step (k_goal k_construct) e)

  pub switch_step : kind_of (W i 0) ≡ k_goal k_switch → goals_at W n i ≡ switch (W i 2) (arms_at W n (W i 3)) then goals_at W n (W i 1)
  unfolding parts
  switch_step e = ap (λ s. s.as_goals) (sense_step (k_goal k_switch) e)

  pub if_step : kind_of (W i 0) ≡ k_goal k_if
      → goals_at W n i ≡ if_less (W i 2) (W i 3) (goals_at W n (W i 4)) (goals_at W n (W i 5)) then goals_at W n (W i 1)
  unfolding parts
  if_step e = ap (λ s. s.as_goals) (sense_step (k_goal k_if) e)

  pub call_step : kind_of (W i 0) ≡ k_goal k_call → goals_at W n i ≡ step (call (W i 2) (arguments_at W n (W i 3))) then goals_at W n (W i 1)
  unfolding parts
  call_step e = ap (λ s. s.as_goals) (sense_step (k_goal k_call) e)

  pub print_step : kind_of (W i 0) ≡ k_goal k_print → goals_at W n i ≡ step (print (W i 2)) then goals_at W n (W i 1)
  unfolding parts
  print_step e = ap (λ s. s.as_goals) (sense_step (k_goal k_print) e)

  pub create_step : kind_of (W i 0) ≡ k_goal k_create → goals_at W n i ≡ step (create (W i 2)) then goals_at W n (W i 1)
  unfolding parts
  create_step e = ap (λ s. s.as_goals) (sense_step (k_goal k_create) e)

  pub remove_step : kind_of (W i 0) ≡ k_goal k_remove → goals_at W n i ≡ step (remove (W i 2)) then goals_at W n (W i 1)
  unfolding parts
  remove_step e = ap (λ s. s.as_goals) (sense_step (k_goal k_remove) e)

  pub try_step : kind_of (W i 0) ≡ k_goal k_try
      → goals_at W n i ≡ try (goals_at W n (W i 2)) (goals_at W n (W i 3)) (goals_at W n (W i 4)) then goals_at W n (W i 1)
  unfolding parts
  try_step e = ap (λ s. s.as_goals) (sense_step (k_goal k_try) e)

  pub test_step : kind_of (W i 0) ≡ k_goal k_test → goals_at W n i ≡ step (test (W i 2) (W i 3)) then goals_at W n (W i 1)
  unfolding parts
  test_step e = ap (λ s. s.as_goals) (sense_step (k_goal k_test) e)

-- ---- the program of bytes that pass numbers 1 and 2
module _ (f : List ℕ) (H : header_ok f ≡ true) (F : form_ok (word f) (record_count f) ≡ true) where
  pub program_types : (program f).types ≡ types_at (word f) (record_count f) (word f 0 2)
  unfolding types_at
  program_types = ap (λ P. P.types) (program_read f H F)

  pub program_procedures : (program f).procedures ≡ procedures_at (word f) (record_count f) (word f 0 1)
  unfolding procedures_at
  program_procedures = ap (λ P. P.procedures) (program_read f H F)
