-- THE TREE LAW: of a file that passes numbers 1 and 2, every goal of the program passes a test if and only if every record that is a goal does.
-- What stands in a chain passes if and only if its first record and what its words refer to pass (`record_step`); the rest is module ChainTests.
use Prim.Native.Nat.{ℕ, suc, ◌+◌, ◌<◌}
use native.Mathlib.Omega.{arith}
use Rattle.std.proofs.Math.Decide.{ℕ_discrete}
use Rattle.std.specs.Prelude.{Bool, true, false, List, ◌≡◌}
use Rattle.std.proofs.lemmas.Bool.{false≢true}
use Rattle.std.proofs.Math.Path.{refl, ap}
use Rattle.std.proofs.Common.{sym, ◌∙◌}
use Rattle.sets.specs.Tests.{◌&◌}
use Rattle.language.specs.Format.{header_procedures, kind_word, next_word, arm_goals, if_else, if_then, procedure_goals, switch_arms, try_condition, try_else, try_then}
use Rattle.language.specs.File.{k_literal, k_sum, k_assign, k_construct, k_switch, k_if, k_call, k_print, k_create, k_remove, k_try, k_test, Kind, k_none, k_header, k_type, k_functor, k_procedure, k_variable, k_region, k_edge, k_arm, k_argument, k_goal, Chain, nowhere, types, functors, procedures, variables, regions, edges, goals, arms, arguments, row, kind_of, word, record_count}
use Rattle.language.specs.Program.{Step, ◌then◌, Goal, step, switch, if_less, try}
use Rattle.language.specs.Answers.{program}
use Rattle.chains.specs.Layout.{all_rows, real, known_chain, header_kind_law}
use Rattle.records.specs.Table.{uses}
use Rattle.chains.specs.Formed.{Formed, goals_at, goal_at, arms_at, procedures_at, goals_none, arms_none, procedures_none, program_procedures}
use Rattle.chains.specs.Kinds.{same_read}
use Rattle.chains.specs.Goals.{literal_at, sum_at_law, assign_at, construct_at, print_at, create_at, remove_at, test_at}
use Rattle.chains.specs.Parts.{switch_at, arm_at, if_at, try_at, call_at}
use Rattle.chains.specs.Declared.{procedure_at_law}
use Rattle.owners.specs.Referred.{sort_of, uses_of}
use Rattle.owners.specs.ChainTests.{one_swap, two_swap, three_swap, four_swap, five_swap, words_test, chain_records_law, chain_all}
use Rattle.owners.specs.Owner.{owner_of}
use Rattle.owners.specs.Owners.{OwnedBy, goal_next, switch_arms_law, arm_next, arm_goals_law, if_then_law, if_else_law, try_condition_law, try_then_law, try_else_law, procedure_next, procedure_goals_law, first_owner}
use Rattle.owners.specs.Everywhere.{all_goals, all_arms, all_from, every_goal, if_goal, record_test, every_record}

module _ (L : ℕ → Goal → Bool) (f : List ℕ) where
  -- what stands in the chain at record i passes
  unfoldable chain_test : Chain → ℕ → Bool
  chain_test nowhere i = true
  chain_test types i = true
  chain_test functors i = true
  chain_test procedures i = all_from L (owner_of f i) (procedures_at f i)
  chain_test variables i = true
  chain_test regions i = true
  chain_test edges i = true
  chain_test goals i = all_goals (L (owner_of f i)) (goals_at f i)
  chain_test arms i = all_arms (L (owner_of f i)) (arms_at f i)
  chain_test arguments i = true

  -- ---- the test of a chain that belongs to procedure q
  module _ {q w : ℕ} (b : OwnedBy f q w) where
    owned_goals : all_goals (L q) (goals_at f w) ≡ chain_test goals w
    unfolding chain_test all_goals
    owned_goals = elim (ℕ_discrete w 0) [ yes z ↦ rw (goals_none f z) | no z ↦ rw (b z) ]

    owned_arms : all_arms (L q) (arms_at f w) ≡ chain_test arms w
    unfolding chain_test all_goals
    owned_arms = elim (ℕ_discrete w 0) [ yes z ↦ rw (arms_none f z) | no z ↦ rw (b z) ]

    owned_procedures : all_from L q (procedures_at f w) ≡ chain_test procedures w
    unfolding chain_test all_from
    owned_procedures = elim (ℕ_discrete w 0) [ yes z ↦ rw (procedures_none f z) | no z ↦ rw (b z) ]

  ends : (c : Chain) → chain_test c 0 ≡ true
  unfolding chain_test all_goals all_from
  ends nowhere = refl
  ends types = refl
  ends functors = refl
  ends procedures = rw (procedures_none f {i = 0} refl)
  ends variables = refl
  ends regions = refl
  ends edges = refl
  ends goals = rw (goals_none f {i = 0} refl)
  ends arms = rw (arms_none f {i = 0} refl)
  ends arguments = refl

-- ---- a chain passes if and only if its first record does and what its words lead to
module _ (L : ℕ → Goal → Bool) {f : List ℕ} (F : Formed f) (i : ℕ) (q : i < record_count f) where
  abbrev here : Bool
  here = L (owner_of f i) (goal_at f i)

  -- a goal without parts
  plain_goal_law : {s : Step} → goals_at f i ≡ step s then goals_at f (word f i next_word) → goal_at f i ≡ step s → OwnedBy f (owner_of f i) (word f i next_word)
      → chain_test L f goals i ≡ (here & (chain_test L f goals (word f i next_word) & true))
  unfolding chain_test all_goals
  plain_goal_law v g b = rw (v, g, owned_goals L f b) (one_swap _ _)

  switch_goal : {x : ℕ} → goals_at f i ≡ switch x (arms_at f (word f i switch_arms)) then goals_at f (word f i next_word)
      → goal_at f i ≡ switch x (arms_at f (word f i switch_arms))
      → OwnedBy f (owner_of f i) (word f i next_word) → OwnedBy f (owner_of f i) (word f i switch_arms)
      → chain_test L f goals i ≡ (here & (chain_test L f goals (word f i next_word) & (chain_test L f arms (word f i switch_arms) & true)))
  unfolding chain_test all_goals
  switch_goal v g b c = rw (v, g, owned_goals L f b, owned_arms L f c) (three_swap _ _ _)

  if_goal_law : {y z : ℕ} → goals_at f i ≡ if_less y z (goals_at f (word f i if_then)) (goals_at f (word f i if_else)) then goals_at f (word f i next_word)
      → goal_at f i ≡ if_less y z (goals_at f (word f i if_then)) (goals_at f (word f i if_else))
      → OwnedBy f (owner_of f i) (word f i next_word) → OwnedBy f (owner_of f i) (word f i if_then) → OwnedBy f (owner_of f i) (word f i if_else)
      → chain_test L f goals i ≡ (here & (chain_test L f goals (word f i next_word) & (chain_test L f goals (word f i if_then) & (chain_test L f goals (word f i if_else) & true))))
  unfolding chain_test all_goals
  if_goal_law v g b c d = rw (v, g, owned_goals L f b, owned_goals L f c, owned_goals L f d) (four_swap _ _ _ _)

  try_goal : goals_at f i ≡ try (goals_at f (word f i try_condition)) (goals_at f (word f i try_then)) (goals_at f (word f i try_else)) then goals_at f (word f i next_word)
      → goal_at f i ≡ try (goals_at f (word f i try_condition)) (goals_at f (word f i try_then)) (goals_at f (word f i try_else))
      → OwnedBy f (owner_of f i) (word f i next_word) → OwnedBy f (owner_of f i) (word f i try_condition) → OwnedBy f (owner_of f i) (word f i try_then)
      → OwnedBy f (owner_of f i) (word f i try_else)
      → chain_test L f goals i ≡ (here & (chain_test L f goals (word f i next_word) & (chain_test L f goals (word f i try_condition)
      & (chain_test L f goals (word f i try_then) & (chain_test L f goals (word f i try_else) & true)))))
  unfolding chain_test all_goals
  try_goal v g b c d e = rw (v, g, owned_goals L f b, owned_goals L f c, owned_goals L f d, owned_goals L f e) (five_swap _ _ _ _ _)

  arm_record : kind_of (word f i kind_word) ≡ k_arm
      → chain_test L f arms i ≡ (chain_test L f arms (word f i next_word) & (chain_test L f goals (word f i arm_goals) & true))
  unfolding chain_test all_goals
  arm_record e =
      rw ((arm_at F refl (same_read f i refl e)).view, owned_arms L f (arm_next F i q e), owned_goals L f (arm_goals_law F i q e)) (two_swap _ _)

  procedure_record_law : kind_of (word f i kind_word) ≡ k_procedure
      → chain_test L f procedures i ≡ (chain_test L f procedures (word f i next_word) & (chain_test L f goals (word f i procedure_goals) & true))
  unfolding chain_test all_from
  procedure_record_law e =
      let n : suc (owner_of f i) ≡ owner_of f i + 1 = omega arith in
      rw ((procedure_at_law F refl (same_read f i refl e)).view, n, owned_procedures L f (procedure_next F i q e), owned_goals L f (procedure_goals_law F i q e)) (two_swap _ _)

  record_step : (k : Kind) → kind_of (word f i kind_word) ≡ k → real (row k).chain ≡ true
      → chain_test L f (row k).chain i ≡ (if_goal k here & words_test (chain_test L f) (word f i) 1 (uses (row k)))
  unfolding all_rows uses real if_goal words_test chain_test ◌&◌
  record_step k_none e r = absurd (false≢true r)
  record_step k_header e r = absurd (false≢true r)
  record_step k_type e r = refl
  record_step k_functor e r = refl
  record_step k_procedure e r = procedure_record_law e
  record_step k_variable e r = refl
  record_step k_region e r = refl
  record_step k_edge e r = refl
  record_step k_arm e r = arm_record e
  record_step k_argument e r = refl
  record_step (k_goal k_literal) e r = let h = literal_at F refl (same_read f i refl e) in plain_goal_law h.view h.goal (goal_next F i q k_literal e)
  record_step (k_goal k_sum) e r = let h = sum_at_law F refl (same_read f i refl e) in plain_goal_law h.view h.goal (goal_next F i q k_sum e)
  record_step (k_goal k_assign) e r = let h = assign_at F refl (same_read f i refl e) in plain_goal_law h.view h.goal (goal_next F i q k_assign e)
  record_step (k_goal k_construct) e r = let h = construct_at F refl (same_read f i refl e) in plain_goal_law h.view h.goal (goal_next F i q k_construct e)
  record_step (k_goal k_switch) e r = let h = switch_at F refl (same_read f i refl e) in switch_goal h.view h.goal (goal_next F i q k_switch e) (switch_arms_law F i q e)
  record_step (k_goal k_if) e r = let h = if_at F refl (same_read f i refl e) in if_goal_law h.view h.goal (goal_next F i q k_if e) (if_then_law F i q e) (if_else_law F i q e)
  record_step (k_goal k_call) e r = let h = call_at F refl (same_read f i refl e) in plain_goal_law h.view h.goal (goal_next F i q k_call e)
  record_step (k_goal k_print) e r = let h = print_at F refl (same_read f i refl e) in plain_goal_law h.view h.goal (goal_next F i q k_print e)
  record_step (k_goal k_create) e r = let h = create_at F refl (same_read f i refl e) in plain_goal_law h.view h.goal (goal_next F i q k_create e)
  record_step (k_goal k_remove) e r = let h = remove_at F refl (same_read f i refl e) in plain_goal_law h.view h.goal (goal_next F i q k_remove e)
  record_step (k_goal k_try) e r = let h = try_at F refl (same_read f i refl e) in try_goal h.view h.goal (goal_next F i q k_try e) (try_condition_law F i q e) (try_then_law F i q e) (try_else_law F i q e)
  record_step (k_goal k_test) e r = let h = test_at F refl (same_read f i refl e) in plain_goal_law h.view h.goal (goal_next F i q k_test e)

module _ (L : ℕ → Goal → Bool) {f : List ℕ} (F : Formed f) where
  chain_record : (i : ℕ) → 0 < i → i < record_count f → chain_test L f (sort_of f i) i ≡ (record_test L f i & words_test (chain_test L f) (word f i) 1 (uses_of f i))
  unfolding sort_of uses_of record_test
  chain_record i p q =
      record_step L F i q (kind_of (word f i kind_word)) refl (known_chain (word f) (record_count f) F.form (header_kind_law f F.header F.form) i p q)

  whole : every_goal L (program f) ≡ chain_test L f procedures (word f 0 header_procedures)
  unfolding every_goal
  whole = ap (all_from L 0) (program_procedures F) ∙ owned_procedures L f (first_owner F)

  no_types : (i : ℕ) → chain_test L f types i ≡ true
  unfolding chain_test
  no_types i = refl

  -- every goal of the program passes: every record does
  pub goals_records : every_goal L (program f) ≡ true → (i : ℕ) → 0 < i → i < record_count f → record_test L f i ≡ true
  goals_records e = chain_records_law (chain_test L f) F (record_test L f) (ends L f) no_types chain_record (sym whole ∙ e)

  -- .. and the other way round
  pub every_record_law : every_goal L (program f) ≡ every_record L f
  unfolding every_record
  every_record_law = whole ∙ chain_all (chain_test L f) F (record_test L f) (ends L f) no_types chain_record

  -- ---- the test of one record, by its kind
  pub record_kind : (i : ℕ) (k : Kind) → kind_of (word f i kind_word) ≡ k → record_test L f i ≡ if_goal k (L (owner_of f i) (goal_at f i))
  unfolding record_test
  record_kind i k e = rw e
