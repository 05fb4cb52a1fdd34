-- Number 2's rule on conditions over the records: a program's conditions are in order if and only if every record stands where its kind may.
use Rattle.std.specs.Prelude.{ℕ, ◌-◌, ◌<◌, Bool, true, List, ◌≡◌, replicate}
use Rattle.std.proofs.Common.{arith, sym, ◌∙◌}
use Rattle.std.proofs.Math.Decide.{ℕ_discrete}
use Rattle.std.proofs.Math.Bool.{false}
use Rattle.std.proofs.lemmas.Bool.{false≢true}
use Rattle.std.proofs.Math.Path.{refl, ap}
use Rattle.std.proofs.Math.Dec.{eqb}
use Rattle.std.proofs.Math.ListN.{get_or, length-replicate}
use Rattle.std.proofs.lemmas.List.{get_or-replicate}
use Rattle.sets.specs.Tests.{◌&◌, ◌or◌, neg}
use Rattle.sets.specs.Members.{in_list}
use Rattle.language.specs.Lists.{all, choose, up_from}
use Rattle.language.specs.Format.{header_procedures, kind_word, next_word, arm_goals, if_else, if_then, procedure_goals, switch_arms, try_condition, try_else, try_then, if_kind, call_kind, print_kind, try_kind, test_kind, max_records}
use Rattle.language.specs.File.{GoalKind, k_literal, k_sum, k_assign, k_construct, k_switch, k_if, k_call, k_print, k_create, k_remove, k_try, k_test, Kind, k_none, k_header, k_type, k_functor, k_procedure, k_variable, k_region, k_edge, k_arm, k_argument, k_goal, Chain, nowhere, types, functors, procedures, variables, regions, edges, goals, arms, arguments, row, kind_of, word, record_count}
use Rattle.language.specs.Program.{Step, ◌then◌, step}
use Rattle.language.specs.Conditions.{step_stands, goals_stand, arms_stand, conditions_ok}
use Rattle.language.specs.Answers.{program}
use Rattle.records.specs.Table.{uses}
use Rattle.chains.specs.Layout.{all_rows, real, known_chain, header_kind_law}
use Rattle.chains.specs.Formed.{Formed, counted, goals_at, arms_at, procedures_at, goals_none, arms_none, procedures_none, program_procedures}
use Rattle.chains.specs.Kinds.{same_read}
use Rattle.chains.specs.Shapes.{kind_number}
use Rattle.chains.specs.Goals.{literal_at, sum_at_law, assign_at, construct_at, print_at, create_at, remove_at, test_at}
use Rattle.chains.specs.Parts.{switch_at, arm_at, if_at, try_at, call_at}
use Rattle.chains.specs.Declared.{procedure_at_law}
use Rattle.owners.specs.Referred.{sort_of, uses_of}
use Rattle.owners.specs.ChainTests.{one_swap, two_swap, four_swap, five_swap, words_test, chain_all}
use Rattle.owners.specs.Handed.{reference_words, words_open}
use Rattle.owners.specs.Handing.{handed_none, handed_by, known}
use Rattle.conditions.specs.Inside.{inside_by, insides, inside_at}

-- ---- one goal, its parts aside, by the number of its kind: "Conditions hold no call, print, if or try; tests stand only in conditions"
unfoldable pub may_stand : Bool → ℕ → Bool
may_stand true n = neg (eqb n if_kind or eqb n call_kind or eqb n print_kind or eqb n try_kind)
may_stand false n = neg (eqb n test_kind)

-- ---- along the references
module _ {f : List ℕ} (F : Formed f) (i : ℕ) (q : i < record_count f) where
  -- what stands at record w, where it is one, is in a condition (b) or not
  abbrev Stands : Bool → ℕ → Type 0
  Stands b w = (w ≡ 0 → ⊥) → inside_at f w ≡ b

  given : (K : Kind) → kind_of (word f i kind_word) ≡ K → (k : ℕ) → in_list k (reference_words K) ≡ true
      → (word f i k ≡ 0 → ⊥) → get_or (insides f) (word f i k) 0 ≡ inside_by (row K).kind i k (get_or (insides f) i 0)
  unfolding insides
  given K e k m z =
      handed_by F inside_by (replicate max_records 0) (omega (arith, length-replicate {A = ℕ} max_records 0, (counted F).most))
      (get_or-replicate {A = ℕ} max_records 0 0 0 (omega arith)) K i q e k m z

  stays : (K : Kind) → kind_of (word f i kind_word) ≡ K → (k : ℕ) → in_list k (reference_words K) ≡ true
      → (eqb (row K).kind try_kind & eqb k try_condition) ≡ false → Stands (inside_at f i) (word f i k)
  unfolding inside_at inside_by choose
  stays K e k m d z =
      let h : get_or (insides f) (word f i k) 0 ≡ get_or (insides f) i 0 = given K e k m z ∙ rw d refl in
      ap (λ v. eqb v 1) h

  condition : kind_of (word f i kind_word) ≡ k_goal k_try → Stands true (word f i try_condition)
  unfolding inside_at inside_by choose words_open ◌&◌
  condition e z = ap (λ v. eqb v 1) (given (k_goal k_try) e try_condition refl z)

-- ---- the test of a chain
module _ (f : List ℕ) where
  -- what stands in the chain at record i stands where it may
  unfoldable chain_test : Chain → ℕ → Bool
  chain_test nowhere i = true
  chain_test types i = true
  chain_test functors i = true
  chain_test procedures i = all (λ p. goals_stand (inside_at f i) p.body) (procedures_at f i)
  chain_test variables i = true
  chain_test regions i = true
  chain_test edges i = true
  chain_test goals i = goals_stand (inside_at f i) (goals_at f i)
  chain_test arms i = arms_stand (inside_at f i) (arms_at f i)
  chain_test arguments i = true

  module _ {b : Bool} {w : ℕ} (h : (w ≡ 0 → ⊥) → inside_at f w ≡ b) where
    in_goals : goals_stand b (goals_at f w) ≡ chain_test goals w
    unfolding chain_test goals_stand
    in_goals = elim (ℕ_discrete w 0) [ yes z ↦ rw (goals_none f z) | no z ↦ rw (h z) ]

    in_arms : arms_stand b (arms_at f w) ≡ chain_test arms w
    unfolding chain_test goals_stand
    in_arms = elim (ℕ_discrete w 0) [ yes z ↦ rw (arms_none f z) | no z ↦ rw (h z) ]

    in_procedures : all (λ p. goals_stand b p.body) (procedures_at f w) ≡ chain_test procedures w
    unfolding chain_test all
    in_procedures = elim (ℕ_discrete w 0) [ yes z ↦ rw (procedures_none f z) | no z ↦ rw (h z) ]

  ends : (c : Chain) → chain_test c 0 ≡ true
  unfolding chain_test goals_stand all
  ends nowhere = refl
  ends types = refl
  ends functors = refl
  ends procedures = rw (procedures_none f {i = 0} refl)
  ends variables = refl
  ends regions = refl
  ends edges = refl
  ends goals = rw (goals_none f {i = 0} refl)
  ends arms = rw (arms_none f {i = 0} refl)
  ends arguments = refl

-- ---- a kind's number in and outside conditions
free : (b : Bool) (n : ℕ) → may_stand true n ≡ true → may_stand false n ≡ true → true ≡ may_stand b n
free true n h k = sym h
free false n h k = sym k

barred : (b : Bool) (n : ℕ) → may_stand true n ≡ false → may_stand false n ≡ true → neg b ≡ may_stand b n
unfolding neg
barred true n h k = sym h
barred false n h k = sym k

bound : (b : Bool) (n : ℕ) → may_stand true n ≡ true → may_stand false n ≡ false → b ≡ may_stand b n
bound true n h k = sym h
bound false n h k = sym k

-- ---- a chain passes if and only if its first record does and what its words lead to
unfoldable opened : Unit {0}
unfolding may_stand neg ◌or◌ ◌&◌ words_open
opened = tt

module _ {f : List ℕ} (F : Formed f) (i : ℕ) (q : i < record_count f) where
  abbrev here : Bool
  here = inside_at f i

  plain_goal_law : {s : Step} {m : Bool} → goals_at f i ≡ step s then goals_at f (word f i next_word)
      → ((word f i next_word ≡ 0 → ⊥) → inside_at f (word f i next_word) ≡ here) → step_stands here s ≡ m
      → chain_test f goals i ≡ (m & (chain_test f goals (word f i next_word) & true))
  unfolding chain_test goals_stand
  plain_goal_law v b p = rw (v, in_goals f b, p) (one_swap _ _)

  goal_next : (K : Kind) → kind_of (word f i kind_word) ≡ K → in_list next_word (reference_words K) ≡ true → (eqb (row K).kind try_kind & false) ≡ false
      → (word f i next_word ≡ 0 → ⊥) → inside_at f (word f i next_word) ≡ here
  goal_next K e m d = stays F i q K e next_word m d

  -- a goal without parts, of the kind g
  step_goal : (g : GoalKind) {s : Step} → kind_of (word f i kind_word) ≡ k_goal g → (eqb (row (k_goal g)).kind try_kind & false) ≡ false
      → goals_at f i ≡ step s then goals_at f (word f i next_word) → step_stands here s ≡ may_stand here (row (k_goal g)).kind
      → chain_test f goals i ≡ (may_stand here (row (k_goal g)).kind & (chain_test f goals (word f i next_word) & true))
  unfolding words_open
  step_goal g e d v p = plain_goal_law v (goal_next (k_goal g) e refl d) p

  switch_goal : kind_of (word f i kind_word) ≡ k_goal k_switch
      → chain_test f goals i ≡ (may_stand here (row (k_goal k_switch)).kind & (chain_test f goals (word f i next_word) & (chain_test f arms (word f i switch_arms) & true)))
  unfolding chain_test goals_stand opened
  switch_goal e =
      let h = switch_at F refl (same_read f i refl e) in
      rw (h.view, in_goals f (goal_next (k_goal k_switch) e refl refl), in_arms f (stays F i q (k_goal k_switch) e switch_arms refl refl), ← free here (row (k_goal k_switch)).kind refl refl) (two_swap (chain_test f arms (word f i switch_arms)) (chain_test f goals (word f i next_word)))

  if_goal_law : kind_of (word f i kind_word) ≡ k_goal k_if
      → chain_test f goals i ≡ (may_stand here (row (k_goal k_if)).kind & (chain_test f goals (word f i next_word)
      & (chain_test f goals (word f i if_then) & (chain_test f goals (word f i if_else) & true))))
  unfolding chain_test goals_stand opened
  if_goal_law e =
      let h = if_at F refl (same_read f i refl e) in
      rw (
        h.view,
        in_goals f (goal_next (k_goal k_if) e refl refl),
        in_goals f (stays F i q (k_goal k_if) e if_then refl refl),
        in_goals f (stays F i q (k_goal k_if) e if_else refl refl),
        barred here if_kind refl refl,
      ) (four_swap (may_stand here if_kind) (chain_test f goals (word f i if_then)) (chain_test f goals (word f i if_else)) (chain_test f goals (word f i next_word)))

  try_goal : kind_of (word f i kind_word) ≡ k_goal k_try
      → chain_test f goals i ≡ (may_stand here (row (k_goal k_try)).kind & (chain_test f goals (word f i next_word) & (chain_test f goals (word f i try_condition)
      & (chain_test f goals (word f i try_then) & (chain_test f goals (word f i try_else) & true)))))
  unfolding chain_test goals_stand opened
  try_goal e =
      let h = try_at F refl (same_read f i refl e) in
      rw (
        h.view,
        in_goals f (goal_next (k_goal k_try) e refl refl),
        in_goals f (condition F i q e),
        in_goals f (stays F i q (k_goal k_try) e try_then refl refl),
        in_goals f (stays F i q (k_goal k_try) e try_else refl refl),
        barred here try_kind refl refl,
      ) (five_swap (may_stand here try_kind) (chain_test f goals (word f i try_condition)) (chain_test f goals (word f i try_then)) (chain_test f goals (word f i try_else)) (chain_test f goals (word f i next_word)))

  arm_record : kind_of (word f i kind_word) ≡ k_arm
      → chain_test f arms i ≡ (may_stand here (row k_arm).kind & (chain_test f arms (word f i next_word) & (chain_test f goals (word f i arm_goals) & true)))
  unfolding chain_test goals_stand opened
  arm_record e =
      rw (
        (arm_at F refl (same_read f i refl e)).view,
        in_arms f (goal_next k_arm e refl refl),
        in_goals f (stays F i q k_arm e arm_goals refl refl),
        ← free here (row k_arm).kind refl refl,
      ) (two_swap (chain_test f goals (word f i arm_goals)) (chain_test f arms (word f i next_word)))

  procedure_record_law : kind_of (word f i kind_word) ≡ k_procedure
      → chain_test f procedures i
      ≡ (may_stand here (row k_procedure).kind & (chain_test f procedures (word f i next_word) & (chain_test f goals (word f i procedure_goals) & true)))
  unfolding chain_test all opened
  procedure_record_law e =
      rw (
        (procedure_at_law F refl (same_read f i refl e)).view,
        in_procedures f (goal_next k_procedure e refl refl),
        in_goals f (stays F i q k_procedure e procedure_goals refl refl),
        ← free here (row k_procedure).kind refl refl,
      ) (two_swap (chain_test f goals (word f i procedure_goals)) (chain_test f procedures (word f i next_word)))

  record_step : (k : Kind) → kind_of (word f i kind_word) ≡ k → real (row k).chain ≡ true
      → chain_test f (row k).chain i ≡ (may_stand here (row k).kind & words_test (chain_test f) (word f i) 1 (uses (row k)))
  unfolding all_rows uses real words_test chain_test opened step_stands
  record_step k_none e r = absurd (false≢true r)
  record_step k_header e r = absurd (false≢true r)
  record_step k_type e r = rw (← free here (row k_type).kind refl refl) refl
  record_step k_functor e r = rw (← free here (row k_functor).kind refl refl) refl
  record_step k_procedure e r = procedure_record_law e
  record_step k_variable e r = rw (← free here (row k_variable).kind refl refl) refl
  record_step k_region e r = rw (← free here (row k_region).kind refl refl) refl
  record_step k_edge e r = rw (← free here (row k_edge).kind refl refl) refl
  record_step k_arm e r = arm_record e
  record_step k_argument e r = rw (← free here (row k_argument).kind refl refl) refl
  record_step (k_goal k_literal) e r = step_goal k_literal e refl (literal_at F refl (same_read f i refl e)).view (free here _ refl refl)
  record_step (k_goal k_sum) e r = step_goal k_sum e refl (sum_at_law F refl (same_read f i refl e)).view (free here _ refl refl)
  record_step (k_goal k_assign) e r = step_goal k_assign e refl (assign_at F refl (same_read f i refl e)).view (free here _ refl refl)
  record_step (k_goal k_construct) e r = step_goal k_construct e refl (construct_at F refl (same_read f i refl e)).view (free here _ refl refl)
  record_step (k_goal k_switch) e r = switch_goal e
  record_step (k_goal k_if) e r = if_goal_law e
  record_step (k_goal k_call) e r = step_goal k_call e refl (call_at F refl (same_read f i refl e)).view (barred here _ refl refl)
  record_step (k_goal k_print) e r = step_goal k_print e refl (print_at F refl (same_read f i refl e)).view (barred here _ refl refl)
  record_step (k_goal k_create) e r = step_goal k_create e refl (create_at F refl (same_read f i refl e)).view (free here _ refl refl)
  record_step (k_goal k_remove) e r = step_goal k_remove e refl (remove_at F refl (same_read f i refl e)).view (free here _ refl refl)
  record_step (k_goal k_try) e r = try_goal e
  record_step (k_goal k_test) e r = step_goal k_test e refl (test_at F refl (same_read f i refl e)).view (bound here _ refl refl)

-- ---- every record from 1 on
module _ {f : List ℕ} (F : Formed f) where
  chain_record : (i : ℕ) → 0 < i → i < record_count f
      → chain_test f (sort_of f i) i ≡ (may_stand (inside_at f i) (word f i kind_word) & words_test (chain_test f) (word f i) 1 (uses_of f i))
  unfolding sort_of uses_of
  chain_record i p q =
      let k = kind_of (word f i kind_word) in
      record_step F i q k refl (known_chain (word f) (record_count f) F.form (header_kind_law f F.header F.form) i p q)
      ∙ ap (λ n. may_stand (inside_at f i) n & words_test (chain_test f) (word f i) 1 (uses (row k)))
      (sym (kind_number (word f i kind_word) k refl (λ z. known F i q z)))

  no_types : (i : ℕ) → chain_test f types i ≡ true
  unfolding chain_test
  no_types i = refl

  first_outside : (word f 0 header_procedures ≡ 0 → ⊥) → inside_at f (word f 0 header_procedures) ≡ false
  unfolding inside_at insides opened
  first_outside z =
      goal_next F 0 (counted F).some k_header (header_kind_law f F.header F.form) refl refl z
      ∙ ap (λ v. eqb v 1) (handed_none inside_by f (replicate max_records 0))

  -- THE LOOP
  pub conditions_records : conditions_ok (program f) ≡ all (λ i. may_stand (inside_at f i) (word f i kind_word)) (up_from 1 (record_count f - 1))
  unfolding conditions_ok
  conditions_records =
      ap (all (λ p. goals_stand false p.body)) (program_procedures F) ∙ in_procedures f first_outside
      ∙ chain_all (chain_test f) F (λ i. may_stand (inside_at f i) (word f i kind_word)) (ends f) no_types chain_record
