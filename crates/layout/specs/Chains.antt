-- Words that pass number 2: which kinds stand in which chain, and what each word that refers leads to, kind by kind.
use Rattle.std.specs.Prelude.{ℕ, ◌<◌, ◌≡◌, refl, Bool, true, false}
use Rattle.std.proofs.Common.{arith, ap, ◌∙◌, inl, inr}
use Rattle.std.proofs.lemmas.Bool.{false≢true}
use Rattle.language.specs.File.{GoalKind, k_literal, k_sum, k_assign, k_construct, k_switch, k_if, k_call, k_print, k_create, k_remove, k_try, k_test, Kind, k_none, k_header, k_type, k_functor, k_procedure, k_variable, k_region, k_edge, k_arm, k_argument, k_goal, Chain, nowhere, types, functors, procedures, variables, regions, edges, goals, arms, arguments, row, kind_of, form_ok}
use Rattle.layout.specs.Table.{all_rows}
use Rattle.layout.specs.Passing.{Starts, Leads, Used, next_leads, record_used}

-- the kinds of each chain
pub data InChain : Chain → Kind → Type 0 where
  none_in : InChain nowhere k_none
  header_in : InChain nowhere k_header
  type_in : InChain types k_type
  functor_in_law : InChain functors k_functor
  procedure_in_law : InChain procedures k_procedure
  variable_in_law : InChain variables k_variable
  region_in_law : InChain regions k_region
  edge_in : InChain edges k_edge
  arm_in : InChain arms k_arm
  argument_in : InChain arguments k_argument
  goal_in : {g : GoalKind} → InChain goals (k_goal g)

row_in : (k : Kind) → InChain (row k).chain k
unfolding all_rows
row_in k_none = none_in
row_in k_header = header_in
row_in k_type = type_in
row_in k_functor = functor_in_law
row_in k_procedure = procedure_in_law
row_in k_variable = variable_in_law
row_in k_region = region_in_law
row_in k_edge = edge_in
row_in k_arm = arm_in
row_in k_argument = argument_in
row_in (k_goal k_literal) = goal_in
row_in (k_goal k_sum) = goal_in
row_in (k_goal k_assign) = goal_in
row_in (k_goal k_construct) = goal_in
row_in (k_goal k_switch) = goal_in
row_in (k_goal k_if) = goal_in
row_in (k_goal k_call) = goal_in
row_in (k_goal k_print) = goal_in
row_in (k_goal k_create) = goal_in
row_in (k_goal k_remove) = goal_in
row_in (k_goal k_try) = goal_in
row_in (k_goal k_test) = goal_in

-- a kind that stands in the chain c is one of its kinds: match the result
pub chain_kind : (c : Chain) (k : Kind) → (row k).chain ≡ c → InChain c k
chain_kind c k e = rw e at (row_in k)

pub types_kind : {k : Kind} → InChain types k → k ≡ k_type
types_kind type_in = refl

pub functors_kind : {k : Kind} → InChain functors k → k ≡ k_functor
functors_kind functor_in_law = refl

pub procedures_kind : {k : Kind} → InChain procedures k → k ≡ k_procedure
procedures_kind procedure_in_law = refl

pub variables_kind : {k : Kind} → InChain variables k → k ≡ k_variable
variables_kind variable_in_law = refl

pub regions_kind : {k : Kind} → InChain regions k → k ≡ k_region
regions_kind region_in_law = refl

pub edges_kind : {k : Kind} → InChain edges k → k ≡ k_edge
edges_kind edge_in = refl

pub arms_kind : {k : Kind} → InChain arms k → k ≡ k_arm
arms_kind arm_in = refl

pub arguments_kind : {k : Kind} → InChain arguments k → k ≡ k_argument
arguments_kind argument_in = refl

pub goals_kind : {k : Kind} → InChain goals k → (g : GoalKind) × (k ≡ k_goal g)
goals_kind (goal_in {g = g}) = (g, refl)

-- a chain of records: any but `nowhere`
unfoldable pub real : Chain → Bool
real nowhere = false
real types = true
real functors = true
real procedures = true
real variables = true
real regions = true
real edges = true
real goals = true
real arms = true
real arguments = true

-- "w1 the next record of its chain"
same_chain : (k : Kind) → real (row k).chain ≡ true → (row k).next ≡ (row k).chain
unfolding all_rows real
same_chain k_none e = refl
same_chain k_header e = absurd (false≢true e)
same_chain k_type e = refl
same_chain k_functor e = refl
same_chain k_procedure e = refl
same_chain k_variable e = refl
same_chain k_region e = refl
same_chain k_edge e = refl
same_chain k_arm e = refl
same_chain k_argument e = refl
same_chain (k_goal k_literal) e = refl
same_chain (k_goal k_sum) e = refl
same_chain (k_goal k_assign) e = refl
same_chain (k_goal k_construct) e = refl
same_chain (k_goal k_switch) e = refl
same_chain (k_goal k_if) e = refl
same_chain (k_goal k_call) e = refl
same_chain (k_goal k_print) e = refl
same_chain (k_goal k_create) e = refl
same_chain (k_goal k_remove) e = refl
same_chain (k_goal k_try) e = refl
same_chain (k_goal k_test) e = refl

-- a chain of the sort c at record i: its kind there
pub starts_kind : (W : ℕ → ℕ → ℕ) (n i : ℕ) (c : Chain) → 0 < i → Starts W n c i → (i < n) × InChain c (kind_of (W i 0))
starts_kind W n i c p (inl z) = absurd (omega arith)
starts_kind W n i c p (inr z) = (z.0, chain_kind c _ z.1)

module _ (W : ℕ → ℕ → ℕ) (n : ℕ) (P : form_ok W n ≡ true) (i : ℕ) (q : i < n) where
  -- a chain goes on in its own sort
  pub next_stays : (c : Chain) → real c ≡ true → (row (kind_of (W i 0))).chain ≡ c → Leads W n i c (W i 1)
  next_stays c r e = rw (same_chain (kind_of (W i 0)) (ap real e ∙ r), e) at (next_leads W n P i q)

  used : (k : Kind) → kind_of (W i 0) ≡ k → Used W n i 2 (row k).words
  used k e = rw e at (record_used W n P i q)

  -- the words that refer, kind by kind
  pub type_functors_law : kind_of (W i 0) ≡ k_type → Leads W n i functors (W i 2)
  unfolding all_rows
  type_functors_law e = (used k_type e).0

  pub procedure_variables_law : kind_of (W i 0) ≡ k_procedure → Leads W n i variables (W i 2)
  unfolding all_rows
  procedure_variables_law e = (used k_procedure e).0

  pub procedure_regions_law : kind_of (W i 0) ≡ k_procedure → Leads W n i regions (W i 3)
  unfolding all_rows
  procedure_regions_law e = (used k_procedure e).1.0

  pub procedure_goals_law : kind_of (W i 0) ≡ k_procedure → Leads W n i goals (W i 4)
  unfolding all_rows
  procedure_goals_law e = (used k_procedure e).1.1.0

  pub region_edges_law : kind_of (W i 0) ≡ k_region → Leads W n i edges (W i 4)
  unfolding all_rows
  region_edges_law e = (used k_region e).0

  pub switch_arms_law : kind_of (W i 0) ≡ k_goal k_switch → Leads W n i arms (W i 3)
  unfolding all_rows
  switch_arms_law e = (used (k_goal k_switch) e).0

  pub arm_goals_law : kind_of (W i 0) ≡ k_arm → Leads W n i goals (W i 2)
  unfolding all_rows
  arm_goals_law e = (used k_arm e).0

  pub if_then_law : kind_of (W i 0) ≡ k_goal k_if → Leads W n i goals (W i 4)
  unfolding all_rows
  if_then_law e = (used (k_goal k_if) e).0

  pub if_else_law : kind_of (W i 0) ≡ k_goal k_if → Leads W n i goals (W i 5)
  unfolding all_rows
  if_else_law e = (used (k_goal k_if) e).1.0

  pub try_condition_law : kind_of (W i 0) ≡ k_goal k_try → Leads W n i goals (W i 2)
  unfolding all_rows
  try_condition_law e = (used (k_goal k_try) e).0

  pub try_then_law : kind_of (W i 0) ≡ k_goal k_try → Leads W n i goals (W i 3)
  unfolding all_rows
  try_then_law e = (used (k_goal k_try) e).1.0

  pub try_else_law : kind_of (W i 0) ≡ k_goal k_try → Leads W n i goals (W i 4)
  unfolding all_rows
  try_else_law e = (used (k_goal k_try) e).1.1.0

  pub call_arguments_law : kind_of (W i 0) ≡ k_goal k_call → Leads W n i arguments (W i 3)
  unfolding all_rows
  call_arguments_law e = (used (k_goal k_call) e).0

-- and the rest of it
pub starts_next : (W : ℕ → ℕ → ℕ) (n : ℕ) → form_ok W n ≡ true → (i : ℕ) (c : Chain) → real c ≡ true → 0 < i → Starts W n c i
    → Leads W n i c (W i 1)
starts_next W n P i c r p (inl z) = absurd (omega arith)
starts_next W n P i c r p (inr z) = next_stays W n P i z.0 c r z.1
