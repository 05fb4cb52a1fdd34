-- A record of a chain is one of that chain's constructors, so the `else` of a `let .. else`, or the `_` of a `match`, is never met.
-- There: `absurd (c.in_default.not-Functor _ _ _ _ _ _ (c.record_at.ensures ∙ functor_is S z))`, with S the invariant's `Stands` and
-- z : i ≡ 0 → ⊥, the loop's test; where an arm's keys are known instead, `never`, the keys written out.
-- Where a loop reads w1 itself and another function the record: `chain_next`, and for goals `goals_step`.
use Rattle.std.specs.Prelude.{ℕ, zero, suc, ◌<◌, ◌+◌, ◌≡◌, refl, List, [], ◌∷◌, Bool, true, not, ◌&&◌, false, eqb}
use Rattle.std.proofs.Common.{arith, ap, sym, subst, ◌∙◌, inl, inr, eqb→eq}
use Rattle.std.proofs.Math.Dec.{T}
use mir.Val.{has_key}
use Rattle.std.proofs.Math.Facts.{and_yes, or_yes}
use denote.Enum.Declared.{tag_of}
use package.types.Run.{OneOf, miss}
use Rattle.language.specs.File.{GoalKind, k_literal, k_sum, k_assign, k_construct, k_switch, k_if, k_call, k_print, k_create, k_remove, k_try, k_test, Kind, k_goal, Chain, nowhere, types, functors, procedures, variables, regions, edges, goals, arms, arguments, row, kind_of, word, record_count}
use Rattle.language.specs.Program.{Goals, ◌then◌, Goal}
use Rattle.language.specs.Reading.{in_front}
use Rattle.language.specs.Format.{argument_variable, arm_goals, edge_functor, edge_position, edge_target, functor_arity, functor_types, kind_word, next_word, procedure_goals, procedure_regions, procedure_variables, region_class, region_edges, region_type, term_arguments, term_functor, type_functors, variable_mode, variable_region, variable_type}
use Rattle.layout.specs.Chains.{InChain, none_in, header_in, type_in, functor_in_law, procedure_in_law, variable_in_law, region_in_law, edge_in, arm_in, argument_in, goal_in, real, next_stays, starts_kind, types_kind, functors_kind, procedures_kind, variables_kind, regions_kind, edges_kind, arms_kind, arguments_kind, goals_kind}
use Rattle.layout.specs.Known.{known_chain}
use Rattle.layout.specs.Files.{header_kind_law}
use Rattle.layout.specs.Steps
use Rattle.records.specs.contracts.Record.{the_type}
use Rattle.records.specs.Records.{record_as, record_at}
use Rattle.records.specs.declared.Record.{Record}
use Rattle.records.specs.declared.Record.TheVariants.{«Type» as TypeOf, Functor, Procedure, Variable, Region, Edge, Arm, Argument}
use Rattle.chains.specs.Formed.{Formed, Stands, stands_starts, Onward, leads_onward, goals_at, first_goal, goal_at}
use Rattle.chains.specs.Kinds.{same_read}

module _ {f : List ℕ} {c : Chain} {i : ℕ} (s : Stands f c i) (z : i ≡ 0 → ⊥) where
  kind_in_law : InChain c (kind_of (word f i kind_word))
  kind_in_law = (starts_kind (word f) (record_count f) i c (omega arith) (stands_starts s)).1

-- ---- the constructor of each chain
module _ {f : List ℕ} {i : ℕ} where
  pub type_is : Stands f types i → (i ≡ 0 → ⊥) → record_at f i ≡ TypeOf (word f i next_word) (word f i type_functors)
  type_is s z = same_read f i refl (types_kind (kind_in_law s z))

  pub functor_is : Stands f functors i → (i ≡ 0 → ⊥)
      → record_at f i ≡ Functor (word f i next_word) (word f i functor_arity) (word f i functor_types) (word f i (functor_types + 1))
      (word f i (functor_types + 2)) (word f i (functor_types + 3))
  functor_is s z = same_read f i refl (functors_kind (kind_in_law s z))

  pub procedure_is : Stands f procedures i → (i ≡ 0 → ⊥)
      → record_at f i ≡ Procedure (word f i next_word) (word f i procedure_variables) (word f i procedure_regions) (word f i procedure_goals)
  procedure_is s z = same_read f i refl (procedures_kind (kind_in_law s z))

  pub variable_is : Stands f variables i → (i ≡ 0 → ⊥)
      → record_at f i ≡ Variable (word f i next_word) (word f i variable_mode) (word f i variable_type) (word f i variable_region)
  variable_is s z = same_read f i refl (variables_kind (kind_in_law s z))

  pub region_is : Stands f regions i → (i ≡ 0 → ⊥)
      → record_at f i ≡ Region (word f i next_word) (word f i region_type) (word f i region_class) (word f i region_edges)
  region_is s z = same_read f i refl (regions_kind (kind_in_law s z))

  pub edge_is : Stands f edges i → (i ≡ 0 → ⊥) → record_at f i ≡ Edge (word f i next_word) (word f i edge_functor) (word f i edge_position) (word f i edge_target)
  edge_is s z = same_read f i refl (edges_kind (kind_in_law s z))

  pub arm_is : Stands f arms i → (i ≡ 0 → ⊥)
      → record_at f i ≡ Arm (word f i next_word) (word f i arm_goals) (word f i term_functor) (word f i term_arguments)
      (word f i (term_arguments + 1)) (word f i (term_arguments + 2)) (word f i (term_arguments + 3))
  arm_is s z = same_read f i refl (arms_kind (kind_in_law s z))

  pub argument_is : Stands f arguments i → (i ≡ 0 → ⊥) → record_at f i ≡ Argument (word f i next_word) (word f i argument_variable)
  argument_is s z = same_read f i refl (arguments_kind (kind_in_law s z))

-- ---- on along the chain, whatever its sort: the code read w1
pub chain_next : {f : List ℕ} {c : Chain} {i w : ℕ} → Formed f → Stands f c i → (i ≡ 0 → ⊥) → w ≡ word f i next_word → Onward f c i w
chain_next {f} {c} {i} F s z e =
    let r = known_chain (word f) (record_count f) F.form (header_kind_law f F.header F.form) i (omega arith) s.below in
    let k : (row (kind_of (word f i kind_word))).chain ≡ c = elim s.sort [ inl o ↦ absurd (z o) | inr k ↦ k ] in
    rw e (leads_onward F (omega arith) s.below (next_stays (word f) (record_count f) F.form i s.below c (ap real (sym k) ∙ r) k))

first_front : {gs hs : Goals} {g : Goal} → gs ≡ g then hs → gs ≡ first_goal gs then hs
unfolding first_goal
first_front e = rw e

goal_front : {f : List ℕ} {i : ℕ} → Formed f → (g : GoalKind) → kind_of (word f i kind_word) ≡ k_goal g → 0 < i → i < record_count f
    → goals_at f i ≡ goal_at f i then goals_at f (word f i next_word)
unfolding goals_at goal_at Steps.goals_at in_front
goal_front {f} {i} F g k p q = first_front (ap (λ s. s.as_goals) (Steps.sense_step (word f) (record_count f) F.form i p q (k_goal g) k))

pub goals_step : {f : List ℕ} {i w : ℕ} → Formed f → Stands f goals i → (i ≡ 0 → ⊥) → w ≡ word f i next_word → goals_at f i ≡ goal_at f i then goals_at f w
goals_step {f} {i} F s z e = let k = goals_kind (kind_in_law s z) in rw e (goal_front F k.0 k.1 (omega arith) s.below)

-- ---- no constructor of another chain
-- the numbers by which the code tells the constructors of a chain
abbrev pub tags_of : Chain → List ℕ
tags_of nowhere = 0 ∷ 21 ∷ []
tags_of types = 1 ∷ []
tags_of functors = 2 ∷ []
tags_of procedures = 3 ∷ []
tags_of variables = 4 ∷ []
tags_of regions = 5 ∷ []
tags_of edges = 6 ∷ []
tags_of arms = 12 ∷ []
tags_of arguments = 15 ∷ []
tags_of goals = 7 ∷ 8 ∷ 9 ∷ 10 ∷ 11 ∷ 13 ∷ 14 ∷ 16 ∷ 17 ∷ 18 ∷ 19 ∷ 20 ∷ []

goal_tags : (g : GoalKind) (w : ℕ → ℕ) → T (has_key (tags_of goals) (tag_of the_type (record_as (k_goal g) w)))
goal_tags k_literal w = tt
goal_tags k_sum w = tt
goal_tags k_assign w = tt
goal_tags k_construct w = tt
goal_tags k_switch w = tt
goal_tags k_if w = tt
goal_tags k_call w = tt
goal_tags k_print w = tt
goal_tags k_create w = tt
goal_tags k_remove w = tt
goal_tags k_try w = tt
goal_tags k_test w = tt

chain_tags : {c : Chain} {k : Kind} → InChain c k → (w : ℕ → ℕ) → T (has_key (tags_of c) (tag_of the_type (record_as k w)))
chain_tags none_in w = tt
chain_tags header_in w = tt
chain_tags type_in w = tt
chain_tags functor_in_law w = tt
chain_tags procedure_in_law w = tt
chain_tags variable_in_law w = tt
chain_tags region_in_law w = tt
chain_tags edge_in w = tt
chain_tags arm_in w = tt
chain_tags argument_in w = tt
chain_tags (goal_in {g = g}) w = goal_tags g w

-- the m numbers from b on, without k
abbrev unless : Bool → ℕ → List ℕ → List ℕ
unless true b ks = ks
unless false b ks = b ∷ ks

abbrev pub tags_but : ℕ → ℕ → ℕ → List ℕ
tags_but zero b k = []
tags_but (suc m) b k = unless (eqb b k) b (tags_but m (suc b) k)

-- none of the keys is one of the numbers ts
abbrev pub apart : List ℕ → List ℕ → Bool
apart ks [] = true
apart ks (t ∷ ts) = not (has_key ks t) && apart ks ts

apart_at : (ks ts : List ℕ) (x : ℕ) → T (apart ks ts) → T (has_key ts x) → T (not (has_key ks x))
apart_at ks [] x a h = absurd h
apart_at ks (t ∷ ts) x a h =
    let d = and_yes (not (has_key ks t)) (apart ks ts) a in
    elim (or_yes (eqb t x) (has_key ts x) h) [ inl e ↦ rw (eqb→eq t x e) at d.0 | inr m ↦ apart_at ks ts x d.1 m ]

module _ {f : List ℕ} {i : ℕ} {r : Record} where
  -- the keys of an arm, written out, that are none of the chain's numbers; `tt` shows it
  pub never : {c : Chain} → Stands f c i → (i ≡ 0 → ⊥) → r ≡ record_at f i → (ks : List ℕ) → T (apart ks (tags_of c)) → OneOf ks (tag_of the_type r) → ⊥
  unfolding record_at
  never {c} s z e ks a h =
      miss ks (tag_of the_type r) (apart_at ks (tags_of c) (tag_of the_type r) a (subst (λ x. T (has_key (tags_of c) (tag_of the_type x))) (sym e) (chain_tags (kind_in_law s z) (word f i)))) h

  -- the `else` of a `let .. else` on the chain's one constructor
  pub type_else : Stands f types i → (i ≡ 0 → ⊥) → r ≡ record_at f i → OneOf (tags_but 22 0 1) (tag_of the_type r) → ⊥
  type_else s z e h = never s z e (tags_but 22 0 1) tt h

  pub functor_else : Stands f functors i → (i ≡ 0 → ⊥) → r ≡ record_at f i → OneOf (tags_but 22 0 2) (tag_of the_type r) → ⊥
  functor_else s z e h = never s z e (tags_but 22 0 2) tt h

  pub edge_else : Stands f edges i → (i ≡ 0 → ⊥) → r ≡ record_at f i → OneOf (tags_but 22 0 6) (tag_of the_type r) → ⊥
  edge_else s z e h = never s z e (tags_but 22 0 6) tt h
