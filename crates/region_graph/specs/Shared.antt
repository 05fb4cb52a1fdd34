-- The reach of variables, and a procedure's input and output regions: they are regions, closed under edges, and the regions of the in and
-- out variables are among them.
use Rattle.std.specs.Prelude.{ℕ, ◌≤◌, Bool, true, List, ◌≢◌, ◌⊎◌, ◌≡◌, refl}
use Rattle.std.proofs.Common.{inl, inr, ap, ◌∙◌}
use Rattle.std.proofs.Math.Logic.{⊎_elim}
use Rattle.std.proofs.Math.Decide.{ℕ_discrete}
use Rattle.sets.specs.Tests.{◌&◌, and_true, true_and}
use Rattle.sets.specs.Sets.{member, ◌∪◌, subset, union_left, union_right, union_in, subset_in, subset_mk}
use Rattle.sets.specs.SetLaws.{subset_refl, subset_trans, empty_subset, left_union, right_union}
use Rattle.sets.specs.Members.{in_list}
use Rattle.sets.specs.MemberLaws.{union_over_in, union_over_mk}
use Rattle.sets.specs.declared.Set.{Set}
use Rattle.language.specs.Lists.{nth1}
use Rattle.language.specs.Program.{Functor, Signature, region_of, region_at, parameters_of, parameter_variables, variables_in, in_mode, out_mode}
use Rattle.language.specs.Typing.{is_variable, is_region, signature_ok}
use Rattle.language.specs.Values.{ins_of, outs_of}
use Rattle.language.specs.Regions.{targets, target_for, reach_from, reach, reach_all}
use Rattle.language.specs.Lifetimes.{inputs, outputs}
use Rattle.laws.specs.MoreSets.{empty_in}
use Rattle.region_graph.specs.Laws.{Declared, shared, target}
use Rattle.region_graph.specs.Typed.{variable_small, region_small}
use Rattle.region_graph.specs.Parameters.{mode_parameter, parameter_mode, ins_in, ins_top, ins_mk, outs_in, outs_top, outs_mk}
use Rattle.region_graph.specs.Procedure.{declared}

pub none_target : (S : Signature) (f k : ℕ) → target S 0 f k ≡ 0
unfolding region_at nth1 target_for
none_target S f k = refl

module _ (T : List (List Functor)) (S : Signature) (D : Declared T S) where
  pub region_top : (r : ℕ) → is_region S r ≡ true → (1 ≤ r) × (r ≤ 64)
  region_top = region_small S D.regions

  pub variable_top : (x : ℕ) → is_variable S x ≡ true → (1 ≤ x) × (x ≤ 64)
  variable_top = variable_small S D.variables

  -- ---- reach, from one region to the next
  -- what is reached from a region that is reached is reached
  pub reach_trans : (r u : ℕ) → is_region S r ≡ true → member (reach_from S r) u ≡ true → subset (reach_from S u) (reach_from S r) ≡ true
  reach_trans r u h m = (and_true (D.least r within (true_and h (subset_refl (reach_from S r))) further u m)).1
    where
      within : ℕ → Bool
      within w = is_region S w & subset (reach_from S w) (reach_from S r)

      further : (w t : ℕ) → within w ≡ true → in_list t (targets S w) ≡ true → within t ≡ true
      further w t e i =
          let a = and_true e in
          let b = D.onward w t a.0 i in
          true_and b.0 (subset_trans (reach_from S t) (reach_from S w) (reach_from S r) b.1 a.1)

  pub reach_step : (r u t : ℕ) → is_region S r ≡ true → member (reach_from S r) u ≡ true → in_list t (targets S u) ≡ true
      → member (reach_from S r) t ≡ true
  reach_step r u t h m i =
      let b = D.onward u t (D.ranged r u h m) i in
      subset_in (reach_from S t) (reach_from S r)
      (subset_trans (reach_from S t) (reach_from S u) (reach_from S r) b.1 (reach_trans r u h m)) t (D.self t b.0)

  -- an edge leads to a region, or there is none, and what is reached from there is reached from here
  pub target_known : (r f k : ℕ) → is_region S r ≡ true → (target S r f k ≡ 0) ⊎ (is_region S (target S r f k) ≡ true)
  target_known r f k h = go (ℕ_discrete (target S r f k) 0)
    where
      go : Dec (target S r f k ≡ 0) → (target S r f k ≡ 0) ⊎ (is_region S (target S r f k) ≡ true)
      go (yes e) = inl e
      go (no n) = inr (D.onward r (target S r f k) h (D.edge r f k n)).0

  pub target_reach : (r f k : ℕ) → (r ≡ 0) ⊎ (is_region S r ≡ true) → subset (reach_from S (target S r f k)) (reach_from S r) ≡ true
  target_reach r f k own = go (ℕ_discrete (target S r f k) 0) own
    where
      go : Dec (target S r f k ≡ 0) → (r ≡ 0) ⊎ (is_region S r ≡ true) → subset (reach_from S (target S r f k)) (reach_from S r) ≡ true
      go (yes e) o = ap (λ (s : Set). subset s (reach_from S r)) (ap (reach_from S) e ∙ D.nowhere) ∙ empty_subset (reach_from S r)
      go (no n) (inl e) = absurd (n (ap (λ (u : ℕ). target S u f k) e ∙ none_target S f k))
      go (no n) (inr h) = (D.onward r (target S r f k) h (D.edge r f k n)).1

  -- ---- the reach of a variable
  -- a variable that reaches a region has one
  pub reach_from_law : (x u : ℕ) → member (reach S x) u ≡ true → is_region S (region_of S x) ≡ true
  unfolding reach
  reach_from_law x u m =
      ⊎_elim (λ z. absurd (empty_in _ (ap (reach_from S) z ∙ D.nowhere) u m)) (λ h. h) (D.own x)

  pub reach_own : (x : ℕ) → region_of S x ≢ 0 → member (reach S x) (region_of S x) ≡ true
  unfolding reach
  reach_own x n = ⊎_elim (λ z. absurd (n z)) (λ h. D.self (region_of S x) h) (D.own x)

  pub reach_ranges : (x u : ℕ) → member (reach S x) u ≡ true → is_region S u ≡ true
  unfolding reach
  reach_ranges x u m = D.ranged (region_of S x) u (reach_from_law x u m) m

  pub reach_closes : (x u t : ℕ) → member (reach S x) u ≡ true → in_list t (targets S u) ≡ true → member (reach S x) t ≡ true
  unfolding reach
  reach_closes x u t m i = reach_step (region_of S x) u t (reach_from_law x u m) m i

  -- ---- the reach of several
  pub reach_all_ranged : (xs : Set) (u : ℕ) → member (reach_all S xs) u ≡ true → is_region S u ≡ true
  unfolding reach_all
  reach_all_ranged xs u m = let o = union_over_in (reach S) xs u m in reach_ranges o.0 u o.2

  pub reach_all_closed : (xs : Set) (u t : ℕ) → member (reach_all S xs) u ≡ true → in_list t (targets S u) ≡ true
      → member (reach_all S xs) t ≡ true
  unfolding reach_all
  reach_all_closed xs u t m i =
      let o = union_over_in (reach S) xs u m in
      union_over_mk (reach S) xs o.0 t o.1 o.3 (reach_closes o.0 u t o.2 i)

  -- ---- input and output regions
  pub inputs_ranged : (u : ℕ) → member (inputs S) u ≡ true → is_region S u ≡ true
  unfolding inputs
  inputs_ranged u m = reach_all_ranged (ins_of S) u m

  pub outputs_ranged : (u : ℕ) → member (outputs S) u ≡ true → is_region S u ≡ true
  unfolding outputs
  outputs_ranged u m = reach_all_ranged (outs_of S) u m

  pub inputs_closed : (u t : ℕ) → member (inputs S) u ≡ true → in_list t (targets S u) ≡ true → member (inputs S) t ≡ true
  unfolding inputs
  inputs_closed u t m i = reach_all_closed (ins_of S) u t m i

  pub outputs_closed : (u t : ℕ) → member (outputs S) u ≡ true → in_list t (targets S u) ≡ true → member (outputs S) t ≡ true
  unfolding outputs
  outputs_closed u t m i = reach_all_closed (outs_of S) u t m i

  pub shared_ranged : (u : ℕ) → shared S u → is_region S u ≡ true
  shared_ranged u m = ⊎_elim (inputs_ranged u) (outputs_ranged u) (union_in (inputs S) (outputs S) u m)

  pub shared_closed : (u t : ℕ) → shared S u → in_list t (targets S u) ≡ true → shared S t
  shared_closed u t m i =
      ⊎_elim (λ p. union_left (inputs S) (outputs S) t (inputs_closed u t p i))
      (λ q. union_right (inputs S) (outputs S) t (outputs_closed u t q i)) (union_in (inputs S) (outputs S) u m)

  -- ---- from variables: those of a mode
  pub input_reach : (x : ℕ) → in_list x (variables_in in_mode S) ≡ true → subset (reach S x) (inputs S) ≡ true
  unfolding inputs reach_all
  input_reach x e =
      let m = ins_mk S D.variables x e in
      subset_mk (reach S x) (inputs S) (λ u i. union_over_mk (reach S) (ins_of S) x u m (ins_top S x m) i)

  pub output_reach : (x : ℕ) → in_list x (variables_in out_mode S) ≡ true → subset (reach S x) (outputs S) ≡ true
  unfolding outputs reach_all
  output_reach x e =
      let m = outs_mk S D.variables x e in
      subset_mk (reach S x) (outputs S) (λ u i. union_over_mk (reach S) (outs_of S) x u m (outs_top S x m) i)

  pub output_own : (x : ℕ) → in_list x (variables_in out_mode S) ≡ true → region_of S x ≢ 0 → member (outputs S) (region_of S x) ≡ true
  output_own x e n = subset_in (reach S x) (outputs S) (output_reach x e) (region_of S x) (reach_own x n)

  -- an input or output region is reached from an in or out variable
  pub shared_from : (u : ℕ) → shared S u → (x : ℕ) × (in_list x (parameter_variables (parameters_of S)) ≡ true) × (member (reach S x) u ≡ true)
  unfolding inputs outputs reach_all
  shared_from u m =
      ⊎_elim (λ p. let o = union_over_in (reach S) (ins_of S) u p in (o.0, mode_parameter S in_mode o.0 (ins_in S o.0 o.1), o.2))
      (λ q. let o = union_over_in (reach S) (outs_of S) u q in (o.0, mode_parameter S out_mode o.0 (outs_in S o.0 o.1), o.2))
      (union_in (inputs S) (outputs S) u m)

-- ---- any in or out variable, by number 3
module _ (T : List (List Functor)) (S : Signature) (ok : signature_ok T S ≡ true) where
  pub parameter_reach : (x : ℕ) → in_list x (parameter_variables (parameters_of S)) ≡ true → subset (reach S x) (inputs S ∪ outputs S) ≡ true
  parameter_reach x e =
      ⊎_elim (λ p. subset_trans (reach S x) (inputs S) _ (input_reach T S (declared T S ok) x p) (left_union (inputs S) (outputs S)))
      (λ q. subset_trans (reach S x) (outputs S) _ (output_reach T S (declared T S ok) x q) (right_union (inputs S) (outputs S)))
      (parameter_mode T S ok x e)

  pub parameter_own : (x : ℕ) → in_list x (parameter_variables (parameters_of S)) ≡ true → region_of S x ≢ 0 → shared S (region_of S x)
  parameter_own x e n = subset_in (reach S x) _ (parameter_reach x e) (region_of S x) (reach_own T S (declared T S ok) x n)
