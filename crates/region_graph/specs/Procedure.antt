-- The laws of a procedure's regions, from number 3.
use Rattle.std.specs.Prelude.{ℕ, ◌≤◌, Bool, false, List, ◌≢◌, ◌≡◌, refl, eqb}
use Rattle.std.proofs.Math.Bool.{true}
use Rattle.std.proofs.Common.{inl, inr, ap, ◌∙◌, arith, eqb-true, leb-true}
use Rattle.std.proofs.Math.Logic.{⊎_elim}
use Rattle.sets.specs.Tests.{truth, clash, and_true}
use Rattle.sets.specs.Members.{in_list}
use Rattle.language.specs.Lists.{choose}
use Rattle.language.specs.Program.{Functor, Signature, Program, Variable, Region, region_of, region_at, type_of, variable_at, signature_of, functors_of}
use Rattle.language.specs.Typing.{Place, is_variable, is_region, is_region_of, regioned, places_from, edges_ok, variable_ok, region_ok, signature_ok, typing_ok}
use Rattle.language.specs.Regions.{targets}
use Rattle.region_graph.specs.Laws.{Declared, Home, target}
use Rattle.region_graph.specs.Typed.{number_plain, variable_past, region_past, variables_few, regions_few, variable_typed, region_typed, signature_typed}
use Rattle.region_graph.specs.Reach.{reach_least, reach_nowhere, reach_self, reach_ranged, reach_onward}
use Rattle.region_graph.specs.EdgePlaces.{region_of_law, edges_lead, edge_listed}

-- the places of region r's type
abbrev pub places_of : List (List Functor) → Signature → ℕ → List Place
places_of T S r = places_from T 0 (functors_of T (region_at S r).type)

-- ---- what number 3 says of a variable and of a region
pub variable_home : (T : List (List Functor)) (S : Signature) (v : Variable) → variable_ok T S v ≡ true
    → Home T S v.type v.region
unfolding variable_ok choose
variable_home T S v h = go (regioned T v.type) refl (and_true (and_true h).1).1
  where
    go : (b : Bool) → regioned T v.type ≡ b → choose b (is_region_of S v.type v.region) (eqb v.region 0) ≡ true
        → Home T S v.type v.region
    go true e i = let r = region_of_law S v.type v.region i in inr (e, r.0, r.1)
    go false e i = inl (e, eqb-true v.region 0 i)

-- isType, regioned, class, edges
region_parts : (T : List (List Functor)) (S : Signature) (r : Region) → region_ok T S r ≡ true
    → (regioned T r.type ≡ true) × (r.class ≤ 2) × (edges_ok T S (places_from T 0 (functors_of T r.type)) r.edges ≡ true)
unfolding region_ok
region_parts T S r h =
    let a = and_true (and_true h).1 in
    let b = and_true a.1 in
    (a.0, leb-true r.class 2 b.0, b.1)

module _ (T : List (List Functor)) (S : Signature) (ok : signature_ok T S ≡ true) where
  -- a variable of a type that has regions has one of them, any other has none
  pub variable_region_law : (x : ℕ) → Home T S (type_of S x) (region_of S x)
  unfolding type_of region_of
  variable_region_law x = ⊎_elim there none (truth (is_variable S x))
    where
      there : is_variable S x ≡ true → Home T S (type_of S x) (region_of S x)
      there h = variable_home T S (variable_at S x) (variable_typed T S ok x h)

      none : is_variable S x ≡ false → Home T S (type_of S x) (region_of S x)
      none h =
          let e = variable_past S x h in
          inl (ap (λ (v : Variable). regioned T v.type) e ∙ number_plain T, ap (λ (v : Variable). v.region) e)

  pub cell_region : (x : ℕ) → regioned T (type_of S x) ≡ true
      → (is_region S (region_of S x) ≡ true) × ((region_at S (region_of S x)).type ≡ type_of S x)
  cell_region x h = ⊎_elim (λ a. absurd (clash h a.0)) (λ a. (a.1, a.2)) (variable_region_law x)

  pub region_type_law : (r : ℕ) → is_region S r ≡ true → regioned T (region_at S r).type ≡ true
  region_type_law r h = (region_parts T S (region_at S r) (region_typed T S ok r h)).0

  pub region_class_law : (r : ℕ) → (region_at S r).class ≤ 2
  region_class_law r =
      ⊎_elim (λ h. (region_parts T S (region_at S r) (region_typed T S ok r h)).1)
      (λ h. let e = ap (λ (q : Region). q.class) (region_past S r h) in omega arith) (truth (is_region S r))

  -- a region's edges stand for the places of its type
  pub region_edges_law : (r : ℕ) → is_region S r ≡ true → edges_ok T S (places_of T S r) (region_at S r).edges ≡ true
  region_edges_law r h = (region_parts T S (region_at S r) (region_typed T S ok r h)).2

  targets_lead : (r t : ℕ) → is_region S r ≡ true → in_list t (targets S r) ≡ true → is_region S t ≡ true
  unfolding targets
  targets_lead r t h i = edges_lead T S _ (region_at S r).edges (region_edges_law r h) t i

  edge_target_law : (r f k : ℕ) → target S r f k ≢ 0 → in_list (target S r f k) (targets S r) ≡ true
  unfolding targets
  edge_target_law r f k n = edge_listed (region_at S r).edges f k n

  -- no region is one of type 0
  pub region_numbers : (r : ℕ) → is_region S r ≡ true → (region_at S r).type ≡ 0 → ⊥
  region_numbers r h z = clash (region_type_law r h) (ap (regioned T) z ∙ number_plain T)

  pub declared : Declared T S
  declared = record {
    variables = variables_few T S ok;
    regions = regions_few T S ok;
    class = region_class_law;
    own = λ x. ⊎_elim (λ p. inl p.1) (λ q. inr q.1) (variable_region_law x);
    nowhere = reach_nowhere S;
    self = reach_self S (regions_few T S ok) targets_lead;
    ranged = reach_ranged S (regions_few T S ok) targets_lead;
    onward = λ r t h i. (targets_lead r t h i, reach_onward S (regions_few T S ok) targets_lead r t h i);
    least = λ r within h onward. reach_least S within onward r h;
    edge = edge_target_law;
  }

-- each procedure of a program that passes number 3; one that is not there declares nothing
pub declared_all : (P : Program) → typing_ok P ≡ true → (p : ℕ) → Declared P.types (signature_of P p)
declared_all P ok p = declared P.types (signature_of P p) (signature_typed P ok p)
