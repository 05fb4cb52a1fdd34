-- Records of declarations that the code has read: what the fields are, what stands there, and where each reference leads.
-- In a turn of a loop: `variable_at_law F c.record_at.ensures c.in-Variable.is` has all of it:
-- `.view` for the invariant, `.to_next .stands` for the next turn, `.to_next .falls` for the measure.
use Rattle.std.specs.Prelude.{ℕ, ◌<◌, ◌+◌, ◌≡◌, refl, List, ◌∷◌}
use Rattle.std.proofs.Common.{ap}
use Rattle.language.specs.File.{k_type, k_functor, k_procedure, k_variable, k_region, k_edge, types, functors, procedures, variables, regions, edges, goals, word, record_count}
use Rattle.language.specs.Program.{four}
use Rattle.language.specs.Format.{edge_functor, edge_position, edge_target, functor_arity, functor_types, next_word, procedure_goals, procedure_regions, procedure_variables, region_class, region_edges, region_type, type_functors, variable_mode, variable_region, variable_type}
use Rattle.layout.specs.Table.{all_rows}
use Rattle.layout.specs.Chains.{real, type_functors_law, procedure_variables_law, procedure_regions_law, procedure_goals_law, region_edges_law}
use Rattle.layout.specs.Steps
use Rattle.layout.specs.Steps.{procedure_of}
use Rattle.records.specs.Records.{record_at}
use Rattle.records.specs.declared.Record.{Record}
use Rattle.records.specs.declared.Record.TheVariants.{«Type» as TypeOf, Functor, Procedure, Variable, Region, Edge}
use Rattle.chains.specs.Formed.{Formed, Onward, types_at, functors_at, procedures_at, variables_at, regions_at, edges_at, goals_at}
use Rattle.chains.specs.Kinds.{kind_in, known, onward}

pub record TypeAt (f : List ℕ) (i next fs : ℕ) : Type 0 where
  pub some : 0 < i
  pub below : i < record_count f
  pub w1 : next ≡ word f i next_word
  pub w2 : fs ≡ word f i type_functors
  pub view : types_at f i ≡ functors_at f fs ∷ types_at f next
  pub to_next : Onward f types i next
  pub to_functors : Onward f functors i fs

pub type_at : {f : List ℕ} {i next fs : ℕ} {r : Record} → Formed f → r ≡ record_at f i → r ≡ TypeOf next fs
    → TypeAt f i next fs
unfolding types_at functors_at all_rows real
type_at {f} {i} {next} {fs} F e g =
    let h = known {k = k_type} F refl e (ap kind_in g) in
    let e1 : next ≡ word f i next_word = cc h.same in
    let e2 : fs ≡ word f i type_functors = cc h.same in
    record {
      some = h.some;
      below = h.below;
      w1 = e1;
      w2 = e2;
      view = rw (e1, e2) (Steps.type_step (word f) (record_count f) F.form i h.some h.below h.kind);
      to_next = rw e1 h.next;
      to_functors = onward F h e2 (type_functors_law (word f) (record_count f) F.form i h.below h.kind);
    }

pub record FunctorAt (f : List ℕ) (i next arity t1 t2 t3 t4 : ℕ) : Type 0 where
  pub some : 0 < i
  pub below : i < record_count f
  pub w1 : next ≡ word f i next_word
  pub w2 : arity ≡ word f i functor_arity
  pub w3 : t1 ≡ word f i functor_types
  pub w4 : t2 ≡ word f i (functor_types + 1)
  pub w5 : t3 ≡ word f i (functor_types + 2)
  pub w6 : t4 ≡ word f i (functor_types + 3)
  pub view : functors_at f i ≡ record { arity = arity; argument_types = four t1 t2 t3 t4 } ∷ functors_at f next
  pub to_next : Onward f functors i next

pub functor_at_law : {f : List ℕ} {i next arity t1 t2 t3 t4 : ℕ} {r : Record} → Formed f → r ≡ record_at f i → r ≡ Functor next arity t1 t2 t3 t4
    → FunctorAt f i next arity t1 t2 t3 t4
unfolding functors_at all_rows real
functor_at_law {f} {i} {next} {arity} {t1} {t2} {t3} {t4} F e g =
    let h = known {k = k_functor} F refl e (ap kind_in g) in
    let e1 : next ≡ word f i next_word = cc h.same in
    let e2 : arity ≡ word f i functor_arity = cc h.same in
    let e3 : t1 ≡ word f i functor_types = cc h.same in
    let e4 : t2 ≡ word f i (functor_types + 1) = cc h.same in
    let e5 : t3 ≡ word f i (functor_types + 2) = cc h.same in
    let e6 : t4 ≡ word f i (functor_types + 3) = cc h.same in
    record {
      some = h.some;
      below = h.below;
      w1 = e1;
      w2 = e2;
      w3 = e3;
      w4 = e4;
      w5 = e5;
      w6 = e6;
      view = rw (e1, e2, e3, e4, e5, e6) (Steps.functor_step (word f) (record_count f) F.form i h.some h.below h.kind);
      to_next = rw e1 h.next;
    }

pub record ProcedureAt (f : List ℕ) (i next vs rs gs : ℕ) : Type 0 where
  pub some : 0 < i
  pub below : i < record_count f
  pub w1 : next ≡ word f i next_word
  pub w2 : vs ≡ word f i procedure_variables
  pub w3 : rs ≡ word f i procedure_regions
  pub w4 : gs ≡ word f i procedure_goals
  pub view : procedures_at f i ≡ procedure_of (variables_at f vs) (regions_at f rs) (goals_at f gs) ∷ procedures_at f next
  pub to_next : Onward f procedures i next
  pub to_variables : Onward f variables i vs
  pub to_regions : Onward f regions i rs
  pub to_goals : Onward f goals i gs

pub procedure_at_law : {f : List ℕ} {i next vs rs gs : ℕ} {r : Record} → Formed f → r ≡ record_at f i → r ≡ Procedure next vs rs gs
    → ProcedureAt f i next vs rs gs
unfolding procedures_at variables_at regions_at goals_at all_rows real
procedure_at_law {f} {i} {next} {vs} {rs} {gs} F e g =
    let h = known {k = k_procedure} F refl e (ap kind_in g) in
    let e1 : next ≡ word f i next_word = cc h.same in
    let e2 : vs ≡ word f i procedure_variables = cc h.same in
    let e3 : rs ≡ word f i procedure_regions = cc h.same in
    let e4 : gs ≡ word f i procedure_goals = cc h.same in
    record {
      some = h.some;
      below = h.below;
      w1 = e1;
      w2 = e2;
      w3 = e3;
      w4 = e4;
      view = rw (e1, e2, e3, e4) (Steps.procedure_step (word f) (record_count f) F.form i h.some h.below h.kind);
      to_next = rw e1 h.next;
      to_variables = onward F h e2 (procedure_variables_law (word f) (record_count f) F.form i h.below h.kind);
      to_regions = onward F h e3 (procedure_regions_law (word f) (record_count f) F.form i h.below h.kind);
      to_goals = onward F h e4 (procedure_goals_law (word f) (record_count f) F.form i h.below h.kind);
    }

pub record VariableAt (f : List ℕ) (i next mode type region : ℕ) : Type 0 where
  pub some : 0 < i
  pub below : i < record_count f
  pub w1 : next ≡ word f i next_word
  pub w2 : mode ≡ word f i variable_mode
  pub w3 : type ≡ word f i variable_type
  pub w4 : region ≡ word f i variable_region
  pub view : variables_at f i ≡ record { mode = mode; type = type; region = region } ∷ variables_at f next
  pub to_next : Onward f variables i next

pub variable_at_law : {f : List ℕ} {i next mode type region : ℕ} {r : Record} → Formed f → r ≡ record_at f i → r ≡ Variable next mode type region
    → VariableAt f i next mode type region
unfolding variables_at all_rows real
variable_at_law {f} {i} {next} {mode} {type} {region} F e g =
    let h = known {k = k_variable} F refl e (ap kind_in g) in
    let e1 : next ≡ word f i next_word = cc h.same in
    let e2 : mode ≡ word f i variable_mode = cc h.same in
    let e3 : type ≡ word f i variable_type = cc h.same in
    let e4 : region ≡ word f i variable_region = cc h.same in
    record {
      some = h.some;
      below = h.below;
      w1 = e1;
      w2 = e2;
      w3 = e3;
      w4 = e4;
      view = rw (e1, e2, e3, e4) (Steps.variable_step (word f) (record_count f) F.form i h.some h.below h.kind);
      to_next = rw e1 h.next;
    }

pub record RegionAt (f : List ℕ) (i next type class es : ℕ) : Type 0 where
  pub some : 0 < i
  pub below : i < record_count f
  pub w1 : next ≡ word f i next_word
  pub w2 : type ≡ word f i region_type
  pub w3 : class ≡ word f i region_class
  pub w4 : es ≡ word f i region_edges
  pub view : regions_at f i ≡ record { type = type; class = class; edges = edges_at f es } ∷ regions_at f next
  pub to_next : Onward f regions i next
  pub to_edges : Onward f edges i es

pub region_at_law : {f : List ℕ} {i next type class es : ℕ} {r : Record} → Formed f → r ≡ record_at f i → r ≡ Region next type class es
    → RegionAt f i next type class es
unfolding regions_at edges_at all_rows real
region_at_law {f} {i} {next} {type} {class} {es} F e g =
    let h = known {k = k_region} F refl e (ap kind_in g) in
    let e1 : next ≡ word f i next_word = cc h.same in
    let e2 : type ≡ word f i region_type = cc h.same in
    let e3 : class ≡ word f i region_class = cc h.same in
    let e4 : es ≡ word f i region_edges = cc h.same in
    record {
      some = h.some;
      below = h.below;
      w1 = e1;
      w2 = e2;
      w3 = e3;
      w4 = e4;
      view = rw (e1, e2, e3, e4) (Steps.region_step (word f) (record_count f) F.form i h.some h.below h.kind);
      to_next = rw e1 h.next;
      to_edges = onward F h e4 (region_edges_law (word f) (record_count f) F.form i h.below h.kind);
    }

pub record EdgeAt (f : List ℕ) (i next functor position target : ℕ) : Type 0 where
  pub some : 0 < i
  pub below : i < record_count f
  pub w1 : next ≡ word f i next_word
  pub w2 : functor ≡ word f i edge_functor
  pub w3 : position ≡ word f i edge_position
  pub w4 : target ≡ word f i edge_target
  pub view : edges_at f i ≡ record { functor = functor; position = position; target = target } ∷ edges_at f next
  pub to_next : Onward f edges i next

pub edge_at : {f : List ℕ} {i next functor position target : ℕ} {r : Record} → Formed f → r ≡ record_at f i → r ≡ Edge next functor position target
    → EdgeAt f i next functor position target
unfolding edges_at all_rows real
edge_at {f} {i} {next} {functor} {position} {target} F e g =
    let h = known {k = k_edge} F refl e (ap kind_in g) in
    let e1 : next ≡ word f i next_word = cc h.same in
    let e2 : functor ≡ word f i edge_functor = cc h.same in
    let e3 : position ≡ word f i edge_position = cc h.same in
    let e4 : target ≡ word f i edge_target = cc h.same in
    record {
      some = h.some;
      below = h.below;
      w1 = e1;
      w2 = e2;
      w3 = e3;
      w4 = e4;
      view = rw (e1, e2, e3, e4) (Steps.edge_step (word f) (record_count f) F.form i h.some h.below h.kind);
      to_next = rw e1 h.next;
    }
