use Rattle.std.proofs.Common.{arith}
use mathlib.Core.Path.{refl, sym, ◌∙◌}
use Prim.Native.Nat.{◌+◌, ◌*◌, ◌≤◌}
use lib.ListN.{length, length-set}
use Rattle.chains.specs.Records.{chain_records}
use Rattle.tables.specs.TablePlaces.{head_size}
use Rattle.windows.specs.Classed.{SignatureAt}
use Rattle.windows.specs.Procedure.{entered, reached_here, procedure_listed}
use Rattle.windows.proofs.stage.list_procedure.Goals as goal

pub chain_length-variables-requires : goal.chain_length-variables-requires
chain_length-variables-requires c = let E = entered c.requires.formed c.requires.stands.0 c.requires.stands.1 c.requires.window_room c.word-v.ensures.0 c.word-r.ensures.0 in record {
  formed = c.requires.formed;
  i_bound = E.variables.below;
}

pub overflow_mul-variables : goal.overflow_mul-variables
overflow_mul-variables c =
    let E = entered c.requires.formed c.requires.stands.0 c.requires.stands.1 c.requires.window_room c.word-v.ensures.0 c.word-r.ensures.0 in
    omega (arith, E.some, c.chain_length-variables.ensures)

pub overflow_add-at-2 : goal.overflow_add-at-2
overflow_add-at-2 c =
    let E = entered c.requires.formed c.requires.stands.0 c.requires.stands.1 c.requires.window_room c.word-v.ensures.0 c.word-r.ensures.0 in
    omega (arith, E.room, c.chain_length-variables.ensures)

pub list_regions-regions-requires : goal.list_regions-regions-requires
list_regions-regions-requires c = let E = entered c.requires.formed c.requires.stands.0 c.requires.stands.1 c.requires.window_room c.word-v.ensures.0 c.word-r.ensures.0 in let p : c.args.at + head_size + 2 * c.chain_length-variables.result + length (chain_records c.args.file.now c.word-r.result) ≤ length c.args.table.now =
    omega (arith, E.room, c.chain_length-variables.ensures) in record {
      formed = c.requires.formed;
      stands = E.regions;
      first_in_bounds = p;
      first_in_bounds_2 = omega (arith, E.few, c.requires.places_value);
    }

pub list_reaches-requires : goal.list_reaches-requires
list_reaches-requires c = let E = entered c.requires.formed c.requires.stands.0 c.requires.stands.1 c.requires.window_room c.word-v.ensures.0 c.word-r.ensures.0 in record {
  places_value = c.requires.places_value ∙ sym c.list_regions-regions.auto.targets;
  n_lt_places = omega (arith, E.few, c.list_regions-regions.ensures.value);
}

pub bounds-table-at : goal.bounds-table-at
bounds-table-at c =
    let E = entered c.requires.formed c.requires.stands.0 c.requires.stands.1 c.requires.window_room c.word-v.ensures.0 c.word-r.ensures.0 in
    omega (arith, E.room, c.list_regions-regions.auto.table)

pub list_variables-requires : goal.list_variables-requires
list_variables-requires c = let E = entered c.requires.formed c.requires.stands.0 c.requires.stands.1 c.requires.window_room c.word-v.ensures.0 c.word-r.ensures.0 in let k1 = c.list_regions-regions.auto.table in record {
  formed = c.requires.formed;
  stands = E.variables;
  first_in_bounds = simp length-set (omega (arith, E.room, k1));
  places_value = c.requires.places_value ∙ sym (c.list_reaches.auto.targets ∙ c.list_regions-regions.auto.targets);
}

pub classes_of-c-requires : goal.classes_of-c-requires
classes_of-c-requires c = let E = entered c.requires.formed c.requires.stands.0 c.requires.stands.1 c.requires.window_room c.word-v.ensures.0 c.word-r.ensures.0 in let k1 = c.list_regions-regions.auto.table in let k3 = c.list_variables.auto.table ∙ length-set c.list_regions-regions.new.table c.args.at c.chain_length-variables.result in record {
  formed = c.requires.formed;
  stands = (E.variables, E.regions);
  at_in_bounds = omega (arith, E.room, k1, k3);
}

pub put_header-requires : goal.put_header-requires
put_header-requires c =
    let E = entered c.requires.formed c.requires.stands.0 c.requires.stands.1 c.requires.window_room c.word-v.ensures.0 c.word-r.ensures.0 in
    let k1 = c.list_regions-regions.auto.table in
    let k3 = c.list_variables.auto.table ∙ length-set c.list_regions-regions.new.table c.args.at c.chain_length-variables.result in
    omega (arith, E.room, k1, k3)

pub overflow_mul-result : goal.overflow_mul-result
overflow_mul-result c =
    let E = entered c.requires.formed c.requires.stands.0 c.requires.stands.1 c.requires.window_room c.word-v.ensures.0 c.word-r.ensures.0 in
    omega (arith, E.some, c.chain_length-variables.ensures)

pub overflow_add-result : goal.overflow_add-result
overflow_add-result c =
    let E = entered c.requires.formed c.requires.stands.0 c.requires.stands.1 c.requires.window_room c.word-v.ensures.0 c.word-r.ensures.0 in
    omega (arith, E.some, E.few, c.chain_length-variables.ensures, c.list_regions-regions.ensures.value)

pub overflow_add-result-2 : goal.overflow_add-result-2
overflow_add-result-2 c =
    let E = entered c.requires.formed c.requires.stands.0 c.requires.stands.1 c.requires.window_room c.word-v.ensures.0 c.word-r.ensures.0 in
    omega (arith, E.some, E.few, c.chain_length-variables.ensures, c.list_regions-regions.ensures.value)

pub shape_of-table : goal.shape_of-table
shape_of-table c =
    let k1 = c.list_regions-regions.auto.table in
    let k3 = c.list_variables.auto.table ∙ length-set c.list_regions-regions.new.table c.args.at c.chain_length-variables.result in
    c.put_header.auto.table ∙ k3 ∙ k1

pub shape_of-targets : goal.shape_of-targets
shape_of-targets c =
    c.list_reaches.auto.targets ∙ c.list_regions-regions.auto.targets

pub returns : goal.returns
returns c =
    let E = entered c.requires.formed c.requires.stands.0 c.requires.stands.1 c.requires.window_room c.word-v.ensures.0 c.word-r.ensures.0 in
    let k1 = c.list_regions-regions.auto.table in
    let a = c.args in
    let f = a.file.now in
    λ S h.
    let q : SignatureAt f c.word-v.result c.word-r.result S = rw (c.word-v.ensures.0, c.word-r.ensures.0) h in
    procedure_listed c.requires.formed S q E.variables E.regions a.at a.table.now c.list_regions-regions.new.table c.list_regions-regions.new.targets c.chain_length-variables.ensures c.list_regions-regions.ensures.value
    c.list_regions-regions.ensures.regions_listed _ c.list_reaches.ensures (omega (arith, E.room, k1)) _ refl _ c.list_variables.ensures
    (c.classes_of-c.ensures S q (reached_here c.requires.formed S q E.variables E.regions a.at a.table.now c.list_regions-regions.new.table c.list_regions-regions.new.targets c.chain_length-variables.ensures c.list_regions-regions.ensures.value
    c.list_regions-regions.ensures.regions_listed _ c.list_reaches.ensures (omega (arith, E.room, k1)) _ refl _ c.list_variables.ensures))
    c.word-g.result _ c.put_header.ensures a.i c.word-g.ensures.0 refl c.right.ensures
