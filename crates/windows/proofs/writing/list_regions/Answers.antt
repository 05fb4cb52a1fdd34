use Rattle.std.proofs.Common.{rules, arith}
use mathlib.Core.Path.{refl}
use lib.ListN.{length-set}
use Rattle.chains.specs.Is.{chain_next}
use Rattle.windows.specs.Along.{along_first, along_below, along_next, along_last}
use Rattle.windows.specs.Parts.{part_here, edges_here, regions_none, regions_more}
use Rattle.windows.proofs.writing.list_regions.Goals as goal

pub loop-i-init : goal.loop-i-init
loop-i-init c = (along_first c.requires.stands, regions_none c.args.file.now c.args.first c.args.table.now c.args.from c.args.targets.now, refl, refl)

pub overflow_add-table : goal.overflow_add-table
overflow_add-table c =
    let l = along_below c.requires.formed c.loop-i.invariant.0 c.loop-i-test.true in
    omega arith

pub offset_bounds-table-from : goal.offset_bounds-table-from
offset_bounds-table-from c =
    let l = along_below c.requires.formed c.loop-i.invariant.0 c.loop-i-test.true in
    search rules

pub bounds-table-from : goal.bounds-table-from
bounds-table-from c =
    let l = along_below c.requires.formed c.loop-i.invariant.0 c.loop-i-test.true in
    omega arith

pub targets_of-requires : goal.targets_of-requires
targets_of-requires c = record {
  formed = c.requires.formed;
  stands = edges_here c.requires.formed c.loop-i.invariant.0.stands c.loop-i-test.true c.word-start.ensures.0;
}

pub overflow_add-targets : goal.overflow_add-targets
overflow_add-targets c =
    let l = along_below c.requires.formed c.loop-i.invariant.0 c.loop-i-test.true in
    omega arith

pub offset_bounds-targets-n : goal.offset_bounds-targets-n
offset_bounds-targets-n c =
    let l = along_below c.requires.formed c.loop-i.invariant.0 c.loop-i-test.true in
    search rules

pub bounds-targets-n : goal.bounds-targets-n
bounds-targets-n c =
    let l = along_below c.requires.formed c.loop-i.invariant.0 c.loop-i-test.true in
    omega arith

pub overflow_add-n : goal.overflow_add-n
overflow_add-n c =
    let l = along_below c.requires.formed c.loop-i.invariant.0 c.loop-i-test.true in
    search rules

pub loop-i-smaller : goal.loop-i-smaller
loop-i-smaller c = (chain_next c.requires.formed c.loop-i.invariant.0.stands c.loop-i-test.true c.word-i.ensures.0).falls

pub loop-i-preserved : goal.loop-i-preserved
loop-i-preserved c =
    let F = c.requires.formed in
    let f = c.args.file.now in
    let m = along_below F c.loop-i.invariant.0 c.loop-i-test.true in (
      along_next F c.loop-i.invariant.0 c.loop-i-test.true c.word-i.ensures.0,
      regions_more f c.args.first c.args.table.now c.args.from c.loop-i.table c.loop-i.targets c.loop-i.invariant.1 (omega arith) (omega arith)
          (part_here F c.loop-i.invariant.0 c.loop-i-test.true c.word-start.ensures.0) c.targets_of.ensures c.stored.ensures refl refl,
      simp length-set c.loop-i.invariant.2,
      simp length-set c.loop-i.invariant.3,
    )

pub shape_of-table : goal.shape_of-table
shape_of-table c = c.loop-i.invariant.2

pub shape_of-targets : goal.shape_of-targets
shape_of-targets c = c.loop-i.invariant.3

pub returns : goal.returns
returns c = record {
  value = along_last c.loop-i.invariant.0 c.loop-i-test.false;
  regions_listed = c.loop-i.invariant.1;
}
