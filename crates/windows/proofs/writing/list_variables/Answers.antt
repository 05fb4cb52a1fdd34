use Rattle.std.proofs.Common.{rules, arith}
use mathlib.Core.Path.{refl}
use lib.ListN.{length-set}
use Rattle.chains.specs.Is.{chain_next}
use Rattle.windows.specs.Along.{along_first, along_below, along_next, along_last}
use Rattle.windows.specs.Parts.{part_here, variables_none, variables_more}
use Rattle.windows.proofs.writing.list_variables.Goals as goal

pub loop-i-init : goal.loop-i-init
loop-i-init c = (along_first c.requires.stands, variables_none c.args.file.now c.args.first c.args.reaches.now c.args.table.now c.args.from, refl)

pub overflow_mul-table : goal.overflow_mul-table
overflow_mul-table c =
    let l = along_below c.requires.formed c.loop-i.invariant.0 c.loop-i-test.true in
    search rules

pub overflow_add-table : goal.overflow_add-table
overflow_add-table c =
    let l = along_below c.requires.formed c.loop-i.invariant.0 c.loop-i-test.true in
    omega arith

pub offset_bounds-table-from : goal.offset_bounds-table-from
offset_bounds-table-from c =
    let l = along_below c.requires.formed c.loop-i.invariant.0 c.loop-i-test.true in
    search rules

pub bounds-table-from : goal.bounds-table-from
bounds-table-from c =
    let l = along_below c.requires.formed c.loop-i.invariant.0 c.loop-i-test.true in
    omega arith

pub overflow_mul-table-in-loop-i : goal.overflow_mul-table-in-loop-i
overflow_mul-table-in-loop-i c =
    let l = along_below c.requires.formed c.loop-i.invariant.0 c.loop-i-test.true in
    search rules

pub overflow_add-table-in-loop-i : goal.overflow_add-table-in-loop-i
overflow_add-table-in-loop-i c =
    let l = along_below c.requires.formed c.loop-i.invariant.0 c.loop-i-test.true in
    omega arith

pub overflow_add-table-in-loop-i-2 : goal.overflow_add-table-in-loop-i-2
overflow_add-table-in-loop-i-2 c =
    let l = along_below c.requires.formed c.loop-i.invariant.0 c.loop-i-test.true in
    omega arith

pub offset_bounds-table-from-in-loop-i : goal.offset_bounds-table-from-in-loop-i
offset_bounds-table-from-in-loop-i c =
    let l = along_below c.requires.formed c.loop-i.invariant.0 c.loop-i-test.true in
    search rules

pub bounds-table-from-in-loop-i : goal.bounds-table-from-in-loop-i
bounds-table-from-in-loop-i c =
    let l = along_below c.requires.formed c.loop-i.invariant.0 c.loop-i-test.true in
    simp length-set (omega arith)

pub overflow_add-n : goal.overflow_add-n
overflow_add-n c =
    let l = along_below c.requires.formed c.loop-i.invariant.0 c.loop-i-test.true in
    search rules

pub loop-i-smaller : goal.loop-i-smaller
loop-i-smaller c = (chain_next c.requires.formed c.loop-i.invariant.0.stands c.loop-i-test.true c.word-i.ensures.0).falls

pub loop-i-preserved : goal.loop-i-preserved
loop-i-preserved c =
    let F = c.requires.formed in
    let f = c.args.file.now in
    let m = along_below F c.loop-i.invariant.0 c.loop-i-test.true in (
      along_next F c.loop-i.invariant.0 c.loop-i-test.true c.word-i.ensures.0,
      variables_more f c.args.first c.args.reaches.now c.args.table.now c.args.from c.loop-i.table _ c.loop-i.invariant.1 (omega arith) (simp length-set refl)
          (part_here F c.loop-i.invariant.0 c.loop-i-test.true c.word-home.ensures.0) c.home_reach.ensures c.stored.ensures refl refl,
      simp length-set c.loop-i.invariant.2,
    )

pub shape_of-table : goal.shape_of-table
shape_of-table c = c.loop-i.invariant.2

pub returns : goal.returns
returns c = rw (← along_last c.loop-i.invariant.0 c.loop-i-test.false) c.loop-i.invariant.1
