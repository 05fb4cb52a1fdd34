-- The procedures in turn.
use Rattle.std.proofs.Common.{arith}
use Rattle.insertion.proofs.ProceduresLaws.{laying_first, laying_last, laying_next, laying_falls, here_below}
use Rattle.insertion.proofs.procedures.lay_procedures.Goals as goal

pub loop-i-init : goal.loop-i-init
loop-i-init c =
    (laying_first _ _ c.requires.unrefused.formed c.word-i.ensures.0, c.requires.points_len)

pub lay_procedure-record-requires : goal.lay_procedure-record-requires
lay_procedure-record-requires c = let v = c.loop-i.invariant in record {
  unrefused = c.requires.unrefused;
  turn = (v.0.turn, c.loop-i-test.true);
  points_len = v.1;
}

pub overflow_add-q : goal.overflow_add-q
overflow_add-q c =
    let v = c.loop-i.invariant in
    let l = here_below c.requires.unrefused.formed v.0.turn c.loop-i-test.true in
    omega (arith, l, c.requires.unrefused.prepared.few)

pub loop-i-smaller : goal.loop-i-smaller
loop-i-smaller c =
    laying_falls c.loop-i.invariant.0 c.requires.unrefused.formed c.loop-i-test.true c.word-i-in-loop-i.ensures.0

pub loop-i-preserved : goal.loop-i-preserved
loop-i-preserved c =
    (laying_next c.loop-i.invariant.0 c.requires.unrefused.formed c.loop-i-test.true c.lay_procedure-record.ensures.lays c.word-i-in-loop-i.ensures.0, c.lay_procedure-record.ensures.points_len_2)

pub returns : goal.returns
returns c = record {
  points_len_2 = c.loop-i.invariant.1;
  lays = laying_last c.loop-i.invariant.0 c.loop-i-test.false;
}
