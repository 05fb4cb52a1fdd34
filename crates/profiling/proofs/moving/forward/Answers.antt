use Rattle.std.proofs.Common.{arith}
use Rattle.profiling.specs.Moving.{ends, file_formed, is_ready, ready_inside}
use Rattle.profiling.specs.Going.{moves_finished, moves_spent}
use Rattle.profiling.proofs.moving.forward.Goals as goal

pub returns-then-state-eq0 : goal.returns-then-state-eq0
returns-then-state-eq0 c = ends (moves_finished c.requires.run_stands c.if-state-eq0.true)

pub returns-then-steps-point : goal.returns-then-steps-point
returns-then-steps-point c = ends (moves_spent c.requires.run_stands c.if-state-eq0.false c.if-steps-point.true)

pub outside-requires : goal.outside-requires
outside-requires c = record {
  formed = (file_formed c.requires.run_stands, c.requires.narrow.0, c.requires.narrow.1);
  ready = is_ready c.requires.run_stands c.if-state-eq0.false c.if-steps-point.false (omega (arith, c.ranges.steps.fits));
}

pub returns-then-open-eq0 : goal.returns-then-open-eq0
returns-then-open-eq0 c = c.outside.ensures _ _ c.requires.run_stands c.if-open-eq0.true c.if-steps-point.false

pub inside-requires : goal.inside-requires
inside-requires c = record {
  formed = (file_formed c.requires.run_stands, c.requires.narrow.0, c.requires.narrow.1);
  ready_in = ready_inside c.requires.run_stands c.if-state-eq0.false c.if-steps-point.false (omega (arith, c.ranges.steps.fits)) c.if-open-eq0.false;
}

pub returns : goal.returns
returns c = c.inside.ensures _ _ c.requires.run_stands c.if-steps-point.false
