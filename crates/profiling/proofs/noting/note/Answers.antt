use Rattle.std.proofs.Common.{arith}
use Rattle.profiling.specs.Noting.{held_told, notes_same, notes_line}
use Rattle.profiling.proofs.noting.note.Goals as goal

pub returns-then-eq : goal.returns-then-eq
returns-then-eq c = record {
  notes = notes_same _ _ _ _ c.held_at-held.ensures c.held_at.ensures _ (held_told _ _ _ c.eq.ensures) c.if-eq.true _ _;
  upper_bound = omega (arith, c.requires);
}

pub returns : goal.returns
returns c = let p = c.put_line.ensures in record {
  notes = notes_line _ _ _ _ c.held_at-held.ensures c.held_at.ensures _ (held_told _ _ _ c.eq.ensures) c.if-eq.false p.put;
  upper_bound = omega (arith, p.upper_bound, c.requires);
}
