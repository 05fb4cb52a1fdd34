use Rattle.std.proofs.Common.{◌≡◌, length}
use Rattle.chains.specs.Formed.{ahead}
use Rattle.liveness.specs.Points.{point_words}
use Rattle.insertion.proofs.ProceduresLaws.{Laying}
use Rattle.insertion.proofs.procedures.lay_procedures.Given as goal

abbrev pub invariant-loop-i : goal.invariant-loop-i
invariant-loop-i l = Laying l.file l.initial.out l.out l.first l.i l.q l.record × (length l.points ≡ point_words)

abbrev pub decreases-loop-i : goal.decreases-loop-i
decreases-loop-i l = ahead l.file l.i
