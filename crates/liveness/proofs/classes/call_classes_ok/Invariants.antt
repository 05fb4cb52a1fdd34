use mathlib.Core.Path.{◌≡◌}
use lib.ListN.{length}
use Rattle.language.specs.Answers.{program}
use Rattle.chains.specs.Formed.{ahead}
use Rattle.chains.specs.Turns.{Tests}
use Rattle.liveness.specs.Points.{point_words}
use Rattle.liveness.specs.Classes.{procedure_classes}
use Rattle.liveness.proofs.classes.call_classes_ok.Given as goal

abbrev pub invariant-loop-i : goal.invariant-loop-i
invariant-loop-i l = Tests l.file (procedure_classes (program l.file)) l.i l.q × (length l.points ≡ point_words)

abbrev pub decreases-loop-i : goal.decreases-loop-i
decreases-loop-i l = ahead l.file l.i
