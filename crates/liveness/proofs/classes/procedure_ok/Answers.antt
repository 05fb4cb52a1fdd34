use Rattle.tables.specs.Starts.{body_stands}
use Rattle.liveness.proofs.ClassesLaws.{procedure_classes_law}
use Rattle.std.proofs.Common.{rules}
use Rattle.liveness.proofs.classes.procedure_ok.Goals as goal

pub window_ok-requires : goal.window_ok-requires
window_ok-requires c = search (body_stands, rules)

pub returns : goal.returns
returns c = search (procedure_classes_law, rules)
