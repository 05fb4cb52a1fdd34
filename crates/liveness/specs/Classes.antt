-- Number 7's part at calls, by the window of each procedure.
use Rattle.std.specs.Prelude.{Bool}
use Rattle.language.specs.Program.{Procedure, Program}
use Rattle.language.specs.Values.{outs_of}
use Rattle.language.specs.Lifetimes.{goals_classes}

unfoldable pub procedure_classes : Program → Procedure → Bool
procedure_classes P p = goals_classes P p.signature p.body (outs_of p.signature)
