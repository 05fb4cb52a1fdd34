-- The procedures of a file, and the one at a record.
use Rattle.std.specs.Prelude.{ℕ, Bool, List, length}
use Rattle.sets.specs.Tests.{◌&◌}
use Rattle.language.specs.Format.{procedure_goals, max_procedures}
use Rattle.language.specs.Lists.{all, among}
use Rattle.language.specs.File.{word}
use Rattle.language.specs.Program.{Procedure, Program}
use Rattle.language.specs.Typing.{procedure_ok}
use Rattle.chains.specs.Formed.{goals_at}
use Rattle.declarations.specs.Own.{signature_at}

unfoldable pub procedures_ok : Program → Bool
procedures_ok P = among max_procedures (length P.procedures) & all (procedure_ok P) P.procedures

unfoldable pub procedure_at_record : List ℕ → ℕ → Procedure
procedure_at_record f i = record { signature = signature_at f i; body = goals_at f (word f i procedure_goals) }
