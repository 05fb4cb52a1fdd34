use Rattle.std.proofs.Common.{rules}
use Rattle.typing.proofs.StepsLaws.{literal_is, print_is}
use Rattle.typing.proofs.steps.step_ok.Goals as goal

pub returns-in-Literal : goal.returns-in-Literal
returns-in-Literal c = literal_is c.requires.declares.0.formed _ _ (search rules) c.is_number.ensures

pub returns-in-Print : goal.returns-in-Print
returns-in-Print c = print_is c.requires.declares.0.formed _ _ (search rules) c.is_number-in-Print.ensures
