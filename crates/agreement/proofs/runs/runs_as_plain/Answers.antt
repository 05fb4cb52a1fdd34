use Rattle.agreement.specs.Runs.{as_plain}
use Rattle.agreement.proofs.runs.runs_as_plain.Goals as goal

pub returns : goal.returns
returns c = let h = c.run.ensures in record { as_plain = λ a. as_plain h.ran_as a; ran_as = h.ran_as; lent_after = h.lent_after }
