use mathlib.Core.Path.{sym, ◌∙◌}
use Rattle.std.proofs.Common.{rules}
use Rattle.running.specs.Answer.{refused_ran_as, refused_leaves, accepted_leaves}
use Rattle.running.proofs.answer.run.Goals as goal

pub returns-in-Err : goal.returns-in-Err
returns-in-Err c = record {
  ran_as = refused_ran_as _ _ _ _ _ (sym c.check.ensures.value ∙ c.in-Err.is);
  lent_after = refused_leaves _ _ _ _;
}

pub run_apart-requires : goal.run_apart-requires
run_apart-requires c = sym c.check.ensures.value ∙ c.in_default.is

pub returns : goal.returns
returns c = record {
  ran_as = c.run_apart.ensures;
  lent_after = accepted_leaves (sym c.check.ensures.value ∙ c.in_default.is) _ _ _ _ _ _ _ _ (search rules, search rules, search rules);
}
