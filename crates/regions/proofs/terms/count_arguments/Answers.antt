use Rattle.std.proofs.Common.{arith}
use Rattle.regions.proofs.TermsLaws.{count_four, count_three, count_two, count_one, count_none}
use Rattle.regions.proofs.terms.count_arguments.Goals as goal

pub returns-then-word-ne0 : goal.returns-then-word-ne0
returns-then-word-ne0 c = record {
  upper_bound = omega arith;
  i_value = count_four _ _ c.word.ensures.0 c.if-word-ne0.true;
}

pub returns-then-word-ne0-2 : goal.returns-then-word-ne0-2
returns-then-word-ne0-2 c = record {
  upper_bound = omega arith;
  i_value = count_three _ _ c.word.ensures.0 c.if-word-ne0.false c.word-2.ensures.0 c.if-word-ne0-2.true;
}

pub returns-then-word-ne0-3 : goal.returns-then-word-ne0-3
returns-then-word-ne0-3 c = record {
  upper_bound = omega arith;
  i_value = count_two _ _ c.word.ensures.0 c.if-word-ne0.false c.word-2.ensures.0 c.if-word-ne0-2.false c.word-3.ensures.0 c.if-word-ne0-3.true;
}

pub returns-then-word-ne0-4 : goal.returns-then-word-ne0-4
returns-then-word-ne0-4 c = record {
  upper_bound = omega arith;
  i_value = count_one _ _ c.word.ensures.0 c.if-word-ne0.false c.word-2.ensures.0 c.if-word-ne0-2.false c.word-3.ensures.0 c.if-word-ne0-3.false c.word-4.ensures.0 c.if-word-ne0-4.true;
}

pub returns : goal.returns
returns c = record {
  upper_bound = omega arith;
  i_value = count_none _ _ c.word.ensures.0 c.if-word-ne0.false c.word-2.ensures.0 c.if-word-ne0-2.false c.word-3.ensures.0 c.if-word-ne0-3.false c.word-4.ensures.0 c.if-word-ne0-4.false;
}
