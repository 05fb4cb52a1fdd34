use Rattle.insertion.proofs.points.left_over.Goals as goal

pub returns-then-start-eq0 : goal.returns-then-start-eq0
returns-then-start-eq0 c = record {
  value = λ e. cc (c.before_at-held.ensures, c.after_at-after.ensures, c.difference.ensures);
  value_2 = λ n. absurd (n c.if-start-eq0.true);
}

pub returns : goal.returns
returns c = record {
  value = λ e. absurd (c.if-start-eq0.false e);
  value_2 = λ n. cc (c.before_at-held.ensures, c.before_at-before.ensures, c.difference-2.ensures);
}
