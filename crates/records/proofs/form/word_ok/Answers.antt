-- No reference, or one. Assumes nothing.
use Rattle.std.proofs.Common.{arith, rules}
use Rattle.records.proofs.Steps.{use_none, use_refused, use_counted}
use Rattle.records.proofs.form.word_ok.Goals as goal

pub returns-then-chain-eq0 : goal.returns-then-chain-eq0
returns-then-chain-eq0 c = λ u e. use_none _ _ _ _ _ u c.if-chain-eq0.true e

pub reference_ok-requires : goal.reference_ok-requires
reference_ok-requires c = search rules

pub returns-then-not-reference_ok : goal.returns-then-not-reference_ok
returns-then-not-reference_ok c =
    λ u e. use_refused _ _ _ _ _ u c.if-chain-eq0.false c.word_in-r.ensures.0 c.reference_ok.ensures.0 c.if-not-reference_ok.true e

pub count-requires : goal.count-requires
count-requires c = let h = c.reference_ok.ensures.1 c.if-not-reference_ok.false in omega arith

pub returns : goal.returns
returns c =
    λ u e. use_counted _ _ _ _ _ u c.if-chain-eq0.false c.word_in-r.ensures.0 c.reference_ok.ensures.0
    c.if-not-reference_ok.false c.count.ensures e
