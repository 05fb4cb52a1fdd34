-- Invariant: the words still ahead decide. Assumes nothing.
use mathlib.Core.Path.{◌∙◌}
use Rattle.std.proofs.Common.{arith}
use Rattle.records.proofs.Loops.{words_first, words_next, words_none, words_refused, words_last}
use Rattle.records.proofs.form.refers_ok.Goals as goal

pub loop-k-init : goal.loop-k-init
loop-k-init c = words_first _ _ _ _ c.word_in.ensures.0 c.packed-row.ensures

pub shape_of-seen-then-row-eq0 : goal.shape_of-seen-then-row-eq0
shape_of-seen-then-row-eq0 c = c.loop-k.invariant.same

pub returns-then-row-eq0 : goal.returns-then-row-eq0
returns-then-row-eq0 c = words_none _ _ _ c.loop-k.invariant c.if-row-eq0.true

pub shape_of-seen-then-not-word_ok : goal.shape_of-seen-then-not-word_ok
shape_of-seen-then-not-word_ok c = c.word_ok.auto.seen ∙ c.loop-k.invariant.same

pub returns-then-not-word_ok : goal.returns-then-not-word_ok
returns-then-not-word_ok c =
    words_refused _ _ _ c.loop-k.invariant (omega arith) c.word_ok.ensures c.if-not-word_ok.true

pub loop-k-preserved : goal.loop-k-preserved
loop-k-preserved c =
    words_next _ _ _ c.loop-k.invariant (omega arith) c.word_ok.ensures c.if-not-word_ok.false c.word_ok.auto.seen

pub shape_of-seen : goal.shape_of-seen
shape_of-seen c = c.loop-k.invariant.same

pub returns : goal.returns
returns c = words_last _ _ _ c.loop-k.invariant (omega arith)
