-- What is still to be put into the cell is what the arguments from the next one on say.
use Rattle.std.proofs.Common.{arith}
use mathlib.Core.Path.{refl, ap, ◌∙◌}
use lib.ListN.{length, length-set}
use Rattle.machine.proofs.Terms.{pour_first, pour_end, pour_stop, pour_on}
use Rattle.machine.proofs.cells.fill.Goals as goal

pub loop-n-init : goal.loop-n-init
loop-n-init g c = (refl, refl)

pub returns-then-x-eq0 : goal.returns-then-x-eq0
returns-then-x-eq0 g c = pour_stop _ _ _ _ _ _ _ c.loop-n-test.true c.word_in-x.ensures.0 _ c.if-x-eq0.true ∙ c.loop-n.invariant.0 ∙ pour_first _ _ _ _ _ _ _ _ c.word_in.ensures.0 c.put_at.ensures

pub value-v-requires : goal.value-v-requires
value-v-requires g c = (rw c.word_in-x.ensures.0 (c.requires.low _ c.loop-n-test.true), c.requires.record_bytes_in_bounds.1)

pub loop-n-preserved : goal.loop-n-preserved
loop-n-preserved g c = (
  pour_on _ _ _ _ _ _ _ c.loop-n-test.true c.word_in-x.ensures.0 _ _ _ c.if-x-eq0.false c.value-v.ensures c.put_at-in-loop-n.ensures ∙ c.loop-n.invariant.0,
  ap length c.put_at-in-loop-n.ensures ∙ simp length-set c.loop-n.invariant.1,
)

pub returns : goal.returns
returns g c = pour_end _ _ _ _ _ _ _ c.loop-n-test.false ∙ c.loop-n.invariant.0 ∙ pour_first _ _ _ _ _ _ _ _ c.word_in.ensures.0 c.put_at.ensures

pub put_at-requires-in-loop-n : goal.put_at-requires-in-loop-n
put_at-requires-in-loop-n g c = λ z. omega (arith, c.loop-n-test.true, c.loop-n.invariant.1, simp length-set at (ap length c.put_at.ensures), c.requires.whole z)
