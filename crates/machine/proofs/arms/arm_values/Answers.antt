-- What the arguments from the next one on still get.
use Rattle.std.proofs.Common.{arith}
use mathlib.Core.Path.{refl, ap, ◌∙◌}
use lib.ListN.{length, length-set}
use Rattle.machine.proofs.Terms.{any_yet, give_first, give_end, give_stop, give_on}
use Rattle.machine.proofs.arms.arm_values.Goals as goal

pub loop-n-init : goal.loop-n-init
loop-n-init g c = (refl, refl, λ l. absurd (omega arith))

pub returns-then-x-eq0 : goal.returns-then-x-eq0
returns-then-x-eq0 g c = give_stop _ _ _ _ _ _ _ c.loop-n-test.true c.word_in-x.ensures.0 _ c.if-x-eq0.true ∙ c.loop-n.invariant.0 ∙ give_first _ _ _ _ _ _

pub give-requires : goal.give-requires
give-requires g c = (rw c.word_in-x.ensures.0 (c.requires.low_if_any (any_yet _ _ _ _ c.word_in-x.ensures.0 c.if-x-eq0.false c.loop-n.invariant.2) _ c.loop-n-test.true), omega (arith, c.loop-n.invariant.1, c.requires.record_bytes_in_bounds.1))

pub loop-n-preserved : goal.loop-n-preserved
loop-n-preserved g c = (
  give_on _ _ _ _ _ _ _ c.loop-n-test.true c.word_in-x.ensures.0 _ _ _ c.if-x-eq0.false c.word_at-v.ensures c.give.ensures ∙ c.loop-n.invariant.0,
  ap length c.give.ensures ∙ simp length-set c.loop-n.invariant.1,
  λ l. any_yet _ _ _ _ c.word_in-x.ensures.0 c.if-x-eq0.false c.loop-n.invariant.2,
)

pub returns : goal.returns
returns g c = give_end _ _ _ _ _ _ _ c.loop-n-test.false ∙ c.loop-n.invariant.0 ∙ give_first _ _ _ _ _ _

pub word_at-v-requires : goal.word_at-v-requires
word_at-v-requires g c = λ z. omega (arith, c.requires.whole z, c.loop-n-test.true)
