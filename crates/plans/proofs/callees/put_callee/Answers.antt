use mathlib.Core.Path.{refl}
use Rattle.plans.specs.Passes.{put_callee}
use Rattle.plans.proofs.callees.put_callee.Goals as goal

pub returns : goal.returns
unfolding put_callee
returns c =
    rw (c.stored-2.ensures, c.stored.ensures, c.word_at-2.ensures, c.word_at.ensures, c.set_at-born.ensures, c.union-held.ensures, c.set_at-2.ensures, c.set_at.ensures) refl
