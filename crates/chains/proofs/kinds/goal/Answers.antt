-- A goal that is none of the first eleven is a test.
use mathlib.Core.Path.{sym, ◌∙◌}
use Rattle.std.proofs.Common.{arith}
use Rattle.std.proofs.Math.Decide.{ℕ_discrete}
use Rattle.language.specs.Format.{test_kind}
use Rattle.chains.specs.Shapes.{no_goal_left}
use Rattle.chains.proofs.kinds.goal.Goals as goal

pub word-requires : goal.word-requires
word-requires c = record { formed = c.requires.formed; k_lt_record_words = (omega arith, c.requires.stands.0.below) }

pub returns-in_default : goal.returns-in_default
returns-in_default c =
    let e = c.word.ensures.0 in
    let n = c.in_default.in_default-own.rest in
    elim (ℕ_discrete c.word.result test_kind) [
      | yes t ↦ sym e ∙ t
      | no t ↦ absurd (no_goal_left c.requires.stands.0 c.requires.stands.1 e n.0.0.0.0.0.0.0.0.0.0.1 n.0.0.0.0.0.0.0.0.0.1 n.0.0.0.0.0.0.0.0.1 n.0.0.0.0.0.0.0.1 n.0.0.0.0.0.0.1 n.0.0.0.0.0.1 n.0.0.0.0.1 n.0.0.0.1 n.0.0.1 n.0.1 n.1 t)
    ]
