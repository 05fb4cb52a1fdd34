use mathlib.Core.Path.{◌≡◌, ◌∙◌}
use mir.Syntax.{w32}
use mir.Val.{to_z, of_z}
use mir.Facts.{to_z-of_z}
use Rattle.language.specs.Numbers.{less}
use Rattle.std.proofs.Common.{rules}
use Rattle.frames.proofs.numbers.less_words.Goals as goal

pub returns : goal.returns
unfolding less
returns c =
    let a : to_z w32 (of_z w32 c.signed.result) ≡ to_z w32 c.args.a = to_z-of_z {w = w32} (search rules) ∙ c.signed.ensures in
    let b : to_z w32 (of_z w32 c.signed-2.result) ≡ to_z w32 c.args.b = to_z-of_z {w = w32} (search rules) ∙ c.signed-2.ensures in
    cc
