use mathlib.Core.Path.{refl, ◌∙◌}
use lib.ListN.{length}
use Rattle.std.proofs.Common.{arith}
use Rattle.std.proofs.lemmas.Slice.{put_mid-paste}
use Rattle.std.proofs.lemmas.List.Edits.{paste_all}
use Rattle.lines.specs.Put.{put_copied}
use Rattle.lines.proofs.text.put_text.Goals as goal

pub returns : goal.returns
returns c =
    let t = c.args.text.now in
    let e = put_mid-paste c.args.at _ c.args.out.now _ t (length t) c.copy_from_slice.ensures.after (omega arith) refl in
    put_copied c.args.out.now t c.args.at c.requires (e ∙ paste_all c.args.out.now c.args.at t (length t) refl)
