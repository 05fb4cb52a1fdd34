use Rattle.std.proofs.Common.{rules}
use Rattle.language.specs.Table.{table}
use Rattle.hand_sized.specs.Files.{length_of_new_u}
use Rattle.hand_sized.specs.Joined.{filled}
use Rattle.hand_sized.proofs.annotate_new_u_in_96.Goals as goal

pub returns : goal.returns
returns c =
    let p = filled _ c.args.out.now c.annotate.ensures c.new_u.ensures 96 table.new_u_96 length_of_new_u (search rules) in
    record { value = p.0; out_after = p.1 }
