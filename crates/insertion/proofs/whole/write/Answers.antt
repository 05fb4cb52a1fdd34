-- `write`: the front part is what was laid, the rest as it was.
use Rattle.std.proofs.Common.{arith}
use Rattle.insertion.proofs.WholeLaws.{front_copied}
use Rattle.insertion.proofs.whole.write.Goals as goal

pub returns : goal.returns
returns c =
    front_copied c.args.laid.now c.args.out.now c.args.bytes (omega (arith, c.requires.bytes_le_max_bytes, c.requires.max_bytes_value)) c.copy_from_slice.ensures.after
