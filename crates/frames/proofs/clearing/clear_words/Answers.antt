use Rattle.std.proofs.Common.{arith}
use Rattle.frames.proofs.Filled.{filled_zeros}
use Rattle.frames.proofs.clearing.clear_words.Goals as goal

pub returns : goal.returns
returns g c = filled_zeros _ _ _ _ _ c.requires (omega arith) (c.fill.ensures.after (λ y e. e))
