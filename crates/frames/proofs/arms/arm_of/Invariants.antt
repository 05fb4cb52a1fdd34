-- The arm is still to be found in the rest of the chain.
use Prim.Native.Nat.{◌<◌}
use mathlib.Core.Path.{◌≡◌}
use Rattle.language.specs.File.{record_count}
use Rattle.chains.specs.Formed.{ahead}
use Rattle.chains.specs.Records.{chain_records}
use Rattle.word_machine.specs.Machine.{arm_of}
use Rattle.frames.proofs.arms.arm_of.Given as goal

abbrev pub invariant-loop-at : goal.invariant-loop-at
invariant-loop-at l = (l.at < record_count l.file) × (arm_of l.file l.functor (chain_records l.file l.at) ≡ arm_of l.file l.functor (chain_records l.file l.start))

abbrev pub decreases-loop-at : goal.decreases-loop-at
decreases-loop-at l = ahead l.file l.at
