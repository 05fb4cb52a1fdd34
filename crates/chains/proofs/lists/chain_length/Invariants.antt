-- The count so far and the rest of the chain make the whole.
use Prim.Native.Nat.{◌+◌, ◌<◌}
use mathlib.Core.Path.{◌≡◌}
use lib.ListN.{length}
use Rattle.language.specs.File.{record_count}
use Rattle.chains.specs.Formed.{ahead}
use Rattle.chains.specs.Records.{chain_records}
use Rattle.language.specs.Format.{max_records}
use Rattle.chains.proofs.lists.chain_length.Given as goal

abbrev pub invariant-loop-at : goal.invariant-loop-at
invariant-loop-at l =
    (l.at < record_count l.file) × (l.count + ahead l.file l.at < max_records) × (l.count + length (chain_records l.file l.at) ≡ length (chain_records l.file l.i))

abbrev pub decreases-loop-at : goal.decreases-loop-at
decreases-loop-at l = ahead l.file l.at
