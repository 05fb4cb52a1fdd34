-- Skipping along a chain and along the words of a record.
use Rattle.language.specs.File.{record_count}
use Rattle.chains.specs.Formed.{ahead}
use Rattle.writer.proofs.SkipsLaws.{Skipping, Passing}
use Prim.Native.Nat.{◌+◌, ◌-◌, ◌*◌}
use Rattle.writer.proofs.skip.+skip_chain_skip_record.Given as goal

-- The functions `past` lead from a point that several needs pass to the earlier points that these look at, so that a path stands once.
abbrev pub decreases-skip_chain : goal.decreases-skip_chain
decreases-skip_chain l =
    2 * ahead l.file.now l.start + 1

abbrev pub invariant-skip_chain-loop-i : goal.invariant-skip_chain-loop-i
invariant-skip_chain-loop-i l =
    Skipping l.file l.start l.first l.i l.at

abbrev pub decreases-skip_chain-loop-i : goal.decreases-skip_chain-loop-i
decreases-skip_chain-loop-i l =
    ahead l.file l.i

abbrev pub decreases-skip_record : goal.decreases-skip_record
decreases-skip_record l =
    2 * (record_count l.file.now - l.i)

abbrev pub invariant-skip_record-loop-k : goal.invariant-skip_record-loop-k
invariant-skip_record-loop-k l =
    Passing l.file l.i l.first l.k l.at
