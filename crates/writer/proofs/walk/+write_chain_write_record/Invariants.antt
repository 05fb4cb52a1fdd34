-- The walk in written order: the invariants are `Writing` along a chain and `Spelling` along the words of a record.
use Rattle.language.specs.File.{record_count}
use Rattle.chains.specs.Formed.{ahead}
use Rattle.writer.proofs.ReadyLaws.{Writing}
use Rattle.writer.proofs.Spelling.{Spelling}
use Prim.Native.Nat.{◌+◌, ◌-◌, ◌*◌}
use Rattle.writer.proofs.walk.+write_chain_write_record.Given as goal

-- The functions `past` lead from a point that several needs pass to the earlier points that these look at, so that a path stands once.
abbrev pub decreases-write_chain : goal.decreases-write_chain
decreases-write_chain l =
    2 * ahead l.file.now l.start + 1

abbrev pub invariant-write_chain-loop-i : goal.invariant-write_chain-loop-i
invariant-write_chain-loop-i l =
    Writing l.file l.initial.out l.out l.start l.first l.i l.at

abbrev pub decreases-write_chain-loop-i : goal.decreases-write_chain-loop-i
decreases-write_chain-loop-i l =
    ahead l.file l.i

abbrev pub decreases-write_record : goal.decreases-write_record
decreases-write_record l =
    2 * (record_count l.file.now - l.i)

abbrev pub invariant-write_record-loop-k : goal.invariant-write_record-loop-k
invariant-write_record-loop-k l =
    Spelling l.file l.i l.at l.initial.out l.out l.k l.end
