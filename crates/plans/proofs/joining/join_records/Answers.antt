-- The records below i are still to do.
use Prim.Native.Nat.{suc, ◌-◌}
use Rattle.std.proofs.Common.{arith}
use mathlib.Core.Path.{◌≡◌}
use Rattle.language.specs.File.{record_count}
use Rattle.plans.specs.Passes.{joining}
use Rattle.plans.specs.Down.{down_first, down_more, down_last}
use Rattle.plans.specs.Links.{joinable_step}
use Rattle.plans.proofs.joining.join_records.Goals as goal

pub loop-i-init : goal.loop-i-init
unfolding record_count
loop-i-init c = rw c.word-records.ensures.0 (down_first _ _, c.requires.joinable)

pub join_record-requires : goal.join_record-requires
join_record-requires c = let e : suc (c.loop-i.i - 1) ≡ c.loop-i.i = omega (arith, c.loop-i-test.true) in record {
  formed = c.requires.formed;
  joinable = rw e c.loop-i.invariant.1;
}

pub loop-i-preserved : goal.loop-i-preserved
loop-i-preserved c =
    let e : suc (c.loop-i.i - 1) ≡ c.loop-i.i = omega (arith, c.loop-i-test.true) in
    (down_more _ c.loop-i.invariant.0 c.loop-i-test.true c.join_record.ensures, rw c.join_record.ensures (joinable_step c.requires.formed (rw e c.loop-i.invariant.1)))

pub returns : goal.returns
unfolding joining
returns c = down_last _ c.loop-i.invariant.0 (omega arith)
