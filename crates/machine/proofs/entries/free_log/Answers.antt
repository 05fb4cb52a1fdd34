use Rattle.std.proofs.Common.{rules, arith}
use mathlib.Core.Path.{refl}
use Rattle.memory.specs.Log.{free_none, is_same}
use Rattle.machine.specs.Entries.{log_free_next}
use Rattle.machine.proofs.entries.free_log.Goals as goal

pub loop-i-init : goal.loop-i-init
loop-i-init c = ((λ told L. refl), omega arith, refl, refl)

pub entry_word-place-requires : goal.entry_word-place-requires
entry_word-place-requires c = search rules

pub entry_word-kind-requires : goal.entry_word-kind-requires
entry_word-kind-requires c = search rules

pub free_entry-left-requires : goal.free_entry-left-requires
free_entry-left-requires c = search rules

pub loop-i-preserved : goal.loop-i-preserved
loop-i-preserved c =
    let v = c.loop-i.invariant in (
      (λ told L. log_free_next L _ _ _ _ _ _ _ _ c.loop-i-test.true v.1 _ _ c.entry_word-place.ensures c.entry_word-kind.ensures (v.0 told L) c.free_entry-left.ensures),
      omega (arith, v.1),
      omega (arith, c.free_entry-left.auto, v.2),
      omega (arith, c.free_entry-left.auto, v.3),
    )

pub shape_of-cells : goal.shape_of-cells
shape_of-cells c = c.loop-i.invariant.2

pub shape_of-regions : goal.shape_of-regions
shape_of-regions c = c.loop-i.invariant.3

pub returns : goal.returns
returns c = λ told L. is_same (free_none _ _ _ _ (omega arith) (c.loop-i.invariant.0 told L))
