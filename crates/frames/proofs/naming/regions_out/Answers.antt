-- What is still to be copied is what the members left say.
use mathlib.Core.Path.{refl, sym, ap, subst, ◌∙◌}
use Rattle.std.proofs.Common.{arith, rules}
use mathlib.Core.Bool.{not}
use lib.ListN.{length, length-set}
use Rattle.sets.specs.Sets.{Small, small_of_bits}
use Rattle.sets.specs.SetLaws.{small_difference}
use Rattle.frames.specs.Naming.{some_member, member_low, members_fall, out_next, out_last}
use Rattle.frames.proofs.naming.regions_out.Goals as goal

pub loop-left-init : goal.loop-left-init
loop-left-init c = (refl, refl, small_of_bits _ (search rules))

pub image_of-image-requires : goal.image_of-image-requires
image_of-image-requires c = omega (arith, c.requires.0.fits, member_low c.loop-left.left c.loop-left.invariant.2 _ c.is_empty.ensures (ap not c.loop-left-test.true) _ c.lowest-r.ensures)

pub region-place-requires : goal.region-place-requires
region-place-requires c = (omega (arith, member_low c.loop-left.left c.loop-left.invariant.2 _ c.is_empty.ensures (ap not c.loop-left-test.true) _ c.lowest-r.ensures), omega (arith, c.loop-left.invariant.1, c.requires.1))

pub name_region-requires : goal.name_region-requires
name_region-requires c = (rw c.image_of-image.ensures (c.requires.0.low _), omega (arith, c.loop-left.invariant.1, c.requires.1))

pub without_lowest-left-requires : goal.without_lowest-left-requires
without_lowest-left-requires c = some_member _ c.loop-left.invariant.2 _ c.is_empty.ensures (ap not c.loop-left-test.true)

pub loop-left-smaller : goal.loop-left-smaller
loop-left-smaller c = members_fall c.loop-left.left c.loop-left.invariant.2 _ c.is_empty.ensures (ap not c.loop-left-test.true) _ c.without_lowest-left.ensures

pub loop-left-preserved : goal.loop-left-preserved
loop-left-preserved c = (
  out_next _ _ _ c.loop-left.left c.loop-left.invariant.2 _ c.is_empty.ensures (ap not c.loop-left-test.true) _ _ _ _ _ _ c.lowest-r.ensures c.without_lowest-left.ensures c.image_of-image.ensures c.region-place.ensures c.name_region.ensures
      ∙ c.loop-left.invariant.0,
  ap length c.name_region.ensures ∙ simp length-set c.loop-left.invariant.1,
  subst Small (sym c.without_lowest-left.ensures) (small_difference _ c.loop-left.invariant.2),
)

pub returns : goal.returns
returns c = out_last _ _ _ c.loop-left.left c.loop-left.invariant.2 _ c.is_empty.ensures _ (ap not c.loop-left-test.false) ∙ c.loop-left.invariant.0
