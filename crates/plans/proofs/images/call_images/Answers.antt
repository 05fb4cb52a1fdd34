-- The table that the mapping leaves, or zeros.
use Rattle.regions.specs.CallEffect.{call_own, call_callee, call_arguments_law}
use Rattle.plans.specs.Images.{images_some, images_none}
use Rattle.plans.proofs.images.call_images.Goals as goal

pub map_call-requires : goal.map_call-requires
map_call-requires c = let K = c.requires.call_here in record {
  formed = K.here.formed;
  standing = call_own K;
  standing_2 = call_callee K;
  stands = call_arguments_law K c.word-arguments.ensures.0;
}

pub returns-then-map_call : goal.returns-then-map_call
returns-then-map_call c =
    images_some c.requires.call_here c.word-arguments.ensures.0 c.clear.ensures _ _ c.map_call.ensures.call_mapped c.if-map_call.true c.map_call.auto.images

pub returns : goal.returns
returns c =
    images_none c.requires.call_here c.word-arguments.ensures.0 c.clear.ensures _ _ c.map_call.ensures.call_mapped c.if-map_call.false c.clear-2.ensures
