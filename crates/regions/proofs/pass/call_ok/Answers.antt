use Prim.Native.Nat.{◌<◌}
use Rattle.std.proofs.Common.{arith}
use mathlib.Core.Logic.{inl}
use mathlib.Core.Path.{refl, sym, ◌∙◌}
use Rattle.language.specs.Format.{max_records}
use Rattle.chains.specs.Formed.{counted}
use Rattle.regions.specs.CallEffect.{blank, call_own, call_callee, call_arguments_law, call_made}
use Rattle.regions.proofs.CallEffectLaws.{call_agrees}
use Rattle.regions.proofs.RowedLaws.{rowed_put, rowed_not}
use Rattle.regions.proofs.pass.call_ok.Goals as goal

pub map_call-requires : goal.map_call-requires
map_call-requires c = let K = c.requires.call_here in record {
  formed = K.here.formed;
  standing = call_own K;
  standing_2 = call_callee K;
  stands = call_arguments_law K c.word-arguments.ensures.0;
}

pub returns-then-not-map_call : goal.returns-then-not-map_call
returns-then-not-map_call c = let K = c.requires.call_here in let z = c.if-not-map_call.true in record {
  value = sym z ∙ call_agrees K c.word-arguments.ensures.0 (blank refl) _ _ c.map_call.ensures.call_mapped;
  rowed = rowed_not c.args.file.now c.args.i _ (inl refl);
}

pub put_effect-requires : goal.put_effect-requires
put_effect-requires c =
    let b = c.requires.call_here.here.below in
    omega (arith, (counted c.requires.call_here.here.formed).most, b)

pub returns : goal.returns
returns c = let K = c.requires.call_here in let y = c.if-not-map_call.false in let B = blank refl in let e = c.word-arguments.ensures.0 in let below = K.here.below in let few : c.args.i < max_records = omega (arith, (counted K.here.formed).most, below) in let long = c.requires.row_words_in_bounds in record {
  value = sym y ∙ call_agrees K e B _ _ c.map_call.ensures.call_mapped;
  rowed = rowed_put c.args.file.now c.args.i c.args.rows.now few long c.put_effect.ensures (call_made K e B _ _ c.map_call.ensures.call_mapped y c.image_effect.ensures);
}
