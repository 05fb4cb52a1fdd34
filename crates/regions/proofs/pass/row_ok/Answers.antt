use Prim.Native.Nat.{◌<◌}
use Rattle.std.proofs.Common.{arith}
use Rattle.language.specs.Format.{max_records}
use Rattle.chains.specs.Formed.{counted}
use Rattle.regions.proofs.RowedLaws.{rowed_put}
use Rattle.regions.proofs.pass.row_ok.Goals as goal

pub step_effect-requires : goal.step_effect-requires
step_effect-requires c = record {
  here = c.requires.here;
  fact = c.requires.fact;
}

pub put_effect-requires : goal.put_effect-requires
put_effect-requires c =
    let b = c.requires.here.below in
    omega (arith, (counted c.requires.here.formed).most, b)

pub record_ok-requires : goal.record_ok-requires
record_ok-requires c = record {
  here = c.requires.here;
  fact = c.requires.fact.0;
  firsts = c.requires.firsts;
}

pub returns : goal.returns
returns c = let b = c.requires.here.below in let few : c.args.i < max_records = omega (arith, (counted c.requires.here.formed).most, b) in record {
  value = c.record_ok.ensures.value;
  rowed = rowed_put c.args.file.now c.args.i c.args.rows.now few c.requires.row_words_in_bounds c.put_effect.ensures c.step_effect.ensures;
  firsts_2 = c.record_ok.ensures.firsts_2;
}
