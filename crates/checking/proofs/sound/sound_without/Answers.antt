use Rattle.sets.specs.Sets.{small_of_bits}
use Rattle.checking.proofs.SoundLaws.{without_none, reach_apart, apart_here, without_is}
use Rattle.std.proofs.Common.{rules}
use Rattle.checking.proofs.sound.sound_without.Goals as goal

pub returns-then-is_empty : goal.returns-then-is_empty
returns-then-is_empty c = λ S w. without_none S _ _ (small_of_bits _ (search rules)) c.is_empty.ensures c.if-is_empty.true

pub returns : goal.returns
returns c = λ S w.
    without_is c.args.own.now S w c.args.gone c.args.sound (c.kept.ensures (reach_apart c.args.own.now c.args.gone) (λ x b l q. search (apart_here, rules)))
