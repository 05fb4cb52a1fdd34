-- What is kept of the variables given.
use Rattle.checking.proofs.SoundLaws.{reach_held, held_here, given_is}
use Rattle.std.proofs.Common.{rules}
use Rattle.checking.proofs.sound.sound_given.Goals as goal

pub returns : goal.returns
returns c = λ S w.
    given_is c.args.own.now S w c.args.given c.args.held c.args.sound
    (c.kept-found.ensures (reach_held c.args.own.now c.args.held) (λ x b l q. search (held_here, rules))) c.difference.ensures c.union.ensures
