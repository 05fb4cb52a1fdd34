-- A kind that leads is not said to be a leaf; of every other kind no word leads.
use mathlib.Core.Path.{sym}
use mathlib.Core.Bool.{false≢true}
use Rattle.writer.proofs.LeadsLaws.{none_leads}
use Rattle.writer.proofs.walk.is_leaf.Goals as goal

pub returns-in-1 : goal.returns-in-1
returns-in-1 c e = absurd (false≢true e)

pub returns-in-2 : goal.returns-in-2
returns-in-2 c e = absurd (false≢true e)

pub returns-in-4 : goal.returns-in-4
returns-in-4 c e = absurd (false≢true e)

pub returns-in-6 : goal.returns-in-6
returns-in-6 c e = absurd (false≢true e)

pub returns-in-12 : goal.returns-in-12
returns-in-12 c e = absurd (false≢true e)

pub returns-in-13 : goal.returns-in-13
returns-in-13 c e = absurd (false≢true e)

pub returns-in-14 : goal.returns-in-14
returns-in-14 c e = absurd (false≢true e)

pub returns-in-15 : goal.returns-in-15
returns-in-15 c e = absurd (false≢true e)

pub returns-in-20 : goal.returns-in-20
returns-in-20 c e = absurd (false≢true e)

pub returns-in_default : goal.returns-in_default
returns-in_default c e k l m =
    let n = c.in_default.in_default-own.rest in
    sym (none_leads l m n.0.0.0.0.0.0.0.0.1 n.0.0.0.0.0.0.0.1 n.0.0.0.0.0.0.1 n.0.0.0.0.0.1 n.0.0.0.0.1
    n.0.0.0.1 n.0.0.1 n.0.1 n.1)
