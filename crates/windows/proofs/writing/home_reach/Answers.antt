use Rattle.windows.specs.Parts.{home_none, home_some, home_past}
use Rattle.windows.proofs.writing.home_reach.Goals as goal

pub returns-then-home-eq0 : goal.returns-then-home-eq0
returns-then-home-eq0 c = home_none c.args.reaches.now c.if-home-eq0.true

pub returns-then-home-lt-PLACES : goal.returns-then-home-lt-PLACES
returns-then-home-lt-PLACES c = home_some c.args.reaches.now c.if-home-eq0.false c.loaded.ensures

pub returns : goal.returns
returns c = home_past c.args.reaches.now c.if-home-eq0.false c.if-home-lt-PLACES.false
