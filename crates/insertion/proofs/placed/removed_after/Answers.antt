use Rattle.insertion.proofs.placed.removed_after.Goals as goal

pub returns : goal.returns
returns c =
    cc (c.difference.ensures, c.union.ensures, c.difference-2.ensures)
