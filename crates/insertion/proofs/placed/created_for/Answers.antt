use Rattle.insertion.proofs.placed.created_for.Goals as goal

pub returns : goal.returns
returns c =
    cc (c.union.ensures, c.difference.ensures, c.difference-2.ensures)
