use Rattle.windows.specs.Procedure.{header_stored}
use Rattle.windows.proofs.stage.put_header.Goals as goal

pub returns : goal.returns
returns c =
    let a = c.args in
    header_stored a.n a.c c.stored.ensures c.stored-2.ensures c.stored-3.ensures c.stored-4.ensures c.stored-5.ensures c.stored-6.ensures
    c.store.ensures
