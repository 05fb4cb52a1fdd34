use Rattle.gumreta.specs.Numbers.{annotator_refuses, annotator_writes}
use Rattle.gumreta.proofs.gumreta_annotate.Goals as goal

pub returns-in-Err : goal.returns-in-Err
returns-in-Err c = let p = annotator_refuses c.from.ensures _ _ c.annotate.ensures c.in-Err.is in record { value = p.0; out_after = p.1.0; written_after = p.1.1 }

pub returns-in-Ok : goal.returns-in-Ok
returns-in-Ok c = let p = annotator_writes _ _ c.annotate.ensures c.in-Ok.is in record { value = p.0; out_after = p.1.0; written_after = p.1.1 }
