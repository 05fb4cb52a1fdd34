use mathlib.Core.Path.{refl, sym, ◌∙◌}
use lib.Seq.{length-take-le}
use Rattle.annotation.specs.Front.{front_refused, front_written_law}
use Rattle.annotation.proofs.front.annotated_front.Goals as goal

pub slice_bounds-result-end-in-Ok : goal.slice_bounds-result-end-in-Ok
slice_bounds-result-end-in-Ok c = sym (length-take-le _ _ (front_written_law _ c.args.out.now c.annotate.new.out (sym c.in-Ok.is ∙ c.annotate.ensures.0) c.annotate.ensures.1).0)

pub returns-in-Err : goal.returns-in-Err
returns-in-Err c = record {
  result_value = front_refused _ (sym c.in-Err.is ∙ c.annotate.ensures.0);
  ref_ptr_value = refl;
}

pub returns-in-Ok : goal.returns-in-Ok
returns-in-Ok c = record {
  result_value = (front_written_law _ c.args.out.now c.annotate.new.out (sym c.in-Ok.is ∙ c.annotate.ensures.0) c.annotate.ensures.1).1;
  ref_ptr_value = refl;
}
