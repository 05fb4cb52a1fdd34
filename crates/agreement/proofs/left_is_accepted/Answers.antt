use Rattle.std.specs.Prelude.{is_ok}
use mathlib.Core.Path.{refl, sym, ap, ◌∙◌}
use lib.Seq.{length-take-le}
use Rattle.agreement.specs.Agreement.{leaves_sound, check_accepts, written_within}
use Rattle.agreement.proofs.left_is_accepted.Goals as goal

pub returns-in_default : goal.returns-in_default
returns-in_default c = let h = c.annotate.ensures in record {
  value = refl;
  leaves_sound = leaves_sound _ c.args.out.now h;
  out_after = h.1;
}

pub slice_bounds-check-end : goal.slice_bounds-check-end
slice_bounds-check-end c = written_within _ c.args.out.now c.annotate.ensures c.in-Ok.is

pub slice_bounds-check-end-2 : goal.slice_bounds-check-end-2
slice_bounds-check-end-2 c = sym (length-take-le _ _ (written_within _ c.args.out.now c.annotate.ensures c.in-Ok.is))

pub returns : goal.returns
returns c = let h = c.annotate.ensures in record {
  value = c.is_ok.ensures.value ∙ ap is_ok (check_accepts _ c.args.out.now h c.in-Ok.is c.check.ensures.value);
  leaves_sound = leaves_sound _ c.args.out.now h;
  out_after = h.1;
}
