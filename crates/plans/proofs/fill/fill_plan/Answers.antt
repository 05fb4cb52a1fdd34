-- What the passes leave is what the definitions say, and those are tables of the file.
use Prim.Native.Nat.{ℕ, ◌<◌, ◌≤◌}
use Rattle.std.proofs.Common.{arith, rules}
use mathlib.Core.Path.{ap, refl, ◌∙◌}
use lib.ListN.{length, length-replicate}
use Rattle.language.specs.Format.{places}
use Rattle.plans.specs.Plan.{image_bytes}
use Rattle.plans.specs.Kept.{zeros_every}
use Rattle.plans.specs.Pictures.{images_length}
use Rattle.owners.specs.Owners.{owners_fit}
use Rattle.plans.specs.Turns.{owners_given, filled_plan, filled_images}
use Rattle.plans.specs.Early.{plan_fits, matched_joinable}
use Rattle.plans.specs.Narrow.{filled_narrow}
use Rattle.plans.specs.Tabling.{filled_tabled, filled_numbered}
use Rattle.plans.proofs.fill.fill_plan.Goals as goal

pub list_owners-requires : goal.list_owners-requires
list_owners-requires c = let F = c.requires.typed_and_filled.formed in record {
  formed = F;
  file_in_bounds = owners_fit F refl;
}

pub fill_onward-requires : goal.fill_onward-requires
fill_onward-requires c = record {
  formed = c.requires.typed_and_filled.formed;
  file_in_bounds = plan_fits c.requires.typed_and_filled.formed c.requires.plan_value;
}

pub match_calls-requires : goal.match_calls-requires
match_calls-requires c = search rules

pub join_records-requires : goal.join_records-requires
join_records-requires c = record {
  formed = c.requires.typed_and_filled.formed;
  joinable = rw (c.match_calls.ensures, c.fill_onward.ensures) (matched_joinable c.requires.typed_and_filled.formed c.requires.typed_and_filled.typed c.args.plan.now c.requires.plan_value);
}

pub fill_sides-requires : goal.fill_sides-requires
fill_sides-requires c =
    owners_given _ c.requires.typed_and_filled
    c.list_owners.ensures

pub fill_images-requires : goal.fill_images-requires
fill_images-requires c = record {
  given = owners_given _ c.requires.typed_and_filled c.list_owners.ensures;
  regional = zeros_every (λ p v. v < places) (λ p. omega arith) image_bytes c.requires.images_value;
}

pub returns : goal.returns
returns c = let R = c.requires.typed_and_filled in let f = c.args.file.now in let z = c.requires.plan_value in let plan = filled_plan f c.args.plan.now c.fill_onward.ensures c.match_calls.ensures c.join_records.ensures
    c.fill_sides.ensures in let images = filled_images f c.args.images.now c.fill_images.ensures.images_after in let long = ap length c.requires.images_value ∙ length-replicate {A = ℕ} image_bytes 0 in let room : image_bytes ≤ length c.args.images.now = omega (arith, long) in record {
      tabled = filled_tabled R c.args.plan.now z c.args.images.now room c.args.callees.now c.requires.callees_len plan images c.fill_callees.ensures;
      narrow = filled_narrow R.formed R.typed c.args.plan.now z plan c.fill_images.ensures.regional_2 (images_length f c.args.images.now images room);
      numbered = filled_numbered R c.args.plan.now z c.args.images.now room c.args.callees.now c.requires.callees_len plan;
      plan_after = plan;
      images_after = images;
      callees_after = c.fill_callees.ensures;
    }
