use mathlib.Core.Path.{refl, ◌∙◌, sym}
use Rattle.machine.proofs.Numbers.{remove_low}
use Rattle.frames.specs.Strays.{whole}
use Rattle.machine.proofs.HeapsLaws.{remaining, remove_changes}
use Rattle.std.proofs.Common.{rules}
use Rattle.machine.proofs.heaps.change_heap.Goals as goal

pub word_in-requires : goal.word_in-requires
word_in-requires c = let w = whole c.requires.formed.0 c.args.state.goal c.requires.goal_bound.0 in search rules

pub create_step-requires : goal.create_step-requires
create_step-requires c = record {
  formed = c.requires.formed;
  goal_bound = (c.requires.goal_bound.0, sym c.word_in.ensures.0 ∙ c.in-18.is, c.requires.goal_bound.1);
}

pub construct_step-requires : goal.construct_step-requires
construct_step-requires c = record {
  formed = c.requires.formed;
  goal_bound = (c.requires.goal_bound.0, sym c.word_in.ensures.0 ∙ c.in-11.is, c.requires.goal_bound.1);
}

pub drop_region-requires : goal.drop_region-requires
drop_region-requires c = let e = c.word_in.ensures.0 in let m = c.in_default.in_default-own.rest in record {
  record_bytes_in_bounds = ((whole c.requires.formed.0 _ c.requires.goal_bound.0).1, c.requires.goal_bound.1.fits);
  lifetime_region_bound = remove_low c.requires.formed.1 _ refl (remaining _ c.requires.changes (λ z. m.1 (e ∙ z)) (λ z. m.0.1 (e ∙ z)));
}

pub returns-in-18 : goal.returns-in-18
returns-in-18 c = λ images callees. c.create_step.ensures images callees _

pub returns-in-11 : goal.returns-in-11
returns-in-11 c = c.construct_step.ensures

pub returns-in_default : goal.returns-in_default
returns-in_default c =
    λ images callees. remove_changes _ _ _ _ _ _ _ _ _ c.requires.goal_bound.1.place _ c.word_in.ensures.0 _ _ _
    (c.word_in.ensures.0 ∙ remaining _ c.requires.changes (λ z. c.in_default.in_default-own.rest.1 (c.word_in.ensures.0 ∙ z)) (λ z. c.in_default.in_default-own.rest.0.1 (c.word_in.ensures.0 ∙ z))) c.drop_region.ensures
