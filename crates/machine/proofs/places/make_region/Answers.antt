use Rattle.machine.proofs.GoalsLaws.{create_none, create_made}
use Rattle.machine.proofs.places.make_region.Goals as goal

pub returns-in_err-place : goal.returns-in_err-place
returns-in_err-place c = let t = create_none _ _ _ _ _ _ _ _ c.create.ensures.0 c.create.ensures.1 c.in_err-place.was in rw c.from_residual.ensures (record { value = t.0; regions_after = t.1.0; frames_after = t.1.1 })

pub returns : goal.returns
returns c = let t = create_made _ _ _ _ _ _ _ _ c.create.ensures.0 c.create.ensures.1 _ _ _ _ c.in_ok-place.was c.name_region.ensures c.word_in.ensures.0 in record { value = t.0; regions_after = t.1.0; frames_after = t.1.1 }
