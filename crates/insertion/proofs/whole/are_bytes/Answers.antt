use Rattle.insertion.proofs.whole.are_bytes.Goals as goal

pub returns : goal.returns
returns c = λ j. (c.shared_slice_known-1.given j).fits
