-- What is kept for the functor is of this chain, or it is searched for and kept.
use Rattle.std.proofs.Common.{arith}
use Rattle.regions.proofs.TermsLaws.{firsts_put, first_kept}
use Rattle.regions.proofs.terms.first_edge.Goals as goal

pub returns-then-firsts-f : goal.returns-then-firsts-f
returns-then-firsts-f c = let M = c.requires.firsts in record {
  first_edge = first_kept M (omega (arith, c.if-f-ge-MAX_FUNCTORS.false)) c.if-firsts-f.true;
  firsts_2 = M;
}

pub returns : goal.returns
returns c = let M = c.requires.firsts in let e = c.edges_for-first.ensures in record {
  first_edge = record { stands = e.stands_2; same = e.by_index };
  firsts_2 = firsts_put M (omega (arith, c.if-f-ge-MAX_FUNCTORS.false)) (record { stands = e.stands_2; same = e.by_index });
}
