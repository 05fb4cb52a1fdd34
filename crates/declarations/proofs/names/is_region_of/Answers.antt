use Rattle.std.proofs.Common.{arith}
use Rattle.declarations.specs.Functors.{stands_same}
use Rattle.declarations.proofs.LookupLaws.{region_stands, region_none, region_some}
use Rattle.declarations.proofs.names.is_region_of.Goals as goal

pub returns-then-i-eq0 : goal.returns-then-i-eq0
returns-then-i-eq0 c = region_none c.requires.formed c.requires.own _ c.region-i.ensures c.if-i-eq0.true _

pub word-requires : goal.word-requires
word-requires c = record {
  formed = c.requires.formed;
  k_lt_record_words = (omega arith, (stands_same c.region-i.ensures (region_stands c.requires.formed c.requires.own _)).below);
}

pub returns : goal.returns
returns c = region_some c.requires.formed c.requires.own _ c.region-i.ensures c.if-i-eq0.false _ c.word.ensures.0
