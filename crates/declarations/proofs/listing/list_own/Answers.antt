use Rattle.std.proofs.Common.{arith}
use mathlib.Core.Path.{refl}
use Rattle.chains.specs.Is.{procedure_is}
use Rattle.chains.specs.Declared.{procedure_at_law}
use Rattle.declarations.specs.DeclaredPlaces.{own_places}
use Rattle.declarations.specs.Functors.{stands_same}
use Rattle.declarations.proofs.ListingLaws.{blank_length}
use Rattle.declarations.proofs.FillingLaws.{variables_few, regions_few, own_listed}
use Rattle.declarations.proofs.listing.list_own.Goals as goal

pub word-requires : goal.word-requires
word-requires c = record {
  formed = c.requires.formed;
  k_lt_record_words = (omega arith, c.requires.stands.0.below);
}

pub list_records-requires : goal.list_records-requires
list_records-requires c = record {
  formed = c.requires.formed;
  start_bound = (stands_same c.word.ensures.0 (procedure_at_law c.requires.formed refl (procedure_is c.requires.stands.0 c.requires.stands.1)).to_variables.stands).below;
  start_in_bounds = omega (arith, blank_length own_places c.requires.i_value.1, variables_few c.requires.formed c.requires.stands.0 c.requires.stands.1 c.requires.i_value.0 c.word.ensures.0);
}

pub word-requires-2 : goal.word-requires-2
word-requires-2 c = record {
  formed = c.requires.formed;
  k_lt_record_words = (omega arith, c.requires.stands.0.below);
}

pub list_records-requires-2 : goal.list_records-requires-2
list_records-requires-2 c = record {
  formed = c.requires.formed;
  start_bound = (stands_same c.word-2.ensures.0 (procedure_at_law c.requires.formed refl (procedure_is c.requires.stands.0 c.requires.stands.1)).to_regions.stands).below;
  start_in_bounds = omega (arith, blank_length own_places c.requires.i_value.1, c.list_records.ensures.kept, regions_few c.requires.formed c.requires.stands.0 c.requires.stands.1 c.requires.i_value.0 c.word.ensures.0 c.word-2.ensures.0);
}

pub returns : goal.returns
returns c = own_listed c.requires.formed c.requires.stands.0 c.requires.stands.1 c.requires.i_value.0 c.word.ensures.0 c.word-2.ensures.0 c.requires.i_value.1 c.list_records.ensures c.list_records-2.ensures
