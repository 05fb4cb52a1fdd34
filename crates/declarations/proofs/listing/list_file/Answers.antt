use Rattle.std.proofs.Common.{arith}
use mathlib.Core.Path.{◌∙◌}
use mathlib.Core.Logic.{inl, inr}
use Rattle.chains.specs.Formed.{procedures_stand, counted}
use Rattle.declarations.specs.DeclaredPlaces.{file_places}
use Rattle.declarations.specs.Functors.{stands_same}
use Rattle.declarations.proofs.ListingLaws.{blank_length, blank_at}
use Rattle.declarations.proofs.FillingLaws.{functors_zero, procedures_few, file_listed}
use Rattle.declarations.proofs.listing.list_file.Goals as goal

pub word-first-requires : goal.word-first-requires
word-first-requires c = record {
  formed = c.requires.formed;
  k_lt_record_words = (omega arith, (counted c.requires.formed).some);
}

pub list_records-requires : goal.list_records-requires
list_records-requires c = record {
  formed = c.requires.formed;
  start_bound = (stands_same c.word-first.ensures.0 (procedures_stand c.requires.formed)).below;
  start_in_bounds = omega (arith, blank_length file_places c.requires.table_value, procedures_few c.requires.formed c.requires.file_value.1 c.word-first.ensures.0);
}

pub list_functors-requires : goal.list_functors-requires
list_functors-requires c = let L = c.list_records.ensures in record {
  formed = c.requires.formed;
  file_value = c.requires.file_value.0;
  file_places_in_bounds = (omega (arith, blank_length file_places c.requires.table_value, L.kept), L.other 0 (inl (omega arith)) ∙ blank_at file_places c.requires.table_value 0, λ k l. L.other k (inr (omega (arith, procedures_few c.requires.formed c.requires.file_value.1 c.word-first.ensures.0))) ∙ blank_at file_places c.requires.table_value k);
}

pub list_parameters-requires : goal.list_parameters-requires
list_parameters-requires c = record {
  formed = c.requires.formed;
  file_places_in_bounds = (omega (arith, blank_length file_places c.requires.table_value, c.list_records.ensures.kept, c.list_functors.ensures.kept), functors_zero c.list_functors.ensures);
}

pub returns : goal.returns
returns c = file_listed c.requires.formed c.requires.file_value.1 c.word-first.ensures.0 c.requires.file_value.0 c.requires.table_value c.list_records.ensures c.list_functors.ensures c.list_parameters.ensures
