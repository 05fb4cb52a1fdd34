use Rattle.owners.specs.Owners.{owners_fit}
use Rattle.std.proofs.Common.{refl}
use Rattle.stages.proofs.StagesLaws.{regions_refused, unreached_refused, regions_passed}
use Rattle.stages.proofs.Owned.{given, owners_in}
use Rattle.stages.proofs.lowest.check_regions.Goals as goal

pub list_owners-requires : goal.list_owners-requires
list_owners-requires c = let F = c.requires.formed in record {
  formed = F;
  file_in_bounds = owners_fit F refl;
}

pub regions_agree-requires : goal.regions_agree-requires
regions_agree-requires c = record {
  given = given _ c.requires.formed c.requires.file_value c.requires.file_table c.list_owners.ensures;
  row_words_in_bounds = c.requires.row_words_in_bounds;
}

pub returns-then-not-regions_agree : goal.returns-then-not-regions_agree
returns-then-not-regions_agree c = let r = c.regions_agree.ensures in record {
  value = regions_refused _ r.value c.if-not-regions_agree.true;
  after_pass = rw r.value at r.after_pass;
}

pub all_reached-requires : goal.all_reached-requires
all_reached-requires c = record {
  formed = c.requires.formed;
  file_value = c.requires.file_value;
  owners_in = owners_in _ c.list_owners.ensures;
}

pub returns-then-not-all_reached : goal.returns-then-not-all_reached
returns-then-not-all_reached c = let r = c.regions_agree.ensures in record {
  value = unreached_refused _ r.value c.if-not-regions_agree.false c.all_reached.ensures.value c.if-not-all_reached.true;
  after_pass = rw r.value at r.after_pass;
}

pub returns : goal.returns
returns c = let r = c.regions_agree.ensures in record {
  value = regions_passed _ r.value c.if-not-regions_agree.false c.all_reached.ensures.value c.if-not-all_reached.false;
  after_pass = rw r.value at r.after_pass;
}
