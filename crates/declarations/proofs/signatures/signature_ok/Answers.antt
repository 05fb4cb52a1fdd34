use Rattle.declarations.specs.Functors.{stands_same}
use Rattle.declarations.proofs.SignaturesLaws.{variables_tested, regions_tested, wrong_variable, each_all}
use Rattle.declarations.proofs.signatures.signature_ok.Goals as goal

pub variables_ok-requires : goal.variables_ok-requires
variables_ok-requires c = record {
  declares = c.requires;
  stands = stands_same c.variable.ensures c.requires.1.variables_stand;
}

pub returns-then-not-variables_ok : goal.returns-then-not-variables_ok
returns-then-not-variables_ok c = wrong_variable _ _ (variables_tested _ _ _ c.variable.ensures c.variables_ok.ensures) c.if-not-variables_ok.true

pub regions_ok-requires : goal.regions_ok-requires
regions_ok-requires c = record {
  declares = c.requires;
  stands = stands_same c.region.ensures c.requires.1.regions_stand;
}

pub returns : goal.returns
returns c = each_all _ _ (variables_tested _ _ _ c.variable.ensures c.variables_ok.ensures) c.if-not-variables_ok.false (regions_tested _ _ _ c.region.ensures c.regions_ok.ensures)
