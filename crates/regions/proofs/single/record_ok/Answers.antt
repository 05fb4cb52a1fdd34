use mathlib.Core.Path.{refl, sym, ◌∙◌}
use Rattle.language.specs.File.{k_construct, k_switch}
use Rattle.chains.specs.Shapes.{to_arms}
use Rattle.regions.specs.Here.{construct_kind_law}
use Rattle.regions.proofs.HereLaws.{switch_kind_law, edges_stand, assign_agrees, construct_agrees, switch_agrees, other_agrees}
use Rattle.regions.proofs.single.record_ok.Goals as goal

pub in_targets-requires : goal.in_targets-requires
in_targets-requires c = let H = c.requires.here in let k = construct_kind_law c.args.file.now c.args.i (sym c.word.ensures.0 ∙ c.in-11.is) in record {
  formed = H.formed;
  stands = (edges_stand H k_construct k c.word-in-11.ensures.0 c.home-r.ensures c.edges.ensures, H.below);
  firsts = c.requires.firsts;
}

pub arms_ok-requires : goal.arms_ok-requires
arms_ok-requires c = let H = c.requires.here in let n = sym c.word.ensures.0 ∙ c.in-12.is in let k = switch_kind_law c.args.file.now c.args.i n in record {
  formed = H.formed;
  stands = edges_stand H k_switch k c.word-in-12.ensures.0 c.home-r-in-12.ensures c.edges-in-12.ensures;
  stands_2 = (to_arms H.formed n c.word-start.ensures.0).stands;
  firsts = c.requires.firsts;
}

pub returns-in-10 : goal.returns-in-10
returns-in-10 c = record {
  value = assign_agrees c.requires.here c.word.ensures.0 c.in-10.is c.word-in-10.ensures.0 c.home-x.ensures c.word-in-10-2.ensures.0 c.home-y.ensures refl;
  firsts_2 = c.requires.firsts;
}

pub returns-in-11 : goal.returns-in-11
returns-in-11 c = record {
  value = construct_agrees c.requires.here c.word.ensures.0 c.in-11.is c.word-in-11.ensures.0 c.home-r.ensures c.edges.ensures c.in_targets.ensures.value;
  firsts_2 = c.in_targets.ensures.firsts_2;
}

pub returns-in-12 : goal.returns-in-12
returns-in-12 c = record {
  value = switch_agrees c.requires.here c.word.ensures.0 c.in-12.is c.word-in-12.ensures.0 c.home-r-in-12.ensures c.edges-in-12.ensures c.word-start.ensures.0 c.arms_ok.ensures.value;
  firsts_2 = c.arms_ok.ensures.firsts_2;
}

pub returns-in_default : goal.returns-in_default
returns-in_default c = let r = c.in_default.in_default-own.rest in let e = c.word.ensures.0 in record {
  value = other_agrees _ c.requires.here.formed e r.0.0.1 r.0.1 r.1 (λ z. c.requires.fact (sym e ∙ z));
  firsts_2 = c.requires.firsts;
}
