use mathlib.Core.Path.{◌≡◌, refl, sym, ◌∙◌}
use Rattle.std.proofs.Common.{arith}
use lib.ListN.{length-set}
use Rattle.sets.specs.Sets.{loaded_zero}
use Rattle.windows.specs.Closing.{closing_first, closing_next}
use Rattle.windows.proofs.reaching.list_reaches.Goals as goal

pub loop-r-init : goal.loop-r-init
loop-r-init c = (0, omega arith, closing_first c.args.targets.now, refl, omega arith)

pub reach_from-reach-requires : goal.reach_from-reach-requires
reach_from-reach-requires c = record {
  places_value = c.requires.places_value ∙ sym c.loop-r.invariant.3;
  read_value = loaded_zero;
}

pub bounds-targets-r : goal.bounds-targets-r
bounds-targets-r c = omega (arith, c.loop-r.invariant.3)

pub loop-r-preserved : goal.loop-r-preserved
loop-r-preserved c = let v = c.loop-r.invariant in (
  c.loop-r.r,
  refl,
  closing_next c.args.targets.now c.loop-r.targets v.1 v.2 (omega (arith, v.3)) c.reach_from-reach.ensures.region_reach c.stored.ensures refl,
  simp length-set v.3,
  omega arith,
)

pub shape_of-targets : goal.shape_of-targets
shape_of-targets c = c.loop-r.invariant.3

pub returns : goal.returns
returns c =
    let v = c.loop-r.invariant in
    let e : v.0 ≡ c.args.n = omega (arith, v.1, v.4) in
    rw (← e) v.2

-- the last region
pub returns-2 : goal.returns-2
returns-2 c =
    let v = c.loop-r.invariant in
    let e : c.loop-r.r ≡ c.args.n = omega arith in
    rw (← e) (closing_next c.args.targets.now c.loop-r.targets v.1 v.2 (omega (arith, v.3)) c.reach_from-reach.ensures.region_reach c.stored.ensures refl)
