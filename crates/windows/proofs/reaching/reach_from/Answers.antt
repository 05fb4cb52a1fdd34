-- The invariant and its laws are in Reading.
use mathlib.Core.Path.{sym, ap, ◌∙◌}
use Rattle.sets.specs.Sets.{◌∖◌}
use Rattle.sets.specs.Members.{next_member}
use Rattle.sets.specs.declared.Set.{Set}
use Rattle.laws.specs.MoreSets.{difference_empty}
use Rattle.windows.specs.Reading.{is_next, starts, goes, just_read, reached}
use Rattle.windows.proofs.reaching.reach_from.Goals as goal

pub loop-u-init : goal.loop-u-init
loop-u-init c =
    let e = c.requires.read_value in (
      starts c.of-found.ensures e,
      c.after-u.ensures ∙ ap (λ (s : Set). next_member s 0) (sym (ap (λ (x : Set). c.of-found.result ∖ x) e ∙ difference_empty _)),
    )

pub read_edges-requires : goal.read_edges-requires
read_edges-requires c = let t = c.loop-u-test.true in let x = is_next c.loop-u.invariant.0 c.loop-u.invariant.1 t in record {
  places_value = c.requires.places_value;
  le_u = x.0;
  u_lt_places = t;
  u_value = x.2;
}

pub loop-u-smaller : goal.loop-u-smaller
loop-u-smaller c =
    let i = c.loop-u.invariant in
    (goes i.0 i.1 c.loop-u-test.true c.read_edges.ensures.value c.union-found.ensures c.read_edges.ensures.read_after).1

pub loop-u-preserved : goal.loop-u-preserved
loop-u-preserved c =
    let i = c.loop-u.invariant in (
      (goes i.0 i.1 c.loop-u-test.true c.read_edges.ensures.value c.union-found.ensures c.read_edges.ensures.read_after).0,
      c.after-u-in-loop-u.ensures
          ∙ ap (λ (s : Set). next_member s 0) (c.difference.ensures ∙ ap (λ (x : Set). c.union-found.result ∖ x) c.loaded.ensures),
    )

pub returns : goal.returns
returns c = record {
  region_reach = reached c.loop-u.invariant.0 c.loop-u.invariant.1 c.loop-u-test.false;
  read_just = just_read c.loop-u.invariant.0 c.loop-u.invariant.1 c.loop-u-test.false;
}
