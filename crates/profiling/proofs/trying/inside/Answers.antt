use mathlib.Core.Path.{refl}
use Rattle.profiling.specs.Behind.{ready_in_long}
use Rattle.profiling.proofs.trying.inside.Goals as goal

pub count-left-requires : goal.count-left-requires
count-left-requires c = c.requires.ready_in.few_left

pub step_in-stepped-requires : goal.step_in-stepped-requires
step_in-stepped-requires c = record {
  formed = (c.requires.formed.0, c.requires.formed.2, c.requires.ready_in.more_logged);
  goal_bound = (c.requires.ready_in.ready.low, c.requires.ready_in.ready.busy, c.requires.ready_in.ready.placed);
}

pub after-requires : goal.after-requires
after-requires c = record {
  formed = (c.requires.formed.0, c.requires.formed.1);
  ready_in = ready_in_long c.step_in-stepped.auto.frames c.requires.ready_in;
}

pub returns : goal.returns
returns c = λ l ps H q.
    c.after.ensures l _ _ _ ps _ (record {
      stands = H;
      low = q;
      goes = c.step_in-stepped.ensures _ _;
      counts = c.count-left.ensures _ ps refl;
      cells = c.step_in-stepped.auto.cells;
      regions = c.step_in-stepped.auto.regions;
      frames = c.step_in-stepped.auto.frames;
    })
