-- The places below `at` are turned, the others as they were.
use Prim.Native.Nat.{◌≤◌}
use Rattle.liveness.specs.Points.{point_words}
use Rattle.insertion.specs.Wants.{Turned}
use Rattle.insertion.proofs.points.list_wanted.Given as goal

abbrev pub invariant-loop-at : goal.invariant-loop-at
invariant-loop-at l =
    Turned l.own l.initial.points l.points l.start l.at × (l.at ≤ point_words)
