use Prim.Native.Nat.{ℕ, ◌≤◌}
use mathlib.Core.Path.{◌≡◌}
use mathlib.Core.List.{List}
use lib.ListN.{length}
use Rattle.memory.specs.Log.{stored, undone}
use Rattle.machine.specs.Entries.{Logs}
use Rattle.machine.proofs.entries.undo_log.Given as goal

abbrev pub invariant-loop-i : goal.invariant-loop-i
invariant-loop-i l =
    ((told : List ℕ) → Logs l.log told l.count → undone told l.i (stored l.left l.cells l.regions) ≡ undone told l.count (stored l.initial.left l.initial.cells l.initial.regions))
    × (l.i ≤ l.count) × (length l.cells ≡ length l.initial.cells) × (length l.regions ≡ length l.initial.regions)
