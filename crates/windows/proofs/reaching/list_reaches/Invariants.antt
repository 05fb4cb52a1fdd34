use Prim.Native.Nat.{ℕ, ◌+◌, ◌≤◌}
use mathlib.Core.Path.{◌≡◌}
use lib.ListN.{length}
use Rattle.windows.specs.Closing.{Closing}
use Rattle.windows.proofs.reaching.list_reaches.Given as goal

abbrev pub invariant-loop-r : goal.invariant-loop-r
invariant-loop-r l = (done : ℕ) × (l.r ≡ done + 1) × Closing l.initial.targets done l.targets × (length l.targets ≡ length l.initial.targets) × (done ≤ l.n)
