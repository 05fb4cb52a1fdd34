use Prim.Native.Nat.{◌≤◌}
use mathlib.Core.Path.{◌≡◌}
use Rattle.language.specs.File.{record_count}
use Rattle.called.specs.Linked.{LinkedUpTo, KeptFrom}
use Rattle.called.proofs.linking.link_calls.Given as goal

abbrev pub invariant-loop-i : goal.invariant-loop-i
invariant-loop-i l =
    (l.n ≡ record_count l.file) × (1 ≤ l.i) × (l.i ≤ l.n) × (LinkedUpTo l.file l.i l.links l.lasts × KeptFrom l.file l.initial.links l.i l.links)
