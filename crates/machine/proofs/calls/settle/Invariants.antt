-- What is returned from so far and the returns still to come make the whole.
use Prim.Native.Nat.{ℕ, ◌+◌, ◌*◌, ◌≤◌}
use mathlib.Core.Path.{◌≡◌}
use mathlib.Core.List.{List}
use lib.ListN.{length}
use Rattle.memory.specs.declared.Heap.{Heap}
use Rattle.plans.specs.Plan.{tables_in}
use Rattle.word_machine.specs.Machine.{frame_words, settled_from, settled}
use Rattle.machine.specs.Words.{words_of}
use Rattle.machine.proofs.calls.settle.Given as goal

abbrev pub invariant-loop-goal : goal.invariant-loop-goal
invariant-loop-goal l =
    ((h : Heap) (m rs ps : List ℕ)
    → settled_from l.file (tables_in l.plan l.images l.callees) l.top l.goal (words_of h m rs l.frames ps (record { top = l.top; at = l.at; goal = l.goal; printed = l.printed }))
    ≡ settled l.file (tables_in l.plan l.images l.callees) (words_of h m rs l.initial.frames ps (record { top = l.initial.top; at = l.initial.at; goal = l.initial.goal; printed = l.printed })))
    × (length l.frames ≡ length l.initial.frames) × (l.at ≡ frame_words * l.top) × (l.at + frame_words ≤ length l.frames)

abbrev pub decreases-loop-goal : goal.decreases-loop-goal
decreases-loop-goal l = l.top
