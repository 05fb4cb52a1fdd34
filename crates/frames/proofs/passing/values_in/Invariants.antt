-- What is still to be copied is what the links from the record reached on say.
use Prim.Native.Nat.{◌+◌, ◌-◌}
use mathlib.Core.Path.{◌≡◌}
use lib.ListN.{length, get_or}
use Rattle.language.specs.Format.{max_records}
use Rattle.plans.specs.Plan.{ins_from}
use Rattle.word_machine.specs.Tables.{slot_of, given_of}
use Rattle.word_machine.specs.Machine.{frame_words}
use Rattle.frames.specs.Passing.{CopiedAlong, passed_in}
use Rattle.frames.proofs.passing.values_in.Given as goal

abbrev pub invariant-loop-a : goal.invariant-loop-a
invariant-loop-a l =
    CopiedAlong (λ v. l.at + frame_words + slot_of v) (λ v. l.at + given_of v) (λ b. get_or l.plan (ins_from + b) 0) (passed_in l.plan l.i l.at l.initial.frames) l.a l.w l.frames × (length l.frames ≡ length l.initial.frames)

abbrev pub decreases-loop-a : goal.decreases-loop-a
decreases-loop-a l = max_records - l.a
