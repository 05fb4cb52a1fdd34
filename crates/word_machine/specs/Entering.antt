-- A condition that a step has opened, or gone on in: it still has a goal, or it has ended, and what follows it is next.
use Prim.Native.Nat.{ℕ, zero, suc}
use Rattle.std.specs.Prelude.{◌≡◌, List}
use Rattle.std.proofs.Math.Path.{refl, sym, ap}
use Rattle.std.proofs.Common.{◌∙◌}
use Rattle.language.specs.Program.{Goals, done, ◌then◌, Goal}
use Rattle.language.specs.Frames.{Condition, opened, with_goals}
use Rattle.language.specs.AcceptedRun.{RegionFrame, Memory, with_frame, going, within, state_in}
use Rattle.language.specs.AcceptedRun as Run
use Rattle.language.specs.Machine.{Room, goes}
use Rattle.language.specs.Answers.{program}
use Rattle.chains.specs.Formed.{Formed}
use Rattle.safety.specs.Premises.{Accepted}
use Rattle.word_machine.specs.Tables.{Tables, Tabled}
use Rattle.word_machine.specs.Machine.{ConditionWords, with_stored, leaves, enters_at, enters}
use Rattle.word_machine.specs.Successors.{todo_end, todo_next}
use Rattle.word_machine.specs.Relation.{where_in, FrameOk, Waiting, Running, MemoryStored}
use Rattle.word_machine.specs.Stepping.{frame_goals}
use Rattle.word_machine.specs.Inside.{ends_to, Outside, condition_ends}
use Rattle.word_machine.specs.InCondition.{keeping, kept, Opening}
use Rattle.word_machine.specs.Steps.{After, onward, inward}

some_record : (i : ℕ) → (i ≡ 0 → ⊥) → (j : ℕ) × (i ≡ suc j)
some_record zero z = absurd (z refl)
some_record (suc i) z = (i, refl)

module _ {f : List ℕ} {T : Tables} (B : Tabled f T) (A : Accepted (program f)) (F : Formed f) (K : Room) (qs : List ℕ)
    {v : ConditionWords} {t : RegionFrame} {fs : List RegionFrame} {o : Memory} {a : Goals} {e : RegionFrame} {n : Memory} (J : Opening B K qs v t fs o a e n) where
  -- the frame with the goals that follow
  ends : Outside (FrameOk B) (Waiting B) (keeping B) K (ends_to (kept v) v.then') (going t a) fs o
  unfolding with_frame with_goals
  ends = condition_ends (FrameOk B) (Waiting B) (keeping B) K J.inside v.then' (going t a) (frame_goals B A J.inside.newest J.follows) (refl, refl)

  left_running : Running B (leaves v) (where_in o ends.region_at ends.cell_at) (going t a) fs
  unfolding leaves with_stored ends_to
  left_running = record { newest = ends.newest; waiting = ends.waiting }

  left_stored : MemoryStored K qs (leaves v) o ends.region_at ends.cell_at
  unfolding leaves with_stored ends_to
  left_stored = record { represents = ends.memory; cell_room = J.cell_room; printed = J.printed; frame_room = J.frame_room; print_room = J.print_room }

  module _ {k : Condition RegionFrame Memory} {g : Goal} {u : RegionFrame} {es : List RegionFrame} {m : Memory}
      (p : Run.take (program f) k g u es m ≡ state_in (program f) (opened a e n) t fs o) where
    entering_by : (gs : Goals) → t.frame.goals ≡ gs → (i : ℕ) → v.words.goal ≡ i → After B A F K qs k g u es m goes (enters_at i v)
    unfolding state_in within enters_at
    entering_by done q i z =
        let c : i ≡ 0 = sym z ∙ todo_end B J.inside.newest.todo q in
        rw c (onward (p ∙ ap (λ gs. within (program f) (opened a e n) gs t fs o) q) left_running left_stored)
    entering_by (h then hs) q zero z = absurd ((todo_next B J.inside.newest.todo h hs q).some z)
    entering_by (h then hs) q (suc i) z = inward (p ∙ ap (λ gs. within (program f) (opened a e n) gs t fs o) q) (i, z) J

    pub entering : After B A F K qs k g u es m goes (enters v)
    unfolding enters
    entering = entering_by t.frame.goals refl v.words.goal refl
