-- A try: its condition begins, with the words as they are, and what a failing test goes back to is saved.
use Rattle.std.specs.Prelude.{ℕ, zero, suc, ◌≤◌, ◌≡◌, List, replicate}
use Rattle.std.proofs.Common.{arith, ◌∙◌}
use Rattle.std.proofs.Math.Path.{refl}
use Rattle.std.proofs.Math.ListN.{length-replicate}
use Rattle.language.specs.Format.{max_records}
use Rattle.language.specs.Program.{done, try, ◌before◌}
use Rattle.language.specs.Frames.{closed, ahead, with_goals}
use Rattle.language.specs.AcceptedRun.{RegionFrame, Memory, with_frame, going}
use Rattle.language.specs.AcceptedRun as Run
use Rattle.language.specs.Machine.{Room, goes}
use Rattle.language.specs.Answers.{program}
use Rattle.laws.specs.Goals.{before_done}
use Rattle.layout.specs.Sizes.{goals_size}
use Rattle.records.specs.Records.{record_at}
use Rattle.records.specs.declared.Record.TheVariants.{Try}
use Rattle.chains.specs.Formed.{Formed, goals_at}
use Rattle.chains.specs.Parts.{try_at}
use Rattle.safety.specs.Premises.{Accepted}
use Rattle.word_machine.specs.Tables.{Tables, Tabled, onto}
use Rattle.word_machine.specs.Machine.{regions_end, MachineWords, with_frames, stored_in, tries, enters}
use Rattle.word_machine.specs.Successors.{Todo, todo_none, todo_before}
use Rattle.word_machine.specs.Relation.{where_in, FrameOk, Waiting, MemoryStored}
use Rattle.word_machine.specs.Stepping.{frame_goals}
use Rattle.word_machine.specs.Inside.{Kept, tries_at, try_opens}
use Rattle.word_machine.specs.InCondition.{keeping, Opening}
use Rattle.word_machine.specs.Steps.{After}
use Rattle.word_machine.specs.Entering.{entering}

onto_end : (c : ℕ) → onto c 0 ≡ c
unfolding onto
onto_end zero = refl
onto_end (suc c) = refl

module _ {f : List ℕ} {T : Tables} (B : Tabled f T) (A : Accepted (program f)) (F : Formed f) (K : Room) (qs : List ℕ) (w : MachineWords) (u : RegionFrame)
    (fs : List RegionFrame) (m : Memory) (ρ χ : ℕ → ℕ) (i : ℕ) (mine : B.owner i ≡ u.frame.procedure)
    (G : FrameOk B w.frames w.top (where_in m ρ χ) (T.successor i) u)
    (W : Waiting B w.frames (where_in m ρ χ) u.frame.procedure u.frame.arguments w.top fs) (Q : MemoryStored K qs w m ρ χ)
    (n c a b : ℕ) (is : record_at f i ≡ Try n c a b) where
  condition_todo : Todo B u.frame.procedure c (goals_at f c)
  condition_todo =
      rw (onto_end c, before_done (goals_at f c)) at (todo_before B F u.frame.procedure 0 done (todo_none refl refl) c (try_at F refl is).to_condition.stands
      (λ z. let t = B.try_condition_law i n c a b is z in (t.0, t.1 ∙ mine)))

  then_todo : Todo B u.frame.procedure (onto a (T.successor i)) (goals_at f a before u.frame.goals)
  then_todo = todo_before B F _ _ _ G.todo a (try_at F refl is).to_then.stands (λ z. let t = B.try_then_law i n c a b is z in (t.0, t.1 ∙ mine))

  else_todo : Todo B u.frame.procedure (onto b (T.successor i)) (goals_at f b before u.frame.goals)
  else_todo = todo_before B F _ _ _ G.todo b (try_at F refl is).to_else.stands (λ z. let t = B.try_else_law i n c a b is z in (t.0, t.1 ∙ mine))

  -- the words before the try
  abbrev outer : Kept
  outer =
      record {
        store = stored_in w;
        log = replicate max_records 0;
        count = 0;
        own = replicate (suc regions_end) 0;
        frames = w.frames;
        top = w.top;
        goal = T.successor i;
      }

  opening_tried : goals_size (goals_at f c) ≤ max_records
      → Opening B K qs (tries w c (onto a (T.successor i)) (onto b (T.successor i))) (going u (goals_at f c)) fs m (goals_at f a before u.frame.goals)
      (going u (goals_at f b before u.frame.goals)) m
  unfolding tries with_frames stored_in tries_at with_frame with_goals
  opening_tried short = record {
    inside =
        try_opens (FrameOk B) (Waiting B) (keeping B) K {w = outer} {f = u}
        (record { region_at = ρ; cell_at = χ; memory = Q.represents; fits = G.fits; newest = G; waiting = W }) (omega (arith, length-replicate {A = ℕ} (suc regions_end) 0)) (frame_goals B A G condition_todo)
        (frame_goals B A G else_todo) (refl, refl) (refl, refl);
    follows = then_todo;
    room = omega (arith, short);
    long = length-replicate {A = ℕ} max_records 0;
    cell_room = Q.cell_room;
    printed = Q.printed;
    frame_room = Q.frame_room;
    print_room = Q.print_room;
  }

  pub try_after : goals_size (goals_at f c) ≤ max_records
      → After B A F K qs closed (try (goals_at f c) (goals_at f a) (goals_at f b)) u fs m goes (enters (tries w c (onto a (T.successor i)) (onto b (T.successor i))))
  unfolding Run.take ahead
  try_after short = entering B A F K qs (opening_tried short) refl
