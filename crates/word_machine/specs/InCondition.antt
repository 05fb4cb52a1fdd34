-- The words of an open condition stand for a state of the definition's run: what goes on, what follows the condition, and what a failing test goes back to.
use Rattle.std.specs.Prelude.{ℕ, ◌+◌, ◌*◌, ◌≤◌, ◌≡◌, List, ◌∷◌, length}
use Rattle.language.specs.Format.{max_records}
use Rattle.language.specs.Program.{Goals}
use Rattle.language.specs.Frames.{opened}
use Rattle.language.specs.AcceptedRun.{RegionFrame, Memory, State}
use Rattle.language.specs.Machine.{Room}
use Rattle.memory.specs.Memory.{most}
use Rattle.layout.specs.Sizes.{goals_size}
use Rattle.word_machine.specs.Tables.{Tables, Tabled}
use Rattle.word_machine.specs.Machine.{frame_words, ConditionWords, stored_in}
use Rattle.word_machine.specs.Printing.{Printed}
use Rattle.word_machine.specs.Successors.{Todo}
use Rattle.word_machine.specs.Relation.{FrameOk, Waiting, frame_later, waiting_later}
use Rattle.word_machine.specs.Back.{Keeping}
use Rattle.word_machine.specs.Inside.{Kept, Inside}

-- the state in an open condition, which has a goal: u is the newest frame, with the condition's own goals
abbrev pub open_state : RegionFrame → List RegionFrame → Memory → Goals → RegionFrame → Memory → State
open_state u fs m a e n = record { frames = u ∷ fs; memory = m; condition = opened a e n }

abbrev pub kept : ConditionWords → Kept
kept v =
    record {
      store = stored_in v.words;
      log = v.log;
      count = v.count;
      own = v.own;
      frames = v.words.frames;
      top = v.words.top;
      goal = v.words.goal;
    }

module _ {f : List ℕ} {T : Tables} (B : Tabled f T) where
  pub keeping : Keeping (FrameOk B) (Waiting B)
  keeping = record {
    frame_later = λ L L' t fw fw' long k i e same G. frame_later B t long same G;
    waiting_later = λ L L' t fw fw' long q k zs fs same call W. waiting_later B t long same call W;
  }

  -- a are the goals that follow the condition; a failing test goes on with e and memory n. Entries of the log and goals left are no more than a file has records
  pub record Opening (K : Room) (qs : List ℕ) (v : ConditionWords) (u : RegionFrame) (fs : List RegionFrame) (m : Memory) (a : Goals) (e : RegionFrame) (n : Memory) : Type 0 where
    pub inside : Inside (FrameOk B) (Waiting B) keeping K (kept v) u fs m v.else' e n
    pub follows : Todo B u.frame.procedure v.then' a
    pub room : v.count + goals_size u.frame.goals ≤ max_records
    pub long : length v.log ≡ max_records
    pub cell_room : K.cells ≤ most
    pub printed : Printed qs v.words.prints v.words.printed m.printed
    pub frame_room : frame_words * K.frames ≤ length v.words.frames
    pub print_room : K.prints ≤ length v.words.prints
