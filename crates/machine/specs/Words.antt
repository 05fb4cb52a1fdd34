-- What the code keeps and answers, as the machine on lists of words has it.
use Rattle.std.specs.Prelude.{ℕ, ◌+◌, ◌*◌, ◌≤◌, ◌≡◌, Bool, true, false, List, ◌⊎◌, length, Result, Ok, Err}
use Rattle.language.specs.declared.Stop.{Stop}
use Rattle.language.specs.declared.Stop.TheVariants.{Steps}
use Rattle.language.specs.Format.{construct_kind, create_kind, remove_kind}
use Rattle.language.specs.Machine.{Room, holds}
use Rattle.memory.specs.declared.Heap.{Heap}
use Rattle.records.specs.Records.{record_at}
use Rattle.chains.specs.Shapes.{IsTry}
use Rattle.word_machine.specs.Tables.{Tables}
use Rattle.word_machine.specs.Machine.{print_words, MachineWords, Went, went, stops, frame_words, steps}
use Rattle.machine.specs.declared.State.{State}
use Rattle.machine.specs.declared.Step.{Step}
use Rattle.machine.specs.declared.Step.TheVariants.{Went as WentTo, Tries}

-- the newest frame's words start at their place, and n words have them all
pub record FramePlaced (s : State) (n : ℕ) : Type 0 where
  pub place : s.at ≡ frame_words * s.top
  pub fits : s.at + frame_words ≤ n

-- h is the heap; m, rs, fw and ps are the words lent for cells, regions, frames and printed numbers
unfoldable pub words_of : Heap → List ℕ → List ℕ → List ℕ → List ℕ → State → MachineWords
words_of h m rs fw ps s = record { heap = h; cells = m; regions = rs; frames = fw; prints = ps; top = s.top; goal = s.goal; printed = s.printed }

-- what an answer stands for; a try is only told
unfoldable pub came_to : Result Step Stop → Heap → List ℕ → List ℕ → List ℕ → List ℕ → Went
came_to (Ok (WentTo s)) h m rs fw ps = went (words_of h m rs fw ps s)
came_to (Err c) h m rs fw ps = stops c
came_to (Ok Tries) h m rs fw ps = stops Steps

-- The goal at state s, one that leaves cells, regions and the heap alone, is carried out, whatever those are: r is the answer, fx and px the words of
-- frames and printed numbers afterwards, which are as before where it stops.
pub record Goes (f : List ℕ) (T : Tables) (s : State) (m fw ps : List ℕ) (r : Result Step Stop) (fx px : List ℕ) : Type 0 where
  pub comes : (k : Room) (h : Heap) (rs : List ℕ) → k.frames ≡ holds (length fw) frame_words → k.prints ≡ holds (length ps) print_words
      → came_to r h m rs fx px ≡ steps f T k s.goal (record_at f s.goal) (words_of h m rs fw ps s)
  pub kept : (c : Stop) → r ≡ Err c → (fx ≡ fw) × (px ≡ ps)
  pub stays : (v : State) → r ≡ Ok (WentTo v) → FramePlaced v (length fw)
  pub done : r ≡ Ok Tries → ⊥

-- .. or it is a try, which is told and not done
pub record GoesOrTries (f : List ℕ) (T : Tables) (s : State) (m fw ps : List ℕ) (r : Result Step Stop) (fx px : List ℕ) : Type 0 where
  pub goes : (r ≡ Ok Tries → ⊥) → Goes f T s m fw ps r fx px
  pub tries : r ≡ Ok Tries → IsTry f s.goal × (fx ≡ fw) × (px ≡ ps)

-- whether goals of the kind w change the heap: constructs with arguments, creates and removes
abbrev pub Changes : ℕ → Bool → Type 0
Changes w true = (w ≡ construct_kind) ⊎ ((w ≡ create_kind) ⊎ (w ≡ remove_kind))
Changes w false = (w ≡ construct_kind → ⊥) × (w ≡ create_kind → ⊥) × (w ≡ remove_kind → ⊥)

-- what their answer stands for, v being the state afterwards
unfoldable pub heap_came_to : Result Heap Stop → List ℕ → List ℕ → List ℕ → List ℕ → State → Went
heap_came_to (Ok h) m rs fw ps v = went (words_of h m rs fw ps v)
heap_came_to (Err c) m rs fw ps v = stops c

-- the state after a goal that changes neither the newest frame nor what is printed
abbrev pub onward_to : State → ℕ → State
onward_to s i = record { top = s.top; at = s.at; goal = i; printed = s.printed }

-- Such a goal is carried out, whatever is printed: m, rs and fw are the words of cells, regions and frames before, those with ₁ afterwards; where it
-- stops, nothing has changed.
pub record HeapGoes (f : List ℕ) (T : Tables) (s : State) (h : Heap) (m rs fw : List ℕ) (r : Result Heap Stop) (m₁ rs₁ fw₁ : List ℕ) : Type 0 where
  pub comes : (k : Room) (ps : List ℕ) (next : ℕ) → next ≡ T.successor s.goal
      → heap_came_to r m₁ rs₁ fw₁ ps (onward_to s next) ≡ steps f T k s.goal (record_at f s.goal) (words_of h m rs fw ps s)
  pub kept : (c : Stop) → r ≡ Err c → (m₁ ≡ m) × (rs₁ ≡ rs) × (fw₁ ≡ fw)

pub onward_placed : {s : State} {n : ℕ} (i : ℕ) → FramePlaced s n → FramePlaced (onward_to s i) n
onward_placed i D = record { place = D.place; fits = D.fits }
