-- The runner on lists of words: what the code does, one function for each of its steps. `word` and `set` past the end read 0 and store nothing.
--
-- A frame is 136 words at 136 * k, k counting from 0 at the entry: word 0 the record of the next goal while the frame waits, word x the value of
-- variable x, word 64 + r the place of what region number r stands for, word 129 the record of the call that made the frame.
--
-- In an open condition (C-20) the run also keeps a log of what the condition did to cells and regions, the frame's 128 words as they were, and where the then and
-- the else part begin. A removal only goes into the log; its region goes when the condition has ended.
use Rattle.std.specs.Prelude.{ℕ, zero, suc, ◌+◌, ◌-◌, ◌*◌, Bool, true, false, List, [], ◌∷◌, eqb, ltb, ℤ, length, get_or, set, replicate, Option, Some, None}
use Rattle.std.specs.Int.{w32}
use Rattle.std.proofs.Common.{to_z}
use Rattle.sets.specs.Members.{members}
use Rattle.language.specs.declared.Stop.{Stop}
use Rattle.language.specs.declared.Stop.TheVariants.{Steps, Cells, Places, Frames, Prints, Sums}
use Rattle.language.specs.declared.Ending.{Ending}
use Rattle.language.specs.declared.Ending.TheVariants.{Finished, Stopped}
use Rattle.language.specs.Lists.{choose}
use Rattle.language.specs.File.{word, record_count}
use Rattle.language.specs.Program.{in_mode, out_mode}
use Rattle.language.specs.Numbers.{literal_number, residue, sum_number, in_range, less}
use Rattle.language.specs.Machine.{Lent, Room, holds, room_in}
use Rattle.language.specs.Format.{max_records, max_regions, term_functor, term_arguments, call_procedure, max_variables}
use Rattle.records.specs.Records.{record_at}
use Rattle.records.specs.declared.Record.{Record}
use Rattle.records.specs.declared.Record.TheVariants.{Header, «Type» as TypeOf, Functor, Procedure, Variable, Region, Edge, Literal, Sum, Assign, Construct, Switch, Arm, If, Call, Argument, Print, Create, Remove, Try, Test, Other}
use Rattle.chains.specs.Records.{chain_records}
use Rattle.memory.specs.declared.Contents.{Contents}
use Rattle.memory.specs.declared.Heap.{Heap}
use Rattle.memory.specs.Memory.{cell_words, region_words, constants_from, cell_word, empty_heap, created, created_regions, built, built_cells, built_regions, removed, removed_cells, removed_regions}
use Rattle.memory.specs.Log.{built_in, made_at, removed_at, entry, Stored, stored, undone, freed}
use Rattle.memory.specs.Moved.{moved}
use Rattle.word_machine.specs.Tables.{Tables, onto, slot_of, given_of}

-- the lent words and what a run keeps beside them: the newest frame's number, its next goal's record, and how many numbers are printed
pub record MachineWords : Type 0 where
  pub heap : Heap
  pub cells : List ℕ
  pub regions : List ℕ
  pub frames : List ℕ
  pub prints : List ℕ
  pub top : ℕ
  pub goal : ℕ
  pub printed : ℕ

-- ---- "136 a frame": the next goal, 64 values, what 64 region numbers stand for, the call
abbrev pub frame_words : ℕ
frame_words = 136

-- the word before that of region 1, the last region's, and the call's
abbrev pub regions_from : ℕ
regions_from = max_variables

abbrev pub regions_end : ℕ
regions_end = regions_from + max_regions

abbrev pub call_from : ℕ
call_from = regions_end + 1

-- "1 a printed number"
abbrev pub print_words : ℕ
print_words = 1

-- ---- words of frame k
abbrev pub goal_place : ℕ → ℕ
goal_place k = frame_words * k

abbrev pub value_place : ℕ → ℕ → ℕ
value_place k x = frame_words * k + x

abbrev pub region_place : ℕ → ℕ → ℕ
region_place k r = frame_words * k + regions_from + r

abbrev pub call_place : ℕ → ℕ
call_place k = frame_words * k + call_from

-- ---- numbers as words: "read as two's complement"
unfoldable pub literal_word : ℕ → ℕ
literal_word v = residue (literal_number v)

-- the sum or difference of the numbers of two words, of any size
unfoldable pub sum_of_words : ℕ → ℕ → ℕ → ℤ
sum_of_words o a b = sum_number o (to_z w32 a) (to_z w32 b)

-- ---- words of a frame copied to another: for each of a list, from its source to its target
unfoldable pub copied : (ℕ → ℕ) → (ℕ → ℕ) → List ℕ → List ℕ → List ℕ
copied to from [] fw = fw
copied to from (a ∷ as') fw = copied to from as' (set fw (to a) (get_or fw (from a) 0))

-- zero in the n words from place p on
unfoldable pub cleared : ℕ → ℕ → List ℕ → List ℕ
cleared p zero fw = fw
cleared p (suc n) fw = cleared (suc p) n (set fw p 0)

-- how many words are cleared where n values stand: 8, 16 or all 64
unfoldable pub blocks : ℕ → ℕ
blocks n = choose (ltb n 9) 8 (choose (ltb n 17) 16 max_variables)

-- the first record of a list, arms all, whose functor is k
unfoldable pub arm_of : List ℕ → ℕ → List ℕ → ℕ
arm_of f k [] = 0
arm_of f k (j ∷ js) = choose (eqb (word f j term_functor) k) j (arm_of f k js)

-- variables of the frame at `base` get words in turn, up to the first that is numbered 0 and stands for none
unfoldable pub gives_each : ℕ → List ℕ → List ℕ → List ℕ → List ℕ
gives_each base [] ws fw = fw
gives_each base (x ∷ xs) [] fw = fw
gives_each base (zero ∷ xs) (w ∷ ws) fw = fw
gives_each base (suc x ∷ xs) (w ∷ ws) fw = gives_each base xs ws (set fw (base + suc x) w)

-- ---- changes of a part
unfoldable pub with_frames : MachineWords → List ℕ → ℕ → MachineWords
with_frames w fw i = record { heap = w.heap; cells = w.cells; regions = w.regions; frames = fw; prints = w.prints; top = w.top; goal = i; printed = w.printed }

-- variable x gets a word, and record i is next
unfoldable pub given : MachineWords → ℕ → ℕ → ℕ → MachineWords
given w x v i = with_frames w (set w.frames (value_place w.top x) v) i

unfoldable pub value_of : MachineWords → ℕ → ℕ
value_of w x = get_or w.frames (value_place w.top x) 0

unfoldable pub region_for : MachineWords → ℕ → ℕ
region_for w r = get_or w.frames (region_place w.top r) 0

-- ---- an open condition: the log with its first `count` entries, the frame's words at the try, and the records where the then and the else part begin
pub record ConditionWords : Type 0 where
  pub words : MachineWords
  pub log : List ℕ
  pub count : ℕ
  pub own : List ℕ
  pub then' : ℕ
  pub else' : ℕ

-- what a step comes to: words outside conditions, in an open one, or a stop
pub data Went : Type 0 where
  went : MachineWords → Went
  opens : ConditionWords → Went
  stops : Stop → Went

unfoldable pub if_room : Bool → Stop → MachineWords → Went
if_room true c w = went w
if_room false c w = stops c

-- X gets a sum's word, and record i is next; out of range, the run stops (C-15)
unfoldable pub sums : MachineWords → ℕ → ℤ → ℕ → Went
sums w x z i = if_room (in_range z) Sums (given w x (residue z) i)

-- ---- conditions
unfoldable pub stored_in : MachineWords → Stored
stored_in w = stored w.heap w.cells w.regions

-- other cells and regions, other frames, and record i is next
unfoldable pub with_stored : MachineWords → Stored → List ℕ → ℕ → MachineWords
with_stored w s fw i =
    record { heap = s.heap; cells = s.cells; regions = s.regions; frames = fw; prints = w.prints; top = w.top; goal = i; printed = w.printed }

-- the words of variables and regions of frame k, saved from place 1 of `own` on, and put back
unfoldable pub saved_frame : ℕ → List ℕ → List ℕ → List ℕ
saved_frame k fw own = moved (frame_words * k + 1) 1 regions_end fw own

unfoldable pub put_back : ℕ → List ℕ → List ℕ → List ℕ
put_back k own fw = moved 1 (frame_words * k + 1) regions_end own fw

-- a try whose condition begins at record c, its parts at a and b
unfoldable pub tries : MachineWords → ℕ → ℕ → ℕ → ConditionWords
tries w c a b =
    record {
      words = with_frames w w.frames c;
      log = replicate max_records 0;
      count = 0;
      own = saved_frame w.top w.frames (replicate (suc regions_end) 0);
      then' = a;
      else' = b;
    }

-- a step in a condition that is not logged, and one that is
unfoldable pub in_words : ConditionWords → MachineWords → ConditionWords
in_words v w = record { words = w; log = v.log; count = v.count; own = v.own; then' = v.then'; else' = v.else' }

unfoldable pub logged : ConditionWords → MachineWords → ℕ → ConditionWords
logged v w e = record { words = w; log = set v.log v.count e; count = suc v.count; own = v.own; then' = v.then'; else' = v.else' }

-- a failing test: what was done is undone, and the else part is next
unfoldable pub fails : ConditionWords → MachineWords
fails v =
    with_stored v.words (undone v.log v.count (stored_in v.words)) (put_back v.words.top v.own v.words.frames) v.else'

-- the condition's end: what it removed goes, and the then part is next
unfoldable pub leaves : ConditionWords → MachineWords
leaves v = with_stored v.words (freed v.log v.count (stored_in v.words)) v.words.frames v.then'

-- a condition has ended where no goal of its own is next
unfoldable pub enters_at : ℕ → ConditionWords → Went
enters_at zero v = went (leaves v)
enters_at (suc i) v = opens v

unfoldable pub enters : ConditionWords → Went
enters v = enters_at v.words.goal v

unfoldable pub if_room_in : Bool → Stop → ConditionWords → Went
if_room_in true c v = enters v
if_room_in false c v = stops c

-- ---- constructs and creates: a construct without arguments gives a constant, any other a cell
-- a cell's words for functor k: the values of its arguments, up to the first that is numbered 0; behind them, what stands there
unfoldable pub term_of : (ℕ → ℕ) → (ℕ → ℕ) → ℕ → ℕ → ℕ → ℕ → ℕ → Contents
term_of value old k zero b c d = record { functor = k; a = old 1; b = old 2; c = old 3; d = old 4 }
term_of value old k (suc a) zero c d = record { functor = k; a = value (suc a); b = old 2; c = old 3; d = old 4 }
term_of value old k (suc a) (suc b) zero d = record { functor = k; a = value (suc a); b = value (suc b); c = old 3; d = old 4 }
term_of value old k (suc a) (suc b) (suc c) zero = record { functor = k; a = value (suc a); b = value (suc b); c = value (suc c); d = old 4 }
term_of value old k (suc a) (suc b) (suc c) (suc d) =
    record { functor = k; a = value (suc a); b = value (suc b); c = value (suc c); d = value (suc d) }

-- the words of the next cell to be made
unfoldable pub contents_of : MachineWords → ℕ → ℕ → ℕ → ℕ → ℕ → Contents
contents_of w k a b c d = term_of (value_of w) (λ n. cell_word w.cells w.heap.cells.head n) k a b c d

unfoldable pub constructed_by : MachineWords → ℕ → ℕ → List ℕ → List ℕ → Option (ℕ × Heap) → Went
constructed_by w x i m rs (Some (y, h)) =
    went (record { heap = h; cells = m; regions = rs; frames = set w.frames (value_place w.top x) y; prints = w.prints; top = w.top; goal = i; printed = w.printed })
constructed_by w x i m rs None = stops Cells

-- X gets a new cell in the region at place r, and record i is next
unfoldable pub constructed : MachineWords → ℕ → ℕ → ℕ → Contents → Went
constructed w x i r c =
    constructed_by w x i (built_cells w.heap w.cells w.regions r c) (built_regions w.heap w.cells w.regions r) (built w.heap w.cells)

-- X gets functor t with arguments a, b, c and d, up to the first that is numbered 0, in what region number r stands for
unfoldable pub constructs : MachineWords → ℕ → ℕ → ℕ → ℕ → ℕ → ℕ → ℕ → ℕ → Went
constructs w x i r t zero b c d = went (given w x (constants_from + t) i)
constructs w x i r t (suc a) b c d = constructed w x i (region_for w r) (contents_of w t (suc a) b c d)

unfoldable pub created_by : MachineWords → ℕ → ℕ → List ℕ → Option (ℕ × Heap) → Went
created_by w r i rs (Some (p, h)) =
    went (record { heap = h; cells = w.cells; regions = rs; frames = set w.frames (region_place w.top r) p; prints = w.prints; top = w.top; goal = i; printed = w.printed })
created_by w r i rs None = stops Places

unfoldable pub makes_region : MachineWords → ℕ → ℕ → Went
makes_region w r i = created_by w r i (created_regions w.heap w.regions) (created w.heap w.regions)

-- .. in a condition
unfoldable pub constructed_in : ConditionWords → ℕ → ℕ → ℕ → List ℕ → List ℕ → Option (ℕ × Heap) → Went
constructed_in v x i p m rs (Some (y, h)) =
    enters (logged v (with_stored v.words (stored h m rs) (set v.words.frames (value_place v.words.top x) y) i) (entry p built_in))
constructed_in v x i p m rs None = stops Cells

unfoldable pub constructs_in : ConditionWords → ℕ → ℕ → ℕ → ℕ → ℕ → ℕ → ℕ → ℕ → Went
constructs_in v x i r t zero b c d = enters (in_words v (given v.words x (constants_from + t) i))
constructs_in v x i r t (suc a) b c d =
    constructed_in v x i (region_for v.words r)
    (built_cells v.words.heap v.words.cells v.words.regions (region_for v.words r) (contents_of v.words t (suc a) b c d))
    (built_regions v.words.heap v.words.cells v.words.regions (region_for v.words r))
    (built v.words.heap v.words.cells)

unfoldable pub created_in : ConditionWords → ℕ → ℕ → List ℕ → Option (ℕ × Heap) → Went
created_in v r i rs (Some (p, h)) =
    enters (logged v (with_stored v.words (stored h v.words.cells rs) (set v.words.frames (region_place v.words.top r) p) i) (entry p made_at))
created_in v r i rs None = stops Places

unfoldable pub makes_region_in : ConditionWords → ℕ → ℕ → Went
makes_region_in v r i = created_in v r i (created_regions v.words.heap v.words.regions) (created v.words.heap v.words.regions)

-- "A removal in a condition frees nothing before the then part begins"
unfoldable pub drops_region_in : ConditionWords → ℕ → ℕ → ConditionWords
drops_region_in v p i = logged v (with_frames v.words v.words.frames i) (entry p removed_at)

-- the region at place p goes
unfoldable pub drops_region : MachineWords → ℕ → ℕ → MachineWords
drops_region w p i =
    record {
      heap = removed w.heap w.regions p;
      cells = removed_cells w.heap w.cells w.regions p;
      regions = removed_regions w.heap w.regions p;
      frames = w.frames;
      prints = w.prints;
      top = w.top;
      goal = i;
      printed = w.printed;
    }

unfoldable pub prints_word : MachineWords → ℕ → ℕ → MachineWords
prints_word w v i =
    record { heap = w.heap; cells = w.cells; regions = w.regions; frames = w.frames; prints = set w.prints w.printed v; top = w.top; goal = i; printed = suc w.printed }

-- how a run ends: after how many steps, with what words
pub record Outcome : Type 0 where
  pub ending : Ending
  pub done : ℕ
  pub words : MachineWords

unfoldable pub ended_with : Ending → ℕ → MachineWords → Outcome
ended_with e n w = record { ending = e; done = n; words = w }

unfoldable pub after_step : Went → (MachineWords → Outcome) → (ConditionWords → Outcome) → (Stop → Outcome) → Outcome
after_step (went w) onward inward halt = onward w
after_step (opens v) onward inward halt = inward v
after_step (stops c) onward inward halt = halt c

module _ (f : List ℕ) (T : Tables) where
  -- ---- a switch: the arm at record j, with the words of the cell at place p
  unfoldable pub arm_words : MachineWords → ℕ → ℕ → List ℕ
  arm_words w p j =
      gives_each (goal_place w.top) (word f j term_arguments ∷ word f j (term_arguments + 1) ∷ word f j (term_arguments + 2) ∷ word f j (term_arguments + 3) ∷ [])
      (cell_word w.cells p 1 ∷ cell_word w.cells p 2 ∷ cell_word w.cells p 3 ∷ cell_word w.cells p 4 ∷ []) w.frames

  unfoldable pub enters_arm : MachineWords → ℕ → ℕ → MachineWords
  enters_arm w p j = with_frames w (arm_words w p j) (T.entry j)

  -- X's word is a cell's place, or a constant, which has no words
  unfoldable pub switches_on : Bool → MachineWords → ℕ → ℕ → MachineWords
  switches_on true w v cs = enters_arm w v (arm_of f (cell_word w.cells v 0) (chain_records f cs))
  switches_on false w v cs = with_frames w w.frames (T.entry (arm_of f (v - constants_from) (chain_records f cs)))

  unfoldable pub switches : MachineWords → ℕ → ℕ → MachineWords
  switches w v cs = switches_on (ltb v constants_from) w v cs

  -- ---- a call at record i: the callee's frame k over the caller's, with its in values and what its dead and kept regions stand for
  unfoldable pub values_in : ℕ → ℕ → List ℕ → List ℕ
  values_in k i fw = copied (λ a. value_place (suc k) (slot_of a)) (λ a. value_place k (given_of a)) (T.passes in_mode i) fw

  unfoldable pub regions_in : ℕ → ℕ → List ℕ → List ℕ → List ℕ
  regions_in k i rs fw = copied (λ r. region_place (suc k) r) (λ r. region_place k (T.image i r)) rs fw

  unfoldable pub callee_words : ℕ → ℕ → ℕ → List ℕ → List ℕ
  callee_words k i q fw =
      regions_in k i (members (T.held q)) (values_in k i (cleared (suc (goal_place (suc k))) (blocks (T.size q)) (set (set fw (goal_place k) (T.successor i)) (call_place (suc k)) i)))

  unfoldable pub calls : MachineWords → ℕ → ℕ → MachineWords
  calls w i q =
      record {
        heap = w.heap;
        cells = w.cells;
        regions = w.regions;
        frames = callee_words w.top i q w.frames;
        prints = w.prints;
        top = suc w.top;
        goal = T.body q;
        printed = w.printed;
      }

  -- ---- a return to frame k: out values and born regions pass back to it
  unfoldable pub values_out : ℕ → ℕ → List ℕ → List ℕ
  values_out k i fw = copied (λ a. value_place k (given_of a)) (λ a. value_place (suc k) (slot_of a)) (T.passes out_mode i) fw

  unfoldable pub regions_out : ℕ → ℕ → List ℕ → List ℕ → List ℕ
  regions_out k i rs fw = copied (λ r. region_place k (T.image i r)) (λ r. region_place (suc k) r) rs fw

  -- the call at record i made frame suc k; nothing passes where the file has no such record
  unfoldable pub return_words : ℕ → ℕ → List ℕ → List ℕ
  return_words k i fw = choose (ltb i (record_count f)) (regions_out k i (members (T.bears (word f i call_procedure))) (values_out k i fw)) fw

  unfoldable pub returned : ℕ → MachineWords → MachineWords
  returned k w =
      record {
        heap = w.heap;
        cells = w.cells;
        regions = w.regions;
        frames = return_words k (get_or w.frames (call_place (suc k)) 0) w.frames;
        prints = w.prints;
        top = k;
        goal = get_or w.frames (goal_place k) 0;
        printed = w.printed;
      }

  -- "Whenever the newest frame has no goals left, it goes at once": k is the newest frame, i its next goal. Below the entry's there is none
  unfoldable pub settled_from : ℕ → ℕ → MachineWords → MachineWords
  settled_from zero i w = w
  settled_from (suc k) zero w = settled_from k (returned k w).goal (returned k w)
  settled_from (suc k) (suc i) w = w

  unfoldable pub settled : MachineWords → MachineWords
  settled w = settled_from w.top w.goal w

  unfoldable pub settled_if : Went → Went
  settled_if (went w) = went (settled w)
  settled_if (opens v) = opens v
  settled_if (stops c) = stops c

  -- ---- the goal at record i, in room k
  unfoldable pub steps : Room → ℕ → Record → MachineWords → Went
  steps k i (Literal n x v) w = went (given w x (literal_word v) (T.successor i))
  steps k i (Sum n x o y z) w = sums w x (sum_of_words o (value_of w y) (value_of w z)) (T.successor i)
  steps k i (Assign n x y) w = went (given w x (value_of w y) (T.successor i))
  steps k i (Construct n x t a b c d) w = constructs w x (T.successor i) (T.region i) t a b c d
  steps k i (Switch n x cs) w = went (switches w (value_of w x) cs)
  steps k i (If n y z a b) w =
      went (with_frames w w.frames (onto (choose (less (to_z w32 (value_of w y)) (to_z w32 (value_of w z))) a b) (T.successor i)))
  steps k i (Call n q ys) w = if_room (ltb (suc w.top) k.frames) Frames (calls w i q)
  steps k i (Print n y) w = if_room (ltb w.printed k.prints) Prints (prints_word w (value_of w y) (T.successor i))
  steps k i (Create n r) w = makes_region w r (T.successor i)
  steps k i (Remove n r) w = went (drops_region w (region_for w r) (T.successor i))
  steps k i (Try n c a b) w = enters (tries w c (onto a (T.successor i)) (onto b (T.successor i)))
  steps k i (Test n y z) w = went w
  steps k i (Header a b c) w = went w
  steps k i (TypeOf n fs) w = went w
  steps k i (Functor n a b c d e) w = went w
  steps k i (Procedure n a b c) w = went w
  steps k i (Variable n a b c) w = went w
  steps k i (Region n a b c) w = went w
  steps k i (Edge n a b c) w = went w
  steps k i (Arm n g t a b c d) w = went w
  steps k i (Argument n y) w = went w
  steps k i Other w = went w

  unfoldable pub stepped : Room → ℕ → MachineWords → Went
  stepped k i w = settled_if (steps k i (record_at f i) w)

  -- ---- the goal at record i, in an open condition; number 2 sees to it that no other kind stands there
  unfoldable pub steps_in : ℕ → Record → ConditionWords → Went
  steps_in i (Literal n x v) c = enters (in_words c (given c.words x (literal_word v) (T.successor i)))
  steps_in i (Sum n x o y z) c =
      if_room_in (in_range (sum_of_words o (value_of c.words y) (value_of c.words z))) Sums
      (in_words c (given c.words x (residue (sum_of_words o (value_of c.words y) (value_of c.words z))) (T.successor i)))
  steps_in i (Assign n x y) c = enters (in_words c (given c.words x (value_of c.words y) (T.successor i)))
  steps_in i (Construct n x t a b d e) c = constructs_in c x (T.successor i) (T.region i) t a b d e
  steps_in i (Switch n x cs) c = enters (in_words c (switches c.words (value_of c.words x) cs))
  steps_in i (Create n r) c = makes_region_in c r (T.successor i)
  steps_in i (Remove n r) c = enters (drops_region_in c (region_for c.words r) (T.successor i))
  steps_in i (Test n y z) c =
      choose (less (to_z w32 (value_of c.words y)) (to_z w32 (value_of c.words z)))
      (enters (in_words c (with_frames c.words c.words.frames (T.successor i)))) (went (fails c))
  steps_in i (If n y z a b) c = opens c
  steps_in i (Call n q ys) c = opens c
  steps_in i (Print n y) c = opens c
  steps_in i (Try n s a b) c = opens c
  steps_in i (Header a b d) c = opens c
  steps_in i (TypeOf n fs) c = opens c
  steps_in i (Functor n a b d e g) c = opens c
  steps_in i (Procedure n a b d) c = opens c
  steps_in i (Variable n a b d) c = opens c
  steps_in i (Region n a b d) c = opens c
  steps_in i (Edge n a b d) c = opens c
  steps_in i (Arm n g t a b d e) c = opens c
  steps_in i (Argument n y) c = opens c
  steps_in i Other c = opens c

  unfoldable pub stepped_in : ℕ → ConditionWords → Went
  stepped_in i c = settled_if (steps_in i (record_at f i) c)

  -- ---- the run: l steps are left, record i is next, n steps are done. "An ended run is finished before 10 is looked at"
  unfoldable mutual
    pub run_on : Room → ℕ → ℕ → ℕ → MachineWords → Outcome
    run_on k zero zero n w = ended_with Finished n w
    run_on k zero (suc i) n w = ended_with (Stopped Steps) n w
    run_on k (suc l) zero n w = ended_with Finished n w
    run_on k (suc l) (suc i) n w =
        after_step (stepped k (suc i) w) (λ v. run_on k l v.goal (suc n) v) (λ c. run_in k l (suc n) c) (λ s. ended_with (Stopped s) n w)

    -- .. in an open condition, which has a goal
    pub run_in : Room → ℕ → ℕ → ConditionWords → Outcome
    run_in k zero n c = ended_with (Stopped Steps) n c.words
    run_in k (suc l) n c =
        after_step (stepped_in c.words.goal c) (λ v. run_on k l v.goal (suc n) v) (λ d. run_in k l (suc n) d) (λ s. ended_with (Stopped s) n c.words)

  -- nothing made, the entry's frame alone
  unfoldable pub start_words : List ℕ → List ℕ → List ℕ → List ℕ → MachineWords
  start_words m rs fw ps =
      record {
        heap = empty_heap (holds (length m) cell_words) (holds (length rs) region_words);
        cells = m;
        regions = rs;
        frames = cleared 1 (blocks (T.size 0)) fw;
        prints = ps;
        top = 0;
        goal = T.body 0;
        printed = 0;
      }

  -- nothing made and no frame
  unfoldable pub no_frame : List ℕ → List ℕ → List ℕ → List ℕ → MachineWords
  no_frame m rs fw ps =
      record { heap = empty_heap (holds (length m) cell_words) (holds (length rs) region_words); cells = m; regions = rs; frames = fw; prints = ps; top = 0; goal = 0; printed = 0 }

  unfoldable pub run_from : Bool → Room → ℕ → List ℕ → List ℕ → List ℕ → List ℕ → Outcome
  run_from true k l m rs fw ps = run_on k l (start_words m rs fw ps).goal 0 (start_words m rs fw ps)
  run_from false k l m rs fw ps = ended_with (Stopped Frames) 0 (no_frame m rs fw ps)

-- what is lent, by its length
unfoldable pub lent_words : List ℕ → List ℕ → List ℕ → List ℕ → ℕ → Lent
lent_words m rs fw ps l = record { cell_words = length m; region_words = length rs; frame_words = length fw; print_words = length ps; steps = l }

-- a run in lent words for cells, regions, frames and printed numbers
unfoldable pub word_run : List ℕ → Tables → List ℕ → List ℕ → List ℕ → List ℕ → ℕ → Outcome
word_run f T m rs fw ps l = run_from f T (ltb 0 (room_in (lent_words m rs fw ps l)).frames) (room_in (lent_words m rs fw ps l)) l m rs fw ps
