-- The goals of an open condition, as the words do them and as the definition does: both stop, for the same cause, or both go on, in the condition or behind it.
use Rattle.std.specs.Prelude.{ℕ, suc, ◌+◌, ◌*◌, ◌≤◌, ◌<◌, ◌≡◌, Bool, ltb, length, set, Option, Some, None}
use native.Mathlib.Omega.{arith}
use Rattle.std.proofs.Math.Path.{refl, sym}
use Rattle.std.proofs.Common.{◌∙◌, inl, inr, to_z}
use Rattle.std.proofs.Math.Bool.{true, false}
use Rattle.std.proofs.lemmas.Bool.{false≢true}
use mathlib.Core.List.{List, [], map}
use Rattle.std.proofs.Math.ListN.{length-set}
use Rattle.std.specs.Int.{w32}
use Rattle.sets.specs.Tests.{◌or◌}
use Rattle.sets.specs.Members.{in_list}
use Rattle.language.specs.declared.Stop.TheVariants.{Cells, Places, Sums}
use Rattle.language.specs.Lists.{choose, put, is_none}
use Rattle.language.specs.Format.{max_records}
use Rattle.language.specs.Numbers.{residue, in_range, less}
use Rattle.language.specs.Program.{four, four_words, trim_onto, trimmed, arguments_of, literal, sum, assign, construct, create, remove, test, Goals, ◌then◌, Goal, Step, step, switch, region_of}
use Rattle.language.specs.Typing.{is_variable, is_region}
use Rattle.language.specs.Frames.{Value, numeral, cell_at, constant, Cell, Condition, opened, less_in, giving, with_goals, literal_in, sum_of, sum_in, assign_in, cell_for, built_value, build_in, cell_in, open_cell}
use Rattle.language.specs.AcceptedRun.{RegionFrame, RegionCell, Memory, lies_in, readable, cell_of, with_cell, with_built, with_region, without_region, restored, with_frame, region_for, going, state, within, state_in, failed}
use Rattle.language.specs.AcceptedRun as Run
use Rattle.language.specs.Machine.{Room, goes, room_or, cells_held, regions_held, counted_in}
use Rattle.language.specs.Answers.{program}
use Rattle.laws.specs.Choices.{put_same}
use Rattle.layout.specs.Sizes.{goals_size}
use Rattle.chains.specs.Formed.{Formed, arms_at}
use Rattle.records.specs.Records.{record_at}
use Rattle.records.specs.declared.Record.TheVariants.{Switch}
use Rattle.safety.specs.Premises.{Accepted, laws}
use Rattle.region_graph.specs.Shared.{variable_top, region_top}
use Rattle.memory.specs.declared.Contents.{Contents}
use Rattle.memory.specs.Memory.{constants_from, built, built_cells, built_regions, created, created_regions}
use Rattle.memory.specs.declared.Heap.{Heap}
use Rattle.memory.specs.Log.{built_in, made_at, entry, stored}
use Rattle.heap.specs.Words.{words_of}
use Rattle.heap.specs.Standing as Standing
use Rattle.heap.specs.Standing.{StandsFor, StandEach, stands_new}
use Rattle.heap.proofs.LoggedLaws.{alike}
use Rattle.heap.proofs.Conditions.{Opened, CreatesIn, creates_in, BuildsIn, builds_in, held_alive, same_made, same_cells}
use Rattle.heap.proofs.Conditions as C
use Rattle.word_machine.specs.Tables.{Tables, Tabled}
use Rattle.word_machine.specs.Machine.{frame_words, regions_end, regions_from, MachineWords, ConditionWords, value_place, region_place, literal_word, sum_of_words, with_frames, given, value_of, stored_in, with_stored, in_words, logged, fails, enters, if_room_in, contents_of, constructed_in, constructs_in, created_in, makes_region_in, drops_region_in, switches, went}
use Rattle.word_machine.specs.Machine as W
use Rattle.word_machine.specs.Trimmed.{first_argument}
use Rattle.word_machine.specs.Numbers.{range_word, literal_word_law}
use Rattle.word_machine.specs.Premises.{Number, ArmFits}
use Rattle.word_machine.specs.Successors.{Todo, GoalOnward, todo_next}
use Rattle.word_machine.specs.Relation.{Where, where_in, Means, Names, sig, FrameOk, Waiting, Running, MemoryStored}
use Rattle.word_machine.specs.Stepping.{frame_goals, frame_more, waiting_more, set_frame, set_waiting, name_frame, name_waiting}
use Rattle.word_machine.specs.Back.{still_words}
use Rattle.word_machine.specs.Inside.{Outside, gives_to, logs_to, fails_to, put_fits, gives_inside, words_inside, goes_inside, remove_inside, later_region, later_cell, create_inside, construct_inside, test_fails}
use Rattle.word_machine.specs.Sized.{log_room, arm_size}
use Rattle.word_machine.specs.InCondition.{keeping, kept, Opening}
use Rattle.word_machine.specs.Steps.{After, onward, halts, value_means, value_number}
use Rattle.word_machine.specs.MemorySteps.{region_word, argument_words_law, functor_word}
use Rattle.word_machine.specs.ControlSteps.{Switched, switched}
use Rattle.word_machine.specs.Entering.{entering}

module _ {f : List ℕ} {T : Tables} (B : Tabled f T) (A : Accepted (program f)) (F : Formed f) (K : Room) (qs : List ℕ) (v : ConditionWords) (t : RegionFrame)
    (fs : List RegionFrame) (m : Memory) (a : Goals) (e : RegionFrame) (n : Memory) (J : Opening B K qs v t fs m a e n) (g : Goal) (rest : Goals)
    (q : t.frame.goals ≡ g then rest) where
  abbrev k : Condition RegionFrame Memory
  k = opened a e n

  abbrev w : MachineWords
  w = v.words

  abbrev i : ℕ
  i = v.words.goal

  abbrev ρ : ℕ → ℕ
  ρ = J.inside.region_at

  abbrev χ : ℕ → ℕ
  χ = J.inside.cell_at

  abbrev L : Where
  L = where_in m ρ χ

  -- the frame without its goal
  abbrev u : RegionFrame
  u = with_frame t (with_goals t.frame rest)

  pub O : GoalOnward B t.frame.procedure i g rest
  O = todo_next B J.inside.newest.todo g rest q

  G : FrameOk B w.frames w.top L (T.successor i) u
  G = frame_goals B A J.inside.newest O.then'

  W' : Waiting B w.frames L u.frame.procedure u.frame.arguments w.top fs
  unfolding with_frame with_goals
  W' = J.inside.waiting

  -- the memory that the words stand for: what the condition removed is still there
  abbrev M : Memory
  M = record { cells = m.cells; made = m.made; alive = J.inside.memory.held.alive; printed = m.printed }

  Q : MemoryStored K qs w M ρ χ
  unfolding stored_in
  Q = record {
    represents =
        alike K w.heap w.cells w.regions ρ χ J.inside.memory.held M (sym (same_cells J.inside.memory)) (sym (same_made J.inside.memory)) (λ r. refl)
        J.inside.memory.stands;
    cell_room = J.cell_room;
    printed = J.printed;
    frame_room = J.frame_room;
    print_room = J.print_room;
  }

  alive_still : (r : ℕ) → m.alive r ≡ true → M.alive r ≡ true
  alive_still r l = held_alive J.inside.memory r l

  readable_still : (b : Value) → readable m b ≡ true → readable M b ≡ true
  unfolding readable
  readable_still (numeral z) l = absurd (false≢true l)
  readable_still (cell_at c) l = alive_still (lies_in m.cells c) l
  readable_still (constant c) l = refl

  -- ---- room in the log, where the goal is a step
  size : v.count + goals_size (g then rest) ≤ max_records
  size = rw (← q) J.room

  module _ (s : Step) (z : g ≡ step s) where
    room_more : (v.count < max_records) × (suc v.count + goals_size rest ≤ max_records)
    room_more = log_room max_records v.count s rest (rw z at size)

    pub log_fits : v.count < length v.log
    log_fits = rw J.long room_more.0

  -- ---- a goal that gives variable x the word b, which stands for c
  module _ (s : Step) (z : g ≡ step s) where
    opening_given : (x b : ℕ) (c : Value) → is_variable (sig f u.frame.procedure) x ≡ true → Means L b c
        → Opening B K qs (in_words v (given w x b (T.successor i))) (with_frame u (giving u.frame x c)) fs m a e n
    unfolding in_words given with_frames stored_in gives_to with_frame with_goals giving
    opening_given x b c o h =
        let r = variable_top _ _ (laws A t.frame.procedure) x o in
        record {
          inside =
              gives_inside (FrameOk B) (Waiting B) (keeping B) K J.inside (T.successor i) x b (with_frame u (giving u.frame x c)) r.0 (omega (arith, r.1))
              (set_frame B A G x o b c h) (set_waiting B A G x o b W');
          follows = J.follows;
          room = omega (arith, (room_more s z).1);
          long = J.long;
          cell_room = J.cell_room;
          printed = J.printed;
          frame_room = omega (arith, J.frame_room, length-set w.frames (value_place w.top x) b);
          print_room = J.print_room;
        }

  pub literal_in_law : (x b : ℕ) → g ≡ step (literal x b) → is_variable (sig f u.frame.procedure) x ≡ true
      → After B A F K qs k (step (literal x b)) u fs m goes (enters (in_words v (given w x (literal_word b) (T.successor i))))
  unfolding Run.take literal_in Standing.StandsFor
  literal_in_law x b z o = entering B A F K qs (opening_given _ z x (literal_word b) _ o (literal_word_law b)) refl

  -- a sum: in range it goes on, with the word, else it stops
  sum_by : (x o y z : ℕ) → g ≡ step (sum x o y z) → is_variable (sig f u.frame.procedure) x ≡ true → (b : Bool) → in_range (sum_of u.frame o y z) ≡ b
      → After B A F K qs k (step (sum x o y z)) u fs m (room_or b Sums) (if_room_in b Sums (in_words v (given w x (residue (sum_of u.frame o y z)) (T.successor i))))
  unfolding Run.take sum_in Standing.StandsFor room_or if_room_in
  sum_by x o y z c d true r = entering B A F K qs (opening_given _ c x _ _ d (refl, range_word _ r)) refl
  sum_by x o y z c d false r = halts

  pub sum_in_law : (x o y z : ℕ) → g ≡ step (sum x o y z) → is_variable (sig f u.frame.procedure) x ≡ true → is_variable (sig f u.frame.procedure) y ≡ true
      → is_variable (sig f u.frame.procedure) z ≡ true → Number (u.frame.values y) → Number (u.frame.values z)
      → After B A F K qs k (step (sum x o y z)) u fs m (room_or (in_range (sum_of u.frame o y z)) Sums)
      (if_room_in (in_range (sum_of_words o (value_of w y) (value_of w z))) Sums (in_words v (given w x (residue (sum_of_words o (value_of w y) (value_of w z))) (T.successor i))))
  unfolding sum_of_words sum_of
  sum_in_law x o y z c vx vy vz p r =
      rw (value_number B A F K qs w u fs M ρ χ i G W' Q y vy p, value_number B A F K qs w u fs M ρ χ i G W' Q z vz r) (sum_by x o y z c vx _ refl)

  pub assign_in_law : (x y : ℕ) → g ≡ step (assign x y) → is_variable (sig f u.frame.procedure) x ≡ true → is_variable (sig f u.frame.procedure) y ≡ true
      → After B A F K qs k (step (assign x y)) u fs m goes (enters (in_words v (given w x (value_of w y) (T.successor i))))
  unfolding Run.take assign_in
  assign_in_law x y z vx vy =
      entering B A F K qs (opening_given _ z x (value_of w y) _ vx (value_means B A F K qs w u fs M ρ χ i G W' Q y vy)) refl

  -- ---- a test: it goes on, or all is as before the condition
  module _ (y z : ℕ) (is : g ≡ step (test y z)) where
    opening_goes : Opening B K qs (in_words v (with_frames w w.frames (T.successor i))) u fs m a e n
    unfolding in_words with_frames stored_in with_frame with_goals
    opening_goes = record {
      inside = goes_inside (FrameOk B) (Waiting B) (keeping B) K J.inside (T.successor i) u G (refl, refl);
      follows = J.follows;
      room = omega (arith, (room_more _ is).1);
      long = J.long;
      cell_room = J.cell_room;
      printed = J.printed;
      frame_room = J.frame_room;
      print_room = J.print_room;
    }

    E : Outside (FrameOk B) (Waiting B) (keeping B) K (fails_to (kept v) v.else') e fs (restored n m)
    E = test_fails (FrameOk B) (Waiting B) (keeping B) K J.inside

    failed_running : Running B (fails v) (where_in (restored n m) E.region_at E.cell_at) e fs
    unfolding fails with_stored fails_to
    failed_running = record { newest = E.newest; waiting = E.waiting }

    failed_stored : MemoryStored K qs (fails v) (restored n m) E.region_at E.cell_at
    unfolding fails with_stored fails_to restored
    failed_stored = record {
      represents = E.memory;
      cell_room = J.cell_room;
      printed = J.printed;
      frame_room = omega (arith, J.frame_room, put_fits w.top v.own w.frames);
      print_room = J.print_room;
    }

    test_by : (b : Bool) → less_in u.frame y z ≡ b
        → After B A F K qs k (step (test y z)) u fs m goes (choose b (enters (in_words v (with_frames w w.frames (T.successor i)))) (went (fails v)))
    unfolding Run.take failed choose
    test_by true c = entering B A F K qs opening_goes (rw c refl)
    test_by false c = onward {e = e} {es = fs} {n = restored n m} {ρ = E.region_at} {χ = E.cell_at} (rw c refl) failed_running failed_stored

    pub test_in : is_variable (sig f u.frame.procedure) y ≡ true → is_variable (sig f u.frame.procedure) z ≡ true → Number (u.frame.values y) → Number (u.frame.values z)
        → After B A F K qs k (step (test y z)) u fs m goes
        (choose (less (to_z w32 (value_of w y)) (to_z w32 (value_of w z))) (enters (in_words v (with_frames w w.frames (T.successor i)))) (went (fails v)))
    unfolding less_in
    test_in vy vz ny nz =
        rw (value_number B A F K qs w u fs M ρ χ i G W' Q y vy ny, value_number B A F K qs w u fs M ρ χ i G W' Q z vz nz) (test_by _ refl)

  -- ---- a switch
  mine : B.owner i ≡ u.frame.procedure
  unfolding with_frame with_goals
  mine = O.mine

  module _ (j x cs : ℕ) (d : record_at f i ≡ Switch j x cs) (is : g ≡ switch x (arms_at f cs)) where
    abbrev in_arm : RegionFrame
    in_arm = with_frame u (open_cell (cell_in (map cell_of m.cells) (u.frame.values x)) (arms_at f cs) u.frame)

    arm_room : v.count + goals_size in_arm.frame.goals ≤ max_records
    unfolding with_frame with_goals open_cell goals_size
    arm_room =
        let c = cell_in (map cell_of m.cells) (t.frame.values x) in
        omega (arith, rw is at size, arm_size (arms_at f cs) c.functor c.contents u.frame)

    follows_still : {y : MachineWords} (S : Switched B A F K qs w u fs M ρ χ i mine G W' Q x (arms_at f cs) y) → Todo B S.enters.frame.procedure v.then' a
    unfolding with_frame with_goals
    follows_still S = rw S.same J.follows

    opening_arm : {y : MachineWords} → Switched B A F K qs w u fs M ρ χ i mine G W' Q x (arms_at f cs) y
        → Opening B K qs (in_words v y) in_arm fs m a e n
    unfolding in_words with_frames stored_in
    opening_arm S =
        rw (S.is, S.taken) (record {
          inside =
              words_inside (FrameOk B) (Waiting B) (keeping B) K J.inside S.goal S.words S.enters S.newest S.waiting
              (still_words (FrameOk B) (Waiting B) J.inside.back S.words S.long (λ y h. S.other y (inl h)) (S.other _ (inr (omega arith))));
          follows = follows_still S;
          room = rw (← S.taken) arm_room;
          long = J.long;
          cell_room = J.cell_room;
          printed = J.printed;
          frame_room = rw S.long J.frame_room;
          print_room = J.print_room;
        })

    pub switch_in : is_variable (sig f u.frame.procedure) x ≡ true → readable m (u.frame.values x) ≡ true
        → ArmFits (sig f u.frame.procedure) m.cells (u.frame.values x) (arms_at f cs)
        → After B A F K qs k (switch x (arms_at f cs)) u fs m goes (enters (in_words v (switches f T w (value_of w x) cs)))
    unfolding Run.take
    switch_in o l H = entering B A F K qs (opening_arm (switched B A F K qs w u fs M ρ χ i mine G W' Q j x cs d o (readable_still (u.frame.values x) l) H)) refl

  -- ---- regions
  module _ (r : ℕ) (is : g ≡ step (remove r)) (o : is_region (sig f u.frame.procedure) r ≡ true) (l : m.alive (u.stands r) ≡ true) where
    opening_removed : Opening B K qs (drops_region_in v (W.region_for w r) (T.successor i)) u fs (without_region m (u.stands r)) a e n
    unfolding drops_region_in logged with_frames stored_in with_frame with_goals logs_to without_region
    opening_removed =
        rw (region_word B A F K qs w u fs M ρ χ i G W' Q r o (alive_still (u.stands r) l)) (record {
          inside = remove_inside (FrameOk B) (Waiting B) (keeping B) K J.inside (log_fits _ is) (T.successor i) (u.stands r) u l G (refl, refl);
          follows = J.follows;
          room = omega (arith, (room_more _ is).1);
          long = length-set v.log v.count _ ∙ J.long;
          cell_room = J.cell_room;
          printed = J.printed;
          frame_room = J.frame_room;
          print_room = J.print_room;
        })

    pub remove_in : After B A F K qs k (step (remove r)) u fs m goes (enters (drops_region_in v (W.region_for w r) (T.successor i)))
    unfolding Run.take
    remove_in = entering B A F K qs opening_removed refl

  module _ (r : ℕ) (is : g ≡ step (create r)) (o : is_region (sig f u.frame.procedure) r ≡ true) where
    -- the frame once number r stands for the new region
    abbrev named : RegionFrame
    named = record { frame = u.frame; stands = put u.stands r (suc m.made) }

    opening_created : (p : ℕ) (h : Heap) (rs : List ℕ)
        → Opened K (stored h w.cells rs) (set v.log v.count (entry p made_at)) (suc v.count) n (with_region m) (put ρ (suc m.made) p) χ
        → Opening B K qs (logged v (with_stored w (stored h w.cells rs) (set w.frames (region_place w.top r) p) (T.successor i)) (entry p made_at)) named fs (with_region m) a e n
    unfolding logged with_stored stored_in with_frame with_goals logs_to with_region
    opening_created p h rs E =
        let x = region_top _ _ (laws A t.frame.procedure) r o in
        let c = later_region (FrameOk B) (Waiting B) (keeping B) K J.inside (log_fits _ is) p in
        let G'' = frame_more B A c G in
        let z : frame_words * w.top + (regions_from + r) ≡ region_place w.top r = omega arith in
        record {
          inside =
              rw (← z) (create_inside (FrameOk B) (Waiting B) (keeping B) K J.inside (log_fits _ is) (T.successor i) (regions_from + r) named (omega arith) (omega (arith, x.1)) p h rs E
              (rw z (name_frame B A G'' r o p (suc m.made) (made_name p), name_waiting B A G'' r o p (waiting_more B A c W'))));
          follows = J.follows;
          room = omega (arith, (room_more _ is).1);
          long = length-set v.log v.count _ ∙ J.long;
          cell_room = J.cell_room;
          printed = J.printed;
          frame_room = omega (arith, J.frame_room, length-set w.frames (region_place w.top r) p);
          print_room = J.print_room;
        }
      where
        made_name : (p : ℕ) → Names (where_in (with_region m) (put ρ (suc m.made) p) χ) p (suc m.made)
        made_name p z = (omega arith, sym (put_same ρ (suc m.made) p))

    create_by : (c : Option (ℕ × Heap)) (rs : List ℕ) → CreatesIn J.inside.memory (log_fits _ is) a e c rs
        → After B A F K qs k (step (create r)) u fs m (room_or (ltb (regions_held (counted_in k m)) K.regions) Places) (created_in v r (T.successor i) rs c)
    unfolding room_or created_in Run.take stored_in
    create_by None rs (C.stops d) = rw d halts
    create_by (Some (p, h)) rs (C.makes d E) = rw d (entering B A F K qs (opening_created p h rs E) refl)

    pub create_in : After B A F K qs k (step (create r)) u fs m (room_or (ltb (regions_held (counted_in k m)) K.regions) Places) (makes_region_in v r (T.successor i))
    unfolding makes_region_in stored_in
    create_in = create_by (created w.heap w.regions) (created_regions w.heap w.regions) (creates_in J.inside.memory (log_fits _ is) a e)

  -- ---- a construct of X without arguments: a constant
  module _ (x j b c d : ℕ) (is : g ≡ step (construct x j (four 0 b c d))) (z : arguments_of (four 0 b c d) ≡ []) where
    constant_taken : Run.take (program f) k (step (construct x j (four 0 b c d))) u fs m ≡ state_in (program f) k (with_frame u (giving u.frame x (constant j))) fs m
    unfolding Run.take build_in built_value with_built
    constant_taken = rw z

    pub constant_in : is_variable (sig f u.frame.procedure) x ≡ true → (r : ℕ)
        → After B A F K qs k (step (construct x j (four 0 b c d))) u fs m
        (room_or (is_none (arguments_of (four 0 b c d)) or ltb (cells_held (counted_in k m).alive (counted_in k m).cells) K.cells) Cells)
        (constructs_in v x (T.successor i) r j 0 b c d)
    unfolding room_or is_none ◌or◌ constructs_in StandsFor
    constant_in o r = rw z (entering B A F K qs (opening_given _ is x (constants_from + j) (constant j) o refl) constant_taken)

  -- ---- a construct of X with arguments, the first of them suc y: a cell in X's region r
  module _ (x j y b c d r : ℕ) (is : g ≡ step (construct x j (four (suc y) b c d))) (o : is_variable (sig f u.frame.procedure) x ≡ true)
      (vs : (s : ℕ) → in_list s (arguments_of (four (suc y) b c d)) ≡ true → is_variable (sig f u.frame.procedure) s ≡ true) (ir : r ≡ region_of (sig f u.frame.procedure) x)
      (reg : is_region (sig f u.frame.procedure) (region_of (sig f u.frame.procedure) x) ≡ true) (l : m.alive (region_for (program f) u x) ≡ true) where
    abbrev ys : List ℕ
    ys = arguments_of (four (suc y) b c d)

    abbrev new : Cell
    new = record { functor = j; contents = map u.frame.values ys }

    abbrev made : RegionCell
    made = record { cell = new; region = region_for (program f) u x }

    abbrev holding : RegionFrame
    holding = with_frame u (giving u.frame x (cell_at (length m.cells)))

    abbrev place : ℕ
    place = ρ (region_for (program f) u x)

    opening_built : (p : ℕ) (h : Heap) (ms rs : List ℕ)
        → Opened K (stored h ms rs) (set v.log v.count (entry place built_in)) (suc v.count) n (with_cell m made) ρ (put χ (length m.cells) p)
        → Opening B K qs (logged v (with_stored w (stored h ms rs) (set w.frames (value_place w.top x) p) (T.successor i)) (entry place built_in)) holding fs (with_cell m made) a e n
    unfolding logged with_stored stored_in with_frame with_goals giving logs_to with_cell
    opening_built p h ms rs E =
        let s = variable_top _ _ (laws A t.frame.procedure) x o in
        let z = later_cell (FrameOk B) (Waiting B) (keeping B) K J.inside (log_fits _ is) made p in
        let G'' = frame_more B A z G in
        record {
          inside =
              construct_inside (FrameOk B) (Waiting B) (keeping B) K J.inside (log_fits _ is) (T.successor i) x holding s.0 (omega (arith, s.1))
              (region_for (program f) u x) new p h ms rs E
              (set_frame B A G'' x o p (cell_at (length m.cells)) (stands_new m made χ p), set_waiting B A G'' x o p (waiting_more B A z W'));
          follows = J.follows;
          room = omega (arith, (room_more _ is).1);
          long = length-set v.log v.count _ ∙ J.long;
          cell_room = J.cell_room;
          printed = J.printed;
          frame_room = omega (arith, J.frame_room, length-set w.frames (value_place w.top x) p);
          print_room = J.print_room;
        }

    built_taken : Run.take (program f) k (step (construct x j (four (suc y) b c d))) u fs m ≡ state_in (program f) k holding fs (with_cell m made)
    unfolding Run.take build_in built_value with_built arguments_of trimmed trim_onto four_words cell_for
    built_taken = refl

    construct_by : (h : Option (ℕ × Heap)) (ms rs : List ℕ) → BuildsIn J.inside.memory (log_fits _ is) a e (region_for (program f) u x) new h ms rs
        → After B A F K qs k (step (construct x j (four (suc y) b c d))) u fs m
        (room_or (ltb (cells_held (counted_in k m).alive (counted_in k m).cells) K.cells) Cells) (constructed_in v x (T.successor i) place ms rs h)
    unfolding room_or constructed_in
    construct_by None ms rs (C.stops z) = rw z halts
    construct_by (Some (p, h)) ms rs (C.makes z E) = rw z (entering B A F K qs (opening_built p h ms rs E) built_taken)

    pub construct_in : After B A F K qs k (step (construct x j (four (suc y) b c d))) u fs m
        (room_or (is_none (arguments_of (four (suc y) b c d)) or ltb (cells_held (counted_in k m).alive (counted_in k m).cells) K.cells) Cells)
        (constructs_in v x (T.successor i) r j (suc y) b c d)
    unfolding constructs_in stored_in region_for is_none ◌or◌
    construct_in =
        rw (first_argument y b c d, ir, region_word B A F K qs w u fs M ρ χ i G W' Q (region_of (sig f u.frame.procedure) x) reg (alive_still (region_for (program f) u x) l))
        (construct_by (built w.heap w.cells) _ _
        (of_functor j (contents_of w j (suc y) b c d) (functor_word B A F K qs w u fs M ρ χ i G W' Q x j y b c d r o vs ir reg (alive_still (region_for (program f) u x) l))
        (argument_words_law B A F K qs w u fs M ρ χ i G W' Q x j y b c d r o vs ir reg (alive_still (region_for (program f) u x) l))))
      where
        of_functor : (s : ℕ) (D : Contents) → D.functor ≡ s → StandEach χ (length m.cells) (words_of D) (map u.frame.values ys)
            → BuildsIn J.inside.memory (log_fits _ is) a e (region_for (program f) u x) (record { functor = s; contents = map u.frame.values ys }) (built w.heap w.cells)
            (built_cells w.heap w.cells w.regions (ρ (region_for (program f) u x)) D) (built_regions w.heap w.cells w.regions (ρ (region_for (program f) u x)))
        of_functor s D z h = rw (← z) (builds_in J.inside.memory (log_fits _ is) a e (region_for (program f) u x) l D (map u.frame.values ys) h)
