-- Ifs, switches and calls: the goals that other goals follow.
use Prim.Native.Nat.{ℕ, suc, ◌+◌, ◌*◌, ◌≤◌, ◌<◌}
use Rattle.std.proofs.Common.{arith, sym, ◌∙◌, inl, inr, to_z}
use Rattle.std.specs.Prelude.{◌≡◌, Bool, List, [], ◌∷◌, map, ◌⊎◌, ltb, get_or}
use Rattle.std.proofs.Math.Path.{refl, ap}
use Rattle.std.proofs.Math.Bool.{true, false}
use borrow.Author.Tests.{ltb-true}
use Rattle.std.proofs.Math.ListN.{length}
use Rattle.std.specs.Int.{w32}
use Rattle.language.specs.declared.Stop.TheVariants.{Frames}
use Rattle.language.specs.Lists.{choose}
use Rattle.language.specs.File.{goals, word}
use Rattle.language.specs.Numbers.{less}
use Rattle.language.specs.Program.{four_words, trimmed, arguments_of, call, Goals, step, switch, if_less, Arms, ◌before◌}
use Rattle.language.specs.Typing.{is_variable}
use Rattle.language.specs.Frames.{Value, closed, ahead, less_in, numeral, cell_at, constant, Cell, number_in, with_goals, give_each, branch_in, picked, pick, enter_arm, cell_in, open_cell, callee_frame}
use Rattle.language.specs.AcceptedRun.{RegionFrame, Memory, readable, cell_of, with_frame, callee_regions, whole, state, within, state_in}
use Rattle.language.specs.AcceptedRun as Run
use Rattle.language.specs.Machine.{Room, goes, room_or}
use Rattle.language.specs.Answers.{program}
use Rattle.language.specs.Format.{arm_goals, max_variables}
use Rattle.records.specs.Records.{record_at}
use Rattle.records.specs.declared.Record.TheVariants.{Switch, If}
use Rattle.chains.specs.Formed.{Formed, Stands, goals_at, arms_at, arguments_at}
use Rattle.chains.specs.Records.{chain_records}
use Rattle.chains.specs.Parts.{four_at, if_at, switch_at}
use Rattle.safety.specs.Premises.{Accepted, laws}
use Rattle.region_graph.specs.Shared.{variable_top}
use Rattle.heap.specs.Words.{argument_words, arguments_are}
use Rattle.heap.specs.Standing.{StandsFor, StandEach}
use Rattle.heap.specs.Represents.{Reads}
use Rattle.heap.specs.Reading.{reads, place_low}
use Rattle.word_machine.specs.Tables.{Tables, Tabled, onto, Continues}
use Rattle.word_machine.specs.Machine.{frame_words, MachineWords, value_place, region_place, call_place, with_frames, value_of, went, if_room, arm_of, gives_each, enters_arm, switches, calls}
use Rattle.word_machine.specs.Trimmed.{RangedMembers}
use Rattle.word_machine.specs.Successors.{Todo, todo_before}
use Rattle.word_machine.specs.Premises.{Number, ArmFits}
use Rattle.word_machine.specs.Relation.{Where, where_in, Means, not_later, sig, FrameOk, CallLinked, Waiting, waiting_later, waiting_depth, Running, MemoryStored}
use Rattle.word_machine.specs.Stepping.{frame_goals}
use Rattle.word_machine.specs.Arms.{ArmFound, arm_found}
use Rattle.word_machine.specs.Switching.{switch_place, switch_constant, arm_each, each_length, each_other, give_none, each_means}
use Rattle.word_machine.specs.Calls.{callee_is, longe, called_frame, called_waiting}
use Rattle.word_machine.specs.Steps.{After, onward, halts, value_means, value_number}

module _ {f : List ℕ} {T : Tables} (B : Tabled f T) (A : Accepted (program f)) (F : Formed f) (K : Room) (qs : List ℕ) (w : MachineWords) (u : RegionFrame)
    (fs : List RegionFrame) (m : Memory) (ρ χ : ℕ → ℕ) (i : ℕ) (mine : B.owner i ≡ u.frame.procedure)
    (G : FrameOk B w.frames w.top (where_in m ρ χ) (T.successor i) u)
    (W : Waiting B w.frames (where_in m ρ χ) u.frame.procedure u.frame.arguments w.top fs) (Q : MemoryStored K qs w m ρ χ) where
  abbrev L : Where
  L = where_in m ρ χ

  -- ---- an if: one of two chains, and then the rest
  branch_todo : (c : Bool) (a b : ℕ) → Stands f goals a → Stands f goals b → Continues B.onward B.owner a (T.successor i) (B.owner i)
      → Continues B.onward B.owner b (T.successor i) (B.owner i)
      → Todo B u.frame.procedure (onto (choose c a b) (T.successor i)) (choose c (goals_at f a) (goals_at f b) before u.frame.goals)
  unfolding choose
  branch_todo true a b sa sb ta tb = todo_before B F _ _ _ G.todo a sa (λ z. let t = ta z in (t.0, t.1 ∙ mine))
  branch_todo false a b sa sb ta tb = todo_before B F _ _ _ G.todo b sb (λ z. let t = tb z in (t.0, t.1 ∙ mine))

  pub if_after : (n y z a b : ℕ) → record_at f i ≡ If n y z a b → is_variable (sig f u.frame.procedure) y ≡ true
      → is_variable (sig f u.frame.procedure) z ≡ true → Number (u.frame.values y) → Number (u.frame.values z)
      → After B A F K qs closed (if_less y z (goals_at f a) (goals_at f b)) u fs m goes
      (went (with_frames w w.frames (onto (choose (less (to_z w32 (value_of w y)) (to_z w32 (value_of w z))) a b) (T.successor i))))
  unfolding Run.take state_in within with_frames with_frame with_goals branch_in less_in
  if_after n y z a b e vy vz ny nz =
      let I = if_at F refl e in
      rw (value_number B A F K qs w u fs m ρ χ i G W Q y vy ny, value_number B A F K qs w u fs m ρ χ i G W Q z vz nz)
      (onward refl
      (record {
        newest =
            frame_goals B A G
            (branch_todo (less (number_in (u.frame.values y)) (number_in (u.frame.values z))) a b I.to_then.stands I.to_else.stands
            (B.if_then_law i n y z a b e) (B.if_else_law i n y z a b e));
        waiting = W;
      })
      (record { represents = Q.represents; cell_room = Q.cell_room; printed = Q.printed; frame_room = Q.frame_room; print_room = Q.print_room }))

  -- ---- a call
  module _ (q ys : ℕ) (N : CallLinked B i u.frame.procedure q (arguments_at f ys)) (room : frame_words * suc (suc w.top) ≤ length w.frames) where
    call_running : Running B (calls f T w i q) L (callee_regions (program f) u q (arguments_at f ys)) (u ∷ fs)
    unfolding calls callee_regions callee_frame
    call_running =
        let c = callee_is B A F G W N room in
        record { newest = rw c (called_frame B A F G W N room); waiting = rw c (called_waiting B A F G W N room) }

    call_stored : MemoryStored K qs (calls f T w i q) m ρ χ
    unfolding calls
    call_stored = record {
      represents = Q.represents;
      cell_room = Q.cell_room;
      printed = Q.printed;
      frame_room = rw (callee_is B A F G W N room, longe B A F G W N room) Q.frame_room;
      print_room = Q.print_room;
    }

  call_by : (q ys : ℕ) → CallLinked B i u.frame.procedure q (arguments_at f ys) → (b : Bool) → ltb (suc w.top) K.frames ≡ b
      → After B A F K qs closed (step (call q (arguments_at f ys))) u fs m (room_or b Frames) (if_room b Frames (calls f T w i q))
  unfolding room_or if_room Run.take state_in within whole ahead with_frame with_goals
  call_by q ys N false o = halts
  call_by q ys N true o =
      let r : frame_words * suc (suc w.top) ≤ length w.frames = omega (arith, ltb-true (suc w.top) K.frames o, Q.frame_room) in
      onward refl (call_running q ys N r) (call_stored q ys N r)

  pub call_after : (q ys : ℕ) → CallLinked B i u.frame.procedure q (arguments_at f ys)
      → After B A F K qs closed (step (call q (arguments_at f ys))) u fs m (room_or (ltb (suc (length fs)) K.frames) Frames)
      (if_room (ltb (suc w.top) K.frames) Frames (calls f T w i q))
  call_after q ys N = rw (← waiting_depth B W) (call_by q ys N (ltb (suc w.top) K.frames) refl)

  -- ---- a switch: what it does to the words, whatever the condition; `enters` is the frame in its arm
  pub record Switched (x : ℕ) (cs : Arms) (t : MachineWords) : Type 0 where
    pub words : List ℕ
    pub goal : ℕ
    pub enters : RegionFrame
    pub taken : with_frame u (open_cell (cell_in (map cell_of m.cells) (u.frame.values x)) cs u.frame) ≡ enters
    pub same : enters.frame.procedure ≡ u.frame.procedure
    pub is : t ≡ with_frames w words goal
    pub long : length words ≡ length w.frames
    pub other : (k : ℕ) → (k < frame_words * w.top) ⊎ (frame_words * w.top + max_variables < k) → get_or words k 0 ≡ get_or w.frames k 0
    pub newest : FrameOk B words w.top L goal enters
    pub waiting : Waiting B words L enters.frame.procedure enters.frame.arguments w.top fs

  -- the arm at record j has arguments ys, which get the values vs, and goals gs
  module _ (j : ℕ) (ys : List ℕ) (gs : Goals) (vs : List Value) (found : ArmFound B F (T.successor i) u.frame.procedure ys gs j) where
    -- the frame in the arm
    abbrev in_arm : RegionFrame
    in_arm = with_frame u (record { procedure = u.frame.procedure; arguments = u.frame.arguments; goals = gs before u.frame.goals; values = give_each ys vs u.frame.values })

    arm_taken : (cs : Arms) (c : Cell) → c.contents ≡ vs → pick cs c.functor ≡ picked ys gs → with_frame u (open_cell c cs u.frame) ≡ in_arm
    unfolding open_cell enter_arm
    arm_taken cs c d q = rw (q, d)

    -- the frames' words fw have what the arguments get, and else what they had
    module _ (fw : List ℕ) (long : length fw ≡ length w.frames)
        (values : (x : ℕ) → 1 ≤ x → x ≤ max_variables → is_variable (sig f u.frame.procedure) x ≡ true
        → Means L (get_or fw (value_place w.top x) 0) (give_each ys vs u.frame.values x))
        (other : (k : ℕ) → (k < frame_words * w.top) ⊎ (frame_words * w.top + max_variables < k) → get_or fw k 0 ≡ get_or w.frames k 0) where
      arm_switched : (x : ℕ) (cs : Arms) (c : Cell) → cell_in (map cell_of m.cells) (u.frame.values x) ≡ c → c.contents ≡ vs → pick cs c.functor ≡ picked ys gs
          → Switched x cs (with_frames w fw (T.entry j))
      unfolding with_frame
      arm_switched x cs c e d q = record {
        words = fw;
        goal = T.entry j;
        enters = in_arm;
        taken = ap (λ (k : Cell). with_frame u (open_cell k cs u.frame)) e ∙ arm_taken cs c d q;
        same = refl;
        is = refl;
        long = long;
        other = other;
        newest = record {
          fits = omega (arith, G.fits, long);
          values = values;
          regions = λ r l h. rw (other (region_place w.top r) (inr (omega arith))) (G.regions r l h);
          todo = rw (found.goals_are, found.entered) (todo_before B F _ _ _ G.todo (word f j arm_goals) found.stands found.starts);
        };
        waiting = waiting_later B (not_later L) long (λ k h. other k (inl h)) (other (call_place w.top) (inr (omega arith))) W;
      }

  -- ---- X's cell stands at place p: the arguments get its words
  module _ (j : ℕ) (ys : List ℕ) (gs : Goals) (vs : List Value) (p : ℕ) (found : ArmFound B F (T.successor i) u.frame.procedure ys gs j)
      (words : StandEach χ (length m.cells) (argument_words w.cells p) vs) (count : length vs ≡ length ys) (range : RangedMembers ys) where
    abbrev four' : List ℕ
    four' = four_words (four_at f j)

    trimmed_are : ys ≡ trimmed four'
    unfolding arguments_of
    trimmed_are = found.arguments

    cell_values : (x : ℕ) → 1 ≤ x → x ≤ max_variables → is_variable (sig f u.frame.procedure) x ≡ true
        → Means L (get_or (gives_each (frame_words * w.top) four' (argument_words w.cells p) w.frames) (value_place w.top x) 0) (give_each ys vs u.frame.values x)
    unfolding four_words
    cell_values x l h v =
        rw trimmed_are
        (each_means (frame_words * w.top) L x four' (argument_words w.cells p) vs w.frames u.frame.values (rw (arguments_are w.cells p) (omega arith))
        (omega (arith, G.fits)) words (count ∙ ap length trimmed_are) (rw trimmed_are at range) (G.values x l h v))

    cell_switched : (x : ℕ) (cs : Arms) (c : Cell) → cell_in (map cell_of m.cells) (u.frame.values x) ≡ c → c.contents ≡ vs → pick cs c.functor ≡ picked ys gs
        → Switched x cs (enters_arm f T w p j)
    unfolding enters_arm
    cell_switched x cs c e d q =
        rw (arm_each f T w p j)
        (arm_switched j ys gs vs found _ (each_length (frame_words * w.top) four' (argument_words w.cells p) w.frames) cell_values
        (λ k. each_other (frame_words * w.top) four' (argument_words w.cells p) w.frames k (rw trimmed_are at range)) x cs c e d q)

  -- ---- X is a constant: the arm has no arguments, and no words change
  constant_switched : (j : ℕ) (ys : List ℕ) (gs : Goals) → ArmFound B F (T.successor i) u.frame.procedure ys gs j → (x : ℕ) (cs : Arms) (c : Cell)
      → cell_in (map cell_of m.cells) (u.frame.values x) ≡ c → c.contents ≡ [] → pick cs c.functor ≡ picked ys gs
      → Switched x cs (with_frames w w.frames (T.entry j))
  constant_switched j ys gs found x cs c e d q =
      arm_switched j ys gs [] found w.frames refl (λ y l h v. rw (give_none ys u.frame.values) (G.values y l h v)) (λ k o. refl) x cs c e d q

  module _ (n x cs : ℕ) (e : record_at f i ≡ Switch n x cs) where
    abbrev records : List ℕ
    records = chain_records f cs

    -- X has the value t, which the arm fits
    module _ (t : Value) (q : u.frame.values x ≡ t) (H : ArmFits (sig f u.frame.procedure) m.cells t (arms_at f cs)) where
      found_arm : ArmFound B F (T.successor i) u.frame.procedure H.arguments H.goals (arm_of f H.cell.functor records)
      found_arm =
          arm_found B F (T.successor i) u.frame.procedure H.cell.functor H.arguments H.goals cs (switch_at F refl e).to_arms.stands
          (λ z. let b = B.switch_arms_law i n x cs e z in (b.0, b.1 ∙ mine)) H.picks

      has : cell_in (map cell_of m.cells) (u.frame.values x) ≡ H.cell
      has = ap (cell_in (map cell_of m.cells)) q ∙ H.is

    by_value : (t : Value) → u.frame.values x ≡ t → ArmFits (sig f u.frame.procedure) m.cells t (arms_at f cs) → Means L (value_of w x) t → readable m t ≡ true
        → Switched x (arms_at f cs) (switches f T w (value_of w x) cs)
    unfolding StandsFor cell_in
    by_value (numeral z) q H s l = absurd (H.no_number z refl)
    by_value (cell_at j) q H s l =
        let R : Reads w.cells χ (length m.cells) (value_of w x) H.cell = rw H.is at (reads Q.represents (value_of w x) j s l) in
        let r : RangedMembers H.arguments = λ y h. variable_top _ _ (laws A u.frame.procedure) y (H.variables y h) in
        rw (switch_place f T w (value_of w x) cs (omega (arith, place_low Q.represents (value_of w x) j s l, Q.cell_room)), R.functor)
        (cell_switched (arm_of f H.cell.functor records) H.arguments H.goals H.cell.contents (value_of w x) (found_arm (cell_at j) q H) R.contents H.count r x
        (arms_at f cs) H.cell (has (cell_at j) q H) refl H.picks)
    by_value (constant k) q H s l =
        rw (switch_constant f T w (value_of w x) cs k s, ap (λ (c : Cell). c.functor) H.is)
        (constant_switched (arm_of f H.cell.functor records) H.arguments H.goals (found_arm (constant k) q H) x (arms_at f cs) H.cell (has (constant k) q H)
        (sym (ap (λ (c : Cell). c.contents) H.is)) H.picks)

    module _ (v : is_variable (sig f u.frame.procedure) x ≡ true) (l : readable m (u.frame.values x) ≡ true)
        (H : ArmFits (sig f u.frame.procedure) m.cells (u.frame.values x) (arms_at f cs)) where
      pub switched : Switched x (arms_at f cs) (switches f T w (value_of w x) cs)
      switched = by_value (u.frame.values x) refl H (value_means B A F K qs w u fs m ρ χ i G W Q x v) l

      pub switch_after : After B A F K qs closed (switch x (arms_at f cs)) u fs m goes (went (switches f T w (value_of w x) cs))
      unfolding Run.take state_in within with_frames
      switch_after =
          let S = switched in
          rw S.is
          (onward (ap (λ (b : RegionFrame). state (program f) b fs m) S.taken) (record { newest = S.newest; waiting = S.waiting })
          (record { represents = Q.represents; cell_room = Q.cell_room; printed = Q.printed; frame_room = rw S.long Q.frame_room; print_room = Q.print_room }))
