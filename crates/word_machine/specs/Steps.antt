-- The newest frame's next goal, as the words do it and as the definition does: both stop, for the same cause, or both go on.
use Rattle.std.specs.Prelude.{ℕ, suc, ◌≡◌, Bool, List}
use Rattle.std.proofs.Common.{arith, to_z}
use Rattle.std.proofs.Math.Path.{refl}
use Rattle.std.proofs.Math.Bool.{true, false}
use Rattle.std.proofs.Math.ListN.{length-set}
use Rattle.std.specs.Int.{w32}
use Rattle.language.specs.declared.Stop.{Stop}
use Rattle.language.specs.declared.Stop.TheVariants.{Sums}
use Rattle.language.specs.Numbers.{residue, in_range}
use Rattle.language.specs.Program.{literal, sum, assign, Goals, Goal, step}
use Rattle.language.specs.Typing.{is_variable}
use Rattle.language.specs.Frames.{Value, Condition, closed, number_in, giving, literal_in, sum_of, sum_in, assign_in}
use Rattle.language.specs.AcceptedRun.{RegionFrame, Memory, with_frame, state, within, state_in}
use Rattle.language.specs.AcceptedRun as Run
use Rattle.language.specs.Machine.{Room, Outlook, goes, lacks, room_or}
use Rattle.language.specs.Answers.{program}
use Rattle.chains.specs.Formed.{Formed}
use Rattle.safety.specs.Premises.{Accepted, laws}
use Rattle.region_graph.specs.Shared.{variable_top}
use Rattle.heap.specs.Standing as Standing
use Rattle.word_machine.specs.Tables.{Tables, Tabled}
use Rattle.word_machine.specs.Machine.{MachineWords, ConditionWords, value_place, literal_word, sum_of_words, with_frames, given, value_of, Went, went, opens, stops, if_room, sums}
use Rattle.word_machine.specs.Numbers.{range_word, literal_word_law, number_word}
use Rattle.word_machine.specs.Premises.{Number}
use Rattle.word_machine.specs.Relation.{where_in, Means, sig, FrameOk, Waiting, Running, MemoryStored}
use Rattle.word_machine.specs.Stepping.{set_frame, set_waiting}
use Rattle.word_machine.specs.InCondition.{open_state, Opening}

module _ {f : List ℕ} {T : Tables} (B : Tabled f T) (A : Accepted (program f)) (F : Formed f) (K : Room) (qs : List ℕ) where
  -- what is to be shown: in condition k, u is the newest frame without its goal g, fs wait
  pub data After (k : Condition RegionFrame Memory) (g : Goal) (u : RegionFrame) (fs : List RegionFrame) (m : Memory) : Outlook → Went → Type 0 where
    onward : {v : MachineWords} {e : RegionFrame} {es : List RegionFrame} {n : Memory} {ρ χ : ℕ → ℕ} → Run.take (program f) k g u fs m ≡ state (program f) e es n
        → Running B v (where_in n ρ χ) e es → MemoryStored K qs v n ρ χ → After k g u fs m goes (went v)
    inward : {v : ConditionWords} {t : RegionFrame} {es : List RegionFrame} {o : Memory} {a : Goals} {e : RegionFrame} {n : Memory}
        → Run.take (program f) k g u fs m ≡ open_state t es o a e n → ((j : ℕ) × (v.words.goal ≡ suc j)) → Opening B K qs v t es o a e n
        → After k g u fs m goes (opens v)
    halts : {c : Stop} → After k g u fs m (lacks c) (stops c)

  -- the words w stand for the state; record i is the goal's
  module _ (w : MachineWords) (u : RegionFrame) (fs : List RegionFrame) (m : Memory) (ρ χ : ℕ → ℕ) (i : ℕ)
      (G : FrameOk B w.frames w.top (where_in m ρ χ) (T.successor i) u)
      (W : Waiting B w.frames (where_in m ρ χ) u.frame.procedure u.frame.arguments w.top fs) (Q : MemoryStored K qs w m ρ χ) where
    -- ---- a value is given
    pub stored_given : (x v : ℕ) → MemoryStored K qs (given w x v (T.successor i)) m ρ χ
    unfolding given with_frames
    stored_given x v = record {
      represents = Q.represents;
      cell_room = Q.cell_room;
      printed = Q.printed;
      frame_room = omega (arith, Q.frame_room, length-set w.frames (value_place w.top x) v);
      print_room = Q.print_room;
    }

    pub given_running : (x v : ℕ) (a : Value) → is_variable (sig f u.frame.procedure) x ≡ true → Means (where_in m ρ χ) v a
        → Running B (given w x v (T.successor i)) (where_in m ρ χ) (with_frame u (giving u.frame x a)) fs
    unfolding given with_frames with_frame giving
    given_running x v a o s = record { newest = set_frame B A G x o v a s; waiting = set_waiting B A G x o v W }

    -- what a variable's word stands for
    pub value_means : (y : ℕ) → is_variable (sig f u.frame.procedure) y ≡ true → Means (where_in m ρ χ) (value_of w y) (u.frame.values y)
    unfolding value_of
    value_means y o = let r = variable_top _ _ (laws A u.frame.procedure) y o in G.values y r.0 r.1 o

    pub value_word : (y : ℕ) → is_variable (sig f u.frame.procedure) y ≡ true → Number (u.frame.values y)
        → (value_of w y ≡ residue (number_in (u.frame.values y))) × (to_z w32 (value_of w y) ≡ number_in (u.frame.values y))
    value_word y o n = number_word (where_in m ρ χ) (value_of w y) (u.frame.values y) (value_means y o) n.0 n.1

    pub value_number : (y : ℕ) → is_variable (sig f u.frame.procedure) y ≡ true → Number (u.frame.values y)
        → to_z w32 (value_of w y) ≡ number_in (u.frame.values y)
    value_number y o n = (value_word y o n).1

    pub literal_after : (x v : ℕ) → is_variable (sig f u.frame.procedure) x ≡ true
        → After closed (step (literal x v)) u fs m goes (went (given w x (literal_word v) (T.successor i)))
    unfolding Run.take state_in within literal_in Standing.StandsFor
    literal_after x v o = onward refl (given_running x (literal_word v) _ o (literal_word_law v)) (stored_given x (literal_word v))

    -- a sum: in range it goes on, with the word, else it stops
    sum_by : (x o y z : ℕ) → is_variable (sig f u.frame.procedure) x ≡ true → (b : Bool) → in_range (sum_of u.frame o y z) ≡ b
        → After closed (step (sum x o y z)) u fs m (room_or b Sums) (if_room b Sums (given w x (residue (sum_of u.frame o y z)) (T.successor i)))
    unfolding Run.take state_in within sum_in Standing.StandsFor room_or if_room
    sum_by x o y z a true r = onward refl (given_running x _ _ a (refl, range_word _ r)) (stored_given x _)
    sum_by x o y z a false r = halts

    pub sum_after : (x o y z : ℕ) → is_variable (sig f u.frame.procedure) x ≡ true → is_variable (sig f u.frame.procedure) y ≡ true
        → is_variable (sig f u.frame.procedure) z ≡ true → Number (u.frame.values y) → Number (u.frame.values z)
        → After closed (step (sum x o y z)) u fs m (room_or (in_range (sum_of u.frame o y z)) Sums)
        (sums w x (sum_of_words o (value_of w y) (value_of w z)) (T.successor i))
    unfolding sums sum_of_words sum_of
    sum_after x o y z a b c p q = rw (value_number y b p, value_number z c q) (sum_by x o y z a _ refl)

    pub assign_after : (x y : ℕ) → is_variable (sig f u.frame.procedure) x ≡ true → is_variable (sig f u.frame.procedure) y ≡ true
        → After closed (step (assign x y)) u fs m goes (went (given w x (value_of w y) (T.successor i)))
    unfolding Run.take state_in within assign_in
    assign_after x y a b = onward refl (given_running x (value_of w y) _ a (value_means y b)) (stored_given x (value_of w y))
