-- Where a run in words stands: the words and the counts beside them are those of the definition's run after n steps, outside conditions or in an open one.
use Prim.Native.Nat.{ℕ, zero, suc, ◌-◌, ◌≤◌, ◌<◌}
use native.Mathlib.Omega.{arith}
use Rattle.std.specs.Prelude.{◌≡◌, Bool, true, false, List, ◌∷◌, ◌⊎◌}
use Rattle.std.proofs.Math.Path.{refl, ap}
use Rattle.std.proofs.Common.{sym, ◌∙◌, inl, inr}
use Rattle.std.proofs.Math.Bool.{false≢true}
use Rattle.std.proofs.Math.ListN.{length}
use Rattle.language.specs.declared.Stop.{Stop}
use Rattle.language.specs.declared.Stop.TheVariants.{Steps}
use Rattle.language.specs.declared.Ending.TheVariants.{Finished, Stopped}
use Rattle.language.specs.File.{record_count}
use Rattle.language.specs.Program.{Goals, ◌then◌, Goal, Program}
use Rattle.language.specs.Conditions.{goal_stands, conditions_ok}
use Rattle.language.specs.Frames.{Condition, closed, opened, with_goals}
use Rattle.language.specs.AcceptedRun.{RegionFrame, Memory, State, with_frame, whole, restored, state}
use Rattle.language.specs.AcceptedRun as Run
use Rattle.language.specs.Machine.{Lent, Room, room_in, Outlook, ended, goes, lacks, outlook, regions_held, counted_in}
use Rattle.language.specs.Machine as D
use Rattle.language.specs.Answers.{program}
use Rattle.records.specs.Records.{record_at}
use Rattle.chains.specs.Formed.{Formed}
use Rattle.safety.specs.Premises.{Accepted}
use Rattle.safety.specs.Invariant.{Inv}
use Rattle.safety.proofs.Safety.{steps_fine, busy}
use Rattle.safety.specs.Standing.{is_open, next_goal_stands}
use Rattle.safety.specs.Since.{alive_counted}
use Rattle.heap.proofs.UndoingLaws.{closed_by}
use Rattle.heap.proofs.LoggedLaws.{made_more}
use Rattle.heap.proofs.Conditions.{held_alive, same_made, same_cells}
use Rattle.word_machine.specs.Tables.{Tables, Tabled}
use Rattle.word_machine.specs.Machine.{MachineWords, ConditionWords, Went, went, opens, stops, settled, steps, steps_in, stored_in}
use Rattle.word_machine.specs.Relation.{where_in, Running, MemoryStored, waiting_depth}
use Rattle.word_machine.specs.Successors.{todo_next}
use Rattle.word_machine.specs.InCondition.{open_state, Opening}
use Rattle.word_machine.specs.Returns as R
use Rattle.word_machine.specs.Steps.{After, onward, inward, halts}
use Rattle.word_machine.proofs.WholeRun.{Agrees, agrees, AgreesIn, agrees_in, settled_agrees, next_goal_law, goes_taken, fine_inv, outlook_over}
use Rattle.word_machine.proofs.WholeRun as W
use Rattle.machine.specs.Trying.{fails_in}
use Rattle.profiling.specs.declared.Counts.{Counts}
use Rattle.profiling.specs.declared.Held.{Held}
use Rattle.profiling.specs.Statement.{held_in, held_after, CarriesOut}
use Rattle.profiling.specs.Counting.{counts_in, made_counted, counted}
use Rattle.profiling.specs.Taking.{memory_after, fails_at, take_memory, outside_memory, take_fails, take_stays, take_outside}
use Rattle.profiling.specs.Tallying.{Tally, tally_in, alike, Covers, covers_same, fails_is, left_counted, held_counted, shut_tally, open_tally, out_tally}

-- the words outside conditions, or those of an open one
pub data Stand : Type 0 where
  outside : MachineWords → Stand
  inside : ConditionWords → Stand

unfoldable pub words_in : Stand → MachineWords
words_in (outside w) = w
words_in (inside v) = v.words

module _ {f : List ℕ} {T : Tables} (B : Tabled f T) (A : Accepted (program f)) (F : Formed f) (K : Room) (qs : List ℕ) where
  pub data AgreesAt (n : ℕ) : Stand → Type 0 where
    agrees_out : {w : MachineWords} → Agrees B A F K qs n w → AgreesAt n (outside w)
    agrees_inside : {v : ConditionWords} → AgreesIn B A F K qs n v → AgreesAt n (inside v)

  out_words : {n : ℕ} {w : MachineWords} → AgreesAt n (outside w) → Agrees B A F K qs n w
  out_words (agrees_out a) = a

  in_words : {n : ℕ} {v : ConditionWords} → AgreesAt n (inside v) → AgreesIn B A F K qs n v
  in_words (agrees_inside a) = a

-- w and t are what stands there after n steps of the run of file f in lent memory, and that run has not ended before
pub record StandsAfter (f : List ℕ) (T : Tables) (lent : Lent) (n : ℕ) (w : Stand) (t : Tally) : Type 0 where
  pub tabled : Tabled f T
  pub accepted : Accepted (program f)
  pub formed : Formed f
  pub conditions : conditions_ok (program f) ≡ true
  pub prints : List ℕ
  pub words : AgreesAt tabled accepted formed (room_in lent) prints n w
  pub tally : t ≡ tally_in (Run.steps (program f) n)
  pub whole : D.run (program f) lent ≡ D.run_on (program f) (room_in lent) (lent.steps - n) (outlook (room_in lent) (Run.steps (program f) n)) n (Run.steps (program f) n)

pub at_as : {f : List ℕ} {T : Tables} {lent lent' : Lent} {n n' : ℕ} {w w' : Stand} {t t' : Tally} → lent ≡ lent' → n ≡ n' → w ≡ w' → t ≡ t' → StandsAfter f T lent n w t
    → StandsAfter f T lent' n' w' t'
at_as a b d e H = rw (← a, ← b, ← d, ← e) H

-- the frames of words whose next goal is at record i and whose newest frame is k: none once the run has ended
unfoldable pub frames_in : ℕ → ℕ → ℕ
frames_in zero k = 0
frames_in (suc i) k = suc k

unfoldable pub held_by : MachineWords → Counts → Held
held_by w c = record { cells = c.cells; regions = c.regions; frames = frames_in w.goal w.top }

-- ---- what a step comes to, taken apart
module _ {f : List ℕ} {T : Tables} (B : Tabled f T) (A : Accepted (program f)) (F : Formed f) (K : Room) (qs : List ℕ) where
  abbrev at : ℕ → State
  at n = Run.steps (program f) n

  -- what the step of goal g leads to, in words
  data Leads (n : ℕ) (s : State) : Went → Type 0 where
    leads_out : {v : MachineWords} → s.condition ≡ closed → Agrees B A F K qs n (settled f T v) → Leads n s (went v)
    leads_in : {v : ConditionWords} (a : Goals) (e : RegionFrame) (o : Memory) → s.condition ≡ opened a e o → AgreesIn B A F K qs n v → Leads n s (opens v)

  state_shut : (u : RegionFrame) (fs : List RegionFrame) (m : Memory) → (state (program f) u fs m).condition ≡ closed
  unfolding state
  state_shut u fs m = refl

  module _ {c : Condition RegionFrame Memory} {g : Goal} {u : RegionFrame} {fs : List RegionFrame} {m : Memory} where
    leads : {n : ℕ} {o : Outlook} {x : Went} → After B A F K qs c g u fs m o x → ((z : Stop) → x ≡ stops z → ⊥)
        → (o ≡ goes → at (suc n) ≡ Run.take (program f) c g u fs m) → (o ≡ goes) × Leads (suc n) (Run.take (program f) c g u fs m) x
    leads {n} (onward {v = v} {e = e} {es = es} {n = k} q N S) z t =
        (refl, leads_out (rw q (state_shut e es k)) (settled_agrees B A F K qs (suc n) v e es k (t refl ∙ q) N S))
    leads {n} (inward {v = v} {a = a} {e = e} {n = k} q j J) z t = (refl, leads_in a e k (rw q refl) (agrees_in (t refl ∙ q) j J))
    leads (halts {c = d}) z t = absurd (z d refl)

    after_stops : {o : Outlook} {x : Went} {d : Stop} → After B A F K qs c g u fs m o x → x ≡ stops d → o ≡ lacks d
    after_stops (onward q N S) z = let x : ◌≡◌ {A = ℕ} 0 1 = cc in absurd (omega arith)
    after_stops (inward q j J) z = let x : ◌≡◌ {A = ℕ} 0 1 = cc in absurd (omega arith)
    after_stops {d = d} (halts {c = b}) z = let a : b ≡ d = cc in ap lacks a

    after_spent : {o : Outlook} {x : Went} (P : Program) (n : ℕ) (s : State) → After B A F K qs c g u fs m o x → D.run_on P K 0 o n s ≡ D.ended_with (Stopped Steps) n s
    unfolding D.ended_with D.run_on
    after_spent P n s (onward q N S) = refl
    after_spent P n s (inward q j J) = refl
    after_spent P n s halts = refl

  leads_went : {n : ℕ} {s : State} {x : Went} {v : MachineWords} → Leads n s x → x ≡ went v → (s.condition ≡ closed) × Agrees B A F K qs n (settled f T v)
  leads_went {v = v} (leads_out {v = y} c N) z = let a : y ≡ v = cc in (c, rw a at N)
  leads_went (leads_in a e o c N) z = let x : ◌≡◌ {A = ℕ} 0 1 = cc in absurd (omega arith)

  leads_opens : {n : ℕ} {s : State} {x : Went} {v : ConditionWords} → Leads n s x → x ≡ opens v
      → AgreesIn B A F K qs n v × (a : Goals) × (e : RegionFrame) × (o : Memory) × (s.condition ≡ opened a e o)
  leads_opens (leads_out c N) z = let x : ◌≡◌ {A = ℕ} 0 1 = cc in absurd (omega arith)
  leads_opens {v = v} (leads_in {v = y} a e o c N) z = let b : y ≡ v = cc in (rw b at N, a, e, o, c)

  no_stop_went : {x : Went} {v : MachineWords} → x ≡ went v → (z : Stop) → x ≡ stops z → ⊥
  no_stop_went e z d = let x : ◌≡◌ {A = ℕ} 0 1 = cc in omega arith

  no_stop_opens : {x : Went} {v : ConditionWords} → x ≡ opens v → (z : Stop) → x ≡ stops z → ⊥
  no_stop_opens e z d = let x : ◌≡◌ {A = ℕ} 0 1 = cc in omega arith

  -- ---- outside conditions: the newest frame's next goal is at record suc j
  record Next (n : ℕ) (w : MachineWords) (j : ℕ) : Type 0 where
    ρ : ℕ → ℕ
    χ : ℕ → ℕ
    newest : RegionFrame
    waiting : List RegionFrame
    goal : Goal
    rest : Goals
    shut : (at n).condition ≡ closed
    stored : MemoryStored K qs w (at n).memory ρ χ
    frames : (at n).frames ≡ newest ∷ waiting
    goals : newest.frame.goals ≡ goal then rest
    there : w.goal ≡ suc j
    running : Running B w (where_in (at n).memory ρ χ) newest waiting

  next_out : {n : ℕ} {w : MachineWords} (j : ℕ) → w.goal ≡ suc j → Agrees B A F K qs n w → Next n w j
  next_out j t (agrees c (R.over p y) S) = let x : ◌≡◌ {A = ℕ} 0 1 = omega (arith, t, y) in absurd (omega arith)
  next_out {n} j t (agrees {ρ = ρ} {χ = χ} c (R.runs {e = e} {fs = fs} {i = i} p y N) S) =
      let h = busy A n e fs p in
      record { ρ = ρ; χ = χ; newest = e; waiting = fs; goal = h.0; rest = h.1; shut = c; stored = S; frames = p; goals = h.2; there = t; running = N }

  -- ---- in an open condition
  record Ahead (n : ℕ) (v : ConditionWords) : Type 0 where
    newest : RegionFrame
    waiting : List RegionFrame
    memory : Memory
    follows : Goals
    back : RegionFrame
    saved : Memory
    goal : Goal
    rest : Goals
    is : at n ≡ open_state newest waiting memory follows back saved
    opening : Opening B K qs v newest waiting memory follows back saved
    goals : newest.frame.goals ≡ goal then rest
    some : (j : ℕ) × (v.words.goal ≡ suc j)

  ahead_in : {n : ℕ} {v : ConditionWords} → AgreesIn B A F K qs n v → Ahead n v
  ahead_in {n} (agrees_in {t = t} {fs = fs} {m = m} {a = a} {e = e} {o = o} p j J) =
      let h = busy A n t fs (rw p refl) in
      record { newest = t; waiting = fs; memory = m; follows = a; back = e; saved = o; goal = h.0; rest = h.1; is = p; opening = J; goals = h.2; some = j }

  -- ---- frames held
  frames_held : {n : ℕ} {w : MachineWords} → Agrees B A F K qs n w → length (at n).frames ≡ frames_in w.goal w.top
  unfolding frames_in
  frames_held (agrees c (R.over p y) S) = rw (p, y)
  frames_held (agrees c (R.runs p y N) S) = rw (p, y) (ap suc (sym (waiting_depth B N.waiting)))

  frames_inside : {n : ℕ} {v : ConditionWords} → AgreesIn B A F K qs n v → length (at n).frames ≡ frames_in v.words.goal v.words.top
  unfolding frames_in
  frames_inside (agrees_in p j J) = rw (p, j.1) (ap suc (sym (waiting_depth B J.inside.waiting)))

  ended_over : {n : ℕ} {w : MachineWords} → w.goal ≡ 0 → Agrees B A F K qs n w → outlook K (at n) ≡ ended
  ended_over {n} z (agrees c (R.over p y) S) = outlook_over K (at n) p
  ended_over z (agrees c (R.runs p y N) S) = let x : ◌≡◌ {A = ℕ} 0 1 = omega (arith, z, y) in absurd (omega arith)

  -- ---- of a file that passes number 2
  module _ (C : conditions_ok (program f) ≡ true) where
    module _ {n : ℕ} {w : MachineWords} {j : ℕ} (N : Next n w j) where
      abbrev u : RegionFrame
      u = with_frame N.newest (with_goals N.newest.frame N.rest)

      after : After B A F K qs closed N.goal u N.waiting (at n).memory (outlook K (at n)) (steps f T K (suc j) (record_at f (suc j)) w)
      after = next_goal_law B A F K qs C n w j N.shut N.frames N.there N.running N.stored N.goal N.rest N.goals

      took : outlook K (at n) ≡ goes → at (suc n) ≡ Run.take (program f) closed N.goal u N.waiting (at n).memory
      took = goes_taken B A F K qs C n N.newest N.waiting closed N.goal N.rest N.frames N.shut N.goals

      next_tally : outlook K (at n) ≡ goes → tally_in (at (suc n)) ≡ alike (counted w (record_at f (suc j)) (counts_in (at n).memory))
      next_tally o =
          ap tally_in (took o)
          ∙ out_tally (program f) _ (at n).memory (take_outside (program f) N.goal u N.waiting (at n).memory) (closed_by N.stored.represents)
          ∙ ap (λ k. alike k) (ap counts_in (outside_memory (program f) N.goal u N.waiting (at n).memory)
          ∙ left_counted B A F K w (at n).condition N.newest N.waiting (at n).memory (at n).memory N.ρ N.χ (suc j) (rw N.there at N.running.newest)
          N.stored.represents (covers_same (at n).memory) (fine_inv (at n) N.newest N.waiting (steps_fine A n) N.frames) N.goal N.rest N.goals)

      next_carries : CarriesOut f n (suc j)
      next_carries =
          let o = todo_next B (rw N.there at N.running.newest.todo) N.goal N.rest N.goals in
          record { newest = N.newest; waiting = N.waiting; rest = N.rest; frames = N.frames; goals = N.goals ∙ ap (λ g. g then N.rest) o.is }

      next_low : suc j < record_count f
      next_low = (todo_next B (rw N.there at N.running.newest.todo) N.goal N.rest N.goals).stands.below

    module _ {n : ℕ} {v : ConditionWords} (N : Ahead n v) where
      abbrev i : ℕ
      i = v.words.goal

      abbrev c : Condition RegionFrame Memory
      c = opened N.follows N.back N.saved

      abbrev t : RegionFrame
      t = with_frame N.newest (with_goals N.newest.frame N.rest)

      abbrev s : State
      s = Run.take (program f) c N.goal t N.waiting N.memory

      frames_are : (at n).frames ≡ N.newest ∷ N.waiting
      frames_are = rw N.is refl

      after_in : After B A F K qs c N.goal t N.waiting N.memory (outlook K (at n)) (steps_in f T i (record_at f i) v)
      after_in = W.next_in_law B A F K qs C n v N.is N.opening N.goal N.rest N.goals

      took_in : outlook K (at n) ≡ goes → at (suc n) ≡ s
      took_in z = goes_taken B A F K qs C n N.newest N.waiting c N.goal N.rest frames_are (rw N.is refl) N.goals z ∙ rw N.is refl

      in_carries : {j : ℕ} → i ≡ suc j → CarriesOut f n (suc j)
      in_carries y =
          let o = todo_next B (rw y at N.opening.inside.newest.todo) N.goal N.rest N.goals in
          record { newest = N.newest; waiting = N.waiting; rest = N.rest; frames = frames_are; goals = N.goals ∙ ap (λ g. g then N.rest) o.is }

      in_low : i < record_count f
      in_low = (todo_next B N.opening.inside.newest.todo N.goal N.rest N.goals).stands.below

      -- ---- counts
      cover : Covers N.opening.inside.memory.held N.memory
      cover = let O = N.opening.inside.memory in record { made = same_made O; cells = same_cells O; alive = held_alive O }

      inv_here : Inv (program f) (whole c N.newest) N.waiting N.memory
      inv_here = rw N.is at (fine_inv (at n) N.newest N.waiting (steps_fine A n) frames_are)

      left_in : counts_in (memory_after (program f) N.goal t N.memory) ≡ counted v.words (record_at f i) (counts_in N.memory)
      unfolding stored_in
      left_in =
          let I = N.opening.inside in
          left_counted B A F K v.words c N.newest N.waiting N.memory I.memory.held I.region_at I.cell_at i I.newest I.memory.stands cover inv_here
          N.goal N.rest N.goals

      fails_here : fails_at N.goal t ≡ fails_in (record_at f i) v.words
      unfolding stored_in
      fails_here =
          let I = N.opening.inside in
          fails_is B A F K v.words c N.newest N.waiting N.memory I.memory.held I.region_at I.cell_at i I.newest I.memory.stands cover inv_here
          N.goal N.rest N.goals

      lives_in : (r : ℕ) → N.memory.alive r ≡ true → (counted_in c N.memory).alive r ≡ true
      unfolding D.counted
      lives_in = rw N.is at (alive_counted (program f) n)

      held_in_law : counts_in (counted_in c (memory_after (program f) N.goal t N.memory)) ≡ made_counted (record_at f i) (counts_in (counted_in c N.memory))
      unfolding stored_in
      held_in_law =
          let I = N.opening.inside in
          held_counted B A F K v.words c N.newest N.waiting N.memory I.memory.held I.region_at I.cell_at i I.newest I.memory.stands cover inv_here
          N.goal N.rest N.goals N.follows N.back N.saved (omega (arith, made_more I.memory.logged, same_made I.memory)) lives_in

      stands_in_law : goal_stands true N.goal ≡ true
      unfolding is_open
      stands_in_law = rw N.is at (next_goal_stands (program f) C n N.newest N.waiting N.goal N.rest frames_are N.goals)

      in_tally : tally_in (at n) ≡ record { held = counts_in (counted_in c N.memory); left = counts_in N.memory; before = counts_in N.saved }
      in_tally = rw N.is (open_tally _ N.follows N.back N.saved refl)

      restored_counts : counts_in (restored N.saved N.memory) ≡ counts_in N.saved
      unfolding counts_in restored regions_held
      restored_counts = refl

      -- a failing test, the condition's end, and a step that stays in it
      fails_tally : fails_at N.goal t ≡ true → tally_in s ≡ alike (counts_in N.saved)
      unfolding state
      fails_tally h =
          ap tally_in (take_fails (program f) N.follows N.back N.saved N.goal t N.waiting N.memory h)
          ∙ shut_tally (state (program f) N.back N.waiting (restored N.saved N.memory)) refl ∙ ap (λ k. alike k) restored_counts

      ends_tally : s.condition ≡ closed → fails_at N.goal t ≡ false → tally_in s ≡ alike (counted v.words (record_at f i) (counts_in N.memory))
      ends_tally z h =
          shut_tally s z ∙ ap (λ k. alike k) (ap counts_in (take_memory (program f) c N.goal t N.waiting N.memory h) ∙ left_in)

      not_both : (x : Condition RegionFrame Memory) {a : Goals} {e : RegionFrame} {o : Memory} → x ≡ closed → x ≡ opened a e o → ⊥
      unfolding is_open
      not_both x p q = false≢true (sym (ap is_open p) ∙ ap is_open q)

      fails_shut : fails_at N.goal t ≡ true → s.condition ≡ closed
      fails_shut h =
          ap (λ x. x.condition) (take_fails (program f) N.follows N.back N.saved N.goal t N.waiting N.memory h) ∙ state_shut N.back N.waiting _

      module _ {a : Goals} {e : RegionFrame} {o : Memory} (z : s.condition ≡ opened a e o) where
        holds_on : (b : Bool) → fails_at N.goal t ≡ b → fails_at N.goal t ≡ false
        holds_on true h = absurd (not_both _ (fails_shut h) z)
        holds_on false h = h

        same_condition : s.condition ≡ c
        same_condition = go (take_stays (program f) N.follows N.back N.saved N.goal t N.waiting N.memory stands_in_law)
          where
            go : (s.condition ≡ closed) ⊎ (s.condition ≡ c) → s.condition ≡ c
            go (inl q) = absurd (not_both _ q z)
            go (inr q) = q

        stays_tally : tally_in s ≡ record {
          held = made_counted (record_at f i) (counts_in (counted_in c N.memory));
          left = counted v.words (record_at f i) (counts_in N.memory);
          before = counts_in N.saved;
        }
        stays_tally =
            let m = take_memory (program f) c N.goal t N.waiting N.memory (holds_on _ refl) in
            open_tally s N.follows N.back N.saved same_condition ∙ rw (m, left_in, held_in_law) refl

-- ---- from where a run stands
module _ {f : List ℕ} {T : Tables} {lent : Lent} {n : ℕ} where
  module _ {w : Stand} {t : Tally} (H : StandsAfter f T lent n w t) where
    -- the counts and the frames held
    pub held_here : held_after f n ≡ held_by (words_in w) t.held
    unfolding held_after held_in held_by words_in tally_in counts_in
    held_here = rw (go H.words, H.tally)
      where
        go : {w : Stand} → AgreesAt H.tabled H.accepted H.formed (room_in lent) H.prints n w → length (Run.steps (program f) n).frames ≡ frames_in (words_in w).goal (words_in w).top
        go (agrees_out a) = frames_held H.tabled H.accepted H.formed (room_in lent) H.prints a
        go (agrees_inside a) = frames_inside H.tabled H.accepted H.formed (room_in lent) H.prints a

    -- the goal that is next
    pub carries_here : (j : ℕ) → (words_in w).goal ≡ suc j → CarriesOut f n (suc j)
    unfolding words_in
    carries_here j t = go H.words t
      where
        go : {w : Stand} → AgreesAt H.tabled H.accepted H.formed (room_in lent) H.prints n w → (words_in w).goal ≡ suc j → CarriesOut f n (suc j)
        go (agrees_out a) t = next_carries H.tabled H.accepted H.formed (room_in lent) H.prints H.conditions (next_out H.tabled H.accepted H.formed (room_in lent) H.prints j t a)
        go (agrees_inside a) t = in_carries H.tabled H.accepted H.formed (room_in lent) H.prints H.conditions (ahead_in H.tabled H.accepted H.formed (room_in lent) H.prints a) t

    pub goal_low : (j : ℕ) → (words_in w).goal ≡ suc j → suc j < record_count f
    unfolding words_in
    goal_low j t = go H.words t
      where
        go : {w : Stand} → AgreesAt H.tabled H.accepted H.formed (room_in lent) H.prints n w → (words_in w).goal ≡ suc j → suc j < record_count f
        go (agrees_out a) t = next_low H.tabled H.accepted H.formed (room_in lent) H.prints H.conditions (next_out H.tabled H.accepted H.formed (room_in lent) H.prints j t a)
        go (agrees_inside a) t = rw t at (in_low H.tabled H.accepted H.formed (room_in lent) H.prints H.conditions (ahead_in H.tabled H.accepted H.formed (room_in lent) H.prints a))

    -- one step more is done
    more_done : n < lent.steps → outlook (room_in lent) (Run.steps (program f) n) ≡ goes
        → D.run (program f) lent ≡ D.run_on (program f) (room_in lent) (lent.steps - suc n) (outlook (room_in lent) (Run.steps (program f) (suc n))) (suc n) (Run.steps (program f) (suc n))
    unfolding D.run_on Run.steps
    more_done l o = let z : lent.steps - n ≡ suc (lent.steps - suc n) = omega arith in H.whole ∙ (rw (z, o))

    one_more : n < lent.steps → outlook (room_in lent) (Run.steps (program f) n) ≡ goes → (v : Stand) (d : Tally) → AgreesAt H.tabled H.accepted H.formed (room_in lent) H.prints (suc n) v
        → tally_in (Run.steps (program f) (suc n)) ≡ d → StandsAfter f T lent (suc n) v d
    one_more l o v d a e = record {
      tabled = H.tabled;
      accepted = H.accepted;
      formed = H.formed;
      conditions = H.conditions;
      prints = H.prints;
      words = a;
      tally = sym e;
      whole = more_done l o;
    }

    -- there is a cause to stop before it
    stopped : (s : Stop) → n < lent.steps → outlook (room_in lent) (Run.steps (program f) n) ≡ lacks s → D.run (program f) lent ≡ D.ended_with (Stopped s) n (Run.steps (program f) n)
    unfolding D.run_on
    stopped s l o = let z : lent.steps - n ≡ suc (lent.steps - suc n) = omega arith in H.whole ∙ (rw (z, o))

    -- all lent steps are done
    spent : lent.steps ≤ n → D.run_on (program f) (room_in lent) 0 (outlook (room_in lent) (Run.steps (program f) n)) n (Run.steps (program f) n) ≡ D.ended_with (Stopped Steps) n (Run.steps (program f) n)
        → D.run (program f) lent ≡ D.ended_with (Stopped Steps) n (Run.steps (program f) n)
    spent l o = let z : lent.steps - n ≡ 0 = omega arith in H.whole ∙ (rw z o)

  -- ---- outside conditions
  module _ {w : MachineWords} {t : Tally} (H : StandsAfter f T lent n (outside w) t) where
    agreed : Agrees H.tabled H.accepted H.formed (room_in lent) H.prints n w
    agreed = out_words H.tabled H.accepted H.formed (room_in lent) H.prints H.words

    pub finished_here : w.goal ≡ 0 → D.run (program f) lent ≡ D.ended_with Finished n (Run.steps (program f) n)
    unfolding D.ended_with D.run_on
    finished_here z = H.whole ∙ (rw (ended_over H.tabled H.accepted H.formed (room_in lent) H.prints z agreed) (over (lent.steps - n)))
      where
        over : (l : ℕ) → D.run_on (program f) (room_in lent) l ended n (Run.steps (program f) n) ≡ D.ended_with Finished n (Run.steps (program f) n)
        over zero = refl
        over (suc l) = refl

    module _ (j : ℕ) (y : w.goal ≡ suc j) where
      N : Next H.tabled H.accepted H.formed (room_in lent) H.prints n w j
      N = next_out H.tabled H.accepted H.formed (room_in lent) H.prints j y agreed

      abbrev Step : Went
      Step = steps f T (room_in lent) (suc j) (record_at f (suc j)) w

      held_is : t.held ≡ counts_in (Run.steps (program f) n).memory
      held_is = ap (λ (x : Tally). x.held) (H.tally ∙ shut_tally (Run.steps (program f) n) N.shut)

      goes_on_law : (x : Went) → Step ≡ x → ((z : Stop) → Step ≡ stops z → ⊥)
          → (outlook (room_in lent) (Run.steps (program f) n) ≡ goes) × Leads H.tabled H.accepted H.formed (room_in lent) H.prints (suc n) (Run.take (program f) closed N.goal (with_frame N.newest (with_goals N.newest.frame N.rest)) N.waiting (Run.steps (program f) n).memory) x
      goes_on_law x e z =
          rw e at (leads H.tabled H.accepted H.formed (room_in lent) H.prints (after H.tabled H.accepted H.formed (room_in lent) H.prints H.conditions N) z
          (took H.tabled H.accepted H.formed (room_in lent) H.prints H.conditions N))

      tally_on : outlook (room_in lent) (Run.steps (program f) n) ≡ goes → tally_in (Run.steps (program f) (suc n)) ≡ alike (counted w (record_at f (suc j)) t.held)
      tally_on o = next_tally H.tabled H.accepted H.formed (room_in lent) H.prints H.conditions N o ∙ ap (λ k. alike (counted w (record_at f (suc j)) k)) (sym held_is)

      -- the step is done
      pub steps_on : (v : MachineWords) → n < lent.steps → Step ≡ went v → StandsAfter f T lent (suc n) (outside (settled f T v)) (alike (counted w (record_at f (suc j)) t.held))
      steps_on v l e =
          let g = goes_on_law (went v) e (no_stop_went H.tabled H.accepted H.formed (room_in lent) H.prints e) in
          one_more H l g.0 _ _ (agrees_out (leads_went H.tabled H.accepted H.formed (room_in lent) H.prints g.1 refl).1) (tally_on g.0)

      -- .. and opens a condition
      pub steps_into : (v : ConditionWords) → n < lent.steps → Step ≡ opens v → StandsAfter f T lent (suc n) (inside v) (alike (counted w (record_at f (suc j)) t.held))
      steps_into v l e =
          let g = goes_on_law (opens v) e (no_stop_opens H.tabled H.accepted H.formed (room_in lent) H.prints e) in
          one_more H l g.0 _ _ (agrees_inside (leads_opens H.tabled H.accepted H.formed (room_in lent) H.prints g.1 refl).0) (tally_on g.0)

      pub stops_here : (s : Stop) → n < lent.steps → Step ≡ stops s → D.run (program f) lent ≡ D.ended_with (Stopped s) n (Run.steps (program f) n)
      stops_here s l e =
          stopped H s l
          (after_stops H.tabled H.accepted H.formed (room_in lent) H.prints (after H.tabled H.accepted H.formed (room_in lent) H.prints H.conditions N) e)

      pub spent_here : lent.steps ≤ n → D.run (program f) lent ≡ D.ended_with (Stopped Steps) n (Run.steps (program f) n)
      spent_here l =
          spent H l
          (after_spent H.tabled H.accepted H.formed (room_in lent) H.prints (program f) n (Run.steps (program f) n) (after H.tabled H.accepted H.formed (room_in lent) H.prints H.conditions N))

  -- ---- in an open condition
  module _ {v : ConditionWords} {t : Tally} (H : StandsAfter f T lent n (inside v) t) where
    here : Ahead H.tabled H.accepted H.formed (room_in lent) H.prints n v
    here = ahead_in H.tabled H.accepted H.formed (room_in lent) H.prints (in_words H.tabled H.accepted H.formed (room_in lent) H.prints H.words)

    pub inside_busy : v.words.goal ≡ 0 → ⊥
    inside_busy z = let j = here.some in omega (arith, z, j.1)

    abbrev StepIn : Went
    StepIn = steps_in f T v.words.goal (record_at f v.words.goal) v

    abbrev After-in : State
    After-in =
        Run.take (program f) (opened here.follows here.back here.saved) here.goal (with_frame here.newest (with_goals here.newest.frame here.rest)) here.waiting here.memory

    -- whether the next goal is a test that fails
    abbrev Failing : Bool
    Failing = fails_in (record_at f v.words.goal) v.words

    fails_as : fails_at here.goal (with_frame here.newest (with_goals here.newest.frame here.rest)) ≡ Failing
    fails_as = fails_here H.tabled H.accepted H.formed (room_in lent) H.prints H.conditions here

    tally_is : t ≡ record { held = counts_in (counted_in (opened here.follows here.back here.saved) here.memory); left = counts_in here.memory; before = counts_in here.saved }
    tally_is = H.tally ∙ in_tally H.tabled H.accepted H.formed (room_in lent) H.prints H.conditions here

    leads_from : (x : Went) → StepIn ≡ x → ((z : Stop) → StepIn ≡ stops z → ⊥)
        → (outlook (room_in lent) (Run.steps (program f) n) ≡ goes) × Leads H.tabled H.accepted H.formed (room_in lent) H.prints (suc n) After-in x
    leads_from x e z =
        rw e at (leads H.tabled H.accepted H.formed (room_in lent) H.prints (after_in H.tabled H.accepted H.formed (room_in lent) H.prints H.conditions here) z
        (took_in H.tabled H.accepted H.formed (room_in lent) H.prints H.conditions here))

    done_in : outlook (room_in lent) (Run.steps (program f) n) ≡ goes → tally_in (Run.steps (program f) (suc n)) ≡ tally_in After-in
    done_in o = ap tally_in (took_in H.tabled H.accepted H.formed (room_in lent) H.prints H.conditions here o)

    -- a test fails
    pub inside_fails : (w : MachineWords) → n < lent.steps → StepIn ≡ went w → Failing ≡ true → StandsAfter f T lent (suc n) (outside (settled f T w)) (alike t.before)
    inside_fails w l e h =
        let g = leads_from (went w) e (no_stop_went H.tabled H.accepted H.formed (room_in lent) H.prints e) in
        one_more H l g.0 _ _ (agrees_out (leads_went H.tabled H.accepted H.formed (room_in lent) H.prints g.1 refl).1)
        (done_in g.0 ∙ fails_tally H.tabled H.accepted H.formed (room_in lent) H.prints H.conditions here (fails_as ∙ h)
        ∙ ap (λ (x : Tally). alike x.before) (sym tally_is))

    -- the condition ends
    pub inside_ends : (w : MachineWords) → n < lent.steps → StepIn ≡ went w → Failing ≡ false
        → StandsAfter f T lent (suc n) (outside (settled f T w)) (alike (counted v.words (record_at f v.words.goal) t.left))
    inside_ends w l e h =
        let g = leads_from (went w) e (no_stop_went H.tabled H.accepted H.formed (room_in lent) H.prints e) in
        let y = leads_went H.tabled H.accepted H.formed (room_in lent) H.prints g.1 refl in
        one_more H l g.0 _ _ (agrees_out y.1)
        (done_in g.0 ∙ ends_tally H.tabled H.accepted H.formed (room_in lent) H.prints H.conditions here y.0 (fails_as ∙ h)
        ∙ ap (λ (x : Tally). alike (counted v.words (record_at f v.words.goal) x.left)) (sym tally_is))

    -- the condition goes on
    pub inside_on : (w : ConditionWords) → n < lent.steps → StepIn ≡ opens w
        → StandsAfter f T lent (suc n) (inside w) (record {
          held = made_counted (record_at f v.words.goal) t.held;
          left = counted v.words (record_at f v.words.goal) t.left;
          before = t.before;
        })
    inside_on w l e =
        let g = leads_from (opens w) e (no_stop_opens H.tabled H.accepted H.formed (room_in lent) H.prints e) in
        let y = leads_opens H.tabled H.accepted H.formed (room_in lent) H.prints g.1 refl in
        one_more H l g.0 _ _ (agrees_inside y.0)
        (done_in g.0 ∙ stays_tally H.tabled H.accepted H.formed (room_in lent) H.prints H.conditions here y.4
        ∙ ap (λ (x : Tally). record {
          held = made_counted (record_at f v.words.goal) x.held;
          left = counted v.words (record_at f v.words.goal) x.left;
          before = x.before;
        }) (sym tally_is))

    pub inside_stops : (s : Stop) → n < lent.steps → StepIn ≡ stops s → D.run (program f) lent ≡ D.ended_with (Stopped s) n (Run.steps (program f) n)
    inside_stops s l e =
        stopped H s l
        (after_stops H.tabled H.accepted H.formed (room_in lent) H.prints
        (after_in H.tabled H.accepted H.formed (room_in lent) H.prints H.conditions here) e)

    pub inside_spent : lent.steps ≤ n → D.run (program f) lent ≡ D.ended_with (Stopped Steps) n (Run.steps (program f) n)
    inside_spent l =
        spent H l
        (after_spent H.tabled H.accepted H.formed (room_in lent) H.prints (program f) n (Run.steps (program f) n)
        (after_in H.tabled H.accepted H.formed (room_in lent) H.prints H.conditions here))
