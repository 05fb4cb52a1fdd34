-- The run in words beside the definition's run, step by step.
use Prim.Native.Nat.{ℕ, zero, suc, ◌*◌, ◌≤◌, ◌<◌}
use Rattle.std.proofs.Common.{arith, ap, ap₂, ◌∙◌}
use Rattle.std.specs.Prelude.{◌≡◌, Bool, true, false, get_or}
use Rattle.std.proofs.Math.Path.{refl, sym}
use Rattle.std.proofs.lemmas.Bool.{false≢true}
use mathlib.Core.List.{List, ◌∷◌, []}
use Rattle.std.proofs.Math.ListN.{length}
use Rattle.sets.specs.Tests.{and_true}
use Rattle.language.specs.declared.Stop.{Stop}
use Rattle.language.specs.declared.Stop.TheVariants.{Steps}
use Rattle.language.specs.declared.Ending.TheVariants.{Stopped}
use Rattle.language.specs.Program.{literal, sum, assign, construct, call, print, create, remove, test, Goals, ◌then◌, Goal, step, switch, if_less, try, Program, procedure_at}
use Rattle.language.specs.Typing.{typing_ok}
use Rattle.language.specs.Conditions.{conditions_ok}
use Rattle.language.specs.Format.{max_records}
use Rattle.language.specs.Frames.{Condition, closed, opened, ahead, fits_step, fits, entry_frame, with_goals}
use Rattle.language.specs.AcceptedRun.{RegionFrame, Memory, State, with_frame, whole, state, start}
use Rattle.language.specs.AcceptedRun as Run
use Rattle.language.specs.Machine.{Room, holds, room_in, Outlook, ended, goes, room_or, outlook_for, outlook_in, outlook_at, outlook}
use Rattle.language.specs.Machine as D
use Rattle.language.specs.Answers.{program}
use Rattle.language.specs.Numbers.{residue}
use Rattle.laws.specs.Numbers.{among_in}
use Rattle.records.specs.Records.{record_at}
use Rattle.chains.specs.Formed.{Formed}
use Rattle.safety.specs.Premises.{Accepted, laws}
use Rattle.safety.specs.Invariant.{Inv, Fine, running, over}
use Rattle.safety.proofs.Safety.{steps_fine, taken, busy}
use Rattle.safety.specs.Standing.{is_open, next_goal_stands}
use Rattle.layout.specs.Sizes.{goals_size}
use Rattle.memory.specs.Memory.{most}
use Rattle.heap.specs.Standing.{StandsFor}
use Rattle.heap.specs.Reading.{starts}
use Rattle.word_machine.specs.Tables.{Tables, Tabled}
use Rattle.word_machine.specs.Machine.{frame_words, MachineWords, ConditionWords, value_place, Went, Outcome, cleared, blocks, returned, settled_from, settled, settled_if, steps, stepped, steps_in, stepped_in, ended_with, after_step, run_on, run_in, start_words, lent_words}
use Rattle.word_machine.specs.Printing.{Printed, none_printed}
use Rattle.word_machine.specs.Statement.{Gives}
use Rattle.word_machine.specs.Copies.{return_length, cleared_length, cleared_in, blocks_most, blocks_least}
use Rattle.word_machine.specs.Relation.{where_in, sig, FrameOk, none, Running, MemoryStored}
use Rattle.word_machine.specs.Returns as R
use Rattle.word_machine.specs.Returns.{Related, settled_from_law}
use Rattle.word_machine.specs.Links.{body_todo}
use Rattle.word_machine.specs.Calls.{variable_count}
use Rattle.word_machine.specs.InCondition.{open_state, Opening}
use Rattle.word_machine.specs.Sized.{steps_sized, try_short}
use Rattle.word_machine.specs.Bodies.{body_short}
use Rattle.word_machine.specs.Steps.{After, onward, inward, halts}
use Rattle.word_machine.specs.NextGoal.{goal_after}
use Rattle.word_machine.specs.NextIn.{goal_in}

-- ---- what is next
abbrev state_with : List RegionFrame → Memory → Condition RegionFrame Memory → State
state_with es m k = record { frames = es; memory = m; condition = k }

state_is : (s : State) (es : List RegionFrame) (k : Condition RegionFrame Memory) → s.frames ≡ es → s.condition ≡ k → s ≡ state_with es s.memory k
state_is s es k p c = ap₂ (λ fs d. state_with fs s.memory d) p c

outlook_is : (K : Room) (s : State) (e : RegionFrame) (fs : List RegionFrame) (k : Condition RegionFrame Memory) (g : Goal) (rest : Goals) → s.frames ≡ e ∷ fs → s.condition ≡ k
    → e.frame.goals ≡ g then rest → outlook K s ≡ outlook_for K g e (state_with (e ∷ fs) s.memory k)
unfolding outlook outlook_at outlook_in
outlook_is K s e fs k g rest p c q =
    ap (outlook K) (state_is s (e ∷ fs) k p c) ∙ ap (λ gs. outlook_in K gs e (state_with (e ∷ fs) s.memory k)) q

-- a goal that can be done is no sum out of range
room_goes : (b : Bool) (c : Stop) → room_or b c ≡ goes → b ≡ true
unfolding room_or
room_goes true c h = refl
room_goes false c h = absurd (false≢true (cc))

goes_fits : (K : Room) (s : State) (e : RegionFrame) (g : Goal) → outlook_for K g e s ≡ goes → fits g e.frame ≡ true
unfolding outlook_for fits fits_step
goes_fits K s e (step (literal x v)) h = refl
goes_fits K s e (step (sum x o y z)) h = room_goes _ _ h
goes_fits K s e (step (assign x y)) h = refl
goes_fits K s e (step (construct x t ys)) h = refl
goes_fits K s e (step (call q ys)) h = refl
goes_fits K s e (step (print y)) h = refl
goes_fits K s e (step (create r)) h = refl
goes_fits K s e (step (remove r)) h = refl
goes_fits K s e (step (test y z)) h = refl
goes_fits K s e (switch x cs) h = refl
goes_fits K s e (if_less y z a b) h = refl
goes_fits K s e (try c a b) h = refl

pub outlook_over : (K : Room) (s : State) → s.frames ≡ [] → outlook K s ≡ ended
unfolding outlook outlook_at
outlook_over K s p = ap (λ es. outlook_at K es s) p

-- outside conditions a frame has all its goals
whole_closed : {P : Program} (e : RegionFrame) (fs : List RegionFrame) (m : Memory) → Inv P (whole closed e) fs m → Inv P e fs m
unfolding whole ahead with_frame with_goals
whole_closed e fs m I = I

pub fine_inv : {P : Program} (s : State) (e : RegionFrame) (fs : List RegionFrame) → Fine P s → s.frames ≡ e ∷ fs → Inv P (whole s.condition e) fs s.memory
fine_inv s e fs (running {f = u} {fs = us} p q i v) z =
    let a : u ≡ e = cc in
    let b : us ≡ fs = cc in
    rw (← a) (rw (← b) i)
fine_inv s e fs (over p d) z = absurd (false≢true (cc))

module _ {f : List ℕ} {T : Tables} (B : Tabled f T) (A : Accepted (program f)) (F : Formed f) (K : Room) (qs : List ℕ) where
  -- ---- returns change frames only
  settled_stored : {m : Memory} {ρ χ : ℕ → ℕ} (k i : ℕ) (w : MachineWords) → MemoryStored K qs w m ρ χ → MemoryStored K qs (settled_from f T k i w) m ρ χ
  unfolding settled_from returned
  settled_stored zero i w s = s
  settled_stored (suc k) zero w s = settled_stored k _ (returned f T k w) (record {
    represents = s.represents;
    cell_room = s.cell_room;
    printed = s.printed;
    frame_room = rw (return_length f T k (get_or w.frames _ 0) w.frames) s.frame_room;
    print_room = s.print_room;
  })
  settled_stored (suc k) (suc i) w s = s

  -- ---- after n steps of the definition's run, outside conditions and in an open one
  pub data Agrees (n : ℕ) (w : MachineWords) : Type 0 where
    agrees : {ρ χ : ℕ → ℕ} → (Run.steps (program f) n).condition ≡ closed → Related B A w (where_in (Run.steps (program f) n).memory ρ χ) (Run.steps (program f) n).frames
        → MemoryStored K qs w (Run.steps (program f) n).memory ρ χ → Agrees n w

  pub data AgreesIn (n : ℕ) (v : ConditionWords) : Type 0 where
    agrees_in : {t : RegionFrame} {fs : List RegionFrame} {m : Memory} {a : Goals} {e : RegionFrame} {o : Memory} → Run.steps (program f) n ≡ open_state t fs m a e o
        → ((j : ℕ) × (v.words.goal ≡ suc j)) → Opening B K qs v t fs m a e o → AgreesIn n v

  -- a state in words that stands for a state of the run
  pub settled_agrees : (n : ℕ) (v : MachineWords) (e : RegionFrame) (es : List RegionFrame) (m : Memory) {ρ χ : ℕ → ℕ} → Run.steps (program f) n ≡ state (program f) e es m
      → Running B v (where_in m ρ χ) e es → MemoryStored K qs v m ρ χ → Agrees n (settled f T v)
  unfolding settled state
  settled_agrees n v e es m {ρ} {χ} z R S =
      agrees {ρ = ρ} {χ = χ} (rw z refl) (rw z (settled_from_law B A es v.goal v e e.frame.goals refl refl refl R.newest R.waiting))
      (rw z (settled_stored v.top v.goal v S))

  -- what is left of a run, in words and in the definition: l steps, n are done
  abbrev GoesOn : ℕ → ℕ → Outcome → Type 0
  GoesOn l n r = Gives qs r (D.run_on (program f) K l (outlook K (Run.steps (program f) n)) n (Run.steps (program f) n))

  -- ---- one step, and the rest by induction; w are the words where it stops
  module _ (n : ℕ) (w : MachineWords) (P : Printed qs w.prints w.printed (Run.steps (program f) n).memory.printed) where
    over_gives : (l : ℕ) → Gives qs (run_on f T K l 0 n w) (D.run_on (program f) K l ended n (Run.steps (program f) n))
    unfolding run_on ended_with D.run_on D.ended_with
    over_gives zero = record { ending = refl; steps = refl; printed = P }
    over_gives (suc l) = record { ending = refl; steps = refl; printed = P }

    module _ {k : Condition RegionFrame Memory} {g : Goal} {u : RegionFrame} {fs : List RegionFrame} {m : Memory} where
      last_gives : {o : Outlook} {t : Went} → After B A F K qs k g u fs m o t
          → Gives qs (ended_with (Stopped Steps) n w) (D.run_on (program f) K zero o n (Run.steps (program f) n))
      unfolding ended_with D.run_on D.ended_with
      last_gives (onward q R Q) = record { ending = refl; steps = refl; printed = P }
      last_gives (inward q j J) = record { ending = refl; steps = refl; printed = P }
      last_gives halts = record { ending = refl; steps = refl; printed = P }

      step_gives : (l : ℕ) {o : Outlook} {t : Went} → After B A F K qs k g u fs m o t → (o ≡ goes → Run.steps (program f) (suc n) ≡ Run.take (program f) k g u fs m)
          → ((v : MachineWords) → Agrees (suc n) v → GoesOn l (suc n) (run_on f T K l v.goal (suc n) v))
          → ((c : ConditionWords) → AgreesIn (suc n) c → GoesOn l (suc n) (run_in f T K l (suc n) c))
          → Gives qs (after_step (settled_if f T t) (λ v. run_on f T K l v.goal (suc n) v) (λ c. run_in f T K l (suc n) c) (λ c. ended_with (Stopped c) n w))
          (D.run_on (program f) K (suc l) o n (Run.steps (program f) n))
      unfolding settled_if after_step ended_with D.run_on D.ended_with Run.steps
      step_gives l (onward {v = v} {e = e} {es = es} {n = k} q R Q) z out inn = out (settled f T v) (settled_agrees (suc n) v e es k (z refl ∙ q) R Q)
      step_gives l (inward {v = v} q j J) z out inn = inn v (agrees_in (z refl ∙ q) j J)
      step_gives l halts z out inn = record { ending = refl; steps = refl; printed = P }

  -- ---- of a file that passes number 2
  module _ (C : conditions_ok (program f) ≡ true) where
    -- a condition's goals take no more records than the file has
    short : (n : ℕ) (e : RegionFrame) (fs : List RegionFrame) (g : Goal) (rest : Goals) → (Run.steps (program f) n).frames ≡ e ∷ fs → e.frame.goals ≡ g then rest
        → (t a b : Goals) → g ≡ try t a b → goals_size t ≤ max_records
    short n e fs g rest p q t a b z =
        try_short (program f) max_records (body_short F) {t = t} {a = a} {d = b} {gs = rest} (steps_sized (program f) max_records (body_short F) n) p (q ∙ ap (λ (h : Goal). h then rest) z)

    -- the newest frame's next goal, in words and in the definition
    pub next_goal_law : (n : ℕ) (w : MachineWords) {ρ χ : ℕ → ℕ} {e : RegionFrame} {fs : List RegionFrame} (j : ℕ) → (Run.steps (program f) n).condition ≡ closed
        → (p : (Run.steps (program f) n).frames ≡ e ∷ fs) → w.goal ≡ suc j
        → Running B w (where_in (Run.steps (program f) n).memory ρ χ) e fs → MemoryStored K qs w (Run.steps (program f) n).memory ρ χ
        → (g : Goal) (rest : Goals) → e.frame.goals ≡ g then rest
        → After B A F K qs closed g (with_frame e (with_goals e.frame rest)) fs (Run.steps (program f) n).memory (outlook K (Run.steps (program f) n))
        (steps f T K (suc j) (record_at f (suc j)) w)
    unfolding is_open
    next_goal_law n w {ρ} {χ} {e} {fs} j c p y N S g rest q =
        rw (outlook_is K (Run.steps (program f) n) e fs closed g rest p c q)
        (goal_after B A F K qs w e fs (Run.steps (program f) n).memory ρ χ (suc j) (rw y at N.newest) N.waiting S
        (closed_inv (Run.steps (program f) n).condition c (fine_inv (Run.steps (program f) n) e fs (steps_fine A n) p)) g rest q
        (rw c at (next_goal_stands (program f) C n e fs g rest p q)) (short n e fs g rest p q))
      where
        closed_inv : (k : Condition RegionFrame Memory) → k ≡ closed → Inv (program f) (whole k e) fs (Run.steps (program f) n).memory → Inv (program f) e fs (Run.steps (program f) n).memory
        closed_inv k d I = whole_closed e fs _ (rw d at I)

    -- .. in an open condition
    pub next_in_law : (n : ℕ) (v : ConditionWords) {t : RegionFrame} {fs : List RegionFrame} {m : Memory} {a : Goals} {e : RegionFrame} {o : Memory}
        → Run.steps (program f) n ≡ open_state t fs m a e o → Opening B K qs v t fs m a e o → (g : Goal) (rest : Goals) → t.frame.goals ≡ g then rest
        → After B A F K qs (opened a e o) g (with_frame t (with_goals t.frame rest)) fs m (outlook K (Run.steps (program f) n))
        (steps_in f T v.words.goal (record_at f v.words.goal) v)
    unfolding is_open
    next_in_law n v {t} {fs} {m} {a} {e} {o} p J g rest q =
        let pf : (Run.steps (program f) n).frames ≡ t ∷ fs = rw p refl in
        let pc : (Run.steps (program f) n).condition ≡ opened a e o = rw p refl in
        rw (ap (outlook K) p ∙ outlook_is K (open_state t fs m a e o) t fs (opened a e o) g rest refl refl q)
        (goal_in B A F K qs v t fs m a e o J (rw p at (fine_inv (Run.steps (program f) n) t fs (steps_fine A n) pf)) g rest q
        (rw pc at (next_goal_stands (program f) C n t fs g rest pf q)))

    -- .. which the definition's run takes if it can be done
    pub goes_taken : (n : ℕ) (e : RegionFrame) (fs : List RegionFrame) (k : Condition RegionFrame Memory) (g : Goal) (rest : Goals) → (Run.steps (program f) n).frames ≡ e ∷ fs
        → (Run.steps (program f) n).condition ≡ k → e.frame.goals ≡ g then rest → outlook K (Run.steps (program f) n) ≡ goes
        → Run.steps (program f) (suc n) ≡ Run.take (program f) k g (with_frame e (with_goals e.frame rest)) fs (Run.steps (program f) n).memory
    goes_taken n e fs k g rest p c q z =
        rw c at (taken A n e fs g rest p q (goes_fits K _ e g (sym (outlook_is K (Run.steps (program f) n) e fs k g rest p c q) ∙ z)))

    -- ---- l steps are left
    abbrev FromOut : ℕ → Type 0
    FromOut l = (n : ℕ) (w : MachineWords) (i : ℕ) → w.goal ≡ i → Agrees n w → GoesOn l n (run_on f T K l i n w)

    abbrev FromIn : ℕ → Type 0
    FromIn l = (n : ℕ) (v : ConditionWords) → AgreesIn n v → GoesOn l n (run_in f T K l n v)

    none_out : FromOut zero
    unfolding run_on
    none_out n w i t (agrees c (R.over p y) S) =
        let a : i ≡ 0 = sym t ∙ y in
        rw (a, outlook_over K (Run.steps (program f) n) p) (over_gives n w S.printed zero)
    none_out n w i t (agrees c (R.runs {e = e} {fs = fs} {i = j} p y N) S) =
        let h = busy A n e fs p in
        let a : i ≡ suc j = sym t ∙ y in
        rw a (last_gives n w S.printed (next_goal_law n w j c p y N S h.0 h.1 h.2))

    none_in : FromIn zero
    unfolding run_in
    none_in n v (agrees_in {t = t} {fs = fs} p j J) =
        let h = busy A n t fs (rw p refl) in
        last_gives n v.words (rw p J.printed) (next_in_law n v p J h.0 h.1 h.2)

    module _ (l : ℕ) (out : FromOut l) (inn : FromIn l) where
      more_out : FromOut (suc l)
      unfolding run_on stepped
      more_out n w i t (agrees c (R.over p y) S) =
          let a : i ≡ 0 = sym t ∙ y in
          rw (a, outlook_over K (Run.steps (program f) n) p) (over_gives n w S.printed (suc l))
      more_out n w i t (agrees c (R.runs {e = e} {fs = fs} {i = j} p y N) S) =
          let h = busy A n e fs p in
          let a : i ≡ suc j = sym t ∙ y in
          rw a (step_gives n w S.printed l (next_goal_law n w j c p y N S h.0 h.1 h.2) (goes_taken n e fs closed h.0 h.1 p c h.2)
          (λ v b. out (suc n) v v.goal refl b) (inn (suc n)))

      more_in : FromIn (suc l)
      unfolding run_in stepped_in
      more_in n v (agrees_in {t = t} {fs = fs} {m = m} {a = a} {e = e} {o = o} p j J) =
          let h = busy A n t fs (rw p refl) in
          step_gives n v.words (rw p J.printed) l (next_in_law n v p J h.0 h.1 h.2)
          (λ z. goes_taken n t fs (opened a e o) h.0 h.1 (rw p refl) (rw p refl) h.2 z ∙ rw p refl)
          (λ w b. out (suc n) w w.goal refl b) (inn (suc n))

    run_from_law : (l : ℕ) → FromOut l × FromIn l
    run_from_law zero = (none_out, none_in)
    run_from_law (suc l) = let r = run_from_law l in (more_out l r.0 r.1, more_in l r.0 r.1)

  -- ---- the entry's frame alone
  module _ (m rs fw : List ℕ) (l : ℕ) (k : K ≡ room_in (lent_words m rs fw qs l)) (some : 0 < K.frames) where
    entry_some : 0 < length (program f).procedures
    unfolding typing_ok
    entry_some = let a = among_in _ (length (program f).procedures) (and_true (and_true A.typing).1).0 in omega (arith, a.0)

    room : frame_words * K.frames ≤ length fw
    unfolding room_in lent_words holds
    room = rw k (omega arith)

    entry_frame_law : FrameOk B (cleared 1 (blocks (T.size 0)) fw) 0 (where_in (start (program f)).memory (λ r. 0) (λ j. 0)) (T.body 0) (record { frame = entry_frame (program f); stands = λ r. 0 })
    unfolding entry_frame StandsFor residue
    entry_frame_law =
        let e = B.size 0 entry_some in
        let c = blocks_most (T.size 0) in
        let n : length (sig f 0).variables ≤ blocks (T.size 0) = rw e (blocks_least (length (sig f 0).variables) (laws A 0).variables) in
        record {
          fits = rw (cleared_length (blocks (T.size 0)) 1 fw) (omega (arith, room, some));
          values = λ x a b v. rw (cleared_in (blocks (T.size 0)) 1 fw (value_place 0 x) (omega arith) (omega (arith, variable_count (sig f 0) x v, n)) (omega (arith, room, some, c))) (refl, refl);
          regions = λ r a b z. absurd (z refl);
          todo = body_todo B A F 0 entry_some;
        }

    print_words_law : K.prints ≤ length qs
    unfolding room_in lent_words holds
    print_words_law = rw k (omega arith)

    cell_most : K.cells ≤ most
    unfolding room_in lent_words holds
    cell_most = rw k (omega arith)

    entry_stored : MemoryStored K qs (start_words f T m rs fw qs) (start (program f)).memory (λ r. 0) (λ j. 0)
    unfolding start_words start state lent_words
    entry_stored = record {
      represents = rw k (starts (program f) (lent_words m rs fw qs l) m rs refl refl);
      cell_room = cell_most;
      printed = none_printed qs;
      frame_room = rw (cleared_length (blocks (T.size 0)) 1 fw) room;
      print_room = print_words_law;
    }

    pub start_agrees : Agrees 0 (start_words f T m rs fw qs)
    unfolding Run.steps start state start_words entry_frame settled_from
    start_agrees =
        agrees refl (settled_from_law B A [] (T.body 0) (start_words f T m rs fw qs) (record { frame = entry_frame (program f); stands = λ r. 0 }) (procedure_at (program f) 0).body
        refl refl refl entry_frame_law none) entry_stored

    pub start_gives : conditions_ok (program f) ≡ true
        → Gives qs (run_on f T K l (start_words f T m rs fw qs).goal 0 (start_words f T m rs fw qs)) (D.run_on (program f) K l (outlook K (start (program f))) 0 (start (program f)))
    unfolding Run.steps
    start_gives C = (run_from_law C l).0 0 (start_words f T m rs fw qs) _ refl start_agrees
