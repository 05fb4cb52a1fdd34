-- A run in lent memory is a front part of the accepted file's run: what it printed, demand 3 says of it too.
use Prim.Native.Nat.{ℕ, zero, suc, ◌+◌, ◌-◌, ◌≤◌}
use Rattle.std.proofs.Common.{arith, ◌∙◌}
use Rattle.std.specs.Prelude.{Bool, ◌≡◌, eqb, Ok}
use Rattle.std.proofs.Math.Bool.{true, false, false≢true}
use mathlib.Core.List.{List, ◌∷◌, map, []}
use Rattle.std.proofs.Math.Path.{refl, sym, ap}
use Rattle.sets.specs.Tests.{clash, true_neg}
use Rattle.language.specs.declared.Stop.{Stop}
use Rattle.language.specs.declared.Stop.TheVariants.{Steps, Frames, Sums}
use Rattle.language.specs.declared.Ending.{Ending}
use Rattle.language.specs.declared.Ending.TheVariants.{Refused, Finished, Stopped}
use Rattle.language.specs.Program.{literal, sum, assign, construct, call, print, create, remove, test, Goals, done, ◌then◌, Goal, step, switch, if_less, try, Program}
use Rattle.language.specs.Frames.{fits_step, fits, over_ahead, stays_at_sum}
use Rattle.language.specs.PlainRun.{stripped, plain_steps}
use Rattle.language.specs.AcceptedRun.{RegionFrame, State, frame_of, start, step_of, steps}
use Rattle.language.specs.Machine.{Lent, Room, Outlook, ended, goes, lacks, room_or, outlook_for, outlook_in, outlook_at, outlook, Run, ended_with, run_on, run_from, run}
use Rattle.language.specs.Answers.{stop_number, program, checked, run_for, ran}
use Rattle.lockstep.specs.Counted.{spent}
use Rattle.soundness.proofs.Demand3.{demand_3}

-- What holds of the run of an accepted file in any lent memory. After n steps, whatever stopped it:
pub record LentRun (f : List ℕ) (l : Lent) : Type 0 where
  -- no more steps than are lent, and all of them where they are spent
  pub within : (ran f l).steps ≤ l.steps
  pub all : (ran f l).ending ≡ Stopped Steps → (ran f l).steps ≡ l.steps
  -- the numbers printed are those of the accepted file's run after n steps, and so those of the plain run after n less those spent
  pub prints : (ran f l).printed ≡ (steps (program f) (ran f l).steps).memory.printed
  pub plain_prints : (ran f l).printed ≡ (plain_steps (stripped (program f)) ((ran f l).steps - spent (program f) (ran f l).steps)).printed
  -- finished: both runs have ended there, and no region is left
  pub over : (ran f l).ending ≡ Finished → (steps (program f) (ran f l).steps).frames ≡ []
  pub plain_over : (ran f l).ending ≡ Finished → (plain_steps (stripped (program f)) ((ran f l).steps - spent (program f) (ran f l).steps)).frames ≡ []
  pub clean : (ran f l).ending ≡ Finished → (k : ℕ) → (steps (program f) (ran f l).steps).memory.alive k ≡ false
  -- steps spent: the run has not ended there. So with memory for all that it makes, it finishes exactly if the accepted file's run ends in time, and else
  -- stops at a sum out of range or for want of steps
  pub still : (ran f l).ending ≡ Stopped Steps → (steps (program f) l.steps).frames ≡ [] → ⊥
  -- "The new stop is 15, given for nothing else" (C-15): both runs stay there at a sum out of range
  pub at_sum : (ran f l).ending ≡ Stopped Sums → stays_at_sum (map frame_of (steps (program f) (ran f l).steps).frames) ≡ true
  pub plain_at_sum : (ran f l).ending ≡ Stopped Sums
      → stays_at_sum (plain_steps (stripped (program f)) ((ran f l).steps - spent (program f) (ran f l).steps)).frames ≡ true

-- ---- what an outlook is
unfoldable is_ended : Outlook → Bool
is_ended ended = true
is_ended goes = false
is_ended (lacks c) = false

-- it stops with number n
unfoldable stops_with : ℕ → Outlook → Bool
stops_with n ended = false
stops_with n goes = false
stops_with n (lacks c) = eqb (stop_number c) n

-- 10 is looked at before the outlook: no outlook lacks steps
abbrev lacks_steps : Outlook → Bool
lacks_steps = stops_with 10

abbrev lacks_sums : Outlook → Bool
lacks_sums = stops_with 15

-- a goal can be done, or lacks room
unfoldable Onward : Outlook → Type 0
Onward o = (is_ended o ≡ false) × (lacks_steps o ≡ false)

room_onward : (b : Bool) (c : Stop) → lacks_steps (lacks c) ≡ false → Onward (room_or b c)
unfolding Onward room_or is_ended stops_with stop_number
room_onward true c e = (refl, refl)
room_onward false c e = (refl, e)

module _ (k : Room) (s : State) where
  goal_onward : (g : Goal) (e : RegionFrame) → Onward (outlook_for k g e s)
  unfolding Onward outlook_for is_ended stops_with stop_number
  goal_onward (step (literal x v)) e = (refl, refl)
  goal_onward (step (sum x o y z)) e = room_onward _ _ refl
  goal_onward (step (assign x y)) e = (refl, refl)
  goal_onward (step (construct x f ys)) e = room_onward _ _ refl
  goal_onward (step (call q ys)) e = room_onward _ _ refl
  goal_onward (step (print y)) e = room_onward _ _ refl
  goal_onward (step (create r)) e = room_onward _ _ refl
  goal_onward (step (remove r)) e = (refl, refl)
  goal_onward (step (test y z)) e = (refl, refl)
  goal_onward (switch x cs) e = (refl, refl)
  goal_onward (if_less y z a b) e = (refl, refl)
  goal_onward (try c a b) e = (refl, refl)

  goals_onward : (gs : Goals) (e : RegionFrame) → Onward (outlook_in k gs e s)
  unfolding Onward outlook_in is_ended stops_with stop_number
  goals_onward done e = (refl, refl)
  goals_onward (g then gs) e = goal_onward g e

  -- "an ended run" has no frame, and one without a frame has ended
  frames_none : (fs : List RegionFrame) → is_ended (outlook_at k fs s) ≡ true → fs ≡ []
  unfolding Onward outlook_at
  frames_none [] e = refl
  frames_none (f ∷ fs) e = absurd (false≢true (sym (goals_onward f.frame.goals f).0 ∙ e))

  frames_some : (fs : List RegionFrame) → is_ended (outlook_at k fs s) ≡ false → fs ≡ [] → ⊥
  unfolding outlook_at is_ended
  frames_some [] e z = false≢true (sym e)
  frames_some (f ∷ fs) e z = false≢true cc

  no_steps_lack : (fs : List RegionFrame) → lacks_steps (outlook_at k fs s) ≡ false
  unfolding Onward outlook_at stops_with stop_number
  no_steps_lack [] = refl
  no_steps_lack (f ∷ fs) = (goals_onward f.frame.goals f).1

  -- 15 is for a sum out of range
  room_sum : (b : Bool) (c : Stop) → lacks_sums (lacks c) ≡ false → lacks_sums (room_or b c) ≡ true → ⊥
  unfolding room_or stops_with stop_number
  room_sum true c e o = false≢true o
  room_sum false c e o = clash o e

  out_of_range : (b : Bool) → lacks_sums (room_or b Sums) ≡ true → b ≡ false
  unfolding room_or stops_with stop_number
  out_of_range true o = absurd (false≢true o)
  out_of_range false o = refl

  goal_sum : (g : Goal) (e : RegionFrame) → lacks_sums (outlook_for k g e s) ≡ true → fits g e.frame ≡ false
  unfolding outlook_for fits fits_step stops_with stop_number
  goal_sum (step (literal x v)) e o = absurd (false≢true o)
  goal_sum (step (sum x q y z)) e o = out_of_range _ o
  goal_sum (step (assign x y)) e o = absurd (false≢true o)
  goal_sum (step (construct x t ys)) e o = absurd (room_sum _ _ refl o)
  goal_sum (step (call q ys)) e o = absurd (room_sum _ _ refl o)
  goal_sum (step (print y)) e o = absurd (room_sum _ _ refl o)
  goal_sum (step (create r)) e o = absurd (room_sum _ _ refl o)
  goal_sum (step (remove r)) e o = absurd (false≢true o)
  goal_sum (step (test y z)) e o = absurd (false≢true o)
  goal_sum (switch x cs) e o = absurd (false≢true o)
  goal_sum (if_less y z a b) e o = absurd (false≢true o)
  goal_sum (try c a b) e o = absurd (false≢true o)

  goals_sum : (gs : Goals) (e : RegionFrame) → lacks_sums (outlook_in k gs e s) ≡ true → over_ahead gs e.frame ≡ true
  unfolding outlook_in over_ahead stops_with stop_number
  goals_sum done e o = o
  goals_sum (g then gs) e o = true_neg (goal_sum g e o)

  frames_sum : (fs : List RegionFrame) → lacks_sums (outlook_at k fs s) ≡ true → stays_at_sum (map frame_of fs) ≡ true
  unfolding outlook_at stays_at_sum frame_of stops_with stop_number
  frames_sum [] o = o
  frames_sum (f ∷ fs) o = goals_sum f.frame.goals f o

-- ---- a run of P from state n on, with l steps left
unfoldable stop_of : Ending → Outlook
stop_of (Refused r) = goes
stop_of Finished = ended
stop_of (Stopped c) = lacks c

record Front (P : Program) (l n : ℕ) (r : Run) : Type 0 where
  low : n ≤ r.steps
  high : r.steps ≤ n + l
  all : r.ending ≡ Stopped Steps → r.steps ≡ n + l
  printed : r.printed ≡ (steps P r.steps).memory.printed
  over : r.ending ≡ Finished → (steps P r.steps).frames ≡ []
  still : r.ending ≡ Stopped Steps → (steps P r.steps).frames ≡ [] → ⊥
  at_sum : r.ending ≡ Stopped Sums → stays_at_sum (map frame_of (steps P r.steps).frames) ≡ true

module _ (P : Program) where
  -- it ends here
  ends : (l n : ℕ) (s : State) (e : Ending) → s ≡ steps P n → (e ≡ Stopped Steps → n ≡ n + l) → (e ≡ Finished → s.frames ≡ [])
      → (e ≡ Stopped Steps → s.frames ≡ [] → ⊥) → (e ≡ Stopped Sums → stays_at_sum (map frame_of s.frames) ≡ true) → Front P l n (ended_with e n s)
  unfolding ended_with
  ends l n s e q a o t u =
      record {
        low = omega arith;
        high = omega arith;
        all = a;
        printed = ap (λ s. s.memory.printed) q;
        over = λ z. sym (ap (λ s. s.frames) q) ∙ o z;
        still = λ z y. t z (ap (λ s. s.frames) q ∙ y);
        at_sum = λ z. sym (ap (λ s. stays_at_sum (map frame_of s.frames)) q) ∙ u z;
      }

  -- it goes on for a step
  further : (l n : ℕ) (r : Run) → Front P l (suc n) r → Front P (suc l) n r
  further l n r h = record {
    low = omega (arith, h.low);
    high = omega (arith, h.high);
    all = λ z. omega (arith, h.all z);
    printed = h.printed;
    over = h.over;
    still = h.still;
    at_sum = h.at_sum;
  }

  not_finished : {c : Stop} → Stopped c ≡ Finished → ⊥
  unfolding stop_of is_ended
  not_finished e = false≢true (ap (λ x. is_ended (stop_of x)) e)

  not_stopped : Finished ≡ Stopped Steps → ⊥
  unfolding stop_of is_ended
  not_stopped e = false≢true (ap (λ x. is_ended (stop_of x)) (sym e))

  not_sum : {e : Ending} → lacks_sums (stop_of e) ≡ false → e ≡ Stopped Sums → ⊥
  unfolding stop_of stops_with stop_number
  not_sum n e = clash (ap (λ x. lacks_sums (stop_of x)) e) n

  run_front : (k : Room) (l n : ℕ) (s : State) → s ≡ steps P n → (o : Outlook) → outlook k s ≡ o → Front P l n (run_on P k l o n s)
  unfolding run_on outlook steps is_ended stop_of stops_with stop_number
  run_front k zero n s q ended w =
      ends zero n s Finished q (λ z. absurd (not_stopped z)) (λ z. frames_none k s s.frames (ap is_ended w)) (λ z. absurd (not_stopped z)) (λ z. absurd (not_sum refl z))
  run_front k zero n s q goes w =
      ends zero n s (Stopped Steps) q (λ z. omega arith) (λ z. absurd (not_finished z)) (λ z. frames_some k s s.frames (ap is_ended w)) (λ z. absurd (not_sum refl z))
  run_front k zero n s q (lacks c) w =
      ends zero n s (Stopped Steps) q (λ z. omega arith) (λ z. absurd (not_finished z)) (λ z. frames_some k s s.frames (ap is_ended w)) (λ z. absurd (not_sum refl z))
  run_front k (suc l) n s q ended w =
      ends (suc l) n s Finished q (λ z. absurd (not_stopped z)) (λ z. frames_none k s s.frames (ap is_ended w)) (λ z. absurd (not_stopped z)) (λ z. absurd (not_sum refl z))
  run_front k (suc l) n s q goes w =
      further l n _ (run_front k l (suc n) (step_of P s) (ap (step_of P) q) (outlook k (step_of P s)) refl)
  run_front k (suc l) n s q (lacks c) w =
      let no : (Stopped c ≡ Stopped Steps) → ⊥ = λ z. false≢true (sym (no_steps_lack k s s.frames) ∙ ap lacks_steps w ∙ ap (λ x. lacks_steps (stop_of x)) z) in
      ends (suc l) n s (Stopped c) q (λ z. absurd (no z)) (λ z. absurd (not_finished z)) (λ z. absurd (no z))
      (λ z. frames_sum k s s.frames (ap lacks_sums w ∙ ap (λ x. lacks_sums (stop_of x)) z))

  -- the entry's frame first: "where there is none for it, the run stops at once"
  from_front : (b : Bool) (k : Room) (l : ℕ) → Front P l 0 (run_from b P k l)
  unfolding run_from steps stop_of stops_with stop_number
  from_front true k l = run_front k l 0 (start P) refl (outlook k (start P)) refl
  from_front false k l =
      let no : Stopped Frames ≡ Stopped Steps → ⊥ = λ z. false≢true (ap (λ x. lacks_steps (stop_of x)) z) in
      ends l 0 (start P) (Stopped Frames) refl (λ z. absurd (no z)) (λ z. absurd (not_finished z)) (λ z. absurd (no z)) (λ z. absurd (not_sum refl z))

ran_front : (f : List ℕ) → checked f ≡ Ok tt → (l : Lent) → Front (program f) l.steps 0 (ran f l)
unfolding ran run_for run
ran_front f e l = rw e (from_front (program f) _ _ l.steps)

pub lent_run : (f : List ℕ) → checked f ≡ Ok tt → (l : Lent) → LentRun f l
lent_run f e l =
    let h = ran_front f e l in
    let S = demand_3 f e in
    record {
      within = omega (arith, h.high);
      all = λ z. omega (arith, h.all z);
      prints = h.printed;
      plain_prints = h.printed ∙ S.prints (ran f l).steps;
      over = h.over;
      plain_over = λ z. S.ended (ran f l).steps (h.over z);
      clean = λ z. S.clean (ran f l).steps (h.over z);
      still = λ z y. h.still z (ap (λ n. (steps (program f) n).frames) (omega (arith, h.all z)) ∙ y);
      at_sum = h.at_sum;
      plain_at_sum = λ z. (S.same_sum (ran f l).steps (h.at_sum z)).0;
    }
