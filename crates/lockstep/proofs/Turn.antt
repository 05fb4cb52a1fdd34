-- One step of the accepted file's run: a create or a remove, of which the plain run sees nothing, or a step of the plain run too.
use Rattle.std.specs.Prelude.{◌≡◌, Bool, ◌⊎◌, suc, ℤ}
use Rattle.std.proofs.Math.Path.{refl, ap, sym}
use Rattle.std.proofs.Common.{◌∙◌, inl, inr, arith}
use Rattle.std.proofs.Math.Bool.{true, false}
use mathlib.Core.List.{List, ◌∷◌, map, []}
use Rattle.sets.specs.Tests.{neg, neg_true, true_neg, truth, clash}
use Rattle.language.specs.Program.{Goals, ◌then◌, Goal, Program}
use Rattle.language.specs.Frames.{Frame, Condition, closed, opened, Cell, with_goals, fits, over_ahead, stays_at_sum, settle}
use Rattle.language.specs.PlainRun.{then_if, strip_goals, stripped, PlainState, plain_state, plain_within, plain_state_in, plain_take, plain_from, plain_step_of}
use Rattle.language.specs.AcceptedRun.{RegionFrame, State, cell_of, frame_of, with_frame, allowed, step_from, step_of}
use Rattle.laws.specs.Runs.{taken, stays_at_sum_law, plain_taken, plain_sum_stays}
use Rattle.lockstep.specs.Counted.{Free, is_plain, next_in, next_goal, price, price_of, spends}
use Rattle.lockstep.proofs.Strip.{stripped_goal, strip_goal_law, fits_stripped, quiet_fits}
use Rattle.lockstep.proofs.Erase.{erase_frame, erase_condition, erase_frames, erase, erase_take, Same}
use Rattle.lockstep.proofs.Ready.{EndedOrNext, over, ready, to_do_in, rest, ready_spends, falls}

pub data StepTurn (P : Program) (s : State) : Type 0 where
  quiet : spends P s ≡ 1 → erase P (step_of P s) ≡ erase P s → suc (to_do_in (step_of P s)) ≡ to_do_in s → StepTurn P s
  plain : spends P s ≡ 0 → erase P (step_of P s) ≡ plain_step_of (stripped P) (erase P s) → StepTurn P s

-- ---- the plain run's step from a newest frame with goals
settle_then : {F : Type 0} (goals_in : F → Goals) (into : F → F → F) (fs : List F) (f : F) (g : Goal) (gs : Goals) →
    settle goals_in into fs f (g then gs) ≡ f ∷ fs
unfolding settle
settle_then goals_in into [] f g gs = refl
settle_then goals_in into (e ∷ fs) f g gs = refl

module _ (P : Program) (f : Frame) (fs : List Frame) (cells : List Cell) (printed : List ℤ) (g : Goal) (gs : Goals) where
  plain_in : (c : Condition Frame (List Cell)) → plain_state_in P c (with_goals f (g then gs)) fs cells printed
      ≡ record { frames = with_goals f (g then gs) ∷ fs; cells = cells; printed = printed; condition = c }
  unfolding plain_state_in plain_within plain_state with_goals
  plain_in closed = rw settle_then
  plain_in (opened a e n) = refl

  plain_frames : (c : Condition Frame (List Cell)) → (plain_state_in P c (with_goals f (g then gs)) fs cells printed).frames ≡ with_goals f (g then gs) ∷ fs
  plain_frames c = ap (λ t. t.frames) (plain_in c)

  plain_next_law : (c : Condition Frame (List Cell)) → fits g (with_goals f (g then gs)) ≡ true
      → plain_step_of P (plain_state_in P c (with_goals f (g then gs)) fs cells printed) ≡ plain_take P c g (with_goals f gs) fs cells printed
  unfolding plain_step_of plain_from with_goals
  plain_next_law c n = ap (plain_step_of P) (plain_in c) ∙ plain_taken P _ fs _ g gs n

module _ (P : Program) (s : State) where
  -- ---- an ended run
  module _ (e : s.frames ≡ []) where
    pub over_erased : (erase P s).frames ≡ []
    unfolding erase erase_frames
    over_erased = rw e

    over_turn : StepTurn P s
    unfolding spends next_goal next_in price_of step_of step_from plain_step_of plain_from
    over_turn = plain (rw e) (ap (λ l. erase P (step_from P l s)) e ∙ sym (ap (λ l. plain_from (stripped P) l (erase P s)) over_erased))

  -- ---- a run with a next goal
  module _ (f : RegionFrame) (fs : List RegionFrame) (g : Goal) (gs : Goals) (e : s.frames ≡ f ∷ fs) (h : f.frame.goals ≡ (g then gs)) where
    abbrev Seen : Goals → PlainState
    Seen hs = plain_state_in (stripped P) (erase_condition s.condition) (with_goals f.frame hs) (map erase_frame fs) (map cell_of s.memory.cells) s.memory.printed

    erased : erase P s ≡ Seen (then_if (is_plain g) (stripped_goal g) (strip_goals gs))
    unfolding erase erase_frames erase_frame
    erased = rw (e, h, strip_goal_law)

    erased_plain : is_plain g ≡ true → erase P s ≡ Seen (stripped_goal g then strip_goals gs)
    unfolding then_if
    erased_plain p = rw p at erased

    erased_quiet : is_plain g ≡ false → erase P s ≡ Seen (strip_goals gs)
    unfolding then_if
    erased_quiet p = rw p at erased

    -- at a plain goal the two runs stay alike
    plain_stays_law : is_plain g ≡ true → stays_at_sum (erase P s).frames ≡ neg (fits g f.frame)
    unfolding stays_at_sum over_ahead with_goals
    plain_stays_law p =
        ap (λ t. stays_at_sum t.frames) (erased_plain p) ∙ ap stays_at_sum (plain_frames (stripped P) f.frame _ _ _ _ _ _)
        ∙ ap neg (fits_stripped g f.frame _)

    stays : stays_at_sum (map frame_of s.frames) ≡ neg (fits g f.frame)
    unfolding stays_at_sum over_ahead frame_of
    stays = rw (e, h)

    ready_turn : (b : Bool) → is_plain g ≡ b → Same P b s.condition g (rest f gs) fs s.memory → allowed P g f s.memory ≡ true → StepTurn P s
    unfolding price erase_frame with_frame with_goals
    ready_turn true p t a = go (truth (fits g f.frame))
      where
        go : (fits g f.frame ≡ true) ⊎ (fits g f.frame ≡ false) → StepTurn P s
        go (inl n) =
            plain (ready_spends P s f fs g gs e h ∙ ap price p)
            (ap (erase P) (taken P s f fs g gs e h n a) ∙ t ∙ sym (plain_next_law (stripped P) f.frame _ _ _ _ _ _ (fits_stripped g f.frame _ ∙ n))
            ∙ ap (plain_step_of (stripped P)) (sym (erased_plain p)))
        go (inr n) =
            plain (ready_spends P s f fs g gs e h ∙ ap price p)
            (ap (erase P) (stays_at_sum_law P s f fs g gs e h n) ∙ sym (plain_sum_stays (stripped P) (erase P s) (plain_stays_law p ∙ true_neg n)))
    ready_turn false p t a =
        let k = taken P s f fs g gs e h (quiet_fits g f.frame p) a in
        quiet (ready_spends P s f fs g gs e h ∙ ap price p) (ap (erase P) k ∙ t ∙ sym (erased_quiet p)) (falls P s f fs g gs e h k p)

    ready_seen : (b : Bool) → is_plain g ≡ b → spends P s ≡ 0 → (erase P s).frames ≡ [] → s.frames ≡ []
    unfolding price
    ready_seen true p z q = cc (ap (λ t. t.frames) (erased_plain p) ∙ plain_frames (stripped P) f.frame _ _ _ _ _ _)
    ready_seen false p z q = absurd (omega (arith, ready_spends P s f fs g gs e h ∙ ap price p))

    -- a sum out of range is plain, and the plain run sees the same frames
    sum_plain : neg (fits g f.frame) ≡ true → (b : Bool) → is_plain g ≡ b → is_plain g ≡ true
    sum_plain o true p = p
    sum_plain o false p = absurd (clash (quiet_fits g f.frame p) (neg_true o))

    ready_frames : is_plain g ≡ true → (erase P s).frames ≡ map erase_frame s.frames
    unfolding erase_frame then_if
    ready_frames p =
        ap (λ t. t.frames) (erased_plain p) ∙ plain_frames (stripped P) f.frame _ _ _ _ _ _
        ∙ ap (λ gs. with_goals f.frame gs ∷ map erase_frame fs) (sym (ap strip_goals h ∙ strip_goal_law g gs ∙ ap (λ b. then_if b (stripped_goal g) (strip_goals gs)) p))
        ∙ ap (map erase_frame) (sym e)

  pub turn : EndedOrNext s.frames → Free P s → StepTurn P s
  turn (over e) free = over_turn e
  turn (ready f fs g gs e h) free = ready_turn f fs g gs e h (is_plain g) refl (erase_take P s.condition g _ fs _) (free f fs g gs e h)

  -- where the plain run sees the end and no create or remove comes next, the run has ended
  pub seen_end : EndedOrNext s.frames → spends P s ≡ 0 → (erase P s).frames ≡ [] → s.frames ≡ []
  seen_end (over e) z q = e
  seen_end (ready f fs g gs e h) z q = ready_seen f fs g gs e h (is_plain g) refl z q

  -- ---- a sum out of range comes next: no create or remove does, and the plain run has the same frames
  pub sum_spends : EndedOrNext s.frames → stays_at_sum (map frame_of s.frames) ≡ true → spends P s ≡ 0
  unfolding stays_at_sum price
  sum_spends (over e) o = absurd (clash (rw e at o) refl)
  sum_spends (ready f fs g gs e h) o =
      ready_spends P s f fs g gs e h ∙ ap price (sum_plain f fs g gs e h (sym (stays f fs g gs e h) ∙ o) (is_plain g) refl)

  pub sum_frames : EndedOrNext s.frames → stays_at_sum (map frame_of s.frames) ≡ true → (erase P s).frames ≡ map erase_frame s.frames
  unfolding stays_at_sum
  sum_frames (over e) o = absurd (clash (rw e at o) refl)
  sum_frames (ready f fs g gs e h) o = ready_frames f fs g gs e h (sum_plain f fs g gs e h (sym (stays f fs g gs e h) ∙ o) (is_plain g) refl)

  -- where no create or remove comes next, the plain run sees a sum out of range if and only if there is one
  pub seen_sum : EndedOrNext s.frames → spends P s ≡ 0 → stays_at_sum (erase P s).frames ≡ stays_at_sum (map frame_of s.frames)
  unfolding stays_at_sum price
  seen_sum (over e) z = ap stays_at_sum (over_erased e) ∙ sym (ap (λ l. stays_at_sum (map frame_of l)) e)
  seen_sum (ready f fs g gs e h) z = go (is_plain g) refl
    where
      go : (b : Bool) → is_plain g ≡ b → stays_at_sum (erase P s).frames ≡ stays_at_sum (map frame_of s.frames)
      go true p = plain_stays_law f fs g gs e h p ∙ sym (stays f fs g gs e h)
      go false p = absurd (omega (arith, ready_spends P s f fs g gs e h ∙ ap price p))
