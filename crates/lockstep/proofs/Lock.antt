-- The accepted file's run and the plain run go in lock step: of n steps of the one, those that are no creates and removes are the steps
-- of the other; the two print the same, one ends when the other does, and they stay at the same sum out of range.
use Rattle.std.specs.Prelude.{◌≡◌, Bool, true, false, ◌↔◌, ℤ}
use Rattle.std.proofs.Math.Path.{refl, ap, sym}
use Rattle.std.proofs.Common.{◌∙◌}
use mathlib.Core.List.{List, ◌∷◌, map, []}
use Prim.Native.Nat.{ℕ, zero, suc, ◌+◌, ◌-◌, ◌≤◌}
use native.Mathlib.Omega.{arith}
use Rattle.language.specs.Program.{Goals, done, ◌then◌, Goal, Program}
use Rattle.language.specs.Frames.{Frame, Cell, Condition, closed, opened, stays_at_sum}
use Rattle.language.specs.PlainRun.{stripped, plain_state, plain_within, plain_state_in, plain_step_of, plain_steps}
use Rattle.language.specs.AcceptedRun.{RegionFrame, Memory, frame_of, step_of, steps}
use Rattle.laws.specs.Runs as Runs
use Rattle.lockstep.specs.Counted.{is_plain, price, price_of, next_goal, spends, spent, Safe}
use Rattle.lockstep.proofs.Erase.{erase_frame, erase_condition, erase_frames, erase, erase_start}
use Rattle.lockstep.proofs.Ready.{ready_steps, to_do_in}
use Rattle.lockstep.proofs.Turn.{StepTurn, quiet, plain, turn, over_erased, seen_end, sum_spends, sum_frames, seen_sum}

-- ---- counting
price_most : (gs : List Goal) → price_of gs ≤ 1
unfolding price_of price
price_most [] = omega arith
price_most (g ∷ gs) = go (is_plain g)
  where
    go : (b : Bool) → price b ≤ 1
    go true = omega arith
    go false = omega arith

module _ (P : Program) where
  -- creates and removes are some of the steps
  pub spent_most : (n : ℕ) → spent P n ≤ n
  unfolding spent spends
  spent_most zero = omega arith
  spent_most (suc n) = let i = spent_most n in let p = price_most (next_goal (steps P n)) in omega arith

  after_quiet : (n : ℕ) → spends P (steps P n) ≡ 1 → suc n - spent P (suc n) ≡ n - spent P n
  unfolding spent
  after_quiet n z = omega arith

  after_plain : (n : ℕ) → spends P (steps P n) ≡ 0 → suc n - spent P (suc n) ≡ suc (n - spent P n)
  unfolding spent
  after_plain n z = let i = spent_most n in omega arith

  within_printed : (c : Condition Frame (List Cell)) (gs : Goals) (f : Frame) (fs : List Frame) (cells : List Cell) (printed : List ℤ)
      → (plain_within P c gs f fs cells printed).printed ≡ printed
  unfolding plain_within plain_state
  within_printed closed gs f fs cells printed = refl
  within_printed (opened a e n) done f fs cells printed = refl
  within_printed (opened a e n) (g then gs) f fs cells printed = refl

module _ (P : Program) where
  erased_printed : (c : Condition RegionFrame Memory) (fs : List RegionFrame) (m : Memory) → (erase_frames P c fs m).printed ≡ m.printed
  unfolding erase_frames plain_state_in
  erased_printed c [] m = refl
  erased_printed c (f ∷ fs) m = within_printed (stripped P) (erase_condition c) _ _ _ _ m.printed

module _ (P : Program) (safe : Safe P) where
  turns : (n : ℕ) → StepTurn P (steps P n)
  turns n = turn P (steps P n) (ready_steps P n) (safe n)

  -- 1. lock step: what the plain run sees of the state after n steps is its own state after the plain ones of them
  pub lock : (n : ℕ) → erase P (steps P n) ≡ plain_steps (stripped P) (n - spent P n)
  unfolding steps plain_steps spent
  lock zero = erase_start P
  lock (suc n) = go (turns n) (lock n)
    where
      go : StepTurn P (steps P n) → erase P (steps P n) ≡ plain_steps (stripped P) (n - spent P n) →
          erase P (step_of P (steps P n)) ≡ plain_steps (stripped P) (suc n - spent P (suc n))
      go (quiet z e d) i = e ∙ i ∙ ap (plain_steps (stripped P)) (sym (after_quiet P n z))
      go (plain z e) i = e ∙ ap (plain_step_of (stripped P)) i ∙ ap (plain_steps (stripped P)) (sym (after_plain P n z))

  -- 2. the numbers printed
  pub prints : (n : ℕ) → (steps P n).memory.printed ≡ (plain_steps (stripped P) (n - spent P n)).printed
  unfolding erase
  prints n = sym (erased_printed P (steps P n).condition (steps P n).frames (steps P n).memory) ∙ ap (λ t. t.printed) (lock n)

  -- from each state some creates and removes lead to one where none comes next: the goals still to do fall
  abbrev Settles : ℕ → Type 0
  Settles n = (m : ℕ) × (m - spent P m ≡ n - spent P n) × (spends P (steps P m) ≡ 0)

  settles : (t n : ℕ) → to_do_in (steps P n) ≤ t → Settles n
  unfolding steps
  settles zero n l = go (turns n)
    where
      go : StepTurn P (steps P n) → Settles n
      go (quiet z e d) = absurd (omega arith)
      go (plain z e) = (n, refl, z)
  settles (suc t) n l = go (turns n) (λ q. settles t (suc n) q)
    where
      go : StepTurn P (steps P n) → (to_do_in (step_of P (steps P n)) ≤ t → Settles (suc n)) → Settles n
      go (quiet z e d) later = let s = later (omega arith) in (s.0, s.1 ∙ after_quiet P n z, s.2)
      go (plain z e) later = (n, refl, z)

  -- 3. each number of plain steps comes up
  pub each : (k : ℕ) → (n : ℕ) × (n - spent P n ≡ k)
  unfolding spent
  each zero = (0, refl)
  each (suc k) =
      let o = each k in
      let s = settles (to_do_in (steps P o.0)) o.0 (omega arith) in
      (suc s.0, after_plain P s.0 s.2 ∙ ap suc (s.1 ∙ o.1))

  -- 4. once the run has ended after n steps, the plain run has after the plain ones of them ..
  pub ended : (n : ℕ) → (steps P n).frames ≡ [] → (plain_steps (stripped P) (n - spent P n)).frames ≡ []
  ended n e = ap (λ t. t.frames) (sym (lock n)) ∙ over_erased P (steps P n) e

  -- .. and once the plain run has ended there, the run ends after creates and removes alone
  pub plain_ended : (n : ℕ) → (plain_steps (stripped P) (n - spent P n)).frames ≡ [] → (m : ℕ) × (m - spent P m ≡ n - spent P n) × ((steps P m).frames ≡ [])
  plain_ended n e =
      let s = settles (to_do_in (steps P n)) n (omega arith) in (
        s.0,
        s.1,
        seen_end P (steps P s.0) (ready_steps P s.0) s.2
            (ap (λ t. t.frames) (lock s.0) ∙ ap (λ k. (plain_steps (stripped P) k).frames) s.1 ∙ e),
      )

  -- 5. one run ends if and only if the other does
  pub both : ((n : ℕ) × ((steps P n).frames ≡ [])) ↔ ((k : ℕ) × ((plain_steps (stripped P) k).frames ≡ []))
  both = (forth, back)
    where
      forth : ((n : ℕ) × ((steps P n).frames ≡ [])) → ((k : ℕ) × ((plain_steps (stripped P) k).frames ≡ []))
      forth e = (e.0 - spent P e.0, ended e.0 e.1)

      back : ((k : ℕ) × ((plain_steps (stripped P) k).frames ≡ [])) → ((n : ℕ) × ((steps P n).frames ≡ []))
      back e =
          let o = each e.0 in
          let m = plain_ended o.0 (ap (λ k. (plain_steps (stripped P) k).frames) o.1 ∙ e.1) in (m.0, m.2)

  -- 6. a sum out of range: at which the run is after n steps, there the plain run is after the plain ones of them, with the same frames but for their creates
  -- and removes ..
  abbrev AtSum : ℕ → Type 0
  AtSum n = stays_at_sum (map frame_of (steps P n).frames) ≡ true

  abbrev PlainAtSum : ℕ → Type 0
  PlainAtSum k = stays_at_sum (plain_steps (stripped P) k).frames ≡ true

  pub same_sum : (n : ℕ) → AtSum n → PlainAtSum (n - spent P n) × ((plain_steps (stripped P) (n - spent P n)).frames ≡ map erase_frame (steps P n).frames)
  same_sum n o =
      let r = ready_steps P n in
      let l = ap (λ t. t.frames) (lock n) in (
        ap stays_at_sum (sym l) ∙ seen_sum P (steps P n) r (sum_spends P (steps P n) r o) ∙ o,
        sym l ∙ sum_frames P (steps P n) r o,
      )

  -- .. at which the plain run is there, at that the run is after creates and removes alone ..
  pub plain_sum : (n : ℕ) → PlainAtSum (n - spent P n) → (m : ℕ) × (m - spent P m ≡ n - spent P n) × AtSum m
  plain_sum n o =
      let s = settles (to_do_in (steps P n)) n (omega arith) in
      let l = ap (λ t. t.frames) (lock s.0) ∙ ap (λ k. (plain_steps (stripped P) k).frames) s.1 in
      (s.0, s.1, sym (seen_sum P (steps P s.0) (ready_steps P s.0) s.2) ∙ ap stays_at_sum l ∙ o)

  -- .. one run comes to one if and only if the other does ..
  pub both_stay : ((n : ℕ) × AtSum n) ↔ ((k : ℕ) × PlainAtSum k)
  both_stay = (forth, back)
    where
      forth : ((n : ℕ) × AtSum n) → ((k : ℕ) × PlainAtSum k)
      forth o = (o.0 - spent P o.0, (same_sum o.0 o.1).0)

      back : ((k : ℕ) × PlainAtSum k) → ((n : ℕ) × AtSum n)
      back o =
          let n = each o.0 in
          let m = plain_sum n.0 (ap (λ k. stays_at_sum (plain_steps (stripped P) k).frames) n.1 ∙ o.1) in (m.0, m.2)

  -- .. and both stay there for good
  pub stays : (n k : ℕ) → AtSum n → steps P (n + k) ≡ steps P n
  unfolding steps
  stays n k o = Runs.stays_on (step_of P) (steps P) (λ m. refl) n (Runs.sum_stays P (steps P n) o) k

  pub plain_stays : (n k : ℕ) → PlainAtSum n → plain_steps (stripped P) (n + k) ≡ plain_steps (stripped P) n
  unfolding plain_steps
  plain_stays n k o = Runs.stays_on (plain_step_of (stripped P)) (plain_steps (stripped P)) (λ m. refl) n (Runs.plain_sum_stays (stripped P) _ o) k
