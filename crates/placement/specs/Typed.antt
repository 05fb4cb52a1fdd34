-- An annotation passes number 3 where the input does: each region created or removed is one of the procedure's.
use Rattle.std.specs.Prelude.{ℕ, suc, ◌≡◌, Bool, true, eqb, leb}
use Rattle.std.proofs.Math.Path.{refl, sym, ap, ap₂}
use Rattle.std.proofs.Common.{◌∙◌}
use mathlib.Core.List.{List, [], ◌∷◌}
use Rattle.sets.specs.Tests.{◌&◌, true_and}
use Rattle.sets.specs.Sets.{subset}
use Rattle.sets.specs.SetLaws.{subset_refl, subset_trans}
use Rattle.sets.specs.Members.{members, in_list, cons_here, cons_later, members_in}
use Rattle.sets.specs.declared.Set.{Set}
use Rattle.language.specs.Program.{Functor, Step, Goals, done, ◌then◌, Goal, step, Arms, no_arms, ◌before◌, Signature, Program, type_of}
use Rattle.language.specs.Typing.{is_variable, is_region, has_type, arguments_ok, functors_for, step_ok, goals_ok, goal_ok, arms_ok}
use Rattle.language.specs.Lifetimes.{wanted, live, live_goal}
use Rattle.language.specs.Annotation.{creates, removes, going_on, removing, placed_if, placed_try, placed_switch, placed_arm, place_step, place_goals, place_goal, place_arms}
use Rattle.laws.specs.Tests.{and_assoc, yes_and, and_yes}
use Rattle.region_graph.specs.Laws.{Declared}
use Rattle.placement.specs.Wanted.{Within, within_difference, wanted_within}
use Rattle.placement.specs.Effects.{FitsStep}
use Rattle.placement.specs.Fits.{GoalsFit, fits_done, fits_then, FitsGoal, fits_step_law, fits_switch, fits_if, fits_try, FitsArms, fits_last, fits_more}
use Rattle.placement.specs.Held.{removed_wants, removed_within, goal_wants, then_wants, else_wants, condition_wants, otherwise_wants, condition_held, created_within, goal_within}

module _ (P : Program) (S : Signature) where
  ok_before : (gs hs : Goals) → goals_ok P S (gs before hs) ≡ (goals_ok P S gs & goals_ok P S hs)
  unfolding goals_ok ◌before◌ ◌&◌
  ok_before done hs = refl
  ok_before (g then gs) hs =
      ap (λ (b : Bool). goal_ok P S g & b) (ok_before gs hs) ∙ sym (and_assoc (goal_ok P S g) (goals_ok P S gs) (goals_ok P S hs))

  ok_removes : (rs : List ℕ) → ((r : ℕ) → in_list r rs ≡ true → is_region S r ≡ true) → goals_ok P S (removes rs) ≡ true
  unfolding goals_ok goal_ok step_ok removes
  ok_removes [] h = refl
  ok_removes (r ∷ rs) h = true_and (h r (cons_here r r rs refl)) (ok_removes rs (λ n i. h n (cons_later n r rs i)))

  ok_creates : (rs : List ℕ) → ((r : ℕ) → in_list r rs ≡ true → is_region S r ≡ true) → goals_ok P S (creates rs) ≡ true
  unfolding goals_ok goal_ok step_ok creates
  ok_creates [] h = refl
  ok_creates (r ∷ rs) h = true_and (h r (cons_here r r rs refl)) (ok_creates rs (λ n i. h n (cons_later n r rs i)))

  members_regions : (s : Set) → Within S s → (r : ℕ) → in_list r (members s) ≡ true → is_region S r ≡ true
  members_regions s W r i = W.inside r (members_in s r i).0

  ok_removing : (held want : Set) → Within S held → goals_ok P S (removing held want).goals ≡ true
  unfolding removing
  ok_removing held want W = ok_removes _ (members_regions _ (within_difference want W))

  module _ (D : Declared P.types S) where
    ok_step : (g : Step) (after held : Set) → FitsStep P S g after → goals_ok P S (place_step P S g after held).goals ≡ step_ok P S g
    unfolding place_step goals_ok goal_ok
    ok_step g after held F =
        ok_before (creates _) (step g then done) ∙ yes_and _ (ok_creates _ (members_regions _ (created_within P S D g after F)))
        ∙ and_yes (step_ok P S g)

    -- removes, then a goal, then the rest
    ok_parts : (rs front rest gs : Goals) (g : Goal) → goals_ok P S rs ≡ true → goals_ok P S front ≡ goal_ok P S g → goals_ok P S rest ≡ goals_ok P S gs
        → goals_ok P S (rs before (front before rest)) ≡ goals_ok P S (g then gs)
    unfolding goals_ok
    ok_parts rs front rest gs g p q r =
        ok_before rs (front before rest) ∙ yes_and _ p ∙ ok_before front rest ∙ ap₂ ◌&◌ q r

    try_typed : {k l m n p q : Bool} → k ≡ l → m ≡ n → p ≡ q → (k & m & p) ≡ (l & n & q)
    try_typed x y z = rw (x, y, z)

    mutual
      unfolding place_goals place_goal place_arms going_on placed_if placed_try placed_switch placed_arm goals_ok goal_ok arms_ok live live_goal

      -- placed goals pass number 3 where the input's do
      pub placed_typed : {gs : Goals} {after : Set} → GoalsFit P S gs after → (held : Set) → subset (wanted S (live P gs after)) held ≡ true
          → Within S held → goals_ok P S (place_goals P S gs after held).goals ≡ goals_ok P S gs
      placed_typed (fits_done {after = after}) held h W = ok_removing held (wanted S after) W
      placed_typed (fits_then {g = g} {gs = gs} {after = after} F G) held h W =
          let w = wanted S (live_goal P g (live P gs after)) in
          let i = removed_wants S held (live_goal P g (live P gs after)) h in
          let K = removed_within S held w W in
          ok_parts _ _ _ gs g (ok_removing held w W) (goal_typed F _ i K)
          (placed_typed G _ (goal_wants P S F _ i) (goal_within P S D F _ i K))

      goal_typed : {g : Goal} {after : Set} → FitsGoal P S g after → (held : Set) → subset (wanted S (live_goal P g after)) held ≡ true
          → Within S held → goals_ok P S (place_goal P S g after held).goals ≡ goal_ok P S g
      goal_typed (fits_step_law {g = g} {after = after} F) held h W = ok_step g after held F
      goal_typed (fits_switch {x = x} {cs = cs} {after = after} m A) held h W =
          and_yes _ ∙ ap (λ b. is_variable S x & leb 1 (type_of S x) & b) (arms_typed A held h W (functors_for P S x) 0)
      goal_typed (fits_if {y = y} {z = z} {a = a} {b = b} {after = after} m n F G) held h W =
          and_yes _
          ∙ ap₂ (λ c d. has_type S 0 y & has_type S 0 z & c & d)
          (placed_typed F held (subset_trans _ _ held (then_wants S y z (live P a after) (live P b after)) h) W)
          (placed_typed G held (subset_trans _ _ held (else_wants S y z (live P a after) (live P b after)) h) W)
      goal_typed (fits_try {c = c} {a = a} {b = b} {after = after} E F G) held h W =
          let e = condition_held P S after held c a b E h in
          and_yes _
          ∙ try_typed (placed_typed E held (subset_trans _ _ held (condition_wants S (live P c (live P a after)) (live P b after)) h) W)
          (placed_typed F _ (ap (subset (wanted S (live P a after))) e ∙ subset_refl _) (rw e (wanted_within P.types S D (live P a after))))
          (placed_typed G held (subset_trans _ _ held (otherwise_wants S (live P c (live P a after)) (live P b after)) h) W)

      arms_typed : {l : Set} {cs : Arms} {after : Set} → FitsArms P S l cs after → (held : Set) → subset (wanted S l) held ≡ true → Within S held
          → (fs : List Functor) (n : ℕ) → arms_ok P S (place_arms P S cs after held).arms fs n ≡ arms_ok P S cs fs n
      arms_typed (fits_last B F) held h W [] n = refl
      arms_typed (fits_last {f = k} {ys = ys} {gs = gs} B F) held h W (f ∷ fs) n =
          ap (λ b. eqb k n & arguments_ok S f ys & b & arms_ok P S no_arms fs (suc n)) (placed_typed F held (subset_trans _ _ held B.wants h) W)
      arms_typed (fits_more B F A) held h W [] n = refl
      arms_typed (fits_more {f = k} {ys = ys} {gs = gs} B F A) held h W (f ∷ fs) n =
          ap₂ (λ b c. eqb k n & arguments_ok S f ys & b & c) (placed_typed F held (subset_trans _ _ held B.wants h) W)
          (arms_typed A held h W fs (suc n))
