-- The placement point by point: creates and removes from the live sets alone, without carrying what is held; it is the annotator's.
use Rattle.std.specs.Prelude.{◌≡◌, true}
use Rattle.std.proofs.Common.{sym, ap₂, ◌∙◌}
use Rattle.std.proofs.Math.Path.{ap}
use Rattle.sets.specs.Sets.{◌∪◌, ◌∖◌, subset}
use Rattle.sets.specs.SetLaws.{subset_refl, subset_trans}
use Rattle.sets.specs.Members.{members}
use Rattle.sets.specs.declared.Set.{Set}
use Rattle.language.specs.Program.{Step, Goals, done, ◌then◌, Goal, step, switch, if_less, try, Arms, no_arms, arm, ◌before◌, Signature, Program}
use Rattle.language.specs.Lifetimes.{wanted, live_step, live, live_goal, held_after}
use Rattle.language.specs.Annotation.{creates, removes, going_on, removing, placed_if, placed_try, placed_switch, placed_arm, created_for, place_step, place_goals, place_goal, place_arms}
use Rattle.laws.specs.MoreSets.{difference_self, members_empty}
use Rattle.laws.specs.Goals.{before_done, before_assoc}
use Rattle.placement.specs.Fits.{GoalsFit, fits_done, fits_then, FitsGoal, fits_step_law, fits_switch, fits_if, fits_try, FitsArms, fits_last, fits_more}
use Rattle.placement.specs.Held.{removed_held, removed_wants, goal_wants, then_wants, else_wants, condition_wants, otherwise_wants, arms_held, then_held, condition_held, try_held}

-- removes from `held` to what is wanted where l is live
unfoldable pub removes_to : Signature → Set → Set → Goals
removes_to S held l = removes (members (held ∖ wanted S l))

-- nothing is removed where exactly what is wanted is held
none_removed : (S : Signature) (held l : Set) → held ≡ wanted S l → removes_to S held l ≡ done
unfolding removes_to removes
none_removed S held l e = rw e (ap (λ s. removes (members s)) (difference_self (wanted S l)) ∙ ap removes members_empty)

module _ (P : Program) (S : Signature) where
  -- what is held after a step that was met with exactly what is wanted before it
  unfoldable pub held_past : Step → Set → Set
  held_past g after = held_after P S g (wanted S (live_step P g after) ∪ created_for P S g after)

  -- goals and a goal that are met with exactly what is wanted, up to the removes after them; `w` is held at the start of arms
  unfoldable mutual
    pub local_goals : Goals → Set → Goals
    local_goals done after = done
    local_goals (g then gs) after = local_goal g (live P gs after) before local_goals gs after

    pub local_goal : Goal → Set → Goals
    local_goal (step g) after = creates (members (created_for P S g after)) before step g then removes_to S (held_past g after) after
    local_goal (switch x cs) after = switch x (local_arms cs after (wanted S (live_goal P (switch x cs) after))) then done
    local_goal (if_less y z a b) after =
        if_less y z (removes_to S (wanted S (live_goal P (if_less y z a b) after)) (live P a after) before local_goals a after)
        (removes_to S (wanted S (live_goal P (if_less y z a b) after)) (live P b after) before local_goals b after) then done
    local_goal (try c a b) after =
        try (removes_to S (wanted S (live_goal P (try c a b) after)) (live P c (live P a after)) before local_goals c (live P a after)) (local_goals a after)
        (removes_to S (wanted S (live_goal P (try c a b) after)) (live P b after) before local_goals b after) then done

    pub local_arms : Arms → Set → Set → Arms
    local_arms no_arms after w = no_arms
    local_arms (arm f ys gs cs) after w = arm f ys (removes_to S w (live P gs after) before local_goals gs after) (local_arms cs after w)

  -- a placed goal with the removes after it
  with_removes : Goal → Set → Set → Goals
  with_removes g after held = (place_goal P S g after held).goals before removes_to S (place_goal P S g after held).held after

  local_step : (g : Step) (after : Set) → with_removes (step g) after (wanted S (live_step P g after)) ≡ local_goal (step g) after
  unfolding with_removes local_goal place_goal place_step held_past ◌before◌
  local_step g after = before_assoc (creates _) (step g then done) _

  -- removes, then a goal, then removes and the rest
  local_parts : (rs front all mid rest new : Goals) → all ≡ mid before rest → front before mid ≡ new
      → rs before (front before all) ≡ rs before (new before rest)
  local_parts rs front all mid rest new p e =
      ap (λ gs. rs before gs) (ap (λ gs. front before gs) p ∙ sym (before_assoc front mid rest) ∙ ap (λ gs. gs before rest) e)

  at_end_law : (g : Goal) (after held : Set) {new : Goals} → (place_goal P S g after held).held ≡ wanted S after
      → (place_goal P S g after held).goals ≡ new → with_removes g after held ≡ new
  unfolding with_removes
  at_end_law g after held e q = ap (λ gs. (place_goal P S g after held).goals before gs) (none_removed S _ after e) ∙ before_done _ ∙ q

  local_try : {c d a e b f : Goals} → c ≡ d → a ≡ e → b ≡ f → try c a b then done ≡ try d e f then done
  local_try x y z = rw (x, y, z)

  bare_local : {rs gs hs : Goals} → rs ≡ done → hs ≡ rs before gs → hs ≡ gs
  unfolding ◌before◌
  bare_local {gs = gs} e q = q ∙ ap (λ ks. ks before gs) e

  mutual
    unfolding place_goals place_goal place_arms going_on removing placed_if placed_try placed_switch placed_arm live live_goal local_goals removes_to with_removes

    -- THE LOCAL FORM: the annotated goals do not depend on how `held` is carried
    pub placed_local : {gs : Goals} {after : Set} → GoalsFit P S gs after → (held : Set) → subset (wanted S (live P gs after)) held ≡ true
        → (place_goals P S gs after held).goals ≡ removes_to S held (live P gs after) before local_goals gs after
    placed_local (fits_done {after = after}) held h = sym (before_done _)
    placed_local (fits_then {g = g} {gs = gs} {after = after} F G) held h =
        local_parts _ _ _ _ _ _ (placed_local G _ (goal_wants P S F _ (removed_wants S held _ h)))
        (ap (with_removes g (live P gs after)) (removed_held S held _ h) ∙ goal_local F)

    goal_local : {g : Goal} {after : Set} → FitsGoal P S g after → with_removes g after (wanted S (live_goal P g after)) ≡ local_goal g after
    goal_local (fits_step_law {g = g} {after = after} F) = local_step g after
    goal_local (fits_switch {x = x} {cs = cs} {after = after} m A) =
        at_end_law (switch x cs) after _ (arms_held P S after _ A (subset_refl _)) (ap (λ ds. switch x ds then done) (arms_local A _ (subset_refl _)))
    goal_local (fits_if {y = y} {z = z} {a = a} {b = b} {after = after} m n F G) =
        at_end_law (if_less y z a b) after _ (then_held P S after _ y z a b F (subset_refl _))
        (ap₂ (λ c d. if_less y z c d then done) (placed_local F _ (then_wants S y z (live P a after) (live P b after)))
        (placed_local G _ (else_wants S y z (live P a after) (live P b after))))
    goal_local (fits_try {c = c} {a = a} {b = b} {after = after} E F G) =
        let e = condition_held P S after _ c a b E (subset_refl _) in
        at_end_law (try c a b) after _ (try_held P S after _ c a b E F (subset_refl _))
        (local_try (placed_local E _ (condition_wants S (live P c (live P a after)) (live P b after)))
        (bare_local (none_removed S _ (live P a after) e) (placed_local F _ (ap (subset (wanted S (live P a after))) e ∙ subset_refl _)))
        (placed_local G _ (otherwise_wants S (live P c (live P a after)) (live P b after))))

    arms_local : {l : Set} {cs : Arms} {after : Set} → FitsArms P S l cs after → (held : Set) → subset (wanted S l) held ≡ true
        → (place_arms P S cs after held).arms ≡ local_arms cs after held
    arms_local (fits_last {f = f} {ys = ys} B F) held h = ap (λ gs. arm f ys gs no_arms) (placed_local F held (subset_trans _ _ held B.wants h))
    arms_local (fits_more {f = f} {ys = ys} B F A) held h =
        ap₂ (λ gs cs. arm f ys gs cs) (placed_local F held (subset_trans _ _ held B.wants h)) (arms_local A held h)
