-- The annotator's invariant: where at least what is wanted is held before the removes, exactly that is held after them, at each point of each
-- chain; so goals end with exactly what is wanted after them, and all parts of a switch, an if or a try end alike.
use Rattle.std.specs.Prelude.{ℕ, ◌≡◌, false, ◌⊎◌}
use Rattle.std.proofs.Common.{ap, ◌∙◌, inl, inr}
use Rattle.std.proofs.Math.Bool.{true}
use Rattle.std.proofs.Math.Logic.{⊎_elim}
use Rattle.sets.specs.Tests.{truth, clash, false_of, and_true}
use Rattle.sets.specs.Sets.{member, single, ◌∪◌, ◌∖◌, subset, union_left, union_right, difference_mk, subset_in, subset_mk}
use Rattle.sets.specs.SetLaws.{subset_refl, subset_trans, left_union, right_union, union_least, apart_in}
use Rattle.sets.specs.declared.Set.{Set}
use Rattle.language.specs.Program.{Four, Step, Goals, Goal, if_less, try, Arms, no_arms, arm, Signature, Program}
use Rattle.language.specs.Lifetimes.{wanted, live_step, live, live_goal, live_arms, effect, held_after, step_classes}
use Rattle.language.specs.Annotation.{going_on, removing, placed_if, placed_try, placed_switch, placed_arm, created_for, place_step, place_goals, place_goal, place_arms}
use Rattle.laws.specs.MoreSets.{intersection_whole}
use Rattle.region_graph.specs.Laws.{Declared}
use Rattle.placement.specs.Wanted.{wanted_mono, Within, within_union, within_difference, within_intersection, wanted_within}
use Rattle.placement.specs.Effects.{FitsStep}
use Rattle.placement.specs.Fits.{GoalsFit, fits_done, fits_then, FitsGoal, fits_step_law, fits_switch, fits_if, fits_try, FitsArms, fits_last, fits_more}

-- after the removes, what is wanted is held and nothing else
pub removed_held : (S : Signature) (held l : Set) → subset (wanted S l) held ≡ true → (removing held (wanted S l)).held ≡ wanted S l
unfolding removing
removed_held S held l h = intersection_whole held (wanted S l) h

pub removed_wants : (S : Signature) (held l : Set) → subset (wanted S l) held ≡ true → subset (wanted S l) (removing held (wanted S l)).held ≡ true
removed_wants S held l h = ap (subset (wanted S l)) (removed_held S held l h) ∙ subset_refl (wanted S l)

pub removed_within : (S : Signature) (held want : Set) → Within S held → Within S (removing held want).held
unfolding removing
removed_within S held want W = within_intersection want W

-- what is wanted in a part of an if is wanted before it
module _ (S : Signature) (y z : ℕ) (a b : Set) where
  pub then_wants : subset (wanted S a) (wanted S ((single y ∪ single z) ∪ (a ∪ b))) ≡ true
  then_wants = wanted_mono S a _ (subset_trans a (a ∪ b) _ (left_union a b) (right_union _ (a ∪ b)))

  pub else_wants : subset (wanted S b) (wanted S ((single y ∪ single z) ∪ (a ∪ b))) ≡ true
  else_wants = wanted_mono S b _ (subset_trans b (a ∪ b) _ (right_union a b) (right_union _ (a ∪ b)))

-- what is wanted in the condition of a try is wanted before it, and so is what its else part wants
module _ (S : Signature) (c b : Set) where
  pub condition_wants : subset (wanted S c) (wanted S (c ∪ b)) ≡ true
  condition_wants = wanted_mono S c _ (left_union c b)

  pub otherwise_wants : subset (wanted S b) (wanted S (c ∪ b)) ≡ true
  otherwise_wants = wanted_mono S b _ (right_union c b)

module _ (P : Program) (S : Signature) where
  -- ---- a step
  module _ (g : Step) (after : Set) (F : FitsStep P S g after) where
    pub ends_apart : (r : ℕ) → member (wanted S after) r ≡ true → member (effect P S g).ends r ≡ false
    unfolding step_classes
    ends_apart r m = false_of (λ i. clash m (apart_in _ _ (and_true F.classes).0 r i))

    pub bears_apart : (r : ℕ) → member (effect P S g).bears r ≡ true → member (wanted S (live_step P g after)) r ≡ false
    unfolding step_classes
    bears_apart r m = apart_in _ _ (and_true (and_true F.classes).1).0 r m

    -- what a step needs or leaves wanted is wanted before it, borne by it, or created for it
    pub created_mk : (r : ℕ) → member ((effect P S g).needs ∪ wanted S after) r ≡ true → member (effect P S g).bears r ≡ false
        → member (wanted S (live_step P g after) ∪ created_for P S g after) r ≡ true
    unfolding created_for
    created_mk r m b =
        ⊎_elim (union_left _ _ r) (λ n. union_right _ _ r (difference_mk _ _ r (difference_mk _ _ r m n) b))
        (truth (member (wanted S (live_step P g after)) r))

    pub step_wants : (held : Set) → subset (wanted S (live_step P g after)) held ≡ true
        → subset (wanted S after) (place_step P S g after held).held ≡ true
    unfolding place_step held_after
    step_wants held h = subset_mk _ _ (λ r m. go r m (truth (member (effect P S g).bears r)))
      where
        more : subset (wanted S (live_step P g after) ∪ created_for P S g after) (held ∪ created_for P S g after) ≡ true
        more = union_least _ _ _ (subset_trans _ held _ h (left_union held _)) (right_union held _)

        go : (r : ℕ) → member (wanted S after) r ≡ true → (member (effect P S g).bears r ≡ true) ⊎ (member (effect P S g).bears r ≡ false)
            → member (((held ∪ created_for P S g after) ∖ (effect P S g).ends) ∪ (effect P S g).bears) r ≡ true
        go r m (inl i) = union_right _ _ r i
        go r m (inr i) = union_left _ _ r (difference_mk _ _ r (subset_in _ _ more r (created_mk r (union_right _ _ r m) i)) (ends_apart r m))

  -- all arms end with exactly what is wanted after the switch
  pub data EndAlike (after held : Set) : Arms → Type 0 where
    alike_none : EndAlike after held no_arms
    alike_arm : {f : ℕ} {ys : Four} {gs : Goals} {cs : Arms} → (place_goals P S gs after held).held ≡ wanted S after → EndAlike after held cs
        → EndAlike after held (arm f ys gs cs)

  first_held : {l : Set} {cs : Arms} (after held : Set) → FitsArms P S l cs after → EndAlike after held cs
      → (place_arms P S cs after held).held ≡ wanted S after
  unfolding place_arms placed_arm
  first_held after held (fits_last ps F) (alike_arm e E) = e
  first_held after held (fits_more ps F A) (alike_arm e E) = e

  mutual
    unfolding place_goals place_goal place_arms going_on placed_if placed_try placed_switch placed_arm live live_goal live_arms

    -- THE INVARIANT: goals that are met with all that is wanted there end with exactly what is wanted after them
    pub goals_held : {gs : Goals} {after : Set} → GoalsFit P S gs after → (held : Set) → subset (wanted S (live P gs after)) held ≡ true
        → (place_goals P S gs after held).held ≡ wanted S after
    goals_held (fits_done {after = after}) held h = removed_held S held after h
    goals_held (fits_then {g = g} {gs = gs} {after = after} F G) held h =
        goals_held G _ (goal_wants F (removing held (wanted S (live_goal P g (live P gs after)))).held (removed_wants S held _ h))

    pub goal_wants : {g : Goal} {after : Set} → FitsGoal P S g after → (held : Set) → subset (wanted S (live_goal P g after)) held ≡ true
        → subset (wanted S after) (place_goal P S g after held).held ≡ true
    goal_wants (fits_step_law {g = g} {after = after} F) held h = step_wants g after F held h
    goal_wants (fits_switch {x = x} {cs = cs} {after = after} m A) held h =
        ap (subset (wanted S after)) (first_held after held A (arms_alike A held h)) ∙ subset_refl (wanted S after)
    goal_wants (fits_if {y = y} {z = z} {a = a} {b = b} {after = after} m n F G) held h =
        ap (subset (wanted S after)) (goals_held F held (subset_trans _ _ held (then_wants S y z (live P a after) (live P b after)) h))
        ∙ subset_refl (wanted S after)
    goal_wants (fits_try {c = c} {a = a} {b = b} {after = after} E F G) held h =
        ap (subset (wanted S after))
        (goals_held F _
        (ap (subset (wanted S (live P a after)))
        (goals_held E held (subset_trans _ _ held (condition_wants S (live P c (live P a after)) (live P b after)) h))
        ∙ subset_refl (wanted S (live P a after))))
        ∙ subset_refl (wanted S after)

    -- all parts of a switch end alike
    pub arms_alike : {l : Set} {cs : Arms} {after : Set} → FitsArms P S l cs after → (held : Set) → subset (wanted S l) held ≡ true
        → EndAlike after held cs
    arms_alike (fits_last B F) held h = alike_arm (goals_held F held (subset_trans _ _ held B.wants h)) alike_none
    arms_alike (fits_more B F A) held h = alike_arm (goals_held F held (subset_trans _ _ held B.wants h)) (arms_alike A held h)

  module _ (after held : Set) where
    pub arms_held : {l : Set} {cs : Arms} → FitsArms P S l cs after → subset (wanted S l) held ≡ true
        → (place_arms P S cs after held).held ≡ wanted S after
    arms_held A h = first_held after held A (arms_alike A held h)

    -- and so do those of an if
    pub then_held : (y z : ℕ) (a b : Goals) → GoalsFit P S a after → subset (wanted S (live_goal P (if_less y z a b) after)) held ≡ true
        → (place_goals P S a after held).held ≡ wanted S after
    unfolding live_goal
    then_held y z a b F h = goals_held F held (subset_trans _ _ held (then_wants S y z (live P a after) (live P b after)) h)

    -- and those of a try: its condition ends with exactly what is wanted before the then part
    pub condition_held : (c a b : Goals) → GoalsFit P S c (live P a after) → subset (wanted S (live_goal P (try c a b) after)) held ≡ true
        → (place_goals P S c (live P a after) held).held ≡ wanted S (live P a after)
    unfolding live_goal
    condition_held c a b E h = goals_held E held (subset_trans _ _ held (condition_wants S (live P c (live P a after)) (live P b after)) h)

    pub try_held : (c a b : Goals) → GoalsFit P S c (live P a after) → GoalsFit P S a after
        → subset (wanted S (live_goal P (try c a b) after)) held ≡ true
        → (place_goals P S a after (place_goals P S c (live P a after) held).held).held ≡ wanted S after
    try_held c a b E F h = goals_held F _ (ap (subset (wanted S (live P a after))) (condition_held c a b E h) ∙ subset_refl (wanted S (live P a after)))

  -- ---- only regions of the procedure are created and held
  module _ (D : Declared P.types S) where
    pub created_within : (g : Step) (after : Set) → FitsStep P S g after → Within S (created_for P S g after)
    unfolding created_for
    created_within g after F = within_difference _ (within_difference _ (within_union F.regions.needs (wanted_within P.types S D after)))

    pub step_within : (g : Step) (after held : Set) → FitsStep P S g after → Within S held → Within S (place_step P S g after held).held
    unfolding place_step held_after
    step_within g after held F W = within_union (within_difference _ (within_union W (created_within g after F))) F.regions.bears

    pub goal_within : {g : Goal} {after : Set} → FitsGoal P S g after → (held : Set) → subset (wanted S (live_goal P g after)) held ≡ true
        → Within S held → Within S (place_goal P S g after held).held
    unfolding place_goal placed_switch placed_if placed_try
    goal_within (fits_step_law {g = g} {after = after} F) held h W = step_within g after held F W
    goal_within (fits_switch {x = x} {cs = cs} {after = after} m A) held h W = rw (arms_held after held A h) (wanted_within P.types S D after)
    goal_within (fits_if {y = y} {z = z} {a = a} {b = b} {after = after} m n F G) held h W =
        rw (then_held after held y z a b F h) (wanted_within P.types S D after)
    goal_within (fits_try {c = c} {a = a} {b = b} {after = after} E F G) held h W =
        rw (try_held after held c a b E F h) (wanted_within P.types S D after)
