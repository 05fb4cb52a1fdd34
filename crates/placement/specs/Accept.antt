-- The checker accepts what the annotator placed: before the removes at least what is wanted is held, after them exactly that, and what is
-- live is sound throughout.
use Rattle.std.specs.Prelude.{ℕ, ◌≡◌, Bool, false, ◌⊎◌}
use Rattle.std.proofs.Math.Path.{refl}
use Rattle.std.proofs.Common.{sym, subst, ◌∙◌, inl, inr}
use Rattle.std.proofs.Math.Bool.{true}
use Rattle.std.proofs.Math.Logic.{⊎_elim}
use Rattle.sets.specs.Tests.{truth, clash, false_of, and_true, true_and}
use Rattle.sets.specs.Sets.{member, single, ◌∪◌, ◌∩◌, ◌∖◌, subset, apart, Small, union_left, union_right, union_in, difference_mk, difference_in, eq_same, subset_in, subset_mk}
use Rattle.sets.specs.SetLaws.{subset_refl, subset_trans, left_union, right_union, intersection_most, apart_in, apart_mk, small_top}
use Rattle.sets.specs.Members.{members, set_of, keep}
use Rattle.sets.specs.MemberLaws.{keep_mk}
use Rattle.sets.specs.declared.Set.{Set}
use Rattle.language.specs.Program.{Four, arguments_of, Step, Goals, done, ◌then◌, Goal, step, try, Arms, ◌before◌, Signature, Program}
use Rattle.language.specs.Values.{reads, gives}
use Rattle.language.specs.Regions.{reach}
use Rattle.language.specs.Lifetimes.{wanted, live_step, live, live_goal, effect, held_after, step_classes}
use Rattle.language.specs.Annotation.{creates, going_on, placed_if, placed_try, placed_switch, placed_arm, created_for, place_step, place_goals, place_goal, place_arms}
use Rattle.language.specs.Checking.{Carried, broken, carries, require_rule, carry_on, join_arms, sound_given, step_rules, check_step, check_goals, check_goal, check_arms}
use Rattle.region_graph.specs.Laws.{Declared}
use Rattle.placement.specs.Given.{small_live_step, small_live, small_live_goal}
use Rattle.placement.specs.Wanted.{kept_wanted, reach_wanted, Within, wanted_within, within_small}
use Rattle.placement.specs.Effects.{FitsStep}
use Rattle.placement.specs.Fits.{ArmStart, GoalsFit, fits_done, fits_then, FitsGoal, fits_step_law, fits_switch, fits_if, fits_try, FitsArms, fits_last, fits_more}
use Rattle.placement.specs.Held.{removed_held, removed_wants, removed_within, ends_apart, bears_apart, created_mk, step_wants, goal_wants, then_wants, else_wants, condition_wants, otherwise_wants, arms_held, then_held, condition_held, try_held, created_within, goal_within}
use Rattle.placement.specs.Passes.{Passes, passes_by, passes_on, check_before, step_passes, removing_passes, creating_passes}

-- ---- the checker's small functions, where a rule is kept
carry_end : (c : Carried) → carry_on c (λ h s. carries h s) ≡ c
unfolding carry_on
carry_end broken = refl
carry_end (carries h s) = refl

rule_kept : {b : Bool} (c : Carried) → b ≡ true → require_rule b c ≡ c
unfolding require_rule
rule_kept c e = rw e

joins : (h s t : Set) → join_arms (carries h s) (carries h t) ≡ carries h (s ∩ t)
unfolding join_arms require_rule
joins h s t = rw (eq_same h h refl)

passes_join : {l h : Set} {c d : Carried} → Passes l h c → Passes l h d → Passes l h (join_arms c d)
passes_join {l} {h} U W = record {
  sound = U.sound ∩ W.sound;
  is = rw (U.is, W.is) (joins h U.sound W.sound);
  covers = intersection_most U.sound W.sound l U.covers W.covers;
}

module _ (P : Program) (S : Signature) (D : Declared P.types S) where
  -- ---- a step and its creates, where exactly what is wanted before it is held
  module _ (g : Step) (after : Set) (F : FitsStep P S g after) where
    created_apart : apart (created_for P S g after) (wanted S (live_step P g after)) ≡ true
    unfolding created_for
    created_apart = apart_mk _ _ (λ r m. (difference_in _ _ r (difference_in _ (effect P S g).bears r m).0).1)

    -- held when the step comes
    abbrev at_step : Set
    at_step = wanted S (live_step P g after) ∪ created_for P S g after

    bears_free : (r : ℕ) → member (effect P S g).bears r ≡ true → member at_step r ≡ false
    unfolding created_for
    bears_free r m =
        false_of (λ i. ⊎_elim (λ j. clash j (bears_apart P S g after F r m)) (λ j. clash m (difference_in _ _ r j).1) (union_in _ _ r i))

    rules_kept : (sound : Set) → subset (live_step P g after) sound ≡ true → step_rules P S g at_step sound ≡ true
    unfolding step_rules step_classes live_step
    rules_kept sound c =
        true_and (subset_trans _ _ sound (right_union (after ∖ gives P g) (reads P g)) c)
        (true_and (subset_mk _ _ (λ r m. created_mk P S g after F r (union_left _ _ r m) (apart_in _ _ F.regions.free r m)))
        (true_and (apart_mk _ _ (λ r m. false_of (λ i. clash m (ends_apart P S g after F r (subset_in _ _ (kept_wanted S after) r i)))))
        (true_and (apart_mk _ _ bears_free) (and_true (and_true F.classes).1).1)))

    wants : subset (wanted S after) (held_after P S g at_step) ≡ true
    unfolding place_step
    wants = step_wants P S g after F (wanted S (live_step P g after)) (subset_refl _)

    step_pass : (sound : Set) → Small after → subset (live_step P g after) sound ≡ true
        → Passes after (held_after P S g at_step) (check_step P S g at_step sound)
    unfolding live_step
    step_pass sound t c =
        step_passes P S g at_step sound after (rules_kept sound c) t (λ x m i. subset_trans _ _ _ (reached x m) wants)
        (λ x m i. (subset_in _ sound c x (union_left _ _ x (difference_mk after (gives P g) x m i)), untouched x m))
      where
        reached : (x : ℕ) → member after x ≡ true → subset (reach S x) (wanted S after) ≡ true
        reached x m = reach_wanted S after x m (small_top after t x m)

        untouched : (x : ℕ) → member after x ≡ true → apart (reach S x) (effect P S g).ends ≡ true
        untouched x m = apart_mk _ _ (λ u j. ends_apart P S g after F u (subset_in _ _ (reached x m) u j))

    -- and as it is placed
    placed_step : (sound : Set) → Small after → subset (live_step P g after) sound ≡ true
        → Passes after (place_step P S g after (wanted S (live_step P g after))).held
        (check_goals P S (place_step P S g after (wanted S (live_step P g after))).goals (wanted S (live_step P g after)) sound)
    unfolding place_step check_goals check_goal
    placed_step sound t c =
        passes_by (check_before P S (creates (members (created_for P S g after))) (step g then done) _ sound) refl
        (passes_on _
        (creating_passes P S _ sound (live_step P g after) (created_for P S g after) (within_small P.types S D _ (created_within P S D g after F))
        (small_live_step P g after t) c created_apart)
        (λ s d. passes_by (carry_end _) refl (step_pass s t d)))

  -- ---- an arm's start
  arm_sound : (ys : Four) (l b held sound : Set) → ArmStart S l b ys → subset (wanted S l) held ≡ true → Small b → subset l sound ≡ true
      → subset b (sound_given S (set_of (arguments_of ys)) held sound) ≡ true
  unfolding sound_given
  arm_sound ys l b held sound B h t c = subset_mk b _ (λ y m. go y m (truth (member (set_of (arguments_of ys)) y)))
    where
      near : (y : ℕ) → member b y ≡ true → subset (reach S y) held ≡ true
      near y m = subset_trans _ _ held (reach_wanted S b y m (small_top b t y m)) (subset_trans _ _ held B.wants h)

      go : (y : ℕ) → member b y ≡ true → (member (set_of (arguments_of ys)) y ≡ true) ⊎ (member (set_of (arguments_of ys)) y ≡ false)
          → member ((sound ∖ set_of (arguments_of ys)) ∪ keep (λ x. subset (reach S x) held) (set_of (arguments_of ys))) y ≡ true
      go y m (inl i) = union_right (sound ∖ set_of (arguments_of ys)) _ y (keep_mk (λ x. subset (reach S x) held) _ y i (small_top b t y m) (near y m))
      go y m (inr i) = union_left _ _ y (difference_mk sound _ y (subset_in l sound c y (subset_in _ l B.lives y (difference_mk b _ y m i))) i)

  -- removes, then a goal, then the rest
  pass_parts : {l a after h k n : Set} (rs front rest : Goals) (held sound : Set) → Passes l h (check_goals P S rs held sound)
      → ((s : Set) → subset l s ≡ true → Passes a k (check_goals P S front h s))
      → ((s : Set) → subset a s ≡ true → Passes after n (check_goals P S rest k s))
      → Passes after n (check_goals P S (rs before (front before rest)) held sound)
  pass_parts {h = h} rs front rest held sound X Y Z =
      passes_by (check_before P S rs (front before rest) held sound) refl
      (passes_on _ X (λ s d. passes_by (check_before P S front rest h s) refl (passes_on _ (Y s d) Z)))

  -- a goal that is met with exactly what is wanted
  at_wanted : (g : Goal) (after sound : Set) {h w : Set} → h ≡ w
      → Passes after (place_goal P S g after w).held (check_goals P S (place_goal P S g after w).goals w sound)
      → Passes after (place_goal P S g after h).held (check_goals P S (place_goal P S g after h).goals h sound)
  at_wanted g after sound e X =
      subst (λ (h : Set). Passes after (place_goal P S g after h).held (check_goals P S (place_goal P S g after h).goals h sound)) (sym e) X

  -- the then part is met with exactly what is wanted before it, as its condition ends with
  then_passes : {after n : Set} (s : Set) (c a b : Goals) → GoalsFit P S c (live P a after)
      → Passes after n (check_goals P S (place_goals P S a after (wanted S (live P a after))).goals (wanted S (live P a after)) s)
      → Passes after n
      (check_goals P S (place_goals P S a after (place_goals P S c (live P a after) (wanted S (live_goal P (try c a b) after))).held).goals
      (wanted S (live P a after)) s)
  then_passes {after} s c a b E X = rw (condition_held P S after _ c a b E (subset_refl _)) X

  mutual
    unfolding place_goals place_goal place_arms going_on placed_if placed_try placed_switch placed_arm live live_goal check_goals check_goal check_arms

    -- THE INDUCTION: placed goals pass, and end with exactly what is wanted held and all that is live sound
    pub placed_passes : {gs : Goals} {after : Set} → GoalsFit P S gs after → (held sound : Set) → Small after
        → subset (wanted S (live P gs after)) held ≡ true → Within S held → subset (live P gs after) sound ≡ true
        → Passes after (wanted S after) (check_goals P S (place_goals P S gs after held).goals held sound)
    placed_passes (fits_done {after = after}) held sound t h W c =
        passes_by refl (removed_held S held after h) (removing_passes P S held sound after (within_small P.types S D held W) t c)
    placed_passes (fits_then {g = g} {gs = gs} {after = after} F G) held sound t h W c =
        let i = removed_wants S held (live_goal P g (live P gs after)) h in
        pass_parts _ _ _ held sound
        (removing_passes P S held sound _ (within_small P.types S D held W) (small_live_goal P g _ (small_live P gs after t)) c)
        (λ s d. at_wanted g (live P gs after) s (removed_held S held _ h) (goal_passes F s (small_live P gs after t) d))
        (λ s d. placed_passes G _ s t (goal_wants P S F _ i) (goal_within P S D F _ i (removed_within S held _ W)) d)

    goal_passes : {g : Goal} {after : Set} → FitsGoal P S g after → (sound : Set) → Small after → subset (live_goal P g after) sound ≡ true
        → Passes after (place_goal P S g after (wanted S (live_goal P g after))).held
        (check_goals P S (place_goal P S g after (wanted S (live_goal P g after))).goals (wanted S (live_goal P g after)) sound)
    goal_passes (fits_step_law {g = g} {after = after} F) sound t c = placed_step g after F sound t c
    goal_passes (fits_switch {x = x} {cs = cs} {after = after} m A) sound t c =
        passes_by (carry_end _ ∙ rule_kept _ (subset_in _ sound c x m)) (sym (arms_held P S after _ A (subset_refl _)))
        (arms_pass A _ sound t (subset_refl _) (wanted_within P.types S D _) c)
    goal_passes (fits_if {y = y} {z = z} {a = a} {b = b} {after = after} m n F G) sound t c =
        passes_by (carry_end _ ∙ rule_kept _ (true_and (subset_in _ sound c y m) (subset_in _ sound c z n)))
        (sym (then_held P S after _ y z a b F (subset_refl _)))
        (passes_join
        (placed_passes F _ sound t (then_wants S y z (live P a after) (live P b after)) (wanted_within P.types S D _)
        (subset_trans _ _ sound (subset_trans _ _ _ (left_union (live P a after) (live P b after)) (right_union (single y ∪ single z) _)) c))
        (placed_passes G _ sound t (else_wants S y z (live P a after) (live P b after)) (wanted_within P.types S D _)
        (subset_trans _ _ sound (subset_trans _ _ _ (right_union (live P a after) (live P b after)) (right_union (single y ∪ single z) _)) c)))
    goal_passes (fits_try {c = q} {a = a} {b = b} {after = after} E F G) sound t c =
        passes_by (carry_end _) (sym (try_held P S after _ q a b E F (subset_refl _)))
        (passes_join
        (passes_on _
        (placed_passes E _ sound (small_live P a after t) (condition_wants S (live P q (live P a after)) (live P b after)) (wanted_within P.types S D _)
        (subset_trans _ _ sound (left_union (live P q (live P a after)) (live P b after)) c))
        (λ s d. then_passes s q a b E (placed_passes F (wanted S (live P a after)) s t (subset_refl _) (wanted_within P.types S D _) d)))
        (placed_passes G _ sound t (otherwise_wants S (live P q (live P a after)) (live P b after)) (wanted_within P.types S D _)
        (subset_trans _ _ sound (right_union (live P q (live P a after)) (live P b after)) c)))

    arms_pass : {l : Set} {cs : Arms} {after : Set} → FitsArms P S l cs after → (held sound : Set) → Small after → subset (wanted S l) held ≡ true
        → Within S held → subset l sound ≡ true → Passes after (wanted S after) (check_arms P S (place_arms P S cs after held).arms held sound)
    arms_pass (fits_last {l = l} {ys = ys} {gs = gs} {after = after} B F) held sound t h W c =
        placed_passes F held _ t (subset_trans _ _ held B.wants h) W
        (arm_sound ys l (live P gs after) held sound B h (small_live P gs after t) c)
    arms_pass (fits_more {l = l} {ys = ys} {gs = gs} {after = after} B F A) held sound t h W c =
        passes_join
        (placed_passes F held _ t (subset_trans _ _ held B.wants h) W
        (arm_sound ys l (live P gs after) held sound B h (small_live P gs after t) c))
        (arms_pass A held sound t h W c)
