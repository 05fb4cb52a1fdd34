-- What the placement relies on, point by point, in goals that pass numbers 3, 5 and 7: `GoalsFit`. Everything about placed goals goes by it.
use Rattle.std.specs.Prelude.{ℕ, suc, ◌≤◌, ◌≡◌, refl, true, false, ◌⊎◌}
use Rattle.std.proofs.Common.{sym, ◌∙◌, inl, inr, ⊎_elim, eqb-true}
use Rattle.std.proofs.Math.Path.{ap}
use Rattle.std.proofs.lemmas.Bool.{false≢true}
use mathlib.Core.List.{List, [], ◌∷◌}
use Rattle.sets.specs.Tests.{truth, and_true}
use Rattle.sets.specs.Sets.{member, single, ◌∪◌, ◌∖◌, subset, single_mk, union_left, union_right, difference_mk, subset_in}
use Rattle.sets.specs.SetLaws.{subset_trans, left_union, right_union}
use Rattle.sets.specs.Members.{set_of, in_list, nil_in, cons_in}
use Rattle.sets.specs.MemberLaws.{set_of_in}
use Rattle.sets.specs.declared.Set.{Set}
use Rattle.language.specs.Program.{Four, arguments_of, Functor, Step, Goals, done, ◌then◌, Goal, step, switch, if_less, try, Arms, no_arms, arm, Signature, Program, region_of}
use Rattle.language.specs.Typing.{is_variable, has_type, functors_for, goals_ok, goal_ok, arms_ok}
use Rattle.language.specs.Regions.{reach, reach_from, in_targets, goals_regions, goal_regions, arms_regions}
use Rattle.language.specs.Lifetimes.{wanted, live, live_goal, live_arms, goals_classes, goal_classes, arms_classes}
use Rattle.laws.specs.Goals.{some_arm}
use Rattle.region_graph.specs.Laws.{target, Declared}
use Rattle.region_graph.specs.Typed.{arms_some}
use Rattle.region_graph.specs.Shared.{variable_top, target_reach}
use Rattle.placement.specs.Wanted.{kept_wanted, reach_wanted, wanted_least}
use Rattle.placement.specs.Effects.{Home, FitsStep, step_fits}

-- the start of an arm with arguments ys, where l is live before the switch and b after the arguments are given
pub record ArmStart (S : Signature) (l b : Set) (ys : Four) : Type 0 where
  pub lives : subset (b ∖ set_of (arguments_of ys)) l ≡ true
  pub wants : subset (wanted S b) (wanted S l) ≡ true

mutual
  pub data GoalsFit (P : Program) (S : Signature) : Goals → Set → Type 0 where
    fits_done : {after : Set} → GoalsFit P S done after
    fits_then : {g : Goal} {gs : Goals} {after : Set} → FitsGoal P S g (live P gs after) → GoalsFit P S gs after → GoalsFit P S (g then gs) after

  pub data FitsGoal (P : Program) (S : Signature) : Goal → Set → Type 0 where
    fits_step_law : {g : Step} {after : Set} → FitsStep P S g after → FitsGoal P S (step g) after
    fits_switch : {x : ℕ} {cs : Arms} {after : Set} → member (live_goal P (switch x cs) after) x ≡ true
        → FitsArms P S (live_goal P (switch x cs) after) cs after → FitsGoal P S (switch x cs) after
    fits_if : {y z : ℕ} {a b : Goals} {after : Set} → member (live_goal P (if_less y z a b) after) y ≡ true
        → member (live_goal P (if_less y z a b) after) z ≡ true → GoalsFit P S a after → GoalsFit P S b after → FitsGoal P S (if_less y z a b) after
    fits_try : {c a b : Goals} {after : Set} → GoalsFit P S c (live P a after) → GoalsFit P S a after → GoalsFit P S b after
        → FitsGoal P S (try c a b) after

  -- arms of a switch before which l is live; there is one
  pub data FitsArms (P : Program) (S : Signature) : Set → Arms → Set → Type 0 where
    fits_last : {l : Set} {f : ℕ} {ys : Four} {gs : Goals} {after : Set} → ArmStart S l (live P gs after) ys → GoalsFit P S gs after
        → FitsArms P S l (arm f ys gs no_arms) after
    fits_more : {l : Set} {f k : ℕ} {ys zs : Four} {gs hs : Goals} {cs : Arms} {after : Set} → ArmStart S l (live P gs after) ys → GoalsFit P S gs after
        → FitsArms P S l (arm k zs hs cs) after → FitsArms P S l (arm f ys gs (arm k zs hs cs)) after

-- ---- the arguments of an arm lie in the targets of edges
in_target : (P : Program) (S : Signature) (r f k : ℕ) (ys : List ℕ) (y : ℕ) → in_targets P S r f k ys ≡ true → in_list y ys ≡ true
    → (j : ℕ) × (region_of S y ≡ target S r f j)
unfolding in_targets
in_target P S r f k [] y e m = absurd (nil_in y m)
in_target P S r f k (x ∷ xs) y e m =
    ⊎_elim (λ q. (k, ap (region_of S) (sym q) ∙ eqb-true _ _ (and_true e).0)) (in_target P S r f (suc k) xs y (and_true e).1) (cons_in y x xs m)

module _ (T : List (List Functor)) (S : Signature) (D : Declared T S) where
  -- they reach no further than the variable that is switched on
  argument_reach : (P : Program) (x f k : ℕ) (ys : Four) → in_targets P S (region_of S x) f k (arguments_of ys) ≡ true
      → (y : ℕ) → member (set_of (arguments_of ys)) y ≡ true → subset (reach S y) (reach S x) ≡ true
  unfolding reach
  argument_reach P x f k ys e y m =
      let t = in_target P S (region_of S x) f k (arguments_of ys) y e (set_of_in (arguments_of ys) y m) in
      ap (λ u. subset (reach_from S u) (reach_from S (region_of S x))) t.1 ∙ target_reach T S D (region_of S x) f t.0 (D.own x)

  arm_start : (P : Program) (x f : ℕ) (ys : Four) (b l : Set) → in_targets P S (region_of S x) f 1 (arguments_of ys) ≡ true → is_variable S x ≡ true
      → member l x ≡ true → subset (b ∖ set_of (arguments_of ys)) l ≡ true → ArmStart S l b ys
  arm_start P x f ys b l e v m h =
      record { lives = h; wants = wanted_least S b (wanted S l) (kept_wanted S l) (λ y i t. go y i t (truth (member (set_of (arguments_of ys)) y))) }
    where
      go : (y : ℕ) → member b y ≡ true → y ≤ 64 → (member (set_of (arguments_of ys)) y ≡ true) ⊎ (member (set_of (arguments_of ys)) y ≡ false)
          → subset (reach S y) (wanted S l) ≡ true
      go y i t (inl j) =
          subset_trans _ (reach S x) _ (argument_reach P x f 1 ys e y j) (reach_wanted S l x m (variable_top T S D x v).1)
      go y i t (inr j) = reach_wanted S l y (subset_in _ l h y (difference_mk b _ y i j)) t

  single_live : (x : ℕ) → is_variable S x ≡ true → member (single x) x ≡ true
  single_live x v = let r = variable_top T S D x v in single_mk x r.0 r.1

module _ (P : Program) (S : Signature) (H : Home P S) where
  number_live : (x : ℕ) → has_type S 0 x ≡ true → member (single x) x ≡ true
  unfolding has_type
  number_live x e = single_live P.types S H.declared x (and_true e).0

  -- an arm that passes number 3, and those after it
  arm_ok : (k : ℕ) (ys : Four) (gs : Goals) (cs : Arms) (fs : List Functor) (n : ℕ) → arms_ok P S (arm k ys gs cs) fs n ≡ true
      → (goals_ok P S gs ≡ true) × (es : List Functor) × (arms_ok P S cs es (suc n) ≡ true)
  unfolding arms_ok
  arm_ok k ys gs cs [] n e = absurd (false≢true e)
  arm_ok k ys gs cs (f ∷ fs) n e = let r = and_true (and_true (and_true e).1).1 in (r.0, fs, r.1)

  mutual
    unfolding goals_ok goal_ok arms_ok goals_regions goal_regions arms_regions goals_classes goal_classes arms_classes some_arm live_goal live_arms

    -- goals that pass numbers 3, 5 and 7
    pub fits : (gs : Goals) (after : Set) → goals_ok P S gs ≡ true → goals_regions P S gs ≡ true → goals_classes P S gs after ≡ true → GoalsFit P S gs after
    fits done after t r c = fits_done
    fits (g then gs) after t r c =
        fits_then (goal_fits g (live P gs after) (and_true t).0 (and_true r).0 (and_true c).0)
        (fits gs after (and_true t).1 (and_true r).1 (and_true c).1)

    goal_fits : (g : Goal) (after : Set) → goal_ok P S g ≡ true → goal_regions P S g ≡ true → goal_classes P S g after ≡ true → FitsGoal P S g after
    goal_fits (step g) after t r c = fits_step_law (step_fits P S H g after t r c)
    goal_fits (switch x cs) after t r c =
        let u = and_true t in
        let w = and_true u.1 in
        let m = union_left (single x) (live_arms P cs after) x (single_live P.types S H.declared x u.0) in
        fits_switch m
        (arms_fit cs x _ after (functors_for P S x) 0 u.0 m (right_union (single x) _)
        (arms_some P S cs _ 0 w.1 (H.functors x u.0 w.0)) w.1 r c)
    goal_fits (if_less y z a b) after t r c =
        let u = and_true t in
        let w = and_true u.1 in
        let k = and_true w.1 in
        fits_if (union_left (single y ∪ single z) _ y (union_left (single y) _ y (number_live y u.0)))
        (union_left (single y ∪ single z) _ z (union_right (single y) _ z (number_live z w.0)))
        (fits a after k.0 (and_true r).0 (and_true c).0) (fits b after k.1 (and_true r).1 (and_true c).1)
    goal_fits (try q a b) after t r c =
        let u = and_true (and_true t).1 in
        let v = and_true (and_true r).1 in
        let w = and_true (and_true c).1 in
        fits_try (fits q (live P a after) (and_true t).0 (and_true r).0 (and_true c).0) (fits a after u.0 v.0 w.0)
        (fits b after u.1 v.1 w.1)

    arms_fit : (cs : Arms) (x : ℕ) (l after : Set) (fs : List Functor) (n : ℕ) → is_variable S x ≡ true → member l x ≡ true
        → subset (live_arms P cs after) l ≡ true → some_arm cs ≡ true → arms_ok P S cs fs n ≡ true → arms_regions P S cs (region_of S x) ≡ true
        → arms_classes P S cs after ≡ true → FitsArms P S l cs after
    arms_fit no_arms x l after fs n v m h i t r c = absurd (false≢true i)
    arms_fit (arm k ys gs no_arms) x l after fs n v m h i t r c =
        let u = and_true r in
        fits_last (arm_start P.types S H.declared P x k ys (live P gs after) l u.0 v m (subset_trans _ _ l (left_union _ _) h))
        (fits gs after (arm_ok k ys gs no_arms fs n t).0 (and_true u.1).0 (and_true c).0)
    arms_fit (arm k ys gs (arm j zs hs cs)) x l after fs n v m h i t r c =
        let u = and_true r in
        let w = arm_ok k ys gs (arm j zs hs cs) fs n t in
        fits_more (arm_start P.types S H.declared P x k ys (live P gs after) l u.0 v m (subset_trans _ _ l (left_union _ _) h))
        (fits gs after w.0 (and_true u.1).0 (and_true c).0)
        (arms_fit (arm j zs hs cs) x l after w.1 (suc n) v m (subset_trans _ _ l (right_union _ _) h) refl w.2 (and_true u.1).1
        (and_true c).1)
