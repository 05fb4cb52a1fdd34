-- The walk says what number 4 says, of goals that passed number 3; what the code does with a row.
use Prim.Native.Nat.{ℕ}
use mathlib.Core.Path.{◌≡◌, refl, sym, ap, ap₂, ◌∙◌}
use mathlib.Core.Bool.{Bool, true, false}
use mathlib.Core.List.{List}
use Rattle.sets.specs.Tests.{◌&◌}
use Rattle.sets.specs.Sets.{member, empty_set, ◌∪◌, ◌∩◌, same_set, subset, apart}
use Rattle.sets.specs.SetLaws.{empty_subset}
use Rattle.sets.specs.Members.{set_of}
use Rattle.sets.specs.declared.Set.{Set}
use Rattle.language.specs.Program.{Four, arguments_of, Step, Goals, done, ◌then◌, Goal, step, switch, if_less, try, Arms, no_arms, arm, Procedure, Program}
use Rattle.language.specs.Values.{Valued, faulty, valued, access, reads, gives, require_values, after_values, meet_values, give_values, step_values, goals_values, goal_values, arms_values, ins_of, outs_of, outs_valued, procedure_values}
use Rattle.accesses.specs.Ranged.{Ranged, fresh, fresh_distinct}
use Rattle.values.proofs.Typed.{TypedGoals, ArmsTyped, typed_next, typed_step, typed_arms, typed_then, typed_else, typed_condition, typed_try_then, typed_try_else, typed_arm}
use Rattle.walks.specs.Walk.{WalkOutcome, stopped, goes_on, outcome, require, onwards, meet, walk_goals, walk_goal, walk_arms}
use Rattle.values.specs.Valuing.{both, giving, valuer}
use Rattle.values.specs.declared.carried.Valuation.{Valuation}

-- ---- it says what number 4 says, of goals that passed number 3
unfoldable pub told : WalkOutcome Valuation → Valued
told stopped = faulty
told (goes_on a) = valued a.every a.some

required : (b : Bool) (c : WalkOutcome Valuation) → told (require b c) ≡ require_values b (told c)
unfolding require require_values told
required true c = refl
required false c = refl

on_both : (c : WalkOutcome Valuation) (d : Valued) (f : Valuation → WalkOutcome Valuation) (k : Set → Set → Valued) → told c ≡ d
    → ((a : Valuation) → told (f a) ≡ k a.every a.some) → told (onwards c f) ≡ after_values d k
unfolding told onwards after_values
on_both stopped d f k e m = rw (sym e) refl
on_both (goes_on a) d f k e m = rw (sym e) (m a)

met : (P : Program) (c d : WalkOutcome Valuation) {v w : Valued} → told c ≡ v → told d ≡ w → told (meet (valuer P) c d) ≡ meet_values v w
unfolding told meet meet_values valuer
met P stopped d e h = rw (sym e) refl
met P (goes_on a) stopped e h = rw (sym e, sym h) refl
met P (goes_on a) (goes_on b) e h = rw (sym e, sym h) refl

given_told : (r : Set) (xs : List ℕ) (a : Valuation) → Ranged xs
    → told (giving r (set_of xs) (fresh xs) a) ≡ require_values (subset r a.every) (give_values xs a.every a.some)
unfolding giving give_values told
given_told r xs a h =
    required (subset r a.every) (require (apart (set_of xs) a.some & fresh xs) (goes_on (both (a.every ∪ set_of xs) (a.some ∪ set_of xs))))
    ∙ ap (λ c. require_values (subset r a.every) c)
    (required (apart (set_of xs) a.some & fresh xs) (goes_on (both (a.every ∪ set_of xs) (a.some ∪ set_of xs)))
    ∙ rw (fresh_distinct xs h) refl)

module _ (P : Program) where
  step_agree : (s : Step) (a : Valuation) → Ranged (access P s).given → told ((valuer P).at_step s a) ≡ step_values P s a.every a.some
  unfolding valuer gives step_values
  step_agree s a h = given_told (reads P s) (access P s).given a h

  enter_agree : (ys : Four) (a : Valuation) → Ranged (arguments_of ys) → told ((valuer P).enter ys a) ≡ give_values (arguments_of ys) a.every a.some
  unfolding valuer require_values
  enter_agree ys a h = given_told empty_set (arguments_of ys) a h ∙ rw (empty_subset a.every) refl

  arm_agree : (ys : Four) (gs : Goals) (a : Valuation) → Ranged (arguments_of ys)
      → ((b : Valuation) → told (walk_goals (valuer P) gs b) ≡ goals_values P gs b.every b.some)
      → told (onwards ((valuer P).enter ys a) (λ b. walk_goals (valuer P) gs b)) ≡ after_values (give_values (arguments_of ys) a.every a.some) (λ d t. goals_values P gs d t)
  arm_agree ys gs a h m = on_both ((valuer P).enter ys a) _ (λ b. walk_goals (valuer P) gs b) (λ d t. goals_values P gs d t) (enter_agree ys a h) m

  test_is : (a : Valuation) (x : ℕ) → (valuer P).readable a x ≡ member a.every x
  unfolding valuer
  test_is a x = refl

  mutual
    unfolding walk_goals walk_goal walk_arms goals_values goal_values arms_values told

    pub goals_agree : (gs : Goals) → TypedGoals P gs → (a : Valuation) → told (walk_goals (valuer P) gs a) ≡ goals_values P gs a.every a.some
    goals_agree done t a = refl
    goals_agree (g then gs) t a =
        on_both (walk_goal (valuer P) g a) (goal_values P g a.every a.some) (λ b. walk_goals (valuer P) gs b) (λ d u. goals_values P gs d u)
        (goal_agree g gs t a) (λ b. goals_agree gs (typed_next t refl) b)

    goal_agree : (g : Goal) (gs : Goals) → TypedGoals P (g then gs) → (a : Valuation) → told (walk_goal (valuer P) g a) ≡ goal_values P g a.every a.some
    goal_agree (step s) gs t a = step_agree s a (typed_step t refl)
    goal_agree (switch x cs) gs t a =
        required _ (walk_arms (valuer P) cs a) ∙ ap₂ require_values (test_is a x) (arms_agree_law cs (typed_arms t refl) a)
    goal_agree (if_less y z bs cs) gs t a =
        required _ (meet (valuer P) (walk_goals (valuer P) bs a) (walk_goals (valuer P) cs a))
        ∙ ap₂ require_values (ap₂ ◌&◌ (test_is a y) (test_is a z))
        (met P (walk_goals (valuer P) bs a) (walk_goals (valuer P) cs a) (goals_agree bs (typed_then t refl) a) (goals_agree cs (typed_else t refl) a))
    goal_agree (try ds bs cs) gs t a =
        met P _ (walk_goals (valuer P) cs a)
        (on_both (walk_goals (valuer P) ds a) (goals_values P ds a.every a.some) (λ b. walk_goals (valuer P) bs b) (λ d u. goals_values P bs d u)
        (goals_agree ds (typed_condition t refl) a) (λ b. goals_agree bs (typed_try_then t refl) b))
        (goals_agree cs (typed_try_else t refl) a)

    arms_agree_law : (cs : Arms) → ArmsTyped P cs → (a : Valuation) → told (walk_arms (valuer P) cs a) ≡ arms_values P cs a.every a.some
    arms_agree_law no_arms t a = refl
    arms_agree_law (arm f ys gs no_arms) t a = let q = typed_arm t refl in arm_agree ys gs a q.arguments (λ b. goals_agree gs q.goals b)
    arms_agree_law (arm f ys gs (arm k zs hs cs)) t a =
        let q = typed_arm t refl in
        met P _ (walk_arms (valuer P) (arm k zs hs cs) a) (arm_agree ys gs a q.arguments (λ b. goals_agree gs q.goals b))
        (arms_agree_law (arm k zs hs cs) q.rest a)

-- ---- a procedure: c is carried at its start, d behind its goals
module _ (P : Program) (p : Procedure) (t : TypedGoals P p.body) (a b : Valuation) (r : Bool) (e : a ≡ both (ins_of p.signature) (ins_of p.signature))
    (m : outcome r b ≡ walk_goals (valuer P) p.body a) where
  end_is : told (outcome r b) ≡ goals_values P p.body (ins_of p.signature) (ins_of p.signature)
  end_is = ap told m ∙ goals_agree P p.body t a ∙ rw e refl

  pub procedure_stops : r ≡ false → false ≡ procedure_values P p
  unfolding procedure_values outs_valued told outcome
  procedure_stops h = rw (sym end_is, h) refl

  pub procedure_ends : {c : Bool} → r ≡ true → c ≡ subset (outs_of p.signature) b.every → c ≡ procedure_values P p
  unfolding procedure_values outs_valued told outcome
  procedure_ends h k = k ∙ rw (sym end_is, h) refl

-- ---- what the code does with a row, a law for each way through
module _ (r g : Set) (o : Bool) (a : Valuation) where
  pub giving_unread : (c : Valuation) {b : Bool} → b ≡ subset r a.every → b ≡ false → outcome false c ≡ giving r g o a
  unfolding giving require outcome
  giving_unread c e h = rw (sym e ∙ h) refl

  module _ {b : Bool} (e : b ≡ subset r a.every) (h : b ≡ true) where
    and_no : (b : Bool) → (b & false) ≡ false
    unfolding ◌&◌
    and_no true = refl
    and_no false = refl

    pub giving_twice : (c : Valuation) → o ≡ false → outcome false c ≡ giving r g o a
    unfolding giving require outcome
    giving_twice c k = rw (sym e ∙ h, k, and_no (apart g a.some)) refl

    module _ (k : o ≡ true) {m : Set} {d : Bool} (i : m ≡ g ∩ a.some) (j : d ≡ same_set m empty_set) where
      pub giving_again : (c : Valuation) → d ≡ false → outcome false c ≡ giving r g o a
      unfolding giving require outcome apart ◌&◌
      giving_again c l = rw (sym e ∙ h, sym i, sym j ∙ l) refl

      pub giving_goes : (c : Valuation) {x y : Set} → d ≡ true → x ≡ a.every ∪ g → y ≡ a.some ∪ g → c ≡ both x y → outcome true c ≡ giving r g o a
      unfolding giving require outcome apart ◌&◌
      giving_goes c l u v w = rw (sym e ∙ h, sym i, sym j ∙ l, k, w, u, v) refl
