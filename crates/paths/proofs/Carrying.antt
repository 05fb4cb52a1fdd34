-- What the checker carries, put to a test: a test of the common part of what two arms carry is the test of both, where the test splits over
-- a common part and no two held sets pass it. And what is carried has no member above 64.
use Rattle.std.specs.Prelude.{Bool, true, false, ◌≡◌, refl}
use Rattle.std.proofs.Common.{sym, ap, ◌∙◌}
use Rattle.sets.specs.Tests.{◌&◌, same_truth, and_true, true_and}
use Rattle.sets.specs.Sets.{◌∩◌, same_set, Small, same_eq, eq_same}
use Rattle.sets.specs.SetLaws.{small_union, small_intersection, small_difference}
use Rattle.sets.specs.MemberLaws.{small_keep}
use Rattle.sets.specs.declared.Set.{Set}
use Rattle.language.specs.Program.{Step, Goals, done, ◌then◌, Goal, step, switch, if_less, try, Arms, no_arms, arm, Signature, Program}
use Rattle.language.specs.Checking.{Carried, broken, carries, require_rule, carry_on, join_arms, sound_given, sound_without, check_step, check_goals, check_goal, check_arms}
use Rattle.laws.specs.Tests.{and_no}

-- a test of what is held and what is sound
abbrev pub Test : Type 0
Test = Set → Set → Bool

unfoldable pub passes : Test → Carried → Bool
passes K broken = false
passes K (carries h s) = K h s

pub record Splits (K : Test) : Type 0 where
  pub meet : (h s t : Set) → K h (s ∩ t) ≡ (K h s & K h t)
  pub one : (h k s t : Set) → K h s ≡ true → K k t ≡ true → h ≡ k

pub passes_require : (K : Test) (b : Bool) (c : Carried) → passes K (require_rule b c) ≡ (b & passes K c)
unfolding passes require_rule ◌&◌
passes_require K true c = refl
passes_require K false c = refl

pub passes_on : (K : Test) (c : Carried) (f : Set → Set → Carried) → passes K (carry_on c f) ≡ passes (λ h s. passes K (f h s)) c
unfolding passes carry_on
passes_on K broken f = refl
passes_on K (carries h s) f = refl

both_pass : (K : Test) → Splits K → (h k s t : Set) → (same_set h k & K h (s ∩ t)) ≡ (K h s & K k t)
both_pass K split h k s t = same_truth down up
  where
    down : (same_set h k & K h (s ∩ t)) ≡ true → (K h s & K k t) ≡ true
    down e =
        let r = and_true e in
        let b = and_true (sym (split.meet h s t) ∙ r.1) in
        true_and b.0 (ap (λ (a : Set). K a t) (sym (same_eq h k r.0)) ∙ b.1)

    up : (K h s & K k t) ≡ true → (same_set h k & K h (s ∩ t)) ≡ true
    up e =
        let r = and_true e in
        let q = split.one h k s t r.0 r.1 in
        true_and (eq_same h k q) (split.meet h s t ∙ true_and r.0 (ap (λ (a : Set). K a t) q ∙ r.1))

-- "Arms end with equal held regions; sound afterwards is sound after every arm."
pub passes_join : (K : Test) → Splits K → (c d : Carried) → passes K (join_arms c d) ≡ (passes K c & passes K d)
unfolding passes join_arms ◌&◌
passes_join K split broken d = refl
passes_join K split (carries h s) broken = sym (and_no (K h s) refl)
passes_join K split (carries h s) (carries k t) = passes_require K (same_set h k) (carries h (s ∩ t)) ∙ both_pass K split h k s t

-- ---- no member above 64
abbrev pub SmallIn : Carried → Type 0
SmallIn broken = Unit {0}
SmallIn (carries h s) = Small s

pub passes_same : (K L : Test) → ((h s : Set) → Small s → K h s ≡ L h s) → (c : Carried) → SmallIn c → passes K c ≡ passes L c
unfolding passes
passes_same K L e broken m = refl
passes_same K L e (carries h s) m = e h s m

small_require : (b : Bool) (c : Carried) → SmallIn c → SmallIn (require_rule b c)
unfolding require_rule
small_require true c m = m
small_require false c m = tt

small_on : (c : Carried) (f : Set → Set → Carried) → SmallIn c → ((h s : Set) → Small s → SmallIn (f h s)) → SmallIn (carry_on c f)
unfolding carry_on
small_on broken f m n = tt
small_on (carries h s) f m n = n h s m

small_join : (c d : Carried) → SmallIn c → SmallIn d → SmallIn (join_arms c d)
unfolding join_arms
small_join broken d m n = tt
small_join (carries h s) broken m n = tt
small_join (carries h s) (carries k t) m n = small_require (same_set h k) (carries h (s ∩ t)) (small_intersection t m)

small_given : (S : Signature) (xs h s : Set) → Small s → Small (sound_given S xs h s)
unfolding sound_given
small_given S xs h s m = small_union (small_difference xs m) (small_keep _ xs)

small_without : (S : Signature) (rs s : Set) → Small (sound_without S rs s)
unfolding sound_without
small_without S rs s = small_keep _ s

module _ (P : Program) (S : Signature) where
  small_step : (g : Step) (h s : Set) → SmallIn (check_step P S g h s)
  unfolding check_step
  small_step g h s = small_require _ _ (small_given S _ _ _ (small_without S _ s))

  mutual
    unfolding check_goals

    pub small_goals : (gs : Goals) (h s : Set) → Small s → SmallIn (check_goals P S gs h s)
    small_goals done h s m = m
    small_goals (g then gs) h s m = small_on (check_goal P S g h s) _ (small_goal g h s m) (λ k t n. small_goals gs k t n)

    pub small_goal : (g : Goal) (h s : Set) → Small s → SmallIn (check_goal P S g h s)
    small_goal (step g) h s m = small_step g h s
    small_goal (switch x cs) h s m = small_require _ (check_arms P S cs h s) (small_arms cs h s m)
    small_goal (if_less y z a b) h s m =
        small_require _ _ (small_join (check_goals P S a h s) (check_goals P S b h s) (small_goals a h s m) (small_goals b h s m))
    small_goal (try c a b) h s m =
        small_join _ (check_goals P S b h s) (small_on (check_goals P S c h s) _ (small_goals c h s m) (λ k t n. small_goals a k t n)) (small_goals b h s m)

    pub small_arms : (cs : Arms) (h s : Set) → Small s → SmallIn (check_arms P S cs h s)
    small_arms no_arms h s m = m
    small_arms (arm f ys gs no_arms) h s m = small_goals gs h _ (small_given S _ h s m)
    small_arms (arm f ys gs (arm e zs hs cs)) h s m =
        small_join _ _ (small_goals gs h _ (small_given S _ h s m)) (small_arms (arm e zs hs cs) h s m)
