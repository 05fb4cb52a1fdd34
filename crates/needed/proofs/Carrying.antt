-- Two ways to go through what the checker carries: an invariant that each step keeps, and a checker without some rules that agrees with the
-- checker step by step.
use Rattle.std.specs.Prelude.{Bool, List, ◌≡◌}
use Rattle.std.proofs.Math.Bool.{true, false}
use Rattle.std.proofs.Math.Path.{refl}
use Rattle.std.proofs.Common.{ap, ap₂, ◌∙◌}
use Rattle.sets.specs.Tests.{◌&◌}
use Rattle.sets.specs.Sets.{member, ◌∩◌, same_set, same_eq}
use Rattle.sets.specs.Members.{set_of}
use Rattle.sets.specs.declared.Set.{Set}
use Rattle.language.specs.Lists.{choose}
use Rattle.language.specs.Program.{Four, arguments_of, Step, Goals, done, ◌then◌, Goal, step, switch, if_less, try, Arms, no_arms, arm, Signature, Program}
use Rattle.language.specs.Values.{gives}
use Rattle.language.specs.Lifetimes.{effect, held_after}
use Rattle.language.specs.Checking.{Carried, broken, carries, require_rule, carry_on, join_arms, sound_given, sound_without, step_rules, check_step, check_goals, check_goal, check_arms}
use Rattle.needed.specs.Without.{Rule, read_sound, reach_held, arms_equal, every_arm, else_from_before, then_from_end, parts_alike, left_out, unless, joined_by, arms_joined, given_sound, step_without, goals_without, goal_without, arms_without}

-- what is carried, if anything is, has I
unfoldable pub CarriedAfter : (Set → Set → Type 0) → Carried → Type 0
CarriedAfter I broken = Unit {0}
CarriedAfter I (carries h s) = I h s

pub unless_in : {A : Type 0} (out : List Rule) (r : Rule) → left_out out r ≡ false → (i a : A) → unless out r i a ≡ a
unfolding unless choose
unless_in out r e i a = rw e

-- I holds of what is held and sound along each path: a step keeps it, and so do the arguments of an arm and the meeting of two paths
pub record Invariant (P : Program) (S : Signature) (I : Set → Set → Type 0) : Type 0 where
  pub step_keeps : (g : Step) (held sound : Set) → step_rules P S g held sound ≡ true → I held sound
      → I (held_after P S g held) (sound_given S (gives P g) (held_after P S g held) (sound_without S (effect P S g).ends sound))
  pub arm_keeps : (xs held sound : Set) → I held sound → I held (sound_given S xs held sound)
  pub meet_keeps : (held s t : Set) → I held s → I held t → I held (s ∩ t)

module _ {P : Program} {S : Signature} {I : Set → Set → Type 0} (inv : Invariant P S I) where
  after_require : (b : Bool) (c : Carried) → (b ≡ true → CarriedAfter I c) → CarriedAfter I (require_rule b c)
  unfolding require_rule CarriedAfter
  after_require true c f = f refl
  after_require false c f = tt

  after_on : (c : Carried) (f : Set → Set → Carried) → CarriedAfter I c → ((h s : Set) → I h s → CarriedAfter I (f h s)) → CarriedAfter I (carry_on c f)
  unfolding carry_on CarriedAfter
  after_on broken f a k = tt
  after_on (carries h s) f a k = k h s a

  after_join : (c d : Carried) → CarriedAfter I c → CarriedAfter I d → CarriedAfter I (join_arms c d)
  unfolding join_arms CarriedAfter
  after_join broken d a b = tt
  after_join (carries h s) broken a b = tt
  after_join (carries h s) (carries k t) a b =
      after_require (same_set h k) (carries h (s ∩ t)) (λ e. inv.meet_keeps h s t a (rw (same_eq h k e) b))

  mutual
    unfolding check_goals check_goal check_arms check_step CarriedAfter

    pub after_goals : (gs : Goals) (held sound : Set) → I held sound → CarriedAfter I (check_goals P S gs held sound)
    after_goals done held sound i = i
    after_goals (g then gs) held sound i = after_on (check_goal P S g held sound) _ (after_goal g held sound i) (after_goals gs)

    after_goal : (g : Goal) (held sound : Set) → I held sound → CarriedAfter I (check_goal P S g held sound)
    after_goal (step g) held sound i = after_require (step_rules P S g held sound) _ (λ e. inv.step_keeps g held sound e i)
    after_goal (switch x cs) held sound i = after_require (member sound x) _ (λ e. after_arms cs held sound i)
    after_goal (if_less y z a b) held sound i =
        after_require (member sound y & member sound z) _
        (λ e. after_join (check_goals P S a held sound) (check_goals P S b held sound) (after_goals a held sound i) (after_goals b held sound i))
    after_goal (try c a b) held sound i =
        after_join (carry_on (check_goals P S c held sound) (λ h s. check_goals P S a h s)) (check_goals P S b held sound)
        (after_on (check_goals P S c held sound) _ (after_goals c held sound i) (λ h s j. after_goals a h s j)) (after_goals b held sound i)

    after_arms : (cs : Arms) (held sound : Set) → I held sound → CarriedAfter I (check_arms P S cs held sound)
    after_arms no_arms held sound i = i
    after_arms (arm f ys gs no_arms) held sound i = after_goals gs held _ (inv.arm_keeps (set_of (arguments_of ys)) held sound i)
    after_arms (arm f ys gs (arm e zs hs cs)) held sound i =
        after_join (check_goals P S gs held _) (check_arms P S (arm e zs hs cs) held sound)
        (after_goals gs held _ (inv.arm_keeps (set_of (arguments_of ys)) held sound i)) (after_arms (arm e zs hs cs) held sound i)

-- where `out` leaves out none of the rules that concern more than one step, and the steps agree
pub record StepsAgree (P : Program) (S : Signature) (I : Set → Set → Type 0) (out : List Rule) : Type 0 where
  pub reading : left_out out read_sound ≡ false
  pub giving : left_out out reach_held ≡ false
  pub equal : left_out out arms_equal ≡ false
  pub every : left_out out every_arm ≡ false
  pub before : left_out out else_from_before ≡ false
  pub onward : left_out out then_from_end ≡ false
  pub parts : left_out out parts_alike ≡ false
  pub steps : (g : Step) (held sound : Set) → I held sound → step_without out P S g held sound ≡ check_step P S g held sound

module _ {P : Program} {S : Signature} {I : Set → Set → Type 0} {out : List Rule} (inv : Invariant P S I) (agrees : StepsAgree P S I out) where
  on_same : (c : Carried) (f k : Set → Set → Carried) → CarriedAfter I c → ((h s : Set) → I h s → f h s ≡ k h s) → carry_on c f ≡ carry_on c k
  unfolding carry_on CarriedAfter
  on_same broken f k a e = refl
  on_same (carries h s) f k a e = e h s a

  joined_by_law : (r : Rule) → left_out out r ≡ false → (c d : Carried) → joined_by out r c d ≡ join_arms c d
  unfolding joined_by join_arms
  joined_by_law r e broken d = refl
  joined_by_law r e (carries h s) broken = refl
  joined_by_law r e (carries h s) (carries k t) = rw (unless_in out r e true, unless_in out every_arm agrees.every)

  joined_same : (c d : Carried) → arms_joined out c d ≡ join_arms c d
  unfolding arms_joined
  joined_same c d = joined_by_law arms_equal agrees.equal c d

  given_same : (xs held sound : Set) → given_sound out S xs held sound ≡ sound_given S xs held sound
  unfolding given_sound
  given_same xs held sound = unless_in out reach_held agrees.giving _ _

  -- the goals of an arm
  first_same : (gs : Goals) → ((held sound : Set) → I held sound → goals_without out P S gs held sound ≡ check_goals P S gs held sound)
      → (ys : Four) (held sound : Set) → I held sound
      → goals_without out P S gs held (given_sound out S (set_of (arguments_of ys)) held sound)
      ≡ check_goals P S gs held (sound_given S (set_of (arguments_of ys)) held sound)
  first_same gs same ys held sound i = rw (given_same _ held sound) (same held _ (inv.arm_keeps (set_of (arguments_of ys)) held sound i))

  mutual
    unfolding goals_without goal_without arms_without check_goals check_goal check_arms

    pub goals_same : (gs : Goals) (held sound : Set) → I held sound → goals_without out P S gs held sound ≡ check_goals P S gs held sound
    goals_same done held sound i = refl
    goals_same (g then gs) held sound i =
        ap (λ c. carry_on c (λ h s. goals_without out P S gs h s)) (goal_same g held sound i)
        ∙ on_same (check_goal P S g held sound) _ _ (after_goal inv g held sound i) (goals_same gs)

    goal_same : (g : Goal) (held sound : Set) → I held sound → goal_without out P S g held sound ≡ check_goal P S g held sound
    goal_same (step g) held sound i = agrees.steps g held sound i
    goal_same (switch x cs) held sound i =
        rw (unless_in out read_sound agrees.reading true) (ap (require_rule _) (arms_same cs held sound i))
    goal_same (if_less y z a b) held sound i =
        rw (unless_in out read_sound agrees.reading true)
        (ap (require_rule _) (joined_same _ _ ∙ cc (goals_same a held sound i, goals_same b held sound i)))
    goal_same (try c a b) held sound i =
        joined_by_law parts_alike agrees.parts _ _
        ∙ ap₂ join_arms
        (ap (λ x. carry_on x (λ h s. unless out then_from_end (goals_without out P S a held sound) (goals_without out P S a h s))) (goals_same c held sound i)
        ∙ on_same (check_goals P S c held sound) _ _ (after_goals inv c held sound i)
        (λ h s j. unless_in out then_from_end agrees.onward (goals_without out P S a held sound) _ ∙ goals_same a h s j))
        (unless_in out else_from_before agrees.before (carry_on (goals_without out P S c held sound) (λ h s. goals_without out P S b h s)) _
        ∙ goals_same b held sound i)

    arms_same : (cs : Arms) (held sound : Set) → I held sound → arms_without out P S cs held sound ≡ check_arms P S cs held sound
    arms_same no_arms held sound i = refl
    arms_same (arm f ys gs no_arms) held sound i = first_same gs (λ h s j. goals_same gs h s j) ys held sound i
    arms_same (arm f ys gs (arm e zs hs cs)) held sound i =
        joined_same _ _ ∙ cc (first_same gs (λ h s j. goals_same gs h s j) ys held sound i, arms_same (arm e zs hs cs) held sound i)
