-- With no rule left out, the checker of `Without` is document 01's: what is shown there is about the rules themselves. And where only rules about
-- the end are left out, it carries what the checker carries.
use Rattle.std.specs.Prelude.{ℕ, Bool, false, List, ◌≡◌, ltb, []}
use Rattle.std.proofs.Math.Bool.{true}
use Rattle.std.proofs.Math.Path.{refl}
use Rattle.std.proofs.Common.{ap, ◌∙◌}
use Rattle.sets.specs.declared.Set.{Set}
use Rattle.language.specs.Lists.{choose}
use Rattle.language.specs.Program.{Step, literal, sum, assign, construct, call, print, create, remove, test, Goals, Signature, Procedure, Program}
use Rattle.language.specs.Lifetimes.{call_effect, effect, held_after}
use Rattle.language.specs.Checking.{Carried, broken, carries, step_rules, check_step, check_goals, end_rules, procedure_rules, rules_ok}
use Rattle.language.specs.Answers.{program, checker_stages, checked}
use Rattle.laws.specs.Lists.{all_same}
use Rattle.needed.specs.Without.{Rule, create_not_held, remove_held, remove_not_kept, remove_unsound, read_sound, construct_held, dead_held, kept_held, dead_not_kept, born_not_held, dead_unshared, born_unshared, dead_gone, dead_unsound, born_then_held, reach_held, arms_equal, every_arm, else_from_before, then_from_end, parts_alike, number, left_out, all_asked, unless, asked, call_asks, with_born, with_kept, end_held, end_asks, given_sound, asks, holds_after, step_asks, step_without, goals_without, procedure_without, rules_without, checked_without}
use Rattle.needed.proofs.Carrying.{unless_in, Invariant, StepsAgree, goals_same}

-- the rules along a path, before the end
unfoldable pub on_the_way : Rule → Bool
on_the_way r = ltb (number r) 22

module _ (out : List Rule) (inner : (r : Rule) → on_the_way r ≡ true → left_out out r ≡ false) where
  asked_is : (r : Rule) → on_the_way r ≡ true → (s : Set) → asked out r s ≡ s
  unfolding asked
  asked_is r e s = unless_in out r (inner r e) _ s

  module _ (P : Program) (S : Signature) where
    asks_same : (g : Step) → asks out P S g ≡ all_asked (effect P S g)
    unfolding on_the_way number asks call_asks all_asked effect call_effect
    asks_same (literal x v) = refl
    asks_same (sum x o y z) = refl
    asks_same (assign x y) = refl
    asks_same (construct x f ys) = rw (asked_is construct_held refl)
    asks_same (call q ys) =
        simp (asked_is dead_held refl, asked_is kept_held refl, asked_is dead_not_kept refl, asked_is born_not_held refl, asked_is dead_unshared refl, asked_is born_unshared refl, asked_is dead_gone refl, asked_is born_then_held refl, asked_is dead_unsound refl)
    asks_same (print y) = refl
    asks_same (test y z) = refl
    asks_same (create r) = rw (asked_is create_not_held refl)
    asks_same (remove r) = rw (asked_is remove_held refl, asked_is remove_not_kept refl, asked_is remove_unsound refl)

    step_same : (g : Step) (held sound : Set) → step_without out P S g held sound ≡ check_step P S g held sound
    unfolding on_the_way number step_without step_asks holds_after given_sound check_step step_rules held_after all_asked
    step_same g held sound =
        rw (asks_same g, unless_in out read_sound (inner read_sound refl) true, unless_in out reach_held (inner reach_held refl))

    Any : Set → Set → Type 0
    Any held sound = Unit {0}

    anything : Invariant P S Any
    unfolding Any
    anything = record { step_keeps = λ g held sound e i. tt; arm_keeps = λ xs held sound i. tt; meet_keeps = λ held s t i j. tt }

    path_agrees : StepsAgree P S Any out
    unfolding on_the_way number
    path_agrees = record {
      reading = inner read_sound refl;
      giving = inner reach_held refl;
      equal = inner arms_equal refl;
      every = inner every_arm refl;
      before = inner else_from_before refl;
      onward = inner then_from_end refl;
      parts = inner parts_alike refl;
      steps = λ g held sound i. step_same g held sound;
    }

    pub path_same : (gs : Goals) (held sound : Set) → goals_without out P S gs held sound ≡ check_goals P S gs held sound
    unfolding Any
    path_same gs held sound = goals_same anything path_agrees gs held sound tt

none_inner : (r : Rule) → on_the_way r ≡ true → left_out [] r ≡ false
unfolding left_out
none_inner r e = refl

end_all : (S : Signature) (c : Carried) → end_asks [] S c ≡ end_rules S c
unfolding left_out unless choose end_asks with_born with_kept end_held end_rules
end_all S broken = refl
end_all S (carries held sound) = refl

procedure_all : (P : Program) (p : Procedure) → procedure_without [] P p ≡ procedure_rules P p
unfolding procedure_without procedure_rules
procedure_all P p = end_all p.signature _ ∙ ap (end_rules p.signature) (path_same [] none_inner P p.signature p.body _ _)

pub rules_all : (P : Program) → rules_without [] P ≡ rules_ok P
unfolding rules_without rules_ok
rules_all P = all_same _ _ (procedure_all P) P.procedures

pub checked_all : (f : List ℕ) → checked_without [] f ≡ checked f
unfolding checked_without checked checker_stages
checked_all f = rw (rules_all (program f))
