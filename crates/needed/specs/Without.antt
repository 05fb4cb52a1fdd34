-- The checker of document 01 with some of its rules left out: what shows that a rule is needed. With none left out it is the checker.
use Rattle.std.specs.Prelude.{ℕ, Bool, true, false, List, [], ◌∷◌, ◌++◌, eqb, Result}
use Rattle.sets.specs.Tests.{◌&◌, ◌or◌}
use Rattle.sets.specs.Sets.{empty_set, single, member, ◌∪◌, ◌∩◌, ◌∖◌, same_set, subset, apart}
use Rattle.sets.specs.Members.{set_of, image}
use Rattle.sets.specs.declared.Set.{Set}
use Rattle.language.specs.declared.Refusal.{Refusal}
use Rattle.language.specs.declared.Refusal.TheVariants.{Classes, Rules}
use Rattle.language.specs.Lists.{all, choose}
use Rattle.language.specs.Program.{arguments_of, Step, literal, sum, assign, construct, call, print, create, remove, test, Goals, done, ◌then◌, Goal, step, switch, if_less, try, Arms, no_arms, arm, Signature, Procedure, Program, region_of, signature_of}
use Rattle.language.specs.Values.{ins_of, outs_of, reads, gives}
use Rattle.language.specs.Regions.{Mapping, mapping, image_in}
use Rattle.language.specs.Lifetimes.{inputs, outputs, born, dead, kept, start_held, declared_classes_ok, Effect, no_effect, unshared_in}
use Rattle.language.specs.Checking.{Carried, broken, carries, require_rule, carry_on, sound_given, sound_without}
use Rattle.language.specs.Answers.{stage, lowest, program, reached_stages}

-- the rules, in document 01's order; those of a try (C-20) stand behind those of arms
pub data Rule : Type 0 where
  create_not_held : Rule  -- "Create: not held before."
  remove_held : Rule  -- "Remove: held,"
  remove_not_kept : Rule  -- "not kept;"
  remove_unsound : Rule  -- "variables reaching it stop being sound."
  read_sound : Rule  -- "Each variable read is sound."
  construct_held : Rule  -- "A construct's region is held."
  dead_held : Rule  -- "Call: images of dead"
  kept_held : Rule  -- "and kept regions are held."
  dead_not_kept : Rule  -- "Images of dead ones are not kept by the caller."
  born_not_held : Rule  -- "Images of born ones are not held."
  dead_unshared : Rule  -- "An image of a dead"
  born_unshared : Rule  -- "or born one is no other region's image."
  dead_gone : Rule  -- "After it, dead images are gone"
  dead_unsound : Rule  -- "and variables reaching them are no longer sound;"
  born_then_held : Rule  -- "born ones are held."
  reach_held : Rule  -- "A variable given a value is sound if its whole reach is then held."
  arms_equal : Rule  -- "Arms end with equal held regions;"
  every_arm : Rule  -- "sound afterwards is sound after every arm."
  else_from_before : Rule  -- "The else part starts from what .. was held and was sound before the try," (C-20)
  then_from_end : Rule  -- "the then part from what the condition ends with." (C-20)
  parts_alike : Rule  -- "both parts end alike" (C-20)
  end_born : Rule  -- "At the end: born"
  end_kept : Rule  -- "and kept regions held,"
  end_other : Rule  -- "no other;"
  outs_sound : Rule  -- "out variables sound."

unfoldable pub number : Rule → ℕ
number create_not_held = 1
number remove_held = 2
number remove_not_kept = 3
number remove_unsound = 4
number read_sound = 5
number construct_held = 6
number dead_held = 7
number kept_held = 8
number dead_not_kept = 9
number born_not_held = 10
number dead_unshared = 11
number born_unshared = 12
number dead_gone = 13
number dead_unsound = 14
number born_then_held = 15
number reach_held = 16
number arms_equal = 17
number every_arm = 18
number else_from_before = 19
number then_from_end = 20
number parts_alike = 21
number end_born = 22
number end_kept = 23
number end_other = 24
number outs_sound = 25

-- r is among those left out
unfoldable pub left_out : List Rule → Rule → Bool
left_out [] r = false
left_out (q ∷ qs) r = eqb (number q) (number r) or left_out qs r

-- what the rules ask of a step: before it, the regions that are held, those that are not kept, those that are not held, and that none is shared;
-- after it, what is gone, what is held, and what makes unsound
pub record Asked : Type 0 where
  pub needs : Set
  pub ends : Set
  pub bears : Set
  pub unshared : Bool
  pub gone : Set
  pub comes : Set
  pub unsound : Set

unfoldable pub all_asked : Effect → Asked
all_asked e = record {
  needs = e.needs;
  ends = e.ends;
  bears = e.bears;
  unshared = e.unshared;
  gone = e.ends;
  comes = e.bears;
  unsound = e.ends;
}

module _ (out : List Rule) where
  -- what stands for a value where r is left out
  unfoldable pub unless : {A : Type 0} → Rule → A → A → A
  unless r instead a = choose (left_out out r) instead a

  -- the regions that a rule asks about: none where it is left out
  unfoldable pub asked : Rule → Set → Set
  asked r s = unless r empty_set s

  unfoldable pub call_asks : Mapping → Signature → Asked
  call_asks m Q = record {
    needs = image (image_in m) (asked dead_held (dead Q) ∪ asked kept_held (kept Q));
    ends = image (image_in m) (asked dead_not_kept (dead Q));
    bears = image (image_in m) (asked born_not_held (born Q));
    unshared = unshared_in (image_in m) (asked dead_unshared (dead Q) ∪ asked born_unshared (born Q)) (inputs Q ∪ outputs Q);
    gone = image (image_in m) (asked dead_gone (dead Q));
    comes = image (image_in m) (asked born_then_held (born Q));
    unsound = image (image_in m) (asked dead_unsound (dead Q));
  }

  -- where arms may end differently, the first one's held regions are carried on; or what is sound after some arm
  unfoldable pub joined_by : Rule → Carried → Carried → Carried
  joined_by r broken c = broken
  joined_by r (carries h s) broken = broken
  joined_by r (carries h s) (carries k t) = require_rule (unless r true (same_set h k)) (carries h (unless every_arm (s ∪ t) (s ∩ t)))

  unfoldable pub arms_joined : Carried → Carried → Carried
  arms_joined c d = joined_by arms_equal c d

  -- what counts as held at the end: born or kept regions, where they are not asked for, and no others, where those are let through
  unfoldable pub with_born : Signature → Set → Set
  with_born S held = unless end_born (held ∪ born S) held

  unfoldable pub with_kept : Signature → Set → Set
  with_kept S held = unless end_kept (with_born S held ∪ kept S) (with_born S held)

  unfoldable pub end_held : Signature → Set → Set
  end_held S held = unless end_other (with_kept S held ∩ (born S ∪ kept S)) (with_kept S held)

  unfoldable pub end_asks : Signature → Carried → Bool
  end_asks S broken = false
  end_asks S (carries held sound) = same_set (end_held S held) (born S ∪ kept S) & unless outs_sound true (subset (outs_of S) sound)

  module _ (S : Signature) where
    -- every variable given a value, or those whose reach is held
    unfoldable pub given_sound : Set → Set → Set → Set
    given_sound xs held sound = unless reach_held ((sound ∖ xs) ∪ xs) (sound_given S xs held sound)

  module _ (P : Program) (S : Signature) where
    unfoldable pub asks : Step → Asked
    asks (literal x v) = all_asked no_effect
    asks (sum x o y z) = all_asked no_effect
    asks (assign x y) = all_asked no_effect
    asks (construct x f ys) =
        all_asked (record { needs = asked construct_held (single (region_of S x)); bears = empty_set; ends = empty_set; unshared = true })
    asks (call q ys) = call_asks (mapping S (signature_of P q) ys) (signature_of P q)
    asks (print y) = all_asked no_effect
    asks (test y z) = all_asked no_effect
    asks (create r) = record {
      needs = empty_set;
      ends = empty_set;
      bears = asked create_not_held (single r);
      unshared = true;
      gone = empty_set;
      comes = single r;
      unsound = empty_set;
    }
    asks (remove r) = record {
      needs = asked remove_held (single r);
      ends = asked remove_not_kept (single r);
      bears = empty_set;
      unshared = true;
      gone = single r;
      comes = empty_set;
      unsound = asked remove_unsound (single r);
    }

    unfoldable pub step_asks : Step → Set → Set → Bool
    step_asks g held sound =
        unless read_sound true (subset (reads P g) sound) & subset (asks g).needs held & apart (asks g).ends (kept S) & apart (asks g).bears held
        & (asks g).unshared

    unfoldable pub holds_after : Step → Set → Set
    holds_after g held = (held ∖ (asks g).gone) ∪ (asks g).comes

    unfoldable pub step_without : Step → Set → Set → Carried
    step_without g held sound =
        require_rule (step_asks g held sound)
        (carries (holds_after g held) (given_sound S (gives P g) (holds_after g held) (sound_without S (asks g).unsound sound)))

    unfoldable mutual
      pub goals_without : Goals → Set → Set → Carried
      goals_without done held sound = carries held sound
      goals_without (g then gs) held sound = carry_on (goal_without g held sound) (λ h s. goals_without gs h s)

      pub goal_without : Goal → Set → Set → Carried
      goal_without (step g) held sound = step_without g held sound
      goal_without (switch x cs) held sound = require_rule (unless read_sound true (member sound x)) (arms_without cs held sound)
      goal_without (if_less y z a b) held sound =
          require_rule (unless read_sound true (member sound y & member sound z)) (arms_joined (goals_without a held sound) (goals_without b held sound))
      goal_without (try c a b) held sound =
          joined_by parts_alike
          (carry_on (goals_without c held sound) (λ h s. unless then_from_end (goals_without a held sound) (goals_without a h s)))
          (unless else_from_before (carry_on (goals_without c held sound) (λ h s. goals_without b h s)) (goals_without b held sound))

      pub arms_without : Arms → Set → Set → Carried
      arms_without no_arms held sound = carries held sound
      arms_without (arm f ys gs no_arms) held sound = goals_without gs held (given_sound S (set_of (arguments_of ys)) held sound)
      arms_without (arm f ys gs (arm e zs hs cs)) held sound =
          arms_joined (goals_without gs held (given_sound S (set_of (arguments_of ys)) held sound)) (arms_without (arm e zs hs cs) held sound)

  unfoldable pub procedure_without : Program → Procedure → Bool
  procedure_without P p = end_asks p.signature (goals_without P p.signature p.body (start_held p.signature) (ins_of p.signature))

  unfoldable pub rules_without : Program → Bool
  rules_without P = all (procedure_without P) P.procedures

  -- what a checker without these rules answers
  unfoldable pub checked_without : List ℕ → Result Unit Refusal
  checked_without f = lowest (reached_stages f ++ (stage Classes (declared_classes_ok (program f)) ∷ stage Rules (rules_without (program f)) ∷ []))
