-- "Checker, along each path: it carries the held regions and the sound variables." Number 8.
-- Here paths that meet are joined. `Paths` in crate `paths` has the rules along one path, one for each sentence; `Accepting` there proves that this
-- accepts exactly if they hold on every path.
use Rattle.std.specs.Prelude.{Bool, true, false}
use Rattle.sets.specs.Tests.{◌&◌}
use Rattle.sets.specs.Sets.{member, ◌∪◌, ◌∩◌, ◌∖◌, same_set, subset, apart}
use Rattle.sets.specs.Members.{set_of, keep}
use Rattle.sets.specs.declared.Set.{Set}
use Rattle.language.specs.Lists.{all}
use Rattle.language.specs.Program.{arguments_of, Step, Goals, done, ◌then◌, Goal, step, switch, if_less, try, Arms, no_arms, arm, Signature, Procedure, Program}
use Rattle.language.specs.Values.{ins_of, outs_of, reads, gives}
use Rattle.language.specs.Regions.{reach}
use Rattle.language.specs.Lifetimes.{born, kept, start_held, effect, held_after}

-- what the checker carries, or that a rule is broken
pub data Carried : Type 0 where
  broken : Carried
  carries : Set → Set → Carried

-- a rule that must hold, and going on where none is broken
unfoldable pub require_rule : Bool → Carried → Carried
require_rule true c = c
require_rule false c = broken

unfoldable pub carry_on : Carried → (Set → Set → Carried) → Carried
carry_on broken f = broken
carry_on (carries h s) f = f h s

-- "Arms end with equal held regions; sound afterwards is sound after every arm."
unfoldable pub join_arms : Carried → Carried → Carried
join_arms broken c = broken
join_arms (carries h s) broken = broken
join_arms (carries h s) (carries k t) = require_rule (same_set h k) (carries h (s ∩ t))

module _ (S : Signature) where
  -- "A variable given a value is sound if its whole reach is then held."
  unfoldable pub sound_given : Set → Set → Set → Set
  sound_given xs held sound = (sound ∖ xs) ∪ keep (λ x. subset (reach S x) held) xs

  -- "variables reaching it stop being sound"
  unfoldable pub sound_without : Set → Set → Set
  sound_without rs sound = keep (λ x. apart (reach S x) rs) sound

module _ (P : Program) (S : Signature) where
  -- One rule for all steps. "Create: not held before. Remove: held, not kept." "Each variable read is sound. A construct's region is held."
  -- "Call: images of dead and kept regions are held. Images of dead ones are not kept by the caller. Images of born ones are not held.
  -- An image of a dead or born one is no other region's image."
  unfoldable pub step_rules : Step → Set → Set → Bool
  step_rules g held sound =
      subset (reads P g) sound & subset (effect P S g).needs held & apart (effect P S g).ends (kept S) & apart (effect P S g).bears held
      & (effect P S g).unshared

  -- "After it, dead images are gone and variables reaching them are no longer sound; born ones are held."
  unfoldable pub check_step : Step → Set → Set → Carried
  check_step g held sound =
      require_rule (step_rules g held sound)
      (carries (held_after P S g held) (sound_given S (gives P g) (held_after P S g held) (sound_without S (effect P S g).ends sound)))

  unfoldable mutual
    pub check_goals : Goals → Set → Set → Carried
    check_goals done held sound = carries held sound
    check_goals (g then gs) held sound = carry_on (check_goal g held sound) (λ h s. check_goals gs h s)

    pub check_goal : Goal → Set → Set → Carried
    check_goal (step g) held sound = check_step g held sound
    check_goal (switch x cs) held sound = require_rule (member sound x) (check_arms cs held sound)
    check_goal (if_less y z a b) held sound =
        require_rule (member sound y & member sound z) (join_arms (check_goals a held sound) (check_goals b held sound))
    -- "The else part starts from what .. was held and was sound before the try, the then part from what the condition ends with"; "both parts
    -- end alike" (C-20)
    check_goal (try c a b) held sound =
        join_arms (carry_on (check_goals c held sound) (λ h s. check_goals a h s)) (check_goals b held sound)

    -- number 3 sees to it that there is an arm
    pub check_arms : Arms → Set → Set → Carried
    check_arms no_arms held sound = carries held sound
    check_arms (arm f ys gs no_arms) held sound = check_goals gs held (sound_given S (set_of (arguments_of ys)) held sound)
    check_arms (arm f ys gs (arm e zs hs cs)) held sound =
        join_arms (check_goals gs held (sound_given S (set_of (arguments_of ys)) held sound)) (check_arms (arm e zs hs cs) held sound)

-- "At the end: born and kept regions held, no other; out variables sound."
unfoldable pub end_rules : Signature → Carried → Bool
end_rules S broken = false
end_rules S (carries held sound) = same_set held (born S ∪ kept S) & subset (outs_of S) sound

-- "A procedure starts with its dead and kept regions held and its in variables sound."
unfoldable pub procedure_rules : Program → Procedure → Bool
procedure_rules P p = end_rules p.signature (check_goals P p.signature p.body (start_held p.signature) (ins_of p.signature))

unfoldable pub rules_ok : Program → Bool
rules_ok P = all (procedure_rules P) P.procedures
