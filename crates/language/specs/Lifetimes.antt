-- "Lifetimes": input, output and kept regions, live variables, wanted regions, what a step does to regions; number 7.
use Rattle.std.specs.Prelude.{ℕ, Bool, true, eqb, length}
use Rattle.sets.specs.Tests.{◌&◌, ◌or◌, neg}
use Rattle.sets.specs.Sets.{empty_set, single, ◌∪◌, ◌∖◌, subset, apart}
use Rattle.sets.specs.Members.{set_of, keep, image, every}
use Rattle.sets.specs.declared.Set.{Set}
use Rattle.language.specs.Lists.{all, up_from}
use Rattle.language.specs.Format.{born_class, dead_class}
use Rattle.language.specs.Program.{arguments_of, Step, literal, sum, assign, construct, call, print, create, remove, test, Goals, done, ◌then◌, Goal, step, switch, if_less, try, Arms, no_arms, arm, Signature, Program, region_of, region_at, signature_of}
use Rattle.language.specs.Values.{ins_of, outs_of, reads, gives}
use Rattle.language.specs.Regions.{reach_all, Mapping, mapping, image_in}

module _ (S : Signature) where
  -- "Input regions and output regions of a procedure: reach of its in and out variables."
  unfoldable pub inputs : Set
  inputs = reach_all S (ins_of S)

  unfoldable pub outputs : Set
  outputs = reach_all S (outs_of S)

  -- those of a class: "class (0 none, 1 born, 2 dead)"
  unfoldable pub of_class : ℕ → Set → Set
  of_class c rs = keep (λ r. eqb (region_at S r).class c) rs

  -- all regions of the procedure
  unfoldable pub declared : Set
  declared = set_of (up_from 1 (length S.regions))

  unfoldable pub born : Set
  born = of_class born_class declared

  unfoldable pub dead : Set
  dead = of_class dead_class declared

  -- "Kept: those of either kind whose class is 0."
  unfoldable pub kept : Set
  kept = of_class 0 (inputs ∪ outputs)

  -- "A procedure starts with its dead and kept regions held."
  unfoldable pub start_held : Set
  start_held = dead ∪ kept

  -- "Wanted at a point: the kept regions and the reach of the live variables."
  unfoldable pub wanted : Set → Set
  wanted live = kept ∪ reach_all S live

  -- Number 7 for every program: "class 1 not output-only or class 2 not input-only"
  unfoldable pub classes_ok : Bool
  classes_ok = subset born (outputs ∖ inputs) & subset dead (inputs ∖ outputs)

-- "Live variables at a point, as 004's Algorithm 5": before a goal, what is live after it less what it gives, and what it reads
module _ (P : Program) where
  unfoldable pub live_step : Step → Set → Set
  live_step g after = (after ∖ gives P g) ∪ reads P g

  -- "Where paths part, a variable live on one of them is live."
  unfoldable mutual
    pub live : Goals → Set → Set
    live done after = after
    live (g then gs) after = live_goal g (live gs after)

    pub live_goal : Goal → Set → Set
    live_goal (step g) after = live_step g after
    live_goal (switch x cs) after = single x ∪ live_arms cs after
    live_goal (if_less y z a b) after = (single y ∪ single z) ∪ (live a after ∪ live b after)
    -- "Live before the try is what the else part needs, or the condition and then part in turn; inside the condition the else part doesn't
    -- count" (C-20)
    live_goal (try c a b) after = live c (live a after) ∪ live b after

    pub live_arms : Arms → Set → Set
    live_arms no_arms after = empty_set
    live_arms (arm f ys gs cs) after = (live gs after ∖ set_of (arguments_of ys)) ∪ live_arms cs after

-- what a step does to regions: those that it needs held, those that it bears, those that it ends, and whether "an image of a dead or born
-- one is no other region's image"
pub record Effect : Type 0 where
  pub needs : Set
  pub bears : Set
  pub ends : Set
  pub unshared : Bool

unfoldable pub no_effect : Effect
no_effect = record { needs = empty_set; bears = empty_set; ends = empty_set; unshared = true }

-- no member of rs has the same image as another one of `others`
unfoldable pub unshared_in : (ℕ → ℕ) → Set → Set → Bool
unshared_in image rs others = every (λ r. every (λ q. neg (eqb (image r) (image q)) or eqb r q) others) rs

-- "a call needs the images of the callee's dead and kept regions"
unfoldable pub call_effect : Mapping → Signature → Effect
call_effect m Q = record {
  needs = image (image_in m) (dead Q ∪ kept Q);
  bears = image (image_in m) (born Q);
  ends = image (image_in m) (dead Q);
  unshared = unshared_in (image_in m) (dead Q ∪ born Q) (inputs Q ∪ outputs Q);
}

module _ (P : Program) (S : Signature) where
  -- "A construct needs X's region"; a create bears its region, a remove needs and ends it
  unfoldable pub effect : Step → Effect
  effect (literal x v) = no_effect
  effect (sum x o y z) = no_effect
  effect (assign x y) = no_effect
  effect (construct x f ys) = record { needs = single (region_of S x); bears = empty_set; ends = empty_set; unshared = true }
  effect (call q ys) = call_effect (mapping S (signature_of P q) ys) (signature_of P q)
  effect (print y) = no_effect
  effect (create r) = record { needs = empty_set; bears = single r; ends = empty_set; unshared = true }
  effect (remove r) = record { needs = single r; bears = empty_set; ends = single r; unshared = true }
  effect (test y z) = no_effect

  -- held after a step that is met with `held` held
  unfoldable pub held_after : Step → Set → Set
  held_after g held = (held ∖ (effect g).ends) ∪ (effect g).bears

  -- Number 7, "annotator also: at a call, a dead image wanted after, a born image wanted before, either shared with another region"
  unfoldable pub step_classes : Step → Set → Bool
  step_classes g after =
      apart (effect g).ends (wanted S after) & apart (effect g).bears (wanted S (live_step P g after)) & (effect g).unshared

  unfoldable mutual
    pub goals_classes : Goals → Set → Bool
    goals_classes done after = true
    goals_classes (g then gs) after = goal_classes g (live P gs after) & goals_classes gs after

    pub goal_classes : Goal → Set → Bool
    goal_classes (step g) after = step_classes g after
    goal_classes (switch x cs) after = arms_classes cs after
    goal_classes (if_less y z a b) after = goals_classes a after & goals_classes b after
    goal_classes (try c a b) after = goals_classes c (live P a after) & goals_classes a after & goals_classes b after

    pub arms_classes : Arms → Set → Bool
    arms_classes no_arms after = true
    arms_classes (arm f ys gs cs) after = goals_classes gs after & arms_classes cs after

unfoldable pub declared_classes_ok : Program → Bool
declared_classes_ok P = all (λ p. classes_ok p.signature) P.procedures

-- "After the last goal, the out variables are live."
unfoldable pub call_classes_ok : Program → Bool
call_classes_ok P = all (λ p. goals_classes P p.signature p.body (outs_of p.signature)) P.procedures
