-- "Annotator": number 6, and where creates and removes go.
use Rattle.std.specs.Prelude.{ℕ, Bool, true, false, List, [], ◌∷◌, map}
use Rattle.sets.specs.Tests.{◌&◌}
use Rattle.sets.specs.Sets.{◌∪◌, ◌∩◌, ◌∖◌}
use Rattle.sets.specs.Members.{members}
use Rattle.sets.specs.declared.Set.{Set}
use Rattle.language.specs.Lists.{all}
use Rattle.language.specs.Program.{Four, Step, literal, sum, assign, construct, call, print, create, remove, test, Goals, done, ◌then◌, Goal, step, switch, if_less, try, Arms, no_arms, arm, ◌before◌, Signature, Procedure, Program}
use Rattle.language.specs.Values.{outs_of}
use Rattle.language.specs.Lifetimes.{start_held, wanted, live_step, live, live_goal, effect, held_after}

-- a step that is no create and no remove
unfoldable pub plain_step : Step → Bool
plain_step (literal x v) = true
plain_step (sum x o y z) = true
plain_step (assign x y) = true
plain_step (construct x f ys) = true
plain_step (call q ys) = true
plain_step (print y) = true
plain_step (create r) = false
plain_step (remove r) = false
plain_step (test y z) = true

-- Number 6: "annotator: a create or remove in the input"
unfoldable mutual
  pub plain_goals : Goals → Bool
  plain_goals done = true
  plain_goals (g then gs) = plain_goal g & plain_goals gs

  pub plain_goal : Goal → Bool
  plain_goal (step g) = plain_step g
  plain_goal (switch x cs) = plain_arms cs
  plain_goal (if_less y z a b) = plain_goals a & plain_goals b
  plain_goal (try c a b) = plain_goals c & plain_goals a & plain_goals b

  pub plain_arms : Arms → Bool
  plain_arms no_arms = true
  plain_arms (arm f ys gs cs) = plain_goals gs & plain_arms cs

unfoldable pub unannotated : Program → Bool
unannotated P = all (λ p. plain_goals p.body) P.procedures

-- creates and removes, "in rising number" where the list rises
unfoldable pub creates : List ℕ → Goals
creates [] = done
creates (r ∷ rs) = step (create r) then creates rs

unfoldable pub removes : List ℕ → Goals
removes [] = done
removes (r ∷ rs) = step (remove r) then removes rs

-- annotated goals or arms, and what is held after them
pub record Placed : Type 0 where
  pub goals : Goals
  pub held : Set

pub record PlacedArms : Type 0 where
  pub arms : Arms
  pub held : Set

-- goals in front of those that are annotated for what is held then
unfoldable pub going_on : Placed → (Set → Placed) → Placed
going_on front onward =
    let rest = onward front.held in
    record { goals = front.goals before rest.goals; held = rest.held }

-- "remove what is held and not wanted"
unfoldable pub removing : Set → Set → Placed
removing held want = record { goals = removes (members (held ∖ want)); held = held ∩ want }

-- a goal with parts, which all end with the same regions held
unfoldable pub placed_if : ℕ → ℕ → Placed → Placed → Placed
placed_if y z a b = record { goals = if_less y z a.goals b.goals then done; held = a.held }

unfoldable pub placed_try : Placed → Placed → Placed → Placed
placed_try c a b = record { goals = try c.goals a.goals b.goals then done; held = a.held }

unfoldable pub placed_switch : ℕ → PlacedArms → Placed
placed_switch x cs = record { goals = switch x cs.arms then done; held = cs.held }

unfoldable pub placed_arm : ℕ → Four → Placed → PlacedArms → PlacedArms
placed_arm f ys gs cs = record { arms = arm f ys gs.goals cs.arms; held = gs.held }

module _ (P : Program) (S : Signature) where
  -- "create what the goal needs or what is wanted after it, where it is not wanted before and the callee doesn't bear it"
  unfoldable pub created_for : Step → Set → Set
  created_for g after = (((effect P S g).needs ∪ wanted S after) ∖ wanted S (live_step P g after)) ∖ (effect P S g).bears

  -- the creates, then the step
  unfoldable pub place_step : Step → Set → Set → Placed
  place_step g after held = record {
    goals = creates (members (created_for g after)) before step g then done;
    held = held_after P S g (held ∪ created_for g after);
  }

  -- `after` is live after the goals, `held` is held on arrival. "After a goal, remove what is held and not wanted, in rising number. At a
  -- procedure's or arm's start, remove likewise": removes stand at the start, between two goals and at the end.
  -- "Nothing is created before a switch or an if; their arms see to it."
  unfoldable mutual
    pub place_goals : Goals → Set → Set → Placed
    place_goals done after held = removing held (wanted S after)
    place_goals (g then gs) after held =
        going_on (removing held (wanted S (live_goal P g (live P gs after))))
        (λ h. going_on (place_goal g (live P gs after) h) (λ k. place_goals gs after k))

    pub place_goal : Goal → Set → Set → Placed
    place_goal (step g) after held = place_step g after held
    place_goal (switch x cs) after held = placed_switch x (place_arms cs after held)
    place_goal (if_less y z a b) after held = placed_if y z (place_goals a after held) (place_goals b after held)
    -- "Creates and removes go into condition and parts as into arms" (C-20): the then part finds what the condition ends with
    place_goal (try c a b) after held =
        let condition = place_goals c (live P a after) held in
        placed_try condition (place_goals a after condition.held) (place_goals b after held)

    pub place_arms : Arms → Set → Set → PlacedArms
    place_arms no_arms after held = record { arms = no_arms; held = held }
    place_arms (arm f ys gs cs) after held = placed_arm f ys (place_goals gs after held) (place_arms cs after held)

-- "After the last goal, the out variables are live." "A procedure starts with its dead and kept regions held."
unfoldable pub annotate_procedure : Program → Procedure → Procedure
annotate_procedure P p = record {
  signature = p.signature;
  body = (place_goals P p.signature p.body (outs_of p.signature) (start_held p.signature)).goals;
}

unfoldable pub annotate : Program → Program
annotate P = record { types = P.types; procedures = map (annotate_procedure P) P.procedures }
