-- A procedure whose first switch has one arm that removes a region and creates it again. Its four paths are listed; on the two through that
-- arm a variable from before is read that is no longer sound. All of it is computed.
use Rattle.std.specs.Prelude.{true, false, List, ◌∷◌, ◌++◌, map, ◌≡◌, refl, []}
use Rattle.sets.specs.Sets.{empty_set, single}
use Rattle.sets.specs.declared.Set.{Set}
use Rattle.language.specs.Lists.{all}
use Rattle.language.specs.Program.{Four, four, construct, create, remove, Goals, done, ◌then◌, step, switch, no_arms, arm, Signature, Procedure, Program}
use Rattle.language.specs.Typing.{typing_ok}
use Rattle.language.specs.Lifetimes.{start_held}
use Rattle.language.specs.Values.{ins_of}
use Rattle.language.specs.Checking.{procedure_rules}
use Rattle.language.specs.Computing.{computing}
use Rattle.paths.specs.Paths as Paths
use Rattle.paths.specs.Paths.{Event, does, takes, paths, read_by, read_sound, region_rules, held_then, sound_then, path_rules, held_along, arrivals, arms_agree}

-- opens every definition of `Paths`
unfoldable pub paths_open : Unit {0}
unfolding Paths.then_each Paths.then_all Paths.paths Paths.read_by Paths.given_by Paths.image_at Paths.images_at Paths.create_not_held Paths.remove_held Paths.remove_not_kept Paths.read_sound Paths.construct_held Paths.call_held Paths.call_not_kept Paths.call_not_held Paths.call_unshared Paths.end_rule Paths.region_rules Paths.event_rules Paths.held_then Paths.not_reaching Paths.still_sound Paths.sound_then Paths.keeps_along Paths.path_rules Paths.arrivals_after Paths.arrivals_after_all Paths.arrivals Paths.held_along Paths.arms_agree
paths_open = tt

unfoldable none : Four
none = four 0 0 0 0

-- the argument of the second arm of the first switch, and of the second
unfoldable first : Four
first = four 2 0 0 0

unfoldable second : Four
second = four 3 0 0 0

-- one type of two functors, a constant and one with a number as its argument; variable 1 of it, in the one region, and two numbers
unfoldable S : Signature
S = record {
  variables = record { mode = 0; type = 1; region = 1 } ∷ record { mode = 0; type = 0; region = 0 } ∷ record { mode = 0; type = 0; region = 0 } ∷ [];
  regions = record { type = 1; class = 0; edges = [] } ∷ [];
}

-- the switch on variable 1 whose first arm has the goals gs and whose second has the argument ys and no goals
unfoldable switching : Four → Goals → Goals → Goals
switching ys gs hs = switch 1 (arm 0 none gs (arm 1 ys done no_arms)) then hs

unfoldable body_with : Goals → Goals
body_with gs =
    step (create 1) then step (construct 1 0 none) then switching first gs (switching second done (step (remove 1) then done))

unfoldable procedure_with : Goals → Procedure
procedure_with gs = record { signature = S; body = body_with gs }

unfoldable program_with : Goals → Program
program_with gs = record {
  types = (record { arity = 0; argument_types = none } ∷ record { arity = 1; argument_types = none } ∷ []) ∷ [];
  procedures = procedure_with gs ∷ [];
}

-- goals that remove region 1 and create it again
unfoldable again : Goals
again = step (remove 1) then step (create 1) then done

-- up to the first switch, and from its first arm on to the second switch
unfoldable made : List Event
made = does (create 1) ∷ does (construct 1 0 none) ∷ []

unfoldable renewed : List Event
renewed = made ++ (takes 1 0 none ∷ does (remove 1) ∷ does (create 1) ∷ [])

paths_listed : paths (body_with again)
    ≡ (renewed ++ (takes 1 0 none ∷ does (remove 1) ∷ []))
    ∷ (renewed ++ (takes 1 1 second ∷ does (remove 1) ∷ []))
    ∷ (made ++ (takes 1 1 first ∷ takes 1 0 none ∷ does (remove 1) ∷ []))
    ∷ (made ++ (takes 1 1 first ∷ takes 1 1 second ∷ does (remove 1) ∷ []))
    ∷ []
unfolding computing paths_open none first second S switching body_with again made renewed
paths_listed = refl

unfoldable sound_along : List Event → Set → Set → Set
sound_along [] held sound = sound
sound_along (e ∷ es) held sound = sound_along es (held_then (program_with again) S e held) (sound_then (program_with again) S e held sound)

-- the two through the first arm break a rule, the two others do not
which_break : map (path_rules (program_with again) S) (paths (body_with again)) ≡ false ∷ false ∷ true ∷ true ∷ []
unfolding computing paths_open none first second S switching body_with procedure_with program_with again made renewed
which_break = refl

-- at the second switch, behind the first arm: region 1 is held again, variable 1 is not sound, and "Each variable read is sound" is broken
broken_rule : (held_along (program_with again) S renewed (start_held S) ≡ single 1)
    × (sound_along renewed (start_held S) (ins_of S) ≡ empty_set)
    × (read_sound (program_with again) S (read_by (program_with again) S (takes 1 0 none)) (sound_along renewed (start_held S) (ins_of S)) ≡ false)
unfolding computing paths_open none first second S switching body_with procedure_with program_with again made renewed sound_along
broken_rule = (refl, refl, refl)

-- the arms agree on what is held, and the checker refuses the procedure
arms_agree_law : all (arms_agree (program_with again) S (start_held S)) (arrivals (body_with again)) ≡ true
unfolding computing paths_open none first second S switching body_with procedure_with program_with again
arms_agree_law = refl

refuses : procedure_rules (program_with again) (procedure_with again) ≡ false
unfolding computing none first second S switching body_with procedure_with program_with again
refuses = refl

-- without the two goals it accepts it; both programs pass number 3
accepts : (procedure_rules (program_with done) (procedure_with done) ≡ true) × (all (path_rules (program_with done) S) (paths (body_with done)) ≡ true)
unfolding computing paths_open none first second S switching body_with procedure_with program_with
accepts = (refl, refl)

typed : (typing_ok (program_with again) ≡ true) × (typing_ok (program_with done) ≡ true)
unfolding computing none first second S switching body_with procedure_with program_with again
typed = (refl, refl)

-- an arm that removes the region and does not create it again: its paths break a rule further on, and the arms do not agree
unfoldable lost : Goals
lost = step (remove 1) then done

arms_differ_law : (all (arms_agree (program_with lost) S (start_held S)) (arrivals (body_with lost)) ≡ false)
    × (all (path_rules (program_with lost) S) (paths (body_with lost)) ≡ false)
unfolding computing paths_open none first second S switching body_with procedure_with program_with lost
arms_differ_law = (refl, refl)
