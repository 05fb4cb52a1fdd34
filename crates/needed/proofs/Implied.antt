-- The rules that no run needs by itself, each with the rule that must be left out with it before a run goes wrong.
use Rattle.std.specs.Prelude.{ℕ, List, ◌∷◌, ◌≡◌, refl, [], Ok, Err}
use Rattle.language.specs.declared.Refusal.TheVariants.{Rules}
use Rattle.language.specs.Answers.{checked}
use Rattle.language.specs.Table.{file}
use Rattle.needed.specs.Without.{remove_not_kept, dead_held, reach_held, end_born, end_kept, checked_without}
use Rattle.needed.proofs.Faults.{stays, Clean, Needed}
use Rattle.needed.proofs.Computing.{computing}

-- "At the end: .. kept regions held". A kept region is held from the start, and neither a remove nor a dead image takes it away: `end_kept_follows`
-- in `AtTheEnd`. Where kept regions may be removed as well, the caller removes what is gone.
--     main: create 1 · N := 1 · X := box(N) · q(X) · remove 1
--     q(in X), region 1 kept: remove 1
unfoldable pub kept_gone : List ℕ
kept_gone =
    file (
    (1 ∷ 3 ∷ 1 ∷ 17 ∷ []) ∷ (2 ∷ 0 ∷ 2 ∷ []) ∷ (3 ∷ 0 ∷ 1 ∷ []) ∷ (4 ∷ 13 ∷ 4 ∷ 6 ∷ 7 ∷ []) ∷
    (5 ∷ 5 ∷ 0 ∷ 1 ∷ 1 ∷ []) ∷ (5 ∷ []) ∷ (6 ∷ 0 ∷ 1 ∷ []) ∷ (18 ∷ 8 ∷ 1 ∷ []) ∷ (8 ∷ 9 ∷ 2 ∷ 1 ∷ []) ∷
    (11 ∷ 10 ∷ 1 ∷ 0 ∷ 2 ∷ []) ∷ (15 ∷ 12 ∷ 1 ∷ 11 ∷ []) ∷ (16 ∷ 0 ∷ 1 ∷ []) ∷ (19 ∷ 0 ∷ 1 ∷ []) ∷
    (4 ∷ 0 ∷ 14 ∷ 15 ∷ 16 ∷ []) ∷ (5 ∷ 0 ∷ 1 ∷ 1 ∷ 1 ∷ []) ∷ (6 ∷ 0 ∷ 1 ∷ []) ∷ (19 ∷ 0 ∷ 1 ∷ []) ∷ [])

pub kept_gone_needs : Needed (end_kept ∷ remove_not_kept ∷ [])
unfolding computing kept_gone
kept_gone_needs = record { bytes = kept_gone; refused = refl; accepted = refl; wrong = stays 5 refl }

-- each of the two refuses it
pub kept_gone_twice : (checked_without (end_kept ∷ []) kept_gone ≡ Err Rules) × (checked_without (remove_not_kept ∷ []) kept_gone ≡ Err Rules)
unfolding computing kept_gone
kept_gone_twice = (refl, refl)

-- "At the end: born .. regions held". A born region is in the reach of an out variable, which is sound, and so its whole reach is held:
-- `end_born_follows` in `AtTheEnd`. Where sound does not ask that, the caller removes a region that was never created.
--     main, region 1 leads to region 2: q(X) · remove 1 · remove 2
--     q(out X), regions 1 and 2 born: create 1 · X := end
unfoldable pub born_missing : List ℕ
born_missing =
    file (
    (1 ∷ 4 ∷ 1 ∷ 22 ∷ []) ∷ (2 ∷ 0 ∷ 2 ∷ []) ∷ (3 ∷ 3 ∷ []) ∷ (3 ∷ 0 ∷ 1 ∷ 1 ∷ []) ∷ (4 ∷ 14 ∷ 5 ∷ 6 ∷ 10 ∷ []) ∷
    (5 ∷ 0 ∷ 0 ∷ 1 ∷ 1 ∷ []) ∷ (6 ∷ 8 ∷ 1 ∷ 0 ∷ 7 ∷ []) ∷ (7 ∷ 0 ∷ 1 ∷ 1 ∷ 2 ∷ []) ∷ (6 ∷ 0 ∷ 1 ∷ 0 ∷ 9 ∷ []) ∷
    (7 ∷ 0 ∷ 1 ∷ 1 ∷ 2 ∷ []) ∷ (15 ∷ 12 ∷ 1 ∷ 11 ∷ []) ∷ (16 ∷ 0 ∷ 1 ∷ []) ∷ (19 ∷ 13 ∷ 1 ∷ []) ∷
    (19 ∷ 0 ∷ 2 ∷ []) ∷ (4 ∷ 0 ∷ 15 ∷ 16 ∷ 20 ∷ []) ∷ (5 ∷ 0 ∷ 2 ∷ 1 ∷ 1 ∷ []) ∷ (6 ∷ 18 ∷ 1 ∷ 1 ∷ 17 ∷ []) ∷
    (7 ∷ 0 ∷ 1 ∷ 1 ∷ 2 ∷ []) ∷ (6 ∷ 0 ∷ 1 ∷ 1 ∷ 19 ∷ []) ∷ (7 ∷ 0 ∷ 1 ∷ 1 ∷ 2 ∷ []) ∷ (18 ∷ 21 ∷ 1 ∷ []) ∷
    (11 ∷ 0 ∷ 1 ∷ []) ∷ [])

pub born_missing_needs : Needed (end_born ∷ reach_held ∷ [])
unfolding computing born_missing
born_missing_needs = record { bytes = born_missing; refused = refl; accepted = refl; wrong = stays 4 refl }

-- each of the two refuses it
pub born_missing_twice : (checked_without (end_born ∷ []) born_missing ≡ Err Rules) × (checked_without (reach_held ∷ []) born_missing ≡ Err Rules)
unfolding computing born_missing
born_missing_twice = (refl, refl)

-- "Call: images of dead .. regions are held". A dead region is an input region and no output region, so its image is in the reach of an in argument. That
-- is read, so it is sound, and its whole reach is held: `dead_held_follows` in `DeadImages`. Where sound does not ask that, the callee removes a region that
-- was never created.
--     main, region 1 leads to region 2: create 1 · X := end · q(X) · remove 1
--     q(in X), region 1 kept, region 2 dead: remove 2
unfoldable pub dead_missing : List ℕ
dead_missing =
    file (
    (1 ∷ 4 ∷ 1 ∷ 22 ∷ []) ∷ (2 ∷ 0 ∷ 2 ∷ []) ∷ (3 ∷ 3 ∷ []) ∷ (3 ∷ 0 ∷ 1 ∷ 1 ∷ []) ∷ (4 ∷ 15 ∷ 5 ∷ 6 ∷ 10 ∷ []) ∷
    (5 ∷ 0 ∷ 0 ∷ 1 ∷ 1 ∷ []) ∷ (6 ∷ 8 ∷ 1 ∷ 0 ∷ 7 ∷ []) ∷ (7 ∷ 0 ∷ 1 ∷ 1 ∷ 2 ∷ []) ∷ (6 ∷ 0 ∷ 1 ∷ 0 ∷ 9 ∷ []) ∷
    (7 ∷ 0 ∷ 1 ∷ 1 ∷ 2 ∷ []) ∷ (18 ∷ 11 ∷ 1 ∷ []) ∷ (11 ∷ 12 ∷ 1 ∷ []) ∷ (15 ∷ 14 ∷ 1 ∷ 13 ∷ []) ∷
    (16 ∷ 0 ∷ 1 ∷ []) ∷ (19 ∷ 0 ∷ 1 ∷ []) ∷ (4 ∷ 0 ∷ 16 ∷ 17 ∷ 21 ∷ []) ∷ (5 ∷ 0 ∷ 1 ∷ 1 ∷ 1 ∷ []) ∷
    (6 ∷ 19 ∷ 1 ∷ 0 ∷ 18 ∷ []) ∷ (7 ∷ 0 ∷ 1 ∷ 1 ∷ 2 ∷ []) ∷ (6 ∷ 0 ∷ 1 ∷ 2 ∷ 20 ∷ []) ∷ (7 ∷ 0 ∷ 1 ∷ 1 ∷ 2 ∷ []) ∷
    (19 ∷ 0 ∷ 2 ∷ []) ∷ [])

pub dead_missing_needs : Needed (dead_held ∷ reach_held ∷ [])
unfolding computing dead_missing
dead_missing_needs = record { bytes = dead_missing; refused = refl; accepted = refl; wrong = stays 3 refl }

-- each of the two refuses it
pub dead_missing_twice : (checked_without (dead_held ∷ []) dead_missing ≡ Err Rules) × (checked_without (reach_held ∷ []) dead_missing ≡ Err Rules)
unfolding computing dead_missing
dead_missing_twice = (refl, refl)

-- "A variable given a value is sound if its whole reach is then held." No run needs it while the other rules are kept. A sound variable's value has
-- cells in held regions only, whatever else its reach is: a construct's region is held and its arguments are sound; what an arm's arguments get are parts of
-- such a value; a create meets a region that is not held, where such a value has no cell; what a remove or a call takes away makes unsound what reaches it;
-- a call asks for all input regions of the callee, and its out variables reach only born and kept ones. So the rule refuses this file, whose run is good.
--     region 1 leads to region 2: create 1 · X := end · switch X · remove 1
unfoldable pub reach_missing : List ℕ
reach_missing =
    file (
    (1 ∷ 4 ∷ 1 ∷ 17 ∷ []) ∷ (2 ∷ 0 ∷ 2 ∷ []) ∷ (3 ∷ 3 ∷ []) ∷ (3 ∷ 0 ∷ 1 ∷ 1 ∷ []) ∷ (4 ∷ 0 ∷ 5 ∷ 7 ∷ 11 ∷ []) ∷
    (5 ∷ 6 ∷ 0 ∷ 1 ∷ 1 ∷ []) ∷ (5 ∷ 0 ∷ 0 ∷ 1 ∷ 2 ∷ []) ∷ (6 ∷ 9 ∷ 1 ∷ 0 ∷ 8 ∷ []) ∷ (7 ∷ 0 ∷ 1 ∷ 1 ∷ 2 ∷ []) ∷
    (6 ∷ 0 ∷ 1 ∷ 0 ∷ 10 ∷ []) ∷ (7 ∷ 0 ∷ 1 ∷ 1 ∷ 2 ∷ []) ∷ (18 ∷ 12 ∷ 1 ∷ []) ∷ (11 ∷ 13 ∷ 1 ∷ []) ∷
    (12 ∷ 16 ∷ 1 ∷ 14 ∷ []) ∷ (13 ∷ 15 ∷ []) ∷ (13 ∷ 0 ∷ 0 ∷ 1 ∷ 2 ∷ []) ∷ (19 ∷ 0 ∷ 1 ∷ []) ∷ [])

pub reach_missing_runs : (checked reach_missing ≡ Err Rules) × (checked_without (reach_held ∷ []) reach_missing ≡ Ok tt) × Clean reach_missing 4
unfolding computing reach_missing
reach_missing_runs = (refl, refl, record { ended = refl; removed = refl })
