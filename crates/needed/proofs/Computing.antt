-- Opens the definitions of this crate and those of `language` at once, for the files of `Steps`, `Calls`, `Paths` and `Implied`.
use Rattle.language.specs.Computing as Language
use Rattle.language.specs.Table as Table
use Rattle.needed.specs.Without as Without
use Rattle.needed.proofs.Faults as Faults

unfoldable pub computing : Unit {0}
unfolding Language.computing Table.eight Table.rows Table.file Without.number Without.left_out Without.all_asked Without.unless Without.asked Without.call_asks Without.joined_by Without.arms_joined Without.with_born Without.with_kept Without.end_held Without.end_asks Without.given_sound Without.asks Without.step_asks Without.holds_after Without.step_without Without.goals_without Without.goal_without Without.arms_without Without.procedure_without Without.rules_without Without.checked_without Faults.stuck_at Faults.stuck_in Faults.stuck
computing = tt
