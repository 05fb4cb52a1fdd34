-- A record that stands in a chain of goals is one of the twelve kinds of goal.
use Rattle.std.specs.Prelude.{ℕ, List, ◌≡◌, refl}
use Rattle.language.specs.File.{GoalKind, k_goal, goals, word}
use Rattle.records.specs.Records.{record_as, record_at}
use Rattle.chains.specs.Formed.{Stands}
use Rattle.chains.specs.Kinds.{same_read}
use Rattle.chains.specs.Shapes.{goal_kind}

pub goal_is : {f : List ℕ} {i : ℕ} → Stands f goals i → (i ≡ 0 → ⊥) → (g : GoalKind) × (record_at f i ≡ record_as (k_goal g) (word f i))
goal_is {f} {i} s z = let k = goal_kind s z in (k.0, same_read f i refl k.1)
