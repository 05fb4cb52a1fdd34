-- Goals laid in front of a chain that goes on, and the goals of the local placement put together from them.
use Rattle.std.specs.Prelude.{ℕ, List, ◌≡◌, length}
use Rattle.language.specs.Tree.{Tree}
use Rattle.language.specs.Layout.{lay}
use Rattle.language.specs.Records.{goal_tree}
use Rattle.language.specs.Program.{Goals, done, ◌then◌}
use Rattle.laying.specs.Lays.{Lays, GoesOn}

-- goals in front of a tree
unfoldable pub onto : Goals → Tree → Tree
onto done t = t
onto (g then gs) t = goal_tree g (onto gs t)

-- the goals gs were laid from place c up to place r in front of a chain that goes on where `on` is not 0: with whatever is laid behind them, they
-- make one chain
pub record Fronts (a b : List ℕ) (c r : ℕ) (gs : Goals) (on : ℕ) : Type 0 where
  pub same : length b ≡ length a
  pub joined : (t : Tree) → GoesOn on t → (d : List ℕ) (e : ℕ) → Lays b d r e (lay t r) → Lays a d c e (lay (onto gs t) c)
