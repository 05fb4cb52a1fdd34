-- The table is lent from the window's start on (`window_lent`).
use mathlib.Core.Path.{ap, ◌∙◌}
use mathlib.Core.List.{List}
use Prim.Native.Nat.{ℕ}
use lib.ListN.{get_or}
use Rattle.tables.specs.Window.{body_place}
use Rattle.tables.specs.Starts.{window_lent}
use Rattle.tables.proofs.starts.body_of.Goals as goal

pub returns : goal.returns
returns c =
    let a = c.args in
    c.word_at.ensures ∙ ap (λ (t : List ℕ). get_or t body_place 0) (window_lent a.table.now a.q c.start_of-start.ensures.value)
