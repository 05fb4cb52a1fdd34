use mathlib.Core.Path.{sym, ◌∙◌}
use Rattle.std.proofs.Common.{rules}
use Rattle.sets.specs.Sets.{small_of_bits}
use Rattle.sets.specs.Lowest.{members_none, members_taken}
use Rattle.sets.proofs.Set.split_lowest.Goals as goal

pub returns-then-is_empty : goal.returns-then-is_empty
returns-then-is_empty c = members_none _ (sym c.is_empty.ensures ∙ c.if-is_empty.true)

pub returns : goal.returns
returns c =
    members_taken _ _ _ (small_of_bits _ (search rules)) (sym c.is_empty.ensures ∙ c.if-is_empty.false) c.lowest.ensures
    c.without_lowest.ensures
