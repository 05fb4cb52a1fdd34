use mathlib.Core.Path.{refl, sym, ◌∙◌}
use Rattle.values.proofs.ValuingLaws.{giving_unread, giving_twice, giving_again, giving_goes}
use Rattle.values.proofs.carried.Valuation.after.Goals as goal

pub returns-then-not-is_subset : goal.returns-then-not-is_subset
returns-then-not-is_subset c = giving_unread _ _ _ _ _ (rw c.reads_at.ensures at c.is_subset.ensures) c.if-not-is_subset.true

pub returns-then-not-marked : goal.returns-then-not-marked
returns-then-not-marked c = giving_twice _ _ _ _ (rw c.reads_at.ensures at c.is_subset.ensures) c.if-not-is_subset.false _ (sym c.marked.ensures ∙ c.if-not-marked.true)

pub returns-then-not-is_empty : goal.returns-then-not-is_empty
returns-then-not-is_empty c = giving_again _ _ _ _ (rw c.reads_at.ensures at c.is_subset.ensures) c.if-not-is_subset.false (sym c.marked.ensures ∙ c.if-not-marked.false) (rw c.gives_at-gives.ensures at c.intersection.ensures) c.is_empty.ensures _ c.if-not-is_empty.true

pub returns : goal.returns
returns c = giving_goes _ _ _ _ (rw c.reads_at.ensures at c.is_subset.ensures) c.if-not-is_subset.false (sym c.marked.ensures ∙ c.if-not-marked.false) (rw c.gives_at-gives.ensures at c.intersection.ensures) c.is_empty.ensures _ c.if-not-is_empty.false (rw c.gives_at-gives.ensures at c.union.ensures) (rw c.gives_at-gives.ensures at c.union-2.ensures) refl
