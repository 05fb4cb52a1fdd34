use mathlib.Core.Bool.{false≢true}
use mathlib.Core.Logic.{inl, inr}
use borrow.Author.Tests.{ltb-true, ltb-false}
use Rattle.regions.proofs.pairs.is_pair.Goals as goal

pub returns-then-r-eq0 : goal.returns-then-r-eq0
returns-then-r-eq0 c = ((λ e. absurd (false≢true e)), λ e. inl c.if-r-eq0.true)

pub returns-then-u-eq0 : goal.returns-then-u-eq0
returns-then-u-eq0 c = ((λ e. absurd (false≢true e)), λ e. inr (inl c.if-u-eq0.true))

pub returns : goal.returns
returns c =
    ((λ e. (c.if-r-eq0.false, c.if-u-eq0.false, ltb-true _ _ e)), λ e. inr (inr (ltb-false _ _ e)))
