use mathlib.Core.Logic.{inl, inr}
use Rattle.machine.proofs.heaps.changes_heap.Goals as goal

pub returns-in-11 : goal.returns-in-11
returns-in-11 c = inl c.in-11.is

pub returns-in-18 : goal.returns-in-18
returns-in-18 c = inr (inl c.in-18.is)

pub returns-in-19 : goal.returns-in-19
returns-in-19 c = inr (inr c.in-19.is)

pub returns-in_default : goal.returns-in_default
returns-in_default c = (c.in_default.in_default-own.rest.0.0.1, c.in_default.in_default-own.rest.0.1, c.in_default.in_default-own.rest.1)
