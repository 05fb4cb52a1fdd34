use mathlib.Core.Path.{refl}
use Rattle.checking.proofs.ProceduresLaws.{window_broken, window_differs, window_ends}
use Rattle.checking.proofs.procedures.window_ok.Goals as goal

pub goals-requires : goal.goals-requires
goals-requires c = record {
  formed = c.requires.formed;
  stands = rw c.word_at.ensures c.requires.stands;
}

pub returns-in-None : goal.returns-in-None
returns-in-None c = window_broken _ _ _ c.set_at-kept.ensures c.set_at.ensures c.union.ensures c.set_at-2.ensures _ refl refl c.word_at.ensures _ _ c.in-None.ensures refl

pub returns-then-not-same : goal.returns-then-not-same
returns-then-not-same c = window_differs _ _ _ c.set_at-kept.ensures c.set_at.ensures c.union.ensures c.set_at-2.ensures _ refl refl c.word_at.ensures _ _ c.in-Some.ensures refl c.set_at-in-Some.ensures c.union-in-Some.ensures refl c.same.ensures c.if-not-same.true

pub returns-else-not-same : goal.returns-else-not-same
returns-else-not-same c = window_ends _ _ _ c.set_at-kept.ensures c.set_at.ensures c.union.ensures c.set_at-2.ensures _ refl refl c.word_at.ensures _ _ c.in-Some.ensures refl c.set_at-in-Some.ensures c.union-in-Some.ensures refl c.same.ensures c.if-not-same.false c.set_at-in-Some-2.ensures refl c.is_subset.ensures
