use Rattle.profiling.specs.Turning.{step_is}
use Rattle.profiling.specs.Inward.{took_on, took_last, took_fails, took_lacks}
use Rattle.profiling.proofs.trying.after.Goals as goal

pub opened-requires : goal.opened-requires
opened-requires c = let r = c.requires.ready_in.ready in (r.few.0, r.few.1, r.more)

pub returns-then-goal-ne0 : goal.returns-then-goal-ne0
returns-then-goal-ne0 c = λ l m rs fw ps before K. took_on K c.requires.ready_in.some _ _ _ (step_is _ _ _ c.in-Ok-On.is (rw c.in-Ok-On.is at c.in-Ok-On.field-0-is)) c.if-goal-ne0.true _ c.opened.ensures

pub leave-requires : goal.leave-requires
leave-requires c = record { formed = c.requires.formed; ready_in = c.requires.ready_in }

pub go_back-requires : goal.go_back-requires
go_back-requires c = record { formed = c.requires.formed; ready_in = c.requires.ready_in }

pub returns-else-goal-ne0 : goal.returns-else-goal-ne0
returns-else-goal-ne0 c = λ l m rs fw ps before K. took_last K c.requires.ready_in.some _ _ _ (step_is _ _ _ c.in-Ok-On.is (rw c.in-Ok-On.is at c.in-Ok-On.field-0-is)) c.if-goal-ne0.false _ _ _ _ c.leave.ensures c.leave.auto.cells c.leave.auto.regions c.leave.auto.frames

pub returns-in-Ok-Fails : goal.returns-in-Ok-Fails
returns-in-Ok-Fails c = λ l m rs fw ps before K. took_fails K c.requires.ready_in.some (step_is _ _ _ c.in-Ok-Fails.is (rw c.in-Ok-Fails.is at c.in-Ok-Fails.field-0-is)) _ _ _ _ c.go_back.ensures c.go_back.auto.cells c.go_back.auto.regions c.go_back.auto.frames

pub returns-in-Err : goal.returns-in-Err
returns-in-Err c = λ l m rs fw ps before K. took_lacks K c.requires.ready_in.some _ c.in-Err.is _ _ _ _ _
