-- Demand 3 about the runner's code. `run` promises `RanAs`: from that promise and the theorem about the definitions, what holds of every accepted file's run in
-- whatever memory and with whatever number of steps lent. With memory for all that it makes, nothing but its end, the steps lent or a sum out of range stops it.
use Rattle.std.specs.Prelude.{ℕ, ◌-◌, ◌≤◌, true, false, List, [], map, ◌≡◌, take, Ok}
use Rattle.std.proofs.Common.{sym, ◌∙◌, to_z}
use Rattle.std.specs.Int.{w32}
use Rattle.language.specs.declared.Stop.TheVariants.{Steps, Sums}
use Rattle.language.specs.declared.Ending.TheVariants.{Finished, Stopped}
use Rattle.language.specs.Frames.{stays_at_sum}
use Rattle.language.specs.PlainRun.{stripped, plain_steps}
use Rattle.language.specs.AcceptedRun.{frame_of, steps}
use Rattle.language.specs.Answers.{program, checked}
use Rattle.lockstep.specs.Counted.{spent}
use Rattle.soundness.proofs.Lent.{lent_run}
use Rattle.word_machine.specs.Machine.{lent_words}
use Rattle.machine.specs.declared.Outcome.{Outcome}
use Rattle.word_machine.specs.Printing.{front_numbers}
use Rattle.machine.specs.Joining.{RanAs, as_printed}

-- The file f with l steps lent; r is the answer, px the words lent for printed numbers afterwards.
pub record AsPlain (f : List ℕ) (l : ℕ) (r : Outcome) (px : List ℕ) : Type 0 where
  pub within : r.steps ≤ l
  -- "the numbers printed are those of the plain run .. after as many steps less those spent on creates and removes"
  pub prints : map (to_z w32) (take r.printed px) ≡ (plain_steps (stripped (program f)) (r.steps - spent (program f) r.steps)).printed
  -- finished: the run and the plain run have ended there, and "all are removed once the entry has returned"
  pub over : r.ending ≡ Finished → (steps (program f) r.steps).frames ≡ []
  pub plain_over : r.ending ≡ Finished → (plain_steps (stripped (program f)) (r.steps - spent (program f) r.steps)).frames ≡ []
  pub clean : r.ending ≡ Finished → (k : ℕ) → (steps (program f) r.steps).memory.alive k ≡ false
  -- steps spent: all that were lent, and the run has not ended
  pub all : r.ending ≡ Stopped Steps → r.steps ≡ l
  pub still : r.ending ≡ Stopped Steps → (steps (program f) l).frames ≡ [] → ⊥
  -- stopped with 15: both runs stay there at a sum out of range
  pub at_sum : r.ending ≡ Stopped Sums → stays_at_sum (map frame_of (steps (program f) r.steps).frames) ≡ true
  pub plain_at_sum : r.ending ≡ Stopped Sums → stays_at_sum (plain_steps (stripped (program f)) (r.steps - spent (program f) r.steps)).frames ≡ true

pub as_plain : {f m rs fw ps px : List ℕ} {l : ℕ} {r : Outcome} → RanAs f m rs fw ps l r px → checked f ≡ Ok tt → AsPlain f l r px
unfolding lent_words
as_plain {f} {m} {rs} {fw} {ps} {px} {l} {r} R a =
    let L = lent_run f a (lent_words m rs fw ps l) in
    record {
      within = rw R.steps L.within;
      prints = rw R.steps (front_numbers (as_printed f m rs fw ps l R) ∙ L.plain_prints);
      over = λ e. rw R.steps (L.over (sym R.ending ∙ e));
      plain_over = λ e. rw R.steps (L.plain_over (sym R.ending ∙ e));
      clean = λ e. rw R.steps (L.clean (sym R.ending ∙ e));
      all = λ e. R.steps ∙ L.all (sym R.ending ∙ e);
      still = λ e. L.still (sym R.ending ∙ e);
      at_sum = λ e. rw R.steps (L.at_sum (sym R.ending ∙ e));
      plain_at_sum = λ e. rw R.steps (L.plain_at_sum (sym R.ending ∙ e));
    }
