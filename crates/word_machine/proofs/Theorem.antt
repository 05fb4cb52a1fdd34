-- The joining theorem, proved: `joined` is the claim of Statement.
use Rattle.std.specs.Prelude.{ℕ, ◌≡◌, Bool, List, ltb, Ok}
use Rattle.std.proofs.Math.Path.{refl}
use Rattle.std.proofs.Math.Bool.{true, false}
use Rattle.std.proofs.Common.{ltb-true}
use Rattle.language.specs.Conditions.{conditions_ok}
use Rattle.language.specs.AcceptedRun.{start, state}
use Rattle.language.specs.Machine.{room_in, run}
use Rattle.language.specs.Machine as D
use Rattle.language.specs.Answers.{program, checker_stages, checked, run_for, ran}
use Rattle.laws.specs.Stages.{lowest_passed, passed_reached}
use Rattle.chains.specs.Formed.{Formed}
use Rattle.safety.specs.Premises as Premises
use Rattle.word_machine.specs.Tables.{Tables, Tabled}
use Rattle.word_machine.specs.Machine.{ended_with, no_frame, run_from, lent_words, word_run}
use Rattle.word_machine.specs.Printing.{none_printed}
use Rattle.word_machine.specs.Statement.{Gives, JoinedRuns}
use Rattle.word_machine.proofs.WholeRun.{start_gives}
use Rattle.word_machine.specs.Filling.{tables_of}
use Rattle.word_machine.specs.Tabling.{tabled}

-- ---- what the checker has seen
pub accepted_program : (f : List ℕ) → checked f ≡ Ok tt → Premises.Accepted (program f)
unfolding checked checker_stages
accepted_program f e =
    let p = passed_reached f _ (lowest_passed (checker_stages f) e) in
    record { typing = p.0.typing; values = p.0.values; regions = p.0.regions; classes = p.2.0; rules = p.2.1.0 }

pub accepted_formed : (f : List ℕ) → checked f ≡ Ok tt → Formed f
unfolding checked checker_stages
accepted_formed f e = let p = passed_reached f _ (lowest_passed (checker_stages f) e) in record { header = p.0.header; form = p.0.form }

pub accepted_conditions : (f : List ℕ) → checked f ≡ Ok tt → conditions_ok (program f) ≡ true
unfolding checked checker_stages
accepted_conditions f e = (passed_reached f _ (lowest_passed (checker_stages f) e)).0.conditions

module _ (f : List ℕ) (e : checked f ≡ Ok tt) (T : Tables) (B : Tabled f T) (m rs fw ps : List ℕ) (l : ℕ) where
  -- with or without a frame for the entry
  from_gives : (b : Bool) → ltb 0 (room_in (lent_words m rs fw ps l)).frames ≡ b
      → Gives ps (run_from f T b (room_in (lent_words m rs fw ps l)) l m rs fw ps) (D.run_from b (program f) (room_in (lent_words m rs fw ps l)) l)
  unfolding run_from D.run_from D.ended_with ended_with no_frame start state
  from_gives true q =
      start_gives B (accepted_program f e) (accepted_formed f e) (room_in (lent_words m rs fw ps l)) ps m rs fw l refl (ltb-true 0 _ q) (accepted_conditions f e)
  from_gives false q = record {
    ending = refl;
    steps = refl;
    printed = none_printed ps;
  }

pub joined : JoinedRuns
unfolding word_run run ran run_for lent_words
joined f e T B m rs fw ps l = rw e (from_gives f e T B m rs fw ps l _ refl)

-- the tables that the passes of Filling give are such tables
pub joined_filled : (f : List ℕ) → checked f ≡ Ok tt → (m rs fw ps : List ℕ) (l : ℕ)
    → Gives ps (word_run f (tables_of f) m rs fw ps l) (ran f (lent_words m rs fw ps l))
joined_filled f e = joined f e (tables_of f) (tabled (accepted_formed f e) (accepted_program f e).typing)
