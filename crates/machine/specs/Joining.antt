-- What a run in lent words promises, in document 01's terms: for every accepted file, with tables that are right, it ends as the definition's run does,
-- after as many steps, with the same numbers printed; the words behind those are as they were.
use Rattle.std.specs.Prelude.{ℕ, ◌≤◌, ◌≡◌, List, map, length, Result, Ok, Err}
use native.Mathlib.Omega.{arith}
use Rattle.std.proofs.Math.Path.{refl}
use Rattle.std.proofs.Common.{ap, ◌∙◌, to_z}
use Rattle.std.specs.Int.{w32}
use Rattle.language.specs.declared.Refusal.{Refusal}
use Rattle.language.specs.Numbers.{residue}
use Rattle.language.specs.Machine.{print_places}
use Rattle.language.specs.Answers.{ending_number, checked, run_for, ran}
use Rattle.word_machine.specs.Tables.{Tables, Tabled}
use Rattle.word_machine.specs.Machine.{lent_words, word_run}
use Rattle.word_machine.specs.Printing.{Printed}
use Rattle.word_machine.proofs.Theorem.{joined, joined_filled}
use Rattle.machine.specs.declared.Outcome.{Outcome}
use Rattle.machine.specs.Runs.{Ran}

-- the answer r to the bytes f, where m, rs, fw and ps are the words lent for cells, regions, frames and printed numbers, and l the steps; px is ps afterwards
pub record RanAs (f m rs fw ps : List ℕ) (l : ℕ) (r : Outcome) (px : List ℕ) : Type 0 where
  pub ending : r.ending ≡ (ran f (lent_words m rs fw ps l)).ending
  pub number : ending_number r.ending ≡ ending_number (ran f (lent_words m rs fw ps l)).ending
  pub steps : r.steps ≡ (ran f (lent_words m rs fw ps l)).steps
  pub printed : r.printed ≡ length (ran f (lent_words m rs fw ps l)).printed
  pub places : px ≡ print_places (ran f (lent_words m rs fw ps l)) ps

pub ran_as_defined : (f : List ℕ) → checked f ≡ Ok tt → (T : Tables) → Tabled f T → (m rs fw ps : List ℕ) (l : ℕ) (r : Outcome) (m₁ rs₁ fw₁ ps₁ : List ℕ)
    → Ran (word_run f T m rs fw ps l) r m₁ rs₁ fw₁ ps₁ → RanAs f m rs fw ps l r ps₁
unfolding print_places
ran_as_defined f a T t m rs fw ps l r m₁ rs₁ fw₁ ps₁ R =
    let g = joined f a T t m rs fw ps l in
    let e = R.ending ∙ g.ending in
    record { ending = e; number = ap ending_number e; steps = R.steps ∙ g.steps; printed = R.printed ∙ g.printed.count; places = R.prints ∙ g.printed.places }

-- ---- the numbers printed fit the words lent for them, and each is read back from its word
module _ (f m rs fw ps : List ℕ) (l : ℕ) where
  fit_and_read : (v : Result Unit Refusal) → checked f ≡ v
      → (length (ran f (lent_words m rs fw ps l)).printed ≤ length ps)
      × (map (to_z w32) (map residue (ran f (lent_words m rs fw ps l)).printed) ≡ (ran f (lent_words m rs fw ps l)).printed)
  unfolding ran run_for
  fit_and_read (Err q) e = rw e (omega arith, refl)
  fit_and_read (Ok _) e = let g = (joined_filled f e m rs fw ps l).printed in (rw (← g.count) g.room, g.read)

  pub as_printed : {r : Outcome} {px : List ℕ} → RanAs f m rs fw ps l r px → Printed ps px r.printed (ran f (lent_words m rs fw ps l)).printed
  unfolding print_places
  as_printed h = let p = fit_and_read (checked f) refl in record { count = h.printed; room = rw h.printed p.0; places = h.places; read = p.1 }
