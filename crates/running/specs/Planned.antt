-- What a run of an accepted file rests on: tables that are right, and numbers and places that are those of words that are there.
use Rattle.std.specs.Prelude.{ℕ, ◌≡◌, List, length, replicate, Ok}
use Rattle.std.proofs.Common.{ap, ◌∙◌}
use Rattle.std.proofs.lemmas.List.{length-replicate}
use Rattle.language.specs.Answers.{checked}
use Rattle.word_machine.specs.Tables.{Tabled}
use Rattle.plans.specs.Plan.{tables_in, Narrow, Numbered}

pub blank_length : (n : ℕ) {t : List ℕ} → t ≡ replicate n 0 → length t ≡ n
blank_length n e = ap length e ∙ length-replicate {A = ℕ} n 0

pub record Planned (f plan images callees : List ℕ) : Type 0 where
  pub accepted : checked f ≡ Ok tt
  pub tabled : Tabled f (tables_in plan images callees)
  pub narrow : Narrow plan images
  pub numbered : Numbered f plan
