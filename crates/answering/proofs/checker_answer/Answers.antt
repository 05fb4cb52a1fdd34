-- The line is that of what `check` answers.
use Rattle.std.specs.Prelude.{Result}
use Prim.Native.Nat.{ℕ}
use mathlib.Core.List.{List}
use mathlib.Core.Path.{◌≡◌, subst}
use Rattle.language.specs.declared.Refusal.{Refusal}
use Rattle.language.specs.Output.{checker_output}
use Rattle.lines.specs.Put.{Front}
use Rattle.answering.proofs.checker_answer.Goals as goal

of_answer : {b m : List ℕ} {n : ℕ} (v w : Result Unit Refusal) → v ≡ w → Front (checker_output v) b m n → Front (checker_output w) b m n
of_answer {b} {m} {n} v w e p = subst (λ (a : Result Unit Refusal). Front (checker_output a) b m n) e p

pub returns : goal.returns
returns c = of_answer _ _ c.check.ensures.value c.checker_output.ensures
