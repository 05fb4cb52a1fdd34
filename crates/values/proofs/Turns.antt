-- The procedures in turn, by their numbers, and number 4 of them all.
use Prim.Native.Nat.{ℕ, zero, suc, ◌+◌, ◌≤◌, ◌<◌}
use native.Mathlib.Omega.{arith}
use native.Mathlib.Numerals.{add-one}
use mathlib.Core.Path.{◌≡◌, refl, sym, ap, ◌∙◌}
use mathlib.Core.Bool.{Bool, true, false}
use mathlib.Core.List.{List, ◌∷◌, []}
use lib.ListN.{length, drop}
use Rattle.sets.specs.Tests.{◌&◌, and_true, true_and}
use Rattle.language.specs.Lists.{all, nth, is_none}
use Rattle.language.specs.Program.{Procedure, Program, procedure_at, parameters_from, parameters_of}
use Rattle.language.specs.Values.{procedure_values, values_ok}
use Rattle.language.specs.Answers.{program}
use Rattle.chains.specs.Formed.{variables_at}
use Rattle.values.proofs.Entry.{VariablesAt}
use Rattle.language.specs.Typing.{procedure_ok, typing_ok}
use Rattle.values.proofs.Typed.{TypedGoals, typed_all, typed_head}

-- ---- the elements of a list
module _ {A : Type 0} (d : A) (p : A → Bool) where
  from_here : (xs : List A) (q : ℕ) → q < length xs → all p (drop q xs) ≡ p (nth d xs q) & all p (drop (suc q) xs)
  unfolding all nth
  from_here [] q h = absurd (omega arith)
  from_here (x ∷ xs) zero h = refl
  from_here (x ∷ xs) (suc q) h = from_here xs q (omega arith)

  all_nth : (xs : List A) → all p xs ≡ true → (q : ℕ) → q < length xs → p (nth d xs q) ≡ true
  unfolding all nth
  all_nth [] e q h = absurd (omega arith)
  all_nth (x ∷ xs) e zero h = (and_true e).0
  all_nth (x ∷ xs) e (suc q) h = all_nth xs (and_true e).1 q (omega arith)

  from_past : (xs : List A) (q : ℕ) → length xs ≤ q → all p (drop q xs) ≡ true
  unfolding all
  from_past [] zero h = refl
  from_past [] (suc q) h = refl
  from_past (x ∷ xs) zero h = absurd (omega arith)
  from_past (x ∷ xs) (suc q) h = from_past xs q (omega arith)

-- ---- a test of each procedure: those before number q passed
module _ (P : Program) (passes : Procedure → Bool) where
  pub record TestTurn (q : ℕ) : Type 0 where
    pub rest : all passes (drop q P.procedures) ≡ all passes P.procedures

  pub turn_first : TestTurn 0
  turn_first = record { rest = refl }

  module _ {q : ℕ} (h : TestTurn q) where
    module _ (l : q < length P.procedures) {b : Bool} (m : b ≡ passes (procedure_at P q)) where
      turn_is : b & all passes (drop (suc q) P.procedures) ≡ all passes P.procedures
      unfolding procedure_at
      turn_is = rw m (sym (from_here _ passes P.procedures q l) ∙ h.rest)

      pub turn_stop : b ≡ false → false ≡ all passes P.procedures
      unfolding ◌&◌
      turn_stop e = rw e at turn_is

      pub turn_next : b ≡ true → TestTurn (q + 1)
      unfolding ◌&◌
      turn_next e = record { rest = rw (add-one q) (rw e at turn_is) }

    pub turn_last : length P.procedures ≤ q → true ≡ all passes P.procedures
    turn_last l = sym (from_past (procedure_at P 0) passes P.procedures q l) ∙ h.rest

-- each passed number 3
pub typed_at : (P : Program) → typing_ok P ≡ true → (q : ℕ) → q < length P.procedures → TypedGoals P (procedure_at P q).body
unfolding all procedure_at
typed_at P T q l = (typed_head {ps = []} (record { ok = true_and (all_nth _ (procedure_ok P) P.procedures (typed_all P T).ok q l) refl }) refl).goals

-- ---- the entry, which has no in or out variable, and every procedure
module _ (f : List ℕ) {v : ℕ} (D : VariablesAt f 0 v) {b : Bool} (k : b ≡ is_none (parameters_from 1 (variables_at f v))) where
  entry_is : b & all (procedure_values (program f)) (program f).procedures ≡ values_ok (program f)
  unfolding values_ok parameters_of
  entry_is = rw (k, ap (λ vs. is_none (parameters_from 1 vs)) D.view) refl

  pub entry_stop : b ≡ false → false ≡ values_ok (program f)
  unfolding ◌&◌
  entry_stop e = rw e at entry_is

  pub entry_goes : {r : Bool} → b ≡ true → r ≡ all (procedure_values (program f)) (program f).procedures → r ≡ values_ok (program f)
  unfolding ◌&◌
  entry_goes e m = m ∙ (rw e at entry_is)
