-- A test of every goal, procedure by procedure: by the procedures' numbers, and as a test of whole procedures such as the definitions have.
use Prim.Native.Nat.{ℕ, zero, suc, ◌+◌, ◌<◌}
use native.Mathlib.Omega.{arith}
use Rattle.std.specs.Prelude.{Bool, ◌≡◌, length}
use Rattle.std.proofs.Math.Bool.{true}
use mathlib.Core.List.{List, [], ◌∷◌}
use Rattle.std.proofs.Math.Path.{refl, ap, ap₂}
use Rattle.std.proofs.Common.{◌∙◌}
use Rattle.sets.specs.Tests.{◌&◌, and_true, true_and}
use Rattle.language.specs.Lists.{all, nth}
use Rattle.language.specs.Program.{done, Goal, Procedure, Program, procedure_at}
use Rattle.owners.specs.Everywhere.{all_goals, all_from, every_goal}

module _ (L : ℕ → Goal → Bool) (d : Procedure) where
  at_from : (ps : List Procedure) (b : ℕ) → ((q : ℕ) → q < length ps → all_goals (L (b + q)) (nth d ps q).body ≡ true) → all_from L b ps ≡ true
  unfolding all_from nth
  at_from [] b h = refl
  at_from (p ∷ ps) b h =
      let z : b + 0 ≡ b = omega arith in
      true_and (rw z at (h 0 (omega arith))) (at_from ps (suc b) (λ q l. later b q (h (suc q) (omega arith))))
    where
      later : (c r : ℕ) → all_goals (L (c + suc r)) (nth d ps r).body ≡ true → all_goals (L (suc c + r)) (nth d ps r).body ≡ true
      later c r e = let z : c + suc r ≡ suc c + r = omega arith in rw z at e

  from_at : (ps : List Procedure) (b : ℕ) → all_from L b ps ≡ true → (q : ℕ) → q < length ps → all_goals (L (b + q)) (nth d ps q).body ≡ true
  unfolding all_from nth
  from_at [] b e q l = absurd (omega arith)
  from_at (p ∷ ps) b e zero l = let z : b + 0 ≡ b = omega arith in rw z (and_true e).0
  from_at (p ∷ ps) b e (suc q) l = let z : b + suc q ≡ suc b + q = omega arith in rw z (from_at ps (suc b) (and_true e).1 q (omega arith))

  same_from : (t : Procedure → Bool) (ps : List Procedure) (b : ℕ) → ((q : ℕ) → q < length ps → t (nth d ps q) ≡ all_goals (L (b + q)) (nth d ps q).body)
      → all t ps ≡ all_from L b ps
  unfolding all_from all nth
  same_from t [] b h = refl
  same_from t (p ∷ ps) b h =
      let z : b + 0 ≡ b = omega arith in
      ap₂ ◌&◌ (h 0 (omega arith) ∙ ap (λ q. all_goals (L q) p.body) z) (same_from t ps (suc b) (λ q l. h (suc q) (omega arith) ∙ later b q))
    where
      later : (c r : ℕ) → all_goals (L (c + suc r)) (nth d ps r).body ≡ all_goals (L (suc c + r)) (nth d ps r).body
      later c r = let z : c + suc r ≡ suc c + r = omega arith in rw z

-- what `procedure_at` gives where there is none
abbrev none : Procedure
none = record { signature = record { variables = []; regions = [] }; body = done }

module _ (L : ℕ → Goal → Bool) (P : Program) where
  -- every goal passes if those of each procedure do
  pub at_every : ((q : ℕ) → q < length P.procedures → all_goals (L q) (procedure_at P q).body ≡ true) → every_goal L P ≡ true
  unfolding every_goal procedure_at
  at_every h = at_from L none P.procedures 0 (λ q l. let z : 0 + q ≡ q = omega arith in rw z (h q l))

  -- .. and only then
  pub every_at : every_goal L P ≡ true → (q : ℕ) → q < length P.procedures → all_goals (L q) (procedure_at P q).body ≡ true
  unfolding every_goal procedure_at
  every_at e q l = let z : 0 + q ≡ q = omega arith in rw z at (from_at L none P.procedures 0 e q l)

  -- a test of whole procedures that is, of procedure q, the test of its goals
  pub every_same : (t : Procedure → Bool) → ((q : ℕ) → q < length P.procedures → t (procedure_at P q) ≡ all_goals (L q) (procedure_at P q).body)
      → all t P.procedures ≡ every_goal L P
  unfolding every_goal procedure_at
  every_same t h = same_from L none t P.procedures 0 (λ q l. let z : 0 + q ≡ q = omega arith in rw z (h q l))
