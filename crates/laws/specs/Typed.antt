-- The parts of goals that pass number 3, and the procedures of a program that does.
use Prim.Native.Nat.{ℕ, suc, ◌≤◌}
use Rattle.std.specs.Prelude.{true, ◌≡◌, refl, length}
use mathlib.Core.List.{List, [], ◌∷◌}
use Rattle.sets.specs.Tests.{and_true, clash}
use Rattle.language.specs.Format.{max_procedures}
use Rattle.language.specs.Program.{Four, Functor, Goals, ◌then◌, Goal, switch, Arms, arm, Signature, Program}
use Rattle.language.specs.Typing.{arguments_ok, goals_ok, goal_ok, arms_ok, types_ok, typing_ok}
use Rattle.laws.specs.Numbers.{among_in}

-- arms that pass for the functors from some number on
pub record TypedArms (P : Program) (S : Signature) (cs : Arms) : Type 0 where
  pub functors : List Functor
  pub number : ℕ
  pub ok : arms_ok P S cs functors number ≡ true

-- an arm's arguments and goals, and the arms behind it
pub record TypedArm (P : Program) (S : Signature) (ys : Four) (gs : Goals) (cs : Arms) : Type 0 where
  pub functor : Functor
  pub arguments : arguments_ok S functor ys ≡ true
  pub goals : goals_ok P S gs ≡ true
  pub rest : TypedArms P S cs

module _ (P : Program) (S : Signature) where
  pub typed_goal : {gs hs : Goals} {g : Goal} → gs ≡ g then hs → goals_ok P S gs ≡ true → (goal_ok P S g ≡ true) × (goals_ok P S hs ≡ true)
  unfolding goals_ok
  typed_goal e h = and_true (rw e at h)

  pub typed_arms : {g : Goal} {x : ℕ} {cs : Arms} → g ≡ switch x cs → goal_ok P S g ≡ true → TypedArms P S cs
  unfolding goal_ok
  typed_arms e h = record { functors = _; number = 0; ok = (and_true (and_true (rw e at h)).1).1 }

  arm_in : (k : ℕ) (ys : Four) (gs : Goals) (cs : Arms) (fs : List Functor) (n : ℕ) → arms_ok P S (arm k ys gs cs) fs n ≡ true → TypedArm P S ys gs cs
  unfolding arms_ok
  arm_in k ys gs cs [] n e = absurd (clash e refl)
  arm_in k ys gs cs (g ∷ fs) n e =
      let p = and_true (and_true e).1 in
      let q = and_true p.1 in
      record { functor = g; arguments = p.0; goals = q.0; rest = record { functors = fs; number = suc n; ok = q.1 } }

  pub typed_arm : {bs cs : Arms} {k : ℕ} {ys : Four} {gs : Goals} → bs ≡ arm k ys gs cs → TypedArms P S bs → TypedArm P S ys gs cs
  typed_arm {k = k} {ys = ys} e h = arm_in k ys _ _ h.functors h.number (rw e at h.ok)

-- ---- a program that passes
module _ (P : Program) (ok : typing_ok P ≡ true) where
  pub types_typed : types_ok P.types ≡ true
  unfolding typing_ok
  types_typed = (and_true ok).0

  pub procedures_count : (1 ≤ length P.procedures) × (length P.procedures ≤ max_procedures)
  unfolding typing_ok
  procedures_count = among_in max_procedures (length P.procedures) (and_true (and_true ok).1).0
