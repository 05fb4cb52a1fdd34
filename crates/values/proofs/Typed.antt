-- Number 3 says that every variable that a goal names is from 1 to max_variables, so that a set can hold it.
use Prim.Native.Nat.{ℕ, suc, ◌≤◌}
use native.Mathlib.Omega.{arith}
use mathlib.Core.Path.{◌≡◌, refl}
use mathlib.Core.Bool.{Bool, true, false}
use mathlib.Core.List.{List, ◌∷◌, []}
use lib.Dec.{eqb}
use lib.ListN.{length}
use borrow.Author.Tests.{leb-true}
use Rattle.sets.specs.Tests.{and_true, clash}
use Rattle.sets.specs.Members.{cons_if}
use Rattle.language.specs.Lists.{all, among}
use Rattle.language.specs.Program.{Four, arguments_of, Functor, Parameter, Step, literal, sum, assign, construct, call, print, create, remove, test, Goals, ◌then◌, Goal, step, switch, if_less, try, Arms, arm, Signature, Procedure, Program, parameters_of, signature_of, arguments_in, out_mode}
use Rattle.language.specs.Typing.{is_variable, has_type, have_types, arguments_ok, signature_ok, step_ok, goals_ok, goal_ok, arms_ok, procedure_ok, typing_ok}
use Rattle.language.specs.Values.{access, accessing}
use Rattle.language.specs.Format.{max_variables}
use Rattle.accesses.specs.Ranged.{InRange, Ranged}

-- goals of a procedure that passed
pub record TypedGoals (P : Program) (gs : Goals) : Type 0 where
  pub signature : Signature
  pub few : length signature.variables ≤ max_variables
  pub ok : goals_ok P signature gs ≡ true

pub record ArmsTyped (P : Program) (cs : Arms) : Type 0 where
  pub signature : Signature
  pub few : length signature.variables ≤ max_variables
  pub functors : List Functor
  pub number : ℕ
  pub ok : arms_ok P signature cs functors number ≡ true

-- ---- variables are from 1 to max_variables
module _ (S : Signature) (few : length S.variables ≤ max_variables) where
  variable_range : (x : ℕ) → is_variable S x ≡ true → InRange x
  unfolding is_variable among
  variable_range x e =
      let p = and_true e in
      let l = leb-true 1 x p.0 in
      let m = leb-true x (length S.variables) p.1 in
      (omega arith, omega arith)

  type_range : (t x : ℕ) → has_type S t x ≡ true → InRange x
  unfolding has_type
  type_range t x e = variable_range x (and_true e).0

  types_range : (ts xs : List ℕ) → have_types S ts xs ≡ true → Ranged xs
  unfolding have_types
  types_range [] [] e = tt
  types_range [] (x ∷ xs) e = absurd (clash e refl)
  types_range (t ∷ ts) [] e = absurd (clash e refl)
  types_range (t ∷ ts) (x ∷ xs) e = let p = and_true e in (type_range t x p.0, types_range ts xs p.1)

  passed_range : (m : ℕ) (ps : List Parameter) (ys : List ℕ) → Ranged ys → Ranged (arguments_in m ps ys)
  unfolding arguments_in cons_if
  passed_range m [] ys r = tt
  passed_range m (p ∷ ps) [] r = tt
  passed_range m (p ∷ ps) (y ∷ ys) r = if_range (eqb p.mode m) y (arguments_in m ps ys) r.0 (passed_range m ps ys r.1)
    where
      if_range : (b : Bool) (y : ℕ) (ys : List ℕ) → InRange y → Ranged ys → Ranged (cons_if b y ys)
      if_range true y ys q r = (q, r)
      if_range false y ys q r = r

  -- what a step gives
  given_range : (P : Program) (g : Step) → step_ok P S g ≡ true → Ranged (access P g).given
  unfolding step_ok access accessing
  given_range P (literal x v) e = (type_range 0 x e, tt)
  given_range P (sum x o y z) e = (type_range 0 x (and_true e).0, tt)
  given_range P (assign x y) e = (variable_range x (and_true e).0, tt)
  given_range P (construct x f ys) e = (variable_range x (and_true e).0, tt)
  given_range P (call q ys) e = passed_range out_mode (parameters_of (signature_of P q)) ys (types_range _ ys (and_true e).1)
  given_range P (print y) e = tt
  given_range P (create r) e = tt
  given_range P (remove r) e = tt
  given_range P (test y z) e = tt

-- ---- the parts of goals
module _ {P : Program} where
  pub typed_next : {gs hs : Goals} {g : Goal} → TypedGoals P gs → gs ≡ g then hs → TypedGoals P hs
  unfolding goals_ok
  typed_next h e = record { signature = h.signature; few = h.few; ok = (and_true (rw e at h.ok)).1 }

  pub typed_step : {gs hs : Goals} {g : Step} → TypedGoals P gs → gs ≡ step g then hs → Ranged (access P g).given
  unfolding goals_ok goal_ok
  typed_step {g = g} h e = given_range h.signature h.few P g (and_true (rw e at h.ok)).0

  pub typed_arms : {gs hs : Goals} {x : ℕ} {cs : Arms} → TypedGoals P gs → gs ≡ switch x cs then hs → ArmsTyped P cs
  unfolding goals_ok goal_ok
  typed_arms h e =
      record { signature = h.signature; few = h.few; functors = _; number = 0; ok = (and_true (and_true (and_true (rw e at h.ok)).0).1).1 }

  pub typed_then : {gs hs bs cs : Goals} {y z : ℕ} → TypedGoals P gs → gs ≡ if_less y z bs cs then hs → TypedGoals P bs
  unfolding goals_ok goal_ok
  typed_then h e = record { signature = h.signature; few = h.few; ok = (and_true (and_true (and_true (and_true (rw e at h.ok)).0).1).1).0 }

  pub typed_else : {gs hs bs cs : Goals} {y z : ℕ} → TypedGoals P gs → gs ≡ if_less y z bs cs then hs → TypedGoals P cs
  unfolding goals_ok goal_ok
  typed_else h e = record { signature = h.signature; few = h.few; ok = (and_true (and_true (and_true (and_true (rw e at h.ok)).0).1).1).1 }

  pub typed_condition : {gs hs bs cs ds : Goals} → TypedGoals P gs → gs ≡ try ds bs cs then hs → TypedGoals P ds
  unfolding goals_ok goal_ok
  typed_condition h e = record { signature = h.signature; few = h.few; ok = (and_true (and_true (rw e at h.ok)).0).0 }

  pub typed_try_then : {gs hs bs cs ds : Goals} → TypedGoals P gs → gs ≡ try ds bs cs then hs → TypedGoals P bs
  unfolding goals_ok goal_ok
  typed_try_then h e = record { signature = h.signature; few = h.few; ok = (and_true (and_true (and_true (rw e at h.ok)).0).1).0 }

  pub typed_try_else : {gs hs bs cs ds : Goals} → TypedGoals P gs → gs ≡ try ds bs cs then hs → TypedGoals P cs
  unfolding goals_ok goal_ok
  typed_try_else h e = record { signature = h.signature; few = h.few; ok = (and_true (and_true (and_true (rw e at h.ok)).0).1).1 }

-- an arm's arguments, its goals, and the arms behind it
pub record ArmTyped (P : Program) (ys : Four) (gs : Goals) (cs : Arms) : Type 0 where
  pub arguments : Ranged (arguments_of ys)
  pub goals : TypedGoals P gs
  pub rest : ArmsTyped P cs

typed_arm_in : {P : Program} (f : ℕ) {ys : Four} {gs : Goals} {cs : Arms} (S : Signature) → length S.variables ≤ max_variables → (fs : List Functor) (n : ℕ)
    → arms_ok P S (arm f ys gs cs) fs n ≡ true → ArmTyped P ys gs cs
unfolding arms_ok arguments_ok
typed_arm_in f S l [] n e = absurd (clash e refl)
typed_arm_in {P} f {ys} {gs} {cs} S l (g ∷ fs) n e =
    let p = and_true (and_true e).1 in
    let q = and_true p.1 in
    record {
      arguments = types_range S l _ (arguments_of ys) p.0;
      goals = record { signature = S; few = l; ok = q.0 };
      rest = record { signature = S; few = l; functors = fs; number = suc n; ok = q.1 };
    }

pub typed_arm : {P : Program} {bs cs : Arms} {f : ℕ} {ys : Four} {gs : Goals} → ArmsTyped P bs → bs ≡ arm f ys gs cs → ArmTyped P ys gs cs
typed_arm {f = f} h e = typed_arm_in f h.signature h.few h.functors h.number (rw e at h.ok)

-- ---- the procedures of a program that passed
pub record TypedAll (P : Program) (ps : List Procedure) : Type 0 where
  pub ok : all (procedure_ok P) ps ≡ true

pub typed_all : (P : Program) → typing_ok P ≡ true → TypedAll P P.procedures
unfolding typing_ok
typed_all P e = record { ok = (and_true (and_true e).1).1 }

pub record TypedHead (P : Program) (p : Procedure) (ps : List Procedure) : Type 0 where
  pub goals : TypedGoals P p.body
  pub rest : TypedAll P ps

pub typed_head : {P : Program} {qs ps : List Procedure} {p : Procedure} → TypedAll P qs → qs ≡ p ∷ ps → TypedHead P p ps
unfolding all procedure_ok signature_ok
typed_head {P} {qs} {ps} {p} h e =
    let q = and_true (rw e at h.ok) in
    let r = and_true q.0 in
    record {
      goals = record { signature = p.signature; few = leb-true (length p.signature.variables) max_variables (and_true r.0).0; ok = r.1 };
      rest = record { ok = q.1 };
    }
