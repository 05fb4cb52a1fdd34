-- What the invariant of the accepted file's run says of the newest frame's next goal: it is allowed, sums, ifs and prints read numbers, and a
-- switch finds a cell or a constant and its arm.
use Rattle.std.specs.Prelude.{ℕ, suc, ◌≡◌, true, ℤ, length}
use Rattle.std.proofs.Common.{arith, sym, ap, ◌∙◌, inl, inr, leb-true}
use Rattle.std.proofs.Math.Path.{refl}
use mathlib.Core.List.{List, [], ◌∷◌, map}
use Rattle.sets.specs.Tests.{and_true}
use Rattle.sets.specs.Sets.{member, subset_in}
use Rattle.sets.specs.Members.{in_list, set_of, nil_in, cons_in, cons_here, cons_later}
use Rattle.sets.specs.declared.Set.{Set}
use Rattle.language.specs.Program.{Functor, Step, sum, print, test, Goals, ◌then◌, Goal, step, switch, if_less, Arms, Signature, Program, type_of, region_of, signature_of, functors_of, functor_at}
use Rattle.language.specs.Typing.{is_variable, has_type, functors_for, goal_ok, step_ok}
use Rattle.language.specs.Values.{reads, access, accessing}
use Rattle.language.specs.Regions.{goal_regions}
use Rattle.language.specs.Checking.{check_goal}
use Rattle.language.specs.Frames.{Value, numeral, Cell, picked, pick, cell_in}
use Rattle.language.specs.AcceptedRun.{RegionFrame, RegionCell, Memory, cell_of, allowed}
use Rattle.region_graph.specs.Typed.{functor_typed}
use Rattle.safety.specs.Walks.{require_in}
use Rattle.safety.specs.Doing.{NextGoal, next_in_law, ArmTaken, arms_in_law}
use Rattle.safety.specs.Signatures.{laws_of}
use Rattle.safety.specs.Premises.{Accepted, fit}
use Rattle.safety.specs.PlacedValues.{PlacedValue, is_number, is_constant, is_cell, PlacedAll, placed_none, placed_more, Lies, cell_found}
use Rattle.safety.specs.Variables.{AllVariables, type_in, types_variables, types_length, read_sound_law}
use Rattle.safety.specs.Owners.{Owner}
use Rattle.safety.specs.Invariant.{Now, Inv, inv}
use Rattle.safety.proofs.Quiet.{obeyed}
use Rattle.safety.proofs.Allowed.{allowed_ok, cell_of_law}

abbrev pub Number : Value → Type 0
Number v = (z : ℤ) × (v ≡ numeral z)

-- a switch on X finds a cell or a constant, and the arm of its functor has as many arguments
pub record ArmFits (S : Signature) (cells : List RegionCell) (v : Value) (cs : Arms) : Type 0 where
  pub no_number : (z : ℤ) → v ≡ numeral z → ⊥
  pub cell : Cell
  pub arguments : List ℕ
  pub goals : Goals
  pub is : cell_in (map cell_of cells) v ≡ cell
  pub picks : pick cs cell.functor ≡ picked arguments goals
  pub count : length cell.contents ≡ length arguments
  pub variables : AllVariables S arguments

module _ {T : List (List Functor)} {S : Signature} {ρ : ℕ → ℕ} {H : List RegionCell} where
  placed_number : {t r : ℕ} {v : Value} → PlacedValue T S ρ H t r v → t ≡ 0 → Number v
  placed_number (is_number {z = z}) e = (z, refl)
  placed_number (is_constant k l n) e = absurd (omega (arith, functor_typed T _ k l))
  placed_number (is_cell f i l c s p) e = absurd (omega (arith, functor_typed T _ f s))

  placed_length : {ts rs : List ℕ} {vs : List Value} → PlacedAll T S ρ H ts rs vs → length vs ≡ length ts
  placed_length placed_none = refl
  placed_length (placed_more p q) = ap suc (placed_length q)

  -- what lies somewhere is no number
  no_number : {t r : ℕ} {v : Value} → Lies T S ρ H t r v → (z : ℤ) → v ≡ numeral z → ⊥
  no_number c z e = elim c.kind [
    | inl k ↦ let i = k.is in let x : ◌≡◌ {A = ℕ} 0 1 = cc in omega arith
    | inr k ↦ let i = k.0 in let x : ◌≡◌ {A = ℕ} 0 1 = cc in omega arith
  ]

module _ {P : Program} (A : Accepted P) (e : RegionFrame) (fs : List RegionFrame) (m : Memory) where
  abbrev S : Signature
  S = signature_of P e.frame.procedure

  module _ {h s : Set} {os : List Owner}
      (N : Now P e.frame.procedure e.frame.arguments e.stands e.frame.values fs m.cells m.made m.alive h s os) where
    -- a sound variable of type 0
    number_of : (y : ℕ) → has_type S 0 y ≡ true → member s y ≡ true → Number (e.frame.values y)
    number_of y t i = placed_number (N.vars.placed y i) (type_in S 0 y t).1

    -- the variables that a step reads are sound
    read_in_law : (g : Step) (ys : List ℕ) (rest : Goals) → NextGoal P S (step g) rest h s → reads P g ≡ set_of ys → AllVariables S ys → (y : ℕ) → in_list y ys ≡ true
        → member s y ≡ true
    unfolding check_goal
    read_in_law g ys rest X q a y i =
        subset_in X.counted s X.fewer y
        (read_sound_law (laws_of (fit A e.frame.procedure)) X.counted ys a (rw q at (obeyed P S g X.goes).reads_sound) y i)

    -- the cell or constant c that X has, and the arm t of its functor
    found_in : (x : ℕ) (cs : Arms) {h₁ s₁ t₁ : Set} → (c : Lies P.types S e.stands m.cells (type_of S x) (region_of S x) (e.frame.values x))
        → ArmTaken P S cs (region_of S x) (functor_at (functors_of P.types (type_of S x)) c.functor) c.functor h t₁ h₁ s₁
        → ArmFits S m.cells (e.frame.values x) cs
    found_in x cs c t = record {
      no_number = no_number c;
      cell = record { functor = c.functor; contents = c.contents };
      arguments = t.arguments;
      goals = t.goals;
      is = cell_found c;
      picks = t.picks;
      count = placed_length c.inside ∙ sym (types_length S _ t.arguments t.have);
      variables = types_variables S _ t.arguments t.have;
    }

    found : (x : ℕ) (cs : Arms) (rest : Goals) → NextGoal P S (switch x cs) rest h s → ArmFits S m.cells (e.frame.values x) cs
    unfolding goal_ok goal_regions check_goal functors_for
    found x cs rest X =
        let o = and_true (and_true X.typed).1 in
        let r = require_in X.goes in
        let c = cell_of_law A e fs m N x (leb-true 1 (type_of S x) o.0) (subset_in X.counted s X.fewer x r.0) in
        found_in x cs c
        (arms_in_law P S cs (functors_of P.types (type_of S x)) (region_of S x) 0 c.functor c.functor (omega arith) c.small o.1 X.regioned r.1)

  -- ---- of the frame's next goal g
  module _ (I : Inv P e fs m) (g : Goal) (rest : Goals) (q : e.frame.goals ≡ g then rest) where
    pub next_typed : goal_ok P S g ≡ true
    next_typed = go I
      where
        go : Inv P e fs m → goal_ok P S g ≡ true
        go (inv d N) = (next_in_law P _ d g rest q).typed

    pub next_regioned : goal_regions P S g ≡ true
    next_regioned = go I
      where
        go : Inv P e fs m → goal_regions P S g ≡ true
        go (inv d N) = (next_in_law P _ d g rest q).regioned

    pub next_allowed : allowed P g e m ≡ true
    next_allowed = go I
      where
        go : Inv P e fs m → allowed P g e m ≡ true
        go (inv d N) = allowed_ok A e fs m N g rest (next_in_law P _ d g rest q)

  -- lists of one and two variables
  one : (k : ℕ) → is_variable S k ≡ true → AllVariables S (k ∷ [])
  one k a n i = elim (cons_in n k [] i) [ inl c ↦ rw (← c) a | inr c ↦ absurd (nil_in n c) ]

  both : (y z : ℕ) → is_variable S y ≡ true → is_variable S z ≡ true → AllVariables S (y ∷ z ∷ [])
  both y z a b n i = elim (cons_in n y (z ∷ []) i) [ inl c ↦ rw (← c) a | inr c ↦ one z b n c ]

  pub sum_numbers : Inv P e fs m → (x o y z : ℕ) (rest : Goals) → e.frame.goals ≡ step (sum x o y z) then rest
      → Number (e.frame.values y) × Number (e.frame.values z)
  unfolding goal_ok step_ok reads access accessing
  sum_numbers (inv d N) x o y z rest q =
      let X = next_in_law P _ d _ rest q in
      let t = and_true (and_true (and_true X.typed).1).1 in
      let a = both y z (type_in S 0 y t.0).0 (type_in S 0 z t.1).0 in
      let r = read_in_law N (sum x o y z) (y ∷ z ∷ []) rest X refl a in
      (number_of N y t.0 (r y (cons_here y y (z ∷ []) refl)), number_of N z t.1 (r z (cons_later z y (z ∷ []) (cons_here z z [] refl))))

  pub test_numbers : Inv P e fs m → (y z : ℕ) (rest : Goals) → e.frame.goals ≡ step (test y z) then rest
      → Number (e.frame.values y) × Number (e.frame.values z)
  unfolding goal_ok step_ok reads access accessing
  test_numbers (inv d N) y z rest q =
      let X = next_in_law P _ d _ rest q in
      let t = and_true X.typed in
      let a = both y z (type_in S 0 y t.0).0 (type_in S 0 z t.1).0 in
      let r = read_in_law N (test y z) (y ∷ z ∷ []) rest X refl a in
      (number_of N y t.0 (r y (cons_here y y (z ∷ []) refl)), number_of N z t.1 (r z (cons_later z y (z ∷ []) (cons_here z z [] refl))))

  pub print_number : Inv P e fs m → (y : ℕ) (rest : Goals) → e.frame.goals ≡ step (print y) then rest → Number (e.frame.values y)
  unfolding goal_ok step_ok reads access accessing
  print_number (inv d N) y rest q =
      let X = next_in_law P _ d _ rest q in
      number_of N y X.typed (read_in_law N (print y) (y ∷ []) rest X refl (one y (type_in S 0 y X.typed).0) y (cons_here y y [] refl))

  pub if_numbers : Inv P e fs m → (y z : ℕ) (a b : Goals) (rest : Goals) → e.frame.goals ≡ if_less y z a b then rest
      → Number (e.frame.values y) × Number (e.frame.values z)
  unfolding goal_ok check_goal
  if_numbers (inv {s = s} d N) y z a b rest q =
      let X = next_in_law P _ d _ rest q in
      let t = and_true X.typed in
      let u = and_true t.1 in
      let r = and_true (require_in X.goes).0 in
      (number_of N y t.0 (subset_in X.counted s X.fewer y r.0), number_of N z u.0 (subset_in X.counted s X.fewer z r.1))

  pub switch_found : Inv P e fs m → (x : ℕ) (cs : Arms) (rest : Goals) → e.frame.goals ≡ switch x cs then rest → ArmFits S m.cells (e.frame.values x) cs
  switch_found (inv d N) x cs rest q = found N x cs rest (next_in_law P _ d _ rest q)
