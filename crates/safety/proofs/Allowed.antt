-- The newest frame's next goal is always allowed: what it builds in or removes is held, and what it reads is sound.
use Rattle.std.specs.Prelude.{◌≡◌, true, ℕ, ◌≤◌, ◌<◌, length, ℤ}
use Rattle.std.proofs.Math.Path.{refl, ap}
use Rattle.std.proofs.Common.{◌∙◌}
use mathlib.Core.List.{List, ◌∷◌, []}
use Rattle.std.proofs.Math.Logic.{⊎_elim}
use borrow.Author.Tests.{leb-true, ltb-true}
use Rattle.sets.specs.Tests.{◌or◌, and_true, true_or_left, true_or_right}
use Rattle.sets.specs.Sets.{member, single, subset, single_mk, subset_in}
use Rattle.sets.specs.declared.Set.{Set}
use Rattle.language.specs.Lists.{is_none}
use Rattle.language.specs.Program.{Four, arguments_of, Functor, literal, sum, assign, construct, call, print, create, remove, test, Goals, Goal, step, switch, if_less, try, Signature, Program, type_of, region_of, signature_of, functors_of}
use Rattle.language.specs.Typing.{is_region, has_type, have_types, types_of, arguments_ok, functors_for, step_ok, goal_ok}
use Rattle.language.specs.Regions.{regions_of, in_targets, reach}
use Rattle.language.specs.Lifetimes.{effect}
use Rattle.language.specs.Checking.{check_goal}
use Rattle.language.specs.Frames.{numeral}
use Rattle.language.specs.AcceptedRun.{RegionFrame, RegionCell, Memory, lies_in, readable, region_for, allowed}
use Rattle.region_graph.specs.Typed.{arguments_regioned}
use Rattle.region_graph.specs.Procedure.{cell_region}
use Rattle.safety.specs.Walks.{require_in}
use Rattle.safety.specs.Doing.{NextGoal}
use Rattle.region_graph.specs.Shared.{region_top}
use Rattle.safety.specs.Signatures.{Fit, laws_of}
use Rattle.safety.specs.Premises.{Accepted, fit}
use Rattle.safety.specs.PlacedValues.{along, types_at, is_number, PlacedAll, placed_none, placed_more, InCell, Lies, lies}
use Rattle.safety.specs.Variables.{type_in, types_length, targets_along}
use Rattle.safety.specs.Owners.{Owner}
use Rattle.safety.specs.Invariant.{Now}
use Rattle.safety.proofs.Quiet.{obeyed}

-- a construct of X with functor k and arguments ys has the types that it needs
pub record Built (T : List (List Functor)) (S : Signature) (x k : ℕ) (ys : List ℕ) : Type 0 where
  pub small : k < length (functors_of T (type_of S x))
  pub have : have_types S (types_at T (type_of S x) k) ys ≡ true

module _ (P : Program) (S : Signature) where
  pub number_placed : {ρ : ℕ → ℕ} {H : List RegionCell} (x : ℕ) (z : ℤ) → has_type S 0 x ≡ true
      → PlacedAll P.types S ρ H (types_of S (x ∷ [])) (regions_of S (x ∷ [])) (numeral z ∷ [])
  unfolding types_of regions_of
  number_placed x z e = rw (type_in S 0 x e).1 (placed_more is_number placed_none)

  -- the arguments of a construct or an arm lie where the edges of X's region lead
  pub fits_along : (x k : ℕ) (ys : List ℕ) → have_types S (types_at P.types (type_of S x) k) ys ≡ true
      → in_targets P S (region_of S x) k 1 ys ≡ true
      → regions_of S ys ≡ along S (region_of S x) k 1 (length (types_at P.types (type_of S x) k))
  fits_along x k ys h t =
      targets_along P S (region_of S x) k 1 ys t ∙ ap (along S (region_of S x) k 1)
      (types_length S (types_at P.types (type_of S x) k) ys h)

  pub constructed : (x k : ℕ) (ys : Four) → step_ok P S (construct x k ys) ≡ true → Built P.types S x k (arguments_of ys)
  unfolding step_ok functors_for arguments_ok
  constructed x k ys e = let p = and_true (and_true e).1 in record { small = ltb-true k _ p.0; have = p.1 }

module _ {P : Program} (A : Accepted P) (f : RegionFrame) (fs : List RegionFrame) (m : Memory) {h s : Set} {os : List Owner}
    (N : Now P f.frame.procedure f.frame.arguments f.stands f.frame.values fs m.cells m.made m.alive h s os) where
  abbrev S : Signature
  S = signature_of P f.frame.procedure

  abbrev T : List (List Functor)
  T = P.types

  F : Fit T S
  F = fit A f.frame.procedure

  -- a region that a step needs is held, so it is alive
  needed_alive : (r : ℕ) → is_region S r ≡ true → subset (single r) h ≡ true → m.alive (f.stands r) ≡ true
  needed_alive r i w = let l = region_top _ _ (laws_of F) r i in N.regions.alive.0 r (subset_in (single r) h w r (single_mk r l.0 l.1))

  -- a construct with arguments has a region, which it needs
  build_allowed : (x k : ℕ) (zs : List ℕ) → have_types S (types_at T (type_of S x) k) zs ≡ true → subset (single (region_of S x)) h ≡ true
      → (is_none zs or m.alive (f.stands (region_of S x))) ≡ true
  unfolding is_none
  build_allowed x k [] t w = true_or_left _ refl
  build_allowed x k (y ∷ zs) t w =
      true_or_right _ (needed_alive (region_of S x) (cell_region _ _ F.typed x (arguments_regioned T S (type_of S x) k y zs t)).0 w)

  -- a sound variable that is no number: a constant, or a cell in a region that is alive
  pub cell_of_law : (x : ℕ) → 1 ≤ type_of S x → member s x ≡ true
      → Lies T S f.stands m.cells (type_of S x) (region_of S x) (f.frame.values x)
  cell_of_law x l i = lies (N.vars.placed x i) l

  read_alive : (x : ℕ) → 1 ≤ type_of S x → member s x ≡ true → readable m (f.frame.values x) ≡ true
  unfolding readable lies_in reach
  read_alive x l i = ⊎_elim cell (λ k. ap (readable m) k.0) c.kind
    where
      c : Lies T S f.stands m.cells (type_of S x) (region_of S x) (f.frame.values x)
      c = cell_of_law x l i

      cell : InCell T S f.stands m.cells (region_of S x) c.functor c.contents (f.frame.values x)
          → readable m (f.frame.values x) ≡ true
      cell k =
          ap (readable m) k.is ∙ ap (λ (a : RegionCell). m.alive a.region) k.there
          ∙ N.regions.alive.0 (region_of S x) (N.vars.closed x (region_of S x) i ((laws_of F).self (region_of S x) k.region))

  -- ---- "A step that would build or read in a region never created or already removed, or remove such a one" never comes
  pub allowed_ok : (g : Goal) (rest : Goals) → NextGoal P S g rest h s → allowed P g f m ≡ true
  unfolding allowed region_for goal_ok step_ok check_goal effect
  allowed_ok (step (literal x v)) rest X = refl
  allowed_ok (step (sum x o y z)) rest X = refl
  allowed_ok (step (assign x y)) rest X = refl
  allowed_ok (step (construct x k ys)) rest X =
      build_allowed x k (arguments_of ys) (constructed P S x k ys X.typed).have (obeyed P S (construct x k ys) X.goes).needs_held
  allowed_ok (step (call q ys)) rest X = refl
  allowed_ok (step (print y)) rest X = refl
  allowed_ok (step (create r)) rest X = refl
  allowed_ok (step (remove r)) rest X = needed_alive r X.typed (obeyed P S (remove r) X.goes).needs_held
  allowed_ok (step (test y z)) rest X = refl
  allowed_ok (switch x cs) rest X =
      let l = leb-true 1 (type_of S x) (and_true (and_true X.typed).1).0 in
      read_alive x l (subset_in X.counted s X.fewer x (require_in X.goes).0)
  allowed_ok (if_less y z a b) rest X = refl
  allowed_ok (try c a b) rest X = refl
