-- Taking the newest frame's next goal keeps the invariant.
use Rattle.std.specs.Prelude.{◌≡◌, Bool, ℕ, suc, length, ℤ}
use Rattle.std.proofs.Math.Path.{refl, ap}
use Rattle.std.proofs.Common.{sym, ◌∙◌, ⊎_elim, arith}
use Rattle.std.proofs.Math.Bool.{true, false}
use mathlib.Core.List.{List, ◌∷◌, ◌++◌, map, []}
use borrow.Author.Tests.{eqb-true, leb-true}
use Rattle.sets.specs.Tests.{and_true}
use Rattle.sets.specs.Sets.{empty_set, subset, subset_in}
use Rattle.sets.specs.SetLaws.{subset_refl}
use Rattle.sets.specs.Members.{set_of, nil_in, cons_in}
use Rattle.sets.specs.declared.Set.{Set}
use Rattle.language.specs.Lists.{choose, put}
use Rattle.language.specs.Program.{Four, arguments_of, Functor, Step, literal, sum, assign, construct, call, print, create, remove, test, Goals, Goal, step, switch, if_less, try, Arms, ◌before◌, Signature, Program, type_of, region_of, signature_of, functors_of, functor_at, parameters_of, in_mode}
use Rattle.language.specs.Typing.{is_variable, is_region, functors_for, types_of, parameter_types, step_ok, goals_ok, goal_ok}
use Rattle.language.specs.Values.{reads, gives, access, accessing}
use Rattle.language.specs.Regions.{regions_of, in_targets, step_regions, goals_regions, goal_regions}
use Rattle.language.specs.Lifetimes.{no_effect, effect}
use Rattle.language.specs.Checking.{carries, sound_given, sound_without, check_step, check_goals, check_goal}
use Rattle.language.specs.Frames.{Value, cell_at, Frame, Condition, closed, opened, ahead, Cell, less_in, with_goals, giving, give_each, literal_in, sum_of, sum_in, assign_in, cell_for, built_value, build_in, branch_in, Picked, no_arm, picked, pick, enter_arm, cell_in, open_cell, callee_frame}
use Rattle.language.specs.AcceptedRun.{RegionFrame, Memory, State, cell_of, with_cell, with_built, with_printed, with_region, without_region, restored, with_frame, going, whole, mapping_from, callee_regions, region_for, failed, take}
use Rattle.region_graph.specs.Parameters.{arguments_in_law}
use Rattle.region_graph.specs.Typed.{types_had, arguments_regioned}
use Rattle.region_graph.specs.Procedure.{cell_region}
use Rattle.laws.specs.Goals.{ahead_before}
use Rattle.safety.specs.Walks.{require_in, carry_on_in, Joined, join_in}
use Rattle.safety.specs.Doing.{Doing, segment, NextGoal, ArmTaken, arms_in_law}
use Rattle.safety.specs.Signatures.{Fit, laws_of}
use Rattle.safety.specs.Premises.{Accepted, calling, fit, start_doing}
use Rattle.safety.specs.PlacedValues.{cell_on, grows_more, PlacedValue, is_constant, PlacedAll, placed_none, placed_more, Lies, cell_found}
use Rattle.safety.specs.Variables.{AllVariables, type_in, types_variables, read_sound_law, placed_each, placed_new}
use Rattle.safety.specs.Owners.{Owner}
use Rattle.safety.specs.Invariant.{Now, Inv, inv, Saved, saved, Fine}
use Rattle.safety.proofs.Quiet.{Obeyed, obeyed, quiet, now_fewer, now_given, now_grown, now_quiet, now_created, now_removed}
use Rattle.safety.proofs.Calls.{now_called}
use Rattle.safety.proofs.Settling.{settled, settled_in}
use Rattle.safety.proofs.Allowed.{number_placed, fits_along, cell_of_law, Built, constructed}

-- how a step is checked and described, opened together
unfoldable described : Unit {0}
unfolding goal_ok goal_regions check_goal effect no_effect reads gives access accessing give_each types_of regions_of
described = tt

-- a frame that has entered an arm
abbrev in_arm : Frame → List ℕ → List Value → Goals → Frame
in_arm f ys vs gs =
    record { procedure = f.procedure; arguments = f.arguments; goals = gs before f.goals; values = give_each ys vs f.values }

module _ {P : Program} (A : Accepted P) (f : RegionFrame) (fs : List RegionFrame) (m : Memory) {h s : Set} {os : List Owner}
    (N : Now P f.frame.procedure f.frame.arguments f.stands f.frame.values fs m.cells m.made m.alive h s os) where
  abbrev S : Signature
  S = signature_of P f.frame.procedure

  abbrev T : List (List Functor)
  T = P.types

  F : Fit T S
  F = fit A f.frame.procedure

  -- ---- what is to be done after a step that changes no region, and in a part of an if
  quiet_doing : (g : Step) (counted : Set) {h₁ s₁ : Set} (rest : Goals) → (effect P S g).ends ≡ empty_set → (effect P S g).bears ≡ empty_set
      → check_step P S g h counted ≡ carries h₁ s₁
      → Doing P S rest h₁ s₁ → Doing P S rest h (sound_given S (gives P g) h (sound_without S empty_set counted))
  quiet_doing g counted rest e b c d = let q = quiet P S g e b (obeyed P S g c) in rw (← q.1) (rw (← q.0) d)

  branch_doing : (t : Bool) (a b rest : Goals) {counted h₁ s₁ : Set} → goals_ok P S a ≡ true → goals_ok P S b ≡ true
      → goals_regions P S a ≡ true → goals_regions P S b ≡ true
      → Joined (check_goals P S a h counted) (check_goals P S b h counted) h₁ s₁ → Doing P S rest h₁ s₁
      → Doing P S (choose t a b before rest) h counted
  unfolding choose
  branch_doing true a b rest oa ob ra rb j d = segment a refl oa ra j.goes_left j.in_left d
  branch_doing false a b rest oa ob ra rb j d = segment b refl ob rb j.goes_right j.in_right d

  -- sound variables that are read
  read_placed : (g : Step) (counted : Set) (ys : List ℕ) {h₁ s₁ : Set} → subset counted s ≡ true → AllVariables S ys → reads P g ≡ set_of ys
      → Obeyed P S g h counted h₁ s₁ → PlacedAll T S f.stands m.cells (types_of S ys) (regions_of S ys) (map f.frame.values ys)
  read_placed g counted ys w a e R =
      placed_each N.vars ys (λ y i. subset_in counted s w y (read_sound_law (laws_of F) counted ys a (rw e at R.reads_sound) y i))

  -- ---- the goals in turn
  literal_ok : (x v : ℕ) → NextGoal P S (step (literal x v)) f.frame.goals h s → Inv P (with_frame f (literal_in f.frame x v)) fs m
  unfolding described with_frame literal_in giving step_ok
  literal_ok x v X =
      inv (quiet_doing (literal x v) X.counted f.frame.goals refl refl X.goes X.onward)
      (now_quiet A X.counted (x ∷ []) X.fewer (number_placed P S x _ X.typed) N)

  sum_ok : (x o y z : ℕ) → NextGoal P S (step (sum x o y z)) f.frame.goals h s → Inv P (with_frame f (sum_in f.frame x o y z)) fs m
  unfolding described with_frame sum_in giving step_ok
  sum_ok x o y z X =
      inv (quiet_doing (sum x o y z) X.counted f.frame.goals refl refl X.goes X.onward)
      (now_quiet A X.counted (x ∷ []) X.fewer (number_placed P S x _ (and_true X.typed).0) N)

  assign_ok : (x y : ℕ) → NextGoal P S (step (assign x y)) f.frame.goals h s → Inv P (with_frame f (assign_in f.frame x y)) fs m
  unfolding described with_frame assign_in giving step_ok step_regions
  assign_ok x y X =
      inv (quiet_doing (assign x y) X.counted f.frame.goals refl refl X.goes X.onward)
      (now_quiet A X.counted (x ∷ []) X.fewer given N)
    where
      type : (is_variable S y ≡ true) × (type_of S y ≡ type_of S x)
      type = type_in S (type_of S x) y (and_true X.typed).1

      one : AllVariables S (y ∷ [])
      one z i = ⊎_elim (λ q. ap (is_variable S) (sym q) ∙ type.0) (λ q. absurd (nil_in z q)) (cons_in z y [] i)

      placed : PlacedAll T S f.stands m.cells (types_of S (y ∷ [])) (regions_of S (y ∷ [])) (map f.frame.values (y ∷ []))
      placed = read_placed (assign x y) X.counted (y ∷ []) X.fewer one refl (obeyed P S (assign x y) X.goes)

      given : PlacedAll T S f.stands m.cells (types_of S (x ∷ [])) (regions_of S (x ∷ [])) (f.frame.values y ∷ [])
      given = rw (← type.1, eqb-true (region_of S x) (region_of S y) X.regioned) placed

  print_ok : (y : ℕ) (z : ℤ) → NextGoal P S (step (print y)) f.frame.goals h s → Inv P f fs (with_printed m z)
  unfolding described with_printed
  print_ok y z X =
      inv (quiet_doing (print y) X.counted f.frame.goals refl refl X.goes X.onward)
      (now_quiet A X.counted [] X.fewer placed_none N)

  -- X gets functor k with arguments zs: a constant, or a new cell
  built_ok : (x k : ℕ) (zs : List ℕ) (counted : Set) → Built T S x k zs → in_targets P S (region_of S x) k 1 zs ≡ true
      → PlacedAll T S f.stands m.cells (types_of S zs) (regions_of S zs) (map f.frame.values zs) → subset counted s ≡ true
      → Doing P S f.frame.goals h (sound_given S (set_of (x ∷ [])) h (sound_without S empty_set counted))
      → Inv P (with_frame f (build_in f.frame x k zs (length m.cells))) fs (with_built m (region_for P f x) f.frame k zs)
  unfolding described with_frame build_in built_value giving with_built with_cell cell_for region_for
  built_ok x k [] counted t r p w d =
      inv d (now_quiet A counted (x ∷ []) w (placed_more (is_constant k t.small (sym (types_had S _ [] t.have))) placed_none) N)
  built_ok x k (y ∷ zs) counted t r p w d =
      inv d (now_quiet A counted (x ∷ []) w (placed_more new placed_none) (now_grown A (grows_more m.cells _) N))
    where
      own : is_region S (region_of S x) ≡ true
      own = (cell_region _ _ F.typed x (arguments_regioned T S (type_of S x) k y zs t.have)).0

      new : PlacedValue T S f.stands (m.cells ++ (cell_on (f.stands (region_of S x)) k (map f.frame.values (y ∷ zs)) ∷ []))
          (type_of S x) (region_of S x) (cell_at (length m.cells))
      new =
          placed_new (laws_of F) (type_of S x) (region_of S x) k own t.small
          (rw (types_had S _ (y ∷ zs) t.have, fits_along P S x k (y ∷ zs) t.have r) at p)

  construct_ok : (x k : ℕ) (ys : Four) → NextGoal P S (step (construct x k ys)) f.frame.goals h s
      → Inv P (with_frame f (build_in f.frame x k (arguments_of ys) (length m.cells))) fs
      (with_built m (region_for P f x) f.frame k (arguments_of ys))
  unfolding described step_regions
  construct_ok x k ys X =
      let t = constructed P S x k ys X.typed in
      built_ok x k (arguments_of ys) X.counted t X.regioned
      (read_placed (construct x k ys) X.counted (arguments_of ys) X.fewer (types_variables S _ (arguments_of ys) t.have) refl
      (obeyed P S (construct x k ys) X.goes))
      X.fewer (quiet_doing (construct x k ys) X.counted f.frame.goals refl refl X.goes X.onward)

  create_ok : (r : ℕ) → NextGoal P S (step (create r)) f.frame.goals h s
      → Inv P (record { frame = f.frame; stands = put f.stands r (suc m.made) }) fs (with_region m)
  unfolding described with_region step_ok
  create_ok r X =
      let R = obeyed P S (create r) X.goes in
      inv (rw R.sound at X.onward) (now_created A r X.typed N X.counted X.held X.fewer R.bears_new R.held)

  remove_ok : (r : ℕ) → NextGoal P S (step (remove r)) f.frame.goals h s → Inv P f fs (without_region m (f.stands r))
  unfolding described without_region step_ok
  remove_ok r X =
      let R = obeyed P S (remove r) X.goes in
      inv (rw R.sound at X.onward)
      (now_removed A r X.typed N X.counted X.held X.fewer R.needs_held R.ends_own R.held)

  if_ok : (y z : ℕ) (a b : Goals) → NextGoal P S (if_less y z a b) f.frame.goals h s → Inv P (with_frame f (branch_in f.frame y z a b)) fs m
  unfolding described with_frame branch_in with_goals
  if_ok y z a b X =
      let o = and_true (and_true (and_true X.typed).1).1 in
      let r = and_true X.regioned in
      inv (branch_doing _ a b f.frame.goals o.0 o.1 r.0 r.1 (join_in (require_in X.goes).1) X.onward)
      (now_fewer A X.fewer N)

  arm_entered : (cs : Arms) (k : Cell) (found : Cell) (ys : List ℕ) (gs : Goals) → found ≡ k → pick cs k.functor ≡ picked ys gs
      → open_cell found cs f.frame ≡ in_arm f.frame ys k.contents gs
  unfolding open_cell enter_arm
  arm_entered cs k found ys gs e q = ap (λ (j : Cell). open_cell j cs f.frame) e ∙ (rw q)

  enter_ok : (x : ℕ) (cs : Arms) (counted : Set) {h₁ s₁ : Set}
      → (c : Lies T S f.stands m.cells (type_of S x) (region_of S x) (f.frame.values x))
      → ArmTaken P S cs (region_of S x) (functor_at (functors_of T (type_of S x)) c.functor) c.functor h counted h₁ s₁
      → subset counted s ≡ true → Doing P S f.frame.goals h₁ s₁
      → Inv P (with_frame f (open_cell (cell_in (map cell_of m.cells) (f.frame.values x)) cs f.frame)) fs m
  unfolding with_frame
  enter_ok x cs counted c t w d =
      rw (arm_entered cs (record { functor = c.functor; contents = c.contents }) (cell_in (map cell_of m.cells) (f.frame.values x))
      t.arguments t.goals (cell_found c) t.picks)
      (inv (segment t.goals refl t.typed t.regioned t.goes t.more d)
      (now_given A t.arguments
      (rw (← fits_along P S x c.functor t.arguments t.have t.targets, ← types_had S _ t.arguments t.have) at c.inside)
      (now_fewer A w N)))

  switch_ok : (x : ℕ) (cs : Arms) → NextGoal P S (switch x cs) f.frame.goals h s
      → Inv P (with_frame f (open_cell (cell_in (map cell_of m.cells) (f.frame.values x)) cs f.frame)) fs m
  unfolding described functors_for
  switch_ok x cs X =
      let o = and_true (and_true X.typed).1 in
      let l = leb-true 1 (type_of S x) o.0 in
      let r = require_in X.goes in
      let c = cell_of_law A f fs m N x l (subset_in X.counted s X.fewer x r.0) in
      enter_ok x cs X.counted c
      (arms_in_law P S cs (functors_of T (type_of S x)) (region_of S x) 0 c.functor c.functor (omega arith) c.small o.1 X.regioned r.1)
      X.fewer X.onward

  call_ok : (q : ℕ) (ys : List ℕ) → NextGoal P S (step (call q ys)) f.frame.goals h s → Inv P (callee_regions P f q ys) (f ∷ fs) m
  unfolding described callee_regions callee_frame mapping_from step_ok
  call_ok q ys X =
      let o = and_true X.typed in
      inv (start_doing A q)
      (now_called A f q ys (calling A f.frame.procedure q ys X.typed X.regioned)
      (obeyed P S (call q ys) X.goes) (now_fewer A X.fewer N) X.onward
      (λ y j. types_variables S (parameter_types (signature_of P q)) ys o.1 y
      (arguments_in_law in_mode (parameters_of (signature_of P q)) ys y j)))

  -- a test that does not fail changes nothing
  test_ok : (y z : ℕ) → NextGoal P S (step (test y z)) f.frame.goals h s → Inv P f fs m
  unfolding described
  test_ok y z X =
      inv (quiet_doing (test y z) X.counted f.frame.goals refl refl X.goes X.onward)
      (now_quiet A X.counted [] X.fewer placed_none N)

  -- a try: the condition, the then part and the rest go on; the else part and the rest are saved
  condition_ok : (t a b : Goals) → NextGoal P S (try t a b) f.frame.goals h s → Inv P (going f (t before (a before f.frame.goals))) fs m
  unfolding described with_frame with_goals
  condition_ok t a b X =
      let o = and_true X.typed in
      let r = and_true X.regioned in
      let j = join_in X.goes in
      let i = carry_on_in j.goes_left in
      inv (segment t refl o.0 r.0 i.2 (subset_refl i.1)
      (segment a refl (and_true o.1).0 (and_true r.1).0 i.3 j.in_left X.onward))
      (now_fewer A X.fewer N)

  else_ok : (t a b : Goals) → NextGoal P S (try t a b) f.frame.goals h s → Inv P (going f (b before f.frame.goals)) fs m
  unfolding described with_frame with_goals
  else_ok t a b X =
      let o = and_true (and_true X.typed).1 in
      let r = and_true (and_true X.regioned).1 in
      let j = join_in X.goes in
      inv (segment b refl o.1 r.1 j.goes_right j.in_right X.onward) (now_fewer A X.fewer N)

-- ---- the newest frame with all its goals does what it does without those that follow the condition
module _ (c : Condition RegionFrame Memory) (f : RegionFrame) where
  whole_branch : (y z : ℕ) (a b : Goals)
      → whole c (with_frame f (branch_in f.frame y z a b)) ≡ with_frame (whole c f) (branch_in (whole c f).frame y z a b)
  unfolding whole with_frame with_goals branch_in less_in
  whole_branch y z a b = rw (ahead_before c)

  whole_arm : (p : Picked) (vs : List Value) → whole c (with_frame f (enter_arm p vs f.frame)) ≡ with_frame (whole c f) (enter_arm p vs (whole c f).frame)
  unfolding whole with_frame with_goals enter_arm
  whole_arm no_arm vs = refl
  whole_arm (picked ys gs) vs = rw (ahead_before c)

  whole_open : (k : Cell) (cs : Arms) → whole c (with_frame f (open_cell k cs f.frame)) ≡ with_frame (whole c f) (open_cell k cs (whole c f).frame)
  unfolding open_cell
  whole_open k cs = whole_arm (pick cs k.functor) k.contents

  whole_built : (P : Program) (m : Memory) (x k : ℕ) (ys : List ℕ)
      → with_built m (region_for P (whole c f) x) (whole c f).frame k ys ≡ with_built m (region_for P f x) f.frame k ys
  unfolding whole with_frame with_goals with_built region_for cell_for
  whole_built P m x k [] = refl
  whole_built P m x k (y ∷ ys) = refl

-- ---- taking a goal
fine_choose : {P : Program} (b : Bool) (s t : State) → Fine P s → Fine P t → Fine P (choose b s t)
unfolding choose
fine_choose true s t x y = x
fine_choose false s t x y = y

-- what is saved is fine, whatever was printed since
saved_fine : {P : Program} (e : RegionFrame) (fs : List RegionFrame) (n m : Memory) → Inv P e fs n → Inv P e fs (restored n m)
unfolding restored
saved_fine e fs n m (inv d N) = inv d N

module _ {P : Program} (A : Accepted P) (f : RegionFrame) (fs : List RegionFrame) (m : Memory) where
  failed_ok : (c : Condition RegionFrame Memory) → Inv P (whole c f) fs m → Saved P fs c → Fine P (failed P c f fs m)
  unfolding failed whole ahead with_frame with_goals
  failed_ok closed i v = settled A f fs m i
  failed_ok (opened a e n) i (saved j) = settled A e fs (restored n m) (saved_fine e fs n m j)

module _ {P : Program} (A : Accepted P) (c : Condition RegionFrame Memory) (f : RegionFrame) (fs : List RegionFrame) (m : Memory) {h s : Set}
    {os : List Owner}
    (N : Now P f.frame.procedure f.frame.arguments f.stands f.frame.values fs m.cells m.made m.alive h s os)
    (W : Saved P fs c) where
  pub take_ok : (g : Goal) → NextGoal P (signature_of P f.frame.procedure) g (ahead c f.frame.goals) h s → Fine P (take P c g f fs m)
  unfolding take whole with_frame with_goals literal_in sum_in sum_of assign_in build_in giving callee_regions callee_frame mapping_from region_for ahead
  take_ok (step (literal x v)) X = settled_in A c _ fs m (literal_ok A (whole c f) fs m N x v X) W
  take_ok (step (sum x o y z)) X = settled_in A c _ fs m (sum_ok A (whole c f) fs m N x o y z X) W
  take_ok (step (assign x y)) X = settled_in A c _ fs m (assign_ok A (whole c f) fs m N x y X) W
  take_ok (step (construct x k ys)) X = settled_in A c _ fs _ (rw (whole_built c f P m x k (arguments_of ys)) at (construct_ok A (whole c f) fs m N x k ys X)) W
  take_ok (step (call q ys)) X = settled A _ (whole c f ∷ fs) m (call_ok A (whole c f) fs m N q ys X)
  take_ok (step (print y)) X = settled_in A c f fs _ (print_ok A (whole c f) fs m N y _ X) W
  take_ok (step (create r)) X = settled_in A c _ fs _ (create_ok A (whole c f) fs m N r X) W
  take_ok (step (remove r)) X = settled_in A c f fs _ (remove_ok A (whole c f) fs m N r X) W
  take_ok (step (test y z)) X =
      let i = test_ok A (whole c f) fs m N y z X in fine_choose _ _ _ (settled_in A c f fs m i W) (failed_ok A f fs m c i W)
  take_ok (switch x cs) X = settled_in A c _ fs m (rw (whole_open c f) (switch_ok A (whole c f) fs m N x cs X)) W
  take_ok (if_less y z a b) X = settled_in A c _ fs m (rw (whole_branch c f) (if_ok A (whole c f) fs m N y z a b X)) W
  take_ok (try t a b) X = settled_in A _ _ fs m (condition_ok A (whole c f) fs m N t a b X) (saved (else_ok A (whole c f) fs m N t a b X))
