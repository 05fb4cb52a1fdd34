-- What each sort of step reads and gives, and that what was gathered of a record fits it, a law for each kind that the code reads.
use Prim.Native.Nat.{ℕ, ◌+◌, ◌≤◌, ◌<◌}
use mathlib.Core.Path.{◌≡◌, refl, sym, ap, ◌∙◌}
use mathlib.Core.List.{List, []}
use Rattle.language.specs.Program.{Four, Variable, Step, literal, sum, assign, construct, call, print, create, remove, test, Goals, ◌then◌, step, Program, signature_of, parameters_of, four_words, done, procedure_at}
use Rattle.language.specs.Values.{access, accessing}
use Rattle.tables.specs.declared.Access.{Access}
use Rattle.accesses.specs.Gathering.{no_access, read_in, given_in, four_read, read_all, four_given}
use Rattle.accesses.proofs.GatheringLaws.{gathers_none, gathers_read, gathers_give, four_read_law, four_given_law}
use Rattle.accesses.specs.Matching.{passing, CallMatches}
use Rattle.accesses.specs.Accesses.{Accesses}
use native.Mathlib.Omega.{arith}
use mathlib.Core.Bool.{true}
use lib.ListN.{length, get_or}
use Rattle.laws.specs.Lists.{nth_past}
use Rattle.language.specs.Format.{literal_kind, sum_kind, assign_kind, construct_kind, arm_kind, call_kind, print_kind, create_kind, remove_kind, test_kind, goal_x, sum_y, sum_z, assign_y, print_y, test_y, test_z, call_procedure, call_arguments, kind_word, term_arguments}
use Rattle.language.specs.File.{GoalKind, k_literal, k_sum, k_assign, k_construct, k_call, k_print, k_create, k_remove, k_test, Kind, k_arm, k_goal, goals, arms, row, kind_of, word, record_count}
use Rattle.language.specs.Typing.{typing_ok}
use Rattle.language.specs.Answers.{program}
use Rattle.chains.specs.Layout.{all_rows, number_is, starts_kind, goals_kind}
use Rattle.chains.specs.Formed.{Formed, Stands, stands_starts, arguments_at}
use Rattle.chains.specs.Shapes.{goal_kind, literal_here, sum_here, assign_here, construct_here, call_here, print_here, create_here, remove_here, test_here}
use Rattle.tables.specs.Window.{ins_place, outs_place, set_in, FileTable}
use Rattle.sets.specs.Sets.{loaded}
use Rattle.sets.specs.declared.Set.{Set}
use Rattle.chains.specs.Parts.{four_at}
use Rattle.walks.specs.Steps.{arm_kind_law}
use Rattle.accesses.proofs.Turning.{none_matches}
use Rattle.accesses.specs.Parameters.{DeclaredSets, declares}
use Rattle.accesses.specs.Fitting.{AccessFits, Stepped, arm_arguments, in_window}

module _ (P : Program) where
  pub literal_access : (x v : ℕ) → Accesses P (literal x v) (given_in no_access x)
  unfolding access accessing
  literal_access x v = record { gathered = gathers_give gathers_none x }

  pub sum_access : (x o y z : ℕ) → Accesses P (sum x o y z) (given_in (read_in (read_in no_access y) z) x)
  unfolding access accessing
  sum_access x o y z = record { gathered = gathers_give (gathers_read (gathers_read gathers_none y) z) x }

  pub assign_access : (x y : ℕ) → Accesses P (assign x y) (given_in (read_in no_access y) x)
  unfolding access accessing
  assign_access x y = record { gathered = gathers_give (gathers_read gathers_none y) x }

  pub construct_access : (x f : ℕ) (ws : Four) → Accesses P (construct x f ws) (given_in (four_read ws) x)
  unfolding access accessing
  construct_access x f ws = record { gathered = gathers_give (four_read_law ws) x }

  pub print_access : (y : ℕ) → Accesses P (print y) (read_in no_access y)
  unfolding access accessing
  print_access y = record { gathered = gathers_read gathers_none y }

  pub create_access : (r : ℕ) → Accesses P (create r) no_access
  unfolding access accessing
  create_access r = record { gathered = gathers_none }

  pub remove_access : (r : ℕ) → Accesses P (remove r) no_access
  unfolding access accessing
  remove_access r = record { gathered = gathers_none }

  pub test_access : (y z : ℕ) → Accesses P (test y z) (read_in (read_in no_access y) z)
  unfolding access accessing
  test_access y z = record { gathered = gathers_read (gathers_read gathers_none y) z }

  pub call_access : {q : ℕ} {vs : List Variable} {ys : List ℕ} {a : Access} → vs ≡ (signature_of P q).variables → CallMatches vs ys a → Accesses P (call q ys) a
  unfolding access accessing passing parameters_of
  call_access e m = record { gathered = rw e at m }

-- ---- a goal that is a step is one step alone
same_step : {gs hs is : Goals} {g h : Step} → gs ≡ step g then hs → gs ≡ step h then is → h ≡ g
same_step p q = cc

module _ {P : Program} {gs hs : Goals} {h : Step} {a : Access} where
  -- what the record says, at the step that the contract names
  pub at_step_law : gs ≡ step h then hs → Accesses P h a → (g : Step) (is : Goals) → gs ≡ step g then is → Accesses P g a
  at_step_law v n g is e = rw (same_step e v) at n

-- ---- a record is of one kind
two_kinds : {A : Type 0} {g : GoalKind} {k : Kind} → k ≡ k_arm → k ≡ k_goal g → A
two_kinds e h = let z : ◌≡◌ {A = ℕ} 0 1 = cc in absurd (omega arith)

module _ (f : List ℕ) (i : ℕ) where
  pub not_both : {A : Type 0} → Stands f goals i → Stands f arms i → (i ≡ 0 → ⊥) → A
  not_both s t z = two_kinds (arm_kind_law f i t z) (goals_kind (starts_kind (word f) (record_count f) i goals (omega arith) (stands_starts s)).1).1

  pub fits_step_law : {g : GoalKind} {a : Access} → kind_of (word f i kind_word) ≡ k_goal g → Stepped f i a → AccessFits f i a
  fits_step_law k h = record { step = λ s z. h; arm = λ s z. two_kinds (arm_kind_law f i s z) k }

-- the code reads the four arguments in turn
pub four_gathered : (f : List ℕ) (i : ℕ) {w1 w2 w3 w4 : ℕ} {a0 a1 a2 a3 a4 : Access} → a0 ≡ no_access → w1 ≡ word f i term_arguments → a1 ≡ read_in a0 w1
    → w2 ≡ word f i (term_arguments + 1)
    → a2 ≡ read_in a1 w2 → w3 ≡ word f i (term_arguments + 2) → a3 ≡ read_in a2 w3 → w4 ≡ word f i (term_arguments + 3) → a4 ≡ read_in a3 w4
    → a4 ≡ four_read (four_at f i)
unfolding four_read read_all four_words
four_gathered f i e0 g1 e1 g2 e2 g3 e3 g4 e4 = rw (e4, e3, e2, e1, e0, g1, g2, g3, g4) refl

-- ---- a record by the kind that the code has read, a law for each
module _ (f : List ℕ) (i : ℕ) (F : Formed f) {w : ℕ} (e : w ≡ word f i kind_word) where
  is_kind_law : (k : Kind) → w ≡ (row k).kind → kind_of (word f i kind_word) ≡ k
  is_kind_law k n = number_is k (word f i kind_word) (sym e ∙ n)

  pub literal_fits : {a : Access} → w ≡ literal_kind → a ≡ given_in no_access (word f i goal_x) → AccessFits f i a
  unfolding all_rows
  literal_fits k p = fits_step_law f i (is_kind_law (k_goal k_literal) k) (at_step_law (literal_here F e k).view (rw p (literal_access (program f) _ _)))

  pub sum_fits : {a : Access} → w ≡ sum_kind → a ≡ given_in (read_in (read_in no_access (word f i sum_y)) (word f i sum_z)) (word f i goal_x) → AccessFits f i a
  unfolding all_rows
  sum_fits k p = fits_step_law f i (is_kind_law (k_goal k_sum) k) (at_step_law (sum_here F e k).view (rw p (sum_access (program f) _ _ _ _)))

  pub assign_fits : {a : Access} → w ≡ assign_kind → a ≡ given_in (read_in no_access (word f i assign_y)) (word f i goal_x) → AccessFits f i a
  unfolding all_rows
  assign_fits k p = fits_step_law f i (is_kind_law (k_goal k_assign) k) (at_step_law (assign_here F e k).view (rw p (assign_access (program f) _ _)))

  pub construct_fits : {a : Access} → w ≡ construct_kind → a ≡ given_in (four_read (four_at f i)) (word f i goal_x) → AccessFits f i a
  unfolding all_rows
  construct_fits k p = fits_step_law f i (is_kind_law (k_goal k_construct) k) (at_step_law (construct_here F e k).view (rw p (construct_access (program f) _ _ _)))

  pub print_fits : {a : Access} → w ≡ print_kind → a ≡ read_in no_access (word f i print_y) → AccessFits f i a
  unfolding all_rows
  print_fits k p = fits_step_law f i (is_kind_law (k_goal k_print) k) (at_step_law (print_here F e k).view (rw p (print_access (program f) _)))

  pub create_fits : {a : Access} → w ≡ create_kind → a ≡ no_access → AccessFits f i a
  unfolding all_rows
  create_fits k p = fits_step_law f i (is_kind_law (k_goal k_create) k) (at_step_law (create_here F e k).view (rw p (create_access (program f) _)))

  pub remove_fits : {a : Access} → w ≡ remove_kind → a ≡ no_access → AccessFits f i a
  unfolding all_rows
  remove_fits k p = fits_step_law f i (is_kind_law (k_goal k_remove) k) (at_step_law (remove_here F e k).view (rw p (remove_access (program f) _)))

  pub test_fits : {a : Access} → w ≡ test_kind → a ≡ read_in (read_in no_access (word f i test_y)) (word f i test_z) → AccessFits f i a
  unfolding all_rows
  test_fits k p = fits_step_law f i (is_kind_law (k_goal k_test) k) (at_step_law (test_here F e k).view (rw p (test_access (program f) _ _)))

  pub call_fits : {q y : ℕ} {a : Access} → w ≡ call_kind → q ≡ word f i call_procedure → y ≡ word f i call_arguments
      → Accesses (program f) (call q (arguments_at f y)) a → AccessFits f i a
  unfolding all_rows
  call_fits k g h p = fits_step_law f i (is_kind_law (k_goal k_call) k) (at_step_law (call_here F e k).view (rw (g, h) at p))

  pub arm_fits_law : {a : Access} → w ≡ arm_kind → a ≡ four_given (four_at f i) → AccessFits f i a
  unfolding all_rows arm_arguments
  arm_fits_law k p = record {
    step = λ s z. two_kinds (is_kind_law k_arm k) (goal_kind s z).1;
    arm = λ s z. rw p (four_given_law (four_at f i));
  }

-- ---- a call: the callee's in and out variables stand in its window
-- a procedure that is not there has no variables
pub call_none : (P : Program) (q : ℕ) (ys : List ℕ) {a : Access} → length P.procedures ≤ q → a ≡ no_access → Accesses P (call q ys) a
unfolding signature_of procedure_at
call_none P q ys h e =
    let n = nth_past (record { signature = record { variables = []; regions = [] }; body = done }) P.procedures q h in
    rw e (call_access P (sym (ap (λ p. p.signature.variables) n)) (none_matches ys))

-- the window of procedure q, which starts at that place
module _ {f t : List ℕ} (T : FileTable f t) {q w : ℕ} (h : q < length (program f).procedures) (e : w ≡ get_or t q 0) where
  -- its sets of in and out variables
  pub callee_declares : typing_ok (program f) ≡ true → {ins outs : Set} → ins ≡ set_in t (w + ins_place) → outs ≡ set_in t (w + outs_place)
      → DeclaredSets (signature_of (program f) q) ins outs
  unfolding set_in signature_of
  callee_declares d i o =
      let W = (T.at q h).window in
      declares (program f) d h (i ∙ ap loaded (in_window T h e ins_place refl) ∙ W.ins) (o ∙ ap loaded (in_window T h e outs_place refl) ∙ W.outs)

  pub callee_accesses : {ys : List ℕ} {a : Access} → CallMatches (signature_of (program f) q).variables ys a → Accesses (program f) (call q ys) a
  callee_accesses m = call_access (program f) refl m
