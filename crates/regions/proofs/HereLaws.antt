-- Laws of `specs/Here` that only proofs cite.
use Prim.Native.Nat.{ℕ}
use mathlib.Core.Bool.{Bool, true, false}
use mathlib.Core.List.{List}
use mathlib.Core.Path.{◌≡◌, refl, sym, ap, ap₂, ◌∙◌}
use lib.Dec.{eqb}
use Rattle.sets.specs.Tests.{◌&◌}
use Rattle.laws.specs.Tests.{and_stop, and_on}
use Rattle.language.specs.File
use Rattle.language.specs.File.{GoalKind, k_literal, k_sum, k_assign, k_construct, k_switch, k_if, k_call, k_print, k_create, k_remove, k_try, k_test, Kind, k_none, k_header, k_type, k_functor, k_procedure, k_variable, k_region, k_edge, k_arm, k_argument, k_goal, kinds, kind_of, word}
use Rattle.language.specs.Format.{kind_word, next_word, assign_kind, construct_kind, switch_kind, call_kind, goal_x, assign_y, term_functor, switch_arms}
use Rattle.language.specs.Lists.{nth}
use Rattle.language.specs.Program.{arguments_of, Edge, Arms, no_arms, arm, Signature, Program, region_of, region_at}
use Rattle.language.specs.Regions.{step_regions}
use Rattle.language.specs.Answers.{program}
use Rattle.chains.specs.Layout.{all_rows}
use Rattle.chains.specs.Formed.{Formed, Stands, edges_at, arms_at, arms_none}
use Rattle.chains.specs.Kinds.{same_read}
use Rattle.chains.specs.Goals.{literal_at, sum_at_law, print_at, create_at, remove_at, test_at}
use Rattle.chains.specs.Parts.{if_at, try_at}
use Rattle.chains.specs.Shapes.{IsLiteral, IsSum, IsAssign, IsSwitch, IsPrint, IsCreate, IsRemove, IsTest, goal_number, assign_here, construct_here, switch_here, arm_here}
use Rattle.owners.specs.Everywhere.{if_goal, record_test}
use Rattle.owners.specs.TreeLaw.{record_kind}
use Rattle.tables.specs.Window.{Window, home_in, edges_in}
use Rattle.regions.specs.Terms.{arguments_here, all_in}
use Rattle.regions.proofs.TermsLaws.{all_in_targets}
use Rattle.regions.specs.Single.{arms_here, agrees_here, agrees}
use Rattle.regions.specs.Here.{Here, arms_in, construct_kind_law, goal_test, signature_at}

-- ---- kinds by their numbers
module _ (f : List ℕ) (i : ℕ) where
  pub literal_kind_law : IsLiteral f i → kind_of (word f i kind_word) ≡ k_goal k_literal
  unfolding kind_of kinds nth
  literal_kind_law k = ap kind_of k

  pub sum_kind_law : IsSum f i → kind_of (word f i kind_word) ≡ k_goal k_sum
  unfolding kind_of kinds nth
  sum_kind_law k = ap kind_of k

  pub print_kind_law : IsPrint f i → kind_of (word f i kind_word) ≡ k_goal k_print
  unfolding kind_of kinds nth
  print_kind_law k = ap kind_of k

  pub test_kind_law : IsTest f i → kind_of (word f i kind_word) ≡ k_goal k_test
  unfolding kind_of kinds nth
  test_kind_law k = ap kind_of k

  pub assign_kind_law : IsAssign f i → kind_of (word f i kind_word) ≡ k_goal k_assign
  unfolding kind_of kinds nth
  assign_kind_law k = ap kind_of k

  pub switch_kind_law : IsSwitch f i → kind_of (word f i kind_word) ≡ k_goal k_switch
  unfolding kind_of kinds nth
  switch_kind_law k = ap kind_of k

  pub create_kind_law : IsCreate f i → kind_of (word f i kind_word) ≡ k_goal k_create
  unfolding kind_of kinds nth
  create_kind_law k = ap kind_of k

  pub remove_kind_law : IsRemove f i → kind_of (word f i kind_word) ≡ k_goal k_remove
  unfolding kind_of kinds nth
  remove_kind_law k = ap kind_of k

-- ---- the test by the kind
arms_same : {f t : List ℕ} (P : Program) {S : Signature} → Window f S t → (r : ℕ) {es : List Edge} → es ≡ (region_at S r).edges → (cs : Arms)
    → arms_in t es cs ≡ arms_here P S cs r
unfolding arms_in arms_here
arms_same P W r e no_arms = refl
arms_same P W r e (arm fn ys gs cs) = ap₂ ◌&◌ (all_in_targets P W r fn e 1 (arguments_of ys)) (arms_same P W r e cs)

module _ {f own : List ℕ} {i : ℕ} (H : Here f own i) where
  pub assign_agrees : {w x y r u : ℕ} {b : Bool} → w ≡ word f i kind_word → w ≡ assign_kind → x ≡ word f i goal_x → r ≡ home_in own x → y ≡ word f i assign_y
      → u ≡ home_in own y → b ≡ eqb r u → b ≡ record_test (agrees f) f i
  unfolding agrees_here step_regions
  assign_agrees wk k e j g l h =
      let n = assign_kind_law f i (sym wk ∙ k) in
      let W = H.window k_assign n in
      goal_test i H.formed k_assign n (assign_here H.formed wk k).goal (h ∙ ap₂ eqb (j ∙ ap (home_in own) e ∙ W.home _) (l ∙ ap (home_in own) g ∙ W.home _))

  -- the edges of the region of variable x
  module _ (g : GoalKind) (n : kind_of (word f i kind_word) ≡ k_goal g) {x r es : ℕ} (e : x ≡ word f i goal_x) (j : r ≡ home_in own x) (l : es ≡ edges_in own r) where
    pub edges_stand : Stands f File.edges es
    edges_stand = rw l ((H.window g n).edges_stand r)

    edges_here : edges_at f es ≡ (region_at (signature_at f i) (region_of (signature_at f i) (word f i goal_x))).edges
    edges_here =
        let W = H.window g n in
        ap (edges_at f) (l ∙ ap (edges_in own) (j ∙ ap (home_in own) e ∙ W.home _)) ∙ W.edges _

  pub construct_agrees : {w x r es : ℕ} {b : Bool} → w ≡ word f i kind_word → w ≡ construct_kind → x ≡ word f i goal_x → r ≡ home_in own x → es ≡ edges_in own r
      → b ≡ all_in own (edges_at f es) (word f i term_functor) 1 (arguments_here f i) → b ≡ record_test (agrees f) f i
  unfolding agrees_here step_regions arguments_here
  construct_agrees wk k e j l h =
      let n = construct_kind_law f i (sym wk ∙ k) in
      goal_test i H.formed k_construct n (construct_here H.formed wk k).goal
      (h ∙ all_in_targets (program f) (H.window k_construct n) _ (word f i term_functor) (edges_here k_construct n e j l) 1 _)

  pub switch_agrees : {w x r es cs : ℕ} {b : Bool} → w ≡ word f i kind_word → w ≡ switch_kind → x ≡ word f i goal_x → r ≡ home_in own x → es ≡ edges_in own r
      → cs ≡ word f i switch_arms → b ≡ arms_in own (edges_at f es) (arms_at f cs) → b ≡ record_test (agrees f) f i
  unfolding agrees_here
  switch_agrees {es = es} wk k e j l c h =
      let n = switch_kind_law f i (sym wk ∙ k) in
      goal_test i H.formed k_switch n (switch_here H.formed wk k).goal
      (h ∙ ap (λ (a : ℕ). arms_in own (edges_at f es) (arms_at f a)) c ∙ arms_same (program f) (H.window k_switch n) _ (edges_here k_switch n e j l) (arms_at f (word f i switch_arms)))

-- any other record
module _ {f : List ℕ} (i : ℕ) (F : Formed f) {w : ℕ} (e : w ≡ word f i kind_word) (n10 : w ≡ assign_kind → ⊥) (n11 : w ≡ construct_kind → ⊥) (n12 : w ≡ switch_kind → ⊥)
    (n15 : w ≡ call_kind → ⊥) where
  other_test : (k : Kind) → kind_of (word f i kind_word) ≡ k → true ≡ record_test (agrees f) f i
  unfolding if_goal agrees_here step_regions all_rows
  other_test k_none k = sym (record_kind (agrees f) F i k_none k)
  other_test k_header k = sym (record_kind (agrees f) F i k_header k)
  other_test k_type k = sym (record_kind (agrees f) F i k_type k)
  other_test k_functor k = sym (record_kind (agrees f) F i k_functor k)
  other_test k_procedure k = sym (record_kind (agrees f) F i k_procedure k)
  other_test k_variable k = sym (record_kind (agrees f) F i k_variable k)
  other_test k_region k = sym (record_kind (agrees f) F i k_region k)
  other_test k_edge k = sym (record_kind (agrees f) F i k_edge k)
  other_test k_arm k = sym (record_kind (agrees f) F i k_arm k)
  other_test k_argument k = sym (record_kind (agrees f) F i k_argument k)
  other_test (k_goal k_literal) k = goal_test i F k_literal k (literal_at F refl (same_read f i refl k)).goal refl
  other_test (k_goal k_sum) k = goal_test i F k_sum k (sum_at_law F refl (same_read f i refl k)).goal refl
  other_test (k_goal k_assign) k = absurd (n10 (e ∙ goal_number (word f i kind_word) k_assign k))
  other_test (k_goal k_construct) k = absurd (n11 (e ∙ goal_number (word f i kind_word) k_construct k))
  other_test (k_goal k_switch) k = absurd (n12 (e ∙ goal_number (word f i kind_word) k_switch k))
  other_test (k_goal k_if) k = goal_test i F k_if k (if_at F refl (same_read f i refl k)).goal refl
  other_test (k_goal k_call) k = absurd (n15 (e ∙ goal_number (word f i kind_word) k_call k))
  other_test (k_goal k_print) k = goal_test i F k_print k (print_at F refl (same_read f i refl k)).goal refl
  other_test (k_goal k_create) k = goal_test i F k_create k (create_at F refl (same_read f i refl k)).goal refl
  other_test (k_goal k_remove) k = goal_test i F k_remove k (remove_at F refl (same_read f i refl k)).goal refl
  other_test (k_goal k_try) k = goal_test i F k_try k (try_at F refl (same_read f i refl k)).goal refl
  other_test (k_goal k_test) k = goal_test i F k_test k (test_at F refl (same_read f i refl k)).goal refl

  pub other_agrees : true ≡ record_test (agrees f) f i
  other_agrees = other_test (kind_of (word f i kind_word)) refl

-- ---- along a chain of arms: the rest from record a on decides
module _ (f t : List ℕ) (es : List Edge) (a : ℕ) (F : Formed f) (s : Stands f File.arms a) (z : a ≡ 0 → ⊥) {b : Bool}
    (m : b ≡ all_in t es (word f a term_functor) 1 (arguments_here f a)) where
  pub arms_stop : b ≡ false → false ≡ arms_in t es (arms_at f a)
  unfolding arms_in arguments_here
  arms_stop q = rw (arm_here F z s).view (and_stop _ (sym m ∙ q))

  pub arms_on : {w : ℕ} → b ≡ true → w ≡ word f a next_word → arms_in t es (arms_at f w) ≡ arms_in t es (arms_at f a)
  unfolding arms_in arguments_here
  arms_on q e = rw ((arm_here F z s).view, e) (and_on (sym m ∙ q) refl)

pub arms_last : (f t : List ℕ) (es : List Edge) {a : ℕ} → a ≡ 0 → true ≡ arms_in t es (arms_at f a)
unfolding arms_in
arms_last f t es z = rw (arms_none f z) refl
