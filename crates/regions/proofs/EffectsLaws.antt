-- Laws of `specs/Effects` that only proofs cite.
use Prim.Native.Nat.{ℕ, ◌<◌}
use mathlib.Core.Bool.{Bool, true, false, false≢true}
use mathlib.Core.List.{List}
use mathlib.Core.Path.{◌≡◌, refl, sym, ap, ◌∙◌}
use Rattle.sets.specs.Sets.{single, single_zero}
use Rattle.language.specs.File.{GoalKind, k_literal, k_sum, k_assign, k_construct, k_switch, k_if, k_call, k_print, k_create, k_remove, k_try, k_test, k_goal, kind_of, word, record_count}
use Rattle.language.specs.Format.{kind_word, literal_kind, sum_kind, assign_kind, construct_kind, call_kind, print_kind, create_kind, remove_kind, test_kind, goal_x, lifetime_region}
use Rattle.language.specs.Program.{Four, Step, construct, create, remove, Goal, step, switch, if_less, try, Signature, Program, region_of}
use Rattle.language.specs.Lifetimes
use Rattle.language.specs.Lifetimes.{effect, no_effect}
use Rattle.language.specs.Answers.{program}
use Rattle.chains.specs.Layout.{all_rows}
use Rattle.chains.specs.Formed.{Formed, goal_at}
use Rattle.chains.specs.Kinds.{same_read}
use Rattle.chains.specs.Goals.{literal_at, sum_at_law, assign_at, print_at, test_at}
use Rattle.chains.specs.Parts.{switch_at, if_at, try_at}
use Rattle.chains.specs.Shapes.{IsLiteral, IsSum, IsAssign, IsConstruct, IsSwitch, IsCall, IsPrint, IsCreate, IsRemove, IsTest, goal_number, goal_kind, literal_here, sum_here, assign_here, construct_here, switch_here, call_here, print_here, create_here, remove_here, test_here}
use Rattle.tables.specs.Window.{home_in}
use Rattle.tables.specs.Filled.{GoalIsStep}
use Rattle.tables.specs.declared.Effect.{Effect}
use Rattle.regions.specs.Here.{signature_at, Here, construct_kind_law, call_kind_law}
use Rattle.regions.proofs.HereLaws.{literal_kind_law, sum_kind_law, assign_kind_law, print_kind_law, test_kind_law, create_kind_law, remove_kind_law}
use Rattle.regions.specs.Effects.{EffectAt, Effects, NoStep, SomeStep, effect_made, region_effect, same_step, step_at}

module _ (P : Program) (S : Signature) where
  construct_effect : (x f : ℕ) (ws : Four) {r : ℕ} → r ≡ region_of S x → Effects P S (construct x f ws) (region_effect r 0 0)
  unfolding effect region_effect
  construct_effect x f ws e = record { needs = ap single e; bears = single_zero; ends = single_zero; unshared = refl }

  create_effect : (r : ℕ) → Effects P S (create r) (region_effect 0 r 0)
  unfolding effect region_effect
  create_effect r = record { needs = single_zero; bears = refl; ends = single_zero; unshared = refl }

  remove_effect : (r : ℕ) → Effects P S (remove r) (region_effect r 0 r)
  unfolding effect region_effect
  remove_effect r = record { needs = refl; bears = single_zero; ends = refl; unshared = refl }

  pub none_effect : {g : Step} → effect P S g ≡ no_effect → Effects P S g (region_effect 0 0 0)
  unfolding no_effect region_effect
  none_effect e = record {
    needs = single_zero ∙ sym (ap (λ (x : Lifetimes.Effect). x.needs) e);
    bears = single_zero ∙ sym (ap (λ (x : Lifetimes.Effect). x.bears) e);
    ends = single_zero ∙ sym (ap (λ (x : Lifetimes.Effect). x.ends) e);
    unshared = sym (ap (λ (x : Lifetimes.Effect). x.unshared) e);
  }

-- ---- the step that a goal is
unfoldable pub is_step : Goal → Bool
is_step (step s) = true
is_step (switch x cs) = false
is_step (if_less y z a b) = false
is_step (try c a b) = false

pub no_step : (f : List ℕ) (i : ℕ) {h : Goal} → goal_at f i ≡ h → is_step h ≡ false → NoStep f i
unfolding is_step
no_step f i v z g s = false≢true (sym z ∙ ap is_step (sym v ∙ s.view))

-- where the goal at record i is the step h, its effect is that of the step at record i
module _ {f : List ℕ} {i : ℕ} (p : 0 < i) (q : i < record_count f) (k : GoalKind) (n : kind_of (word f i kind_word) ≡ k_goal k) {h : Step} (v : goal_at f i ≡ step h) where
  effect_none : {e : Effect} → effect (program f) (signature_at f i) h ≡ no_effect → e ≡ region_effect 0 0 0 → EffectAt f i e
  effect_none m d = rw d (effect_made p q k n v (none_effect (program f) (signature_at f i) m))

-- ---- by the kind, and the words that the code has read
module _ {f : List ℕ} {i : ℕ} (F : Formed f) (p : 0 < i) (q : i < record_count f) where
  -- literals, sums, prints and tests have none
  pub literal_made : {e : Effect} → IsLiteral f i → e ≡ region_effect 0 0 0 → EffectAt f i e
  unfolding effect
  literal_made k = effect_none p q k_literal (literal_kind_law f i k) (literal_here F refl k).goal refl

  pub sum_made : {e : Effect} → IsSum f i → e ≡ region_effect 0 0 0 → EffectAt f i e
  unfolding effect
  sum_made k = effect_none p q k_sum (sum_kind_law f i k) (sum_here F refl k).goal refl

  pub print_made : {e : Effect} → IsPrint f i → e ≡ region_effect 0 0 0 → EffectAt f i e
  unfolding effect
  print_made k = effect_none p q k_print (print_kind_law f i k) (print_here F refl k).goal refl

  pub test_made : {e : Effect} → IsTest f i → e ≡ region_effect 0 0 0 → EffectAt f i e
  unfolding effect
  test_made k = effect_none p q k_test (test_kind_law f i k) (test_here F refl k).goal refl

  -- steps that ask for a window
  pub assign_step : IsAssign f i → SomeStep f i
  assign_step k = (_, step_at f i (assign_here F refl k).goal k_assign (assign_kind_law f i k) p q)

  pub construct_step : IsConstruct f i → SomeStep f i
  construct_step k = (_, step_at f i (construct_here F refl k).goal k_construct (construct_kind_law f i k) p q)

  pub create_step : IsCreate f i → SomeStep f i
  create_step k = (_, step_at f i (create_here F refl k).goal k_create (create_kind_law f i k) p q)

  pub remove_step : IsRemove f i → SomeStep f i
  remove_step k = (_, step_at f i (remove_here F refl k).goal k_remove (remove_kind_law f i k) p q)

pub call_step : {f : List ℕ} {i : ℕ} → Formed f → IsCall f i → SomeStep f i
call_step {f} {i} F k = let v = call_here F refl k in (_, step_at f i v.goal k_call (call_kind_law f i k) v.some v.below)

-- no step
pub switch_none : {f : List ℕ} {i : ℕ} → Formed f → IsSwitch f i → NoStep f i
unfolding is_step
switch_none {f} {i} F k = no_step f i (switch_here F refl k).goal refl

module _ {f : List ℕ} {i : ℕ} (F : Formed f) {w : ℕ} (e : w ≡ word f i kind_word) (n8 : w ≡ literal_kind → ⊥) (n9 : w ≡ sum_kind → ⊥) (n10 : w ≡ assign_kind → ⊥)
    (n11 : w ≡ construct_kind → ⊥) (n15 : w ≡ call_kind → ⊥) (n17 : w ≡ print_kind → ⊥) (n18 : w ≡ create_kind → ⊥) (n19 : w ≡ remove_kind → ⊥)
    (n21 : w ≡ test_kind → ⊥) where
  none_left : (k : GoalKind) → kind_of (word f i kind_word) ≡ k_goal k → NoStep f i
  unfolding all_rows is_step
  none_left k_literal k = absurd (n8 (e ∙ goal_number (word f i kind_word) k_literal k))
  none_left k_sum k = absurd (n9 (e ∙ goal_number (word f i kind_word) k_sum k))
  none_left k_assign k = absurd (n10 (e ∙ goal_number (word f i kind_word) k_assign k))
  none_left k_construct k = absurd (n11 (e ∙ goal_number (word f i kind_word) k_construct k))
  none_left k_switch k = no_step f i (switch_at F refl (same_read f i refl k)).goal refl
  none_left k_if k = no_step f i (if_at F refl (same_read f i refl k)).goal refl
  none_left k_call k = absurd (n15 (e ∙ goal_number (word f i kind_word) k_call k))
  none_left k_print k = absurd (n17 (e ∙ goal_number (word f i kind_word) k_print k))
  none_left k_create k = absurd (n18 (e ∙ goal_number (word f i kind_word) k_create k))
  none_left k_remove k = absurd (n19 (e ∙ goal_number (word f i kind_word) k_remove k))
  none_left k_try k = no_step f i (try_at F refl (same_read f i refl k)).goal refl
  none_left k_test k = absurd (n21 (e ∙ goal_number (word f i kind_word) k_test k))

  pub no_step_left : NoStep f i
  no_step_left g s = let k = goal_kind s.stands s.some in none_left k.0 k.1 g s

-- ---- any goal but a call, by its kind
module _ {f own : List ℕ} {i : ℕ} (H : Here f own i) where
  pub construct_made : {w x r : ℕ} {e : Effect} → w ≡ word f i kind_word → w ≡ construct_kind → x ≡ word f i goal_x → r ≡ home_in own x → e ≡ region_effect r 0 0
      → EffectAt f i e
  construct_made wk k j l d =
      let n = construct_kind_law f i (sym wk ∙ k) in
      rw d (effect_made H.some H.below k_construct n (construct_here H.formed wk k).goal
      (construct_effect (program f) (signature_at f i) _ _ _ (l ∙ ap (home_in own) j ∙ (H.window k_construct n).home _)))

  pub create_made : {w r : ℕ} {e : Effect} → w ≡ word f i kind_word → w ≡ create_kind → r ≡ word f i lifetime_region → e ≡ region_effect 0 r 0 → EffectAt f i e
  create_made wk k j d =
      rw (d, j) (effect_made H.some H.below k_create (create_kind_law f i (sym wk ∙ k)) (create_here H.formed wk k).goal (create_effect (program f) (signature_at f i) _))

  pub remove_made : {w r : ℕ} {e : Effect} → w ≡ word f i kind_word → w ≡ remove_kind → r ≡ word f i lifetime_region → e ≡ region_effect r 0 r → EffectAt f i e
  remove_made wk k j d =
      rw (d, j) (effect_made H.some H.below k_remove (remove_kind_law f i (sym wk ∙ k)) (remove_here H.formed wk k).goal (remove_effect (program f) (signature_at f i) _))

  module _ {w : ℕ} (e : w ≡ word f i kind_word) (n11 : w ≡ construct_kind → ⊥) (n18 : w ≡ create_kind → ⊥) (n19 : w ≡ remove_kind → ⊥) (n15 : IsCall f i → ⊥)
      (one : SomeStep f i) where
    none_at : (k : GoalKind) → kind_of (word f i kind_word) ≡ k_goal k → (g : Step) → GoalIsStep f i g → Effects (program f) (signature_at f i) g (region_effect 0 0 0)
    unfolding effect all_rows is_step
    none_at k_literal k g s = same_step f i (literal_at H.formed refl (same_read f i refl k)).goal (none_effect (program f) (signature_at f i) refl) g s
    none_at k_sum k g s = same_step f i (sum_at_law H.formed refl (same_read f i refl k)).goal (none_effect (program f) (signature_at f i) refl) g s
    none_at k_assign k g s = same_step f i (assign_at H.formed refl (same_read f i refl k)).goal (none_effect (program f) (signature_at f i) refl) g s
    none_at k_construct k g s = absurd (n11 (e ∙ goal_number (word f i kind_word) k_construct k))
    none_at k_switch k g s = absurd (no_step f i (switch_at H.formed refl (same_read f i refl k)).goal refl g s)
    none_at k_if k g s = absurd (no_step f i (if_at H.formed refl (same_read f i refl k)).goal refl g s)
    none_at k_call k g s = absurd (n15 (goal_number (word f i kind_word) k_call k))
    none_at k_print k g s = same_step f i (print_at H.formed refl (same_read f i refl k)).goal (none_effect (program f) (signature_at f i) refl) g s
    none_at k_create k g s = absurd (n18 (e ∙ goal_number (word f i kind_word) k_create k))
    none_at k_remove k g s = absurd (n19 (e ∙ goal_number (word f i kind_word) k_remove k))
    none_at k_try k g s = absurd (no_step f i (try_at H.formed refl (same_read f i refl k)).goal refl g s)
    none_at k_test k g s = same_step f i (test_at H.formed refl (same_read f i refl k)).goal (none_effect (program f) (signature_at f i) refl) g s

    pub none_made : {d : Effect} → d ≡ region_effect 0 0 0 → EffectAt f i d
    none_made m = record {
      one = one;
      made = λ g s. let k = goal_kind s.stands s.some in rw m (none_at k.0 k.1 g s);
    }
