-- The code's test of each kind's words says what the kind's row says.
use Prim.Native.Nat.{ℕ, ◌-◌, ◌≤◌, ◌<◌}
use native.Mathlib.Omega.{arith}
use mathlib.Core.List.{List}
use mathlib.Core.Path.{◌≡◌, refl, sym, ap, ◌∙◌}
use mathlib.Core.Bool.{Bool, true, false, false≢true}
use lib.Dec.{eqb, leb}
use borrow.Author.Tests.{ne_eqb}
use Rattle.sets.specs.Tests.{◌&◌, ◌or◌}
use Rattle.language.specs.Format.{kind_word, header_kind, type_kind, procedure_kind, region_kind, switch_kind, arm_kind, if_kind, call_kind, try_kind, header_types, type_functors, procedure_goals, region_edges, switch_arms, arm_goals, if_then, if_else, call_arguments, try_else}
use Rattle.language.specs.Lists.{nth, all, up_from}
use Rattle.language.specs.File.{k_literal, k_sum, k_assign, k_construct, k_switch, k_if, k_call, k_print, k_create, k_remove, k_try, k_test, Kind, k_none, k_header, k_type, k_functor, k_procedure, k_variable, k_region, k_edge, k_arm, k_argument, k_goal, unused, row, kind_of, word}
use Rattle.laws.specs.Numbers.{all_at}
use Rattle.records.specs.Sizes.{record_words}
use Rattle.chains.specs.Layout.{all_rows, number_is}
use Rattle.chains.specs.Shapes.{kind_number}
use Rattle.writer.specs.Leads.{is_first, leads_at}

-- two tests agree
unfoldable agree : Bool → Bool → Bool
agree true b = b
agree false true = false
agree false false = true

agree_is : (a b : Bool) → agree a b ≡ true → a ≡ b
unfolding agree
agree_is true b e = sym e
agree_is false true e = absurd (false≢true e)
agree_is false false e = refl

-- a test of words 2 to 7 says what the row of the kind says
abbrev Right : Kind → (ℕ → Bool) → Type 0
Right kd p = all (λ k. agree (p k) (is_first (nth unused (row kd).words (k - 2)))) (up_from 2 6) ≡ true

unfoldable opened : Unit {0}
unfolding all_rows all up_from agree nth is_first ◌&◌
opened = tt

module _ {k : ℕ} (l : 2 ≤ k) (m : k < record_words) where
  right : (v : ℕ) (kd : Kind) → kind_of v ≡ kd → (p : ℕ → Bool) → Right kd p → p k ≡ leads_at v k
  unfolding leads_at
  right v kd e p h =
      agree_is (p k) (is_first (nth unused (row kd).words (k - 2))) (all_at 6 2 (λ j. agree (p j) (is_first (nth unused (row kd).words (j - 2)))) h k l m)
      ∙ ap (λ c. is_first (nth unused (row c).words (k - 2))) (sym e)

module _ {w k : ℕ} (l : 2 ≤ k) (m : k < record_words) where
  pub header_leads : w ≡ header_kind → eqb k header_types ≡ leads_at w k
  unfolding opened
  header_leads e = right l m w k_header (number_is k_header w e) (λ j. eqb j header_types) refl

  pub type_leads : w ≡ type_kind → eqb k type_functors ≡ leads_at w k
  unfolding opened
  type_leads e = right l m w k_type (number_is k_type w e) (λ j. eqb j type_functors) refl

  pub procedure_leads : w ≡ procedure_kind → leb k procedure_goals ≡ leads_at w k
  unfolding opened
  procedure_leads e = right l m w k_procedure (number_is k_procedure w e) (λ j. leb j procedure_goals) refl

  pub region_leads : w ≡ region_kind → eqb k region_edges ≡ leads_at w k
  unfolding opened
  region_leads e = right l m w k_region (number_is k_region w e) (λ j. eqb j region_edges) refl

  pub switch_leads : w ≡ switch_kind → eqb k switch_arms ≡ leads_at w k
  unfolding opened
  switch_leads e = right l m w (k_goal k_switch) (number_is (k_goal k_switch) w e) (λ j. eqb j switch_arms) refl

  pub arm_leads : w ≡ arm_kind → eqb k arm_goals ≡ leads_at w k
  unfolding opened
  arm_leads e = right l m w k_arm (number_is k_arm w e) (λ j. eqb j arm_goals) refl

  pub call_leads : w ≡ call_kind → eqb k call_arguments ≡ leads_at w k
  unfolding opened
  call_leads e = right l m w (k_goal k_call) (number_is (k_goal k_call) w e) (λ j. eqb j call_arguments) refl

  pub try_leads : w ≡ try_kind → leb k try_else ≡ leads_at w k
  unfolding opened
  try_leads e = right l m w (k_goal k_try) (number_is (k_goal k_try) w e) (λ j. leb j try_else) refl

  pub then_leads : w ≡ if_kind → k ≡ if_then → true ≡ leads_at w k
  unfolding opened leads_at
  then_leads e z = rw (z, number_is (k_goal k_if) w e) refl

  pub else_leads : w ≡ if_kind → (k ≡ if_then → ⊥) → eqb k if_else ≡ leads_at w k
  unfolding opened ◌or◌
  else_leads e z = let h = right l m w (k_goal k_if) (number_is (k_goal k_if) w e) (λ j. eqb j if_then or eqb j if_else) refl in rw (ne_eqb k if_then z) at h

  -- ---- no other
  module _ (n1 : w ≡ header_kind → ⊥) (n2 : w ≡ type_kind → ⊥) (n4 : w ≡ procedure_kind → ⊥) (n6 : w ≡ region_kind → ⊥) (n12 : w ≡ switch_kind → ⊥)
      (n13 : w ≡ arm_kind → ⊥) (n14 : w ≡ if_kind → ⊥) (n15 : w ≡ call_kind → ⊥) (n20 : w ≡ try_kind → ⊥) where
    some : (kd : Kind) → kind_of w ≡ kd → (kd ≡ k_none → ⊥) → (w ≡ (row kd).kind → ⊥) → ⊥
    some kd e n h = h (kind_number w kd e n)

    none_at : (kd : Kind) → kind_of w ≡ kd → false ≡ leads_at w k
    unfolding opened
    none_at k_none e = right l m w k_none e (λ j. false) refl
    none_at k_header e = absurd (some k_header e (λ q. let z : ◌≡◌ {A = ℕ} 0 1 = cc in omega arith) n1)
    none_at k_type e = absurd (some k_type e (λ q. let z : ◌≡◌ {A = ℕ} 0 1 = cc in omega arith) n2)
    none_at k_functor e = right l m w k_functor e (λ j. false) refl
    none_at k_procedure e = absurd (some k_procedure e (λ q. let z : ◌≡◌ {A = ℕ} 0 1 = cc in omega arith) n4)
    none_at k_variable e = right l m w k_variable e (λ j. false) refl
    none_at k_region e = absurd (some k_region e (λ q. let z : ◌≡◌ {A = ℕ} 0 1 = cc in omega arith) n6)
    none_at k_edge e = right l m w k_edge e (λ j. false) refl
    none_at k_arm e = absurd (some k_arm e (λ q. let z : ◌≡◌ {A = ℕ} 0 1 = cc in omega arith) n13)
    none_at k_argument e = right l m w k_argument e (λ j. false) refl
    none_at (k_goal k_literal) e = right l m w (k_goal k_literal) e (λ j. false) refl
    none_at (k_goal k_sum) e = right l m w (k_goal k_sum) e (λ j. false) refl
    none_at (k_goal k_assign) e = right l m w (k_goal k_assign) e (λ j. false) refl
    none_at (k_goal k_construct) e = right l m w (k_goal k_construct) e (λ j. false) refl
    none_at (k_goal k_switch) e = absurd (some (k_goal k_switch) e (λ q. let z : ◌≡◌ {A = ℕ} 0 1 = cc in omega arith) n12)
    none_at (k_goal k_if) e = absurd (some (k_goal k_if) e (λ q. let z : ◌≡◌ {A = ℕ} 0 1 = cc in omega arith) n14)
    none_at (k_goal k_call) e = absurd (some (k_goal k_call) e (λ q. let z : ◌≡◌ {A = ℕ} 0 1 = cc in omega arith) n15)
    none_at (k_goal k_print) e = right l m w (k_goal k_print) e (λ j. false) refl
    none_at (k_goal k_create) e = right l m w (k_goal k_create) e (λ j. false) refl
    none_at (k_goal k_remove) e = right l m w (k_goal k_remove) e (λ j. false) refl
    none_at (k_goal k_try) e = absurd (some (k_goal k_try) e (λ q. let z : ◌≡◌ {A = ℕ} 0 1 = cc in omega arith) n20)
    none_at (k_goal k_test) e = right l m w (k_goal k_test) e (λ j. false) refl

    pub none_leads : false ≡ leads_at w k
    none_leads = none_at (kind_of w) refl

-- the test of a record's kind that the code has read
pub told : (f : List ℕ) (i k : ℕ) {b r : Bool} {w : ℕ} → r ≡ leads_at w k → w ≡ word f i kind_word → r ≡ b → leads_at (word f i kind_word) k ≡ b
told f i k e g h = ap (λ v. leads_at v k) (sym g) ∙ sym e ∙ h
