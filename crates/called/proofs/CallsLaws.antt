-- Laws of `specs/Calls` that only proofs cite.
use Prim.Native.Nat.{ℕ, ◌-◌, ◌<◌}
use native.Mathlib.Decide.{ℕ_discrete}
use native.Mathlib.Omega.{arith}
use mathlib.Core.Bool.{Bool, true, false}
use mathlib.Core.List.{List, ◌∷◌, ◌++◌, []}
use mathlib.Core.Logic.{◌⊎◌, inl, inr, ⊎_elim}
use mathlib.Core.Path.{◌≡◌, refl, sym, ap, ◌∙◌, fun_ext}
use borrow.Author.Tests.{eq-eqb, ne_eqb, ltb-true}
use lib.Dec.{eqb}
use lib.ListN.{length}
use Rattle.sets.specs.Tests.{neg, truth, clash, false_of, and_true, true_and, neg_true, true_neg}
use Rattle.sets.specs.Members.{in_list, cons_here, cons_in, nil_in}
use Rattle.language.specs.Lists.{choose}
use Rattle.language.specs.Format.{kind_word, call_procedure, max_procedures}
use Rattle.language.specs.File.{k_literal, k_sum, k_assign, k_construct, k_switch, k_if, k_call, k_print, k_create, k_remove, k_try, k_test, Kind, k_none, k_header, k_type, k_functor, k_procedure, k_variable, k_region, k_edge, k_arm, k_argument, k_goal, kind_of, word, record_count}
use Rattle.language.specs.Program.{Goals, done, ◌then◌, Goal, step, switch, if_less, try, Arms, no_arms, arm, Program, procedure_at, signature_of}
use Rattle.language.specs.Typing.{step_ok, goal_ok, typing_ok}
use Rattle.language.specs.CallChains.{step_callees, goals_callees, goal_callees, arms_callees, callees}
use Rattle.language.specs.Answers.{program}
use Rattle.laws.specs.Choices.{choose_true, choose_false}
use Rattle.laws.specs.Numbers.{at_fails}
use Rattle.laws.specs.Lists.{append_in, append_left, append_right}
use Rattle.laws.specs.Typed.{procedures_count}
use Rattle.call_graph.specs.Chains.{caller_below}
use Rattle.chains.specs.Layout.{all_rows, number_is}
use Rattle.chains.specs.Formed.{Formed, goal_at}
use Rattle.chains.specs.Kinds.{same_read}
use Rattle.chains.specs.Goals.{literal_at, sum_at_law, assign_at, construct_at, print_at, create_at, remove_at, test_at}
use Rattle.chains.specs.Parts.{switch_at, if_at, try_at, call_at}
use Rattle.chains.specs.Shapes.{goal_number, call_here}
use Rattle.owners.specs.Owner.{owner_of}
use Rattle.owners.specs.Owners.{kind_goals}
use Rattle.owners.specs.Below.{goals_pass, goal_owner_below}
use Rattle.owners.specs.Typed.{typed_goal}
use Rattle.owners.specs.Everywhere.{all_goals, all_goal, all_arms, every_goal, if_goal, record_test, every_record}
use Rattle.owners.specs.Numbered.{at_every, every_at}
use Rattle.owners.specs.TreeLaw.{record_kind, goals_records, every_record_law}
use Rattle.called.specs.Calls.{CallOf}

-- ---- one goal, its parts aside, does not call q
unfoldable spares : ℕ → Goal → Bool
spares q (step s) = neg (in_list q (step_callees s))
spares q (switch x cs) = true
spares q (if_less y z a b) = true
spares q (try c a b) = true

-- .. and no goal of a chain, nor of their parts
module _ (q : ℕ) where
  mutual
    unfolding all_goals spares goals_callees

    goals_spare : (gs : Goals) → (in_list q (goals_callees gs) ≡ true → ⊥) → all_goals (spares q) gs ≡ true
    goals_spare done n = refl
    goals_spare (g then gs) n =
        true_and (goal_spares g (λ e. n (append_left q (goal_callees g) (goals_callees gs) e))) (goals_spare gs (λ e. n (append_right q (goal_callees g) (goals_callees gs) e)))

    goal_spares : (g : Goal) → (in_list q (goal_callees g) ≡ true → ⊥) → all_goal (spares q) g ≡ true
    goal_spares (step s) n = true_neg (false_of n)
    goal_spares (switch x cs) n = true_and refl (arms_spare cs n)
    goal_spares (if_less y z a b) n =
        true_and refl
        (true_and (goals_spare a (λ e. n (append_left q (goals_callees a) (goals_callees b) e))) (goals_spare b (λ e. n (append_right q (goals_callees a) (goals_callees b) e))))
    goal_spares (try c a b) n =
        let m : in_list q (goals_callees c ++ goals_callees a) ≡ true → ⊥ = λ e. n (append_left q (goals_callees c ++ goals_callees a) (goals_callees b) e) in
        true_and refl
        (true_and (goals_spare c (λ e. m (append_left q (goals_callees c) (goals_callees a) e)))
        (true_and (goals_spare a (λ e. m (append_right q (goals_callees c) (goals_callees a) e)))
        (goals_spare b (λ e. n (append_right q (goals_callees c ++ goals_callees a) (goals_callees b) e)))))

    arms_spare : (cs : Arms) → (in_list q (arms_callees cs) ≡ true → ⊥) → all_arms (spares q) cs ≡ true
    arms_spare no_arms n = refl
    arms_spare (arm f ys gs cs) n =
        true_and (goals_spare gs (λ e. n (append_left q (goals_callees gs) (arms_callees cs) e))) (arms_spare cs (λ e. n (append_right q (goals_callees gs) (arms_callees cs) e)))

  mutual
    unfolding all_goals spares goals_callees

    spared_goals : (gs : Goals) → all_goals (spares q) gs ≡ true → in_list q (goals_callees gs) ≡ true → ⊥
    spared_goals done h e = nil_in q e
    spared_goals (g then gs) h e = ⊎_elim (λ c. spared_goal g (and_true h).0 c) (λ c. spared_goals gs (and_true h).1 c) (append_in q (goal_callees g) (goals_callees gs) e)

    spared_goal : (g : Goal) → all_goal (spares q) g ≡ true → in_list q (goal_callees g) ≡ true → ⊥
    spared_goal (step s) h e = clash e (neg_true h)
    spared_goal (switch x cs) h e = spared_arms cs (and_true h).1 e
    spared_goal (if_less y z a b) h e =
        let r = and_true (and_true h).1 in
        ⊎_elim (λ c. spared_goals a r.0 c) (λ c. spared_goals b r.1 c) (append_in q (goals_callees a) (goals_callees b) e)
    spared_goal (try c a b) h e =
        let r = and_true (and_true h).1 in
        let t = and_true r.1 in
        ⊎_elim (λ d. ⊎_elim (λ k. spared_goals c r.0 k) (λ k. spared_goals a t.0 k) (append_in q (goals_callees c) (goals_callees a) d)) (λ d. spared_goals b t.1 d)
        (append_in q (goals_callees c ++ goals_callees a) (goals_callees b) e)

    spared_arms : (cs : Arms) → all_arms (spares q) cs ≡ true → in_list q (arms_callees cs) ≡ true → ⊥
    spared_arms no_arms h e = nil_in q e
    spared_arms (arm f ys gs cs) h e = ⊎_elim (λ c. spared_goals gs (and_true h).0 c) (λ c. spared_arms cs (and_true h).1 c) (append_in q (goals_callees gs) (arms_callees cs) e)

-- ---- no goal of procedure p calls q, asked of every goal
unfoldable spares_in : ℕ → ℕ → ℕ → Goal → Bool
spares_in p q o g = choose (eqb o p) (spares q g) true

module _ (p q : ℕ) where
  own_test : spares_in p q p ≡ spares q
  unfolding spares_in
  own_test = fun_ext λ g. choose_true (eqb p p) (spares q g) true (eq-eqb p p refl)

  other_test : (o : ℕ) (g : Goal) → (o ≡ p → ⊥) → spares_in p q o g ≡ true
  unfolding spares_in
  other_test o g z = choose_false (eqb o p) (spares q g) true (ne_eqb o p z)

  module _ (P : Program) where
    none_calls : (in_list q (callees P p) ≡ true → ⊥) → every_goal (spares_in p q) P ≡ true
    unfolding callees
    none_calls n = at_every (spares_in p q) P (λ o l. here o (ℕ_discrete o p))
      where
        here : (o : ℕ) → Dec (o ≡ p) → all_goals (spares_in p q o) (procedure_at P o).body ≡ true
        here o (yes e) = rw (e, own_test) (goals_spare q (procedure_at P p).body n)
        here o (no z) = goals_pass (spares_in p q o) (λ g. other_test o g z) (procedure_at P o).body

    some_calls : every_goal (spares_in p q) P ≡ true → in_list q (callees P p) ≡ true → ⊥
    unfolding callees
    some_calls h e =
        spared_goals q (procedure_at P p).body
        (ap (λ (L : Goal → Bool). all_goals L (procedure_at P p).body) (sym own_test) ∙ every_at (spares_in p q) P h p (caller_below P p q e)) e

-- ---- a record that calls: record i is a call in the goals of procedure p
call_goal : {f : List ℕ} {p i : ℕ} → CallOf f p i → kind_of (word f i kind_word) ≡ k_goal k_call
unfolding all_rows
call_goal {f} {p} {i} c = number_is (k_goal k_call) (word f i kind_word) c.kind

goal_passed : (k : Kind) → if_goal k true ≡ true
unfolding if_goal
goal_passed k_none = refl
goal_passed k_header = refl
goal_passed k_type = refl
goal_passed k_functor = refl
goal_passed k_procedure = refl
goal_passed k_variable = refl
goal_passed k_region = refl
goal_passed k_edge = refl
goal_passed k_arm = refl
goal_passed k_argument = refl
goal_passed (k_goal g) = refl

module _ {f : List ℕ} (F : Formed f) (p q : ℕ) where
  -- a record that does not pass is a call of q
  call_kind_law : (i : ℕ) (k : Kind) → kind_of (word f i kind_word) ≡ k → if_goal k (spares q (goal_at f i)) ≡ false
      → (k ≡ k_goal k_call) × (word f i call_procedure ≡ q)
  unfolding if_goal spares step_callees neg in_list
  call_kind_law i k_none e h = absurd (clash refl h)
  call_kind_law i k_header e h = absurd (clash refl h)
  call_kind_law i k_type e h = absurd (clash refl h)
  call_kind_law i k_functor e h = absurd (clash refl h)
  call_kind_law i k_procedure e h = absurd (clash refl h)
  call_kind_law i k_variable e h = absurd (clash refl h)
  call_kind_law i k_region e h = absurd (clash refl h)
  call_kind_law i k_edge e h = absurd (clash refl h)
  call_kind_law i k_arm e h = absurd (clash refl h)
  call_kind_law i k_argument e h = absurd (clash refl h)
  call_kind_law i (k_goal k_literal) e h = absurd (clash (ap (spares q) (literal_at F refl (same_read f i refl e)).goal) h)
  call_kind_law i (k_goal k_sum) e h = absurd (clash (ap (spares q) (sum_at_law F refl (same_read f i refl e)).goal) h)
  call_kind_law i (k_goal k_assign) e h = absurd (clash (ap (spares q) (assign_at F refl (same_read f i refl e)).goal) h)
  call_kind_law i (k_goal k_construct) e h = absurd (clash (ap (spares q) (construct_at F refl (same_read f i refl e)).goal) h)
  call_kind_law i (k_goal k_switch) e h = absurd (clash (ap (spares q) (switch_at F refl (same_read f i refl e)).goal) h)
  call_kind_law i (k_goal k_if) e h = absurd (clash (ap (spares q) (if_at F refl (same_read f i refl e)).goal) h)
  call_kind_law i (k_goal k_call) e h = (refl, called (ap (spares q) (sym (call_at F refl (same_read f i refl e)).goal) ∙ h))
    where
      called : neg (in_list q (word f i call_procedure ∷ [])) ≡ false → word f i call_procedure ≡ q
      called n = only (truth (in_list q (word f i call_procedure ∷ [])))
        where
          only : (in_list q (word f i call_procedure ∷ []) ≡ true) ⊎ (in_list q (word f i call_procedure ∷ []) ≡ false) → word f i call_procedure ≡ q
          only (inl t) = ⊎_elim (λ z. z) (λ z. absurd (nil_in q z)) (cons_in q (word f i call_procedure) [] t)
          only (inr t) = absurd (clash (true_neg t) n)
  call_kind_law i (k_goal k_print) e h = absurd (clash (ap (spares q) (print_at F refl (same_read f i refl e)).goal) h)
  call_kind_law i (k_goal k_create) e h = absurd (clash (ap (spares q) (create_at F refl (same_read f i refl e)).goal) h)
  call_kind_law i (k_goal k_remove) e h = absurd (clash (ap (spares q) (remove_at F refl (same_read f i refl e)).goal) h)
  call_kind_law i (k_goal k_try) e h = absurd (clash (ap (spares q) (try_at F refl (same_read f i refl e)).goal) h)
  call_kind_law i (k_goal k_test) e h = absurd (clash (ap (spares q) (test_at F refl (same_read f i refl e)).goal) h)

  failed_call : (i : ℕ) → 0 < i → i < record_count f → record_test (spares_in p q) f i ≡ false → CallOf f p i × (word f i call_procedure ≡ q)
  unfolding all_rows
  failed_call i a b h = go (ℕ_discrete (owner_of f i) p)
    where
      k : Kind
      k = kind_of (word f i kind_word)

      fails : if_goal k (spares_in p q (owner_of f i) (goal_at f i)) ≡ false
      fails = sym (record_kind (spares_in p q) F i k refl) ∙ h

      go : Dec (owner_of f i ≡ p) → CallOf f p i × (word f i call_procedure ≡ q)
      go (yes e) =
          let c = call_kind_law i k refl (ap (λ (L : Goal → Bool). if_goal k (L (goal_at f i))) (sym (own_test p q)) ∙ ap (λ (o : ℕ). if_goal k (spares_in p q o (goal_at f i))) (sym e) ∙ fails) in
          (record { some = a; below = b; kind = goal_number (word f i kind_word) k_call c.0; owner = e }, c.1)
      go (no z) = absurd (clash (ap (if_goal k) (other_test p q (owner_of f i) (goal_at f i) z) ∙ goal_passed k) fails)

  -- ---- what p calls, a record of it calls
  pub called_record : in_list q (callees (program f) p) ≡ true → (i : ℕ) × CallOf f p i × (word f i call_procedure ≡ q)
  unfolding every_record
  called_record e =
      let r = at_fails (record_count f - 1) 1 (record_test (spares_in p q) f) (false_of (λ t. some_calls p q (program f) (every_record_law (spares_in p q) F ∙ t) e)) in
      let c = failed_call r.0 (omega arith) (omega arith) r.3 in
      (r.0, c.0, c.1)

-- .. and the other way round
module _ {f : List ℕ} (F : Formed f) {p i : ℕ} (c : CallOf f p i) where
  abbrev named : ℕ
  named = word f i call_procedure

  call_test : record_test (spares_in p named) f i ≡ false
  unfolding if_goal spares step_callees neg
  call_test =
      let a = call_here F refl c.kind in
      record_kind (spares_in p named) F i (k_goal k_call) (call_goal c)
      ∙ ap (λ (o : ℕ). spares_in p named o (goal_at f i)) c.owner
      ∙ ap (λ (L : Goal → Bool). L (goal_at f i)) (own_test p named)
      ∙ ap (spares named) a.goal
      ∙ ap neg (cons_here named named [] refl)

  pub record_called : in_list named (callees (program f) p) ≡ true
  record_called =
      elim (truth (in_list named (callees (program f) p))) [
        | inl t ↦ t
        | inr n ↦ absurd (clash (goals_records (spares_in p named) F (none_calls p named (program f) (λ t. clash t n)) i c.some c.below) call_test)
      ]

-- ---- what number 3 says of it
module _ {f : List ℕ} (F : Formed f) (ok : typing_ok (program f) ≡ true) {p i : ℕ} (c : CallOf f p i) where
  pub owner_low : p < max_procedures
  owner_low =
      omega (arith, c.owner, goal_owner_below F {i = i} (λ z. omega (arith, c.some)) (kind_goals c.below k_call (call_goal c)), (procedures_count (program f) ok).1)

  pub callee_low : word f i call_procedure < length (program f).procedures
  unfolding goal_ok step_ok
  callee_low =
      ltb-true (word f i call_procedure) (length (program f).procedures)
      (and_true (ap (goal_ok (program f) (signature_of (program f) (owner_of f i))) (sym (call_here F refl c.kind).goal) ∙ typed_goal F ok i c.some c.below k_call (call_goal c))).0
