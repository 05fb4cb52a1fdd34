-- Number 6 over the records: no record is a create or a remove.
use Rattle.std.specs.Prelude.{ℕ, ◌-◌, Bool, true, false, List, ◌≡◌, eqb}
use Rattle.std.proofs.Math.Bool.{false≢true}
use Rattle.std.proofs.Math.Path.{refl, sym}
use Rattle.std.proofs.Common.{ap, ap₂, ◌∙◌, ne_eqb}
use Rattle.sets.specs.Tests.{◌&◌, ◌or◌}
use Rattle.language.specs.Lists.{choose, all, up_from}
use Rattle.language.specs.File.{k_literal, k_sum, k_assign, k_construct, k_switch, k_if, k_call, k_print, k_create, k_remove, k_try, k_test, Kind, k_none, k_header, k_type, k_functor, k_procedure, k_variable, k_region, k_edge, k_arm, k_argument, k_goal, kind_of, word, record_count}
use Rattle.language.specs.Program.{Goals, done, ◌then◌, Goal, step, switch, if_less, try, Arms, no_arms, arm, Program}
use Rattle.language.specs.Annotation.{plain_step, plain_goals, plain_goal, plain_arms, unannotated}
use Rattle.language.specs.Answers.{program}
use Rattle.language.specs.Format.{kind_word, create_kind, remove_kind}
use Rattle.records.specs.Lists.{all_same}
use Rattle.chains.specs.Formed.{Formed, goal_at}
use Rattle.chains.specs.Layout.{all_rows, number_is}
use Rattle.chains.specs.Kinds.{same_read}
use Rattle.chains.specs.Shapes.{goal_number}
use Rattle.chains.specs.Goals.{literal_at, sum_at_law, assign_at, construct_at, print_at, create_at, remove_at, test_at}
use Rattle.chains.specs.Parts.{switch_at, if_at, try_at, call_at}
use Rattle.owners.specs.Everywhere.{all_goals, all_goal, all_arms, every_goal, if_goal, every_record}
use Rattle.owners.specs.Numbered.{every_same}
use Rattle.owners.specs.TreeLaw.{record_kind, every_record_law}

-- one goal, its parts aside
unfoldable pub plain_here : Goal → Bool
plain_here (step s) = plain_step s
plain_here (switch x cs) = true
plain_here (if_less y z a b) = true
plain_here (try c a b) = true

mutual
  unfolding plain_goals all_goals plain_here ◌&◌

  plain_goals_law : (gs : Goals) → plain_goals gs ≡ all_goals plain_here gs
  plain_goals_law done = refl
  plain_goals_law (g then gs) = ap₂ ◌&◌ (plain_goal_law g) (plain_goals_law gs)

  plain_goal_law : (g : Goal) → plain_goal g ≡ all_goal plain_here g
  plain_goal_law (step s) = refl
  plain_goal_law (switch x cs) = plain_arms_law cs
  plain_goal_law (if_less y z a b) = ap₂ ◌&◌ (plain_goals_law a) (plain_goals_law b)
  plain_goal_law (try c a b) = ap₂ ◌&◌ (plain_goals_law c) (ap₂ ◌&◌ (plain_goals_law a) (plain_goals_law b))

  plain_arms_law : (cs : Arms) → plain_arms cs ≡ all_arms plain_here cs
  plain_arms_law no_arms = refl
  plain_arms_law (arm f ys gs cs) = ap₂ ◌&◌ (plain_goals_law gs) (plain_arms_law cs)

plain_program : (P : Program) → unannotated P ≡ every_goal (λ q. plain_here) P
unfolding unannotated
plain_program P = every_same (λ q. plain_here) P (λ p. plain_goals p.body) (λ q l. plain_goals_law _)

-- ---- one record, by the number of its kind
unfoldable pub plain_number : ℕ → Bool
plain_number n = choose (eqb n create_kind or eqb n remove_kind) false true

pub plain_number_law : {n : ℕ} → (n ≡ create_kind → ⊥) → (n ≡ remove_kind → ⊥) → plain_number n ≡ true
unfolding plain_number choose ◌or◌
plain_number_law {n} a b = rw (ne_eqb n create_kind a, ne_eqb n remove_kind b) refl

module _ {f : List ℕ} (F : Formed f) (i : ℕ) where
  -- a record of another kind
  other : {b : Bool} (k : Kind) → kind_of (word f i kind_word) ≡ k → b ≡ true → (k ≡ k_goal k_create → ⊥) → (k ≡ k_goal k_remove → ⊥) → b ≡ plain_number (word f i kind_word)
  unfolding all_rows
  other k e h c r = h ∙ sym (plain_number_law (λ z. c (sym e ∙ number_is (k_goal k_create) _ z)) (λ z. r (sym e ∙ number_is (k_goal k_remove) _ z)))

  plain_here_law : (k : Kind) → kind_of (word f i kind_word) ≡ k → if_goal k (plain_here (goal_at f i)) ≡ plain_number (word f i kind_word)
  unfolding if_goal plain_here plain_step plain_number choose ◌or◌ all_rows
  plain_here_law k_none e = other k_none e refl (λ d. false≢true cc) (λ d. false≢true cc)
  plain_here_law k_header e = other k_header e refl (λ d. false≢true cc) (λ d. false≢true cc)
  plain_here_law k_type e = other k_type e refl (λ d. false≢true cc) (λ d. false≢true cc)
  plain_here_law k_functor e = other k_functor e refl (λ d. false≢true cc) (λ d. false≢true cc)
  plain_here_law k_procedure e = other k_procedure e refl (λ d. false≢true cc) (λ d. false≢true cc)
  plain_here_law k_variable e = other k_variable e refl (λ d. false≢true cc) (λ d. false≢true cc)
  plain_here_law k_region e = other k_region e refl (λ d. false≢true cc) (λ d. false≢true cc)
  plain_here_law k_edge e = other k_edge e refl (λ d. false≢true cc) (λ d. false≢true cc)
  plain_here_law k_arm e = other k_arm e refl (λ d. false≢true cc) (λ d. false≢true cc)
  plain_here_law k_argument e = other k_argument e refl (λ d. false≢true cc) (λ d. false≢true cc)
  plain_here_law (k_goal k_literal) e = other (k_goal k_literal) e (ap plain_here (literal_at F refl (same_read f i refl e)).goal) (λ d. false≢true cc) (λ d. false≢true cc)
  plain_here_law (k_goal k_sum) e = other (k_goal k_sum) e (ap plain_here (sum_at_law F refl (same_read f i refl e)).goal) (λ d. false≢true cc) (λ d. false≢true cc)
  plain_here_law (k_goal k_assign) e = other (k_goal k_assign) e (ap plain_here (assign_at F refl (same_read f i refl e)).goal) (λ d. false≢true cc) (λ d. false≢true cc)
  plain_here_law (k_goal k_construct) e = other (k_goal k_construct) e (ap plain_here (construct_at F refl (same_read f i refl e)).goal) (λ d. false≢true cc) (λ d. false≢true cc)
  plain_here_law (k_goal k_switch) e = other (k_goal k_switch) e (ap plain_here (switch_at F refl (same_read f i refl e)).goal) (λ d. false≢true cc) (λ d. false≢true cc)
  plain_here_law (k_goal k_if) e = other (k_goal k_if) e (ap plain_here (if_at F refl (same_read f i refl e)).goal) (λ d. false≢true cc) (λ d. false≢true cc)
  plain_here_law (k_goal k_call) e = other (k_goal k_call) e (ap plain_here (call_at F refl (same_read f i refl e)).goal) (λ d. false≢true cc) (λ d. false≢true cc)
  plain_here_law (k_goal k_print) e = other (k_goal k_print) e (ap plain_here (print_at F refl (same_read f i refl e)).goal) (λ d. false≢true cc) (λ d. false≢true cc)
  plain_here_law (k_goal k_create) e = rw (goal_number (word f i kind_word) k_create e) (ap plain_here (create_at F refl (same_read f i refl e)).goal)
  plain_here_law (k_goal k_remove) e = rw (goal_number (word f i kind_word) k_remove e) (ap plain_here (remove_at F refl (same_read f i refl e)).goal)
  plain_here_law (k_goal k_try) e = other (k_goal k_try) e (ap plain_here (try_at F refl (same_read f i refl e)).goal) (λ d. false≢true cc) (λ d. false≢true cc)
  plain_here_law (k_goal k_test) e = other (k_goal k_test) e (ap plain_here (test_at F refl (same_read f i refl e)).goal) (λ d. false≢true cc) (λ d. false≢true cc)

module _ {f : List ℕ} (F : Formed f) where
  -- THE LOOP: every record from 1 on
  pub plain_records : unannotated (program f) ≡ all (λ i. plain_number (word f i kind_word)) (up_from 1 (record_count f - 1))
  unfolding every_record
  plain_records =
      plain_program (program f) ∙ every_record_law (λ q. plain_here) F
      ∙ all_same (record_count f - 1) 1 _ _ (λ i p q. record_kind (λ o. plain_here) F i (kind_of (word f i kind_word)) refl ∙ plain_here_law F i _ refl)
