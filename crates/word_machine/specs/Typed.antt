-- What number 3 says of every record that is a goal or an arm: each belongs to a procedure (`owners`), and the goals of procedures pass.
use Rattle.std.specs.Prelude.{ℕ, ◌<◌, true, List, ◌≡◌}
use Rattle.std.proofs.Common.{arith, sym, ◌∙◌}
use Rattle.std.proofs.lemmas.Bool.{false≢true}
use Rattle.std.proofs.Math.Logic.{inl, inr}
use Rattle.std.proofs.Math.Path.{refl}
use Rattle.language.specs.File.{GoalKind, k_literal, k_sum, k_assign, k_construct, k_switch, k_if, k_call, k_print, k_create, k_remove, k_try, k_test, Kind, k_none, k_header, k_type, k_functor, k_procedure, k_variable, k_region, k_edge, k_arm, k_argument, k_goal, Chain, nowhere, types, functors, procedures, variables, regions, edges, goals, arms, arguments, row, kind_of, word, record_count}
use Rattle.language.specs.Program.{Signature, signature_of}
use Rattle.language.specs.Typing.{goal_ok, typing_ok}
use Rattle.language.specs.Answers.{program}
use Rattle.language.specs.Format.{kind_word}
use Rattle.laws.specs.Typed.{TypedArms, typed_arms, typed_arm}
use Rattle.chains.specs.Layout.{all_rows}
use Rattle.chains.specs.Layout.{real, known_chain, header_kind_law}
use Rattle.records.specs.Table.{uses}
use Rattle.chains.specs.Formed.{Formed, Stands, goal_at, arms_at}
use Rattle.records.specs.Records.{record_at}
use Rattle.chains.specs.Kinds.{kind_in, kind_read, same_read}
use Rattle.chains.specs.Parts.{switch_at, arm_at}
use Rattle.owners.specs.Owner.{owner_of}
use Rattle.owners.specs.Owners.{OwnedBy, switch_arms_law, arm_next}
use Rattle.owners.specs.Typed.{typed_goal}
use Rattle.owners.specs.Referred.{sort_of, uses_of, Each, EachOf, header_uses, outward}

module _ {f : List ℕ} (F : Formed f) (ok : typing_ok (program f) ≡ true) where
  -- the signature of the procedure that has record i
  abbrev pub owning : ℕ → Signature
  owning i = signature_of (program f) (owner_of f i)

  pub typed_record : (i : ℕ) → 0 < i → i < record_count f → (g : GoalKind) → kind_in (record_at f i) ≡ k_goal g → goal_ok (program f) (owning i) (goal_at f i) ≡ true
  typed_record i p q g e = typed_goal F ok i p q g (sym (kind_read f i refl) ∙ e)

  -- ---- arms: from the switch that has them along their chain
  unfoldable Armed : Chain → ℕ → Type 0
  Armed nowhere i = Unit {0}
  Armed types i = Unit {0}
  Armed functors i = Unit {0}
  Armed procedures i = Unit {0}
  Armed variables i = Unit {0}
  Armed regions i = Unit {0}
  Armed edges i = Unit {0}
  Armed goals i = Unit {0}
  Armed arms i = (i ≡ 0 → ⊥) → TypedArms (program f) (owning i) (arms_at f i)
  Armed arguments i = Unit {0}

  armed_on : {q w : ℕ} → OwnedBy f q w → TypedArms (program f) (signature_of (program f) q) (arms_at f w) → (w ≡ 0 → ⊥)
      → TypedArms (program f) (owning w) (arms_at f w)
  armed_on b t z = rw (b z) t

  module _ (i : ℕ) (p : 0 < i) (q : i < record_count f) where
    armed_step : (k : Kind) → kind_of (word f i kind_word) ≡ k → real (row k).chain ≡ true → Armed (row k).chain i → Each Armed (word f i) 1 (uses (row k))
    unfolding all_rows uses real Armed
    armed_step k_none e r h = absurd (false≢true r)
    armed_step k_header e r h = absurd (false≢true r)
    armed_step k_type e r h = (tt, (tt, tt))
    armed_step k_functor e r h = (tt, tt)
    armed_step k_procedure e r h = (tt, (tt, (tt, (tt, tt))))
    armed_step k_variable e r h = (tt, tt)
    armed_step k_region e r h = (tt, (tt, tt))
    armed_step k_edge e r h = (tt, tt)
    armed_step k_arm e r h =
        let a = arm_at F refl (same_read f i refl e) in
        (armed_on (arm_next F i q e) (typed_arm (program f) (owning i) a.view (h (λ z. omega arith))).rest, (tt, tt))
    armed_step k_argument e r h = (tt, tt)
    armed_step (k_goal k_literal) e r h = (tt, tt)
    armed_step (k_goal k_sum) e r h = (tt, tt)
    armed_step (k_goal k_assign) e r h = (tt, tt)
    armed_step (k_goal k_construct) e r h = (tt, tt)
    armed_step (k_goal k_switch) e r h =
        let a = switch_at F refl (same_read f i refl e) in
        (tt, (armed_on (switch_arms_law F i q e) (typed_arms (program f) (owning i) a.goal (typed_record i p q k_switch (kind_read f i refl ∙ e))), tt))
    armed_step (k_goal k_if) e r h = (tt, (tt, (tt, tt)))
    armed_step (k_goal k_call) e r h = (tt, (tt, tt))
    armed_step (k_goal k_print) e r h = (tt, tt)
    armed_step (k_goal k_create) e r h = (tt, tt)
    armed_step (k_goal k_remove) e r h = (tt, tt)
    armed_step (k_goal k_try) e r h = (tt, (tt, (tt, (tt, tt))))
    armed_step (k_goal k_test) e r h = (tt, tt)

  header_armed : EachOf Armed f 0
  unfolding Armed uses all_rows
  header_armed = rw (header_uses F) (tt, (tt, tt))

  all_armed : (i : ℕ) → 0 < i → i < record_count f → Armed (sort_of f i) i
  unfolding sort_of uses_of
  all_armed =
      outward F Armed header_armed
      (λ i p q l. armed_step i p q (kind_of (word f i kind_word)) refl (known_chain (word f) (record_count f) F.form (header_kind_law f F.header F.form) i p q) l)

  pub typed_arms_at : (i : ℕ) → Stands f arms i → (i ≡ 0 → ⊥) → TypedArms (program f) (owning i) (arms_at f i)
  unfolding sort_of Armed
  typed_arms_at i s z =
      let e : sort_of f i ≡ arms = elim s.sort [ inl o ↦ absurd (z o) | inr k ↦ k ] in
      (rw e at (all_armed i (omega (arith, z)) s.below)) z
