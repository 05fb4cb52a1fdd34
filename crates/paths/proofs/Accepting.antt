-- The checker accepts an annotated file if and only if the rules hold on every path.
use Rattle.std.specs.Prelude.{ℕ, Bool, true, ◌↔◌, ◌≡◌}
use Rattle.std.proofs.Math.Path.{refl, sym, ap, ap₂}
use Rattle.std.proofs.Common.{◌∙◌}
use Rattle.sets.specs.Tests.{◌&◌, same_truth, and_true, true_and}
use Rattle.sets.specs.Sets.{member, ◌∪◌, ◌∩◌, same_set, subset, Small, member_intersection, same_eq, eq_same}
use Rattle.sets.specs.SetLaws.{subset_trans, intersection_left, intersection_right, intersection_most}
use Rattle.sets.specs.MemberLaws.{small_set_of}
use Rattle.sets.specs.declared.Set.{Set}
use Rattle.language.specs.Lists.{all}
use Rattle.language.specs.Program.{Goals, Signature, Procedure, Program, procedure_at, variables_in, in_mode}
use Rattle.language.specs.Typing.{types_ok, procedure_ok, typing_ok}
use Rattle.language.specs.Values.{ins_of}
use Rattle.language.specs.Lifetimes.{born, kept, start_held}
use Rattle.language.specs.Checking.{Carried, broken, carries, check_goals, end_rules, procedure_rules, rules_ok}
use Rattle.laws.specs.Tests.{and_shared}
use Rattle.laws.specs.Lists.{all_nth, nth_all}
use Rattle.paths.specs.Paths.{paths, end_rule, path_rules, arrivals, arms_agree, EveryPath, EveryProcedure}
use Rattle.paths.proofs.Named.{goals_named}
use Rattle.paths.proofs.Carrying.{Test, passes, Splits}
use Rattle.paths.proofs.Along.{along_all}
use Rattle.paths.proofs.Joining.{goals_along}
use Rattle.paths.proofs.Meeting.{goals_agree}
use Rattle.paths.proofs.Typed.{goals_named_law}

subset_meet : (a s t : Set) → subset a (s ∩ t) ≡ (subset a s & subset a t)
subset_meet a s t =
    same_truth
    (λ e. true_and (subset_trans a (s ∩ t) s e (intersection_left s t)) (subset_trans a (s ∩ t) t e (intersection_right s t)))
    (λ e. let r = and_true e in intersection_most s t a r.0 r.1)

-- ---- goals: what the checker carries at the end is what every path comes to
-- "sound afterwards is sound after every arm": a variable is sound where the checker is past goals if and only if it is sound there on every
-- path, and each path ends with what the checker says is held
unfoldable pub ends_with : Set → ℕ → Test
ends_with k x held sound = same_set held k & member sound x

ends_splits : (k : Set) (x : ℕ) → Splits (ends_with k x)
unfolding ends_with
ends_splits k x = record {
  meet = λ h s t.
      ap (λ (b : Bool). same_set h k & b) (member_intersection s t x) ∙ sym (and_shared (same_set h k) (member s x) (member t x));
  one = λ h j s t e f. same_eq h k (and_true e).0 ∙ sym (same_eq j k (and_true f).0);
}

module _ (P : Program) (S : Signature) where
  pub carried_on_every_path : (gs : Goals) → goals_named P S gs ≡ true → (h s k t : Set) → Small s → check_goals P S gs h s ≡ carries k t → (x : ℕ)
      → member t x ≡ along_all P S (ends_with k x) (paths gs) h s
  unfolding passes ends_with ◌&◌
  carried_on_every_path gs n h s k t m e x =
      ap (λ (b : Bool). b & member t x) (sym (eq_same k k refl)) ∙ ap (passes (ends_with k x)) (sym e)
      ∙ goals_along P S gs n (ends_with k x) (ends_splits k x) h s m

  -- ---- the end of a procedure
  end_splits : Splits (end_rule P S)
  unfolding end_rule
  end_splits = record {
    meet = λ h s t. ap₂ ◌&◌ refl (subset_meet _ s t) ∙ sym (and_shared _ _ _);
    one = λ h k s t e f. same_eq h (born S ∪ kept S) (and_true e).0 ∙ sym (same_eq k (born S ∪ kept S) (and_true f).0);
  }

  end_passes : (c : Carried) → end_rules S c ≡ passes (end_rule P S) c
  unfolding end_rules passes end_rule
  end_passes broken = refl
  end_passes (carries h s) = refl

  ins_small : Small (ins_of S)
  unfolding ins_of
  ins_small = small_set_of (variables_in in_mode S)

-- ---- procedures
module _ (P : Program) (p : Procedure) where
  -- the checker's answer to a procedure is the rules along every path, joined by "and"
  pub procedure_rules_law : goals_named P p.signature p.body ≡ true → procedure_rules P p ≡ all (path_rules P p.signature) (paths p.body)
  unfolding procedure_rules path_rules along_all
  procedure_rules_law n =
      end_passes P p.signature (check_goals P p.signature p.body (start_held p.signature) (ins_of p.signature))
      ∙ goals_along P p.signature p.body n (end_rule P p.signature) (end_splits P p.signature) (start_held p.signature) (ins_of p.signature)
      (ins_small P p.signature)

  -- "Arms end with equal held regions" follows from the rules along every path
  pub arms_follow : goals_named P p.signature p.body ≡ true → all (path_rules P p.signature) (paths p.body) ≡ true
      → all (arms_agree P p.signature (start_held p.signature)) (arrivals p.body) ≡ true
  unfolding path_rules along_all
  arms_follow n e =
      goals_agree P p.signature p.body n (end_rule P p.signature) (end_splits P p.signature) (start_held p.signature) (ins_of p.signature) e

  pub procedure_named : types_ok P.types ≡ true → procedure_ok P p ≡ true → goals_named P p.signature p.body ≡ true
  unfolding procedure_ok
  procedure_named t o = let r = and_true o in goals_named_law P p.signature t r.0 p.body r.1

  -- for every procedure that passes number 3
  pub every_path : types_ok P.types ≡ true → procedure_ok P p ≡ true → (procedure_rules P p ≡ true) ↔ EveryPath P p
  every_path t o =
      let n = procedure_named t o in (
        λ e. let r = sym (procedure_rules_law n) ∙ e in record { rules = r; arms = arms_follow n r },
        λ q. procedure_rules_law n ∙ q.rules,
      )

-- ---- programs
pub rules_every_path : (P : Program) → typing_ok P ≡ true → (rules_ok P ≡ true) ↔ EveryProcedure P
unfolding typing_ok rules_ok procedure_at
rules_every_path P t =
    let r = and_true t in
    let o = (and_true r.1).1 in (
      λ e n l. (every_path P (procedure_at P n) r.0 (all_nth (procedure_ok P) _ P.procedures n o l)).0 (all_nth (procedure_rules P) _ P.procedures n e l),
      λ q. nth_all (procedure_rules P) _ P.procedures (λ n l. (every_path P (procedure_at P n) r.0 (all_nth (procedure_ok P) _ P.procedures n o l)).1 (q n l)),
    )
