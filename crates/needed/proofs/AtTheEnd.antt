-- Two parts of "At the end: born and kept regions held" follow from the other rules: a file that passes without one of them passes with it.
use Rattle.std.specs.Prelude.{ℕ, false, List, ◌∷◌, ◌≡◌, refl, eqb, ltb, [], Ok}
use Rattle.std.proofs.Math.Bool.{true}
use Rattle.std.proofs.Common.{⊎_elim, sym, ap, ◌∙◌, eqb-true}
use Rattle.sets.specs.Tests.{◌or◌, and_true, truth, clash}
use Rattle.sets.specs.Sets.{member, subset, apart, union_right, difference_in, subset_in, subset_mk}
use Rattle.sets.specs.SetLaws.{apart_in, apart_sym, union_subset, union_comm}
use Rattle.sets.specs.MemberLaws.{union_over_in, union_over_mk}
use Rattle.sets.specs.declared.Set.{Set}
use Rattle.language.specs.Lists.{choose}
use Rattle.language.specs.Program.{Step, Goals, Signature, Program}
use Rattle.language.specs.Values.{ins_of, outs_of}
use Rattle.language.specs.Regions.{reach, reach_all}
use Rattle.language.specs.Lifetimes.{inputs, outputs, born, kept, dead, start_held, classes_ok, declared_classes_ok, effect, held_after}
use Rattle.language.specs.Checking.{Carried, broken, carries, step_rules, check_goals, end_rules, procedure_rules, rules_ok}
use Rattle.language.specs.Answers.{program, reached_stages, checker_stages, checked}
use Rattle.region_graph.specs.Parameters.{ins_top}
use Rattle.needed.specs.Without.{Rule, end_kept, end_born, number, left_out, unless, with_born, with_kept, end_held, end_asks, goals_without, procedure_without, rules_without, checked_without}
use Rattle.needed.proofs.Carrying.{CarriedAfter, Invariant, after_goals}
use Rattle.needed.proofs.NoneLeftOut.{on_the_way, path_same}
use Rattle.needed.proofs.SoundReach.{stays_held, ReachHeld, reach_invariant}
use Rattle.needed.proofs.Passing.{all_from, last_test}

-- a rule about the end, left out, is none of those on the way
end_inner : (q : Rule) → on_the_way q ≡ false → (r : Rule) → on_the_way r ≡ true → left_out (q ∷ []) r ≡ false
unfolding left_out ◌or◌ on_the_way
end_inner q e r d = ⊎_elim (λ p. absurd (clash d (ap (λ n. ltb n 22) (sym (eqb-true (number q) (number r) p)) ∙ e))) (λ p. rw p) (truth (eqb (number q) (number r)))

module _ (P : Program) (S : Signature) where
  -- ---- kept regions stay held
  KeptHeld : Set → Set → Type 0
  KeptHeld held sound = subset (kept S) held ≡ true

  ends_apart : (g : Step) (held sound : Set) → step_rules P S g held sound ≡ true → apart (effect P S g).ends (kept S) ≡ true
  unfolding step_rules
  ends_apart g held sound e = (and_true (and_true (and_true e).1).1).0

  kept_step : (g : Step) (held sound : Set) → step_rules P S g held sound ≡ true → subset (kept S) held ≡ true
      → subset (kept S) (held_after P S g held) ≡ true
  kept_step g held sound e k =
      subset_mk (kept S) _
      (λ r m. stays_held P S g held r (subset_in (kept S) held k r m)
      (apart_in (kept S) _ (apart_sym _ (kept S) (ends_apart g held sound e)) r m))

  kept_start : subset (kept S) (start_held S) ≡ true
  unfolding start_held
  kept_start = subset_mk (kept S) _ (λ r m. union_right (dead S) (kept S) r m)

  kept_invariant : Invariant P S KeptHeld
  unfolding KeptHeld
  kept_invariant = record { step_keeps = kept_step; arm_keeps = λ xs held sound k. k; meet_keeps = λ held s t a b. a }

  kept_stays : (gs : Goals) → CarriedAfter KeptHeld (check_goals P S gs (start_held S) (ins_of S))
  unfolding KeptHeld
  kept_stays gs = after_goals kept_invariant gs (start_held S) (ins_of S) kept_start

  -- ---- the reach of a sound variable is held, but for input regions
  start_reach : ReachHeld S (inputs S) (start_held S) (ins_of S)
  unfolding ReachHeld inputs reach_all
  start_reach x r m a b = absurd (clash (union_over_mk (reach S) (ins_of S) x r m (ins_top S x m) a) b)

  reach_stays : (gs : Goals) → CarriedAfter (ReachHeld S (inputs S)) (check_goals P S gs (start_held S) (ins_of S))
  reach_stays gs = after_goals (reach_invariant P S (inputs S)) gs (start_held S) (ins_of S) start_reach

  -- ---- so the end's rules hold
  end_kept_law : (c : Carried) → CarriedAfter KeptHeld c → end_asks (end_kept ∷ []) S c ≡ true → end_rules S c ≡ true
  unfolding number left_out ◌or◌ unless choose end_asks with_born with_kept end_held end_rules CarriedAfter KeptHeld
  end_kept_law broken k e = e
  end_kept_law (carries held sound) k e = rw (union_comm held (kept S), union_subset (kept S) held k) at e

  -- a born region is in the reach of an out variable
  born_reached : classes_ok S ≡ true → (held sound : Set) → ReachHeld S (inputs S) held sound → subset (outs_of S) sound ≡ true → subset (born S) held ≡ true
  unfolding classes_ok outputs reach_all ReachHeld
  born_reached o held sound i e = subset_mk (born S) held go
    where
      go : (r : ℕ) → member (born S) r ≡ true → member held r ≡ true
      go r m =
          let p = difference_in (outputs S) (inputs S) r (subset_in (born S) _ (and_true o).0 r m) in
          let q = union_over_in (reach S) (outs_of S) r p.0 in
          i q.0 r (subset_in (outs_of S) sound e q.0 q.1) q.2 p.1

  end_born_law : classes_ok S ≡ true → (c : Carried) → CarriedAfter (ReachHeld S (inputs S)) c → end_asks (end_born ∷ []) S c ≡ true → end_rules S c ≡ true
  unfolding number left_out ◌or◌ unless choose end_asks with_born with_kept end_held end_rules CarriedAfter
  end_born_law o broken i e = e
  end_born_law o (carries held sound) i e =
      rw (union_comm held (born S), union_subset (born S) held (born_reached o held sound i (and_true e).1)) at e

  procedure_kept : (body : Goals) → end_asks (end_kept ∷ []) S (goals_without (end_kept ∷ []) P S body (start_held S) (ins_of S)) ≡ true
      → end_rules S (check_goals P S body (start_held S) (ins_of S)) ≡ true
  unfolding on_the_way number
  procedure_kept body e = end_kept_law _ (kept_stays body) (rw (path_same (end_kept ∷ []) (end_inner end_kept refl) P S) at e)

  procedure_born : classes_ok S ≡ true → (body : Goals) → end_asks (end_born ∷ []) S (goals_without (end_born ∷ []) P S body (start_held S) (ins_of S)) ≡ true
      → end_rules S (check_goals P S body (start_held S) (ins_of S)) ≡ true
  unfolding on_the_way number
  procedure_born o body e = end_born_law o _ (reach_stays body) (rw (path_same (end_born ∷ []) (end_inner end_born refl) P S) at e)

-- ---- and so for files
-- "At the end: .. kept regions held" follows from the other rules
pub end_kept_follows : (f : List ℕ) → checked_without (end_kept ∷ []) f ≡ Ok tt → checked f ≡ Ok tt
unfolding checked_without checked checker_stages rules_without rules_ok procedure_without procedure_rules declared_classes_ok
end_kept_follows f e =
    last_test (reached_stages f) _ _ _ (all_from _ _ _ (λ p o k. procedure_kept (program f) p.signature p.body k) (program f).procedures) e

-- "At the end: born .. regions held" follows from the other rules
pub end_born_follows : (f : List ℕ) → checked_without (end_born ∷ []) f ≡ Ok tt → checked f ≡ Ok tt
unfolding checked_without checked checker_stages rules_without rules_ok procedure_without procedure_rules declared_classes_ok
end_born_follows f e =
    last_test (reached_stages f) _ _ _ (all_from _ _ _ (λ p o k. procedure_born (program f) p.signature o p.body k) (program f).procedures) e
