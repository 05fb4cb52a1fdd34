-- "Call: images of dead .. regions are held" follows from the other rules: such an image is in the reach of an in argument, which is sound.
use Rattle.std.specs.Prelude.{ℕ, ◌≤◌, Bool, true, false, List, ◌∷◌, ◌≡◌, [], Ok}
use Rattle.std.proofs.Common.{⊎_elim, sym, ap, ◌∙◌, arith}
use Rattle.std.proofs.Math.Path.{refl}
use Rattle.sets.specs.Tests.{◌&◌, ◌or◌, and_true, true_and, clash, same_truth}
use Rattle.sets.specs.Sets.{empty_set, member, member_pos, member_empty, ◌∪◌, subset, union_right, union_in, subset_in, subset_mk}
use Rattle.sets.specs.SetLaws.{apart_in, small_top}
use Rattle.sets.specs.Members.{image}
use Rattle.sets.specs.MemberLaws.{union_over_mk, image_in_law, image_mk, small_image}
use Rattle.sets.specs.declared.Set.{Set}
use Rattle.language.specs.Lists.{all, choose}
use Rattle.language.specs.Program.{Functor, Step, literal, sum, assign, construct, call, print, create, remove, test, Goals, Signature, Procedure, Program, signature_of}
use Rattle.language.specs.Values.{ins_of, reads, accessing, access}
use Rattle.language.specs.Regions.{reach, reach_all, mapping, image_in}
use Rattle.language.specs.Lifetimes.{inputs, outputs, dead, kept, start_held, classes_ok, declared_classes_ok, effect, call_effect, held_after}
use Rattle.language.specs.Typing.{signature_ok, procedure_ok, typing_ok}
use Rattle.language.specs.Checking.{Carried, broken, carries, require_rule, step_rules, check_step, check_goals, end_rules, procedure_rules, rules_ok}
use Rattle.language.specs.Answers.{program, reached_stages, checker_stages, checked}
use Rattle.region_graph.specs.Parameters.{ins_top}
use Rattle.needed.specs.Without.{dead_held, number, left_out, unless, asked, all_asked, call_asks, with_born, with_kept, end_held, end_asks, given_sound, asks, step_asks, holds_after, step_without, goals_without, procedure_without, rules_without, checked_without}
use Rattle.needed.proofs.Carrying.{StepsAgree, goals_same}
use Rattle.needed.proofs.SoundReach.{ReachHeld, reach_invariant}
use Rattle.needed.proofs.Passing.{all_from, last_test, typed}
use Rattle.region_graph.specs.Typed.{signature_typed, signature_classed}
use Rattle.region_graph.specs.Procedure.{declared}
use Rattle.region_graph.specs.Classes.{dead_outputs, inputs_sorted}
use Rattle.needed.proofs.Images.{image_reached}

module _ (T : List (List Functor)) (S : Signature) (ok : signature_ok T S ≡ true) (classes : classes_ok S ≡ true) where
  -- every sound variable's reach is held at the start
  start_reach : ReachHeld S empty_set (start_held S) (ins_of S)
  unfolding ReachHeld inputs reach_all start_held
  start_reach x r m a b =
      subset_in (inputs S) (dead S ∪ kept S) (inputs_sorted S classes T (declared T S ok)) r
      (union_over_mk (reach S) (ins_of S) x r m (ins_top S x m) a)

-- ---- a call
same_rule : (a b c d : Bool) (x : Carried) → (a ≡ true → b ≡ c) → require_rule (a & b & d) x ≡ require_rule (a & c & d) x
unfolding ◌&◌
same_rule true b c d x e = ap (λ y. require_rule (y & d) x) (e refl)
same_rule false b c d x e = refl

module _ (P : Program) (S : Signature) (ok : signature_ok P.types S ≡ true) (typed : (q : ℕ) → signature_ok P.types (signature_of P q) ≡ true)
    (classes : (q : ℕ) → classes_ok (signature_of P q) ≡ true) where
  module _ (q : ℕ) (ys : List ℕ) (held sound : Set) (inv : ReachHeld S empty_set held sound) where
    abbrev Q : Signature
    Q = signature_of P q

    abbrev im : ℕ → ℕ
    im = image_in (mapping S Q ys)

    dead_held_law : subset (reads P (call q ys)) sound ≡ true → (r : ℕ) → member (dead Q) r ≡ true → 1 ≤ im r → member held (im r) ≡ true
    unfolding ReachHeld reads access accessing
    dead_held_law e r m l =
        let p = image_reached P.types S Q ok (typed q) ys r (member_pos (dead Q) r m) l (apart_in (dead Q) (outputs Q) (dead_outputs Q (classes q)) r m) in
        inv p.0 (im r) (subset_in _ sound e p.0 p.1) p.2 (member_empty (im r))

    image_held : (s : Set) → subset (image im s) held ≡ true → (r n : ℕ) → member s r ≡ true → r ≤ 64 → im r ≡ n → 1 ≤ n → n ≤ 64 → member held n ≡ true
    image_held s h r n m l e p t =
        subset_in (image im s) held h n (ap (member (image im s)) (sym e) ∙ image_mk im s r m l (omega arith) (omega arith))

    -- asking for the dead images too asks no more
    needs_same : subset (reads P (call q ys)) sound ≡ true
        → subset (image im (empty_set ∪ kept Q)) held ≡ subset (image im (dead Q ∪ kept Q)) held
    needs_same e = same_truth (λ h. subset_mk _ held (more h)) (λ h. subset_mk _ held (less h))
      where
        more : subset (image im (empty_set ∪ kept Q)) held ≡ true → (n : ℕ) → member (image im (dead Q ∪ kept Q)) n ≡ true → member held n ≡ true
        more h n m =
            let p = image_in_law im (dead Q ∪ kept Q) n m in
            let low = member_pos _ n m in
            let high = small_top _ (small_image im (dead Q ∪ kept Q)) n m in
            ⊎_elim (λ d. ap (member held) (sym p.2) ∙ dead_held_law e p.0 d (omega arith))
            (λ k. image_held _ h p.0 n (union_right empty_set (kept Q) p.0 k) p.3 p.2 low high) (union_in (dead Q) (kept Q) p.0 p.1)

        less : subset (image im (dead Q ∪ kept Q)) held ≡ true → (n : ℕ) → member (image im (empty_set ∪ kept Q)) n ≡ true → member held n ≡ true
        less h n m =
            let p = image_in_law im (empty_set ∪ kept Q) n m in
            let low = member_pos _ n m in
            let high = small_top _ (small_image im (empty_set ∪ kept Q)) n m in
            ⊎_elim (λ d. absurd (clash d (member_empty p.0)))
            (λ k. image_held _ h p.0 n (union_right (dead Q) (kept Q) p.0 k) p.3 p.2 low high) (union_in empty_set (kept Q) p.0 p.1)

    call_same : step_without (dead_held ∷ []) P S (call q ys) held sound ≡ check_step P S (call q ys) held sound
    unfolding number left_out ◌or◌ unless asked choose step_without step_asks asks call_asks holds_after given_sound check_step step_rules held_after effect call_effect
    call_same = same_rule _ _ _ _ _ needs_same

  step_same : (g : Step) (held sound : Set) → ReachHeld S empty_set held sound → step_without (dead_held ∷ []) P S g held sound ≡ check_step P S g held sound
  unfolding number left_out ◌or◌ unless asked choose step_without step_asks asks all_asked holds_after given_sound check_step step_rules held_after effect
  step_same (literal x v) held sound i = refl
  step_same (sum x o y z) held sound i = refl
  step_same (assign x y) held sound i = refl
  step_same (construct x f ys) held sound i = refl
  step_same (call q ys) held sound i = call_same q ys held sound i
  step_same (print y) held sound i = refl
  step_same (test y z) held sound i = refl
  step_same (create r) held sound i = refl
  step_same (remove r) held sound i = refl

  agrees : StepsAgree P S (ReachHeld S empty_set) (dead_held ∷ [])
  unfolding number left_out ◌or◌
  agrees = record { reading = refl; giving = refl; equal = refl; every = refl; before = refl; onward = refl; parts = refl; steps = step_same }

  body_same : (body : Goals) (start : classes_ok S ≡ true)
      → goals_without (dead_held ∷ []) P S body (start_held S) (ins_of S) ≡ check_goals P S body (start_held S) (ins_of S)
  body_same body start = goals_same (reach_invariant P S empty_set) agrees body (start_held S) (ins_of S) (start_reach P.types S ok start)

-- ---- and so for files
end_same : (S : Signature) (c : Carried) → end_asks (dead_held ∷ []) S c ≡ end_rules S c
unfolding number left_out ◌or◌ unless choose end_asks with_born with_kept end_held end_rules
end_same S broken = refl
end_same S (carries held sound) = refl

classes_all : (P : Program) → declared_classes_ok P ≡ true → all (λ p. classes_ok p.signature) P.procedures ≡ true
unfolding declared_classes_ok
classes_all P d = d

procedure_dead : (P : Program) → typing_ok P ≡ true → declared_classes_ok P ≡ true → (p : Procedure) → procedure_ok P p ≡ true → classes_ok p.signature ≡ true
    → procedure_without (dead_held ∷ []) P p ≡ procedure_rules P p
unfolding procedure_without procedure_rules procedure_ok
procedure_dead P t d p o c =
    end_same p.signature _
    ∙ ap (end_rules p.signature) (body_same P p.signature (and_true o).0 (signature_typed P t) (signature_classed P d) p.body c)

rules_dead : (P : Program) → typing_ok P ≡ true → declared_classes_ok P ≡ true → rules_without (dead_held ∷ []) P ≡ true → rules_ok P ≡ true
unfolding rules_without rules_ok typing_ok
rules_dead P t d e =
    all_from (λ p. procedure_ok P p & classes_ok p.signature) (procedure_without (dead_held ∷ []) P) (procedure_rules P)
    (λ p o k. sym (procedure_dead P t d p (and_true o).0 (and_true o).1) ∙ k) P.procedures
    (all_from (procedure_ok P) (λ p. classes_ok p.signature) _ (λ p a b. true_and a b) P.procedures (and_true (and_true t).1).1 (classes_all P d)) e

pub dead_held_follows : (f : List ℕ) → checked_without (dead_held ∷ []) f ≡ Ok tt → checked f ≡ Ok tt
unfolding checked_without checked checker_stages
dead_held_follows f e = last_test (reached_stages f) _ _ _ (λ d k. rules_dead (program f) (typed f _ e) d k) e
