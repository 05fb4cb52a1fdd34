-- What a step of a program that passes numbers 3 and 5 and the declared part of 7 does to regions: those that it needs and bears are the
-- procedure's, and where an image is shared with no other region, it bears none that it needs.
use Rattle.std.specs.Prelude.{ℕ, ◌≤◌, ◌≡◌, true, List, ◌⊎◌, leb, length}
use Rattle.std.proofs.Common.{sym, ap, ◌∙◌, inl, inr, ⊎_elim}
use Rattle.sets.specs.Tests.{clash, false_of, and_true}
use Rattle.sets.specs.Sets.{member, empty_set, single, ◌∪◌, subset, apart, subset_in, single_zero, single_in, union_right, union_in}
use Rattle.sets.specs.SetLaws.{apart_in, apart_mk}
use Rattle.sets.specs.Members.{image}
use Rattle.sets.specs.MemberLaws.{image_in_law}
use Rattle.sets.specs.declared.Set.{Set}
use Rattle.language.specs.Program.{Step, literal, sum, assign, construct, call, print, create, remove, test, Signature, Program, type_of, region_of, signature_of}
use Rattle.language.specs.Typing.{is_variable, is_region, functors_for, step_ok}
use Rattle.language.specs.Regions.{images, image_in, mapping, step_regions}
use Rattle.language.specs.Lifetimes.{inputs, outputs, born, dead, kept, classes_ok, Effect, no_effect, unshared_in, call_effect, effect, step_classes}
use Rattle.laws.specs.MoreSets.{empty_in, empty_apart, apart_empty}
use Rattle.region_graph.specs.Laws.{Declared, Called}
use Rattle.region_graph.specs.Classes.{born_dead, born_kept, unshared_in_law, born_shared_law, start_shared}
use Rattle.placement.specs.Wanted.{Within, within_empty}

-- a procedure that declares S, in a program that passes numbers 3 and 5 and the declared part of 7
pub record Home (P : Program) (S : Signature) : Type 0 where
  pub declared : Declared P.types S
  pub called : (q : ℕ) (ys : List ℕ) → step_ok P S (call q ys) ≡ true → step_regions P S (call q ys) ≡ true → Called S (signature_of P q) ys
  pub classes : (q : ℕ) → classes_ok (signature_of P q) ≡ true
  -- a type but that of numbers has a functor
  pub functors : (x : ℕ) → is_variable S x ≡ true → leb 1 (type_of S x) ≡ true → 1 ≤ length (functors_for P S x)

-- the regions that a step needs and bears are the procedure's, and it bears none that it needs
pub record FitsEffect (S : Signature) (e : Effect) : Type 0 where
  pub needs : Within S e.needs
  pub bears : Within S e.bears
  pub free : apart e.needs e.bears ≡ true

-- and it passes number 7 where `after` is live after it
pub record FitsStep (P : Program) (S : Signature) (g : Step) (after : Set) : Type 0 where
  pub classes : step_classes P S g after ≡ true
  pub regions : FitsEffect S (effect P S g)

-- ---- steps
module _ (C Q : Signature) (ys : List ℕ) (M : Called C Q ys) (K : classes_ok Q ≡ true) where
  images_within : (rs : Set) → subset rs (inputs Q ∪ outputs Q) ≡ true → Within C (image M.image rs)
  images_within rs h =
      record { inside = λ r m. let o = image_in_law M.image rs r m in ap (is_region C) (sym o.2) ∙ M.region o.0 (subset_in rs _ h o.0 o.1) }

  held_not_born : (r : ℕ) → member (dead Q ∪ kept Q) r ≡ true → member (born Q) r ≡ true → ⊥
  held_not_born r m i =
      ⊎_elim (λ j. clash j (apart_in (born Q) (dead Q) (born_dead Q) r i)) (λ j. clash j (apart_in (born Q) (kept Q) (born_kept Q) r i))
      (union_in (dead Q) _ r m)

  images_free : unshared_in M.image (dead Q ∪ born Q) (inputs Q ∪ outputs Q) ≡ true
      → apart (image M.image (dead Q ∪ kept Q)) (image M.image (born Q)) ≡ true
  images_free e = apart_mk _ _ (λ r m. false_of (λ n. never r (image_in_law M.image (dead Q ∪ kept Q) r m) (image_in_law M.image (born Q) r n)))
    where
      never : (r : ℕ) → (x : ℕ) × (member (dead Q ∪ kept Q) x ≡ true) × (M.image x ≡ r) × (x ≤ 64)
          → (x : ℕ) × (member (born Q) x ≡ true) × (M.image x ≡ r) × (x ≤ 64) → ⊥
      never r o u =
          let q = unshared_in_law M.image (dead Q ∪ born Q) (inputs Q ∪ outputs Q) e u.0 o.0 (union_right (dead Q) _ u.0 u.1) u.3
          (subset_in (dead Q ∪ kept Q) _ (start_shared Q K) o.0 o.1) o.3 (u.2 ∙ sym o.2) in
          held_not_born o.0 o.1 (ap (member (born Q)) (sym q) ∙ u.1)

  images_fit : (call_effect (images M.image) Q).unshared ≡ true → FitsEffect C (call_effect (images M.image) Q)
  unfolding call_effect image_in
  images_fit e = record { needs = images_within (dead Q ∪ kept Q) (start_shared Q K); bears = images_within (born Q) (born_shared_law Q K); free = images_free e }

  call_fits : (call_effect (mapping C Q ys) Q).unshared ≡ true → FitsEffect C (call_effect (mapping C Q ys) Q)
  call_fits = rw M.mapped images_fit

within_single : (S : Signature) (r : ℕ) → (r ≡ 0) ⊎ (is_region S r ≡ true) → Within S (single r)
within_single S r (inl e) =
    record { inside = λ n m. absurd (empty_in _ (ap single e ∙ single_zero) n m) }
within_single S r (inr e) = record { inside = λ n m. ap (is_region S) (sym (single_in r n m)) ∙ e }

nothing_fits : (S : Signature) → FitsEffect S no_effect
unfolding no_effect
nothing_fits S = record { needs = within_empty; bears = within_empty; free = empty_apart empty_set }

module _ (P : Program) (S : Signature) (H : Home P S) where
  regions_fit_law : (g : Step) → step_ok P S g ≡ true → step_regions P S g ≡ true → (effect P S g).unshared ≡ true → FitsEffect S (effect P S g)
  unfolding effect step_ok
  regions_fit_law (literal x v) t r u = nothing_fits S
  regions_fit_law (sum x o y z) t r u = nothing_fits S
  regions_fit_law (assign x y) t r u = nothing_fits S
  regions_fit_law (construct x f ys) t r u = record {
    needs = within_single S (region_of S x) (H.declared.own x);
    bears = within_empty;
    free = apart_empty _;
  }
  regions_fit_law (call q ys) t r u = call_fits S (signature_of P q) ys (H.called q ys t r) (H.classes q) u
  regions_fit_law (print y) t r u = nothing_fits S
  regions_fit_law (test y z) t r u = nothing_fits S
  regions_fit_law (create n) t r u = record {
    needs = within_empty;
    bears = within_single S n (inr t);
    free = empty_apart (single n);
  }
  regions_fit_law (remove n) t r u = record {
    needs = within_single S n (inr t);
    bears = within_empty;
    free = apart_empty _;
  }

  pub step_fits : (g : Step) (after : Set) → step_ok P S g ≡ true → step_regions P S g ≡ true → step_classes P S g after ≡ true → FitsStep P S g after
  unfolding step_classes
  step_fits g after t r c = record { classes = c; regions = regions_fit_law g t r (and_true (and_true c).1).1 }
