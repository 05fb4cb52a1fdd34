-- Each event does what the checker does with it: the conjunction of the rules that speak of a step is `step_rules`, and the held regions and
-- sound variables after it are the checker's.
use Rattle.std.specs.Prelude.{ℕ, zero, suc, Bool, true, List, ◌∷◌, ◌≡◌, leb, eqb, []}
use Rattle.std.proofs.Math.Path.{refl, ap, ap₂}
use Rattle.std.proofs.Common.{sym, ◌∙◌, suc-ne-zero, arith, leb-true, ne_eqb}
use Rattle.sets.specs.Tests.{◌&◌, ◌or◌, neg, same_truth, and_true, true_and, neg_true, true_neg}
use Rattle.sets.specs.Sets.{member, empty_set, single, ◌∪◌, ◌∖◌, subset, apart, Small, single_mk, single_zero, subset_in}
use Rattle.sets.specs.SetLaws.{subset_trans, empty_subset, single_subset, left_union, right_union, union_least, union_empty, apart_in, small_union, small_difference}
use Rattle.sets.specs.Members.{set_of}
use Rattle.sets.specs.MemberLaws.{small_keep}
use Rattle.sets.specs.declared.Set.{Set}
use Rattle.language.specs.Lists.{all, among}
use Rattle.language.specs.Program.{Four, arguments_of, Step, literal, sum, assign, construct, call, print, create, remove, test, Signature, Program, region_of}
use Rattle.language.specs.Values.{access, reads, gives}
use Rattle.language.specs.Regions.{reach}
use Rattle.language.specs.Lifetimes.{kept, no_effect, unshared_in, call_effect, effect, held_after}
use Rattle.language.specs.Checking.{carries, require_rule, sound_given, sound_without, step_rules, check_step}
use Rattle.laws.specs.Tests.{and_yes}
use Rattle.laws.specs.Numbers.{among_in, among_mk}
use Rattle.laws.specs.MoreSets.{difference_empty, no_change, empty_apart, apart_empty, keep_empty, keep_all, single_apart}
use Rattle.paths.specs.Paths.{Event, does, takes, compares, tries, read_by, given_by, image_at, images_at, create_not_held, remove_held, remove_not_kept, read_sound, construct_held, call_held, call_not_kept, call_not_held, call_unshared, region_rules, event_rules, held_then, not_reaching, still_sound, sound_then}
use Rattle.paths.proofs.Named.{region_named, step_named}

-- ---- one number from 1 to 64, and a list of them
pub held_one : (s : Set) (n : ℕ) → among 64 n ≡ true → subset (single n) s ≡ member s n
held_one s n e =
    let i = among_in 64 n e in
    same_truth (λ h. subset_in (single n) s h n (single_mk n i.0 i.1)) (single_subset n s)

-- a region, if it is one
held_if : (s : Set) (r : ℕ) → leb r 64 ≡ true → subset (single r) s ≡ (eqb r 0 or member s r)
unfolding ◌or◌
held_if s zero e = ap (λ (a : Set). subset a s) single_zero ∙ empty_subset s
held_if s (suc r) e =
    held_one s (suc r) (among_mk 64 (suc r) (omega arith) (leb-true (suc r) 64 e))
    ∙ sym (ap (λ (b : Bool). b or member s (suc r)) (ne_eqb (suc r) 0 (suc-ne-zero r)))

pub not_held_one : (s : Set) (n : ℕ) → among 64 n ≡ true → apart (single n) s ≡ neg (member s n)
not_held_one s n e =
    let i = among_in 64 n e in
    same_truth (λ h. true_neg (apart_in (single n) s h n (single_mk n i.0 i.1))) (λ h. single_apart n s (neg_true h))

subset_union : (a b t : Set) → subset (a ∪ b) t ≡ (subset a t & subset b t)
subset_union a b t =
    same_truth (λ h. true_and (subset_trans a (a ∪ b) t (left_union a b) h) (subset_trans b (a ∪ b) t (right_union a b) h))
    (λ h. let r = and_true h in union_least a b t r.0 r.1)

pub held_all : (s : Set) (ns : List ℕ) → all (among 64) ns ≡ true → subset (set_of ns) s ≡ all (member s) ns
unfolding all set_of
held_all s [] e = empty_subset s
held_all s (n ∷ ns) e =
    let r = and_true e in
    subset_union (single n) (set_of ns) s ∙ ap₂ ◌&◌ (held_one s n r.0) (held_all s ns r.1)

module _ (P : Program) (S : Signature) where
  -- the rules of regions are those of the step's effect
  effect_rules : Step → Set → Bool
  effect_rules g held =
      subset (effect P S g).needs held & apart (effect P S g).ends (kept S) & apart (effect P S g).bears held & (effect P S g).unshared

  no_rules : (h : Set) → (subset empty_set h & apart empty_set (kept S) & apart empty_set h & true) ≡ true
  no_rules h = true_and (empty_subset h) (true_and (empty_apart (kept S)) (true_and (empty_apart h) refl))

  region_rules_law : (g : Step) (h : Set) → region_named P S g ≡ true → effect_rules g h ≡ region_rules P S (does g) h
  unfolding ◌&◌ effect_rules effect no_effect call_effect unshared_in region_rules region_named image_at images_at create_not_held remove_held remove_not_kept construct_held call_held call_not_kept call_not_held call_unshared
  region_rules_law (literal x v) h n = no_rules h
  region_rules_law (sum x o y z) h n = no_rules h
  region_rules_law (assign x y) h n = no_rules h
  region_rules_law (construct x f ys) h n =
      ap₂ ◌&◌ (held_if h (region_of S x) n) (true_and (empty_apart (kept S)) (true_and (empty_apart h) refl)) ∙ and_yes _
  region_rules_law (call q ys) h n = refl
  region_rules_law (print y) h n = no_rules h
  region_rules_law (test y z) h n = no_rules h
  region_rules_law (create r) h n =
      ap₂ ◌&◌ (empty_subset h) (ap₂ ◌&◌ (empty_apart (kept S)) (ap (λ (b : Bool). b & true) (not_held_one h r n)))
      ∙ and_yes (neg (member h r))
  region_rules_law (remove r) h n =
      ap₂ ◌&◌ (held_one h r n) (ap₂ ◌&◌ (not_held_one (kept S) r n) (ap (λ (b : Bool). b & true) (empty_apart h)) ∙ and_yes (neg (member (kept S) r)))

  -- the conjunction of the rules that speak of a step is the checker's
  pub step_rules_law : (g : Step) (h s : Set) → step_named P S g ≡ true → step_rules P S g h s ≡ event_rules P S (does g) h s
  unfolding step_named step_rules reads event_rules read_sound read_by effect_rules
  step_rules_law g h s n =
      let r = and_true n in
      ap₂ ◌&◌ (held_all s (access P g).read r.0) (region_rules_law g h r.1)

  -- the held regions after it
  pub step_held : (g : Step) (h : Set) → held_after P S g h ≡ held_then P S (does g) h
  unfolding held_after held_then effect no_effect call_effect image_at images_at
  step_held (literal x v) h = no_change h
  step_held (sum x o y z) h = no_change h
  step_held (assign x y) h = no_change h
  step_held (construct x f ys) h = no_change h
  step_held (call q ys) h = refl
  step_held (print y) h = no_change h
  step_held (test y z) h = no_change h
  step_held (create r) h = ap (λ (a : Set). a ∪ single r) (difference_empty h)
  step_held (remove r) h = union_empty (h ∖ single r)

  -- the variables that stay sound
  stays_sound : (s : Set) → Small s → sound_without S empty_set s ≡ s
  unfolding sound_without
  stays_sound s h = keep_all (λ x. apart (reach S x) empty_set) s h (λ x. apart_empty (reach S x))

  step_still : (g : Step) (s : Set) → Small s → sound_without S (effect P S g).ends s ≡ still_sound P S (does g) s
  unfolding sound_without still_sound not_reaching effect no_effect call_effect image_at images_at
  step_still (literal x v) s h = stays_sound s h
  step_still (sum x o y z) s h = stays_sound s h
  step_still (assign x y) s h = stays_sound s h
  step_still (construct x f ys) s h = stays_sound s h
  step_still (call q ys) s h = refl
  step_still (print y) s h = stays_sound s h
  step_still (test y z) s h = stays_sound s h
  step_still (create r) s h = stays_sound s h
  step_still (remove r) s h = refl

  -- a step of the checker is an event of the path
  pub step_checks : (g : Step) (h s : Set) → step_named P S g ≡ true → Small s
      → check_step P S g h s ≡ require_rule (event_rules P S (does g) h s) (carries (held_then P S (does g) h) (sound_then P S (does g) h s))
  unfolding check_step sound_given sound_then gives given_by
  step_checks g h s n m = rw (step_rules_law g h s n, step_held g h, step_still g s m)

  -- an arm that is taken, and an if's part
  pub takes_sound : (x f : ℕ) (ys : Four) (h s : Set) → sound_given S (set_of (arguments_of ys)) h s ≡ sound_then P S (takes x f ys) h s
  unfolding sound_given sound_then still_sound held_then given_by
  takes_sound x f ys h s = refl

  pub compares_sound : (y z : ℕ) (b : Bool) (h s : Set) → sound_then P S (compares y z b) h s ≡ s
  unfolding sound_then still_sound given_by set_of
  compares_sound y z b h s =
      ap (λ (a : Set). (s ∖ empty_set) ∪ a) (keep_empty (λ x. subset (reach S x) (held_then P S (compares y z b) h))) ∙ no_change s

  pub tries_sound : (b : Bool) (h s : Set) → sound_then P S (tries b) h s ≡ s
  unfolding sound_then still_sound given_by set_of
  tries_sound b h s = ap (λ (a : Set). (s ∖ empty_set) ∪ a) (keep_empty (λ x. subset (reach S x) (held_then P S (tries b) h))) ∙ no_change s

  -- what is sound after an event has no member above 64
  still_small : (e : Event) (s : Set) → Small s → Small (still_sound P S e s)
  unfolding still_sound not_reaching
  still_small (does (literal x v)) s h = h
  still_small (does (sum x o y z)) s h = h
  still_small (does (assign x y)) s h = h
  still_small (does (construct x f ys)) s h = h
  still_small (does (call q ys)) s h = small_keep _ s
  still_small (does (print y)) s h = h
  still_small (does (test y z)) s h = h
  still_small (does (create r)) s h = h
  still_small (does (remove r)) s h = small_keep _ s
  still_small (takes x f ys) s h = h
  still_small (compares y z b) s h = h
  still_small (tries b) s h = h

  pub sound_small : (e : Event) (h s : Set) → Small s → Small (sound_then P S e h s)
  unfolding sound_then
  sound_small e h s m = small_union (small_difference (set_of (given_by P S e)) (still_small e s m)) (small_keep _ (set_of (given_by P S e)))
