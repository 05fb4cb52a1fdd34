-- What one event does, seen from two paths that meet it: its rules and the sound variables after it split over a common part, and what is
-- held before it is known from what is held after it.
use Rattle.std.specs.Prelude.{ℕ, Bool, true, false, List, ◌⊎◌, ◌≡◌}
use Rattle.std.proofs.Common.{inl, inr, ⊎_elim, sym, ap₂, ◌∙◌}
use Rattle.std.proofs.Math.Path.{refl, ap}
use Rattle.sets.specs.Tests.{◌&◌, ◌or◌, neg, truth, clash, same_truth, and_true, neg_true}
use Rattle.sets.specs.Sets.{member, single, ◌∪◌, ◌∩◌, ◌∖◌, subset, apart, member_union, member_intersection, member_difference, union_left, union_in, intersection_mk, intersection_in, difference_mk, difference_in, member_ext, subset_in, subset_mk}
use Rattle.sets.specs.SetLaws.{subset_refl, subset_trans, subset_antisym, single_subset, left_union, difference_left, apart_in, apart_mono, small_top}
use Rattle.sets.specs.Members.{set_of, keep, image}
use Rattle.sets.specs.MemberLaws.{keep_in, keep_mk, small_keep, union_over_mono}
use Rattle.sets.specs.declared.Set.{Set}
use Rattle.language.specs.Lists.{all}
use Rattle.language.specs.Program.{literal, sum, assign, construct, call, print, create, remove, test, Signature, Program, signature_of}
use Rattle.language.specs.Lifetimes.{born, dead, kept}
use Rattle.language.specs.Regions.{reach}
use Rattle.laws.specs.Lists.{all_same, all_both}
use Rattle.laws.specs.MoreSets.{single_apart}
use Rattle.paths.specs.Paths.{Event, does, takes, compares, tries, read_by, given_by, image_at, images_at, create_not_held, remove_held, read_sound, call_held, call_not_held, region_rules, event_rules, held_then, not_reaching, still_sound, sound_then}

-- ---- tests and sets
and_beside : (a b r : Bool) → ((a & b) & r) ≡ ((a & r) & (b & r))
unfolding ◌&◌
and_beside true true true = refl
and_beside true true false = refl
and_beside true false true = refl
and_beside true false false = refl
and_beside false b r = refl

or_beside : (a b r : Bool) → ((a & b) or r) ≡ ((a or r) & (b or r))
unfolding ◌&◌ ◌or◌
or_beside true b r = refl
or_beside false true true = refl
or_beside false true false = refl
or_beside false false true = refl
or_beside false false false = refl

difference_meet : (a b g : Set) → (a ∩ b) ∖ g ≡ (a ∖ g) ∩ (b ∖ g)
difference_meet a b g = member_ext ((a ∩ b) ∖ g) ((a ∖ g) ∩ (b ∖ g)) go
  where
    go : (n : ℕ) → member ((a ∩ b) ∖ g) n ≡ member ((a ∖ g) ∩ (b ∖ g)) n
    go n =
        member_difference (a ∩ b) g n ∙ ap (λ (c : Bool). c & neg (member g n)) (member_intersection a b n)
        ∙ and_beside (member a n) (member b n) (neg (member g n)) ∙ sym (ap₂ ◌&◌ (member_difference a g n) (member_difference b g n))
        ∙ sym (member_intersection (a ∖ g) (b ∖ g) n)

union_meet : (a b k : Set) → (a ∩ b) ∪ k ≡ (a ∪ k) ∩ (b ∪ k)
union_meet a b k = member_ext ((a ∩ b) ∪ k) ((a ∪ k) ∩ (b ∪ k)) go
  where
    go : (n : ℕ) → member ((a ∩ b) ∪ k) n ≡ member ((a ∪ k) ∩ (b ∪ k)) n
    go n =
        member_union (a ∩ b) k n ∙ ap (λ (c : Bool). c or member k n) (member_intersection a b n)
        ∙ or_beside (member a n) (member b n) (member k n) ∙ sym (ap₂ ◌&◌ (member_union a k n) (member_union b k n))
        ∙ sym (member_intersection (a ∪ k) (b ∪ k) n)

keep_meet : (p : ℕ → Bool) (a b : Set) → keep p (a ∩ b) ≡ keep p a ∩ keep p b
keep_meet p a b = member_ext (keep p (a ∩ b)) (keep p a ∩ keep p b) (λ n. same_truth (down n) (up n))
  where
    down : (n : ℕ) → member (keep p (a ∩ b)) n ≡ true → member (keep p a ∩ keep p b) n ≡ true
    down n e =
        let k = keep_in p (a ∩ b) n e in
        let m = intersection_in a b n k.0 in
        let l = small_top (keep p (a ∩ b)) (small_keep p (a ∩ b)) n e in
        intersection_mk (keep p a) (keep p b) n (keep_mk p a n m.0 l k.1) (keep_mk p b n m.1 l k.1)

    up : (n : ℕ) → member (keep p a ∩ keep p b) n ≡ true → member (keep p (a ∩ b)) n ≡ true
    up n e =
        let m = intersection_in (keep p a) (keep p b) n e in
        let k = keep_in p a n m.0 in
        keep_mk p (a ∩ b) n (intersection_mk a b n k.0 (keep_in p b n m.1).0)
        (small_top (keep p a) (small_keep p a) n m.0) k.1

-- ---- what was held before, from what is held after
union_back : (b h k : Set) → apart b h ≡ true → apart b k ≡ true → h ∪ b ≡ k ∪ b → h ≡ k
union_back b h k f g e = subset_antisym h k (go h k f e) (go k h g (sym e))
  where
    go : (h k : Set) → apart b h ≡ true → h ∪ b ≡ k ∪ b → subset h k ≡ true
    go h k f e =
        subset_mk h k
        (λ n m. ⊎_elim (λ p. p) (λ q. absurd (clash m (apart_in b h f n q)))
        (union_in k b n (ap (λ (s : Set). member s n) (sym e) ∙ union_left h b n m)))

difference_back : (d h k : Set) → subset d h ≡ true → subset d k ≡ true → h ∖ d ≡ k ∖ d → h ≡ k
difference_back d h k f g e = subset_antisym h k (go h k g e) (go k h f (sym e))
  where
    at : (h k : Set) → subset d k ≡ true → h ∖ d ≡ k ∖ d → (n : ℕ) → member h n ≡ true → (member d n ≡ true) ⊎ (member d n ≡ false)
        → member k n ≡ true
    at h k f e n m (inl p) = subset_in d k f n p
    at h k f e n m (inr q) = (difference_in k d n (ap (λ (s : Set). member s n) (sym e) ∙ difference_mk h d n m q)).0

    go : (h k : Set) → subset d k ≡ true → h ∖ d ≡ k ∖ d → subset h k ≡ true
    go h k f e = subset_mk h k (λ n m. at h k f e n m (truth (member d n)))

module _ (P : Program) (S : Signature) where
  -- the images of dead regions are among those of dead and kept ones
  dead_images : (q : ℕ) (ys : List ℕ) (h : Set) → call_held P S q ys h ≡ true → subset (images_at P S q ys (dead (signature_of P q))) h ≡ true
  unfolding call_held images_at image
  dead_images q ys h e =
      subset_trans _ _ h
      (union_over_mono _ _ (dead (signature_of P q)) (dead (signature_of P q) ∪ kept (signature_of P q)) (λ x. subset_refl (single (image_at P S q ys x)))
      (left_union (dead (signature_of P q)) (kept (signature_of P q)))) e

  call_back : (q : ℕ) (ys : List ℕ) (h k : Set) → region_rules P S (does (call q ys)) h ≡ true → region_rules P S (does (call q ys)) k ≡ true
      → held_then P S (does (call q ys)) h ≡ held_then P S (does (call q ys)) k → h ≡ k
  unfolding region_rules call_not_held held_then
  call_back q ys h k f g e =
      let a = and_true f in
      let b = and_true g in
      let d = images_at P S q ys (dead (signature_of P q)) in
      let r = images_at P S q ys (born (signature_of P q)) in
      let x = (and_true (and_true a.1).1).0 in
      let y = (and_true (and_true b.1).1).0 in
      difference_back d h k (dead_images q ys h a.0) (dead_images q ys k b.0)
      (union_back r (h ∖ d) (k ∖ d) (apart_mono r (h ∖ d) r h (subset_refl r) (difference_left h d) x)
      (apart_mono r (k ∖ d) r k (subset_refl r) (difference_left k d) y) e)

  -- two paths that meet an event and hold the same regions after it held the same before it
  pub held_back : (e : Event) (h k : Set) → region_rules P S e h ≡ true → region_rules P S e k ≡ true → held_then P S e h ≡ held_then P S e k → h ≡ k
  unfolding region_rules held_then create_not_held remove_held
  held_back (does (literal x v)) h k f g e = e
  held_back (does (sum x o y z)) h k f g e = e
  held_back (does (assign x y)) h k f g e = e
  held_back (does (construct x c ys)) h k f g e = e
  held_back (does (call q ys)) h k f g e = call_back q ys h k f g e
  held_back (does (print y)) h k f g e = e
  held_back (does (test y z)) h k f g e = e
  held_back (does (create r)) h k f g e = union_back (single r) h k (single_apart r h (neg_true f)) (single_apart r k (neg_true g)) e
  held_back (does (remove r)) h k f g e =
      difference_back (single r) h k (single_subset r h (and_true f).0) (single_subset r k (and_true g).0) e
  held_back (takes x c ys) h k f g e = e
  held_back (compares y z b) h k f g e = e
  held_back (tries b) h k f g e = e

  -- the rules of an event for what is sound on both of two paths
  pub rules_meet : (e : Event) (h s t : Set) → event_rules P S e h (s ∩ t) ≡ (event_rules P S e h s & event_rules P S e h t)
  unfolding event_rules read_sound
  rules_meet e h s t =
      ap (λ (b : Bool). b & region_rules P S e h)
      (all_same (member (s ∩ t)) (λ y. member s y & member t y) (member_intersection s t) (read_by P S e)
      ∙ all_both (member s) (member t) (read_by P S e))
      ∙ and_beside (all (member s) (read_by P S e)) (all (member t) (read_by P S e)) (region_rules P S e h)

  still_meet : (e : Event) (s t : Set) → still_sound P S e (s ∩ t) ≡ still_sound P S e s ∩ still_sound P S e t
  unfolding still_sound not_reaching
  still_meet (does (literal x v)) s t = refl
  still_meet (does (sum x o y z)) s t = refl
  still_meet (does (assign x y)) s t = refl
  still_meet (does (construct x f ys)) s t = refl
  still_meet (does (call q ys)) s t = keep_meet _ s t
  still_meet (does (print y)) s t = refl
  still_meet (does (test y z)) s t = refl
  still_meet (does (create r)) s t = refl
  still_meet (does (remove r)) s t = keep_meet _ s t
  still_meet (takes x f ys) s t = refl
  still_meet (compares y z b) s t = refl
  still_meet (tries b) s t = refl

  -- what is sound afterwards on both
  pub sound_meet : (e : Event) (h s t : Set) → sound_then P S e h (s ∩ t) ≡ sound_then P S e h s ∩ sound_then P S e h t
  unfolding sound_then
  sound_meet e h s t =
      ap (λ (a : Set). (a ∖ set_of (given_by P S e)) ∪ keep (λ x. subset (reach S x) (held_then P S e h)) (set_of (given_by P S e))) (still_meet e s t)
      ∙ ap (λ (a : Set). a ∪ keep (λ x. subset (reach S x) (held_then P S e h)) (set_of (given_by P S e)))
      (difference_meet (still_sound P S e s) (still_sound P S e t) (set_of (given_by P S e)))
      ∙ union_meet (still_sound P S e s ∖ set_of (given_by P S e)) (still_sound P S e t ∖ set_of (given_by P S e))
      (keep (λ x. subset (reach S x) (held_then P S e h)) (set_of (given_by P S e)))
