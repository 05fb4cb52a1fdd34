-- What the passes leave in the sides and the images: each record's side, and behind the place before them a call's images.
use Prim.Native.Nat.{ℕ, zero, suc, ◌+◌, ◌-◌, ◌*◌, ◌≤◌, ◌<◌}
use native.Mathlib.Omega.{arith}
use Rattle.std.proofs.Math.Decide.{ℕ_discrete}
use Rattle.std.specs.Prelude.{Bool, List, ◌≡◌}
use Rattle.std.proofs.Math.Bool.{true, false}
use Rattle.std.proofs.Math.Path.{refl}
use Rattle.std.proofs.Common.{ap, ◌∙◌}
use Rattle.std.proofs.Math.ListN.{length, get_or, length-set}
use Rattle.std.proofs.Math.Seq.{get_or-set_same, get_or-set_other}
use Rattle.language.specs.Lists.{choose}
use Rattle.language.specs.File.{record_count}
use Rattle.language.specs.Format.{max_regions, places, call_kind}
use Rattle.language.specs.Typing.{typing_ok}
use Rattle.language.specs.Answers.{program}
use Rattle.region_graph.specs.Typed.{regions_few, signature_typed}
use Rattle.plans.specs.Plan.{sides_from}
use Rattle.plans.specs.Passes.{is_kind, callee_of, Regional, image_count, images_before, image_of, each_from, side_at, sided_at, siding, copied, pictured_at, picturing, images_of}
use Rattle.plans.specs.Kept.{set_keeps}

-- ---- sides
module _ (f : List ℕ) where
  pub siding_low : (m b : ℕ) (t : List ℕ) (p : ℕ) → p < sides_from + b → get_or (siding f m b t) p 0 ≡ get_or t p 0
  unfolding siding each_from sided_at
  siding_low zero b t p l = refl
  siding_low (suc m) b t p l =
      siding_low m (suc b) (sided_at f b t) p (omega arith)
      ∙ get_or-set_other t (sides_from + b) p (side_at f (images_before f b) b) 0 (λ e. omega arith)

  pub siding_here : (m b : ℕ) (t : List ℕ) → sides_from + (b + m) ≤ length t → (i : ℕ) → b ≤ i → i < b + m
      → get_or (siding f m b t) (sides_from + i) 0 ≡ side_at f (images_before f i) i
  unfolding siding each_from sided_at
  siding_here zero b t l i h k = absurd (omega arith)
  siding_here (suc m) b t l i h k = elim (ℕ_discrete b i) [
    | yes e ↦ rw (← e)
        (siding_low m (suc b) (sided_at f b t) (sides_from + b) (omega arith)
        ∙ get_or-set_same t (sides_from + b) (side_at f (images_before f b) b) 0 (omega arith))
    | no n ↦
        siding_here m (suc b) (sided_at f b t) (omega (arith, length-set t (sides_from + b) (side_at f (images_before f b) b))) i
        (omega (arith, n)) (omega arith)
  ]

-- ---- the images of one call
module _ (m : ℕ → ℕ) where
  pub copied_length : (n at : ℕ) (t : List ℕ) → length (copied m n at t) ≡ length t
  unfolding copied
  copied_length zero at t = refl
  copied_length (suc n) at t = length-set (copied m n at t) (at + suc n) (m (suc n)) ∙ copied_length n at t

  copied_low : (n at : ℕ) (t : List ℕ) (p : ℕ) → p ≤ at → get_or (copied m n at t) p 0 ≡ get_or t p 0
  unfolding copied
  copied_low zero at t p l = refl
  copied_low (suc n) at t p l = get_or-set_other (copied m n at t) (at + suc n) p (m (suc n)) 0 (λ e. omega arith) ∙ copied_low n at t p l

  copied_here : (n at : ℕ) (t : List ℕ) → at + n < length t → (r : ℕ) → 1 ≤ r → r ≤ n → get_or (copied m n at t) (at + r) 0 ≡ m r
  unfolding copied
  copied_here zero at t l r h k = absurd (omega arith)
  copied_here (suc n) at t l r h k = elim (ℕ_discrete r (suc n)) [
    | yes e ↦ rw e (get_or-set_same (copied m n at t) (at + suc n) (m (suc n)) 0 (omega (arith, copied_length n at t)))
    | no ne ↦
        get_or-set_other (copied m n at t) (at + suc n) (at + r) (m (suc n)) 0 (λ e. omega (arith, ne))
        ∙ copied_here n at t (omega arith) r h (omega (arith, ne))
  ]

  -- images of regions are regions
  pub copied_keeps : ((r : ℕ) → m r < places) → (n at : ℕ) (t : List ℕ) → Regional t → Regional (copied m n at t)
  unfolding copied
  copied_keeps h zero at t k = k
  copied_keeps h (suc n) at t k = set_keeps (λ p v. v < places) (copied m n at t) (at + suc n) (m (suc n)) (h (suc n)) (copied_keeps h n at t k)

-- ---- how many images there are
module _ (f : List ℕ) where
  pub before_next : (i : ℕ) → images_before f (suc i) ≡ images_before f i + image_count f i
  unfolding images_before
  before_next i = refl

  count_by : (i : ℕ) (b : Bool) → length (callee_of f i).regions ≤ max_regions → choose b (length (callee_of f i).regions) 0 ≤ max_regions
  unfolding choose
  count_by i true l = l
  count_by i false l = omega arith

  module _ (ok : typing_ok (program f) ≡ true) where
    pub count_few : (i : ℕ) → image_count f i ≤ max_regions
    unfolding image_count
    count_few i = count_by i (is_kind f call_kind i) (regions_few (program f).types (callee_of f i) (signature_typed (program f) ok _))

    pub before_few : (i : ℕ) → images_before f i ≤ max_regions * i
    unfolding images_before
    before_few zero = omega arith
    before_few (suc i) = omega (arith, before_few i, count_few i)

-- ---- all images
module _ (f : List ℕ) (i : ℕ) (t : List ℕ) where
  abbrev here : List ℕ
  here = copied (image_of f i) (image_count f i) (images_before f i) t

  length_by : (b : Bool) → length (choose b here t) ≡ length t
  unfolding choose
  length_by true = copied_length (image_of f i) (image_count f i) (images_before f i) t
  length_by false = refl

  pub pictured_length : length (pictured_at f i t) ≡ length t
  unfolding pictured_at
  pictured_length = length_by (is_kind f call_kind i)

  low_by : (b : Bool) (p : ℕ) → p ≤ images_before f i → get_or (choose b here t) p 0 ≡ get_or t p 0
  unfolding choose
  low_by true p l = copied_low (image_of f i) (image_count f i) (images_before f i) t p l
  low_by false p l = refl

  pictured_low : (p : ℕ) → p ≤ images_before f i → get_or (pictured_at f i t) p 0 ≡ get_or t p 0
  unfolding pictured_at
  pictured_low p l = low_by (is_kind f call_kind i) p l

  pictured_here : is_kind f call_kind i ≡ true → images_before f i + image_count f i < length t → (r : ℕ) → 1 ≤ r → r ≤ image_count f i
      → get_or (pictured_at f i t) (images_before f i + r) 0 ≡ image_of f i r
  unfolding pictured_at choose
  pictured_here c l r h k = rw c (copied_here (image_of f i) (image_count f i) (images_before f i) t l r h k)

module _ (f : List ℕ) where
  picturing_low : (m b : ℕ) (t : List ℕ) (p : ℕ) → p ≤ images_before f b → get_or (picturing f m b t) p 0 ≡ get_or t p 0
  unfolding picturing each_from
  picturing_low zero b t p l = refl
  picturing_low (suc m) b t p l = picturing_low m (suc b) (pictured_at f b t) p (omega (arith, before_next f b)) ∙ pictured_low f b t p l

  pub picturing_here : (m b : ℕ) (t : List ℕ) → ((j : ℕ) → j < b + m → images_before f j + image_count f j < length t) → (i : ℕ) → b ≤ i → i < b + m
      → is_kind f call_kind i ≡ true → (r : ℕ) → 1 ≤ r → r ≤ image_count f i → get_or (picturing f m b t) (images_before f i + r) 0 ≡ image_of f i r
  unfolding picturing each_from
  picturing_here zero b t l i h k c r u v = absurd (omega arith)
  picturing_here (suc m) b t l i h k c r u v = elim (ℕ_discrete b i) [
    | yes z ↦ rw (← z) (first (rw (← z) at c) (rw (← z) at v))
    | no z ↦ picturing_here m (suc b) (pictured_at f b t) (λ j q. omega (arith, l j (omega arith), pictured_length f b t)) i (omega (arith, z)) (omega arith) c r u v
  ]
    where
      first : is_kind f call_kind b ≡ true → r ≤ image_count f b → get_or (picturing f m (suc b) (pictured_at f b t)) (images_before f b + r) 0 ≡ image_of f b r
      first d w =
          picturing_low m (suc b) (pictured_at f b t) (images_before f b + r) (omega (arith, before_next f b)) ∙ pictured_here f b t d (l b (omega arith)) r u w

  picturing_length : (m b : ℕ) (t : List ℕ) → length (picturing f m b t) ≡ length t
  unfolding picturing each_from
  picturing_length zero b t = refl
  picturing_length (suc m) b t = picturing_length m (suc b) (pictured_at f b t) ∙ pictured_length f b t

  pub images_length : (t : List ℕ) {u : List ℕ} → u ≡ images_of f t → {k : ℕ} → k ≤ length t → k ≤ length u
  unfolding images_of
  images_length t e h = rw (ap length e ∙ picturing_length (record_count f - 1) 1 t) h
