-- The images of one call.
use Rattle.std.specs.Prelude.{ℕ, ◌+◌, ◌≤◌, ◌<◌, Bool, true, false, List, ◌≡◌, length, get_or, set, replicate}
use native.Mathlib.Omega.{arith}
use Rattle.std.proofs.Math.Decide.{dec_lt, ℕ_discrete}
use Rattle.std.proofs.lemmas.Bool.{false≢true}
use Rattle.std.proofs.Common.{sym, ◌∙◌, length-set, get_or-set_same, get_or-set_other}
use Rattle.std.proofs.Math.Path.{ap}
use Rattle.std.proofs.Math.ListN.{get_or-eq_default}
use Rattle.language.specs.Lists.{nth}
use Rattle.language.specs.File.{k_header, k_call, k_goal, kinds, kind_of, word, record_count}
use Rattle.language.specs.Format.{places, call_procedure, call_arguments}
use Rattle.language.specs.Program.{signature_of}
use Rattle.language.specs.Answers.{program}
use Rattle.language.specs.Regions.{Mapping, mapping, image_in}
use Rattle.chains.specs.Layout.{header_kind_law}
use Rattle.chains.specs.Formed.{Formed, counted, arguments_at}
use Rattle.chains.specs.Shapes.{IsCall}
use Rattle.owners.specs.Owner.{owner_of}
use Rattle.regions.specs.Here.{Given, Here}
use Rattle.regions.specs.Repeats.{Repeats, same}
use Rattle.regions.specs.Pairs.{images_in, answer}
use Rattle.regions.specs.CallMap.{Blank, CallMapped}
use Rattle.regions.specs.CallEffect.{CallHere, blank, mapped, imaged}
use Rattle.plans.specs.Passes.{image_of}

-- each number in t is a region's or 0
pub record Regions (t : List ℕ) : Type 0 where
  pub room : length t ≡ places
  pub below : (r : ℕ) → get_or t r 0 < places

-- .. and they are the images of the call at record i
pub record CallImages (f : List ℕ) (i : ℕ) (t : List ℕ) : Type 0 where
  pub regions : Regions t
  pub at : (r : ℕ) → get_or t r 0 ≡ image_of f i r

-- .. of the last call, at record j; there is none before the first
pub record LastCall (f : List ℕ) (j : ℕ) (t : List ℕ) : Type 0 where
  pub below : j < record_count f
  pub regions : Regions t
  pub call : IsCall f j → CallImages f j t

-- the header is no call
pub kind_differs : k_header ≡ k_goal k_call → ⊥
kind_differs e = false≢true cc

-- ---- clearing a table: places below r are 0
pub record Cleared (r : ℕ) (t : List ℕ) : Type 0 where
  pub room : length t ≡ places
  pub none : (q : ℕ) → q < r → get_or t q 0 ≡ 0

pub cleared_none : (t : List ℕ) → length t ≡ places → Cleared 0 t
cleared_none t e = record { room = e; none = λ q l. absurd (omega arith) }

pub cleared_more : (r : ℕ) (t : List ℕ) → r < places → Cleared r t → Cleared (r + 1) (set t r 0)
cleared_more r t l C = record { room = length-set t r 0 ∙ C.room; none = λ q m. go q m (ℕ_discrete q r) }
  where
    go : (q : ℕ) → q < r + 1 → Dec (q ≡ r) → get_or (set t r 0) q 0 ≡ 0
    go q m (yes e) = rw e (get_or-set_same t r 0 0 (omega (arith, C.room)))
    go q m (no n) = get_or-set_other t r q 0 0 n ∙ C.none q (omega (arith, n))

pub cleared_all : (r : ℕ) (t : List ℕ) → places ≤ r → Cleared r t → Blank t
cleared_all r t l C = record {
  room = C.room;
  none = λ q. elim (dec_lt q r) [ yes m ↦ C.none q m | no m ↦ (let k : length t ≤ q = omega (arith, C.room) in get_or-eq_default t 0 k) ];
}

blank_regions : {t : List ℕ} → Blank t → Regions t
blank_regions B = record { room = B.room; below = λ r. let h = B.none r in omega arith }

-- before the first call
pub found_none : {f t : List ℕ} → Formed f → t ≡ replicate places 0 → LastCall f 0 t
unfolding kind_of kinds nth
found_none {f} F e = record {
  below = (counted F).some;
  regions = blank_regions (blank e);
  call = λ k. absurd (kind_differs (sym (header_kind_law f F.header F.form) ∙ ap kind_of k));
}

-- ---- the images that the mapping leaves
module _ {f own theirs : List ℕ} {i : ℕ} (K : CallHere f own theirs i) {a : ℕ} (e : a ≡ word f i call_arguments) {t : List ℕ} (B : Blank t) (b : Bool)
    (t' : List ℕ) (M : CallMapped f own theirs a t b t') where
  image_is : (r : ℕ) → image_of f i r ≡ image_in (answer b t') r
  unfolding image_of
  image_is r = ap (λ (m : Mapping). image_in m r) (mapped K e B b t' M)

  some_is : b ≡ true → (r : ℕ) → image_of f i r ≡ get_or t' r 0
  unfolding image_in answer images_in
  some_is y r = image_is r ∙ ap (λ (x : Bool). image_in (answer x t') r) y

  none_is : b ≡ false → (r : ℕ) → image_of f i r ≡ 0
  unfolding image_in answer
  none_is n r = image_is r ∙ ap (λ (x : Bool). image_in (answer x t') r) n

  few : b ≡ true → (r : ℕ) → get_or t' r 0 < places
  unfolding images_in
  few y r =
      let I = imaged K e B b t' M y in
      elim (dec_lt 0 (get_or t' r 0)) [ yes l ↦ omega (arith, I.top_image r (I.only r l)) | no l ↦ omega arith ]

  pub images_some : b ≡ true → length t' ≡ length t → CallImages f i t'
  images_some y l = record { regions = record { room = l ∙ B.room; below = few y }; at = λ r. sym (some_is y r) }

  -- where a region has two images, none has one
  pub images_none : b ≡ false → {u : List ℕ} → Blank u → CallImages f i u
  images_none n D = record { regions = blank_regions D; at = λ r. D.none r ∙ sym (none_is n r) }

-- ---- the next record
again : (f : List ℕ) (i j : ℕ) → owner_of f i ≡ owner_of f j → word f i call_procedure ≡ word f j call_procedure
    → mapping (signature_of (program f) (owner_of f i)) (signature_of (program f) (word f i call_procedure)) (arguments_at f (word f i call_arguments))
    ≡ mapping (signature_of (program f) (owner_of f i)) (signature_of (program f) (word f i call_procedure)) (arguments_at f (word f j call_arguments))
    → (r : ℕ) → image_of f j r ≡ image_of f i r
unfolding image_of
again f i j o c m r = rw (← o, ← c) (ap (λ (x : Mapping). image_in x r) (sym m))

pub found_call : {f : List ℕ} {i : ℕ} {t : List ℕ} → i < record_count f → CallImages f i t → LastCall f i t
found_call l C = record { below = l; regions = C.regions; call = λ k. C }

-- a call that repeats the last one has its images
pub found_again : {f table owners own : List ℕ} → Given f table owners → {i j : ℕ} → Here f own i → {t : List ℕ} → LastCall f j t → Repeats f own owners j i → LastCall f i t
found_again {f} G {i} {j} H {t} D R = found_call H.below (record { regions = D.regions; at = λ r. (D.call R.kind).at r ∙ equal r })
  where
    owner : owner_of f i ≡ owner_of f j
    owner = sym (G.owned i H.below) ∙ R.owner ∙ G.owned j D.below

    equal : (r : ℕ) → image_of f j r ≡ image_of f i r
    equal r = again f i j owner R.callee (same H R owner) r
