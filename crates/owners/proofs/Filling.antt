-- What each step of `list_owners` does, over plain values: one record, and the loop over all of them.
use Prim.Native.Nat.{ℕ, suc, ◌+◌, ◌≤◌, ◌<◌}
use native.Mathlib.Omega.{arith}
use native.Mathlib.Numerals.{add-one}
use mathlib.Core.Bool.{Bool, true, false}
use mathlib.Core.Path.{◌≡◌, refl, ap, ◌∙◌}
use mathlib.Core.List.{List, ◌++◌}
use borrow.Author.Tests.{eq-eqb, ne_eqb}
use lib.Dec.{eqb}
use lib.ListN.{length, get_or, set, take, drop, replicate, length-replicate, length-append, length-take, length-drop, get_or-append}
use Rattle.language.specs.Lists.{choose}
use Rattle.language.specs.File.{record_count}
use Rattle.language.specs.Format.{next_word, procedure_kind}
use Rattle.records.specs.Sizes.{word_end}
use Rattle.records.specs.Blank.{blank_zero}
use Rattle.chains.specs.Formed.{Formed, counted}
use Rattle.owners.specs.Handed.{next_and, hand_down, handed_up_to, handed}
use Rattle.owners.specs.Handing.{up_to_length, up_to_keeps, up_to_append, handed_append}
use Rattle.owners.specs.Owner.{owner_by, owners_of}

-- ---- the first n places cleared, in place
pub cleared : (n : ℕ) (d : List ℕ) {t : List ℕ} → n ≤ length d → t ≡ replicate (length (take n d)) 0 → t ++ drop n d ≡ replicate n 0 ++ drop n d
cleared n d l e =
    let k : length (take n d) ≡ n = simp length-take (omega arith) in
    ap (λ (u : List ℕ). u ++ drop n d) (e ∙ ap (λ m. replicate m 0) k)

pub cleared_length : (n : ℕ) (d : List ℕ) {t : List ℕ} → n ≤ length d → t ≡ replicate (length (take n d)) 0 → length (t ++ drop n d) ≡ length d
cleared_length n d l e = ap length (cleared n d l e) ∙ simp (length-append, length-drop, length-replicate) (omega arith)

-- ---- one word
either : (b : Bool) (v : ℕ) → v ≡ choose b v v
unfolding choose
either true v = refl
either false v = refl

module _ (k i w own : ℕ) where
  pub number_next : k ≡ procedure_kind → w ≡ next_word → own + 1 ≡ owner_by k i w own
  unfolding owner_by next_and choose
  number_next e g = rw (eq-eqb k _ e, eq-eqb w _ g)

  pub number_kind : (k ≡ procedure_kind → ⊥) → own ≡ owner_by k i w own
  unfolding owner_by next_and choose
  number_kind e = rw (ne_eqb k _ e) (either (eqb w next_word) own)

  pub number_word : (w ≡ next_word → ⊥) → own ≡ owner_by k i w own
  unfolding owner_by next_and choose
  number_word e = rw (ne_eqb w _ e)

-- ---- the loop: the first i records have handed down, from a table with n zeros in front
few_more : (a b : Bool) (own m : ℕ) → own ≤ m → choose a (choose b (own + 1) own) own ≤ suc m
unfolding choose
few_more true true own m l = omega arith
few_more true false own m l = omega arith
few_more false b own m l = omega arith

module _ {f : List ℕ} (F : Formed f) where
  up_to_low : (m : ℕ) → m ≤ record_count f → (p : ℕ) → get_or (handed_up_to owner_by f m (replicate (record_count f) 0)) p 0 ≤ m
  unfolding owner_by next_and
  up_to_low m l =
      up_to_keeps F owner_by (λ m p v. v ≤ m) (λ m p v h. omega arith) (λ m q v h k i. few_more _ _ v m h) m l (replicate (record_count f) 0)
      (λ p. omega (arith, blank_zero (record_count f) p))

  -- t₁ is the cleared table, t what stands after i records
  module _ {n : ℕ} {t₁ : List ℕ} (d : List ℕ) (e : n ≡ record_count f) (cleared : t₁ ≡ replicate n 0 ++ drop n d) where
    abbrev none : List ℕ
    none = replicate {A = ℕ} (record_count f) 0

    abbrev behind : List ℕ
    behind = drop (record_count f) d

    front : t₁ ≡ none ++ behind
    front = cleared ∙ rw e refl

    long : length none ≡ record_count f
    long = length-replicate {A = ℕ} (record_count f) 0

    -- a number more fits
    pub fits_more : {t : List ℕ} (i : ℕ) → t ≡ handed_up_to owner_by f i t₁ → i < n → get_or t i 0 + 1 < word_end
    fits_more {t} i h l =
        let u = handed_up_to owner_by f i none in
        let a : t ≡ u ++ behind = h ∙ ap (handed_up_to owner_by f i) front ∙ up_to_append F owner_by none behind (omega (arith, long)) i (omega (arith, e)) in
        rw (a, get_or-append u behind 0 i (omega (arith, e, long, up_to_length owner_by f i none)))
        (omega (arith, up_to_low i (omega (arith, e)) i, (counted F).most))

    pub last : {t : List ℕ} (i : ℕ) → t ≡ handed_up_to owner_by f i t₁ → i ≤ n → n ≤ i → set t 0 0 ≡ owners_of f ++ behind
    unfolding owners_of handed
    last i h l m =
        let z : i ≡ record_count f = omega arith in
        ap (λ (u : List ℕ). set u 0 0) (h ∙ ap (λ j. handed_up_to owner_by f j t₁) z ∙ ap (handed_up_to owner_by f (record_count f)) front)
        ∙ handed_append F owner_by none behind (omega (arith, long))

pub next : (f t₁ : List ℕ) (i : ℕ) {t u : List ℕ} → t ≡ handed_up_to owner_by f i t₁ → u ≡ hand_down owner_by f i t → u ≡ handed_up_to owner_by f (i + 1) t₁
unfolding handed_up_to
next f t₁ i e g = g ∙ rw (add-one i, e) refl
