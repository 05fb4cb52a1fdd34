-- Which variables are sound: as the members of a set are gone through, those kept so far, with those kept of the rest, are all that are kept.
use Prim.Native.Nat.{ℕ}
use mathlib.Core.Bool.{Bool, true, false}
use mathlib.Core.Path.{◌≡◌, sym, ap, ap₂, ◌∙◌, fun_ext}
use mathlib.Core.List.{List, [], ◌∷◌}
use Rattle.sets.specs.Sets.{member_empty, empty_set, single, ◌∪◌, ◌∩◌, ◌∖◌, same_set, same_eq, subset, apart, Small}
use Rattle.sets.specs.SetLaws.{union_empty, empty_union, union_assoc, apart_mk}
use Rattle.sets.specs.Members.{cons_if, members, set_of, filtered, keep}
use Rattle.sets.specs.declared.Set.{Set}
use Rattle.laws.specs.MoreSets.{keep_all}
use Rattle.language.specs.Program.{Signature}
use Rattle.language.specs.Regions.{reach}
use Rattle.language.specs.Checking.{sound_given, sound_without}
use Rattle.tables.specs.Window.{reach_in}
use Rattle.checking.specs.Sound.{ReachesAll}

-- the members of s that are left are still to be looked at
pub record Keeping (p : ℕ → Bool) (s found : Set) (left : List ℕ) : Type 0 where
  pub whole : found ∪ set_of (filtered p left) ≡ keep p s

module _ (p : ℕ → Bool) (s : Set) where
  pub keep_first : {left : List ℕ} → left ≡ members s → Keeping p s empty_set left
  unfolding keep
  keep_first e = record { whole = empty_union _ ∙ ap (λ xs. set_of (filtered p xs)) e }

  module _ {found : Set} {left : List ℕ} (h : Keeping p s found left) where
    pub keep_last : left ≡ [] → found ≡ keep p s
    unfolding filtered set_of
    keep_last e = sym (union_empty found) ∙ ap (λ xs. found ∪ set_of (filtered p xs)) (sym e) ∙ h.whole

    module _ {x : ℕ} {rest : List ℕ} (e : left ≡ x ∷ rest) where
      pub keep_one : {u found' : Set} → p x ≡ true → u ≡ single x → found' ≡ found ∪ u → Keeping p s found' rest
      unfolding filtered cons_if set_of
      keep_one t eu g =
          let r : set_of (filtered p left) ≡ single x ∪ set_of (filtered p rest) =
          ap (λ xs. set_of (filtered p xs)) e ∙ ap (λ (b : Bool). set_of (cons_if b x (filtered p rest))) t in
          record { whole = rw (g, eu) (union_assoc found (single x) _ ∙ ap (λ (y : Set). found ∪ y) (sym r) ∙ h.whole) }

      pub keep_none : p x ≡ false → Keeping p s found rest
      unfolding filtered cons_if
      keep_none t =
          let r : set_of (filtered p left) ≡ set_of (filtered p rest) =
          ap (λ xs. set_of (filtered p xs)) e ∙ ap (λ (b : Bool). set_of (cons_if b x (filtered p rest))) t in
          record { whole = ap (λ (y : Set). found ∪ y) (sym r) ∙ h.whole }

-- ---- the checker's two tests of a variable, by the window
module _ (t : List ℕ) where
  -- its whole reach is held
  abbrev pub reach_held : Set → ℕ → Bool
  reach_held held x = subset (reach_in t x) held

  -- it reaches none of the regions that are gone
  abbrev pub reach_apart : Set → ℕ → Bool
  reach_apart gone x = apart (reach_in t x) gone

  pub apart_here : (gone : Set) (x : ℕ) {r m : Set} {b : Bool} → r ≡ reach_in t x → m ≡ r ∩ gone → b ≡ same_set m empty_set → b ≡ reach_apart gone x
  unfolding apart
  apart_here gone x e g h = h ∙ ap (λ (y : Set). same_set y empty_set) (g ∙ ap (λ (y : Set). y ∩ gone) e)

  pub held_here : (held : Set) (x : ℕ) {r : Set} {b : Bool} → r ≡ reach_in t x → b ≡ subset r held → b ≡ reach_held held x
  held_here held x e g = g ∙ ap (λ (y : Set). subset y held) e

  module _ (S : Signature) (w : ReachesAll S t) where
    pub given_is : (given held sound : Set) {found rest r : Set} → found ≡ keep (reach_held held) given → rest ≡ sound ∖ given → r ≡ rest ∪ found
        → r ≡ sound_given S given held sound
    unfolding sound_given
    given_is given held sound e g h = h ∙ ap₂ ◌∪◌ g (e ∙ ap (λ (p : ℕ → Bool). keep p given) (fun_ext λ x. ap (λ (y : Set). subset y held) (w x)))

    pub without_is : (gone sound : Set) {found : Set} → found ≡ keep (reach_apart gone) sound → found ≡ sound_without S gone sound
    unfolding sound_without
    without_is gone sound e = e ∙ ap (λ (p : ℕ → Bool). keep p sound) (fun_ext λ x. ap (λ (y : Set). apart y gone) (w x))

-- ---- where nothing is gone, what was sound is sound
pub without_none : (S : Signature) (gone sound : Set) {b : Bool} → Small sound → b ≡ same_set gone empty_set → b ≡ true → sound ≡ sound_without S gone sound
unfolding sound_without
without_none S gone sound h e q =
    sym (keep_all (λ x. apart (reach S x) gone) sound h λ n. ap (λ (y : Set). apart (reach S n) y) (same_eq gone empty_set (sym e ∙ q)) ∙ apart_mk (reach S n) empty_set (λ k m. member_empty k))
