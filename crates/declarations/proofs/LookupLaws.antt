-- Looking up in the two tables; a procedure's variables and regions stand where its table says.
use Prim.Native.Nat.{ℕ, ◌+◌, ◌*◌, ◌≤◌, ◌<◌}
use borrow.Author.Tests.{lt-ltb, le-ltb}
use native.Mathlib.Decide.{dec_lt}
use native.Mathlib.Omega.{arith}
use mathlib.Core.Path.{◌≡◌, ap, ◌∙◌, refl, sym}
use mathlib.Core.List.{List}
use lib.ListN.{get_or}
use Rattle.language.specs.Format.{max_functors, places, variable_type, region_type}
use Rattle.language.specs.Lists.{choose}
use Rattle.declarations.specs.DeclaredPlaces.{functor_in, functor_places, place_in, variable_in, region_in}
use mathlib.Core.Bool.{false}
use lib.Dec.{eqb}
use Rattle.laws.specs.Tests.{refuse, pass}
use Rattle.language.specs.File.{regions, word}
use Rattle.language.specs.Typing.{has_type, is_region_of}
use Rattle.chains.specs.Layout.{real}
use Rattle.chains.specs.Fields.{field_some}
use Rattle.chains.specs.Formed.{Formed, Stands}
use Rattle.chains.specs.Reached.{stands_nth1}
use Rattle.chains.specs.Lookups.{region_of_law}
use Rattle.declarations.specs.Own.{Own, declared, region_listed, signature_from, variable_none, variable_some, variable_type_law}

-- ---- looking up
module _ (t : List ℕ) (at most n : ℕ) where
  pub place_past : most ≤ n → 0 ≡ place_in t at most n
  unfolding place_in choose
  place_past h = rw (le-ltb n most h)

  pub place_there : n < most → get_or t (at + n) 0 ≡ place_in t at most n
  unfolding place_in choose
  place_there h = rw (lt-ltb n most h)

  -- in a table that has the same there
  pub place_same : (u : List ℕ) → ((k : ℕ) → at ≤ k → k < at + most → get_or u k 0 ≡ get_or t k 0) → place_in u at most n ≡ place_in t at most n
  unfolding place_in choose
  place_same u h = elim (dec_lt n most) [ yes l ↦ rw (lt-ltb n most l, h (at + n) (omega arith) (omega arith)) | no l ↦ rw (le-ltb n most (omega arith)) ]

module _ (t : List ℕ) (ty n : ℕ) where
  pub functor_past : places ≤ ty → 0 ≡ functor_in t ty n
  unfolding functor_in choose
  functor_past h = rw (le-ltb ty places h)

  pub functor_there : ty < places → {r : ℕ} → r ≡ place_in t (functor_places + max_functors * ty) max_functors n → r ≡ functor_in t ty n
  unfolding functor_in choose
  functor_there h e = rw (lt-ltb ty places h) e

  pub functor_first : ty < places → n ≡ 0 → get_or t (functor_places + max_functors * ty) 0 ≡ functor_in t ty n
  functor_first h z = functor_there h (ap (λ k. get_or t k 0) (omega arith) ∙ place_there t (functor_places + max_functors * ty) max_functors n (omega arith))

  pub functor_same : (u : List ℕ) → ((k : ℕ) → functor_places ≤ k → get_or u k 0 ≡ get_or t k 0) → functor_in u ty n ≡ functor_in t ty n
  unfolding functor_in choose
  functor_same u h =
      elim (dec_lt ty places) [
        | yes l ↦ rw (lt-ltb ty places l) (place_same t (functor_places + max_functors * ty) max_functors n u (λ k a b. h k (omega arith)))
        | no l ↦ rw (le-ltb ty places (omega arith))
      ]

module _ {f t : List ℕ} (F : Formed f) (O : Own f t) where
  pub region_stands : (r : ℕ) → Stands f regions (region_in t r)
  unfolding real
  region_stands r = rw (O.regions r) (stands_nth1 F regions refl _ O.regions_stand r)

  module _ (x : ℕ) {v : ℕ} (e : v ≡ variable_in t x) where
    module _ (z : v ≡ 0 → ⊥) where
      pub typed_some : {w : ℕ} (ty : ℕ) → w ≡ word f v variable_type → eqb w ty ≡ has_type (declared f t) ty x
      unfolding has_type
      typed_some ty ew = pass (sym (variable_some F O x e z)) refl (ap (λ u. eqb u ty) (ew ∙ sym (variable_type_law F O x e z)))

    pub typed_none : v ≡ 0 → (ty : ℕ) → false ≡ has_type (declared f t) ty x
    unfolding has_type
    typed_none z ty = refuse _ (sym (variable_none F O x e z)) refl

  module _ (r : ℕ) {i : ℕ} (e : i ≡ region_in t r) where
    pub region_none : i ≡ 0 → (ty : ℕ) → false ≡ is_region_of (declared f t) ty r
    unfolding is_region_of
    region_none z ty = refuse _ (sym (le-ltb 0 (region_in t r) (omega arith)) ∙ region_listed F O r) refl

    pub region_some : (i ≡ 0 → ⊥) → {w : ℕ} (ty : ℕ) → w ≡ word f i region_type → eqb w ty ≡ is_region_of (declared f t) ty r
    unfolding is_region_of declared signature_from
    region_some z ty ew =
        pass (sym (lt-ltb 0 (region_in t r) (omega arith)) ∙ region_listed F O r) refl
        (ap (λ u. eqb u ty) (ew ∙ field_some f i region_type z ∙ sym (ap (λ s. s.type) (region_of_law F (declared f t) O.regions_stand refl r (e ∙ O.regions r)))))
