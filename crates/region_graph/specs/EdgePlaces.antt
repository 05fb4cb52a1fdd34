-- Edges and places: number 3 says that a region's edges are the places of its type, in order, so an edge is found exactly where the type
-- has a place with a region, and leads to a region of the argument's type.
use Rattle.std.specs.Prelude.{ℕ, suc, ◌+◌, ◌≤◌, ◌<◌, Bool, ◌≢◌, ◌⊎◌, ◌≡◌}
use Rattle.std.proofs.Math.Bool.{true, false}
use Rattle.std.proofs.lemmas.Bool.{false≢true}
use mathlib.Core.List.{List, [], ◌∷◌, ◌++◌}
use Rattle.std.proofs.Math.Logic.{inl, inr, ⊎_elim}
use Rattle.std.proofs.Math.Path.{refl, ap}
use Rattle.std.proofs.Common.{sym, ◌∙◌, arith}
use borrow.Author.Tests.{eqb-true, ne_eqb}
use Rattle.std.proofs.Math.Dec.{eqb}
use Rattle.sets.specs.Tests.{◌&◌, and_true}
use Rattle.sets.specs.Members.{in_list, nil_in, cons_here, cons_later, cons_in}
use Rattle.language.specs.Lists.{choose}
use Rattle.language.specs.Program.{Functor, Edge, Signature, region_at}
use Rattle.language.specs.Typing.{Place, types_in, place_if, is_region, is_region_of, regioned, places_in, places_from, edges_ok}
use Rattle.language.specs.Regions.{targets_in, target_for}
use Rattle.laws.specs.Tests.{and_no, no_and}
pub use Rattle.laws.specs.Choices.{choose_true as choose_first, choose_false as choose_second}

-- the type at functor f and position k, 0 where there is no place
unfoldable pub type_for : List Place → ℕ → ℕ → ℕ
type_for [] f k = 0
type_for (p ∷ ps) f k = choose (eqb p.functor f & eqb p.position k) p.type (type_for ps f k)

-- ---- a region of a type
pub region_of_law : (S : Signature) (t r : ℕ) → is_region_of S t r ≡ true → (is_region S r ≡ true) × ((region_at S r).type ≡ t)
unfolding is_region_of
region_of_law S t r e = let h = and_true e in (h.0, eqb-true (region_at S r).type t h.1)

-- ---- edges that stand for places
module _ (T : List (List Functor)) (S : Signature) where
  pub edges_cons : (p : Place) (ps : List Place) (e : Edge) (es : List Edge) → edges_ok T S (p ∷ ps) (e ∷ es) ≡ true
      → (e.functor ≡ p.functor) × (e.position ≡ p.position) × (is_region_of S p.type e.target ≡ true) × (edges_ok T S ps es ≡ true)
  unfolding edges_ok
  edges_cons p ps e es h =
      let a = and_true h in
      let b = and_true a.1 in
      let c = and_true b.1 in
      (eqb-true e.functor p.functor a.0, eqb-true e.position p.position b.0, c.0, c.1)

  pub edges_lead : (ps : List Place) (es : List Edge) → edges_ok T S ps es ≡ true
      → (t : ℕ) → in_list t (targets_in es) ≡ true → is_region S t ≡ true
  unfolding targets_in edges_ok
  edges_lead [] [] h t i = absurd (nil_in t i)
  edges_lead [] (e ∷ es) h t i = absurd (false≢true h)
  edges_lead (p ∷ ps) [] h t i = absurd (false≢true h)
  edges_lead (p ∷ ps) (e ∷ es) h t i =
      let c = edges_cons p ps e es h in
      ⊎_elim (λ q. ap (is_region S) (sym q) ∙ (region_of_law S p.type e.target c.2).0) (edges_lead ps es c.3 t)
      (cons_in t e.target (targets_in es) i)

  -- what is found at a functor and position, among places and among their edges
  abbrev Found : ℕ → ℕ → Type 0
  Found t r = ((t ≡ 0) × (r ≡ 0)) ⊎ (is_region_of S t r ≡ true)

  found : (b : Bool) (t r u v : ℕ) → is_region_of S t r ≡ true → Found u v → Found (choose b t u) (choose b r v)
  unfolding choose
  found true t r u v h i = inr h
  found false t r u v h i = i

  pub edges_found : (ps : List Place) (es : List Edge) → edges_ok T S ps es ≡ true → (f k : ℕ) → Found (type_for ps f k) (target_for es f k)
  unfolding type_for target_for edges_ok
  edges_found [] [] h f k = inl (refl, refl)
  edges_found [] (e ∷ es) h f k = absurd (false≢true h)
  edges_found (p ∷ ps) [] h f k = absurd (false≢true h)
  edges_found (p ∷ ps) (e ∷ es) h f k =
      let c = edges_cons p ps e es h in
      rw (c.0, c.1) (found (eqb p.functor f & eqb p.position k) p.type e.target _ _ c.2 (edges_found ps es c.3 f k))

-- an edge that is found is one of the edges
pub edge_listed : (es : List Edge) (f k : ℕ) → target_for es f k ≢ 0 → in_list (target_for es f k) (targets_in es) ≡ true
unfolding target_for targets_in choose
edge_listed [] f k n = absurd (n refl)
edge_listed (e ∷ es) f k n = go (eqb e.functor f & eqb e.position k) n (edge_listed es f k)
  where
    go : (b : Bool) → choose b e.target (target_for es f k) ≢ 0 → (target_for es f k ≢ 0 → in_list (target_for es f k) (targets_in es) ≡ true)
        → in_list (choose b e.target (target_for es f k)) (e.target ∷ targets_in es) ≡ true
    go true n ih = cons_here e.target e.target (targets_in es) refl
    go false n ih = cons_later (target_for es f k) e.target (targets_in es) (ih n)

-- ---- the places of a type
-- a place that stands there if the test b passes
place_if_law : (b : Bool) (p : Place) (qs ps : List Place) (f k : ℕ)
    → type_for (place_if b p qs ++ ps) f k ≡ choose (b & (eqb p.functor f & eqb p.position k)) p.type (type_for (qs ++ ps) f k)
unfolding place_if type_for choose ◌&◌
place_if_law true p qs ps f k = refl
place_if_law false p qs ps f k = refl

module _ (T : List (List Functor)) where
  -- places of other functors, or of positions behind k, say nothing of f and k
  places_skip : (g j : ℕ) (ts : List ℕ) (ps : List Place) (f k : ℕ) → ((i : ℕ) → j ≤ i → (eqb g f & eqb i k) ≡ false)
      → type_for (places_in T g j ts ++ ps) f k ≡ type_for ps f k
  unfolding places_in
  places_skip g j [] ps f k h = refl
  places_skip g j (t ∷ ts) ps f k h =
      place_if_law (regioned T t) _ (places_in T g (suc j) ts) ps f k
      ∙ choose_second _ t _ (and_no (regioned T t) (h j (omega arith)))
      ∙ places_skip g (suc j) ts ps f k (λ i l. h i (omega arith))

  other_position : (f j k : ℕ) → j ≢ k → (eqb f f & eqb j k) ≡ false
  other_position f j k h = and_no (eqb f f) (ne_eqb j k h)

  places_before : (g : ℕ) (fs : List Functor) (f k : ℕ) → f < g → type_for (places_from T g fs) f k ≡ 0
  unfolding places_from type_for
  places_before g [] f k h = refl
  places_before g (x ∷ fs) f k h =
      places_skip g 1 (types_in x) (places_from T (suc g) fs) f k (λ i l. no_and (eqb i k) (ne_eqb g f (omega arith)))
      ∙ places_before (suc g) fs f k (omega arith)

-- ---- no place stands twice
pub data Single : List Place → Type 0 where
  single_nil : Single []
  single_cons : {p : Place} {ps : List Place} → type_for ps p.functor p.position ≡ 0 → Single ps → Single (p ∷ ps)

module _ (T : List (List Functor)) where
  place_if_single : (b : Bool) (p : Place) (qs ps : List Place) → type_for (qs ++ ps) p.functor p.position ≡ 0 → Single (qs ++ ps)
      → Single (place_if b p qs ++ ps)
  unfolding place_if
  place_if_single true p qs ps h s = single_cons h s
  place_if_single false p qs ps h s = s

  places_in_single : (f j : ℕ) (ts : List ℕ) (ps : List Place) → ((k : ℕ) → type_for ps f k ≡ 0) → Single ps
      → Single (places_in T f j ts ++ ps)
  unfolding places_in
  places_in_single f j [] ps h s = s
  places_in_single f j (t ∷ ts) ps h s =
      place_if_single (regioned T t) _ (places_in T f (suc j) ts) ps
      (places_skip T f (suc j) ts ps f j (λ i l. other_position T f i j (omega arith)) ∙ h j) (places_in_single f (suc j) ts ps h s)

  pub places_single : (g : ℕ) (fs : List Functor) → Single (places_from T g fs)
  unfolding places_from
  places_single g [] = single_nil
  places_single g (x ∷ fs) =
      places_in_single g 1 (types_in x) (places_from T (suc g) fs) (λ k. places_before T (suc g) fs g k (omega arith))
      (places_single (suc g) fs)
