-- A caller's and a callee's regions of one type: their edges stand for the same places, so they lead in parallel to regions of one type.
-- So do the arguments of a call that passes number 3.
use Rattle.std.specs.Prelude.{ℕ, Bool, true, ◌≢◌, ◌⊎◌, ◌≡◌}
use Rattle.std.proofs.lemmas.Bool.{false≢true}
use mathlib.Core.List.{List, [], ◌∷◌, map, head-eq_of_cons-eq, tail-eq_of_cons-eq}
use Rattle.std.proofs.Common.{inl, inr, ap, ap₂, ◌∙◌, arith}
use Rattle.std.proofs.Math.Path.{sym}
use borrow.Author.Tests.{eqb-true}
use Rattle.std.proofs.Math.Dec.{eqb}
use Rattle.sets.specs.Tests.{◌&◌, clash, and_true}
use Rattle.language.specs.Lists.{choose}
use Rattle.language.specs.Program.{Functor, Edge, Signature, region_of, region_at, type_of, functors_of, parameters_of, parameter_variables}
use Rattle.language.specs.Typing.{Place, is_region, has_type, have_types, types_of, regioned, places_from, edges_ok, signature_ok}
use Rattle.language.specs.Regions.{targets, targets_in, target_for, regions_of}
use Rattle.laws.specs.Choices.{choose_map}
use Rattle.region_graph.specs.Laws.{Home, target}
use Rattle.region_graph.specs.Typed.{region_in_law}
use Rattle.region_graph.specs.EdgePlaces.{region_of_law, edges_cons}
use Rattle.region_graph.specs.Procedure.{places_of, variable_region_law, region_edges_law}

-- two lists of one length, related one by one
pub data Paired (R : ℕ → ℕ → Type 0) : List ℕ → List ℕ → Type 0 where
  paired_nil : Paired R [] []
  paired_cons : {r u : ℕ} {rs us : List ℕ} → R r u → Paired R rs us → Paired R (r ∷ rs) (u ∷ us)

pub paired_map : {R W : ℕ → ℕ → Type 0} {rs us : List ℕ} → ((r u : ℕ) → R r u → W r u) → Paired R rs us → Paired W rs us
paired_map f paired_nil = paired_nil
paired_map f (paired_cons h t) = paired_cons (f _ _ h) (paired_map f t)

-- region r of the callee Q and u of the caller C have one type
pub record Matched (C Q : Signature) (r u : ℕ) : Type 0 where
  pub callee : is_region Q r ≡ true
  pub caller : is_region C u ≡ true
  pub type : (region_at C u).type ≡ (region_at Q r).type

-- or both are none
abbrev pub Alike : Signature → Signature → ℕ → ℕ → Type 0
Alike C Q r u = ((r ≡ 0) × (u ≡ 0)) ⊎ Matched C Q r u

pub region_some : (S : Signature) (r : ℕ) → is_region S r ≡ true → r ≢ 0
region_some S r h e = let i = region_in_law S r h in omega arith

choose_along : (m : ℕ → ℕ) (b : Bool) (x y u v : ℕ) → u ≡ m x → v ≡ m y → choose b u v ≡ m (choose b x y)
choose_along m b x y u v p q = ap₂ (choose b) p q ∙ sym (choose_map m b x y)

-- the regions of a procedure's in and out variables
abbrev pub parameter_regions : Signature → List ℕ
parameter_regions Q = regions_of Q (parameter_variables (parameters_of Q))

-- ---- edges that stand for the same places
module _ (T : List (List Functor)) (C Q : Signature) where
  edges_alike : (ps : List Place) (es ds : List Edge) → edges_ok T Q ps es ≡ true → edges_ok T C ps ds ≡ true
      → Paired (Alike C Q) (targets_in es) (targets_in ds)
  unfolding edges_ok targets_in
  edges_alike [] [] [] h i = paired_nil
  edges_alike [] [] (d ∷ ds) h i = absurd (false≢true i)
  edges_alike [] (e ∷ es) ds h i = absurd (false≢true h)
  edges_alike (p ∷ ps) [] ds h i = absurd (false≢true h)
  edges_alike (p ∷ ps) (e ∷ es) [] h i = absurd (false≢true i)
  edges_alike (p ∷ ps) (e ∷ es) (d ∷ ds) h i =
      let a = edges_cons T Q p ps e es h in
      let b = edges_cons T C p ps d ds i in
      let x = region_of_law Q p.type e.target a.2 in
      let y = region_of_law C p.type d.target b.2 in
      paired_cons (inr (record { callee = x.0; caller = y.0; type = y.1 ∙ sym x.1 })) (edges_alike ps es ds a.3 b.3)

  -- targets that follow one by one follow by functor and position
  edges_follow : (m : ℕ → ℕ) → m 0 ≡ 0 → (ps : List Place) (es ds : List Edge) → edges_ok T Q ps es ≡ true → edges_ok T C ps ds ≡ true
      → map m (targets_in es) ≡ targets_in ds → (f k : ℕ) → target_for ds f k ≡ m (target_for es f k)
  unfolding edges_ok targets_in target_for
  edges_follow m z [] [] [] h i q f k = sym z
  edges_follow m z [] [] (d ∷ ds) h i q f k = absurd (false≢true i)
  edges_follow m z [] (e ∷ es) ds h i q f k = absurd (false≢true h)
  edges_follow m z (p ∷ ps) [] ds h i q f k = absurd (false≢true h)
  edges_follow m z (p ∷ ps) (e ∷ es) [] h i q f k = absurd (false≢true i)
  edges_follow m z (p ∷ ps) (e ∷ es) (d ∷ ds) h i q f k =
      let a = edges_cons T Q p ps e es h in
      let b = edges_cons T C p ps d ds i in
      rw (a.0, a.1, b.0, b.1)
      (choose_along m (eqb p.functor f & eqb p.position k) e.target (target_for es f k) d.target (target_for ds f k)
      (sym (head-eq_of_cons-eq q)) (edges_follow m z ps es ds a.3 b.3 (tail-eq_of_cons-eq q) f k))

-- ---- a caller C and a callee Q that pass number 3
module _ (T : List (List Functor)) (C Q : Signature) (ok_c : signature_ok T C ≡ true) (ok_q : signature_ok T Q ≡ true) where
  -- the edges of a caller's region of r's type
  pub edges_there : (r u : ℕ) → Matched C Q r u → edges_ok T C (places_of T Q r) (region_at C u).edges ≡ true
  edges_there r u h =
      ap (λ (t : ℕ). edges_ok T C (places_from T 0 (functors_of T t)) (region_at C u).edges) (sym h.type)
      ∙ region_edges_law T C ok_c u h.caller

  pub targets_alike : (r u : ℕ) → Matched C Q r u → Paired (Alike C Q) (targets Q r) (targets C u)
  unfolding targets
  targets_alike r u h =
      edges_alike T C Q _ (region_at Q r).edges (region_at C u).edges (region_edges_law T Q ok_q r h.callee) (edges_there r u h)

  pub targets_follow : (m : ℕ → ℕ) → m 0 ≡ 0 → (r u : ℕ) → Matched C Q r u → map m (targets Q r) ≡ targets C u
      → (f k : ℕ) → target C u f k ≡ m (target Q r f k)
  unfolding targets
  targets_follow m z r u h q f k =
      edges_follow T C Q m z _ (region_at Q r).edges (region_at C u).edges (region_edges_law T Q ok_q r h.callee) (edges_there r u h) q f k

  -- variables of one type are in regions of one type
  variables_alike : (x y : ℕ) → has_type C (type_of Q x) y ≡ true → Alike C Q (region_of Q x) (region_of C y)
  unfolding has_type
  variables_alike x y h = go (variable_region_law T Q ok_q x) (variable_region_law T C ok_c y)
    where
      t : type_of C y ≡ type_of Q x
      t = eqb-true (type_of C y) (type_of Q x) (and_true h).1

      go : Home T Q (type_of Q x) (region_of Q x) → Home T C (type_of C y) (region_of C y) → Alike C Q (region_of Q x) (region_of C y)
      go (inl p) (inl q) = inl (p.1, q.1)
      go (inl p) (inr q) = absurd (clash q.0 (ap (regioned T) t ∙ p.0))
      go (inr p) (inl q) = absurd (clash (ap (regioned T) t ∙ p.0) q.0)
      go (inr p) (inr q) = inr (record { callee = p.1; caller = q.1; type = q.2 ∙ t ∙ sym p.2 })

  pub arguments_alike : (xs ys : List ℕ) → have_types C (types_of Q xs) ys ≡ true → Paired (Alike C Q) (regions_of Q xs) (regions_of C ys)
  unfolding have_types types_of regions_of
  arguments_alike [] [] h = paired_nil
  arguments_alike [] (y ∷ ys) h = absurd (false≢true h)
  arguments_alike (x ∷ xs) [] h = absurd (false≢true h)
  arguments_alike (x ∷ xs) (y ∷ ys) h = let a = and_true h in paired_cons (variables_alike x y a.0) (arguments_alike xs ys a.1)
