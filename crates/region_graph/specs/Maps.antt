-- "A call maps each input or output region of the callee to one of the caller: argument to argument, then along equal edges", as a relation
-- by functor and position; and that it holds in the order in which the mapping goes.
use Rattle.std.specs.Prelude.{ℕ, zero, suc, ◌+◌, true, false, ◌≢◌, ◌≡◌, refl, eqb, length}
use Rattle.std.proofs.lemmas.Bool.{false≢true}
use mathlib.Core.List.{List, [], ◌∷◌, map}
use Rattle.std.proofs.Common.{inl, inr, ⊎_elim, sym, ap, subst₂, ◌∙◌, arith, eqb-true, eq-eqb}
use Rattle.std.proofs.Math.Decide.{ℕ_discrete}
use Rattle.sets.specs.Tests.{◌&◌, truth, and_true, true_and}
use Rattle.language.specs.Lists.{nth, nth1}
use Rattle.language.specs.Program.{Functor, Edge, Signature, region_of, region_at, variable_at, functors_of, parameters_of, parameter_variables}
use Rattle.language.specs.Typing.{Place, is_region, is_region_of, have_types, parameter_types, edges_ok, signature_ok}
use Rattle.language.specs.Regions.{targets, targets_in, target_for, regions_of}
use Rattle.laws.specs.Lists
use Rattle.laws.specs.Lists.{nth_past}
use Rattle.region_graph.specs.Laws.{target}
use Rattle.region_graph.specs.EdgePlaces.{type_for, region_of_law, edges_cons, edges_found, choose_first, choose_second, Single, single_cons, places_single}
use Rattle.region_graph.specs.Procedure.{places_of, region_numbers, region_edges_law}
pub use Rattle.region_graph.specs.Shared.{none_target}
use Rattle.region_graph.specs.Alike.{parameter_regions, Paired, paired_nil, paired_cons, Matched, Alike, edges_there}
use Rattle.region_graph.specs.Calls.{regions_map, arguments_paired}

-- region r of the callee Q is mapped to u of the caller C. Where there is no argument or edge, region 0, none, is mapped to none
pub data Maps (C Q : Signature) (ys : List ℕ) : ℕ → ℕ → Type 0 where
  argument : (i : ℕ) → Maps C Q ys (region_of Q (nth 0 (parameter_variables (parameters_of Q)) i)) (region_of C (nth 0 ys i))
  along : {r u : ℕ} → Maps C Q ys r u → (f k : ℕ) → Maps C Q ys (target Q r f k) (target C u f k)

-- ---- lists by number
pub nth_map : (m : ℕ → ℕ) → m 0 ≡ 0 → (rs : List ℕ) (i : ℕ) → nth 0 (map m rs) i ≡ m (nth 0 rs i)
nth_map m z rs i = ap (λ d. nth d (map m rs) i) (sym z) ∙ Lists.nth_map m 0 rs i

pub none_region : (S : Signature) → region_of S 0 ≡ 0
unfolding region_of variable_at nth1
none_region S = refl

pub nth_region : (S : Signature) (xs : List ℕ) (i : ℕ) → nth 0 (regions_of S xs) i ≡ region_of S (nth 0 xs i)
nth_region S xs i = rw (regions_map S xs) (nth_map (region_of S) (none_region S) xs i)

-- two lists that are related by number are related one by one, if they have one length
paired_nth : {R W : ℕ → ℕ → Type 0} {rs us : List ℕ} → Paired R rs us → ((i : ℕ) → W (nth 0 rs i) (nth 0 us i)) → Paired W rs us
unfolding nth
paired_nth paired_nil h = paired_nil
paired_nth (paired_cons a t) h = paired_cons (h 0) (paired_nth t (λ i. h (suc i)))

nth_paired : {R : ℕ → ℕ → Type 0} {rs us : List ℕ} → R 0 0 → Paired R rs us → (i : ℕ) → R (nth 0 rs i) (nth 0 us i)
unfolding nth
nth_paired z paired_nil i = z
nth_paired z (paired_cons a t) zero = a
nth_paired z (paired_cons a t) (suc i) = nth_paired z t i

-- ---- edges by functor and position, and in order
module _ (e : Edge) (p : Place) (es : List Edge) (f : e.functor ≡ p.functor) (k : e.position ≡ p.position) where
  edge_here : target_for (e ∷ es) p.functor p.position ≡ e.target
  unfolding target_for
  edge_here = choose_first _ e.target _ (true_and (eq-eqb e.functor p.functor f) (eq-eqb e.position p.position k))

  edge_later : (g j : ℕ) → (eqb p.functor g & eqb p.position j) ≡ false → target_for (e ∷ es) g j ≡ target_for es g j
  unfolding target_for
  edge_later g j h = rw (f, k) (choose_second _ e.target (target_for es g j) h)

-- there is an edge exactly where there is a place, and it leads to a region of the place's type
module _ (T : List (List Functor)) (S : Signature) (ok : signature_ok T S ≡ true) (ps : List Place) (es : List Edge)
    (h : edges_ok T S ps es ≡ true) (f k : ℕ) where
  edge_none : type_for ps f k ≡ 0 → target_for es f k ≡ 0
  edge_none z = ⊎_elim (λ p. p.1) (λ q. absurd (none q)) (edges_found T S ps es h f k)
    where
      none : is_region_of S (type_for ps f k) (target_for es f k) ≡ true → ⊥
      none q =
          let r = region_of_law S (type_for ps f k) (target_for es f k) q in
          region_numbers T S ok (target_for es f k) r.0 (r.1 ∙ z)

  edge_some : type_for ps f k ≢ 0 → (is_region S (target_for es f k) ≡ true) × ((region_at S (target_for es f k)).type ≡ type_for ps f k)
  edge_some n = ⊎_elim (λ p. absurd (n p.0)) (region_of_law S (type_for ps f k) (target_for es f k)) (edges_found T S ps es h f k)

single_in : {p : Place} {ps : List Place} → Single (p ∷ ps) → (type_for ps p.functor p.position ≡ 0) × Single ps
single_in (single_cons h s) = (h, s)

module _ (T : List (List Functor)) (C Q : Signature) (ok_c : signature_ok T C ≡ true) (ok_q : signature_ok T Q ≡ true) where
  -- what holds with an edge in front holds without it, if no other stands for its place
  behind : (W : ℕ → ℕ → Type 0) → W 0 0 → (p : Place) (ps : List Place) (e d : Edge) (es ds : List Edge)
      → type_for ps p.functor p.position ≡ 0 → edges_ok T Q (p ∷ ps) (e ∷ es) ≡ true → edges_ok T C (p ∷ ps) (d ∷ ds) ≡ true
      → ((f k : ℕ) → W (target_for (e ∷ es) f k) (target_for (d ∷ ds) f k)) → (f k : ℕ) → W (target_for es f k) (target_for ds f k)
  behind W z p ps e d es ds t h i w f k = ⊎_elim same other (truth (eqb p.functor f & eqb p.position k))
    where
      same : (eqb p.functor f & eqb p.position k) ≡ true → W (target_for es f k) (target_for ds f k)
      same q =
          let n = and_true q in
          let x : type_for ps f k ≡ 0 = rw (← eqb-true p.functor f n.0, ← eqb-true p.position k n.1) t in
          subst₂ W (sym (edge_none T Q ok_q ps es (edges_cons T Q p ps e es h).3 f k x))
          (sym (edge_none T C ok_c ps ds (edges_cons T C p ps d ds i).3 f k x)) z

      other : (eqb p.functor f & eqb p.position k) ≡ false → W (target_for es f k) (target_for ds f k)
      other q =
          let a = edges_cons T Q p ps e es h in
          let b = edges_cons T C p ps d ds i in
          subst₂ W (edge_later e p es a.0 a.1 f k q) (edge_later d p ds b.0 b.1 f k q) (w f k)

  -- what holds by functor and position holds in order, since no place stands twice
  in_order : (W : ℕ → ℕ → Type 0) → W 0 0 → (ps : List Place) (es ds : List Edge) → Single ps
      → edges_ok T Q ps es ≡ true → edges_ok T C ps ds ≡ true → ((f k : ℕ) → W (target_for es f k) (target_for ds f k))
      → Paired W (targets_in es) (targets_in ds)
  unfolding edges_ok targets_in
  in_order W z [] [] [] s h i w = paired_nil
  in_order W z [] [] (d ∷ ds) s h i w = absurd (false≢true i)
  in_order W z [] (e ∷ es) ds s h i w = absurd (false≢true h)
  in_order W z (p ∷ ps) [] ds s h i w = absurd (false≢true h)
  in_order W z (p ∷ ps) (e ∷ es) [] s h i w = absurd (false≢true i)
  in_order W z (p ∷ ps) (e ∷ es) (d ∷ ds) s h i w =
      let a = edges_cons T Q p ps e es h in
      let b = edges_cons T C p ps d ds i in
      let v = single_in s in
      paired_cons (subst₂ W (edge_here e p es a.0 a.1) (edge_here d p ds b.0 b.1) (w p.functor p.position))
      (in_order W z ps es ds v.1 a.3 b.3 (behind W z p ps e d es ds v.0 h i w))

  -- regions of one type lead to regions of one type, by functor and position
  target_alike : (r u : ℕ) → Alike C Q r u → (f k : ℕ) → Alike C Q (target Q r f k) (target C u f k)
  target_alike r u (inl p) f k =
      inl (ap (λ (q : ℕ). target Q q f k) p.0 ∙ none_target Q f k, ap (λ (q : ℕ). target C q f k) p.1 ∙ none_target C f k)
  target_alike r u (inr h) f k = go (ℕ_discrete (type_for ps f k) 0)
    where
      ps : List Place
      ps = places_of T Q r

      there : edges_ok T Q ps (region_at Q r).edges ≡ true
      there = region_edges_law T Q ok_q r h.callee

      here : edges_ok T C ps (region_at C u).edges ≡ true
      here = edges_there T C Q ok_c ok_q r u h

      go : Dec (type_for ps f k ≡ 0) → Alike C Q (target Q r f k) (target C u f k)
      go (yes z) = inl (edge_none T Q ok_q ps (region_at Q r).edges there f k z, edge_none T C ok_c ps (region_at C u).edges here f k z)
      go (no n) =
          let x = edge_some T Q ok_q ps (region_at Q r).edges there f k n in
          let y = edge_some T C ok_c ps (region_at C u).edges here f k n in
          inr (record { callee = x.0; caller = y.0; type = y.1 ∙ sym x.1 })

  module _ (ys : List ℕ) (typed : have_types C (parameter_types Q) ys ≡ true) where
    -- past the arguments
    maps_none : Maps C Q ys 0 0
    maps_none =
        subst₂ (Maps C Q ys) (ap (region_of Q) (nth_past 0 (parameter_variables (parameters_of Q)) past (omega arith)) ∙ none_region Q)
        (ap (region_of C) (nth_past 0 ys past (omega arith)) ∙ none_region C) (argument past)
      where
        past : ℕ
        past = length (parameter_variables (parameters_of Q)) + length ys

    pub maps_targets : (r u : ℕ) → Matched C Q r u → Maps C Q ys r u → Paired (Maps C Q ys) (targets Q r) (targets C u)
    unfolding targets
    maps_targets r u h w =
        in_order (Maps C Q ys) maps_none (places_of T Q r) (region_at Q r).edges (region_at C u).edges
        (places_single T 0 (functors_of T (region_at Q r).type)) (region_edges_law T Q ok_q r h.callee) (edges_there T C Q ok_c ok_q r u h)
        (along w)

    pub maps_arguments : Paired (Maps C Q ys) (parameter_regions Q) (regions_of C ys)
    maps_arguments =
        paired_nth (arguments_paired T C Q ok_c ok_q ys typed)
        (λ i. subst₂ (Maps C Q ys) (sym (nth_region Q (parameter_variables (parameters_of Q)) i)) (sym (nth_region C ys i)) (argument i))

    -- what is mapped has one type
    pub maps_alike : {r u : ℕ} → Maps C Q ys r u → Alike C Q r u
    maps_alike (argument i) =
        subst₂ (Alike C Q) (nth_region Q (parameter_variables (parameters_of Q)) i) (nth_region C ys i)
        (nth_paired (inl (refl, refl)) (arguments_paired T C Q ok_c ok_q ys typed) i)
    maps_alike (along {r = r} {u = u} w f k) = target_alike r u (maps_alike w) f k
