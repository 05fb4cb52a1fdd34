-- What the code that matches edges computes: one place, a functor's places, all places.
use Prim.Native.Nat.{ℕ, zero, suc, ◌+◌, ◌<◌}
use mathlib.Core.Path.{◌≡◌, ap, refl, sym, ◌∙◌}
use mathlib.Core.Bool.{Bool, true, false}
use Rattle.std.specs.Prelude.{Option, Some, None}
use native.Mathlib.Omega.{arith}
use native.Mathlib.Decide.{dec_lt}
use mathlib.Core.List.{List, ◌∷◌, ◌++◌, append_assoc, []}
use lib.Dec.{eqb}
use lib.ListN.{length, get_or, take, drop}
use borrow.Author.Tests.{eq-eqb, ne_eqb, eqb-true, le-leb, leb-true}
use Rattle.sets.specs.Tests.{◌&◌, neg, and_true, true_and}
use Rattle.language.specs.Format.{next_word, functor_arity, functor_types, places}
use Rattle.language.specs.Lists.{all, nth1}
use Rattle.language.specs.File.{functors, edges, word}
use Rattle.language.specs.Program.{four_words, Functor, Signature, functors_of}
use Rattle.language.specs.Answers.{program}
use Rattle.language.specs.Typing.{Place, place_if, is_region_of, is_type, regioned, types_in, functor_ok, types_ok, places_in, places_from, edges_ok}
use Rattle.chains.specs.Formed.{Formed, Stands, functors_at, functors_none, edges_at, edges_none}
use Rattle.chains.specs.Is.{edge_is}
use Rattle.chains.specs.Declared.{EdgeAt, edge_at, FunctorAt}
use Rattle.laws.specs.Tests.{and_stop, and_on, refuse, pass}
use Rattle.laws.specs.Lists.{all_weaker}
use Rattle.declarations.specs.Functors.{functor_at_record, functors_step}
use Rattle.declarations.proofs.TypeLaws.{few_types}
use Rattle.declarations.specs.DeclaredPlaces.{functor_in}
use Rattle.declarations.specs.Declares.{Declares}
use Rattle.declarations.proofs.DeclaresLaws.{regioned_none, regioned_some}
use Rattle.declarations.specs.Edges.{goes_on, EdgesMatch, place_at}

-- ---- two rests
pub at_same : {a b : ℕ} → Some a ≡ Some b → a ≡ b
at_same e = cc

pub wrong_at : {b : ℕ} → None ≡ Some b → ⊥
wrong_at e = cc

-- ---- one place
module _ (f : List ℕ) (S : Signature) (g k ty e : ℕ) where
  pub place_none : e ≡ 0 → EdgesMatch f S (record { functor = g; position = k; type = ty } ∷ []) e None
  unfolding goes_on edges_ok
  place_none z = record { stands = λ e' h. absurd (wrong_at h); same = λ qs. rw (edges_none f z) }

  module _ {next functor position target : ℕ} (v : EdgeAt f e next functor position target) where
    place_here : (qs : List Place) → edges_ok (program f).types S (record { functor = g; position = k; type = ty } ∷ qs) (edges_at f e)
        ≡ (eqb functor g & eqb position k & is_region_of S ty target & edges_ok (program f).types S qs (edges_at f next))
    unfolding edges_ok
    place_here qs = rw v.view

    pub place_functor : (functor ≡ g → ⊥) → EdgesMatch f S (record { functor = g; position = k; type = ty } ∷ []) e None
    unfolding goes_on
    place_functor h = record { stands = λ e' h. absurd (wrong_at h); same = λ qs. place_here qs ∙ sym (and_stop _ (ne_eqb functor g h)) }

    module _ (p : functor ≡ g) where
      pub place_position : (position ≡ k → ⊥) → EdgesMatch f S (record { functor = g; position = k; type = ty } ∷ []) e None
      unfolding goes_on
      place_position h = record {
        stands = λ e' h. absurd (wrong_at h);
        same = λ qs. place_here qs ∙ sym (and_on (eq-eqb functor g p) (and_stop _ (ne_eqb position k h)));
      }

      module _ (q : position ≡ k) {r : Bool} (h : r ≡ is_region_of S ty target) where
        pub place_target : r ≡ false → EdgesMatch f S (record { functor = g; position = k; type = ty } ∷ []) e None
        unfolding goes_on
        place_target b = record {
          stands = λ e' h. absurd (wrong_at h);
          same = λ qs. place_here qs ∙ sym (and_on (eq-eqb functor g p) (and_on (eq-eqb position k q) (refuse _ h b)));
        }

        pub place_all : r ≡ true → EdgesMatch f S (record { functor = g; position = k; type = ty } ∷ []) e (Some next)
        unfolding goes_on
        place_all b = record {
          stands = λ e' h. rw (sym (at_same h)) v.to_next.stands;
          same = λ qs. place_here qs ∙ sym (and_on (eq-eqb functor g p) (and_on (eq-eqb position k q) (pass h b refl)));
        }

-- ---- a position that may have no place
module _ {f : List ℕ} {S : Signature} where
  pub match_same : {ps qs : List Place} {e : ℕ} {r : Option ℕ} → ps ≡ qs → EdgesMatch f S qs e r → EdgesMatch f S ps e r
  match_same h k = rw h k

  match_none : {e : ℕ} → Stands f edges e → EdgesMatch f S [] e (Some e)
  unfolding goes_on
  match_none s = record { stands = λ e' h. rw (sym (at_same h)) s; same = λ qs. refl }

  match_stop : {ps : List Place} {e : ℕ} {r : Option ℕ} → EdgesMatch f S ps e r → r ≡ None → (qs : List Place) → EdgesMatch f S (ps ++ qs) e None
  unfolding goes_on
  match_stop {ps} {e} k h qs = record {
    stands = λ e' h. absurd (wrong_at h);
    same = λ rs. ap (λ l. edges_ok (program f).types S l (edges_at f e)) (append_assoc ps qs rs) ∙ k.same (qs ++ rs) ∙ ap (λ r. goes_on f S r (qs ++ rs)) h;
  }

  match_more : {ps qs : List Place} {e e' : ℕ} {r r' : Option ℕ} → EdgesMatch f S ps e r → r ≡ Some e' → EdgesMatch f S qs e' r' → EdgesMatch f S (ps ++ qs) e r'
  unfolding goes_on
  match_more {ps} {qs} {e} k h l = record {
    stands = l.stands;
    same = λ rs. ap (λ l. edges_ok (program f).types S l (edges_at f e)) (append_assoc ps qs rs) ∙ k.same (qs ++ rs) ∙ ap (λ r. goes_on f S r (qs ++ rs)) h ∙ l.same rs;
  }

  module _ (g k ty : ℕ) {t : List ℕ} (D : Declares f t) {w i : ℕ} (ei : i ≡ functor_in t ty 0) (ew : w ≡ get_or t i 0) where
    pub position_bare : {e : ℕ} → Stands f edges e → w ≡ 0 → EdgesMatch f S (place_at f g k ty) e (Some e)
    unfolding place_at place_if
    position_bare s z = rw (regioned_none D ty (ew ∙ ap (λ k. get_or t k 0) ei) z) (match_none s)

    pub position_regioned : {e : ℕ} {r : Option ℕ} → (w ≡ 0 → ⊥) → EdgesMatch f S (record { functor = g; position = k; type = ty } ∷ []) e r
        → EdgesMatch f S (place_at f g k ty) e r
    unfolding place_at place_if
    position_regioned z p = rw (regioned_some D ty (ew ∙ ap (λ k. get_or t k 0) ei) z) p

-- ---- the four positions of a functor
place_next : (b : Bool) (p : Place) {ps qs : List Place} → ps ≡ qs → place_if b p ps ≡ place_if b p [] ++ qs
unfolding place_if
place_next true p h = ap (λ l. p ∷ l) h
place_next false p h = h

-- words that are 0 have no place
module _ (T : List (List Functor)) (g : ℕ) where
  no_places : (k : ℕ) (ts : List ℕ) → all (λ t. eqb t 0) ts ≡ true → places_in T g k ts ≡ []
  unfolding places_in place_if all regioned functors_of nth1 neg
  no_places k [] h = refl
  no_places k (t ∷ ts) h = rw (eqb-true t 0 (and_true h).0) (no_places (suc k) ts (and_true h).1)

  places_all : (n k : ℕ) (ts : List ℕ) → all (λ t. eqb t 0) (drop n ts) ≡ true → places_in T g k (take n ts) ≡ places_in T g k ts
  unfolding places_in
  places_all zero k ts h = sym (no_places k ts h)
  places_all (suc n) k [] h = refl
  places_all (suc n) k (t ∷ ts) h = ap (place_if (regioned T t) (record { functor = g; position = k; type = t })) (places_all n (suc k) ts h)

places_four : (f : List ℕ) (g n a b c d : ℕ) → all (λ t. eqb t 0) (drop n (a ∷ b ∷ c ∷ d ∷ [])) ≡ true
    → places_in (program f).types g 1 (take n (a ∷ b ∷ c ∷ d ∷ [])) ≡ place_at f g 1 a ++ (place_at f g 2 b ++ (place_at f g 3 c ++ place_at f g 4 d))
unfolding places_in place_at
places_four f g n a b c d h = places_all (program f).types g n 1 (a ∷ b ∷ c ∷ d ∷ []) h ∙ place_next _ _ (place_next _ _ (place_next _ _ refl))

-- and 0 is a type
types_all : (T : List (List Functor)) (n : ℕ) (ts : List ℕ) → all (is_type T) (take n ts) ≡ true → all (λ t. eqb t 0) (drop n ts) ≡ true → all (is_type T) ts ≡ true
unfolding all is_type
types_all T zero ts h z = all_weaker (λ t. eqb t 0) (is_type T) ts (λ t e. le-leb t (length T) (omega (arith, eqb-true t 0 e))) z
types_all T (suc n) [] h z = refl
types_all T (suc n) (t ∷ ts) h z = true_and (and_true h).0 (types_all T n ts (and_true h).1 z)

module _ (T : List (List Functor)) (ok : types_ok T ≡ true) where
  below : (t : ℕ) → is_type T t ≡ true → t < places
  unfolding is_type
  below t h = omega (arith, leb-true t (length T) h, few_types T ok)

  four_below : (a b c d : ℕ) → all (is_type T) (a ∷ b ∷ c ∷ d ∷ []) ≡ true → (a < places) × (b < places) × (c < places) × (d < places)
  unfolding all
  four_below a b c d h =
      let k = and_true (and_true h).1 in
      let l = and_true k.1 in
      (below a (and_true h).0, below b k.0, below c l.0, below d (and_true l.1).0)

module _ {f : List ℕ} {i next arity t1 t2 t3 t4 : ℕ} (v : FunctorAt f i next arity t1 t2 t3 t4) (o : functor_ok (program f).types (functor_at_record f i) ≡ true) where
  places_here : (g : ℕ) → places_in (program f).types g 1 (types_in (functor_at_record f i))
      ≡ place_at f g 1 t1 ++ (place_at f g 2 t2 ++ (place_at f g 3 t3 ++ place_at f g 4 t4))
  unfolding functor_ok types_in functor_at_record four_words
  places_here g =
      rw (v.w3, v.w4, v.w5, v.w6)
      (places_four f g (word f i functor_arity) (word f i functor_types) (word f i (functor_types + 1)) (word f i (functor_types + 2)) (word f i (functor_types + 3))
      (and_true (and_true o).1).1)

  pub types_below : types_ok (program f).types ≡ true → (t1 < places) × (t2 < places) × (t3 < places) × (t4 < places)
  unfolding functor_ok types_in functor_at_record four_words
  types_below ok =
      let k = and_true (and_true o).1 in
      rw (v.w3, v.w4, v.w5, v.w6) (four_below (program f).types ok _ _ _ _ (types_all (program f).types (word f i functor_arity) _ k.0 k.1))

module _ {f : List ℕ} {S : Signature} (g e : ℕ) {i next arity t1 t2 t3 t4 : ℕ} (v : FunctorAt f i next arity t1 t2 t3 t4) (o : functor_ok (program f).types (functor_at_record f i) ≡ true) where
  module _ {r1 : Option ℕ} (k1 : EdgesMatch f S (place_at f g 1 t1) e r1) where
    pub functor_first : r1 ≡ None → EdgesMatch f S (places_in (program f).types g 1 (types_in (functor_at_record f i))) e None
    functor_first h = match_same (places_here v o g) (match_stop k1 h _)

    module _ {e1 : ℕ} {r2 : Option ℕ} (h1 : r1 ≡ Some e1) (k2 : EdgesMatch f S (place_at f g 2 t2) e1 r2) where
      pub functor_second : r2 ≡ None → EdgesMatch f S (places_in (program f).types g 1 (types_in (functor_at_record f i))) e None
      functor_second h = match_same (places_here v o g) (match_more k1 h1 (match_stop k2 h _))

      module _ {e2 : ℕ} {r3 : Option ℕ} (h2 : r2 ≡ Some e2) (k3 : EdgesMatch f S (place_at f g 3 t3) e2 r3) where
        pub functor_third : r3 ≡ None → EdgesMatch f S (places_in (program f).types g 1 (types_in (functor_at_record f i))) e None
        functor_third h = match_same (places_here v o g) (match_more k1 h1 (match_more k2 h2 (match_stop k3 h _)))

        pub functor_all : {e3 : ℕ} {r4 : Option ℕ} → r3 ≡ Some e3 → EdgesMatch f S (place_at f g 4 t4) e3 r4
            → EdgesMatch f S (places_in (program f).types g 1 (types_in (functor_at_record f i))) e r4
        functor_all h3 k4 = match_same (places_here v o g) (match_more k1 h1 (match_more k2 h2 (match_more k3 h3 k4)))

pub functor_none : {f : List ℕ} {S : Signature} (g i : ℕ) {e w : ℕ} → Stands f edges e → w ≡ word f i functor_arity → w ≡ 0
    → EdgesMatch f S (places_in (program f).types g 1 (types_in (functor_at_record f i))) e (Some e)
unfolding types_in functor_at_record places_in
functor_none {f} g i s h z = let a : word f i functor_arity ≡ 0 = sym h ∙ z in rw a (match_none s)

-- ---- all functors
module _ {f : List ℕ} (i : ℕ) (F : Formed f) (s : Stands f functors i) (z : i ≡ 0 → ⊥) (o : all (functor_ok (program f).types) (functors_at f i) ≡ true) where
  fit_both : (functor_ok (program f).types (functor_at_record f i) & all (functor_ok (program f).types) (functors_at f (word f i next_word))) ≡ true
  unfolding all
  fit_both = rw (functors_step F i s z) at o

  pub fit_here : functor_ok (program f).types (functor_at_record f i) ≡ true
  fit_here = (and_true fit_both).0

  pub fit_next : {w : ℕ} → w ≡ word f i next_word → all (functor_ok (program f).types) (functors_at f w) ≡ true
  fit_next e = rw e (and_true fit_both).1

module _ {f : List ℕ} {S : Signature} (g i e : ℕ) (F : Formed f) where
  module _ (s : Stands f functors i) (z : i ≡ 0 → ⊥) {r : Option ℕ} (k : EdgesMatch f S (places_in (program f).types g 1 (types_in (functor_at_record f i))) e r) where
    edges_here : edges_ok (program f).types S (places_from (program f).types g (functors_at f i)) (edges_at f e)
        ≡ goes_on f S r (places_from (program f).types (suc g) (functors_at f (word f i next_word)))
    unfolding places_from
    edges_here = ap (λ fs. edges_ok (program f).types S (places_from (program f).types g fs) (edges_at f e)) (functors_step F i s z) ∙ k.same _

    pub edges_wrong : r ≡ None → false ≡ edges_ok (program f).types S (places_from (program f).types g (functors_at f i)) (edges_at f e)
    unfolding goes_on
    edges_wrong h = sym (edges_here ∙ ap (λ r. goes_on f S r (places_from (program f).types (suc g) (functors_at f (word f i next_word)))) h)

    pub edges_next : {e' w g' : ℕ} → r ≡ Some e' → w ≡ word f i next_word → g' ≡ suc g
        → edges_ok (program f).types S (places_from (program f).types g' (functors_at f w)) (edges_at f e') ≡ edges_ok (program f).types S (places_from (program f).types g (functors_at f i)) (edges_at f e)
    unfolding goes_on
    edges_next h ew eg = rw (ew, eg) (sym (edges_here ∙ ap (λ r. goes_on f S r (places_from (program f).types (suc g) (functors_at f (word f i next_word)))) h))

module _ {f : List ℕ} (g i e : ℕ) (F : Formed f) where
  pub edges_end : Stands f edges e → i ≡ 0 → (S : Signature) → eqb e 0 ≡ edges_ok (program f).types S (places_from (program f).types g (functors_at f i)) (edges_at f e)
  unfolding places_from edges_ok
  edges_end s z S =
      elim (dec_lt 0 e) [
        | yes l ↦ rw (ne_eqb e 0 (λ z. omega arith), functors_none f z, (edge_at F refl (edge_is s (λ z. omega arith))).view)
        | no l ↦ rw (eq-eqb e 0 (omega arith), functors_none f z, edges_none f {i = e} (omega arith))
      ]
