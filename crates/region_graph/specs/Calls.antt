-- The laws of a call's mapping, from numbers 3 and 5.
use Prim.Native.Nat.{ℕ}
use Rattle.std.specs.Prelude.{Bool, true, ◌≢◌, ◌≡◌, eqb}
use Rattle.std.proofs.lemmas.Bool.{false≢true, eqb-false}
use mathlib.Core.List.{List, [], ◌∷◌, map, head-eq_of_cons-eq, tail-eq_of_cons-eq}
use Rattle.std.proofs.Common.{inl, inr, ⊎_elim, ap, ◌∙◌, arith, ne_eqb}
use Rattle.std.proofs.Math.Path.{refl, sym}
use Rattle.sets.specs.Tests.{neg, and_true, neg_true, true_neg}
use Rattle.sets.specs.Sets.{member, member_pos}
use Rattle.sets.specs.Members.{in_list, nil_in, cons_in, image}
use Rattle.sets.specs.MemberLaws.{image_in_law, image_mk}
use Rattle.language.specs.Program.{Functor, Signature, Program, call, region_of, signature_of, parameters_of, parameter_variables}
use Rattle.language.specs.Typing.{is_region, have_types, parameter_types, signature_ok, step_ok, typing_ok}
use Rattle.language.specs.Regions.{targets, reach_from, reach, Mapping, two_ways, images, one_way, regions_of, mapping, step_regions}
pub use Rattle.laws.specs.Lists.{image_listed, listed_image}
use Rattle.region_graph.specs.Laws.{Called, shared}
use Rattle.region_graph.specs.Typed.{types_had, regions_few, signature_typed}
use Rattle.region_graph.specs.Procedure.{declared}
use Rattle.region_graph.specs.Shared.{region_top, reach_step, reach_from_law, shared_from}
use Rattle.region_graph.specs.Alike.{parameter_regions, Paired, paired_nil, paired_cons, paired_map, Matched, Alike, region_some, targets_alike, targets_follow, arguments_alike}
use Rattle.region_graph.specs.Mapping.{Due, Image, MappingShown, none_mapped, mapping_outcome}

-- ---- lists and their images
pub regions_map : (S : Signature) (xs : List ℕ) → regions_of S xs ≡ map (region_of S) xs
unfolding regions_of
regions_map S [] = refl
regions_map S (x ∷ xs) = ap (λ rs. region_of S x ∷ rs) (regions_map S xs)

region_listed : (S : Signature) (xs : List ℕ) (x : ℕ) → in_list x xs ≡ true → in_list (region_of S x) (regions_of S xs) ≡ true
region_listed S xs x e = rw (regions_map S xs) (image_listed (region_of S) xs x e)

-- a pair's first is in the list: its image is the second
paired_at : {R : ℕ → ℕ → Type 0} {rs us : List ℕ} (m : ℕ → ℕ) → Paired R rs us → map m rs ≡ us → (r : ℕ) → in_list r rs ≡ true → R r (m r)
paired_at m paired_nil e r i = absurd (nil_in r i)
paired_at {R} m (paired_cons {r = q} {u = u} {rs = rs} h t) e r i =
    ⊎_elim (λ (p : q ≡ r). rw (← p) (rw (head-eq_of_cons-eq e) h)) (λ j. paired_at m t (tail-eq_of_cons-eq e) r j) (cons_in r q rs i)

-- a number has an image
abbrev has : (ℕ → ℕ) → ℕ → Bool
has m r = neg (eqb (m r) 0)

has_in : (m : ℕ → ℕ) (r : ℕ) → has m r ≡ true → m r ≢ 0
has_in m r h = eqb-false (m r) 0 (neg_true h)

has_mk : (m : ℕ → ℕ) (r : ℕ) → m r ≢ 0 → has m r ≡ true
has_mk m r n = true_neg (ne_eqb (m r) 0 n)

-- ---- a mapping that is complete: arguments have their images, and images follow along all edges
pub record Complete (C Q : Signature) (ys : List ℕ) (m : ℕ → ℕ) : Type 0 where
  pub arguments : map m (parameter_regions Q) ≡ regions_of C ys
  pub nowhere : m 0 ≡ 0
  pub matched : (r : ℕ) → m r ≢ 0 → Matched C Q r (m r)
  pub followed : (r : ℕ) → m r ≢ 0 → map m (targets Q r) ≡ targets C (m r)

pub complete : (C Q : Signature) (Way : ℕ → ℕ → Type 0) (ys : List ℕ) (m : ℕ → ℕ)
    → MappingShown C Q Way (λ r. 0) (λ k. map k (parameter_regions Q) ≡ regions_of C ys) (images m) → Complete C Q ys m
complete C Q Way ys m o = record {
  arguments = o.1;
  nowhere = none_mapped C Q Way m o.0.good;
  matched = λ r n. ⊎_elim (λ p. absurd (n p)) (λ i. i.matched) (o.0.good r);
  followed = λ r n. ⊎_elim (λ p. absurd (p refl)) (λ e. e) (o.0.followed r n);
}

module _ (T : List (List Functor)) (C Q : Signature) (ok_c : signature_ok T C ≡ true) (ok_q : signature_ok T Q ≡ true) (ys : List ℕ)
    (typed : have_types C (parameter_types Q) ys ≡ true) where
  pub arguments_paired : Paired (Alike C Q) (parameter_regions Q) (regions_of C ys)
  unfolding parameter_types
  arguments_paired = arguments_alike T C Q ok_c ok_q (parameter_variables (parameters_of Q)) ys typed

  module _ (m : ℕ → ℕ) (M : Complete C Q ys m) where
    -- an edge of a region that has an image leads to one that has
    onward_mapped : (r t : ℕ) → m r ≢ 0 → in_list t (targets Q r) ≡ true → (in_list (m t) (targets C (m r)) ≡ true) × (m t ≢ 0)
    onward_mapped r t n i =
        let e = ap (in_list (m t)) (sym (M.followed r n)) ∙ image_listed m (targets Q r) t i in
        (e, region_some C (m t) ((declared T C ok_c).onward (m r) (m t) (M.matched r n).caller e).0)

    reached_mapped : (r u : ℕ) → m r ≢ 0 → member (reach_from Q r) u ≡ true → m u ≢ 0
    reached_mapped r u n h =
        has_in m u ((declared T Q ok_q).least r (has m) (has_mk m r n) (λ w t e i. has_mk m t (onward_mapped w t (has_in m w e) i).1) u h)

    alike_mapped : (r : ℕ) → is_region Q r ≡ true → Alike C Q r (m r) → m r ≢ 0
    alike_mapped r h (inl p) = absurd (region_some Q r h p.0)
    alike_mapped r h (inr a) = region_some C (m r) a.caller

    -- every input and output region has an image
    shared_mapped : (r : ℕ) → shared Q r → m r ≢ 0
    unfolding reach
    shared_mapped r h =
        let o = shared_from T Q (declared T Q ok_q) r h in
        let i = region_listed Q (parameter_variables (parameters_of Q)) o.0 o.1 in
        let own = reach_from_law T Q (declared T Q ok_q) o.0 r o.2 in
        reached_mapped (region_of Q o.0) r (alike_mapped (region_of Q o.0) own (paired_at m arguments_paired M.arguments _ i)) o.2

    -- what is reached from r has its image reached from r's
    reach_in_law : (r u : ℕ) → m r ≢ 0 → member (reach_from Q r) u ≡ true → member (reach_from C (m r)) (m u) ≡ true
    reach_in_law r u n h =
        (declared T Q ok_q).least r (λ w. member (reach_from C (m r)) (m w)) ((declared T C ok_c).self (m r) (M.matched r n).caller)
        further u h
      where
        further : (w t : ℕ) → member (reach_from C (m r)) (m w) ≡ true → in_list t (targets Q w) ≡ true
            → member (reach_from C (m r)) (m t) ≡ true
        further w t e i =
            let l = member_pos (reach_from C (m r)) (m w) e in
            reach_step T C (declared T C ok_c) (m r) (m w) (m t) (M.matched r n).caller e (onward_mapped w t (omega arith) i).0

    -- and nothing else is reached from there
    reach_out : (r u : ℕ) → m r ≢ 0 → member (reach_from C (m r)) u ≡ true → (w : ℕ) × (member (reach_from Q r) w ≡ true) × (m w ≡ u)
    reach_out r u n h =
        let o = image_in_law m (reach_from Q r) u ((declared T C ok_c).least (m r) (member (image m (reach_from Q r)))
        (among r ((declared T Q ok_q).self r (M.matched r n).callee)) further u h) in
        (o.0, o.1, o.2)
      where
        among : (w : ℕ) → member (reach_from Q r) w ≡ true → member (image m (reach_from Q r)) (m w) ≡ true
        among w e =
            let i = region_top T Q (declared T Q ok_q) w ((declared T Q ok_q).ranged r w (M.matched r n).callee e) in
            let j = region_top T C (declared T C ok_c) (m w) (M.matched w (reached_mapped r w n e)).caller in
            image_mk m (reach_from Q r) w e i.1 j.0 j.1

        further : (v t : ℕ) → member (image m (reach_from Q r)) v ≡ true → in_list t (targets C v) ≡ true
            → member (image m (reach_from Q r)) t ≡ true
        further v t e i =
            let o = image_in_law m (reach_from Q r) v e in
            let f = M.followed o.0 (reached_mapped r o.0 n o.1) ∙ ap (targets C) o.2 in
            let s = listed_image m (targets Q o.0) t (ap (in_list t) f ∙ i) in
            ap (member (image m (reach_from Q r))) (sym s.2)
            ∙ among s.0 (reach_step T Q (declared T Q ok_q) r o.0 s.0 (M.matched r n).callee o.1 s.1)

    called_by : mapping C Q ys ≡ images m → Called C Q ys
    unfolding parameter_types
    called_by e = record {
      image = m;
      mapped = e;
      nowhere = M.nowhere;
      arguments = M.arguments;
      types = sym (types_had C _ ys typed);
      region = λ r h. (M.matched r (shared_mapped r h)).caller;
      follows = λ r f k h.
          let n = shared_mapped r h in
          targets_follow T C Q ok_c ok_q m M.nowhere r (m r) (M.matched r n) (M.followed r n) f k;
      targets_follow = λ r h. sym (M.followed r (shared_mapped r h));
      reach_in_law = λ r u h. reach_in_law r u (shared_mapped r h);
      reach_out = λ r u h. reach_out r u (shared_mapped r h);
    }

  -- a call that passes number 5
  pub called_typed : one_way (mapping C Q ys) ≡ true → Called C Q ys
  unfolding one_way
  called_typed ok =
      go (mapping C Q ys) refl ok (mapping_outcome C Q Anyway along (regions_few T Q ok_q) ys (paired_map due arguments_paired))
    where
      -- nothing more is to be shown of a region and its image
      Anyway : ℕ → ℕ → Type 0
      Anyway r u = Unit {0}

      due : (r u : ℕ) → Alike C Q r u → Due C Q Anyway r u
      due r u a = record { alike = a; way = tt }

      along : (r u : ℕ) → Image C Q Anyway r u → Paired (Due C Q Anyway) (targets Q r) (targets C u)
      along r u i = paired_map due (targets_alike T C Q ok_c ok_q r u i.matched)

      go : (a : Mapping) → mapping C Q ys ≡ a → one_way a ≡ true
          → MappingShown C Q Anyway (λ r. 0) (λ k. map k (parameter_regions Q) ≡ regions_of C ys) a → Called C Q ys
      go two_ways e h o = absurd (false≢true h)
      go (images m) e h o = called_by m (complete C Q Anyway ys m o) e

-- a call from procedure p
pub called : (P : Program) (p q : ℕ) (ys : List ℕ) → typing_ok P ≡ true → step_ok P (signature_of P p) (call q ys) ≡ true
    → step_regions P (signature_of P p) (call q ys) ≡ true → Called (signature_of P p) (signature_of P q) ys
unfolding step_ok step_regions
called P p q ys ok typed regioned =
    called_typed P.types (signature_of P p) (signature_of P q) (signature_typed P ok p) (signature_typed P ok q) ys (and_true typed).1
    regioned
