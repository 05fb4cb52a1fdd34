-- Number 5 asks of a call exactly that no region of the callee is mapped two ways: the mapping answers images where each has one, and they
-- are those images; it answers two ways where some region has two.
use Rattle.std.specs.Prelude.{ℕ, zero, suc, List, [], ◌∷◌, map, ◌↔◌, ◌≢◌, ◌⊎◌, ◌≡◌}
use Rattle.std.proofs.Math.Bool.{true}
use Rattle.std.proofs.lemmas.Bool.{false≢true}
use Rattle.std.proofs.Common.{inl, inr, ⊎_elim, ap, ◌∙◌}
use Rattle.std.proofs.Math.Path.{refl, sym}
use Rattle.sets.specs.Tests.{and_true}
use Rattle.sets.specs.Members.{in_list, cons_here, cons_later}
use Rattle.language.specs.Lists.{nth}
use Rattle.language.specs.Program.{Functor, Signature, Program, call, region_of, signature_of, parameters_of, parameter_variables}
use Rattle.language.specs.Typing.{have_types, parameter_types, signature_ok, step_ok, typing_ok}
use Rattle.language.specs.Regions.{targets, Mapping, two_ways, images, one_way, regions_of, mapping, step_regions}
use Rattle.region_graph.specs.Laws.{target, shared}
use Rattle.region_graph.specs.Typed.{regions_few, signature_typed}
use Rattle.region_graph.specs.Procedure.{declared}
use Rattle.region_graph.specs.Shared.{parameter_own, shared_closed}
use Rattle.region_graph.specs.Alike.{parameter_regions, Paired, paired_nil, paired_cons, Alike, region_some, targets_alike, targets_follow}
use Rattle.region_graph.specs.Mapping.{Due, Image, Dispute, MappingShown, mapping_outcome}
use Rattle.region_graph.specs.Calls.{Complete, complete, arguments_paired}
use Rattle.region_graph.specs.Maps.{Maps, argument, along, nth_map, none_region, none_target, nth_region, maps_targets, maps_arguments, maps_alike}

paired_due : {C Q : Signature} {W : ℕ → ℕ → Type 0} {rs us : List ℕ} → Paired (Alike C Q) rs us → Paired W rs us → Paired (Due C Q W) rs us
paired_due paired_nil paired_nil = paired_nil
paired_due (paired_cons a t) (paired_cons w v) = paired_cons (record { alike = a; way = w }) (paired_due t v)

nth_listed : (xs : List ℕ) (i : ℕ) → (nth 0 xs i ≡ 0) ⊎ (in_list (nth 0 xs i) xs ≡ true)
unfolding nth
nth_listed [] i = inl refl
nth_listed (x ∷ xs) zero = inr (cons_here x x xs refl)
nth_listed (x ∷ xs) (suc i) = ⊎_elim (λ p. inl p) (λ q. inr (cons_later (nth 0 xs i) x xs q)) (nth_listed xs i)

module _ (T : List (List Functor)) (C Q : Signature) (ok_c : signature_ok T C ≡ true) (ok_q : signature_ok T Q ≡ true) (ys : List ℕ)
    (typed : have_types C (parameter_types Q) ys ≡ true) where
  -- the mapping's answer, with what is mapped by the relation for each region and its image
  ways : MappingShown C Q (Maps C Q ys) (λ r. 0) (λ k. map k (parameter_regions Q) ≡ regions_of C ys) (mapping C Q ys)
  ways =
      mapping_outcome C Q (Maps C Q ys) onward (regions_few T Q ok_q) ys
      (paired_due (arguments_paired T C Q ok_c ok_q ys typed) (maps_arguments T C Q ok_c ok_q ys typed))
    where
      onward : (r u : ℕ) → Image C Q (Maps C Q ys) r u → Paired (Due C Q (Maps C Q ys)) (targets Q r) (targets C u)
      onward r u i =
          paired_due (targets_alike T C Q ok_c ok_q r u i.matched) (maps_targets T C Q ok_c ok_q ys typed r u i.matched i.way)

  -- two ways: a region has two images
  pub two_ways_law : mapping C Q ys ≡ two_ways → Dispute C Q (Maps C Q ys)
  two_ways_law e = rw e at ways

  -- what the relation maps is an input or output region
  pub maps_shared : {r u : ℕ} → Maps C Q ys r u → r ≢ 0 → shared Q r
  maps_shared (argument i) n =
      ⊎_elim (λ z. absurd (n (ap (region_of Q) z ∙ none_region Q)))
      (λ e. parameter_own T Q ok_q (nth 0 (parameter_variables (parameters_of Q)) i) e n)
      (nth_listed (parameter_variables (parameters_of Q)) i)
  maps_shared (along {r = r} w f k) n =
      shared_closed T Q (declared T Q ok_q) r (target Q r f k)
      (maps_shared w (λ z. n (ap (λ (q : ℕ). target Q q f k) z ∙ none_target Q f k))) ((declared T Q ok_q).edge r f k n)

  module _ (m : ℕ → ℕ) (answer : mapping C Q ys ≡ images m) where
    whole : Complete C Q ys m
    whole = complete C Q (Maps C Q ys) ys m (rw answer at ways)

    -- and the relation has no other
    pub maps_image : {r u : ℕ} → Maps C Q ys r u → m r ≡ u
    maps_image (argument i) =
        ap m (sym (nth_region Q (parameter_variables (parameters_of Q)) i))
        ∙ sym (nth_map m whole.nowhere (parameter_regions Q) i)
        ∙ ap (λ (us : List ℕ). nth 0 us i) whole.arguments
        ∙ nth_region C ys i
    maps_image (along {r = r} {u = u} w f k) = go (maps_image w) (maps_alike T C Q ok_c ok_q ys typed w)
      where
        go : m r ≡ u → Alike C Q r u → m (target Q r f k) ≡ target C u f k
        go e (inl p) =
            ap m (ap (λ (q : ℕ). target Q q f k) p.0 ∙ none_target Q f k) ∙ whole.nowhere
            ∙ sym (ap (λ (q : ℕ). target C q f k) p.1 ∙ none_target C f k)
        go e (inr h) =
            let n : m r ≢ 0 = λ z. region_some C u h.caller (sym e ∙ z) in
            sym (targets_follow T C Q ok_c ok_q m whole.nowhere r (m r) (whole.matched r n) (whole.followed r n) f k)
            ∙ ap (λ (v : ℕ). target C v f k) e

  -- one way is exactly: each region is mapped to one
  pub one_way_law : (one_way (mapping C Q ys) ≡ true) ↔ ((r u v : ℕ) → Maps C Q ys r u → Maps C Q ys r v → u ≡ v)
  unfolding one_way
  one_way_law = (forth (mapping C Q ys) refl, back (mapping C Q ys) refl)
    where
      forth : (a : Mapping) → mapping C Q ys ≡ a → one_way a ≡ true → (r u v : ℕ) → Maps C Q ys r u → Maps C Q ys r v → u ≡ v
      forth two_ways e h r u v a b = absurd (false≢true h)
      forth (images m) e h r u v a b = sym (maps_image m e a) ∙ maps_image m e b

      back : (a : Mapping) → mapping C Q ys ≡ a → ((r u v : ℕ) → Maps C Q ys r u → Maps C Q ys r v → u ≡ v) → one_way a ≡ true
      back two_ways e h = let d = two_ways_law e in absurd (d.6 (h d.0 d.1 d.2 d.4 d.5))
      back (images m) e h = refl

-- "a call that maps one region two ways": a call from procedure p that passes number 3 passes number 5 exactly if it does not
pub call_one_way : (P : Program) (p q : ℕ) (ys : List ℕ) → typing_ok P ≡ true → step_ok P (signature_of P p) (call q ys) ≡ true
    → (step_regions P (signature_of P p) (call q ys) ≡ true)
    ↔ ((r u v : ℕ) → Maps (signature_of P p) (signature_of P q) ys r u → Maps (signature_of P p) (signature_of P q) ys r v → u ≡ v)
unfolding step_ok step_regions
call_one_way P p q ys ok typed =
    one_way_law P.types (signature_of P p) (signature_of P q) (signature_typed P ok p) (signature_typed P ok q) ys (and_true typed).1
