-- A call: number 5 of it, and its effect, by its mapping and the window of its callee.
use Rattle.std.specs.Prelude.{ℕ, ◌≤◌, Bool, true, ◌⊎◌, ◌≡◌, replicate}
use Rattle.std.proofs.Common.{arith, inl, sym, ◌∙◌, ltb-true}
use Rattle.std.proofs.Math.Decide.{ℕ_discrete}
use mathlib.Core.List.{List, map}
use Rattle.std.proofs.Math.Logic.{inr, ⊎_elim}
use Rattle.std.proofs.Math.Path.{refl, ap, fun_ext}
use Rattle.std.proofs.lemmas.List.{length-replicate}
use Rattle.sets.specs.Tests.{and_true}
use Rattle.sets.specs.Sets.{◌∪◌}
use Rattle.sets.specs.Members.{in_list, cons_here, cons_later}
use Rattle.language.specs.File.{k_call, word, arguments}
use Rattle.language.specs.Format.{call_procedure, call_arguments, max_regions, places}
use Rattle.language.specs.Program.{Functor, call, Signature, region_of, signature_of, parameters_of, parameter_variables}
use Rattle.language.specs.Typing.{signature_ok, step_ok, have_types, parameter_types}
use Rattle.language.specs.Regions.{targets, Mapping, images, image_in, one_way, mapping, regions_of}
use Rattle.language.specs.Lifetimes.{inputs, outputs, call_effect, effect}
use Rattle.language.specs.Answers.{program}
use Rattle.region_graph.specs.Laws.{shared}
use Rattle.region_graph.specs.Typed.{regions_few, signature_typed}
use Rattle.region_graph.specs.Procedure.{declared}
use Rattle.region_graph.specs.Shared.{region_top, shared_ranged, shared_closed, parameter_own}
use Rattle.region_graph.specs.Alike.{parameter_regions, Paired, paired_nil, paired_cons, Alike, region_some, targets_alike}
use Rattle.region_graph.specs.Mapping.{Due, Image, MappingShown, mapping_outcome}
use Rattle.region_graph.specs.Calls.{listed_image, regions_map, arguments_paired, called_typed}
use Rattle.records.specs.Blank.{blank_zero}
use Rattle.chains.specs.Formed.{Stands, arguments_at}
use Rattle.chains.specs.Shapes.{IsCall, call_here, to_arguments}
use Rattle.tables.specs.Window.{Window, FileTable}
use Rattle.tables.specs.Starts.{window_in, window_here}
use Rattle.tables.specs.declared.Effect.{Effect}
use Rattle.regions.specs.Pairs.{images_in, answer, Standing, window_stands}
use Rattle.regions.specs.CallMap.{Blank, CallMapped}
use Rattle.regions.specs.Images.{Imaged, ImageEffect}
use Rattle.regions.specs.Here.{signature_at, Here, call_kind_law, step_typed}
use Rattle.regions.specs.Effects.{EffectAt, effect_made}

-- ---- only the callee's input and output regions have images
module _ (T : List (List Functor)) (C Q : Signature) (ok_c : signature_ok T C ≡ true) (ok_q : signature_ok T Q ≡ true) (ys : List ℕ)
    (typed : have_types C (parameter_types Q) ys ≡ true) where
  NoneOrShared : ℕ → ℕ → Type 0
  NoneOrShared r u = (r ≡ 0) ⊎ shared Q r

  with_way : {rs us : List ℕ} → Paired (Alike C Q) rs us → ((r : ℕ) → in_list r rs ≡ true → (r ≡ 0) ⊎ shared Q r) → Paired (Due C Q NoneOrShared) rs us
  unfolding NoneOrShared
  with_way paired_nil h = paired_nil
  with_way (paired_cons {r = r} {u = u} {rs = rs} a t) h =
      paired_cons (record { alike = a; way = h r (cons_here r r rs refl) }) (with_way t (λ q i. h q (cons_later q r rs i)))

  passed_first : (r : ℕ) → in_list r (parameter_regions Q) ≡ true → (r ≡ 0) ⊎ shared Q r
  passed_first r i =
      let x = listed_image (region_of Q) (parameter_variables (parameters_of Q)) r (ap (in_list r) (sym (regions_map Q (parameter_variables (parameters_of Q)))) ∙ i) in
      elim (ℕ_discrete r 0) [
        | yes z ↦ inl z
        | no z ↦ inr (rw (← x.2) (parameter_own T Q ok_q x.0 x.1 (λ e. z (sym x.2 ∙ e))))
      ]

  passed_on : (r u : ℕ) → Image C Q NoneOrShared r u → Paired (Due C Q NoneOrShared) (targets Q r) (targets C u)
  unfolding NoneOrShared
  passed_on r u i =
      with_way (targets_alike T C Q ok_c ok_q r u i.matched)
      (λ t m. inr (shared_closed T Q (declared T Q ok_q) r t (⊎_elim (λ z. absurd (region_some Q r i.matched.callee z)) (λ s. s) i.way) m))

  pub only_passed : (m : ℕ → ℕ) → mapping C Q ys ≡ images m → (r : ℕ) → 1 ≤ m r → shared Q r
  unfolding NoneOrShared
  only_passed m e r l =
      let o = mapping_outcome C Q NoneOrShared passed_on (regions_few T Q ok_q) ys (with_way (arguments_paired T C Q ok_c ok_q ys typed) passed_first) in
      let x : MappingShown C Q NoneOrShared (λ r. 0) (λ k. map k (parameter_regions Q) ≡ regions_of C ys) (images m) = rw e at o in
      ⊎_elim (λ z. absurd (omega arith))
      (λ i. ⊎_elim (λ z. absurd (region_some Q r i.matched.callee z)) (λ s. s) i.way) (x.0.good r)

-- ---- the images of a call
images_answer : (b : Bool) (t : List ℕ) → b ≡ true → answer b t ≡ images (images_in t)
unfolding answer
images_answer b t e = rw e refl

-- a table of zeros
pub blank : {t : List ℕ} → t ≡ replicate places 0 → Blank t
blank e = rw e (record { room = length-replicate {A = ℕ} places 0; none = blank_zero places })

-- the call at record i, own the window of its procedure, theirs that of its callee
pub record CallHere (f own theirs : List ℕ) (i : ℕ) : Type 0 where
  pub here : Here f own i
  pub kind : IsCall f i
  pub callee : Window f (signature_of (program f) (word f i call_procedure)) theirs

module _ {f own : List ℕ} {i : ℕ} (H : Here f own i) (k : IsCall f i) where
  call_typed : step_ok (program f) (signature_at f i) (call (word f i call_procedure) (arguments_at f (word f i call_arguments))) ≡ true
  call_typed = step_typed H.formed H.typed H.some H.below k_call (call_kind_law f i k) (call_here H.formed refl k).goal

  pub call_window : {table : List ℕ} → FileTable f table → {q : ℕ} {theirs : List ℕ} → q ≡ word f i call_procedure → theirs ≡ window_in table q → CallHere f own theirs i
  unfolding step_ok signature_of
  call_window T {q} e w = record {
    here = H;
    kind = k;
    callee = rw (w, e) (window_here T (ltb-true (word f i call_procedure) _ (and_true call_typed).0)).window;
  }

module _ {f own theirs : List ℕ} {i : ℕ} (K : CallHere f own theirs i) where
  pub call_own : Standing f own
  call_own = window_stands (K.here.window k_call (call_kind_law f i K.kind))

  pub call_callee : Standing f theirs
  call_callee = window_stands K.callee

  pub call_arguments_law : {a : ℕ} → a ≡ word f i call_arguments → Stands f arguments a
  call_arguments_law e = (to_arguments K.here.formed K.kind e).stands

  abbrev C : Signature
  C = signature_at f i

  abbrev Q : Signature
  Q = signature_of (program f) (word f i call_procedure)

  abbrev ys : List ℕ
  ys = arguments_at f (word f i call_arguments)

  ok_c : signature_ok (program f).types C ≡ true
  ok_c = signature_typed (program f) K.here.typed _

  ok_q : signature_ok (program f).types Q ≡ true
  ok_q = signature_typed (program f) K.here.typed _

  matches : have_types C (parameter_types Q) ys ≡ true
  unfolding step_ok
  matches = (and_true (call_typed K.here K.kind)).1

  module _ {a : ℕ} (e : a ≡ word f i call_arguments) {t : List ℕ} (B : Blank t) (b : Bool) (t' : List ℕ) (M : CallMapped f own theirs a t b t') where
    pub mapped : mapping C Q ys ≡ answer b t'
    mapped =
        (rw e at M) C Q
        (record { types = (program f).types; ok_c = ok_c; ok_q = ok_q; at_c = K.here.window k_call (call_kind_law f i K.kind); at_q = K.callee })
        matches B

    module _ (y : b ≡ true) where
      found : mapping C Q ys ≡ images (images_in t')
      found = mapped ∙ images_answer b t' y

      pub imaged : Imaged (images_in t') (inputs Q ∪ outputs Q)
      unfolding image_in one_way
      imaged =
          let D = declared (program f).types Q ok_q in
          let c = called_typed (program f).types C Q ok_c ok_q ys matches (ap one_way found) in
          let m : (p : ℕ) → c.image p ≡ images_in t' p = λ p. ap (λ (a : Mapping). image_in a p) (sym c.mapped ∙ found) in
          let top : (p : ℕ) → shared Q p → (1 ≤ images_in t' p) × (images_in t' p ≤ max_regions) =
          λ p s. rw (← m p) (region_top (program f).types C (declared (program f).types C ok_c) (c.image p) (c.region p s)) in
          record {
            only = only_passed (program f).types C Q ok_c ok_q ys matches (images_in t') found;
            top = λ p s. (region_top (program f).types Q D p (shared_ranged (program f).types Q D p s)).1;
            low_image = λ p s. (top p s).0;
            top_image = λ p s. (top p s).1;
          }

      pub call_made : {d : Effect} → ImageEffect (images_in t') theirs d → EffectAt f i d
      unfolding effect call_effect image_in
      call_made {d} h =
          let m : image_in (mapping C Q ys) ≡ images_in t' = fun_ext (λ n. ap (λ (a : Mapping). image_in a n) found) in
          let w = K.callee in
          effect_made K.here.some K.here.below k_call (call_kind_law f i K.kind) (call_here K.here.formed refl K.kind).goal (record {
            needs = h.needs ∙ rw (m, w.dead, w.kept) refl;
            bears = h.bears ∙ rw (m, w.born) refl;
            ends = h.ends ∙ rw (m, w.dead) refl;
            unshared = h.unshared (rw w.passed imaged) ∙ rw (m, w.dead, w.born, w.passed) refl;
          })
