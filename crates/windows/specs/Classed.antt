-- A procedure's sets: what the code's are.
use Prim.Native.Nat.{ℕ, ◌-◌}
use Rattle.std.proofs.Common.{arith, ⊎_elim, sym, ◌∙◌, length-drop, take_all}
use Rattle.std.specs.Prelude.{Bool, true, false, List, ◌≡◌, length, take, drop}
use Rattle.std.proofs.Math.Path.{ap, ap₂, fun_ext}
use Rattle.sets.specs.Tests.{clash, false_of}
use Rattle.sets.specs.Sets.{member, ◌∪◌, ◌∖◌, subset, union_in, union_left, union_right, difference_in, difference_mk, subset_mk}
use Rattle.sets.specs.SetLaws.{subset_antisym, apart_in}
use Rattle.sets.specs.Members.{set_of, union_over}
use Rattle.sets.specs.declared.Set.{Set}
use Rattle.laws.specs.Tests.{and_stop, and_on}
use Rattle.language.specs.Program.{Functor, Signature, in_mode, out_mode}
use Rattle.language.specs.Typing.{signature_ok}
use Rattle.language.specs.Values.{ins_of, outs_of}
use Rattle.language.specs.Regions.{reach, reach_all}
use Rattle.language.specs.Lifetimes
use Rattle.language.specs.Lifetimes.{inputs, outputs, of_class, declared, born, dead, kept, classes_ok}
use Rattle.language.specs.Format.{born_class, dead_class}
use Rattle.region_graph.specs.Laws.{Declared}
use Rattle.region_graph.specs.Typed.{regions_few}
use Rattle.region_graph.specs.Procedure
use Rattle.region_graph.specs.Classes.{kept_in, shared_classed, born_kept, dead_kept_law}
use Rattle.chains.specs.Formed.{variables_at, regions_at}
use Rattle.tables.specs.Window.{reach_in}
use Rattle.windows.specs.Modes.{of_mode, variables_in_law}
use Rattle.windows.specs.Sorting.{of_class_in, of_class_law}
use Rattle.windows.specs.declared.Classes.{Classes}

-- S has the variables from record v on and the regions from record r on, and passes number 3
pub record SignatureAt (f : List ℕ) (v r : ℕ) (S : Signature) : Type 0 where
  pub variables : S.variables ≡ variables_at f v
  pub regions : S.regions ≡ regions_at f r
  pub types : List (List Functor)
  pub ok : signature_ok types S ≡ true

-- a window has the reach of every variable of S
pub record Reached (S : Signature) (t : List ℕ) : Type 0 where
  pub at : (x : ℕ) → reach_in t x ≡ reach S x

-- .. lent from place `at` on
pub reached_part : {S : Signature} (t : List ℕ) (at : ℕ) → Reached S (drop at t) → Reached S (take (length t - at) (drop at t))
reached_part t at h = rw (take_all (length t - at) (drop at t) (omega (arith, length-drop at t))) h

pub record Classed (S : Signature) (c : Classes) : Type 0 where
  pub ins : c.ins ≡ ins_of S
  pub outs : c.outs ≡ outs_of S
  pub inputs : c.inputs ≡ inputs S
  pub outputs : c.outputs ≡ outputs S
  pub born : c.born ≡ born S
  pub dead : c.dead ≡ dead S
  pub kept : c.kept ≡ kept S
  pub passed : c.passed ≡ Lifetimes.inputs S ∪ Lifetimes.outputs S

-- "Kept: those of either kind whose class is 0": the input and output regions that are neither born nor dead
kept_rest : (T : List (List Functor)) (S : Signature) → Declared T S → (inputs S ∪ outputs S) ∖ (born S ∪ dead S) ≡ kept S
kept_rest T S D = subset_antisym _ (kept S) (subset_mk _ _ there) (subset_mk _ _ back)
  where
    there : (r : ℕ) → member ((inputs S ∪ outputs S) ∖ (born S ∪ dead S)) r ≡ true → member (kept S) r ≡ true
    there r m =
        let d = difference_in (inputs S ∪ outputs S) (born S ∪ dead S) r m in
        ⊎_elim (λ p. ⊎_elim (λ k. k) (λ b. absurd (clash (union_left (born S) (dead S) r b) d.1)) (union_in (kept S) (born S) r p))
        (λ q. absurd (clash (union_right (born S) (dead S) r q) d.1)) (union_in (kept S ∪ born S) (dead S) r (shared_classed T S D r d.0))

    back : (r : ℕ) → member (kept S) r ≡ true → member ((inputs S ∪ outputs S) ∖ (born S ∪ dead S)) r ≡ true
    back r m =
        difference_mk (inputs S ∪ outputs S) (born S ∪ dead S) r (kept_in S r m).0
        (false_of (λ q. ⊎_elim (λ b. clash m (apart_in (born S) (kept S) (born_kept S) r b)) (λ d. clash m (apart_in (dead S) (kept S) (dead_kept_law S) r d)) (union_in (born S) (dead S) r q)))

-- ---- what the code gathers
module _ {f : List ℕ} {v r : ℕ} (S : Signature) (h : SignatureAt f v r S) where
  pub ins_are : {xs : Set} → xs ≡ set_of (of_mode in_mode (variables_at f v)) → xs ≡ ins_of S
  unfolding ins_of
  ins_are e = e ∙ ap (λ vs. set_of (of_mode in_mode vs)) (sym h.variables) ∙ ap set_of (sym (variables_in_law in_mode S))

  pub outs_are : {xs : Set} → xs ≡ set_of (of_mode out_mode (variables_at f v)) → xs ≡ outs_of S
  unfolding outs_of
  outs_are e = e ∙ ap (λ vs. set_of (of_mode out_mode vs)) (sym h.variables) ∙ ap set_of (sym (variables_in_law out_mode S))

  of_class_is : (c : ℕ) {s : Set} → s ≡ set_of (of_class_in c (regions_at f r)) → s ≡ of_class S c (declared S)
  of_class_is c e = e ∙ ap (λ rs. set_of (of_class_in c rs)) (sym h.regions) ∙ of_class_law S c (regions_few h.types S h.ok)

  reach_all_law : {t : List ℕ} {xs ys s : Set} → Reached S t → xs ≡ ys → s ≡ union_over (reach_in t) xs → s ≡ reach_all S ys
  unfolding reach_all
  reach_all_law {xs = xs} w e g = g ∙ ap (λ (F : ℕ → Set). union_over F xs) (fun_ext w.at) ∙ ap (λ (z : Set). union_over (reach S) z) e

  pub sorted : {t : List ℕ} {xs ys ins outs b d u w k : Set} → Reached S t → xs ≡ set_of (of_mode in_mode (variables_at f v)) → ys ≡ set_of (of_mode out_mode (variables_at f v))
      → ins ≡ union_over (reach_in t) xs → outs ≡ union_over (reach_in t) ys → b ≡ set_of (of_class_in born_class (regions_at f r))
      → d ≡ set_of (of_class_in dead_class (regions_at f r)) → u ≡ ins ∪ outs → w ≡ b ∪ d → k ≡ u ∖ w
      → Classed S (record { ins = xs; outs = ys; inputs = ins; outputs = outs; born = b; dead = d; kept = k; passed = u })
  unfolding inputs outputs born dead
  sorted R ex ey ei eo eb ed eu ew ek =
      let i = reach_all_law R (ins_are ex) ei in
      let o = reach_all_law R (outs_are ey) eo in
      let b = of_class_is born_class eb in
      let d = of_class_is dead_class ed in
      record {
        ins = ins_are ex;
        outs = outs_are ey;
        inputs = i;
        outputs = o;
        born = b;
        dead = d;
        kept = ek ∙ ap₂ ◌∖◌ (eu ∙ ap₂ ◌∪◌ i o) (ew ∙ ap₂ ◌∪◌ b d) ∙ kept_rest h.types S (Procedure.declared h.types S h.ok);
        passed = eu ∙ ap₂ ◌∪◌ i o;
      }

-- ---- number 7 for every program
module _ (S : Signature) {c : Classes} (h : Classed S c) where
  pub born_wrong : {d : Set} {b : Bool} → d ≡ c.outputs ∖ c.inputs → b ≡ subset c.born d → b ≡ false → false ≡ classes_ok S
  unfolding classes_ok
  born_wrong e g z = rw (← h.outputs, ← h.inputs, ← h.born, ← e) (and_stop _ (sym g ∙ z))

  pub both_right : {d w : Set} {b o : Bool} → d ≡ c.outputs ∖ c.inputs → b ≡ subset c.born d → b ≡ true → w ≡ c.inputs ∖ c.outputs
      → o ≡ subset c.dead w → o ≡ classes_ok S
  unfolding classes_ok
  both_right e g z k m = rw (← h.outputs, ← h.inputs, ← h.born, ← h.dead, ← e, ← k) (and_on (sym g ∙ z) m)
