-- Laws of `specs/Stages` and `specs/Tabled` that only proofs cite.
use Rattle.std.specs.Prelude.{Result, Ok, Err}
use Prim.Native.Nat.{ℕ}
use mathlib.Core.Path.{◌≡◌, refl, sym, ◌∙◌, ap}
use mathlib.Core.Bool.{Bool, true, false}
use mathlib.Core.List.{List, ◌∷◌, []}
use mathlib.Core.Logic.{◌⊎◌, inl, inr}
use Rattle.sets.specs.Tests.{truth}
use Rattle.language.specs.declared.Refusal.{Refusal}
use Rattle.language.specs.declared.Refusal.TheVariants.{Values, Regions, Unreached, Classes}
use Rattle.language.specs.Values.{values_ok}
use Rattle.language.specs.Regions.{regions_ok}
use Rattle.language.specs.CallChains.{reached_ok}
use Rattle.language.specs.Lifetimes.{declared_classes_ok}
use Rattle.language.specs.Answers.{stage, lowest, program}
use Rattle.laws.specs.Stages.{lowest_passed}
use Rattle.records.specs.Verdicts.{form_stages, form_verdict, after, lowest_append}
use Rattle.stages.specs.Stages.{region_stages, table_stages}
use Rattle.tables.specs.Window.{FileTable}
use Rattle.windows.specs.Listing.{OnlyWindows}
use Rattle.accesses.specs.Noting.{AllNoted, RowsKept}
use Rattle.regions.specs.Rowed.{AfterPass}
use Rattle.stages.specs.Tabled.{TablesAfter}

-- ---- what an accepting stage has found
module _ (f : List ℕ) where
  pub form_lowest : {v : Result Unit Refusal} → v ≡ form_verdict f → v ≡ lowest (form_stages f)
  unfolding form_verdict
  form_lowest e = e

-- ---- numbers 5 and 17, one law for each way through them
module _ (f : List ℕ) {b : Bool} (eb : b ≡ regions_ok (program f)) where
  pub regions_refused : b ≡ false → Err Regions ≡ lowest (region_stages f)
  unfolding lowest
  regions_refused q = rw (sym eb ∙ q) refl

  module _ {r : Bool} (q : b ≡ true) (er : r ≡ reached_ok (program f)) where
    pub unreached_refused : r ≡ false → Err Unreached ≡ lowest (region_stages f)
    unfolding lowest
    unreached_refused z = rw (sym eb ∙ q, sym er ∙ z) refl

    pub regions_passed : r ≡ true → Ok tt ≡ lowest (region_stages f)
    unfolding lowest
    regions_passed z = rw (sym eb ∙ q, sym er ∙ z) refl

-- .. number 5 is passed, or is the answer
pub regions_told : (f : List ℕ) {v : Result Unit Refusal} → v ≡ lowest (region_stages f) → (regions_ok (program f) ≡ true) ⊎ ((regions_ok (program f) ≡ false) × (v ≡ Err Regions))
unfolding lowest
regions_told f e = elim (truth (regions_ok (program f))) [ inl t ↦ inl t | inr n ↦ inr (n, e ∙ rw n refl) ]

pub regions_found : (f : List ℕ) {v : Result Unit Refusal} → v ≡ lowest (region_stages f) → v ≡ Ok tt → regions_ok (program f) ≡ true
regions_found f e q = (lowest_passed (region_stages f) (sym e ∙ q)).0

-- ---- the table's stages, likewise
module _ (f : List ℕ) {a : Bool} (ea : a ≡ values_ok (program f)) where
  pub values_refused : a ≡ false → Err Values ≡ lowest (table_stages f)
  unfolding lowest
  values_refused p = rw (sym ea ∙ p) refl

  module _ {v : Result Unit Refusal} (p : a ≡ true) (ev : v ≡ lowest (region_stages f)) where
    next : lowest (table_stages f) ≡ after v (lowest (stage Classes (declared_classes_ok (program f)) ∷ []))
    unfolding lowest
    next =
        rw (sym ea ∙ p)
        (lowest_append (region_stages f) (stage Classes (declared_classes_ok (program f)) ∷ [])
        ∙ ap (λ (w : Result Unit Refusal). after w (lowest (stage Classes (declared_classes_ok (program f)) ∷ []))) (sym ev))

    pub middle_refused : {r : Refusal} → v ≡ Err r → v ≡ lowest (table_stages f)
    unfolding after
    middle_refused q = q ∙ sym (next ∙ ap (λ (w : Result Unit Refusal). after w (lowest (stage Classes (declared_classes_ok (program f)) ∷ []))) q)

    module _ {c : Bool} (q : v ≡ Ok tt) (ec : c ≡ declared_classes_ok (program f)) where
      last : lowest (table_stages f) ≡ lowest (stage Classes c ∷ [])
      unfolding after
      last = next ∙ rw (q, ec) refl

      pub classes_refused : c ≡ false → Err Classes ≡ lowest (table_stages f)
      unfolding lowest
      classes_refused r = sym (last ∙ rw r refl)

      pub tables_passed : c ≡ true → Ok tt ≡ lowest (table_stages f)
      unfolding lowest
      tables_passed r = sym (last ∙ rw r refl)

module _ {f t₀ u₀ t m : List ℕ} (w : FileTable f t) (o : OnlyWindows f t₀ t) (n : AllNoted f m) (k : RowsKept f u₀ m) where
  pub tabled_values : TablesAfter f t₀ u₀ (Err Values) t m
  tabled_values = record { windows = w; only = o; between = m; noted = n; kept = k; onward = inl (refl, refl) }

  tabled_regions : {u : List ℕ} {b : Bool} → AfterPass f m b u → b ≡ false → TablesAfter f t₀ u₀ (Err Regions) t u
  tabled_regions p z = record { windows = w; only = o; between = m; noted = n; kept = k; onward = inr (inl (refl, rw z at p)) }

  pub tabled_all : {v : Result Unit Refusal} {u : List ℕ} {b : Bool} → AfterPass f m b u → b ≡ true → TablesAfter f t₀ u₀ v t u
  tabled_all p y = record { windows = w; only = o; between = m; noted = n; kept = k; onward = inr (inr (rw y at p)) }

  pub tabled_middle : {v : Result Unit Refusal} {u : List ℕ} → v ≡ lowest (region_stages f) → AfterPass f m (regions_ok (program f)) u → TablesAfter f t₀ u₀ v t u
  tabled_middle e p = elim (regions_told f e) [ inl y ↦ tabled_all p y | inr z ↦ rw z.1 (tabled_regions p z.0) ]
