-- What the table of the procedure at hand has: its variables and its regions by number.
use Rattle.std.specs.Prelude.{ℕ, ◌≡◌, Bool, true, false, List, leb, ltb, length}
use Rattle.std.proofs.Common.{arith, lt-ltb, le-ltb, ◌∙◌}
use Rattle.std.proofs.Math.Decide.{dec_lt}
use Rattle.std.proofs.Math.Path.{refl, ap, sym}
use Rattle.sets.specs.Tests.{◌&◌}
use Rattle.language.specs.Format.{procedure_variables, procedure_regions, variable_type, max_variables, max_regions}
use Rattle.language.specs.Lists.{among, nth1}
use Rattle.language.specs.File.{variables, regions, word}
use Rattle.language.specs.Program.{Signature, type_of}
use Rattle.language.specs.Typing.{is_variable, is_region}
use Rattle.chains.specs.Layout.{real}
use Rattle.chains.specs.Fields.{field_some}
use Rattle.chains.specs.Formed.{Formed, Stands, variables_at, regions_at}
use Rattle.chains.specs.Records.{chain_records, records_some}
use Rattle.chains.specs.Elements.{variables_count, regions_count}
use Rattle.chains.specs.Reached.{stands_nth1, among_place, among_past}
use Rattle.chains.specs.Lookups.{variable_of}
use Rattle.declarations.specs.DeclaredPlaces.{variable_in, region_in}

pub record Own (f t : List ℕ) : Type 0 where
  pub variables_stand : Stands f variables (variable_in t 1)
  pub regions_stand : Stands f regions (region_in t 1)
  pub variables : (x : ℕ) → variable_in t x ≡ nth1 0 (chain_records f (variable_in t 1)) x
  pub regions : (r : ℕ) → region_in t r ≡ nth1 0 (chain_records f (region_in t 1)) r

-- the variables from record v on and the regions from record r on
unfoldable pub signature_from : List ℕ → ℕ → ℕ → Signature
signature_from f v r = record { variables = variables_at f v; regions = regions_at f r }

-- the procedure's signature: the first variable and the first region start its chains
unfoldable pub declared : List ℕ → List ℕ → Signature
declared f t = signature_from f (variable_in t 1) (region_in t 1)

-- of the procedure of record i
unfoldable pub signature_at : List ℕ → ℕ → Signature
signature_at f i = signature_from f (word f i procedure_variables) (word f i procedure_regions)

-- the table is of that procedure
abbrev pub OwnOf : List ℕ → List ℕ → ℕ → Type 0
OwnOf f t i = Own f t × (declared f t ≡ signature_at f i)

-- "64 variables and 64 regions a procedure"
unfoldable pub few_declared : Signature → Bool
few_declared S = leb (length S.variables) max_variables & leb (length S.regions) max_regions

-- there is a record numbered x, from 1, where the chain is that long
record_listed1 : (f : List ℕ) (i x : ℕ) {n : ℕ} → length (chain_records f i) ≡ n → ltb 0 (nth1 0 (chain_records f i) x) ≡ among n x
record_listed1 f i x {n} e =
    elim (dec_lt 0 (nth1 0 (chain_records f i) x)) [
      | yes l ↦ lt-ltb 0 (nth1 0 (chain_records f i) x) l ∙ sym (among_place (chain_records f i) n x e (λ z. omega arith))
      | no l ↦ le-ltb 0 (nth1 0 (chain_records f i) x) (omega arith) ∙ sym (among_past (chain_records f i) (records_some f i) n x e (omega arith))
    ]

module _ {f t : List ℕ} (F : Formed f) (O : Own f t) where
  pub variable_stands : (x : ℕ) → Stands f variables (variable_in t x)
  unfolding real
  variable_stands x = rw (O.variables x) (stands_nth1 F variables refl _ O.variables_stand x)

  pub variable_listed : (x : ℕ) → ltb 0 (variable_in t x) ≡ is_variable (declared f t) x
  unfolding is_variable declared signature_from
  variable_listed x = ap (ltb 0) (O.variables x) ∙ record_listed1 f (variable_in t 1) x (sym (variables_count F _ O.variables_stand))

  pub region_listed : (r : ℕ) → ltb 0 (region_in t r) ≡ is_region (declared f t) r
  unfolding is_region declared signature_from
  region_listed r = ap (ltb 0) (O.regions r) ∙ record_listed1 f (region_in t 1) r (sym (regions_count F _ O.regions_stand))

  module _ (x : ℕ) {v : ℕ} (e : v ≡ variable_in t x) where
    pub variable_none : v ≡ 0 → is_variable (declared f t) x ≡ false
    variable_none z = sym (variable_listed x) ∙ le-ltb 0 (variable_in t x) (omega arith)

    module _ (z : v ≡ 0 → ⊥) where
      pub variable_some : is_variable (declared f t) x ≡ true
      variable_some = sym (variable_listed x) ∙ lt-ltb 0 (variable_in t x) (omega arith)

      pub variable_type_law : type_of (declared f t) x ≡ word f v variable_type
      unfolding type_of declared signature_from
      variable_type_law = ap (λ u. u.type) (variable_of F (declared f t) O.variables_stand refl x (e ∙ O.variables x)) ∙ sym (field_some f v variable_type z)
