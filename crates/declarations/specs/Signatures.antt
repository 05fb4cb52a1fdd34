-- What a procedure declares: what the code tests by the two tables is what the definition says.
use Rattle.std.specs.Prelude.{ℕ, ◌≡◌, Bool, List}
use Rattle.sets.specs.Tests.{◌&◌}
use Rattle.laws.specs.Tests.{and_assoc}
use Rattle.language.specs.Format.{variable_mode, variable_type, variable_region, region_type, region_class, region_edges}
use Rattle.language.specs.Lists.{all}
use Rattle.language.specs.File.{word}
use Rattle.language.specs.Program.{Functor, Variable, Region, Signature}
use Rattle.language.specs.Answers.{program}
use Rattle.language.specs.Typing.{variable_ok, region_ok, signature_ok}
use Rattle.chains.specs.Formed.{edges_at, variables_at, regions_at}
use Rattle.declarations.specs.Own.{declared, few_declared}

unfoldable pub variable_at_record : List ℕ → ℕ → Variable
variable_at_record f i = record { mode = word f i variable_mode; type = word f i variable_type; region = word f i variable_region }

unfoldable pub region_at_record : List ℕ → ℕ → Region
region_at_record f i = record { type = word f i region_type; class = word f i region_class; edges = edges_at f (word f i region_edges) }

-- each variable and each region
unfoldable pub each_declared : List (List Functor) → Signature → Bool
each_declared T S = all (variable_ok T S) S.variables & all (region_ok T S) S.regions

-- ---- what the code tests, with what the procedure's table declares
module _ (f own : List ℕ) where
  abbrev pub VariableTested : ℕ → Bool → Type 0
  VariableTested i b = b ≡ variable_ok (program f).types (declared f own) (variable_at_record f i)

  abbrev pub VariablesTested : ℕ → Bool → Type 0
  VariablesTested i b = b ≡ all (variable_ok (program f).types (declared f own)) (variables_at f i)

  abbrev pub RegionTested : ℕ → Bool → Type 0
  RegionTested i b = b ≡ region_ok (program f).types (declared f own) (region_at_record f i)

  abbrev pub RegionsTested : ℕ → Bool → Type 0
  RegionsTested i b = b ≡ all (region_ok (program f).types (declared f own)) (regions_at f i)

-- ---- all of it
-- the definition's two parts
pub signature_parts : (T : List (List Functor)) (S : Signature) → (few_declared S & each_declared T S) ≡ signature_ok T S
unfolding few_declared each_declared signature_ok
signature_parts T S = and_assoc _ _ _
