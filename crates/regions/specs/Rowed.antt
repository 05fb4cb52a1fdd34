-- The pass over the records: what it leaves in the rows, and the loop.
use Rattle.std.specs.Prelude.{ℕ, ◌≤◌, ◌<◌, Bool, true, false, List, ◌≢◌, ◌⊎◌, ◌≡◌, length}
use Rattle.std.proofs.Common.{arith, inl, inr, sym, ◌∙◌}
use Rattle.std.proofs.lemmas.Bool.{false≢true}
use Rattle.language.specs.File.{record_count}
use Rattle.language.specs.Program.{Step}
use Rattle.chains.specs.Shapes.{IsCall}
use Rattle.owners.specs.Owner.{owner_of}
use Rattle.owners.specs.Everywhere.{record_test}
use Rattle.tables.specs.Rows.{reads_in, gives_in, effect_in, Still, StillAt, word_same}
use Rattle.tables.specs.Filled.{GoalIsStep, Accessed, Effected}
use Rattle.tables.specs.TablePlaces.{gives_place, needs_place, reads_place, row_size}
use Rattle.regions.specs.Single.{agrees}
use Rattle.regions.specs.Effects.{SomeStep, NoStep, EffectAt}

-- ---- what stands in the rows u, where t stood
-- row i has the effect of the step at record i, or is as it was: where no step stands there, and where the answer is false
abbrev pub RowDone : List ℕ → ℕ → List ℕ → Bool → List ℕ → Type 0
RowDone f i t b u = EffectAt f i (effect_in u i) ⊎ (((b ≡ false) ⊎ NoStep f i) × Still t u i)

-- word k of row i is no effect's of a record of the file, but what its goal reads or gives, or behind the last record
abbrev pub Apart : List ℕ → ℕ → ℕ → Type 0
Apart f i k = (k < needs_place) ⊎ ((i ≡ 0) ⊎ (record_count f ≤ i))

-- after record i
pub record Rowed (f : List ℕ) (i : ℕ) (t : List ℕ) (b : Bool) (u : List ℕ) : Type 0 where
  pub size : length u ≡ length t
  pub access : (k : ℕ) → k < needs_place → StillAt t u i k
  pub others : (j : ℕ) → j ≢ i → Still t u j
  pub row : RowDone f i t b u

-- after the pass
pub record AfterPass (f t : List ℕ) (b : Bool) (u : List ℕ) : Type 0 where
  pub size : length u ≡ length t
  pub apart : (i k : ℕ) → k < row_size → Apart f i k → StillAt t u i k
  pub rows : (i : ℕ) → 0 < i → i < record_count f → RowDone f i t b u

-- ---- what follows for those that read the rows
-- what goals read and give is as it was
pub passed_accessed : {f t u : List ℕ} {b : Bool} → AfterPass f t b u → Accessed f t → Accessed f u
unfolding reads_in gives_in
passed_accessed {f} {t} {u} p a =
    let gives : (i : ℕ) → gives_in u i ≡ gives_in t i = λ i. word_same t u i gives_place (p.apart i gives_place (omega arith) (inl (omega arith))) in
    record {
      reads = λ i g s. word_same t u i reads_place (p.apart i reads_place (omega arith) (inl (omega arith))) ∙ a.reads i g s;
      gives = λ i g s. gives i ∙ a.gives i g s;
      arm_gives = λ i s z. gives i ∙ a.arm_gives i s z;
    }

pub row_step : {f : List ℕ} (t u : List ℕ) {b : Bool} (i : ℕ) → b ≡ true → SomeStep f i → RowDone f i t b u → EffectAt f i (effect_in u i)
row_step t u i y o (inl e) = e
row_step t u i y o (inr (inl z, d)) = absurd (false≢true (sym z ∙ y))
row_step t u i y o (inr (inr n, d)) = absurd (n o.0 o.1)

-- every step has its effect, where the pass answers true
pub passed_effected : {f t u : List ℕ} {b : Bool} → AfterPass f t b u → b ≡ true → Effected f (owner_of f) u
unfolding effect_in
passed_effected {f} {t} {u} {b} p y =
    let at : (j : ℕ) (g : Step) → GoalIsStep f j g → EffectAt f j (effect_in u j) =
    λ j g s. row_step t u j y (g, s) (p.rows j (omega (arith, s.some)) s.stands.below) in
    record {
      needs = λ j g s. ((at j g s).made g s).needs;
      bears = λ j g s. ((at j g s).made g s).bears;
      ends = λ j g s. ((at j g s).made g s).ends;
      unshared = λ j g s. ((at j g s).made g s).unshared;
    }

-- ---- what the pass knows of the record j, which was its last call, or 0
pub record Before (f t : List ℕ) (j : ℕ) : Type 0 where
  pub below : j < record_count f
  pub made : IsCall f j → EffectAt f j (effect_in t j)
  pub agrees : IsCall f j → true ≡ record_test (agrees f) f j
