-- The rows once they are filled: what each has of its record, and what stands beside it.
use Rattle.std.specs.Prelude.{ℕ, ◌≤◌, ◌<◌, false, List, [], ◌⊎◌, ◌≡◌, length}
use Rattle.sets.specs.Members.{set_of}
use Rattle.language.specs.Format.{arm_kind, kind_word}
use Rattle.language.specs.File.{arms, word}
use Rattle.language.specs.Program.{Step}
use Rattle.language.specs.Values.{access, reads, gives}
use Rattle.language.specs.Answers.{program}
use Rattle.chains.specs.Formed.{Stands}
use Rattle.tables.specs.Rows.{reads_in, gives_in, mark_in, Still, StillAt}
use Rattle.tables.specs.Filled.{GoalIsStep, Accessed}
use Rattle.accesses.specs.Ranged.{fresh}
use Rattle.accesses.specs.Fitting.{arm_arguments}
use Rattle.walks.specs.Steps.{is_step}
use Rattle.tables.specs.TablePlaces.{mark_place, needs_place, row_size}

-- the row of record i says that ys are read and xs are given
pub record RowHas (rows : List ℕ) (i : ℕ) (ys xs : List ℕ) : Type 0 where
  pub read : reads_in rows i ≡ set_of ys
  pub given : gives_in rows i ≡ set_of xs
  pub none_twice : mark_in rows i ≡ fresh xs

-- .. as the step or arm there does
pub record RowOf (f : List ℕ) (i : ℕ) (rows : List ℕ) : Type 0 where
  pub step : (g : Step) → GoalIsStep f i g → RowHas rows i (access (program f) g).read (access (program f) g).given
  pub arm : Stands f arms i → (i ≡ 0 → ⊥) → RowHas rows i [] (arm_arguments f i)

-- .. and so for every step and every arm
pub record AllNoted (f rows : List ℕ) : Type 0 where
  pub at : (i : ℕ) → RowOf f i rows

-- word k of row i is none of those that are filled: what a step or an arm reads and gives, and its mark
abbrev pub Beside : List ℕ → ℕ → ℕ → Type 0
Beside f i k = ((needs_place ≤ k) × (k < mark_place)) ⊎ ((is_step (word f i kind_word) ≡ false) × (word f i kind_word ≡ arm_kind → ⊥))

-- and stays as it was
pub record RowsKept (f t u : List ℕ) : Type 0 where
  pub length : length u ≡ length t
  pub words : (i k : ℕ) → k < row_size → Beside f i k → StillAt t u i k

pub record RowListed (f : List ℕ) (i : ℕ) (t u : List ℕ) : Type 0 where
  pub row : RowOf f i u
  pub kept : RowsKept f t u
  pub others : (j : ℕ) → (j ≡ i → ⊥) → Still t u j

pub noted_accessed : {f rows : List ℕ} → AllNoted f rows → Accessed f rows
unfolding reads gives arm_arguments
noted_accessed h =
    record {
      reads = λ i g s. ((h.at i).step g s).read;
      gives = λ i g s. ((h.at i).step g s).given;
      arm_gives = λ i s z. ((h.at i).arm s z).given;
    }
