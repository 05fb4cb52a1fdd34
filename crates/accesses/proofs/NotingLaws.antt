-- One record's row, and the invariant of filling them record by record.
use Prim.Native.Nat.{ℕ, ◌+◌, ◌≤◌, ◌<◌}
use native.Mathlib.Omega.{arith}
use native.Mathlib.Decide.{ℕ_discrete}
use mathlib.Core.Bool.{true, false}
use mathlib.Core.List.{List}
use mathlib.Core.Logic.{◌⊎◌, inl, inr}
use mathlib.Core.Path.{◌≡◌, refl, sym, ap, ◌∙◌}
use lib.ListN.{length}
use Rattle.sets.specs.Tests.{clash}
use Rattle.language.specs.Format.{max_records, arm_kind, kind_word, next_word}
use Rattle.language.specs.File.{k_arm, word, record_count}
use Rattle.language.specs.Program.{Step, ◌then◌, step}
use Rattle.chains.specs.Layout.{all_rows}
use Rattle.chains.specs.Formed.{Formed, counted, goals_at}
use Rattle.chains.specs.Is.{goals_step}
use Rattle.tables.specs.TablePlaces.{row_words, row_place, row_size}
use Rattle.tables.specs.Rows.{put_access, Still, StillAt, row_same, access_length, access_word, access_still, access_reads, access_gives, access_mark}
use Rattle.tables.specs.Filled.{GoalIsStep}
use Rattle.tables.specs.declared.Access.{Access}
use Rattle.accesses.specs.Gathering.{Gathers}
use Rattle.accesses.specs.Fitting.{AccessFits}
use Rattle.walks.specs.Steps.{is_step, step_kind, arm_kind_law, arm_some}
use Rattle.chains.specs.Shapes.{kind_number}
use Rattle.accesses.specs.Noting.{AllNoted, Beside, RowHas, RowListed, RowOf, RowsKept}

-- a record of the file has a row
pub has_row : (f : List ℕ) → Formed f → record_count f ≤ max_records
has_row f F = (counted F).most

-- the code has found a step
pub found_step : (f : List ℕ) (i k : ℕ) {w : ℕ} → w ≡ word f i kind_word → w ≡ k → is_step k ≡ true → is_step (word f i kind_word) ≡ true
found_step f i k e g s = ap is_step (sym e ∙ g) ∙ s

step_front : {f : List ℕ} {i : ℕ} {g : Step} → Formed f → GoalIsStep f i g → goals_at f i ≡ step g then goals_at f (word f i next_word)
step_front F s = rw (sym s.view) (goals_step F s.stands s.some refl)

-- a row whose words are the same has the same
module _ (t u : List ℕ) (j : ℕ) (e : Still t u j) where
  row_stays : {ys xs : List ℕ} → RowHas t j ys xs → RowHas u j ys xs
  row_stays h = let s = row_same t u j e in record { read = s.reads ∙ h.read; given = s.gives ∙ h.given; none_twice = s.mark ∙ h.none_twice }

  row_of_stays : {f : List ℕ} → RowOf f j t → RowOf f j u
  row_of_stays h = record { step = λ g s. row_stays (h.step g s); arm = λ s z. row_stays (h.arm s z) }

-- ---- one record's row
-- what was gathered, put
module _ {f : List ℕ} (t : List ℕ) {i : ℕ} {a : Access} (F : Formed f) (n : row_words ≤ length t) (h : i < record_count f) (fit : AccessFits f i a) where
  put_has : {ys xs : List ℕ} → Gathers a ys xs → RowHas (put_access t i a) i ys xs
  put_has g =
      let l : i < max_records = (let c = counted F in omega arith) in
      record {
        read = access_reads t i a l n ∙ g.read;
        given = access_gives t i a l n ∙ g.given;
        none_twice = access_mark t i a l n ∙ g.none_twice;
      }

  pub listed_put : {u : List ℕ} → u ≡ put_access t i a → (is_step (word f i kind_word) ≡ true) ⊎ (word f i kind_word ≡ arm_kind) → RowListed f i t u
  listed_put {u} e k =
      record {
        row =
            rw e
            (record {
              step = λ g s. put_has (fit.step s.stands s.some g _ (step_front F s)).gathered;
              arm = λ s z. put_has (fit.arm s z);
            });
        kept = rw e (record { length = access_length t i a; words = beside });
        others = rw e (access_still t i a);
      }
    where
      filled : {A : Type 0} (j : ℕ) → i ≡ j → (is_step (word f j kind_word) ≡ false) × (word f j kind_word ≡ arm_kind → ⊥) → A
      filled j q b = let c = rw (sym q) at b in elim k [ inl s ↦ absurd (clash s c.0) | inr s ↦ absurd (c.1 s) ]

      beside : (j k : ℕ) → k < row_size → Beside f j k → StillAt t (put_access t i a) j k
      beside j k l (inl d) = access_word t i a (row_place j k) (λ q. omega arith) (λ q. omega arith) (λ q. omega arith)
      beside j k l (inr d) = elim (ℕ_discrete i j) [ yes q ↦ filled j q d | no q ↦ access_still t i a j (λ r. q (sym r)) k l ]

-- nothing to put
pub listed_none : {f t : List ℕ} {i : ℕ} → Formed f → is_step (word f i kind_word) ≡ false → (word f i kind_word ≡ arm_kind → ⊥) → RowListed f i t t
unfolding all_rows
listed_none {f} {t} {i} F p q =
    record {
      row =
          record {
            step = λ g s. absurd (clash (step_kind i F g s) p);
            arm = λ s z. absurd (q (kind_number (word f i kind_word) k_arm (arm_kind_law f i s z) arm_some));
          };
      kept = record { length = refl; words = λ j k l b. refl };
      others = λ j d k l. refl;
    }

-- ---- record by record
pub record Noting (f t : List ℕ) (i : ℕ) (u : List ℕ) : Type 0 where
  pub rows : (j : ℕ) → 0 < j → j < i → RowOf f j u
  pub kept : RowsKept f t u

pub noting_first : (f t : List ℕ) → Noting f t 1 t
noting_first f t = record { rows = λ j p q. absurd (omega arith); kept = record { length = refl; words = λ j k l b. refl } }

pub noting_next : {f t u v : List ℕ} {i : ℕ} → Noting f t i u → RowListed f i u v → Noting f t (i + 1) v
noting_next {f} {t} {u} {v} {i} h r =
    record {
      rows = λ j p q. elim (ℕ_discrete i j) [
        | yes e ↦ rw (sym e) r.row
        | no e ↦ row_of_stays u v j (r.others j (λ d. e (sym d))) (h.rows j p (omega arith))
      ];
      kept = record { length = r.kept.length ∙ h.kept.length; words = λ j k l b. r.kept.words j k l b ∙ h.kept.words j k l b };
    }

-- all records are done: a step or an arm is one of them
pub noting_last : {f t u : List ℕ} {i : ℕ} → Noting f t i u → record_count f ≤ i → AllNoted f u
noting_last {f} {t} {u} {i} h l =
    record {
      at = λ j.
          record {
            step = λ g s. (h.rows j (omega (arith, s.some)) (omega (arith, s.stands.below))).step g s;
            arm = λ s z. (h.rows j (omega arith) (omega (arith, s.below))).arm s z;
          };
    }
