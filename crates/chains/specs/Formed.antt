-- The premise that every walk over the records carries: the file passes numbers 1 and 2. What stands at a record then, which records may
-- start a chain, and the measure that falls along every reference.
--
-- How to use it:
--   `requires` Formed file.now and Stands file.now variables start;
--   a loop's invariant: Stands file variables i, and "what is done so far and the rest from i make the whole" over `variables_at file i`; where a
--   count must fit, also n + ahead file i < max_records (`ahead_below`); in a cycle of calls also ahead file i ≤ ahead file start;
--   the measure: `ahead file i`; of a cycle 3 * ahead + 2 for goals and arms, 3 * ahead + 1 for the goal at record i, 3 * ahead for a switch or an if;
--   a turn over words: `goal_here`, `switch_here`, `to_arms`, `arm_here` and their like (module Shapes), `chain_next` for word 1 (module Is);
--   over a decoded record: `variable_at_law` and its like (modules Declared, Goals, Parts) give the view, the Stands of each reference and that the
--   measure falls, and `variable_is` and its like (module Is) say that the `else` is never met;
--   the end, i ≡ 0: `variables_none` and its like, below; along the procedures: module Turns.
use Rattle.std.specs.Prelude.{ℕ, zero, suc, ◌-◌, ◌*◌, ◌≤◌, ◌<◌, ◌≡◌, refl, List, [], true, ◌⊎◌, length, Result, Ok}
use Rattle.std.proofs.Common.{arith, sym, ◌∙◌, inl, inr}
use Rattle.std.proofs.Math.Decide.{dec_lt}
use Rattle.language.specs.declared.Refusal.{Refusal}
use Rattle.language.specs.Format.{kind_word, header_procedures, header_types, record_bytes, max_records}
use Rattle.language.specs.File.{Chain, types, procedures, row, kind_of, word, record_count, header_ok, form_ok}
use Rattle.language.specs.Program.{Functor, Variable, Edge, Region, print, Goals, done, ◌then◌, Goal, step, Arms, no_arms, Procedure}
use Rattle.language.specs.Answers.{program}
use Rattle.records.specs.Words.{word_past}
use Rattle.records.specs.Verdicts.{form_verdict, form_in}
use Rattle.layout.specs.Passing.{Starts, Leads}
use Rattle.layout.specs.Files.{file_length, count_range, types_lead, procedures_lead}
use Rattle.layout.specs.Steps

-- numbers 1 and 2
pub record Formed (f : List ℕ) : Type 0 where
  pub header : header_ok f ≡ true
  pub form : form_ok (word f) (record_count f) ≡ true

-- `check_form` accepted the file
pub formed : {f : List ℕ} {r : Result Unit Refusal} → r ≡ form_verdict f → r ≡ Ok tt → Formed f
formed {f} e a = let h = form_in f (sym e ∙ a) in record { header = h.0; form = h.1 }

pub record Counted (f : List ℕ) : Type 0 where
  pub some : 0 < record_count f
  pub most : record_count f ≤ max_records
  pub bytes : length f ≡ record_bytes * record_count f

pub counted : {f : List ℕ} → Formed f → Counted f
counted {f} F =
    let r = count_range f F.header F.form in
    record { some = r.0; most = r.1; bytes = file_length f F.header F.form }

-- a word that is not 0 is one of a record that the file has
pub word_within : {f : List ℕ} → Formed f → (i k : ℕ) → 0 < word f i k → i < record_count f
word_within {f} F i k p =
    let n = counted F in
    elim (dec_lt i (record_count f)) [ yes q ↦ q | no q ↦ absurd (omega (arith, word_past f i k (omega arith))) ]

-- ---- what stands in the chain at record i
module _ (f : List ℕ) (i : ℕ) where
  unfoldable pub goals_at : Goals
  goals_at = Steps.goals_at (word f) (record_count f) i

  unfoldable pub arms_at : Arms
  arms_at = Steps.arms_at (word f) (record_count f) i

  unfoldable pub arguments_at : List ℕ
  arguments_at = Steps.arguments_at (word f) (record_count f) i

  unfoldable pub functors_at : List Functor
  functors_at = Steps.functors_at (word f) (record_count f) i

  unfoldable pub types_at : List (List Functor)
  types_at = Steps.types_at (word f) (record_count f) i

  unfoldable pub variables_at : List Variable
  variables_at = Steps.variables_at (word f) (record_count f) i

  unfoldable pub edges_at : List Edge
  edges_at = Steps.edges_at (word f) (record_count f) i

  unfoldable pub regions_at : List Region
  regions_at = Steps.regions_at (word f) (record_count f) i

  unfoldable pub procedures_at : List Procedure
  procedures_at = Steps.procedures_at (word f) (record_count f) i

-- the goal at record i, which stands in a chain of goals
unfoldable pub first_goal : Goals → Goal
first_goal done = step (print 0)
first_goal (g then gs) = g

unfoldable pub goal_at : List ℕ → ℕ → Goal
goal_at f i = first_goal (goals_at f i)

-- ---- "zero ends a chain"
module _ (f : List ℕ) {i : ℕ} (z : i ≡ 0) where
  pub goals_none : goals_at f i ≡ done
  unfolding goals_at
  goals_none = rw z (Steps.goals_end (word f) (record_count f))

  pub arms_none : arms_at f i ≡ no_arms
  unfolding arms_at
  arms_none = rw z (Steps.arms_end (word f) (record_count f))

  pub arguments_none : arguments_at f i ≡ []
  unfolding arguments_at
  arguments_none = rw z (Steps.arguments_end (word f) (record_count f))

  pub functors_none : functors_at f i ≡ []
  unfolding functors_at
  functors_none = rw z (Steps.functors_end (word f) (record_count f))

  pub types_none : types_at f i ≡ []
  unfolding types_at
  types_none = rw z (Steps.types_end (word f) (record_count f))

  pub variables_none : variables_at f i ≡ []
  unfolding variables_at
  variables_none = rw z (Steps.variables_end (word f) (record_count f))

  pub edges_none : edges_at f i ≡ []
  unfolding edges_at
  edges_none = rw z (Steps.edges_end (word f) (record_count f))

  pub regions_none : regions_at f i ≡ []
  unfolding regions_at
  regions_none = rw z (Steps.regions_end_law (word f) (record_count f))

  pub procedures_none : procedures_at f i ≡ []
  unfolding procedures_at
  procedures_none = rw z (Steps.procedures_end (word f) (record_count f))

-- ---- record i may start a chain of the sort c: it is 0, the end, or a record that stands in such a chain
pub record Stands (f : List ℕ) (c : Chain) (i : ℕ) : Type 0 where
  pub below : i < record_count f
  pub sort : (i ≡ 0) ⊎ ((row (kind_of (word f i kind_word))).chain ≡ c)

pub stands_none : {f : List ℕ} {c : Chain} {i : ℕ} → Formed f → i ≡ 0 → Stands f c i
stands_none F z = let n = counted F in record { below = omega arith; sort = inl z }

pub stands_starts : {f : List ℕ} {c : Chain} {i : ℕ} → Stands f c i → Starts (word f) (record_count f) c i
stands_starts s = elim s.sort [ inl z ↦ inl z | inr k ↦ inr (s.below, k) ]

pub leads_stands : {f : List ℕ} {c : Chain} {i w : ℕ} → Formed f → Leads (word f) (record_count f) i c w → Stands f c w
leads_stands F (inl z) = stands_none F z
leads_stands F (inr z) = record { below = z.1; sort = inr z.2 }

-- ---- the measure of a walk: the records still ahead, none at the end of a chain. It stays shut, an unknown to `omega`
pub ahead : List ℕ → ℕ → ℕ
ahead f zero = 0
ahead f (suc i) = record_count f - suc i

pub ahead_none : (f : List ℕ) {i : ℕ} → i ≡ 0 → ahead f i ≡ 0
unfolding ahead
ahead_none f z = rw z

pub ahead_some : (f : List ℕ) (i : ℕ) → 0 < i → ahead f i ≡ record_count f - i
unfolding ahead
ahead_some f zero p = absurd (omega arith)
ahead_some f (suc i) p = refl

pub ahead_below : {f : List ℕ} → Formed f → (i : ℕ) → ahead f i < max_records
unfolding ahead
ahead_below F zero = omega arith
ahead_below F (suc i) = let n = counted F in omega arith

-- ---- record i refers to a chain of the sort c at record w: the chain may start there, and less is ahead there
pub record Onward (f : List ℕ) (c : Chain) (i w : ℕ) : Type 0 where
  pub stands : Stands f c w
  pub falls : ahead f w < ahead f i
  pub order : (w ≡ 0) ⊎ (i < w)

leads_falls : (f : List ℕ) (c : Chain) (i w : ℕ) → 0 < i → i < record_count f → Leads (word f) (record_count f) i c w
    → (ahead f w < ahead f i) × ((w ≡ 0) ⊎ (i < w))
leads_falls f c i w p q (inl z) = (omega (arith, ahead_none f z, ahead_some f i p), inl z)
leads_falls f c i w p q (inr z) = (omega (arith, ahead_some f w (omega arith), ahead_some f i p), inr z.0)

pub leads_onward : {f : List ℕ} {c : Chain} {i w : ℕ} → Formed f → 0 < i → i < record_count f → Leads (word f) (record_count f) i c w → Onward f c i w
leads_onward {f} {c} {i} {w} F p q l = let d = leads_falls f c i w p q l in record { stands = leads_stands F l; falls = d.0; order = d.1 }

-- ---- the program, and where its two chains start
module _ {f : List ℕ} (F : Formed f) where
  pub types_stand : Stands f types (word f 0 header_types)
  types_stand = leads_stands {i = 0} F (types_lead f F.header F.form)

  pub procedures_stand : Stands f procedures (word f 0 header_procedures)
  procedures_stand = leads_stands {i = 0} F (procedures_lead f F.header F.form)

  pub program_types : (program f).types ≡ types_at f (word f 0 header_types)
  unfolding types_at
  program_types = Steps.program_types f F.header F.form

  pub program_procedures : (program f).procedures ≡ procedures_at f (word f 0 header_procedures)
  unfolding procedures_at
  program_procedures = Steps.program_procedures f F.header F.form
