-- A file passes a list of stages exactly if it passes each test, and is refused with the last one's number exactly if it passes all but that;
-- the stages of every program by name, and number 17 behind them.
use Rattle.std.specs.Prelude.{ℕ, Bool, true, false, List, [], ◌∷◌, ◌++◌, ◌≡◌, refl, Result, Ok, Err}
use Rattle.std.proofs.lemmas.Bool.{false≢true}
use Rattle.std.proofs.Common.{sym, ap}
use Rattle.language.specs.declared.Refusal.{Refusal}
use Rattle.language.specs.declared.Refusal.TheVariants.{Unreached}
use Rattle.language.specs.File.{word, record_count, header_ok, form_ok}
use Rattle.language.specs.Conditions.{conditions_ok}
use Rattle.language.specs.Typing.{typing_ok}
use Rattle.language.specs.Values.{values_ok}
use Rattle.language.specs.Regions.{regions_ok}
use Rattle.language.specs.CallChains.{reached_ok}
use Rattle.language.specs.Answers.{Stage, stage, lowest, program, file_stages, reached_stages, AnnotatorAnswer, refuses, writes, writes_unless}

-- every test of the stages is passed
abbrev pub Passed : List Stage → Type 0
Passed [] = Unit {0}
Passed (stage r b ∷ ss) = (b ≡ true) × Passed ss

pub lowest_passed : (ss : List Stage) → lowest ss ≡ Ok tt → Passed ss
unfolding lowest
lowest_passed [] e = tt
lowest_passed (stage r true ∷ ss) e = (refl, lowest_passed ss e)
lowest_passed (stage r false ∷ ss) e = absurd cc

pub passed_lowest : (ss : List Stage) → Passed ss → lowest ss ≡ Ok tt
unfolding lowest
passed_lowest [] p = refl
passed_lowest (stage r true ∷ ss) p = passed_lowest ss p.1
passed_lowest (stage r false ∷ ss) p = absurd (false≢true p.0)

-- ---- one stage among others: it is passed, and then the others decide
pub middle_passed : (ss ts : List Stage) (r : Refusal) (b : Bool) → lowest (ss ++ (stage r b ∷ ts)) ≡ Ok tt → b ≡ true
unfolding lowest
middle_passed [] ts r true e = refl
middle_passed [] ts r false e = absurd cc
middle_passed (stage q true ∷ ss) ts r b e = middle_passed ss ts r b e
middle_passed (stage q false ∷ ss) ts r b e = absurd cc

pub lowest_without : (ss ts : List Stage) (r : Refusal) {b : Bool} → b ≡ true → lowest (ss ++ (stage r b ∷ ts)) ≡ lowest (ss ++ ts)
unfolding lowest
lowest_without [] ts r e = rw e refl
lowest_without (stage q true ∷ ss) ts r e = lowest_without ss ts r e
lowest_without (stage q false ∷ ss) ts r e = refl

-- ---- refused with the number of the last stage, which no other has
abbrev pub Others : Refusal → List Stage → Type 0
Others q [] = Unit {0}
Others q (stage r b ∷ ss) = (r ≡ q → ⊥) × Others q ss

pub refused_last : (q : Refusal) (b : Bool) (ss : List Stage) → Others q ss → lowest (ss ++ (stage q b ∷ [])) ≡ Err q → Passed ss × (b ≡ false)
unfolding lowest
refused_last q true [] o e = absurd cc
refused_last q false [] o e = (tt, refl)
refused_last q b (stage r true ∷ ss) o e = let p = refused_last q b ss o.1 e in ((refl, p.0), p.1)
refused_last q b (stage r false ∷ ss) o e = absurd (o.0 cc)

pub last_refused : (q : Refusal) (b : Bool) (ss : List Stage) → Passed ss → b ≡ false → lowest (ss ++ (stage q b ∷ [])) ≡ Err q
unfolding lowest
last_refused q b [] p e = rw e
last_refused q b (stage r true ∷ ss) p e = last_refused q b ss p.1 e
last_refused q b (stage r false ∷ ss) p e = absurd (false≢true p.0)

-- ---- numbers 1 to 5
pub record Read (f : List ℕ) : Type 0 where
  pub header : header_ok f ≡ true
  pub form : form_ok (word f) (record_count f) ≡ true
  pub conditions : conditions_ok (program f) ≡ true
  pub typing : typing_ok (program f) ≡ true
  pub values : values_ok (program f) ≡ true
  pub regions : regions_ok (program f) ≡ true

pub passed_read : (f : List ℕ) (ss : List Stage) → Passed (file_stages f ++ ss) → Read f × Passed ss
unfolding file_stages
passed_read f ss p = (
  record {
    header = p.0;
    form = p.1.0;
    conditions = p.1.1.0;
    typing = p.1.1.1.0;
    values = p.1.1.1.1.0;
    regions = p.1.1.1.1.1.0;
  },
  p.1.1.1.1.1.1,
)

pub read_passed : (f : List ℕ) (ss : List Stage) → Read f → Passed ss → Passed (file_stages f ++ ss)
unfolding file_stages
read_passed f ss r p = (r.header, (r.form, (r.conditions, (r.typing, (r.values, (r.regions, p))))))

-- ---- and 17
pub reached_stages_law : (f : List ℕ) (ss : List Stage) → reached_stages f ++ ss ≡ file_stages f ++ (stage Unreached (reached_ok (program f)) ∷ ss)
unfolding reached_stages file_stages
reached_stages_law f ss = refl

pub passed_reached : (f : List ℕ) (ss : List Stage) → Passed (reached_stages f ++ ss) → Read f × (reached_ok (program f) ≡ true) × Passed ss
passed_reached f ss p = let r = passed_read f (stage Unreached (reached_ok (program f)) ∷ ss) (rw (reached_stages_law f ss) at p) in (r.0, r.1.0, r.1.1)

pub reached_passed : (f : List ℕ) (ss : List Stage) → Read f → reached_ok (program f) ≡ true → Passed ss → Passed (reached_stages f ++ ss)
reached_passed f ss r e p = rw (reached_stages_law f ss) (read_passed f (stage Unreached (reached_ok (program f)) ∷ ss) r (e, p))

-- ---- where the annotator writes bytes, every stage has been passed
unfoldable bytes_in : AnnotatorAnswer → List ℕ
bytes_in (refuses r) = []
bytes_in (writes g) = g

pub writes_passed : (v : Result Unit Refusal) (h g : List ℕ) → writes_unless v h ≡ writes g → (v ≡ Ok tt) × (h ≡ g)
unfolding writes_unless bytes_in
writes_passed (Err r) h g e = absurd (no_answer e)
  where
    no_answer : refuses r ≡ writes g → ⊥
    no_answer z = false≢true cc
writes_passed (Ok _) h g e = (refl, ap bytes_in e)
