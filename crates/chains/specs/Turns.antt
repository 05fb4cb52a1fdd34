-- The procedures in turn: a loop along the chain of procedures, the procedure at record i being number q, and a test of all of them.
-- `turn_first` at the start; in a turn `turn_below` and `turn_procedure` say which procedure it is; `turn_next` goes on. Of a test, likewise
-- `tests_first`, `tests_next`, with `tests_stop` where one fails and `tests_last` at the end.
use Rattle.std.specs.Prelude.{ℕ, ◌+◌, ◌<◌, Bool, true, false, List, ◌≡◌, length, drop}
use Rattle.std.proofs.Common.{arith, sym, ap, ◌∙◌, length-drop}
use Rattle.language.specs.Format.{header_procedures}
use Rattle.language.specs.File.{procedures, word}
use Rattle.language.specs.Lists.{all}
use Rattle.language.specs.Program.{Procedure, procedure_at}
use Rattle.language.specs.Answers.{program}
use Rattle.laws.specs.Lists.{all_end, all_no, all_yes, drop_more, drop_nth}
use Rattle.layout.specs.Steps.{procedure_of}
use Rattle.chains.specs.Formed.{Formed, Stands, variables_at, regions_at, goals_at, procedures_at, procedures_none, procedures_stand, program_procedures}
use Rattle.chains.specs.Declared.{ProcedureAt}

-- the procedures from record i on are those from number q on
pub record Turn (f : List ℕ) (i q : ℕ) : Type 0 where
  pub stands : Stands f procedures i
  pub rest : drop q (program f).procedures ≡ procedures_at f i

pub turn_first : {f : List ℕ} {i : ℕ} → Formed f → i ≡ word f 0 header_procedures → Turn f i 0
turn_first F e = rw e (record { stands = procedures_stand F; rest = program_procedures F })

module _ {f : List ℕ} {i q next v r g : ℕ} (h : Turn f i q) (a : ProcedureAt f i next v r g) where
  pub turn_below : q < length (program f).procedures
  turn_below = let k = ap length (h.rest ∙ a.view) in omega (arith, length-drop q (program f).procedures)

  pub turn_procedure : procedure_at (program f) q ≡ procedure_of (variables_at f v) (regions_at f r) (goals_at f g)
  unfolding procedure_at
  turn_procedure = drop_nth _ (program f).procedures q (h.rest ∙ a.view)

  pub turn_next : Turn f next (q + 1)
  turn_next = record { stands = a.to_next.stands; rest = drop_more (program f).procedures q (h.rest ∙ a.view) }

-- at the end every number is below q
pub turn_last : {f : List ℕ} {i q : ℕ} → Turn f i q → i ≡ 0 → (p : ℕ) → p < length (program f).procedures → p < q
turn_last {f} {i} {q} h z p l = let k = ap length (h.rest ∙ procedures_none f z) in omega (arith, length-drop q (program f).procedures)

-- ---- a test of all procedures: those from record i on decide
pub record Tests (f : List ℕ) (t : Procedure → Bool) (i q : ℕ) : Type 0 where
  pub turn : Turn f i q
  pub same : all t (procedures_at f i) ≡ all t (program f).procedures

module _ {f : List ℕ} (t : Procedure → Bool) where
  pub tests_first : {i : ℕ} → Formed f → i ≡ word f 0 header_procedures → Tests f t i 0
  tests_first F e = let h = turn_first F e in record { turn = h; same = ap (all t) (sym h.rest) }

  pub tests_last : {i q : ℕ} → Tests f t i q → i ≡ 0 → true ≡ all t (program f).procedures
  tests_last h z = all_end t (procedures_none f z) ∙ h.same

  module _ {i q next v r g : ℕ} (h : Tests f t i q) (a : ProcedureAt f i next v r g) {b : Bool} (m : b ≡ t (procedure_at (program f) q)) where
    here : b ≡ t (procedure_of (variables_at f v) (regions_at f r) (goals_at f g))
    here = m ∙ ap t (turn_procedure h.turn a)

    pub tests_stop : b ≡ false → false ≡ all t (program f).procedures
    tests_stop z = all_no t a.view here z ∙ h.same

    pub tests_next : b ≡ true → Tests f t next (q + 1)
    tests_next z = record { turn = turn_next h.turn a; same = all_yes t a.view here z ∙ h.same }
