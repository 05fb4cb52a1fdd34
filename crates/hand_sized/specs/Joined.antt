-- From what `annotate`, `check` and `run` promise, and what the definitions give for a file, to what the code answers.
use Rattle.std.specs.Prelude.{ℕ, ◌≡◌, refl, Result, Ok, Err}
use Rattle.std.proofs.Common.{arith, ◌∙◌, drop_of_length-le}
use mathlib.Core.List.{List, ◌++◌, append-nil}
use Rattle.std.proofs.Math.Path.{ap}
use Rattle.std.proofs.Math.ListN.{length}
use Rattle.language.specs.declared.Refusal.{Refusal}
use Rattle.language.specs.declared.Ending.{Ending}
use Rattle.language.specs.declared.Ending.TheVariants.{Refused as NotRun}
use Rattle.language.specs.Lists.{front_written}
use Rattle.language.specs.Machine.{Lent, Run, runner_lent, print_places}
use Rattle.language.specs.Answers.{AnnotatorAnswer, refuses, writes, annotated, annotator_bytes, annotator_memory, checked, ran}
use Rattle.language.specs.Table.{silent, AllRefuse}
use Rattle.annotation.specs.Answer.{told, Annotates}
use Rattle.word_machine.specs.Machine.{lent_words}
use Rattle.machine.specs.declared.Outcome.{Outcome}
use Rattle.machine.specs.Joining.{RanAs}
use Rattle.running.specs.Answer.{Free, Untouched, LentAfter}
use Rattle.hand_sized.specs.declared.Answers.{Answers}

-- ---- the annotator: f is the file g
module _ (f before : List ℕ) {after : List ℕ} {r : Result ℕ Refusal} {g : List ℕ} (h : Annotates (annotated f (length before)) before after r) (e : f ≡ g) where
  answered : {a : AnnotatorAnswer} (n : ℕ) → annotated g n ≡ a → length before ≡ n → Annotates a before after r
  answered n t l = rw (e, l, t) at h

  -- a file that fills the lent bytes
  pub filled : {x : List ℕ} (n : ℕ) → annotated g n ≡ writes x → length x ≡ n → length before ≡ n → (r ≡ Ok n) × (after ≡ x)
  unfolding told annotator_memory front_written
  filled {x} n t k l =
      let p : Annotates (writes x) before after r = answered n t l in
      (p.0 ∙ ap (λ m. Ok m) k, p.1 ∙ ap (λ s. x ++ s) (drop_of_length-le before {i = length x} (omega arith)) ∙ append-nil x)

  pub refused : {q : Refusal} (n : ℕ) → annotated g n ≡ refuses q → length before ≡ n → (r ≡ Err q) × (after ≡ before)
  unfolding told annotator_memory
  refused n t l = let p = answered n t l in (p.0, p.1)

-- ---- the runner
abbrev pub outcome : Ending → ℕ → ℕ → Outcome
outcome e n k = record { ending = e; steps = n; printed = k }

-- .. with nothing printed
abbrev pub quiet : Ending → ℕ → Outcome
quiet e n = outcome e n 0

same_outcome : {r : Outcome} {e : Ending} {n k : ℕ} → r.ending ≡ e → r.steps ≡ n → r.printed ≡ k → r ≡ outcome e n k
same_outcome {r} {e} {n} {k} p q s =
    ap (λ (x : Ending). outcome x r.steps r.printed) p ∙ ap (λ x. outcome e x r.printed) q ∙ ap (λ x. outcome e n x) s

pub lent_by : (m rs fw ps : List ℕ) (l : ℕ) {a b c d : ℕ} → length m ≡ a → length rs ≡ b → length fw ≡ c → length ps ≡ d
    → lent_words m rs fw ps l ≡ record { cell_words = a; region_words = b; frame_words = c; print_words = d; steps = l }
unfolding lent_words
lent_by m rs fw ps l p q s t = rw (p, q, s, t) refl

-- f is the file g
module _ {f m rs fw ps m' rs' fw' px : List ℕ} {l : ℕ} {r : Outcome} {g : List ℕ} (h : RanAs f m rs fw ps l r px) (K : LentAfter f m rs fw ps m' rs' fw' px) (e : f ≡ g) where
  as_ran : {R : Run} (L : Lent) → ran g L ≡ R → lent_words m rs fw ps l ≡ L → (r ≡ outcome R.ending R.steps (length R.printed)) × (px ≡ print_places R ps)
  as_ran {R} L t k =
      let u : ran f (lent_words m rs fw ps l) ≡ R = ap (λ x. ran x (lent_words m rs fw ps l)) e ∙ ap (λ x. ran g x) k ∙ t in (
        same_outcome (h.ending ∙ ap (λ x. x.ending) u) (h.steps ∙ ap (λ x. x.steps) u) (h.printed ∙ ap (λ x. length x.printed) u),
        h.places ∙ ap (λ x. print_places x ps) u,
      )

  -- a run
  pub printing : {R : Run} (L : Lent) → ran g L ≡ R → lent_words m rs fw ps l ≡ L
      → (r ≡ outcome R.ending R.steps (length R.printed)) × ((px ≡ print_places R ps) × Free m rs fw m' rs' fw')
  printing L t k = let a = as_ran L t k in (a.0, (a.1, K.free))

  -- a refusal
  pub not_run : {q : Refusal} (L : Lent) → ran g L ≡ silent (NotRun q) 0 → checked g ≡ Err q → lent_words m rs fw ps l ≡ L
      → (r ≡ quiet (NotRun q) 0) × Untouched m rs fw ps m' rs' fw' px
  unfolding silent
  not_run {q} L t c k = ((as_ran L t k).0, K.all q (ap checked e ∙ c))

-- ---- all three
abbrev answers : Result ℕ Refusal → Result Unit Refusal → Outcome → Answers
answers a v o = record { annotated = a; checked = v; ran = o }

abbrev pub refused_by : Refusal → Answers
refused_by q = answers (Err q) (Err q) (quiet (NotRun q) 0)

-- a file for which the definitions give one refusal gets it from all three, the annotator's bytes are as they were, and M holds
abbrev pub IfAllRefuse : List ℕ → Answers → List ℕ → List ℕ → Type 0 → Type 0
IfAllRefuse f r out out' M = (q : Refusal) → AllRefuse f q → (r ≡ refused_by q) × ((out' ≡ out) × M)

pub all_refused : (f out : List ℕ) {out' m rs fw ps m' rs' fw' ps' : List ℕ} {l : ℕ} {a : Result ℕ Refusal} {v : Result Unit Refusal} {o : Outcome} → length out ≡ annotator_bytes
    → lent_words m rs fw ps l ≡ runner_lent → Annotates (annotated f (length out)) out out' a → v ≡ checked f → RanAs f m rs fw ps l o ps'
    → LentAfter f m rs fw ps m' rs' fw' ps' → IfAllRefuse f (answers a v o) out out' (Untouched m rs fw ps m' rs' fw' ps')
all_refused f out {a = a} {v = v} {o = o} n k h c r K q t =
    let x = refused f out h refl annotator_bytes t.0 n in
    let y = not_run r K refl runner_lent t.2 t.1 k in (
      ap (λ (z : Result ℕ Refusal). answers z v o) x.0 ∙ ap (λ (z : Result Unit Refusal). answers (Err q) z o) (c ∙ t.1)
          ∙ ap (λ (z : Outcome). answers (Err q) (Err q) z) y.0,
      (x.1, y.1),
    )

pub all_refuse : {f g : List ℕ} {q : Refusal} → f ≡ g → AllRefuse g q → AllRefuse f q
all_refuse e t = rw e t
