-- What C-18 changes, to be checked against document 02's words: "Files accepted from then on are exactly the old ones without such procedures", a file
-- without such procedures is answered as before, and one with such procedures gets 17, "looked at after 5 and before 6".
use Rattle.std.specs.Prelude.{ℕ, List, ◌∷◌, ◌++◌, Bool, true, false, ◌↔◌, ◌⊎◌, ◌≡◌, [], Result, Ok, Err}
use Rattle.std.proofs.Common.{inl, inr, sym, ◌∙◌}
use Rattle.std.proofs.Math.Path.{refl, ap}
use Rattle.sets.specs.Tests.{◌&◌, truth}
use Rattle.language.specs.declared.Refusal.{Refusal}
use Rattle.language.specs.declared.Refusal.TheVariants.{Unreached, Annotated, Classes, Rules, Room}
use Rattle.language.specs.declared.Ending.TheVariants.{Refused}
use Rattle.language.specs.CallChains.{reached_ok}
use Rattle.language.specs.Lifetimes.{declared_classes_ok, call_classes_ok}
use Rattle.language.specs.Annotation.{unannotated, annotate}
use Rattle.language.specs.Checking.{rules_ok}
use Rattle.language.specs.Machine.{Lent, Run}
use Rattle.language.specs.Answers.{Stage, stage, lowest, program, file_stages, file_of, room_ok, reached_stages, annotator_stages, checker_stages, AnnotatorAnswer, refuses, writes, writes_unless, annotated, checked, run_for, ran}
use Rattle.laws.specs.Stages.{middle_passed, lowest_without, reached_stages_law, writes_passed}
use Rattle.call_graph.specs.Reached.{AllReached}
use Rattle.call_graph.proofs.AllReached.{ok_reached, reached_ok_law}

-- ---- before C-18: the stages without number 17, and the answers by them
module _ (f : List ℕ) where
  abbrev pub annotator_stages_before : ℕ → List Stage
  annotator_stages_before lent =
      file_stages f
      ++ (stage Annotated (unannotated (program f)) ∷ stage Classes (declared_classes_ok (program f) & call_classes_ok (program f))
      ∷ stage Room (room_ok (annotate (program f)) lent) ∷ [])

  abbrev pub checker_stages_before : List Stage
  checker_stages_before = file_stages f ++ (stage Classes (declared_classes_ok (program f)) ∷ stage Rules (rules_ok (program f)) ∷ [])

  abbrev pub annotated_before : ℕ → AnnotatorAnswer
  annotated_before lent = writes_unless (lowest (annotator_stages_before lent)) (file_of (annotate (program f)))

  abbrev pub checked_before : Result Unit Refusal
  checked_before = lowest checker_stages_before

  abbrev pub ran_before : Lent → Run
  ran_before l = run_for checked_before f l

-- a run of the runner that is no refusal
abbrev pub NotRefused : Run → Type 0
NotRefused r = (q : Refusal) → r.ending ≡ Refused q → ⊥

-- the refusal of a file that has such procedures: of numbers 1 to 5, if it gets one, else 17
abbrev pub sooner_or17 : Result Unit Refusal → Refusal
sooner_or17 (Err r) = r
sooner_or17 (Ok _) = Unreached

pub record Changed (f : List ℕ) : Type 0 where
  -- accepted from then on: accepted before, and chains of calls reach every procedure but the entry, which is where they start
  pub annotator : (lent : ℕ) (g : List ℕ) → (annotated f lent ≡ writes g) ↔ ((annotated_before f lent ≡ writes g) × AllReached (program f))
  pub checker : (checked f ≡ Ok tt) ↔ ((checked_before f ≡ Ok tt) × AllReached (program f))
  pub runner : (l : Lent) → NotRefused (ran f l) ↔ (NotRefused (ran_before f l) × AllReached (program f))
  -- and where they do, each program answers as before
  pub annotator_same : AllReached (program f) → (lent : ℕ) → annotated f lent ≡ annotated_before f lent
  pub checker_same : AllReached (program f) → checked f ≡ checked_before f
  pub runner_same : AllReached (program f) → (l : Lent) → ran f l ≡ ran_before f l
  -- where they do not, each program refuses it
  pub annotator_17 : (AllReached (program f) → ⊥) → (lent : ℕ) → annotated f lent ≡ refuses (sooner_or17 (lowest (file_stages f)))
  pub checker_17 : (AllReached (program f) → ⊥) → checked f ≡ Err (sooner_or17 (lowest (file_stages f)))
  pub runner_17 : (AllReached (program f) → ⊥) → (l : Lent) → ran f l ≡ record { ending = Refused (sooner_or17 (lowest (file_stages f))); steps = 0; printed = [] }

-- a stage that is not passed, behind others
stopped : (ss ts : List Stage) {b : Bool} → b ≡ false → lowest (ss ++ (stage Unreached b ∷ ts)) ≡ Err (sooner_or17 (lowest ss))
unfolding lowest
stopped [] ts e = rw e refl
stopped (stage q true ∷ ss) ts e = stopped ss ts e
stopped (stage q false ∷ ss) ts e = refl

module _ (f : List ℕ) where
  -- ---- an answer other than a refusal has passed number 17
  passed : (ss : List Stage) → lowest (reached_stages f ++ ss) ≡ Ok tt → AllReached (program f)
  passed ss e = ok_reached (program f) (middle_passed (file_stages f) ss Unreached (reached_ok (program f)) (ap lowest (sym (reached_stages_law f ss)) ∙ e))

  run_passed : (v : Result Unit Refusal) (l : Lent) → NotRefused (run_for v f l) → v ≡ Ok tt
  unfolding run_for
  run_passed (Err r) l h = absurd (h r refl)
  run_passed (Ok _) l h = refl

  -- ---- without number 17
  without : (ss : List Stage) → AllReached (program f) → lowest (reached_stages f ++ ss) ≡ lowest (file_stages f ++ ss)
  without ss h = ap lowest (reached_stages_law f ss) ∙ lowest_without (file_stages f) ss Unreached (reached_ok_law (program f) h)

  annotator_as : AllReached (program f) → (lent : ℕ) → annotated f lent ≡ annotated_before f lent
  unfolding annotated annotator_stages
  annotator_as h lent = ap (λ (v : Result Unit Refusal). writes_unless v (file_of (annotate (program f)))) (without _ h)

  checker_as : AllReached (program f) → checked f ≡ checked_before f
  unfolding checked checker_stages
  checker_as h = without _ h

  runner_as : AllReached (program f) → (l : Lent) → ran f l ≡ ran_before f l
  unfolding ran
  runner_as h l = ap (λ (v : Result Unit Refusal). run_for v f l) (checker_as h)

  annotator_reached : (lent : ℕ) (g : List ℕ) → annotated f lent ≡ writes g → AllReached (program f)
  unfolding annotated annotator_stages
  annotator_reached lent g e = passed _ (writes_passed (lowest (annotator_stages f lent)) (file_of (annotate (program f))) g e).0

  checker_reached : checked f ≡ Ok tt → AllReached (program f)
  unfolding checked checker_stages
  checker_reached e = passed _ e

  runner_reached : (l : Lent) → NotRefused (ran f l) → AllReached (program f)
  unfolding ran
  runner_reached l h = checker_reached (run_passed (checked f) l h)

  -- ---- number 17 is not passed
  unreached : (AllReached (program f) → ⊥) → reached_ok (program f) ≡ false
  unreached n = go (truth (reached_ok (program f)))
    where
      go : (reached_ok (program f) ≡ true) ⊎ (reached_ok (program f) ≡ false) → reached_ok (program f) ≡ false
      go (inl e) = absurd (n (ok_reached (program f) e))
      go (inr e) = e

  refused_17 : (ss : List Stage) → (AllReached (program f) → ⊥) → lowest (reached_stages f ++ ss) ≡ Err (sooner_or17 (lowest (file_stages f)))
  refused_17 ss n = ap lowest (reached_stages_law f ss) ∙ stopped (file_stages f) ss (unreached n)

  annotator_refuses : (AllReached (program f) → ⊥) → (lent : ℕ) → annotated f lent ≡ refuses (sooner_or17 (lowest (file_stages f)))
  unfolding annotated annotator_stages writes_unless
  annotator_refuses n lent = ap (λ (v : Result Unit Refusal). writes_unless v (file_of (annotate (program f)))) (refused_17 _ n)

  checker_refuses : (AllReached (program f) → ⊥) → checked f ≡ Err (sooner_or17 (lowest (file_stages f)))
  unfolding checked checker_stages
  checker_refuses n = refused_17 _ n

  runner_refuses : (AllReached (program f) → ⊥) → (l : Lent) → ran f l ≡ record { ending = Refused (sooner_or17 (lowest (file_stages f))); steps = 0; printed = [] }
  unfolding ran run_for
  runner_refuses n l = ap (λ (v : Result Unit Refusal). run_for v f l) (checker_refuses n)

-- THE THEOREM
pub changed : (f : List ℕ) → Changed f
changed f = record {
  annotator = λ lent g. (
    (λ e. let h = annotator_reached f lent g e in (sym (annotator_as f h lent) ∙ e, h)),
    λ p. annotator_as f p.1 lent ∙ p.0,
  );
  checker = ((λ e. let h = checker_reached f e in (sym (checker_as f h) ∙ e, h)), λ p. checker_as f p.1 ∙ p.0);
  runner = λ l. (
    (λ n. let h = runner_reached f l n in (rw (runner_as f h l) at n, h)),
    λ p. rw (runner_as f p.1 l) p.0,
  );
  annotator_same = annotator_as f;
  checker_same = checker_as f;
  runner_same = runner_as f;
  annotator_17 = annotator_refuses f;
  checker_17 = checker_refuses f;
  runner_17 = runner_refuses f;
}
