-- What the runner answers, and what stands in lent memory afterwards.
use Rattle.std.specs.Prelude.{ℕ, ◌≡◌, refl, true, List, [], length, Ok, Err}
use Rattle.std.proofs.Common.{sym, ap, ◌∙◌}
use Rattle.std.proofs.lemmas.Bool.{false≢true}
use Rattle.language.specs.declared.Refusal.{Refusal}
use Rattle.language.specs.declared.Ending.TheVariants.{Refused}
use Rattle.language.specs.Typing.{typing_ok}
use Rattle.language.specs.Lists.{front_written}
use Rattle.language.specs.Machine.{Lent, Run, print_places}
use Rattle.language.specs.Answers.{program, checked, run_for, ran}
use Rattle.chains.specs.Formed.{Formed}
use Rattle.word_machine.specs.Machine.{lent_words}
use Rattle.word_machine.proofs.Theorem.{accepted_program, accepted_formed}
use Rattle.machine.specs.Joining.{RanAs}

-- the words lent for cells, regions and frames: as many as before, and "free unless the file is refused"
abbrev pub Free : (m rs fw m' rs' fw' : List ℕ) → Type 0
Free m rs fw m' rs' fw' = (length m' ≡ length m) × (length rs' ≡ length rs) × (length fw' ≡ length fw)

-- all lent words as they were
abbrev pub Untouched : (m rs fw ps m' rs' fw' ps' : List ℕ) → Type 0
Untouched m rs fw ps m' rs' fw' ps' = (m' ≡ m) × (rs' ≡ rs) × (fw' ≡ fw) × (ps' ≡ ps)

-- the lent words after a run: a refusal leaves "all lent memory" as it was
pub record LentAfter (f m rs fw ps m' rs' fw' ps' : List ℕ) : Type 0 where
  pub free : Free m rs fw m' rs' fw'
  pub all : (v : Refusal) → checked f ≡ Err v → Untouched m rs fw ps m' rs' fw' ps'

-- ---- a refusal
unfoldable refusal : Refusal → Run
refusal v = record { ending = Refused v; steps = 0; printed = [] }

refused_ran : (f : List ℕ) (l : Lent) {v : Refusal} → checked f ≡ Err v → ran f l ≡ refusal v
unfolding ran run_for refusal
refused_ran f l e = ap (λ w. run_for w f l) e

pub refused_ran_as : {f : List ℕ} (m rs fw ps : List ℕ) (l : ℕ) {v : Refusal} → checked f ≡ Err v
    → RanAs f m rs fw ps l (record { ending = Refused v; steps = 0; printed = 0 }) ps
unfolding refusal print_places front_written
refused_ran_as {f} m rs fw ps l {v} e =
    let g = refused_ran f (lent_words m rs fw ps l) e in
    record { ending = rw g refl; number = rw g refl; steps = rw g refl; printed = rw g refl; places = rw g refl }

pub refused_leaves : {f : List ℕ} (m rs fw ps : List ℕ) → LentAfter f m rs fw ps m rs fw ps
refused_leaves m rs fw ps = record { free = (refl, refl, refl); all = λ v e. (refl, refl, refl, refl) }

-- an accepted file is not refused
pub accepted_leaves : {f : List ℕ} → checked f ≡ Ok tt → (m rs fw ps m' rs' fw' ps' : List ℕ) → Free m rs fw m' rs' fw' → LentAfter f m rs fw ps m' rs' fw' ps'
accepted_leaves e m rs fw ps m' rs' fw' ps' n = record { free = n; all = λ v z. absurd cc }

-- ---- what an accepted file has passed
pub accepted_typed : {f : List ℕ} → checked f ≡ Ok tt → Formed f × (typing_ok (program f) ≡ true)
accepted_typed {f} e = (accepted_formed f e, (accepted_program f e).typing)
