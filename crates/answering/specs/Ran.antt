-- What the runner program prints.
use Rattle.std.specs.Prelude.{ℕ, ◌+◌, ◌*◌, ◌≤◌, ◌≡◌, List, ◌++◌, map, length, take, Err}
use Rattle.std.proofs.Common.{arith, sym, ap, subst, ◌∙◌, length-take-le, to_z}
use Rattle.std.specs.Int.{w32}
use Rattle.language.specs.declared.Refusal.{Refusal}
use Rattle.language.specs.Machine.{runner_lent}
use Rattle.language.specs.Answers.{checked, run_for, ran}
use Rattle.language.specs.Output.{number_lines, refusal_line, ending_line, runner_output}
use Rattle.lines.specs.Widths.{number_bytes, ending_bytes}
use Rattle.lines.specs.Put.{Put, Front, put_front}
use Rattle.lines.specs.Answers.{refusal_length}
use Rattle.word_machine.specs.Machine.{lent_words}
use Rattle.machine.specs.declared.Outcome.{Outcome}
use Rattle.word_machine.specs.Printing.{front_numbers, same_words}
use Rattle.machine.specs.Joining.{RanAs, as_printed}
use Rattle.running.specs.Lent.{prints_lent, steps_lent}

-- bytes for the lines of the numbers printed and of the ending
abbrev pub output_bytes : ℕ
output_bytes = number_bytes * prints_lent + ending_bytes

-- ---- the lines
pub prints_run : {f m rs fw ps px b e : List ℕ} {r : Outcome} {k : ℕ} → lent_words m rs fw ps steps_lent ≡ runner_lent → RanAs f m rs fw ps steps_lent r px
    → Front (number_lines (map (to_z w32) (take r.printed px)) ++ ending_line r.ending r.steps) b e k → Front (runner_output (ran f runner_lent)) b e k
unfolding runner_output
prints_run {f} {m} {rs} {fw} {ps} {b = b} {e = e} {r = r} {k = k} l h p =
    let R = ran f (lent_words m rs fw ps steps_lent) in
    subst (λ s. Front s b e k)
    (ap (λ zs. number_lines zs ++ ending_line r.ending r.steps) (front_numbers (as_printed f m rs fw ps steps_lent h))
    ∙ ap (λ x. number_lines R.printed ++ ending_line x r.steps) h.ending
    ∙ ap (λ n. number_lines R.printed ++ ending_line R.ending n) h.steps
    ∙ ap (λ n. runner_output (ran f n)) l) p

pub prints_refusal : (f : List ℕ) {b e : List ℕ} {k : ℕ} {v : Refusal} → checked f ≡ Err v → output_bytes ≡ length b → Put b 0 (refusal_line v) e k
    → Front (runner_output (ran f runner_lent)) b e k
unfolding runner_output ran run_for number_lines ending_line
prints_refusal f {b} {e} {k} {v} c l p =
    subst (λ s. Front s b e k) (sym (ap (λ w. runner_output (run_for w f runner_lent)) c)) (put_front p (omega (arith, refusal_length v, l)))

-- ---- room for them
pub printed_within : {f m rs fw ps px : List ℕ} {r : Outcome} → RanAs f m rs fw ps steps_lent r px → r.printed ≤ length px
printed_within {f} {m} {rs} {fw} {ps} h = let p = as_printed f m rs fw ps steps_lent h in omega (arith, same_words p, p.room)

pub printed_fit : {f m rs fw ps px : List ℕ} {r : Outcome} → RanAs f m rs fw ps steps_lent r px → r.printed ≡ length (take r.printed px)
printed_fit {px = px} {r = r} h = sym (length-take-le r.printed px (printed_within h))

pub few_printed : {f m rs fw px : List ℕ} (ps : List ℕ) {r : Outcome} → prints_lent ≡ length ps → RanAs f m rs fw ps steps_lent r px → r.printed ≤ prints_lent
few_printed {f} {m} {rs} {fw} ps d h = omega (arith, d, (as_printed f m rs fw ps steps_lent h).room)
