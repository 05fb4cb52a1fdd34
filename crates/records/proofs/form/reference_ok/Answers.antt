-- One law for each test of a reference. Assumes nothing.
use Rattle.std.proofs.Common.{arith}
use mathlib.Core.Bool.{false≢true}
use Rattle.records.proofs.Steps.{reference_end, reference_low, reference_past, reference_chain}
use Rattle.records.proofs.form.reference_ok.Goals as goal

pub returns-then-r-eq0 : goal.returns-then-r-eq0
returns-then-r-eq0 c = (λ k _. reference_end _ _ _ k _ (omega arith), λ _. omega arith)

pub returns-then-r-i : goal.returns-then-r-i
returns-then-r-i c = (λ k _. reference_low _ _ _ k _ (λ e. omega arith) (omega arith), λ t. absurd (false≢true t))

pub returns-then-n-r : goal.returns-then-n-r
returns-then-n-r c = (λ k _. reference_past _ _ _ k _ (λ e. omega arith) (omega arith) (omega arith), λ t. absurd (false≢true t))

pub returns : goal.returns
returns c = (λ k e. reference_chain _ _ _ k _ (λ z. omega arith) (omega arith) (omega arith) c.word_in.ensures.0 c.packed.ensures e, λ _. omega arith)
