-- Two numbers against the most that the kind allows. Assumes nothing.
use Rattle.std.proofs.lemmas.Bool.{lt-leb}
use mathlib.Core.Path.{◌∙◌}
use Rattle.records.proofs.Steps.{spare_low, spare_high}
use Rattle.records.proofs.form.spare_ok.Goals as goal

pub returns-then-first-low_most : goal.returns-then-first-low_most
returns-then-first-low_most c =
    spare_high _ _ c.word_in-kind.ensures.0 c.low_words-first.ensures c.high_words-last.ensures c.low_most.ensures c.if-first-low_most.true c.high_most.ensures

pub returns-else-first-low_most : goal.returns-else-first-low_most
returns-else-first-low_most c =
    lt-leb _ _ c.if-first-low_most.false
    ∙ spare_low _ _ c.word_in-kind.ensures.0 c.low_words-first.ensures c.high_words-last.ensures c.low_most.ensures c.if-first-low_most.false
