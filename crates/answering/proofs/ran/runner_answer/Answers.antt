use mathlib.Core.Path.{sym, ◌∙◌}
use Rattle.std.proofs.Common.{rules}
use Rattle.answering.specs.Ran.{prints_refusal}
use Rattle.answering.proofs.ran.runner_answer.Goals as goal

pub returns-in-Err : goal.returns-in-Err
returns-in-Err c = prints_refusal _ (sym c.check.ensures.value ∙ c.in-Err.is) c.requires c.put_refusal.ensures

pub accepted_answer-requires : goal.accepted_answer-requires
accepted_answer-requires c = record {
  file_value = sym c.check.ensures.value ∙ c.in_default.is;
  output_bytes_value = c.requires;
}

pub returns-then-file-lt-MAX_BYTES : goal.returns-then-file-lt-MAX_BYTES
returns-then-file-lt-MAX_BYTES c = search rules

pub accepted_answer-requires-2 : goal.accepted_answer-requires-2
accepted_answer-requires-2 c = record {
  file_value = sym c.check.ensures.value ∙ c.in_default.is;
  output_bytes_value = c.requires;
}

pub returns : goal.returns
returns c = search rules
