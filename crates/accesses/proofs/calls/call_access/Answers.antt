use mathlib.Core.Path.{refl}
use Rattle.std.proofs.Common.{arith}
use Rattle.chains.specs.Shapes.{call_here, to_arguments}
use Rattle.accesses.proofs.FittingLaws.{call_fits}
use Rattle.accesses.proofs.calls.call_access.Goals as goal

pub word-q-requires : goal.word-q-requires
word-q-requires c = record {
  formed = c.requires.formed;
  k_lt_record_words = (omega arith, (call_here c.requires.formed refl c.requires.call).below);
}

pub word-y-requires : goal.word-y-requires
word-y-requires c = record {
  formed = c.requires.formed;
  k_lt_record_words = (omega arith, (call_here c.requires.formed refl c.requires.call).below);
}

pub called_access-requires : goal.called_access-requires
called_access-requires c = record {
  formed = c.requires.formed;
  file_table = c.requires.file_table;
  procedures_value = c.requires.procedures_value;
  stands = (to_arguments c.requires.formed c.requires.call c.word-y.ensures.0).stands;
  file_value = c.requires.file_value;
}

pub returns : goal.returns
returns c =
    call_fits _ _ c.requires.formed refl c.requires.call c.word-q.ensures.0 c.word-y.ensures.0 c.called_access.ensures
