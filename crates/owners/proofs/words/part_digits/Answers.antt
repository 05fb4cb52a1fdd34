-- The code's table is that of the definitions, by computing.
use mathlib.Core.Path.{refl}
use Rattle.language.specs.File.{kinds}
use Rattle.records.specs.Table.{table_of}
use Rattle.owners.specs.Handed.{words_open, digits, part_digits}
use Rattle.owners.specs.Digits.{table_kind}
use Rattle.owners.proofs.words.part_digits.Goals as goal

pub returns : goal.returns
unfolding table_of kinds words_open part_digits digits
returns c = table_kind part_digits refl c.requires
