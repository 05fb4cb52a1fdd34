-- The code's table is that of the definitions, by computing. Assumes nothing.
use mathlib.Core.Path.{refl}
use Rattle.language.specs.File.{row, row_in, padded, kinds, code}
use Rattle.records.specs.Table.{packed, pack, uses, digit, table_of}
use Rattle.records.proofs.form.packed.Goals as goal

pub returns : goal.returns
unfolding table_of kinds packed pack uses digit code row row_in padded
returns c = c.row_of.ensures packed refl
