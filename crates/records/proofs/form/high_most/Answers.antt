-- The code's table is that of the definitions, by computing. Assumes nothing.
use mathlib.Core.Path.{refl}
use Rattle.language.specs.File.{row, row_in, padded, kinds}
use Rattle.records.specs.Table.{high_most, listed, table_of}
use Rattle.records.proofs.form.high_most.Goals as goal

pub returns : goal.returns
unfolding table_of kinds high_most listed row row_in padded
returns c = c.row_of.ensures high_most refl
