-- How long the new U is.
use Rattle.std.specs.Prelude.{◌≡◌, refl, length}
use Rattle.language.specs.Computing.{computing}
use Rattle.language.specs.Table.{eight, rows, file, new_u}

pub length_of_new_u : length new_u ≡ 96
unfolding computing eight rows file new_u
length_of_new_u = refl
