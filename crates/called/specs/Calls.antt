-- The calls of a procedure are the call records that belong to it: what it calls is what their words name.
use Rattle.std.specs.Prelude.{ℕ, ◌<◌, List, ◌≡◌}
use Rattle.language.specs.Format.{kind_word, call_kind}
use Rattle.language.specs.File.{word, record_count}
use Rattle.owners.specs.Owner.{owner_of}

-- ---- a record that calls: record i is a call in the goals of procedure p
pub record CallOf (f : List ℕ) (p i : ℕ) : Type 0 where
  pub some : 0 < i
  pub below : i < record_count f
  pub kind : word f i kind_word ≡ call_kind
  pub owner : owner_of f i ≡ p
