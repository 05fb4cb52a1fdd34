-- The whole annotated file.
use Rattle.std.specs.Prelude.{ℕ, List, [], ◌∷◌}
use Rattle.language.specs.Format.{header_kind}
use Rattle.laying.specs.Lays.{Stored, RefersTo, Spans}

-- the header of a file whose types were laid from 1 to m and whose procedures from m to e
pub record HeaderStored (a b : List ℕ) (m e : ℕ) : Type 0 where
  pub first_link : ℕ
  pub second_link : ℕ
  pub total : ℕ
  pub first_spans : Spans m e first_link
  pub second_spans : Spans 1 m second_link
  pub counts : RefersTo 1 e total
  pub stored : Stored a b 0 (header_kind ∷ first_link ∷ second_link ∷ total ∷ 0 ∷ 0 ∷ 0 ∷ 0 ∷ [])
