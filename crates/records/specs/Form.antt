-- Number 2 as the code goes through it: the words that must be 0 apart from the references. Assumes nothing.
use Rattle.std.specs.Prelude.{ℕ, suc, ◌≡◌, Bool, true, List, [], ◌∷◌, eqb}
use Rattle.std.proofs.Math.Path.{refl}
use Rattle.sets.specs.Tests.{◌&◌}
use Rattle.language.specs.File.{Use, number, unused, first, row, kind_of, kind_at, reference_ok, leading, references}
use Rattle.records.specs.Lists.{tally}
use Rattle.records.specs.Table.{uses}

-- a test b that says t, and where it is passed has counted rs
pub record Tallied (b t : Bool) (rs before after : List ℕ) : Type 0 where
  pub says : b ≡ t
  pub counts : b ≡ true → after ≡ tally before rs

-- ---- the words that must be 0
module _ (W : ℕ → ℕ → ℕ) (i : ℕ) where
  unfoldable pub zeros : ℕ → List Use → Bool
  zeros k [] = true
  zeros k (number ∷ us) = zeros (suc k) us
  zeros k (unused ∷ us) = eqb (W i k) 0 & zeros (suc k) us
  zeros k (first c ∷ us) = zeros (suc k) us

  -- those of record i
  unfoldable pub spare_ok : Bool
  spare_ok = zeros 2 (row (kind_of (W i 0))).words

-- ---- the references
module _ (W : ℕ → ℕ → ℕ) (n i : ℕ) where
  -- what is asked of word k as a reference
  unfoldable pub use_ok : ℕ → Use → Bool
  use_ok k number = true
  use_ok k unused = true
  use_ok k (first c) = reference_ok W n i c (W i k)

  unfoldable pub refers : ℕ → List Use → Bool
  refers k [] = true
  refers k (u ∷ us) = use_ok k u & refers (suc k) us

  -- what it refers to
  unfoldable pub leads : ℕ → Use → List ℕ
  leads k number = []
  leads k unused = []
  leads k (first c) = W i k ∷ []

  -- a test of word k that has counted what it refers to
  abbrev pub UseTallied : ℕ → Use → Bool → List ℕ → List ℕ → Type 0
  UseTallied k u b before after = Tallied b (use_ok k u) (leads k u) before after

  -- w1 is a word like the others
  pub references_by_uses : references W n i ≡ leading W n i 1 (uses (row (kind_at W n i)))
  unfolding references leading uses
  references_by_uses = refl

  -- those of record i
  unfoldable pub refers_ok : Bool
  refers_ok = refers 1 (uses (row (kind_at W n i)))
