-- The images that two members of a set share, gathered in one walk: those seen so far, and those seen again.
use Rattle.std.specs.Prelude.{ℕ, ◌≤◌, ◌<◌, true, ◌≡◌}
use Rattle.sets.specs.Sets.{member}
use Rattle.sets.specs.declared.Set.{Set}
use Rattle.language.specs.Format.{max_regions}

-- n is the image of two members of rs
pub record Shared (m : ℕ → ℕ) (rs : Set) (n : ℕ) : Type 0 where
  pub one : ℕ
  pub two : ℕ
  pub one_in : member rs one ≡ true
  pub two_in : member rs two ≡ true
  pub order : one < two
  pub top : two ≤ max_regions
  pub image_one : m one ≡ n
  pub image_two : m two ≡ n

-- the members a and b have an image in common, one that a set can hold
pub record Meet (m : ℕ → ℕ) (rs : Set) (a b : ℕ) : Type 0 where
  pub a_in : member rs a ≡ true
  pub b_in : member rs b ≡ true
  pub order : a < b
  pub same : m a ≡ m b
  pub low : 1 ≤ m a
  pub top : m a ≤ max_regions

pub record Doubled (m : ℕ → ℕ) (rs twice : Set) : Type 0 where
  pub only : (n : ℕ) → member twice n ≡ true → Shared m rs n
  pub all : (a b : ℕ) → Meet m rs a b → b ≤ max_regions → member twice (m a) ≡ true
