-- The effect of a call, from the images m and the classes of its callee. "An image of a dead or born one is no other region's image": no image of
-- theirs is one that two regions share.
use Rattle.std.specs.Prelude.{ℕ, ◌≤◌, true, List, ◌≡◌}
use Rattle.sets.specs.Sets.{member, ◌∪◌}
use Rattle.sets.specs.Members.{image}
use Rattle.sets.specs.declared.Set.{Set}
use Rattle.language.specs.Lifetimes.{unshared_in}
use Rattle.language.specs.Format.{max_regions}
use Rattle.tables.specs.Window.{set_in, born_place, dead_place, kept_place, passed_place}
use Rattle.tables.specs.declared.Effect.{Effect}

-- each member of rs is from 1 to max_regions, and so is its image; no other number has one
pub record Imaged (m : ℕ → ℕ) (rs : Set) : Type 0 where
  pub only : (r : ℕ) → 1 ≤ m r → member rs r ≡ true
  pub top : (r : ℕ) → member rs r ≡ true → r ≤ max_regions
  pub low_image : (r : ℕ) → member rs r ≡ true → 1 ≤ m r
  pub top_image : (r : ℕ) → member rs r ≡ true → m r ≤ max_regions

-- ---- the effect, by the callee's window; `unshared` is right where the images are those of a mapping
pub record ImageEffect (m : ℕ → ℕ) (t : List ℕ) (e : Effect) : Type 0 where
  pub needs : e.needs ≡ image m (set_in t dead_place ∪ set_in t kept_place)
  pub bears : e.bears ≡ image m (set_in t born_place)
  pub ends : e.ends ≡ image m (set_in t dead_place)
  pub unshared : Imaged m (set_in t passed_place) → e.unshared ≡ unshared_in m (set_in t dead_place ∪ set_in t born_place) (set_in t passed_place)
