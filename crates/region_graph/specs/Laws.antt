-- What holds of the regions of a procedure that passes number 3, and of the mapping of a call that passes numbers 3 and 5: the laws by
-- which the theorems above go.
use Rattle.std.specs.Prelude.{ℕ, ◌≤◌, Bool, true, false, List, map, ◌≢◌, ◌⊎◌, ◌≡◌, length}
use Rattle.sets.specs.Sets.{member, empty_set, ◌∪◌, subset}
use Rattle.sets.specs.Members.{in_list}
use Rattle.language.specs.Program.{Functor, Signature, region_of, region_at, parameters_of, parameter_variables}
use Rattle.language.specs.Typing.{is_region, regioned, types_of}
use Rattle.language.specs.Regions.{targets, reach_from, images, mapping, regions_of, target_for}
use Rattle.language.specs.Lifetimes.{inputs, outputs}

-- the input and output regions of a procedure
abbrev pub shared : Signature → ℕ → Type 0
shared Q r = member (inputs Q ∪ outputs Q) r ≡ true

-- the target of region r's edge for functor f and position k, 0 for none
abbrev pub target : Signature → ℕ → ℕ → ℕ → ℕ
target S r f k = target_for (region_at S r).edges f k

-- r is the region word for a type: 0 if the type has no regions, else a region of it
abbrev pub Home : List (List Functor) → Signature → ℕ → ℕ → Type 0
Home T S t r = ((regioned T t ≡ false) × (r ≡ 0)) ⊎ ((regioned T t ≡ true) × (is_region S r ≡ true) × ((region_at S r).type ≡ t))

-- a procedure that declares S, with types T
pub record Declared (T : List (List Functor)) (S : Signature) : Type 0 where
  pub variables : length S.variables ≤ 64
  pub regions : length S.regions ≤ 64
  pub class : (r : ℕ) → (region_at S r).class ≤ 2
  -- a variable has a region, or its region word is 0
  pub own : (x : ℕ) → (region_of S x ≡ 0) ⊎ (is_region S (region_of S x) ≡ true)
  pub nowhere : reach_from S 0 ≡ empty_set
  pub self : (r : ℕ) → is_region S r ≡ true → member (reach_from S r) r ≡ true
  pub ranged : (r u : ℕ) → is_region S r ≡ true → member (reach_from S r) u ≡ true → is_region S u ≡ true
  -- edges lead to regions, and what is reached from there is reached from here
  pub onward : (r t : ℕ) → is_region S r ≡ true → in_list t (targets S r) ≡ true
      → (is_region S t ≡ true) × (subset (reach_from S t) (reach_from S r) ≡ true)
  pub least : (r : ℕ) (within : ℕ → Bool) → within r ≡ true → ((u t : ℕ) → within u ≡ true → in_list t (targets S u) ≡ true → within t ≡ true)
      → (u : ℕ) → member (reach_from S r) u ≡ true → within u ≡ true
  pub edge : (r f k : ℕ) → target S r f k ≢ 0 → in_list (target S r f k) (targets S r) ≡ true

-- a call of Q with arguments ys from a procedure that declares C
pub record Called (C Q : Signature) (ys : List ℕ) : Type 0 where
  pub image : ℕ → ℕ
  pub mapped : mapping C Q ys ≡ images image
  pub nowhere : image 0 ≡ 0
  pub arguments : map image (regions_of Q (parameter_variables (parameters_of Q))) ≡ regions_of C ys
  pub types : types_of Q (parameter_variables (parameters_of Q)) ≡ types_of C ys
  pub region : (r : ℕ) → shared Q r → is_region C (image r) ≡ true
  -- "along equal edges"
  pub follows : (r f k : ℕ) → shared Q r → target C (image r) f k ≡ image (target Q r f k)
  pub targets_follow : (r : ℕ) → shared Q r → targets C (image r) ≡ map image (targets Q r)
  -- the reach of an image is the images of the reach
  pub reach_in_law : (r u : ℕ) → shared Q r → member (reach_from Q r) u ≡ true → member (reach_from C (image r)) (image u) ≡ true
  pub reach_out : (r u : ℕ) → shared Q r → member (reach_from C (image r)) u ≡ true → (w : ℕ) × (member (reach_from Q r) w ≡ true) × (image w ≡ u)
