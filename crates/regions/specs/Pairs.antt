-- The call's mapping by a table of images: one pair of regions, and lists of pairs in turn. The table stands for a function from regions to
-- images.
use Rattle.std.specs.Prelude.{ℕ, ◌≤◌, Bool, true, false, List, ◌≢◌, ◌≡◌, length, get_or}
use Rattle.sets.specs.Size.{size}
use Rattle.language.specs.File
use Rattle.language.specs.Format.{places}
use Rattle.language.specs.Program.{Functor, Signature}
use Rattle.language.specs.Typing.{signature_ok}
use Rattle.language.specs.Regions.{targets_in, Mapping, two_ways, images, pairs, map_each, map_region}
use Rattle.region_graph.specs.Alike.{Paired, Alike}
use Rattle.region_graph.specs.Unmapped.{unmapped}
use Rattle.chains.specs.Formed.{Stands, edges_at}
use Rattle.tables.specs.Window.{Window, edges_in, first_place}

-- the images that a table stands for
unfoldable pub images_in : List ℕ → ℕ → ℕ
images_in t r = get_or t r 0

-- the code's answer: false for two ways, else the images in the table
unfoldable pub answer : Bool → List ℕ → Mapping
answer true t = images (images_in t)
answer false t = two_ways

-- ---- images are kept, and 0 has none
pub record Grown (t t' : List ℕ) : Type 0 where
  pub first : get_or t' 0 0 ≡ get_or t 0 0
  pub kept : (q : ℕ) → get_or t q 0 ≢ 0 → get_or t' q 0 ≡ get_or t q 0

-- ---- what the mapping goes by
-- where a window leads, chains stand, even where it is nobody's
pub record Standing (f t : List ℕ) : Type 0 where
  pub edges : (r : ℕ) → Stands f File.edges (edges_in t r)
  pub variables : Stands f File.variables (get_or t first_place 0)

pub window_stands : {f t : List ℕ} {S : Signature} → Window f S t → Standing f t
window_stands h = record { edges = h.edges_stand; variables = h.variables_stand }

-- own and theirs are the windows of the caller C and the callee Q, which pass number 3
pub record Sides (f : List ℕ) (C Q : Signature) (own theirs : List ℕ) : Type 0 where
  pub types : List (List Functor)
  pub ok_c : signature_ok types C ≡ true
  pub ok_q : signature_ok types Q ≡ true
  pub at_c : Window f C own
  pub at_q : Window f Q theirs

-- the table has room for each region, 0 has no image, and n bounds the callee's regions without one
pub record ImageTable (Q : Signature) (t : List ℕ) (n : ℕ) : Type 0 where
  pub room : length t ≡ places
  pub first : get_or t 0 0 ≡ 0
  pub few : size (unmapped Q (images_in t)) ≤ n

-- a mapping of one pair as the table has it afterwards, and of several in turn
abbrev pub RegionMapped : List ℕ → List ℕ → List ℕ → ℕ → ℕ → List ℕ → Bool → List ℕ → Type 0
RegionMapped f own theirs r u t b t' =
    (C Q : Signature) → Sides f C Q own theirs → Alike C Q r u → (n : ℕ) → ImageTable Q t n → map_region C Q n r u (images_in t) ≡ answer b t'

abbrev pub ListsMapped : List ℕ → List ℕ → List ℕ → List ℕ → List ℕ → List ℕ → Bool → List ℕ → Type 0
ListsMapped f own theirs rs us t b t' =
    (C Q : Signature) → Sides f C Q own theirs → Paired (Alike C Q) rs us → (n : ℕ) → ImageTable Q t n
    → map_each (λ q v k. map_region C Q n q v k) (pairs rs us) (images_in t) ≡ answer b t'

-- .. of where two chains of edges lead, side by side
abbrev pub EdgesMapped : List ℕ → List ℕ → List ℕ → ℕ → ℕ → List ℕ → Bool → List ℕ → Type 0
EdgesMapped f own theirs i j t b t' = ListsMapped f own theirs (targets_in (edges_at f i)) (targets_in (edges_at f j)) t b t'
