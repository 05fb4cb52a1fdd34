-- The lent words stand for the definition's memory: places for numbers of cells and regions.
use Rattle.std.specs.Prelude.{ℕ, suc, ◌≤◌, ◌<◌, ◌≡◌, true, false, List, ltb, length, Option, Some, None}
use Rattle.language.specs.Lists.{nth, all, put}
use Rattle.language.specs.Frames.{Cell, no_cell}
use Rattle.language.specs.AcceptedRun.{RegionCell, Memory, with_cell, with_region}
use Rattle.language.specs.Machine.{Room, cells_held, regions_held}
use Rattle.memory.specs.declared.Heap.{Heap}
use Rattle.memory.specs.Memory.{cell_word}
use Rattle.heap.specs.Labels.{Labels, busy, having}
use Rattle.heap.specs.Words.{argument_words}
use Rattle.heap.specs.Counts.{cells_in, earlier, within}
use Rattle.heap.specs.Labelled.{Labelled}
use Rattle.heap.specs.Standing.{StandEach}

-- the cell numbered j
abbrev pub numbered : List RegionCell → ℕ → RegionCell
numbered cells j = nth (record { cell = no_cell; region = 0 }) cells j

-- the words at place w say what cell c has; n cells are made, and χ has the place of each by its number
pub record Reads (m : List ℕ) (χ : ℕ → ℕ) (n w : ℕ) (c : Cell) : Type 0 where
  pub functor : cell_word m w 0 ≡ c.functor
  pub contents : StandEach χ n (argument_words m w) c.contents

-- cell c stands at place x, in the region at place p, with t cells of the region behind it
pub record Spot (own : Labels) (m : List ℕ) (χ : ℕ → ℕ) (n x p t : ℕ) (c : Cell) : Type 0 where
  pub label : own x ≡ busy p t
  pub says : Reads m χ n x c

-- .. the cell numbered j: behind it stand those made before it, and its arguments were made before it
abbrev pub SpotOf : Labels → List ℕ → (ℕ → ℕ) → (ℕ → ℕ) → List RegionCell → ℕ → Type 0
SpotOf own m ρ χ cells j =
    Spot own m χ j (χ j) (ρ (numbered cells j).region) (earlier (numbered cells j).region j cells) (numbered cells j).cell

-- heap h with cell words m and region words rs stands for memory M in room k: ρ has the places of regions by number, χ those of cells
pub record Represents (k : Room) (h : Heap) (m rs : List ℕ) (M : Memory) (ρ χ : ℕ → ℕ) : Type 0 where
  pub own : Labels
  pub reg : Labels
  pub cell_room : h.cells.limit ≡ k.cells
  pub region_room : h.regions.limit ≡ k.regions
  pub labelled : Labelled h m rs own reg (cells_held M.alive M.cells) (regions_held M)
  pub low : (r : ℕ) → M.alive r ≡ true → (1 ≤ r) × (r ≤ M.made)
  pub made : all (within M.made) M.cells ≡ true
  pub lives : (r : ℕ) → M.alive r ≡ true → reg (ρ r) ≡ having (cells_in r M.cells)
  pub apart : (r q : ℕ) → M.alive r ≡ true → M.alive q ≡ true → ρ r ≡ ρ q → r ≡ q
  pub spots : (j : ℕ) → j < length M.cells → M.alive (numbered M.cells j).region ≡ true → SpotOf own m ρ χ M.cells j

-- ---- what is proved of it: `starts`, `reads`, `place_low` and `prints` in Reading, `create_ok`, `build_ok` and `remove_ok` in the modules of their names
-- a create stops exactly if no region fits, and then nothing changes; else the new region's number has the new place
pub data Creates (k : Room) (m rs : List ℕ) (M : Memory) (ρ χ : ℕ → ℕ) : Option (ℕ × Heap) → List ℕ → Type 0 where
  stops_12 : ltb (regions_held M) k.regions ≡ false → Creates k m rs M ρ χ None rs
  creates : {p : ℕ} {h' : Heap} {rs' : List ℕ} → ltb (regions_held M) k.regions ≡ true
      → Represents k h' m rs' (with_region M) (put ρ (suc M.made) p) χ → Creates k m rs M ρ χ (Some (p, h')) rs'

-- a construct of cell c in region r stops exactly if no cell fits, and then nothing changes; else the new cell's number has the new place
pub data Builds (k : Room) (m rs : List ℕ) (M : Memory) (ρ χ : ℕ → ℕ) (r : ℕ) (c : Cell) : Option (ℕ × Heap) → List ℕ → List ℕ → Type 0 where
  stops_11 : ltb (cells_held M.alive M.cells) k.cells ≡ false → Builds k m rs M ρ χ r c None m rs
  builds : {x : ℕ} {h' : Heap} {m' rs' : List ℕ} → ltb (cells_held M.alive M.cells) k.cells ≡ true
      → Represents k h' m' rs' (with_cell M (record { cell = c; region = r })) ρ (put χ (length M.cells) x)
      → Builds k m rs M ρ χ r c (Some (x, h')) m' rs'
