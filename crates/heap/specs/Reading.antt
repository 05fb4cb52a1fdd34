-- The start, what a living cell's words say, and a print.
use Rattle.std.specs.Prelude.{ℕ, ◌<◌, ◌≡◌, refl, true, List, map, ℤ, length}
use Rattle.std.proofs.Common.{ap, arith}
use Rattle.std.proofs.lemmas.Bool.{false≢true}
use Rattle.std.proofs.Math.Decide.{dec_lt}
use Rattle.language.specs.Lists.{all, up_from}
use Rattle.language.specs.Program.{Program}
use Rattle.language.specs.Frames.{cell_at, no_cell, cell_in}
use Rattle.language.specs.AcceptedRun.{RegionCell, cell_of, Memory, lies_in, readable, with_printed, state, start}
use Rattle.language.specs.Machine.{Lent, Room, holds, room_in, cells_held, count_alive, regions_held}
use Rattle.laws.specs.Lists.{nth_past, nth_map}
use Rattle.memory.specs.declared.Heap.{Heap}
use Rattle.memory.specs.Memory.{cell_words, region_words, unused, empty_heap}
use Rattle.heap.specs.Labels.{fresh}
use Rattle.heap.specs.Labelled.{start_labelled, cell_low}
use Rattle.heap.specs.Standing.{StandsFor, each_more}
use Rattle.heap.specs.Represents.{numbered, Represents, Reads, SpotOf}

-- ---- whatever stands in the lent words, an empty heap in them stands for the memory of a run's start
module _ (P : Program) (l : Lent) (m rs : List ℕ) (ec : l.cell_words ≡ length m) (er : l.region_words ≡ length rs) where
  pub starts : Represents (room_in l) (empty_heap (holds (length m) cell_words) (holds (length rs) region_words)) m rs (start P).memory (λ r. 0) (λ j. 0)
  unfolding start state room_in empty_heap unused holds cells_held regions_held count_alive up_from all
  starts = record {
    own = λ x. fresh;
    reg = λ x. fresh;
    cell_room = rw ec;
    region_room = rw er;
    labelled = start_labelled (holds (length m) cell_words) (holds (length rs) region_words) m rs (omega arith) (omega arith);
    low = λ r e. absurd (false≢true e);
    made = refl;
    lives = λ r e. absurd (false≢true e);
    apart = λ r q e d z. absurd (false≢true e);
    spots = λ j h e. absurd (omega arith);
  }

module _ {k : Room} {h : Heap} {m rs : List ℕ} {M : Memory} {ρ χ : ℕ → ℕ} (R : Represents k h m rs M ρ χ) where
  -- ---- no region has number 0, so a cell of a living region was made
  pub alive_made : (r : ℕ) → M.alive r ≡ true → r ≡ 0 → ⊥
  alive_made r e z = omega (arith, R.low r e)

  pub cell_made : (j : ℕ) → M.alive (numbered M.cells j).region ≡ true → j < length M.cells
  cell_made j e = elim (dec_lt j (length M.cells)) [
    | yes l ↦ l
    | no f ↦ absurd (alive_made _ e (ap (λ (c : RegionCell). c.region) (nth_past (record { cell = no_cell; region = 0 }) M.cells j (omega arith))))
  ]

  -- ---- "a switch reads where X's cell lies": the words at X's word say what X's cell has, and X's word is a place, below all constants
  abbrev spot : (j : ℕ) → M.alive (numbered M.cells j).region ≡ true → SpotOf R.own m ρ χ M.cells j
  spot j e = R.spots j (cell_made j e) e

  pub reads : (w j : ℕ) → StandsFor χ (length M.cells) w (cell_at j) → readable M (cell_at j) ≡ true
      → Reads m χ (length M.cells) w (cell_in (map cell_of M.cells) (cell_at j))
  unfolding StandsFor readable lies_in cell_in cell_of
  reads w j s e = rw (s.0, nth_map cell_of (record { cell = no_cell; region = 0 }) M.cells j)
      (record {
        functor = (spot j e).says.functor;
        contents = each_more χ χ j (length M.cells) (λ i l. refl) (omega (arith, cell_made j e)) _ _ (spot j e).says.contents;
      })

  pub place_low : (w j : ℕ) → StandsFor χ (length M.cells) w (cell_at j) → readable M (cell_at j) ≡ true → w < k.cells
  unfolding StandsFor readable lies_in
  place_low w j s e = omega (arith, s.0, R.cell_room, cell_low R.labelled _ _ _ (spot j e).label)

  -- ---- a print changes no cell and no region
  pub prints : (z : ℤ) → Represents k h m rs (with_printed M z) ρ χ
  unfolding with_printed regions_held
  prints z = record {
    own = R.own;
    reg = R.reg;
    cell_room = R.cell_room;
    region_room = R.region_room;
    labelled = R.labelled;
    low = R.low;
    made = R.made;
    lives = R.lives;
    apart = R.apart;
    spots = R.spots;
  }
