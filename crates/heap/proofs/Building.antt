-- A construct: the answer is the definition's, and the words stand for the memory with one cell more.
use Rattle.std.specs.Prelude.{ℕ, suc, ◌≤◌, ◌<◌, ◌≡◌, true, List, ◌∷◌, ◌++◌, ◌≢◌, length, [], Option, Some, None}
use Rattle.std.proofs.Math.Path.{refl}
use Rattle.std.proofs.Common.{sym, ap, ◌∙◌, arith, lt-ltb, le-ltb, le-leb}
use Rattle.std.proofs.Math.Decide.{ℕ_discrete}
use Rattle.sets.specs.Tests.{true_and}
use Rattle.language.specs.Lists.{all, put}
use Rattle.language.specs.Frames.{Value, Cell, no_cell}
use Rattle.language.specs.AcceptedRun.{RegionCell, Memory, with_cell}
use Rattle.language.specs.Machine.{Room, cells_held, regions_held}
use Rattle.laws.specs.Choices.{put_same, put_other}
use Rattle.laws.specs.Lists.{all_append, nth_front, nth_last}
use Rattle.memory.specs.declared.Contents.{Contents}
use Rattle.memory.specs.declared.Heap.{Heap}
use Rattle.memory.specs.Memory.{cell_words, cell_next, cell_word, first, built, built_cells, built_regions}
use Rattle.heap.specs.Labels.{Labels, busy, having, Vacant, vacant_busy}
use Rattle.heap.specs.Words.{argument_words, words_of, arguments_same, FilledCell}
use Rattle.heap.specs.Counts.{cells_in, within, earlier_front, earlier_all, held_built, in_built, in_other}
use Rattle.heap.specs.Labelled.{Labelled}
use Rattle.heap.specs.LabelledBuild as B
use Rattle.heap.specs.Standing.{StandEach, built_length, each_more}
use Rattle.heap.specs.Represents.{numbered, Spot, SpotOf, Represents, Builds, stops_11, builds}

-- region r is alive; the words of c stand for the values vs
module _ {k : Room} {h : Heap} {m rs : List ℕ} {M : Memory} {ρ χ : ℕ → ℕ} (R : Represents k h m rs M ρ χ) (r : ℕ) (er : M.alive r ≡ true)
    (c : Contents) (vs : List Value) (ws : StandEach χ (length M.cells) (words_of c) vs) where
  -- the new cell, and its number
  abbrev new : RegionCell
  new = record { cell = record { functor = c.functor; contents = vs }; region = r }

  abbrev n : ℕ
  n = length M.cells

  abbrev cells1 : List RegionCell
  cells1 = M.cells ++ (new ∷ [])

  abbrev size : ℕ
  size = cells_in r M.cells

  -- the places of two living regions differ
  other_place : (q : ℕ) → M.alive q ≡ true → r ≢ q → ρ r ≢ ρ q
  other_place q e ne z = ne (R.apart r q er e z)

  longer : length cells1 ≡ suc n
  unfolding with_cell
  longer = built_length M new

  module _ (x : ℕ) (h' : Heap) (m' rs' : List ℕ) (vacant : Vacant (R.own x)) (ec : h'.cells.limit ≡ h.cells.limit)
      (es : h'.regions.limit ≡ h.regions.limit) (full : FilledCell m' x c (first rs (ρ r)))
      (others : (y i : ℕ) → i < cell_words → y ≢ x → cell_word m' y i ≡ cell_word m y i)
      (L : Labelled h' m' rs' (put R.own x (busy (ρ r) size)) (put R.reg (ρ r) (having (suc size))) (suc (cells_held M.alive M.cells)) (regions_held M)) where
    abbrev own1 : Labels
    own1 = put R.own x (busy (ρ r) size)

    abbrev reg1 : Labels
    reg1 = put R.reg (ρ r) (having (suc size))

    abbrev χ1 : ℕ → ℕ
    χ1 = put χ n x

    built_lives : (q : ℕ) → M.alive q ≡ true → reg1 (ρ q) ≡ having (cells_in q cells1)
    built_lives q e = elim (ℕ_discrete r q) [
      | yes z ↦ rw (← z) (put_same R.reg (ρ r) (having (suc size)) ∙ ap having (sym (in_built r M.cells new refl)))
      | no ne ↦
          put_other R.reg (ρ r) (having (suc size)) (ρ q) (other_place q e ne) ∙ R.lives q e ∙ ap having (sym (in_other q M.cells new ne))
    ]

    -- values keep their words
    each_kept : (j : ℕ) → j ≤ n → (ws : List ℕ) (vs : List Value) → StandEach χ j ws vs → StandEach χ1 j ws vs
    each_kept j l = each_more χ χ1 j j (λ i h. put_other χ n x i (λ z. omega arith)) (omega arith)

    moved : {j y p t : ℕ} {e : Cell} → j ≤ n → Spot R.own m χ j y p t e → Spot own1 m' χ1 j y p t e
    moved {j} {y} {e = e} l s =
        let ne : x ≢ y = λ z. vacant_busy vacant (ap R.own z ∙ s.label) in
        let o : (i : ℕ) → i < cell_next → cell_word m' y i ≡ cell_word m y i = λ i l. others y i (omega arith) (λ z. ne (sym z)) in
        record {
          label = put_other R.own x (busy (ρ r) size) y ne ∙ s.label;
          says = record {
            functor = o 0 (omega arith) ∙ s.says.functor;
            contents = rw (arguments_same m m' y o) (each_kept j l (argument_words m y) e.contents s.says.contents);
          };
        }

    new_spot : Spot own1 m' χ1 n x (ρ r) size new.cell
    new_spot = record {
      label = put_same R.own x (busy (ρ r) size);
      says = record { functor = full.functor; contents = rw full.arguments (each_kept n (omega arith) (words_of c) vs ws) };
    }

    built_spots : (j : ℕ) → j < length cells1 → M.alive (numbered cells1 j).region ≡ true → SpotOf own1 m' ρ χ1 cells1 j
    built_spots j l e = elim (ℕ_discrete n j) [
      | yes z ↦ rw (← z) (rw (nth_last (record { cell = no_cell; region = 0 }) M.cells new, put_same χ n x, earlier_all r M.cells (new ∷ [])) new_spot)
      | no ne ↦
          let l' : j < n = omega (arith, longer, ne) in
          let q = nth_front (record { cell = no_cell; region = 0 }) M.cells (new ∷ []) j l' in
          let a = earlier_front (numbered M.cells j).region j M.cells (new ∷ []) (omega arith) in
          rw (q, put_other χ n x j ne, a) (moved (omega arith) (R.spots j l' (rw q at e)))
    ]

    new_made : all (within M.made) (new ∷ []) ≡ true
    unfolding all
    new_made = true_and (le-leb r M.made (R.low r er).1) refl

    represents_built : Represents k h' m' rs' (with_cell M new) ρ χ1
    unfolding with_cell regions_held
    represents_built = record {
      own = own1;
      reg = reg1;
      cell_room = ec ∙ R.cell_room;
      region_room = es ∙ R.region_room;
      labelled = rw (held_built M.alive M.cells new er) L;
      low = R.low;
      made = all_append (within M.made) M.cells (new ∷ []) ∙ true_and R.made new_made;
      lives = built_lives;
      apart = R.apart;
      spots = built_spots;
    }

  -- ---- the answer
  build_by : (o : Option (ℕ × Heap)) (m' rs' : List ℕ) → B.LabelledBuilds R.labelled (ρ r) size (R.lives r er) c o m' rs' → Builds k m rs M ρ χ r new.cell o m' rs'
  build_by None m rs (B.no_place e) = stops_11 (le-ltb (cells_held M.alive M.cells) k.cells (omega (arith, R.cell_room)))
  build_by (Some (x, h')) m' rs' (B.new_cell l vacant ec es full others L) =
      builds (lt-ltb (cells_held M.alive M.cells) k.cells (omega (arith, R.cell_room))) (represents_built x h' m' rs' vacant ec es full others L)

  pub build_ok : Builds k m rs M ρ χ r (record { functor = c.functor; contents = vs }) (built h m) (built_cells h m rs (ρ r) c) (built_regions h m rs (ρ r))
  build_ok =
      build_by (built h m) (built_cells h m rs (ρ r) c) (built_regions h m rs (ρ r)) (B.builds R.labelled (ρ r) size (R.lives r er) c)
