-- A construct or a create undone (C-20): the words stand for the memory before it.
use Prim.Native.Nat.{ℕ, suc, ◌<◌}
use Rattle.std.specs.Prelude.{◌≡◌, refl, false, List, ◌∷◌, ◌++◌, ◌≢◌, length, []}
use Rattle.std.proofs.Common.{sym, ◌∙◌}
use Rattle.std.proofs.Math.Path.{ap}
use Rattle.std.proofs.Math.Bool.{true}
use native.Mathlib.Omega.{arith}
use Rattle.std.proofs.Math.Decide.{ℕ_discrete}
use Rattle.sets.specs.Tests.{and_true}
use Rattle.language.specs.Lists.{put}
use Rattle.language.specs.Frames.{no_cell}
use Rattle.language.specs.AcceptedRun.{RegionCell, Memory, with_cell, with_region, without_region}
use Rattle.language.specs.Machine.{Room, cells_held, regions_held}
use Rattle.laws.specs.Choices.{put_same, put_other}
use Rattle.laws.specs.Lists.{all_append, nth_front}
use Rattle.memory.specs.declared.Heap.{Heap}
use Rattle.memory.specs.Memory.{removed, removed_cells, removed_regions}
use Rattle.memory.specs.Log.{unbuilt, unbuilt_cells, unbuilt_regions}
use Rattle.heap.specs.Labels.{Labels, having}
use Rattle.heap.specs.Words.{arguments_same}
use Rattle.heap.specs.Counts.{cells_in, earlier, within, held_built, held_same, in_built, in_other, earlier_front, earlier_less, alive_same, alive_more}
use Rattle.heap.specs.Labelled.{Labelled}
use Rattle.heap.specs.LabelledBack.{cells_back, regions_back, busy_kept, unbuilds, unbuild_words}
use Rattle.heap.specs.Standing.{built_length}
use Rattle.heap.specs.Represents.{numbered, SpotOf, Represents}
use Rattle.heap.proofs.Removing.{remove_ok, regions_count}
use Rattle.heap.specs.Undoing.{Closed}

-- ---- the newest cell goes
module _ {k : Room} {h : Heap} {m rs : List ℕ} (M : Memory) {ρ χ : ℕ → ℕ} (c : RegionCell) (R : Represents k h m rs (with_cell M c) ρ χ)
    (el : M.alive c.region ≡ true) where
  abbrev r : ℕ
  r = c.region

  abbrev cells1 : List RegionCell
  cells1 = M.cells ++ (c ∷ [])

  abbrev size : ℕ
  size = cells_in r M.cells

  er : R.reg (ρ r) ≡ having (suc size)
  unfolding with_cell
  er = R.lives r el ∙ ap having (in_built r M.cells c refl)

  H : Labelled h m rs R.own R.reg (suc (cells_held M.alive M.cells)) (regions_held M)
  unfolding with_cell regions_held
  H = rw (held_built M.alive M.cells c el) at R.labelled

  abbrev own1 : Labels
  own1 = cells_back H (ρ r) size er

  abbrev reg1 : Labels
  reg1 = regions_back H (ρ r) size er

  other_place : (q : ℕ) → M.alive q ≡ true → r ≢ q → ρ r ≢ ρ q
  unfolding with_cell
  other_place q e ne z = ne (R.apart r q el e z)

  back_lives : (q : ℕ) → M.alive q ≡ true → reg1 (ρ q) ≡ having (cells_in q M.cells)
  unfolding with_cell
  back_lives q e = elim (ℕ_discrete r q) [
    | yes z ↦ rw (← z) (put_same R.reg (ρ r) (having size))
    | no ne ↦ put_other R.reg (ρ r) (having size) (ρ q) (other_place q e ne) ∙ R.lives q e ∙ ap having (in_other q M.cells c ne)
  ]

  -- an older cell stays where it is: in region r, it stands lower than the newest
  older : (j : ℕ) → j < length M.cells → M.alive (numbered M.cells j).region ≡ true → SpotOf R.own m ρ χ M.cells j
      → SpotOf own1 (unbuilt_cells h m rs (ρ r)) ρ χ M.cells j
  unfolding with_cell
  older j l e s = record {
    label = busy_kept H (ρ r) size er s.label (λ z d. lower (R.apart (numbered M.cells j).region r e el z) d);
    says = record {
      functor = unbuild_words h m rs (ρ r) (χ j) 0 (omega arith) ∙ s.says.functor;
      contents = rw (arguments_same m (unbuilt_cells h m rs (ρ r)) (χ j) (unbuild_words h m rs (ρ r) (χ j))) s.says.contents;
    };
  }
    where
      lower : (numbered M.cells j).region ≡ r → earlier (numbered M.cells j).region j M.cells ≡ size → ⊥
      lower z d =
          let g = earlier_less r j (record { cell = no_cell; region = 0 }) M.cells l z in
          let y : earlier r j M.cells ≡ size = rw z at d in
          omega arith

  back_spots : (j : ℕ) → j < length M.cells → M.alive (numbered M.cells j).region ≡ true
      → SpotOf own1 (unbuilt_cells h m rs (ρ r)) ρ χ M.cells j
  unfolding with_cell
  back_spots j l e =
      let q = nth_front (record { cell = no_cell; region = 0 }) M.cells (c ∷ []) j l in
      let a = earlier_front (numbered M.cells j).region j M.cells (c ∷ []) (omega arith) in
      let e1 : M.alive (numbered cells1 j).region ≡ true = rw q e in
      older j l e (rw (q, a) at (R.spots j (omega (arith, built_length M c)) e1))

  pub unbuild_ok : Represents k (unbuilt h rs (ρ r)) (unbuilt_cells h m rs (ρ r)) (unbuilt_regions h m rs (ρ r)) M ρ χ
  unfolding with_cell unbuilt
  unbuild_ok = record {
    own = own1;
    reg = reg1;
    cell_room = R.cell_room;
    region_room = R.region_room;
    labelled = unbuilds H (ρ r) size er;
    low = R.low;
    made = (and_true (sym (all_append (within M.made) M.cells (c ∷ [])) ∙ R.made)).0;
    lives = back_lives;
    apart = R.apart;
    spots = back_spots;
  }

-- ---- the newest region goes. What is made stands in the memory's own count

pub closed_by : {k : Room} {h : Heap} {m rs : List ℕ} {M : Memory} {ρ χ : ℕ → ℕ} → Represents k h m rs M ρ χ → Closed M
closed_by R = record { low = λ r e. (R.low r e).1; made = R.made }

module _ {k : Room} {h : Heap} {m rs : List ℕ} (M : Memory) {ρ χ : ℕ → ℕ} (C : Closed M) (R : Represents k h m rs (with_region M) ρ χ) where
  abbrev n : ℕ
  n = suc M.made

  -- what is alive without it was alive before
  alive_old : (q : ℕ) → q ≢ n → put (put M.alive n true) n false q ≡ M.alive q
  alive_old q ne = put_other (put M.alive n true) n false q (λ z. ne (sym z)) ∙ put_other M.alive n true q (λ z. ne (sym z))

  not_new : (q : ℕ) → M.alive q ≡ true → q ≢ n
  not_new q e z = omega (arith, C.low q e)

  alive_still : (q : ℕ) → M.alive q ≡ true → put (put M.alive n true) n false q ≡ true
  alive_still q e = alive_old q (not_new q e) ∙ e

  new_alive : (with_region M).alive n ≡ true
  unfolding with_region
  new_alive = put_same M.alive n true

  gone : Represents k (removed h rs (ρ n)) (removed_cells h m rs (ρ n)) (removed_regions h rs (ρ n)) (without_region (with_region M) n) ρ χ
  gone = remove_ok R n new_alive

  cells_same : cells_held (without_region (with_region M) n).alive (without_region (with_region M) n).cells ≡ cells_held M.alive M.cells
  unfolding with_region without_region
  cells_same = held_same M.alive (put (put M.alive n true) n false) M.made (λ q l. alive_old q (λ z. omega arith)) M.cells C.made

  one_more : regions_held (with_region M) ≡ suc (regions_held M)
  unfolding regions_held with_region
  one_more =
      alive_more (put M.alive n true) M.made 1 n (omega arith) (put_same M.alive n true)
      ∙ ap suc (alive_same M.alive (put M.alive n true) M.made 1 (λ q l u. put_other M.alive n true q (λ z. omega arith)))

  one_less : regions_held (with_region M) ≡ suc (regions_held (without_region (with_region M) n))
  one_less = regions_count R n new_alive

  regions_same : regions_held (without_region (with_region M) n) ≡ regions_held M
  regions_same = omega (arith, one_more, one_less)

  pub uncreate_ok : Represents k (removed h rs (ρ n)) (removed_cells h m rs (ρ n)) (removed_regions h rs (ρ n)) M ρ χ
  unfolding with_region without_region
  uncreate_ok = record {
    own = gone.own;
    reg = gone.reg;
    cell_room = gone.cell_room;
    region_room = gone.region_room;
    labelled = rw (cells_same, regions_same) at gone.labelled;
    low = λ q e. ((gone.low q (alive_still q e)).0, C.low q e);
    made = C.made;
    lives = λ q e. gone.lives q (alive_still q e);
    apart = λ q s e d z. gone.apart q s (alive_still q e) (alive_still s d) z;
    spots = λ j l e. gone.spots j l (alive_still (numbered M.cells j).region e);
  }
