-- A create: the answer is the definition's, and the words stand for the memory with one region more.
use Prim.Native.Nat.{ℕ, suc, ◌≤◌, ◌<◌}
use Rattle.std.specs.Prelude.{◌≡◌, true, List, ◌≢◌, length, Option, Some, None}
use Rattle.std.proofs.Common.{sym, ◌∙◌, arith}
use Rattle.std.proofs.Math.Path.{ap}
use Rattle.std.proofs.Math.Decide.{ℕ_discrete}
use borrow.Author.Tests.{lt-ltb, le-ltb, le-leb, leb-true}
use Rattle.language.specs.Lists.{put}
use Rattle.language.specs.AcceptedRun.{Memory, with_region}
use Rattle.language.specs.Machine.{Room, cells_held, regions_held}
use Rattle.laws.specs.Choices.{put_same, put_other}
use Rattle.laws.specs.Lists.{all_weaker, all_nth}
use Rattle.memory.specs.declared.Heap.{Heap}
use Rattle.memory.specs.Memory.{created, created_regions}
use Rattle.heap.specs.Labels.{Labels, having, Vacant, vacant_busy}
use Rattle.heap.specs.Counts.{cells_in, within, held_same, in_new, alive_same, alive_more}
use Rattle.heap.specs.Labelled.{Labelled}
use Rattle.heap.specs.LabelledCreate as C
use Rattle.heap.specs.Represents.{numbered, SpotOf, Represents, Creates, stops_12, creates}

module _ {k : Room} {h : Heap} {m rs : List ℕ} {M : Memory} {ρ χ : ℕ → ℕ} (R : Represents k h m rs M ρ χ) where
  -- the new region's number
  abbrev n : ℕ
  n = suc M.made

  -- ---- a region alive after a create is the new one, or was alive
  alive_old : (r : ℕ) → r ≤ M.made → put M.alive n true r ≡ M.alive r
  alive_old r l = put_other M.alive n true r (λ z. omega arith)

  was_alive : (r : ℕ) → put M.alive n true r ≡ true → n ≢ r → M.alive r ≡ true
  was_alive r e ne = sym (put_other M.alive n true r ne) ∙ e

  -- a living region keeps its place
  pub region_kept : (p r : ℕ) → M.alive r ≡ true → put ρ (suc M.made) p r ≡ ρ r
  region_kept p r e = put_other ρ n p r (λ z. omega (arith, R.low r e))

  pub cells_count : cells_held (put M.alive n true) M.cells ≡ cells_held M.alive M.cells
  cells_count = held_same M.alive (put M.alive n true) M.made alive_old M.cells R.made

  pub regions_count : regions_held (with_region M) ≡ suc (regions_held M)
  unfolding regions_held with_region
  regions_count =
      alive_more (put M.alive n true) M.made 1 n (omega arith) (put_same M.alive n true)
      ∙ ap suc (alive_same M.alive (put M.alive n true) M.made 1 (λ r l u. alive_old r (omega arith)))

  module _ (p : ℕ) (h' : Heap) (rs' : List ℕ) (vacant : Vacant (R.reg p)) (ec : h'.cells.limit ≡ h.cells.limit)
      (er : h'.regions.limit ≡ h.regions.limit)
      (L : Labelled h' m rs' R.own (put R.reg p (having 0)) (cells_held M.alive M.cells) (suc (regions_held M))) where
    abbrev reg1 : Labels
    reg1 = put R.reg p (having 0)

    abbrev ρ1 : ℕ → ℕ
    ρ1 = put ρ n p

    not_p : (r : ℕ) → M.alive r ≡ true → p ≢ ρ r
    not_p r e z = vacant_busy vacant (ap R.reg z ∙ R.lives r e)

    kept : {r : ℕ} → M.alive r ≡ true → ρ1 r ≡ ρ r
    kept {r} e = region_kept p r e

    created_low : (r : ℕ) → put M.alive n true r ≡ true → (1 ≤ r) × (r ≤ n)
    created_low r e = elim (ℕ_discrete n r) [
      | yes z ↦ (omega arith, omega arith)
      | no ne ↦ let l = R.low r (was_alive r e ne) in (l.0, omega (arith, l.1))
    ]

    created_lives : (r : ℕ) → put M.alive n true r ≡ true → reg1 (ρ1 r) ≡ having (cells_in r M.cells)
    created_lives r e = elim (ℕ_discrete n r) [
      | yes z ↦ rw (← z) (ap reg1 (put_same ρ n p) ∙ put_same R.reg p (having 0) ∙ ap having (sym (in_new M.made n (omega arith) M.cells R.made)))
      | no ne ↦
          let o = was_alive r e ne in
          ap reg1 (kept o) ∙ put_other R.reg p (having 0) (ρ r) (not_p r o) ∙ R.lives r o
    ]

    -- the new region's place is no other's
    apart_new : (r q : ℕ) → n ≡ r → M.alive q ≡ true → ρ1 r ≡ ρ1 q → ⊥
    apart_new r q z o e = not_p q o (sym (put_same ρ n p) ∙ ap ρ1 z ∙ e ∙ kept o)

    created_apart : (r q : ℕ) → put M.alive n true r ≡ true → put M.alive n true q ≡ true → ρ1 r ≡ ρ1 q → r ≡ q
    created_apart r q e d w = elim (ℕ_discrete n r) [
      | yes z ↦ elim (ℕ_discrete n q) [ yes y ↦ sym z ∙ y | no ny ↦ absurd (apart_new r q z (was_alive q d ny) w) ]
      | no nz ↦ elim (ℕ_discrete n q) [
        | yes y ↦ absurd (apart_new q r y (was_alive r e nz) (sym w))
        | no ny ↦
            let u = was_alive r e nz in
            let v = was_alive q d ny in
            R.apart r q u v (sym (kept u) ∙ w ∙ kept v)
      ]
    ]

    created_spots : (j : ℕ) → j < length M.cells → put M.alive n true (numbered M.cells j).region ≡ true → SpotOf R.own m ρ1 χ M.cells j
    created_spots j l e =
        let w = leb-true (numbered M.cells j).region M.made (all_nth (within M.made) _ M.cells j R.made l) in
        let o = sym (alive_old (numbered M.cells j).region w) ∙ e in
        rw (kept o) (R.spots j l o)

    represents_created : Represents k h' m rs' (with_region M) ρ1 χ
    unfolding with_region
    represents_created = record {
      own = R.own;
      reg = reg1;
      cell_room = ec ∙ R.cell_room;
      region_room = er ∙ R.region_room;
      labelled = rw (cells_count, regions_count) L;
      low = created_low;
      made = all_weaker (within M.made) (within n) M.cells (λ c e. le-leb c.region n (omega (arith, leb-true c.region M.made e))) R.made;
      lives = created_lives;
      apart = created_apart;
      spots = created_spots;
    }

  -- ---- the answer
  create_by : (o : Option (ℕ × Heap)) (rs' : List ℕ) → C.LabelledCreates R.labelled o rs' → Creates k m rs M ρ χ o rs'
  create_by None rs (C.no_place e) = stops_12 (le-ltb (regions_held M) k.regions (omega (arith, R.region_room)))
  create_by (Some (p, h')) rs' (C.new_region l vacant ec er L) =
      creates (lt-ltb (regions_held M) k.regions (omega (arith, R.region_room))) (represents_created p h' rs' vacant ec er L)

  pub create_ok : Creates k m rs M ρ χ (created h rs) (created_regions h rs)
  create_ok = create_by (created h rs) (created_regions h rs) (C.creates R.labelled)
