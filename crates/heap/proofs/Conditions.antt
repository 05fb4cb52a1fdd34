-- The words of an open condition (C-20) and what each of its steps does to them, in the definition's own terms.
use Rattle.std.specs.Prelude.{ℕ, suc, ◌≤◌, ◌<◌, ◌≡◌, true, false, List, ltb, length, set, Option, Some, None}
use Rattle.std.proofs.Math.Path.{refl}
use Rattle.std.proofs.Common.{sym, subst, ◌∙◌}
use Rattle.language.specs.Lists.{put}
use Rattle.language.specs.Program.{Goals}
use Rattle.language.specs.Frames.{Value, Cell, opened}
use Rattle.language.specs.AcceptedRun.{RegionFrame, RegionCell, Memory, with_cell, with_region, without_region, restored}
use Rattle.language.specs.Machine.{Room, cells_held, regions_held, counted_in}
use Rattle.memory.specs.declared.Contents.{Contents}
use Rattle.memory.specs.declared.Heap.{Heap}
use Rattle.memory.specs.Memory.{created, created_regions, built, built_cells, built_regions}
use Rattle.memory.specs.Log.{built_in, made_at, removed_at, entry, Stored, stored, undone, freed}
use Rattle.heap.specs.Words.{words_of}
use Rattle.heap.specs.Standing.{StandEach}
use Rattle.heap.specs.Represents.{Creates, stops_12, creates, Builds, stops_11, builds}
use Rattle.heap.proofs.Creating.{create_ok}
use Rattle.heap.proofs.Building.{build_ok}
use Rattle.heap.proofs.UndoingLaws.{closed_by}
use Rattle.heap.specs.Logged.{Stands, Logged, none}
use Rattle.heap.proofs.LoggedLaws.{undo_ok, free_ok, alike, without_logged, living_was, cells_counted, regions_counted, logs_cell, logs_region, logs_removal}

-- with i entries in the log, what is kept stands for memory m in an open condition, to go back to n
pub record Opened (k : Room) (s : Stored) (log : List ℕ) (i : ℕ) (n m : Memory) (ρ χ : ℕ → ℕ) : Type 0 where
  pub held : Memory
  pub logged : Logged ρ n log i held m
  pub stands : Stands k s held ρ χ

-- ---- a try: nothing is written
pub opens : {k : Room} {s : Stored} {m : Memory} {ρ χ : ℕ → ℕ} (log : List ℕ) → Stands k s m ρ χ → Opened k s log 0 m m ρ χ
opens {m = m} log R = record { held = m; logged = none; stands = R }

module _ {k : Room} {s : Stored} {log : List ℕ} {i : ℕ} {n m : Memory} {ρ χ : ℕ → ℕ} (O : Opened k s log i n m ρ χ) where
  -- ---- a failing test
  pub fails : Stands k (undone log i s) (restored n m) ρ χ
  unfolding restored
  fails = alike k _ _ _ ρ χ n (restored n m) refl refl (λ q. refl) (undo_ok log O.logged s O.stands)

  -- ---- the condition ends
  pub ends : Stands k (freed log i s) m ρ χ
  ends = free_ok log O.logged s O.stands

  -- ---- what lives is held
  pub held_alive : (r : ℕ) → m.alive r ≡ true → O.held.alive r ≡ true
  held_alive r e = living_was _ O.held.alive r (sym ((without_logged O.logged).alive r) ∙ e)

  held_low : (r : ℕ) → m.alive r ≡ true → r ≤ O.held.made
  held_low r e = (O.stands.low r (held_alive r e)).1

  pub same_made : m.made ≡ O.held.made
  same_made = (without_logged O.logged).made

  pub same_cells : m.cells ≡ O.held.cells
  same_cells = (without_logged O.logged).cells

  module _ (room : i < length log) where
    -- ---- a remove: no word changes, but the log grows
    pub removes_later : (r : ℕ) → m.alive r ≡ true → Opened k s (set log i (entry (ρ r) removed_at)) (suc i) n (without_region m r) ρ χ
    removes_later r e = record { held = O.held; logged = logs_removal O.logged room r e (held_low r e); stands = O.stands }

    -- ---- a create: it stops exactly if no region fits, as they count
    module _ (a : Goals) (f : RegionFrame) where
      pub data CreatesIn : Option (ℕ × Heap) → List ℕ → Type 0 where
        stops : ltb (regions_held (counted_in (opened a f n) m)) k.regions ≡ false → CreatesIn None s.regions
        makes : {p : ℕ} {h' : Heap} {rs' : List ℕ} → ltb (regions_held (counted_in (opened a f n) m)) k.regions ≡ true
            → Opened k (stored h' s.cells rs') (set log i (entry p made_at)) (suc i) n (with_region m) (put ρ (suc m.made) p) χ
            → CreatesIn (Some (p, h')) rs'

      create_by : (o : Option (ℕ × Heap)) (rs' : List ℕ) → Creates k s.cells s.regions O.held ρ χ o rs' → CreatesIn o rs'
      create_by None rs' (stops_12 e) = stops (rw (regions_counted O.logged (closed_by O.stands) a f) e)
      create_by (Some (p, h')) rs' (creates e R) =
          makes {p = p} {h' = h'} {rs' = rs'} (rw (regions_counted O.logged (closed_by O.stands) a f) e)
          (subst (λ (d : ℕ). Opened k (stored h' s.cells rs') (set log i (entry p made_at)) (suc i) n (with_region m) (put ρ (suc d) p) χ) (sym same_made)
          (record { held = with_region O.held; logged = logs_region O.logged room (closed_by O.stands) p; stands = R }))

      pub creates_in : CreatesIn (created s.heap s.regions) (created_regions s.heap s.regions)
      creates_in = create_by (created s.heap s.regions) (created_regions s.heap s.regions) (create_ok O.stands)

      -- ---- a construct
      pub data BuildsIn (r : ℕ) (c : Cell) : Option (ℕ × Heap) → List ℕ → List ℕ → Type 0 where
        stops : ltb (cells_held (counted_in (opened a f n) m).alive (counted_in (opened a f n) m).cells) k.cells ≡ false
            → BuildsIn r c None s.cells s.regions
        makes : {x : ℕ} {h' : Heap} {m' rs' : List ℕ}
            → ltb (cells_held (counted_in (opened a f n) m).alive (counted_in (opened a f n) m).cells) k.cells ≡ true
            → Opened k (stored h' m' rs') (set log i (entry (ρ r) built_in)) (suc i) n (with_cell m (record { cell = c; region = r })) ρ (put χ (length m.cells) x)
            → BuildsIn r c (Some (x, h')) m' rs'

      module _ (r : ℕ) (er : m.alive r ≡ true) (c : Contents) (vs : List Value) (ws : StandEach χ (length m.cells) (words_of c) vs) where
        abbrev new : Cell
        new = record { functor = c.functor; contents = vs }

        build_by : (o : Option (ℕ × Heap)) (m' rs' : List ℕ) → Builds k s.cells s.regions O.held ρ χ r new o m' rs' → BuildsIn r new o m' rs'
        build_by None m' rs' (stops_11 e) = stops (rw (cells_counted O.logged (closed_by O.stands) a f) e)
        build_by (Some (x, h')) m' rs' (builds e R) =
            makes {x = x} {h' = h'} {m' = m'} {rs' = rs'} (rw (cells_counted O.logged (closed_by O.stands) a f) e)
            (subst
            (λ (cs : List RegionCell). Opened k (stored h' m' rs') (set log i (entry (ρ r) built_in)) (suc i) n (with_cell m (record { cell = new; region = r })) ρ (put χ (length cs) x))
            (sym same_cells)
            (record {
              held = with_cell O.held (record { cell = new; region = r });
              logged = logs_cell O.logged room (record { cell = new; region = r }) (held_alive r er) (held_low r er);
              stands = R;
            }))

        pub builds_in : BuildsIn r new (built s.heap s.cells) (built_cells s.heap s.cells s.regions (ρ r) c) (built_regions s.heap s.cells s.regions (ρ r))
        builds_in =
            build_by (built s.heap s.cells) (built_cells s.heap s.cells s.regions (ρ r) c) (built_regions s.heap s.cells s.regions (ρ r))
            (build_ok O.stands r (held_alive r er) c vs (subst (λ (cs : List RegionCell). StandEach χ (length cs) (words_of c) vs) same_cells ws))
