-- The runner's words outside conditions and in an open one, and the steps that lead from one to the other.
use Rattle.std.specs.Prelude.{ℕ, suc, ◌+◌, ◌*◌, ◌≤◌, ◌<◌, ◌≡◌, refl, true, List, length, set}
use Rattle.std.proofs.Common.{arith}
use Rattle.language.specs.Lists.{put}
use Rattle.language.specs.Frames.{Cell}
use Rattle.language.specs.AcceptedRun.{RegionFrame, RegionCell, Memory, with_cell, with_region, without_region, restored}
use Rattle.language.specs.Machine.{Room}
use Rattle.laws.specs.Choices.{put_other}
use Rattle.memory.specs.declared.Heap.{Heap}
use Rattle.memory.specs.Log.{built_in, made_at, removed_at, entry, Stored, stored, undone, freed}
use Rattle.heap.specs.Standing.{built_length}
use Rattle.heap.specs.Logged.{Stands}
use Rattle.heap.proofs.Conditions.{Opened, opens, fails, ends, removes_later}
use Rattle.memory.specs.Moved.{moved_length}
use Rattle.word_machine.specs.Machine.{frame_words, regions_end, saved_frame, put_back}
use Rattle.word_machine.specs.Relation.{Where, where_in, Later}
use Rattle.word_machine.specs.Back.{Keeping, Back, saves, still_back, later_on, back_frame, back_waiting}

-- the lent words, and what a run keeps beside them: the log and how long it is, the saved frame, the newest frame's number, its next goal's record
pub record Kept : Type 0 where
  pub store : Stored
  pub log : List ℕ
  pub count : ℕ
  pub own : List ℕ
  pub frames : List ℕ
  pub top : ℕ
  pub goal : ℕ

-- ---- what each step does to the words
-- a failing test: the else part is at record j
unfoldable pub fails_to : Kept → ℕ → Kept
fails_to w j =
    record { store = undone w.log w.count w.store; log = w.log; count = 0; own = w.own; frames = put_back w.top w.own w.frames; top = w.top; goal = j }

-- the condition's end: what follows is at record i
unfoldable pub ends_to : Kept → ℕ → Kept
ends_to w i = record { store = freed w.log w.count w.store; log = w.log; count = 0; own = w.own; frames = w.frames; top = w.top; goal = i }

unfoldable pub gives_to : Kept → ℕ → ℕ → ℕ → Kept
gives_to w i x v =
    record { store = w.store; log = w.log; count = w.count; own = w.own; frames = set w.frames (frame_words * w.top + x) v; top = w.top; goal = i }

unfoldable pub logs_to : Kept → Stored → List ℕ → ℕ → ℕ → Kept
logs_to w s fw i v = record { store = s; log = set w.log w.count v; count = suc w.count; own = w.own; frames = fw; top = w.top; goal = i }

pub put_fits : (k : ℕ) (own fw : List ℕ) → length (put_back k own fw) ≡ length fw
unfolding put_back
put_fits k own fw = moved_length 1 (frame_words * k + 1) regions_end own fw

module _ (Frame : List ℕ → ℕ → Where → ℕ → RegionFrame → Type 0) (Waits : List ℕ → Where → ℕ → List ℕ → ℕ → List RegionFrame → Type 0) (Q : Keeping Frame Waits)
    (K : Room) where
  -- ---- no condition is open: e is the newest frame, over fs
  pub record Outside (w : Kept) (e : RegionFrame) (fs : List RegionFrame) (m : Memory) : Type 0 where
    pub region_at : ℕ → ℕ
    pub cell_at : ℕ → ℕ
    pub memory : Stands K w.store m region_at cell_at
    pub fits : frame_words * suc w.top ≤ length w.frames
    pub newest : Frame w.frames w.top (where_in m region_at cell_at) w.goal e
    pub waiting : Waits w.frames (where_in m region_at cell_at) e.frame.procedure e.frame.arguments w.top fs

  -- ---- one is open: u is the newest frame, with the condition's own goals; a failing test goes on with e, at record j, and memory n
  pub record Inside (w : Kept) (u : RegionFrame) (fs : List RegionFrame) (m : Memory) (j : ℕ) (e : RegionFrame) (n : Memory) : Type 0 where
    pub region_at : ℕ → ℕ
    pub cell_at : ℕ → ℕ
    pub region_was : ℕ → ℕ
    pub cell_was : ℕ → ℕ
    pub memory : Opened K w.store w.log w.count n m region_at cell_at
    pub newest : Frame w.frames w.top (where_in m region_at cell_at) w.goal u
    pub waiting : Waits w.frames (where_in m region_at cell_at) u.frame.procedure u.frame.arguments w.top fs
    pub back : Back Frame Waits w.frames w.own w.top j (where_in n region_was cell_was) (where_in m region_at cell_at) e fs

  -- ---- a try: the condition's first goal is at record i, the else part's at j; t and e are the frame with those goals
  unfoldable pub tries_at : Kept → ℕ → Kept
  tries_at w i =
      record { store = w.store; log = w.log; count = 0; own = saved_frame w.top w.frames w.own; frames = w.frames; top = w.top; goal = i }

  pub try_opens : {w : Kept} {f t e : RegionFrame} {fs : List RegionFrame} {m : Memory} {i j : ℕ} (O : Outside w f fs m) → regions_end < length w.own
      → Frame w.frames w.top (where_in m O.region_at O.cell_at) i t → Frame w.frames w.top (where_in m O.region_at O.cell_at) j e
      → (t.frame.procedure ≡ f.frame.procedure) × (t.frame.arguments ≡ f.frame.arguments)
      → (e.frame.procedure ≡ f.frame.procedure) × (e.frame.arguments ≡ f.frame.arguments)
      → Inside (tries_at w i) t fs m j e m
  unfolding tries_at
  try_opens {w} {e = e} {fs = fs} {m = m} {j = j} O room T E st se = record {
    region_at = O.region_at;
    cell_at = O.cell_at;
    region_was = O.region_at;
    cell_was = O.cell_at;
    memory = opens w.log O.memory;
    newest = T;
    waiting = rw (st.0, st.1) O.waiting;
    back =
        saves Frame Waits w.frames w.own w.top j (where_in m O.region_at O.cell_at) e fs room O.fits E
        (rw (se.0, se.1) O.waiting);
  }

  module _ {w : Kept} {u : RegionFrame} {fs : List RegionFrame} {m : Memory} {j : ℕ} {e : RegionFrame} {n : Memory} (I : Inside w u fs m j e n) where
    abbrev L : Where
    L = where_in m I.region_at I.cell_at

    -- ---- a failing test: "the else part begins with variables, regions and cells exactly as before the condition"
    pub test_fails : Outside (fails_to w j) e fs (restored n m)
    unfolding fails_to restored
    test_fails = record {
      region_at = I.region_at;
      cell_at = I.cell_at;
      memory = fails I.memory;
      fits = omega (arith, I.back.fits, put_fits w.top w.own w.frames);
      newest = back_frame Frame Waits I.back Q;
      waiting = back_waiting Frame Waits I.back Q;
    }

    -- ---- the condition ends: record i has what follows, and f is the frame with those goals
    pub condition_ends : (i : ℕ) (f : RegionFrame) → Frame w.frames w.top L i f
        → (f.frame.procedure ≡ u.frame.procedure) × (f.frame.arguments ≡ u.frame.arguments) → Outside (ends_to w i) f fs m
    unfolding ends_to
    condition_ends i f F sf = record {
      region_at = I.region_at;
      cell_at = I.cell_at;
      memory = ends I.memory;
      fits = I.back.fits;
      newest = F;
      waiting = rw (sf.0, sf.1) I.waiting;
    }

    -- ---- a goal that gives a variable, or none: word x of the frame changes
    pub gives_inside : (i x v : ℕ) (f : RegionFrame) → 1 ≤ x → x ≤ regions_end → Frame (set w.frames (frame_words * w.top + x) v) w.top L i f
        → Waits (set w.frames (frame_words * w.top + x) v) L f.frame.procedure f.frame.arguments w.top fs → Inside (gives_to w i x v) f fs m j e n
    unfolding gives_to
    gives_inside i x v f l h F W = record {
      region_at = I.region_at;
      cell_at = I.cell_at;
      region_was = I.region_was;
      cell_was = I.cell_was;
      memory = I.memory;
      newest = F;
      waiting = W;
      back = still_back Frame Waits I.back x v l h;
    }

    -- ---- a goal that changes no word, and one that changes words of variables only
    pub goes_inside : (i : ℕ) (f : RegionFrame) → Frame w.frames w.top L i f
        → (f.frame.procedure ≡ u.frame.procedure) × (f.frame.arguments ≡ u.frame.arguments)
        → Inside (record { store = w.store; log = w.log; count = w.count; own = w.own; frames = w.frames; top = w.top; goal = i }) f fs m j e n
    goes_inside i f F sf = record {
      region_at = I.region_at;
      cell_at = I.cell_at;
      region_was = I.region_was;
      cell_was = I.cell_was;
      memory = I.memory;
      newest = F;
      waiting = rw (sf.0, sf.1) I.waiting;
      back = I.back;
    }

    pub words_inside : (i : ℕ) (fw : List ℕ) (f : RegionFrame) → Frame fw w.top L i f → Waits fw L f.frame.procedure f.frame.arguments w.top fs
        → Back Frame Waits fw w.own w.top j (where_in n I.region_was I.cell_was) L e fs
        → Inside (record { store = w.store; log = w.log; count = w.count; own = w.own; frames = fw; top = w.top; goal = i }) f fs m j e n
    words_inside i fw f F W S = record {
      region_at = I.region_at;
      cell_at = I.cell_at;
      region_was = I.region_was;
      cell_was = I.cell_was;
      memory = I.memory;
      newest = F;
      waiting = W;
      back = S;
    }

    module _ (room : w.count < length w.log) where
      -- ---- a remove: one word of the log
      pub remove_inside : (i r : ℕ) (f : RegionFrame) → m.alive r ≡ true → Frame w.frames w.top L i f
          → (f.frame.procedure ≡ u.frame.procedure) × (f.frame.arguments ≡ u.frame.arguments)
          → Inside (logs_to w w.store w.frames i (entry (I.region_at r) removed_at)) f fs (without_region m r) j e n
      unfolding logs_to without_region
      remove_inside i r f l F sf = record {
        region_at = I.region_at;
        cell_at = I.cell_at;
        region_was = I.region_was;
        cell_was = I.cell_was;
        memory = removes_later I.memory room r l;
        newest = F;
        waiting = rw (sf.0, sf.1) I.waiting;
        back = I.back;
      }

      -- ---- a create of region number x, and a construct of variable x: the goal's own frame comes from its premises, once more is made
      pub later_region : (p : ℕ) → Later L (where_in (with_region m) (put I.region_at (suc m.made) p) I.cell_at)
      unfolding with_region
      later_region p = record {
        same_cells = λ i l. refl;
        more_cells = omega arith;
        same_regions = λ s l. put_other I.region_at (suc m.made) p s (λ z. omega arith);
        more_regions = omega arith;
      }

      pub later_cell : (c : RegionCell) (p : ℕ) → Later L (where_in (with_cell m c) I.region_at (put I.cell_at (length m.cells) p))
      unfolding with_cell
      later_cell c p = record {
        same_cells = λ i l. put_other I.cell_at (length m.cells) p i (λ z. omega arith);
        more_cells = omega (arith, built_length m c);
        same_regions = λ s l. refl;
        more_regions = omega arith;
      }

      module _ (i x : ℕ) (f : RegionFrame) (l : 1 ≤ x) (h : x ≤ regions_end) where
        -- the frame and those that wait, once word x is stored and places are L'
        abbrev Stored-ok : ℕ → Where → Type 0
        Stored-ok p L' =
            Frame (set w.frames (frame_words * w.top + x) p) w.top L' i f
            × Waits (set w.frames (frame_words * w.top + x) p) L' f.frame.procedure f.frame.arguments w.top fs

        pub create_inside : (p : ℕ) (g : Heap) (rs : List ℕ)
            → Opened K (stored g w.store.cells rs) (set w.log w.count (entry p made_at)) (suc w.count) n (with_region m) (put I.region_at (suc m.made) p) I.cell_at
            → Stored-ok p (where_in (with_region m) (put I.region_at (suc m.made) p) I.cell_at)
            → Inside (logs_to w (stored g w.store.cells rs) (set w.frames (frame_words * w.top + x) p) i (entry p made_at)) f fs (with_region m) j e n
        unfolding logs_to
        create_inside p g rs O S = record {
          region_at = put I.region_at (suc m.made) p;
          cell_at = I.cell_at;
          region_was = I.region_was;
          cell_was = I.cell_was;
          memory = O;
          newest = S.0;
          waiting = S.1;
          back = still_back Frame Waits (later_on Frame Waits I.back (later_region p)) x p l h;
        }

        pub construct_inside : (r : ℕ) (c : Cell) (p : ℕ) (g : Heap) (ms rs : List ℕ)
            → Opened K (stored g ms rs) (set w.log w.count (entry (I.region_at r) built_in)) (suc w.count) n (with_cell m (record { cell = c; region = r })) I.region_at
            (put I.cell_at (length m.cells) p)
            → Stored-ok p (where_in (with_cell m (record { cell = c; region = r })) I.region_at (put I.cell_at (length m.cells) p))
            → Inside (logs_to w (stored g ms rs) (set w.frames (frame_words * w.top + x) p) i (entry (I.region_at r) built_in)) f fs (with_cell m (record { cell = c; region = r })) j e n
        unfolding logs_to
        construct_inside r c p g ms rs O S = record {
          region_at = I.region_at;
          cell_at = put I.cell_at (length m.cells) p;
          region_was = I.region_was;
          cell_was = I.cell_was;
          memory = O;
          newest = S.0;
          waiting = S.1;
          back = still_back Frame Waits (later_on Frame Waits I.back (later_cell (record { cell = c; region = r }) p)) x p l h;
        }
