-- The run stands at its start; and few cells and regions are held wherever it stands.
use Rattle.std.specs.Prelude.{ℕ, ◌-◌, ◌≤◌, ◌<◌, ◌≡◌, List, length, Ok}
use native.Mathlib.Omega.{arith}
use Rattle.std.proofs.Math.Path.{refl}
use Rattle.std.proofs.Common.{lt-ltb}
use Rattle.language.specs.Lists.{up_from}
use Rattle.language.specs.AcceptedRun.{RegionFrame, Memory, start, state}
use Rattle.language.specs.AcceptedRun as Run
use Rattle.language.specs.Program.{Goals}
use Rattle.language.specs.Frames.{opened}
use Rattle.language.specs.Machine.{Lent, Room, holds, room_in, cells_held, count_alive, regions_held, counted_in, outlook}
use Rattle.language.specs.Machine as D
use Rattle.language.specs.Answers.{program, checked}
use Rattle.memory.specs.declared.Heap.{Heap}
use Rattle.memory.specs.Memory.{most}
use Rattle.memory.specs.Log.{Stored}
use Rattle.word_machine.specs.Tables.{Tables, Tabled}
use Rattle.word_machine.specs.Machine.{frame_words, start_words, lent_words}
use Rattle.word_machine.proofs.Theorem.{accepted_program, accepted_formed, accepted_conditions}
use Rattle.heap.specs.Represents.{Represents}
use Rattle.heap.proofs.UndoingLaws.{closed_by}
use Rattle.heap.proofs.Conditions.{Opened, held_alive, same_made, same_cells}
use Rattle.heap.proofs.LoggedLaws.{cells_counted, regions_counted}
use Rattle.word_machine.specs.InCondition.{open_state}
use Rattle.word_machine.proofs.WholeRun.{agrees, agrees_in, start_agrees}
use Rattle.profiling.specs.declared.Counts.{Counts}
use Rattle.profiling.specs.Counting.{counts_in, same_counts}
use Rattle.profiling.specs.Taking.{saved_in}
use Rattle.profiling.specs.Tallying.{Tally, tally_in, alike, Covers, fewer_left, shut_tally, open_tally}
use Rattle.profiling.specs.Standing.{Stand, outside, AgreesAt, agrees_out, agrees_inside, StandsAfter}

-- ---- the entry's frame alone
module _ {f : List ℕ} (e : checked f ≡ Ok tt) {T : Tables} (B : Tabled f T) (m rs fw ps : List ℕ) (l : ℕ) (some : 0 < holds (length fw) frame_words) where
  abbrev lent : Lent
  lent = lent_words m rs fw ps l

  whole_run : D.run (program f) lent ≡ D.run_on (program f) (room_in lent) (lent.steps - 0) (outlook (room_in lent) (Run.steps (program f) 0)) 0 (Run.steps (program f) 0)
  unfolding D.run D.run_from Run.steps room_in lent_words
  whole_run = let z : l - 0 ≡ l = omega arith in rw (lt-ltb 0 (holds (length fw) frame_words) some, z)

  none_held : alike (record { cells = 0; regions = 0 }) ≡ tally_in (Run.steps (program f) 0)
  unfolding tally_in D.counted counted_in saved_in counts_in Run.steps start state cells_held regions_held count_alive up_from
  none_held = refl

  room_some : 0 < (room_in lent).frames
  unfolding room_in lent_words
  room_some = some

  pub stands_first : StandsAfter f T lent 0 (outside (start_words f T m rs fw ps)) (alike (record { cells = 0; regions = 0 }))
  stands_first = record {
    tabled = B;
    accepted = accepted_program f e;
    formed = accepted_formed f e;
    conditions = accepted_conditions f e;
    prints = ps;
    words = agrees_out (start_agrees B (accepted_program f e) (accepted_formed f e) (room_in lent) ps m rs fw l refl room_some);
    tally = none_held;
    whole = whole_run;
  }

-- ---- few of each are held
abbrev pub Few : Counts → Type 0
Few c = (c.cells ≤ most) × (c.regions ≤ most)

few_in : (lent : Lent) {h : Heap} {m rs : List ℕ} {M : Memory} {ρ χ : ℕ → ℕ} → Represents (room_in lent) h m rs M ρ χ → Few (counts_in M)
unfolding room_in holds counts_in
few_in lent R = let L = R.labelled in (omega (arith, L.cell_count, L.cell_pool.high, R.cell_room), omega (arith, L.region_count, L.region_pool.high, R.region_room))

-- in an open condition the words stand for what counts
module _ {k : Room} {s : Stored} {log : List ℕ} {i : ℕ} {n m : Memory} {ρ χ : ℕ → ℕ} (O : Opened k s log i n m ρ χ) where
  counts_of : (a : Goals) (e : RegionFrame) → counts_in (counted_in (opened a e n) m) ≡ counts_in O.held
  unfolding counts_in
  counts_of a e = same_counts (cells_counted O.logged (closed_by O.stands) a e) (regions_counted O.logged (closed_by O.stands) a e)

  covered : Covers O.held m
  covered = record { made = same_made O; cells = same_cells O; alive = held_alive O }

few_less : {a b : Counts} → (a.cells ≤ b.cells) × (a.regions ≤ b.regions) → Few b → Few a
few_less l h = (omega (arith, l.0, h.0), omega (arith, l.1, h.1))

module _ {f : List ℕ} {T : Tables} {lent : Lent} {n : ℕ} {w : Stand} {t : Tally} (H : StandsAfter f T lent n w t) where
  -- what is held, and what of it a condition has left
  pub few_held : Few t.held × Few t.left
  few_held = rw H.tally (few H.words)
    where
      few : {w : Stand} → AgreesAt H.tabled H.accepted H.formed (room_in lent) H.prints n w
          → Few (tally_in (Run.steps (program f) n)).held × Few (tally_in (Run.steps (program f) n)).left
      few (agrees_out (agrees c r s)) = let d = few_in lent s.represents in rw (shut_tally (Run.steps (program f) n) c) (d, d)
      few (agrees_inside (agrees_in {t = u} {fs = fs} {m = m} {a = a} {e = e} {o = o} p j J)) =
          let O = J.inside.memory in
          let d = few_in lent O.stands in
          let q = counts_of O a e in
          rw (p, open_tally (open_state u fs m a e o) a e o refl) (rw q d, few_less (fewer_left O.held m (covered O)) d)
