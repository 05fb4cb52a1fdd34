-- "The machine": the accepted file's run in lent memory, with document 01's stops.
use Rattle.std.specs.Prelude.{ℕ, zero, suc, ◌+◌, ◌*◌, ◌/◌, min, Bool, true, false, List, [], ◌∷◌, map, ltb, ℤ, length}
use Rattle.sets.specs.Tests.{◌or◌}
use Rattle.language.specs.declared.Stop.{Stop}
use Rattle.language.specs.declared.Stop.TheVariants.{Steps, Cells, Places, Frames, Prints, Sums}
use Rattle.language.specs.declared.Ending.{Ending}
use Rattle.language.specs.declared.Ending.TheVariants.{Finished, Stopped}
use Rattle.language.specs.Lists.{one, up_from, front_written, is_none}
use Rattle.language.specs.Numbers.{residue}
use Rattle.language.specs.Program.{arguments_of, literal, sum, assign, construct, call, print, create, remove, test, Goals, done, ◌then◌, Goal, step, switch, if_less, try, Program}
use Rattle.language.specs.Frames.{Condition, closed, opened, fits_step}
use Rattle.language.specs.AcceptedRun.{RegionFrame, RegionCell, Memory, State, start, step_of}

-- what is lent: words of memory for each sort, and steps
pub record Lent : Type 0 where
  pub cell_words : ℕ
  pub region_words : ℕ
  pub frame_words : ℕ
  pub print_words : ℕ
  pub steps : ℕ

-- "The runner program has 1,024 cells, 1,024 regions, 100 frames, 1,024 prints, 1,000,000 steps."
unfoldable pub runner_lent : Lent
runner_lent = record { cell_words = 8 * 1024; region_words = 2 * 1024; frame_words = 136 * 100; print_words = 1024; steps = 1000000 }

-- how many of each sort the lent words hold
pub record Room : Type 0 where
  pub cells : ℕ
  pub regions : ℕ
  pub frames : ℕ
  pub prints : ℕ

-- "a remainder too small for one is not used, and more than 65,535 of a sort count as 65,535"
unfoldable pub holds : ℕ → ℕ → ℕ
holds words each = min (words / each) 65535

-- "Lent 32-bit words hold: 8 a cell, 2 a region, 136 a frame, 1 a printed number"
unfoldable pub room_in : Lent → Room
room_in l = record { cells = holds l.cell_words 8; regions = holds l.region_words 2; frames = holds l.frame_words 136; prints = holds l.print_words 1 }

-- "A removed region's cells and its own place serve later steps": cells of living regions, and living regions
unfoldable pub cells_held : (ℕ → Bool) → List RegionCell → ℕ
cells_held alive [] = 0
cells_held alive (c ∷ cs) = one (alive c.region) + cells_held alive cs

unfoldable pub count_alive : (ℕ → Bool) → List ℕ → ℕ
count_alive alive [] = 0
count_alive alive (k ∷ ks) = one (alive k) + count_alive alive ks

unfoldable pub regions_held : Memory → ℕ
regions_held m = count_alive m.alive (up_from 1 m.made)

-- "A removal in a condition frees nothing before the then part begins, and until then its cells and place count as held" (C-20): the memory as it
-- counts, in a condition with the regions that were alive before it and all that it made
unfoldable pub counted_in : Condition RegionFrame Memory → Memory → Memory
counted_in closed m = m
counted_in (opened a e n) m = record { cells = m.cells; made = m.made; alive = λ k. n.alive k or ltb n.made k; printed = m.printed }

unfoldable pub counted : State → Memory
counted s = counted_in s.condition s.memory

-- what can be said before a step: the run has ended, the step can be done, or there is a cause to stop
pub data Outlook : Type 0 where
  ended : Outlook
  goes : Outlook
  lacks : Stop → Outlook

-- there is room, or the run stops for want of it; likewise for a number in range
unfoldable pub room_or : Bool → Stop → Outlook
room_or true c = goes
room_or false c = lacks c

-- "11 no free cell, 12 no free region, 13 no free frame, 14 no place for a printed number"; for a constant "stop 11 is never given" (C-14). "The
-- new stop is 15, given for nothing else" (C-15). f is the newest frame
unfoldable pub outlook_for : Room → Goal → RegionFrame → State → Outlook
outlook_for k (step (literal x v)) f s = goes
outlook_for k (step (sum x o y z)) f s = room_or (fits_step (sum x o y z) f.frame) Sums
outlook_for k (step (assign x y)) f s = goes
outlook_for k (step (construct x t ys)) f s =
    room_or (is_none (arguments_of ys) or ltb (cells_held (counted s).alive (counted s).cells) k.cells) Cells
outlook_for k (step (call q ys)) f s = room_or (ltb (length s.frames) k.frames) Frames
outlook_for k (step (print y)) f s = room_or (ltb (length s.memory.printed) k.prints) Prints
outlook_for k (step (create r)) f s = room_or (ltb (regions_held (counted s)) k.regions) Places
outlook_for k (step (remove r)) f s = goes
outlook_for k (step (test y z)) f s = goes
outlook_for k (switch x cs) f s = goes
outlook_for k (if_less y z a b) f s = goes
outlook_for k (try c a b) f s = goes

-- .. before the next goal of the newest frame; a run without a frame has ended
unfoldable pub outlook_in : Room → Goals → RegionFrame → State → Outlook
outlook_in k done f s = goes
outlook_in k (g then gs) f s = outlook_for k g f s

unfoldable pub outlook_at : Room → List RegionFrame → State → Outlook
outlook_at k [] s = ended
outlook_at k (f ∷ fs) s = outlook_in k f.frame.goals f s

unfoldable pub outlook : Room → State → Outlook
outlook k s = outlook_at k s.frames s

-- "It returns the number and steps done", and the numbers printed
pub record Run : Type 0 where
  pub ending : Ending
  pub steps : ℕ
  pub printed : List ℤ

-- a run that ends in state s after n steps
unfoldable pub ended_with : Ending → ℕ → State → Run
ended_with e n s = record { ending = e; steps = n; printed = s.memory.printed }

-- "an ended run is finished before 10 is looked at"; "Before a step the lower of two numbers is given." l steps are left, n are done
unfoldable pub run_on : Program → Room → ℕ → Outlook → ℕ → State → Run
run_on P k zero ended n s = ended_with Finished n s
run_on P k zero goes n s = ended_with (Stopped Steps) n s
run_on P k zero (lacks c) n s = ended_with (Stopped Steps) n s
run_on P k (suc l) ended n s = ended_with Finished n s
run_on P k (suc l) goes n s = let t = step_of P s in run_on P k l (outlook k t) (suc n) t
run_on P k (suc l) (lacks c) n s = ended_with (Stopped c) n s

-- "The entry's frame is taken first": where there is none for it, the run stops at once
unfoldable pub run_from : Bool → Program → Room → ℕ → Run
run_from true P k l = run_on P k l (outlook k (start P)) 0 (start P)
run_from false P k l = ended_with (Stopped Frames) 0 (start P)

unfoldable pub run : Program → Lent → Run
run P l = run_from (ltb 0 (room_in l).frames) P (room_in l) l.steps

-- The lent places for printed numbers after a run: "printed places past the last keep their contents". A number stands there as its 32-bit word.
unfoldable pub print_places : Run → List ℕ → List ℕ
print_places r before = front_written (map residue r.printed) before
