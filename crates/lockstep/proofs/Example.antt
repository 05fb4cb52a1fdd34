-- The definitions computed on a small program: create, construct, print, remove. After 4 steps 2 were spent, the plain run has done 2,
-- and both have ended with the same number printed.
use Rattle.std.specs.Prelude.{◌≡◌, refl, true, false, ◌∷◌, map, ℕ, zero, suc, pos, []}
use Rattle.language.specs.Program.{four, literal, sum, construct, print, create, remove, Goals, done, ◌then◌, step, Program}
use Rattle.language.specs.Frames.{stays_at_sum}
use Rattle.language.specs.PlainRun.{stripped, plain_steps}
use Rattle.language.specs.AcceptedRun.{frame_of, steps}
use Rattle.language.specs.Computing.{computing}
use Rattle.lockstep.specs.Counted.{is_plain, first_goal, next_in, next_goal, price, price_of, spends, spent}
use Rattle.lockstep.proofs.Erase.{erase_frame, erase_condition, erase_frames, erase}

-- a type with one functor, of one argument; a procedure whose variable 1 has it, with a region
unfoldable entry_of : Goals → Program
entry_of gs = record {
  types = (record { arity = 1; argument_types = four 0 0 0 0 } ∷ []) ∷ [];
  procedures =
      record {
        signature = record {
          variables = record { mode = 0; type = 1; region = 1 } ∷ record { mode = 0; type = 0; region = 0 } ∷ [];
          regions = record { type = 1; class = 0; edges = [] } ∷ [];
        };
        body = gs;
      }
      ∷ [];
}

unfoldable small : Program
small = entry_of (step (create 1) then step (construct 1 0 (four 2 0 0 0)) then step (print 2) then step (remove 1) then done)

small_counted : (spent small 1 ≡ 1) × (spent small 3 ≡ 1) × (spent small 4 ≡ 2) × (spent small 5 ≡ 2)
unfolding computing entry_of small is_plain first_goal next_in next_goal price price_of spends spent
small_counted = (refl, refl, refl, refl)

small_ended : ((steps small 4).frames ≡ []) × ((plain_steps (stripped small) 2).frames ≡ []) × ((steps small 4).memory.printed ≡ pos 0 ∷ [])
unfolding computing entry_of small
small_ended = (refl, refl, refl)

-- the plain run's frame goes with its last goal, before the remove
small_erased : ((erase small (steps small 3)).frames ≡ []) × ((erase small (steps small 3)).printed ≡ pos 0 ∷ [])
unfolding computing entry_of small erase_frame erase_condition erase_frames erase
small_erased = (refl, refl)

-- A sum out of range: create, then 32,767 in variable 2, doubled until it is too much. After 18 steps, 1 of them spent, the run is at the seventeenth sum;
-- the plain run is there after 17. Both stay there, the region alive and nothing printed.
unfoldable doubled : ℕ → ℕ → Goals → Goals
doubled zero x gs = gs
doubled (suc n) x gs = step (sum (suc x) 0 x x) then doubled n (suc x) gs

unfoldable doubling : Program
doubling = entry_of (step (create 1) then step (literal 2 32767) then doubled 17 2 (step (print 19) then step (remove 1) then done))

doubling_stays :
    (stays_at_sum (map frame_of (steps doubling 17).frames) ≡ false) × (stays_at_sum (map frame_of (steps doubling 18).frames) ≡ true)
    × (stays_at_sum (map frame_of (steps doubling 30).frames) ≡ true) × ((steps doubling 30).memory.alive 1 ≡ true) × ((steps doubling 30).memory.printed ≡ [])
unfolding computing entry_of doubled doubling
doubling_stays = (refl, refl, refl, refl, refl)

doubling_plain :
    (spent doubling 18 ≡ 1) × (stays_at_sum (plain_steps (stripped doubling) 16).frames ≡ false) × (stays_at_sum (plain_steps (stripped doubling) 17).frames ≡ true)
unfolding computing entry_of doubled doubling is_plain first_goal next_in next_goal price price_of spends spent
doubling_plain = (refl, refl, refl)
