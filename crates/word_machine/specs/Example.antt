-- The word machine computed on hand-sized files.
use Rattle.std.specs.Prelude.{ℕ, ◌≡◌, refl, List, [], ◌∷◌, map, pos, negsuc, take, replicate}
use Rattle.std.specs.Int.{w32}
use Rattle.std.proofs.Common.{to_z}
use Rattle.language.specs.declared.Ending.TheVariants.{Finished, Stopped}
use Rattle.language.specs.declared.Stop.TheVariants.{Steps, Cells, Frames, Sums}
use Rattle.language.specs.Machine.{Run}
use Rattle.language.specs.Computing.{computing}
use Rattle.language.specs.Table.{eight, rows, file, new_u, number_variables, doublings, to_the_ends, over}
use Rattle.chains.specs.Layout.Steps
use Rattle.records.specs.Records.{record_at}
use Rattle.chains.specs.Formed.{arguments_at}
use Rattle.chains.specs.Fields.{field_of}
use Rattle.chains.specs.Records.{records_up_to, chain_records}
use Rattle.memory.specs.Memory as Memory
use Rattle.word_machine.specs.Tables.{onto, slot_of, given_of}
use Rattle.word_machine.specs.Passing.{packed, of_mode}
use Rattle.owners.specs.Handed.{words_open, next_and, hand_to, words_of, given, hand_down, handed_up_to, handed}
use Rattle.owners.specs.Owner.{owner_by, owners_of, owner_of}
use Rattle.word_machine.specs.Filling.{parts_onward, onward_by, matched, matched_at, matches, onwards, slots, modes, tables_of}
use Rattle.word_machine.specs.Machine as M

unfoldable pub opened : Unit {0}
unfolding computing slot_of given_of packed of_mode Steps.arguments_at arguments_at record_at field_of records_up_to chain_records onto words_open next_and hand_to words_of given hand_down handed_up_to handed owner_by owners_of owner_of parts_onward onward_by matched matched_at matches onwards slots modes tables_of Memory.unused Memory.taken Memory.empty_heap Memory.created_of Memory.created_regions_of Memory.created Memory.created_regions Memory.filled Memory.hung Memory.built_of Memory.built_cells_of Memory.built_regions_of Memory.built Memory.built_cells Memory.built_regions Memory.removed Memory.removed_cells Memory.removed_regions M.literal_word M.sum_of_words M.copied M.cleared M.blocks M.arm_of M.gives_each M.with_frames M.given M.value_of M.region_for M.if_room M.sums M.term_of M.contents_of M.constructed_by M.constructed M.constructs M.created_by M.makes_region M.drops_region M.prints_word M.arm_words M.enters_arm M.switches_on M.switches M.values_in M.regions_in M.callee_words M.calls M.values_out M.regions_out M.return_words M.returned M.settled_from M.settled M.settled_if M.steps M.stepped M.ended_with M.after_step M.run_on M.start_words M.no_frame M.run_from M.lent_words M.word_run
opened = tt

-- what a run ended with and printed
unfoldable pub outcome : M.Outcome → Run
outcome r = record { ending = r.ending; steps = r.done; printed = map (to_z w32) (take r.words.printed r.words.prints) }

-- the run of a file in so many words for cells, regions, frames and printed numbers, whatever stands in them
unfoldable pub tried : List ℕ → ℕ → ℕ → ℕ → ℕ → ℕ → Run
tried f c r k p l = outcome (M.word_run f (tables_of f) (replicate c 77) (replicate r 78) (replicate k 79) (replicate p 80) l)

-- a constant takes no cell and no region
pub new_u_run : tried new_u 0 0 136 2 10 ≡ record { ending = Finished; steps = 1; printed = [] }
unfolding opened outcome tried eight rows file new_u
new_u_run = refl

pub new_u_steps : tried new_u 0 0 136 2 0 ≡ record { ending = Stopped Steps; steps = 0; printed = [] }
unfolding opened outcome tried eight rows file new_u
new_u_steps = refl

pub new_u_frames : tried new_u 16 4 135 2 0 ≡ record { ending = Stopped Frames; steps = 0; printed = [] }
unfolding opened outcome tried eight rows file new_u
new_u_frames = refl

-- 2,147,483,647 + 1: the run stops before that step, all steps before it done. Sums and differences at both ends of the range go on
pub over_sums : tried over 0 0 136 2 30 ≡ record { ending = Stopped Sums; steps = 21; printed = pos 2147483647 ∷ [] }
unfolding opened outcome tried eight rows file number_variables doublings to_the_ends over
over_sums = refl

pub over_steps : tried over 0 0 136 2 21 ≡ record { ending = Stopped Steps; steps = 21; printed = pos 2147483647 ∷ [] }
unfolding opened outcome tried eight rows file number_variables doublings to_the_ends over
over_steps = refl

pub both_ends : tried (to_the_ends 0 0 19 20) 0 0 136 3 30 ≡ record { ending = Finished; steps = 25; printed = pos 2147483647 ∷ pos 2147483647 ∷ negsuc 2147483647 ∷ [] }
unfolding opened outcome tried eight rows file number_variables doublings to_the_ends
both_ends = refl

-- a program with recursion: `make` bears a list, `show` prints it and keeps it, `drop` prints it again and ends its region
unfoldable pub listed : List ℕ
listed =
    file (
    (1 ∷ 4 ∷ 1 ∷ 61 ∷ []) ∷ (2 ∷ 0 ∷ 2 ∷ []) ∷ (3 ∷ 3 ∷ []) ∷ (3 ∷ 0 ∷ 2 ∷ 0 ∷ 1 ∷ []) ∷ (4 ∷ 17 ∷ 5 ∷ 7 ∷ 9 ∷ []) ∷ (5 ∷ 6 ∷ []) ∷
    (5 ∷ 0 ∷ 0 ∷ 1 ∷ 1 ∷ []) ∷ (6 ∷ 0 ∷ 1 ∷ 0 ∷ 8 ∷ []) ∷ (7 ∷ 0 ∷ 1 ∷ 2 ∷ 1 ∷ []) ∷ (8 ∷ 10 ∷ 1 ∷ 2 ∷ []) ∷ (15 ∷ 13 ∷ 1 ∷ 11 ∷ []) ∷
    (16 ∷ 12 ∷ 1 ∷ []) ∷ (16 ∷ 0 ∷ 2 ∷ []) ∷ (15 ∷ 15 ∷ 2 ∷ 14 ∷ []) ∷ (16 ∷ 0 ∷ 2 ∷ []) ∷ (15 ∷ 0 ∷ 3 ∷ 16 ∷ []) ∷ (16 ∷ 0 ∷ 2 ∷ []) ∷
    (4 ∷ 36 ∷ 18 ∷ 24 ∷ 26 ∷ []) ∷ (5 ∷ 19 ∷ 1 ∷ []) ∷ (5 ∷ 20 ∷ 2 ∷ 1 ∷ 1 ∷ []) ∷ (5 ∷ 21 ∷ []) ∷ (5 ∷ 22 ∷ []) ∷ (5 ∷ 23 ∷ []) ∷
    (5 ∷ 0 ∷ 0 ∷ 1 ∷ 1 ∷ []) ∷ (6 ∷ 0 ∷ 1 ∷ 1 ∷ 25 ∷ []) ∷ (7 ∷ 0 ∷ 1 ∷ 2 ∷ 1 ∷ []) ∷ (8 ∷ 27 ∷ 3 ∷ []) ∷
    (14 ∷ 0 ∷ 3 ∷ 1 ∷ 28 ∷ 34 ∷ []) ∷ (8 ∷ 29 ∷ 4 ∷ 1 ∷ []) ∷ (9 ∷ 30 ∷ 5 ∷ 1 ∷ 1 ∷ 4 ∷ []) ∷ (15 ∷ 33 ∷ 1 ∷ 31 ∷ []) ∷
    (16 ∷ 32 ∷ 5 ∷ []) ∷ (16 ∷ 0 ∷ 6 ∷ []) ∷ (11 ∷ 0 ∷ 2 ∷ 1 ∷ 1 ∷ 6 ∷ []) ∷ (18 ∷ 35 ∷ 1 ∷ []) ∷ (11 ∷ 0 ∷ 2 ∷ []) ∷
    (4 ∷ 48 ∷ 37 ∷ 40 ∷ 42 ∷ []) ∷ (5 ∷ 38 ∷ 1 ∷ 1 ∷ 1 ∷ []) ∷ (5 ∷ 39 ∷ []) ∷ (5 ∷ 0 ∷ 0 ∷ 1 ∷ 1 ∷ []) ∷ (6 ∷ 0 ∷ 1 ∷ 0 ∷ 41 ∷ []) ∷
    (7 ∷ 0 ∷ 1 ∷ 2 ∷ 1 ∷ []) ∷ (12 ∷ 0 ∷ 1 ∷ 43 ∷ []) ∷ (13 ∷ 44 ∷ []) ∷ (13 ∷ 0 ∷ 45 ∷ 1 ∷ 2 ∷ 3 ∷ []) ∷ (17 ∷ 46 ∷ 2 ∷ []) ∷
    (15 ∷ 0 ∷ 2 ∷ 47 ∷ []) ∷ (16 ∷ 0 ∷ 3 ∷ []) ∷ (4 ∷ 0 ∷ 49 ∷ 52 ∷ 54 ∷ []) ∷ (5 ∷ 50 ∷ 1 ∷ 1 ∷ 1 ∷ []) ∷ (5 ∷ 51 ∷ []) ∷
    (5 ∷ 0 ∷ 0 ∷ 1 ∷ 1 ∷ []) ∷ (6 ∷ 0 ∷ 1 ∷ 2 ∷ 53 ∷ []) ∷ (7 ∷ 0 ∷ 1 ∷ 2 ∷ 1 ∷ []) ∷ (12 ∷ 0 ∷ 1 ∷ 55 ∷ []) ∷ (13 ∷ 57 ∷ 56 ∷ []) ∷
    (19 ∷ 0 ∷ 1 ∷ []) ∷ (13 ∷ 0 ∷ 58 ∷ 1 ∷ 2 ∷ 3 ∷ []) ∷ (17 ∷ 59 ∷ 2 ∷ []) ∷ (15 ∷ 0 ∷ 3 ∷ 60 ∷ []) ∷ (16 ∷ 0 ∷ 3 ∷ []) ∷ [])

pub listed_run : tried listed 80 8 1360 8 100 ≡ record { ending = Finished; steps = 35; printed = pos 2 ∷ pos 1 ∷ pos 2 ∷ pos 1 ∷ [] }
unfolding opened outcome tried eight rows file listed
listed_run = refl

-- the list has a constant and two cells: there is room for one
pub listed_cells : tried listed 15 8 1360 8 100 ≡ record { ending = Stopped Cells; steps = 17; printed = [] }
unfolding opened outcome tried eight rows file listed
listed_cells = refl
