-- The claims applied to a program with recursion and a born, a kept and a dead region: `make` bears a list, `show` prints it and keeps it, `drop` prints it again and ends its
-- region; the entry calls them in turn.
use Rattle.std.specs.Prelude.{ℕ, List, ◌∷◌, ◌≡◌, refl, pos, [], Ok}
use Rattle.language.specs.declared.Ending.TheVariants.{Finished}
use Rattle.language.specs.Machine.{runner_lent}
use Rattle.language.specs.Answers.{annotated, writes, annotator_bytes, checked, ran}
use Rattle.language.specs.Computing.{computing}
use Rattle.language.specs.Table.{eight, rows, file}
use Rattle.soundness.specs.Statement.{Sound}
use Rattle.soundness.proofs.Demand3.{demand_3, written_accepted}

unfoldable pub source : List ℕ
source =
    file (
    (1 ∷ 4 ∷ 1 ∷ 59 ∷ []) ∷ (2 ∷ 0 ∷ 2 ∷ []) ∷ (3 ∷ 3 ∷ []) ∷ (3 ∷ 0 ∷ 2 ∷ 0 ∷ 1 ∷ []) ∷ (4 ∷ 17 ∷ 5 ∷ 7 ∷ 9 ∷ []) ∷ (5 ∷ 6 ∷ []) ∷
    (5 ∷ 0 ∷ 0 ∷ 1 ∷ 1 ∷ []) ∷ (6 ∷ 0 ∷ 1 ∷ 0 ∷ 8 ∷ []) ∷ (7 ∷ 0 ∷ 1 ∷ 2 ∷ 1 ∷ []) ∷ (8 ∷ 10 ∷ 1 ∷ 2 ∷ []) ∷ (15 ∷ 13 ∷ 1 ∷ 11 ∷ []) ∷
    (16 ∷ 12 ∷ 1 ∷ []) ∷ (16 ∷ 0 ∷ 2 ∷ []) ∷ (15 ∷ 15 ∷ 2 ∷ 14 ∷ []) ∷ (16 ∷ 0 ∷ 2 ∷ []) ∷ (15 ∷ 0 ∷ 3 ∷ 16 ∷ []) ∷ (16 ∷ 0 ∷ 2 ∷ []) ∷
    (4 ∷ 35 ∷ 18 ∷ 24 ∷ 26 ∷ []) ∷ (5 ∷ 19 ∷ 1 ∷ []) ∷ (5 ∷ 20 ∷ 2 ∷ 1 ∷ 1 ∷ []) ∷ (5 ∷ 21 ∷ []) ∷ (5 ∷ 22 ∷ []) ∷ (5 ∷ 23 ∷ []) ∷
    (5 ∷ 0 ∷ 0 ∷ 1 ∷ 1 ∷ []) ∷ (6 ∷ 0 ∷ 1 ∷ 1 ∷ 25 ∷ []) ∷ (7 ∷ 0 ∷ 1 ∷ 2 ∷ 1 ∷ []) ∷ (8 ∷ 27 ∷ 3 ∷ []) ∷
    (14 ∷ 0 ∷ 3 ∷ 1 ∷ 28 ∷ 34 ∷ []) ∷ (8 ∷ 29 ∷ 4 ∷ 1 ∷ []) ∷ (9 ∷ 30 ∷ 5 ∷ 1 ∷ 1 ∷ 4 ∷ []) ∷ (15 ∷ 33 ∷ 1 ∷ 31 ∷ []) ∷
    (16 ∷ 32 ∷ 5 ∷ []) ∷ (16 ∷ 0 ∷ 6 ∷ []) ∷ (11 ∷ 0 ∷ 2 ∷ 1 ∷ 1 ∷ 6 ∷ []) ∷ (11 ∷ 0 ∷ 2 ∷ []) ∷ (4 ∷ 47 ∷ 36 ∷ 39 ∷ 41 ∷ []) ∷
    (5 ∷ 37 ∷ 1 ∷ 1 ∷ 1 ∷ []) ∷ (5 ∷ 38 ∷ []) ∷ (5 ∷ 0 ∷ 0 ∷ 1 ∷ 1 ∷ []) ∷ (6 ∷ 0 ∷ 1 ∷ 0 ∷ 40 ∷ []) ∷ (7 ∷ 0 ∷ 1 ∷ 2 ∷ 1 ∷ []) ∷
    (12 ∷ 0 ∷ 1 ∷ 42 ∷ []) ∷ (13 ∷ 43 ∷ []) ∷ (13 ∷ 0 ∷ 44 ∷ 1 ∷ 2 ∷ 3 ∷ []) ∷ (17 ∷ 45 ∷ 2 ∷ []) ∷ (15 ∷ 0 ∷ 2 ∷ 46 ∷ []) ∷
    (16 ∷ 0 ∷ 3 ∷ []) ∷ (4 ∷ 0 ∷ 48 ∷ 51 ∷ 53 ∷ []) ∷ (5 ∷ 49 ∷ 1 ∷ 1 ∷ 1 ∷ []) ∷ (5 ∷ 50 ∷ []) ∷ (5 ∷ 0 ∷ 0 ∷ 1 ∷ 1 ∷ []) ∷
    (6 ∷ 0 ∷ 1 ∷ 2 ∷ 52 ∷ []) ∷ (7 ∷ 0 ∷ 1 ∷ 2 ∷ 1 ∷ []) ∷ (12 ∷ 0 ∷ 1 ∷ 54 ∷ []) ∷ (13 ∷ 55 ∷ []) ∷ (13 ∷ 0 ∷ 56 ∷ 1 ∷ 2 ∷ 3 ∷ []) ∷
    (17 ∷ 57 ∷ 2 ∷ []) ∷ (15 ∷ 0 ∷ 3 ∷ 58 ∷ []) ∷ (16 ∷ 0 ∷ 3 ∷ []) ∷ [])

unfoldable pub listed : List ℕ
listed =
    file (
    (1 ∷ 4 ∷ 1 ∷ 61 ∷ []) ∷ (2 ∷ 0 ∷ 2 ∷ []) ∷ (3 ∷ 3 ∷ []) ∷ (3 ∷ 0 ∷ 2 ∷ 0 ∷ 1 ∷ []) ∷ (4 ∷ 17 ∷ 5 ∷ 7 ∷ 9 ∷ []) ∷ (5 ∷ 6 ∷ []) ∷
    (5 ∷ 0 ∷ 0 ∷ 1 ∷ 1 ∷ []) ∷ (6 ∷ 0 ∷ 1 ∷ 0 ∷ 8 ∷ []) ∷ (7 ∷ 0 ∷ 1 ∷ 2 ∷ 1 ∷ []) ∷ (8 ∷ 10 ∷ 1 ∷ 2 ∷ []) ∷ (15 ∷ 13 ∷ 1 ∷ 11 ∷ []) ∷
    (16 ∷ 12 ∷ 1 ∷ []) ∷ (16 ∷ 0 ∷ 2 ∷ []) ∷ (15 ∷ 15 ∷ 2 ∷ 14 ∷ []) ∷ (16 ∷ 0 ∷ 2 ∷ []) ∷ (15 ∷ 0 ∷ 3 ∷ 16 ∷ []) ∷ (16 ∷ 0 ∷ 2 ∷ []) ∷
    (4 ∷ 36 ∷ 18 ∷ 24 ∷ 26 ∷ []) ∷ (5 ∷ 19 ∷ 1 ∷ []) ∷ (5 ∷ 20 ∷ 2 ∷ 1 ∷ 1 ∷ []) ∷ (5 ∷ 21 ∷ []) ∷ (5 ∷ 22 ∷ []) ∷ (5 ∷ 23 ∷ []) ∷
    (5 ∷ 0 ∷ 0 ∷ 1 ∷ 1 ∷ []) ∷ (6 ∷ 0 ∷ 1 ∷ 1 ∷ 25 ∷ []) ∷ (7 ∷ 0 ∷ 1 ∷ 2 ∷ 1 ∷ []) ∷ (8 ∷ 27 ∷ 3 ∷ []) ∷
    (14 ∷ 0 ∷ 3 ∷ 1 ∷ 28 ∷ 34 ∷ []) ∷ (8 ∷ 29 ∷ 4 ∷ 1 ∷ []) ∷ (9 ∷ 30 ∷ 5 ∷ 1 ∷ 1 ∷ 4 ∷ []) ∷ (15 ∷ 33 ∷ 1 ∷ 31 ∷ []) ∷
    (16 ∷ 32 ∷ 5 ∷ []) ∷ (16 ∷ 0 ∷ 6 ∷ []) ∷ (11 ∷ 0 ∷ 2 ∷ 1 ∷ 1 ∷ 6 ∷ []) ∷ (18 ∷ 35 ∷ 1 ∷ []) ∷ (11 ∷ 0 ∷ 2 ∷ []) ∷
    (4 ∷ 48 ∷ 37 ∷ 40 ∷ 42 ∷ []) ∷ (5 ∷ 38 ∷ 1 ∷ 1 ∷ 1 ∷ []) ∷ (5 ∷ 39 ∷ []) ∷ (5 ∷ 0 ∷ 0 ∷ 1 ∷ 1 ∷ []) ∷ (6 ∷ 0 ∷ 1 ∷ 0 ∷ 41 ∷ []) ∷
    (7 ∷ 0 ∷ 1 ∷ 2 ∷ 1 ∷ []) ∷ (12 ∷ 0 ∷ 1 ∷ 43 ∷ []) ∷ (13 ∷ 44 ∷ []) ∷ (13 ∷ 0 ∷ 45 ∷ 1 ∷ 2 ∷ 3 ∷ []) ∷ (17 ∷ 46 ∷ 2 ∷ []) ∷
    (15 ∷ 0 ∷ 2 ∷ 47 ∷ []) ∷ (16 ∷ 0 ∷ 3 ∷ []) ∷ (4 ∷ 0 ∷ 49 ∷ 52 ∷ 54 ∷ []) ∷ (5 ∷ 50 ∷ 1 ∷ 1 ∷ 1 ∷ []) ∷ (5 ∷ 51 ∷ []) ∷
    (5 ∷ 0 ∷ 0 ∷ 1 ∷ 1 ∷ []) ∷ (6 ∷ 0 ∷ 1 ∷ 2 ∷ 53 ∷ []) ∷ (7 ∷ 0 ∷ 1 ∷ 2 ∷ 1 ∷ []) ∷ (12 ∷ 0 ∷ 1 ∷ 55 ∷ []) ∷ (13 ∷ 57 ∷ 56 ∷ []) ∷
    (19 ∷ 0 ∷ 1 ∷ []) ∷ (13 ∷ 0 ∷ 58 ∷ 1 ∷ 2 ∷ 3 ∷ []) ∷ (17 ∷ 59 ∷ 2 ∷ []) ∷ (15 ∷ 0 ∷ 3 ∷ 60 ∷ []) ∷ (16 ∷ 0 ∷ 3 ∷ []) ∷ [])

pub source_annotated : annotated source annotator_bytes ≡ writes listed
unfolding computing eight rows file source listed
source_annotated = refl

pub listed_checked : checked listed ≡ Ok tt
unfolding computing eight rows file listed
listed_checked = refl

pub listed_run : ran listed runner_lent ≡ record { ending = Finished; steps = 35; printed = pos 2 ∷ pos 1 ∷ pos 2 ∷ pos 1 ∷ [] }
unfolding computing eight rows file listed
listed_run = refl

-- by the claims, with no further computation
pub listed_sound : Sound listed
listed_sound = demand_3 listed listed_checked

pub listed_written : checked listed ≡ Ok tt
listed_written = written_accepted source annotator_bytes listed source_annotated
