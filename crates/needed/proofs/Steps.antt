-- Each rule about a create, a remove, a read or a construct is needed: a file that breaks it alone, and what its run would do.
-- The files here and in `Calls` and `Paths` have one type with one functor, box, whose argument is a number: a term that takes a cell.
use Rattle.std.specs.Prelude.{ℕ, List, ◌∷◌, refl, []}
use Rattle.language.specs.Table.{file}
use Rattle.needed.specs.Without.{create_not_held, remove_held, remove_not_kept, remove_unsound, read_sound, construct_held}
use Rattle.needed.proofs.Faults.{stays, leaks, Needed}
use Rattle.needed.proofs.Computing.{computing}

-- "Create: not held before." The first of the two regions is never removed.
--     create 1 · create 1 · remove 1
unfoldable pub created_twice : List ℕ
created_twice =
    file (
    (1 ∷ 3 ∷ 1 ∷ 9 ∷ []) ∷ (2 ∷ 0 ∷ 2 ∷ []) ∷ (3 ∷ 0 ∷ 1 ∷ []) ∷ (4 ∷ 0 ∷ 4 ∷ 5 ∷ 6 ∷ []) ∷
    (5 ∷ 0 ∷ 0 ∷ 1 ∷ 1 ∷ []) ∷ (6 ∷ 0 ∷ 1 ∷ []) ∷ (18 ∷ 7 ∷ 1 ∷ []) ∷ (18 ∷ 8 ∷ 1 ∷ []) ∷ (19 ∷ 0 ∷ 1 ∷ []) ∷ [])

pub created_twice_needs : Needed (create_not_held ∷ [])
unfolding computing created_twice
created_twice_needs = record { bytes = created_twice; refused = refl; accepted = refl; wrong = leaks 3 1 refl refl }

-- "Remove: held". The second remove meets a removed region.
--     create 1 · remove 1 · remove 1
unfoldable pub removed_twice : List ℕ
removed_twice =
    file (
    (1 ∷ 3 ∷ 1 ∷ 9 ∷ []) ∷ (2 ∷ 0 ∷ 2 ∷ []) ∷ (3 ∷ 0 ∷ 1 ∷ []) ∷ (4 ∷ 0 ∷ 4 ∷ 5 ∷ 6 ∷ []) ∷
    (5 ∷ 0 ∷ 0 ∷ 1 ∷ 1 ∷ []) ∷ (6 ∷ 0 ∷ 1 ∷ []) ∷ (18 ∷ 7 ∷ 1 ∷ []) ∷ (19 ∷ 8 ∷ 1 ∷ []) ∷ (19 ∷ 0 ∷ 1 ∷ []) ∷ [])

pub removed_twice_needs : Needed (remove_held ∷ [])
unfolding computing removed_twice
removed_twice_needs = record { bytes = removed_twice; refused = refl; accepted = refl; wrong = stays 2 refl }

-- "Remove: .. not kept". The callee removes the region that its caller holds, and creates another one in its place, which the caller does not get.
--     main: create 1 · N := 1 · X := box(N) · q(X) · switch X · remove 1
--     q(in X), region 1 kept: remove 1 · create 1
unfoldable pub kept_removed : List ℕ
kept_removed =
    file (
    (1 ∷ 3 ∷ 1 ∷ 21 ∷ []) ∷ (2 ∷ 0 ∷ 2 ∷ []) ∷ (3 ∷ 0 ∷ 1 ∷ []) ∷ (4 ∷ 16 ∷ 4 ∷ 7 ∷ 8 ∷ []) ∷
    (5 ∷ 5 ∷ 0 ∷ 1 ∷ 1 ∷ []) ∷ (5 ∷ 6 ∷ []) ∷ (5 ∷ []) ∷ (6 ∷ 0 ∷ 1 ∷ []) ∷ (18 ∷ 9 ∷ 1 ∷ []) ∷
    (8 ∷ 10 ∷ 2 ∷ 1 ∷ []) ∷ (11 ∷ 11 ∷ 1 ∷ 0 ∷ 2 ∷ []) ∷ (15 ∷ 13 ∷ 1 ∷ 12 ∷ []) ∷ (16 ∷ 0 ∷ 1 ∷ []) ∷
    (12 ∷ 15 ∷ 1 ∷ 14 ∷ []) ∷ (13 ∷ 0 ∷ 0 ∷ 0 ∷ 3 ∷ []) ∷ (19 ∷ 0 ∷ 1 ∷ []) ∷ (4 ∷ 0 ∷ 17 ∷ 18 ∷ 19 ∷ []) ∷
    (5 ∷ 0 ∷ 1 ∷ 1 ∷ 1 ∷ []) ∷ (6 ∷ 0 ∷ 1 ∷ []) ∷ (19 ∷ 20 ∷ 1 ∷ []) ∷ (18 ∷ 0 ∷ 1 ∷ []) ∷ [])

pub kept_removed_needs : Needed (remove_not_kept ∷ [])
unfolding computing kept_removed
kept_removed_needs = record { bytes = kept_removed; refused = refl; accepted = refl; wrong = stays 6 refl }

-- "variables reaching it stop being sound": a region created again, and a variable from before. The new region does not have X's cell.
--     create 1 · N := 1 · X := box(N) · remove 1 · create 1 · switch X · remove 1
unfoldable pub created_again : List ℕ
created_again =
    file (
    (1 ∷ 3 ∷ 1 ∷ 16 ∷ []) ∷ (2 ∷ 0 ∷ 2 ∷ []) ∷ (3 ∷ 0 ∷ 1 ∷ []) ∷ (4 ∷ 0 ∷ 4 ∷ 7 ∷ 8 ∷ []) ∷
    (5 ∷ 5 ∷ 0 ∷ 1 ∷ 1 ∷ []) ∷ (5 ∷ 6 ∷ []) ∷ (5 ∷ []) ∷ (6 ∷ 0 ∷ 1 ∷ []) ∷ (18 ∷ 9 ∷ 1 ∷ []) ∷
    (8 ∷ 10 ∷ 2 ∷ 1 ∷ []) ∷ (11 ∷ 11 ∷ 1 ∷ 0 ∷ 2 ∷ []) ∷ (19 ∷ 12 ∷ 1 ∷ []) ∷ (18 ∷ 13 ∷ 1 ∷ []) ∷
    (12 ∷ 15 ∷ 1 ∷ 14 ∷ []) ∷ (13 ∷ 0 ∷ 0 ∷ 0 ∷ 3 ∷ []) ∷ (19 ∷ 0 ∷ 1 ∷ []) ∷ [])

pub created_again_needs : Needed (remove_unsound ∷ [])
unfolding computing created_again
created_again_needs = record { bytes = created_again; refused = refl; accepted = refl; wrong = stays 5 refl }

-- "Each variable read is sound." The switch reads a cell of a removed region.
--     create 1 · N := 1 · X := box(N) · remove 1 · switch X
unfoldable pub read_removed : List ℕ
read_removed =
    file (
    (1 ∷ 3 ∷ 1 ∷ 14 ∷ []) ∷ (2 ∷ 0 ∷ 2 ∷ []) ∷ (3 ∷ 0 ∷ 1 ∷ []) ∷ (4 ∷ 0 ∷ 4 ∷ 7 ∷ 8 ∷ []) ∷
    (5 ∷ 5 ∷ 0 ∷ 1 ∷ 1 ∷ []) ∷ (5 ∷ 6 ∷ []) ∷ (5 ∷ []) ∷ (6 ∷ 0 ∷ 1 ∷ []) ∷ (18 ∷ 9 ∷ 1 ∷ []) ∷
    (8 ∷ 10 ∷ 2 ∷ 1 ∷ []) ∷ (11 ∷ 11 ∷ 1 ∷ 0 ∷ 2 ∷ []) ∷ (19 ∷ 12 ∷ 1 ∷ []) ∷ (12 ∷ 0 ∷ 1 ∷ 13 ∷ []) ∷
    (13 ∷ 0 ∷ 0 ∷ 0 ∷ 3 ∷ []) ∷ [])

pub read_removed_needs : Needed (read_sound ∷ [])
unfolding computing read_removed
read_removed_needs = record { bytes = read_removed; refused = refl; accepted = refl; wrong = stays 4 refl }

-- "A construct's region is held." There is no region to build in.
--     N := 1 · X := box(N)
unfoldable pub built_nowhere : List ℕ
built_nowhere =
    file (
    (1 ∷ 3 ∷ 1 ∷ 9 ∷ []) ∷ (2 ∷ 0 ∷ 2 ∷ []) ∷ (3 ∷ 0 ∷ 1 ∷ []) ∷ (4 ∷ 0 ∷ 4 ∷ 6 ∷ 7 ∷ []) ∷
    (5 ∷ 5 ∷ 0 ∷ 1 ∷ 1 ∷ []) ∷ (5 ∷ []) ∷ (6 ∷ 0 ∷ 1 ∷ []) ∷ (8 ∷ 8 ∷ 2 ∷ 1 ∷ []) ∷ (11 ∷ 0 ∷ 1 ∷ 0 ∷ 2 ∷ []) ∷ [])

pub built_nowhere_needs : Needed (construct_held ∷ [])
unfolding computing built_nowhere
built_nowhere_needs = record { bytes = built_nowhere; refused = refl; accepted = refl; wrong = stays 1 refl }
