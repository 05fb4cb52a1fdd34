-- Each rule about a call is needed, but for "images of dead regions are held", which stands in `Implied`.
use Rattle.std.specs.Prelude.{ℕ, List, ◌∷◌, ◌≡◌, refl, [], Ok}
use Rattle.language.specs.Answers.{checked}
use Rattle.language.specs.Table.{file}
use Rattle.needed.specs.Without.{kept_held, dead_not_kept, born_not_held, dead_unshared, born_unshared, dead_gone, dead_unsound, born_then_held}
use Rattle.needed.proofs.Faults.{stays, leaks, Needed}
use Rattle.needed.proofs.Computing.{computing}

-- "images of .. kept regions are held". The callee builds in a region that its caller never created. (Images of kept input regions are held anyway,
-- as those of dead ones are: see `DeadImages`. This one is an output region.)
--     main: q(X)
--     q(out X), region 1 kept: N := 1 · X := box(N)
unfoldable pub kept_not_held : List ℕ
kept_not_held =
    file (
    (1 ∷ 3 ∷ 1 ∷ 14 ∷ []) ∷ (2 ∷ 0 ∷ 2 ∷ []) ∷ (3 ∷ 0 ∷ 1 ∷ []) ∷ (4 ∷ 8 ∷ 4 ∷ 5 ∷ 6 ∷ []) ∷
    (5 ∷ 0 ∷ 0 ∷ 1 ∷ 1 ∷ []) ∷ (6 ∷ 0 ∷ 1 ∷ []) ∷ (15 ∷ 0 ∷ 1 ∷ 7 ∷ []) ∷ (16 ∷ 0 ∷ 1 ∷ []) ∷
    (4 ∷ 0 ∷ 9 ∷ 11 ∷ 12 ∷ []) ∷ (5 ∷ 10 ∷ 2 ∷ 1 ∷ 1 ∷ []) ∷ (5 ∷ []) ∷ (6 ∷ 0 ∷ 1 ∷ []) ∷ (8 ∷ 13 ∷ 2 ∷ 1 ∷ []) ∷
    (11 ∷ 0 ∷ 1 ∷ 0 ∷ 2 ∷ []) ∷ [])

pub kept_not_held_needs : Needed (kept_held ∷ [])
unfolding computing kept_not_held
kept_not_held_needs = record { bytes = kept_not_held; refused = refl; accepted = refl; wrong = stays 2 refl }

-- "Images of dead ones are not kept by the caller." p passes on as dead what only its own caller needs, and main reads X in a removed region.
--     main: create 1 · N := 1 · X := box(N) · p(X) · switch X · remove 1
--     p(in X), region 1 kept: q(X) · create 1
--     q(in X), region 1 dead: remove 1
unfoldable pub dead_kept : List ℕ
dead_kept =
    file (
    (1 ∷ 3 ∷ 1 ∷ 26 ∷ []) ∷ (2 ∷ 0 ∷ 2 ∷ []) ∷ (3 ∷ 0 ∷ 1 ∷ []) ∷ (4 ∷ 16 ∷ 4 ∷ 7 ∷ 8 ∷ []) ∷
    (5 ∷ 5 ∷ 0 ∷ 1 ∷ 1 ∷ []) ∷ (5 ∷ 6 ∷ []) ∷ (5 ∷ []) ∷ (6 ∷ 0 ∷ 1 ∷ []) ∷ (18 ∷ 9 ∷ 1 ∷ []) ∷
    (8 ∷ 10 ∷ 2 ∷ 1 ∷ []) ∷ (11 ∷ 11 ∷ 1 ∷ 0 ∷ 2 ∷ []) ∷ (15 ∷ 13 ∷ 1 ∷ 12 ∷ []) ∷ (16 ∷ 0 ∷ 1 ∷ []) ∷
    (12 ∷ 15 ∷ 1 ∷ 14 ∷ []) ∷ (13 ∷ 0 ∷ 0 ∷ 0 ∷ 3 ∷ []) ∷ (19 ∷ 0 ∷ 1 ∷ []) ∷ (4 ∷ 22 ∷ 17 ∷ 18 ∷ 19 ∷ []) ∷
    (5 ∷ 0 ∷ 1 ∷ 1 ∷ 1 ∷ []) ∷ (6 ∷ 0 ∷ 1 ∷ []) ∷ (15 ∷ 21 ∷ 2 ∷ 20 ∷ []) ∷ (16 ∷ 0 ∷ 1 ∷ []) ∷ (18 ∷ 0 ∷ 1 ∷ []) ∷
    (4 ∷ 0 ∷ 23 ∷ 24 ∷ 25 ∷ []) ∷ (5 ∷ 0 ∷ 1 ∷ 1 ∷ 1 ∷ []) ∷ (6 ∷ 0 ∷ 1 ∷ 2 ∷ []) ∷ (19 ∷ 0 ∷ 1 ∷ []) ∷ [])

pub dead_kept_needs : Needed (dead_not_kept ∷ [])
unfolding computing dead_kept
dead_kept_needs = record { bytes = dead_kept; refused = refl; accepted = refl; wrong = stays 7 refl }

-- "Images of born ones are not held." Region 1 stands for the new one after the call, and nothing for the old one.
--     main: create 1 · q(X) · remove 1
--     q(out X), region 1 born: create 1 · N := 1 · X := box(N)
unfoldable pub born_held : List ℕ
born_held =
    file (
    (1 ∷ 3 ∷ 1 ∷ 17 ∷ []) ∷ (2 ∷ 0 ∷ 2 ∷ []) ∷ (3 ∷ 0 ∷ 1 ∷ []) ∷ (4 ∷ 10 ∷ 4 ∷ 5 ∷ 6 ∷ []) ∷
    (5 ∷ 0 ∷ 0 ∷ 1 ∷ 1 ∷ []) ∷ (6 ∷ 0 ∷ 1 ∷ []) ∷ (18 ∷ 7 ∷ 1 ∷ []) ∷ (15 ∷ 9 ∷ 1 ∷ 8 ∷ []) ∷ (16 ∷ 0 ∷ 1 ∷ []) ∷
    (19 ∷ 0 ∷ 1 ∷ []) ∷ (4 ∷ 0 ∷ 11 ∷ 13 ∷ 14 ∷ []) ∷ (5 ∷ 12 ∷ 2 ∷ 1 ∷ 1 ∷ []) ∷ (5 ∷ []) ∷ (6 ∷ 0 ∷ 1 ∷ 1 ∷ []) ∷
    (18 ∷ 15 ∷ 1 ∷ []) ∷ (8 ∷ 16 ∷ 2 ∷ 1 ∷ []) ∷ (11 ∷ 0 ∷ 1 ∷ 0 ∷ 2 ∷ []) ∷ [])

pub born_held_needs : Needed (born_not_held ∷ [])
unfolding computing born_held
born_held_needs = record { bytes = born_held; refused = refl; accepted = refl; wrong = leaks 6 1 refl refl }

-- "An image of a dead .. one is no other region's image." The callee removes the region under one number and reads in it under the other.
--     main: create 1 · N := 1 · X := box(N) · q(X, X)
--     q(in X, in Y), region 1 of X dead, region 2 of Y kept: remove 1 · switch Y
unfoldable pub dead_shared : List ℕ
dead_shared =
    file (
    (1 ∷ 3 ∷ 1 ∷ 22 ∷ []) ∷ (2 ∷ 0 ∷ 2 ∷ []) ∷ (3 ∷ 0 ∷ 1 ∷ []) ∷ (4 ∷ 13 ∷ 4 ∷ 6 ∷ 7 ∷ []) ∷
    (5 ∷ 5 ∷ 0 ∷ 1 ∷ 1 ∷ []) ∷ (5 ∷ []) ∷ (6 ∷ 0 ∷ 1 ∷ []) ∷ (18 ∷ 8 ∷ 1 ∷ []) ∷ (8 ∷ 9 ∷ 2 ∷ 1 ∷ []) ∷
    (11 ∷ 10 ∷ 1 ∷ 0 ∷ 2 ∷ []) ∷ (15 ∷ 0 ∷ 1 ∷ 11 ∷ []) ∷ (16 ∷ 12 ∷ 1 ∷ []) ∷ (16 ∷ 0 ∷ 1 ∷ []) ∷
    (4 ∷ 0 ∷ 14 ∷ 17 ∷ 19 ∷ []) ∷ (5 ∷ 15 ∷ 1 ∷ 1 ∷ 1 ∷ []) ∷ (5 ∷ 16 ∷ 1 ∷ 1 ∷ 2 ∷ []) ∷ (5 ∷ []) ∷
    (6 ∷ 18 ∷ 1 ∷ 2 ∷ []) ∷ (6 ∷ 0 ∷ 1 ∷ []) ∷ (19 ∷ 20 ∷ 1 ∷ []) ∷ (12 ∷ 0 ∷ 2 ∷ 21 ∷ []) ∷
    (13 ∷ 0 ∷ 0 ∷ 0 ∷ 3 ∷ []) ∷ [])

pub dead_shared_needs : Needed (dead_unshared ∷ [])
unfolding computing dead_shared
dead_shared_needs = record { bytes = dead_shared; refused = refl; accepted = refl; wrong = stays 5 refl }

-- "An image of a .. born one is no other region's image." Two regions are born, and one number can stand for one of them only.
-- The other region is born too: a kept or dead one would have to be held and, being the image of a born one, not held.
--     main, X and Y in region 1: q(X, Y) · remove 1
--     q(out X, out Y), regions 1 and 2 born: create 1 · create 2 · N := 1 · X := box(N) · Y := box(N)
unfoldable pub born_shared : List ℕ
born_shared =
    file (
    (1 ∷ 3 ∷ 1 ∷ 22 ∷ []) ∷ (2 ∷ 0 ∷ 2 ∷ []) ∷ (3 ∷ 0 ∷ 1 ∷ []) ∷ (4 ∷ 11 ∷ 4 ∷ 6 ∷ 7 ∷ []) ∷
    (5 ∷ 5 ∷ 0 ∷ 1 ∷ 1 ∷ []) ∷ (5 ∷ 0 ∷ 0 ∷ 1 ∷ 1 ∷ []) ∷ (6 ∷ 0 ∷ 1 ∷ []) ∷ (15 ∷ 10 ∷ 1 ∷ 8 ∷ []) ∷
    (16 ∷ 9 ∷ 1 ∷ []) ∷ (16 ∷ 0 ∷ 2 ∷ []) ∷ (19 ∷ 0 ∷ 1 ∷ []) ∷ (4 ∷ 0 ∷ 12 ∷ 15 ∷ 17 ∷ []) ∷
    (5 ∷ 13 ∷ 2 ∷ 1 ∷ 1 ∷ []) ∷ (5 ∷ 14 ∷ 2 ∷ 1 ∷ 2 ∷ []) ∷ (5 ∷ []) ∷ (6 ∷ 16 ∷ 1 ∷ 1 ∷ []) ∷
    (6 ∷ 0 ∷ 1 ∷ 1 ∷ []) ∷ (18 ∷ 18 ∷ 1 ∷ []) ∷ (18 ∷ 19 ∷ 2 ∷ []) ∷ (8 ∷ 20 ∷ 3 ∷ 1 ∷ []) ∷
    (11 ∷ 21 ∷ 1 ∷ 0 ∷ 3 ∷ []) ∷ (11 ∷ 0 ∷ 2 ∷ 0 ∷ 3 ∷ []) ∷ [])

pub born_shared_needs : Needed (born_unshared ∷ [])
unfolding computing born_shared
born_shared_needs = record { bytes = born_shared; refused = refl; accepted = refl; wrong = leaks 7 1 refl refl }

-- "After it, dead images are gone". The caller removes what the callee has removed.
--     main: create 1 · N := 1 · X := box(N) · q(X) · remove 1
--     q(in X), region 1 dead: remove 1
unfoldable pub dead_removed : List ℕ
dead_removed =
    file (
    (1 ∷ 3 ∷ 1 ∷ 17 ∷ []) ∷ (2 ∷ 0 ∷ 2 ∷ []) ∷ (3 ∷ 0 ∷ 1 ∷ []) ∷ (4 ∷ 13 ∷ 4 ∷ 6 ∷ 7 ∷ []) ∷
    (5 ∷ 5 ∷ 0 ∷ 1 ∷ 1 ∷ []) ∷ (5 ∷ []) ∷ (6 ∷ 0 ∷ 1 ∷ []) ∷ (18 ∷ 8 ∷ 1 ∷ []) ∷ (8 ∷ 9 ∷ 2 ∷ 1 ∷ []) ∷
    (11 ∷ 10 ∷ 1 ∷ 0 ∷ 2 ∷ []) ∷ (15 ∷ 12 ∷ 1 ∷ 11 ∷ []) ∷ (16 ∷ 0 ∷ 1 ∷ []) ∷ (19 ∷ 0 ∷ 1 ∷ []) ∷
    (4 ∷ 0 ∷ 14 ∷ 15 ∷ 16 ∷ []) ∷ (5 ∷ 0 ∷ 1 ∷ 1 ∷ 1 ∷ []) ∷ (6 ∷ 0 ∷ 1 ∷ 2 ∷ []) ∷ (19 ∷ 0 ∷ 1 ∷ []) ∷ [])

pub dead_removed_needs : Needed (dead_gone ∷ [])
unfolding computing dead_removed
dead_removed_needs = record { bytes = dead_removed; refused = refl; accepted = refl; wrong = stays 5 refl }

-- ".. and variables reaching them are no longer sound". The region created after the call does not have X's cell.
--     main: create 1 · N := 1 · X := box(N) · q(X) · create 1 · switch X · remove 1
--     q(in X), region 1 dead: remove 1
unfoldable pub dead_read : List ℕ
dead_read =
    file (
    (1 ∷ 3 ∷ 1 ∷ 21 ∷ []) ∷ (2 ∷ 0 ∷ 2 ∷ []) ∷ (3 ∷ 0 ∷ 1 ∷ []) ∷ (4 ∷ 17 ∷ 4 ∷ 7 ∷ 8 ∷ []) ∷
    (5 ∷ 5 ∷ 0 ∷ 1 ∷ 1 ∷ []) ∷ (5 ∷ 6 ∷ []) ∷ (5 ∷ []) ∷ (6 ∷ 0 ∷ 1 ∷ []) ∷ (18 ∷ 9 ∷ 1 ∷ []) ∷
    (8 ∷ 10 ∷ 2 ∷ 1 ∷ []) ∷ (11 ∷ 11 ∷ 1 ∷ 0 ∷ 2 ∷ []) ∷ (15 ∷ 13 ∷ 1 ∷ 12 ∷ []) ∷ (16 ∷ 0 ∷ 1 ∷ []) ∷
    (18 ∷ 14 ∷ 1 ∷ []) ∷ (12 ∷ 16 ∷ 1 ∷ 15 ∷ []) ∷ (13 ∷ 0 ∷ 0 ∷ 0 ∷ 3 ∷ []) ∷ (19 ∷ 0 ∷ 1 ∷ []) ∷
    (4 ∷ 0 ∷ 18 ∷ 19 ∷ 20 ∷ []) ∷ (5 ∷ 0 ∷ 1 ∷ 1 ∷ 1 ∷ []) ∷ (6 ∷ 0 ∷ 1 ∷ 2 ∷ []) ∷ (19 ∷ 0 ∷ 1 ∷ []) ∷ [])

pub dead_read_needs : Needed (dead_unsound ∷ [])
unfolding computing dead_read
dead_read_needs = record { bytes = dead_read; refused = refl; accepted = refl; wrong = stays 6 refl }

-- "born ones are held". The caller forgets what the callee left it.
--     main: q(X)
--     q(out X), region 1 born: create 1 · N := 1 · X := box(N)
unfoldable pub born_forgotten : List ℕ
born_forgotten =
    file (
    (1 ∷ 3 ∷ 1 ∷ 15 ∷ []) ∷ (2 ∷ 0 ∷ 2 ∷ []) ∷ (3 ∷ 0 ∷ 1 ∷ []) ∷ (4 ∷ 8 ∷ 4 ∷ 5 ∷ 6 ∷ []) ∷
    (5 ∷ 0 ∷ 0 ∷ 1 ∷ 1 ∷ []) ∷ (6 ∷ 0 ∷ 1 ∷ []) ∷ (15 ∷ 0 ∷ 1 ∷ 7 ∷ []) ∷ (16 ∷ 0 ∷ 1 ∷ []) ∷
    (4 ∷ 0 ∷ 9 ∷ 11 ∷ 12 ∷ []) ∷ (5 ∷ 10 ∷ 2 ∷ 1 ∷ 1 ∷ []) ∷ (5 ∷ []) ∷ (6 ∷ 0 ∷ 1 ∷ 1 ∷ []) ∷ (18 ∷ 13 ∷ 1 ∷ []) ∷
    (8 ∷ 14 ∷ 2 ∷ 1 ∷ []) ∷ (11 ∷ 0 ∷ 1 ∷ 0 ∷ 2 ∷ []) ∷ [])

pub born_forgotten_needs : Needed (born_then_held ∷ [])
unfolding computing born_forgotten
born_forgotten_needs = record { bytes = born_forgotten; refused = refl; accepted = refl; wrong = leaks 4 1 refl refl }

-- A fault that only the second call of q meets: there the born image is already held, and region 1 then stands for the second region born.
--     main, X and Y in region 1: q(X) · q(Y) · remove 1
--     q(out X), region 1 born: create 1 · N := 1 · X := box(N)
unfoldable pub second_call : List ℕ
second_call =
    file (
    (1 ∷ 3 ∷ 1 ∷ 19 ∷ []) ∷ (2 ∷ 0 ∷ 2 ∷ []) ∷ (3 ∷ 0 ∷ 1 ∷ []) ∷ (4 ∷ 12 ∷ 4 ∷ 6 ∷ 7 ∷ []) ∷
    (5 ∷ 5 ∷ 0 ∷ 1 ∷ 1 ∷ []) ∷ (5 ∷ 0 ∷ 0 ∷ 1 ∷ 1 ∷ []) ∷ (6 ∷ 0 ∷ 1 ∷ []) ∷ (15 ∷ 9 ∷ 1 ∷ 8 ∷ []) ∷
    (16 ∷ 0 ∷ 1 ∷ []) ∷ (15 ∷ 11 ∷ 1 ∷ 10 ∷ []) ∷ (16 ∷ 0 ∷ 2 ∷ []) ∷ (19 ∷ 0 ∷ 1 ∷ []) ∷
    (4 ∷ 0 ∷ 13 ∷ 15 ∷ 16 ∷ []) ∷ (5 ∷ 14 ∷ 2 ∷ 1 ∷ 1 ∷ []) ∷ (5 ∷ []) ∷ (6 ∷ 0 ∷ 1 ∷ 1 ∷ []) ∷
    (18 ∷ 17 ∷ 1 ∷ []) ∷ (8 ∷ 18 ∷ 2 ∷ 1 ∷ []) ∷ (11 ∷ 0 ∷ 1 ∷ 0 ∷ 2 ∷ []) ∷ [])

pub second_call_needs : Needed (born_not_held ∷ [])
unfolding computing second_call
second_call_needs = record { bytes = second_call; refused = refl; accepted = refl; wrong = leaks 9 1 refl refl }

-- .. and the same file with the first call only is accepted
unfoldable pub first_call : List ℕ
first_call =
    file (
    (1 ∷ 3 ∷ 1 ∷ 17 ∷ []) ∷ (2 ∷ 0 ∷ 2 ∷ []) ∷ (3 ∷ 0 ∷ 1 ∷ []) ∷ (4 ∷ 10 ∷ 4 ∷ 6 ∷ 7 ∷ []) ∷
    (5 ∷ 5 ∷ 0 ∷ 1 ∷ 1 ∷ []) ∷ (5 ∷ 0 ∷ 0 ∷ 1 ∷ 1 ∷ []) ∷ (6 ∷ 0 ∷ 1 ∷ []) ∷ (15 ∷ 9 ∷ 1 ∷ 8 ∷ []) ∷
    (16 ∷ 0 ∷ 1 ∷ []) ∷ (19 ∷ 0 ∷ 1 ∷ []) ∷ (4 ∷ 0 ∷ 11 ∷ 13 ∷ 14 ∷ []) ∷ (5 ∷ 12 ∷ 2 ∷ 1 ∷ 1 ∷ []) ∷ (5 ∷ []) ∷
    (6 ∷ 0 ∷ 1 ∷ 1 ∷ []) ∷ (18 ∷ 15 ∷ 1 ∷ []) ∷ (8 ∷ 16 ∷ 2 ∷ 1 ∷ []) ∷ (11 ∷ 0 ∷ 1 ∷ 0 ∷ 2 ∷ []) ∷ [])

pub first_call_accepted : checked first_call ≡ Ok tt
unfolding computing first_call
first_call_accepted = refl
