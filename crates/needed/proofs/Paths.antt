-- Each rule about arms, about the parts of a try and about the end of a procedure is needed, but for two parts of the last, which stand in `Implied`.
use Rattle.std.specs.Prelude.{ℕ, List, ◌∷◌, refl, []}
use Rattle.language.specs.Table.{file}
use Rattle.needed.specs.Without.{arms_equal, every_arm, else_from_before, then_from_end, parts_alike, end_other, outs_sound}
use Rattle.needed.proofs.Faults.{stays, leaks, Needed}
use Rattle.needed.proofs.Computing.{computing}

-- "Arms end with equal held regions". The run takes the part that does not remove region 1.
--     N := 1 · create 1 · if N < N then remove 1 else nothing
unfoldable pub arms_differ : List ℕ
arms_differ =
    file (
    (1 ∷ 3 ∷ 1 ∷ 11 ∷ []) ∷ (2 ∷ 0 ∷ 2 ∷ []) ∷ (3 ∷ 0 ∷ 1 ∷ []) ∷ (4 ∷ 0 ∷ 4 ∷ 6 ∷ 7 ∷ []) ∷
    (5 ∷ 5 ∷ 0 ∷ 1 ∷ 1 ∷ []) ∷ (5 ∷ []) ∷ (6 ∷ 0 ∷ 1 ∷ []) ∷ (8 ∷ 8 ∷ 2 ∷ 1 ∷ []) ∷ (18 ∷ 9 ∷ 1 ∷ []) ∷
    (14 ∷ 0 ∷ 2 ∷ 2 ∷ 10 ∷ []) ∷ (19 ∷ 0 ∷ 1 ∷ []) ∷ [])

pub arms_differ_needs : Needed (arms_equal ∷ [])
unfolding computing arms_differ
arms_differ_needs = record { bytes = arms_differ; refused = refl; accepted = refl; wrong = leaks 3 1 refl refl }

-- "sound afterwards is sound after every arm". X is sound after the first part only, and the run takes the second.
--     N := 1 · create 1 · X := box(N) · if N < N then nothing else (remove 1 · create 1) · switch X · remove 1
unfoldable pub one_arm_only : List ℕ
one_arm_only =
    file (
    (1 ∷ 3 ∷ 1 ∷ 17 ∷ []) ∷ (2 ∷ 0 ∷ 2 ∷ []) ∷ (3 ∷ 0 ∷ 1 ∷ []) ∷ (4 ∷ 0 ∷ 4 ∷ 7 ∷ 8 ∷ []) ∷
    (5 ∷ 5 ∷ 0 ∷ 1 ∷ 1 ∷ []) ∷ (5 ∷ 6 ∷ []) ∷ (5 ∷ []) ∷ (6 ∷ 0 ∷ 1 ∷ []) ∷ (8 ∷ 9 ∷ 2 ∷ 1 ∷ []) ∷
    (18 ∷ 10 ∷ 1 ∷ []) ∷ (11 ∷ 11 ∷ 1 ∷ 0 ∷ 2 ∷ []) ∷ (14 ∷ 14 ∷ 2 ∷ 2 ∷ 0 ∷ 12 ∷ []) ∷ (19 ∷ 13 ∷ 1 ∷ []) ∷
    (18 ∷ 0 ∷ 1 ∷ []) ∷ (12 ∷ 16 ∷ 1 ∷ 15 ∷ []) ∷ (13 ∷ 0 ∷ 0 ∷ 0 ∷ 3 ∷ []) ∷ (19 ∷ 0 ∷ 1 ∷ []) ∷ [])

pub one_arm_only_needs : Needed (every_arm ∷ [])
unfolding computing one_arm_only
one_arm_only_needs = record { bytes = one_arm_only; refused = refl; accepted = refl; wrong = stays 6 refl }

-- "The else part starts from what .. was held and was sound before the try" (C-20). The condition fails, and region 1 was not created.
--     N := 1 · try (create 1 · test N < N) then remove 1 else remove 1
unfoldable pub else_from_end : List ℕ
else_from_end =
    file (
    (1 ∷ 3 ∷ 1 ∷ 13 ∷ []) ∷ (2 ∷ 0 ∷ 2 ∷ []) ∷ (3 ∷ 0 ∷ 1 ∷ []) ∷ (4 ∷ 0 ∷ 4 ∷ 6 ∷ 7 ∷ []) ∷
    (5 ∷ 5 ∷ 0 ∷ 1 ∷ 1 ∷ []) ∷ (5 ∷ []) ∷ (6 ∷ 0 ∷ 1 ∷ []) ∷ (8 ∷ 8 ∷ 2 ∷ 1 ∷ []) ∷ (20 ∷ 0 ∷ 9 ∷ 11 ∷ 12 ∷ []) ∷
    (18 ∷ 10 ∷ 1 ∷ []) ∷ (21 ∷ 0 ∷ 2 ∷ 2 ∷ []) ∷ (19 ∷ 0 ∷ 1 ∷ []) ∷ (19 ∷ 0 ∷ 1 ∷ []) ∷ [])

pub else_from_end_needs : Needed (else_from_before ∷ [])
unfolding computing else_from_end
else_from_end_needs = record { bytes = else_from_end; refused = refl; accepted = refl; wrong = stays 4 refl }

-- "the then part from what the condition ends with" (C-20). Region 1 is created twice and removed once.
--     try create 1 then (create 1 · remove 1) else nothing
unfoldable pub then_from_before : List ℕ
then_from_before =
    file (
    (1 ∷ 3 ∷ 1 ∷ 10 ∷ []) ∷ (2 ∷ 0 ∷ 2 ∷ []) ∷ (3 ∷ 0 ∷ 1 ∷ []) ∷ (4 ∷ 0 ∷ 4 ∷ 5 ∷ 6 ∷ []) ∷
    (5 ∷ 0 ∷ 0 ∷ 1 ∷ 1 ∷ []) ∷ (6 ∷ 0 ∷ 1 ∷ []) ∷ (20 ∷ 0 ∷ 7 ∷ 8 ∷ []) ∷ (18 ∷ 0 ∷ 1 ∷ []) ∷ (18 ∷ 9 ∷ 1 ∷ []) ∷ (19 ∷ 0 ∷ 1 ∷ []) ∷ [])

pub then_from_before_needs : Needed (then_from_end ∷ [])
unfolding computing then_from_before
then_from_before_needs = record { bytes = then_from_before; refused = refl; accepted = refl; wrong = leaks 4 1 refl refl }

-- "both parts end alike" (C-20). The condition fails, and region 1 was not created.
--     N := 1 · try test N < N then create 1 else nothing · remove 1
unfoldable pub parts_differ : List ℕ
parts_differ =
    file (
    (1 ∷ 3 ∷ 1 ∷ 12 ∷ []) ∷ (2 ∷ 0 ∷ 2 ∷ []) ∷ (3 ∷ 0 ∷ 1 ∷ []) ∷ (4 ∷ 0 ∷ 4 ∷ 6 ∷ 7 ∷ []) ∷
    (5 ∷ 5 ∷ 0 ∷ 1 ∷ 1 ∷ []) ∷ (5 ∷ []) ∷ (6 ∷ 0 ∷ 1 ∷ []) ∷ (8 ∷ 8 ∷ 2 ∷ 1 ∷ []) ∷ (20 ∷ 11 ∷ 9 ∷ 10 ∷ []) ∷
    (21 ∷ 0 ∷ 2 ∷ 2 ∷ []) ∷ (18 ∷ 0 ∷ 1 ∷ []) ∷ (19 ∷ 0 ∷ 1 ∷ []) ∷ [])

pub parts_differ_needs : Needed (parts_alike ∷ [])
unfolding computing parts_differ
parts_differ_needs = record { bytes = parts_differ; refused = refl; accepted = refl; wrong = stays 3 refl }

-- "At the end: born and kept regions held, no other". The region is never removed.
--     create 1
unfoldable pub left_over : List ℕ
left_over =
    file (
    (1 ∷ 3 ∷ 1 ∷ 7 ∷ []) ∷ (2 ∷ 0 ∷ 2 ∷ []) ∷ (3 ∷ 0 ∷ 1 ∷ []) ∷ (4 ∷ 0 ∷ 4 ∷ 5 ∷ 6 ∷ []) ∷
    (5 ∷ 0 ∷ 0 ∷ 1 ∷ 1 ∷ []) ∷ (6 ∷ 0 ∷ 1 ∷ []) ∷ (18 ∷ 0 ∷ 1 ∷ []) ∷ [])

pub left_over_needs : Needed (end_other ∷ [])
unfolding computing left_over
left_over_needs = record { bytes = left_over; refused = refl; accepted = refl; wrong = leaks 1 1 refl refl }

-- "out variables sound". The callee hands over a cell of a region that it has removed.
--     main: q(X) · switch X · remove 1
--     q(out X), region 1 born: create 1 · N := 1 · X := box(N) · remove 1 · create 1
unfoldable pub out_not_sound : List ℕ
out_not_sound =
    file (
    (1 ∷ 3 ∷ 1 ∷ 21 ∷ []) ∷ (2 ∷ 0 ∷ 2 ∷ []) ∷ (3 ∷ 0 ∷ 1 ∷ []) ∷ (4 ∷ 12 ∷ 4 ∷ 6 ∷ 7 ∷ []) ∷
    (5 ∷ 5 ∷ 0 ∷ 1 ∷ 1 ∷ []) ∷ (5 ∷ []) ∷ (6 ∷ 0 ∷ 1 ∷ []) ∷ (15 ∷ 9 ∷ 1 ∷ 8 ∷ []) ∷ (16 ∷ 0 ∷ 1 ∷ []) ∷
    (12 ∷ 11 ∷ 1 ∷ 10 ∷ []) ∷ (13 ∷ 0 ∷ 0 ∷ 0 ∷ 2 ∷ []) ∷ (19 ∷ 0 ∷ 1 ∷ []) ∷ (4 ∷ 0 ∷ 13 ∷ 15 ∷ 16 ∷ []) ∷
    (5 ∷ 14 ∷ 2 ∷ 1 ∷ 1 ∷ []) ∷ (5 ∷ []) ∷ (6 ∷ 0 ∷ 1 ∷ 1 ∷ []) ∷ (18 ∷ 17 ∷ 1 ∷ []) ∷ (8 ∷ 18 ∷ 2 ∷ 1 ∷ []) ∷
    (11 ∷ 19 ∷ 1 ∷ 0 ∷ 2 ∷ []) ∷ (19 ∷ 20 ∷ 1 ∷ []) ∷ (18 ∷ 0 ∷ 1 ∷ []) ∷ [])

pub out_not_sound_needs : Needed (outs_sound ∷ [])
unfolding computing out_not_sound
out_not_sound_needs = record { bytes = out_not_sound; refused = refl; accepted = refl; wrong = stays 6 refl }
