-- The bytes of a part that was read: those behind the first `at`.
use Rattle.std.proofs.Common.{List, ℕ, ◌≡◌, ◌+◌, ◌≤◌, ◌++◌, length, take, drop, sym, ap, ◌∙◌, length-take-le, take-append-drop}
use lib.Seq.{drop_at}
use borrow.Rule.Slice.PartMut.{put_mid}
use Rattle.std.proofs.lemmas.List.{drop-take, take-append-le, take-take}

-- a read into the rest of the slice from `at` on, k bytes, of which it filled n
pub part_of_read : (at n k : ℕ) (file rest : List ℕ) → at ≤ length file → n ≤ length rest
    → drop at (take (at + n) (put_mid at k file rest)) ≡ take n rest
part_of_read at n k file rest a b =
    drop-take at n (put_mid at k file rest) ∙ ap (take n) (drop_at _ _ at (length-take-le at file a)) ∙ take-append-le n rest _ b

-- what was read so far, and the part behind it
pub front_and_part : (at end : ℕ) (old new : List ℕ) → at ≤ end → take at new ≡ take at old → take at old ++ drop at (take end new) ≡ take end new
front_and_part at end old new h e =
    ap (λ l. l ++ drop at (take end new)) (sym e ∙ sym (take-take at end new h)) ∙ take-append-drop at (take end new)
