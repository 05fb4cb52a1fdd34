-- Words that `fill` makes zeros are cleared.
use Rattle.std.proofs.Common.{◌≡◌, ℕ, ◌+◌, ◌<◌, ◌≤◌, List, length, get_or, take, drop, replicate, sym, ◌∙◌, arith, length-append, length-take, length-drop}
use Rattle.std.proofs.lemmas.List.{length-replicate}
use Rattle.std.proofs.lemmas.Grind.{common_steps, same_number_lists}
use native.Mathlib.Decide.{dec_lt}
use borrow.Rule.Slice.PartMut.{put_mid}
use Rattle.word_machine.specs.Machine.{cleared}
use Rattle.word_machine.specs.Copies.{cleared_length, cleared_before, cleared_after, cleared_in}

module _ (n p : ℕ) (fw ys : List ℕ) (h : p + n ≤ length fw) (e : ys ≡ replicate n 0) where
  size : length ys ≡ n
  size = rw e (length-replicate n 0)

  whole : length (put_mid p n fw ys) ≡ length fw
  whole = simp (length-append, length-take, length-drop) (omega (arith, size))

  below : (k : ℕ) → k < p → get_or (put_mid p n fw ys) k 0 ≡ get_or fw k 0
  below k l = grind (arith, common_steps, size)

  within : (k : ℕ) → p ≤ k → k < p + n → get_or (put_mid p n fw ys) k 0 ≡ 0
  within k l g = grind (arith, common_steps, size, e)

  beyond : (k : ℕ) → p + n ≤ k → get_or (put_mid p n fw ys) k 0 ≡ get_or fw k 0
  beyond k l = grind (arith, common_steps, size)

  each : (k : ℕ) → Dec (k < p) → Dec (k < p + n) → get_or (put_mid p n fw ys) k 0 ≡ get_or (cleared p n fw) k 0
  each k (yes l) d = below k l ∙ sym (cleared_before n p fw k l)
  each k (no l) (yes g) = within k (omega arith) g ∙ sym (cleared_in n p fw k (omega arith) g h)
  each k (no l) (no g) = beyond k (omega arith) ∙ sym (cleared_after n p fw k (omega arith))

  zeros : put_mid p n fw ys ≡ cleared p n fw
  zeros = same_number_lists _ _ (whole ∙ sym (cleared_length n p fw)) (λ k l. each k (dec_lt k p) (dec_lt k (p + n)))

-- m is the length as the code writes it
pub filled_zeros : (n m p : ℕ) (fw ys : List ℕ) → p + n ≤ length fw → m ≡ n → ys ≡ replicate (length (take m (drop p fw))) 0 → put_mid p m fw ys ≡ cleared p n fw
filled_zeros n m p fw ys h d e =
    let x : length (take m (drop p fw)) ≡ n = simp (length-take, length-drop) (omega arith) in
    rw d (zeros n p fw ys h (rw x at e))
