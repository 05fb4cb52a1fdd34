-- A word of 32 bits as a signed number, in decimal.
use Rattle.std.specs.Prelude.{ℕ, suc, ◌+◌, ◌-◌, ◌^◌, ◌≤◌, ◌<◌, List, [], ◌∷◌, ◌++◌, map, ◌≡◌, refl, length, set, get_or, take}
use Rattle.std.proofs.Common.{append_assoc, append-nil, ap, sym, subst, ◌∙◌, arith, add-one, take-suc, take_all, to_z}
use Rattle.std.proofs.Math.Decide.{dec_lt}
use Rattle.std.specs.Int.{w32}
use Rattle.std.proofs.Math.Facts.{to_z_pos, to_z-neg}
use Rattle.language.specs.Output.{decimal, signed_decimal, line, number_lines}
use Rattle.lines.specs.Widths.{negative_from, words_end}
use Rattle.lines.specs.Put.{Put, put_one, put_then}
use Rattle.lines.specs.Digits.{decimal_most}

pub signed_low : (w : ℕ) → w < negative_from → signed_decimal (to_z w32 w) ≡ decimal w
unfolding signed_decimal
signed_low w l = ap signed_decimal (to_z_pos w32 l)

-- the minus sign and the distance below 0
pub signed_high : (w : ℕ) → negative_from ≤ w → w < words_end → signed_decimal (to_z w32 w) ≡ 45 ∷ decimal (words_end - w)
unfolding signed_decimal
signed_high w l h =
    let k = words_end - suc w in
    let e : w ≡ 2 ^ 32 - suc k = omega arith in
    let d : suc k ≡ words_end - w = omega arith in
    ap (λ n. signed_decimal (to_z w32 n)) e ∙ ap signed_decimal (to_z-neg w32 k (omega arith)) ∙ ap (λ n. 45 ∷ decimal n) d

pub put_low : {b m : List ℕ} {at k : ℕ} (w : ℕ) → w < negative_from → Put b at (decimal w) m k → Put b at (signed_decimal (to_z w32 w)) m k
put_low {b} {m} {at} {k} w l p = subst (λ s. Put b at s m k) (sym (signed_low w l)) p

pub put_high : (b : List ℕ) {m : List ℕ} (at : ℕ) {k : ℕ} (w : ℕ) → negative_from ≤ w → w < words_end
    → Put (set b at 45) (at + 1) (decimal (words_end - w)) m k → Put b at (signed_decimal (to_z w32 w)) m k
put_high b {m} at {k} w l h p =
    let q : Put (set b at 45) (suc at) (decimal (words_end - w)) m k = rw (add-one at) at p in
    subst (λ s. Put b at s m k) (sym (signed_high w l h)) (put_then (put_one b at 45) q)

-- at most 11 bytes
pub signed_most : (w : ℕ) → w < words_end → length (signed_decimal (to_z w32 w)) ≤ 11
signed_most w h = go (dec_lt w negative_from)
  where
    go : Dec (w < negative_from) → length (signed_decimal (to_z w32 w)) ≤ 11
    go (yes l) = omega (arith, ap length (signed_low w l), decimal_most 10 w (omega arith) (omega arith))
    go (no n) =
        let l : negative_from ≤ w = omega arith in
        omega (arith, ap length (signed_high w l h), decimal_most 10 (words_end - w) (omega arith) (omega arith))

-- a line for each word
unfoldable pub numbers : List ℕ → List ℕ
numbers ws = number_lines (map (to_z w32) ws)

numbers_append : (xs ys : List ℕ) → numbers (xs ++ ys) ≡ numbers xs ++ numbers ys
unfolding numbers number_lines
numbers_append [] ys = refl
numbers_append (x ∷ xs) ys =
    ap (λ l. line (signed_decimal (to_z w32 x)) ++ l) (numbers_append xs ys)
    ∙ sym (append_assoc (line (signed_decimal (to_z w32 x))) (numbers xs) (numbers ys))

numbers_one : (x : ℕ) → numbers (x ∷ []) ≡ line (signed_decimal (to_z w32 x))
unfolding numbers number_lines
numbers_one x = append-nil (line (signed_decimal (to_z w32 x)))

pub numbers_none : numbers [] ≡ []
unfolding numbers number_lines
numbers_none = refl

pub put_number : {b m e : List ℕ} {at k r : ℕ} (w : ℕ) → Put b at (signed_decimal (to_z w32 w)) m k → Put m k (10 ∷ []) e r
    → Put b at (line (signed_decimal (to_z w32 w))) e r
unfolding line
put_number w p q = put_then p q

pub put_numbers : (t b : List ℕ) {m e : List ℕ} (at : ℕ) {k r : ℕ} (i : ℕ) → i < length t → Put b at (numbers (take i t)) m k
    → Put m k (line (signed_decimal (to_z w32 (get_or t i 0)))) e r → Put b at (numbers (take (i + 1) t)) e r
put_numbers t b {m} {e} at {k} {r} i l p q =
    let f : numbers (take (i + 1) t) ≡ numbers (take i t) ++ line (signed_decimal (to_z w32 (get_or t i 0))) =
    ap (λ j. numbers (take j t)) (add-one i) ∙ ap numbers (take-suc t i 0 l) ∙ numbers_append (take i t) (get_or t i 0 ∷ [])
    ∙ ap (λ s. numbers (take i t) ++ s) (numbers_one (get_or t i 0)) in
    subst (λ s. Put b at s e r) (sym f) (put_then p q)

pub all_numbers : (t b m : List ℕ) (at k i : ℕ) → length t ≤ i → Put b at (numbers (take i t)) m k → Put b at (number_lines (map (to_z w32) t)) m k
unfolding numbers
all_numbers t b m at k i l p = rw (take_all i t l) at p
