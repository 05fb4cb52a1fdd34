-- The lines of the answers, from their parts, and how long their numbers are.
use Rattle.std.specs.Prelude.{ℕ, ◌+◌, ◌^◌, ◌≤◌, ◌<◌, List, [], ◌∷◌, ◌++◌, ◌≡◌, length, Result, Ok, Err}
use Rattle.std.proofs.Common.{append_assoc, ap, sym, subst, ◌∙◌, arith, length-append}
use Rattle.language.specs.declared.Refusal.{Refusal}
use Rattle.language.specs.declared.Refusal.TheVariants.{Header, Form, Typing, Values, Regions, Unreached, Annotated, Classes, Rules, Room}
use Rattle.language.specs.declared.Stop.{Stop}
use Rattle.language.specs.declared.Stop.TheVariants.{Steps, Cells, Places, Frames, Prints, Sums}
use Rattle.language.specs.declared.Ending.{Ending}
use Rattle.language.specs.declared.Ending.TheVariants.{Refused, Finished, Stopped}
use Rattle.language.specs.Answers.{refusal_number, stop_number}
use Rattle.language.specs.Output.{decimal, refused_word, accepted_word, finished_word, stopped_word, line, refusal_line, checker_output, ending_line}
use Rattle.lines.specs.Widths.{refusal_bytes, decimal_bytes, ending_bytes}
use Rattle.lines.specs.Put.{Put, put_then, Front, put_front}
use Rattle.lines.specs.Digits.{decimal_most}

pub refusal_digits : (r : Refusal) → length (decimal (refusal_number r)) ≤ 2
unfolding refusal_number
refusal_digits Header = decimal_most 2 1 (omega arith) (omega arith)
refusal_digits Form = decimal_most 2 2 (omega arith) (omega arith)
refusal_digits Typing = decimal_most 2 3 (omega arith) (omega arith)
refusal_digits Values = decimal_most 2 4 (omega arith) (omega arith)
refusal_digits Regions = decimal_most 2 5 (omega arith) (omega arith)
refusal_digits Unreached = decimal_most 2 17 (omega arith) (omega arith)
refusal_digits Annotated = decimal_most 2 6 (omega arith) (omega arith)
refusal_digits Classes = decimal_most 2 7 (omega arith) (omega arith)
refusal_digits Rules = decimal_most 2 8 (omega arith) (omega arith)
refusal_digits Room = decimal_most 2 9 (omega arith) (omega arith)

pub stop_digits : (c : Stop) → length (decimal (stop_number c)) ≤ 2
unfolding stop_number
stop_digits Steps = decimal_most 2 10 (omega arith) (omega arith)
stop_digits Cells = decimal_most 2 11 (omega arith) (omega arith)
stop_digits Places = decimal_most 2 12 (omega arith) (omega arith)
stop_digits Frames = decimal_most 2 13 (omega arith) (omega arith)
stop_digits Prints = decimal_most 2 14 (omega arith) (omega arith)
stop_digits Sums = decimal_most 2 15 (omega arith) (omega arith)

-- a number of 64 bits
pub word_digits : (n : ℕ) → n < 2 ^ 64 → length (decimal n) ≤ decimal_bytes
word_digits n l = decimal_most decimal_bytes n (omega arith) (omega arith)

-- a word, a number and a line feed
pub put_line : {b m e z w : List ℕ} {at k j r : ℕ} (n : ℕ) → Put b at w m k → Put m k (decimal n) e j → Put e j (10 ∷ []) z r
    → Put b at (line (w ++ decimal n)) z r
unfolding line
put_line n p q s = put_then (put_then p q) s

-- "stopped", its number, and the rest as a line of its own
pub put_stop : {b m e z : List ℕ} {at k j r : ℕ} (c : Stop) (d n : ℕ) → d ≡ stop_number c → Put b at stopped_word m k → Put m k (decimal d) e j
    → Put e j (line ((32 ∷ []) ++ decimal n)) z r → Put b at (ending_line (Stopped c) n) z r
unfolding line ending_line
put_stop {b} {m} {e} {z} {at} {k} {j} {r} c d n i p q s =
    let f : (decimal (stop_number c) ++ (32 ∷ decimal n)) ++ (10 ∷ []) ≡ decimal d ++ (32 ∷ (decimal n ++ (10 ∷ []))) =
    append_assoc (decimal (stop_number c)) (32 ∷ decimal n) (10 ∷ []) ∙ ap (λ x. decimal x ++ (32 ∷ (decimal n ++ (10 ∷ [])))) (sym i) in
    subst (λ t. Put b at (stopped_word ++ t) z r) (sym f) (put_then p (put_then q s))

pub put_refusal : {b m : List ℕ} {at k : ℕ} (r : Refusal) (d : ℕ) → d ≡ refusal_number r → Put b at (line (refused_word ++ decimal d)) m k
    → Put b at (refusal_line r) m k
unfolding refusal_line
put_refusal {b} {m} {at} {k} r d e p = subst (λ n. Put b at (line (refused_word ++ decimal n)) m k) e p

pub refusal_length : (r : Refusal) → length (refusal_line r) ≤ refusal_bytes
unfolding refusal_line line
refusal_length r = omega (arith, refusal_digits r, length-append (decimal (refusal_number r)) (10 ∷ []))

-- the checker's two answers
pub front_refused : {b m : List ℕ} {k : ℕ} (a : Result Unit Refusal) (r : Refusal) → a ≡ Err r → refusal_bytes ≤ length b → Put b 0 (refusal_line r) m k
    → Front (checker_output a) b m k
unfolding checker_output
front_refused a r e l p = rw e (put_front p (omega (arith, refusal_length r)))

pub front_accepted : {b m : List ℕ} {k : ℕ} (a : Result Unit Refusal) → a ≡ Ok tt → refusal_bytes ≤ length b → Put b 0 (accepted_word ++ (10 ∷ [])) m k
    → Front (checker_output a) b m k
unfolding checker_output line
front_accepted a e l p = rw e (put_front p (omega arith))

-- the runner's three endings
pub end_refused : {b m : List ℕ} {at k : ℕ} (a : Ending) (r : Refusal) (n : ℕ) → a ≡ Refused r → Put b at (refusal_line r) m k
    → Put b at (ending_line a n) m k
unfolding ending_line
end_refused a r n e p = rw e p

pub end_finished : {b m : List ℕ} {at k : ℕ} (a : Ending) (n : ℕ) → a ≡ Finished → Put b at (line (finished_word ++ decimal n)) m k
    → Put b at (ending_line a n) m k
unfolding ending_line
end_finished a n e p = rw e p

pub end_stopped : {b m : List ℕ} {at k : ℕ} (a : Ending) (c : Stop) (n : ℕ) → a ≡ Stopped c → Put b at (ending_line (Stopped c) n) m k
    → Put b at (ending_line a n) m k
end_stopped a c n e p = rw e p

pub ending_length : (a : Ending) (n : ℕ) → n < 2 ^ 64 → length (ending_line a n) ≤ ending_bytes
unfolding ending_line line
ending_length (Refused r) n l = omega (arith, refusal_length r)
ending_length Finished n l = omega (arith, word_digits n l, length-append (decimal n) (10 ∷ []))
ending_length (Stopped c) n l =
    omega (
      arith,
      stop_digits c,
      word_digits n l,
      length-append (decimal (stop_number c) ++ (32 ∷ decimal n)) (10 ∷ []),
      length-append (decimal (stop_number c)) (32 ∷ decimal n),
    )

-- numbers, then the ending
pub front_run : {b m e s : List ℕ} {k r : ℕ} (a : Ending) (n w : ℕ) → n < 2 ^ 64 → w + ending_bytes ≤ length b → k ≤ w → Put b 0 s m k → Put m k (ending_line a n) e r
    → Front (s ++ ending_line a n) b e r
front_run {s = s} a n w l h t p q =
    put_front (put_then p q) (omega (arith, length-append s (ending_line a n), ending_length a n l, p.behind))
