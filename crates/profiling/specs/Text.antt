-- A line of the profile, put number by number.
use Rattle.std.specs.Prelude.{ℕ, ◌+◌, ◌*◌, List, [], ◌∷◌}
use Rattle.language.specs.Output.{decimal, line}
use Rattle.lines.specs.Widths.{decimal_bytes}
use Rattle.lines.specs.Put.{Put, put_then}
use Rattle.profiling.specs.declared.Line.{Line}
use Rattle.profiling.specs.Statement.{spaced, line_text}

-- the most bytes that a number takes with a byte behind it, and a line
abbrev pub number_bytes : ℕ
number_bytes = decimal_bytes + 1

abbrev pub line_bytes : ℕ
line_bytes = 5 * number_bytes

pub spaced_put : (n : ℕ) {a b c : List ℕ} {i j k : ℕ} → Put a i (decimal n) b j → Put b j (32 ∷ []) c k → Put a i (spaced n) c k
unfolding spaced
spaced_put n p q = put_then p q

pub last_put : (n : ℕ) {a b c : List ℕ} {i j k : ℕ} → Put a i (decimal n) b j → Put b j (10 ∷ []) c k → Put a i (line (decimal n)) c k
unfolding line
last_put n p q = put_then p q

pub line_put : (l : Line) {a b c d e f : List ℕ} {i j k m n o : ℕ} → Put a i (spaced l.step) b j → Put b j (spaced l.held.cells) c k
    → Put c k (spaced l.held.regions) d m → Put d m (spaced l.held.frames) e n → Put e n (line (decimal l.goal)) f o → Put a i (line_text l) f o
unfolding line_text
line_put l s c r w x = put_then s (put_then c (put_then r (put_then w x)))
