-- The most bytes that texts take, and the numbers of 32 bits. The code has the same names (src/lib.rt).
use Rattle.std.specs.Prelude.{ℕ}

-- the line of a refusal, the longest of the checker's
abbrev pub refusal_bytes : ℕ
refusal_bytes = 11

-- a number of 64 bits
abbrev pub decimal_bytes : ℕ
decimal_bytes = 20

-- the line of a printed number: a sign, ten digits, a line feed
abbrev pub number_bytes : ℕ
number_bytes = 12

-- the line of an ending
abbrev pub ending_bytes : ℕ
ending_bytes = 32

-- words from there on are negative numbers
abbrev pub negative_from : ℕ
negative_from = 2147483648

-- how many words of 32 bits there are
abbrev pub words_end : ℕ
words_end = 4294967296
