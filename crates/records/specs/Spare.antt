-- The words of a record behind w1 as two numbers.
use Rattle.std.specs.Prelude.{ℕ, ◌+◌, ◌*◌, ◌<◌, ◌≡◌}
use Rattle.records.specs.Sizes.{word_end}

-- w2 and w3 of a record as one number, and w4 to w7
abbrev pub LowWords : (ℕ → ℕ) → ℕ → Type 0
LowWords w r = (r ≡ w 2 + word_end * w 3) × (w 2 < word_end) × (w 3 < word_end)

abbrev pub HighWords : (ℕ → ℕ) → ℕ → Type 0
HighWords w r = (r ≡ w 4 + word_end * (w 5 + word_end * (w 6 + word_end * w 7))) × (w 4 < word_end) × (w 5 < word_end) × (w 6 < word_end) × (w 7 < word_end)
