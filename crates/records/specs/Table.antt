-- The record table as numbers: one hex digit a word for the references, and the most that the other words may be. Assumes nothing.
use Rattle.std.specs.Prelude.{ℕ, suc, ◌+◌, ◌-◌, ◌*◌, ◌^◌, min, List, [], ◌∷◌, map}
use Rattle.language.specs.File.{Use, number, unused, first, Row, row, kinds, code, Kind}
use Rattle.records.specs.Sizes.{digit_end, word_end}

-- what a word leads to: 0 for no reference, else the chain, from 1 on
unfoldable pub digit : Use → ℕ
digit number = 0
digit unused = 0
digit (first c) = 1 + code c

-- digits, the first one lowest
unfoldable pub pack : List Use → ℕ
pack [] = 0
pack (u ∷ us) = digit u + digit_end * pack us

-- the use of w1 to w7
unfoldable pub uses : Row → List Use
uses r = first r.next ∷ r.words

-- digit k is what word k leads to, digit 0 the chain that the kind stands in
unfoldable pub packed : Kind → ℕ
packed k = pack (first (row k).chain ∷ uses (row k))

-- how many words come before the unused ones
unfoldable pub listed : List Use → ℕ
listed [] = 0
listed (number ∷ us) = suc (listed us)
listed (unused ∷ us) = 0
listed (first c ∷ us) = suc (listed us)

-- the most that w2 and w3 may be as one number where the unused words are 0, and w4 to w7
unfoldable pub low_most : Kind → ℕ
low_most k = word_end ^ min 2 (listed (row k).words) - 1

unfoldable pub high_most : Kind → ℕ
high_most k = word_end ^ (listed (row k).words - 2) - 1

-- ---- a table by the kinds' numbers
unfoldable pub table_of : (Kind → ℕ) → List ℕ
table_of f = map f kinds
