-- An attribute of the records that one pass hands down: record i, whose own value is known when the pass comes to it, since references go up, puts a value at each record
-- that its words lead to. Which words these are is said by document 01's table of records (`File.row`), which value by the attribute alone. Reference 0 leads to no record;
-- place 0 is the header's, and has the value 0.
use Rattle.std.specs.Prelude.{ℕ, zero, suc, ◌+◌, ◌*◌, List, [], ◌∷◌, eqb, get_or, set}
use Rattle.sets.specs.Tests.{◌or◌}
use Rattle.sets.specs.Members.{in_list}
use Rattle.language.specs.Lists.{choose}
use Rattle.language.specs.Format.{kind_word, next_word}
use Rattle.language.specs.File.{Kind, Use, number, unused, first, row, kind_of, word, record_count}
use Rattle.records.specs.Sizes.{digit_end}
use Rattle.chains.specs.Layout.{all_rows}

-- the words that lead to chains, from word k on
unfoldable pub leading_words : ℕ → List Use → List ℕ
leading_words k [] = []
leading_words k (number ∷ us) = leading_words (suc k) us
leading_words k (unused ∷ us) = leading_words (suc k) us
leading_words k (first c ∷ us) = k ∷ leading_words (suc k) us

-- those of a kind beside w1, and all
unfoldable pub part_words : Kind → List ℕ
part_words k = leading_words 2 (row k).words

unfoldable pub reference_words : Kind → List ℕ
reference_words k = next_word ∷ part_words k

-- .. computed
unfoldable pub words_open : Unit {0}
unfolding reference_words part_words leading_words all_rows in_list ◌or◌
words_open = tt

-- words as one number, for a table in code: one hex digit each, the first one lowest
unfoldable pub digits : List ℕ → ℕ
digits [] = 0
digits (k ∷ ks) = k + digit_end * digits ks

unfoldable pub part_digits : Kind → ℕ
part_digits k = digits (part_words k)

-- what word k of record i leads to gets, by the number of the record's kind, i, k and the record's own value
abbrev pub Attribute : Type 0
Attribute = ℕ → ℕ → ℕ → ℕ → ℕ

-- most attributes: `on` for what w1 leads to, x for what the other words do
unfoldable pub next_and : ℕ → ℕ → ℕ → ℕ
next_and on x k = choose (eqb k next_word) on x

-- values g, by words ks, at the places that the words w name
unfoldable pub hand_to : (ℕ → ℕ) → (ℕ → ℕ) → List ℕ → List ℕ → List ℕ
hand_to g w [] t = t
hand_to g w (k ∷ ks) t = hand_to g w ks (set t (w k) (g k))

module _ (f : List ℕ) where
  -- the words by which record i refers
  unfoldable pub words_of : ℕ → List ℕ
  words_of i = reference_words (kind_of (word f i kind_word))

module _ (A : Attribute) (f : List ℕ) where
  -- what record i hands down by its word k, its own value being v
  unfoldable pub given : ℕ → ℕ → ℕ → ℕ
  given i v k = A (word f i kind_word) i k v

  unfoldable pub hand_down : ℕ → List ℕ → List ℕ
  hand_down i t = hand_to (given i (get_or t i 0)) (word f i) (words_of f i) t

  -- the table once the first m records have handed down
  unfoldable pub handed_up_to : ℕ → List ℕ → List ℕ
  handed_up_to zero t = t
  handed_up_to (suc m) t = hand_down m (handed_up_to m t)

  unfoldable pub handed : List ℕ → List ℕ
  handed t = set (handed_up_to (record_count f) t) 0 0
