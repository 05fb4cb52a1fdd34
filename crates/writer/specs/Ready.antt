-- A file's chain on its way into the lent slice: what a walk needs to go on, what a record's front part is, and how a chain is made of them.
use Rattle.std.specs.Prelude.{ℕ, suc, ◌+◌, ◌*◌, ◌≤◌, ◌<◌, List, ◌∷◌, ◌≡◌, length}
use Rattle.language.specs.Format.{kind_word, next_word, record_bytes, max_records}
use Rattle.language.specs.File.{Use, row, kind_of, word, record_count}
use Rattle.language.specs.Tree.{Tree, node, Words, read_words, read_record, read_chain}
use Rattle.language.specs.Layout.{size, size_words, word_list, lay_words}
use Rattle.chains.specs.Layout.{chain_step}
use Rattle.chains.specs.Formed.{Formed}
use Rattle.writer.specs.Laid.{Laid, linked}

-- records rs were written from record c on, r is the place behind them
pub record Wrote (a b : List ℕ) (c r : ℕ) (rs : List (List ℕ)) : Type 0 where
  pub laid : Laid a b c rs
  pub next : r ≡ c + length rs

-- the chain at record i
unfoldable pub tree_at : List ℕ → ℕ → Tree
tree_at f i = read_chain (record_count f) (word f) i

-- the uses of the words of record i, and what its words are
unfoldable pub uses_at : List ℕ → ℕ → List Use
uses_at f i = (row (kind_of (word f i kind_word))).words

unfoldable pub words_at : List ℕ → ℕ → Words
words_at f i = read_words (λ j. tree_at f j) (word f i) 2 (uses_at f i)

-- the same where the chain goes on if `on` is not 0
unfoldable pub front_to : List ℕ → ℕ → ℕ → ℕ → List (List ℕ)
front_to f i on c =
    ((row (kind_of (word f i kind_word))).kind ∷ linked on (suc c + size_words (words_at f i)) ∷ word_list (suc c) (words_at f i)) ∷ lay_words (words_at f i) (suc c)

-- the chain at record i may be written from record c on: len bytes are lent
pub record ChainReady (f : List ℕ) (i c len : ℕ) : Type 0 where
  pub formed : Formed f
  pub below : i < record_count f
  pub room : record_bytes * (c + size (tree_at f i)) ≤ len
  pub few : c + size (tree_at f i) ≤ max_records

-- record i may be written as record c, with what its words lead to
pub record RecordReady (f : List ℕ) (i c len : ℕ) : Type 0 where
  pub formed : Formed f
  pub below : i < record_count f
  pub room : record_bytes * (suc c + size_words (words_at f i)) ≤ len
  pub few : suc c + size_words (words_at f i) ≤ max_records

-- ---- a chain is its first record with what the words lead to, and the rest
module _ {f : List ℕ} (F : Formed f) (i : ℕ) (p : 0 < i) (q : i < record_count f) where
  pub tree_is : tree_at f i ≡ node (kind_of (word f i kind_word)) (tree_at f (word f i next_word)) (words_at f i)
  unfolding tree_at words_at uses_at read_record
  tree_is = chain_step (word f) (record_count f) F.form i p q
