-- A tree fits the table: each record stands in the right chain, and its words are as its row says.
use Rattle.std.specs.Prelude.{ℕ, List, [], ◌∷◌, ◌≡◌}
use Rattle.language.specs.File.{Kind, Chain, Use, number, unused, first, row}
use Rattle.language.specs.Tree.{Tree, end, node, Words, no_words, plain, leads}

mutual
  -- a tree as a chain of the sort c
  pub data Fits : Chain → Tree → Type 0 where
    fits_end : {c : Chain} → Fits c end
    fits_node : {c : Chain} {k : Kind} {t : Tree} {ws : Words} → (row k).chain ≡ c → Fits (row k).next t → FitsWords (row k).words ws
        → Fits c (node k t ws)

  -- words w2 to w7 by their uses
  pub data FitsWords : List Use → Words → Type 0 where
    fits_none : FitsWords [] no_words
    fits_number : {us : List Use} {n : ℕ} {ws : Words} → FitsWords us ws → FitsWords (number ∷ us) (plain n ws)
    fits_unused : {us : List Use} {ws : Words} → FitsWords us ws → FitsWords (unused ∷ us) (plain 0 ws)
    fits_first : {us : List Use} {c : Chain} {t : Tree} {ws : Words} → Fits c t → FitsWords us ws → FitsWords (first c ∷ us) (leads t ws)
