-- What code gives by each word of a record, in a table of any values.
use Rattle.std.specs.Prelude.{ℕ, ◌<◌, ◌≡◌, List, [], ◌∷◌, get_or, set}
use Rattle.std.proofs.Math.Path.{refl}
use Rattle.std.proofs.Common.{◌∙◌}
use Rattle.language.specs.File.{word}
use Rattle.records.specs.Sizes.{record_words}
use Rattle.owners.specs.Handed.{Attribute, hand_to, words_of, given, hand_down}

-- values g, by words ks, at the places that the words w name: `hand_to` for any values
unfoldable pub hand_words : {X : Type 0} → (ℕ → X) → (ℕ → ℕ) → List ℕ → List X → List X
hand_words g w [] t = t
hand_words g w (k ∷ ks) t = hand_words g w ks (set t (w k) (g k))

-- `results k r` says that the code may give r by word k
abbrev pub Gives : {X : Type 0} → (ℕ → X) → (ℕ → X → Type 0) → Type 0
Gives {X} g results = (k : ℕ) (r : X) → k < record_words → results k r → r ≡ g k

-- of numbers it is hand_to
pub hand_words_law : (g w : ℕ → ℕ) (ks t : List ℕ) → hand_words g w ks t ≡ hand_to g w ks t
unfolding hand_words hand_to
hand_words_law g w [] t = refl
hand_words_law g w (k ∷ ks) t = hand_words_law g w ks (set t (w k) (g k))

-- .. and with what an attribute says, one record's step
pub down_by_words : (A : Attribute) (f : List ℕ) (i : ℕ) (t : List ℕ) {u : List ℕ} → u ≡ hand_words (given A f i (get_or t i 0)) (word f i) (words_of f i) t
    → u ≡ hand_down A f i t
unfolding hand_down
down_by_words A f i t e = e ∙ hand_words_law (given A f i (get_or t i 0)) (word f i) (words_of f i) t
