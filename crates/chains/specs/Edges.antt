-- Where a chain of edges leads, by the words that the code has read.
use Rattle.std.specs.Prelude.{ℕ, List, [], ◌∷◌, ◌≡◌}
use Rattle.std.proofs.Common.{ap}
use Rattle.language.specs.Format.{next_word, edge_target}
use Rattle.language.specs.File.{edges, word}
use Rattle.language.specs.Regions.{targets_in}
use Rattle.chains.specs.Formed.{Formed, Stands, edges_at, edges_none}
use Rattle.chains.specs.Shapes.{edge_here}

pub targets_end : (f : List ℕ) {i : ℕ} → i ≡ 0 → targets_in (edges_at f i) ≡ []
unfolding targets_in
targets_end f z = ap targets_in (edges_none f z)

pub targets_here : (f : List ℕ) (i : ℕ) → Formed f → Stands f edges i → (i ≡ 0 → ⊥) → {t n : ℕ} → t ≡ word f i edge_target → n ≡ word f i next_word
    → targets_in (edges_at f i) ≡ t ∷ targets_in (edges_at f n)
unfolding targets_in
targets_here f i F s z e g = rw (e, g) (ap targets_in (edge_here F z s).view)
