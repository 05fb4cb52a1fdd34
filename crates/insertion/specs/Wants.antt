-- The table of points with what is wanted there, in the order in which the goals are walked.
use Rattle.std.specs.Prelude.{ℕ, ◌+◌, ◌≤◌, ◌<◌, List, [], ◌∷◌, ◌≡◌, length, get_or}
use Rattle.language.specs.Program.{Signature}
use Rattle.language.specs.Lifetimes.{wanted}
use Rattle.tables.specs.Window.{Window}
use Rattle.liveness.specs.Points.{Point, point_words}
use Rattle.liveness.specs.Table.{before_at, after_at}

-- from that place on the table has what is wanted at the points ps
unfoldable pub WantedFrom : Signature → List ℕ → ℕ → List Point → Type 0
WantedFrom S t at [] = Unit {0}
WantedFrom S t at (p ∷ ps) = (at < point_words) × ((before_at t at ≡ wanted S p.earlier) × ((after_at t at ≡ wanted S p.later) × WantedFrom S t (at + 2) ps))

-- ---- from what is live to what is wanted
-- the sets from place start up to place at were turned from what is live into what is wanted, by the window `own`
pub record Turned (own t u : List ℕ) (start at : ℕ) : Type 0 where
  pub same : length u ≡ length t
  pub above : (k : ℕ) → at ≤ k → get_or u k 0 ≡ get_or t k 0
  pub done : (f : List ℕ) (S : Signature) → Window f S own → (k : ℕ) → start ≤ k → k < at → before_at u k ≡ wanted S (before_at t k)
