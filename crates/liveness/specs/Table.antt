-- A table that points are written into from its end downward, and read from upward.
use Rattle.std.specs.Prelude.{ℕ, ◌+◌, ◌*◌, ◌≤◌, ◌≡◌, List, ◌++◌, length, get_or, take, drop}
use Rattle.sets.specs.Sets.{loaded}
use Rattle.sets.specs.declared.Set.{Set}
use Rattle.liveness.specs.Points.{Point, words}

-- the points ps were written in front of place end, from place start on; every other place is as it was
pub record PointsWritten (t u : List ℕ) (start end : ℕ) (ps : List Point) : Type 0 where
  pub place : start + 2 * length ps ≡ end
  pub below : take start u ≡ take start t
  pub above : drop start u ≡ words ps ++ drop end t

-- so they were, if there was room
pub record Fills (t u : List ℕ) (start end : ℕ) (ps : List Point) : Type 0 where
  pub same : length u ≡ length t
  pub room : 2 * length ps ≤ end → end ≤ length t → PointsWritten t u start end ps

-- ---- reading
-- what is live before the goal whose point stands at that place, and after it
unfoldable pub before_at : List ℕ → ℕ → Set
before_at t at = loaded (get_or t at 0)

unfoldable pub after_at : List ℕ → ℕ → Set
after_at t at = before_at t (at + 1)
