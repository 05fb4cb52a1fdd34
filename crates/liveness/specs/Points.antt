-- The points of goals, in the order of a walk: a goal, then the points of its parts, then those of the goals behind it.
use Rattle.std.specs.Prelude.{ℕ, ◌*◌, ◌≡◌, refl, List, [], ◌∷◌, ◌++◌, length}
use Rattle.std.proofs.Common.{arith, ap}
use Rattle.sets.specs.Sets.{stored}
use Rattle.sets.specs.declared.Set.{Set}
use Rattle.language.specs.Format.{max_records}
use Rattle.language.specs.Program.{Goals, done, ◌then◌, Goal, step, switch, if_less, try, Arms, no_arms, arm, Program}
use Rattle.language.specs.Lifetimes.{live, live_goal}

-- two words a point, one for each goal
abbrev pub point_words : ℕ
point_words = 2 * max_records

-- what is live before a goal and after it
pub record Point : Type 0 where
  pub earlier : Set
  pub later : Set

unfoldable pub point : Set → Set → Point
point before after = record { earlier = before; later = after }

module _ (P : Program) where
  unfoldable mutual
    -- of goals that `after` is live behind
    pub points : Goals → Set → List Point
    points done after = []
    points (g then gs) after = point (live_goal P g (live P gs after)) (live P gs after) ∷ (part_points g (live P gs after) ++ points gs after)

    -- each part is followed by what follows the goal, a condition by the then part
    pub part_points : Goal → Set → List Point
    part_points (step g) after = []
    part_points (switch x cs) after = arms_points cs after
    part_points (if_less y z a b) after = points a after ++ points b after
    part_points (try c a b) after = points c (live P a after) ++ (points a after ++ points b after)

    pub arms_points : Arms → Set → List Point
    arms_points no_arms after = []
    arms_points (arm f ys gs cs) after = points gs after ++ arms_points cs after

  -- of one goal alone
  unfoldable pub goal_points : Goal → Set → List Point
  goal_points g after = point (live_goal P g after) after ∷ part_points g after

-- as they stand in a table: two words a point
unfoldable pub words : List Point → List ℕ
words [] = []
words (p ∷ ps) = stored p.earlier ∷ stored p.later ∷ words ps

pub words_append : (ps qs : List Point) → words (ps ++ qs) ≡ words ps ++ words qs
unfolding words
words_append [] qs = refl
words_append (p ∷ ps) qs = ap (λ ws. stored p.earlier ∷ stored p.later ∷ ws) (words_append ps qs)

pub words_length : (ps : List Point) → length (words ps) ≡ 2 * length ps
unfolding words
words_length [] = refl
words_length (p ∷ ps) = omega (arith, words_length ps)
