-- Goals have no more points than the records that they were read from.
use Prim.Native.Nat.{ℕ, zero, suc, ◌+◌, ◌≤◌}
use native.Mathlib.Omega.{arith}
use mathlib.Core.List.{List, ◌∷◌, []}
use Rattle.language.specs.Lists.{nth}
use Rattle.language.specs.File.{GoalKind, k_literal, k_sum, k_assign, k_construct, k_switch, k_if, k_call, k_print, k_create, k_remove, k_try, k_test, Kind, k_none, k_header, k_type, k_functor, k_procedure, k_variable, k_region, k_edge, k_arm, k_argument, k_goal}
use Rattle.language.specs.Tree.{Tree, end, node, Words, no_words, plain, leads}
use Rattle.language.specs.Layout.{size, size_words}
use Rattle.language.specs.Reading.{Sense, Part, numeral, chain, no_sense, sense_in, sub, goal_of, in_front, sense_of, parts_of}
use Rattle.liveness.specs.Counts.{arms_count, goal_count, goals_count}

-- ---- the goals and arms that a tree stands for have no more points than the tree has records
unfoldable spread : Sense → ℕ
spread s = goals_count s.as_goals + arms_count s.as_arms

unfoldable spreads : List Part → ℕ
spreads [] = 0
spreads (numeral n ∷ ps) = spreads ps
spreads (chain s ∷ ps) = spread s + spreads ps

sub_spread : (ps : List Part) (k : ℕ) → spread (sub ps k) ≤ spreads ps
unfolding spread spreads sub sense_in nth no_sense goals_count
sub_spread [] k = omega arith
sub_spread (numeral n ∷ ps) zero = omega arith
sub_spread (chain s ∷ ps) zero = omega arith
sub_spread (numeral n ∷ ps) (suc k) = sub_spread ps k
sub_spread (chain s ∷ ps) (suc k) = omega (arith, sub_spread ps k)

-- two neighbours
subs_spread : (ps : List Part) (k : ℕ) → spread (sub ps k) + spread (sub ps (suc k)) ≤ spreads ps
unfolding spread spreads sub sense_in nth no_sense goals_count
subs_spread [] k = omega arith
subs_spread (numeral n ∷ ps) zero = omega (arith, sub_spread ps 0)
subs_spread (chain s ∷ ps) zero = omega (arith, sub_spread ps 0)
subs_spread (numeral n ∷ ps) (suc k) = subs_spread ps k
subs_spread (chain s ∷ ps) (suc k) = omega (arith, subs_spread ps k)

-- three
parts_spread : (ps : List Part) (k : ℕ) → spread (sub ps k) + spread (sub ps (suc k)) + spread (sub ps (suc (suc k))) ≤ spreads ps
unfolding spread spreads sub sense_in nth no_sense goals_count
parts_spread [] k = omega arith
parts_spread (numeral n ∷ ps) zero = omega (arith, subs_spread ps 0)
parts_spread (chain s ∷ ps) zero = omega (arith, subs_spread ps 0)
parts_spread (numeral n ∷ ps) (suc k) = parts_spread ps k
parts_spread (chain s ∷ ps) (suc k) = omega (arith, parts_spread ps k)

goal_spread : (ps : List Part) (g : GoalKind) → goal_count (goal_of ps g) ≤ suc (spreads ps)
unfolding goal_of goals_count spread
goal_spread ps k_literal = omega arith
goal_spread ps k_sum = omega arith
goal_spread ps k_assign = omega arith
goal_spread ps k_construct = omega arith
goal_spread ps k_switch = omega (arith, sub_spread ps 1)
goal_spread ps k_if = omega (arith, subs_spread ps 2)
goal_spread ps k_call = omega arith
goal_spread ps k_print = omega arith
goal_spread ps k_create = omega arith
goal_spread ps k_remove = omega arith
goal_spread ps k_try = omega (arith, parts_spread ps 0)
goal_spread ps k_test = omega arith

front_spread : (ps : List Part) (k : Kind) (s : Sense) → spread (in_front ps k s) ≤ suc (spreads ps + spread s)
unfolding in_front spread goals_count
front_spread ps k_none s = omega arith
front_spread ps k_header s = omega arith
front_spread ps k_type s = omega arith
front_spread ps k_functor s = omega arith
front_spread ps k_procedure s = omega arith
front_spread ps k_variable s = omega arith
front_spread ps k_region s = omega arith
front_spread ps k_edge s = omega arith
front_spread ps k_arm s = omega (arith, sub_spread ps 0)
front_spread ps k_argument s = omega arith
front_spread ps (k_goal g) s = omega (arith, goal_spread ps g)

mutual
  unfolding sense_of size spreads spread no_sense goals_count

  tree_spread : (t : Tree) → spread (sense_of t) ≤ size t
  tree_spread end = omega arith
  tree_spread (node k next ws) = omega (arith, front_spread (parts_of ws) k (sense_of next), words_spread ws, tree_spread next)

  words_spread : (ws : Words) → spreads (parts_of ws) ≤ size_words ws
  words_spread no_words = omega arith
  words_spread (plain n ws) = words_spread ws
  words_spread (leads t ws) = omega (arith, tree_spread t, words_spread ws)

pub tree_count : (t : Tree) → goals_count (sense_of t).as_goals ≤ size t
unfolding spread
tree_count t = omega (arith, tree_spread t)
