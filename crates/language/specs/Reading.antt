-- Reading a program off the tree of a file, word by word as document 01's table names them.
use Rattle.std.specs.Prelude.{ℕ, zero, suc, List, [], ◌∷◌}
use Rattle.language.specs.Lists.{nth}
use Rattle.language.specs.File.{GoalKind, k_literal, k_sum, k_assign, k_construct, k_switch, k_if, k_call, k_print, k_create, k_remove, k_try, k_test, Kind, k_none, k_header, k_type, k_functor, k_procedure, k_variable, k_region, k_edge, k_arm, k_argument, k_goal}
use Rattle.language.specs.Tree.{Tree, end, node, Words, no_words, plain, leads}
use Rattle.language.specs.Program.{four, Functor, Variable, Edge, Region, literal, sum, assign, construct, call, print, create, remove, test, Goals, done, ◌then◌, Goal, step, switch, if_less, try, Arms, no_arms, arm, Procedure, Program}

-- word k, or what it leads to, counted from w2
unfoldable pub word_at : ℕ → Words → ℕ
word_at k no_words = 0
word_at zero (plain n ws) = n
word_at zero (leads t ws) = 0
word_at (suc k) (plain n ws) = word_at k ws
word_at (suc k) (leads t ws) = word_at k ws

unfoldable pub chain_at : ℕ → Words → Tree
chain_at k no_words = end
chain_at zero (plain n ws) = end
chain_at zero (leads t ws) = t
chain_at (suc k) (plain n ws) = chain_at k ws
chain_at (suc k) (leads t ws) = chain_at k ws

-- one element for each record of a chain
unfoldable pub each : {A : Type 0} → (Words → A) → Tree → List A
each f end = []
each f (node k next ws) = f ws ∷ each f next

unfoldable pub read_functor : Words → Functor
read_functor ws = record { arity = word_at 0 ws; argument_types = four (word_at 1 ws) (word_at 2 ws) (word_at 3 ws) (word_at 4 ws) }

unfoldable pub read_type : Words → List Functor
read_type ws = each read_functor (chain_at 0 ws)

unfoldable pub read_variable : Words → Variable
read_variable ws = record { mode = word_at 0 ws; type = word_at 1 ws; region = word_at 2 ws }

unfoldable pub read_edge : Words → Edge
read_edge ws = record { functor = word_at 0 ws; position = word_at 1 ws; target = word_at 2 ws }

unfoldable pub read_region : Words → Region
read_region ws = record { type = word_at 0 ws; class = word_at 1 ws; edges = each read_edge (chain_at 2 ws) }

-- what a chain stands for: as goals, as arms, as arguments of a call
pub record Sense : Type 0 where
  pub as_goals : Goals
  pub as_arms : Arms
  pub as_arguments : List ℕ

-- a word of a goal: a number, or the sense of the chain that it leads to
pub data Part : Type 0 where
  numeral : ℕ → Part
  chain : Sense → Part

unfoldable pub no_sense : Sense
no_sense = record { as_goals = done; as_arms = no_arms; as_arguments = [] }

unfoldable pub number_in : Part → ℕ
number_in (numeral n) = n
number_in (chain s) = 0

unfoldable pub sense_in : Part → Sense
sense_in (numeral n) = no_sense
sense_in (chain s) = s

module _ (ps : List Part) where
  unfoldable pub num : ℕ → ℕ
  num k = number_in (nth (numeral 0) ps k)

  unfoldable pub sub : ℕ → Sense
  sub k = sense_in (nth (numeral 0) ps k)

  unfoldable pub goal_of : GoalKind → Goal
  goal_of k_literal = step (literal (num 0) (num 1))
  goal_of k_sum = step (sum (num 0) (num 1) (num 2) (num 3))
  goal_of k_assign = step (assign (num 0) (num 1))
  goal_of k_construct = step (construct (num 0) (num 1) (four (num 2) (num 3) (num 4) (num 5)))
  goal_of k_switch = switch (num 0) (sub 1).as_arms
  goal_of k_if = if_less (num 0) (num 1) (sub 2).as_goals (sub 3).as_goals
  goal_of k_call = step (call (num 0) (sub 1).as_arguments)
  goal_of k_print = step (print (num 0))
  goal_of k_create = step (create (num 0))
  goal_of k_remove = step (remove (num 0))
  goal_of k_try = try (sub 0).as_goals (sub 1).as_goals (sub 2).as_goals
  goal_of k_test = step (test (num 0) (num 1))

  -- the sense of a record in front of a chain
  unfoldable pub in_front : Kind → Sense → Sense
  in_front k_none s = s
  in_front k_header s = s
  in_front k_type s = s
  in_front k_functor s = s
  in_front k_procedure s = s
  in_front k_variable s = s
  in_front k_region s = s
  in_front k_edge s = s
  in_front k_arm s = record { as_goals = s.as_goals; as_arms = arm (num 1) (four (num 2) (num 3) (num 4) (num 5)) (sub 0).as_goals s.as_arms; as_arguments = s.as_arguments }
  in_front k_argument s = record { as_goals = s.as_goals; as_arms = s.as_arms; as_arguments = num 0 ∷ s.as_arguments }
  in_front (k_goal g) s = record { as_goals = goal_of g then s.as_goals; as_arms = s.as_arms; as_arguments = s.as_arguments }

unfoldable mutual
  pub sense_of : Tree → Sense
  sense_of end = no_sense
  sense_of (node k next ws) = in_front (parts_of ws) k (sense_of next)

  pub parts_of : Words → List Part
  parts_of no_words = []
  parts_of (plain n ws) = numeral n ∷ parts_of ws
  parts_of (leads t ws) = chain (sense_of t) ∷ parts_of ws

unfoldable pub read_procedure : Words → Procedure
read_procedure ws = record {
  signature = record { variables = each read_variable (chain_at 0 ws); regions = each read_region (chain_at 1 ws) };
  body = (sense_of (chain_at 2 ws)).as_goals;
}

-- the header's w2 leads to the types, its w1 to the procedures
unfoldable pub program_of : Tree → Program
program_of end = record { types = []; procedures = [] }
program_of (node k next ws) = record { types = each read_type (chain_at 0 ws); procedures = each read_procedure next }
