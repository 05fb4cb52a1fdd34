-- The records of a program, as a tree: what `program_of` reads back.
use Rattle.std.specs.Prelude.{ℕ, zero, suc, ◌+◌, List, [], ◌∷◌}
use Rattle.language.specs.File.{k_literal, k_sum, k_assign, k_construct, k_switch, k_if, k_call, k_print, k_create, k_remove, k_try, k_test, Kind, k_header, k_type, k_functor, k_procedure, k_variable, k_region, k_edge, k_arm, k_argument, k_goal}
use Rattle.language.specs.Tree.{Tree, end, node, Words, no_words, plain, leads}
use Rattle.language.specs.Layout.{size}
use Rattle.language.specs.Program.{Four, four, Functor, Variable, Edge, Region, Step, literal, sum, assign, construct, call, print, create, remove, test, Goals, done, ◌then◌, Goal, step, switch, if_less, try, Arms, no_arms, arm, Procedure, Program}

-- n unused words
unfoldable pub zeros : ℕ → Words
zeros zero = no_words
zeros (suc n) = plain 0 (zeros n)

unfoldable pub four_plain : Four → Words → Words
four_plain (four a b c d) ws = plain a (plain b (plain c (plain d ws)))

-- a chain of records of one kind
unfoldable pub chain_of : {A : Type 0} → Kind → (A → Words) → List A → Tree
chain_of k f [] = end
chain_of k f (x ∷ xs) = node k (chain_of k f xs) (f x)

unfoldable pub functor_words : Functor → Words
functor_words f = plain f.arity (four_plain f.argument_types (zeros 1))

unfoldable pub type_words : List Functor → Words
type_words fs = leads (chain_of k_functor functor_words fs) (zeros 5)

unfoldable pub variable_words : Variable → Words
variable_words v = plain v.mode (plain v.type (plain v.region (zeros 3)))

unfoldable pub edge_words : Edge → Words
edge_words e = plain e.functor (plain e.position (plain e.target (zeros 3)))

unfoldable pub region_words : Region → Words
region_words r = plain r.type (plain r.class (leads (chain_of k_edge edge_words r.edges) (zeros 3)))

unfoldable pub argument_words : ℕ → Words
argument_words y = plain y (zeros 5)

-- a step in front of the rest of its chain
unfoldable pub step_tree : Step → Tree → Tree
step_tree (literal x v) next = node (k_goal k_literal) next (plain x (plain v (zeros 4)))
step_tree (sum x o y z) next = node (k_goal k_sum) next (plain x (plain o (plain y (plain z (zeros 2)))))
step_tree (assign x y) next = node (k_goal k_assign) next (plain x (plain y (zeros 4)))
step_tree (construct x f ys) next = node (k_goal k_construct) next (plain x (plain f (four_plain ys no_words)))
step_tree (call q ys) next = node (k_goal k_call) next (plain q (leads (chain_of k_argument argument_words ys) (zeros 4)))
step_tree (print y) next = node (k_goal k_print) next (plain y (zeros 5))
step_tree (create r) next = node (k_goal k_create) next (plain r (zeros 5))
step_tree (remove r) next = node (k_goal k_remove) next (plain r (zeros 5))
step_tree (test y z) next = node (k_goal k_test) next (plain y (plain z (zeros 4)))

unfoldable mutual
  pub goals_tree : Goals → Tree
  goals_tree done = end
  goals_tree (g then gs) = goal_tree g (goals_tree gs)

  pub goal_tree : Goal → Tree → Tree
  goal_tree (step s) next = step_tree s next
  goal_tree (switch x cs) next = node (k_goal k_switch) next (plain x (leads (arms_tree cs) (zeros 4)))
  goal_tree (if_less y z a b) next = node (k_goal k_if) next (plain y (plain z (leads (goals_tree a) (leads (goals_tree b) (zeros 2)))))
  goal_tree (try c a b) next = node (k_goal k_try) next (leads (goals_tree c) (leads (goals_tree a) (leads (goals_tree b) (zeros 3))))

  pub arms_tree : Arms → Tree
  arms_tree no_arms = end
  arms_tree (arm f ys gs cs) = node k_arm (arms_tree cs) (leads (goals_tree gs) (plain f (four_plain ys no_words)))

unfoldable pub procedure_words : Procedure → Words
procedure_words p =
    leads (chain_of k_variable variable_words p.signature.variables)
    (leads (chain_of k_region region_words p.signature.regions) (leads (goals_tree p.body) (zeros 3)))

-- the whole tree, with its header
unfoldable pub headed : Tree → Tree → Tree
headed types procedures = node k_header procedures (leads types (plain (suc (size types + size procedures)) (zeros 4)))

unfoldable pub program_tree : Program → Tree
program_tree P = headed (chain_of k_type type_words P.types) (chain_of k_procedure procedure_words P.procedures)
