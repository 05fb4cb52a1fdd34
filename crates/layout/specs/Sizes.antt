-- How many records a program takes: sums over its parts.
use Rattle.std.specs.Prelude.{ℕ, suc, ◌+◌, List, [], ◌∷◌, ◌≡◌, refl, length}
use Rattle.std.proofs.Common.{arith}
use Rattle.language.specs.File.{Kind, k_type, k_procedure, k_variable, k_region, k_edge, k_argument}
use Rattle.language.specs.Tree.{Tree, Words, no_words}
use Rattle.language.specs.Layout.{size, size_words}
use Rattle.language.specs.Program.{Four, four, Variable, Edge, Region, Step, literal, sum, assign, construct, call, print, create, remove, test, Goals, done, ◌then◌, Goal, step, switch, if_less, try, Arms, no_arms, arm, ◌before◌, Signature, Procedure, Program}
use Rattle.language.specs.Records.{zeros, four_plain, chain_of, type_words, variable_words, edge_words, region_words, argument_words, step_tree, goals_tree, goal_tree, arms_tree, procedure_words, program_tree}
use Rattle.layout.specs.Written.{headed_size}

-- ---- chains
-- a chain whose records lead nowhere else has one record an element
plain_size : {A : Type 0} (k : Kind) (f : A → Words) → ((x : A) → size_words (f x) ≡ 0) → (xs : List A) → size (chain_of k f xs) ≡ length xs
unfolding chain_of size
plain_size k f h [] = refl
plain_size k f h (x ∷ xs) = omega (arith, h x, plain_size k f h xs)

pub chain_size : {A : Type 0} (k : Kind) (f : A → Words) (x : A) (xs : List A)
    → size (chain_of k f (x ∷ xs)) ≡ suc (size_words (f x) + size (chain_of k f xs))
unfolding chain_of size
chain_size k f x xs = refl

four_size : (a : Four) (ws : Words) → size_words (four_plain a ws) ≡ size_words ws
unfolding four_plain size
four_size (four a b c d) ws = refl

pub variables_size : (vs : List Variable) → size (chain_of k_variable variable_words vs) ≡ length vs
unfolding variable_words zeros size
variables_size vs = plain_size k_variable variable_words (λ v. refl) vs

pub edges_size : (es : List Edge) → size (chain_of k_edge edge_words es) ≡ length es
unfolding edge_words zeros size
edges_size es = plain_size k_edge edge_words (λ e. refl) es

pub arguments_size : (ys : List ℕ) → size (chain_of k_argument argument_words ys) ≡ length ys
unfolding argument_words zeros size
arguments_size ys = plain_size k_argument argument_words (λ y. refl) ys

pub region_size : (r : Region) → size_words (region_words r) ≡ length r.edges
unfolding region_words zeros size
region_size r = omega (arith, edges_size r.edges)

-- ---- goals
-- the records of one step
unfoldable pub step_size : Step → ℕ
step_size (literal x v) = 1
step_size (sum x o y z) = 1
step_size (assign x y) = 1
step_size (construct x f ys) = 1
step_size (call q ys) = suc (length ys)
step_size (print y) = 1
step_size (create r) = 1
step_size (remove r) = 1
step_size (test y z) = 1

pub step_size_law : (s : Step) (next : Tree) → size (step_tree s next) ≡ step_size s + size next
unfolding step_tree step_size zeros size
step_size_law (literal x v) next = omega arith
step_size_law (sum x o y z) next = omega arith
step_size_law (assign x y) next = omega arith
step_size_law (construct x f ys) next = omega (arith, four_size ys no_words)
step_size_law (call q ys) next = omega (arith, arguments_size ys)
step_size_law (print y) next = omega arith
step_size_law (create r) next = omega arith
step_size_law (remove r) next = omega arith
step_size_law (test y z) next = omega arith

unfoldable mutual
  pub goals_size : Goals → ℕ
  goals_size done = 0
  goals_size (g then gs) = goal_size g + goals_size gs

  pub goal_size : Goal → ℕ
  goal_size (step s) = step_size s
  goal_size (switch x cs) = suc (arms_size cs)
  goal_size (if_less y z a b) = suc (goals_size a + goals_size b)
  goal_size (try c a b) = suc (goals_size c + (goals_size a + goals_size b))

  pub arms_size : Arms → ℕ
  arms_size no_arms = 0
  arms_size (arm f ys gs cs) = suc (goals_size gs + arms_size cs)

mutual
  unfolding goals_tree goals_size zeros size

  pub goals_size_law : (gs : Goals) → size (goals_tree gs) ≡ goals_size gs
  goals_size_law done = refl
  goals_size_law (g then gs) = omega (arith, goal_size_law g (goals_tree gs), goals_size_law gs)

  pub goal_size_law : (g : Goal) (next : Tree) → size (goal_tree g next) ≡ goal_size g + size next
  goal_size_law (step s) next = step_size_law s next
  goal_size_law (switch x cs) next = omega (arith, arms_size_law cs)
  goal_size_law (if_less y z a b) next = omega (arith, goals_size_law a, goals_size_law b)
  goal_size_law (try c a b) next = omega (arith, goals_size_law c, goals_size_law a, goals_size_law b)

  pub arms_size_law : (cs : Arms) → size (arms_tree cs) ≡ arms_size cs
  arms_size_law no_arms = refl
  arms_size_law (arm f ys gs cs) = omega (arith, four_size ys no_words, goals_size_law gs, arms_size_law cs)

pub before_size : (gs hs : Goals) → goals_size (gs before hs) ≡ goals_size gs + goals_size hs
unfolding ◌before◌ goals_size
before_size done hs = omega arith
before_size (g then gs) hs = omega (arith, before_size gs hs)

-- ---- procedures and programs
unfoldable pub signature_size : Signature → ℕ
signature_size S = length S.variables + size (chain_of k_region region_words S.regions)

pub procedure_size : (p : Procedure) → size_words (procedure_words p) ≡ signature_size p.signature + goals_size p.body
unfolding procedure_words signature_size zeros size
procedure_size p = omega (arith, variables_size p.signature.variables, goals_size_law p.body)

unfoldable pub procedures_size : List Procedure → ℕ
procedures_size [] = 0
procedures_size (p ∷ ps) = suc (signature_size p.signature + goals_size p.body) + procedures_size ps

procedures_size_law : (ps : List Procedure) → size (chain_of k_procedure procedure_words ps) ≡ procedures_size ps
unfolding chain_of size procedures_size
procedures_size_law [] = refl
procedures_size_law (p ∷ ps) = omega (arith, procedure_size p, procedures_size_law ps)

pub program_records : (P : Program)
    → size (program_tree P) ≡ suc (size (chain_of k_type type_words P.types) + procedures_size P.procedures)
unfolding program_tree
program_records P =
    let whole = headed_size (chain_of k_type type_words P.types) (chain_of k_procedure procedure_words P.procedures) in
    omega (arith, procedures_size_law P.procedures)
