-- A program's tree fits the table.
use Rattle.std.specs.Prelude.{ℕ, zero, suc, List, [], ◌∷◌, ◌≡◌, refl}
use Rattle.language.specs.File.{Kind, k_type, k_functor, k_procedure, k_variable, k_region, k_edge, k_argument, Chain, nowhere, types, functors, procedures, variables, regions, edges, goals, arms, arguments, Use, number, padded, row}
use Rattle.language.specs.Tree.{Tree, Words}
use Rattle.language.specs.Program.{Four, four, Functor, Variable, Edge, Region, Step, literal, sum, assign, construct, call, print, create, remove, test, Goals, done, ◌then◌, Goal, step, switch, if_less, try, Arms, no_arms, arm, Procedure, Program}
use Rattle.language.specs.Records.{zeros, four_plain, chain_of, functor_words, type_words, variable_words, edge_words, region_words, argument_words, step_tree, goals_tree, goal_tree, arms_tree, procedure_words, program_tree}
use Rattle.layout.specs.Table.{all_rows}
use Rattle.layout.specs.Fits.{Fits, fits_end, fits_node, FitsWords, fits_none, fits_number, fits_unused, fits_first}
use Rattle.layout.specs.Written.{headed_fits}

chain_of_fits : {A : Type 0} (k : Kind) (c : Chain) (f : A → Words) (xs : List A) → (row k).chain ≡ c → (row k).next ≡ c
    → ((x : A) → FitsWords (row k).words (f x)) → Fits c (chain_of k f xs)
unfolding chain_of
chain_of_fits k c f [] e a h = fits_end
chain_of_fits k c f (x ∷ xs) e a h = fits_node {t = chain_of k f xs} e (rw a (chain_of_fits k c f xs e a h)) (h x)

zeros_fit : (n : ℕ) → FitsWords (padded n []) (zeros n)
unfolding padded zeros
zeros_fit zero = fits_none
zeros_fit (suc n) = fits_unused (zeros_fit n)

four_fits : (a : Four) {us : List Use} {ws : Words} → FitsWords us ws → FitsWords (number ∷ number ∷ number ∷ number ∷ us) (four_plain a ws)
unfolding four_plain
four_fits (four a b c d) f = fits_number (fits_number (fits_number (fits_number f)))

functor_fits_law : (f : Functor) → FitsWords (row k_functor).words (functor_words f)
unfolding functor_words all_rows
functor_fits_law f = fits_number (four_fits f.argument_types (zeros_fit 1))

type_fits_law : (fs : List Functor) → FitsWords (row k_type).words (type_words fs)
unfolding type_words all_rows
type_fits_law fs = fits_first (chain_of_fits k_functor functors functor_words fs refl refl functor_fits_law) (zeros_fit 5)

variable_fits : (v : Variable) → FitsWords (row k_variable).words (variable_words v)
unfolding variable_words all_rows
variable_fits v = fits_number (fits_number (fits_number (zeros_fit 3)))

edge_fits : (e : Edge) → FitsWords (row k_edge).words (edge_words e)
unfolding edge_words all_rows
edge_fits e = fits_number (fits_number (fits_number (zeros_fit 3)))

region_fits : (r : Region) → FitsWords (row k_region).words (region_words r)
unfolding region_words all_rows
region_fits r = fits_number (fits_number (fits_first (chain_of_fits k_edge edges edge_words r.edges refl refl edge_fits) (zeros_fit 3)))

argument_fits : (y : ℕ) → FitsWords (row k_argument).words (argument_words y)
unfolding argument_words all_rows
argument_fits y = fits_number (zeros_fit 5)

step_fits : (s : Step) (next : Tree) → Fits goals next → Fits goals (step_tree s next)
unfolding step_tree all_rows
step_fits (literal x v) next h = fits_node refl h (fits_number (fits_number (zeros_fit 4)))
step_fits (sum x o y z) next h = fits_node refl h (fits_number (fits_number (fits_number (fits_number (zeros_fit 2)))))
step_fits (assign x y) next h = fits_node refl h (fits_number (fits_number (zeros_fit 4)))
step_fits (construct x f ys) next h = fits_node refl h (fits_number (fits_number (four_fits ys fits_none)))
step_fits (call q ys) next h =
    fits_node refl h (fits_number (fits_first (chain_of_fits k_argument arguments argument_words ys refl refl argument_fits) (zeros_fit 4)))
step_fits (print y) next h = fits_node refl h (fits_number (zeros_fit 5))
step_fits (create r) next h = fits_node refl h (fits_number (zeros_fit 5))
step_fits (remove r) next h = fits_node refl h (fits_number (zeros_fit 5))
step_fits (test y z) next h = fits_node refl h (fits_number (fits_number (zeros_fit 4)))

mutual
  unfolding goals_tree all_rows

  pub goals_fit : (gs : Goals) → Fits goals (goals_tree gs)
  goals_fit done = fits_end
  goals_fit (g then gs) = goal_fits g (goals_tree gs) (goals_fit gs)

  goal_fits : (g : Goal) (next : Tree) → Fits goals next → Fits goals (goal_tree g next)
  goal_fits (step s) next h = step_fits s next h
  goal_fits (switch x cs) next h = fits_node refl h (fits_number (fits_first (arms_fit cs) (zeros_fit 4)))
  goal_fits (if_less y z a b) next h = fits_node refl h (fits_number (fits_number (fits_first (goals_fit a) (fits_first (goals_fit b) (zeros_fit 2)))))
  goal_fits (try c a b) next h = fits_node refl h (fits_first (goals_fit c) (fits_first (goals_fit a) (fits_first (goals_fit b) (zeros_fit 3))))

  arms_fit : (cs : Arms) → Fits arms (arms_tree cs)
  arms_fit no_arms = fits_end
  arms_fit (arm f ys gs cs) = fits_node refl (arms_fit cs) (fits_first (goals_fit gs) (fits_number (four_fits ys fits_none)))

procedure_fits : (p : Procedure) → FitsWords (row k_procedure).words (procedure_words p)
unfolding procedure_words all_rows
procedure_fits p =
    fits_first (chain_of_fits k_variable variables variable_words p.signature.variables refl refl variable_fits)
    (fits_first (chain_of_fits k_region regions region_words p.signature.regions refl refl region_fits) (fits_first (goals_fit p.body) (zeros_fit 3)))

pub types_fit : (P : Program) → Fits types (chain_of k_type type_words P.types)
unfolding all_rows
types_fit P = chain_of_fits k_type types type_words P.types refl refl type_fits_law

pub procedures_fit : (P : Program) → Fits procedures (chain_of k_procedure procedure_words P.procedures)
unfolding all_rows
procedures_fit P = chain_of_fits k_procedure procedures procedure_words P.procedures refl refl procedure_fits

pub program_fits : (P : Program) → Fits nowhere (program_tree P)
unfolding program_tree
program_fits P = headed_fits (types_fit P) (procedures_fit P)
