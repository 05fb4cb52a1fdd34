-- A program's tree is read back as the program, and so is its file.
use Rattle.std.specs.Prelude.{ℕ, ◌*◌, ◌≤◌, List, [], ◌∷◌, ◌≡◌, refl, true, length}
use Rattle.std.proofs.Math.Path.{ap}
use Rattle.std.proofs.Common.{ap₂, ◌∙◌}
use Rattle.language.specs.Lists.{nth}
use Rattle.language.specs.File.{Kind, k_type, k_functor, k_procedure, k_variable, k_region, k_edge, k_arm, k_argument, word, record_count, header_ok, form_ok}
use Rattle.language.specs.Conditions.{conditions_ok}
use Rattle.language.specs.Tree.{Tree, node, Words, no_words, plain, leads, tree_of}
use Rattle.language.specs.Layout.{size, written}
use Rattle.language.specs.Program.{Four, four, Functor, Variable, Edge, Region, Step, literal, sum, assign, construct, call, print, create, remove, test, Goals, done, ◌then◌, Goal, step, switch, if_less, try, Arms, no_arms, arm, Procedure, Program}
use Rattle.language.specs.Reading.{word_at, chain_at, each, read_functor, read_type, read_variable, read_edge, read_region, no_sense, number_in, sense_in, num, sub, goal_of, in_front, sense_of, read_procedure, program_of}
use Rattle.language.specs.Records.{zeros, four_plain, chain_of, functor_words, type_words, variable_words, edge_words, region_words, argument_words, step_tree, goals_tree, goal_tree, arms_tree, procedure_words, headed, program_tree}
use Rattle.language.specs.Answers.{program}
use Rattle.layout.specs.Written.{length_written, form_written, header_written, tree_written}
use Rattle.layout.specs.ProgramFits.{types_fit, procedures_fit}

-- ---- declarations
each_chain_of : {A : Type 0} (k : Kind) (f : A → Words) (g : Words → A) (xs : List A) → ((x : A) → g (f x) ≡ x)
    → each g (chain_of k f xs) ≡ xs
unfolding each chain_of
each_chain_of k f g [] h = refl
each_chain_of k f g (x ∷ xs) h = ap₂ ◌∷◌ (h x) (each_chain_of k f g xs h)

four_back : (a : Four) (ws : Words)
    → four (word_at 0 (four_plain a ws)) (word_at 1 (four_plain a ws)) (word_at 2 (four_plain a ws)) (word_at 3 (four_plain a ws)) ≡ a
unfolding four_plain word_at
four_back (four a b c d) ws = refl

functor_back : (f : Functor) → read_functor (functor_words f) ≡ f
unfolding read_functor functor_words word_at
functor_back f = ap (λ ts. record { arity = f.arity; argument_types = ts }) (four_back f.argument_types (zeros 1))

type_back : (fs : List Functor) → read_type (type_words fs) ≡ fs
unfolding read_type type_words chain_at
type_back fs = each_chain_of k_functor functor_words read_functor fs functor_back

variable_back : (v : Variable) → read_variable (variable_words v) ≡ v
unfolding read_variable variable_words word_at
variable_back v = refl

edge_back : (e : Edge) → read_edge (edge_words e) ≡ e
unfolding read_edge edge_words word_at
edge_back e = refl

region_back : (r : Region) → read_region (region_words r) ≡ r
unfolding read_region region_words word_at chain_at
region_back r = ap (λ es. record { type = r.type; class = r.class; edges = es }) (each_chain_of k_edge edge_words read_edge r.edges edge_back)

-- ---- goals
arguments_back : (ys : List ℕ) → (sense_of (chain_of k_argument argument_words ys)).as_arguments ≡ ys
unfolding chain_of argument_words sense_of no_sense in_front num number_in nth
arguments_back [] = refl
arguments_back (y ∷ ys) = ap (λ l. y ∷ l) (arguments_back ys)

unfoldable all_senses : Unit {0}
unfolding sense_of no_sense in_front goal_of num sub number_in sense_in nth
all_senses = tt

step_back : (s : Step) (next : Tree) (gs : Goals) → (sense_of next).as_goals ≡ gs → (sense_of (step_tree s next)).as_goals ≡ step s then gs
unfolding step_tree four_plain all_senses
step_back (literal x v) next gs h = rw h
step_back (sum x o y z) next gs h = rw h
step_back (assign x y) next gs h = rw h
step_back (construct x f (four a b c d)) next gs h = rw h
step_back (call q ys) next gs h = rw (h, arguments_back ys)
step_back (print y) next gs h = rw h
step_back (create r) next gs h = rw h
step_back (remove r) next gs h = rw h
step_back (test y z) next gs h = rw h

arm_words_law : (f : ℕ) (ys : Four) (gs : Goals) (cs : Arms) (t next : Tree) → (sense_of t).as_goals ≡ gs → (sense_of next).as_arms ≡ cs
    → (sense_of (node k_arm next (leads t (plain f (four_plain ys no_words))))).as_arms ≡ arm f ys gs cs
unfolding four_plain all_senses
arm_words_law f (four a b c d) gs cs t next h e = rw (h, e)

mutual
  unfolding goals_tree all_senses

  pub goals_back : (gs : Goals) → (sense_of (goals_tree gs)).as_goals ≡ gs
  goals_back done = refl
  goals_back (g then gs) = goal_back g (goals_tree gs) gs (goals_back gs)

  goal_back : (g : Goal) (next : Tree) (gs : Goals) → (sense_of next).as_goals ≡ gs → (sense_of (goal_tree g next)).as_goals ≡ g then gs
  goal_back (step s) next gs h = step_back s next gs h
  goal_back (switch x cs) next gs h = rw (h, arms_back cs)
  goal_back (if_less y z a b) next gs h = rw (h, goals_back a, goals_back b)
  goal_back (try c a b) next gs h = rw (h, goals_back c, goals_back a, goals_back b)

  arms_back : (cs : Arms) → (sense_of (arms_tree cs)).as_arms ≡ cs
  arms_back no_arms = refl
  arms_back (arm f ys gs cs) = arm_words_law f ys gs cs (goals_tree gs) (arms_tree cs) (goals_back gs) (arms_back cs)

-- ---- the program
procedure_back : (p : Procedure) → read_procedure (procedure_words p) ≡ p
unfolding read_procedure procedure_words chain_at
procedure_back p =
    let vs = each_chain_of k_variable variable_words read_variable p.signature.variables variable_back in
    let rs = each_chain_of k_region region_words read_region p.signature.regions region_back in
    rw (vs, rs, goals_back p.body)

pub program_back : (P : Program) → program_of (program_tree P) ≡ P
unfolding program_of program_tree headed chain_at
program_back P =
    ap₂ (λ ts ps. record { types = ts; procedures = ps }) (each_chain_of k_type type_words read_type P.types type_back)
    (each_chain_of k_procedure procedure_words read_procedure P.procedures procedure_back)

-- ---- the file of a program
module _ (P : Program) where
  pub tree_of_program : tree_of (written (program_tree P)) ≡ program_tree P
  unfolding program_tree
  tree_of_program = tree_written (types_fit P) (procedures_fit P)

  pub length_of_program : length (written (program_tree P)) ≡ 16 * size (program_tree P)
  unfolding program_tree
  length_of_program = length_written (types_fit P) (procedures_fit P)

  pub form_of_program : form_ok (word (written (program_tree P))) (record_count (written (program_tree P))) ≡ true
  unfolding program_tree
  form_of_program = form_written (types_fit P) (procedures_fit P)

  pub header_of_program : size (program_tree P) ≤ 4096 → header_ok (written (program_tree P)) ≡ true
  unfolding program_tree
  header_of_program q = header_written (types_fit P) (procedures_fit P) q

  pub program_written : program (written (program_tree P)) ≡ P
  unfolding program
  program_written = ap program_of tree_of_program ∙ program_back P

  pub conditions_of_program : conditions_ok (program (written (program_tree P))) ≡ conditions_ok P
  conditions_of_program = ap conditions_ok program_written
