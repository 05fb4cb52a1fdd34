-- A tree that fits the table is the tree of the program that it is read as: reading loses nothing.
use Rattle.std.specs.Prelude.{ℕ, zero, suc, ◌+◌, List, [], ◌∷◌, ◌≡◌, refl, true}
use Rattle.std.proofs.Common.{arith, zero-add, add-zero, ap₂, subst, ◌∙◌}
use Rattle.std.proofs.Math.Path.{ap, sym}
use Rattle.language.specs.Lists.{nth}
use Rattle.language.specs.File.{k_literal, k_sum, k_assign, k_construct, k_switch, k_if, k_call, k_print, k_create, k_remove, k_try, k_test, Kind, k_none, k_header, k_type, k_functor, k_procedure, k_variable, k_region, k_edge, k_arm, k_argument, k_goal, Chain, nowhere, types, functors, procedures, variables, regions, edges, goals, arms, arguments, Use, number, unused, first, row, word, record_count, header_ok, form_ok}
use Rattle.language.specs.Tree.{Tree, end, node, Words, no_words, plain, leads, tree_of}
use Rattle.language.specs.Layout.{size}
use Rattle.language.specs.Reading.{word_at, chain_at, each, read_functor, read_type, read_variable, read_edge, read_region, no_sense, number_in, sense_in, num, sub, goal_of, in_front, sense_of, parts_of, read_procedure, program_of}
use Rattle.language.specs.Records.{zeros, four_plain, chain_of, functor_words, type_words, variable_words, edge_words, region_words, argument_words, step_tree, goals_tree, arms_tree, procedure_words, headed, program_tree}
use Rattle.language.specs.Answers.{program}
use Rattle.layout.specs.Table.{all_rows}
use Rattle.layout.specs.Fits.{Fits, fits_end, fits_node, FitsWords, fits_none, fits_number, fits_unused, fits_first}
use Rattle.layout.specs.Files.{types_fit, procedures_fit, tree_headed, tree_size}

-- a chain of the sort c is what its reading is written as
abbrev Same : Chain → Tree → Type 0
Same nowhere t = Unit {0}
Same types t = chain_of k_type type_words (each read_type t) ≡ t
Same functors t = chain_of k_functor functor_words (each read_functor t) ≡ t
Same procedures t = chain_of k_procedure procedure_words (each read_procedure t) ≡ t
Same variables t = chain_of k_variable variable_words (each read_variable t) ≡ t
Same regions t = chain_of k_region region_words (each read_region t) ≡ t
Same edges t = chain_of k_edge edge_words (each read_edge t) ≡ t
Same goals t = goals_tree (sense_of t).as_goals ≡ t
Same arms t = arms_tree (sense_of t).as_arms ≡ t
Same arguments t = chain_of k_argument argument_words (sense_of t).as_arguments ≡ t

-- so are the chains b k, b (k + 1) .. that words of these uses lead to
abbrev Sames : (ℕ → Tree) → ℕ → List Use → Type 0
Sames b k [] = Unit {0}
Sames b k (number ∷ us) = Sames b (suc k) us
Sames b k (unused ∷ us) = Sames b (suc k) us
Sames b k (first c ∷ us) = Same c (b k) × Sames b (suc k) us

-- words of these uses, with the numbers a k, a (k + 1) .. and the chains b k, b (k + 1) ..
spell : (ℕ → ℕ) → (ℕ → Tree) → ℕ → List Use → Words
spell a b k [] = no_words
spell a b k (number ∷ us) = plain (a k) (spell a b (suc k) us)
spell a b k (unused ∷ us) = plain 0 (spell a b (suc k) us)
spell a b k (first c ∷ us) = leads (b k) (spell a b (suc k) us)

-- a function that agrees with another from k on does from k + 1 on with it one further
shifted : {A : Type 0} (f : ℕ → A) (k : ℕ) {g : ℕ → A} → ((j : ℕ) → f (k + j) ≡ g j) → (j : ℕ) → f (suc k + j) ≡ g (suc j)
shifted f k h j = ap f (omega arith) ∙ h (suc j)

spelled : {us : List Use} {ws : Words} → FitsWords us ws → (a : ℕ → ℕ) (b : ℕ → Tree) (k : ℕ) → ((j : ℕ) → a (k + j) ≡ word_at j ws)
    → ((j : ℕ) → b (k + j) ≡ chain_at j ws) → spell a b k us ≡ ws
unfolding spell word_at chain_at
spelled fits_none a b k p q = refl
spelled (fits_number f) a b k p q = ap₂ plain (rw add-zero at (p 0)) (spelled f a b (suc k) (shifted a k p) (shifted b k q))
spelled (fits_unused f) a b k p q = ap (plain 0) (spelled f a b (suc k) (shifted a k p) (shifted b k q))
spelled (fits_first f g) a b k p q = ap₂ leads (rw add-zero at (q 0)) (spelled g a b (suc k) (shifted a k p) (shifted b k q))

num_at : (ws : Words) (k : ℕ) → num (parts_of ws) k ≡ word_at k ws
unfolding num nth number_in word_at parts_of
num_at no_words zero = refl
num_at no_words (suc k) = refl
num_at (plain n ws) zero = refl
num_at (plain n ws) (suc k) = num_at ws k
num_at (leads t ws) zero = refl
num_at (leads t ws) (suc k) = num_at ws k

sub_at : (ws : Words) (k : ℕ) → sub (parts_of ws) k ≡ sense_of (chain_at k ws)
unfolding sub nth sense_in no_sense chain_at parts_of
sub_at no_words zero = refl
sub_at no_words (suc k) = refl
sub_at (plain n ws) zero = refl
sub_at (plain n ws) (suc k) = sub_at ws k
sub_at (leads t ws) zero = refl
sub_at (leads t ws) (suc k) = sub_at ws k

end_same : (c : Chain) → Same c end
unfolding chain_of each goals_tree sense_of no_sense
end_same nowhere = tt
end_same types = refl
end_same functors = refl
end_same procedures = refl
end_same variables = refl
end_same regions = refl
end_same edges = refl
end_same goals = refl
end_same arms = refl
end_same arguments = refl

spelling : Words → List Use → Words
spelling ws us = spell (λ k. word_at k ws) (λ k. chain_at k ws) 0 us

unfoldable written_words : Unit {0}
unfolding zeros four_plain chain_of functor_words type_words variable_words edge_words region_words argument_words step_tree goals_tree procedure_words
written_words = tt

unfoldable read_words_law : Unit {0}
unfolding each read_functor read_type read_variable read_edge read_region sense_of in_front goal_of read_procedure
read_words_law = tt

-- a record in front of a chain, by its kind
module _ (t : Tree) (ws : Words) where
  node_same : (k : Kind) → Same (row k).next t → Sames (λ j. chain_at j ws) 0 (row k).words → spelling ws (row k).words ≡ ws
      → Same (row k).chain (node k t ws)
  unfolding all_rows spelling spell written_words read_words_law
  node_same k_none h s w = tt
  node_same k_header h s w = tt
  node_same k_type h s w = cc (h, s.0, w)
  node_same k_functor h s w = cc (h, w)
  node_same k_procedure h s w = cc (h, s.0, s.1.0, s.1.1.0, w)
  node_same k_variable h s w = cc (h, w)
  node_same k_region h s w = cc (h, s.0, w)
  node_same k_edge h s w = cc (h, w)
  node_same k_arm h s w = cc (h, s.0, sub_at ws 0, num_at ws 1, num_at ws 2, num_at ws 3, num_at ws 4, num_at ws 5, w)
  node_same k_argument h s w = cc (h, num_at ws 0, w)
  node_same (k_goal k_literal) h s w = cc (h, num_at ws 0, num_at ws 1, w)
  node_same (k_goal k_sum) h s w = cc (h, num_at ws 0, num_at ws 1, num_at ws 2, num_at ws 3, w)
  node_same (k_goal k_assign) h s w = cc (h, num_at ws 0, num_at ws 1, w)
  node_same (k_goal k_construct) h s w = cc (h, num_at ws 0, num_at ws 1, num_at ws 2, num_at ws 3, num_at ws 4, num_at ws 5, w)
  node_same (k_goal k_switch) h s w = cc (h, num_at ws 0, s.0, sub_at ws 1, w)
  node_same (k_goal k_if) h s w = cc (h, num_at ws 0, num_at ws 1, s.0, s.1.0, sub_at ws 2, sub_at ws 3, w)
  node_same (k_goal k_call) h s w = cc (h, num_at ws 0, s.0, sub_at ws 1, w)
  node_same (k_goal k_print) h s w = cc (h, num_at ws 0, w)
  node_same (k_goal k_create) h s w = cc (h, num_at ws 0, w)
  node_same (k_goal k_remove) h s w = cc (h, num_at ws 0, w)
  node_same (k_goal k_try) h s w = cc (h, s.0, s.1.0, s.1.1.0, sub_at ws 0, sub_at ws 1, sub_at ws 2, w)
  node_same (k_goal k_test) h s w = cc (h, num_at ws 0, num_at ws 1, w)

respelled : {us : List Use} {ws : Words} → FitsWords us ws → spelling ws us ≡ ws
unfolding spelling
respelled {ws = ws} f = spelled f _ _ 0 (λ j. ap (λ i. word_at i ws) (zero-add j)) (λ j. ap (λ i. chain_at i ws) (zero-add j))

mutual
  unfolding chain_at

  fits_same : {c : Chain} {t : Tree} → Fits c t → Same c t
  fits_same (fits_end {c = c}) = end_same c
  fits_same (fits_node {k = k} {t = t} {ws = ws} e f g) =
      let subs = fits_sames g (λ j. chain_at j ws) 0 (λ j. ap (λ i. chain_at i ws) (zero-add j)) in
      subst (λ c. Same c (node k t ws)) e (node_same t ws k (fits_same f) subs (respelled g))

  fits_sames : {us : List Use} {ws : Words} → FitsWords us ws → (b : ℕ → Tree) (k : ℕ) → ((j : ℕ) → b (k + j) ≡ chain_at j ws) → Sames b k us
  fits_sames fits_none b k q = tt
  fits_sames (fits_number f) b k q = fits_sames f b (suc k) (shifted b k q)
  fits_sames (fits_unused f) b k q = fits_sames f b (suc k) (shifted b k q)
  fits_sames (fits_first {c = c} f g) b k q =
      (subst (Same c) (sym (ap b (sym (add-zero k)) ∙ q 0)) (fits_same f), fits_sames g b (suc k) (shifted b k q))

-- a tree with its header
pub headed_same : {ts ps : Tree} → Fits types ts → Fits procedures ps → program_tree (program_of (headed ts ps)) ≡ headed ts ps
unfolding program_tree program_of headed chain_at
headed_same {ts = ts} {ps = ps} ft fp = ap₂ headed (fits_same ft) (fits_same fp)

-- any bytes that pass numbers 1 and 2
module _ (f : List ℕ) (H : header_ok f ≡ true) (F : form_ok (word f) (record_count f) ≡ true) where
  pub program_tree_law : program_tree (program f) ≡ tree_of f
  unfolding program
  program_tree_law =
      ap (λ t. program_tree (program_of t)) (tree_headed f H F) ∙ headed_same (types_fit f H F) (procedures_fit f H F) ∙ sym (tree_headed f H F)

  pub program_size : size (program_tree (program f)) ≡ record_count f
  program_size = ap size program_tree_law ∙ tree_size f H F
