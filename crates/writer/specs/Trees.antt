-- For a writer of other trees than the file's: the file's chains as the trees of what they stand for.
use Rattle.std.specs.Prelude.{ℕ, List, ◌≡◌}
use Rattle.std.proofs.Math.Path.{refl, sym}
use Rattle.std.proofs.Common.{ap}
use Rattle.language.specs.File.{k_type, k_procedure, k_variable, k_region, Chain, types, procedures, variables, regions, goals, word, record_count}
use Rattle.language.specs.Tree.{Tree, end, node, Words, no_words, leads}
use Rattle.language.specs.Reading.{chain_at, each, read_type, read_variable, read_region, sense_of, read_procedure, program_of}
use Rattle.language.specs.Records.{zeros, chain_of, type_words, variable_words, region_words, goals_tree, procedure_words, headed, program_tree}
use Rattle.chains.specs.Layout.{all_rows, Fits, fits_end, fits_node, fits_none, fits_unused, fits_first, chain_fits, headed_same}
use Rattle.chains.specs.Layout.Steps.{goals_at as goals_in, types_at as types_in, variables_at as variables_in, regions_at as regions_in}
use Rattle.chains.specs.Formed.{Formed, Stands, stands_starts, goals_at, types_at, variables_at, regions_at}
use Rattle.writer.specs.Ready.{tree_at}

-- ---- a chain that fits is the tree of what it is read as
next_of : Tree → Tree
next_of end = end
next_of (node k t ws) = t

words_of : Tree → Words
words_of end = no_words
words_of (node k t ws) = ws

unfoldable opened : Unit {0}
unfolding all_rows program_tree program_of headed chain_of each chain_at zeros next_of words_of
opened = tt

types_same : {t : Tree} → Fits types t → chain_of k_type type_words (each read_type t) ≡ t
unfolding opened
types_same f = ap (λ x. chain_at 0 (words_of x)) (headed_same f fits_end)

procedures_same : {t : Tree} → Fits procedures t → chain_of k_procedure procedure_words (each read_procedure t) ≡ t
unfolding opened
procedures_same f = ap next_of (headed_same fits_end f)

module _ {v r g : Tree} (fv : Fits variables v) (fr : Fits regions r) (fg : Fits goals g) where
  body_same : chain_of k_procedure procedure_words (each read_procedure (node k_procedure end (leads v (leads r (leads g (zeros 3))))))
      ≡ node k_procedure end (leads v (leads r (leads g (zeros 3))))
  unfolding all_rows zeros
  body_same = procedures_same (fits_node refl fits_end (fits_first fv (fits_first fr (fits_first fg (fits_unused (fits_unused (fits_unused fits_none)))))))

variables_same : {t : Tree} → Fits variables t → chain_of k_variable variable_words (each read_variable t) ≡ t
unfolding opened procedure_words read_procedure
variables_same f = ap (λ x. chain_at 0 (words_of x)) (body_same f fits_end fits_end)

regions_same : {t : Tree} → Fits regions t → chain_of k_region region_words (each read_region t) ≡ t
unfolding opened procedure_words read_procedure
regions_same f = ap (λ x. chain_at 1 (words_of x)) (body_same fits_end f fits_end)

goals_same : {t : Tree} → Fits goals t → goals_tree (sense_of t).as_goals ≡ t
unfolding opened procedure_words read_procedure
goals_same f = ap (λ x. chain_at 2 (words_of x)) (body_same fits_end fits_end f)

-- ---- the file's chains
module _ {f : List ℕ} {i : ℕ} (F : Formed f) where
  fits : {s : Chain} → Stands f s i → Fits s (tree_at f i)
  unfolding tree_at
  fits {s} h = chain_fits (word f) (record_count f) F.form i s (stands_starts h)

  pub types_tree : Stands f types i → tree_at f i ≡ chain_of k_type type_words (types_at f i)
  unfolding tree_at types_at types_in
  types_tree h = sym (types_same (fits h))

  pub variables_tree : Stands f variables i → tree_at f i ≡ chain_of k_variable variable_words (variables_at f i)
  unfolding tree_at variables_at variables_in
  variables_tree h = sym (variables_same (fits h))

  pub regions_tree : Stands f regions i → tree_at f i ≡ chain_of k_region region_words (regions_at f i)
  unfolding tree_at regions_at regions_in
  regions_tree h = sym (regions_same (fits h))

  pub goals_tree_law : Stands f goals i → tree_at f i ≡ goals_tree (goals_at f i)
  unfolding tree_at goals_at goals_in
  goals_tree_law h = sym (goals_same (fits h))
