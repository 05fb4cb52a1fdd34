-- Any bytes that pass numbers 1 and 2: their tree is a header with types and procedures, fits the table, has as many records as the
-- file, and in written order passes again and is read back.
use Rattle.std.specs.Prelude.{ℕ, suc, ◌+◌, ◌*◌, ◌≤◌, ◌<◌, List, ◌≡◌, true}
use Rattle.std.proofs.Common.{arith, sym, ◌∙◌}
use Rattle.std.proofs.Math.Path.{refl, ap}
use Rattle.std.proofs.Math.ListN.{length}
use borrow.Author.Tests.{eqb-true, leb-true}
use Rattle.sets.specs.Tests.{and_true}
use Rattle.language.specs.Lists.{nth}
use Rattle.language.specs.File.{Kind, k_header, nowhere, types, procedures, row, kinds, kind_of, word, record_count, header_ok, form_ok}
use Rattle.language.specs.Conditions.{conditions_ok}
use Rattle.language.specs.Tree.{Tree, node, plain, leads, read_words, read_record, read_chain, read_tree, tree_of}
use Rattle.language.specs.Layout.{size, written}
use Rattle.language.specs.Reading.{chain_at, each, read_type, read_procedure, program_of}
use Rattle.language.specs.Records.{zeros, headed}
use Rattle.language.specs.Answers.{program}
use Rattle.layout.specs.Table.{all_rows}
use Rattle.layout.specs.Fits.{Fits}
use Rattle.layout.specs.Passing.{Leads, Used, leads_starts, next_leads, record_used, chain_fits}
use Rattle.layout.specs.Weight.{whole_size}
use Rattle.layout.specs.Written.{headed_fits, count_written, length_written, form_written, header_written, tree_written}

-- "w1 first procedure, w2 first type"
abbrev pub types_from : List ℕ → Tree
types_from f = read_chain (record_count f) (word f) (word f 0 2)

abbrev pub procedures_from : List ℕ → Tree
procedures_from f = read_chain (record_count f) (word f) (word f 0 1)

header_read : (g : ℕ → Tree) (w : ℕ → ℕ) (k : Kind) (n : ℕ) → k ≡ k_header → w 3 ≡ n → w 4 ≡ 0 → w 5 ≡ 0 → w 6 ≡ 0 → w 7 ≡ 0
    → read_record g w k ≡ node k_header (g (w 1)) (leads (g (w 2)) (plain n (zeros 4)))
unfolding read_record read_words zeros all_rows
header_read g w k n e a b c d h = rw (e, a, b, c, d, h)

program_headed : (ts ps : Tree) → program_of (headed ts ps) ≡ record { types = each read_type ts; procedures = each read_procedure ps }
unfolding program_of headed chain_at
program_headed ts ps = refl

module _ (f : List ℕ) (H : header_ok f ≡ true) (F : form_ok (word f) (record_count f) ≡ true) where
  -- ---- number 1
  pub file_length : length f ≡ 16 * record_count f
  unfolding header_ok
  file_length = eqb-true (length f) (16 * record_count f) (and_true (and_true (and_true H).1).1).0

  pub count_range : (0 < record_count f) × (record_count f ≤ 4096)
  unfolding header_ok
  count_range =
      let a : 16 ≤ length f = leb-true 16 (length f) (and_true H).0 in
      let b : length f ≤ 65536 = leb-true (length f) 65536 (and_true (and_true H).1).0 in
      (omega (arith, file_length), omega (arith, file_length))

  pub header_kind_law : kind_of (word f 0 0) ≡ k_header
  unfolding header_ok kind_of kinds nth
  header_kind_law = ap kind_of (eqb-true (word f 0 0) 1 (and_true (and_true (and_true H).1).1).1)

  -- ---- the header
  header_used : Used (word f) (record_count f) 0 2 (row k_header).words
  header_used = rw header_kind_law at (record_used (word f) (record_count f) F 0 count_range.0)

  pub types_lead : Leads (word f) (record_count f) 0 types (word f 0 2)
  unfolding all_rows
  types_lead = header_used.0

  pub procedures_lead : Leads (word f) (record_count f) 0 procedures (word f 0 1)
  unfolding all_rows
  procedures_lead = rw header_kind_law at (next_leads (word f) (record_count f) F 0 count_range.0)

  pub types_fit : Fits types (types_from f)
  types_fit = chain_fits (word f) _ F _ types (leads_starts (word f) _ 0 types _ types_lead)

  pub procedures_fit : Fits procedures (procedures_from f)
  procedures_fit = chain_fits (word f) _ F _ procedures (leads_starts (word f) _ 0 procedures _ procedures_lead)

  -- ---- the tree
  tree_node : tree_of f ≡ node k_header (procedures_from f) (leads (types_from f) (plain (record_count f) (zeros 4)))
  unfolding tree_of read_tree record_count all_rows
  tree_node =
      header_read _ (word f 0) _ _ header_kind_law refl header_used.1.0 header_used.1.1.0 header_used.1.1.1.0 header_used.1.1.1.1.0

  pub tree_size : size (tree_of f) ≡ record_count f
  unfolding tree_of
  tree_size = whole_size (word f) (record_count f) F count_range.0

  pub count_parts : record_count f ≡ suc (size (types_from f) + size (procedures_from f))
  unfolding size zeros
  count_parts = omega (arith, tree_size, ap size tree_node)

  pub tree_headed : tree_of f ≡ headed (types_from f) (procedures_from f)
  unfolding headed
  tree_headed = tree_node ∙ ap (λ n. node k_header (procedures_from f) (leads (types_from f) (plain n (zeros 4)))) count_parts

  pub tree_fits : Fits nowhere (tree_of f)
  tree_fits = rw tree_headed (headed_fits types_fit procedures_fit)

  -- ---- in written order
  pub count_again : record_count (written (tree_of f)) ≡ record_count f
  count_again = ap (λ t. record_count (written t)) tree_headed ∙ count_written types_fit procedures_fit ∙ ap size (sym tree_headed) ∙ tree_size

  pub length_again : length (written (tree_of f)) ≡ length f
  length_again =
      ap (λ t. length (written t)) tree_headed
      ∙ length_written types_fit procedures_fit
      ∙ ap (λ t. 16 * size t) (sym tree_headed)
      ∙ ap (λ n. 16 * n) tree_size
      ∙ sym file_length

  pub header_again : header_ok (written (tree_of f)) ≡ true
  header_again = rw tree_headed (header_written types_fit procedures_fit (omega (arith, count_range, tree_size, ap size tree_headed)))

  pub form_again : form_ok (word (written (tree_of f))) (record_count (written (tree_of f))) ≡ true
  form_again = rw tree_headed (form_written types_fit procedures_fit)

  pub tree_again : tree_of (written (tree_of f)) ≡ tree_of f
  tree_again = ap (λ t. tree_of (written t)) tree_headed ∙ tree_written types_fit procedures_fit ∙ sym tree_headed

  pub program_again : program (written (tree_of f)) ≡ program f
  unfolding program
  program_again = ap program_of tree_again

  pub conditions_again : conditions_ok (program f) ≡ true → conditions_ok (program (written (tree_of f))) ≡ true
  conditions_again e = ap conditions_ok program_again ∙ e

  -- ---- the program, as its two chains
  pub program_read : program f ≡ record { types = each read_type (types_from f); procedures = each read_procedure (procedures_from f) }
  unfolding program
  program_read = ap program_of tree_headed ∙ program_headed _ _
