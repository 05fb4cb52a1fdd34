-- A tree that fits, with its header, is written in a file that passes numbers 1 and 2 and is read back as the tree.
use Rattle.std.specs.Prelude.{suc, ◌+◌, ◌*◌, ◌≤◌, ◌≡◌, true, length}
use native.Mathlib.Omega.{arith}
use Rattle.std.proofs.Math.Path.{refl}
use Rattle.std.proofs.Common.{◌∙◌, eq-eqb, le-leb}
use Rattle.sets.specs.Tests.{true_and}
use Rattle.language.specs.File.{nowhere, types, procedures, word, record_count, header_ok, form_ok}
use Rattle.language.specs.Tree.{Tree, tree_of}
use Rattle.language.specs.Layout.{size, word_list, lay, written}
use Rattle.language.specs.Records.{zeros, headed}
use Rattle.layout.specs.Table.{all_rows}
use Rattle.layout.specs.Fits.{Fits, fits_node, fits_none, fits_number, fits_unused, fits_first}
use Rattle.layout.specs.Standing.{Stand, read_whole}
use Rattle.layout.specs.Formed.{lay_formed}
use Rattle.layout.specs.Bytes.{written_length, written_stands}

pub headed_size : (ts ps : Tree) → size (headed ts ps) ≡ suc (size ts + size ps)
unfolding headed zeros size
headed_size ts ps = omega arith

module _ {ts ps : Tree} (ft : Fits types ts) (fp : Fits procedures ps) where
  pub headed_fits : Fits nowhere (headed ts ps)
  unfolding headed zeros all_rows
  headed_fits = fits_node refl fp (fits_first ft (fits_number (fits_unused (fits_unused (fits_unused (fits_unused fits_none))))))

  stands : Stand (word (written (headed ts ps))) 0 (lay (headed ts ps) 0)
  stands = written_stands headed_fits

  kind_written : word (written (headed ts ps)) 0 0 ≡ 1
  unfolding headed lay all_rows
  kind_written = stands.0.0

  pub count_written : record_count (written (headed ts ps)) ≡ size (headed ts ps)
  unfolding headed zeros lay word_list record_count size
  count_written = stands.0.1.1.1.0 ∙ omega arith

  pub length_written : length (written (headed ts ps)) ≡ 16 * size (headed ts ps)
  length_written = written_length headed_fits

  pub form_written : form_ok (word (written (headed ts ps))) (record_count (written (headed ts ps))) ≡ true
  form_written = rw count_written (lay_formed headed_fits _ stands)

  pub header_written : size (headed ts ps) ≤ 4096 → header_ok (written (headed ts ps)) ≡ true
  unfolding header_ok
  header_written q =
      true_and (le-leb 16 (length (written (headed ts ps))) (omega (arith, length_written, headed_size ts ps)))
      (true_and (le-leb (length (written (headed ts ps))) 65536 (omega (arith, length_written)))
      (true_and (eq-eqb (length (written (headed ts ps))) (16 * record_count (written (headed ts ps))) (omega (arith, length_written, count_written)))
      (eq-eqb _ _ kind_written)))

  pub tree_written : tree_of (written (headed ts ps)) ≡ headed ts ps
  unfolding tree_of
  tree_written = rw count_written (read_whole headed_fits _ _ (omega (arith, headed_size ts ps)) (omega arith) stands)
