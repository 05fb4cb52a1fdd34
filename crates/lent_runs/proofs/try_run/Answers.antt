use Prim.Native.Nat.{◌≤◌}
use Rattle.std.proofs.Common.{arith, rules}
use lib.ListN.{length}
use mathlib.Core.Path.{sym}
use lib.Seq.{length-take-le}
use Rattle.lent_runs.proofs.try_run.Goals as goal

pub slice_bounds-try_in-end : goal.slice_bounds-try_in-end
slice_bounds-try_in-end c = sym (length-take-le _ _ (search rules))

pub try_in-requires : goal.try_in-requires
try_in-requires c = let fits : c.next_lent-n.result ≤ length c.print_words-prints.result = omega (arith, c.next_lent-n.ensures, c.print_words-prints.ensures) in record {
  cells_le_cells_lent = (c.next_lent-cells.ensures, c.next_lent-regions.ensures, c.next_lent-frames.ensures);
  prints_len_bound = omega (arith, length-take-le c.next_lent-n.result c.print_words-prints.result fits, c.next_lent-n.ensures);
}
