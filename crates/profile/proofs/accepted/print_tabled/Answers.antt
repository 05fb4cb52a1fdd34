-- `print_tabled`: the run stands at its start.
use Rattle.std.specs.Prelude.{ℕ}
use Rattle.std.proofs.lemmas.List.{length-replicate}
use Rattle.machine.specs.Entries.{log_words}
use Rattle.std.proofs.Common.{arith, rules}
use mathlib.Core.Path.{sym}
use lib.Seq.{length-take-le}
use Rattle.profile.specs.Parts.{frame_room, line_fits}
use Rattle.profile.proofs.accepted.print_tabled.Goals as goal

pub slice_bounds-print-end : goal.slice_bounds-print-end
slice_bounds-print-end c = sym (length-take-le _ _ c.put_entry-n.ensures.upper_bound)

pub slice_bounds-print_parts-end-2 : goal.slice_bounds-print_parts-end-2
slice_bounds-print_parts-end-2 c = let h = c.cell_words-cells.ensures in search rules

pub slice_bounds-print_parts-end-3 : goal.slice_bounds-print_parts-end-3
slice_bounds-print_parts-end-3 c = let h = c.region_words-regions.ensures in search rules

pub slice_bounds-print_parts-end-4 : goal.slice_bounds-print_parts-end-4
slice_bounds-print_parts-end-4 c = let h = c.frame_words-frames.ensures in let k = c.begin-first.auto.frames in search rules

pub slice_bounds-print_parts-end-5 : goal.slice_bounds-print_parts-end-5
slice_bounds-print_parts-end-5 c = let h = c.print_words-prints.ensures in search rules

pub slice_bounds-out-end-2 : goal.slice_bounds-out-end-2
slice_bounds-out-end-2 c = omega (arith, c.put_entry-n.auto.out, c.output-out.ensures, c.requires.line_bytes_le_room.1)

pub slice_bounds-print_parts-end-6 : goal.slice_bounds-print_parts-end-6
slice_bounds-print_parts-end-6 c = sym (length-take-le _ _ (omega (arith, c.put_entry-n.auto.out, c.output-out.ensures, c.requires.line_bytes_le_room.1)))

pub print_parts-requires : goal.print_parts-requires
print_parts-requires c = let e = (c.begin-first.ensures _ _ _ _ _ c.requires.planned.accepted c.requires.planned.tabled (frame_room _ c.frame_words-frames.ensures) _ _ (length-replicate {A = ℕ} log_words 0)).1 in record {
  narrow = (c.requires.planned.narrow, c.requires.planned.numbered);
  line_bytes_in_bounds = line_fits c.args.room c.put_entry-n.new.out c.requires.line_bytes_le_room.0 (omega (arith, c.put_entry-n.auto.out, c.output-out.ensures, c.requires.line_bytes_le_room.1));
  run_stands = e;
}
