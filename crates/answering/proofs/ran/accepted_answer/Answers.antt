use Rattle.std.proofs.Common.{arith, rules}
use Rattle.running.specs.Lent.{lent_is}
use Rattle.answering.specs.Ran.{prints_run, printed_within, printed_fit, few_printed}
use Rattle.answering.proofs.ran.accepted_answer.Goals as goal

pub run_accepted-r-requires : goal.run_accepted-r-requires
run_accepted-r-requires c = search rules

pub slice_bounds-prints-end : goal.slice_bounds-prints-end
slice_bounds-prints-end c = printed_within c.run_accepted-r.ensures

pub slice_bounds-runner_output-end : goal.slice_bounds-runner_output-end
slice_bounds-runner_output-end c = printed_fit c.run_accepted-r.ensures

pub runner_output-requires : goal.runner_output-requires
runner_output-requires c =
    let h = c.run_accepted-r.ensures in
    omega (arith, few_printed _ c.print_words-prints.ensures h, printed_fit h, c.requires.output_bytes_value)

pub returns : goal.returns
returns c =
    prints_run
    (lent_is _ _ _ _ c.cell_words-cells.ensures c.region_words-regions.ensures c.frame_words-frames.ensures c.print_words-prints.ensures)
    c.run_accepted-r.ensures c.runner_output.ensures
