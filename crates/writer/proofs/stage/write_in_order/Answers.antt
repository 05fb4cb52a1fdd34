-- The header with the types, then the procedures, are the whole (`whole_written`).
use Rattle.writer.proofs.WholeLaws.{header_ready, procedures_ready, whole_written}
use Rattle.writer.proofs.stage.write_in_order.Goals as goal

pub write_record-end-requires : goal.write_record-end-requires
write_record-end-requires c =
    header_ready c.args.out.now c.requires.formed c.requires.file_in_bounds

pub write_chain-requires : goal.write_chain-requires
write_chain-requires c =
    procedures_ready _ c.requires.formed c.requires.file_in_bounds c.word-procedures.ensures.0 c.write_record-end.ensures

pub returns : goal.returns
returns c =
    whole_written _ c.requires.formed c.requires.file_in_bounds c.word-procedures.ensures.0 c.write_record-end.ensures (λ j. (c.slice_known-3-1.given j).fits) c.write_chain.ensures
