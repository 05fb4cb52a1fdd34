-- What crates above `chains` take from `layout`: they name it here, and only `chains` and `soundness` name `layout`.
-- The table of kinds and the sorts of chains.
unfoldable pub use Rattle.layout.specs.Table.{all_rows}
pub use Rattle.layout.specs.Table.{row_length, number_is, number_kind}
unfoldable pub use Rattle.layout.specs.Chains.{real}
pub use Rattle.layout.specs.Chains.{chain_kind, starts_kind, types_kind, variables_kind, regions_kind, procedures_kind, arms_kind, goals_kind, next_stays, type_functors_law, procedure_variables_law, procedure_regions_law, procedure_goals_law, region_edges_law, switch_arms_law, arm_goals_law, if_then_law, if_else_law, call_arguments_law}
pub use Rattle.layout.specs.Known.{known_number, known_chain}
-- Reading: a chain's parts, and the procedure of three chains.
pub use Rattle.layout.specs.Steps
pub use Rattle.layout.specs.Steps.{procedure_of}
pub use Rattle.layout.specs.Passing.{Leads, Used, once, next_leads, record_used, chain_step, chain_fits}
pub use Rattle.layout.specs.Files.{header_kind_law, types_from, procedures_from, tree_headed, tree_size, tree_fits, count_parts}
-- Writing: the records that a tree takes.
pub use Rattle.layout.specs.Fits.{Fits, fits_end, fits_node, fits_none, fits_number, fits_unused, fits_first}
pub use Rattle.layout.specs.Standing.{Spelled, Stand, lay_length, lay_words_length, chain_end_law}
pub use Rattle.layout.specs.Writing.{written_front, spelled_same, spelled_more, stand_join, stand_same}
pub use Rattle.layout.specs.Same.{headed_same, program_size}
unfoldable pub use Rattle.layout.specs.Sizes.{signature_size, procedures_size}
pub use Rattle.layout.specs.Sizes.{chain_size, goals_size, program_records}
pub use Rattle.layout.specs.Bytes.{Eights}
pub use Rattle.layout.specs.Lists.{hits, hits_suc, hits_zero}
pub use Rattle.layout.specs.Bytes.{written_length}
pub use Rattle.layout.specs.Programs.{length_of_program}
pub use Rattle.layout.specs.ProgramFits.{program_fits}
