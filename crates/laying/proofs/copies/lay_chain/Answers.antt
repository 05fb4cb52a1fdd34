use Rattle.std.proofs.Common.{rules}
use Rattle.laying.proofs.CopiesLaws.{chain_ready, chain_laid, chain_not}
use Rattle.laying.proofs.copies.lay_chain.Goals as goal

pub skip_chain-end-requires : goal.skip_chain-end-requires
skip_chain-end-requires c = search rules

pub write_chain-requires : goal.write_chain-requires
write_chain-requires c = search (chain_ready, rules)

pub returns-then-has_room : goal.returns-then-has_room
returns-then-has_room c = search (chain_laid, rules)

pub returns-else-has_room : goal.returns-else-has_room
returns-else-has_room c = search (chain_not, rules)
