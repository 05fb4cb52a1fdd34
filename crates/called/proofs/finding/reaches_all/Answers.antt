use Rattle.std.proofs.Common.{arith, rules}
use Rattle.laws.specs.Typed.{procedures_count}
use Rattle.chains.specs.Formed.{counted}
use Rattle.called.proofs.FoundLaws.{found_entry}
use Rattle.called.proofs.WorklistLaws.{worklist_first, worklist_next, worklist_last, chain_there, chain_total}
use Rattle.called.proofs.finding.reaches_all.Goals as goal

pub loop-k-init : goal.loop-k-init
loop-k-init c = search (found_entry, worklist_first, rules)

pub offset_bounds-order-k : goal.offset_bounds-order-k
offset_bounds-order-k c = let b = (procedures_count _ c.requires.file_value).1 in let m = c.loop-k.invariant.found.counted in search rules

pub bounds-order-k : goal.bounds-order-k
bounds-order-k c = let b = (procedures_count _ c.requires.file_value).1 in let m = c.loop-k.invariant.found.counted in search rules

pub look_at-found-requires : goal.look_at-found-requires
look_at-found-requires c = let h = c.loop-k.invariant.found in let e = c.from-p.ensures in let l = c.loop-k-test.true in record {
  formed = c.requires.formed;
  file_value = c.requires.file_value;
  calls_linked = c.requires.calls_linked;
  p_in_bounds = (rw e (h.below _ l), rw e (h.chained _ l));
  found = h;
}

pub loop-k-preserved : goal.loop-k-preserved
loop-k-preserved c = search (worklist_next, rules)

pub word-requires : goal.word-requires
word-requires c = let F = c.requires.formed in record {
  formed = F;
  k_lt_record_words = (omega arith, (counted F).some);
}

pub chain_length-requires : goal.chain_length-requires
chain_length-requires c = search (chain_there, rules)

pub returns : goal.returns
returns c = search (worklist_last, chain_total, rules)
