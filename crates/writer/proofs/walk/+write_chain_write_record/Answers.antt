-- The walk in written order: the invariants are `Writing` along a chain and `Spelling` along the words of a record.
use mathlib.Core.Path.{◌∙◌}
use Rattle.std.proofs.Common.{arith}
use Rattle.writer.proofs.LaidLaws.{linked_small}
use Rattle.writer.proofs.LeadsLaws.{told}
use Rattle.writer.proofs.ReadyLaws.{writing_first, writing_record, writing_less, writing_falls, writing_next, writing_last}
use Rattle.writer.proofs.LeafLaws.{leaf_room, leaf_wrote}
use Rattle.writer.proofs.Spelling.{spelling_first, spelling_room, spelling_falls, spelling_chain, spelling_leads, spelling_plain, done_room, spelling_done}
use Rattle.writer.proofs.walk.+write_chain_write_record.Goals as goal
use Rattle.writer.proofs.walk.+write_chain_write_record.Goals.{write_record-then-leads, write_record-else-leads}

pub write_chain-loop-i-init : goal.write_chain-loop-i-init
write_chain-loop-i-init t c = writing_first _ c.requires

pub write_chain-write_record-at-requires : goal.write_chain-write_record-at-requires
write_chain-write_record-at-requires t c = let v = c.loop-i.invariant in
    let z = c.loop-i-test.true in
    (omega (arith, writing_less v z, c.decreases), writing_record v z)

pub write_chain-loop-i-smaller : goal.write_chain-loop-i-smaller
write_chain-loop-i-smaller t c = writing_falls c.loop-i.invariant c.loop-i-test.true c.word-next.ensures.0

pub write_chain-loop-i-preserved : goal.write_chain-loop-i-preserved
write_chain-loop-i-preserved t c = writing_next c.loop-i.invariant c.loop-i-test.true c.word-next.ensures.0 c.write_record-at.ensures

pub write_chain-shape_of-out : goal.write_chain-shape_of-out
write_chain-shape_of-out t c = c.loop-i.invariant.laid.same

pub write_chain-returns : goal.write_chain-returns
write_chain-returns t c = writing_last c.loop-i.invariant c.loop-i-test.false

pub write_record-overflow_add-end : goal.write_record-overflow_add-end
write_record-overflow_add-end t c = omega (arith, c.requires.few)

pub write_record-copy_record-requires : goal.write_record-copy_record-requires
write_record-copy_record-requires t c = let o = leaf_room c.requires in record {
  record_bytes_in_bounds = o.0;
  next_lt_word_end = linked_small _ _ c.link.ensures o.1;
}

pub write_record-shape_of-out-then-is_leaf : goal.write_record-shape_of-out-then-is_leaf
write_record-shape_of-out-then-is_leaf t c = c.copy_record.ensures.same

pub write_record-returns-then-is_leaf : goal.write_record-returns-then-is_leaf
write_record-returns-then-is_leaf t c =
    leaf_wrote _ c.requires c.word-kind.ensures.0 (c.is_leaf.ensures c.if-is_leaf.true) _ c.link.ensures c.copy_record.ensures

pub write_record-loop-k-init : goal.write_record-loop-k-init
write_record-loop-k-init t c = spelling_first _ c.requires

pub write_record-leads-requires : goal.write_record-leads-requires
write_record-leads-requires t c = record {
  le_k = omega (arith, c.loop-k.invariant.begun.many);
  k_lt_record_words = c.loop-k-test.true;
}

pub write_record-put_word-requires : goal.write_record-put_word-requires
write_record-put_word-requires t c = let m = c.loop-k-test.true in let o = spelling_room c.requires c.loop-k.invariant m in record {
  record_bytes_in_bounds = o.0;
  k_lt_record_words = m;
  x_lt_word_end = linked_small _ _ c.link-then-leads.ensures o.1;
}

pub write_record-write_chain-end-requires : goal.write_record-write_chain-end-requires
write_record-write_chain-end-requires t c =
    let R = c.requires in
    let G = c.loop-k.invariant in
    let m = c.loop-k-test.true in
    let e = told _ _ _ c.leads.ensures c.word-kind.ensures.0 c.if-leads.true in
    let g = c.word-w.ensures.0 in
    (omega (arith, spelling_falls R G m e g, c.decreases), spelling_chain R G m e g c.put_word.ensures)

pub write_record-put_word-requires-else-leads : goal.write_record-put_word-requires-else-leads
write_record-put_word-requires-else-leads t c = let m = c.loop-k-test.true in record {
  record_bytes_in_bounds = (spelling_room c.requires c.loop-k.invariant m).0;
  k_lt_record_words = m;
  x_lt_word_end = c.word-w.ensures.1;
}

pub write_record-loop-k-preserved : goal.write_record-loop-k-preserved
write_record-loop-k-preserved t c =
    let R = c.requires in
    let G = c.loop-k.invariant in
    let m = c.loop-k-test.true in
    elim c.if-leads.branch [
      | write_record-then-leads w ↦ (let e = told _ _ _ c.leads.ensures c.word-kind.ensures.0 w.if-leads.true in
          rw (w.out-is, w.end-is) (spelling_leads R G m e c.word-w.ensures.0 w.link-then-leads.ensures w.put_word.ensures w.write_chain-end.ensures))
      | write_record-else-leads w ↦ (let e = told _ _ _ c.leads.ensures c.word-kind.ensures.0 w.if-leads.false in
          rw (w.out-is, w.end-is) (spelling_plain R G m e c.word-w.ensures.0 w.put_word-else-leads.ensures))
    ]

pub write_record-put_word-requires-2 : goal.write_record-put_word-requires-2
write_record-put_word-requires-2 t c = record {
  record_bytes_in_bounds = (done_room c.requires c.loop-k.invariant c.loop-k-test.false).0;
  k_lt_record_words = omega arith;
  x_lt_word_end = c.word-kind.ensures.1;
}

pub write_record-put_word-requires-3 : goal.write_record-put_word-requires-3
write_record-put_word-requires-3 t c = let o = done_room c.requires c.loop-k.invariant c.loop-k-test.false in record {
  record_bytes_in_bounds = omega (arith, o.0, c.put_word-2.ensures.same);
  k_lt_record_words = omega arith;
  x_lt_word_end = linked_small _ _ c.link-next.ensures o.1;
}

pub write_record-shape_of-out : goal.write_record-shape_of-out
write_record-shape_of-out t c = c.put_word-3.ensures.same ∙ c.put_word-2.ensures.same ∙ c.loop-k.invariant.begun.same

pub write_record-returns : goal.write_record-returns
write_record-returns t c =
    spelling_done c.requires c.loop-k.invariant c.loop-k-test.false _ c.word-kind.ensures.0 c.link-next.ensures c.put_word-2.ensures c.put_word-3.ensures
