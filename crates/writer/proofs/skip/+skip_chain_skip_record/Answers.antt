-- Skipping along a chain and along the words of a record.
use Rattle.std.proofs.Common.{arith}
use Rattle.writer.proofs.LeadsLaws.{told}
use Rattle.writer.proofs.SkipsLaws.{skipping_first, skipping_last, skipping_less, skipping_falls, skipping_next, passing_first, passing_plain, passing_below, passing_falls, passing_leads, passing_done}
use Rattle.writer.proofs.skip.+skip_chain_skip_record.Goals as goal
use Rattle.writer.proofs.skip.+skip_chain_skip_record.Goals.{skip_record-then-leads, skip_record-else-leads}

pub skip_chain-loop-i-init : goal.skip_chain-loop-i-init
skip_chain-loop-i-init t c = skipping_first c.requires.start_bound

pub skip_chain-skip_record-at-requires : goal.skip_chain-skip_record-at-requires
skip_chain-skip_record-at-requires t c = let v = c.loop-i.invariant in
    let F = c.requires.formed in
    (omega (arith, skipping_less F v c.loop-i-test.true, c.decreases), (F, v.below))

pub skip_chain-loop-i-smaller : goal.skip_chain-loop-i-smaller
skip_chain-loop-i-smaller t c = skipping_falls c.requires.formed c.loop-i.invariant c.loop-i-test.true c.word-i.ensures.0

pub skip_chain-loop-i-preserved : goal.skip_chain-loop-i-preserved
skip_chain-loop-i-preserved t c = skipping_next c.requires.formed c.loop-i.invariant c.loop-i-test.true c.word-i.ensures.0 c.skip_record-at.ensures

pub skip_chain-returns : goal.skip_chain-returns
skip_chain-returns t c = skipping_last c.requires.formed c.loop-i.invariant c.loop-i-test.false

pub skip_record-loop-k-init : goal.skip_record-loop-k-init
skip_record-loop-k-init t c = passing_first c.requires.formed c.requires.i_bound c.behind-at.ensures

pub skip_record-leads-requires : goal.skip_record-leads-requires
skip_record-leads-requires t c = record {
  le_k = c.loop-k.invariant.low;
  k_lt_record_words = c.loop-k-test.true;
}

pub skip_record-skip_chain-at-requires : goal.skip_record-skip_chain-at-requires
skip_record-skip_chain-at-requires t c = let e = told _ _ _ c.leads.ensures c.word-kind.ensures.0 c.if-leads.true in
    let b = passing_below c.requires.formed c.requires.i_bound c.loop-k.invariant c.loop-k-test.true e c.word.ensures.0 in
    let l = passing_falls c.requires.formed c.requires.i_bound c.loop-k.invariant c.loop-k-test.true e c.word.ensures.0 in
    (omega (arith, l, c.decreases), (c.requires.formed, b))

pub skip_record-loop-k-preserved : goal.skip_record-loop-k-preserved
skip_record-loop-k-preserved t c = let F = c.requires.formed in let l = c.requires.i_bound in let v = c.loop-k.invariant in let m = c.loop-k-test.true in
    elim c.if-leads.branch [
      | skip_record-then-leads w ↦ (let e = told _ _ _ c.leads.ensures c.word-kind.ensures.0 w.if-leads.true in
          rw w.at-is (passing_leads F l v m e w.word.ensures.0 w.skip_chain-at.ensures))
      | skip_record-else-leads w ↦ rw w.at-is (passing_plain F l v m (told _ _ _ c.leads.ensures c.word-kind.ensures.0 w.if-leads.false))
    ]

pub skip_record-returns : goal.skip_record-returns
skip_record-returns t c = passing_done c.requires.formed c.requires.i_bound c.loop-k.invariant c.loop-k-test.false
