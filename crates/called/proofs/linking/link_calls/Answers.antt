use Rattle.std.proofs.Common.{arith}
use mathlib.Core.Path.{sym, ◌∙◌}
use Rattle.chains.specs.Formed.{counted}
use Rattle.called.proofs.LinkedLaws.{linked_first, linked_skip, linked_call, call_asks_law, linked_last}
use Rattle.called.proofs.linking.link_calls.Goals as goal
use Rattle.called.proofs.linking.link_calls.Goals.{then-word-eq-CALL, else-word-eq-CALL}

pub loop-i-init : goal.loop-i-init
loop-i-init c =
    let n = counted c.requires.formed in
    (c.record_count-n.ensures, omega arith, omega (arith, c.record_count-n.ensures), linked_first _ c.requires.lasts_value)

pub link_call-requires : goal.link_call-requires
link_call-requires c =
    let v = c.loop-i.invariant in
    let a = call_asks_law c.requires.formed c.requires.file_value c.requires.owners_in v.3.1 (omega arith) (omega (arith, v.0)) c.word.ensures.0 c.if-word-eq-CALL.true in
    (a.1, a.3)

pub loop-i-preserved : goal.loop-i-preserved
loop-i-preserved c =
    let v = c.loop-i.invariant in
    let w = c.word.ensures.0 in (
      v.0,
      omega arith,
      omega arith,
      elim c.if-word-eq-CALL.branch [
        | then-word-eq-CALL t ↦ (let a = call_asks_law c.requires.formed c.requires.file_value c.requires.owners_in v.3.1 (omega arith) (omega (arith, v.0)) w t.if-word-eq-CALL.true in
            rw (t.links-is, t.lasts-is, t.link_call.ensures.links_after, t.link_call.ensures.lasts_after) (linked_call v.3.0 v.3.1 (sym w ∙ t.if-word-eq-CALL.true) (sym a.0) a.2 a.1))
        | else-word-eq-CALL t ↦ rw (t.links-is, t.lasts-is) (linked_skip v.3.0 v.3.1 (λ k. t.if-word-eq-CALL.false (w ∙ k)))
      ],
    )

pub returns : goal.returns
returns c = let v = c.loop-i.invariant in let k = linked_last v.3.0 v.3.1 v.0 v.2 (omega arith) in record { calls_linked = k.0; links_left = k.1 }
