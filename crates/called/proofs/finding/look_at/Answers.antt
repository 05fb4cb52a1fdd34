use Rattle.std.proofs.Common.{arith, rules}
use Rattle.laws.specs.Typed.{procedures_count}
use Rattle.chains.specs.Formed.{counted}
use Rattle.called.proofs.FoundLaws.{room}
use Rattle.called.proofs.WorklistLaws.{looking_first, call_fits, link_falls, looking_old, looking_new, looking_last}
use Rattle.called.proofs.finding.look_at.Goals as goal
use Rattle.called.proofs.finding.look_at.Goals.{then-marks-q-eq0, else-marks-q-eq0}

pub offset_bounds-lasts-p : goal.offset_bounds-lasts-p
offset_bounds-lasts-p c = let b = (procedures_count _ c.requires.file_value).1 in search rules

pub bounds-lasts-p : goal.bounds-lasts-p
bounds-lasts-p c = let b = (procedures_count _ c.requires.file_value).1 in search rules

pub loop-i-init : goal.loop-i-init
loop-i-init c = looking_first c.requires.calls_linked (omega (arith, c.requires.p_in_bounds.0, (procedures_count _ c.requires.file_value).1)) c.requires.found c.from-i.ensures

pub word-q-requires : goal.word-q-requires
word-q-requires c = record {
  formed = c.requires.formed;
  k_lt_record_words = (omega arith, (c.loop-i.invariant.call c.loop-i-test.true).below);
}

pub bounds-marks-q : goal.bounds-marks-q
bounds-marks-q c =
    let f = call_fits c.requires.calls_linked c.loop-i.invariant c.loop-i-test.true c.requires.formed c.requires.file_value c.word-q.ensures.0 in
    let b = (procedures_count _ c.requires.file_value).1 in let l = f.1 in search rules

pub bounds-marks-q-then-marks-q-eq0 : goal.bounds-marks-q-then-marks-q-eq0
bounds-marks-q-then-marks-q-eq0 c =
    let f = call_fits c.requires.calls_linked c.loop-i.invariant c.loop-i-test.true c.requires.formed c.requires.file_value c.word-q.ensures.0 in
    let b = (procedures_count _ c.requires.file_value).1 in let l = f.1 in search rules

pub offset_bounds-order-found : goal.offset_bounds-order-found
offset_bounds-order-found c =
    let f = call_fits c.requires.calls_linked c.loop-i.invariant c.loop-i-test.true c.requires.formed c.requires.file_value c.word-q.ensures.0 in
    let b = (procedures_count _ c.requires.file_value).1 in let l = f.1 in let r = room c.loop-i.invariant.found b l c.if-marks-q-eq0.true in search rules

pub bounds-order-found : goal.bounds-order-found
bounds-order-found c =
    let f = call_fits c.requires.calls_linked c.loop-i.invariant c.loop-i-test.true c.requires.formed c.requires.file_value c.word-q.ensures.0 in
    let b = (procedures_count _ c.requires.file_value).1 in let l = f.1 in let r = room c.loop-i.invariant.found b l c.if-marks-q-eq0.true in search rules

pub overflow_add-found : goal.overflow_add-found
overflow_add-found c =
    let f = call_fits c.requires.calls_linked c.loop-i.invariant c.loop-i-test.true c.requires.formed c.requires.file_value c.word-q.ensures.0 in
    let b = (procedures_count _ c.requires.file_value).1 in let l = f.1 in let r = room c.loop-i.invariant.found b l c.if-marks-q-eq0.true in search rules

pub offset_bounds-links-i : goal.offset_bounds-links-i
offset_bounds-links-i c = let l = (c.loop-i.invariant.call c.loop-i-test.true).below in let b = (counted c.requires.formed).most in search rules

pub bounds-links-i : goal.bounds-links-i
bounds-links-i c = let l = (c.loop-i.invariant.call c.loop-i-test.true).below in let b = (counted c.requires.formed).most in search rules

pub loop-i-smaller : goal.loop-i-smaller
loop-i-smaller c = search (link_falls, rules)

pub loop-i-preserved : goal.loop-i-preserved
loop-i-preserved c =
    let h = c.loop-i.invariant in
    let z = c.loop-i-test.true in
    let w = c.word-q.ensures.0 in
    elim c.if-marks-q-eq0.branch [
      | then-marks-q-eq0 t ↦ rw (t.marks-is, t.order-is, t.found-is, t.narrow.ensures)
          (looking_new c.requires.calls_linked h z c.requires.formed (procedures_count _ c.requires.file_value).1 c.requires.p_in_bounds.1 w (call_fits c.requires.calls_linked h z c.requires.formed c.requires.file_value w).1 t.if-marks-q-eq0.true c.from-i-in-loop-i.ensures)
      | else-marks-q-eq0 t ↦ rw (t.marks-is, t.order-is, t.found-is) (looking_old c.requires.calls_linked h z w t.if-marks-q-eq0.false c.from-i-in-loop-i.ensures)
    ]

pub returns : goal.returns
returns c = search (looking_last, rules)
