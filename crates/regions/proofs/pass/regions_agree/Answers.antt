-- The records below are done, and the rest decides.
use Rattle.std.proofs.Common.{arith, refl}
use Rattle.language.specs.File.{record_count}
use Rattle.regions.proofs.RowedLaws.{going_first, going_stop, going_next, going_last, going_passed, going_stopped, going_before}
use Rattle.regions.proofs.TermsLaws.{firsts_none}
use Rattle.regions.proofs.pass.regions_agree.Goals as goal
use Rattle.regions.proofs.pass.regions_agree.Goals.{then-word-eq-CALL, else-word-eq-CALL}

pub loop-i-init : goal.loop-i-init
unfolding record_count
loop-i-init c =
    let F = c.requires.given.formed in
    (going_first _ F c.record_count-n.ensures, omega arith, firsts_none F refl)

pub next_ok-requires : goal.next_ok-requires
next_ok-requires c = let k = c.loop-i.invariant.0 in let m = k.size in record {
  given = c.requires.given;
  i_nonzero = (k.some, omega (arith, c.loop-i-test.true, k.count));
  row_words_in_bounds = omega (arith, c.requires.row_words_in_bounds, m);
  before = going_before k c.requires.given.formed c.loop-i.invariant.1;
  firsts = c.loop-i.invariant.2;
}

pub returns-then-not-next_ok : goal.returns-then-not-next_ok
returns-then-not-next_ok c = let k = c.loop-i.invariant.0 in let e = c.next_ok.ensures in let z = c.if-not-next_ok.true in record {
  value = going_stop k c.loop-i-test.true e.value z;
  after_pass = going_stopped k c.loop-i-test.true e.rowed z;
}

pub loop-i-preserved : goal.loop-i-preserved
loop-i-preserved c =
    let k = c.loop-i.invariant in
    let e = c.next_ok.ensures in
    (going_next k.0 c.loop-i-test.true e.rowed e.value c.if-not-next_ok.false, (elim c.if-word-eq-CALL.branch [ then-word-eq-CALL w ↦ omega (arith, w.last-is) | else-word-eq-CALL w ↦ omega (arith, w.last-is, k.1) ]), e.firsts_2)

pub returns : goal.returns
returns c = let k = c.loop-i.invariant.0 in let l = c.loop-i-test.false in record {
  value = going_last k l;
  after_pass = going_passed k l;
}
