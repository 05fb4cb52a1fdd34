-- One law for each kind of record; a link fits, since a record does.
use Rattle.std.proofs.Common.{arith}
use Rattle.plans.specs.Links.{first_below}
use Rattle.plans.specs.Ways.{link_none, link_call, link_other, link_own, call_leads, argument_leads}
use Rattle.plans.proofs.joining.link_of.Goals as goal

pub first_in-requires : goal.first_in-requires
first_in-requires c =
    call_leads c.requires.formed c.args.i c.word-kind.ensures.0 c.if-kind-eq-CALL.true c.word.ensures.0

pub overflow_mul-result : goal.overflow_mul-result
overflow_mul-result c =
    let l = call_leads c.requires.formed c.args.i c.word-kind.ensures.0 c.if-kind-eq-CALL.true c.word.ensures.0 in
    omega (arith, first_below c.requires.joinable c.args.mode c.word.result l, c.first_in.ensures)

pub returns-then-kind-eq-CALL : goal.returns-then-kind-eq-CALL
returns-then-kind-eq-CALL c =
    let a = c.args in
    link_call a.file.now a.i a.plan.now c.word-kind.ensures.0 a.mode c.if-kind-eq-CALL.true c.word.ensures.0 c.first_in.ensures

pub returns-then-kind-ne-ARGUMENT : goal.returns-then-kind-ne-ARGUMENT
returns-then-kind-ne-ARGUMENT c =
    let a = c.args in
    link_none a.file.now a.i a.plan.now c.word-kind.ensures.0 a.mode c.if-kind-eq-CALL.false c.if-kind-ne-ARGUMENT.true

pub first_in-link-requires : goal.first_in-link-requires
first_in-link-requires c =
    argument_leads c.requires.formed c.args.i c.word-kind.ensures.0 c.if-kind-ne-ARGUMENT.false c.word-2.ensures.0

pub overflow_mul-link : goal.overflow_mul-link
overflow_mul-link c =
    let l = argument_leads c.requires.formed c.args.i c.word-kind.ensures.0 c.if-kind-ne-ARGUMENT.false c.word-2.ensures.0 in
    omega (arith, first_below c.requires.joinable c.args.mode c.word-2.result l, c.first_in-link.ensures)

pub returns-then-plan-i : goal.returns-then-plan-i
returns-then-plan-i c =
    let a = c.args in
    link_other a.file.now a.i a.plan.now c.word-kind.ensures.0 a.mode c.if-kind-eq-CALL.false c.if-kind-ne-ARGUMENT.false c.word-2.ensures.0
    c.first_in-link.ensures c.if-plan-i.true

pub overflow_add-result-2 : goal.overflow_add-result-2
overflow_add-result-2 c =
    omega (arith, c.requires.joinable.slots c.args.i (omega arith), c.word-3.ensures.1)

pub overflow_add-result-3 : goal.overflow_add-result-3
overflow_add-result-3 c =
    let l = argument_leads c.requires.formed c.args.i c.word-kind.ensures.0 c.if-kind-ne-ARGUMENT.false c.word-2.ensures.0 in
    let n = first_below c.requires.joinable c.args.mode c.word-2.result l in
    omega (arith, n, c.first_in-link.ensures, c.requires.joinable.slots c.args.i (omega arith), c.word-3.ensures.1)

pub returns : goal.returns
returns c =
    let a = c.args in
    link_own a.file.now a.i a.plan.now c.word-kind.ensures.0 a.mode c.if-kind-eq-CALL.false c.if-kind-ne-ARGUMENT.false c.word-2.ensures.0
    c.first_in-link.ensures c.if-plan-i.false c.word-3.ensures.0
