-- The first test that fails gives the verdict. Assumes nothing.
use Rattle.records.proofs.Stages.{count_most, form_header, form_form, form_accepted}
use Rattle.records.proofs.stage.check_form.Goals as goal

pub returns-then-not-header_ok : goal.returns-then-not-header_ok
returns-then-not-header_ok c = form_header _ c.header_ok.ensures c.if-not-header_ok.true

pub form_ok-requires : goal.form_ok-requires
form_ok-requires c = count_most _ c.header_ok.ensures c.if-not-header_ok.false c.word-n.ensures.0

pub returns-then-not-form_ok : goal.returns-then-not-form_ok
returns-then-not-form_ok c =
    form_form _ c.header_ok.ensures c.word-n.ensures.0 c.form_ok.ensures c.if-not-header_ok.false c.if-not-form_ok.true

pub returns : goal.returns
returns c =
    form_accepted _ c.header_ok.ensures c.word-n.ensures.0 c.form_ok.ensures c.if-not-header_ok.false c.if-not-form_ok.false
