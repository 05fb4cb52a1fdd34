-- Each arm says what the row of its kind says.
use Rattle.writer.proofs.LeadsLaws.{header_leads, type_leads, procedure_leads, region_leads, switch_leads, arm_leads, then_leads, else_leads, call_leads, try_leads, none_leads}
use borrow.Author.Tests.{eq-eqb}
use mathlib.Core.Path.{◌∙◌}
use Rattle.writer.proofs.walk.leads.Goals as goal

pub returns-then-k-eq-IF_THEN : goal.returns-then-k-eq-IF_THEN
returns-then-k-eq-IF_THEN c = eq-eqb _ _ c.if-k-eq-IF_THEN.true ∙ then_leads c.requires.le_k c.requires.k_lt_record_words c.in-14.is c.if-k-eq-IF_THEN.true

pub returns-in-1 : goal.returns-in-1
returns-in-1 c = header_leads c.requires.le_k c.requires.k_lt_record_words c.in-1.is

pub returns-in-2 : goal.returns-in-2
returns-in-2 c = type_leads c.requires.le_k c.requires.k_lt_record_words c.in-2.is

pub returns-in-4 : goal.returns-in-4
returns-in-4 c = procedure_leads c.requires.le_k c.requires.k_lt_record_words c.in-4.is

pub returns-in-6 : goal.returns-in-6
returns-in-6 c = region_leads c.requires.le_k c.requires.k_lt_record_words c.in-6.is

pub returns-in-12 : goal.returns-in-12
returns-in-12 c = switch_leads c.requires.le_k c.requires.k_lt_record_words c.in-12.is

pub returns-in-13 : goal.returns-in-13
returns-in-13 c = arm_leads c.requires.le_k c.requires.k_lt_record_words c.in-13.is

pub returns-else-k-eq-IF_THEN : goal.returns-else-k-eq-IF_THEN
returns-else-k-eq-IF_THEN c = else_leads c.requires.le_k c.requires.k_lt_record_words c.in-14.is c.if-k-eq-IF_THEN.false

pub returns-in-15 : goal.returns-in-15
returns-in-15 c = call_leads c.requires.le_k c.requires.k_lt_record_words c.in-15.is

pub returns-in-20 : goal.returns-in-20
returns-in-20 c = try_leads c.requires.le_k c.requires.k_lt_record_words c.in-20.is

pub returns-in_default : goal.returns-in_default
returns-in_default c =
    let n = c.in_default.in_default-own.rest in
    none_leads c.requires.le_k c.requires.k_lt_record_words n.0.0.0.0.0.0.0.0.1 n.0.0.0.0.0.0.0.1 n.0.0.0.0.0.0.1 n.0.0.0.0.0.1 n.0.0.0.0.1 n.0.0.0.1 n.0.0.1 n.0.1 n.1
