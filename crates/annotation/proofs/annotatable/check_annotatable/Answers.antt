use Rattle.stages.specs.Stages.{not_accepted}
use Rattle.annotation.specs.Stages.{refused_before, annotated_refused, calls_refused, marks_passed}
use Rattle.std.proofs.Common.{rules}
use Rattle.annotation.proofs.annotatable.check_annotatable.Goals as goal

pub check_classes-requires : goal.check_classes-requires
check_classes-requires c = search rules

pub lower-requires : goal.lower-requires
lower-requires c = search rules

pub returns-in-Err : goal.returns-in-Err
returns-in-Err c = record {
  points_len_2 = c.requires.points_len;
  value = refused_before _ c.check_classes.ensures.value c.in-Err.is c.lower.ensures;
  prepared = not_accepted;
}

pub is_unannotated-requires : goal.is_unannotated-requires
is_unannotated-requires c = search rules

pub returns-then-not-is_unannotated : goal.returns-then-not-is_unannotated
returns-then-not-is_unannotated c = record {
  points_len_2 = c.requires.points_len;
  value = annotated_refused _ c.check_classes.ensures.value c.in_default.is c.is_unannotated.ensures c.if-not-is_unannotated.true;
  prepared = not_accepted;
}

pub call_classes_ok-requires : goal.call_classes_ok-requires
call_classes_ok-requires c = record {
  formed = c.requires.formed;
  prepared = c.check_classes.ensures.prepared c.in_default.is;
  points_len = c.requires.points_len;
}

pub returns-then-not-call_classes_ok : goal.returns-then-not-call_classes_ok
returns-then-not-call_classes_ok c = record {
  points_len_2 = c.call_classes_ok.ensures.points_len_2;
  value = calls_refused _ c.check_classes.ensures.value c.in_default.is c.is_unannotated.ensures c.if-not-is_unannotated.false c.call_classes_ok.ensures.value c.if-not-call_classes_ok.true;
  prepared = not_accepted;
}

pub returns : goal.returns
returns c = record {
  points_len_2 = c.call_classes_ok.ensures.points_len_2;
  value = marks_passed _ c.check_classes.ensures.value c.in_default.is c.is_unannotated.ensures c.if-not-is_unannotated.false c.call_classes_ok.ensures.value c.if-not-call_classes_ok.false;
  prepared = λ _. c.check_classes.ensures.prepared c.in_default.is;
}
