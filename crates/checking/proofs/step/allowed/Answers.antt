use borrow.Author.Tests.{not-true, not-false}
use Rattle.checking.proofs.RulesLaws.{rules_unread, rules_needs, rules_kept, rules_born, rules_last}
use Rattle.std.proofs.Common.{rules}
use Rattle.checking.proofs.step.allowed.Goals as goal

pub returns-then-not-is_subset : goal.returns-then-not-is_subset
returns-then-not-is_subset c = search (not-true, rules_unread, rules)

pub returns-then-not-is_subset-2 : goal.returns-then-not-is_subset-2
returns-then-not-is_subset-2 c = search (not-true, not-false, rules_needs, rules)

pub returns-then-not-same : goal.returns-then-not-same
returns-then-not-same c = search (not-true, not-false, rules_kept, rules)

pub returns-then-not-same-2 : goal.returns-then-not-same-2
returns-then-not-same-2 c = search (not-true, not-false, rules_born, rules)

pub returns : goal.returns
returns c = search (not-false, rules_last, rules)
