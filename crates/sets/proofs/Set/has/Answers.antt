use Rattle.std.proofs.Common.{arith, rules, sym}
use Rattle.sets.proofs.Set.has.Goals as goal
use Rattle.sets.specs.Code.{member_made}
use Rattle.sets.specs.Sets.{member_pos, small_of_bits}
use Rattle.sets.specs.Tests.{false_of}

pub returns-then-n-lt1 : goal.returns-then-n-lt1
returns-then-n-lt1 c = sym (false_of (λ e. let h = member_pos _ _ e in omega arith))

pub returns-then-n-gt-GREATEST : goal.returns-then-n-gt-GREATEST
returns-then-n-gt-GREATEST c = sym ((small_of_bits _ (search rules)).high _ (omega arith))

pub returns : goal.returns
returns c = member_made _ _ (omega arith)
