use mathlib.Core.Path.{refl}
use Rattle.std.proofs.Common.{rules}
use Rattle.language.specs.Answers.{refusal_number}
use Rattle.language.specs.Table.{table}
use Rattle.hand_sized.specs.Joined.{refused}
use Rattle.hand_sized.proofs.annotate_new_u_in_95.Goals as goal

pub returns : goal.returns
unfolding refusal_number
returns c = let p = refused _ c.args.out.now c.annotate.ensures c.new_u.ensures 95 table.new_u_95 (search rules) in record {
  value = p.0;
  refusal_number_value = refl;
  out_unchanged = p.1;
}
