use mathlib.Core.Path.{refl}
use Rattle.language.specs.Answers.{refusal_number}
use Rattle.language.specs.Table.{table}
use Rattle.language.specs.declared.Refusal.TheVariants.{Typing}
use Rattle.hand_sized.specs.Joined.{all_refuse}
use Rattle.hand_sized.proofs.word_past_arity.Goals as goal

pub returns : goal.returns
unfolding refusal_number
returns c =
    let p = c.put_to_all.ensures Typing (all_refuse c.past_arity.ensures table.past_arity) in
    record { value = p.0; refusal_number_value = refl; out_unchanged = p.1.0; untouched = p.1.1 }
