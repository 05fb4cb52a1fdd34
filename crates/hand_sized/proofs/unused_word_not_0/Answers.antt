use mathlib.Core.Path.{refl}
use Rattle.language.specs.Answers.{refusal_number}
use Rattle.language.specs.Table.{table}
use Rattle.language.specs.declared.Refusal.TheVariants.{Form}
use Rattle.hand_sized.specs.Joined.{all_refuse}
use Rattle.hand_sized.proofs.unused_word_not_0.Goals as goal

pub returns : goal.returns
unfolding refusal_number
returns c =
    let p = c.put_to_all.ensures Form (all_refuse c.unused_word.ensures table.unused_word) in
    record { value = p.0; refusal_number_value = refl; out_unchanged = p.1.0; untouched = p.1.1 }
