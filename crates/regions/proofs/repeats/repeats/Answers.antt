use mathlib.Core.Bool.{false≢true}
use mathlib.Core.Path.{sym, ap, ◌∙◌}
use mathlib.Core.List.{List}
use Prim.Native.Nat.{ℕ}
use Rattle.std.proofs.Common.{arith}
use Rattle.language.specs.Format.{kind_word}
use Rattle.chains.specs.Formed.{word_within, arguments_at}
use Rattle.chains.specs.Shapes.{to_arguments}
use Rattle.regions.specs.CallMap.{homes_in}
use Rattle.regions.proofs.repeats.repeats.Goals as goal

pub returns-then-word-ne-CALL : goal.returns-then-word-ne-CALL
returns-then-word-ne-CALL c = λ e. absurd (false≢true e)

pub returns-then-word-ne-CALL-2 : goal.returns-then-word-ne-CALL-2
returns-then-word-ne-CALL-2 c = λ e. absurd (false≢true e)

pub returns-then-owner_of : goal.returns-then-owner_of
returns-then-owner_of c = λ e. absurd (false≢true e)

pub word-requires-3 : goal.word-requires-3
word-requires-3 c = let F = c.requires in record {
  formed = F;
  k_lt_record_words = (omega arith, word_within F _ kind_word (omega (arith, sym c.word.ensures.0 ∙ c.if-word-ne-CALL.false)));
}

pub word-requires-4 : goal.word-requires-4
word-requires-4 c = let F = c.requires in record {
  formed = F;
  k_lt_record_words = (omega arith, word_within F _ kind_word (omega (arith, sym c.word-2.ensures.0 ∙ c.if-word-ne-CALL-2.false)));
}

pub returns-then-word : goal.returns-then-word
returns-then-word c = λ e. absurd (false≢true e)

pub word-a-requires : goal.word-a-requires
word-a-requires c = let F = c.requires in record {
  formed = F;
  k_lt_record_words = (omega arith, word_within F _ kind_word (omega (arith, sym c.word.ensures.0 ∙ c.if-word-ne-CALL.false)));
}

pub word-requires-5 : goal.word-requires-5
word-requires-5 c = let F = c.requires in record {
  formed = F;
  k_lt_record_words = (omega arith, word_within F _ kind_word (omega (arith, sym c.word-2.ensures.0 ∙ c.if-word-ne-CALL-2.false)));
}

pub same_homes-requires : goal.same_homes-requires
same_homes-requires c = let F = c.requires in let k = sym c.word.ensures.0 ∙ c.if-word-ne-CALL.false in let l = sym c.word-2.ensures.0 ∙ c.if-word-ne-CALL-2.false in record {
  formed = F;
  stands = ((to_arguments F k c.word-a.ensures.0).stands, (to_arguments F l c.word-5.ensures.0).stands);
}

pub returns : goal.returns
returns c = λ e.
    let f : List ℕ = c.args.file.now in
    record {
      here = sym c.word.ensures.0 ∙ c.if-word-ne-CALL.false;
      kind = sym c.word-2.ensures.0 ∙ c.if-word-ne-CALL-2.false;
      owner = sym c.owner_of.ensures ∙ c.if-owner_of.false ∙ c.owner_of-2.ensures;
      callee = sym c.word-3.ensures.0 ∙ c.if-word.false ∙ c.word-4.ensures.0;
      homes = ap (λ (n : ℕ). homes_in c.args.own.now (arguments_at f n)) (sym c.word-a.ensures.0) ∙ c.same_homes.ensures e ∙ ap (λ (n : ℕ). homes_in c.args.own.now (arguments_at f n)) c.word-5.ensures.0;
    }
