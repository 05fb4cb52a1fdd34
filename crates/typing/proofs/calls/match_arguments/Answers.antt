-- What is left of the two chains decides as the whole does.
use Rattle.std.proofs.Common.{arith}
use mathlib.Core.Path.{refl, ◌∙◌}
use Rattle.language.specs.Format.{next_word}
use Rattle.language.specs.File.{word}
use Rattle.chains.specs.Formed.{counted}
use Rattle.chains.specs.Is.{chain_next}
use Rattle.typing.proofs.CallsLaws.{match_start, match_short, match_wrong, match_next, match_end, parameter_at}
use Rattle.typing.proofs.calls.match_arguments.Goals as goal

pub parameter-v-requires : goal.parameter-v-requires
parameter-v-requires c = omega (arith, (counted c.requires.declares.0.formed).most, c.requires.stands.0.below)

pub loop-v-init : goal.loop-v-init
loop-v-init c = let k = parameter_at c.requires.declares.0 c.requires.stands.0 refl c.parameter-v.ensures in (k.stands, k.passes, c.requires.stands.1, match_start _ _ _ k)

pub returns-then-y-eq0 : goal.returns-then-y-eq0
returns-then-y-eq0 c = let l = c.loop-v.invariant in let z = c.loop-v-test.true in match_short c.requires.declares.0.formed _ _ _ l.0 z (l.1 z) c.if-y-eq0.true ∙ l.3

pub word-t-requires : goal.word-t-requires
word-t-requires c = record {
  formed = c.requires.declares.0.formed;
  k_lt_record_words = (omega arith, c.loop-v.invariant.0.below);
}

pub word-x-requires : goal.word-x-requires
word-x-requires c = record {
  formed = c.requires.declares.0.formed;
  k_lt_record_words = (omega arith, c.loop-v.invariant.2.below);
}

pub has_type-requires : goal.has_type-requires
has_type-requires c = record {
  formed = c.requires.declares.0.formed;
  own = c.requires.declares.1;
}

pub returns-then-not-has_type : goal.returns-then-not-has_type
returns-then-not-has_type c = let l = c.loop-v.invariant in let z = c.loop-v-test.true in match_wrong c.requires.declares.0.formed _ _ _ l.0 z (l.1 z) l.2 c.if-y-eq0.false c.word-t.ensures.0 c.word-x.ensures.0 c.has_type.ensures c.if-not-has_type.true ∙ l.3

pub word-y-requires : goal.word-y-requires
word-y-requires c = record {
  formed = c.requires.declares.0.formed;
  k_lt_record_words = (omega arith, c.loop-v.invariant.2.below);
}

pub word-requires : goal.word-requires
word-requires c = record {
  formed = c.requires.declares.0.formed;
  k_lt_record_words = (omega arith, c.loop-v.invariant.0.below);
}

pub parameter-v-requires-in-loop-v : goal.parameter-v-requires-in-loop-v
parameter-v-requires-in-loop-v c = omega (arith, (counted c.requires.declares.0.formed).most, (chain_next c.requires.declares.0.formed c.loop-v.invariant.0 c.loop-v-test.true c.word.ensures.0).stands.below)

pub loop-v-smaller : goal.loop-v-smaller
loop-v-smaller c = let o = chain_next {w = word c.args.file.now c.loop-v.v next_word} c.requires.declares.0.formed c.loop-v.invariant.0 c.loop-v-test.true refl in
    let k = parameter_at c.requires.declares.0 o.stands c.word.ensures.0 c.parameter-v-in-loop-v.ensures in
    omega (arith, o.falls, k.falls)

pub loop-v-preserved : goal.loop-v-preserved
loop-v-preserved c = let l = c.loop-v.invariant in let z = c.loop-v-test.true in
    let o = chain_next {w = word c.args.file.now c.loop-v.v next_word} c.requires.declares.0.formed l.0 z refl in
    let k = parameter_at c.requires.declares.0 o.stands c.word.ensures.0 c.parameter-v-in-loop-v.ensures in
    (k.stands, k.passes, (chain_next c.requires.declares.0.formed l.2 c.if-y-eq0.false c.word-y.ensures.0).stands, match_next c.requires.declares.0.formed _ _ _ l.0 z (l.1 z) l.2 c.if-y-eq0.false c.word-t.ensures.0 c.word-x.ensures.0 c.has_type.ensures c.if-not-has_type.false k c.word-y.ensures.0 ∙ l.3)

pub returns : goal.returns
returns c = match_end _ _ _ _ c.requires.declares.0.formed c.loop-v.invariant.2 c.loop-v-test.false ∙ c.loop-v.invariant.3
