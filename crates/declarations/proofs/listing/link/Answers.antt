use Rattle.std.proofs.Common.{arith, rules}
use mathlib.Core.Path.{sym, ◌∙◌}
use Rattle.chains.specs.Formed.{counted}
use Rattle.chains.specs.Records.{next_onward}
use Rattle.declarations.specs.Parameters.{link_local, link_parameter}
use Rattle.declarations.proofs.listing.link.Goals as goal

pub word-requires : goal.word-requires
word-requires c = search rules

pub word-requires-then-word-eq0 : goal.word-requires-then-word-eq0
word-requires-then-word-eq0 c = search rules

pub bounds-table-word : goal.bounds-table-word
bounds-table-word c = omega (arith, (counted c.requires.formed).most, (next_onward c.requires.formed (λ z. omega (arith, c.requires.i_nonzero.0)) c.requires.i_nonzero.1 c.word-then-word-eq0.ensures.0).stands.below)

pub returns-then-word-eq0 : goal.returns-then-word-eq0
returns-then-word-eq0 c = rw c.word-then-word-eq0.ensures.0 (link_local _ _ _ (sym c.word.ensures.0 ∙ c.if-word-eq0.true))

pub narrow-requires : goal.narrow-requires
narrow-requires c = omega (arith, (counted c.requires.formed).most, c.requires.i_nonzero.1)

pub returns : goal.returns
returns c = c.narrow.ensures ∙ link_parameter _ _ _ (λ z. c.if-word-eq0.false (c.word.ensures.0 ∙ z))
