-- Where the rest is in the same regions, so is the whole.
use mathlib.Core.Bool.{false≢true}
use mathlib.Core.List.{List}
use mathlib.Core.Path.{sym, ◌∙◌}
use Prim.Native.Nat.{ℕ}
use borrow.Author.Tests.{eqb-true}
use Rattle.chains.specs.Formed.{arguments_none}
use Rattle.chains.specs.Is.{chain_next}
use Rattle.regions.proofs.CallMapLaws.{homes_none, argument_here}
use Rattle.regions.proofs.RepeatsLaws.{same_next}
use Rattle.regions.proofs.repeats.same_homes.Goals as goal

pub returns-then-y-eq0 : goal.returns-then-y-eq0
returns-then-y-eq0 c = λ e. absurd (false≢true e)

pub returns-then-u-v : goal.returns-then-u-v
returns-then-u-v c = λ e. absurd (false≢true e)

pub loop-x-smaller : goal.loop-x-smaller
loop-x-smaller c =
    (chain_next c.requires.formed c.loop-x.invariant.0 c.loop-x-test.true c.word-x.ensures.0).falls

pub loop-x-preserved : goal.loop-x-preserved
loop-x-preserved c =
    let f : List ℕ = c.args.file.now in
    let F = c.requires.formed in
    let k = c.loop-x.invariant in
    let z = c.loop-x-test.true in
    let n = c.word-x.ensures.0 in
    let m = c.word-y.ensures.0 in (
      (chain_next F k.0 z n).stands,
      (chain_next F k.1 c.if-y-eq0.false m).stands,
      λ e. k.2 (same_next c.args.own.now _ _ _ _ (argument_here f _ _ F k.0 z c.word.ensures.0 c.home-u.ensures n) (argument_here f _ _ F k.1 c.if-y-eq0.false c.word-in-loop-x.ensures.0 c.home-v.ensures m) c.if-u-v.false e),
    )

pub returns : goal.returns
returns c = λ e.
    let f : List ℕ = c.args.file.now in
    c.loop-x.invariant.2 (homes_none c.args.own.now (arguments_none f c.loop-x-test.false) ∙ sym (homes_none c.args.own.now (arguments_none f (eqb-true _ _ e))))
