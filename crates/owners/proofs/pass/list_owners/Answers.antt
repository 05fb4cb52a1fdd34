-- After i turns the first i records have handed down.
use Prim.Native.Nat.{◌≤◌}
use mathlib.Core.Path.{◌≡◌, refl, ◌∙◌}
use Rattle.std.proofs.Common.{arith, rules}
use lib.ListN.{length, get_or, length-set}
use Rattle.chains.specs.Formed.{counted}
use Rattle.owners.specs.Handed.{given, handed_up_to}
use Rattle.owners.specs.Digits.{record_room}
use Rattle.owners.specs.Gives.{down_by_words}
use Rattle.owners.specs.Owner.{owner_by}
use Rattle.owners.proofs.Filling.{cleared, cleared_length, fits_more, next, last}
use Rattle.owners.proofs.pass.list_owners.Goals as goal

pub record_count-n-requires : goal.record_count-n-requires
record_count-n-requires c = search rules

pub loop-i-init : goal.loop-i-init
unfolding handed_up_to
loop-i-init c = refl

pub bounds-owners-i : goal.bounds-owners-i
bounds-owners-i c =
    let n = c.record_count-n.ensures in
    let room : c.record_count-n.result ≤ length c.args.owners.now = omega (arith, n, c.requires.file_in_bounds) in
    omega (arith, c.requires.file_in_bounds, c.loop-i.auto.owners, cleared_length _ c.args.owners.now room (c.fill.ensures.after (λ y e. e)))

pub word_in-kind-requires : goal.word_in-kind-requires
word_in-kind-requires c = (omega arith, record_room c.requires.formed _ (omega (arith, c.record_count-n.ensures, c.loop-i-test.true)))

pub hand_to-requires : goal.hand_to-requires
hand_to-requires c = let l = c.loop-i in let n = c.record_count-n.ensures in
    let z = c.fill.ensures.after (λ y e. e) in
    let room : c.record_count-n.result ≤ length c.args.owners.now = omega (arith, n, c.requires.file_in_bounds) in record {
      formed = c.requires.formed;
      i_bound = (omega (arith, n, c.loop-i-test.true), omega (arith, c.requires.file_in_bounds, l.auto.owners, cleared_length _ c.args.owners.now room z));
      may_give = λ k b. let h = fits_more c.requires.formed c.args.owners.now n (cleared _ c.args.owners.now room z) l.i l.invariant c.loop-i-test.true in search rules;
    }

pub loop-i-preserved : goal.loop-i-preserved
unfolding given
loop-i-preserved c =
    next _ _ c.loop-i.i c.loop-i.invariant
    (down_by_words owner_by _ _ _
    (c.hand_to.ensures _ (λ k r b p.
    let q : r ≡ owner_by c.word_in-kind.result c.loop-i.i k (get_or c.loop-i.owners c.loop-i.i 0) = search rules in
    rw c.word_in-kind.ensures.0 at q)))

pub bounds-owners-0 : goal.bounds-owners-0
bounds-owners-0 c =
    let room : c.record_count-n.result ≤ length c.args.owners.now = omega (arith, c.record_count-n.ensures, c.requires.file_in_bounds) in
    omega (arith, c.requires.file_in_bounds, (counted c.requires.formed).some, c.loop-i.auto.owners, cleared_length _ c.args.owners.now room (c.fill.ensures.after (λ y e. e)))

pub shape_of-owners : goal.shape_of-owners
shape_of-owners c =
    let room : c.record_count-n.result ≤ length c.args.owners.now = omega (arith, c.record_count-n.ensures, c.requires.file_in_bounds) in
    length-set c.loop-i.owners 0 0 ∙ c.loop-i.auto.owners ∙ cleared_length _ c.args.owners.now room (c.fill.ensures.after (λ y e. e))

pub returns : goal.returns
returns c =
    let n = c.record_count-n.ensures in
    let room : c.record_count-n.result ≤ length c.args.owners.now = omega (arith, n, c.requires.file_in_bounds) in
    last c.requires.formed c.args.owners.now n (cleared _ c.args.owners.now room (c.fill.ensures.after (λ y e. e))) c.loop-i.i c.loop-i.invariant
    (omega arith) (omega arith)
