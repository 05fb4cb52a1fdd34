-- The variables are gone through one by one.
use Rattle.std.proofs.Common.{◌≡◌, ℕ, ◌<◌, Bool}
use Rattle.sets.specs.Members.{members}
use Rattle.language.specs.Format.{places}
use Rattle.checking.proofs.SoundLaws.{Keeping}
use Rattle.checking.proofs.sound.kept.Given as goal

abbrev pub invariant-loop-x : goal.invariant-loop-x
invariant-loop-x g l =
    (p : ℕ → Bool) → ((x : ℕ) (b : Bool) → x < places → goal.F-post g l.passes x b → b ≡ p x) → Keeping p l.fn.variables l.found (members l.x-iterator.left)
