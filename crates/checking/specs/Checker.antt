-- Number 8 is a walk: what is carried are the held regions and the sound variables.
use Rattle.sets.specs.Sets.{member, ◌∩◌, same_set}
use Rattle.sets.specs.Members.{set_of}
use Rattle.sets.specs.declared.Set.{Set}
use Rattle.language.specs.Program.{arguments_of, Signature, Program}
use Rattle.language.specs.Checking.{Carried, broken, carries, sound_given, check_step}
use Rattle.walks.specs.Walk.{WalkOutcome, stopped, goes_on, require, Walker}

pub record CheckState : Type 0 where
  pub held : Set
  pub sound : Set

abbrev pub carrying : Set → Set → CheckState
carrying h s = record { held = h; sound = s }

unfoldable pub as_outcome : Carried → WalkOutcome CheckState
as_outcome broken = stopped
as_outcome (carries h s) = goes_on (carrying h s)

unfoldable pub checker : Program → Signature → Walker CheckState
checker P S = record {
  at_step = λ g a. as_outcome (check_step P S g a.held a.sound);
  readable = λ a x. member a.sound x;
  enter = λ ys a. goes_on (carrying a.held (sound_given S (set_of (arguments_of ys)) a.held a.sound));
  join = λ a b. require (same_set a.held b.held) (goes_on (carrying a.held (a.sound ∩ b.sound)));
}
