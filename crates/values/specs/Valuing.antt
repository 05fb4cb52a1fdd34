-- Number 4 is a walk: what is carried are the variables with a value on every path that leads here, and those with one on some path.
use Rattle.std.specs.Prelude.{Bool}
use Rattle.sets.specs.Tests.{◌&◌}
use Rattle.sets.specs.Sets.{member, empty_set, ◌∪◌, ◌∩◌, subset, apart}
use Rattle.sets.specs.Members.{set_of}
use Rattle.sets.specs.declared.Set.{Set}
use Rattle.language.specs.Program.{arguments_of, Program}
use Rattle.language.specs.Values.{access, reads, gives}
use Rattle.accesses.specs.Ranged.{fresh}
use Rattle.values.specs.declared.carried.Valuation.{Valuation}
use Rattle.walks.specs.Walk.{WalkOutcome, goes_on, require, Walker}

abbrev pub both : Set → Set → Valuation
both e s = record { every = e; some = s }

-- after what reads r and gives g, none of it twice where o says so
unfoldable pub giving : Set → Set → Bool → Valuation → WalkOutcome Valuation
giving r g o a = require (subset r a.every) (require (apart g a.some & o) (goes_on (both (a.every ∪ g) (a.some ∪ g))))

unfoldable pub valuer : Program → Walker Valuation
valuer P =
    record {
      at_step = λ s a. giving (reads P s) (gives P s) (fresh (access P s).given) a;
      readable = λ a x. member a.every x;
      enter = λ ys a. giving empty_set (set_of (arguments_of ys)) (fresh (arguments_of ys)) a;
      join = λ a b. goes_on (both (a.every ∩ b.every) (a.some ∪ b.some));
    }
