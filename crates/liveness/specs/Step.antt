-- A step by its row: what is live before it, and number 7.
use Rattle.std.specs.Prelude.{ℕ, Bool, List}
use Rattle.sets.specs.Tests.{◌&◌}
use Rattle.sets.specs.Sets.{◌∪◌, ◌∖◌, apart}
use Rattle.sets.specs.declared.Set.{Set}
use Rattle.tables.specs.Rows.{reads_in, gives_in, bears_in, ends_in, mark_in}
use Rattle.liveness.specs.declared.carried.Carried.{Carried}
use Rattle.liveness.specs.Noted.{Noted}
use Rattle.liveness.specs.Wants.{wanted_in}

-- live before it
unfoldable pub live_at : List ℕ → ℕ → Set → Set
live_at rows i after = (after ∖ gives_in rows i) ∪ reads_in rows i

-- "at a call, a dead image wanted after, a born image wanted before, either shared with another region"
unfoldable pub classes_at : List ℕ → List ℕ → ℕ → Set → Set → Bool
classes_at rows w i before after = apart (ends_in rows i) (wanted_in w after) & apart (bears_in rows i) (wanted_in w before) & mark_in rows i

-- ---- one law for each way through the tests
-- what `step` does
abbrev pub StepNoted : List ℕ → ℕ → Carried → List ℕ → Carried → List ℕ → Type 0
StepNoted rows i c t d u =
    Noted c t d u (live_at rows i c.live) c.live (c.classes & classes_at rows c.wants i (live_at rows i c.live) c.live)
