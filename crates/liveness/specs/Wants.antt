-- What is wanted at a point, from a short copy of a window: the reach of each variable at the place of its number, then the kept regions.
use Rattle.std.specs.Prelude.{ℕ, ◌+◌, ◌<◌, List, ◌≡◌, ltb, get_or}
use Rattle.sets.specs.Sets.{empty_set, ◌∪◌, loaded}
use Rattle.sets.specs.Members.{union_over}
use Rattle.sets.specs.declared.Set.{Set}
use Rattle.language.specs.Lists.{choose}
use Rattle.language.specs.Format.{places}
use Rattle.tables.specs.Window.{set_in, reach_in, kept_place}

abbrev pub wants_kept : ℕ
wants_kept = places

abbrev pub want_words : ℕ
want_words = wants_kept + 1

-- the reach of variable x
unfoldable pub reached_in : List ℕ → ℕ → Set
reached_in w x = choose (ltb x places) (loaded (get_or w x 0)) empty_set

-- "Wanted at a point: the kept regions and the reach of the live variables."
unfoldable pub wanted_in : List ℕ → Set → Set
wanted_in w live = loaded (get_or w wants_kept 0) ∪ union_over (reached_in w) live

-- ---- the copy of a window
pub record Wants (own w : List ℕ) : Type 0 where
  pub kept_is : loaded (get_or w wants_kept 0) ≡ set_in own kept_place
  pub reach_is : (x : ℕ) → x < places → loaded (get_or w x 0) ≡ reach_in own x
