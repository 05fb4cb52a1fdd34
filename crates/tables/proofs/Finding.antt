-- What the code finds in a row and at a window's start: a law for each way through it.
use Prim.Native.Nat.{ℕ, ◌≤◌, ◌<◌}
use mathlib.Core.Bool.{Bool, false}
use mathlib.Core.List.{List}
use mathlib.Core.Path.{◌≡◌, refl, ◌∙◌}
use borrow.Author.Tests.{lt-ltb, le-ltb, lt-leb}
use lib.Dec.{eqb}
use lib.ListN.{get_or, length, get_or-eq_default}
use Rattle.sets.specs.Tests.{◌&◌}
use Rattle.sets.specs.Sets.{empty_set, loaded}
use Rattle.sets.specs.declared.Set.{Set}
use Rattle.language.specs.Lists.{choose}
use Rattle.language.specs.Format.{max_records}
use Rattle.tables.specs.TablePlaces.{mark_place, row_place}
use Rattle.tables.specs.Rows.{mark_in, row_set}
use native.Mathlib.Omega.{arith}
use native.Mathlib.Decide.{dec_lt}
use Rattle.tables.specs.Starts.{start_is, start_in}

-- ---- what the code finds, a law for each way through it
module _ (t : List ℕ) (i : ℕ) where
  pub row_some : (k : ℕ) {s : Set} → i < max_records → s ≡ loaded (get_or t (row_place i k) 0) → s ≡ row_set t i k
  unfolding row_set choose
  row_some k h e = e ∙ rw (lt-ltb i max_records h) refl

  pub row_past : (k : ℕ) → max_records ≤ i → empty_set ≡ row_set t i k
  unfolding row_set choose
  row_past k h = rw (le-ltb i max_records h) refl

  pub mark_some : {b : Bool} → i < max_records → b ≡ eqb (get_or t (row_place i mark_place) 0) 1 → b ≡ mark_in t i
  unfolding mark_in ◌&◌
  mark_some h e = e ∙ rw (lt-ltb i max_records h) refl

  pub mark_past : max_records ≤ i → false ≡ mark_in t i
  unfolding mark_in ◌&◌
  mark_past h = rw (le-ltb i max_records h) refl

module _ (t : List ℕ) (q : ℕ) where
  pub start_past : length t < get_or t q 0 → start_in t q ≡ 0
  unfolding start_in choose
  start_past h = rw (lt-leb (get_or t q 0) (length t) h)

  -- no such place
  pub start_none : length t ≤ q → start_in t q ≡ 0
  start_none h = let e = get_or-eq_default t 0 h in start_is t q (omega arith) ∙ e

  pub start_within : start_in t q ≤ length t
  start_within =
      elim (dec_lt (length t) (get_or t q 0)) [
        | yes l ↦ (let e = start_past l in omega arith)
        | no l ↦ (let e = start_is t q (omega arith) in omega arith)
      ]
