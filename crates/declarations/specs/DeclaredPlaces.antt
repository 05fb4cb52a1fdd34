-- The two tables that number 3 lends, and their places. The code has the numbers under the same names (src/places.rt). A place has a record's number, 0
-- where there is none.
use Rattle.std.specs.Prelude.{ℕ, ◌+◌, ◌*◌, List, ltb, get_or}
use Rattle.language.specs.Format.{max_records, max_procedures, max_functors, places}
use Rattle.language.specs.Lists.{choose}

-- the file's: by their records, links between variables and marks at the first functors of types with regions; then the procedures, then max_functors
-- places for each type
abbrev pub procedure_places : ℕ
procedure_places = max_records

abbrev pub functor_places : ℕ
functor_places = procedure_places + max_procedures

abbrev pub file_places : ℕ
file_places = functor_places + max_functors * places

-- the procedure's: its variables, then its regions
abbrev pub region_places : ℕ
region_places = places

abbrev pub own_places : ℕ
own_places = region_places + places

-- entry n of the `most` from place `at` on, 0 past them
unfoldable pub place_in : List ℕ → ℕ → ℕ → ℕ → ℕ
place_in t at most n = choose (ltb n most) (get_or t (at + n) 0) 0

module _ (t : List ℕ) where
  abbrev pub variable_in : ℕ → ℕ
  variable_in x = place_in t 0 places x

  abbrev pub region_in : ℕ → ℕ
  region_in r = place_in t region_places places r

  abbrev pub procedure_in : ℕ → ℕ
  procedure_in q = place_in t procedure_places max_procedures q

  -- functor n of type ty
  unfoldable pub functor_in : ℕ → ℕ → ℕ
  functor_in ty n = choose (ltb ty places) (place_in t (functor_places + max_functors * ty) max_functors n) 0

  -- the first functor of type ty, where the type has regions
  abbrev pub regioned_in : ℕ → ℕ
  regioned_in ty = get_or t (functor_in ty 0) 0
