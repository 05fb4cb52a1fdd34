-- The edges of a region against the places of its type, a few places at a time: whatever places follow, the whole is what the rest says.
use Rattle.std.specs.Prelude.{ℕ, ◌≡◌, Bool, false, List, [], ◌∷◌, ◌++◌, Option, Some, None}
use Rattle.language.specs.File.{edges}
use Rattle.language.specs.Program.{Signature}
use Rattle.language.specs.Answers.{program}
use Rattle.language.specs.Typing.{Place, place_if, regioned, types_in, places_in, places_from, edges_ok}
use Rattle.chains.specs.Formed.{Stands, functors_at, edges_at}
use Rattle.declarations.specs.Functors.{functor_at_record}
use Rattle.declarations.specs.Own.{declared}

-- the edges that are left against the places that are left
unfoldable pub goes_on : List ℕ → Signature → Option ℕ → List Place → Bool
goes_on f S (Some e) qs = edges_ok (program f).types S qs (edges_at f e)
goes_on f S None qs = false

-- the places ps were matched from record e on, with the rest r
pub record EdgesMatch (f : List ℕ) (S : Signature) (ps : List Place) (e : ℕ) (r : Option ℕ) : Type 0 where
  pub stands : (e' : ℕ) → r ≡ Some e' → Stands f edges e'
  pub same : (qs : List Place) → edges_ok (program f).types S (ps ++ qs) (edges_at f e) ≡ goes_on f S r qs

-- the same for the regions that a procedure's table has, and of the places of functor g, which record i holds
module _ (f own : List ℕ) where
  abbrev pub PlaceMatch : Place → ℕ → Option ℕ → Type 0
  PlaceMatch p e r = EdgesMatch f (declared f own) (p ∷ []) e r

  abbrev pub PlacesMatch : List Place → ℕ → Option ℕ → Type 0
  PlacesMatch ps e r = EdgesMatch f (declared f own) ps e r

  abbrev pub FunctorMatch : ℕ → ℕ → ℕ → Option ℕ → Type 0
  FunctorMatch g i e r = EdgesMatch f (declared f own) (places_in (program f).types g 1 (types_in (functor_at_record f i))) e r

-- the place of functor g at position k, where its type has regions
unfoldable pub place_at : List ℕ → ℕ → ℕ → ℕ → List Place
place_at f g k t = place_if (regioned (program f).types t) (record { functor = g; position = k; type = t }) []

-- all places of the functors from record start on
abbrev pub AllMatch : List ℕ → List ℕ → ℕ → ℕ → Bool → Type 0
AllMatch f own start e r = r ≡ edges_ok (program f).types (declared f own) (places_from (program f).types 0 (functors_at f start)) (edges_at f e)
