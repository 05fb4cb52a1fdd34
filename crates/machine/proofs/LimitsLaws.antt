-- The number of places for cells and regions stays as it was, whatever is made and undone.
use Prim.Native.Nat.{ℕ, zero, suc, ◌/◌}
use Rattle.std.specs.Prelude.{Option, Some, None}
use mathlib.Core.Path.{◌≡◌, refl, sym, ◌∙◌}
use mathlib.Core.Bool.{Bool, true, false}
use mathlib.Core.List.{List}
use lib.ListN.{get_or}
use Rattle.language.specs.Lists.{choose}
use Rattle.memory.specs.declared.Heap.{Heap}
use Rattle.memory.specs.Building.{not_made, same_made}
use Rattle.memory.specs.Memory.{headed, raised, taken, created, created_of, built, built_of, removed}
use Rattle.memory.specs.Log.{kinds, Stored, without_cell, without, unbuilt, undone_of, undone_one, undone, freed_of, freed_one, freed}
use Rattle.machine.specs.GoalWords.{term_made}
use Rattle.machine.specs.Trying.{SameLimits}

-- ---- what is made
module _ (h : Heap) where
  built_by : (b d : Bool) (l y : ℕ) (g : Heap)
      → Some (y, g) ≡ built_of h (choose b None (choose d (Some (h.cells.head, raised h.cells)) (Some (h.cells.head, headed h.cells l)))) → SameLimits g h
  unfolding built_of choose
  built_by true d l y g e = absurd (not_made _ _ (sym e))
  built_by false true l y g e = rw ((same_made e).1) (refl, refl)
  built_by false false l y g e = rw ((same_made e).1) (refl, refl)

  built_limits : (m : List ℕ) (y : ℕ) (g : Heap) → Some (y, g) ≡ built h m → SameLimits g h
  unfolding built taken
  built_limits m y g e = built_by _ _ _ y g e

  pub term_limits : (m : List ℕ) (t a y : ℕ) (g : Heap) (md : Option (ℕ × Heap)) → md ≡ term_made t a h m → md ≡ Some (y, g) → SameLimits g h
  unfolding term_made
  term_limits m t zero y g md e d = rw ((same_made (sym d ∙ e)).1) (refl, refl)
  term_limits m t (suc a) y g md e d = built_limits m y g (sym d ∙ e)

  created_by_law : (b d : Bool) (l y : ℕ) (g : Heap)
      → Some (y, g) ≡ created_of h (choose b None (choose d (Some (h.regions.head, raised h.regions)) (Some (h.regions.head, headed h.regions l)))) → SameLimits g h
  unfolding created_of choose
  created_by_law true d l y g e = absurd (not_made _ _ (sym e))
  created_by_law false true l y g e = rw ((same_made e).1) (refl, refl)
  created_by_law false false l y g e = rw ((same_made e).1) (refl, refl)

  pub created_limits : (rs : List ℕ) (y : ℕ) (g : Heap) (md : Option (ℕ × Heap)) → md ≡ created h rs → md ≡ Some (y, g) → SameLimits g h
  unfolding created taken
  created_limits rs y g md e d = created_by_law _ _ _ y g (sym d ∙ e)

-- ---- what is undone or freed
abbrev Kept : Stored → Stored → Type 0
Kept s t = SameLimits s.heap t.heap

removed_by_law : (b : Bool) (h : Heap) (x r : ℕ) → ((choose b h.cells (headed h.cells x)).limit ≡ h.cells.limit)
unfolding choose
removed_by_law true h x r = refl
removed_by_law false h x r = refl

without_limits : (s : Stored) (r : ℕ) → Kept (without s r) s
unfolding without removed
without_limits s r = (removed_by_law _ s.heap _ r, refl)

cell_limits : (s : Stored) (r : ℕ) → Kept (without_cell s r) s
unfolding without_cell unbuilt
cell_limits s r = (refl, refl)

undone_of_law : (b d : Bool) (r : ℕ) (s : Stored) → Kept (choose b (without_cell s r) (choose d (without s r) s)) s
unfolding choose
undone_of_law true d r s = cell_limits s r
undone_of_law false true r s = without_limits s r
undone_of_law false false r s = (refl, refl)

freed_of_law : (b : Bool) (r : ℕ) (s : Stored) → Kept (choose b (without s r) s) s
unfolding choose
freed_of_law true r s = without_limits s r
freed_of_law false r s = (refl, refl)

undone_one_law : (e : ℕ) (s : Stored) → Kept (undone_one e s) s
unfolding undone_one undone_of
undone_one_law e s = undone_of_law _ _ (e / kinds) s

freed_one_law : (e : ℕ) (s : Stored) → Kept (freed_one e s) s
unfolding freed_one freed_of
freed_one_law e s = freed_of_law _ (e / kinds) s

pub undone_limits : (told : List ℕ) (n : ℕ) (s : Stored) → Kept (undone told n s) s
unfolding undone
undone_limits told zero s = (refl, refl)
undone_limits told (suc n) s =
    let p = undone_limits told n (undone_one (get_or told n 0) s) in
    let q = undone_one_law (get_or told n 0) s in
    (p.0 ∙ q.0, p.1 ∙ q.1)

pub freed_limits : (told : List ℕ) (n : ℕ) (s : Stored) → Kept (freed told n s) s
unfolding freed
freed_limits told zero s = (refl, refl)
freed_limits told (suc n) s =
    let p = freed_limits told n (freed_one (get_or told n 0) s) in
    let q = freed_one_law (get_or told n 0) s in
    (p.0 ∙ q.0, p.1 ∙ q.1)
