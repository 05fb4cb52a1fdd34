-- Laws of `specs/Noted` that only proofs cite.
use Prim.Native.Nat.{ℕ}
use mathlib.Core.List.{List, ◌∷◌, []}
use mathlib.Core.Path.{refl}
use Rattle.sets.specs.declared.Set.{Set}
use Rattle.liveness.specs.Points.{point}
use Rattle.liveness.specs.Table.{Fills}
use Rattle.liveness.specs.Noted.{Noted}
use Rattle.liveness.specs.declared.carried.Carried.{Carried}

pub noted : (c : Carried) {t u : List ℕ} {before after : Set} {start : ℕ} → Fills t u start c.place (point before after ∷ [])
    → Noted c t (record c { place = start; live = before }) u before after c.classes
noted c h = record { live_is = refl; classes_is = refl; wants_is = refl; fills = h }
