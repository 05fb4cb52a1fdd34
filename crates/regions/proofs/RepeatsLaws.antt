-- Laws of `specs/Repeats` that only proofs cite.
use Prim.Native.Nat.{ℕ}
use mathlib.Core.Bool.{true}
use mathlib.Core.List.{List, ◌∷◌}
use mathlib.Core.Path.{◌≡◌, sym, ap₂, ◌∙◌}
use Rattle.owners.specs.Owner.{owner_of}
use Rattle.owners.specs.Everywhere.{record_test}
use Rattle.tables.specs.Rows.{effect_in}
use Rattle.tables.specs.declared.Effect.{Effect}
use Rattle.regions.specs.CallMap.{homes_in}
use Rattle.regions.specs.Single.{agrees}
use Rattle.regions.specs.Here.{Given, Here}
use Rattle.regions.specs.Effects.{EffectAt}
use Rattle.regions.specs.Rowed.{Before}
use Rattle.regions.specs.Repeats.{Repeats, repeat_agrees, repeat_made}

-- what the pass knows of the record j is true of a call at record i that repeats it
module _ {f table owners own : List ℕ} (G : Given f table owners) {i j : ℕ} (H : Here f own i) {t : List ℕ} (B : Before f t j) (R : Repeats f own owners j i) where
  same_owner : owner_of f i ≡ owner_of f j
  same_owner = sym (G.owned i H.below) ∙ R.owner ∙ G.owned j B.below

  pub repeated_agrees : true ≡ record_test (agrees f) f i
  repeated_agrees = repeat_agrees H R same_owner (B.agrees R.kind)

  pub repeated_made : {e : Effect} → e ≡ effect_in t j → EffectAt f i e
  repeated_made d = repeat_made H R same_owner (rw d (B.made R.kind))

-- ---- along two chains of arguments: where the rest is in the same regions, so is the whole
pub same_next : (t xs ys xs' ys' : List ℕ) {u v : ℕ} → homes_in t xs ≡ u ∷ homes_in t xs' → homes_in t ys ≡ v ∷ homes_in t ys' → u ≡ v
    → homes_in t xs' ≡ homes_in t ys' → homes_in t xs ≡ homes_in t ys
same_next t xs ys xs' ys' e g z h = e ∙ ap₂ ◌∷◌ z h ∙ sym g
