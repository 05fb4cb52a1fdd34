-- Laws of `specs/CallEffect` that only proofs cite.
use Prim.Native.Nat.{ℕ}
use mathlib.Core.Bool.{Bool, true, false}
use mathlib.Core.List.{List}
use mathlib.Core.Path.{◌≡◌, refl, sym, ap, ◌∙◌}
use Rattle.language.specs.File.{k_call, word}
use Rattle.language.specs.Format.{call_arguments}
use Rattle.language.specs.Regions.{one_way, step_regions}
use Rattle.chains.specs.Shapes.{call_here}
use Rattle.owners.specs.Everywhere.{record_test}
use Rattle.regions.specs.Pairs.{answer}
use Rattle.regions.specs.CallMap.{Blank, CallMapped}
use Rattle.regions.specs.Single.{agrees_here, agrees}
use Rattle.regions.specs.Here.{call_kind_law, goal_test}
use Rattle.regions.specs.CallEffect.{CallHere, mapped}

-- ---- the images of a call
one_way_law : (b : Bool) (t : List ℕ) → one_way (answer b t) ≡ b
unfolding one_way answer
one_way_law true t = refl
one_way_law false t = refl

module _ {f own theirs : List ℕ} {i : ℕ} (K : CallHere f own theirs i) where
  module _ {a : ℕ} (e : a ≡ word f i call_arguments) {t : List ℕ} (B : Blank t) (b : Bool) (t' : List ℕ) (M : CallMapped f own theirs a t b t') where
    pub call_agrees : b ≡ record_test (agrees f) f i
    unfolding agrees_here step_regions
    call_agrees =
        goal_test i K.here.formed k_call (call_kind_law f i K.kind) (call_here K.here.formed refl K.kind).goal
        (sym (ap one_way (mapped K e B b t' M) ∙ one_way_law b t'))
