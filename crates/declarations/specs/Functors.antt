-- The functor of a record, and a record that stands in a chain, given another name.
use Rattle.std.specs.Prelude.{ℕ, ◌+◌, ◌≡◌, refl, List, ◌∷◌}
use Rattle.language.specs.Format.{next_word, functor_arity, functor_types}
use Rattle.language.specs.File.{Chain, functors, word}
use Rattle.language.specs.Program.{four, Functor}
use Rattle.chains.specs.Formed.{Formed, Stands, functors_at}
use Rattle.chains.specs.Is.{functor_is}
use Rattle.chains.specs.Declared.{functor_at_law}
use Rattle.chains.specs.Fields.{field_some}
use Rattle.chains.specs.Elements.{functor_from}

unfoldable pub functor_at_record : List ℕ → ℕ → Functor
functor_at_record f i = record {
  arity = word f i functor_arity;
  argument_types = four (word f i functor_types) (word f i (functor_types + 1)) (word f i (functor_types + 2)) (word f i (functor_types + 3));
}

pub functor_same : (f : List ℕ) (i : ℕ) → (i ≡ 0 → ⊥) → functor_from f i ≡ functor_at_record f i
unfolding functor_at_record
functor_same f i z =
    rw (
      ← field_some f i functor_arity z,
      ← field_some f i functor_types z,
      ← field_some f i (functor_types + 1) z,
      ← field_some f i (functor_types + 2) z,
      ← field_some f i (functor_types + 3) z,
    )

pub functors_step : {f : List ℕ} → Formed f → (i : ℕ) → Stands f functors i → (i ≡ 0 → ⊥)
    → functors_at f i ≡ functor_at_record f i ∷ functors_at f (word f i next_word)
unfolding functor_at_record
functors_step {f} F i s z = (functor_at_law F refl (functor_is s z)).view

pub stands_same : {f : List ℕ} {c : Chain} {w v : ℕ} → w ≡ v → Stands f c v → Stands f c w
stands_same e s = rw e s
