-- The links from variable to in or out variable, from the last record on.
use Prim.Native.Nat.{ℕ, suc, ◌≤◌}
use native.Mathlib.Omega.{arith}
use native.Mathlib.Decide.{dec_lt}
use mathlib.Core.Path.{◌≡◌, refl, sym, ◌∙◌}
use mathlib.Core.List.{List}
use mathlib.Core.Logic.{◌⊎◌, inl, inr}
use lib.ListN.{get_or}
use Rattle.language.specs.Format.{kind_word, variable_kind}
use Rattle.language.specs.File.{variables, word, record_count}
use Rattle.chains.specs.Formed.{Formed, Stands, stands_none}
use Rattle.chains.specs.Shapes.{variable_number}
use Rattle.declarations.specs.Parameters.{Linked, ParameterFrom}

-- ---- what the code computes, from table t: u has the links of the records from i on, and is as t where a functor's place is, or no record's
module _ {f : List ℕ} (F : Formed f) where
  parameter_none : {v u : ℕ} → v ≡ 0 → u ≡ 0 → ParameterFrom f v u
  parameter_none e d = record { stands = stands_none F d; falls = rw (d, e) (omega arith); passes = λ n m. n d; same = rw (d, e) }

  pub linked_none : {t : List ℕ} {i : ℕ} → i ≡ record_count f → get_or t 0 0 ≡ 0 → Linked f t t i
  linked_none {t} {i} e h = record { kept = refl; right = at; other = λ k l. refl }
    where
      at : (v : ℕ) → (v ≡ 0) ⊎ (i ≤ v) → Stands f variables v → ParameterFrom f v (get_or t v 0)
      at v (inl d) s = rw d (parameter_none refl h)
      at v (inr l) s = absurd (omega (arith, s.below))

  module _ {t u : List ℕ} {i : ℕ} (L : Linked f t u i) (j : ℕ) (e : i ≡ suc j) (z : j ≡ 0 → ⊥) where
    -- the kinds tell that j is no variable
    pub linked_other : (word f j kind_word ≡ variable_kind → ⊥) → Linked f t u j
    linked_other n = record { kept = L.kept; right = at; other = L.other }
      where
        at : (v : ℕ) → (v ≡ 0) ⊎ (j ≤ v) → Stands f variables v → ParameterFrom f v (get_or u v 0)
        at v (inl d) s = L.right v (inl d) s
        at v (inr l) s =
            elim (dec_lt j v) [
              | yes m ↦ L.right v (inr (omega arith)) s
              | no m ↦ let d : v ≡ j = omega arith in absurd (n (rw (sym d) (variable_number s λ y. z (sym d ∙ y))))
            ]

pub linked_all : {f t u : List ℕ} {i : ℕ} → Linked f t u i → i ≤ 1 → Linked f t u 1
linked_all L h = record { kept = L.kept; right = λ v o s. L.right v (elim o [ inl d ↦ inl d | inr l ↦ inr (omega arith) ]) s; other = L.other }
