-- For each variable's record the first in or out variable from there on: a call's arguments are matched with those alone.
use Rattle.std.specs.Prelude.{ℕ, zero, suc, ◌≤◌, ◌<◌, ◌≡◌, List, [], ◌∷◌, ◌⊎◌, eqb, length, get_or, set}
use Rattle.std.proofs.Common.{arith, eq-eqb, ne_eqb, ◌∙◌, length-set, get_or-set_same, get_or-set_other}
use Rattle.std.proofs.Math.Decide.{dec_lt, ℕ_discrete}
use Rattle.std.proofs.Math.Path.{refl, sym}
use Rattle.std.proofs.Math.Logic.{inl, inr}
use Rattle.language.specs.Format.{kind_word, next_word, variable_mode, variable_type, variable_kind, max_records}
use Rattle.language.specs.Lists.{choose}
use Rattle.language.specs.File.{k_variable, functors, variables, row_in, row, word, record_count}
use Rattle.language.specs.Program.{Variable}
use Rattle.chains.specs.Formed.{Formed, Stands, counted, Onward, variables_at, ahead}
use Rattle.chains.specs.Is.{functor_is, variable_is}
use Rattle.chains.specs.Shapes.{by_number}
use Rattle.chains.specs.Declared.{variable_at_law}
use Rattle.declarations.specs.DeclaredPlaces.{file_places}

-- the types of the variables that take an argument
unfoldable pub takes : ℕ → ℕ → List ℕ → List ℕ
takes zero ty ts = ts
takes (suc m) ty ts = ty ∷ ts

unfoldable pub taken_types : List Variable → List ℕ
taken_types [] = []
taken_types (v ∷ vs) = takes v.mode v.type (taken_types vs)

-- u is the first in or out variable from v on
pub record ParameterFrom (f : List ℕ) (v u : ℕ) : Type 0 where
  pub stands : Stands f variables u
  pub falls : ahead f u ≤ ahead f v
  pub passes : (u ≡ 0 → ⊥) → word f u variable_mode ≡ 0 → ⊥
  pub same : taken_types (variables_at f u) ≡ taken_types (variables_at f v)

-- the link of record i, by those of the records behind in t
unfoldable pub link_of : List ℕ → List ℕ → ℕ → ℕ
link_of f t i = choose (eqb (word f i variable_mode) 0) (get_or t (word f i next_word) 0) i

module _ (f t : List ℕ) (i : ℕ) where
  pub link_local : word f i variable_mode ≡ 0 → get_or t (word f i next_word) 0 ≡ link_of f t i
  unfolding link_of choose
  link_local h = rw (eq-eqb (word f i variable_mode) 0 h)

  pub link_parameter : (word f i variable_mode ≡ 0 → ⊥) → i ≡ link_of f t i
  unfolding link_of choose
  link_parameter h = rw (ne_eqb (word f i variable_mode) 0 h)

-- ---- one variable
takes_none : (m ty : ℕ) (ts : List ℕ) → m ≡ 0 → takes m ty ts ≡ ts
unfolding takes
takes_none m ty ts e = rw e

takes_one : (m ty : ℕ) (ts : List ℕ) → (m ≡ 0 → ⊥) → takes m ty ts ≡ ty ∷ ts
unfolding takes
takes_one zero ty ts n = absurd (n refl)
takes_one (suc m) ty ts n = refl

module _ {f : List ℕ} (F : Formed f) (v : ℕ) (s : Stands f variables v) (z : v ≡ 0 → ⊥) where
  taken_as : taken_types (variables_at f v) ≡ takes (word f v variable_mode) (word f v variable_type) (taken_types (variables_at f (word f v next_word)))
  unfolding taken_types
  taken_as = rw (variable_at_law F refl (variable_is s z)).view

  taken_local : word f v variable_mode ≡ 0 → taken_types (variables_at f v) ≡ taken_types (variables_at f (word f v next_word))
  taken_local m = taken_as ∙ takes_none _ _ _ m

  pub taken_one : (word f v variable_mode ≡ 0 → ⊥) → taken_types (variables_at f v) ≡ word f v variable_type ∷ taken_types (variables_at f (word f v next_word))
  taken_one m = taken_as ∙ takes_one _ _ _ m

  onward : Onward f variables v (word f v next_word)
  onward = (variable_at_law F refl (variable_is s z)).to_next

-- no functor is a variable
functor_other : {f : List ℕ} {k : ℕ} → Stands f functors k → (k ≡ 0 → ⊥) → word f k kind_word ≡ variable_kind → ⊥
unfolding row row_in
functor_other {f} {k} s z e =
    let r = sym (functor_is s z) ∙ by_number f k k_variable refl e in
    let q : ◌≡◌ {A = ℕ} 0 1 = cc in omega arith

-- ---- what the code computes, from table t: u has the links of the records from i on, and is as t where a functor's place is, or no record's
pub record Linked (f t u : List ℕ) (i : ℕ) : Type 0 where
  pub kept : length u ≡ length t
  pub right : (v : ℕ) → (v ≡ 0) ⊎ (i ≤ v) → Stands f variables v → ParameterFrom f v (get_or u v 0)
  pub other : (k : ℕ) → Stands f functors k ⊎ (max_records ≤ k) → get_or u k 0 ≡ get_or t k 0

module _ {f : List ℕ} (F : Formed f) where
  module _ {t u : List ℕ} {i : ℕ} (L : Linked f t u i) (j : ℕ) (e : i ≡ suc j) (z : j ≡ 0 → ⊥) where
    parameter_here : Stands f variables j → ParameterFrom f j (link_of f u j)
    unfolding link_of
    parameter_here s =
        elim (ℕ_discrete (word f j variable_mode) 0) [
          | no n ↦ rw (sym (link_parameter f u j n)) (record { stands = s; falls = omega arith; passes = λ q k. n k; same = refl })
          | yes n ↦
              let o = onward F j s z in
              let k = L.right (word f j next_word) (elim o.order [ inl d ↦ inl d | inr l ↦ inr (omega arith) ]) o.stands in
              rw (sym (link_local f u j n)) (record { stands = k.stands; falls = omega (arith, k.falls, o.falls); passes = k.passes; same = k.same ∙ sym (taken_local F j s z n) })
        ]

    linked_next : word f j kind_word ≡ variable_kind → j < max_records → file_places ≤ length t → {w : ℕ} → (Stands f variables j → ParameterFrom f j w)
        → Linked f t (set u j w) j
    linked_next ek b h {w} p = record { kept = simp length-set L.kept; right = at; other = λ k o. get_or-set_other u j k w 0 (apart k o) ∙ L.other k o }
      where
        apart : (k : ℕ) → Stands f functors k ⊎ (max_records ≤ k) → k ≡ j → ⊥
        apart k (inl s) q = functor_other (rw q at s) z ek
        apart k (inr l) q = omega arith

        at : (v : ℕ) → (v ≡ 0) ⊎ (j ≤ v) → Stands f variables v → ParameterFrom f v (get_or (set u j w) v 0)
        at v (inl d) s = rw (get_or-set_other u j v w 0 (λ q. z (sym q ∙ d))) (L.right v (inl d) s)
        at v (inr l) s =
            elim (dec_lt j v) [
              | yes m ↦ rw (get_or-set_other u j v w 0 (λ q. omega arith)) (L.right v (inr (omega arith)) s)
              | no m ↦ let d : v ≡ j = omega arith in rw (d, get_or-set_same u j w 0 (omega (arith, L.kept))) (p (rw (sym d) s))
            ]

    pub linked_variable : word f j kind_word ≡ variable_kind → j < record_count f → file_places ≤ length t → {w : ℕ} → w ≡ link_of f u j → Linked f t (set u j w) j
    linked_variable ek b h {w} ew = linked_next ek (omega (arith, (counted F).most)) h λ s. rw ew (parameter_here s)
