-- A type by its number and its functors: how many there are, that they stand, and which types have regions.
use Prim.Native.Nat.{ℕ, zero, suc, ◌≤◌, ◌<◌}
use native.Mathlib.Omega.{arith}
use native.Mathlib.Decide.{dec_lt}
use borrow.Author.Tests.{ne_eqb, eq-eqb, le-leb, lt-leb, leb-true, lt-ltb, le-ltb}
use mathlib.Core.Path.{◌≡◌, refl, ap, sym, ◌∙◌}
use mathlib.Core.List.{List, []}
use lib.Dec.{eqb, leb, ltb}
use lib.ListN.{length}
use Rattle.sets.specs.Tests.{◌&◌, neg, truth, clash, false_of, and_true, true_and}
use Rattle.laws.specs.Tests.{yes_and, no_and, and_no, and_yes}
use Rattle.laws.specs.Lists.{all_end, all_no, all_yes, nth_past, all_weaker, all_nth, all_or_default, nth_past as nth-none}
use Rattle.language.specs.Format.{next_word, functor_arity, max_records, max_functors}
use Rattle.language.specs.Lists.{all, choose, nth1, among, nth}
use Rattle.language.specs.File.{functors, word}
use Rattle.language.specs.Program.{Functor, functors_of}
use Rattle.language.specs.Typing.{is_type, regioned, functor_ok, type_ok, types_ok}
use Rattle.chains.specs.Formed.{Formed, Stands, functors_none, counted, functors_at}
use Rattle.declarations.specs.Functors.{functor_at_record, functors_step}
use Rattle.declarations.specs.Regioned.{constants_at, regioned_start}
use mathlib.Core.Bool.{true, false}
use mathlib.Core.Logic.{inl, inr}
use Rattle.laws.specs.Choices.{choose_true, choose_false}
use Rattle.language.specs.Answers.{program}
use Rattle.declarations.specs.DeclaredPlaces.{regioned_in, functor_in}
use Rattle.declarations.specs.Declares.{Declares, functor_listed, functor_stands, functors_are, start_stands, type_start}

-- only a type has regions
pub regioned_type : (T : List (List Functor)) (ty : ℕ) → (is_type T ty & regioned T ty) ≡ regioned T ty
unfolding is_type regioned functors_of nth1 all neg
regioned_type T zero = and_no (leb 0 (length T)) refl
regioned_type T (suc n) =
    elim (dec_lt n (length T)) [
      | yes l ↦ yes_and _ (le-leb (suc n) (length T) (omega arith))
      | no l ↦ no_and _ (lt-leb (suc n) (length T) (omega arith)) ∙ sym (ap (λ fs. neg (all (λ g. eqb g.arity 0) fs)) (nth_past [] T n (omega arith)))
    ]

-- ---- what the code computes: the functors from record i on decide as all from record start on do
module _ (f : List ℕ) (start : ℕ) {i : ℕ} (k : constants_at f i ≡ constants_at f start) where
  pub constants_end : i ≡ 0 → 0 ≡ regioned_start f start
  unfolding constants_at regioned_start choose neg
  constants_end z = rw (sym k, sym (all_end (λ g. eqb g.arity 0) (functors_none f z)))

  module _ (F : Formed f) (s : Stands f functors i) (z : i ≡ 0 → ⊥) {w : ℕ} (ew : w ≡ word f i functor_arity) where
    pub constants_stop : (w ≡ 0 → ⊥) → start ≡ regioned_start f start
    unfolding constants_at functor_at_record regioned_start choose neg
    constants_stop n = rw (sym k, sym (all_no (λ g. eqb g.arity 0) (functors_step F i s z) (ap (λ m. eqb m 0) ew) (ne_eqb w 0 n)))

    pub constants_next : w ≡ 0 → {next : ℕ} → next ≡ word f i next_word → constants_at f next ≡ constants_at f start
    unfolding constants_at functor_at_record
    constants_next h en = rw en (all_yes (λ g. eqb g.arity 0) (functors_step F i s z) (ap (λ m. eqb m 0) ew) (eq-eqb w 0 h) ∙ k)

pub no_start : (f : List ℕ) {i : ℕ} → i ≡ 0 → regioned_start f i ≡ 0
no_start f {i} z = sym (constants_end f i refl z)

-- ---- the types of the file
module _ {f : List ℕ} (F : Formed f) (ty : ℕ) where
  -- a type with regions has a functor
  start_some : regioned (program f).types ty ≡ true → type_start f ty ≡ 0 → ⊥
  unfolding regioned all neg
  start_some r z = clash r (ap (λ fs. neg (all (λ g. eqb g.arity 0) fs)) (sym (functors_are F ty) ∙ functors_none f z))

-- "32 functors a type (at least 1)": a type is one with functors
some_functors : (T : List (List Functor)) → types_ok T ≡ true → (ty : ℕ) → ltb 0 (length (functors_of T ty)) ≡ (is_type T ty & leb 1 ty)
unfolding types_ok type_ok functors_of nth1 is_type among
some_functors T h zero = sym (and_no (leb 0 (length T)) refl)
some_functors T h (suc n) =
    elim (dec_lt n (length T)) [
      | yes l ↦
          let k = (and_true (and_true (all_nth (type_ok T) [] T n (and_true h).1 l)).0).0 in
          lt-ltb 0 (length (nth [] T n)) (leb-true 1 (length (nth [] T n)) k) ∙ sym (true_and (le-leb (suc n) (length T) (omega arith)) (le-leb 1 (suc n) (omega arith)))
      | no l ↦ ap (λ fs. ltb 0 (length fs)) (nth-none [] T n (omega arith)) ∙ sym (no_and (leb 1 (suc n)) (lt-leb (suc n) (length T) (omega arith)))
    ]

pub few_functors : (T : List (List Functor)) → types_ok T ≡ true → (ty : ℕ) → length (functors_of T ty) ≤ max_functors
unfolding types_ok type_ok functors_of nth1 among
few_functors T h zero = omega arith
few_functors T h (suc n) =
    elim (dec_lt n (length T)) [
      | yes l ↦ leb-true (length (nth [] T n)) max_functors (and_true (and_true (all_nth (type_ok T) [] T n (and_true h).1 l)).0).1
      | no l ↦ omega (arith, ap length (nth-none [] T n (omega arith)))
    ]

-- each functor of a type is in order
functors_fit : (T : List (List Functor)) → types_ok T ≡ true → (ty : ℕ) → all (functor_ok T) (functors_of T ty) ≡ true
unfolding types_ok type_ok functors_of nth1 all
functors_fit T h zero = refl
functors_fit T h (suc n) = all_or_default (all (functor_ok T)) [] refl T n (all_weaker (type_ok T) (all (functor_ok T)) T (λ fs e. (and_true e).1) (and_true h).1)

module _ {f t : List ℕ} (D : Declares f t) where
  pub functor_low : (ty n : ℕ) → functor_in t ty n < max_records
  functor_low ty n = omega (arith, (functor_stands D ty n).below, (counted D.formed).most)

  type_listed : (ty : ℕ) → ltb 0 (functor_in t ty 0) ≡ (is_type (program f).types ty & leb 1 ty)
  type_listed ty = functor_listed D ty 0 ∙ some_functors (program f).types D.types_ok_law ty

  module _ (ty : ℕ) {g : ℕ} (e : g ≡ functor_in t ty 0) where
    pub type_some : (g ≡ 0 → ⊥) → is_type (program f).types ty ≡ true
    type_some z = (and_true (sym (type_listed ty) ∙ lt-ltb 0 (functor_in t ty 0) (omega arith))).0

    pub type_none : (ty ≡ 0 → ⊥) → g ≡ 0 → is_type (program f).types ty ≡ false
    type_none z n =
        sym (and_yes (is_type (program f).types ty)) ∙ ap (λ b. is_type (program f).types ty & b) (sym (le-leb 1 ty (omega arith)))
        ∙ sym (type_listed ty) ∙ le-ltb 0 (functor_in t ty 0) (omega arith)

  -- ---- types with regions
  regioned_start_law : (ty : ℕ) → regioned_in t ty ≡ choose (regioned (program f).types ty) (type_start f ty) 0
  unfolding regioned regioned_start constants_at
  regioned_start_law ty = D.starts ty ∙ ap (λ fs. choose (neg (all (λ g. eqb g.arity 0) fs)) (type_start f ty) 0) (functors_are D.formed ty)

  module _ (ty : ℕ) {g : ℕ} (e : g ≡ regioned_in t ty) where
    pub regioned_none : g ≡ 0 → regioned (program f).types ty ≡ false
    regioned_none z = false_of λ r. start_some D.formed ty r (sym (choose_true _ (type_start f ty) 0 r) ∙ sym (regioned_start_law ty) ∙ sym e ∙ z)

    module _ (z : g ≡ 0 → ⊥) where
      pub regioned_some : regioned (program f).types ty ≡ true
      regioned_some = elim (truth (regioned (program f).types ty)) [ inl r ↦ r | inr r ↦ absurd (z (e ∙ regioned_start_law ty ∙ choose_false _ (type_start f ty) 0 r)) ]

      start_same : g ≡ type_start f ty
      start_same = e ∙ regioned_start_law ty ∙ choose_true _ (type_start f ty) 0 regioned_some

      pub regioned_stands : Stands f functors g
      regioned_stands = rw start_same (start_stands D.formed ty)

      pub regioned_functors : functors_at f g ≡ functors_of (program f).types ty
      regioned_functors = ap (functors_at f) start_same ∙ functors_are D.formed ty

      pub regioned_fit : all (functor_ok (program f).types) (functors_at f g) ≡ true
      regioned_fit = rw regioned_functors (functors_fit (program f).types D.types_ok_law ty)
