-- The types of a file: what the code tests, by the number of types and slot by slot, is what the definition says.
use Prim.Native.Nat.{ℕ, ◌≤◌, ◌<◌, zero, suc}
use native.Mathlib.Omega.{arith}
use borrow.Author.Tests.{lt-ltb, le-ltb, le-leb, lt-leb, leb-true}
use mathlib.Core.Path.{◌≡◌, sym, refl, ap, ◌∙◌}
use mathlib.Core.Bool.{Bool, true, false}
use mathlib.Core.List.{List}
use lib.Dec.{eqb, leb}
use lib.ListN.{length, take, drop}
use Rattle.language.specs.Format.{max_functors, max_arity, header_types, max_types}
use Rattle.language.specs.Lists.{all, among, choose}
use Rattle.language.specs.Program.{four, Functor, Four, four_words}
use Rattle.laws.specs.Tests.{and_stop, and_on, refuse, pass}
use Rattle.declarations.specs.Types.{functor_fits, type_fits, type_slot, type_slots}
use Rattle.sets.specs.Tests.{◌&◌, and_true}
use Rattle.language.specs.File.{word}
use Rattle.language.specs.Answers.{program}
use Rattle.language.specs.Typing.{types_in, is_type, functor_ok, type_ok, types_ok}
use Rattle.chains.specs.Formed.{Formed, types_stand, program_types, types_at}
use Rattle.chains.specs.Elements.{types_count}
use Rattle.chains.specs.Records.{chain_records}
use Rattle.laws.specs.Lists.{all_same}
use Rattle.declarations.specs.Functors.{stands_same}

-- ---- what the code computes
pub slot_in : (n arity k t : ℕ) → k < arity → leb t n ≡ type_slot n arity k t
unfolding type_slot choose
slot_in n arity k t h = rw (lt-ltb k arity h)

pub slot_past : (n arity k t : ℕ) → arity ≤ k → eqb t 0 ≡ type_slot n arity k t
unfolding type_slot choose
slot_past n arity k t h = rw (le-ltb k arity h)

module _ (n arity a b c d : ℕ) where
  pub functor_many : max_arity < arity → false ≡ functor_fits n (record { arity = arity; argument_types = four a b c d })
  unfolding functor_fits
  functor_many h = and_stop _ (lt-leb arity max_arity h)

  module _ {r1 : Bool} (h : arity ≤ max_arity) (e1 : r1 ≡ type_slot n arity 0 a) where
    pub functor_first : r1 ≡ false → false ≡ functor_fits n (record { arity = arity; argument_types = four a b c d })
    unfolding functor_fits type_slots
    functor_first p1 = and_on (le-leb arity max_arity h) (refuse _ e1 p1)

    module _ {r2 : Bool} (p1 : r1 ≡ true) (e2 : r2 ≡ type_slot n arity 1 b) where
      pub functor_second : r2 ≡ false → false ≡ functor_fits n (record { arity = arity; argument_types = four a b c d })
      unfolding functor_fits type_slots
      functor_second p2 = and_on (le-leb arity max_arity h) (pass e1 p1 (refuse _ e2 p2))

      module _ {r3 : Bool} (p2 : r2 ≡ true) (e3 : r3 ≡ type_slot n arity 2 c) where
        pub functor_third : r3 ≡ false → false ≡ functor_fits n (record { arity = arity; argument_types = four a b c d })
        unfolding functor_fits type_slots
        functor_third p3 = and_on (le-leb arity max_arity h) (pass e1 p1 (pass e2 p2 (refuse _ e3 p3)))

        pub functor_all : {r4 : Bool} → r3 ≡ true → r4 ≡ type_slot n arity 3 d → r4 ≡ functor_fits n (record { arity = arity; argument_types = four a b c d })
        unfolding functor_fits type_slots
        functor_all p3 e4 = and_on (le-leb arity max_arity h) (pass e1 p1 (pass e2 p2 (pass e3 p3 e4)))

module _ (n : ℕ) {r : ℕ} (fs : List Functor) (e : r ≡ length fs) where
  pub type_none : r ≡ 0 → false ≡ type_fits n fs
  unfolding type_fits among
  type_none h = and_stop _ (sym (and_stop _ (lt-leb 1 (length fs) (omega arith))))

  pub type_many : max_functors < r → false ≡ type_fits n fs
  unfolding type_fits among
  type_many h = and_stop _ (sym (and_on (le-leb 1 (length fs) (omega arith)) (sym (lt-leb (length fs) max_functors (omega arith)))))

  pub type_all : {q : Bool} → (r ≡ 0 → ⊥) → r ≤ max_functors → q ≡ all (functor_fits n) fs → q ≡ type_fits n fs
  unfolding type_fits among
  type_all z h k = and_on (sym (and_on (le-leb 1 (length fs) (omega arith)) (sym (le-leb (length fs) max_functors (omega arith))))) k

-- ---- functors, slot by slot
flat0 : (a b c d : Bool) → (a & b & c & d) ≡ (a & b & c & d & true)
unfolding ◌&◌
flat0 false b c d = refl
flat0 true false c d = refl
flat0 true true false d = refl
flat0 true true true true = refl
flat0 true true true false = refl

flat1 : (a b c d : Bool) → (a & b & c & d) ≡ ((a & true) & (b & c & d & true))
unfolding ◌&◌
flat1 false b c d = refl
flat1 true false c d = refl
flat1 true true false d = refl
flat1 true true true true = refl
flat1 true true true false = refl

flat2 : (a b c d : Bool) → (a & b & c & d) ≡ ((a & b & true) & (c & d & true))
unfolding ◌&◌
flat2 false b c d = refl
flat2 true false c d = refl
flat2 true true false d = refl
flat2 true true true true = refl
flat2 true true true false = refl

flat3 : (a b c d : Bool) → (a & b & c & d) ≡ ((a & b & c & true) & (d & true))
unfolding ◌&◌
flat3 false b c d = refl
flat3 true false c d = refl
flat3 true true false d = refl
flat3 true true true true = refl
flat3 true true true false = refl

flat4 : (a b c d : Bool) → (a & b & c & d) ≡ ((a & b & c & d & true) & true)
unfolding ◌&◌
flat4 false b c d = refl
flat4 true false c d = refl
flat4 true true false d = refl
flat4 true true true true = refl
flat4 true true true false = refl

module _ (T : List (List Functor)) where
  functor_same : (arity : ℕ) (ts : Four) → (leb arity max_arity & type_slots (length T) arity ts)
      ≡ (leb arity max_arity & all (is_type T) (take arity (four_words ts)) & all (λ t. eqb t 0) (drop arity (four_words ts)))
  unfolding type_slots type_slot choose all is_type four_words ◌&◌
  functor_same zero (four a b c d) = flat0 (eqb a 0) (eqb b 0) (eqb c 0) (eqb d 0)
  functor_same (suc zero) (four a b c d) = flat1 (leb a (length T)) (eqb b 0) (eqb c 0) (eqb d 0)
  functor_same (suc (suc zero)) (four a b c d) = flat2 (leb a (length T)) (leb b (length T)) (eqb c 0) (eqb d 0)
  functor_same (suc (suc (suc zero))) (four a b c d) = flat3 (leb a (length T)) (leb b (length T)) (leb c (length T)) (eqb d 0)
  functor_same (suc (suc (suc (suc zero)))) (four a b c d) = flat4 (leb a (length T)) (leb b (length T)) (leb c (length T)) (leb d (length T))
  functor_same (suc (suc (suc (suc (suc m))))) ts = rw (lt-leb (suc (suc (suc (suc (suc m))))) max_arity (omega arith))

  functor_fits_law : (g : Functor) → functor_fits (length T) g ≡ functor_ok T g
  unfolding functor_fits functor_ok types_in
  functor_fits_law g = functor_same g.arity g.argument_types

  type_fits_law : (fs : List Functor) → type_fits (length T) fs ≡ type_ok T fs
  unfolding type_fits type_ok
  type_fits_law fs = ap (λ b. among max_functors (length fs) & b) (all_same (functor_fits (length T)) (functor_ok T) functor_fits_law fs)

  types_fit : {n : ℕ} → n ≡ length T → (leb n max_types & all (type_fits n) T) ≡ types_ok T
  unfolding types_ok
  types_fit e = rw e (ap (λ b. leb (length T) max_types & b) (all_same (type_fits (length T)) (type_ok T) type_fits_law T))

-- ---- what the code computes
pub few_types : (T : List (List Functor)) → types_ok T ≡ true → length T ≤ max_types
unfolding types_ok
few_types T h = leb-true (length T) max_types (and_true h).0

module _ (f : List ℕ) (i : ℕ) (F : Formed f) (e : i ≡ word f 0 header_types) where
  types_are : (program f).types ≡ types_at f i
  types_are = program_types F ∙ ap (types_at f) (sym e)

  pub type_count : {n : ℕ} → n ≡ length (chain_records f i) → n ≡ length (program f).types
  type_count d = d ∙ sym (types_count F i (stands_same e (types_stand F))) ∙ ap length (sym types_are)

  pub types_all : {n : ℕ} {q : Bool} → n ≡ length (program f).types → n ≤ max_types → q ≡ all (type_fits n) (types_at f i) → q ≡ types_ok (program f).types
  types_all {n} d h k = and_on (le-leb n max_types h) (k ∙ ap (all (type_fits n)) (sym types_are)) ∙ types_fit (program f).types d

pub many_types : (f : List ℕ) {n : ℕ} → n ≡ length (program f).types → max_types < n → false ≡ types_ok (program f).types
many_types f {n} d h = and_stop _ (lt-leb n max_types h) ∙ types_fit (program f).types d
