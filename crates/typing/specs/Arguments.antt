-- The arguments of a construct or an arm, slot by slot, as the code tests them.
use Prim.Native.Nat.{ℕ, zero, suc, ◌+◌, ◌-◌, ◌≤◌, ◌<◌}
use native.Mathlib.Omega.{arith}
use borrow.Author.Tests.{lt-ltb}
use Rattle.std.specs.Prelude.{◌≡◌, Bool, true, false, eqb, ltb, length, take}
use Rattle.std.proofs.Math.Path.{refl, ap, sym}
use Rattle.std.proofs.Common.{◌∙◌}
use mathlib.Core.List.{List, [], ◌∷◌}
use Rattle.std.proofs.Math.Dec.{eqb-suc-zero}
use Rattle.sets.specs.Tests.{◌&◌}
use Rattle.laws.specs.Tests.{and_yes, refuse, pass}
use Rattle.language.specs.Format.{functor_arity, functor_types, term_functor, term_arguments, max_arity}
use Rattle.language.specs.Lists.{among, choose}
use Rattle.language.specs.File.{word}
use Rattle.language.specs.Program.{four_words, trim_onto, trimmed, arguments_of, Signature}
use Rattle.language.specs.Typing.{types_in, is_variable, has_type, have_types, arguments_ok}
use Rattle.chains.specs.Parts.{four_at}
use Rattle.declarations.specs.Functors.{functor_at_record}

module _ (S : Signature) where
  -- argument a at position k, counted from 0, for the type ty: a variable of that type, or 0 past the arity
  unfoldable pub argument_slot : ℕ → ℕ → ℕ → ℕ → Bool
  argument_slot arity k ty a = choose (ltb k arity) (has_type S ty a) (eqb a 0)

  -- ---- the first n arguments have the first n types, the others are 0
  zeros : List ℕ → Bool
  zeros [] = true
  zeros (a ∷ as') = eqb a 0 & zeros as'

  fit : ℕ → List ℕ → List ℕ → Bool
  fit zero ts as' = zeros as'
  fit (suc n) [] as' = zeros as'
  fit (suc n) (t ∷ ts) [] = false
  fit (suc n) (t ∷ ts) (a ∷ as') = has_type S t a & fit n ts as'

  -- 0 is no variable
  no_zero : (t : ℕ) → has_type S t 0 ≡ false
  unfolding has_type is_variable among ◌&◌
  no_zero t = refl

  trim_zero : (a : ℕ) (bs : List ℕ) {z : Bool} → have_types S [] bs ≡ z → have_types S [] (trim_onto a bs) ≡ (eqb a 0 & z)
  unfolding trim_onto have_types ◌&◌
  trim_zero zero [] h = h
  trim_zero zero (b ∷ bs) h = h
  trim_zero (suc a) bs h = rw (eqb-suc-zero a)

  trim_zeros : (as' : List ℕ) → have_types S [] (trimmed as') ≡ zeros as'
  unfolding trimmed zeros have_types
  trim_zeros [] = refl
  trim_zeros (a ∷ as') = trim_zero a (trimmed as') (trim_zeros as')

  trim_one : (t : ℕ) (ts : List ℕ) (a : ℕ) (bs : List ℕ) {z : Bool} → have_types S ts bs ≡ z → have_types S (t ∷ ts) (trim_onto a bs) ≡ (has_type S t a & z)
  unfolding trim_onto have_types ◌&◌
  trim_one t ts zero [] h = rw (no_zero t)
  trim_one t ts zero (b ∷ bs) h = rw h
  trim_one t ts (suc a) bs h = rw h

  trim_fit : (n : ℕ) (ts as' : List ℕ) → length ts ≡ length as' → have_types S (take n ts) (trimmed as') ≡ fit n ts as'
  unfolding fit trimmed
  trim_fit zero ts as' e = trim_zeros as'
  trim_fit (suc n) [] as' e = trim_zeros as'
  trim_fit (suc n) (t ∷ ts) [] e = absurd (omega arith)
  trim_fit (suc n) (t ∷ ts) (a ∷ as') e = trim_one t (take n ts) a (trimmed as') (trim_fit n ts as' (omega arith))

  slots_fit : (arity t1 t2 t3 t4 a1 a2 a3 a4 : ℕ)
      → (argument_slot arity 0 t1 a1 & argument_slot arity 1 t2 a2 & argument_slot arity 2 t3 a3 & argument_slot arity 3 t4 a4)
      ≡ fit arity (t1 ∷ t2 ∷ t3 ∷ t4 ∷ []) (a1 ∷ a2 ∷ a3 ∷ a4 ∷ [])
  unfolding argument_slot choose fit zeros
  slots_fit zero t1 t2 t3 t4 a1 a2 a3 a4 = rw (and_yes (eqb a4 0))
  slots_fit (suc zero) t1 t2 t3 t4 a1 a2 a3 a4 = rw (and_yes (eqb a4 0))
  slots_fit (suc (suc zero)) t1 t2 t3 t4 a1 a2 a3 a4 = rw (and_yes (eqb a4 0))
  slots_fit (suc (suc (suc zero))) t1 t2 t3 t4 a1 a2 a3 a4 = rw (and_yes (eqb a4 0))
  slots_fit (suc (suc (suc (suc zero)))) t1 t2 t3 t4 a1 a2 a3 a4 = rw (and_yes (has_type S t4 a4))
  slots_fit (suc (suc (suc (suc (suc m))))) t1 t2 t3 t4 a1 a2 a3 a4 =
      rw (lt-ltb 0 (suc (suc (suc (suc (suc m))))) (omega arith), lt-ltb 1 (suc (suc (suc (suc (suc m))))) (omega arith), lt-ltb 2 (suc (suc (suc (suc (suc m))))) (omega arith), lt-ltb 3 (suc (suc (suc (suc (suc m))))) (omega arith), and_yes (has_type S t4 a4))

-- ---- the four slots of record i for the functor of record g, one after the other
module _ (f : List ℕ) (S : Signature) (g i : ℕ) where
  abbrev type : ℕ → ℕ
  type k = word f g (functor_types + k)

  abbrev argument : ℕ → ℕ
  argument k = word f i (term_arguments + k)

  abbrev pub slot_here : ℕ → Bool
  slot_here k = argument_slot S (word f g functor_arity) k (type k) (argument k)

  -- the n slots from k on
  unfoldable slots_from : ℕ → ℕ → Bool
  slots_from zero k = true
  slots_from (suc n) k = slot_here k & slots_from n (suc k)

  -- k are looked at, and those that are left decide
  pub slots_left : ℕ → Bool
  slots_left k = slots_from (max_arity - k) k

  pub slots_whole : slots_left 0 ≡ arguments_ok S (functor_at_record f g) (four_at f i)
  unfolding slots_left slots_from functor_at_record arguments_ok types_in four_words arguments_of
  slots_whole =
      ap (λ (b : Bool). slot_here 0 & slot_here 1 & slot_here 2 & b) (and_yes _)
      ∙ slots_fit S (word f g functor_arity) (type 0) (type 1) (type 2) (type 3) (argument 0) (argument 1) (argument 2) (argument 3)
      ∙ sym (trim_fit S (word f g functor_arity) (type 0 ∷ type 1 ∷ type 2 ∷ type 3 ∷ []) (argument 0 ∷ argument 1 ∷ argument 2 ∷ argument 3 ∷ []) refl)

  module _ {k : ℕ} (l : k < max_arity) {r : Bool} (e : r ≡ slot_here k) where
    slots_here : slots_left k ≡ (r & slots_left (k + 1))
    unfolding slots_left slots_from
    slots_here =
        let m : max_arity - k ≡ suc (max_arity - (k + 1)) = omega arith in
        let p : suc k ≡ k + 1 = omega arith in
        rw (m, p, e) refl

    pub slots_stop : r ≡ false → false ≡ slots_left k
    slots_stop z = refuse _ refl z ∙ sym slots_here

    pub slots_on : r ≡ true → slots_left (k + 1) ≡ slots_left k
    slots_on z = pass refl z refl ∙ sym slots_here

  pub slots_end : {k : ℕ} → max_arity ≤ k → true ≡ slots_left k
  unfolding slots_left slots_from
  slots_end {k} l = let m : max_arity - k ≡ 0 = omega arith in rw m refl

-- ---- an arm against functor n, of record g: the number and the arguments
unfoldable pub arm_fits : List ℕ → Signature → ℕ → ℕ → ℕ → Bool
arm_fits f S g n i = ltb 0 g & eqb (word f i term_functor) n & arguments_ok S (functor_at_record f g) (four_at f i)
