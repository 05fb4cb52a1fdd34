-- A call's walk along the callee's variables: k of them are passed, x is the next one's record, a the next argument's.
use Rattle.std.specs.Prelude.{ℕ, zero, suc, ◌+◌, ◌<◌, ◌≢◌, ◌∷◌, ◌≡◌, set}
use Rattle.std.proofs.Common.{arith, add-one, inl, inr, sym, ap, ◌∙◌}
use mathlib.Core.List.{List, []}
use Rattle.std.proofs.Math.Path.{refl}
use Rattle.language.specs.File
use Rattle.language.specs.File.{word}
use Rattle.language.specs.Format.{next_word, variable_mode}
use Rattle.language.specs.Program.{Variable, Parameter, parameter_in, parameters_from}
use Rattle.chains.specs.Formed.{Formed, Stands, variables_at, variables_none}
use Rattle.chains.specs.Declared.{variable_at_law}
use Rattle.chains.specs.Is.{variable_is, chain_next}
use Rattle.chains.specs.Records.{chain_records, records_none, records_step}
use Rattle.plans.specs.Passes.{slots_from, modes_from, placed}

-- ---- the in and out variables from number k on
from_local : {us vs : List Variable} {m t r : ℕ} (k : ℕ) → us ≡ record { mode = m; type = t; region = r } ∷ vs → m ≡ 0
    → parameters_from k us ≡ parameters_from (suc k) vs
unfolding parameters_from parameter_in
from_local {vs = vs} k e z = ap (parameters_from k) e ∙ ap (λ (n : ℕ). parameter_in n k (parameters_from (suc k) vs)) z

parameter_some : (m k : ℕ) (ps : List Parameter) → m ≢ 0 → parameter_in m k ps ≡ record { mode = m; variable = k } ∷ ps
unfolding parameter_in
parameter_some zero k ps n = absurd (n refl)
parameter_some (suc m) k ps n = refl

from_next : {us vs : List Variable} {m t r : ℕ} (k : ℕ) → us ≡ record { mode = m; type = t; region = r } ∷ vs → m ≢ 0
    → parameters_from k us ≡ record { mode = m; variable = k } ∷ parameters_from (suc k) vs
unfolding parameters_from
from_next {m = m} k e n = ap (parameters_from k) e ∙ parameter_some m k _ n

placed_next : (ps : List Parameter) (js : List ℕ) {qs : List Parameter} {is : List ℕ} {m k a : ℕ} (t : List ℕ) → qs ≡ record { mode = m; variable = k } ∷ ps
    → is ≡ a ∷ js → placed ps js (set (set t (slots_from + a) k) (modes_from + a) m) ≡ placed qs is t
unfolding placed
placed_next ps js t e h = rw (e, h) refl

-- the rest of the variables and arguments, from here on, gives the whole
pub record Walked (f : List ℕ) (x₀ a₀ : ℕ) (t₀ : List ℕ) (x k a : ℕ) (t : List ℕ) : Type 0 where
  pub variable : Stands f File.variables x
  pub argument : Stands f File.arguments a
  pub number : x ≢ 0 → k < x
  pub rest : placed (parameters_from (suc k) (variables_at f x)) (chain_records f a) t ≡ placed (parameters_from 1 (variables_at f x₀)) (chain_records f a₀) t₀

module _ {f : List ℕ} where
  pub walk_first : {x a : ℕ} (t : List ℕ) → Stands f File.variables x → Stands f File.arguments a → Walked f x a t x 0 a t
  walk_first t s r = record { variable = s; argument = r; number = λ z. omega (arith, z); rest = refl }

  module _ {x₀ a₀ : ℕ} {t₀ : List ℕ} {x k a : ℕ} {t : List ℕ} (W : Walked f x₀ a₀ t₀ x k a t) where
    -- no variable is left, or no argument
    pub walk_ends : {w : ℕ} → x ≡ 0 → x₀ ≡ w → t ≡ placed (parameters_from 1 (variables_at f w)) (chain_records f a₀) t₀
    unfolding parameters_from placed
    walk_ends z e = rw (← e) (rw (variables_none f z) at W.rest)

    none_placed : (ps : List Parameter) (js : List ℕ) → js ≡ [] → placed ps js t ≡ t
    unfolding placed
    none_placed [] js e = refl
    none_placed (p ∷ ps) js e = rw e refl

    pub walk_stops : {w : ℕ} → a ≡ 0 → x₀ ≡ w → t ≡ placed (parameters_from 1 (variables_at f w)) (chain_records f a₀) t₀
    walk_stops z e = rw (← e) (sym (none_placed (parameters_from (suc k) (variables_at f x)) (chain_records f a) (records_none f z)) ∙ W.rest)

    module _ (F : Formed f) (z : x ≢ 0) {n m : ℕ} (en : n ≡ word f x next_word) (em : m ≡ word f x variable_mode) where
      number_next : n ≢ 0 → k + 1 < n
      number_next y =
          elim (chain_next F W.variable z en).order [ inl e ↦ absurd (y e) | inr l ↦ omega (arith, W.number z) ]

      -- a local variable
      pub walk_skips : m ≡ 0 → Walked f x₀ a₀ t₀ n (k + 1) a t
      walk_skips y = record {
        variable = (chain_next F W.variable z en).stands;
        argument = W.argument;
        number = number_next;
        rest = rw (en, add-one k)
            (ap (λ (ps : List Parameter). placed ps (chain_records f a) t) (sym (from_local (suc k) (variable_at_law F refl (variable_is W.variable z)).view (sym em ∙ y)))
            ∙ W.rest);
      }

      -- .. or one that the next argument matches
      pub walk_matches : m ≢ 0 → a ≢ 0 → {b : ℕ} {u : List ℕ} → b ≡ word f a next_word → u ≡ set (set t (slots_from + a) (k + 1)) (modes_from + a) m
          → Walked f x₀ a₀ t₀ n (k + 1) b u
      walk_matches y v {b} {u} eb eu = record {
        variable = (chain_next F W.variable z en).stands;
        argument = (chain_next F W.argument v eb).stands;
        number = number_next;
        rest = matched ∙ W.rest;
      }
        where
          matched : placed (parameters_from (suc (k + 1)) (variables_at f n)) (chain_records f b) u ≡ placed (parameters_from (suc k) (variables_at f x)) (chain_records f a) t
          matched =
              let p = from_next (suc k) (variable_at_law F refl (variable_is W.variable z)).view (λ q. y (em ∙ q)) in
              rw (eu, en, em, add-one k) (placed_next _ _ t p (records_step F v W.argument.below eb))
