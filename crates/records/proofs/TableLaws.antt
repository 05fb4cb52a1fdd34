-- The record table digit by digit, and a table by the kinds' numbers.
use Prim.Native.Nat.{ℕ, zero, suc, ◌/◌, ◌%◌, ◌≤◌, ◌<◌}
use native.Mathlib.Omega.{arith}
use mathlib.Core.Path.{◌≡◌, refl, sym, ap}
use mathlib.Core.List.{List, ◌∷◌, map, []}
use lib.ListN.{length, get_or}
use Rattle.language.specs.Lists.{nth}
use Rattle.language.specs.File.{Chain, nowhere, types, functors, procedures, variables, regions, edges, goals, arms, arguments, Use, number, unused, first, row, row_in, padded, kinds, kind_of, code, k_literal, k_sum, k_assign, k_construct, k_switch, k_if, k_call, k_print, k_create, k_remove, k_try, k_test, Kind, k_none, k_header, k_type, k_functor, k_procedure, k_variable, k_region, k_edge, k_arm, k_argument, k_goal}
use Rattle.records.specs.Sizes.{digit_end, kinds_end}
use Rattle.records.specs.Table.{digit, pack, table_of, uses}

-- every row has seven words
pub seven : (k : Kind) → length (uses (row k)) ≡ 7
unfolding uses row row_in padded
seven k_none = refl
seven k_header = refl
seven k_type = refl
seven k_functor = refl
seven k_procedure = refl
seven k_variable = refl
seven k_region = refl
seven k_edge = refl
seven k_arm = refl
seven k_argument = refl
seven (k_goal k_literal) = refl
seven (k_goal k_sum) = refl
seven (k_goal k_assign) = refl
seven (k_goal k_construct) = refl
seven (k_goal k_switch) = refl
seven (k_goal k_if) = refl
seven (k_goal k_call) = refl
seven (k_goal k_print) = refl
seven (k_goal k_create) = refl
seven (k_goal k_remove) = refl
seven (k_goal k_try) = refl
seven (k_goal k_test) = refl

code_low : (c : Chain) → code c < 14
unfolding code
code_low nowhere = omega arith
code_low types = omega arith
code_low functors = omega arith
code_low procedures = omega arith
code_low variables = omega arith
code_low regions = omega arith
code_low edges = omega arith
code_low goals = omega arith
code_low arms = omega arith
code_low arguments = omega arith

digit_low : (u : Use) → digit u < digit_end
unfolding digit
digit_low number = omega arith
digit_low unused = omega arith
digit_low (first c) = omega (arith, code_low c)

pub pack_first : (u : Use) (us : List Use) → pack (u ∷ us) % digit_end ≡ digit u
unfolding pack
pack_first u us = omega (arith, digit_low u)

pub pack_rest : (u : Use) (us : List Use) → pack (u ∷ us) / digit_end ≡ pack us
unfolding pack
pack_rest u us = omega (arith, digit_low u)

-- ---- a table by the kinds' numbers
module _ (f : Kind → ℕ) where
  at_kind : (ks : List Kind) (n : ℕ) → n < length ks → get_or (map f ks) n 0 ≡ f (nth k_none ks n)
  unfolding nth
  at_kind [] n h = absurd (omega arith)
  at_kind (k ∷ ks) zero h = refl
  at_kind (k ∷ ks) (suc n) h = at_kind ks n (omega arith)

  pub table_at : (n : ℕ) → n < kinds_end → get_or (table_of f) n 0 ≡ f (kind_of n)
  unfolding table_of kind_of kinds
  table_at n h = at_kind kinds n h

nth_past : {A : Type 0} (d : A) (xs : List A) (n : ℕ) → length xs ≤ n → nth d xs n ≡ d
unfolding nth
nth_past d [] n h = refl
nth_past d (x ∷ xs) zero h = absurd (omega arith)
nth_past d (x ∷ xs) (suc n) h = nth_past d xs n (omega arith)

-- a number past the kinds' is no kind
pub kind_high : (n : ℕ) → kinds_end ≤ n → kind_of n ≡ k_none
unfolding kind_of kinds
kind_high n h = nth_past k_none kinds n h

pub table_past : (f : Kind → ℕ) (n : ℕ) → kinds_end ≤ n → get_or (table_of f) 0 0 ≡ f (kind_of n)
unfolding table_of kinds
table_past f n h = ap f (sym (kind_high n h))
