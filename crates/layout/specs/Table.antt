-- Laws of the record table: a kind and its number, a kind and the chain that it stands in, six words after w1.
use Rattle.std.specs.Prelude.{ℕ, zero, suc, ◌+◌, ◌≡◌, refl, List, [], ◌∷◌, true, ◌⊎◌, length}
use Rattle.std.proofs.Common.{arith, sym, ap, ◌∙◌, inl, inr, eqb-true, eq-eqb}
use Rattle.language.specs.Lists.{nth}
use Rattle.language.specs.File.{k_literal, k_sum, k_assign, k_construct, k_switch, k_if, k_call, k_print, k_create, k_remove, k_try, k_test, Kind, k_none, k_header, k_type, k_functor, k_procedure, k_variable, k_region, k_edge, k_arm, k_argument, k_goal, Chain, nowhere, types, functors, procedures, variables, regions, edges, goals, arms, arguments, padded, row_in, row, kinds, kind_of, code, stands_in}

unfoldable pub all_rows : Unit {0}
unfolding row row_in padded
all_rows = tt

-- a kind's number stands for it
pub kind_number : (k : Kind) → kind_of (row k).kind ≡ k
unfolding kind_of kinds nth all_rows
kind_number k_none = refl
kind_number k_header = refl
kind_number k_type = refl
kind_number k_functor = refl
kind_number k_procedure = refl
kind_number k_variable = refl
kind_number k_region = refl
kind_number k_edge = refl
kind_number k_arm = refl
kind_number k_argument = refl
kind_number (k_goal k_literal) = refl
kind_number (k_goal k_sum) = refl
kind_number (k_goal k_assign) = refl
kind_number (k_goal k_construct) = refl
kind_number (k_goal k_switch) = refl
kind_number (k_goal k_if) = refl
kind_number (k_goal k_call) = refl
kind_number (k_goal k_print) = refl
kind_number (k_goal k_create) = refl
kind_number (k_goal k_remove) = refl
kind_number (k_goal k_try) = refl
kind_number (k_goal k_test) = refl

-- a word that is a kind's number stands for that kind
pub number_is : (k : Kind) (w : ℕ) → w ≡ (row k).kind → kind_of w ≡ k
number_is k w e = ap kind_of e ∙ kind_number k

-- kinds listed by their numbers, from b on
abbrev Numbered : ℕ → List Kind → Type 0
Numbered b [] = Unit {0}
Numbered b (k ∷ ks) = ((row k).kind ≡ b) × Numbered (suc b) ks

listed : (ks : List Kind) (b n : ℕ) → Numbered b ks → (nth k_none ks n ≡ k_none) ⊎ ((row (nth k_none ks n)).kind ≡ b + n)
unfolding nth
listed [] b n h = inl refl
listed (k ∷ ks) b zero h = inr (h.0 ∙ omega arith)
listed (k ∷ ks) b (suc n) h = elim (listed ks (suc b) n h.1) [ inl e ↦ inl e | inr e ↦ inr (e ∙ omega arith) ]

numbered : Numbered 0 kinds
unfolding kinds all_rows
numbered =
    (refl, (refl, (refl, (refl, (refl, (refl, (refl, (refl, (refl, (refl, (refl, (refl, (refl, (refl, (refl, (refl, (refl, (refl, (refl, (refl, (refl, (refl, tt))))))))))))))))))))))

-- a number that stands for a kind is that kind's
pub number_kind : (n : ℕ) → (kind_of n ≡ k_none) ⊎ (n ≡ (row (kind_of n)).kind)
unfolding kind_of
number_kind n = elim (listed kinds 0 n numbered) [ inl e ↦ inl e | inr e ↦ inr (omega (arith, e)) ]

chain_of_code : ℕ → Chain
chain_of_code n = nth nowhere (nowhere ∷ types ∷ functors ∷ procedures ∷ variables ∷ regions ∷ edges ∷ goals ∷ arms ∷ arguments ∷ []) n

chain_code : (c : Chain) → chain_of_code (code c) ≡ c
unfolding chain_of_code nth code
chain_code nowhere = refl
chain_code types = refl
chain_code functors = refl
chain_code procedures = refl
chain_code variables = refl
chain_code regions = refl
chain_code edges = refl
chain_code goals = refl
chain_code arms = refl
chain_code arguments = refl

-- the test "stands in" says that the chain is the kind's
pub stands_chain : (c : Chain) (k : Kind) → stands_in c k ≡ true → (row k).chain ≡ c
unfolding stands_in
stands_chain c k e = sym (chain_code (row k).chain) ∙ ap chain_of_code (eqb-true _ _ e) ∙ chain_code c

pub chain_stands : (c : Chain) (k : Kind) → (row k).chain ≡ c → stands_in c k ≡ true
unfolding stands_in
chain_stands c k e = eq-eqb _ _ (ap code e)

pub row_length : (k : Kind) → length (row k).words ≡ 6
unfolding all_rows
row_length k_none = refl
row_length k_header = refl
row_length k_type = refl
row_length k_functor = refl
row_length k_procedure = refl
row_length k_variable = refl
row_length k_region = refl
row_length k_edge = refl
row_length k_arm = refl
row_length k_argument = refl
row_length (k_goal k_literal) = refl
row_length (k_goal k_sum) = refl
row_length (k_goal k_assign) = refl
row_length (k_goal k_construct) = refl
row_length (k_goal k_switch) = refl
row_length (k_goal k_if) = refl
row_length (k_goal k_call) = refl
row_length (k_goal k_print) = refl
row_length (k_goal k_create) = refl
row_length (k_goal k_remove) = refl
row_length (k_goal k_try) = refl
row_length (k_goal k_test) = refl
