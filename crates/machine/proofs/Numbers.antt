-- The numbers of variables and regions that a file's goals have are those of words of a frame, by the kind that the code has read.
use Prim.Native.Nat.{ℕ, zero, suc, ◌+◌, ◌≤◌}
use native.Mathlib.Omega.{arith}
use mathlib.Core.Path.{◌≡◌, refl}
use mathlib.Core.Bool.{Bool, true, false}
use mathlib.Core.List.{List}
use lib.Dec.{eqb}
use lib.ListN.{get_or}
use Rattle.language.specs.Lists.{choose}
use Rattle.language.specs.File.{arms, word}
use Rattle.language.specs.Format.{next_word, term_functor, max_variables, max_regions, kind_word, literal_kind, sum_kind, assign_kind, construct_kind, switch_kind, if_kind, print_kind, create_kind, remove_kind, test_kind, goal_x, sum_y, sum_z, assign_y, if_y, if_z, print_y, test_y, test_z, lifetime_region, term_arguments}
use Rattle.chains.specs.Formed.{Formed, Stands, stands_none}
use Rattle.chains.specs.Is.{arm_is, chain_next}
use Rattle.chains.specs.Records.{chain_records, climb, records_none, records_step}
use Rattle.plans.specs.Plan.{Numbered, sides_from}
use Rattle.word_machine.specs.Machine.{arm_of}
use Rattle.machine.specs.GoalWords.{Low, LowIfAny}
use Rattle.machine.specs.Steps.{construct_record, create_record, remove_record}
use Rattle.machine.proofs.StepsLaws.{literal_record, sum_record, assign_record, switch_record, if_record, print_record, test_record}

each : (f : List ℕ) (i : ℕ) → word f i term_arguments ≤ max_variables → word f i (term_arguments + 1) ≤ max_variables → word f i (term_arguments + 2) ≤ max_variables
    → word f i (term_arguments + 3) ≤ max_variables → Low f i
each f i a b c d zero l = a
each f i a b c d (suc zero) l = b
each f i a b c d (suc (suc zero)) l = c
each f i a b c d (suc (suc (suc zero))) l = d
each f i a b c d (suc (suc (suc (suc n)))) l = absurd (omega arith)

module _ {f plan : List ℕ} (N : Numbered f plan) (i : ℕ) {w : ℕ} (e : w ≡ word f i kind_word) where
  pub literal_low : w ≡ literal_kind → word f i goal_x ≤ max_variables
  literal_low k = N.literal i _ _ _ (literal_record f i w e k)

  pub sum_low : w ≡ sum_kind → (word f i goal_x ≤ max_variables) × (word f i sum_y ≤ max_variables) × (word f i sum_z ≤ max_variables)
  sum_low k = N.sum i _ _ _ _ _ (sum_record f i w e k)

  pub assign_low : w ≡ assign_kind → (word f i goal_x ≤ max_variables) × (word f i assign_y ≤ max_variables)
  assign_low k = N.assign i _ _ _ (assign_record f i w e k)

  pub construct_low : w ≡ construct_kind → (word f i goal_x ≤ max_variables) × Low f i × (get_or plan (sides_from + i) 0 ≤ max_regions)
  construct_low k =
      let g = N.construct i _ _ _ _ _ _ _ (construct_record f i w e k) in
      (g.0, each f i g.1 g.2 g.3 g.4, N.home i _ _ _ _ _ _ _ (construct_record f i w e k))

  pub switch_low : w ≡ switch_kind → word f i goal_x ≤ max_variables
  switch_low k = N.switch i _ _ _ (switch_record f i w e k)

  pub if_low : w ≡ if_kind → (word f i if_y ≤ max_variables) × (word f i if_z ≤ max_variables)
  if_low k = N.less i _ _ _ _ _ (if_record f i w e k)

  pub test_low : w ≡ test_kind → (word f i test_y ≤ max_variables) × (word f i test_z ≤ max_variables)
  test_low k = N.test i _ _ _ (test_record f i w e k)

  pub print_low : w ≡ print_kind → word f i print_y ≤ max_variables
  print_low k = N.print i _ _ (print_record f i w e k)

  pub create_low : w ≡ create_kind → word f i lifetime_region ≤ max_regions
  create_low k = N.create i _ _ (create_record f i w e k)

  pub remove_low : w ≡ remove_kind → word f i lifetime_region ≤ max_regions
  remove_low k = N.remove i _ _ (remove_record f i w e k)

-- ---- arms
module _ {f plan : List ℕ} (N : Numbered f plan) where
  pub arm_low : (j : ℕ) → Stands f arms j → LowIfAny f j
  arm_low zero s n = absurd (n N.none)
  arm_low (suc j) s n =
      let g = N.arm (suc j) _ _ _ _ _ _ _ (arm_is s (λ z. omega arith)) in
      each f (suc j) g.0 g.1 g.2 g.3

-- the arm of a functor stands in its chain
pub arm_stands : {f : List ℕ} → Formed f → (k i : ℕ) → Stands f arms i → Stands f arms (arm_of f k (chain_records f i))
unfolding arm_of choose
arm_stands {f} F k i s =
    climb F (λ j. Stands f arms j → Stands f arms (arm_of f k (chain_records f j))) (λ t. start)
    (λ j z q h t. rw (records_step {w = word f j next_word} F z q refl) (go j t (h (chain_next {w = word f j next_word} F t z refl).stands) (eqb (word f j term_functor) k))) i s.below s
  where
    start : Stands f arms (arm_of f k (chain_records f 0))
    start = rw (records_none f {i = 0} refl) (stands_none F refl)

    go : (i : ℕ) → Stands f arms i → Stands f arms (arm_of f k (chain_records f (word f i next_word))) → (b : Bool)
        → Stands f arms (choose b i (arm_of f k (chain_records f (word f i next_word))))
    go i s h true = s
    go i s h false = h
