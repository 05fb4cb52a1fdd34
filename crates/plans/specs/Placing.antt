-- What the arguments of calls match: stores in the second and third sort of the plan.
use Prim.Native.Nat.{ℕ, zero, suc, ◌+◌, ◌<◌}
use Rattle.std.proofs.Common.{arith, ◌∙◌, eqb-true, length-set}
use Rattle.std.specs.Prelude.{Bool, List, [], ◌∷◌, ◌≡◌, length, get_or, set}
use Rattle.std.proofs.Math.Bool.{true, false}
use Rattle.std.proofs.Math.Path.{refl, ap}
use Rattle.language.specs.Lists.{choose}
use Rattle.language.specs.File.{arguments, word}
use Rattle.language.specs.Format.{next_word, max_records, call_arguments, call_kind}
use Rattle.language.specs.Program.{Parameter, parameters_of}
use Rattle.chains.specs.Layout.{real}
use Rattle.chains.specs.Formed.{Formed, Stands, counted}
use Rattle.chains.specs.Shapes.{to_arguments}
use Rattle.chains.specs.Records.{chain_records, records_none, records_step, along}
use Rattle.word_machine.specs.Filling.{matched, matched_at, matches}
use Rattle.plans.specs.Passes.{slots_from, modes_from, is_kind, callee_of, each_from, placed, placed_at, placing}
use Rattle.plans.specs.Parts.{part, part_here, part_before, part_behind, part_read}

-- each number of a list has a place in a sort
abbrev pub AllRecords : List ℕ → Type 0
AllRecords [] = Unit {0}
AllRecords (j ∷ js) = (j < max_records) × AllRecords js

pub first_read : (t : List ℕ) (p : ℕ) → p < max_records → get_or (part 0 t) p 0 ≡ get_or t p 0
first_read t p l = let e : 0 + p ≡ p = omega arith in part_read 0 t p l ∙ ap (λ (q : ℕ). get_or t q 0) e

-- ---- what arguments match: stores in the second and the third
placed_slots : (ps : List Parameter) (js t : List ℕ) → AllRecords js → part slots_from (placed ps js t) ≡ matched (λ a. a.variable) ps js (part slots_from t)
unfolding placed matched
placed_slots [] js t h = refl
placed_slots (a ∷ ps) [] t h = refl
placed_slots (a ∷ ps) (j ∷ js) t h =
    placed_slots ps js (set (set t (slots_from + j) a.variable) (modes_from + j) a.mode) h.1
    ∙ ap (matched (λ b. b.variable) ps js)
    (part_behind slots_from (set t (slots_from + j) a.variable) (modes_from + j) a.mode (omega arith) ∙ part_here slots_from t j a.variable h.0)

placed_modes : (ps : List Parameter) (js t : List ℕ) → AllRecords js → part modes_from (placed ps js t) ≡ matched (λ a. a.mode) ps js (part modes_from t)
unfolding placed matched
placed_modes [] js t h = refl
placed_modes (a ∷ ps) [] t h = refl
placed_modes (a ∷ ps) (j ∷ js) t h =
    placed_modes ps js (set (set t (slots_from + j) a.variable) (modes_from + j) a.mode) h.1
    ∙ ap (matched (λ b. b.mode) ps js)
    (part_here modes_from (set t (slots_from + j) a.variable) j a.mode h.0
    ∙ ap (λ (x : List ℕ). set x j a.mode) (part_before modes_from t (slots_from + j) a.variable (omega (arith, h.0))))

placed_first : (ps : List Parameter) (js t : List ℕ) → part 0 (placed ps js t) ≡ part 0 t
unfolding placed
placed_first [] js t = refl
placed_first (a ∷ ps) [] t = refl
placed_first (a ∷ ps) (j ∷ js) t =
    placed_first ps js (set (set t (slots_from + j) a.variable) (modes_from + j) a.mode)
    ∙ part_behind 0 (set t (slots_from + j) a.variable) (modes_from + j) a.mode (omega arith) ∙ part_behind 0 t (slots_from + j) a.variable (omega arith)

placed_length : (ps : List Parameter) (js t : List ℕ) → length (placed ps js t) ≡ length t
unfolding placed
placed_length [] js t = refl
placed_length (a ∷ ps) [] t = refl
placed_length (a ∷ ps) (j ∷ js) t =
    placed_length ps js (set (set t (slots_from + j) a.variable) (modes_from + j) a.mode)
    ∙ length-set (set t (slots_from + j) a.variable) (modes_from + j) a.mode ∙ length-set t (slots_from + j) a.variable

module _ {f : List ℕ} (F : Formed f) where
  pub arguments_records : (a : ℕ) → Stands f arguments a → AllRecords (chain_records f a)
  unfolding real
  arguments_records =
      along F arguments refl (λ a. AllRecords (chain_records f a)) (rw (records_none f {i = 0} refl) tt)
      (λ i s z h. let c = counted F in rw (records_step {w = word f i next_word} F z s.below refl) (omega (arith, s.below), h))

  module _ (s : ℕ) (g : Parameter → ℕ) (one : (ps : List Parameter) (js t : List ℕ) → AllRecords js → part s (placed ps js t) ≡ matched g ps js (part s t)) where
    by_test : (i : ℕ) (t : List ℕ) (b : Bool) → is_kind f call_kind i ≡ b
        → part s (choose b (placed (parameters_of (callee_of f i)) (chain_records f (word f i call_arguments)) t) t)
        ≡ choose b (matched g (parameters_of (callee_of f i)) (chain_records f (word f i call_arguments)) (part s t)) (part s t)
    unfolding is_kind choose
    by_test i t true e = one (parameters_of (callee_of f i)) (chain_records f (word f i call_arguments)) t (arguments_records _ (to_arguments F (eqb-true _ _ e) refl).stands)
    by_test i t false e = refl

    step_part : (i : ℕ) (t : List ℕ) → part s (placed_at f i t) ≡ matched_at f g i (part s t)
    unfolding placed_at matched_at is_kind
    step_part i t = by_test i t (is_kind f call_kind i) refl

    placing_part : (m b : ℕ) (t : List ℕ) → part s (placing f m b t) ≡ matches f g m b (part s t)
    unfolding placing each_from matches
    placing_part zero b t = refl
    placing_part (suc m) b t = placing_part m (suc b) (placed_at f b t) ∙ ap (matches f g m (suc b)) (step_part b t)

  pub placing_slots : (m b : ℕ) (t : List ℕ) → part slots_from (placing f m b t) ≡ matches f (λ a. a.variable) m b (part slots_from t)
  placing_slots = placing_part slots_from (λ a. a.variable) placed_slots

  pub placing_modes : (m b : ℕ) (t : List ℕ) → part modes_from (placing f m b t) ≡ matches f (λ a. a.mode) m b (part modes_from t)
  placing_modes = placing_part modes_from (λ a. a.mode) placed_modes

module _ (f : List ℕ) where
  first_by_law : (i : ℕ) (t : List ℕ) (b : Bool) → part 0 (choose b (placed (parameters_of (callee_of f i)) (chain_records f (word f i call_arguments)) t) t) ≡ part 0 t
  unfolding choose
  first_by_law i t true = placed_first (parameters_of (callee_of f i)) (chain_records f (word f i call_arguments)) t
  first_by_law i t false = refl

  step_first : (i : ℕ) (t : List ℕ) → part 0 (placed_at f i t) ≡ part 0 t
  unfolding placed_at
  step_first i t = first_by_law i t (is_kind f call_kind i)

  pub placing_first : (m b : ℕ) (t : List ℕ) → part 0 (placing f m b t) ≡ part 0 t
  unfolding placing each_from
  placing_first zero b t = refl
  placing_first (suc m) b t = placing_first m (suc b) (placed_at f b t) ∙ step_first b t

  length_by : (i : ℕ) (t : List ℕ) (b : Bool)
      → length (choose b (placed (parameters_of (callee_of f i)) (chain_records f (word f i call_arguments)) t) t) ≡ length t
  unfolding choose
  length_by i t true = placed_length (parameters_of (callee_of f i)) (chain_records f (word f i call_arguments)) t
  length_by i t false = refl

  step_length : (i : ℕ) (t : List ℕ) → length (placed_at f i t) ≡ length t
  unfolding placed_at
  step_length i t = length_by i t (is_kind f call_kind i)

  pub placing_length : (m b : ℕ) (t : List ℕ) → length (placing f m b t) ≡ length t
  unfolding placing each_from
  placing_length zero b t = refl
  placing_length (suc m) b t = placing_length m (suc b) (placed_at f b t) ∙ step_length b t
