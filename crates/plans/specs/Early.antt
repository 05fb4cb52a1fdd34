-- What stands in the plan before the links: where chains go on, and what arguments match.
use Rattle.std.specs.Prelude.{ℕ, zero, suc, ◌+◌, ◌-◌, ◌≤◌, ◌<◌, Bool, ◌≡◌, eqb, length, set, replicate}
use Rattle.std.proofs.Common.{arith, ap, ◌∙◌, leb-true}
use Rattle.std.proofs.Math.Bool.{true, false}
use mathlib.Core.List.{List, [], ◌∷◌}
use Rattle.std.proofs.Math.Path.{refl}
use Rattle.std.proofs.lemmas.List.{length-replicate}
use Rattle.sets.specs.Tests.{and_true}
use Rattle.sets.specs.Members.{in_list, cons_here, cons_later}
use Rattle.language.specs.Lists.{choose, all}
use Rattle.language.specs.File.{word, record_count}
use Rattle.language.specs.Format.{max_variables, max_regions, places, max_records, next_word, procedure_kind, call_arguments, argument_variable, call_kind}
use Rattle.language.specs.Program.{Functor, Variable, Parameter, Signature, parameter_in, parameters_from, parameters_of}
use Rattle.language.specs.Typing.{variable_ok, signature_ok, typing_ok}
use Rattle.language.specs.Answers.{program}
use Rattle.region_graph.specs.Typed.{variables_few, signature_typed}
use Rattle.chains.specs.Formed.{Formed, counted}
use Rattle.chains.specs.Parts.{call_at}
use Rattle.chains.specs.Records.{chain_records}
use Rattle.owners.specs.Handed.{reference_words, next_and, words_of, handed}
use Rattle.owners.specs.Handing.{handed_length, word_below, handed_keeps}
use Rattle.word_machine.specs.Tables.{onto}
use Rattle.word_machine.specs.Filling.{parts_onward, onward_by}
use Rattle.word_machine.specs.Arguments.{given_small}
use Rattle.plans.specs.Plan.{ins_from, outs_from, sides_from, plan_words, image_bytes}
use Rattle.plans.specs.Passes.{slots_from, modes_from, is_kind, callee_of, placed, placed_at, placing}
use Rattle.plans.specs.Kept.{Every, set_keeps, zeros_every, each_keeps}
use Rattle.plans.specs.Placing.{AllRecords, arguments_records, placing_length}
use Rattle.plans.specs.Turns.{call_record}
use Rattle.plans.specs.Links.{Joinable, small_ok}

-- the word v at place p of the plan leads to a record, or to images
pub record LeadsOn (p v : ℕ) : Type 0 where
  pub goal : p < ins_from → v < max_records
  pub side : sides_from ≤ p → v + max_regions < image_bytes

-- .. and what an argument matches is a number of a variable; if it matches anything, so is what it gives
pub record Early (f : List ℕ) (p v : ℕ) : Type 0 where
  pub reaches : LeadsOn p v
  pub small : ins_from ≤ p → v ≤ max_variables
  pub given : (a : ℕ) → p ≡ modes_from + a → (v ≡ 0 → ⊥) → word f a argument_variable ≤ max_variables

module _ (f : List ℕ) where
  early_zero : (p : ℕ) → Early f p 0
  early_zero p = record { reaches = record { goal = λ l. omega arith; side = λ l. omega arith }; small = λ l. omega arith; given = λ a e n. absurd (n refl) }

  early_goal : (p v : ℕ) → p < max_records → v < max_records → Early f p v
  early_goal p v l h = record {
    reaches = record { goal = λ k. h; side = λ k. absurd (omega arith) };
    small = λ k. absurd (omega arith);
    given = λ a e n. absurd (omega arith);
  }

  early_slot : (j v : ℕ) → j < max_records → v ≤ max_variables → Early f (slots_from + j) v
  early_slot j v l h = record {
    reaches = record { goal = λ k. absurd (omega arith); side = λ k. absurd (omega arith) };
    small = λ k. h;
    given = λ a e n. absurd (omega arith);
  }

  early_mode : (j v : ℕ) → j < max_records → v ≤ max_variables → word f j argument_variable ≤ max_variables → Early f (modes_from + j) v
  early_mode j v l h g = record {
    reaches = record { goal = λ k. absurd (omega arith); side = λ k. absurd (omega arith) };
    small = λ k. h;
    given = λ a e n. (let z : j ≡ a = omega arith in rw z at g);
  }

-- ---- where chains go on
pub onto_few : (n v : ℕ) → n < max_records → v < max_records → onto n v < max_records
unfolding onto
onto_few zero v k h = h
onto_few (suc n) v k h = k

choose_few : (b : Bool) (x y : ℕ) → x < max_records → y < max_records → choose b x y < max_records
unfolding choose
choose_few true x y p q = p
choose_few false x y p q = q

given_few : (kind n v k : ℕ) → n < max_records → v < max_records → next_and v (parts_onward kind n v) k < max_records
unfolding next_and parts_onward
given_few kind n v k l h = choose_few (eqb k next_word) v _ h (choose_few (eqb kind procedure_kind) 0 _ (omega arith) (choose_few _ (onto n v) v (onto_few n v l h) h))

-- ---- a procedure's in and out variables: numbers and modes
abbrev Small : List Parameter → Type 0
Small [] = Unit {0}
Small (a ∷ ps) = (a.variable ≤ max_variables) × (a.mode ≤ max_variables) × Small ps

small_in : (m k : ℕ) (ps : List Parameter) → m ≤ max_variables → k ≤ max_variables → Small ps → Small (parameter_in m k ps)
unfolding parameter_in
small_in zero k ps l h s = s
small_in (suc m) k ps l h s = (h, l, s)

small_from : (T : List (List Functor)) (S : Signature) (k : ℕ) (vs : List Variable) → k + length vs ≤ places → all (variable_ok T S) vs ≡ true → Small (parameters_from k vs)
unfolding parameters_from all variable_ok
small_from T S k [] l e = tt
small_from T S k (v ∷ vs) l e =
    let a = and_true e in
    small_in v.mode k (parameters_from (suc k) vs) (omega (arith, leb-true v.mode 2 (and_true a.0).0)) (omega arith)
    (small_from T S (suc k) vs (omega arith) a.1)

small_all : (T : List (List Functor)) (S : Signature) → signature_ok T S ≡ true → Small (parameters_of S)
unfolding parameters_of signature_ok
small_all T S ok = small_from T S 1 S.variables (omega (arith, variables_few T S ok)) (and_true (and_true (and_true ok).1).1).0

-- ---- what arguments match
module _ {f : List ℕ} (F : Formed f) (ok : typing_ok (program f) ≡ true) where
  placed_keeps : (ps : List Parameter) (js t : List ℕ) → Small ps → AllRecords js → ((a : ℕ) → in_list a js ≡ true → word f a argument_variable ≤ max_variables)
      → Every (Early f) t → Every (Early f) (placed ps js t)
  unfolding placed
  placed_keeps [] js t s r g h = h
  placed_keeps (a ∷ ps) [] t s r g h = h
  placed_keeps (a ∷ ps) (j ∷ js) t s r g h =
      placed_keeps ps js (set (set t (slots_from + j) a.variable) (modes_from + j) a.mode) s.2 r.1 (λ b i. g b (cons_later b j js i))
      (set_keeps (Early f) (set t (slots_from + j) a.variable) (modes_from + j) a.mode
      (early_mode f j a.mode r.0 s.1 (g j (cons_here j j js refl)))
      (set_keeps (Early f) t (slots_from + j) a.variable (early_slot f j a.variable r.0 s.0) h))

  placed_here : (i : ℕ) (t : List ℕ) → Every (Early f) t → Every (Early f) (placed_at f i t)
  unfolding placed_at choose
  placed_here i t h = go (is_kind f call_kind i) refl
    where
      go : (b : Bool) → is_kind f call_kind i ≡ b → Every (Early f) (choose b (placed (parameters_of (callee_of f i)) (chain_records f (word f i call_arguments)) t) t)
      go true e =
          placed_keeps (parameters_of (callee_of f i)) (chain_records f (word f i call_arguments)) t
          (small_all (program f).types (callee_of f i) (signature_typed (program f) ok _))
          (arguments_records F _ (call_at F refl (call_record f i e)).to_arguments.stands)
          (given_small F ok i _ _ _ (call_record f i e)) h
      go false e = h

next_word_law : (f : List ℕ) (m : ℕ) → in_list next_word (words_of f m) ≡ true
unfolding words_of reference_words
next_word_law f m = cons_here next_word next_word _ refl

-- the plan has a place for every record
pub plan_fits : {f t : List ℕ} → Formed f → t ≡ replicate plan_words 0 → record_count f ≤ length t
plan_fits F e = omega (arith, (counted F).most, ap length e, length-replicate {A = ℕ} plan_words 0)

-- ---- the first two passes over the plan, which has zeros before
module _ {f : List ℕ} (F : Formed f) where
  module _ (ok : typing_ok (program f) ≡ true) (t : List ℕ) (zeros : t ≡ replicate plan_words 0) where
    abbrev n : ℕ
    n = record_count f - 1

    abbrev pub matched_plan : List ℕ
    matched_plan = placing f n 1 (handed (onward_by f) f t)

    early_filled : Every (Early f) (handed (onward_by f) f t)
    unfolding onward_by
    early_filled =
        let c = (counted F).most in
        handed_keeps F (onward_by f) (λ m. Early f) (λ m p v h. h)
        (λ m q v h k i. early_goal f (word f m k) _ (omega (arith, word_below F m q k i))
        (choose_few _ 0 _ (omega arith) (given_few _ (word f m next_word) v k (omega (arith, word_below F m q next_word (next_word_law f m))) (h.reaches.goal (omega arith)))))
        t (early_zero f 0) (zeros_every (Early f) (early_zero f) plan_words zeros)

    pub early_matched : Every (Early f) matched_plan
    unfolding placing
    early_matched = each_keeps (Early f) (placed_at f) n 1 (λ i l u v h. placed_here F ok i v h) (handed (onward_by f) f t) early_filled

    pub matched_joinable : Joinable f (record_count f) matched_plan
    matched_joinable = record {
      long = placing_length f n 1 (handed (onward_by f) f t) ∙ handed_length (onward_by f) f t ∙ ap length zeros ∙ length-replicate {A = ℕ} plan_words 0;
      most = (counted F).most;
      slots = λ a l. (early_matched (slots_from + a)).small (omega arith);
      modes = λ a l. (early_matched (modes_from + a)).small (omega arith);
      givens = λ a l z. (early_matched (modes_from + a)).given a refl z;
      ins = λ a l h. small_ok _ ((early_matched (ins_from + a)).small (omega arith));
      outs = λ a l h. small_ok _ ((early_matched (outs_from + a)).small (omega arith));
    }
