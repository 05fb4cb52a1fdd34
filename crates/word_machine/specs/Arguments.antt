-- The records of a call's arguments, of which number 3 says that they are as many as the callee's in and out variables, and variables of the
-- caller: what tables pass that have a word for each.
use Rattle.std.specs.Prelude.{ℕ, suc, ◌≤◌, ◌≡◌, true, List, [], ◌∷◌, map}
use Rattle.std.proofs.Common.{arith, ◌∙◌, inl, inr}
use Rattle.std.proofs.Math.Path.{refl, sym, ap}
use Rattle.std.proofs.Math.ListN.{length}
use Rattle.std.proofs.lemmas.List.{length-map}
use Rattle.sets.specs.Tests.{and_true}
use Rattle.sets.specs.Members.{in_list, cons_in, cons_here, cons_later, nil_in}
use Rattle.language.specs.File.{k_call, word}
use Rattle.language.specs.Program.{Parameter, Signature, call, signature_of, parameters_of, parameter_variables, arguments_in, variables_in}
use Rattle.language.specs.Typing.{types_of, parameter_types, step_ok, goal_ok, typing_ok}
use Rattle.language.specs.Answers.{program}
use Rattle.language.specs.Format.{argument_variable, max_variables}
use Rattle.laws.specs.Lists.{image_listed}
use Rattle.region_graph.specs.Typed.{variable_small, variables_few, signature_typed}
use Rattle.region_graph.specs.Parameters.{parameter_variable}
use Rattle.records.specs.Records.{record_at}
use Rattle.records.specs.declared.Record.TheVariants.{Call}
use Rattle.chains.specs.Formed.{Formed, arguments_at}
use Rattle.chains.specs.Fields.{field_of, field_some}
use Rattle.chains.specs.Records.{chain_records, Somes, records_some}
use Rattle.chains.specs.Elements.{arguments_map}
use Rattle.chains.specs.Kinds.{kind_in}
use Rattle.chains.specs.Parts.{call_at}
use Rattle.owners.specs.Owner.{owner_of}
use Rattle.safety.specs.Variables.{types_variables, types_length}
use Rattle.word_machine.specs.Tables.{slot_of, given_of}
use Rattle.word_machine.specs.Passing.{packed, packed_slot, packed_given, of_mode, Matches, passed_slots, passed_givens}
use Rattle.word_machine.specs.Typed.{typed_record}

parameter_count : (S : Signature) (ps : List Parameter) → length (types_of S (parameter_variables ps)) ≡ length ps
unfolding types_of parameter_variables
parameter_count S [] = refl
parameter_count S (a ∷ ps) = ap suc (parameter_count S ps)

-- records of a chain are there
fields_words : (f : List ℕ) (k : ℕ) (js : List ℕ) → Somes js → map (λ j. field_of f j k) js ≡ map (λ j. word f j k) js
fields_words f k [] s = refl
fields_words f k (j ∷ js) s =
    ap (λ n. n ∷ map (λ i. field_of f i k) js) (sym (field_some f j k (λ z. omega (arith, s.0)))) ∙ ap (λ xs. word f j k ∷ xs) (fields_words f k js s.1)

-- each slot is one of the callee's in and out variables
slots_in : (slot mode : ℕ → ℕ) (ps : List Parameter) (as' : List ℕ) → length as' ≡ length ps → Matches slot mode ps as'
    → (a : ℕ) → in_list a as' ≡ true → in_list (slot a) (parameter_variables ps) ≡ true
unfolding parameter_variables
slots_in slot mode ps [] e M a i = absurd (nil_in a i)
slots_in slot mode [] (b ∷ as') e M a i = absurd (omega arith)
slots_in slot mode (p ∷ ps) (b ∷ as') e M a i = elim (cons_in a b as' i) [
  | inl z ↦ cons_here (slot a) p.variable (parameter_variables ps) (sym M.0 ∙ ap slot z)
  | inr h ↦ cons_later (slot a) p.variable (parameter_variables ps) (slots_in slot mode ps as' (omega arith) M.2 a h)
]

module _ {f : List ℕ} (F : Formed f) (ok : typing_ok (program f) ≡ true) (i n q ys : ℕ) (e : record_at f i ≡ Call n q ys) where
  abbrev caller : Signature
  caller = signature_of (program f) (owner_of f i)

  abbrev callee : Signature
  callee = signature_of (program f) q

  call_typed : step_ok (program f) caller (call q (arguments_at f ys)) ≡ true
  unfolding goal_ok
  call_typed = let c = call_at F refl e in rw c.goal at (typed_record F ok i c.some c.below k_call (ap kind_in e))

  -- the caller's variables, by the records
  given_words : arguments_at f ys ≡ map (λ a. word f a argument_variable) (chain_records f ys)
  given_words = arguments_map F ys (call_at F refl e).to_arguments.stands ∙ fields_words f 2 (chain_records f ys) (records_some f ys)

  as_many : length (chain_records f ys) ≡ length (parameters_of callee)
  unfolding step_ok parameter_types
  as_many =
      sym (length-map (chain_records f ys) (λ a. word f a argument_variable)) ∙ ap length (sym given_words)
      ∙ types_length caller (parameter_types callee) (arguments_at f ys) (and_true call_typed).1 ∙ parameter_count callee (parameters_of callee)

  pub given_small : (a : ℕ) → in_list a (chain_records f ys) ≡ true → word f a argument_variable ≤ max_variables
  unfolding step_ok
  given_small a h =
      (variable_small caller (variables_few (program f).types caller (signature_typed (program f) ok (owner_of f i))) (word f a argument_variable)
      (types_variables caller (parameter_types callee) (arguments_at f ys) (and_true call_typed).1 (word f a argument_variable)
      (rw given_words (image_listed (λ b. word f b argument_variable) (chain_records f ys) a h)))).1

  module _ (slot mode : ℕ → ℕ) (M : Matches slot mode (parameters_of callee) (chain_records f ys)) where
    pub slot_small : (a : ℕ) → in_list a (chain_records f ys) ≡ true → (1 ≤ slot a) × (slot a ≤ max_variables)
    slot_small a h =
        variable_small callee (variables_few (program f).types callee (signature_typed (program f) ok q)) (slot a)
        (parameter_variable callee (slot a) (slots_in slot mode (parameters_of callee) (chain_records f ys) as_many M a h))

    -- THE LAW: the words of the arguments of one mode
    module _ (link more : ℕ → ℕ) (says : (a : ℕ) → in_list a (chain_records f ys) ≡ true → link a ≡ packed (slot a) (word f a argument_variable) (more a)) (m : ℕ) where
      pub slots_passed : map slot_of (map link (of_mode mode m (chain_records f ys))) ≡ variables_in m callee
      unfolding variables_in
      slots_passed =
          passed_slots slot mode link m (parameters_of callee) (chain_records f ys) as_many M
          (λ a h. ap slot_of (says a h) ∙ packed_slot (slot a) (word f a argument_variable) (more a) (slot_small a h).1 (given_small a h))

      pub givens_passed : map given_of (map link (of_mode mode m (chain_records f ys))) ≡ arguments_in m (parameters_of callee) (arguments_at f ys)
      givens_passed =
          rw given_words
          (passed_givens slot mode link m (λ a. word f a argument_variable) (parameters_of callee) (chain_records f ys) as_many M
          (λ a h. ap given_of (says a h) ∙ packed_given (slot a) (word f a argument_variable) (more a) (slot_small a h).1 (given_small a h)))
