-- Number 3 says of every goal and arm that its numbers are those of variables and regions: at most 64.
use Rattle.std.specs.Prelude.{ℕ, zero, suc, ◌+◌, ◌≤◌, true, List, [], ◌∷◌, ◌≡◌, get_or}
use Rattle.std.proofs.Common.{arith, ◌∙◌}
use Rattle.std.proofs.Math.Logic.{inr}
use Rattle.std.proofs.Math.Path.{refl, sym, ap}
use Rattle.sets.specs.Tests.{and_true}
use Rattle.sets.specs.Members.{in_list, cons_here, cons_later}
use Rattle.language.specs.File.{k_literal, k_sum, k_assign, k_construct, k_switch, k_if, k_print, k_create, k_remove, k_test, k_arm, kind_of, word, record_count}
use Rattle.language.specs.Program.{four, four_words, trim_onto, trimmed, arguments_of, Functor, Signature, signature_of}
use Rattle.language.specs.Typing.{is_variable, is_region, has_type, arguments_ok, types_in, signature_ok, goal_ok, step_ok, typing_ok}
use Rattle.language.specs.Answers.{program}
use Rattle.language.specs.Format.{max_variables, max_regions, term_arguments}
use Rattle.laws.specs.Typed.{typed_arm}
use Rattle.region_graph.specs.Typed.{variable_small, region_small, variables_few, regions_few, signature_typed}
use Rattle.safety.specs.Variables.{types_variables}
use Rattle.records.specs.Records.{record_at}
use Rattle.records.specs.declared.Record.TheVariants.{Construct, Arm}
use Rattle.chains.specs.Layout.{all_rows, header_kind_law, record_used}
use Rattle.chains.specs.Formed.{Formed, counted}
use Rattle.chains.specs.Kinds.{kind_in, kind_read}
use Rattle.chains.specs.Goals.{literal_at, sum_at_law, assign_at, construct_at, print_at, create_at, remove_at, test_at}
use Rattle.chains.specs.Parts.{switch_at, arm_at, if_at}
use Rattle.owners.specs.Owner.{owner_of}
use Rattle.word_machine.specs.Typed.{owning, typed_record, typed_arms_at}
use Rattle.plans.specs.Plan.{sides_from, Numbered}

-- ---- four words of which the arguments are small
trim_later : (x : ℕ) (zs : List ℕ) (y : ℕ) → in_list y zs ≡ true → in_list y (trim_onto x zs) ≡ true
unfolding trim_onto
trim_later zero [] y i = i
trim_later zero (z ∷ zs) y i = cons_later y zero (z ∷ zs) i
trim_later (suc x) zs y i = cons_later y (suc x) zs i

trim_first : (x : ℕ) (zs : List ℕ) → ((y : ℕ) → in_list y (trim_onto x zs) ≡ true → y ≤ max_variables) → x ≤ max_variables
unfolding trim_onto
trim_first zero zs h = omega arith
trim_first (suc x) zs h = h (suc x) (cons_here (suc x) (suc x) zs refl)

-- zeros at the end are small too
abbrev Few : List ℕ → Type 0
Few [] = Unit {0}
Few (x ∷ xs) = (x ≤ max_variables) × Few xs

trimmed_few : (xs : List ℕ) → ((y : ℕ) → in_list y (trimmed xs) ≡ true → y ≤ max_variables) → Few xs
unfolding trimmed
trimmed_few [] h = tt
trimmed_few (x ∷ xs) h = (trim_first x (trimmed xs) h, trimmed_few xs (λ y i. h y (trim_later x (trimmed xs) y i)))

module _ (T : List (List Functor)) (S : Signature) (ok : signature_ok T S ≡ true) where
  variable_few : (x : ℕ) → is_variable S x ≡ true → x ≤ max_variables
  variable_few x h = (variable_small S (variables_few T S ok) x h).1

  type_few : (t x : ℕ) → has_type S t x ≡ true → x ≤ max_variables
  unfolding has_type
  type_few t x h = variable_few x (and_true h).0

  region_few : (r : ℕ) → is_region S r ≡ true → r ≤ max_regions
  region_few r h = (region_small S (regions_few T S ok) r h).1

  arguments_few : (g : Functor) (a b c d : ℕ) → arguments_ok S g (four a b c d) ≡ true → (a ≤ max_variables) × (b ≤ max_variables) × (c ≤ max_variables) × (d ≤ max_variables)
  unfolding arguments_ok arguments_of four_words
  arguments_few g a b c d h =
      let k = trimmed_few (a ∷ b ∷ c ∷ d ∷ []) (λ y i. variable_few y (types_variables S (types_in g) (trimmed (a ∷ b ∷ c ∷ d ∷ [])) h y i)) in
      (k.0, k.1.0, k.1.1.0, k.1.1.1.0)

module _ {f : List ℕ} (F : Formed f) (ok : typing_ok (program f) ≡ true) where
  typed : (i : ℕ) → signature_ok (program f).types (signature_of (program f) (owner_of f i)) ≡ true
  typed i = signature_typed (program f) ok (owner_of f i)

  arm_numbers : (i n g k a b c d : ℕ) → record_at f i ≡ Arm n g k a b c d → (a ≤ max_variables) × (b ≤ max_variables) × (c ≤ max_variables) × (d ≤ max_variables)
  unfolding all_rows
  arm_numbers i n g k a b c d e =
      let h = arm_at F refl e in
      let q : kind_of (word f i 0) ≡ k_arm = sym (kind_read f i refl) ∙ ap kind_in e in
      let s = typed_arms_at F ok i (record { below = h.below; sort = inr (rw q) }) (λ z. omega (arith, h.some)) in
      let t = typed_arm (program f) (owning F ok i) h.view s in
      arguments_few (program f).types (owning F ok i) (typed i) t.functor a b c d t.arguments

  no_argument : word f 0 term_arguments ≡ 0
  unfolding all_rows
  no_argument = (rw (header_kind_law f F.header F.form) at (record_used (word f) (record_count f) F.form 0 (counted F).some)).1.0

  pub all_numbered : {plan : List ℕ} → ((i n x k a b c d : ℕ) → record_at f i ≡ Construct n x k a b c d → get_or plan (sides_from + i) 0 ≤ max_regions) → Numbered f plan
  unfolding goal_ok step_ok
  all_numbered home = record {
    literal = λ i n x v e. (let h = literal_at F refl e in type_few _ _ (typed i) 0 x (rw h.goal at (typed_record F ok i h.some h.below k_literal (ap kind_in e))));
    sum = λ i n x o y z e. (
        let h = sum_at_law F refl e in
        let t = and_true (rw h.goal at (typed_record F ok i h.some h.below k_sum (ap kind_in e))) in
        let u = and_true (and_true t.1).1 in
        (type_few _ _ (typed i) 0 x t.0, type_few _ _ (typed i) 0 y u.0, type_few _ _ (typed i) 0 z u.1)
        );
    assign = λ i n x y e. (
        let h = assign_at F refl e in
        let t = and_true (rw h.goal at (typed_record F ok i h.some h.below k_assign (ap kind_in e))) in
        (variable_few _ _ (typed i) x t.0, type_few _ _ (typed i) _ y t.1)
        );
    construct = λ i n x k a b c d e. (
        let h = construct_at F refl e in
        let t = and_true (rw h.goal at (typed_record F ok i h.some h.below k_construct (ap kind_in e))) in
        let u = arguments_few _ _ (typed i) _ a b c d (and_true t.1).1 in
        (variable_few _ _ (typed i) x t.0, u.0, u.1, u.2, u.3)
        );
    home = home;
    switch = λ i n x cs e. (
        let h = switch_at F refl e in
        variable_few _ _ (typed i) x (and_true (rw h.goal at (typed_record F ok i h.some h.below k_switch (ap kind_in e)))).0
        );
    arm = arm_numbers;
    none = no_argument;
    less = λ i n y z a b e. (
        let h = if_at F refl e in
        let t = and_true (rw h.goal at (typed_record F ok i h.some h.below k_if (ap kind_in e))) in
        (type_few _ _ (typed i) 0 y t.0, type_few _ _ (typed i) 0 z (and_true t.1).0)
        );
    test = λ i n y z e. (
        let h = test_at F refl e in
        let t = and_true (rw h.goal at (typed_record F ok i h.some h.below k_test (ap kind_in e))) in
        (type_few _ _ (typed i) 0 y t.0, type_few _ _ (typed i) 0 z t.1)
        );
    print = λ i n y e. (let h = print_at F refl e in type_few _ _ (typed i) 0 y (rw h.goal at (typed_record F ok i h.some h.below k_print (ap kind_in e))));
    create = λ i n r e. (let h = create_at F refl e in region_few _ _ (typed i) r (rw h.goal at (typed_record F ok i h.some h.below k_create (ap kind_in e))));
    remove = λ i n r e. (let h = remove_at F refl e in region_few _ _ (typed i) r (rw h.goal at (typed_record F ok i h.some h.below k_remove (ap kind_in e))));
  }
