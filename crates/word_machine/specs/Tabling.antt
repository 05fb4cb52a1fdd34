-- The tables that the passes fill are tables of the file.
use Rattle.std.specs.Prelude.{ℕ, ◌-◌, ◌≤◌, ◌<◌, ◌≡◌, Bool, List, [], ◌∷◌, map, ◌≢◌, eqb, length, get_or, replicate}
use Rattle.std.proofs.Common.{arith, ◌∙◌}
use Rattle.std.proofs.Math.Path.{refl, sym, ap}
use Rattle.std.proofs.Math.Bool.{true, false}
use Rattle.std.proofs.lemmas.List.{length-replicate, get_or-replicate}
use Rattle.sets.specs.Tests.{◌&◌, ◌or◌}
use Rattle.sets.specs.Members.{in_list}
use Rattle.language.specs.Lists.{choose}
use Rattle.language.specs.File.{k_switch, k_if, k_try, Kind, k_procedure, k_arm, k_goal, goals, arms, row, kind_of, word, record_count}
use Rattle.language.specs.Program.{Parameter, signature_of, parameters_of, arguments_in, variables_in}
use Rattle.language.specs.Typing.{typing_ok}
use Rattle.language.specs.Answers.{program}
use Rattle.language.specs.Format.{kind_word, next_word, procedure_goals, arm_goals, switch_arms, if_then, if_else, try_condition, try_then, try_else, argument_variable, max_records, try_kind}
use Rattle.records.specs.Records.{record_at}
use Rattle.records.specs.declared.Record.TheVariants.{Switch, If, Try, Call}
use Rattle.chains.specs.Formed.{Formed, Stands, arguments_at, counted}
use Rattle.chains.specs.Fields.{field_some}
use Rattle.chains.specs.Is.{arm_is, procedure_is}
use Rattle.chains.specs.Kinds.{kind_in, kind_read}
use Rattle.chains.specs.Goals.{construct_at}
use Rattle.chains.specs.Parts.{switch_at, if_at, try_at, call_at}
use Rattle.chains.specs.Records.{chain_records}
use Rattle.owners.specs.Handed.{reference_words, words_open, next_and}
use Rattle.owners.specs.Handing.{handed_by}
use Rattle.owners.specs.Owner.{owner_of}
use Rattle.owners.specs.Owners
use Rattle.owners.specs.Owners.{goals_owned, procedure_record, procedure_stands, procedure_first}
use Rattle.word_machine.specs.Tables.{slot_of, given_of, onto, Continues, body_record, Tabled}
use Rattle.word_machine.specs.Passing.{packed, Matches}
use Rattle.word_machine.specs.Arguments.{slots_passed, givens_passed}
use Rattle.word_machine.specs.Filling.{parts_onward, onward_by, onwards, slots, modes, tables_of}
use Rattle.word_machine.specs.Matching.{Says, matches_say}

unfoldable opened : Unit {0}
unfolding words_open onward_by parts_onward next_and choose ◌or◌ ◌&◌
opened = tt

module _ {f : List ℕ} (F : Formed f) where
  few : record_count f ≤ length (replicate {A = ℕ} max_records 0)
  few = let c = counted F in omega (arith, length-replicate {A = ℕ} max_records 0)

  abbrev pub Onward : ℕ → ℕ
  Onward i = get_or (onwards f) i 0

  -- ---- where the chains of a record's words go on
  onward_by_law : (K : Kind) (i : ℕ) → i < record_count f → kind_of (word f i kind_word) ≡ K → (k : ℕ) → in_list k (reference_words K) ≡ true → word f i k ≢ 0
      → Onward (word f i k) ≡ onward_by f (row K).kind i k (Onward i)
  unfolding onwards
  onward_by_law K i q e k m z = handed_by F (onward_by f) (replicate max_records 0) few (get_or-replicate {A = ℕ} max_records 0 0 0 (omega arith)) K i q e k m z

  not_condition : (b : Bool) (v : ℕ) → choose (b & false) 0 v ≡ v
  unfolding choose ◌&◌
  not_condition true v = refl
  not_condition false v = refl

  onward_next : (i : ℕ) → i < record_count f → word f i next_word ≢ 0 → Onward (word f i next_word) ≡ Onward i
  unfolding opened
  onward_next i q z = onward_by_law (kind_of (word f i kind_word)) i q refl next_word refl z ∙ not_condition (eqb (row (kind_of (word f i kind_word))).kind try_kind) (Onward i)

  pub goal_next : (i : ℕ) → Stands f goals i → (z : i ≢ 0) → Continues Onward (owner_of f) (word f i next_word) (Onward i) (owner_of f i)
  goal_next i s z y = (onward_next i s.below y, goals_owned F s z refl y)

  arm_kind_law : {i : ℕ} → Stands f arms i → i ≢ 0 → kind_of (word f i kind_word) ≡ k_arm
  arm_kind_law {i} s z = sym (kind_read f i refl) ∙ ap kind_in (arm_is s z)

  pub arm_next : (i : ℕ) → Stands f arms i → (z : i ≢ 0) → Continues Onward (owner_of f) (word f i next_word) (Onward i) (owner_of f i)
  arm_next i s z y = (onward_next i s.below y, Owners.arm_next F i s.below (arm_kind_law s z) y)

  pub arm_goals_law : (i : ℕ) → Stands f arms i → (z : i ≢ 0) → Continues Onward (owner_of f) (word f i arm_goals) (Onward i) (owner_of f i)
  unfolding opened
  arm_goals_law i s z y =
      let k = arm_kind_law s z in
      (onward_by_law k_arm i s.below k arm_goals refl y, Owners.arm_goals_law F i s.below k y)

  pub switch_arms_law : (i n x cs : ℕ) → record_at f i ≡ Switch n x cs → Continues Onward (owner_of f) cs (onto (word f i next_word) (Onward i)) (owner_of f i)
  unfolding opened
  switch_arms_law i n x cs e =
      let c = switch_at F refl e in
      let k = sym (kind_read f i refl) ∙ ap kind_in e in
      rw c.w3 (λ y. (onward_by_law (k_goal k_switch) i c.below k switch_arms refl y, Owners.switch_arms_law F i c.below k y))

  pub if_then_law : (i n y z a b : ℕ) → record_at f i ≡ If n y z a b → Continues Onward (owner_of f) a (onto (word f i next_word) (Onward i)) (owner_of f i)
  unfolding opened
  if_then_law i n y z a b e =
      let c = if_at F refl e in
      let k = sym (kind_read f i refl) ∙ ap kind_in e in
      rw c.w4 (λ q. (onward_by_law (k_goal k_if) i c.below k if_then refl q, Owners.if_then_law F i c.below k q))

  pub if_else_law : (i n y z a b : ℕ) → record_at f i ≡ If n y z a b → Continues Onward (owner_of f) b (onto (word f i next_word) (Onward i)) (owner_of f i)
  unfolding opened
  if_else_law i n y z a b e =
      let c = if_at F refl e in
      let k = sym (kind_read f i refl) ∙ ap kind_in e in
      rw c.w5 (λ q. (onward_by_law (k_goal k_if) i c.below k if_else refl q, Owners.if_else_law F i c.below k q))

  pub try_condition_law : (i n c a b : ℕ) → record_at f i ≡ Try n c a b → Continues Onward (owner_of f) c 0 (owner_of f i)
  unfolding opened
  try_condition_law i n c a b e =
      let t = try_at F refl e in
      let k = sym (kind_read f i refl) ∙ ap kind_in e in
      rw t.w2 (λ q. (onward_by_law (k_goal k_try) i t.below k try_condition refl q, Owners.try_condition_law F i t.below k q))

  pub try_then_law : (i n c a b : ℕ) → record_at f i ≡ Try n c a b → Continues Onward (owner_of f) a (onto (word f i next_word) (Onward i)) (owner_of f i)
  unfolding opened
  try_then_law i n c a b e =
      let t = try_at F refl e in
      let k = sym (kind_read f i refl) ∙ ap kind_in e in
      rw t.w3 (λ q. (onward_by_law (k_goal k_try) i t.below k try_then refl q, Owners.try_then_law F i t.below k q))

  pub try_else_law : (i n c a b : ℕ) → record_at f i ≡ Try n c a b → Continues Onward (owner_of f) b (onto (word f i next_word) (Onward i)) (owner_of f i)
  unfolding opened
  try_else_law i n c a b e =
      let t = try_at F refl e in
      let k = sym (kind_read f i refl) ∙ ap kind_in e in
      rw t.w4 (λ q. (onward_by_law (k_goal k_try) i t.below k try_else refl q, Owners.try_else_law F i t.below k q))

  -- a body goes on nowhere
  pub body_starts : (p : ℕ) → p < length (program f).procedures → Continues Onward (owner_of f) (word f (procedure_record f p) procedure_goals) 0 p
  unfolding opened
  body_starts p l y =
      let s = procedure_stands F p l in
      (onward_by_law k_procedure (procedure_record f p) s.0.below (sym (kind_read f (procedure_record f p) refl) ∙ ap kind_in (procedure_is s.0 s.1)) procedure_goals refl y, procedure_first F p l y)

  body_record_law : (p : ℕ) → p < length (program f).procedures → word f (procedure_record f p) procedure_goals ≡ body_record f p
  unfolding procedure_record
  body_record_law p l = field_some f (procedure_record f p) procedure_goals (procedure_stands F p l).1

  -- ---- arguments
  abbrev pub Slot : ℕ → ℕ
  Slot a = get_or (slots f) a 0

  abbrev pub Mode : ℕ → ℕ
  Mode a = get_or (modes f) a 0

  both_say : (ps : List Parameter) (js : List ℕ) → Says (λ a. a.variable) ps js (slots f) → Says (λ a. a.mode) ps js (modes f) → Matches Slot Mode ps js
  both_say [] js a b = tt
  both_say (p ∷ ps) [] a b = tt
  both_say (p ∷ ps) (j ∷ js) a b = (a.0, b.0, both_say ps js a.1 b.1)

  pub argument_matches : (i n q ys : ℕ) → record_at f i ≡ Call n q ys → Matches Slot Mode (parameters_of (signature_of (program f) q)) (chain_records f ys)
  unfolding slots modes
  argument_matches i n q ys e =
      let c = call_at F refl e in
      both_say (parameters_of (signature_of (program f) q)) (chain_records f ys)
      (matches_say F (λ a. a.variable) (record_count f - 1) 1 (replicate max_records 0) few i n q ys e (omega (arith, c.some)) (omega (arith, c.some, c.below)))
      (matches_say F (λ a. a.mode) (record_count f - 1) 1 (replicate max_records 0) few i n q ys e (omega (arith, c.some)) (omega (arith, c.some, c.below)))

  -- ---- all tables, of a file that passes number 3
  module _ (ok : typing_ok (program f) ≡ true) (i n q ys m : ℕ) (e : record_at f i ≡ Call n q ys) where
    passed_here : (map slot_of ((tables_of f).passes m i) ≡ variables_in m (signature_of (program f) q))
        × (map given_of ((tables_of f).passes m i) ≡ arguments_in m (parameters_of (signature_of (program f) q)) (arguments_at f ys))
    unfolding tables_of
    passed_here =
        let M = argument_matches i n q ys e in
        rw (← (call_at F refl e).w3) (
          slots_passed F ok i n q ys e Slot Mode M (λ a. packed (Slot a) (word f a argument_variable) 0) (λ a. 0) (λ a h. refl) m,
          givens_passed F ok i n q ys e Slot Mode M (λ a. packed (Slot a) (word f a argument_variable) 0) (λ a. 0) (λ a h. refl) m,
        )

  pub tabled : typing_ok (program f) ≡ true → Tabled f (tables_of f)
  unfolding tables_of
  tabled ok = record {
    onward = Onward;
    owner = owner_of f;
    next = λ i s z. refl;
    goal_next = goal_next;
    arm_next = arm_next;
    arm_goals_law = arm_goals_law;
    switch_arms_law = switch_arms_law;
    if_then_law = if_then_law;
    if_else_law = if_else_law;
    try_condition_law = try_condition_law;
    try_then_law = try_then_law;
    try_else_law = try_else_law;
    bodies = λ p l. rw (← body_record_law p l) (body_starts p l);
    region = λ i n x k a b c d e. rw (construct_at F refl e).w2;
    arm_entry = λ i s z. refl;
    slots = λ i n q ys m e d. (passed_here ok i n q ys m e).0;
    givens = λ i n q ys m e d. (passed_here ok i n q ys m e).1;
    image = λ i n q ys r e h. let c = call_at F refl e in rw (c.w2, c.w3);
    body = λ p l. refl;
    size = λ p l. refl;
    held = λ p l. refl;
    bears = λ p l. refl;
  }
