-- The plan, the images and the callees, as they are filled, are tables of the file.
use Rattle.std.specs.Prelude.{ℕ, suc, ◌+◌, ◌-◌, ◌≤◌, ◌<◌, true, List, [], ◌∷◌, map, ◌⊎◌, ◌≡◌, length, replicate}
use Rattle.std.proofs.Common.{arith, ⊎_elim, sym, ◌∙◌}
use Rattle.std.proofs.Math.Path.{refl, ap, ap₂}
use Rattle.std.proofs.Math.ListN.{get_or}
use Rattle.sets.specs.Sets.{member, ◌∪◌, union_in, loaded, loaded_stored}
use Rattle.sets.specs.Members.{in_list, cons_here, cons_later}
use Rattle.language.specs.Lists.{choose}
use Rattle.language.specs.File.{GoalKind, k_construct, k_switch, k_if, k_try, k_goal, arms, kind_of, word, record_count}
use Rattle.language.specs.Format.{max_variables, max_procedures, call_kind, kind_word, next_word, arm_goals, construct_kind, procedure_goals, argument_variable}
use Rattle.language.specs.Program.{Functor, Signature, region_of, signature_of, parameters_of, arguments_in, variables_in}
use Rattle.language.specs.Typing.{signature_ok, typing_ok}
use Rattle.language.specs.Regions.{mapping, image_in}
use Rattle.language.specs.Lifetimes.{born, dead, kept, start_held}
use Rattle.language.specs.Answers.{program}
use Rattle.region_graph.specs.Typed.{region_in_law, signature_typed, procedures_count}
use Rattle.region_graph.specs.Procedure.{declared}
use Rattle.region_graph.specs.Classes.{born_in, dead_in, kept_ranged}
use Rattle.records.specs.Records.{record_at}
use Rattle.records.specs.declared.Record.TheVariants.{Construct, Call}
use Rattle.chains.specs.Layout.{all_rows}
use Rattle.chains.specs.Formed.{Formed, Stands, arguments_at, counted}
use Rattle.chains.specs.Fields.{field_some}
use Rattle.chains.specs.Records.{chain_records}
use Rattle.chains.specs.Goals.{construct_at}
use Rattle.chains.specs.Parts.{switch_at, if_at, try_at, call_at}
use Rattle.chains.specs.Kinds.{kind_in, kind_read}
use Rattle.chains.specs.Shapes.{goal_number}
use Rattle.owners.specs.Owner.{owner_of}
use Rattle.owners.specs.Owners.{goal_kind, procedure_record, procedure_stands}
use Rattle.tables.specs.Starts.{window_here, body_here}
use Rattle.word_machine.specs.Tables.{Tables, PassingMode, slot_of, given_of, onto, body_record, Tabled}
use Rattle.word_machine.specs.Filling.{slots, modes}
use Rattle.word_machine.specs.Arguments.{given_small, slot_small, slots_passed, givens_passed}
use Rattle.word_machine.specs.Tabling.{Onward, goal_next, arm_next, arm_goals_law, switch_arms_law, if_then_law, if_else_law, try_condition_law, try_then_law, try_else_law, body_starts, argument_matches}
use Rattle.word_machine.specs.Passing.{of_mode}
use Rattle.plans.specs.Plan.{sides_from, links_from, plan_words, image_bytes, callees_words, tables_in, Numbered}
use Rattle.plans.specs.Passes.{TypedAndFilled, caller_of, joining, image_count, images_before, image_of, side_at, picturing, plan_of, images_of, callees_of}
use Rattle.plans.specs.Tests.{kind_yes, kind_no}
use Rattle.plans.specs.Pictures.{count_few, before_few, picturing_here}
use Rattle.plans.specs.Turns.{call_is}
use Rattle.plans.specs.Links.{by_mode}
use Rattle.plans.specs.Linking.{Numbers, says, more, call_links}
use Rattle.plans.specs.Narrow.{home_few}
use Rattle.plans.specs.Numbers.{all_numbered}
use Rattle.plans.specs.Callees.{body_word, size_word, held_word, born_word}
use Rattle.plans.specs.Sorts.{no_arm, is_arm, early, J, slot_read, mode_read, low_read, plan_goal, side_read}

-- ---- a record that the tables name
module _ {f : List ℕ} (F : Formed f) (i : ℕ) where
  construct_side : {m x k a b c d : ℕ} → record_at f i ≡ Construct m x k a b c d → (at : ℕ) → side_at f at i ≡ region_of (caller_of f i) x
  unfolding side_at choose all_rows
  construct_side e at =
      let k : word f i kind_word ≡ construct_kind = goal_number (word f i kind_word) k_construct (sym (kind_read f i refl) ∙ ap kind_in e) in
      rw (kind_no f i call_kind refl (λ q. omega (arith, k)), kind_yes f i construct_kind refl k, (construct_at F refl e).w2) refl

  module _ {m q ys : ℕ} (e : record_at f i ≡ Call m q ys) where
    call_side : (at : ℕ) → side_at f at i ≡ at
    unfolding side_at choose
    call_side at = rw (call_is F i e) refl

    call_count : image_count f i ≡ length (signature_of (program f) q).regions
    unfolding image_count choose
    call_count = rw (call_is F i e, (call_at F refl e).w2) refl

    call_image : (r : ℕ) → image_of f i r ≡ image_in (mapping (caller_of f i) (signature_of (program f) q) (arguments_at f ys)) r
    unfolding image_of
    call_image r = let c = call_at F refl e in rw (c.w2, c.w3) refl

-- a dead, kept or born region is one of the procedure's
held_region : (T : List (List Functor)) (Q : Signature) → signature_ok T Q ≡ true → (r : ℕ) → (member (start_held Q) r ≡ true) ⊎ (member (born Q) r ≡ true)
    → (1 ≤ r) × (r ≤ length Q.regions)
unfolding start_held
held_region T Q ok r h = region_in_law Q r (⊎_elim (λ s. ⊎_elim (λ d. (dead_in Q r d).0) (kept_ranged T Q (declared T Q ok) r) (union_in (dead Q) (kept Q) r s)) (λ b. (born_in Q r b).0) h)

-- ---- all tables
module _ {f table : List ℕ} (R : TypedAndFilled f table) (plan₀ : List ℕ) (zeros : plan₀ ≡ replicate plan_words 0) (images₀ : List ℕ) (room : image_bytes ≤ length images₀)
    (callees₀ : List ℕ) (long : length callees₀ ≡ callees_words) where
  abbrev F : Formed f
  F = R.formed

  abbrev ok : typing_ok (program f) ≡ true
  ok = R.typed

  abbrev P : List ℕ
  P = plan_of f plan₀

  abbrev T : Tables
  T = tables_in P (images_of f images₀) (callees_of table callees₀)

  -- ---- where goals and arms go on
  successor_is : (i : ℕ) → i < record_count f → (g : GoalKind) → kind_of (word f i kind_word) ≡ k_goal g → T.successor i ≡ onto (word f i next_word) (Onward F i)
  unfolding tables_in choose
  successor_is i l g k = plan_goal F ok plan₀ zeros i l ∙ rw (no_arm f i g k) refl

  entry_is : (i : ℕ) (s : Stands f arms i) → (i ≡ 0 → ⊥) → T.entry i ≡ onto (word f i arm_goals) (Onward F i)
  unfolding tables_in choose
  entry_is i s z = plan_goal F ok plan₀ zeros i s.below ∙ rw (is_arm f i s z) refl

  -- ---- what calls pass
  module _ (i m q ys k : ℕ) (e : record_at f i ≡ Call m q ys) (p : PassingMode k) where
    abbrev slot : ℕ → ℕ
    slot a = get_or (slots f) a 0

    abbrev mode : ℕ → ℕ
    mode a = get_or (modes f) a 0

    abbrev link : ℕ → ℕ
    link a = get_or P (links_from k + a) 0

    link_is : (a : ℕ) → a < record_count f → link a ≡ get_or (joining f (early F ok plan₀ zeros)) (links_from k + a) 0
    link_is a l =
        low_read F ok plan₀ zeros (links_from k + a)
        (by_mode (λ s. s + a < sides_from + 1) k (omega (arith, (counted F).most)) (omega (arith, (counted F).most)))

    abbrev here : ℕ → ℕ
    here = says F (early F ok plan₀ zeros) (J F ok plan₀ zeros) k p slot mode link (slot_read F ok plan₀ zeros) (mode_read F ok plan₀ zeros) link_is

    abbrev behind : ℕ → ℕ
    behind = more F (early F ok plan₀ zeros) (J F ok plan₀ zeros) k p slot mode link (slot_read F ok plan₀ zeros) (mode_read F ok plan₀ zeros) link_is

    abbrev Small : List ℕ → Type 0
    Small = Numbers F (early F ok plan₀ zeros) (J F ok plan₀ zeros) k p slot mode link (slot_read F ok plan₀ zeros) (mode_read F ok plan₀ zeros) link_is

    all_small : (as' : List ℕ) → ((a : ℕ) → in_list a as' ≡ true → (1 ≤ slot a) × (slot a ≤ max_variables) × (word f a argument_variable ≤ max_variables)) → Small as'
    all_small [] h = tt
    all_small (a ∷ as') h = (h a (cons_here a a as' refl), all_small as' (λ b i. h b (cons_later b a as' i)))

    passes_are : T.passes k i ≡ map here (of_mode mode k (chain_records f ys))
    unfolding tables_in
    passes_are =
        call_links F (early F ok plan₀ zeros) (J F ok plan₀ zeros) k p slot mode link (slot_read F ok plan₀ zeros) (mode_read F ok plan₀ zeros) link_is i m q ys e
        (all_small (chain_records f ys) (λ a h.
        let s = slot_small F ok i m q ys e slot mode (argument_matches F i m q ys e) a h in
        (s.0, s.1, given_small F ok i m q ys e a h)))

    slots_here : map slot_of (T.passes k i) ≡ variables_in k (signature_of (program f) q)
    slots_here = ap (map slot_of) passes_are ∙ slots_passed F ok i m q ys e slot mode (argument_matches F i m q ys e) here behind (λ a h. refl) k

    givens_here : map given_of (T.passes k i) ≡ arguments_in k (parameters_of (signature_of (program f) q)) (arguments_at f ys)
    givens_here = ap (map given_of) passes_are ∙ givens_passed F ok i m q ys e slot mode (argument_matches F i m q ys e) here behind (λ a h. refl) k

  -- ---- images and regions
  fits : (j : ℕ) → j < 1 + (record_count f - 1) → images_before f j + image_count f j < length images₀
  fits j l =
      let m = (counted F).most in
      let s = (counted F).some in
      omega (arith, room, before_few f ok j, count_few f ok j)

  image_here : (i m q ys r : ℕ) → record_at f i ≡ Call m q ys
      → (member (start_held (signature_of (program f) q)) r ≡ true) ⊎ (member (born (signature_of (program f) q)) r ≡ true)
      → T.image i r ≡ image_in (mapping (caller_of f i) (signature_of (program f) q) (arguments_at f ys)) r
  unfolding tables_in images_of
  image_here i m q ys r e h =
      let c = call_at F refl e in
      let b = held_region (program f).types (signature_of (program f) q) (signature_typed (program f) ok q) r h in
      ap (λ (p : ℕ). get_or (picturing f (record_count f - 1) 1 images₀) (p + r) 0) (side_read F ok plan₀ zeros i c.some c.below ∙ call_side F i e (images_before f i))
      ∙ picturing_here f (record_count f - 1) 1 images₀ fits i c.some (omega (arith, c.some, c.below)) (call_is F i e) r b.0 (omega (arith, b.1, call_count F i e))
      ∙ call_image F i e r

  region_here : (i m x k a b c d : ℕ) → record_at f i ≡ Construct m x k a b c d → T.region i ≡ region_of (caller_of f i) x
  unfolding tables_in
  region_here i m x k a b c d e =
      let h = construct_at F refl e in
      side_read F ok plan₀ zeros i h.some h.below ∙ construct_side F i e (images_before f i)

  -- ---- procedures
  module _ (p : ℕ) (l : p < length (program f).procedures) where
    few : p < max_procedures
    few = omega (arith, (procedures_count (program f) ok).1)

    body_window : T.body p ≡ word f (procedure_record f p) procedure_goals
    unfolding tables_in procedure_record
    body_window = body_word table callees₀ long p few ∙ body_here R.windows l

    body_is : T.body p ≡ body_record f p
    unfolding procedure_record
    body_is = body_window ∙ field_some f (procedure_record f p) procedure_goals (procedure_stands F p l).1

    size_is : T.size p ≡ length (signature_of (program f) p).variables
    unfolding tables_in signature_of
    size_is = size_word table callees₀ long p few ∙ (window_here R.windows l).window.variable_count

    held_is : T.held p ≡ start_held (signature_of (program f) p)
    unfolding tables_in signature_of start_held
    held_is =
        let W = (window_here R.windows l).window in
        ap loaded (held_word table callees₀ long p few) ∙ loaded_stored _ ∙ ap₂ ◌∪◌ W.dead W.kept

    bears_is : T.bears p ≡ born (signature_of (program f) p)
    unfolding tables_in signature_of
    bears_is = ap loaded (born_word table callees₀ long p few) ∙ loaded_stored _ ∙ (window_here R.windows l).window.born

  plan_tabled : Tabled f T
  plan_tabled = record {
    onward = Onward F;
    owner = owner_of f;
    next = λ i s z. (let k = goal_kind s z in successor_is i s.below k.0 k.1);
    goal_next = goal_next F;
    arm_next = arm_next F;
    arm_goals_law = arm_goals_law F;
    switch_arms_law = λ i m x cs e. rw (successor_is i (switch_at F refl e).below k_switch (kind i ∙ ap kind_in e)) (switch_arms_law F i m x cs e);
    if_then_law = λ i m y z a b e. rw (successor_is i (if_at F refl e).below k_if (kind i ∙ ap kind_in e)) (if_then_law F i m y z a b e);
    if_else_law = λ i m y z a b e. rw (successor_is i (if_at F refl e).below k_if (kind i ∙ ap kind_in e)) (if_else_law F i m y z a b e);
    try_condition_law = try_condition_law F;
    try_then_law = λ i m c a b e. rw (successor_is i (try_at F refl e).below k_try (kind i ∙ ap kind_in e)) (try_then_law F i m c a b e);
    try_else_law = λ i m c a b e. rw (successor_is i (try_at F refl e).below k_try (kind i ∙ ap kind_in e)) (try_else_law F i m c a b e);
    bodies = λ p l. rw (body_window p l) (body_starts F p l);
    region = λ i m x k a b c d e. region_here i m x k (suc a) b c d e;
    arm_entry = entry_is;
    slots = λ i m q ys k e p. slots_here i m q ys k e p;
    givens = λ i m q ys k e p. givens_here i m q ys k e p;
    image = image_here;
    body = body_is;
    size = size_is;
    held = held_is;
    bears = bears_is;
  }
    where
      kind : (i : ℕ) → kind_of (word f i kind_word) ≡ kind_in (record_at f i)
      kind i = sym (kind_read f i refl)

  -- .. whatever names they have
  pub filled_tabled : {plan images callees : List ℕ} → plan ≡ plan_of f plan₀ → images ≡ images_of f images₀ → callees ≡ callees_of table callees₀
      → Tabled f (tables_in plan images callees)
  filled_tabled e g h = rw (e, g, h) plan_tabled

  pub filled_numbered : {plan : List ℕ} → plan ≡ plan_of f plan₀ → Numbered f plan
  unfolding tables_in
  filled_numbered e =
      rw e (all_numbered F ok (λ i m x k a b c d q.
      let r = home_few (program f).types (caller_of f i) (signature_typed (program f) ok _) x in omega (arith, region_here i m x k a b c d q)))
