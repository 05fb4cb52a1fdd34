-- What the pass leaves that puts the links: each record's words, by the links of later records.
use Rattle.std.specs.Prelude.{ℕ, ◌+◌, ◌/◌, ◌%◌, ◌≤◌, ◌<◌, Bool, List, ◌⊎◌, ◌≡◌, length, get_or}
use Rattle.std.proofs.Common.{arith, inl, inr, ◌∙◌}
use Rattle.std.proofs.Math.Bool.{true, false}
use Rattle.std.proofs.Math.Path.{refl, sym, ap}
use Rattle.language.specs.Lists.{choose}
use Rattle.language.specs.File.{word, record_count}
use Rattle.language.specs.Format.{max_records, next_word, arm_goals, call_arguments, argument_kind, arm_kind, call_kind}
use Rattle.chains.specs.Formed.{Formed, counted}
use Rattle.word_machine.specs.Tables.{link_unit, PassingMode, onto}
use Rattle.word_machine.specs.Passing.{packed}
use Rattle.plans.specs.Plan.{links_from, plan_words}
use Rattle.plans.specs.Passes.{slots_from, modes_from, is_kind, first_in, goal_of, argument_link, link_of, joined_at, joining}
use Rattle.plans.specs.Down.{StepFinds, found}
use Rattle.plans.specs.Links.{Joinable, by_mode, first_by, first_by_law, call_at_test, argument_at_test, joined_length, joined_own, joined_goal, joined_ins, joined_outs, joinable_down}

first_none : (m : ℕ) (t : List ℕ) → get_or t (links_from m + 0) 0 / link_unit ≡ 0 → first_in m 0 t ≡ 0
unfolding first_in
first_none m t e = first_by_law (λ n. n ≡ 0) 0 (get_or t (links_from m + 0) 0) e refl

first_same : (m a : ℕ) (t u : List ℕ) → get_or t (links_from m + a) 0 ≡ get_or u (links_from m + a) 0 → first_in m a t ≡ first_in m a u
unfolding first_in
first_same m a t u e = ap (first_by a) e

links_whose : (m a : ℕ) → a < max_records → (links_from m + a) % max_records ≡ a
links_whose m a l = by_mode (λ s. (s + a) % max_records ≡ a) m (omega arith) (omega arith)

joined_link : (f : List ℕ) (i : ℕ) → i < max_records → (t : List ℕ) → length t ≡ plan_words → (m : ℕ) → PassingMode m
    → get_or (joined_at f i t) (links_from m + i) 0 ≡ link_of f m i t t
unfolding links_from choose
joined_link f i l t h m (inl e) = rw e (joined_ins f i l t h)
joined_link f i l t h m (inr e) = rw e (joined_outs f i l t h)

module _ {f : List ℕ} (F : Formed f) (t : List ℕ) (J : Joinable f (record_count f) t) where
  abbrev after : List ℕ
  after = joining f t

  few : record_count f ≤ max_records
  few = (counted F).most

  pub joining_ok : Joinable f 0 (joining f t)
  unfolding joining
  joining_ok = joinable_down F (record_count f) t J

  -- the table that the step of record i finds
  here : (i : ℕ) → i < record_count f → (u : List ℕ) × StepFinds (joined_at f) (λ p. p % max_records) max_records (λ j l v p. joined_own f j l v p) (record_count f) i t u
  here i l = found (joined_at f) (λ p. p % max_records) max_records (λ j h v p. joined_own f j h v p) (joined_length f) (record_count f) i few l t

  pub goal_read : (i : ℕ) → i < record_count f → get_or (joining f t) i 0 ≡ goal_of f i t
  unfolding joining goal_of
  goal_read i l =
      let r = here i l in
      let z : i % max_records ≡ i = omega (arith, few) in
      r.1.here i z ∙ joined_goal f i (omega (arith, few)) r.0 (r.1.long ∙ J.long)
      ∙ ap (onto (word f i (choose (is_kind f arm_kind i) arm_goals next_word))) (r.1.low i (omega arith))

  -- record 0 has no link
  none_zero : (m : ℕ) (u : List ℕ) → link_of f m 0 u u ≡ 0
  unfolding link_of choose
  none_zero m u = go (is_kind f call_kind 0) (is_kind f argument_kind 0) refl refl
    where
      go : (b c : Bool) → is_kind f call_kind 0 ≡ b → is_kind f argument_kind 0 ≡ c → choose b (packed 0 0 (first_in m (word f 0 call_arguments) u)) (choose c (argument_link f m 0 u u) 0) ≡ 0
      go true c p q = absurd (let z = (call_at_test F 0 p).some in omega arith)
      go false true p q = absurd (let z = (argument_at_test F 0 q).some in omega arith)
      go false false p q = refl

  module _ (m : ℕ) (p : PassingMode m) where
    zero_link : get_or (joining f t) (links_from m + 0) 0 ≡ 0
    unfolding joining
    zero_link =
        let r = here 0 (counted F).some in
        r.1.here (links_from m + 0) (links_whose m 0 (omega arith)) ∙ joined_link f 0 (omega arith) r.0 (r.1.long ∙ J.long) m p ∙ none_zero m r.0

    pub first_end : first_in m 0 (joining f t) ≡ 0
    first_end = first_none m (joining f t) (let z = zero_link in omega arith)

    module _ (i : ℕ) (l : i < record_count f) where
      low_link : get_or t (links_from m + 0) 0 / link_unit ≡ 0
      low_link =
          let a = J.slots 0 (counted F).some in
          let b = J.modes 0 (counted F).some in
          by_mode (λ s. get_or t (s + 0) 0 / link_unit ≡ 0) m (omega arith) (omega arith)

      -- the first argument from a later one on is the same at the end as in the table that the step finds
      firsts : (a : ℕ) → (a ≡ 0) ⊎ (i < a) → a < record_count f → first_in m a (here i l).0 ≡ first_in m a (joining f t)
      unfolding joining
      firsts a (inl z) h =
          let e = (here i l).1.low (links_from m + 0) (let w = links_whose m 0 (omega arith) in omega arith) in
          rw z (first_none m (here i l).0 (ap (λ w. w / link_unit) e ∙ low_link) ∙ sym first_end)
      firsts a (inr o) h = first_same m a (here i l).0 (joining f t) ((here i l).1.high (links_from m + a) (let w = links_whose m a (omega (arith, few)) in omega arith))

      same : link_of f m i (here i l).0 (here i l).0 ≡ link_of f m i t (joining f t)
      unfolding link_of argument_link choose
      same = go (is_kind f call_kind i) (is_kind f argument_kind i) refl refl
        where
          go : (b c : Bool) → is_kind f call_kind i ≡ b → is_kind f argument_kind i ≡ c
              → choose b (packed 0 0 (first_in m (word f i call_arguments) (here i l).0)) (choose c (argument_link f m i (here i l).0 (here i l).0) 0)
              ≡ choose b (packed 0 0 (first_in m (word f i call_arguments) (joining f t))) (choose c (argument_link f m i t (joining f t)) 0)
          go true c x y = let k = (call_at_test F i x).to_arguments in ap (packed 0 0) (firsts (word f i call_arguments) k.order k.stands.below)
          go false true x y =
              let k = (argument_at_test F i y).to_next in
              rw (firsts (word f i next_word) k.order k.stands.below, (here i l).1.low (slots_from + i) (omega (arith, few)), (here i l).1.low (modes_from + i) (omega (arith, few)))
              refl
          go false false x y = refl

      pub link_read : get_or (joining f t) (links_from m + i) 0 ≡ link_of f m i t (joining f t)
      unfolding joining
      link_read =
          let r = here i l in
          r.1.here (links_from m + i) (links_whose m i (omega (arith, few))) ∙ joined_link f i (omega (arith, few)) r.0 (r.1.long ∙ J.long) m p ∙ same
