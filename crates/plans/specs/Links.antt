-- The pass that puts the links, step by step: what a step asks of the plan, and what it leaves.
use Prim.Native.Nat.{ℕ, zero, suc, ◌+◌, ◌/◌, ◌%◌, ◌≤◌, ◌<◌}
use Rattle.std.proofs.Common.{arith, sym, ◌∙◌, eqb-true}
use Rattle.std.proofs.Math.Decide.{ℕ_discrete, dec_lt}
use Rattle.std.specs.Prelude.{Bool, List, ◌≡◌, eqb, length, get_or, set}
use Rattle.std.proofs.Math.Bool.{true, false}
use Rattle.std.proofs.Math.Path.{refl}
use Rattle.std.proofs.Math.ListN.{length-set}
use Rattle.std.proofs.Math.Seq.{get_or-set_same, get_or-set_other}
use Rattle.language.specs.Lists.{choose}
use Rattle.language.specs.File.{k_argument, word, record_count}
use Rattle.language.specs.Format.{max_variables, call_procedure, max_records, next_word, call_arguments, argument_variable, argument_kind, call_kind}
use Rattle.language.specs.Program.{in_mode, out_mode}
use Rattle.chains.specs.Layout.{all_rows}
use Rattle.chains.specs.Formed.{Formed, counted}
use Rattle.chains.specs.Parts.{CallAt, ArgumentAt, argument_at}
use Rattle.chains.specs.Shapes.{by_number, call_here}
use Rattle.word_machine.specs.Tables.{link_unit, slot_of, given_of}
use Rattle.word_machine.specs.Passing.{packed, packed_slot, packed_given}
use Rattle.plans.specs.Plan.{ins_from, outs_from, links_from, plan_words, LinkOk}
use Rattle.plans.specs.Passes.{slots_from, modes_from, is_kind, each_down, first_in, goal_of, argument_link, link_of, joined_at}
use Rattle.plans.specs.Tests.{kind_is}

-- records below i have what match_calls left them, the others their links
pub record Joinable (f : List ℕ) (i : ℕ) (t : List ℕ) : Type 0 where
  pub long : length t ≡ plan_words
  pub most : i ≤ max_records
  pub slots : (a : ℕ) → a < i → get_or t (slots_from + a) 0 ≤ max_variables
  pub modes : (a : ℕ) → a < i → get_or t (modes_from + a) 0 ≤ max_variables
  pub givens : (a : ℕ) → a < i → (get_or t (modes_from + a) 0 ≡ 0 → ⊥) → word f a argument_variable ≤ max_variables
  pub ins : (a : ℕ) → i ≤ a → a < max_records → LinkOk (get_or t (ins_from + a) 0)
  pub outs : (a : ℕ) → i ≤ a → a < max_records → LinkOk (get_or t (outs_from + a) 0)

-- ---- links that can be followed
pub small_ok : (w : ℕ) → w ≤ max_variables → LinkOk w
unfolding slot_of given_of
small_ok w l = record { slot = omega arith; given = omega arith; next = omega arith }

pub packed_next : (s g n : ℕ) → s ≤ max_variables → g ≤ max_variables → packed s g n / link_unit ≡ n
unfolding packed
packed_next s g n a b = omega arith

packed_ok : (s g n : ℕ) → s ≤ max_variables → g ≤ max_variables → n < max_records → LinkOk (packed s g n)
packed_ok s g n a b c =
    record { slot = rw (packed_slot s g n a b) a; given = rw (packed_given s g n a b) b; next = rw (packed_next s g n a b) c }

-- where the links of a mode start
pub by_mode : (P : ℕ → Type 0) (m : ℕ) → P ins_from → P outs_from → P (links_from m)
unfolding links_from choose
by_mode P m a b = go (eqb m in_mode)
  where
    go : (c : Bool) → P (choose c ins_from outs_from)
    go true = a
    go false = b

-- the first argument by a link w of argument a
abbrev pub first_by : ℕ → ℕ → ℕ
first_by a w = choose (eqb (slot_of w) 0) (w / link_unit) a

pub first_by_law : (P : ℕ → Type 0) (a w : ℕ) → P (w / link_unit) → P a → P (first_by a w)
unfolding choose
first_by_law P a w x y = go (eqb (slot_of w) 0)
  where
    go : (c : Bool) → P (choose c (w / link_unit) a)
    go true = x
    go false = y

module _ {f : List ℕ} {j : ℕ} {t : List ℕ} (J : Joinable f j t) where
  leads : (m a : ℕ) → a < max_records → get_or t (links_from m + a) 0 / link_unit < max_records
  leads m a l = by_mode (λ s. get_or t (s + a) 0 / link_unit < max_records) m (go_ins (dec_lt a j)) (go_outs (dec_lt a j))
    where
      go_ins : Dec (a < j) → get_or t (ins_from + a) 0 / link_unit < max_records
      go_ins (yes h) = let s = J.slots a h in omega arith
      go_ins (no h) = (J.ins a (omega (arith, h)) l).next

      go_outs : Dec (a < j) → get_or t (outs_from + a) 0 / link_unit < max_records
      go_outs (yes h) = let s = J.modes a h in omega arith
      go_outs (no h) = (J.outs a (omega (arith, h)) l).next

  pub first_below : (m a : ℕ) → a < max_records → first_in m a t < max_records
  unfolding first_in
  first_below m a l = first_by_law (λ n. n < max_records) a (get_or t (links_from m + a) 0) (leads m a l) l

-- ---- calls and arguments
module _ {f : List ℕ} (F : Formed f) (i : ℕ) where
  pub call_at_test : is_kind f call_kind i ≡ true → CallAt f i (word f i next_word) (word f i call_procedure) (word f i call_arguments)
  call_at_test e = call_here F refl (kind_is f i call_kind e)

  pub argument_at_test : is_kind f argument_kind i ≡ true → ArgumentAt f i (word f i next_word) (word f i argument_variable)
  unfolding all_rows
  argument_at_test e = argument_at F refl (by_number f i k_argument refl (kind_is f i argument_kind e))

-- ---- one step: its own record's words, and no others
module _ (f : List ℕ) where
  pub joined_length : (i : ℕ) (t : List ℕ) → length (joined_at f i t) ≡ length t
  unfolding joined_at
  joined_length i t =
      let a = goal_of f i t in
      let b = link_of f in_mode i t t in
      length-set (set (set t i a) (ins_from + i) b) (outs_from + i) (link_of f out_mode i t t) ∙ length-set (set t i a) (ins_from + i) b ∙ length-set t i a

  module _ (i : ℕ) (l : i < max_records) (t : List ℕ) where
    pub joined_own : (p : ℕ) → (p % max_records ≡ i → ⊥) → get_or (joined_at f i t) p 0 ≡ get_or t p 0
    unfolding joined_at
    joined_own p n =
        let a = goal_of f i t in
        let b = link_of f in_mode i t t in
        get_or-set_other (set (set t i a) (ins_from + i) b) (outs_from + i) p (link_of f out_mode i t t) 0 (λ e. n (omega arith))
        ∙ get_or-set_other (set t i a) (ins_from + i) p b 0 (λ e. n (omega arith)) ∙ get_or-set_other t i p a 0 (λ e. n (omega arith))

    module _ (h : length t ≡ plan_words) where
      pub joined_goal : get_or (joined_at f i t) i 0 ≡ goal_of f i t
      unfolding joined_at
      joined_goal =
          let a = goal_of f i t in
          let b = link_of f in_mode i t t in
          get_or-set_other (set (set t i a) (ins_from + i) b) (outs_from + i) i (link_of f out_mode i t t) 0 (λ e. omega arith)
          ∙ get_or-set_other (set t i a) (ins_from + i) i b 0 (λ e. omega arith) ∙ get_or-set_same t i a 0 (omega arith)

      pub joined_ins : get_or (joined_at f i t) (ins_from + i) 0 ≡ link_of f in_mode i t t
      unfolding joined_at
      joined_ins =
          let a = goal_of f i t in
          let b = link_of f in_mode i t t in
          get_or-set_other (set (set t i a) (ins_from + i) b) (outs_from + i) (ins_from + i) (link_of f out_mode i t t) 0 (λ e. omega arith)
          ∙ get_or-set_same (set t i a) (ins_from + i) b 0 (omega (arith, length-set t i a))

      pub joined_outs : get_or (joined_at f i t) (outs_from + i) 0 ≡ link_of f out_mode i t t
      unfolding joined_at
      joined_outs =
          let a = goal_of f i t in
          let b = link_of f in_mode i t t in
          get_or-set_same (set (set t i a) (ins_from + i) b) (outs_from + i) (link_of f out_mode i t t) 0
          (omega (arith, length-set (set t i a) (ins_from + i) b, length-set t i a))

-- ---- the link that a step puts can be followed
module _ {f : List ℕ} (F : Formed f) {i : ℕ} {t : List ℕ} (J : Joinable f (suc i) t) where
  below : {w : ℕ} → w < record_count f → w < max_records
  below l = omega (arith, l, (counted F).most)

  module _ (m : ℕ) (some : m ≡ 0 → ⊥) where
    argument_ok : is_kind f argument_kind i ≡ true → LinkOk (argument_link f m i t t)
    unfolding argument_link choose
    argument_ok e = go (eqb (get_or t (modes_from + i) 0) m) refl
      where
        next : first_in m (word f i next_word) t < max_records
        next = first_below J m (word f i next_word) (below (argument_at_test F i e).to_next.stands.below)

        go : (b : Bool) → eqb (get_or t (modes_from + i) 0) m ≡ b
            → LinkOk (choose b (packed (get_or t (slots_from + i) 0) (word f i argument_variable) (first_in m (word f i next_word) t)) (packed 0 0 (first_in m (word f i next_word) t)))
        go true q = packed_ok _ _ _ (J.slots i (omega arith)) (J.givens i (omega arith) (λ z. some (sym (eqb-true _ _ q) ∙ z))) next
        go false q = packed_ok 0 0 _ (omega arith) (omega arith) next

    link_ok : LinkOk (link_of f m i t t)
    unfolding link_of choose
    link_ok = go (is_kind f call_kind i) (is_kind f argument_kind i) refl refl
      where
        go : (b c : Bool) → is_kind f call_kind i ≡ b → is_kind f argument_kind i ≡ c
            → LinkOk (choose b (packed 0 0 (first_in m (word f i call_arguments) t)) (choose c (argument_link f m i t t) 0))
        go true c p q =
            packed_ok 0 0 _ (omega arith) (omega arith)
            (first_below J m (word f i call_arguments) (below (call_at_test F i p).to_arguments.stands.below))
        go false true p q = argument_ok q
        go false false p q = small_ok 0 (omega arith)

-- ---- so that each step leaves what the next one asks
module _ {f : List ℕ} (F : Formed f) where
  pub joinable_step : {i : ℕ} {t : List ℕ} → Joinable f (suc i) t → Joinable f i (joined_at f i t)
  joinable_step {i} {t} J = record {
    long = joined_length f i t ∙ J.long;
    most = omega (arith, J.most);
    slots = λ a h. let o = other (slots_from + a) (λ z. omega (arith, J.most)) in omega (arith, o, J.slots a (omega arith));
    modes = λ a h. let o = other (modes_from + a) (λ z. omega (arith, J.most)) in omega (arith, o, J.modes a (omega arith));
    givens = λ a h n. let o = other (modes_from + a) (λ z. omega (arith, J.most)) in J.givens a (omega arith) (λ z. n (o ∙ z));
    ins = λ a h l. elim (ℕ_discrete i a) [
      | yes e ↦ rw (← e, joined_ins f i low t J.long) (link_ok F J in_mode (λ z. omega arith))
      | no ne ↦ rw (other (ins_from + a) (λ z. omega (arith, ne))) (J.ins a (omega (arith, ne)) l)
    ];
    outs = λ a h l. elim (ℕ_discrete i a) [
      | yes e ↦ rw (← e, joined_outs f i low t J.long) (link_ok F J out_mode (λ z. omega arith))
      | no ne ↦ rw (other (outs_from + a) (λ z. omega (arith, ne))) (J.outs a (omega (arith, ne)) l)
    ];
  }
    where
      low : i < max_records
      low = omega (arith, J.most)

      other : (p : ℕ) → (p % max_records ≡ i → ⊥) → get_or (joined_at f i t) p 0 ≡ get_or t p 0
      other = joined_own f i low t

  pub joinable_down : (n : ℕ) (t : List ℕ) → Joinable f n t → Joinable f 0 (each_down (joined_at f) n t)
  unfolding each_down
  joinable_down zero t J = J
  joinable_down (suc n) t J = joinable_down n (joined_at f n t) (joinable_step J)
