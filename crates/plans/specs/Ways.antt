-- What the functions of the links come to on each way through them.
use Rattle.std.specs.Prelude.{ℕ, ◌+◌, ◌*◌, ◌/◌, ◌%◌, ◌<◌, List, ◌≡◌, get_or}
use Rattle.std.proofs.Common.{arith, sym, ap, ◌∙◌}
use Rattle.std.proofs.Math.Path.{refl}
use borrow.Author.Tests.{eq-eqb, ne_eqb}
use Rattle.language.specs.Lists.{choose}
use Rattle.language.specs.File.{word}
use Rattle.language.specs.Format.{max_records, kind_word, next_word, arm_kind, call_kind, argument_kind, arm_goals, call_arguments, argument_variable}
use Rattle.language.specs.Program.{in_mode}
use Rattle.chains.specs.Formed.{Formed, counted}
use Rattle.word_machine.specs.Tables.{given_unit, link_unit, slot_of, onto}
use Rattle.word_machine.specs.Passing.{packed}
use Rattle.plans.specs.Plan.{ins_from, outs_from, sides_from, links_from}
use Rattle.plans.specs.Passes.{slots_from, modes_from, first_in, goal_of, argument_link, link_of}
use Rattle.plans.specs.Tests.{kind_yes, kind_no}
use Rattle.plans.specs.Links.{by_mode, call_at_test, argument_at_test}

-- ---- where links start, and the first argument from a link on
module _ (m : ℕ) where
  pub links_in : m ≡ in_mode → ins_from ≡ links_from m
  unfolding links_from choose
  links_in e = rw e refl

  pub links_out : (m ≡ in_mode → ⊥) → outs_from ≡ links_from m
  unfolding links_from choose
  links_out n = rw (ne_eqb m in_mode n) refl

  pub links_low : (a : ℕ) → a < max_records → links_from m + a < sides_from
  links_low a l = by_mode (λ s. s + a < sides_from) m (omega arith) (omega arith)

  module _ (a : ℕ) (t : List ℕ) {s w : ℕ} (d : s ≡ links_from m) (e : w ≡ get_or t (s + a) 0) where
    same : get_or t (links_from m + a) 0 ≡ w
    same = ap (λ k. get_or t (k + a) 0) (sym d) ∙ sym e

    pub first_behind : w % given_unit ≡ 0 → w / link_unit ≡ first_in m a t
    unfolding first_in slot_of choose
    first_behind z = rw (same, eq-eqb (w % given_unit) 0 z) refl

    pub first_here : (w % given_unit ≡ 0 → ⊥) → a ≡ first_in m a t
    unfolding first_in slot_of choose
    first_here z = rw (same, ne_eqb (w % given_unit) 0 z) refl

-- ---- record i, whose kind is w
module _ (f : List ℕ) (i : ℕ) (t : List ℕ) {w : ℕ} (e : w ≡ word f i kind_word) where
  -- ---- where it goes on
  pub goal_arm : w ≡ arm_kind → {g r : ℕ} → g ≡ word f i arm_goals → r ≡ onto g (get_or t i 0) → r ≡ goal_of f i t
  unfolding goal_of choose
  goal_arm k eg er = rw (kind_yes f i arm_kind e k, ← eg) er

  pub goal_other : (w ≡ arm_kind → ⊥) → {g r : ℕ} → g ≡ word f i next_word → r ≡ onto g (get_or t i 0) → r ≡ goal_of f i t
  unfolding goal_of choose
  goal_other n eg er = rw (kind_no f i arm_kind e n, ← eg) er

  -- ---- its link
  module _ (m : ℕ) where
    pub link_none : (w ≡ call_kind → ⊥) → (w ≡ argument_kind → ⊥) → 0 ≡ link_of f m i t t
    unfolding link_of choose
    link_none n k = rw (kind_no f i call_kind e n, kind_no f i argument_kind e k) refl

    pub link_call : w ≡ call_kind → {a n : ℕ} → a ≡ word f i call_arguments → n ≡ first_in m a t → link_unit * n ≡ link_of f m i t t
    unfolding link_of choose packed
    link_call k {a} {n} ea en = rw (kind_yes f i call_kind e k, ← ea, ← en) (omega arith)

    module _ (c : w ≡ call_kind → ⊥) (k : w ≡ argument_kind) {a n : ℕ} (ea : a ≡ word f i next_word) (en : n ≡ first_in m a t) where
      pub link_other : (get_or t (modes_from + i) 0 ≡ m → ⊥) → link_unit * n ≡ link_of f m i t t
      unfolding link_of argument_link choose packed
      link_other z = rw (kind_no f i call_kind e c, kind_yes f i argument_kind e k, ne_eqb (get_or t (modes_from + i) 0) m z, ← ea, ← en) (omega arith)

      pub link_own : get_or t (modes_from + i) 0 ≡ m → {v : ℕ} → v ≡ word f i argument_variable → get_or t (slots_from + i) 0 + given_unit * v + link_unit * n ≡ link_of f m i t t
      unfolding link_of argument_link choose packed
      link_own z ev = rw (kind_no f i call_kind e c, kind_yes f i argument_kind e k, eq-eqb (get_or t (modes_from + i) 0) m z, ← ea, ← en, ← ev) refl

-- ---- the arguments that it leads to, and the first of the mode among them
module _ {f : List ℕ} (F : Formed f) (i : ℕ) {w : ℕ} (e : w ≡ word f i kind_word) {a : ℕ} where
  pub call_leads : w ≡ call_kind → a ≡ word f i call_arguments → a < max_records
  call_leads k ea = let h = (call_at_test F i (kind_yes f i call_kind e k)).to_arguments.stands.below in omega (arith, ea, (counted F).most)

  pub argument_leads : w ≡ argument_kind → a ≡ word f i next_word → a < max_records
  argument_leads k ea = let h = (argument_at_test F i (kind_yes f i argument_kind e k)).to_next.stands.below in omega (arith, ea, (counted F).most)
