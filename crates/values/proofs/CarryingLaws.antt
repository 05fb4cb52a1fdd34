-- What a step's and an arm's row do to them; where paths meet.
use Prim.Native.Nat.{ℕ}
use mathlib.Core.Path.{◌≡◌, refl, ap, ap₂, ◌∙◌}
use mathlib.Core.Bool.{Bool, true, false}
use Rattle.std.specs.Prelude.{Option, None, Some}
use mathlib.Core.List.{List}
use Rattle.sets.specs.Sets.{member, ◌∪◌, ◌∩◌}
use Rattle.sets.specs.SetLaws.{union_comm, intersection_comm}
use Rattle.sets.specs.Members.{set_of}
use Rattle.language.specs.File.{goals, arms, word}
use Rattle.language.specs.Format.{kind_word, goal_x, switch_arms, switch_kind, if_kind, try_kind}
use Rattle.language.specs.Program.{Step}
use Rattle.language.specs.Values.{reads, gives}
use Rattle.language.specs.Answers.{program}
use Rattle.chains.specs.Formed.{Formed, Stands}
use Rattle.chains.specs.Parts.{four_at}
use Rattle.tables.specs.Filled.{GoalIsStep}
use Rattle.accesses.specs.Fitting.{arm_arguments}
use Rattle.accesses.specs.Noting.{AllNoted}
use Rattle.chains.specs.Shapes.{IsSwitch}
use Rattle.walks.specs.Along.{switch_walked}
use Rattle.walks.specs.Closed.{one_at}
use Rattle.walks.specs.Walk.{outcome, goes_on, step_goes}
use Rattle.values.specs.Valuing.{both, valuer}
use Rattle.values.specs.declared.carried.Valuation.{Valuation}
use Rattle.values.specs.Carrying.{GoalValued, RowValued, GoalAfter, ArmsAfter, RowAfter}

module _ (f : List ℕ) {rows : List ℕ} (N : AllNoted f rows) where
  -- ---- a step's row
  row_step : (i : ℕ) {g : Step} (c d : Valuation) (r : Bool) → GoalIsStep f i g → RowValued rows i c r d → outcome r d ≡ (valuer (program f)).at_step g c
  unfolding valuer reads gives
  row_step i {g} c d r s m = let h = (N.at i).step g s in m ∙ rw (h.read, h.given, h.none_twice) refl

  pub goal_step : (F : Formed f) (i : ℕ) (S : Stands f goals i) (z : i ≡ 0 → ⊥) {w : ℕ} (e : w ≡ word f i kind_word) (p : w ≡ switch_kind → ⊥) (q : w ≡ if_kind → ⊥)
      (t : w ≡ try_kind → ⊥) → (c d : Valuation) (r : Bool) → RowValued rows i c r d → GoalValued f i c r d
  goal_step F i S z e p q t c d r m =
      let s = one_at F i S z e p q t in
      step_goes (valuer (program f)) c d r s.view (row_step i c d r s m)

  pub goal_after : (F : Formed f) (i : ℕ) (S : Stands f goals i) (z : i ≡ 0 → ⊥) {w : ℕ} (e : w ≡ word f i kind_word) (p : w ≡ switch_kind → ⊥) (q : w ≡ if_kind → ⊥)
      (t : w ≡ try_kind → ⊥) → (c : Valuation) (o : Option Valuation) → RowAfter rows i c o → GoalAfter f i c o
  goal_after F i S z e p q t c None m = goal_step F i S z e p q t c c false m
  goal_after F i S z e p q t c (Some d) m = goal_step F i S z e p q t c d true m

  -- ---- an arm's row
  module _ (i : ℕ) (S : Stands f arms i) (z : i ≡ 0 → ⊥) where
    pub row_arm : (c d : Valuation) (r : Bool) → RowValued rows i c r d
        → outcome r d ≡ (valuer (program f)).enter (four_at f i) c
    unfolding valuer set_of arm_arguments
    row_arm c d r m = let h = (N.at i).arm S z in m ∙ rw (h.read, h.given, h.none_twice) refl

-- ---- what may be read
pub readable_is : (f : List ℕ) (c : Valuation) {b : Bool} (x : ℕ) → b ≡ member c.every x → b ≡ (valuer (program f)).readable c x
unfolding valuer
readable_is f c x h = h

-- ---- paths meet: a was carried behind the one, b behind the other
pub joined : (f : List ℕ) (a b c : Valuation) → c ≡ both (a.every ∩ b.every) (a.some ∪ b.some) → outcome true c ≡ (valuer (program f)).join a b
unfolding valuer outcome
joined f a b c e = ap goes_on e

-- the same whichever is named first
pub joined_back : (f : List ℕ) (a b c : Valuation) → c ≡ both (b.every ∩ a.every) (b.some ∪ a.some) → outcome true c ≡ (valuer (program f)).join a b
joined_back f a b c e = joined f a b c (e ∙ ap₂ both (intersection_comm b.every a.every) (union_comm b.some a.some))

-- ---- a switch does what its arms do
pub switch_after : {f : List ℕ} (i : ℕ) (c : Valuation) {x w : ℕ} {b : Bool} → Formed f → IsSwitch f i → x ≡ word f i goal_x → b ≡ member c.every x → b ≡ true
    → w ≡ word f i switch_arms → (o : Option Valuation) → ArmsAfter f w c o → GoalAfter f i c o
switch_after {f} i c {x} F k e h t g None m = switch_walked _ _ F i k c e (readable_is f c x h) t c false g m
switch_after {f} i c {x} F k e h t g (Some d) m = switch_walked _ _ F i k c e (readable_is f c x h) t d true g m
