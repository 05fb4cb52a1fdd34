-- The walk over goals: a chain of goals, an if, a try, a switch, its arms. What the code tests is what the definition says.
use Prim.Native.Nat.{ℕ, suc}
use native.Mathlib.Omega.{arith}
use native.Mathlib.Decide.{dec_lt}
use mathlib.Core.Path.{◌≡◌, refl, ap, sym, ◌∙◌}
use mathlib.Core.Bool.{Bool, true, false}
use mathlib.Core.List.{List}
use lib.Dec.{eqb, leb}
use borrow.Author.Tests.{eq-eqb, ne_eqb, le-leb, lt-leb, lt-ltb, le-ltb}
use Rattle.sets.specs.Tests.{◌&◌}
use Rattle.language.specs.Format.{next_word, variable_type, goal_x, term_functor, switch_arms, arm_goals, if_y, if_z, if_then, if_else, try_condition, try_then, try_else}
use Rattle.language.specs.File.{functors, goals, arms, word}
use Rattle.language.specs.Program.{Goals, Goal, ◌then◌, Signature, functors_of, type_of}
use Rattle.language.specs.Answers.{program}
use Rattle.language.specs.Typing.{is_variable, has_type, functors_for, arguments_ok, goals_ok, goal_ok, arms_ok}
use Rattle.chains.specs.Parts.{four_at}
use Rattle.chains.specs.Formed.{Formed, Stands, goals_at, goal_at, goals_none, arms_at, arms_none, functors_at, functors_none}
use Rattle.chains.specs.Is.{goals_step}
use Rattle.chains.specs.Shapes.{IsSwitch, IsIf, IsTry, switch_here, if_here, try_here, arm_here}
use Rattle.laws.specs.Tests.{and_assoc, and_stop, and_on, refuse, pass}
use Rattle.declarations.specs.DeclaredPlaces.{variable_in, functor_in}
use Rattle.declarations.specs.Functors.{functor_at_record, functors_step}
use Rattle.declarations.specs.Declares.{Declares, functors_here}
use Rattle.declarations.specs.Own.{Own, declared, variable_none, variable_some, variable_type_law}
use Rattle.typing.specs.Arguments.{arm_fits}

-- ---- a chain of goals
module _ (f : List ℕ) (S : Signature) where
  goals_as : {gs hs : Goals} {g : Goal} → gs ≡ g then hs → goals_ok (program f) S gs ≡ (goal_ok (program f) S g & goals_ok (program f) S hs)
  unfolding goals_ok
  goals_as e = rw e

  module _ (i : ℕ) (F : Formed f) (s : Stands f goals i) (z : i ≡ 0 → ⊥) {r : Bool} (e : r ≡ goal_ok (program f) S (goal_at f i)) where
    pub goals_no : r ≡ false → false ≡ goals_ok (program f) S (goals_at f i)
    goals_no p = refuse _ e p ∙ sym (goals_as (goals_step {w = word f i next_word} F s z refl))

    pub goals_yes : {w : ℕ} → r ≡ true → w ≡ word f i next_word → goals_ok (program f) S (goals_at f w) ≡ goals_ok (program f) S (goals_at f i)
    goals_yes p ew = pass e p refl ∙ sym (goals_as (goals_step F s z ew))

  pub goals_end : {i : ℕ} → i ≡ 0 → true ≡ goals_ok (program f) S (goals_at f i)
  unfolding goals_ok
  goals_end z = rw (goals_none f z)

module _ {f : List ℕ} (F : Formed f) (S : Signature) where
  -- ---- an if: first the two numbers, then the two parts
  module _ (i : ℕ) (n : IsIf f i) {r1 : Bool} (e1 : r1 ≡ has_type S 0 (word f i if_y)) where
    if_as : (has_type S 0 (word f i if_y) & has_type S 0 (word f i if_z) & goals_ok (program f) S (goals_at f (word f i if_then)) & goals_ok (program f) S (goals_at f (word f i if_else)))
        ≡ goal_ok (program f) S (goal_at f i)
    unfolding goal_ok
    if_as = rw (if_here F refl n).goal

    pub if_first : r1 ≡ false → false ≡ goal_ok (program f) S (goal_at f i)
    if_first p = refuse _ e1 p ∙ if_as

    module _ (p1 : r1 ≡ true) {r2 : Bool} (e2 : r2 ≡ has_type S 0 (word f i if_z)) where
      pub if_second : r2 ≡ false → false ≡ goal_ok (program f) S (goal_at f i)
      if_second p = pass e1 p1 (refuse _ e2 p) ∙ if_as

      module _ (p2 : r2 ≡ true) {u : ℕ} (eu : u ≡ word f i if_then) {r3 : Bool} (e3 : r3 ≡ goals_ok (program f) S (goals_at f u)) where
        then_is : r3 ≡ goals_ok (program f) S (goals_at f (word f i if_then))
        then_is = e3 ∙ ap (λ j. goals_ok (program f) S (goals_at f j)) eu

        pub if_then_law : r3 ≡ false → false ≡ goal_ok (program f) S (goal_at f i)
        if_then_law p = pass e1 p1 (pass e2 p2 (refuse _ then_is p)) ∙ if_as

        pub if_else_law : {v : ℕ} {r4 : Bool} → r3 ≡ true → v ≡ word f i if_else → r4 ≡ goals_ok (program f) S (goals_at f v) → r4 ≡ goal_ok (program f) S (goal_at f i)
        if_else_law p ev e4 = pass e1 p1 (pass e2 p2 (pass then_is p (e4 ∙ ap (λ j. goals_ok (program f) S (goals_at f j)) ev))) ∙ if_as

  -- ---- a try: its three parts in turn
  module _ (i : ℕ) (n : IsTry f i) {u : ℕ} (eu : u ≡ word f i try_condition) {r1 : Bool} (e1 : r1 ≡ goals_ok (program f) S (goals_at f u)) where
    try_as : (goals_ok (program f) S (goals_at f u) & goals_ok (program f) S (goals_at f (word f i try_then)) & goals_ok (program f) S (goals_at f (word f i try_else)))
        ≡ goal_ok (program f) S (goal_at f i)
    unfolding goal_ok
    try_as = rw ((try_here F refl n).goal, eu)

    pub try_condition_law : r1 ≡ false → false ≡ goal_ok (program f) S (goal_at f i)
    try_condition_law p = refuse _ e1 p ∙ try_as

    module _ (p1 : r1 ≡ true) {v : ℕ} (ev : v ≡ word f i try_then) {r2 : Bool} (e2 : r2 ≡ goals_ok (program f) S (goals_at f v)) where
      pub try_then_law : r2 ≡ false → false ≡ goal_ok (program f) S (goal_at f i)
      try_then_law p = pass e1 p1 (refuse _ (rw ev at e2) p) ∙ try_as

      pub try_else_law : {w : ℕ} {r3 : Bool} → r2 ≡ true → w ≡ word f i try_else → r3 ≡ goals_ok (program f) S (goals_at f w) → r3 ≡ goal_ok (program f) S (goal_at f i)
      try_else_law p ew e3 = pass e1 p1 (pass (rw ev at e2) p (rw ew at e3)) ∙ try_as

  -- ---- the arms and the functors side by side
  module _ (i g n : ℕ) (sa : Stands f arms i) (za : i ≡ 0 → ⊥) (s : Stands f functors g) {r1 : Bool} (e1 : r1 ≡ arm_fits f S g n i) where
    arms_as : (arm_fits f S g n i & goals_ok (program f) S (goals_at f (word f i arm_goals)) & arms_ok (program f) S (arms_at f (word f i next_word)) (functors_at f (word f g next_word)) (suc n))
        ≡ arms_ok (program f) S (arms_at f i) (functors_at f g) n
    unfolding arms_ok arm_fits ◌&◌
    arms_as =
        elim (dec_lt 0 g) [
          | yes l ↦
              ap (λ b. (b & eqb (word f i term_functor) n & arguments_ok S (functor_at_record f g) (four_at f i)) & goals_ok (program f) S (goals_at f (word f i arm_goals)) & arms_ok (program f) S (arms_at f (word f i next_word)) (functors_at f (word f g next_word)) (suc n)) (lt-ltb 0 g l)
              ∙ and_assoc (eqb (word f i term_functor) n) _ _
              ∙ rw ((arm_here F za sa).view, functors_step F g s (λ e. omega arith))
          | no l ↦ rw (le-ltb 0 g (omega arith), (arm_here F za sa).view, functors_none f {i = g} (omega arith))
        ]

    pub arms_unfit : r1 ≡ false → false ≡ arms_ok (program f) S (arms_at f i) (functors_at f g) n
    arms_unfit p = refuse _ e1 p ∙ arms_as

    module _ (p1 : r1 ≡ true) {u : ℕ} (eu : u ≡ word f i arm_goals) {r2 : Bool} (e2 : r2 ≡ goals_ok (program f) S (goals_at f u)) where
      part_is : r2 ≡ goals_ok (program f) S (goals_at f (word f i arm_goals))
      part_is = e2 ∙ ap (λ j. goals_ok (program f) S (goals_at f j)) eu

      pub arms_goals : r2 ≡ false → false ≡ arms_ok (program f) S (arms_at f i) (functors_at f g) n
      arms_goals p = pass e1 p1 (refuse _ part_is p) ∙ arms_as

      pub arms_next : {v w m : ℕ} → r2 ≡ true → v ≡ word f i next_word → w ≡ word f g next_word → m ≡ suc n
          → arms_ok (program f) S (arms_at f v) (functors_at f w) m ≡ arms_ok (program f) S (arms_at f i) (functors_at f g) n
      arms_next p ev ew em = rw (ev, ew, em) (pass e1 p1 (pass part_is p refl) ∙ arms_as)

  pub arms_end : (i g n : ℕ) → Stands f functors g → i ≡ 0 → eqb g 0 ≡ arms_ok (program f) S (arms_at f i) (functors_at f g) n
  unfolding arms_ok
  arms_end i g n s z =
      elim (dec_lt 0 g) [
        | yes l ↦ rw (ne_eqb g 0 (λ e. omega arith), arms_none f z, functors_step F g s (λ e. omega arith))
        | no l ↦ rw (eq-eqb g 0 (omega arith), arms_none f z, functors_none f {i = g} (omega arith))
      ]

-- ---- a switch: a variable of a type with functors, its record at v, then the arms
module _ {f t own : List ℕ} (D : Declares f t) (O : Own f own) (i : ℕ) (n : IsSwitch f i) {x v : ℕ} (ex : x ≡ word f i goal_x) (ev : v ≡ variable_in own x) where
  switch_as : (is_variable (declared f own) x & leb 1 (type_of (declared f own) x) & arms_ok (program f) (declared f own) (arms_at f (word f i switch_arms)) (functors_of (program f).types (type_of (declared f own) x)) 0)
      ≡ goal_ok (program f) (declared f own) (goal_at f i)
  unfolding goal_ok functors_for
  switch_as = rw ((switch_here D.formed refl n).goal, ex)

  pub switch_none : v ≡ 0 → false ≡ goal_ok (program f) (declared f own) (goal_at f i)
  switch_none z = and_stop _ (variable_none D.formed O x ev z) ∙ switch_as

  module _ (z : v ≡ 0 → ⊥) {ty : ℕ} (et : ty ≡ word f v variable_type) where
    switch_some : {q : Bool} → q ≡ (leb 1 ty & arms_ok (program f) (declared f own) (arms_at f (word f i switch_arms)) (functors_of (program f).types ty) 0) → q ≡ goal_ok (program f) (declared f own) (goal_at f i)
    switch_some e = and_on (variable_some D.formed O x ev z) (rw (variable_type_law D.formed O x ev z, sym et) e) ∙ switch_as

    pub switch_number : ty ≡ 0 → false ≡ goal_ok (program f) (declared f own) (goal_at f i)
    switch_number y = switch_some (and_stop _ (lt-leb 1 ty (omega arith)))

    pub switch_arms_law : (ty ≡ 0 → ⊥) → {u w : ℕ} {q : Bool} → u ≡ functor_in t ty 0 → w ≡ word f i switch_arms → q ≡ arms_ok (program f) (declared f own) (arms_at f w) (functors_at f u) 0
        → q ≡ goal_ok (program f) (declared f own) (goal_at f i)
    switch_arms_law y {u} eu ew eq =
        switch_some (and_on (le-leb 1 ty (omega arith)) (eq ∙ ap (λ j. arms_ok (program f) (declared f own) (arms_at f j) (functors_at f u) 0) ew
        ∙ ap (λ fs. arms_ok (program f) (declared f own) (arms_at f (word f i switch_arms)) fs 0) (functors_here D ty eu)))
