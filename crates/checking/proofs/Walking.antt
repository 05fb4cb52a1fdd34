-- The walk over goals, one law for each way through it, over the code's own values: the laws of every walk, with the procedure that the records belong
-- to carried along.
use Prim.Native.Nat.{ℕ, ◌≤◌}
use native.Mathlib.Omega.{arith}
use mathlib.Core.Path.{◌≡◌, refl, ap, ap₂, ◌∙◌}
use mathlib.Core.Bool.{Bool, true, false}
use mathlib.Core.List.{List}
use Rattle.sets.specs.Sets.{member}
use Rattle.sets.specs.declared.Set.{Set}
use Rattle.language.specs.File.{goals, arms, word}
use Rattle.language.specs.Program.{Signature, Program, ◌then◌, Goals, Goal, step, signature_of}
use Rattle.language.specs.Checking.{sound_given}
use Rattle.language.specs.Answers.{program}
use Rattle.language.specs.Format.{kind_word, next_word, arm_goals, goal_x, if_else, if_kind, if_then, if_y, if_z, switch_arms, switch_kind, try_condition, try_else, try_kind, try_then}
use Rattle.chains.specs.Formed.{Formed, Stands, Onward, ahead, goals_at, goal_at}
use Rattle.chains.specs.Is.{goals_step}
use Rattle.chains.specs.Shapes.{IsSwitch, IsIf, IsTry, goal_here, step_here}
use Rattle.chains.specs.Parts.{four_at}
use Rattle.walks.specs.Walk.{outcome, goes_on, Walker, walk_goals, chain_stop, chain_next, step_goes}
use Rattle.walks.specs.Along.{GoalsWalked, none_walked, switch_stops, switch_walked, if_unread, if_unread_2, if_then_stops, if_else_stops, if_walked, condition_stops, try_then_stops, try_else_stops, try_walked, arms_none_walked, arm_stops, arm_last, arm_rest_stops, arms_walked}
use Rattle.tables.specs.Rows.{gives_in}
use Rattle.tables.specs.Filled.{Belongs}
use Rattle.checking.specs.Checker.{CheckState, carrying, checker}
use Rattle.checking.specs.Carried.{state}
use Rattle.checking.specs.declared.carried.Carried.{Carried}
use Rattle.checking.specs.Sound.{ReachesAll}
use Rattle.checking.specs.Rules.{StepChecked, StepAfter}
use Rattle.checking.specs.Ready.{Ready, GoalsChecked, GoalChecked, ArmsChecked, GoalAfter, ArmsAfter}
use Rattle.std.proofs.Common.{Option, None, Some}

-- the walk of procedure q's goals
abbrev walker : List ℕ → ℕ → Walker CheckState
walker f q = checker (program f) (signature_of (program f) q)

-- what a test of a sound variable says
test_of : (f : List ℕ) (c : Carried) {t : Set} → t ≡ c.sound → (q x : ℕ) {b : Bool} → b ≡ member t x → b ≡ (walker f q).readable (state c) x
unfolding checker
test_of f c e q x h = h ∙ ap (λ (u : Set). member u x) e

-- ---- along a chain
pub record Walking (f rows own : List ℕ) (start : ℕ) (c₀ c : Carried) (i : ℕ) : Type 0 where
  pub stands : Stands f goals i
  pub near : ahead f i ≤ ahead f start
  pub rest : (o : ℕ → ℕ) (q : ℕ) → Ready f rows own o q → Belongs o q start
      → Belongs o q i × (walk_goals (walker f q) (goals_at f i) (state c) ≡ walk_goals (walker f q) (goals_at f start) (state c₀))

-- no goals
pub none_checked : (f rows own : List ℕ) {i : ℕ} (c : Carried) → i ≡ 0 → GoalsChecked f rows own i c true c
none_checked f rows own c z o q y p = none_walked (walker f q) f (state c) z

module _ {f rows own : List ℕ} {start : ℕ} {c₀ c : Carried} {i : ℕ} (F : Formed f) (w : Walking f rows own start c₀ c i) where
  pub walk_last : i ≡ 0 → GoalsChecked f rows own start c₀ true c
  walk_last z o q y p = none_walked (walker f q) f (state c) z ∙ (w.rest o q y p).1

  module _ (z : i ≡ 0 → ⊥) where
    here : goals_at f i ≡ goal_at f i then goals_at f (word f i next_word)
    here = goals_step F w.stands z refl

    pub walk_onward : {n : ℕ} → n ≡ word f i next_word → Onward f goals i n
    walk_onward k = rw k (goal_here F w.stands z).to_next

    module _ (c' : Carried) (b : Bool) (m : GoalChecked f rows own i c b c') where
      pub walk_stop : (d : Carried) → b ≡ false → GoalsChecked f rows own start c₀ false d
      walk_stop d e o q y p =
          let r = w.rest o q y p in
          chain_stop (walker f q) (state c) (state c') here (m o q y (r.0 z)) (state d) e ∙ r.1

      pub walk_next : {n : ℕ} → b ≡ true → n ≡ word f i next_word → Walking f rows own start c₀ c' n
      walk_next {n} e j =
          let u = walk_onward j in
          record {
            stands = u.stands;
            near = omega (arith, u.falls, w.near);
            rest = λ o q y p.
                let r = w.rest o q y p in (
                  λ v. y.owned.owning.to_next i w.stands z n j v ∙ r.0 z,
                  rw j (chain_next (walker f q) (state c) (state c') here (m o q y (r.0 z)) e) ∙ r.1,
                );
          }

-- ---- a step
same_goal : {gs hs ks : Goals} {g h : Goal} → gs ≡ g then hs → gs ≡ h then ks → g ≡ h
same_goal p q = cc

pub step_checked : {f : List ℕ} (rows own : List ℕ) (i : ℕ) (c : Carried) (b : Bool) (c' : Carried) {w : ℕ} → Formed f → Stands f goals i → (z : i ≡ 0 → ⊥)
    → w ≡ word f i kind_word → (w ≡ switch_kind → ⊥) → (w ≡ if_kind → ⊥) → (w ≡ try_kind → ⊥) → StepChecked rows own i c b c' → GoalChecked f rows own i c b c'
step_checked {f} rows own i c b c' F s z e p r n m o q y h =
    let t = step_here F s z e p r n in
    let v : goal_at f i ≡ step t.one = same_goal (goals_step F s z refl) t.view in
    step_goes (walker f q) (state c) (state c') b v (m f o q t.one y.accessed y.owned.effected y.window (record { stands = s; some = z; view = v }) h)

pub step_after : {f : List ℕ} (rows own : List ℕ) (i : ℕ) (c : Carried) {w : ℕ} → Formed f → Stands f goals i → (z : i ≡ 0 → ⊥)
    → w ≡ word f i kind_word → (w ≡ switch_kind → ⊥) → (w ≡ if_kind → ⊥) → (w ≡ try_kind → ⊥) → (r : Option Carried) → StepAfter rows own i c r → GoalAfter f rows own i c r
step_after rows own i c F s z e p q n None m = step_checked rows own i c false c F s z e p q n m
step_after rows own i c F s z e p q n (Some d) m = step_checked rows own i c true d F s z e p q n m

-- ---- a switch
module _ {f : List ℕ} (rows own : List ℕ) {i : ℕ} (c : Carried) (F : Formed f) (k : IsSwitch f i) {t : Set} {x : ℕ} {b : Bool} (et : t ≡ c.sound)
    (j : x ≡ word f i goal_x) (e : b ≡ member t x) where
  pub switch_broken : (d : Carried) → b ≡ false → GoalChecked f rows own i c false d
  switch_broken d p o q y h = switch_stops (walker f q) f F i k (state c) j (test_of f c et q x e) (state d) p

  pub switch_done : {w : ℕ} (r : Bool) (d : Carried) → b ≡ true → w ≡ word f i switch_arms → ArmsChecked f rows own w c r d → GoalChecked f rows own i c r d
  switch_done {w} r d p l m o q y h =
      switch_walked (walker f q) f F i k (state c) j (test_of f c et q x e) p (state d) r l
      (m o q y (λ v. y.owned.owning.to_arms i k w l v ∙ h))

pub switch_after : {f : List ℕ} (rows own : List ℕ) (i : ℕ) (c : Carried) → Formed f → IsSwitch f i → {t : Set} {x w : ℕ} {b : Bool} → t ≡ c.sound → x ≡ word f i goal_x
    → b ≡ member t x → b ≡ true → w ≡ word f i switch_arms → (r : Option Carried) → ArmsAfter f rows own w c r → GoalAfter f rows own i c r
switch_after rows own i c F k et j e p l None m = switch_done rows own c F k et j e false c p l m
switch_after rows own i c F k et j e p l (Some d) m = switch_done rows own c F k et j e true d p l m

-- ---- an if
module _ {f : List ℕ} (rows own : List ℕ) {i : ℕ} (c : Carried) (F : Formed f) (k : IsIf f i) {t : Set} {x : ℕ} {b : Bool} (et : t ≡ c.sound)
    (j : x ≡ word f i if_y) (e : b ≡ member t x) where
  pub if_broken : (d : Carried) → b ≡ false → GoalChecked f rows own i c false d
  if_broken d p o q y h = if_unread (walker f q) f F i k (state c) j (test_of f c et q x e) (state d) p

  module _ {x' : ℕ} {b' : Bool} (p : b ≡ true) (j' : x' ≡ word f i if_z) (e' : b' ≡ member t x') where
    pub if_broken_2 : (d : Carried) → b' ≡ false → GoalChecked f rows own i c false d
    if_broken_2 d p' o q y h =
        if_unread_2 (walker f q) f F i k (state c) j (test_of f c et q x e) p j' (test_of f c et q x' e') (state d) p'

    -- after the first part, whether it is broken or goes on to the second
    module _ (p' : b' ≡ true) {u : ℕ} (eu : u ≡ word f i if_then) (c₁ : Carried) (a₁ : Bool) (m₁ : GoalsChecked f rows own u c a₁ c₁) where
      pub then_broken : (d : Carried) → a₁ ≡ false → GoalChecked f rows own i c false d
      then_broken d e₁ o q y h =
          if_then_stops (walker f q) f F i k (state c) j (test_of f c et q x e) p j' (test_of f c et q x' e') p' (state c₁) a₁ eu (m₁ o q y (λ v. y.owned.owning.to_then i k u eu v ∙ h)) (state d) e₁

      module _ (e₁ : a₁ ≡ true) {v : ℕ} (ev : v ≡ word f i if_else) (c₂ : Carried) (eh : c₂.held ≡ c.held) (es : c₂.sound ≡ c.sound) (c₃ : Carried) (a₂ : Bool)
          (m₂ : GoalsChecked f rows own v c₂ a₂ c₃) where
        pub else_broken : (d : Carried) → a₂ ≡ false → GoalChecked f rows own i c false d
        else_broken d e₂ o q y h =
            if_else_stops (walker f q) f F i k (state c) j (test_of f c et q x e) p j' (test_of f c et q x' e') p' (state c₁) a₁ eu (m₁ o q y (λ n. y.owned.owning.to_then i k u eu n ∙ h)) e₁
            (state c₂) (ap₂ carrying eh es) (state c₃) a₂ ev (m₂ o q y (λ n. y.owned.owning.to_else i k v ev n ∙ h)) (state d) e₂

        pub if_done : (r : Bool) (d : Carried) {g s : Set} → a₂ ≡ true → g ≡ c₁.held → s ≡ c₁.sound
            → ((P : Program) (S : Signature) → outcome r (state d) ≡ (checker P S).join (carrying g s) (state c₃)) → GoalChecked f rows own i c r d
        if_done r d {g} {s} e₂ eg ef n o q y h =
            if_walked (walker f q) f F i k (state c) j (test_of f c et q x e) p j' (test_of f c et q x' e') p' (state c₁) a₁ eu (m₁ o q y (λ n. y.owned.owning.to_then i k u eu n ∙ h)) e₁
            (state c₂) (ap₂ carrying eh es) (state c₃) a₂ ev (m₂ o q y (λ n. y.owned.owning.to_else i k v ev n ∙ h)) (state d) r (carrying g s) (ap₂ carrying eg ef) e₂
            (n (program f) (signature_of (program f) q))

-- ---- a try
module _ {f : List ℕ} (rows own : List ℕ) {i : ℕ} (c : Carried) (F : Formed f) (k : IsTry f i) {u : ℕ} (eu : u ≡ word f i try_condition) (c₁ : Carried) (a₁ : Bool)
    (m₁ : GoalsChecked f rows own u c a₁ c₁) where
  in_condition : (o : ℕ → ℕ) (q : ℕ) → Ready f rows own o q → o i ≡ q → GoalsWalked (walker f q) f u (state c) a₁ (state c₁)
  in_condition o q y h = m₁ o q y (λ n. y.owned.owning.to_condition i k u eu n ∙ h)

  pub condition_broken : (d : Carried) → a₁ ≡ false → GoalChecked f rows own i c false d
  condition_broken d e₁ o q y h = condition_stops (walker f q) f F i k (state c) (state c₁) a₁ eu (in_condition o q y h) (state d) e₁

  module _ (e₁ : a₁ ≡ true) {v : ℕ} (ev : v ≡ word f i try_then) (c₂ : Carried) (a₂ : Bool) (m₂ : GoalsChecked f rows own v c₁ a₂ c₂) where
    in_then : (o : ℕ → ℕ) (q : ℕ) → Ready f rows own o q → o i ≡ q → GoalsWalked (walker f q) f v (state c₁) a₂ (state c₂)
    in_then o q y h = m₂ o q y (λ n. y.owned.owning.to_try_then i k v ev n ∙ h)

    pub try_then_broken : (d : Carried) → a₂ ≡ false → GoalChecked f rows own i c false d
    try_then_broken d e₂ o q y h =
        try_then_stops (walker f q) f F i k (state c) (state c₁) a₁ eu (in_condition o q y h) e₁ (state c₂) a₂ ev (in_then o q y h) (state d) e₂

    module _ (e₂ : a₂ ≡ true) {w : ℕ} (ew : w ≡ word f i try_else) (c₃ : Carried) (eh : c₃.held ≡ c.held) (es : c₃.sound ≡ c.sound) (c₄ : Carried) (a₃ : Bool)
        (m₃ : GoalsChecked f rows own w c₃ a₃ c₄) where
      in_else : (o : ℕ → ℕ) (q : ℕ) → Ready f rows own o q → o i ≡ q → GoalsWalked (walker f q) f w (state c₃) a₃ (state c₄)
      in_else o q y h = m₃ o q y (λ n. y.owned.owning.to_try_else i k w ew n ∙ h)

      pub try_else_broken : (d : Carried) → a₃ ≡ false → GoalChecked f rows own i c false d
      try_else_broken d e₃ o q y h =
          try_else_stops (walker f q) f F i k (state c) (state c₁) a₁ eu (in_condition o q y h) e₁ (state c₂) a₂ ev (in_then o q y h) e₂
          (state c₃) (ap₂ carrying eh es) (state c₄) a₃ ew (in_else o q y h) (state d) e₃

      pub try_done : (r : Bool) (d : Carried) {g s : Set} → a₃ ≡ true → g ≡ c₂.held → s ≡ c₂.sound
          → ((P : Program) (S : Signature) → outcome r (state d) ≡ (checker P S).join (carrying g s) (state c₄)) → GoalChecked f rows own i c r d
      try_done r d {g} {s} e₃ eg ef n o q y h =
          try_walked (walker f q) f F i k (state c) (state c₁) a₁ eu (in_condition o q y h) e₁ (state c₂) a₂ ev (in_then o q y h) e₂
          (state c₃) (ap₂ carrying eh es) (state c₄) a₃ ew (in_else o q y h) (state d) r (carrying g s) (ap₂ carrying eg ef) e₃
          (n (program f) (signature_of (program f) q))

-- ---- arms
pub arms_none_checked : (f rows own : List ℕ) (i : ℕ) (c : Carried) → i ≡ 0 → ArmsChecked f rows own i c true c
arms_none_checked f rows own i c z o q y p = arms_none_walked (walker f q) f (state c) z

module _ {f : List ℕ} (rows own : List ℕ) (i : ℕ) (c : Carried) (F : Formed f) (st : Stands f arms i) (z : i ≡ 0 → ⊥) (c₁ : Carried) (eh : c₁.held ≡ c.held)
    (es : (S : Signature) → ReachesAll S own → c₁.sound ≡ sound_given S (gives_in rows i) c.held c.sound)
    {g : ℕ} (eg : g ≡ word f i arm_goals) (c₂ : Carried) (a₁ : Bool) (m₁ : GoalsChecked f rows own g c₁ a₁ c₂) where
  module _ (o : ℕ → ℕ) (q : ℕ) (y : Ready f rows own o q) where
    entered : outcome true (state c₁) ≡ (walker f q).enter (four_at f i) (state c)
    unfolding outcome checker
    entered =
        ap₂ (λ (h s : Set). goes_on (carrying h s)) eh
        (es (signature_of (program f) q) y.window.reached
        ∙ ap (λ (u : Set). sound_given (signature_of (program f) q) u c.held c.sound) (y.accessed.arm_gives i st z))

    inside : o i ≡ q → GoalsWalked (walker f q) f g (state c₁) a₁ (state c₂)
    inside h = m₁ o q y (λ n. y.owned.owning.arm_goals_law i st z g eg n ∙ h)

  pub arm_broken : (d : Carried) → a₁ ≡ false → ArmsChecked f rows own i c false d
  arm_broken d e o q y p =
      arm_stops (walker f q) f F st z (state c) (state c₁) (entered o q y) refl (state c₂) a₁ eg (inside o q y (p z)) (state d) e

  module _ (e₁ : a₁ ≡ true) {n : ℕ} (en : n ≡ word f i next_word) where
    pub arm_ended : n ≡ 0 → ArmsChecked f rows own i c true c₂
    arm_ended e o q y p =
        arm_last (walker f q) f F st z (state c) (state c₁) (entered o q y) refl (state c₂) a₁ eg (inside o q y (p z)) e₁ en e

    module _ (z' : n ≡ 0 → ⊥) (c₃ : Carried) (eh₃ : c₃.held ≡ c.held) (es₃ : c₃.sound ≡ c.sound) (c₄ : Carried) (a₂ : Bool)
        (m₂ : ArmsChecked f rows own n c₃ a₂ c₄) where
      pub rest_broken : (d : Carried) → a₂ ≡ false → ArmsChecked f rows own i c false d
      rest_broken d e₂ o q y p =
          arm_rest_stops (walker f q) f F st z (state c) (state c₁) (entered o q y) refl (state c₂) a₁ eg (inside o q y (p z)) e₁ en z' (state c₃)
          (ap₂ carrying eh₃ es₃) (state c₄) a₂ (m₂ o q y (λ v. y.owned.owning.arm_next i st z n en v ∙ p z)) (state d) e₂

      pub arm_more : (r : Bool) (d : Carried) {g s : Set} → a₂ ≡ true → g ≡ c₂.held → s ≡ c₂.sound
          → ((P : Program) (S : Signature) → outcome r (state d) ≡ (checker P S).join (carrying g s) (state c₄)) → ArmsChecked f rows own i c r d
      arm_more r d {g} {s} e₂ ek ex x o q y p =
          arms_walked (walker f q) f F st z (state c) (state c₁) (entered o q y) refl (state c₂) a₁ eg (inside o q y (p z)) e₁ en z' (state c₃)
          (ap₂ carrying eh₃ es₃) (state c₄) a₂ (m₂ o q y (λ v. y.owned.owning.arm_next i st z n en v ∙ p z)) (state d) r (carrying g s) (ap₂ carrying ek ex) e₂
          (x (program f) (signature_of (program f) q))
