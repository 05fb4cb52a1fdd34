-- The walk over goals, one law for each way through it, over the code's own values.
use Prim.Native.Nat.{ℕ, ◌≤◌, ◌<◌}
use mathlib.Core.Bool.{Bool, true, false}
use mathlib.Core.Path.{◌≡◌, refl, sym, ap, ◌∙◌}
use mathlib.Core.List.{List, ◌∷◌, ◌++◌, []}
use lib.ListN.{length}
use Rattle.sets.specs.Tests.{◌&◌}
use Rattle.sets.specs.Sets.{empty_set, single, ◌∪◌, ◌∖◌}
use Rattle.sets.specs.Members.{set_of}
use Rattle.sets.specs.declared.Set.{Set}
use Rattle.language.specs.File.{goals, arms, word, record_count}
use Rattle.language.specs.Format.{next_word, goal_x, switch_arms, if_y, if_z, if_then, if_else, try_condition, try_then, try_else, arm_goals}
use Rattle.language.specs.Program.{arguments_of, Step, Goals, ◌then◌, Goal, step, switch, if_less, try, Arms, arm, Signature, Program, signature_of}
use Rattle.language.specs.Lifetimes.{live_step, live, live_goal, live_arms, step_classes, goals_classes, goal_classes, arms_classes}
use Rattle.language.specs.Answers.{program}
use Rattle.chains.specs.Formed.{Formed, Stands, Onward, goals_at, goal_at, first_goal, arms_at, goals_none, arms_none}
use Rattle.chains.specs.Parts.{SwitchAt, IfAt, TryAt, four_at}
use Rattle.chains.specs.Is.{chain_next, goals_step}
use Rattle.chains.specs.Shapes.{IsSwitch, IsIf, IsTry, StepAt, step_here, switch_here, if_here, try_here, arm_here}
use Rattle.tables.specs.Filled.{GoalIsStep, Accessed}
use Rattle.liveness.specs.Points.{Point, point, points, part_points, goal_points, arms_points, point_words}
use Rattle.liveness.specs.Table.{Fills}
use Rattle.liveness.proofs.TableLaws.{fills_none, fills_more}
use Rattle.liveness.specs.Carried.{Carries}
use Rattle.liveness.specs.declared.carried.Carried.{Carried}
use Rattle.liveness.specs.Noted.{Noted}
use Rattle.liveness.proofs.Room.{points_room}
use Rattle.liveness.specs.Wants.{Wants}
use Rattle.liveness.proofs.WantsLaws.{wants_are}
use Rattle.liveness.specs.Step.{StepNoted}
use Rattle.liveness.proofs.StepLaws.{and_right, live_is, classes_are}
use Rattle.liveness.specs.Done.{GoalsFrom, GoalFrom, ArmsFrom, GoalsDone, GoalDone, ListDone, ListClasses}

-- what is walked later stands in front
later_first : (x a b : Bool) → ((x & b) & a) ≡ (x & (a & b))
unfolding ◌&◌
later_first false a b = refl
later_first true true true = refl
later_first true true false = refl
later_first true false true = refl
later_first true false false = refl

-- ---- over goals
module _ (P : Program) where
  then_live : {gs hs : Goals} {g : Goal} (after : Set) {l r : Set} → gs ≡ g then hs → l ≡ live P hs after → r ≡ live_goal P g l → r ≡ live P gs after
  unfolding live
  then_live after e m n = n ∙ rw (e, m) refl

  then_points : {gs hs : Goals} {g : Goal} (after : Set) {l : Set} {t u v : List ℕ} {s m end : ℕ} → gs ≡ g then hs → l ≡ live P hs after
      → Fills t u m end (points P hs after) → Fills u v s m (goal_points P g l) → Fills t v s end (points P gs after)
  unfolding points goal_points
  then_points after e m h k = rw e (fills_more h (rw m at k))

  -- a goal's own point in front of those of its parts
  own_point : (g : Goal) (after : Set) (ps : List Point) {b : Set} {t u v : List ℕ} {s m end : ℕ} → part_points P g after ≡ ps → b ≡ live_goal P g after
      → Fills t u m end ps → Fills u v s m (point b after ∷ []) → Fills t v s end (goal_points P g after)
  unfolding goal_points
  own_point g after ps e n h k = rw (e, sym n) (fills_more h k)

  step_live : {g : Goal} {one : Step} (after : Set) → g ≡ step one → live_step P one after ≡ live_goal P g after
  unfolding live_goal
  step_live after e = rw e refl

  step_parts : {g : Goal} {one : Step} (after : Set) → g ≡ step one → part_points P g after ≡ []
  unfolding part_points
  step_parts after e = rw e refl

  switch_live : {g : Goal} {x : ℕ} {cs : Arms} (after : Set) → g ≡ switch x cs → single x ∪ live_arms P cs after ≡ live_goal P g after
  unfolding live_goal
  switch_live after e = rw e refl

  switch_parts : {g : Goal} {x : ℕ} {cs : Arms} (after : Set) → g ≡ switch x cs → part_points P g after ≡ arms_points P cs after
  unfolding part_points
  switch_parts after e = rw e refl

  if_live : {g : Goal} {y z : ℕ} {gs hs : Goals} (after : Set) → g ≡ if_less y z gs hs
      → (single y ∪ single z) ∪ (live P gs after ∪ live P hs after) ≡ live_goal P g after
  unfolding live_goal
  if_live after e = rw e refl

  if_parts : {g : Goal} {y z : ℕ} {gs hs : Goals} (after : Set) → g ≡ if_less y z gs hs → part_points P g after ≡ points P gs after ++ points P hs after
  unfolding part_points
  if_parts after e = rw e refl

  try_live : {g : Goal} {cs gs hs : Goals} (after : Set) → g ≡ try cs gs hs → live P cs (live P gs after) ∪ live P hs after ≡ live_goal P g after
  unfolding live_goal
  try_live after e = rw e refl

  try_parts : {g : Goal} {cs gs hs : Goals} (after : Set) → g ≡ try cs gs hs
      → part_points P g after ≡ points P cs (live P gs after) ++ (points P gs after ++ points P hs after)
  unfolding part_points
  try_parts after e = rw e refl

  -- number 7
  module _ (S : Signature) where
    then_classes : {gs hs : Goals} {g : Goal} (after : Set) {l : Set} (x : Bool) {y r : Bool} → gs ≡ g then hs → l ≡ live P hs after
        → y ≡ (x & goals_classes P S hs after) → r ≡ (y & goal_classes P S g l) → r ≡ (x & goals_classes P S gs after)
    unfolding goals_classes
    then_classes {hs = hs} {g = g} after {l} x e k m n =
        n ∙ ap (λ (y : Bool). y & goal_classes P S g l) m ∙ later_first x (goal_classes P S g l) (goals_classes P S hs after) ∙ rw (e, k) refl

    step_classes_law : {g : Goal} {one : Step} (after : Set) → g ≡ step one → step_classes P S one after ≡ goal_classes P S g after
    unfolding goal_classes
    step_classes_law after e = rw e refl

    switch_classes : {g : Goal} {z : ℕ} {cs : Arms} (after : Set) → g ≡ switch z cs → arms_classes P S cs after ≡ goal_classes P S g after
    unfolding goal_classes
    switch_classes after e = rw e refl

    if_classes : {g : Goal} {y z : ℕ} {gs hs : Goals} (after : Set) (x : Bool) {k r : Bool} → g ≡ if_less y z gs hs
        → k ≡ (x & goals_classes P S hs after) → r ≡ (k & goals_classes P S gs after) → r ≡ (x & goal_classes P S g after)
    unfolding goal_classes
    if_classes {gs = gs} {hs = hs} after x e m n =
        n ∙ ap (λ (y : Bool). y & goals_classes P S gs after) m ∙ later_first x (goals_classes P S gs after) (goals_classes P S hs after) ∙ rw e refl

    try_classes : {g : Goal} {cs gs hs : Goals} (after : Set) (x : Bool) {k m r : Bool} → g ≡ try cs gs hs → k ≡ (x & goals_classes P S hs after)
        → m ≡ (k & goals_classes P S gs after) → r ≡ (m & goals_classes P S cs (live P gs after)) → r ≡ (x & goal_classes P S g after)
    unfolding goal_classes
    try_classes {cs = cs} {gs = gs} {hs = hs} after x e p q n =
        n ∙ ap (λ (y : Bool). y & goals_classes P S cs (live P gs after))
        (q ∙ ap (λ (y : Bool). y & goals_classes P S gs after) p ∙ later_first x (goals_classes P S gs after) (goals_classes P S hs after))
        ∙ later_first x (goals_classes P S cs (live P gs after)) (goals_classes P S gs after & goals_classes P S hs after) ∙ rw e refl

    arms_classes_law : {ds cs : Arms} {n : ℕ} {ys : _} {gs : Goals} (after : Set) (x : Bool) {k r : Bool} → ds ≡ arm n ys gs cs
        → k ≡ (x & arms_classes P S cs after) → r ≡ (k & goals_classes P S gs after) → r ≡ (x & arms_classes P S ds after)
    unfolding arms_classes
    arms_classes_law {cs = cs} {gs = gs} after x e m n =
        n ∙ ap (λ (y : Bool). y & goals_classes P S gs after) m ∙ later_first x (goals_classes P S gs after) (arms_classes P S cs after) ∙ rw e refl

-- ---- where the records lead
module _ (f : List ℕ) (i : ℕ) where
  pub to_next : Formed f → Stands f goals i → (i ≡ 0 → ⊥) → Onward f goals i (word f i next_word)
  to_next F s z = chain_next F s z refl

  pub part_stands : (k : ℕ) {n : ℕ} → n ≡ word f i k → Stands f goals (word f i k) → Stands f goals n
  part_stands k e s = rw e s

  module _ (F : Formed f) (k : IsSwitch f i) where
    switch_at : SwitchAt f i (word f i next_word) (word f i goal_x) (word f i switch_arms)
    switch_at = switch_here F refl k

    pub switch_there : i < record_count f
    switch_there = switch_at.below

    pub to_arms : {n : ℕ} → n ≡ word f i switch_arms → Onward f arms i n
    to_arms e = rw e switch_at.to_arms

  module _ (F : Formed f) (k : IsIf f i) where
    if_at : IfAt f i (word f i next_word) (word f i if_y) (word f i if_z) (word f i if_then) (word f i if_else)
    if_at = if_here F refl k

    pub if_there : i < record_count f
    if_there = if_at.below

    pub to_then : Onward f goals i (word f i if_then)
    to_then = if_at.to_then

    pub to_else : Onward f goals i (word f i if_else)
    to_else = if_at.to_else

  module _ (F : Formed f) (k : IsTry f i) where
    try_at : TryAt f i (word f i next_word) (word f i try_condition) (word f i try_then) (word f i try_else)
    try_at = try_here F refl k

    pub try_there : i < record_count f
    try_there = try_at.below

    pub to_condition : Onward f goals i (word f i try_condition)
    to_condition = try_at.to_condition

    pub to_try_then : Onward f goals i (word f i try_then)
    to_try_then = try_at.to_then

    pub to_try_else : Onward f goals i (word f i try_else)
    to_try_else = try_at.to_else

-- ---- over the records
module _ (f rows : List ℕ) where
  -- ---- a chain
  pub goals_last : (i : ℕ) (c : Carried) (t : List ℕ) → i ≡ 0 → GoalsDone f rows i c t c t
  unfolding live points goals_classes
  goals_last i c t z =
      record {
        live_is = rw (goals_none f z) refl;
        wants_is = refl;
        fills = rw (goals_none f z) (fills_none t c.place);
        classes_are = λ o q y b. rw (goals_none f z) (sym (and_right c.classes));
      }

  pub goals_more : (i : ℕ) {after : Set} {end : ℕ} {x : Bool} {t u v w : List ℕ} {d e : Carried} → Formed f → Stands f goals i → (i ≡ 0 → ⊥)
      → GoalsFrom f rows w (word f i next_word) after end x t d u → GoalDone f rows i d u e v → GoalsFrom f rows w i after end x t e v
  goals_more i {after} {x = x} F s z h m =
      let e = goals_step F s z refl in
      let k = rw h.wants_is at m in
      record {
        live_is = then_live (program f) after e h.live_is k.live_is;
        wants_is = k.wants_is;
        fills = then_points (program f) after e h.live_is h.fills k.fills;
        classes_are = λ o q y b.
            then_classes (program f) (signature_of (program f) q) after x e h.live_is
            (h.classes_are o q y (λ n. y.ready.owning.to_next i s z _ refl n ∙ b z)) (k.classes_are o q y (b z));
      }

  -- ---- a step
  module _ (i : ℕ) (F : Formed f) (S : Stands f goals i) (z : i ≡ 0 → ⊥) (p : IsSwitch f i → ⊥) (q : IsIf f i → ⊥) (r : IsTry f i → ⊥) where
    step_at : StepAt f i
    step_at = step_here F S z refl p q r

    step_goal : goal_at f i ≡ step step_at.one
    unfolding goal_at first_goal
    step_goal = ap first_goal step_at.view

    step_stands_law : GoalIsStep f i step_at.one
    step_stands_law = record { stands = S; some = z; view = step_goal }

    pub step_done : (c : Carried) {t u : List ℕ} {d : Carried} → Accessed f rows → StepNoted rows i c t d u → GoalDone f rows i c t d u
    step_done c {t} A n =
        let b = live_is A step_stands_law c.live ∙ step_live (program f) c.live step_goal in
        record {
          live_is = n.live_is ∙ b;
          wants_is = n.wants_is;
          fills = own_point (program f) (goal_at f i) c.live [] (step_parts (program f) c.live step_goal) b (fills_none t c.place) n.fills;
          classes_are = λ o k y h.
              n.classes_is
              ∙ ap (λ (v : Bool). c.classes & v)
              (classes_are A step_stands_law c.wants y.ready.effected y.wants h c.live ∙ step_classes_law (program f) (signature_of (program f) k) c.live step_goal);
        }

  -- ---- a switch
  module _ (i : ℕ) (F : Formed f) (k : IsSwitch f i) where
    pub switch_done : {after now : Set} {end first m : ℕ} {x : Bool} {t u v w : List ℕ} {d e : Carried} {o n b : Set} → now ≡ after → first ≡ word f i switch_arms
        → ArmsFrom f rows w first after end x t d u → m ≡ word f i goal_x → o ≡ single m → n ≡ d.live → b ≡ o ∪ n
        → Noted d u e v b now d.classes → GoalFrom f rows w i after end x t e v
    switch_done {after} {now} {x = x} {b = b} ea ew h em eo en eb n =
        let l : b ≡ live_goal (program f) (goal_at f i) after = eb ∙ cc (eo, em, en, ew, h.live_is) ∙ switch_live (program f) after (switch_at f i F k).goal in
        record {
          live_is = n.live_is ∙ l;
          wants_is = n.wants_is ∙ h.wants_is;
          fills = own_point (program f) (goal_at f i) after _ (switch_parts (program f) after (switch_at f i F k).goal) l (rw ew at h.fills) (rw ea at n.fills);
          classes_are = λ o q y g.
              n.classes_is ∙ h.classes_are o q y (λ z. y.ready.owning.to_arms i k _ ew z ∙ g)
              ∙ ap (λ (v : Bool). x & v) (rw ew (switch_classes (program f) (signature_of (program f) q) after (switch_at f i F k).goal));
        }

  carries_on : {c : Carried} {v w : List ℕ} {s : Set} {end : ℕ} {x : Bool} → v ≡ w → Carries c v s end x → Carries c w s end x
  carries_on e h = rw e at h

  -- ---- the goals of a part, where what is live behind the whole goal was put back
  pub part_from : (i : ℕ) {after now : Set} {end : ℕ} {x : Bool} {c d : Carried} {t u w : List ℕ} → now ≡ after → Carries c w now end x → GoalsDone f rows i c t d u
      → GoalsFrom f rows w i after end x t d u
  part_from i {after} {now} {end} {x} {c} {d} ea h m =
      let a : c.live ≡ after = h.live_is ∙ ea in
      let k = rw h.wants_is at m in
      record {
        live_is = rw a at k.live_is;
        wants_is = k.wants_is;
        fills = rw (a, h.place_is) at k.fills;
        classes_are = λ o q y b. rw (a, h.classes_is) at (k.classes_are o q y b);
      }

  -- ---- an if
  module _ (i : ℕ) (F : Formed f) (k : IsIf f i) where
    -- the points of the second part stand behind those of the first
    pub if_done : {after now : Set} {end m n : ℕ} {x : Bool} {t u v v' w : List ℕ} {c c' d e : Carried} {other one a b p q r : Set} → now ≡ after
        → GoalsFrom f rows w (word f i if_else) after end x t c u → other ≡ c.live → Carries c' c.wants now c.place c.classes
        → GoalsDone f rows (word f i if_then) c' u d v → one ≡ d.live → m ≡ word f i if_y → a ≡ single m → n ≡ word f i if_z → b ≡ single n
        → p ≡ a ∪ b → q ≡ one ∪ other → r ≡ p ∪ q → Noted d v e v' r now d.classes → GoalFrom f rows w i after end x t e v'
    if_done {after} {now} {x = x} {r = r} ea h eo g j ep p₁ p₂ p₃ p₄ p₅ p₆ p₇ n =
        let j' = part_from (word f i if_then) ea (carries_on h.wants_is g) j in
        let l : r ≡ live_goal (program f) (goal_at f i) after =
        p₇ ∙ cc (h.live_is, eo, ep, j'.live_is, p₁, p₂, p₃, p₄, p₅, p₆) ∙ if_live (program f) after (if_at f i F k).goal in
        record {
          live_is = n.live_is ∙ l;
          wants_is = n.wants_is ∙ j'.wants_is;
          fills = own_point (program f) (goal_at f i) after _ (if_parts (program f) after (if_at f i F k).goal) l (fills_more h.fills j'.fills) (rw ea at n.fills);
          classes_are = λ o q y b.
              n.classes_is
              ∙ if_classes (program f) (signature_of (program f) q) after x (if_at f i F k).goal
              (h.classes_are o q y (λ z. y.ready.owning.to_else i k _ refl z ∙ b)) (j'.classes_are o q y (λ z. y.ready.owning.to_then i k _ refl z ∙ b));
        }

  -- ---- a try
  module _ (i : ℕ) (F : Formed f) (k : IsTry f i) where
    -- the points of the else part stand behind those of the then part, and these behind those of the condition
    pub try_done : {after now : Set} {end : ℕ} {x : Bool} {t u v v' u' w : List ℕ} {c c' d d' e : Carried} {other one r : Set} → now ≡ after
        → GoalsFrom f rows w (word f i try_else) after end x t c u → other ≡ c.live → Carries c' c.wants now c.place c.classes
        → GoalsDone f rows (word f i try_then) c' u d v → GoalsDone f rows (word f i try_condition) d v d' v' → one ≡ d'.live → r ≡ one ∪ other
        → Noted d' v' e u' r now d'.classes → GoalFrom f rows w i after end x t e u'
    try_done {after} {now} {x = x} {r = r} ea h eo g j m ep p n =
        let j' = part_from (word f i try_then) ea (carries_on h.wants_is g) j in
        let m' = part_from (word f i try_condition) refl (record { live_is = j'.live_is; place_is = refl; classes_is = refl; wants_is = j'.wants_is }) m in
        let l : r ≡ live_goal (program f) (goal_at f i) after =
        p ∙ cc (h.live_is, eo, ep, m'.live_is) ∙ try_live (program f) after (try_at f i F k).goal in
        record {
          live_is = n.live_is ∙ l;
          wants_is = n.wants_is ∙ m'.wants_is;
          fills =
              own_point (program f) (goal_at f i) after _ (try_parts (program f) after (try_at f i F k).goal) l
              (fills_more (fills_more h.fills j'.fills) m'.fills) (rw ea at n.fills);
          classes_are = λ o q y b.
              n.classes_is
              ∙ try_classes (program f) (signature_of (program f) q) after x (try_at f i F k).goal
              (h.classes_are o q y (λ z. y.ready.owning.to_try_else i k _ refl z ∙ b))
              (j'.classes_are o q y (λ z. y.ready.owning.to_try_then i k _ refl z ∙ b))
              (m'.classes_are o q y (λ z. y.ready.owning.to_condition i k _ refl z ∙ b));
        }

  -- ---- arms
  pub arms_last : (i : ℕ) {after : Set} {end : ℕ} {x : Bool} {d : Carried} {w : List ℕ} (t : List ℕ) → i ≡ 0 → Carries d w empty_set end x → ArmsFrom f rows w i after end x t d t
  unfolding live_arms arms_points arms_classes
  arms_last i {end = end} {x = x} t z h =
      record {
        live_is = rw (arms_none f z) h.live_is;
        wants_is = h.wants_is;
        fills = rw (arms_none f z, h.place_is) (fills_none t end);
        classes_are = λ o q y b. rw (arms_none f z) (h.classes_is ∙ sym (and_right x));
      }

  module _ (i : ℕ) (F : Formed f) (S : Stands f arms i) (z : i ≡ 0 → ⊥) where
    arms_live : (after : Set) {r : Set}
        → r ≡ (live (program f) (goals_at f (word f i arm_goals)) after ∖ set_of (arguments_of (four_at f i)))
        ∪ live_arms (program f) (arms_at f (word f i next_word)) after → r ≡ live_arms (program f) (arms_at f i) after
    unfolding live_arms
    arms_live after e = rw (arm_here F z S).view e

    arms_points_law : (after : Set) {t v : List ℕ} {s end : ℕ}
        → Fills t v s end (points (program f) (goals_at f (word f i arm_goals)) after ++ arms_points (program f) (arms_at f (word f i next_word)) after)
        → Fills t v s end (arms_points (program f) (arms_at f i) after)
    unfolding arms_points
    arms_points_law after h = rw (arm_here F z S).view h

    pub arms_more : {after now : Set} {end next : ℕ} {x : Bool} {t u v w : List ℕ} {c c' d e : Carried} {other own bound p r : Set} → now ≡ after → next ≡ word f i next_word
        → ArmsFrom f rows w next after end x t c u → other ≡ c.live → Carries c' c.wants now c.place c.classes
        → GoalsDone f rows (word f i arm_goals) c' u d v → own ≡ d.live
        → bound ≡ set_of (arguments_of (four_at f i)) → p ≡ own ∖ bound → r ≡ p ∪ other
        → Carries e d.wants r d.place d.classes → ArmsFrom f rows w i after end x t e v
    arms_more {after} {now} {x = x} {r = r} ea ew h eo g j ep eb p₁ p₂ n =
        let j' = part_from (word f i arm_goals) ea (carries_on h.wants_is g) j in
        record {
          wants_is = n.wants_is ∙ j'.wants_is;
          live_is = n.live_is ∙ arms_live after (p₂ ∙ cc (ew, h.live_is, eo, ep, j'.live_is, eb, p₁));
          fills = rw n.place_is (arms_points_law after (fills_more (rw ew at h.fills) j'.fills));
          classes_are = λ o q y b.
              n.classes_is
              ∙ arms_classes_law (program f) (signature_of (program f) q) after x (arm_here F z S).view
              (rw ew at (h.classes_are o q y (λ k. y.ready.owning.arm_next i S z _ ew k ∙ b z)))
              (j'.classes_are o q y (λ k. y.ready.owning.arm_goals_law i S z _ refl k ∙ b z));
        }

  -- ---- the goals that a word leads to
  pub part_done : (i k : ℕ) {after : Set} {end : ℕ} {x : Bool} {t u w : List ℕ} {d : Carried} {n : ℕ} → n ≡ word f i k → GoalsFrom f rows w n after end x t d u
      → GoalsFrom f rows w (word f i k) after end x t d u
  part_done i k e h = rw e at h

-- ---- a whole procedure: nothing is behind its last goal, and no step has broken number 7
module _ {f rows : List ℕ} (i : ℕ) {own w : List ℕ} {outs : Set} {t u : List ℕ} {d : Carried} (k : Wants own w) (g : GoalsFrom f rows w i outs point_words true t d u) where
  pub list_done : Formed f → Stands f goals i → point_words ≤ length t → ListDone f i outs t u d.place d.live
  list_done F S l = (g.live_is, g.fills.room (points_room F i outs S.below) l)

  pub list_classes : ListClasses f rows own i outs d.classes
  unfolding ◌&◌
  list_classes o q E O W B = g.classes_are o q (record { ready = record { effected = E; owning = O }; wants = wants_are W k }) B
