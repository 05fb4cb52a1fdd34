-- Records of goals with parts, of arms and of arguments that the code has read: what the fields are, what stands there, and where each
-- reference leads. In a turn: `switch_at F c.record_at.ensures c.in-Switch.is` has all of it:
-- `.view` for the claim, `.to_arms .stands` for what is called and `.to_arms .falls` for its measure.
use Rattle.std.specs.Prelude.{ℕ, ◌<◌, ◌+◌, ◌≡◌, refl, List, ◌∷◌}
use Rattle.std.proofs.Common.{ap}
use Rattle.language.specs.File.{k_switch, k_if, k_try, k_call, k_arm, k_argument, k_goal, goals, arms, arguments, word, record_count}
use Rattle.language.specs.Program.{Four, four, call, ◌then◌, step, switch, if_less, try, arm}
use Rattle.language.specs.Format.{argument_variable, arm_goals, call_arguments, call_procedure, goal_x, if_else, if_then, if_y, if_z, next_word, switch_arms, term_arguments, term_functor, try_condition, try_else, try_then}
use Rattle.layout.specs.Table.{all_rows}
use Rattle.layout.specs.Chains.{real, arm_goals_law, switch_arms_law, if_then_law, if_else_law, try_condition_law, try_then_law, try_else_law, call_arguments_law}
use Rattle.layout.specs.Steps
use Rattle.records.specs.Records.{record_at}
use Rattle.records.specs.declared.Record.{Record}
use Rattle.records.specs.declared.Record.TheVariants.{Switch, Arm, If, Try, Call, Argument}
use Rattle.chains.specs.Formed.{Formed, Onward, goals_at, first_goal, goal_at, arms_at, arguments_at}
use Rattle.chains.specs.Kinds.{kind_in, known, onward}

pub record SwitchAt (f : List ℕ) (i next x cs : ℕ) : Type 0 where
  pub some : 0 < i
  pub below : i < record_count f
  pub w1 : next ≡ word f i next_word
  pub w2 : x ≡ word f i goal_x
  pub w3 : cs ≡ word f i switch_arms
  pub view : goals_at f i ≡ switch x (arms_at f cs) then goals_at f next
  pub goal : goal_at f i ≡ switch x (arms_at f cs)
  pub to_next : Onward f goals i next
  pub to_arms : Onward f arms i cs

pub switch_at : {f : List ℕ} {i next x cs : ℕ} {r : Record} → Formed f → r ≡ record_at f i → r ≡ Switch next x cs
    → SwitchAt f i next x cs
unfolding goals_at goal_at first_goal arms_at all_rows real
switch_at {f} {i} {next} {x} {cs} F e g =
    let h = known {k = (k_goal k_switch)} F refl e (ap kind_in g) in
    let e1 : next ≡ word f i next_word = cc h.same in
    let e2 : x ≡ word f i goal_x = cc h.same in
    let e3 : cs ≡ word f i switch_arms = cc h.same in
    let v : goals_at f i ≡ switch x (arms_at f cs) then goals_at f next = rw (e1, e2, e3) (Steps.switch_step (word f) (record_count f) F.form i h.some h.below h.kind) in
    record {
      some = h.some;
      below = h.below;
      w1 = e1;
      w2 = e2;
      w3 = e3;
      view = v;
      goal = ap first_goal v;
      to_next = rw e1 h.next;
      to_arms = onward F h e3 (switch_arms_law (word f) (record_count f) F.form i h.below h.kind);
    }

-- the argument words of a construct or an arm
abbrev pub four_at : List ℕ → ℕ → Four
four_at f i = four (word f i term_arguments) (word f i (term_arguments + 1)) (word f i (term_arguments + 2)) (word f i (term_arguments + 3))

pub record ArmAt (f : List ℕ) (i next gs functor a1 a2 a3 a4 : ℕ) : Type 0 where
  pub some : 0 < i
  pub below : i < record_count f
  pub w1 : next ≡ word f i next_word
  pub w2 : gs ≡ word f i arm_goals
  pub w3 : functor ≡ word f i term_functor
  pub w4 : a1 ≡ word f i term_arguments
  pub w5 : a2 ≡ word f i (term_arguments + 1)
  pub w6 : a3 ≡ word f i (term_arguments + 2)
  pub w7 : a4 ≡ word f i (term_arguments + 3)
  pub view : arms_at f i ≡ arm functor (four a1 a2 a3 a4) (goals_at f gs) (arms_at f next)
  pub to_next : Onward f arms i next
  pub to_goals : Onward f goals i gs

pub arm_at : {f : List ℕ} {i next gs functor a1 a2 a3 a4 : ℕ} {r : Record} → Formed f → r ≡ record_at f i → r ≡ Arm next gs functor a1 a2 a3 a4
    → ArmAt f i next gs functor a1 a2 a3 a4
unfolding arms_at goals_at all_rows real
arm_at {f} {i} {next} {gs} {functor} {a1} {a2} {a3} {a4} F e g =
    let h = known {k = k_arm} F refl e (ap kind_in g) in
    let e1 : next ≡ word f i next_word = cc h.same in
    let e2 : gs ≡ word f i arm_goals = cc h.same in
    let e3 : functor ≡ word f i term_functor = cc h.same in
    let e4 : a1 ≡ word f i term_arguments = cc h.same in
    let e5 : a2 ≡ word f i (term_arguments + 1) = cc h.same in
    let e6 : a3 ≡ word f i (term_arguments + 2) = cc h.same in
    let e7 : a4 ≡ word f i (term_arguments + 3) = cc h.same in
    record {
      some = h.some;
      below = h.below;
      w1 = e1;
      w2 = e2;
      w3 = e3;
      w4 = e4;
      w5 = e5;
      w6 = e6;
      w7 = e7;
      view = rw (e1, e2, e3, e4, e5, e6, e7) (Steps.arm_step (word f) (record_count f) F.form i h.some h.below h.kind);
      to_next = rw e1 h.next;
      to_goals = onward F h e2 (arm_goals_law (word f) (record_count f) F.form i h.below h.kind);
    }

pub record IfAt (f : List ℕ) (i next y z gs hs : ℕ) : Type 0 where
  pub some : 0 < i
  pub below : i < record_count f
  pub w1 : next ≡ word f i next_word
  pub w2 : y ≡ word f i if_y
  pub w3 : z ≡ word f i if_z
  pub w4 : gs ≡ word f i if_then
  pub w5 : hs ≡ word f i if_else
  pub view : goals_at f i ≡ if_less y z (goals_at f gs) (goals_at f hs) then goals_at f next
  pub goal : goal_at f i ≡ if_less y z (goals_at f gs) (goals_at f hs)
  pub to_next : Onward f goals i next
  pub to_then : Onward f goals i gs
  pub to_else : Onward f goals i hs

pub if_at : {f : List ℕ} {i next y z gs hs : ℕ} {r : Record} → Formed f → r ≡ record_at f i → r ≡ If next y z gs hs
    → IfAt f i next y z gs hs
unfolding goals_at goal_at first_goal all_rows real
if_at {f} {i} {next} {y} {z} {gs} {hs} F e g =
    let h = known {k = (k_goal k_if)} F refl e (ap kind_in g) in
    let e1 : next ≡ word f i next_word = cc h.same in
    let e2 : y ≡ word f i if_y = cc h.same in
    let e3 : z ≡ word f i if_z = cc h.same in
    let e4 : gs ≡ word f i if_then = cc h.same in
    let e5 : hs ≡ word f i if_else = cc h.same in
    let v : goals_at f i ≡ if_less y z (goals_at f gs) (goals_at f hs) then goals_at f next = rw (e1, e2, e3, e4, e5) (Steps.if_step (word f) (record_count f) F.form i h.some h.below h.kind) in
    record {
      some = h.some;
      below = h.below;
      w1 = e1;
      w2 = e2;
      w3 = e3;
      w4 = e4;
      w5 = e5;
      view = v;
      goal = ap first_goal v;
      to_next = rw e1 h.next;
      to_then = onward F h e4 (if_then_law (word f) (record_count f) F.form i h.below h.kind);
      to_else = onward F h e5 (if_else_law (word f) (record_count f) F.form i h.below h.kind);
    }

pub record TryAt (f : List ℕ) (i next cs gs hs : ℕ) : Type 0 where
  pub some : 0 < i
  pub below : i < record_count f
  pub w1 : next ≡ word f i next_word
  pub w2 : cs ≡ word f i try_condition
  pub w3 : gs ≡ word f i try_then
  pub w4 : hs ≡ word f i try_else
  pub view : goals_at f i ≡ try (goals_at f cs) (goals_at f gs) (goals_at f hs) then goals_at f next
  pub goal : goal_at f i ≡ try (goals_at f cs) (goals_at f gs) (goals_at f hs)
  pub to_next : Onward f goals i next
  pub to_condition : Onward f goals i cs
  pub to_then : Onward f goals i gs
  pub to_else : Onward f goals i hs

pub try_at : {f : List ℕ} {i next cs gs hs : ℕ} {r : Record} → Formed f → r ≡ record_at f i → r ≡ Try next cs gs hs
    → TryAt f i next cs gs hs
unfolding goals_at goal_at first_goal all_rows real
try_at {f} {i} {next} {cs} {gs} {hs} F e g =
    let h = known {k = (k_goal k_try)} F refl e (ap kind_in g) in
    let e1 : next ≡ word f i next_word = cc h.same in
    let e2 : cs ≡ word f i try_condition = cc h.same in
    let e3 : gs ≡ word f i try_then = cc h.same in
    let e4 : hs ≡ word f i try_else = cc h.same in
    let v : goals_at f i ≡ try (goals_at f cs) (goals_at f gs) (goals_at f hs) then goals_at f next = rw (e1, e2, e3, e4) (Steps.try_step (word f) (record_count f) F.form i h.some h.below h.kind) in
    record {
      some = h.some;
      below = h.below;
      w1 = e1;
      w2 = e2;
      w3 = e3;
      w4 = e4;
      view = v;
      goal = ap first_goal v;
      to_next = rw e1 h.next;
      to_condition = onward F h e2 (try_condition_law (word f) (record_count f) F.form i h.below h.kind);
      to_then = onward F h e3 (try_then_law (word f) (record_count f) F.form i h.below h.kind);
      to_else = onward F h e4 (try_else_law (word f) (record_count f) F.form i h.below h.kind);
    }

pub record CallAt (f : List ℕ) (i next q ys : ℕ) : Type 0 where
  pub some : 0 < i
  pub below : i < record_count f
  pub w1 : next ≡ word f i next_word
  pub w2 : q ≡ word f i call_procedure
  pub w3 : ys ≡ word f i call_arguments
  pub view : goals_at f i ≡ step (call q (arguments_at f ys)) then goals_at f next
  pub goal : goal_at f i ≡ step (call q (arguments_at f ys))
  pub to_next : Onward f goals i next
  pub to_arguments : Onward f arguments i ys

pub call_at : {f : List ℕ} {i next q ys : ℕ} {r : Record} → Formed f → r ≡ record_at f i → r ≡ Call next q ys
    → CallAt f i next q ys
unfolding goals_at goal_at first_goal arguments_at all_rows real
call_at {f} {i} {next} {q} {ys} F e g =
    let h = known {k = (k_goal k_call)} F refl e (ap kind_in g) in
    let e1 : next ≡ word f i next_word = cc h.same in
    let e2 : q ≡ word f i call_procedure = cc h.same in
    let e3 : ys ≡ word f i call_arguments = cc h.same in
    let v : goals_at f i ≡ step (call q (arguments_at f ys)) then goals_at f next = rw (e1, e2, e3) (Steps.call_step (word f) (record_count f) F.form i h.some h.below h.kind) in
    record {
      some = h.some;
      below = h.below;
      w1 = e1;
      w2 = e2;
      w3 = e3;
      view = v;
      goal = ap first_goal v;
      to_next = rw e1 h.next;
      to_arguments = onward F h e3 (call_arguments_law (word f) (record_count f) F.form i h.below h.kind);
    }

pub record ArgumentAt (f : List ℕ) (i next y : ℕ) : Type 0 where
  pub some : 0 < i
  pub below : i < record_count f
  pub w1 : next ≡ word f i next_word
  pub w2 : y ≡ word f i argument_variable
  pub view : arguments_at f i ≡ y ∷ arguments_at f next
  pub to_next : Onward f arguments i next

pub argument_at : {f : List ℕ} {i next y : ℕ} {r : Record} → Formed f → r ≡ record_at f i → r ≡ Argument next y
    → ArgumentAt f i next y
unfolding arguments_at all_rows real
argument_at {f} {i} {next} {y} F e g =
    let h = known {k = k_argument} F refl e (ap kind_in g) in
    let e1 : next ≡ word f i next_word = cc h.same in
    let e2 : y ≡ word f i argument_variable = cc h.same in
    record {
      some = h.some;
      below = h.below;
      w1 = e1;
      w2 = e2;
      view = rw (e1, e2) (Steps.argument_step (word f) (record_count f) F.form i h.some h.below h.kind);
      to_next = rw e1 h.next;
    }
