-- Records of goals without parts that the code has read: what the fields are, what stands there, and where the chain goes on.
-- In a turn: `assign_at F c.record_at.ensures c.in-Assign.is` has all of it:
-- `.view` for the claim, `.to_next .stands` and `.to_next .falls` for the rest of the chain.
use Rattle.std.specs.Prelude.{ℕ, ◌<◌, ◌+◌, ◌≡◌, refl, List}
use Rattle.std.proofs.Common.{ap}
use Rattle.language.specs.File.{k_literal, k_sum, k_assign, k_construct, k_print, k_create, k_remove, k_test, k_goal, goals, word, record_count}
use Rattle.language.specs.Program.{four, literal, sum, assign, construct, print, create, remove, test, ◌then◌, step}
use Rattle.language.specs.Format.{assign_y, goal_x, lifetime_region, literal_value, next_word, print_y, sum_operation, sum_y, sum_z, term_arguments, term_functor, test_y, test_z}
use Rattle.layout.specs.Table.{all_rows}
use Rattle.layout.specs.Chains.{real}
use Rattle.layout.specs.Steps
use Rattle.records.specs.Records.{record_at}
use Rattle.records.specs.declared.Record.{Record}
use Rattle.records.specs.declared.Record.TheVariants.{Literal, Sum, Assign, Construct, Print, Create, Remove, Test}
use Rattle.chains.specs.Formed.{Formed, Onward, goals_at, first_goal, goal_at}
use Rattle.chains.specs.Kinds.{kind_in, known}

pub record LiteralAt (f : List ℕ) (i next x value : ℕ) : Type 0 where
  pub some : 0 < i
  pub below : i < record_count f
  pub w1 : next ≡ word f i next_word
  pub w2 : x ≡ word f i goal_x
  pub w3 : value ≡ word f i literal_value
  pub view : goals_at f i ≡ step (literal x value) then goals_at f next
  pub goal : goal_at f i ≡ step (literal x value)
  pub to_next : Onward f goals i next

pub literal_at : {f : List ℕ} {i next x value : ℕ} {r : Record} → Formed f → r ≡ record_at f i → r ≡ Literal next x value
    → LiteralAt f i next x value
unfolding goals_at goal_at first_goal all_rows real
literal_at {f} {i} {next} {x} {value} F e g =
    let h = known {k = (k_goal k_literal)} F refl e (ap kind_in g) in
    let e1 : next ≡ word f i next_word = cc h.same in
    let e2 : x ≡ word f i goal_x = cc h.same in
    let e3 : value ≡ word f i literal_value = cc h.same in
    let v : goals_at f i ≡ step (literal x value) then goals_at f next = rw (e1, e2, e3) (Steps.literal_step (word f) (record_count f) F.form i h.some h.below h.kind) in
    record {
      some = h.some;
      below = h.below;
      w1 = e1;
      w2 = e2;
      w3 = e3;
      view = v;
      goal = ap first_goal v;
      to_next = rw e1 h.next;
    }

pub record SumAt (f : List ℕ) (i next x operation y z : ℕ) : Type 0 where
  pub some : 0 < i
  pub below : i < record_count f
  pub w1 : next ≡ word f i next_word
  pub w2 : x ≡ word f i goal_x
  pub w3 : operation ≡ word f i sum_operation
  pub w4 : y ≡ word f i sum_y
  pub w5 : z ≡ word f i sum_z
  pub view : goals_at f i ≡ step (sum x operation y z) then goals_at f next
  pub goal : goal_at f i ≡ step (sum x operation y z)
  pub to_next : Onward f goals i next

pub sum_at_law : {f : List ℕ} {i next x operation y z : ℕ} {r : Record} → Formed f → r ≡ record_at f i → r ≡ Sum next x operation y z
    → SumAt f i next x operation y z
unfolding goals_at goal_at first_goal all_rows real
sum_at_law {f} {i} {next} {x} {operation} {y} {z} F e g =
    let h = known {k = (k_goal k_sum)} F refl e (ap kind_in g) in
    let e1 : next ≡ word f i next_word = cc h.same in
    let e2 : x ≡ word f i goal_x = cc h.same in
    let e3 : operation ≡ word f i sum_operation = cc h.same in
    let e4 : y ≡ word f i sum_y = cc h.same in
    let e5 : z ≡ word f i sum_z = cc h.same in
    let v : goals_at f i ≡ step (sum x operation y z) then goals_at f next = rw (e1, e2, e3, e4, e5) (Steps.sum_step (word f) (record_count f) F.form i h.some h.below h.kind) in
    record {
      some = h.some;
      below = h.below;
      w1 = e1;
      w2 = e2;
      w3 = e3;
      w4 = e4;
      w5 = e5;
      view = v;
      goal = ap first_goal v;
      to_next = rw e1 h.next;
    }

pub record AssignAt (f : List ℕ) (i next x y : ℕ) : Type 0 where
  pub some : 0 < i
  pub below : i < record_count f
  pub w1 : next ≡ word f i next_word
  pub w2 : x ≡ word f i goal_x
  pub w3 : y ≡ word f i assign_y
  pub view : goals_at f i ≡ step (assign x y) then goals_at f next
  pub goal : goal_at f i ≡ step (assign x y)
  pub to_next : Onward f goals i next

pub assign_at : {f : List ℕ} {i next x y : ℕ} {r : Record} → Formed f → r ≡ record_at f i → r ≡ Assign next x y
    → AssignAt f i next x y
unfolding goals_at goal_at first_goal all_rows real
assign_at {f} {i} {next} {x} {y} F e g =
    let h = known {k = (k_goal k_assign)} F refl e (ap kind_in g) in
    let e1 : next ≡ word f i next_word = cc h.same in
    let e2 : x ≡ word f i goal_x = cc h.same in
    let e3 : y ≡ word f i assign_y = cc h.same in
    let v : goals_at f i ≡ step (assign x y) then goals_at f next = rw (e1, e2, e3) (Steps.assign_step (word f) (record_count f) F.form i h.some h.below h.kind) in
    record {
      some = h.some;
      below = h.below;
      w1 = e1;
      w2 = e2;
      w3 = e3;
      view = v;
      goal = ap first_goal v;
      to_next = rw e1 h.next;
    }

pub record ConstructAt (f : List ℕ) (i next x functor a1 a2 a3 a4 : ℕ) : Type 0 where
  pub some : 0 < i
  pub below : i < record_count f
  pub w1 : next ≡ word f i next_word
  pub w2 : x ≡ word f i goal_x
  pub w3 : functor ≡ word f i term_functor
  pub w4 : a1 ≡ word f i term_arguments
  pub w5 : a2 ≡ word f i (term_arguments + 1)
  pub w6 : a3 ≡ word f i (term_arguments + 2)
  pub w7 : a4 ≡ word f i (term_arguments + 3)
  pub view : goals_at f i ≡ step (construct x functor (four a1 a2 a3 a4)) then goals_at f next
  pub goal : goal_at f i ≡ step (construct x functor (four a1 a2 a3 a4))
  pub to_next : Onward f goals i next

pub construct_at : {f : List ℕ} {i next x functor a1 a2 a3 a4 : ℕ} {r : Record} → Formed f → r ≡ record_at f i → r ≡ Construct next x functor a1 a2 a3 a4
    → ConstructAt f i next x functor a1 a2 a3 a4
unfolding goals_at goal_at first_goal all_rows real
construct_at {f} {i} {next} {x} {functor} {a1} {a2} {a3} {a4} F e g =
    let h = known {k = (k_goal k_construct)} F refl e (ap kind_in g) in
    let e1 : next ≡ word f i next_word = cc h.same in
    let e2 : x ≡ word f i goal_x = cc h.same in
    let e3 : functor ≡ word f i term_functor = cc h.same in
    let e4 : a1 ≡ word f i term_arguments = cc h.same in
    let e5 : a2 ≡ word f i (term_arguments + 1) = cc h.same in
    let e6 : a3 ≡ word f i (term_arguments + 2) = cc h.same in
    let e7 : a4 ≡ word f i (term_arguments + 3) = cc h.same in
    let v : goals_at f i ≡ step (construct x functor (four a1 a2 a3 a4)) then goals_at f next = rw (e1, e2, e3, e4, e5, e6, e7) (Steps.construct_step (word f) (record_count f) F.form i h.some h.below h.kind) in
    record {
      some = h.some;
      below = h.below;
      w1 = e1;
      w2 = e2;
      w3 = e3;
      w4 = e4;
      w5 = e5;
      w6 = e6;
      w7 = e7;
      view = v;
      goal = ap first_goal v;
      to_next = rw e1 h.next;
    }

pub record PrintAt (f : List ℕ) (i next y : ℕ) : Type 0 where
  pub some : 0 < i
  pub below : i < record_count f
  pub w1 : next ≡ word f i next_word
  pub w2 : y ≡ word f i print_y
  pub view : goals_at f i ≡ step (print y) then goals_at f next
  pub goal : goal_at f i ≡ step (print y)
  pub to_next : Onward f goals i next

pub print_at : {f : List ℕ} {i next y : ℕ} {r : Record} → Formed f → r ≡ record_at f i → r ≡ Print next y
    → PrintAt f i next y
unfolding goals_at goal_at first_goal all_rows real
print_at {f} {i} {next} {y} F e g =
    let h = known {k = (k_goal k_print)} F refl e (ap kind_in g) in
    let e1 : next ≡ word f i next_word = cc h.same in
    let e2 : y ≡ word f i print_y = cc h.same in
    let v : goals_at f i ≡ step (print y) then goals_at f next = rw (e1, e2) (Steps.print_step (word f) (record_count f) F.form i h.some h.below h.kind) in
    record {
      some = h.some;
      below = h.below;
      w1 = e1;
      w2 = e2;
      view = v;
      goal = ap first_goal v;
      to_next = rw e1 h.next;
    }

pub record CreateAt (f : List ℕ) (i next region : ℕ) : Type 0 where
  pub some : 0 < i
  pub below : i < record_count f
  pub w1 : next ≡ word f i next_word
  pub w2 : region ≡ word f i lifetime_region
  pub view : goals_at f i ≡ step (create region) then goals_at f next
  pub goal : goal_at f i ≡ step (create region)
  pub to_next : Onward f goals i next

pub create_at : {f : List ℕ} {i next region : ℕ} {r : Record} → Formed f → r ≡ record_at f i → r ≡ Create next region
    → CreateAt f i next region
unfolding goals_at goal_at first_goal all_rows real
create_at {f} {i} {next} {region} F e g =
    let h = known {k = (k_goal k_create)} F refl e (ap kind_in g) in
    let e1 : next ≡ word f i next_word = cc h.same in
    let e2 : region ≡ word f i lifetime_region = cc h.same in
    let v : goals_at f i ≡ step (create region) then goals_at f next = rw (e1, e2) (Steps.create_step (word f) (record_count f) F.form i h.some h.below h.kind) in
    record {
      some = h.some;
      below = h.below;
      w1 = e1;
      w2 = e2;
      view = v;
      goal = ap first_goal v;
      to_next = rw e1 h.next;
    }

pub record RemoveAt (f : List ℕ) (i next region : ℕ) : Type 0 where
  pub some : 0 < i
  pub below : i < record_count f
  pub w1 : next ≡ word f i next_word
  pub w2 : region ≡ word f i lifetime_region
  pub view : goals_at f i ≡ step (remove region) then goals_at f next
  pub goal : goal_at f i ≡ step (remove region)
  pub to_next : Onward f goals i next

pub remove_at : {f : List ℕ} {i next region : ℕ} {r : Record} → Formed f → r ≡ record_at f i → r ≡ Remove next region
    → RemoveAt f i next region
unfolding goals_at goal_at first_goal all_rows real
remove_at {f} {i} {next} {region} F e g =
    let h = known {k = (k_goal k_remove)} F refl e (ap kind_in g) in
    let e1 : next ≡ word f i next_word = cc h.same in
    let e2 : region ≡ word f i lifetime_region = cc h.same in
    let v : goals_at f i ≡ step (remove region) then goals_at f next = rw (e1, e2) (Steps.remove_step (word f) (record_count f) F.form i h.some h.below h.kind) in
    record {
      some = h.some;
      below = h.below;
      w1 = e1;
      w2 = e2;
      view = v;
      goal = ap first_goal v;
      to_next = rw e1 h.next;
    }

pub record TestAt (f : List ℕ) (i next y z : ℕ) : Type 0 where
  pub some : 0 < i
  pub below : i < record_count f
  pub w1 : next ≡ word f i next_word
  pub w2 : y ≡ word f i test_y
  pub w3 : z ≡ word f i test_z
  pub view : goals_at f i ≡ step (test y z) then goals_at f next
  pub goal : goal_at f i ≡ step (test y z)
  pub to_next : Onward f goals i next

pub test_at : {f : List ℕ} {i next y z : ℕ} {r : Record} → Formed f → r ≡ record_at f i → r ≡ Test next y z
    → TestAt f i next y z
unfolding goals_at goal_at first_goal all_rows real
test_at {f} {i} {next} {y} {z} F e g =
    let h = known {k = (k_goal k_test)} F refl e (ap kind_in g) in
    let e1 : next ≡ word f i next_word = cc h.same in
    let e2 : y ≡ word f i test_y = cc h.same in
    let e3 : z ≡ word f i test_z = cc h.same in
    let v : goals_at f i ≡ step (test y z) then goals_at f next = rw (e1, e2, e3) (Steps.test_step (word f) (record_count f) F.form i h.some h.below h.kind) in
    record {
      some = h.some;
      below = h.below;
      w1 = e1;
      w2 = e2;
      w3 = e3;
      view = v;
      goal = ap first_goal v;
      to_next = rw e1 h.next;
    }
