-- The goals without parts but the call: what the code tests is what the definition says.
use Prim.Native.Nat.{ℕ, ◌≤◌, ◌<◌}
use native.Mathlib.Omega.{arith}
use borrow.Author.Tests.{le-leb, lt-leb, lt-ltb, le-ltb}
use mathlib.Core.Path.{◌≡◌, refl, ap, sym, ◌∙◌}
use mathlib.Core.Bool.{Bool, true, false}
use mathlib.Core.List.{List}
use lib.Dec.{leb, ltb}
use lib.ListN.{length}
use Rattle.sets.specs.Tests.{◌&◌}
use Rattle.laws.specs.Tests.{and_stop, and_on, refuse, pass}
use Rattle.language.specs.Format.{goal_x, sum_operation, sum_y, sum_z, assign_y, term_functor, print_y, test_y, test_z, lifetime_region, variable_type}
use Rattle.language.specs.File.{word}
use Rattle.language.specs.Program.{Signature, functors_of, functor_at, type_of}
use Rattle.language.specs.Answers.{program}
use Rattle.language.specs.Typing.{is_variable, is_region, has_type, arguments_ok, functors_for, step_ok, goal_ok}
use Rattle.chains.specs.Parts.{four_at}
use Rattle.chains.specs.Formed.{Formed, goal_at}
use Rattle.chains.specs.Shapes.{IsLiteral, IsSum, IsAssign, IsConstruct, IsPrint, IsCreate, IsRemove, IsTest, literal_here, sum_here, assign_here, construct_here, print_here, create_here, remove_here, test_here}
use Rattle.declarations.specs.DeclaredPlaces.{variable_in, region_in, functor_in}
use Rattle.declarations.specs.Functors.{functor_at_record}
use Rattle.declarations.specs.Declares.{Declares, functor_listed, functor_here}
use Rattle.declarations.specs.Own.{Own, declared, variable_none, variable_some, variable_type_law, region_listed}

-- ---- the steps that name variables of type 0
module _ {f : List ℕ} (F : Formed f) (S : Signature) (i : ℕ) where
  pub literal_is : IsLiteral f i → {r : Bool} → r ≡ has_type S 0 (word f i goal_x) → r ≡ goal_ok (program f) S (goal_at f i)
  unfolding goal_ok step_ok
  literal_is n h = h ∙ rw (literal_here F refl n).goal

  pub print_is : IsPrint f i → {r : Bool} → r ≡ has_type S 0 (word f i print_y) → r ≡ goal_ok (program f) S (goal_at f i)
  unfolding goal_ok step_ok
  print_is n h = h ∙ rw (print_here F refl n).goal

  module _ (n : IsTest f i) {r1 : Bool} (e1 : r1 ≡ has_type S 0 (word f i test_y)) where
    test_as : (has_type S 0 (word f i test_y) & has_type S 0 (word f i test_z)) ≡ goal_ok (program f) S (goal_at f i)
    unfolding goal_ok step_ok
    test_as = rw (test_here F refl n).goal

    pub test_first : r1 ≡ false → false ≡ goal_ok (program f) S (goal_at f i)
    test_first p1 = refuse _ e1 p1 ∙ test_as

    pub test_both : {r2 : Bool} → r1 ≡ true → r2 ≡ has_type S 0 (word f i test_z) → r2 ≡ goal_ok (program f) S (goal_at f i)
    test_both p1 e2 = pass e1 p1 e2 ∙ test_as

  module _ (n : IsSum f i) {r1 : Bool} (e1 : r1 ≡ has_type S 0 (word f i goal_x)) where
    sum_as : (has_type S 0 (word f i goal_x) & leb (word f i sum_operation) 1 & has_type S 0 (word f i sum_y) & has_type S 0 (word f i sum_z)) ≡ goal_ok (program f) S (goal_at f i)
    unfolding goal_ok step_ok
    sum_as = rw (sum_here F refl n).goal

    pub sum_first : r1 ≡ false → false ≡ goal_ok (program f) S (goal_at f i)
    sum_first p1 = refuse _ e1 p1 ∙ sum_as

    module _ (p1 : r1 ≡ true) {o : ℕ} (eo : o ≡ word f i sum_operation) where
      pub sum_operation_law : 1 < o → false ≡ goal_ok (program f) S (goal_at f i)
      sum_operation_law h = pass e1 p1 (and_stop _ (lt-leb (word f i sum_operation) 1 (omega arith))) ∙ sum_as

      module _ (h : o ≤ 1) {r2 : Bool} (e2 : r2 ≡ has_type S 0 (word f i sum_y)) where
        pub sum_second : r2 ≡ false → false ≡ goal_ok (program f) S (goal_at f i)
        sum_second p2 = pass e1 p1 (and_on (le-leb (word f i sum_operation) 1 (omega arith)) (refuse _ e2 p2)) ∙ sum_as

        pub sum_all : {r3 : Bool} → r2 ≡ true → r3 ≡ has_type S 0 (word f i sum_z) → r3 ≡ goal_ok (program f) S (goal_at f i)
        sum_all p2 e3 = pass e1 p1 (and_on (le-leb (word f i sum_operation) 1 (omega arith)) (pass e2 p2 e3)) ∙ sum_as

module _ {f own : List ℕ} (F : Formed f) (O : Own f own) (i : ℕ) where
  abbrev signature : Signature
  signature = declared f own

  -- ---- a create or a remove names a region
  module _ {x r : ℕ} (ex : x ≡ word f i lifetime_region) (er : r ≡ region_in own x) where
    lifetime_region_law : ltb 0 r ≡ is_region signature (word f i lifetime_region)
    lifetime_region_law = ap (ltb 0) er ∙ region_listed F O x ∙ ap (is_region signature) ex

    pub create_is : IsCreate f i → ltb 0 r ≡ goal_ok (program f) signature (goal_at f i)
    unfolding goal_ok step_ok
    create_is n = lifetime_region_law ∙ rw (create_here F refl n).goal

    pub remove_is : IsRemove f i → ltb 0 r ≡ goal_ok (program f) signature (goal_at f i)
    unfolding goal_ok step_ok
    remove_is n = lifetime_region_law ∙ rw (remove_here F refl n).goal

  -- ---- an assign or a construct gives X a value, whose record is at v
  module _ {x v : ℕ} (ex : x ≡ word f i goal_x) (ev : v ≡ variable_in own x) where
    module _ (n : IsAssign f i) where
      assign_as : (is_variable signature x & has_type signature (type_of signature x) (word f i assign_y)) ≡ goal_ok (program f) signature (goal_at f i)
      unfolding goal_ok step_ok
      assign_as = rw ((assign_here F refl n).goal, ex)

      pub assign_none : v ≡ 0 → false ≡ goal_ok (program f) signature (goal_at f i)
      assign_none z = and_stop _ (variable_none F O x ev z) ∙ assign_as

      pub assign_all : (v ≡ 0 → ⊥) → {ty y : ℕ} {r : Bool} → ty ≡ word f v variable_type → y ≡ word f i assign_y → r ≡ has_type signature ty y → r ≡ goal_ok (program f) signature (goal_at f i)
      assign_all z et ey e = and_on (variable_some F O x ev z) (rw (variable_type_law F O x ev z, sym et, sym ey) e) ∙ assign_as

    module _ (n : IsConstruct f i) where
      construct_as : (is_variable signature x & ltb (word f i term_functor) (length (functors_of (program f).types (type_of signature x)))
          & arguments_ok signature (functor_at (functors_of (program f).types (type_of signature x)) (word f i term_functor)) (four_at f i)) ≡ goal_ok (program f) signature (goal_at f i)
      unfolding goal_ok step_ok functors_for
      construct_as = rw ((construct_here F refl n).goal, ex)

      pub construct_unlisted : v ≡ 0 → false ≡ goal_ok (program f) signature (goal_at f i)
      construct_unlisted z = and_stop _ (variable_none F O x ev z) ∙ construct_as

      module _ {t : List ℕ} (D : Declares f t) (z : v ≡ 0 → ⊥) {ty k g : ℕ} (et : ty ≡ word f v variable_type) (ek : k ≡ word f i term_functor) (eg : g ≡ functor_in t ty k) where
        construct_some : {q : Bool} → q ≡ (ltb k (length (functors_of (program f).types ty)) & arguments_ok signature (functor_at (functors_of (program f).types ty) k) (four_at f i))
            → q ≡ goal_ok (program f) signature (goal_at f i)
        construct_some e = and_on (variable_some F O x ev z) (rw (variable_type_law F O x ev z, sym et, sym ek) e) ∙ construct_as

        pub construct_none : g ≡ 0 → false ≡ goal_ok (program f) signature (goal_at f i)
        construct_none n = construct_some (refuse _ (functor_listed D ty k) (le-ltb 0 (functor_in t ty k) (omega arith)))

        pub construct_all : (g ≡ 0 → ⊥) → {q : Bool} → q ≡ arguments_ok signature (functor_at_record f g) (four_at f i) → q ≡ goal_ok (program f) signature (goal_at f i)
        construct_all n e =
            construct_some (pass (functor_listed D ty k) (lt-ltb 0 (functor_in t ty k) (omega arith)) (e ∙ ap (λ h. arguments_ok signature h (four_at f i)) (sym (functor_here D ty k eg n))))
