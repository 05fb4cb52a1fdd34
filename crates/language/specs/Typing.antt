-- Number 3: "a number out of range, a wrong type, count or order; a word past the arity not 0", by the rules of "The file".
use Rattle.std.specs.Prelude.{ℕ, suc, Bool, true, false, List, [], ◌∷◌, ◌++◌, eqb, leb, ltb, length, take, drop}
use Rattle.sets.specs.Tests.{◌&◌, neg}
use Rattle.language.specs.Lists.{all, among, choose}
use Rattle.language.specs.Format.{max_types, max_functors, max_arity, max_procedures, max_variables, max_regions}
use Rattle.language.specs.Program.{Four, four_words, arguments_of, Functor, Variable, Edge, Region, Step, literal, sum, assign, construct, call, print, create, remove, test, Goals, done, ◌then◌, Goal, step, switch, if_less, try, Arms, no_arms, arm, Signature, Procedure, Program, type_of, region_at, signature_of, functors_of, functor_at, parameters_of, parameter_variables}

-- the types of a functor's arguments
unfoldable pub types_in : Functor → List ℕ
types_in f = take f.arity (four_words f.argument_types)

-- a place of a type's values: a functor and an argument position, with the argument's type
pub record Place : Type 0 where
  pub functor : ℕ
  pub position : ℕ
  pub type : ℕ

unfoldable pub place_if : Bool → Place → List Place → List Place
place_if true p ps = p ∷ ps
place_if false p ps = ps

-- what a procedure's words may name
module _ (S : Signature) where
  unfoldable pub is_variable : ℕ → Bool
  is_variable x = among (length S.variables) x

  unfoldable pub is_region : ℕ → Bool
  is_region r = among (length S.regions) r

  -- x is a variable of type t
  unfoldable pub has_type : ℕ → ℕ → Bool
  has_type t x = is_variable x & eqb (type_of S x) t

  -- r is a region of type t
  unfoldable pub is_region_of : ℕ → ℕ → Bool
  is_region_of t r = is_region r & eqb (region_at S r).type t

  -- as many variables as types, each of its type
  unfoldable pub have_types : List ℕ → List ℕ → Bool
  have_types [] [] = true
  have_types [] (x ∷ xs) = false
  have_types (t ∷ ts) [] = false
  have_types (t ∷ ts) (x ∷ xs) = has_type t x & have_types ts xs

  -- as many arguments as the arity: "a word past the arity not 0" is one more
  unfoldable pub arguments_ok : Functor → Four → Bool
  arguments_ok f ys = have_types (types_in f) (arguments_of ys)

-- the types and what a procedure declares
module _ (T : List (List Functor)) where
  unfoldable pub is_type : ℕ → Bool
  is_type t = leb t (length T)

  -- t has regions: "A type all of whose functors have arity 0 has no regions" (C-14); "Type 0 .. has no region", and no functors
  unfoldable pub regioned : ℕ → Bool
  regioned t = neg (all (λ f. eqb f.arity 0) (functors_of T t))

  -- "arity 0 to 4, w3 to w6 argument types"
  unfoldable pub functor_ok : Functor → Bool
  functor_ok f = leb f.arity max_arity & all is_type (types_in f) & all (λ t. eqb t 0) (drop f.arity (four_words f.argument_types))

  -- "At most 64 types, 32 functors a type (at least 1)"
  unfoldable pub type_ok : List Functor → Bool
  type_ok fs = among max_functors (length fs) & all functor_ok fs

  unfoldable pub types_ok : Bool
  types_ok = leb (length T) max_types & all type_ok T

  -- "An edge stands for each functor and each argument position whose type is not 0, once, in rising order": whose type has regions,
  -- for of the others "no edge leads to it" (C-14)
  unfoldable pub places_in : ℕ → ℕ → List ℕ → List Place
  places_in f k [] = []
  places_in f k (t ∷ ts) = place_if (regioned t) (record { functor = f; position = k; type = t }) (places_in f (suc k) ts)

  unfoldable pub places_from : ℕ → List Functor → List Place
  places_from f [] = []
  places_from f (g ∷ gs) = places_in f 1 (types_in g) ++ places_from (suc f) gs

  module _ (S : Signature) where
    -- "A variable's region has the variable's type, an edge's target the argument's."
    unfoldable pub variable_ok : Variable → Bool
    variable_ok v =
        leb v.mode 2 & is_type v.type & choose (regioned v.type) (is_region_of S v.type v.region) (eqb v.region 0)

    unfoldable pub edges_ok : List Place → List Edge → Bool
    edges_ok [] [] = true
    edges_ok [] (e ∷ es) = false
    edges_ok (p ∷ ps) [] = false
    edges_ok (p ∷ ps) (e ∷ es) =
        eqb e.functor p.functor & eqb e.position p.position & is_region_of S p.type e.target & edges_ok ps es

    unfoldable pub region_ok : Region → Bool
    region_ok r =
        is_type r.type & regioned r.type & leb r.class 2 & edges_ok (places_from 0 (functors_of T r.type)) r.edges

    -- "64 variables and 64 regions a procedure"
    unfoldable pub signature_ok : Bool
    signature_ok =
        leb (length S.variables) max_variables & leb (length S.regions) max_regions & all variable_ok S.variables & all region_ok S.regions

unfoldable pub types_of : Signature → List ℕ → List ℕ
types_of S [] = []
types_of S (x ∷ xs) = type_of S x ∷ types_of S xs

-- the types of a procedure's in and out variables
unfoldable pub parameter_types : Signature → List ℕ
parameter_types S = types_of S (parameter_variables (parameters_of S))

-- the goals of a procedure
module _ (P : Program) (S : Signature) where
  unfoldable pub functors_for : ℕ → List Functor
  functors_for x = functors_of P.types (type_of S x)

  -- "Literals, sums, ifs and prints take variables of type 0 only; an assign's two have one type." A test's are "both of type 0" (C-20).
  -- "A call's arguments match the callee's in and out variables in chain order."
  unfoldable pub step_ok : Step → Bool
  step_ok (literal x v) = has_type S 0 x
  step_ok (sum x o y z) = has_type S 0 x & leb o 1 & has_type S 0 y & has_type S 0 z
  step_ok (assign x y) = is_variable S x & has_type S (type_of S x) y
  step_ok (construct x f ys) = is_variable S x & ltb f (length (functors_for x)) & arguments_ok S (functor_at (functors_for x) f) ys
  step_ok (call q ys) = ltb q (length P.procedures) & have_types S (parameter_types (signature_of P q)) ys
  step_ok (print y) = has_type S 0 y
  step_ok (create r) = is_region S r
  step_ok (remove r) = is_region S r
  step_ok (test y z) = has_type S 0 y & has_type S 0 z

  unfoldable mutual
    pub goals_ok : Goals → Bool
    goals_ok done = true
    goals_ok (g then gs) = goal_ok g & goals_ok gs

    pub goal_ok : Goal → Bool
    goal_ok (step s) = step_ok s
    goal_ok (switch x cs) = is_variable S x & leb 1 (type_of S x) & arms_ok cs (functors_for x) 0
    goal_ok (if_less y z a b) = has_type S 0 y & has_type S 0 z & goals_ok a & goals_ok b
    goal_ok (try c a b) = goals_ok c & goals_ok a & goals_ok b

    -- "A switch has one arm for each functor of X's type, in rising order": the functors from number n on
    pub arms_ok : Arms → List Functor → ℕ → Bool
    arms_ok no_arms [] n = true
    arms_ok no_arms (f ∷ fs) n = false
    arms_ok (arm g ys gs cs) [] n = false
    arms_ok (arm g ys gs cs) (f ∷ fs) n = eqb g n & arguments_ok S f ys & goals_ok gs & arms_ok cs fs (suc n)

unfoldable pub procedure_ok : Program → Procedure → Bool
procedure_ok P p = signature_ok P.types p.signature & goals_ok P p.signature p.body

-- "256 procedures (at least 1)"
unfoldable pub typing_ok : Program → Bool
typing_ok P = types_ok P.types & among max_procedures (length P.procedures) & all (procedure_ok P) P.procedures
