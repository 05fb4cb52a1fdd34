-- Number 4: each variable is read after it has a value on every path, and is given one on no path twice.
use Rattle.std.specs.Prelude.{ℕ, Bool, true, false, List, [], ◌∷◌, eqb}
use Rattle.sets.specs.Tests.{◌&◌}
use Rattle.sets.specs.Sets.{member, ◌∪◌, ◌∩◌, subset, apart}
use Rattle.sets.specs.Members.{set_of}
use Rattle.sets.specs.declared.Set.{Set}
use Rattle.language.specs.Lists.{all, count, is_none}
use Rattle.language.specs.Program.{arguments_of, Step, literal, sum, assign, construct, call, print, create, remove, test, Goals, done, ◌then◌, Goal, step, switch, if_less, try, Arms, no_arms, arm, Signature, Procedure, Program, signature_of, parameters_of, in_mode, out_mode, arguments_in, variables_in}

-- a procedure's in and out variables
unfoldable pub ins_of : Signature → Set
ins_of S = set_of (variables_in in_mode S)

unfoldable pub outs_of : Signature → Set
outs_of S = set_of (variables_in out_mode S)

-- the variables that a step reads, and those that it gives a value
pub record Access : Type 0 where
  pub read : List ℕ
  pub given : List ℕ

unfoldable pub accessing : List ℕ → List ℕ → Access
accessing ys xs = record { read = ys; given = xs }

module _ (P : Program) where
  unfoldable pub access : Step → Access
  access (literal x v) = accessing [] (x ∷ [])
  access (sum x o y z) = accessing (y ∷ z ∷ []) (x ∷ [])
  access (assign x y) = accessing (y ∷ []) (x ∷ [])
  access (construct x f ys) = accessing (arguments_of ys) (x ∷ [])
  access (call q ys) = accessing (arguments_in in_mode (parameters_of (signature_of P q)) ys) (arguments_in out_mode (parameters_of (signature_of P q)) ys)
  access (print y) = accessing (y ∷ []) []
  access (create r) = accessing [] []
  access (remove r) = accessing [] []
  access (test y z) = accessing (y ∷ z ∷ []) []

  unfoldable pub reads : Step → Set
  reads g = set_of (access g).read

  unfoldable pub gives : Step → Set
  gives g = set_of (access g).given

-- what is known at a point: the variables with a value on every path that leads there, and those with one on some path
pub data Valued : Type 0 where
  faulty : Valued
  valued : Set → Set → Valued

unfoldable pub require_values : Bool → Valued → Valued
require_values true v = v
require_values false v = faulty

unfoldable pub after_values : Valued → (Set → Set → Valued) → Valued
after_values faulty f = faulty
after_values (valued e s) f = f e s

-- where paths meet
unfoldable pub meet_values : Valued → Valued → Valued
meet_values faulty w = faulty
meet_values (valued e s) faulty = faulty
meet_values (valued e s) (valued d t) = valued (e ∩ d) (s ∪ t)

-- no number stands twice in a list
unfoldable pub distinct : List ℕ → Bool
distinct [] = true
distinct (x ∷ xs) = eqb (count x xs) 0 & distinct xs

-- "or given one where some path, or the same goal, already did"
unfoldable pub give_values : List ℕ → Set → Set → Valued
give_values xs e s = require_values (apart (set_of xs) s & distinct xs) (valued (e ∪ set_of xs) (s ∪ set_of xs))

module _ (P : Program) where
  -- "a variable read before it has a value on every path"
  unfoldable pub step_values : Step → Set → Set → Valued
  step_values g e s = require_values (subset (reads P g) e) (give_values (access P g).given e s)

  unfoldable mutual
    pub goals_values : Goals → Set → Set → Valued
    goals_values done e s = valued e s
    goals_values (g then gs) e s = after_values (goal_values g e s) (λ d t. goals_values gs d t)

    pub goal_values : Goal → Set → Set → Valued
    goal_values (step g) e s = step_values g e s
    goal_values (switch x cs) e s = require_values (member e x) (arms_values cs e s)
    goal_values (if_less y z a b) e s = require_values (member e y & member e z) (meet_values (goals_values a e s) (goals_values b e s))
    -- "The else part starts from what had a value .. before the try, the then part from what the condition ends with" (C-20)
    goal_values (try c a b) e s = meet_values (after_values (goals_values c e s) (λ d t. goals_values a d t)) (goals_values b e s)

    -- number 3 sees to it that there is an arm
    pub arms_values : Arms → Set → Set → Valued
    arms_values no_arms e s = valued e s
    arms_values (arm f ys gs no_arms) e s = after_values (give_values (arguments_of ys) e s) (λ d t. goals_values gs d t)
    arms_values (arm f ys gs (arm k zs hs cs)) e s =
        meet_values (after_values (give_values (arguments_of ys) e s) (λ d t. goals_values gs d t)) (arms_values (arm k zs hs cs) e s)

-- "an out variable without one at the end"
unfoldable pub outs_valued : Signature → Valued → Bool
outs_valued S faulty = false
outs_valued S (valued e s) = subset (outs_of S) e

unfoldable pub procedure_values : Program → Procedure → Bool
procedure_values P p = outs_valued p.signature (goals_values P p.body (ins_of p.signature) (ins_of p.signature))

-- "an in or out variable on the entry"; "Procedure 0 is the entry."
unfoldable pub values_ok : Program → Bool
values_ok P = is_none (parameters_of (signature_of P 0)) & all (procedure_values P) P.procedures
