-- "Reach of a variable", a call's mapping, and number 5.
use Rattle.std.specs.Prelude.{ℕ, zero, suc, Bool, true, false, List, [], ◌∷◌, eqb, length}
use Rattle.sets.specs.Tests.{◌&◌}
use Rattle.sets.specs.Sets.{single, ◌∪◌}
use Rattle.sets.specs.Members.{set_of, union_over}
use Rattle.sets.specs.declared.Set.{Set}
use Rattle.language.specs.Lists.{all, choose, put}
use Rattle.language.specs.Program.{arguments_of, Edge, Step, literal, sum, assign, construct, call, print, create, remove, test, Goals, done, ◌then◌, Goal, step, switch, if_less, try, Arms, no_arms, arm, Signature, Program, region_of, region_at, signature_of, parameters_of, parameter_variables}

-- where the edges of a region lead, in rising order of functor and position
unfoldable pub targets_in : List Edge → List ℕ
targets_in [] = []
targets_in (e ∷ es) = e.target ∷ targets_in es

unfoldable pub targets : Signature → ℕ → List ℕ
targets S r = targets_in (region_at S r).edges

-- "Reach of a variable: its region and all regions that edges lead to from it."
module _ (S : Signature) where
  -- a set of regions with those one edge further
  unfoldable pub grown : Set → Set
  grown s = s ∪ union_over (λ r. set_of (targets S r)) s

  unfoldable pub grown_by : ℕ → Set → Set
  grown_by zero s = s
  grown_by (suc n) s = grown (grown_by n s)

  -- no way along edges to a new region is longer than there are regions
  unfoldable pub reach_from : ℕ → Set
  reach_from r = grown_by (length S.regions) (single r)

  unfoldable pub reach : ℕ → Set
  reach x = reach_from (region_of S x)

  -- the reach of several variables
  unfoldable pub reach_all : Set → Set
  reach_all xs = union_over reach xs

-- "A call maps each input or output region of the callee to one of the caller: argument to argument, then along equal edges."
-- The images by region of the callee, 0 where there is none yet; or a region has two.
pub data Mapping : Type 0 where
  two_ways : Mapping
  images : (ℕ → ℕ) → Mapping

-- a pair of a callee's and a caller's region that the mapping must hold
pub record Pair : Type 0 where
  pub callee : ℕ
  pub caller : ℕ

unfoldable pub pairs : List ℕ → List ℕ → List Pair
pairs [] us = []
pairs (r ∷ rs) [] = []
pairs (r ∷ rs) (u ∷ us) = record { callee = r; caller = u } ∷ pairs rs us

unfoldable pub after_mapping : Mapping → ((ℕ → ℕ) → Mapping) → Mapping
after_mapping two_ways f = two_ways
after_mapping (images m) f = f m

-- go through pairs in turn
unfoldable pub map_each : (ℕ → ℕ → (ℕ → ℕ) → Mapping) → List Pair → (ℕ → ℕ) → Mapping
map_each f [] m = images m
map_each f (p ∷ ps) m = after_mapping (f p.callee p.caller m) (λ n. map_each f ps n)

-- a region that has an image already keeps it, and may get no other
unfoldable pub agreeing : Bool → (ℕ → ℕ) → Mapping
agreeing true m = images m
agreeing false m = two_ways

-- v is the image so far: 0 for none, and then `onward` goes on
unfoldable pub visit : ℕ → ℕ → (ℕ → ℕ) → Mapping → Mapping
visit zero u m onward = onward
visit (suc v) u m onward = agreeing (eqb (suc v) u) m

-- region r of the callee Q gets the image u of the caller C, and so on along r's and u's equal edges; n bounds the unmapped regions
unfoldable pub map_region : Signature → Signature → ℕ → ℕ → ℕ → (ℕ → ℕ) → Mapping
map_region C Q zero r u m = agreeing (eqb (m r) u) m
map_region C Q (suc n) zero u m = images m
map_region C Q (suc n) (suc r) u m =
    visit (m (suc r)) u m (map_each (λ q v k. map_region C Q n q v k) (pairs (targets Q (suc r)) (targets C u)) (put m (suc r) u))

unfoldable pub regions_of : Signature → List ℕ → List ℕ
regions_of S [] = []
regions_of S (x ∷ xs) = region_of S x ∷ regions_of S xs

-- the mapping of a call of Q from C with arguments ys
unfoldable pub mapping : Signature → Signature → List ℕ → Mapping
mapping C Q ys =
    map_each (λ r u m. map_region C Q (length Q.regions) r u m)
    (pairs (regions_of Q (parameter_variables (parameters_of Q))) (regions_of C ys)) (λ r. 0)

unfoldable pub image_in : Mapping → ℕ → ℕ
image_in two_ways r = 0
image_in (images m) r = m r

unfoldable pub one_way : Mapping → Bool
one_way two_ways = false
one_way (images m) = true

-- the target of the edge for functor f and position k, 0 where there is none
unfoldable pub target_for : List Edge → ℕ → ℕ → ℕ
target_for [] f k = 0
target_for (e ∷ es) f k = choose (eqb e.functor f & eqb e.position k) e.target (target_for es f k)

-- Number 5
module _ (P : Program) (S : Signature) where
  -- "construct or arm argument not in its edge's target": arguments from position k on, of functor f in region r
  unfoldable pub in_targets : ℕ → ℕ → ℕ → List ℕ → Bool
  in_targets r f k [] = true
  in_targets r f k (y ∷ ys) = eqb (region_of S y) (target_for (region_at S r).edges f k) & in_targets r f (suc k) ys

  -- "assign with X and Y in different regions"; "a call that maps one region two ways"
  unfoldable pub step_regions : Step → Bool
  step_regions (literal x v) = true
  step_regions (sum x o y z) = true
  step_regions (assign x y) = eqb (region_of S x) (region_of S y)
  step_regions (construct x f ys) = in_targets (region_of S x) f 1 (arguments_of ys)
  step_regions (call q ys) = one_way (mapping S (signature_of P q) ys)
  step_regions (print y) = true
  step_regions (create r) = true
  step_regions (remove r) = true
  step_regions (test y z) = true

  unfoldable mutual
    pub goals_regions : Goals → Bool
    goals_regions done = true
    goals_regions (g then gs) = goal_regions g & goals_regions gs

    pub goal_regions : Goal → Bool
    goal_regions (step g) = step_regions g
    goal_regions (switch x cs) = arms_regions cs (region_of S x)
    goal_regions (if_less y z a b) = goals_regions a & goals_regions b
    goal_regions (try c a b) = goals_regions c & goals_regions a & goals_regions b

    -- the arms of a switch on a variable in region r
    pub arms_regions : Arms → ℕ → Bool
    arms_regions no_arms r = true
    arms_regions (arm f ys gs cs) r = in_targets r f 1 (arguments_of ys) & goals_regions gs & arms_regions cs r

unfoldable pub regions_ok : Program → Bool
regions_ok P = all (λ p. goals_regions P p.signature p.body) P.procedures
