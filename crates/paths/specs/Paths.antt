-- The paths of a procedure, and document 01's rules of the checker along one of them.
-- `EveryPath` says that the rules hold on every path; `Accepting` proves that the checker accepts exactly then.
use Rattle.std.specs.Prelude.{ℕ, ◌<◌, Bool, true, false, List, [], ◌∷◌, ◌++◌, ◌≡◌, eqb, length}
use Rattle.sets.specs.Tests.{◌&◌, ◌or◌, neg}
use Rattle.sets.specs.Sets.{member, single, ◌∪◌, ◌∖◌, same_set, subset, apart}
use Rattle.sets.specs.Members.{set_of, keep, image, every}
use Rattle.sets.specs.declared.Set.{Set}
use Rattle.language.specs.Lists.{all}
use Rattle.language.specs.Program.{Four, arguments_of, Step, literal, sum, assign, construct, call, print, create, remove, test, Goals, done, ◌then◌, Goal, step, switch, if_less, try, Arms, no_arms, arm, Signature, Procedure, Program, region_of, procedure_at, signature_of}
use Rattle.language.specs.Values.{ins_of, outs_of, access}
use Rattle.language.specs.Regions.{reach, mapping, image_in}
use Rattle.language.specs.Lifetimes.{inputs, outputs, born, dead, kept, start_held}

-- ---- paths
-- What a path meets in turn: a step; a switch on x, which takes the arm of functor f with arguments ys; "if Y < Z", which takes its
-- first part (true) or its second; a try, which goes into its condition (true) or to its else part (C-20).
pub data Event : Type 0 where
  does : Step → Event
  takes : ℕ → ℕ → Four → Event
  compares : ℕ → ℕ → Bool → Event
  tries : Bool → Event

-- u, and then each of the paths ps
unfoldable pub then_each : List Event → List (List Event) → List (List Event)
then_each u [] = []
then_each u (p ∷ ps) = (u ++ p) ∷ then_each u ps

-- each of us, and then each of ps
unfoldable pub then_all : List (List Event) → List (List Event) → List (List Event)
then_all [] ps = []
then_all (u ∷ us) ps = then_each u ps ++ then_all us ps

-- all paths through goals
unfoldable mutual
  pub paths : Goals → List (List Event)
  paths done = [] ∷ []
  paths (g then gs) = then_all (ways g) (paths gs)

  -- the ways through one goal
  pub ways : Goal → List (List Event)
  ways (step g) = (does g ∷ []) ∷ []
  ways (switch x cs) = arm_ways cs x
  ways (if_less y z a b) = then_each (compares y z true ∷ []) (paths a) ++ then_each (compares y z false ∷ []) (paths b)
  -- A try: the condition and then the then part, or the else part, which "starts from what .. was held and was sound before the try" (C-20). A path on
  -- which a test fails meets in the condition what the first way meets there, and goes on like the second.
  ways (try c a b) = then_each (tries true ∷ []) (then_all (paths c) (paths a)) ++ then_each (tries false ∷ []) (paths b)

  pub arm_ways : Arms → ℕ → List (List Event)
  arm_ways no_arms x = []
  arm_ways (arm f ys gs cs) x = then_each (takes x f ys ∷ []) (paths gs) ++ arm_ways cs x

-- ---- the rules along a path: "it carries the held regions and the sound variables"
module _ (P : Program) (S : Signature) where
  -- the variables that an event reads, and those that it gives a value; a step's are listed in `access`
  unfoldable pub read_by : Event → List ℕ
  read_by (does g) = (access P g).read
  read_by (takes x f ys) = x ∷ []
  read_by (compares y z b) = y ∷ z ∷ []
  read_by (tries b) = []

  unfoldable pub given_by : Event → List ℕ
  given_by (does g) = (access P g).given
  given_by (takes x f ys) = arguments_of ys
  given_by (compares y z b) = []
  given_by (tries b) = []

  -- a call of q with arguments ys: the image of a region of q, 0 where it has none, and the set of the images of several
  unfoldable pub image_at : ℕ → List ℕ → ℕ → ℕ
  image_at q ys r = image_in (mapping S (signature_of P q) ys) r

  unfoldable pub images_at : ℕ → List ℕ → Set → Set
  images_at q ys rs = image (image_at q ys) rs

  -- "Create: not held before."
  unfoldable pub create_not_held : ℕ → Set → Bool
  create_not_held r held = neg (member held r)

  -- "Remove: held, not kept"
  unfoldable pub remove_held : ℕ → Set → Bool
  remove_held r held = member held r

  unfoldable pub remove_not_kept : ℕ → Bool
  remove_not_kept r = neg (member (kept S) r)

  -- "Each variable read is sound."
  unfoldable pub read_sound : List ℕ → Set → Bool
  read_sound ys sound = all (member sound) ys

  -- "A construct's region is held", if X's type has regions: of the others "its variables have region word 0" (C-14)
  unfoldable pub construct_held : ℕ → Set → Bool
  construct_held x held = eqb (region_of S x) 0 or member held (region_of S x)

  -- "Call: images of dead and kept regions are held."
  unfoldable pub call_held : ℕ → List ℕ → Set → Bool
  call_held q ys held = subset (images_at q ys (dead (signature_of P q) ∪ kept (signature_of P q))) held

  -- "Images of dead ones are not kept by the caller."
  unfoldable pub call_not_kept : ℕ → List ℕ → Bool
  call_not_kept q ys = apart (images_at q ys (dead (signature_of P q))) (kept S)

  -- "Images of born ones are not held."
  unfoldable pub call_not_held : ℕ → List ℕ → Set → Bool
  call_not_held q ys held = apart (images_at q ys (born (signature_of P q))) held

  -- "An image of a dead or born one is no other region's image."
  unfoldable pub call_unshared : ℕ → List ℕ → Bool
  call_unshared q ys =
      every (λ r. every (λ o. neg (eqb (image_at q ys r) (image_at q ys o)) or eqb r o) (inputs (signature_of P q) ∪ outputs (signature_of P q)))
      (dead (signature_of P q) ∪ born (signature_of P q))

  -- "At the end: born and kept regions held, no other; out variables sound."
  unfoldable pub end_rule : Set → Set → Bool
  end_rule held sound = same_set held (born S ∪ kept S) & subset (outs_of S) sound

  -- the rules of regions that speak of each event
  unfoldable pub region_rules : Event → Set → Bool
  region_rules (does (literal x v)) held = true
  region_rules (does (sum x o y z)) held = true
  region_rules (does (assign x y)) held = true
  region_rules (does (construct x f ys)) held = construct_held x held
  region_rules (does (call q ys)) held = call_held q ys held & call_not_kept q ys & call_not_held q ys held & call_unshared q ys
  region_rules (does (print y)) held = true
  region_rules (does (test y z)) held = true
  region_rules (does (create r)) held = create_not_held r held
  region_rules (does (remove r)) held = remove_held r held & remove_not_kept r
  region_rules (takes x f ys) held = true
  region_rules (compares y z b) held = true
  region_rules (tries b) held = true

  -- all rules that speak of an event
  unfoldable pub event_rules : Event → Set → Set → Bool
  event_rules e held sound = read_sound (read_by e) sound & region_rules e held

  -- the held regions after an event. A call: "After it, dead images are gone .. born ones are held."
  unfoldable pub held_then : Event → Set → Set
  held_then (does (literal x v)) held = held
  held_then (does (sum x o y z)) held = held
  held_then (does (assign x y)) held = held
  held_then (does (construct x f ys)) held = held
  held_then (does (call q ys)) held = (held ∖ images_at q ys (dead (signature_of P q))) ∪ images_at q ys (born (signature_of P q))
  held_then (does (print y)) held = held
  held_then (does (test y z)) held = held
  held_then (does (create r)) held = held ∪ single r
  held_then (does (remove r)) held = held ∖ single r
  held_then (takes x f ys) held = held
  held_then (compares y z b) held = held
  held_then (tries b) held = held

  -- those that reach none of the regions rs
  unfoldable pub not_reaching : Set → Set → Set
  not_reaching rs xs = keep (λ x. apart (reach S x) rs) xs

  -- A remove: "variables reaching it stop being sound". A call: "variables reaching them are no longer sound".
  unfoldable pub still_sound : Event → Set → Set
  still_sound (does (literal x v)) sound = sound
  still_sound (does (sum x o y z)) sound = sound
  still_sound (does (assign x y)) sound = sound
  still_sound (does (construct x f ys)) sound = sound
  still_sound (does (call q ys)) sound = not_reaching (images_at q ys (dead (signature_of P q))) sound
  still_sound (does (print y)) sound = sound
  still_sound (does (test y z)) sound = sound
  still_sound (does (create r)) sound = sound
  still_sound (does (remove r)) sound = not_reaching (single r) sound
  still_sound (takes x f ys) sound = sound
  still_sound (compares y z b) sound = sound
  still_sound (tries b) sound = sound

  -- "A variable given a value is sound if its whole reach is then held."
  unfoldable pub sound_then : Event → Set → Set → Set
  sound_then e held sound = (still_sound e sound ∖ set_of (given_by e)) ∪ keep (λ x. subset (reach S x) (held_then e held)) (set_of (given_by e))

  -- the rules hold along a path from its start with `held` and `sound`, and so does `at_end` at its end
  unfoldable pub keeps_along : (Set → Set → Bool) → List Event → Set → Set → Bool
  keeps_along at_end [] held sound = at_end held sound
  keeps_along at_end (e ∷ es) held sound = event_rules e held sound & keeps_along at_end es (held_then e held) (sound_then e held sound)

  -- "A procedure starts with its dead and kept regions held and its in variables sound."
  unfoldable pub path_rules : List Event → Bool
  path_rules path = keeps_along end_rule path (start_held S) (ins_of S)

-- ---- "Arms end with equal held regions"
-- a goal, anywhere in a procedure, and a path that leads to it
pub record Arrival : Type 0 where
  pub before : List Event
  pub goal : Goal

unfoldable pub arrivals_after : List Event → List Arrival → List Arrival
arrivals_after u [] = []
arrivals_after u (a ∷ rest) = record { before = u ++ a.before; goal = a.goal } ∷ arrivals_after u rest

unfoldable pub arrivals_after_all : List (List Event) → List Arrival → List Arrival
arrivals_after_all [] rest = []
arrivals_after_all (u ∷ us) rest = arrivals_after u rest ++ arrivals_after_all us rest

-- each goal, with each path that leads to it
unfoldable mutual
  pub arrivals : Goals → List Arrival
  arrivals done = []
  arrivals (g then gs) = record { before = []; goal = g } ∷ (arrivals_in g ++ arrivals_after_all (ways g) (arrivals gs))

  pub arrivals_in : Goal → List Arrival
  arrivals_in (step g) = []
  arrivals_in (switch x cs) = arm_arrivals cs x
  arrivals_in (if_less y z a b) =
      arrivals_after (compares y z true ∷ []) (arrivals a) ++ arrivals_after (compares y z false ∷ []) (arrivals b)
  arrivals_in (try c a b) =
      arrivals_after (tries true ∷ []) (arrivals c ++ arrivals_after_all (paths c) (arrivals a)) ++ arrivals_after (tries false ∷ []) (arrivals b)

  pub arm_arrivals : Arms → ℕ → List Arrival
  arm_arrivals no_arms x = []
  arm_arrivals (arm f ys gs cs) x = arrivals_after (takes x f ys ∷ []) (arrivals gs) ++ arm_arrivals cs x

module _ (P : Program) (S : Signature) where
  unfoldable pub held_along : List Event → Set → Set
  held_along [] held = held
  held_along (e ∷ es) held = held_along es (held_then P S e held)

  -- any two ways through the goal end with equal held regions
  unfoldable pub arms_agree : Set → Arrival → Bool
  arms_agree held a =
      all (λ u. all (λ v. same_set (held_along (a.before ++ u) held) (held_along (a.before ++ v) held)) (ways a.goal)) (ways a.goal)

-- The rules hold on every path of a procedure, with that path's own held regions and sound variables. "Sound afterwards is sound after every
-- arm" is then no rule of its own: what is not sound after some arm is not sound on the paths through it (`carried_on_every_path` in `Accepting`).
-- And `arms` follows from `rules` (`arms_follow` there); it stands here because document 01 says it.
pub record EveryPath (P : Program) (p : Procedure) : Type 0 where
  pub rules : all (path_rules P p.signature) (paths p.body) ≡ true
  pub arms : all (arms_agree P p.signature (start_held p.signature)) (arrivals p.body) ≡ true

-- and of every procedure
abbrev pub EveryProcedure : Program → Type 0
EveryProcedure P = (n : ℕ) → n < length P.procedures → EveryPath P (procedure_at P n)
