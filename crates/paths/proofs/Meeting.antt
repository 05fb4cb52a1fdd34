-- "Arms end with equal held regions" follows from the other rules: where they hold on every path, any two ways through a goal end with equal
-- held regions. For both go on alike from there to one end, and each event leaves different what was different.
use Rattle.std.specs.Prelude.{ℕ, Bool, true, false, ◌≡◌}
use mathlib.Core.List.{List, ◌∷◌, ◌++◌, append_assoc, []}
use Rattle.std.proofs.Math.Path.{refl, ap₂}
use Rattle.std.proofs.Common.{sym, ap, ◌∙◌}
use Rattle.sets.specs.Tests.{◌&◌, and_true, true_and}
use Rattle.sets.specs.Sets.{same_set, eq_same}
use Rattle.sets.specs.declared.Set.{Set}
use Rattle.language.specs.Lists.{all}
use Rattle.language.specs.Program.{Four, Goals, done, ◌then◌, Goal, step, switch, if_less, try, Arms, no_arms, arm, Signature, Program}
use Rattle.laws.specs.Lists.{all_append, all_same, all_weaker}
use Rattle.paths.specs.Paths.{Event, takes, compares, tries, then_each, then_all, paths, ways, arm_ways, held_then, sound_then, keeps_along, Arrival, arrivals_after, arrivals_after_all, arrivals, arrivals_in, arm_arrivals, held_along, arms_agree}
use Rattle.paths.proofs.Named.{goals_named, goal_named, arms_named, some_path_law}
use Rattle.paths.proofs.Alls.{none_all}
use Rattle.paths.proofs.Carrying.{Test, Splits}
use Rattle.paths.proofs.Along.{along_all, all_splits, along_then, along_append, along_takes, along_compares, along_tries}

-- any two elements that pass p stand in q
pairwise : {A : Type 0} (p : A → Bool) (q : A → A → Bool) (xs : List A) → ((x y : A) → p x ≡ true → p y ≡ true → q x y ≡ true)
    → all p xs ≡ true → all (λ x. all (λ y. q x y) xs) xs ≡ true
pairwise p q xs f e = all_weaker p (λ x. all (λ y. q x y) xs) xs (λ x a. all_weaker p (λ y. q x y) xs (λ y b. f x y a b) e) e

module _ (P : Program) (S : Signature) where
  -- what a path comes to passes the test at its end
  end_passes : (K : Test) (p : List Event) (h s : Set) → keeps_along P S K p h s ≡ true → (t : Set) × (K (held_along P S p h) t ≡ true)
  unfolding keeps_along held_along
  end_passes K [] h s e = (s, e)
  end_passes K (a ∷ p) h s e = end_passes K p (held_then P S a h) (sound_then P S a h s) (and_true e).1

  held_append : (u v : List Event) (h : Set) → held_along P S (u ++ v) h ≡ held_along P S v (held_along P S u h)
  unfolding held_along
  held_append [] v h = refl
  held_append (e ∷ es) v h = held_append es v (held_then P S e h)

  later_held : (u v w : List Event) (h : Set) → held_along P S ((u ++ v) ++ w) h ≡ held_along P S (v ++ w) (held_along P S u h)
  later_held u v w h = ap (λ (p : List Event). held_along P S p h) (append_assoc u v w) ∙ held_append u (v ++ w) h

  -- goals behind a path
  later_one : (u : List Event) (h : Set) (a : Arrival)
      → arms_agree P S h (record { before = u ++ a.before; goal = a.goal }) ≡ arms_agree P S (held_along P S u h) a
  unfolding arms_agree
  later_one u h a =
      all_same _ _
      (λ v. all_same _ _ (λ w. ap₂ same_set (later_held u a.before v h) (later_held u a.before w h)) (ways a.goal)) (ways a.goal)

  later_agree : (u : List Event) (h : Set) (places : List Arrival)
      → all (arms_agree P S h) (arrivals_after u places) ≡ all (arms_agree P S (held_along P S u h)) places
  unfolding all arrivals_after
  later_agree u h [] = refl
  later_agree u h (a ∷ places) = ap₂ ◌&◌ (later_one u h a) (later_agree u h places)

  all_later_agree : (us : List (List Event)) (h : Set) (places : List Arrival)
      → all (arms_agree P S h) (arrivals_after_all us places) ≡ all (λ u. all (arms_agree P S (held_along P S u h)) places) us
  unfolding all arrivals_after_all
  all_later_agree [] h places = refl
  all_later_agree (u ∷ us) h places =
      all_append (arms_agree P S h) (arrivals_after u places) (arrivals_after_all us places)
      ∙ ap₂ ◌&◌ (later_agree u h places) (all_later_agree us h places)

  -- the ways through one goal
  here_agrees : (g : Goal) (K : Test) → Splits K → (h s : Set) → along_all P S K (ways g) h s ≡ true
      → arms_agree P S h (record { before = []; goal = g }) ≡ true
  unfolding along_all arms_agree
  here_agrees g K split h s e =
      pairwise (λ u. keeps_along P S K u h s) (λ u v. same_set (held_along P S u h) (held_along P S v h)) (ways g)
      (λ u v a b.
      let x = end_passes K u h s a in
      let y = end_passes K v h s b in
      eq_same (held_along P S u h) (held_along P S v h) (split.one (held_along P S u h) (held_along P S v h) x.0 y.0 x.1 y.1)) e

  -- an arm, and an if's part
  takes_agree : (x f : ℕ) (ys : Four) (h : Set) (places : List Arrival) → all (arms_agree P S h) places ≡ true
      → all (arms_agree P S h) (arrivals_after (takes x f ys ∷ []) places) ≡ true
  unfolding held_along held_then
  takes_agree x f ys h places e = later_agree (takes x f ys ∷ []) h places ∙ e

  compares_agree : (y z : ℕ) (b : Bool) (h : Set) (places : List Arrival) → all (arms_agree P S h) places ≡ true
      → all (arms_agree P S h) (arrivals_after (compares y z b ∷ []) places) ≡ true
  unfolding held_along held_then
  compares_agree y z b h places e = later_agree (compares y z b ∷ []) h places ∙ e

  tries_agree : (b : Bool) (h : Set) (places : List Arrival) → all (arms_agree P S h) places ≡ true
      → all (arms_agree P S h) (arrivals_after (tries b ∷ []) places) ≡ true
  unfolding held_along held_then
  tries_agree b h places e = later_agree (tries b ∷ []) h places ∙ e

  later_goals : (K : Test) (us : List (List Event)) (places : List Arrival) (h s : Set)
      → ((k t : Set) → K k t ≡ true → all (arms_agree P S k) places ≡ true) → along_all P S K us h s ≡ true
      → all (λ u. all (arms_agree P S (held_along P S u h)) places) us ≡ true
  unfolding along_all
  later_goals K us places h s f e =
      all_weaker (λ u. keeps_along P S K u h s) (λ u. all (arms_agree P S (held_along P S u h)) places) us
      (λ u a. let x = end_passes K u h s a in f (held_along P S u h) x.0 x.1) e

  mutual
    unfolding goals_named paths arrivals all

    pub goals_agree : (gs : Goals) → goals_named P S gs ≡ true → (K : Test) → Splits K → (h s : Set) → along_all P S K (paths gs) h s ≡ true
        → all (arms_agree P S h) (arrivals gs) ≡ true
    goals_agree done n K split h s e = refl
    goals_agree (g then gs) n K split h s e =
        let r = and_true n in
        let some = some_path_law P S gs r.1 in
        let L = along_all P S K (paths gs) in
        let split_l = all_splits P S K split (paths gs) some in
        let d = sym (along_then P S K (ways g) (paths gs) some h s) ∙ e in
        true_and (here_agrees g L split_l h s d)
        (all_append (arms_agree P S h) (arrivals_in g) (arrivals_after_all (ways g) (arrivals gs))
        ∙ true_and (goal_agree g r.0 L split_l h s d)
        (all_later_agree (ways g) h (arrivals gs) ∙ later_goals L (ways g) (arrivals gs) h s (λ k t. goals_agree gs r.1 K split k t) d))

    pub goal_agree : (g : Goal) → goal_named P S g ≡ true → (K : Test) → Splits K → (h s : Set) → along_all P S K (ways g) h s ≡ true
        → all (arms_agree P S h) (arrivals_in g) ≡ true
    goal_agree (step g) n K split h s e = refl
    goal_agree (switch x cs) n K split h s e = arms_agree_law cs (and_true n).1 x K split h s e
    goal_agree (if_less y z a b) n K split h s e =
        let r = and_true n in
        let u = then_each (compares y z true ∷ []) (paths a) in
        let v = then_each (compares y z false ∷ []) (paths b) in
        let q = and_true (sym (along_append P S K u v h s) ∙ e) in
        let c = and_true (sym (along_compares P S K y z true (paths a) (some_path_law P S a r.0) h s) ∙ q.0) in
        let d = and_true (sym (along_compares P S K y z false (paths b) (some_path_law P S b r.1) h s) ∙ q.1) in
        all_append (arms_agree P S h) (arrivals_after (compares y z true ∷ []) (arrivals a)) (arrivals_after (compares y z false ∷ []) (arrivals b))
        ∙ true_and (compares_agree y z true h (arrivals a) (goals_agree a r.0 K split h s c.1))
        (compares_agree y z false h (arrivals b) (goals_agree b r.1 K split h s d.1))
    goal_agree (try c a b) n K split h s e =
        let r = and_true n in
        let q = and_true r.1 in
        let some = some_path_law P S a q.0 in
        let L = along_all P S K (paths a) in
        let both = then_all (paths c) (paths a) in
        let places = arrivals c ++ arrivals_after_all (paths c) (arrivals a) in
        let p = and_true (sym (along_append P S K (then_each (tries true ∷ []) both) (then_each (tries false ∷ []) (paths b)) h s) ∙ e) in
        let u = sym (along_tries P S K true both (none_all (paths c) (paths a) (some_path_law P S c r.0) some) h s) ∙ p.0 in
        let d = sym (along_then P S K (paths c) (paths a) some h s) ∙ u in
        all_append (arms_agree P S h) (arrivals_after (tries true ∷ []) places) (arrivals_after (tries false ∷ []) (arrivals b))
        ∙ true_and
        (tries_agree true h places
        (all_append (arms_agree P S h) (arrivals c) (arrivals_after_all (paths c) (arrivals a))
        ∙ true_and (goals_agree c r.0 L (all_splits P S K split (paths a) some) h s d)
        (all_later_agree (paths c) h (arrivals a) ∙ later_goals L (paths c) (arrivals a) h s (λ k t z. goals_agree a q.0 K split k t z) d)))
        (tries_agree false h (arrivals b)
        (goals_agree b q.1 K split h s (sym (along_tries P S K false (paths b) (some_path_law P S b q.1) h s) ∙ p.1)))

    pub arms_agree_law : (cs : Arms) → arms_named P S cs ≡ true → (x : ℕ) (K : Test) → Splits K → (h s : Set) → along_all P S K (arm_ways cs x) h s ≡ true
        → all (arms_agree P S h) (arm_arrivals cs x) ≡ true
    arms_agree_law no_arms n x K split h s e = refl
    arms_agree_law (arm f ys gs cs) n x K split h s e =
        let r = and_true n in
        let q = and_true (sym (along_append P S K (then_each (takes x f ys ∷ []) (paths gs)) (arm_ways cs x) h s) ∙ e) in
        let d = and_true (sym (along_takes P S K x f ys (paths gs) (some_path_law P S gs r.0) h s) ∙ q.0) in
        all_append (arms_agree P S h) (arrivals_after (takes x f ys ∷ []) (arrivals gs)) (arm_arrivals cs x)
        ∙ true_and (takes_agree x f ys h (arrivals gs) (goals_agree gs r.0 K split h (sound_then P S (takes x f ys) h s) d.1))
        (arms_agree_law cs r.1 x K split h s q.1)
