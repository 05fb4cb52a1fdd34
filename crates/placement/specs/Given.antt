-- What is live at a point of a program that passes number 4 has a value on every path there.
use Rattle.std.specs.Prelude.{ℕ, ◌≡◌, true, List}
use Rattle.std.proofs.Math.Path.{refl}
use Rattle.std.proofs.Common.{ap, ◌∙◌, ⊎_elim}
use Rattle.std.proofs.lemmas.Bool.{false≢true}
use Rattle.sets.specs.Tests.{clash, and_true}
use Rattle.sets.specs.Sets.{◌∪◌, ◌∖◌, subset, Small, union_in, difference_in, subset_in, subset_mk}
use Rattle.sets.specs.SetLaws.{subset_trans, empty_subset, single_subset, union_least, small_empty, small_single, small_union, small_difference}
use Rattle.sets.specs.Members.{set_of}
use Rattle.sets.specs.MemberLaws.{small_set_of}
use Rattle.sets.specs.declared.Set.{Set}
use Rattle.language.specs.Program.{arguments_of, Step, Goals, done, ◌then◌, Goal, step, switch, if_less, try, Arms, no_arms, arm, Signature, Procedure, Program}
use Rattle.language.specs.Values.{Valued, faulty, valued, ins_of, outs_of, access, reads, gives, give_values, step_values, goals_values, goal_values, arms_values, outs_valued, procedure_values}
use Rattle.language.specs.Lifetimes.{live_step, live, live_goal, live_arms}
use Rattle.placement.specs.Combine.{required_values, after_values_law, met_values, valued_every}

-- what is in b less xs, where b is among e and xs
less_given : (b e xs : Set) → subset b (e ∪ xs) ≡ true → subset (b ∖ xs) e ≡ true
less_given b e xs h =
    subset_mk (b ∖ xs) e
    (λ n m. let r = difference_in b xs n m in ⊎_elim (λ i. i) (λ i. absurd (clash i r.1)) (union_in e xs n (subset_in b (e ∪ xs) h n r.0)))

given_every : (xs : List ℕ) (e s d t : Set) → give_values xs e s ≡ valued d t → e ∪ set_of xs ≡ d
unfolding give_values
given_every xs e s d t q = valued_every (required_values q).1

-- live before giving xs, where b is live after it
give_live : (xs : List ℕ) (b e s d t : Set) → give_values xs e s ≡ valued d t → subset b d ≡ true → subset (b ∖ set_of xs) e ≡ true
give_live xs b e s d t q h = less_given b e (set_of xs) (ap (subset b) (given_every xs e s d t q) ∙ h)

module _ (P : Program) where
  pub step_live : (g : Step) (after e s d t : Set) → step_values P g e s ≡ valued d t → subset after d ≡ true
      → subset (live_step P g after) e ≡ true
  unfolding step_values live_step gives
  step_live g after e s d t q h =
      let r = required_values q in
      union_least _ _ e (give_live (access P g).given after e s d t r.1 h) r.0

  mutual
    unfolding goals_values goal_values arms_values live live_goal live_arms

    -- THE THEOREM: where `after` has a value on every path after the goals, what is live before them has one on every path there
    pub live_given : (gs : Goals) (after e s d t : Set) → goals_values P gs e s ≡ valued d t → subset after d ≡ true
        → subset (live P gs after) e ≡ true
    live_given done after e s d t q h = ap (subset after) (valued_every q) ∙ h
    live_given (g then gs) after e s d t q h =
        let r = after_values_law q in
        goal_live g (live P gs after) e s r.0 r.1 r.2 (live_given gs after r.0 r.1 d t r.3 h)

    pub goal_live : (g : Goal) (after e s d t : Set) → goal_values P g e s ≡ valued d t → subset after d ≡ true
        → subset (live_goal P g after) e ≡ true
    goal_live (step g) after e s d t q h = step_live g after e s d t q h
    goal_live (switch x cs) after e s d t q h =
        let r = required_values q in
        union_least _ _ e (single_subset x e r.0) (arms_live cs after e s d t r.1 h)
    goal_live (if_less y z a b) after e s d t q h =
        let r = required_values q in
        let m = met_values r.1 in
        union_least _ _ e (union_least _ _ e (single_subset y e (and_true r.0).0) (single_subset z e (and_true r.0).1))
        (union_least _ _ e (live_given a after e s _ _ m.left (subset_trans after d _ h m.in_left))
        (live_given b after e s _ _ m.right (subset_trans after d _ h m.in_right)))
    goal_live (try c a b) after e s d t q h =
        let m = met_values q in
        let r = after_values_law m.left in
        union_least _ _ e
        (live_given c (live P a after) e s _ _ r.2 (live_given a after r.0 r.1 _ _ r.3 (subset_trans after d _ h m.in_left)))
        (live_given b after e s _ _ m.right (subset_trans after d _ h m.in_right))

    pub arms_live : (cs : Arms) (after e s d t : Set) → arms_values P cs e s ≡ valued d t → subset after d ≡ true
        → subset (live_arms P cs after) e ≡ true
    arms_live no_arms after e s d t q h = empty_subset e
    arms_live (arm f ys gs no_arms) after e s d t q h =
        let r = after_values_law q in
        union_least _ _ e
        (give_live (arguments_of ys) (live P gs after) e s _ _ r.2 (live_given gs after r.0 r.1 d t r.3 h)) (empty_subset e)
    arms_live (arm f ys gs (arm k zs hs cs)) after e s d t q h =
        let m = met_values q in
        let r = after_values_law m.left in
        union_least _ _ e
        (give_live (arguments_of ys) (live P gs after) e s _ _ r.2
        (live_given gs after r.0 r.1 _ _ r.3 (subset_trans after d _ h m.in_left)))
        (arms_live (arm k zs hs cs) after e s _ _ m.right (subset_trans after d _ h m.in_right))

  -- live at a procedure's start is among its in variables
  at_end_law : (S : Signature) (gs : Goals) (e s : Set) (v : Valued) → goals_values P gs e s ≡ v → outs_valued S v ≡ true
      → subset (live P gs (outs_of S)) e ≡ true
  unfolding outs_valued
  at_end_law S gs e s faulty q h = absurd (false≢true h)
  at_end_law S gs e s (valued d t) q h = live_given gs (outs_of S) e s d t q h

  pub start_live : (p : Procedure) → procedure_values P p ≡ true → subset (live P p.body (outs_of p.signature)) (ins_of p.signature) ≡ true
  unfolding procedure_values
  start_live p h = at_end_law p.signature p.body _ _ _ refl h

  -- ---- live sets have no member above 64
  pub small_live_step : (g : Step) (after : Set) → Small after → Small (live_step P g after)
  unfolding live_step reads
  small_live_step g after h = small_union (small_difference _ h) (small_set_of _)

  mutual
    unfolding live live_goal live_arms

    pub small_live : (gs : Goals) (after : Set) → Small after → Small (live P gs after)
    small_live done after h = h
    small_live (g then gs) after h = small_live_goal g (live P gs after) (small_live gs after h)

    pub small_live_goal : (g : Goal) (after : Set) → Small after → Small (live_goal P g after)
    small_live_goal (step g) after h = small_live_step g after h
    small_live_goal (switch x cs) after h = small_union (small_single x) (small_live_arms cs after h)
    small_live_goal (if_less y z a b) after h =
        small_union (small_union (small_single y) (small_single z)) (small_union (small_live a after h) (small_live b after h))
    small_live_goal (try c a b) after h = small_union (small_live c _ (small_live a after h)) (small_live b after h)

    pub small_live_arms : (cs : Arms) (after : Set) → Small after → Small (live_arms P cs after)
    small_live_arms no_arms after h = small_empty
    small_live_arms (arm f ys gs cs) after h = small_union (small_difference _ (small_live gs after h)) (small_live_arms cs after h)
