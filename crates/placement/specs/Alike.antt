-- Two programs that declare the same differ in their bodies alone. What numbers 3, 4 and 5, live variables, the effects of steps and the
-- checker say of given goals is the same in both.
use Rattle.std.specs.Prelude.{ℕ, zero, suc, ◌≡◌, List, [], ◌∷◌, map, length}
use Rattle.std.proofs.Math.Path.{refl}
use Rattle.std.proofs.Common.{sym, ap₂}
use Rattle.std.proofs.lemmas.List.{length-map}
use Rattle.sets.specs.declared.Set.{Set}
use Rattle.language.specs.Lists.{nth}
use Rattle.language.specs.Program.{Functor, Step, literal, sum, assign, construct, call, print, create, remove, test, Goals, done, ◌then◌, Goal, step, switch, if_less, try, Arms, no_arms, arm, Signature, Procedure, Program, signature_of, procedure_at}
use Rattle.language.specs.Typing.{step_ok, functors_for, goals_ok, goal_ok, arms_ok}
use Rattle.language.specs.Values.{access, reads, gives, step_values, meet_values, goals_values, goal_values, arms_values}
use Rattle.language.specs.Regions.{in_targets, step_regions, goals_regions, goal_regions, arms_regions}
use Rattle.language.specs.Lifetimes.{effect, live_step, live, live_goal, live_arms, held_after}
use Rattle.language.specs.Checking.{step_rules, check_step, check_goals, check_goal, check_arms, join_arms}
use Rattle.language.specs.Annotation.{annotate, annotate_procedure}
use Rattle.placement.specs.Combine.{after_same, carry_same}

pub record AlikePrograms (P R : Program) : Type 0 where
  pub types : P.types ≡ R.types
  pub count : length P.procedures ≡ length R.procedures
  pub signatures : (p : ℕ) → signature_of P p ≡ signature_of R p

module _ (P R : Program) (A : AlikePrograms P R) where
  -- ---- steps
  pub alike_access : (g : Step) → access P g ≡ access R g
  unfolding access
  alike_access (literal x v) = refl
  alike_access (sum x o y z) = refl
  alike_access (assign x y) = refl
  alike_access (construct x f ys) = refl
  alike_access (call q ys) = rw (A.signatures q)
  alike_access (print y) = refl
  alike_access (create r) = refl
  alike_access (remove r) = refl
  alike_access (test y z) = refl

  pub alike_effect : (S : Signature) (g : Step) → effect P S g ≡ effect R S g
  unfolding effect
  alike_effect S (literal x v) = refl
  alike_effect S (sum x o y z) = refl
  alike_effect S (assign x y) = refl
  alike_effect S (construct x f ys) = refl
  alike_effect S (call q ys) = rw (A.signatures q)
  alike_effect S (print y) = refl
  alike_effect S (create r) = refl
  alike_effect S (remove r) = refl
  alike_effect S (test y z) = refl

  pub alike_functors : (S : Signature) (x : ℕ) → functors_for P S x ≡ functors_for R S x
  unfolding functors_for
  alike_functors S x = rw A.types

  pub alike_step_ok : (S : Signature) (g : Step) → step_ok P S g ≡ step_ok R S g
  unfolding step_ok
  alike_step_ok S (literal x v) = refl
  alike_step_ok S (sum x o y z) = refl
  alike_step_ok S (assign x y) = refl
  alike_step_ok S (construct x f ys) = rw (alike_functors S x)
  alike_step_ok S (call q ys) = rw (A.count, A.signatures q)
  alike_step_ok S (print y) = refl
  alike_step_ok S (create r) = refl
  alike_step_ok S (remove r) = refl
  alike_step_ok S (test y z) = refl

  pub alike_step_regions : (S : Signature) (g : Step) → step_regions P S g ≡ step_regions R S g
  unfolding step_regions in_targets
  alike_step_regions S (literal x v) = refl
  alike_step_regions S (sum x o y z) = refl
  alike_step_regions S (assign x y) = refl
  alike_step_regions S (construct x f ys) = refl
  alike_step_regions S (call q ys) = rw (A.signatures q)
  alike_step_regions S (print y) = refl
  alike_step_regions S (create r) = refl
  alike_step_regions S (remove r) = refl
  alike_step_regions S (test y z) = refl

  pub alike_step_values : (g : Step) (e s : Set) → step_values P g e s ≡ step_values R g e s
  unfolding step_values reads
  alike_step_values g e s = rw (alike_access g)

  pub alike_live_step : (g : Step) (after : Set) → live_step P g after ≡ live_step R g after
  unfolding live_step reads gives
  alike_live_step g after = rw (alike_access g)

  pub alike_check_step : (S : Signature) (g : Step) (held sound : Set) → check_step P S g held sound ≡ check_step R S g held sound
  unfolding check_step step_rules held_after reads gives
  alike_check_step S g held sound = rw (alike_access g, alike_effect S g)

  -- ---- goals
  mutual
    unfolding goals_ok goal_ok arms_ok

    pub alike_goals_ok : (gs : Goals) (S : Signature) → goals_ok P S gs ≡ goals_ok R S gs
    alike_goals_ok done S = refl
    alike_goals_ok (g then gs) S = rw (alike_goal_ok g S, alike_goals_ok gs S)

    alike_goal_ok : (g : Goal) (S : Signature) → goal_ok P S g ≡ goal_ok R S g
    alike_goal_ok (step g) S = alike_step_ok S g
    alike_goal_ok (switch x cs) S = rw (alike_functors S x, alike_arms_ok cs S (functors_for R S x) 0)
    alike_goal_ok (if_less y z a b) S = rw (alike_goals_ok a S, alike_goals_ok b S)
    alike_goal_ok (try c a b) S = rw (alike_goals_ok c S, alike_goals_ok a S, alike_goals_ok b S)

    alike_arms_ok : (cs : Arms) (S : Signature) (fs : List Functor) (n : ℕ) → arms_ok P S cs fs n ≡ arms_ok R S cs fs n
    alike_arms_ok no_arms S [] n = refl
    alike_arms_ok no_arms S (f ∷ fs) n = refl
    alike_arms_ok (arm g ys gs cs) S [] n = refl
    alike_arms_ok (arm g ys gs cs) S (f ∷ fs) n = rw (alike_goals_ok gs S, alike_arms_ok cs S fs (suc n))

  mutual
    unfolding goals_values goal_values arms_values

    pub alike_goals_values : (gs : Goals) (e s : Set) → goals_values P gs e s ≡ goals_values R gs e s
    alike_goals_values done e s = refl
    alike_goals_values (g then gs) e s = rw (alike_goal_values g e s) (after_same (goal_values R g e s) (λ d t. alike_goals_values gs d t))

    alike_goal_values : (g : Goal) (e s : Set) → goal_values P g e s ≡ goal_values R g e s
    alike_goal_values (step g) e s = alike_step_values g e s
    alike_goal_values (switch x cs) e s = rw (alike_arms_values cs e s)
    alike_goal_values (if_less y z a b) e s = rw (alike_goals_values a e s, alike_goals_values b e s)
    alike_goal_values (try c a b) e s =
        ap₂ meet_values (rw (alike_goals_values c e s) (after_same (goals_values R c e s) (λ d t. alike_goals_values a d t))) (alike_goals_values b e s)

    alike_arms_values : (cs : Arms) (e s : Set) → arms_values P cs e s ≡ arms_values R cs e s
    alike_arms_values no_arms e s = refl
    alike_arms_values (arm f ys gs no_arms) e s = after_same _ (λ d t. alike_goals_values gs d t)
    alike_arms_values (arm f ys gs (arm k zs hs cs)) e s =
        ap₂ meet_values (after_same _ (λ d t. alike_goals_values gs d t)) (alike_arms_values (arm k zs hs cs) e s)

  mutual
    unfolding goals_regions goal_regions arms_regions in_targets

    pub alike_goals_regions : (gs : Goals) (S : Signature) → goals_regions P S gs ≡ goals_regions R S gs
    alike_goals_regions done S = refl
    alike_goals_regions (g then gs) S = rw (alike_goal_regions g S, alike_goals_regions gs S)

    alike_goal_regions : (g : Goal) (S : Signature) → goal_regions P S g ≡ goal_regions R S g
    alike_goal_regions (step g) S = alike_step_regions S g
    alike_goal_regions (switch x cs) S = alike_arms_regions cs S _
    alike_goal_regions (if_less y z a b) S = rw (alike_goals_regions a S, alike_goals_regions b S)
    alike_goal_regions (try c a b) S = rw (alike_goals_regions c S, alike_goals_regions a S, alike_goals_regions b S)

    alike_arms_regions : (cs : Arms) (S : Signature) (r : ℕ) → arms_regions P S cs r ≡ arms_regions R S cs r
    alike_arms_regions no_arms S r = refl
    alike_arms_regions (arm f ys gs cs) S r = rw (alike_goals_regions gs S, alike_arms_regions cs S r)

  mutual
    unfolding live live_goal live_arms

    pub alike_live : (gs : Goals) (after : Set) → live P gs after ≡ live R gs after
    alike_live done after = refl
    alike_live (g then gs) after = rw (alike_live gs after) (alike_live_goal g (live R gs after))

    pub alike_live_goal : (g : Goal) (after : Set) → live_goal P g after ≡ live_goal R g after
    alike_live_goal (step g) after = alike_live_step g after
    alike_live_goal (switch x cs) after = rw (alike_live_arms cs after)
    alike_live_goal (if_less y z a b) after = rw (alike_live a after, alike_live b after)
    alike_live_goal (try c a b) after = rw (alike_live a after, alike_live c (live R a after), alike_live b after)

    pub alike_live_arms : (cs : Arms) (after : Set) → live_arms P cs after ≡ live_arms R cs after
    alike_live_arms no_arms after = refl
    alike_live_arms (arm f ys gs cs) after = rw (alike_live gs after, alike_live_arms cs after)

  mutual
    unfolding check_goals check_goal check_arms

    pub alike_check_goals : (gs : Goals) (S : Signature) (held sound : Set) → check_goals P S gs held sound ≡ check_goals R S gs held sound
    alike_check_goals done S held sound = refl
    alike_check_goals (g then gs) S held sound =
        rw (alike_check_goal g S held sound) (carry_same (check_goal R S g held sound) (λ h s. alike_check_goals gs S h s))

    alike_check_goal : (g : Goal) (S : Signature) (held sound : Set) → check_goal P S g held sound ≡ check_goal R S g held sound
    alike_check_goal (step g) S held sound = alike_check_step S g held sound
    alike_check_goal (switch x cs) S held sound = rw (alike_check_arms cs S held sound)
    alike_check_goal (if_less y z a b) S held sound = rw (alike_check_goals a S held sound, alike_check_goals b S held sound)
    alike_check_goal (try c a b) S held sound =
        ap₂ join_arms (rw (alike_check_goals c S held sound) (carry_same (check_goals R S c held sound) (λ h s. alike_check_goals a S h s)))
        (alike_check_goals b S held sound)

    alike_check_arms : (cs : Arms) (S : Signature) (held sound : Set) → check_arms P S cs held sound ≡ check_arms R S cs held sound
    alike_check_arms no_arms S held sound = refl
    alike_check_arms (arm f ys gs no_arms) S held sound = alike_check_goals gs S held _
    alike_check_arms (arm f ys gs (arm k zs hs cs)) S held sound = rw (alike_check_goals gs S held _, alike_check_arms (arm k zs hs cs) S held sound)

-- ---- programs with other bodies
signature_map : (f : Procedure → Procedure) (d : Procedure) → ((p : Procedure) → (f p).signature ≡ p.signature)
    → (ps : List Procedure) (n : ℕ) → (nth d ps n).signature ≡ (nth d (map f ps) n).signature
unfolding nth
signature_map f d h [] n = refl
signature_map f d h (p ∷ ps) zero = sym (h p)
signature_map f d h (p ∷ ps) (suc n) = signature_map f d h ps n

rebuilt : (P : Program) (f : Procedure → Procedure) → ((p : Procedure) → (f p).signature ≡ p.signature)
    → AlikePrograms P (record { types = P.types; procedures = map f P.procedures })
unfolding signature_of procedure_at
rebuilt P f h = record {
  types = refl;
  count = sym (length-map P.procedures f);
  signatures = signature_map f _ h P.procedures;
}

pub alike_annotated : (P : Program) → AlikePrograms P (annotate P)
unfolding annotate annotate_procedure
alike_annotated P = rebuilt P (annotate_procedure P) (λ p. refl)

-- "Signatures are those of the input"
pub annotated_signature : (P : Program) (p : ℕ) → signature_of (annotate P) p ≡ signature_of P p
annotated_signature P p = sym ((alike_annotated P).signatures p)
