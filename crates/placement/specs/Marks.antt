-- What does not see creates and removes: numbers 4 and 5 and the live variables.
use Rattle.std.specs.Prelude.{ℕ, ◌≡◌, Bool, []}
use Rattle.std.proofs.Math.Path.{refl, sym, ap, ap₂}
use Rattle.std.proofs.Common.{◌∙◌}
use Rattle.std.proofs.Math.Bool.{true, false}
use Rattle.std.proofs.lemmas.Bool.{false≢true}
use Rattle.sets.specs.Tests.{◌&◌}
use Rattle.sets.specs.Sets.{◌∪◌, ◌∖◌, subset}
use Rattle.sets.specs.SetLaws.{empty_subset, union_empty}
use Rattle.sets.specs.Members.{set_of}
use Rattle.sets.specs.declared.Set.{Set}
use Rattle.language.specs.Program.{Step, literal, sum, assign, construct, call, print, create, remove, test, Goals, done, ◌then◌, Goal, step, switch, if_less, try, Arms, no_arms, arm, Signature, Procedure, Program, parameters_of}
use Rattle.language.specs.Lists.{all, is_none}
use Rattle.language.specs.Values.{valued, access, accessing, distinct, reads, gives, require_values, after_values, give_values, meet_values, step_values, goals_values, goal_values, arms_values, outs_valued, procedure_values, values_ok}
use Rattle.language.specs.Regions.{step_regions, goals_regions, goal_regions, arms_regions, regions_ok}
use Rattle.language.specs.Lifetimes.{live_step, live, live_goal, live_arms, declared_classes_ok}
use Rattle.language.specs.Annotation.{plain_step, annotate_procedure, annotate, place_goals}
use Rattle.language.specs.PlainRun.{then_if, strip_goals, strip_goal, strip_arms}
use Rattle.laws.specs.Lists.{all_map, all_same}
use Rattle.laws.specs.MoreSets.{empty_apart, no_change}
use Rattle.placement.specs.Combine.{after_same}
use Rattle.placement.specs.Alike.{alike_annotated, alike_goals_values, alike_goals_regions}
use Rattle.placement.specs.Strip.{strip_placed}

-- ---- what does not see creates and removes
record Mark (P : Program) (g : Step) : Type 0 where
  values : (e s : Set) → step_values P g e s ≡ valued e s
  regions : (S : Signature) → step_regions P S g ≡ true
  lives : (after : Set) → live_step P g after ≡ after

no_values : (e s : Set) → require_values (subset (set_of []) e) (give_values [] e s) ≡ valued e s
unfolding require_values give_values set_of distinct ◌&◌
no_values e s = rw (empty_subset e, empty_apart s, union_empty e, union_empty s)

no_live : (after : Set) → (after ∖ set_of []) ∪ set_of [] ≡ after
unfolding set_of
no_live after = no_change after

module _ (P : Program) where
  mark : (g : Step) → plain_step g ≡ false → Mark P g
  unfolding plain_step step_values step_regions live_step reads gives access accessing
  mark (literal x v) e = absurd (false≢true (sym e))
  mark (sum x o y z) e = absurd (false≢true (sym e))
  mark (assign x y) e = absurd (false≢true (sym e))
  mark (construct x f ys) e = absurd (false≢true (sym e))
  mark (call q ys) e = absurd (false≢true (sym e))
  mark (print y) e = absurd (false≢true (sym e))
  mark (test y z) e = absurd (false≢true (sym e))
  mark (create r) e = record { values = no_values; regions = λ S. refl; lives = no_live }
  mark (remove r) e = record { values = no_values; regions = λ S. refl; lives = no_live }

  values_step : (g : Step) (gs : Goals) (e s : Set) (b : Bool) → plain_step g ≡ b
      → goals_values P (then_if b (step g) gs) e s ≡ after_values (step_values P g e s) (λ d t. goals_values P gs d t)
  unfolding then_if goals_values goal_values after_values
  values_step g gs e s true q = refl
  values_step g gs e s false q = sym (rw ((mark g q).values e s))

  mutual
    unfolding strip_goals strip_goal strip_arms goals_values goal_values arms_values

    pub values_strip : (gs : Goals) (e s : Set) → goals_values P (strip_goals gs) e s ≡ goals_values P gs e s
    values_strip done e s = refl
    values_strip (g then gs) e s = values_goal g (strip_goals gs) e s ∙ after_same (goal_values P g e s) (λ d t. values_strip gs d t)

    values_goal : (g : Goal) (gs : Goals) (e s : Set)
        → goals_values P (strip_goal g gs) e s ≡ after_values (goal_values P g e s) (λ d t. goals_values P gs d t)
    values_goal (step g) gs e s = values_step g gs e s (plain_step g) refl
    values_goal (switch x cs) gs e s = rw (values_arms cs e s)
    values_goal (if_less y z a b) gs e s = rw (values_strip a e s, values_strip b e s)
    values_goal (try c a b) gs e s =
        ap (λ v. after_values v (λ d t. goals_values P gs d t))
        (ap₂ meet_values (rw (values_strip c e s) (after_same _ (λ d t. values_strip a d t))) (values_strip b e s))

    values_arms : (cs : Arms) (e s : Set) → arms_values P (strip_arms cs) e s ≡ arms_values P cs e s
    values_arms no_arms e s = refl
    values_arms (arm f ys gs no_arms) e s = after_same _ (λ d t. values_strip gs d t)
    values_arms (arm f ys gs (arm k zs hs cs)) e s =
        ap₂ meet_values (after_same _ (λ d t. values_strip gs d t)) (values_arms (arm k zs hs cs) e s)

  regions_step : (g : Step) (S : Signature) (gs : Goals) (b : Bool) → plain_step g ≡ b
      → goals_regions P S (then_if b (step g) gs) ≡ (step_regions P S g & goals_regions P S gs)
  unfolding then_if goals_regions goal_regions ◌&◌
  regions_step g S gs true q = refl
  regions_step g S gs false q = sym (rw ((mark g q).regions S))

  mutual
    unfolding strip_goals strip_goal strip_arms goals_regions goal_regions arms_regions

    pub regions_strip : (gs : Goals) (S : Signature) → goals_regions P S (strip_goals gs) ≡ goals_regions P S gs
    regions_strip done S = refl
    regions_strip (g then gs) S = regions_goal g (strip_goals gs) S ∙ ap (λ (b : Bool). goal_regions P S g & b) (regions_strip gs S)

    regions_goal : (g : Goal) (gs : Goals) (S : Signature) → goals_regions P S (strip_goal g gs) ≡ (goal_regions P S g & goals_regions P S gs)
    regions_goal (step g) gs S = regions_step g S gs (plain_step g) refl
    regions_goal (switch x cs) gs S = rw (regions_arms cs _ S)
    regions_goal (if_less y z a b) gs S = rw (regions_strip a S, regions_strip b S)
    regions_goal (try c a b) gs S = rw (regions_strip c S, regions_strip a S, regions_strip b S)

    regions_arms : (cs : Arms) (r : ℕ) (S : Signature) → arms_regions P S (strip_arms cs) r ≡ arms_regions P S cs r
    regions_arms no_arms r S = refl
    regions_arms (arm f ys gs cs) r S = rw (regions_strip gs S, regions_arms cs r S)

  live_step_law : (g : Step) (gs : Goals) (after : Set) (b : Bool) → plain_step g ≡ b
      → live P (then_if b (step g) gs) after ≡ live_step P g (live P gs after)
  unfolding then_if live live_goal
  live_step_law g gs after true q = refl
  live_step_law g gs after false q = sym ((mark g q).lives (live P gs after))

  mutual
    unfolding strip_goals strip_goal strip_arms live live_goal live_arms

    pub live_strip : (gs : Goals) (after : Set) → live P (strip_goals gs) after ≡ live P gs after
    live_strip done after = refl
    live_strip (g then gs) after = live_goal_law g (strip_goals gs) after ∙ ap (live_goal P g) (live_strip gs after)

    live_goal_law : (g : Goal) (gs : Goals) (after : Set) → live P (strip_goal g gs) after ≡ live_goal P g (live P gs after)
    live_goal_law (step g) gs after = live_step_law g gs after (plain_step g) refl
    live_goal_law (switch x cs) gs after = rw (live_arms_law cs (live P gs after))
    live_goal_law (if_less y z a b) gs after = rw (live_strip a (live P gs after), live_strip b (live P gs after))
    live_goal_law (try c a b) gs after =
        rw (live_strip a (live P gs after), live_strip c (live P a (live P gs after)), live_strip b (live P gs after))

    live_arms_law : (cs : Arms) (after : Set) → live_arms P (strip_arms cs) after ≡ live_arms P cs after
    live_arms_law no_arms after = refl
    live_arms_law (arm f ys gs cs) after = rw (live_strip gs after, live_arms_law cs after)

-- ---- an annotation passes numbers 4, 5 and the declared part of 7 exactly where the input does
module _ (P : Program) where
  pub all_annotated : (holds : Procedure → Bool) → all holds (annotate P).procedures ≡ all (λ p. holds (annotate_procedure P p)) P.procedures
  unfolding annotate
  all_annotated holds = all_map holds (annotate_procedure P) P.procedures

  placed_values : (gs : Goals) (S : Signature) (after held e s : Set)
      → goals_values (annotate P) (place_goals P S gs after held).goals e s ≡ goals_values P gs e s
  placed_values gs S after held e s =
      sym (alike_goals_values P (annotate P) (alike_annotated P) _ e s) ∙ sym (values_strip P _ e s)
      ∙ ap (λ (hs : Goals). goals_values P hs e s) (strip_placed P S gs after held) ∙ values_strip P gs e s

  placed_regions : (gs : Goals) (S : Signature) (after held : Set)
      → goals_regions (annotate P) S (place_goals P S gs after held).goals ≡ goals_regions P S gs
  placed_regions gs S after held =
      sym (alike_goals_regions P (annotate P) (alike_annotated P) _ S) ∙ sym (regions_strip P _ S)
      ∙ ap (goals_regions P S) (strip_placed P S gs after held) ∙ regions_strip P gs S

  procedure_values_law : (p : Procedure) → procedure_values (annotate P) (annotate_procedure P p) ≡ procedure_values P p
  unfolding procedure_values annotate_procedure
  procedure_values_law p = ap (outs_valued p.signature) (placed_values p.body p.signature _ _ _ _)

  pub annotated_values : values_ok (annotate P) ≡ values_ok P
  unfolding values_ok
  annotated_values =
      ap₂ ◌&◌ (ap (λ S. is_none (parameters_of S)) (sym ((alike_annotated P).signatures 0)))
      (all_annotated (procedure_values (annotate P)) ∙ all_same _ _ procedure_values_law P.procedures)

  procedure_regions_law : (p : Procedure)
      → goals_regions (annotate P) (annotate_procedure P p).signature (annotate_procedure P p).body ≡ goals_regions P p.signature p.body
  unfolding annotate_procedure
  procedure_regions_law p = placed_regions p.body p.signature _ _

  pub annotated_regions : regions_ok (annotate P) ≡ regions_ok P
  unfolding regions_ok
  annotated_regions = all_annotated _ ∙ all_same _ _ procedure_regions_law P.procedures

  pub annotated_classes : declared_classes_ok (annotate P) ≡ declared_classes_ok P
  unfolding declared_classes_ok annotate_procedure
  annotated_classes = all_annotated _
