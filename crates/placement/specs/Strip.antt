-- Striking out the creates and removes of an annotation: what the annotator put in goes again, for any input.
use Rattle.std.specs.Prelude.{ℕ, ◌≡◌, refl, true}
use Rattle.std.proofs.Math.Path.{ap, ap₂}
use Rattle.std.proofs.Common.{◌∙◌}
use mathlib.Core.List.{List, [], ◌∷◌, map-map, map_congr_left}
use Rattle.sets.specs.Tests.{and_true}
use Rattle.sets.specs.declared.Set.{Set}
use Rattle.language.specs.Program.{Step, Goals, done, ◌then◌, Goal, step, switch, if_less, try, Arms, no_arms, arm, ◌before◌, Signature, Procedure, Program}
use Rattle.language.specs.Lifetimes.{live}
use Rattle.language.specs.Annotation.{plain_step, plain_goals, plain_goal, plain_arms, unannotated, creates, removes, going_on, removing, placed_if, placed_try, placed_switch, placed_arm, place_step, place_goals, place_goal, place_arms, annotate_procedure, annotate}
use Rattle.language.specs.PlainRun.{then_if, strip_goals, strip_goal, strip_arms, strip_procedure, stripped}
use Rattle.laws.specs.Lists.{map_all}
use Rattle.laws.specs.Goals.{goal_before, strip_before}

-- ---- striking out what was put in
pub strip_removes : (rs : List ℕ) → strip_goals (removes rs) ≡ done
unfolding removes strip_goals strip_goal then_if plain_step
strip_removes [] = refl
strip_removes (r ∷ rs) = strip_removes rs

pub strip_creates : (rs : List ℕ) → strip_goals (creates rs) ≡ done
unfolding creates strip_goals strip_goal then_if plain_step
strip_creates [] = refl
strip_creates (r ∷ rs) = strip_creates rs

module _ (P : Program) (S : Signature) where
  strip_step : (g : Step) (after held : Set) → strip_goals (place_step P S g after held).goals ≡ strip_goal (step g) done
  unfolding place_step strip_goals ◌before◌
  strip_step g after held = strip_before (creates _) (step g then done) ∙ ap (λ (gs : Goals). gs before strip_goal (step g) done) (strip_creates _)

  -- removes, then a goal, then the rest
  strip_parts : (rs : List ℕ) (g : Goal) (front rest gs : Goals) → strip_goals front ≡ strip_goal g done → strip_goals rest ≡ strip_goals gs
      → strip_goals (removes rs before (front before rest)) ≡ strip_goals (g then gs)
  unfolding strip_goals ◌before◌
  strip_parts rs g front rest gs p q =
      strip_before (removes rs) (front before rest) ∙ ap (λ (hs : Goals). hs before strip_goals (front before rest)) (strip_removes rs)
      ∙ strip_before front rest ∙ ap₂ ◌before◌ p q ∙ goal_before g done (strip_goals gs)

  mutual
    unfolding place_goals place_goal place_arms going_on removing placed_if placed_try placed_switch placed_arm strip_goals strip_goal strip_arms

    pub strip_placed : (gs : Goals) (after held : Set) → strip_goals (place_goals P S gs after held).goals ≡ strip_goals gs
    strip_placed done after held = strip_removes _
    strip_placed (g then gs) after held =
        strip_parts _ g _ _ gs (strip_goal_law g (live P gs after) _) (strip_placed gs after _)

    strip_goal_law : (g : Goal) (after held : Set) → strip_goals (place_goal P S g after held).goals ≡ strip_goal g done
    strip_goal_law (step g) after held = strip_step g after held
    strip_goal_law (switch x cs) after held = ap (λ (ds : Arms). switch x ds then done) (strip_arms_law cs after held)
    strip_goal_law (if_less y z a b) after held = rw (strip_placed a after held, strip_placed b after held)
    strip_goal_law (try c a b) after held =
        rw (strip_placed c (live P a after) held, strip_placed a after (place_goals P S c (live P a after) held).held, strip_placed b after held)

    strip_arms_law : (cs : Arms) (after held : Set) → strip_arms (place_arms P S cs after held).arms ≡ strip_arms cs
    strip_arms_law no_arms after held = refl
    strip_arms_law (arm f ys gs cs) after held = rw (strip_placed gs after held, strip_arms_law cs after held)

-- a file without creates and removes is as it was
mutual
  unfolding plain_goals plain_goal plain_arms strip_goals strip_goal strip_arms then_if

  pub strip_plain : (gs : Goals) → plain_goals gs ≡ true → strip_goals gs ≡ gs
  strip_plain done e = refl
  strip_plain (g then gs) e = let r = and_true e in plain_goal_law g _ r.0 ∙ ap (λ (hs : Goals). g then hs) (strip_plain gs r.1)

  plain_goal_law : (g : Goal) (gs : Goals) → plain_goal g ≡ true → strip_goal g gs ≡ g then gs
  plain_goal_law (step g) gs e = rw e
  plain_goal_law (switch x cs) gs e = rw (plain_arms_law cs e)
  plain_goal_law (if_less y z a b) gs e = let r = and_true e in rw (strip_plain a r.0, strip_plain b r.1)
  plain_goal_law (try c a b) gs e =
      let r = and_true e in let q = and_true r.1 in rw (strip_plain c r.0, strip_plain a q.0, strip_plain b q.1)

  plain_arms_law : (cs : Arms) → plain_arms cs ≡ true → strip_arms cs ≡ cs
  plain_arms_law no_arms e = refl
  plain_arms_law (arm f ys gs cs) e = let r = and_true e in rw (strip_plain gs r.0, plain_arms_law cs r.1)

-- ---- programs
strip_procedure_law : (P : Program) (p : Procedure) → strip_procedure (annotate_procedure P p) ≡ strip_procedure p
unfolding strip_procedure annotate_procedure
strip_procedure_law P p = ap (λ (gs : Goals). record { signature = p.signature; body = gs }) (strip_placed P p.signature p.body _ _)

-- striking out what stands in an annotation is striking it out of the input
pub strip_annotate : (P : Program) → stripped (annotate P) ≡ stripped P
unfolding stripped annotate
strip_annotate P =
    ap (λ (ps : List Procedure). record { types = P.types; procedures = ps })
    (map-map strip_procedure (annotate_procedure P) P.procedures ∙ map_congr_left {l = P.procedures} (λ p i. strip_procedure_law P p))

plain_procedure : (p : Procedure) → plain_goals p.body ≡ true → strip_procedure p ≡ p
unfolding strip_procedure
plain_procedure p e = ap (λ (gs : Goals). record { signature = p.signature; body = gs }) (strip_plain p.body e)

pub strip_unannotated : (P : Program) → unannotated P ≡ true → stripped P ≡ P
unfolding stripped unannotated
strip_unannotated P e =
    ap (λ (ps : List Procedure). record { types = P.types; procedures = ps })
    (map_all (λ (p : Procedure). plain_goals p.body) strip_procedure plain_procedure P.procedures e)

-- THE THEOREM: striking out gives the input back
pub annotation_stripped : (P : Program) → unannotated P ≡ true → stripped (annotate P) ≡ P
annotation_stripped P e = strip_annotate P ∙ strip_unannotated P e
