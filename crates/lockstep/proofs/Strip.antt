-- Striking out creates and removes goes together with all that the two runs do to goals and programs.
use Rattle.std.specs.Prelude.{◌≡◌, refl, true, false, ℕ, eqb}
use Rattle.std.proofs.Common.{sym, ap, ◌∙◌}
use Rattle.std.proofs.lemmas.Bool.{false≢true}
use Rattle.language.specs.Lists.{choose}
use Rattle.language.specs.Program.{arguments_of, Step, literal, sum, assign, construct, call, print, create, remove, test, Goals, ◌then◌, Goal, step, switch, if_less, try, Arms, no_arms, arm}
use Rattle.language.specs.Annotation.{plain_step}
use Rattle.language.specs.Frames.{Picked, no_arm, picked, pick, Frame, with_goals, sum_of, fits_step, fits}
use Rattle.language.specs.PlainRun.{then_if, strip_goals, strip_arms}
use Rattle.laws.specs.Choices.{choose_map}
use Rattle.lockstep.specs.Counted.{is_plain}

-- ---- goals
-- what the plain run has in the place of a plain goal
unfoldable pub stripped_goal : Goal → Goal
stripped_goal (step g) = step g
stripped_goal (switch x cs) = switch x (strip_arms cs)
stripped_goal (if_less y z a b) = if_less y z (strip_goals a) (strip_goals b)
stripped_goal (try c a b) = try (strip_goals c) (strip_goals a) (strip_goals b)

pub strip_goal_law : (g : Goal) (gs : Goals) → strip_goals (g then gs) ≡ then_if (is_plain g) (stripped_goal g) (strip_goals gs)
unfolding strip_goals is_plain stripped_goal then_if
strip_goal_law (step g) gs = refl
strip_goal_law (switch x cs) gs = refl
strip_goal_law (if_less y z a b) gs = refl
strip_goal_law (try c a b) gs = refl

-- ---- sums out of range: both runs find the same ones, and no create or remove is one
fits_again : (g : Step) (f : Frame) (gs : Goals) → fits_step g (with_goals f gs) ≡ fits_step g f
unfolding fits_step sum_of with_goals
fits_again (literal x v) f gs = refl
fits_again (sum x o y z) f gs = refl
fits_again (assign x y) f gs = refl
fits_again (construct x k ys) f gs = refl
fits_again (call q ys) f gs = refl
fits_again (print y) f gs = refl
fits_again (create r) f gs = refl
fits_again (remove r) f gs = refl
fits_again (test y z) f gs = refl

pub fits_stripped : (g : Goal) (f : Frame) (gs : Goals) → fits (stripped_goal g) (with_goals f gs) ≡ fits g f
unfolding fits stripped_goal
fits_stripped (step g) f gs = fits_again g f gs
fits_stripped (switch x cs) f gs = refl
fits_stripped (if_less y z a b) f gs = refl
fits_stripped (try c a b) f gs = refl

quiet_step : (g : Step) (f : Frame) → plain_step g ≡ false → fits_step g f ≡ true
unfolding plain_step fits_step
quiet_step (literal x v) f p = refl
quiet_step (sum x o y z) f p = absurd (false≢true (sym p))
quiet_step (assign x y) f p = refl
quiet_step (construct x k ys) f p = refl
quiet_step (call q ys) f p = refl
quiet_step (print y) f p = refl
quiet_step (create r) f p = refl
quiet_step (remove r) f p = refl
quiet_step (test y z) f p = refl

pub quiet_fits : (g : Goal) (f : Frame) → is_plain g ≡ false → fits g f ≡ true
unfolding is_plain fits
quiet_fits (step g) f p = quiet_step g f p
quiet_fits (switch x cs) f p = refl
quiet_fits (if_less y z a b) f p = refl
quiet_fits (try c a b) f p = refl

-- ---- arms
unfoldable pub strip_picked : Picked → Picked
strip_picked no_arm = no_arm
strip_picked (picked ys gs) = picked ys (strip_goals gs)

pub strip_pick : (cs : Arms) (k : ℕ) → pick (strip_arms cs) k ≡ strip_picked (pick cs k)
unfolding pick strip_arms strip_picked
strip_pick no_arms k = refl
strip_pick (arm f ys gs cs) k =
    ap (choose (eqb f k) (picked (arguments_of ys) (strip_goals gs))) (strip_pick cs k)
    ∙ sym (choose_map strip_picked (eqb f k) (picked (arguments_of ys) gs) (pick cs k))
