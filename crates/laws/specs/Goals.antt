-- Laws of goals in front of others, and of striking out creates and removes, there and in programs; whether a switch has an arm.
use Rattle.std.specs.Prelude.{ℕ, Bool, true, false, [], ◌≡◌, refl}
use Rattle.std.proofs.Common.{sym, ap, ◌∙◌}
use Rattle.language.specs.Program.{Goals, done, ◌then◌, Goal, step, switch, if_less, try, Arms, no_arms, arm, ◌before◌, Program, procedure_at, signature_of}
use Rattle.language.specs.Annotation.{plain_step}
use Rattle.language.specs.Frames.{Condition, closed, opened, ahead}
use Rattle.language.specs.PlainRun.{then_if, strip_goals, strip_goal, strip_procedure, stripped}
use Rattle.laws.specs.Lists.{nth_map}

pub before_done : (gs : Goals) → gs before done ≡ gs
unfolding ◌before◌
before_done done = refl
before_done (g then gs) = ap (λ (hs : Goals). g then hs) (before_done gs)

pub before_assoc : (gs hs ks : Goals) → (gs before hs) before ks ≡ gs before (hs before ks)
unfolding ◌before◌
before_assoc done hs ks = refl
before_assoc (g then gs) hs ks = ap (λ (rest : Goals). g then rest) (before_assoc gs hs ks)

pub then_if_before : (b : Bool) (g : Goal) (gs hs : Goals) → then_if b g gs before hs ≡ then_if b g (gs before hs)
unfolding then_if ◌before◌
then_if_before true g gs hs = refl
then_if_before false g gs hs = refl

pub goal_before : (g : Goal) (gs hs : Goals) → strip_goal g gs before hs ≡ strip_goal g (gs before hs)
unfolding strip_goal ◌before◌
goal_before (step g) gs hs = then_if_before (plain_step g) (step g) gs hs
goal_before (switch x cs) gs hs = refl
goal_before (if_less y z a b) gs hs = refl
goal_before (try c a b) gs hs = refl

pub strip_before : (gs hs : Goals) → strip_goals (gs before hs) ≡ strip_goals gs before strip_goals hs
unfolding strip_goals ◌before◌
strip_before done hs = refl
strip_before (g then gs) hs = ap (strip_goal g) (strip_before gs hs) ∙ sym (goal_before g (strip_goals gs) (strip_goals hs))

-- ---- the goals that follow an open condition (C-20)
pub ahead_then : {F M : Type 0} (c : Condition F M) (g : Goal) (gs : Goals) → ahead c (g then gs) ≡ g then ahead c gs
unfolding ahead ◌before◌
ahead_then closed g gs = refl
ahead_then (opened a e n) g gs = refl

pub ahead_before : {F M : Type 0} (c : Condition F M) (gs hs : Goals) → ahead c (gs before hs) ≡ gs before ahead c hs
unfolding ahead
ahead_before closed gs hs = refl
ahead_before (opened a e n) gs hs = before_assoc gs hs a

unfoldable pub some_arm : Arms → Bool
some_arm no_arms = false
some_arm (arm f ys gs cs) = true

-- ---- programs with creates and removes struck out
pub strip_procedure_law : (P : Program) (q : ℕ) → procedure_at (stripped P) q ≡ strip_procedure (procedure_at P q)
unfolding procedure_at stripped strip_procedure strip_goals
strip_procedure_law P q = nth_map strip_procedure (record { signature = record { variables = []; regions = [] }; body = done }) P.procedures q

pub strip_signature : (P : Program) (q : ℕ) → signature_of (stripped P) q ≡ signature_of P q
unfolding signature_of strip_procedure
strip_signature P q = ap (λ p. p.signature) (strip_procedure_law P q)

pub strip_body : (P : Program) (q : ℕ) → (procedure_at (stripped P) q).body ≡ strip_goals (procedure_at P q).body
unfolding strip_procedure
strip_body P q = ap (λ p. p.body) (strip_procedure_law P q)
