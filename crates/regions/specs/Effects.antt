-- What a step does to regions, as the code has it.
use Rattle.std.specs.Prelude.{ℕ, ◌<◌, true, List, ◌≡◌}
use Rattle.std.proofs.Common.{arith, sym, ◌∙◌}
use Rattle.std.proofs.Math.Path.{ap}
use Rattle.sets.specs.Sets.{single}
use Rattle.language.specs.File.{GoalKind, k_goal, kind_of, word, record_count}
use Rattle.language.specs.Format.{kind_word}
use Rattle.language.specs.Program.{Step, print, Goal, step, switch, if_less, try, Signature, Program}
use Rattle.language.specs.Lifetimes.{effect}
use Rattle.language.specs.Answers.{program}
use Rattle.chains.specs.Formed.{goal_at}
use Rattle.owners.specs.Owners.{kind_goals}
use Rattle.tables.specs.Filled.{GoalIsStep}
use Rattle.tables.specs.declared.Effect.{Effect}
use Rattle.regions.specs.Here.{signature_at}

-- e is the effect of g
pub record Effects (P : Program) (S : Signature) (g : Step) (e : Effect) : Type 0 where
  pub needs : e.needs ≡ (effect P S g).needs
  pub bears : e.bears ≡ (effect P S g).bears
  pub ends : e.ends ≡ (effect P S g).ends
  pub unshared : e.unshared ≡ (effect P S g).unshared

-- a step that needs, bears and ends a region each, 0 for none
unfoldable pub region_effect : ℕ → ℕ → ℕ → Effect
region_effect n b e = record { needs = single n; bears = single b; ends = single e; unshared = true }

-- a step stands at record i, or none does
abbrev pub SomeStep : List ℕ → ℕ → Type 0
SomeStep f i = (g : Step) × GoalIsStep f i g

abbrev pub NoStep : List ℕ → ℕ → Type 0
NoStep f i = (g : Step) → GoalIsStep f i g → ⊥

-- one does, and e is its effect
pub record EffectAt (f : List ℕ) (i : ℕ) (e : Effect) : Type 0 where
  pub one : SomeStep f i
  pub made : (g : Step) → GoalIsStep f i g → Effects (program f) (signature_at f i) g e

-- ---- the step that a goal is
unfoldable step_in : Goal → Step
step_in (step s) = s
step_in (switch x cs) = print 0
step_in (if_less y z a b) = print 0
step_in (try c a b) = print 0

module _ (f : List ℕ) (i : ℕ) {h : Step} (v : goal_at f i ≡ step h) where
  pub same_step : {e : Effect} → Effects (program f) (signature_at f i) h e → (g : Step) → GoalIsStep f i g → Effects (program f) (signature_at f i) g e
  unfolding step_in
  same_step m g s = let same : g ≡ h = ap step_in (sym s.view ∙ v) in rw same m

  pub step_at : (k : GoalKind) → kind_of (word f i kind_word) ≡ k_goal k → 0 < i → i < record_count f → GoalIsStep f i h
  step_at k n p q = record {
    stands = kind_goals q k n;
    some = λ z. omega arith;
    view = v;
  }

-- where the goal at record i is the step h, its effect is that of the step at record i
module _ {f : List ℕ} {i : ℕ} (p : 0 < i) (q : i < record_count f) (k : GoalKind) (n : kind_of (word f i kind_word) ≡ k_goal k) {h : Step} (v : goal_at f i ≡ step h) where
  pub effect_made : {e : Effect} → Effects (program f) (signature_at f i) h e → EffectAt f i e
  effect_made m = record { one = (h, step_at f i v k n p q); made = same_step f i v m }
