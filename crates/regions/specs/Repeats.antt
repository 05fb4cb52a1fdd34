-- A call that repeats another: of the same procedure, from the same procedure, with arguments in the same regions. The mapping goes by these alone.
use Rattle.std.specs.Prelude.{ℕ, true, List, ◌≡◌, get_or}
use Rattle.std.proofs.Math.Path.{refl, ap}
use Rattle.std.proofs.Common.{sym, ◌∙◌}
use Rattle.language.specs.File.{k_call, k_goal, word}
use Rattle.language.specs.Format.{call_procedure, call_arguments}
use Rattle.language.specs.Program.{call, Signature, signature_of}
use Rattle.language.specs.Regions.{mapping, one_way, regions_of, step_regions}
use Rattle.language.specs.Lifetimes
use Rattle.language.specs.Lifetimes.{call_effect, effect}
use Rattle.language.specs.Answers.{program}
use Rattle.chains.specs.Formed.{arguments_at}
use Rattle.chains.specs.Shapes.{IsCall, call_here}
use Rattle.owners.specs.Owner.{owner_of}
use Rattle.owners.specs.Everywhere.{record_test, if_goal}
use Rattle.owners.specs.TreeLaw.{record_kind}
use Rattle.tables.specs.declared.Effect.{Effect}
use Rattle.regions.specs.CallMap.{homes_in, homes_regions}
use Rattle.regions.specs.Single.{agrees_here, agrees}
use Rattle.regions.specs.Here.{signature_at, Here, call_kind_law, goal_test}
use Rattle.regions.specs.Effects.{EffectAt, step_at, effect_made}

-- the call at record i repeats that at record j, by the window of its procedure
pub record Repeats (f own owners : List ℕ) (j i : ℕ) : Type 0 where
  pub here : IsCall f i
  pub kind : IsCall f j
  pub owner : get_or owners i 0 ≡ get_or owners j 0
  pub callee : word f i call_procedure ≡ word f j call_procedure
  pub homes : homes_in own (arguments_at f (word f i call_arguments)) ≡ homes_in own (arguments_at f (word f j call_arguments))

-- the mapping goes by the regions of the arguments
same_mapping : (C Q : Signature) (xs ys : List ℕ) → regions_of C xs ≡ regions_of C ys → mapping C Q xs ≡ mapping C Q ys
unfolding mapping
same_mapping C Q xs ys e = rw e refl

module _ {f own owners : List ℕ} {i j : ℕ} (H : Here f own i) (R : Repeats f own owners j i) (o : owner_of f i ≡ owner_of f j) where
  abbrev k : IsCall f i
  k = R.here

  abbrev C : Signature
  C = signature_at f i

  abbrev Q : Signature
  Q = signature_of (program f) (word f i call_procedure)

  pub same : mapping C Q (arguments_at f (word f i call_arguments)) ≡ mapping C Q (arguments_at f (word f j call_arguments))
  same =
      let W = H.window k_call (call_kind_law f i k) in
      same_mapping C Q _ _ (sym (homes_regions C W (arguments_at f (word f i call_arguments))) ∙ R.homes ∙ homes_regions C W (arguments_at f (word f j call_arguments)))

  -- number 5 of the other is its own
  pub repeat_agrees : true ≡ record_test (agrees f) f j → true ≡ record_test (agrees f) f i
  unfolding if_goal agrees agrees_here step_regions
  repeat_agrees y =
      goal_test i H.formed k_call (call_kind_law f i k) (call_here H.formed refl k).goal
      (y ∙ record_kind (agrees f) H.formed j (k_goal k_call) (call_kind_law f j R.kind) ∙ rw ((call_here H.formed refl R.kind).goal, ← o, ← R.callee) (ap one_way (sym same)))

  -- .. and so is its effect
  pub repeat_made : {e : Effect} → EffectAt f j e → EffectAt f i e
  unfolding effect
  repeat_made {e} m =
      let v = call_here H.formed refl R.kind in
      let h = m.made _ (step_at f j v.goal k_call (call_kind_law f j R.kind) v.some v.below) in
      let d : effect (program f) (signature_at f j) (call (word f j call_procedure) (arguments_at f (word f j call_arguments))) ≡ effect (program f) C (call (word f i call_procedure) (arguments_at f (word f i call_arguments))) =
      rw (← o, ← R.callee) (ap (λ n. call_effect n Q) (sym same)) in
      effect_made H.some H.below k_call (call_kind_law f i k) (call_here H.formed refl k).goal (record {
        needs = h.needs ∙ ap (λ (x : Lifetimes.Effect). x.needs) d;
        bears = h.bears ∙ ap (λ (x : Lifetimes.Effect). x.bears) d;
        ends = h.ends ∙ ap (λ (x : Lifetimes.Effect). x.ends) d;
        unshared = h.unshared ∙ ap (λ (x : Lifetimes.Effect). x.unshared) d;
      })
