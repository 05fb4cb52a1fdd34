-- Laws of `specs/Steps` that only proofs cite.
use Prim.Native.Nat.{ℕ, ◌+◌, ◌<◌}
use native.Mathlib.Omega.{arith}
use mathlib.Core.List.{List}
use mathlib.Core.Path.{◌≡◌, refl, ap, sym, ◌∙◌}
use Rattle.sets.specs.Sets.{◌∪◌, ◌∖◌}
use Rattle.sets.specs.Members.{members}
use Rattle.sets.specs.declared.Set.{Set}
use Rattle.language.specs.Format.{create_kind, remove_kind, next_word}
use Rattle.language.specs.File.{goals, word}
use Rattle.language.specs.Program.{Step, Goal, step, signature_of}
use Rattle.language.specs.Lifetimes.{wanted, live_goal, held_after}
use Rattle.language.specs.Annotation.{created_for}
use Rattle.language.specs.Answers.{program}
use Rattle.placement.specs.Local.{held_past}
use Rattle.chains.specs.Formed.{Formed, Stands, goal_at, first_goal}
use Rattle.chains.specs.Shapes.{IsSwitch, IsIf, IsTry, step_here}
use Rattle.tables.specs.Rows.{needs_in, bears_in, ends_in}
use Rattle.tables.specs.Filled.{GoalIsStep}
use Rattle.liveness.specs.Counts.{goal_count}
use Rattle.liveness.specs.Table.{before_at, after_at}
use Rattle.liveness.specs.Points.{point_words}
use Rattle.writer.specs.Ready.{front_to}
use Rattle.laying.specs.Lays.{Lays}
use Rattle.laying.specs.Marks.{more_of, marks}
use Rattle.insertion.proofs.ChainsLaws.{fronts_copy, fronts_step}
use Rattle.insertion.proofs.WantsLaws.{goal_wants}
use Rattle.insertion.specs.Done.{GoalLaid}
use Rattle.insertion.specs.Steps.{created_in, removed_in}

module _ (rows t : List ℕ) (i at : ℕ) {b a n r s : Set} (eb : b ≡ before_at t at) (ea : a ≡ after_at t at) where
  pub created_is : n ≡ needs_in rows i → r ≡ bears_in rows i → s ≡ ((n ∪ a) ∖ b) ∖ r → s ≡ created_in rows t i at
  unfolding created_in
  created_is p q o = o ∙ rw (p, q, eb, ea) refl

  pub removed_is : (cs : Set) {h : Set} → h ≡ b ∪ cs → n ≡ ends_in rows i → r ≡ bears_in rows i → s ≡ ((h ∖ n) ∪ r) ∖ a → s ≡ removed_in rows t i at cs
  unfolding removed_in
  removed_is cs h p q o = o ∙ rw (h, p, q, eb, ea) refl

step_count : {g : Goal} {s : Step} → g ≡ step s → goal_count g ≡ 1
unfolding goal_count
step_count e = rw e refl

module _ {f : List ℕ} (rows t : List ℕ) {i : ℕ} (at : ℕ) (F : Formed f) (st : Stands f goals i) (z : i ≡ 0 → ⊥) (p : IsSwitch f i → ⊥) (q : IsIf f i → ⊥) (x : IsTry f i → ⊥) where
  pub step_laid : {a b d e : List ℕ} {c m n r u next mid : ℕ} {cs rs : Set} → cs ≡ created_in rows t i at → rs ≡ removed_in rows t i at cs → next ≡ word f i next_word
      → Lays a b c m (marks create_kind (members cs) 1 c) → mid ≡ more_of (members rs) next → Lays b d m n (front_to f i mid m)
      → Lays d e n r (marks remove_kind (members rs) next n) → (at < point_words → u ≡ at + 2) → GoalLaid f rows t i at a e c r u
  unfolding created_in removed_in created_for held_past held_after live_goal first_goal goal_at
  step_laid {a} {b} {d} {e} {c} {m} {n} {r} {u} {next} {mid} {cs} {rs} ec er en k em l o h = (
    o.same ∙ l.same ∙ k.same,
    λ w v after R g W.
        let P = program f in
        let S = signature_of P v in
        let H = step_here F st z refl p q x in
        let s = H.one in
        let view : goal_at f i ≡ step s = ap first_goal H.view in
        let at_step_law : GoalIsStep f i s = record { stands = st; some = z; view = view } in
        let X = goal_wants P S t at (step s) after (rw view at W) in
        let E = R.effected in
        let fc : cs ≡ created_for P S s after =
        ec ∙ rw (E.needs i s at_step_law, E.bears i s at_step_law, g, X.before_is, X.after_is) refl in
        let fr : rs ≡ held_past P S s after ∖ wanted S after =
        er ∙ rw (fc, E.ends i s at_step_law, E.bears i s at_step_law, g, X.before_is, X.after_is) refl in
        (rw (view, sym en) (fronts_step P S s after fc fr em k (fronts_copy F st z mid H.view l) o), h X.short ∙ rw (step_count view) (omega arith)),
  )
