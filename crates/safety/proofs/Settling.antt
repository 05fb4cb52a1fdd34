-- "Whenever the newest frame has no goals left, it goes at once": settling keeps the invariant, and when the entry's frame goes nothing is
-- alive.
use Rattle.std.specs.Prelude.{◌≡◌, true, false, ℕ}
use Rattle.std.proofs.Math.Path.{refl}
use mathlib.Core.List.{List, ◌∷◌, []}
use Rattle.std.proofs.Common.{⊎_elim}
use Rattle.sets.specs.Tests.{false_of}
use Rattle.sets.specs.Sets.{member, ◌∪◌, union_in}
use Rattle.sets.specs.declared.Set.{Set}
use Rattle.language.specs.Program.{Goals, done, ◌then◌, ◌before◌, Program, signature_of}
use Rattle.language.specs.Lifetimes.{born, kept}
use Rattle.language.specs.Frames.{Condition, closed, opened, ahead, with_goals, returning, settle}
use Rattle.language.specs.AcceptedRun.{RegionFrame, Memory, with_frame, whole, mapping_from, returning_regions, state, within, state_in}
use Rattle.safety.specs.Doing.{End, end_in}
use Rattle.region_graph.specs.Classes.{kept_in}
use Rattle.safety.specs.Signatures.{born_shared_law}
use Rattle.safety.specs.Premises.{Accepted, fit}
use Rattle.safety.specs.Owners.{Owner}
use Rattle.safety.specs.Invariant.{Stack, bottom, hang, Now, Inv, inv, Saved, none_open, Fine, running, over}
use Rattle.safety.proofs.Returns.{now_returned}

module _ {P : Program} (A : Accepted P) where
  -- the entry holds nothing at its end
  all_dead : (f : RegionFrame) (m : Memory) {h s : Set} {os : List Owner} → End P (signature_of P f.frame.procedure) h s
      → Now P f.frame.procedure f.frame.arguments f.stands f.frame.values [] m.cells m.made m.alive h s os
      → Stack P m.cells f.frame.procedure f.frame.arguments f.stands [] os → (k : ℕ) → m.alive k ≡ false
  all_dead f m Z N (bottom none) k =
      false_of (λ l. ⊎_elim (λ o. holds o.0 (rw Z.holds at o.1)) (λ o. o) (N.regions.covered k l))
    where
      holds : (r : ℕ) → member (born (signature_of P f.frame.procedure) ∪ kept (signature_of P f.frame.procedure)) r ≡ true → ⊥
      holds r i =
          let F = fit A f.frame.procedure in
          ⊎_elim (λ b. none r (born_shared_law F r b)) (λ b. none r (kept_in _ r b).0)
          (union_in (born (signature_of P f.frame.procedure)) (kept (signature_of P f.frame.procedure)) r i)

  returned : (f e : RegionFrame) (fs : List RegionFrame) (m : Memory) {h s : Set} {os : List Owner}
      → End P (signature_of P f.frame.procedure) h s
      → Now P f.frame.procedure f.frame.arguments f.stands f.frame.values (e ∷ fs) m.cells m.made m.alive h s os
      → Stack P m.cells f.frame.procedure f.frame.arguments f.stands (e ∷ fs) os → Inv P (returning_regions P f e) fs m
  unfolding returning_regions returning mapping_from
  returned f e fs m Z N (hang g st) =
      inv g.doing
      (now_returned A f.frame.procedure f.frame.arguments f.stands f.frame.values e g N.regions
      N.vars Z st)

  settled_fine : (fs : List RegionFrame) (f : RegionFrame) (m : Memory) (gs : Goals) → f.frame.goals ≡ gs → Inv P f fs m
      → Fine P (record { frames = settle (λ e. e.frame.goals) (returning_regions P) fs f gs; memory = m; condition = closed })
  unfolding settle returning_regions returning whole ahead with_frame with_goals
  settled_fine [] f m done e (inv d N) = over refl (all_dead f m (end_in P _ d e) N N.stack)
  settled_fine [] f m (g then gs) e i = running refl e i none_open
  settled_fine (b ∷ fs) f m done e (inv d N) =
      settled_fine fs (returning_regions P f b) m b.frame.goals refl (returned f b fs m (end_in P _ d e) N N.stack)
  settled_fine (b ∷ fs) f m (g then gs) e i = running refl e i none_open

  pub settled : (f : RegionFrame) (fs : List RegionFrame) (m : Memory) → Inv P f fs m → Fine P (state P f fs m)
  unfolding state
  settled f fs m i = settled_fine fs f m f.frame.goals refl i

  -- the same in a condition: its goals go on, or they are done and those that follow it come (C-20)
  within_fine : (c : Condition RegionFrame Memory) (gs : Goals) (f : RegionFrame) (fs : List RegionFrame) (m : Memory) → f.frame.goals ≡ gs
      → Inv P (whole c f) fs m → Saved P fs c → Fine P (within P c gs f fs m)
  unfolding within whole ahead ◌before◌ with_frame with_goals
  within_fine closed gs f fs m e i v = settled f fs m i
  within_fine (opened a x n) done f fs m e i v = settled _ fs m (rw e at i)
  within_fine (opened a x n) (g then gs) f fs m e i v = running refl e i v

  pub settled_in : (c : Condition RegionFrame Memory) (f : RegionFrame) (fs : List RegionFrame) (m : Memory) → Inv P (whole c f) fs m
      → Saved P fs c → Fine P (state_in P c f fs m)
  unfolding state_in
  settled_in c f fs m i v = within_fine c f.frame.goals f fs m refl i v
