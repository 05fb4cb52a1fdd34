-- Safety of the accepted file's run: it stays for no region, only at a sum out of range, and nothing is alive once the entry has returned.
use Rattle.std.specs.Prelude.{◌≡◌, false, ◌⊎◌}
use Rattle.std.proofs.Common.{sym, ◌∙◌, inl, inr}
use Rattle.std.proofs.Math.Path.{ap}
use Rattle.std.proofs.Math.Bool.{true}
use Rattle.std.proofs.lemmas.Bool.{false≢true}
use mathlib.Core.List.{List, ◌∷◌, []}
use Prim.Native.Nat.{ℕ, zero, suc}
use Rattle.sets.specs.Tests.{truth}
use Rattle.sets.specs.Sets.{member}
use Rattle.language.specs.Program.{Goals, ◌then◌, Goal, Program, signature_of, in_mode}
use Rattle.language.specs.Values.{ins_of}
use Rattle.language.specs.Lifetimes.{start_held}
use Rattle.language.specs.Frames.{Condition, ahead, fits, with_goals, entry_frame}
use Rattle.language.specs.AcceptedRun.{RegionFrame, Memory, State, with_frame, whole, start, allowed, take, step_from, step_of, steps}
use Rattle.laws.specs.Runs as Runs
use Rattle.laws.specs.Goals.{ahead_then}
use Rattle.laws.specs.MoreSets.{empty_in}
use Rattle.safety.specs.Doing.{next_in_law}
use Rattle.region_graph.specs.Classes.{kept_in}
use Rattle.safety.specs.Signatures.{start_shared}
use Rattle.safety.specs.Premises.{Accepted, fit, start_doing, entry_variables, entry_unshared}
use Rattle.safety.specs.Invariant.{bottom, Inv, inv, Saved, Fine, running, over}
use Rattle.safety.proofs.Settling.{settled}
use Rattle.safety.proofs.Allowed.{allowed_ok}
use Rattle.safety.proofs.Steps.{take_ok}

module _ {P : Program} (A : Accepted P) where
  -- the next goal of a frame is allowed, and taking it leads to a settled state
  inv_allowed : (c : Condition RegionFrame Memory) (f : RegionFrame) (fs : List RegionFrame) (m : Memory) (g : Goal) (gs : Goals)
      → f.frame.goals ≡ g then gs → Inv P (whole c f) fs m → allowed P g f m ≡ true
  unfolding whole with_frame with_goals
  inv_allowed c f fs m g gs e (inv d N) = allowed_ok A f fs m N g (ahead c gs) (next_in_law P _ d g (ahead c gs) (ap (ahead c) e ∙ ahead_then c g gs))

  inv_taken : (c : Condition RegionFrame Memory) (f : RegionFrame) (fs : List RegionFrame) (m : Memory) (g : Goal) (gs : Goals)
      → f.frame.goals ≡ g then gs → Inv P (whole c f) fs m → Saved P fs c → Fine P (take P c g (with_frame f (with_goals f.frame gs)) fs m)
  unfolding whole with_frame with_goals
  inv_taken c f fs m g gs e (inv d N) v =
      take_ok A c (with_frame f (with_goals f.frame gs)) fs m N v g (next_in_law P _ d g (ahead c gs) (ap (ahead c) e ∙ ahead_then c g gs))

  -- a step from there is that goal taken, or stays at a sum out of range
  step_fine : (st : State) → Fine P st → Fine P (step_of P st)
  unfolding step_of step_from
  step_fine st (running {f = f} {fs = fs} {g = g} {gs = gs} e q i v) = go (truth (fits g f.frame))
    where
      go : (fits g f.frame ≡ true) ⊎ (fits g f.frame ≡ false) → Fine P (step_of P st)
      go (inl n) =
          rw (Runs.taken P st f fs g gs e q n (inv_allowed st.condition f fs st.memory g gs q i))
          (inv_taken st.condition f fs st.memory g gs q i v)
      go (inr n) = rw (Runs.stays_at_sum_law P st f fs g gs e q n) (running e q i v)
  step_fine st (over e d) = rw (ended e) (over e d)
    where
      ended : st.frames ≡ [] → step_of P st ≡ st
      ended z = ap (λ (es : List RegionFrame). step_from P es st) z

  -- the entry's frame alone: it has no input and output regions and no in variables
  start_fine : Fine P (start P)
  unfolding start entry_frame ins_of
  start_fine = settled A _ [] _ (inv {os = []} (start_doing A 0) (record {
    regions = record {
      alive = (λ r i. absurd (unheld r i), tt);
      low = λ k l. absurd (false≢true l);
      covered = λ k l. absurd (false≢true l);
      owns = record {
        alone = λ r q i. absurd (unheld r i);
        away = λ r i. absurd (unheld r i);
        keeps = λ r i. absurd (entry_unshared A r (kept_in _ r i).0);
      };
    };
    vars = record { placed = λ x i. absurd (unsound x i); closed = λ x u i. absurd (unsound x i) };
    stack = bottom (entry_unshared A);
  }))
    where
      unheld : (r : ℕ) → member (start_held (signature_of P 0)) r ≡ true → ⊥
      unheld r i = let F = fit A 0 in entry_unshared A r (start_shared F r i)

      unsound : (x : ℕ) → member (ins_of (signature_of P 0)) x ≡ true → ⊥
      unsound x i = empty_in _ (entry_variables A in_mode) x i

  pub steps_fine : (n : ℕ) → Fine P (steps P n)
  unfolding steps
  steps_fine zero = start_fine
  steps_fine (suc n) = step_fine (steps P n) (steps_fine n)

  -- ---- what a settled state says, for any frame that is its newest
  fine_inv : (st : State) (f : RegionFrame) (fs : List RegionFrame) → Fine P st → st.frames ≡ f ∷ fs → Inv P (whole st.condition f) fs st.memory
  fine_inv st f fs (running {f = e} {fs = es} p q i v) z =
      let a : e ≡ f = cc in
      let b : es ≡ fs = cc in
      rw (← a) (rw (← b) i)
  fine_inv st f fs (over p d) z = absurd (false≢true (cc))

  fine_goal : (st : State) (f : RegionFrame) (fs : List RegionFrame) → Fine P st → st.frames ≡ f ∷ fs
      → (g : Goal) × (gs : Goals) × (f.frame.goals ≡ g then gs)
  fine_goal st f fs (running {f = e} {g = g} {gs = gs} p q i v) z =
      let a : e ≡ f = cc in
      (g, gs, ap (λ (b : RegionFrame). b.frame.goals) (sym a) ∙ q)
  fine_goal st f fs (over p d) z = absurd (false≢true (cc))

  fine_clean : (st : State) → Fine P st → st.frames ≡ [] → (k : ℕ) → st.memory.alive k ≡ false
  fine_clean st (running p q i v) z k = absurd (false≢true (cc))
  fine_clean st (over p d) z k = d k

  -- ---- the theorems
  -- the state after any number of steps is never one that stays for a region
  pub safe : (n : ℕ) (f : RegionFrame) (fs : List RegionFrame) (g : Goal) (gs : Goals) → (steps P n).frames ≡ f ∷ fs
      → f.frame.goals ≡ g then gs → allowed P g f (steps P n).memory ≡ true
  safe n f fs g gs e q = inv_allowed (steps P n).condition f fs (steps P n).memory g gs q (fine_inv (steps P n) f fs (steps_fine n) e)

  -- so the next step takes the newest frame's next goal, unless that is a sum out of range
  pub taken : (n : ℕ) (f : RegionFrame) (fs : List RegionFrame) (g : Goal) (gs : Goals) → (steps P n).frames ≡ f ∷ fs
      → f.frame.goals ≡ g then gs → fits g f.frame ≡ true
      → steps P (suc n) ≡ take P (steps P n).condition g (with_frame f (with_goals f.frame gs)) fs (steps P n).memory
  unfolding steps
  taken n f fs g gs e q t = Runs.taken P (steps P n) f fs g gs e q t (safe n f fs g gs e q)

  -- the newest frame has a goal
  pub busy : (n : ℕ) (f : RegionFrame) (fs : List RegionFrame) → (steps P n).frames ≡ f ∷ fs
      → (g : Goal) × (gs : Goals) × (f.frame.goals ≡ g then gs)
  busy n f fs e = fine_goal (steps P n) f fs (steps_fine n) e

  -- nothing is alive once the entry has returned
  pub clean : (n : ℕ) → (steps P n).frames ≡ [] → (k : ℕ) → (steps P n).memory.alive k ≡ false
  clean n e k = fine_clean (steps P n) (steps_fine n) e k
