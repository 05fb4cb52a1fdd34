-- The invariant of the accepted file's run: what the newest frame and the waiting ones hold, own and have still to do.
use Rattle.std.specs.Prelude.{◌≡◌, Bool, true, false, List, [], ◌∷◌, ℕ}
use Rattle.std.proofs.Common.{◌∙◌}
use Rattle.sets.specs.Sets.{member, ◌∪◌}
use Rattle.sets.specs.Members.{set_of, image}
use Rattle.sets.specs.declared.Set.{Set}
use Rattle.language.specs.Program.{Goals, Goal, ◌then◌, Program, signature_of, parameters_of, in_mode, out_mode, arguments_in}
use Rattle.language.specs.Regions.{mapping, image_in}
use Rattle.language.specs.Lifetimes.{born, kept}
use Rattle.language.specs.Checking.{sound_given}
use Rattle.language.specs.Frames.{Value, Condition, closed, opened}
use Rattle.language.specs.AcceptedRun.{RegionFrame, RegionCell, Memory, State, whole}
use Rattle.region_graph.specs.Laws.{shared, Called}
use Rattle.safety.specs.Doing.{Doing}
use Rattle.safety.specs.Premises.{Accepted, laws}
use Rattle.safety.specs.PlacedValues.{Grows}
use Rattle.safety.specs.Variables.{Vars, vars_grown}
use Rattle.safety.specs.Owners.{Owner, owner, Owns, Ownership}

module _ (P : Program) where
  -- the image of a callee's region, where procedure p calls q with arguments zs
  abbrev pub image_at : ℕ → ℕ → List ℕ → ℕ → ℕ
  image_at p q zs = image_in (mapping (signature_of P p) (signature_of P q) zs)

  -- the arguments of a call of q that are given a value, or that are read
  abbrev pub given_by : ℕ → List ℕ → List ℕ
  given_by q zs = arguments_in out_mode (parameters_of (signature_of P q)) zs

  abbrev pub read_by : ℕ → List ℕ → List ℕ
  read_by q zs = arguments_in in_mode (parameters_of (signature_of P q)) zs

  -- a frame of procedure q, called with arguments zs, hangs over the waiting frame e: the born regions come when it returns
  pub record Hung (H : List RegionCell) (q : ℕ) (zs : List ℕ) (ρ : ℕ → ℕ) (e : RegionFrame) (w s : Set) (os : List Owner) : Type 0 where
    pub call : Called (signature_of P e.frame.procedure) (signature_of P q) zs
    pub link : (u : ℕ) → member (kept (signature_of P q)) u ≡ true
        → (ρ u ≡ e.stands (image_at e.frame.procedure q zs u)) × (member w (image_at e.frame.procedure q zs u) ≡ true)
    pub born_free : (u : ℕ) → member (born (signature_of P q)) u ≡ true → member w (image_at e.frame.procedure q zs u) ≡ false
    pub born_alone : (u v : ℕ) → member (born (signature_of P q)) u ≡ true → member (born (signature_of P q)) v ≡ true
        → image_at e.frame.procedure q zs u ≡ image_at e.frame.procedure q zs v → u ≡ v
    pub owns : Owns (signature_of P e.frame.procedure) w e.stands os
    pub vars : Vars P.types (signature_of P e.frame.procedure) w s e.stands H e.frame.values
    pub doing : Doing P (signature_of P e.frame.procedure) e.frame.goals
        (w ∪ image (image_at e.frame.procedure q zs) (born (signature_of P q)))
        (sound_given (signature_of P e.frame.procedure) (set_of (given_by q zs))
        (w ∪ image (image_at e.frame.procedure q zs) (born (signature_of P q))) s)

  -- the waiting frames below a frame of procedure q with arguments zs and region numbers ρ; the entry has no input and output regions
  pub data Stack (H : List RegionCell) : ℕ → List ℕ → (ℕ → ℕ) → List RegionFrame → List Owner → Type 0 where
    bottom : {q : ℕ} {zs : List ℕ} {ρ : ℕ → ℕ} → ((r : ℕ) → shared (signature_of P q) r → ⊥) → Stack H q zs ρ [] []
    hang : {q : ℕ} {zs : List ℕ} {ρ : ℕ → ℕ} {e : RegionFrame} {fs : List RegionFrame} {w s : Set} {os : List Owner}
        → Hung H q zs ρ e w s os
        → Stack H e.frame.procedure e.frame.arguments e.stands fs os → Stack H q zs ρ (e ∷ fs) (owner e.stands w ∷ os)

  -- a frame of procedure p with arguments zs, region numbers ρ and values vr over the waiting frames fs, h held and s sound; H has the
  -- cells, `made` regions are made, and `live` are alive
  pub record Now (p : ℕ) (zs : List ℕ) (ρ : ℕ → ℕ) (vr : ℕ → Value) (fs : List RegionFrame) (H : List RegionCell) (made : ℕ)
      (live : ℕ → Bool) (h s : Set) (os : List Owner) : Type 0 where
    pub regions : Ownership (signature_of P p) h ρ os made live
    pub vars : Vars P.types (signature_of P p) h s ρ H vr
    pub stack : Stack H p zs ρ fs os

  pub data Inv (f : RegionFrame) (fs : List RegionFrame) (m : Memory) : Type 0 where
    inv : {h s : Set} {os : List Owner} → Doing P (signature_of P f.frame.procedure) f.frame.goals h s
        → Now f.frame.procedure f.frame.arguments f.stands f.frame.values fs m.cells m.made m.alive h s os
        → Inv f fs m

  -- what a failing test comes back to: the invariant once more, of the saved frame and memory, over the same waiting frames (C-20)
  pub data Saved (fs : List RegionFrame) : Condition RegionFrame Memory → Type 0 where
    none_open : Saved fs closed
    saved : {a : Goals} {e : RegionFrame} {n : Memory} → Inv e fs n → Saved fs (opened a e n)

  -- a settled state: the newest frame has a goal, or the run has ended and nothing is alive. In an open condition the invariant is asked twice: of
  -- what goes on, with the goals that follow the condition, and of what is saved
  pub data Fine (st : State) : Type 0 where
    running : {f : RegionFrame} {fs : List RegionFrame} {g : Goal} {gs : Goals} → st.frames ≡ f ∷ fs → f.frame.goals ≡ g then gs
        → Inv (whole st.condition f) fs st.memory → Saved fs st.condition → Fine st
    over : st.frames ≡ [] → ((k : ℕ) → st.memory.alive k ≡ false) → Fine st

  -- ---- the waiting frames see of the newest what its kept regions stand for, and only more cells
  pub stack_stands : {H : List RegionCell} {q : ℕ} {zs : List ℕ} {ρ ρ' : ℕ → ℕ} {fs : List RegionFrame} {os : List Owner}
      → ((u : ℕ) → member (kept (signature_of P q)) u ≡ true → ρ' u ≡ ρ u) → Stack H q zs ρ fs os → Stack H q zs ρ' fs os
  stack_stands e (bottom n) = bottom n
  stack_stands e (hang g st) = hang (record {
    call = g.call;
    link = λ u i. (e u i ∙ (g.link u i).0, (g.link u i).1);
    born_free = g.born_free;
    born_alone = g.born_alone;
    owns = g.owns;
    vars = g.vars;
    doing = g.doing;
  }) st

  module _ (A : Accepted P) where
    pub stack_grown : {H H' : List RegionCell} {q : ℕ} {zs : List ℕ} {ρ : ℕ → ℕ} {fs : List RegionFrame} {os : List Owner} → Grows H H'
        → Stack H q zs ρ fs os → Stack H' q zs ρ fs os
    stack_grown e (bottom n) = bottom n
    stack_grown e (hang {e = f} g st) = hang (record {
      call = g.call;
      link = g.link;
      born_free = g.born_free;
      born_alone = g.born_alone;
      owns = g.owns;
      vars = vars_grown (laws A f.frame.procedure) e g.vars;
      doing = g.doing;
    }) (stack_grown e st)
