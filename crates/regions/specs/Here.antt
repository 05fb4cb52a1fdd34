-- The record at hand: what the pass has of it, and number 5 of its goal by the kind of the record.
use Rattle.std.specs.Prelude.{ℕ, ◌<◌, Bool, true, List, ◌≡◌, length, get_or}
use Rattle.std.proofs.Common.{arith, ◌∙◌}
use Rattle.std.proofs.Math.Path.{sym, ap}
use Rattle.sets.specs.Tests.{◌&◌}
use Rattle.language.specs.File.{GoalKind, k_construct, k_call, k_goal, kinds, kind_of, word, record_count}
use Rattle.language.specs.Format.{kind_word}
use Rattle.language.specs.Lists.{nth}
use Rattle.language.specs.Program.{arguments_of, Edge, Step, Goal, step, Arms, no_arms, arm, Signature, signature_of}
use Rattle.language.specs.Typing.{step_ok, goal_ok, typing_ok}
use Rattle.language.specs.Answers.{program}
use Rattle.chains.specs.Formed.{Formed, goal_at}
use Rattle.chains.specs.Shapes.{IsConstruct, IsCall}
use Rattle.owners.specs.Owner.{owner_of}
use Rattle.owners.specs.Owners.{kind_goals}
use Rattle.owners.specs.Below.{goal_owner_below}
use Rattle.owners.specs.Typed.{typed_goal}
use Rattle.owners.specs.Everywhere.{if_goal, record_test}
use Rattle.owners.specs.TreeLaw.{record_kind}
use Rattle.tables.specs.Window.{Window, FileTable}
use Rattle.tables.specs.Starts.{window_in, window_here}
use Rattle.regions.specs.Terms.{all_in}
use Rattle.regions.specs.Single.{agrees_here, agrees}

-- what the procedure declares that record i belongs to
abbrev pub signature_at : List ℕ → ℕ → Signature
signature_at f i = signature_of (program f) (owner_of f i)

-- the file passes numbers 1 to 3, and the tables of its windows and owners are right
pub record Given (f table owners : List ℕ) : Type 0 where
  pub formed : Formed f
  pub typed : typing_ok (program f) ≡ true
  pub windows : FileTable f table
  pub owned : (i : ℕ) → i < record_count f → get_or owners i 0 ≡ owner_of f i

-- the record at hand; where it is a goal, own is the window of its procedure
pub record Here (f own : List ℕ) (i : ℕ) : Type 0 where
  pub formed : Formed f
  pub typed : typing_ok (program f) ≡ true
  pub some : 0 < i
  pub below : i < record_count f
  pub window : (g : GoalKind) → kind_of (word f i kind_word) ≡ k_goal g → Window f (signature_at f i) own

-- ---- kinds by their numbers
module _ (f : List ℕ) (i : ℕ) where
  pub construct_kind_law : IsConstruct f i → kind_of (word f i kind_word) ≡ k_goal k_construct
  unfolding kind_of kinds nth
  construct_kind_law k = ap kind_of k

  pub call_kind_law : IsCall f i → kind_of (word f i kind_word) ≡ k_goal k_call
  unfolding kind_of kinds nth
  call_kind_law k = ap kind_of k

-- ---- what number 3 says of it
module _ {f : List ℕ} (F : Formed f) (ok : typing_ok (program f) ≡ true) {i : ℕ} (p : 0 < i) (q : i < record_count f) (g : GoalKind)
    (k : kind_of (word f i kind_word) ≡ k_goal g) where
  pub owner_below : owner_of f i < length (program f).procedures
  owner_below = goal_owner_below F (λ z. omega arith) (kind_goals q g k)

  pub step_typed : {s : Step} → goal_at f i ≡ step s → step_ok (program f) (signature_at f i) s ≡ true
  unfolding goal_ok
  step_typed e = ap (goal_ok (program f) (signature_at f i)) (sym e) ∙ typed_goal F ok i p q g k

-- the window that the pass lends
pub here : {f table owners : List ℕ} → Given f table owners → (i : ℕ) → 0 < i → i < record_count f → {own : List ℕ} → own ≡ window_in table (get_or owners i 0)
    → Here f own i
unfolding signature_of
here {f} {table} {owners} G i p q e = record {
  formed = G.formed;
  typed = G.typed;
  some = p;
  below = q;
  window = λ g k. rw (e, G.owned i q) (window_here G.windows (owner_below G.formed G.typed p q g k)).window;
}

-- ---- the test by the kind
-- the arguments of arms, by a window and the edges of the switch's region
module _ (t : List ℕ) (es : List Edge) where
  unfoldable pub arms_in : Arms → Bool
  arms_in no_arms = true
  arms_in (arm fn ys gs cs) = all_in t es fn 1 (arguments_of ys) & arms_in cs

module _ {f : List ℕ} (i : ℕ) (F : Formed f) where
  pub goal_test : (g : GoalKind) → kind_of (word f i kind_word) ≡ k_goal g → {h : Goal} → goal_at f i ≡ h → {b : Bool}
      → b ≡ agrees_here (program f) (signature_at f i) h → b ≡ record_test (agrees f) f i
  unfolding if_goal agrees
  goal_test g k e m = m ∙ ap (agrees_here (program f) (signature_at f i)) (sym e) ∙ sym (record_kind (agrees f) F i (k_goal g) k)
