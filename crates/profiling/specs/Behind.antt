-- The points that a step in a condition, or one that ends it, leads to (C-20), as the code makes them.
use Rattle.std.specs.Prelude.{ℕ, ◌+◌, ◌<◌, ◌≡◌, refl, List, length, get_or, Result}
use Rattle.std.proofs.Common.{ap, ◌∙◌}
use Rattle.language.specs.File.{word}
use Rattle.language.specs.Format.{try_then, try_else}
use Rattle.records.specs.Records.{record_at}
use Rattle.memory.specs.declared.Heap.{Heap}
use Rattle.memory.specs.Log.{stored, Is, undone, freed}
use Rattle.memory.specs.Moved.{moved}
use Rattle.word_machine.specs.Tables.{Tables, onto}
use Rattle.word_machine.specs.Machine.{settled}
use Rattle.plans.specs.Plan.{tables_in}
use Rattle.machine.specs.declared.State.{State}
use Rattle.machine.specs.declared.ConditionStep.{ConditionStep}
use Rattle.machine.specs.Words.{FramePlaced, words_of, onward_to}
use Rattle.machine.specs.Entries.{Logs}
use Rattle.machine.specs.Trying.{frame_numbers, GoesIn}
use Rattle.profiling.specs.declared.Counts.{Counts}
use Rattle.profiling.specs.declared.Open.{Open}
use Rattle.profiling.specs.declared.Point.{Point}
use Rattle.profiling.specs.Counting.{made_counted, counted}
use Rattle.profiling.specs.Turning.{Settles}
use Rattle.language.specs.declared.Stop.{Stop}
use Rattle.profiling.specs.Moving.{words_at, RunStands, Ready, ReadyIn}

-- the first goals of the parts of the try at record i, or what comes after it
abbrev pub then_goal : List ℕ → Tables → ℕ → ℕ
then_goal f T i = onto (word f i try_then) (T.successor i)

abbrev pub else_goal : List ℕ → Tables → ℕ → ℕ
else_goal f T i = onto (word f i try_else) (T.successor i)

-- the condition goes on at the goal at record i: h is the heap, n entries are logged, c is the counts without what it removed
unfoldable pub opened_to : List ℕ → Point → Heap → ℕ → ℕ → Counts → Point
opened_to f p h i n c = record {
  state = onward_to p.state i;
  heap = h;
  counts = made_counted (record_at f p.state.goal) p.counts;
  done = p.done + 1;
  condition = record { at = p.condition.at; logged = n; left = c; before = p.condition.before };
}

-- one step behind point p the run goes on outside conditions, at the goal at record i, or where frames without goals have gone; fw₁ is the frames' words
-- afterwards
pub record Behind (f : List ℕ) (T : Tables) (p : Point) (i : ℕ) (c : Counts) (fw fw₁ : List ℕ) (q : Point) : Type 0 where
  pub counts : q.counts ≡ c
  pub done : q.done ≡ p.done + 1
  pub shut : q.condition.at ≡ 0
  pub settles : Settles f T (onward_to p.state i) fw q.state fw₁
  pub placed : FramePlaced q.state (length fw₁)

-- the condition's last goal is done: h is the heap, n entries are logged, c is the counts; what was removed goes, and the then part is next
pub record Leaves (f : List ℕ) (T : Tables) (p : Point) (h : Heap) (n : ℕ) (c : Counts) (log m rs fw m₁ rs₁ fw₁ : List ℕ) (q : Point) : Type 0 where
  pub frees : (told : List ℕ) → Logs log told n → Is q.heap m₁ rs₁ (freed told n (stored h m rs))
  pub behind : Behind f T p (then_goal f T p.condition.at) c fw fw₁ q

-- a test fails: what the condition did is undone, the frame's words are put back, and the else part is next
pub record GoesBack (f : List ℕ) (T : Tables) (p : Point) (log own m rs fw m₁ rs₁ fw₁ : List ℕ) (q : Point) : Type 0 where
  pub undoes : (told : List ℕ) → Logs log told p.condition.logged → Is q.heap m₁ rs₁ (undone told p.condition.logged (stored p.heap m rs))
  pub behind : Behind f T p (else_goal f T p.condition.at) p.condition.before (moved 1 (p.state.at + 1) frame_numbers own fw) fw₁ q

-- the step at point p in its condition, from words where it stands: r is the answer, c the counts without what the condition removed; the words with ₁
-- are those afterwards
pub record Took (f : List ℕ) (T : Tables) (l : ℕ) (m rs fw ps log own : List ℕ) (p : Point) (r : Result ConditionStep Stop) (c : Counts) (m₁ rs₁ fw₁ log₁ : List ℕ) : Type 0 where
  pub stands : RunStands f T l m rs fw ps log own p
  pub low : p.done < l
  pub goes : GoesIn f T p.state p.heap p.condition.logged m rs fw log r m₁ rs₁ fw₁ log₁
  pub counts : c ≡ counted (words_at p m rs fw ps) (record_at f p.state.goal) p.condition.left
  pub cells : length m₁ ≡ length m
  pub regions : length rs₁ ≡ length rs
  pub frames : length fw₁ ≡ length fw

-- ---- as many words
pub ready_long : {f : List ℕ} {p : Point} {a b : ℕ} → b ≡ a → Ready f p a → Ready f p b
ready_long e R = rw e R

pub ready_in_long : {f : List ℕ} {p : Point} {a b : ℕ} → b ≡ a → ReadyIn f p a → ReadyIn f p b
ready_in_long e R = rw e R

-- ---- the goals that the code goes on at
module _ (f plan images callees : List ℕ) (i g : ℕ) where
  pub then_as : g ≡ onto (word f i try_then) (get_or plan i 0) → g ≡ then_goal f (tables_in plan images callees) i
  unfolding tables_in
  then_as e = e

  pub else_as : g ≡ onto (word f i try_else) (get_or plan i 0) → g ≡ else_goal f (tables_in plan images callees) i
  unfolding tables_in
  else_as e = e

-- ---- the points that it makes
pub opened_made : (f : List ℕ) (p : Point) (h : Heap) (i n : ℕ) (c : Counts) {s : State} {k : Counts} → s ≡ onward_to p.state i
    → k ≡ made_counted (record_at f p.state.goal) p.counts
    → ◌≡◌ {A = Point} (record {
      state = s;
      heap = h;
      counts = k;
      done = p.done + 1;
      condition = record { at = p.condition.at; logged = n; left = c; before = p.condition.before };
    }) (opened_to f p h i n c)
unfolding opened_to
opened_made f p h i n c e d = rw (e, d)

module _ {f : List ℕ} {T : Tables} {p : Point} {i : ℕ} {c : Counts} {fw fw₁ : List ℕ} where
  pub behind_made : {s u : State} {h : Heap} {d : Open} → s ≡ onward_to p.state i → Settles f T s fw u fw₁ → FramePlaced u (length fw₁) → d.at ≡ 0
      → Behind f T p i c fw fw₁ (record { state = u; heap = h; counts = c; done = p.done + 1; condition = d })
  behind_made e S P z = record {
    counts = refl;
    done = refl;
    shut = z;
    settles = λ h m rs ps. S h m rs ps ∙ ap (λ (x : State). settled f T (words_of h m rs fw ps x)) e;
    placed = P;
  }

  pub behind_as : {q : Point} {g : ℕ} {fx : List ℕ} → g ≡ i → fx ≡ fw → Behind f T p g c fx fw₁ q → Behind f T p i c fw fw₁ q
  behind_as a b D = rw (← a, ← b) D

module _ (f plan images callees : List ℕ) {p q : Point} {log m rs fw m₁ rs₁ fw₁ : List ℕ} {g : ℕ} {h₁ : Heap} (eh : q.heap ≡ h₁) where
  pub leaves_made : {h : Heap} {n : ℕ} {c : Counts} → g ≡ onto (word f p.condition.at try_then) (get_or plan p.condition.at 0)
      → ((told : List ℕ) → Logs log told n → Is h₁ m₁ rs₁ (freed told n (stored h m rs)))
      → Behind f (tables_in plan images callees) p g c fw fw₁ q → Leaves f (tables_in plan images callees) p h n c log m rs fw m₁ rs₁ fw₁ q
  leaves_made e F D = record { frees = λ told L. rw eh (F told L); behind = behind_as (then_as f plan images callees p.condition.at g e) refl D }

  pub back_made : {own fx : List ℕ} → g ≡ onto (word f p.condition.at try_else) (get_or plan p.condition.at 0)
      → ((told : List ℕ) → Logs log told p.condition.logged → Is h₁ m₁ rs₁ (undone told p.condition.logged (stored p.heap m rs)))
      → fx ≡ moved 1 (p.state.at + 1) frame_numbers own fw → Behind f (tables_in plan images callees) p g p.condition.before fx fw₁ q
      → GoesBack f (tables_in plan images callees) p log own m rs fw m₁ rs₁ fw₁ q
  back_made e F a D = record { undoes = λ told L. rw eh (F told L); behind = behind_as (else_as f plan images callees p.condition.at g e) a D }
