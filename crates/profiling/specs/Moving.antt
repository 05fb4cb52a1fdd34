-- A step from where a run stands.
use Rattle.std.specs.Prelude.{ℕ, suc, ◌+◌, ◌≤◌, ◌<◌, List, length, get_or}
use Rattle.std.proofs.Common.{arith, ◌∙◌, ControlFlow, Continue, Break}
use Rattle.std.proofs.Math.Path.{◌≡◌, refl, sym, ap}
use Rattle.language.specs.declared.Stop.{Stop}
use Rattle.language.specs.declared.Ending.{Ending}
use Rattle.language.specs.File.{word, record_count}
use Rattle.language.specs.Format.{try_then, try_else}
use Rattle.language.specs.AcceptedRun as Run
use Rattle.language.specs.Machine.{Lent}
use Rattle.language.specs.Machine as D
use Rattle.language.specs.Answers.{program}
use Rattle.chains.specs.Formed.{Formed}
use Rattle.word_machine.specs.Tables.{Tables, onto}
use Rattle.word_machine.specs.Machine.{regions_end, MachineWords, ConditionWords, Went, went, opens, stops, settled, settled_if, lent_words}
use Rattle.word_machine.specs.Returns.{some_goal}
use Rattle.machine.specs.Words.{FramePlaced, words_of}
use Rattle.machine.specs.Entries.{log_words}
use Rattle.machine.specs.Trying.{count_end, Inside}
use Rattle.profiling.specs.declared.Counts.{Counts}
use Rattle.profiling.specs.declared.Point.{Point}
use Rattle.profiling.specs.Tallying.{Tally, alike}
use Rattle.profiling.specs.Standing.{Stand, outside, inside, words_in, StandsAfter, at_as, goal_low}
use Rattle.profiling.specs.Beginning.{Few, few_held}

-- the words of point p; m, rs, fw and ps are the lent words
abbrev pub words_at : Point → List ℕ → List ℕ → List ℕ → List ℕ → MachineWords
words_at p m rs fw ps = words_of p.heap m rs fw ps p.state

-- the condition that is open at point p, if any, is that of the words: `log` and `own` are the log and the frame's words as the code keeps them
pub record OpenAt (f : List ℕ) (T : Tables) (m rs fw ps log own : List ℕ) (p : Point) (v : ConditionWords) : Type 0 where
  pub some : p.condition.at ≡ 0 → ⊥
  pub low : p.condition.at < record_count f
  pub kept : Inside log p.heap m rs fw ps p.state p.condition.logged v
  pub fewer : p.condition.logged ≤ p.done
  pub then_part : v.then' ≡ onto (word f p.condition.at try_then) (T.successor p.condition.at)
  pub else_part : v.else' ≡ onto (word f p.condition.at try_else) (T.successor p.condition.at)
  pub saved : (i : ℕ) → i < regions_end → get_or own (1 + i) 0 ≡ get_or v.own (1 + i) 0

pub data Opens (f : List ℕ) (T : Tables) (m rs fw ps log own : List ℕ) (p : Point) : Stand → Tally → Type 0 where
  none_open : {w : MachineWords} {c : Counts} → p.condition.at ≡ 0 → Opens f T m rs fw ps log own p (outside w) (alike c)
  one_open : {v : ConditionWords} {c : Counts} → OpenAt f T m rs fw ps log own p v
      → Opens f T m rs fw ps log own p (inside v) (record { held = c; left = p.condition.left; before = p.condition.before })

-- point p and the lent words are what stands there after as many steps as p says, l steps being lent
pub record RunStands (f : List ℕ) (T : Tables) (l : ℕ) (m rs fw ps log own : List ℕ) (p : Point) : Type 0 where
  pub stand : Stand
  pub tally : Tally
  pub here : StandsAfter f T (lent_words m rs fw ps l) p.done stand tally
  pub words : words_in stand ≡ words_at p m rs fw ps
  pub held : tally.held ≡ p.counts
  pub condition : Opens f T m rs fw ps log own p stand tally
  pub placed : FramePlaced p.state (length fw)
  pub long : length log ≡ log_words

-- the run of f in the lent memory ends so after n steps
pub record EndsAfter (f : List ℕ) (lent : Lent) (e : Ending) (n : ℕ) : Type 0 where
  pub is : D.run (program f) lent ≡ D.ended_with e n (Run.steps (program f) n)

-- point q stands one step behind point p
pub record StepOnward (f : List ℕ) (T : Tables) (l : ℕ) (p : Point) (m rs fw ps log own : List ℕ) (q : Point) : Type 0 where
  pub next : q.done ≡ suc p.done
  pub low : p.done < l
  pub busy : p.state.goal ≡ 0 → ⊥
  pub stands : RunStands f T l m rs fw ps log own q

-- from point p a step leads to another, or the run ends there; the words with ₁ are those afterwards
pub data Moves (f : List ℕ) (T : Tables) (l : ℕ) (m rs fw ps : List ℕ) (p : Point) (m₁ rs₁ fw₁ ps₁ log₁ own₁ : List ℕ) : ControlFlow Ending Point → Type 0 where
  moves_to : {q : Point} → StepOnward f T l p m₁ rs₁ fw₁ ps₁ log₁ own₁ q → Moves f T l m rs fw ps p m₁ rs₁ fw₁ ps₁ log₁ own₁ (Continue q)
  ends : {e : Ending} → EndsAfter f (lent_words m rs fw ps l) e p.done → Moves f T l m rs fw ps p m₁ rs₁ fw₁ ps₁ log₁ own₁ (Break e)

module _ {f : List ℕ} {T : Tables} {l : ℕ} {m rs fw ps : List ℕ} {p : Point} {m₁ rs₁ fw₁ ps₁ log₁ own₁ : List ℕ} where
  pub moved_on : {r : ControlFlow Ending Point} {q : Point} → Moves f T l m rs fw ps p m₁ rs₁ fw₁ ps₁ log₁ own₁ r → r ≡ Continue q → StepOnward f T l p m₁ rs₁ fw₁ ps₁ log₁ own₁ q
  moved_on {q = q} (moves_to {q = x} o) z = let a : x ≡ q = cc in rw a at o
  moved_on (ends e) z = let x : ◌≡◌ {A = ℕ} 0 1 = cc in absurd (omega arith)

  pub moved_ended : {r : ControlFlow Ending Point} {e : Ending} → Moves f T l m rs fw ps p m₁ rs₁ fw₁ ps₁ log₁ own₁ r → r ≡ Break e → EndsAfter f (lent_words m rs fw ps l) e p.done
  moved_ended (moves_to o) z = let x : ◌≡◌ {A = ℕ} 0 1 = cc in absurd (omega arith)
  moved_ended {e = e} (ends {e = d} k) z = let a : d ≡ e = cc in rw a at k

-- ---- as much is lent as words stand there
pub lent_same : (m m₁ rs rs₁ fw fw₁ ps ps₁ : List ℕ) (l : ℕ) → length m₁ ≡ length m → length rs₁ ≡ length rs → length fw₁ ≡ length fw → length ps₁ ≡ length ps
    → lent_words m rs fw ps l ≡ lent_words m₁ rs₁ fw₁ ps₁ l
unfolding lent_words
lent_same m m₁ rs rs₁ fw fw₁ ps ps₁ l a b c d = rw (a, b, c, d)

-- ---- a step as it is before frames go
module _ (f : List ℕ) (T : Tables) where
  pub before_went : (x : Went) (w : MachineWords) → went w ≡ settled_if f T x → (v : MachineWords) × (x ≡ went v) × (w ≡ settled f T v)
  unfolding settled_if
  before_went (went v) w e = (v, refl, cc)
  before_went (opens v) w e = let z : ◌≡◌ {A = ℕ} 0 1 = cc in absurd (omega arith)
  before_went (stops c) w e = let z : ◌≡◌ {A = ℕ} 0 1 = cc in absurd (omega arith)

  pub before_stops : (x : Went) (c : Stop) → stops c ≡ settled_if f T x → x ≡ stops c
  unfolding settled_if
  before_stops (went v) c e = let z : ◌≡◌ {A = ℕ} 0 1 = cc in absurd (omega arith)
  before_stops (opens v) c e = let z : ◌≡◌ {A = ℕ} 0 1 = cc in absurd (omega arith)
  before_stops (stops d) c e = sym e

-- ---- what point p stands for, outside conditions and in an open one
module _ {f : List ℕ} {T : Tables} {l : ℕ} {m rs fw ps log own : List ℕ} {p : Point} (H : RunStands f T l m rs fw ps log own p) where
  pub file_formed : Formed f
  file_formed = H.here.formed

  pub stands_outside : p.condition.at ≡ 0 → StandsAfter f T (lent_words m rs fw ps l) p.done (outside (words_at p m rs fw ps)) (alike p.counts)
  unfolding words_in
  stands_outside z = go H.condition H.here H.words H.held
    where
      go : {w : Stand} {t : Tally} → Opens f T m rs fw ps log own p w t → StandsAfter f T (lent_words m rs fw ps l) p.done w t → words_in w ≡ words_at p m rs fw ps → t.held ≡ p.counts
          → StandsAfter f T (lent_words m rs fw ps l) p.done (outside (words_at p m rs fw ps)) (alike p.counts)
      go (none_open y) S e h = at_as refl refl (ap (λ x. outside x) e) (ap (λ k. alike k) h) S
      go (one_open O) S e h = absurd (O.some z)

  abbrev Within : Type 0
  Within =
      (v : ConditionWords) × OpenAt f T m rs fw ps log own p v
      × StandsAfter f T (lent_words m rs fw ps l) p.done (inside v) (record { held = p.counts; left = p.condition.left; before = p.condition.before })

  pub stands_inside : (p.condition.at ≡ 0 → ⊥) → Within
  stands_inside z = go H.condition H.here H.held
    where
      go : {w : Stand} {t : Tally} → Opens f T m rs fw ps log own p w t → StandsAfter f T (lent_words m rs fw ps l) p.done w t → t.held ≡ p.counts → Within
      go (none_open y) S h = absurd (z y)
      go (one_open {v = v} O) S h = (v, O, at_as refl refl refl (ap (λ k. record { held = k; left = p.condition.left; before = p.condition.before }) h) S)

  goal_is_there : (words_in H.stand).goal ≡ p.state.goal
  unfolding words_of
  goal_is_there = ap (λ w. w.goal) H.words

  pub goal_within : (p.state.goal ≡ 0 → ⊥) → p.state.goal < record_count f
  goal_within z = let s = some_goal p.state.goal z in rw s.1 (goal_low H.here s.0 (goal_is_there ∙ s.1))

  pub few_counts : Few p.counts
  few_counts = rw (← H.held) (few_held H.here).0

-- ---- a step can be tried: there is a next goal, and counts and steps can be one more
pub record Ready (f : List ℕ) (p : Point) (n : ℕ) : Type 0 where
  pub busy : p.state.goal ≡ 0 → ⊥
  pub low : p.state.goal < record_count f
  pub placed : FramePlaced p.state n
  pub few : Few p.counts
  pub more : p.done < count_end

-- .. in an open condition
pub record ReadyIn (f : List ℕ) (p : Point) (n : ℕ) : Type 0 where
  pub ready : Ready f p n
  pub some : p.condition.at ≡ 0 → ⊥
  pub try_low : p.condition.at < record_count f
  pub few_left : Few p.condition.left
  pub more_logged : p.condition.logged < count_end

module _ {f : List ℕ} {T : Tables} {l : ℕ} {m rs fw ps log own : List ℕ} {p : Point} (H : RunStands f T l m rs fw ps log own p) where
  pub is_ready : (p.state.goal ≡ 0 → ⊥) → p.done < l → l ≤ count_end → Ready f p (length fw)
  is_ready z q h = record { busy = z; low = goal_within H z; placed = H.placed; few = few_counts H; more = omega (arith, q, h) }

  pub ready_inside : (p.state.goal ≡ 0 → ⊥) → p.done < l → l ≤ count_end → (p.condition.at ≡ 0 → ⊥) → ReadyIn f p (length fw)
  ready_inside z q h y =
      let W = stands_inside H y in
      record {
        ready = is_ready z q h;
        some = y;
        try_low = W.1.low;
        few_left = (few_held W.2).1;
        more_logged = omega (arith, q, h, W.1.fewer);
      }
