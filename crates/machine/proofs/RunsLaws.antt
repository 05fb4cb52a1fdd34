-- Laws of `specs/Runs` that only proofs cite.
use Rattle.std.specs.Prelude.{Result, Ok, Err}
use Prim.Native.Nat.{ℕ, zero, suc, ◌+◌, ◌-◌, ◌≤◌, ◌<◌}
use native.Mathlib.Omega.{arith}
use mathlib.Core.Path.{◌≡◌, refl, sym, ap, ◌∙◌, subst}
use mathlib.Core.List.{List}
use borrow.Author.Tests.{lt-ltb, le-ltb}
use lib.ListN.{length}
use Rattle.language.specs.File.{record_count, kinds, kind_of}
use Rattle.language.specs.Lists.{nth}
use Rattle.language.specs.Machine.{Room, holds, room_in}
use Rattle.language.specs.declared.Stop.{Stop}
use Rattle.language.specs.declared.Stop.TheVariants.{Steps, Frames}
use Rattle.language.specs.declared.Ending.{Ending}
use Rattle.language.specs.declared.Ending.TheVariants.{Finished, Stopped}
use Rattle.records.specs.Records.{record_at, record_as_law}
use Rattle.chains.specs.Formed.{Formed}
use Rattle.memory.specs.declared.Heap.{Heap}
use Rattle.memory.specs.Memory.{cell_words, region_words, empty_heap}
use Rattle.frames.specs.Strays.{past_word}
use Rattle.plans.specs.Plan.{callee_word, callee_body}
use Rattle.word_machine.specs.Tables.{Tables}
use Rattle.word_machine.specs.Machine.{print_words, MachineWords, went, stops, frame_words, Outcome, ended_with, after_step, cleared, blocks, steps, settled_from, settled, settled_if, stepped, run_on, run_from, start_words, no_frame, lent_words, word_run}
use Rattle.machine.specs.declared.State.{State}
use Rattle.machine.specs.declared.TryDone.{TryDone}
use Rattle.machine.specs.declared.TryStopped.{TryStopped}
use Rattle.machine.specs.declared.Step.{Step}
use Rattle.machine.specs.declared.Step.TheVariants.{Went as WentTo}
use Rattle.machine.specs.declared.Outcome.{Outcome as Answer}
use Rattle.machine.specs.Trying.{left_at, lacks_at, Tried}
use Rattle.machine.specs.Words.{FramePlaced, words_of, onward_to, onward_placed, came_to, heap_came_to, Goes, HeapGoes}
use Rattle.machine.specs.Runs.{Ran, ended_at, entry_state, first_state, run_first}

ended_ran : (e : Ending) (n : ℕ) (h : Heap) (m rs fw ps : List ℕ) (s : State) → Ran (ended_with e n (words_of h m rs fw ps s)) (ended_at e n s) m rs fw ps
unfolding ended_with words_of ended_at
ended_ran e n h m rs fw ps s = record { ending = refl; steps = refl; printed = refl; cells = refl; regions = refl; frames = refl; prints = refl }

ran_as : (e : Ending) (n : ℕ) (h : Heap) (m rs fw ps : List ℕ) (s : State) (o : Outcome) (r : Answer) → ended_with e n (words_of h m rs fw ps s) ≡ o → r ≡ ended_at e n s
    → Ran o r m rs fw ps
ran_as e n h m rs fw ps s o r eo er = rw (← eo, er) (ended_ran e n h m rs fw ps s)

pub placed_as : {s : State} {n k : ℕ} → k ≡ n → FramePlaced s n → FramePlaced s k
placed_as e p = rw e p

-- a record that the file does not have is no goal
past_step : (f : List ℕ) (T : Tables) (k : Room) (W : MachineWords) (i : ℕ) → Formed f → record_count f ≤ i → steps f T k i (record_at f i) W ≡ went W
unfolding steps kind_of kinds nth
past_step f T k W i F l = rw (record_as_law f i (ap kind_of (past_word F i 0 l)))

module _ (f : List ℕ) (T : Tables) (k : Room) (W : MachineWords) where
  turned : (v : MachineWords) (n j i : ℕ) → (i ≡ 0 → ⊥) → steps f T k i (record_at f i) W ≡ went v → run_on f T k (suc j) i n W ≡ run_on f T k j (settled f T v).goal (suc n) (settled f T v)
  unfolding run_on stepped settled_if after_step
  turned v n j zero z e = absurd (z refl)
  turned v n j (suc i) z e = rw e

  halted : (c : Stop) (n j i : ℕ) → (i ≡ 0 → ⊥) → steps f T k i (record_at f i) W ≡ stops c → run_on f T k (suc j) i n W ≡ ended_with (Stopped c) n W
  unfolding run_on stepped settled_if after_step
  halted c n j zero z e = absurd (z refl)
  halted c n j (suc i) z e = rw e

  spent : (n i : ℕ) → (i ≡ 0 → ⊥) → run_on f T k 0 i n W ≡ ended_with (Stopped Steps) n W
  unfolding run_on
  spent n zero z = absurd (z refl)
  spent n (suc i) z = refl

  finished : (n j : ℕ) → run_on f T k j 0 n W ≡ ended_with Finished n W
  unfolding run_on
  finished n zero = refl
  finished n (suc j) = refl

-- ---- l steps are lent, n are left; m₀, rs₀, fw₀ and ps₀ are the words at the first step, o is what the run comes to. It has come to state s, before
-- frames without goals go
pub record Going (f : List ℕ) (T : Tables) (l : ℕ) (m₀ rs₀ fw₀ ps₀ : List ℕ) (o : Outcome) (n : ℕ) (h : Heap) (m rs fw ps : List ℕ) (s : State) : Type 0 where
  pub rest : run_on f T (room_in (lent_words m₀ rs₀ fw₀ ps₀ l)) n (settled f T (words_of h m rs fw ps s)).goal (l - n) (settled f T (words_of h m rs fw ps s)) ≡ o
  pub most : n ≤ l
  pub cells : length m ≡ length m₀
  pub regions : length rs ≡ length rs₀
  pub frames : length fw ≡ length fw₀
  pub prints : length ps ≡ length ps₀
  pub placed : FramePlaced s (length fw)

-- .. and after they went
pub record Settled (f : List ℕ) (T : Tables) (l : ℕ) (m₀ rs₀ fw₀ ps₀ : List ℕ) (o : Outcome) (n : ℕ) (h : Heap) (m rs fw ps : List ℕ) (s : State) : Type 0 where
  pub rest : run_on f T (room_in (lent_words m₀ rs₀ fw₀ ps₀ l)) n s.goal (l - n) (words_of h m rs fw ps s) ≡ o
  pub most : n ≤ l
  pub cells : length m ≡ length m₀
  pub regions : length rs ≡ length rs₀
  pub frames : length fw ≡ length fw₀
  pub prints : length ps ≡ length ps₀
  pub placed : FramePlaced s (length fw)

-- ---- the start
some_frame : (n : ℕ) → frame_words ≤ n → 0 < holds n frame_words
unfolding holds
some_frame n q = omega arith

no_frame_law : (n : ℕ) → n < frame_words → holds n frame_words ≤ 0
unfolding holds
no_frame_law n q = omega arith

pub first_state_law : (callees : List ℕ) (g : ℕ) → g ≡ callee_word callees 0 callee_body → entry_state g ≡ first_state callees
unfolding first_state
first_state_law callees g e = rw e

module _ (f : List ℕ) (T : Tables) (l : ℕ) (m rs fw ps : List ℕ) where
  settled_entry : (h : Heap) (fx : List ℕ) (goal : ℕ) → settled f T (words_of h m rs fx ps (entry_state goal)) ≡ words_of h m rs fx ps (entry_state goal)
  unfolding settled settled_from words_of
  settled_entry h fx goal = refl

  first_rest : (h : Heap) (fx : List ℕ) (goal : ℕ)
      → run_on f T (room_in (lent_words m rs fx ps l)) l (settled f T (words_of h m rs fx ps (entry_state goal))).goal (l - l) (settled f T (words_of h m rs fx ps (entry_state goal)))
      ≡ run_first f T l h m rs fx ps (entry_state goal)
  unfolding run_first words_of
  first_rest h fx goal = let o : l - l ≡ 0 = omega arith in rw (o, settled_entry h fx goal)

  going_first : (h : Heap) (fx : List ℕ) (goal : ℕ) → frame_words ≤ length fx → Going f T l m rs fx ps (run_first f T l h m rs fx ps (entry_state goal)) l h m rs fx ps (entry_state goal)
  going_first h fx goal q = record { rest = first_rest h fx goal; most = omega arith; cells = refl; regions = refl; frames = refl; prints = refl; placed = record { place = omega arith; fits = omega arith } }

  pub first : (h : Heap) (callees : List ℕ) (s : State) → s ≡ first_state callees → frame_words ≤ length fw → Going f T l m rs fw ps (run_first f T l h m rs fw ps s) l h m rs fw ps s
  unfolding first_state
  first h callees s e q = rw e (going_first h fw (callee_word callees 0 callee_body) q)

  pub first_as : (h g : Heap) (s u : State) (r : Answer) (m₁ rs₁ fw₁ ps₁ : List ℕ) → h ≡ g → s ≡ u → Ran (run_first f T l h m rs fw ps s) r m₁ rs₁ fw₁ ps₁
      → Ran (run_first f T l g m rs fw ps u) r m₁ rs₁ fw₁ ps₁
  first_as h g s u r m₁ rs₁ fw₁ ps₁ eh es R = rw (← eh, ← es) R

  -- the words of the entry's frame are cleared; there is room for it
  started : (size goal : ℕ) (h : Heap) (fx : List ℕ) → goal ≡ T.body 0 → size ≡ T.size 0 → fx ≡ cleared 1 (blocks size) fw → h ≡ empty_heap (holds (length m) cell_words) (holds (length rs) region_words)
      → length fx ≡ length fw → 0 < holds (length fw) frame_words → run_first f T l h m rs fx ps (entry_state goal) ≡ word_run f T m rs fw ps l
  unfolding run_first word_run run_from start_words room_in lent_words words_of
  started size goal h fx eg es ef eh e q = rw (lt-ltb 0 (holds (length fw) frame_words) q, e, ef, es, eh, eg)

  pub from_start : (callees : List ℕ) (size : ℕ) (fx m₁ rs₁ fw₁ ps₁ : List ℕ) (r : Answer) → frame_words ≤ length fw
      → callee_word callees 0 callee_body ≡ T.body 0 → size ≡ T.size 0 → fx ≡ cleared 1 (blocks size) fw → length fx ≡ length fw
      → Ran (run_first f T l (empty_heap (holds (length m) cell_words) (holds (length rs) region_words)) m rs fx ps (first_state callees)) r m₁ rs₁ fw₁ ps₁ → Ran (word_run f T m rs fw ps l) r m₁ rs₁ fw₁ ps₁
  unfolding first_state
  from_start callees size fx m₁ rs₁ fw₁ ps₁ r q eg es ef e R = rw (← started size (callee_word callees 0 callee_body) _ fx eg es ef refl e (some_frame (length fw) q)) R

  none : holds (length fw) frame_words ≤ 0 → ended_with (Stopped Frames) 0 (no_frame f T m rs fw ps) ≡ word_run f T m rs fw ps l
  unfolding word_run run_from room_in lent_words
  none q = rw (le-ltb 0 (holds (length fw) frame_words) q)

  none_ran : (goal : ℕ) → Ran (ended_with (Stopped Frames) 0 (no_frame f T m rs fw ps)) (ended_at (Stopped Frames) 0 (entry_state goal)) m rs fw ps
  unfolding ended_with no_frame ended_at
  none_ran goal = record { ending = refl; steps = refl; printed = refl; cells = refl; regions = refl; frames = refl; prints = refl }

  pub frameless : (callees : List ℕ) (s : State) (r : Answer) → length fw < frame_words → s ≡ first_state callees → r ≡ ended_at (Stopped Frames) 0 s
      → Ran (word_run f T m rs fw ps l) r m rs fw ps
  unfolding first_state
  frameless callees s r q es er = rw (← none (no_frame_law (length fw) q), er, es) (none_ran (callee_word callees 0 callee_body))

module _ (f : List ℕ) (T : Tables) (l : ℕ) (m₀ rs₀ fw₀ ps₀ : List ℕ) (o : Outcome) where
  abbrev K : Room
  K = room_in (lent_words m₀ rs₀ fw₀ ps₀ l)

  arrived : (n : ℕ) (W U : MachineWords) → U ≡ settled f T W → run_on f T K n (settled f T W).goal (l - n) (settled f T W) ≡ o → run_on f T K n U.goal (l - n) U ≡ o
  arrived n W U e g = rw e g

  pub arrives : (n : ℕ) (h : Heap) (m rs fw fy ps : List ℕ) (s u : State) → Going f T l m₀ rs₀ fw₀ ps₀ o n h m rs fw ps s
      → ((h : Heap) (m rs ps : List ℕ) → words_of h m rs fy ps u ≡ settled f T (words_of h m rs fw ps s)) → FramePlaced u (length fy) → length fy ≡ length fw
      → Settled f T l m₀ rs₀ fw₀ ps₀ o n h m rs fy ps u
  unfolding words_of
  arrives n h m rs fw fy ps s u G e d lf = record {
    rest = arrived n (words_of h m rs fw ps s) (words_of h m rs fy ps u) (e h m rs ps) G.rest;
    most = G.most;
    cells = G.cells;
    regions = G.regions;
    frames = lf ∙ G.frames;
    prints = G.prints;
    placed = d;
  }

  -- ---- one turn
  module _ (n : ℕ) (h : Heap) (m rs fw ps : List ℕ) (s : State) (G : Settled f T l m₀ rs₀ fw₀ ps₀ o n h m rs fw ps s) where
    abbrev W : MachineWords
    W = words_of h m rs fw ps s

    on : (X : MachineWords) → (s.goal ≡ 0 → ⊥) → 0 < n → steps f T K s.goal (record_at f s.goal) W ≡ went X
        → run_on f T K (n - 1) (settled f T X).goal (l - (n - 1)) (settled f T X) ≡ o
    on X z q es =
        let a : suc (n - 1) ≡ n = omega arith in
        let b : l - (n - 1) ≡ suc (l - n) = omega (arith, G.most) in
        rw b (sym (turned f T K W X (l - n) (n - 1) s.goal z es) ∙ ap (λ j. run_on f T K j s.goal (l - n) W) a ∙ G.rest)

    -- a goal that leaves the heap alone
    room_frames : K.frames ≡ holds (length fw) frame_words
    unfolding room_in lent_words
    room_frames = rw G.frames

    room_prints : K.prints ≡ holds (length ps) print_words
    unfolding room_in lent_words
    room_prints = rw G.prints

    pub went_on_law : (fx px : List ℕ) (v : State) (r : Result Step Stop) → (s.goal ≡ 0 → ⊥) → 0 < n → Goes f T s m fw ps r fx px → r ≡ Ok (WentTo v)
        → length fx ≡ length fw → length px ≡ length ps → Going f T l m₀ rs₀ fw₀ ps₀ o (n - 1) h m rs fx px v
    unfolding came_to
    went_on_law fx px v r z q g er lf lp = record {
      rest = on (words_of h m rs fx px v) z q (sym (g.comes K h rs room_frames room_prints) ∙ ap (λ t. came_to t h m rs fx px) er);
      most = omega (arith, G.most);
      cells = G.cells;
      regions = G.regions;
      frames = lf ∙ G.frames;
      prints = lp ∙ G.prints;
      placed = subst (FramePlaced v) (sym lf) (g.stays v er);
    }

    -- a goal that changes it
    pub changed_on : (h₁ : Heap) (m₁ rs₁ fx : List ℕ) (next : ℕ) (v : State) (r : Result Heap Stop) → (s.goal ≡ 0 → ⊥) → 0 < n → HeapGoes f T s h m rs fw r m₁ rs₁ fx → r ≡ Ok h₁
        → next ≡ T.successor s.goal → v ≡ onward_to s next → length m₁ ≡ length m → length rs₁ ≡ length rs → length fx ≡ length fw
        → Going f T l m₀ rs₀ fw₀ ps₀ o (n - 1) h₁ m₁ rs₁ fx ps v
    unfolding heap_came_to
    changed_on h₁ m₁ rs₁ fx next v r z q g er en ev lm lr lf = record {
      rest = on (words_of h₁ m₁ rs₁ fx ps v) z q
          (sym (g.comes K ps next en) ∙ ap (λ t. heap_came_to t m₁ rs₁ fx ps (onward_to s next)) er ∙ ap (λ t. went (words_of h₁ m₁ rs₁ fx ps t)) (sym ev));
      most = omega (arith, G.most);
      cells = lm ∙ G.cells;
      regions = lr ∙ G.regions;
      frames = lf ∙ G.frames;
      prints = G.prints;
      placed = subst (FramePlaced v) (sym lf) (rw ev (onward_placed next G.placed));
    }

    -- no goal
    pub past_on : Formed f → (s.goal ≡ 0 → ⊥) → 0 < n → record_count f ≤ s.goal → Going f T l m₀ rs₀ fw₀ ps₀ o (n - 1) h m rs fw ps s
    past_on F z q p =
        record { rest = on W z q (past_step f T K W s.goal F p); most = omega (arith, G.most); cells = G.cells; regions = G.regions; frames = G.frames; prints = G.prints; placed = G.placed }

    -- ---- the end
    pub run_finished : (r : Answer) → s.goal ≡ 0 → r ≡ ended_at Finished (l - n) s → Ran o r m rs fw ps
    run_finished r z er =
        ran_as Finished (l - n) h m rs fw ps s o r (sym (finished f T K W (l - n) n) ∙ ap (λ i. run_on f T K n i (l - n) W) (sym z) ∙ G.rest) er

    pub run_spent : (r : Answer) → (s.goal ≡ 0 → ⊥) → n ≡ 0 → r ≡ ended_at (Stopped Steps) (l - n) s → Ran o r m rs fw ps
    run_spent r z q er =
        ran_as (Stopped Steps) (l - n) h m rs fw ps s o r (sym (spent f T K W (l - n) s.goal z) ∙ ap (λ j. run_on f T K j s.goal (l - n) W) (sym q) ∙ G.rest) er

    stopped : (c : Stop) (r : Answer) → (s.goal ≡ 0 → ⊥) → 0 < n → steps f T K s.goal (record_at f s.goal) W ≡ stops c → r ≡ ended_at (Stopped c) (l - n) s → Ran o r m rs fw ps
    stopped c r z q es er =
        let a : suc (n - 1) ≡ n = omega arith in
        ran_as (Stopped c) (l - n) h m rs fw ps s o r (sym (halted f T K W c (l - n) (n - 1) s.goal z es) ∙ ap (λ j. run_on f T K j s.goal (l - n) W) a ∙ G.rest) er

    pub went_stopped : (fx px : List ℕ) (c : Stop) (a : Result Step Stop) (r : Answer) → (s.goal ≡ 0 → ⊥) → 0 < n → Goes f T s m fw ps a fx px → a ≡ Err c → r ≡ ended_at (Stopped c) (l - n) s
        → Ran o r m rs fx px
    unfolding came_to
    went_stopped fx px c a r z q g ea er =
        let e = g.kept c ea in
        rw (e.0, e.1) (stopped c r z q (sym (g.comes K h rs room_frames room_prints) ∙ ap (λ t. came_to t h m rs fx px) ea) er)

    pub change_stopped : (m₁ rs₁ fx : List ℕ) (c : Stop) (a : Result Heap Stop) (r : Answer) → (s.goal ≡ 0 → ⊥) → 0 < n → HeapGoes f T s h m rs fw a m₁ rs₁ fx → a ≡ Err c
        → r ≡ ended_at (Stopped c) (l - n) s → Ran o r m₁ rs₁ fx ps
    unfolding heap_came_to
    change_stopped m₁ rs₁ fx c a r z q g ea er =
        let e = g.kept c ea in
        rw (e.0, e.1, e.2) (stopped c r z q (sym (g.comes K ps (T.successor s.goal) refl) ∙ ap (λ t. heap_came_to t m₁ rs₁ fx ps (onward_to s (T.successor s.goal))) ea) er)

    -- ---- a try
    done_so : (k : ℕ) → k < n → (l - n) + (n - k) ≡ l - k
    done_so k q = omega (arith, G.most)

    -- telling it changes nothing
    pub told : (fx px : List ℕ) → fx ≡ fw → px ≡ ps → Settled f T l m₀ rs₀ fw₀ ps₀ o n h m rs fx px s
    told fx px e d = rw (e, d) G

    pub tried_on : (h₁ h₂ : Heap) (m₁ rs₁ fx : List ℕ) (i k : ℕ) (v : State) (r : Result TryDone TryStopped) → Tried f T s h n m rs fw r m₁ rs₁ fx → r ≡ left_at h₁ i k → v ≡ onward_to s i
        → (h₁.cells.limit ≡ h.cells.limit → h₁.regions.limit ≡ h.regions.limit → h₂ ≡ h₁) → length m₁ ≡ length m → length rs₁ ≡ length rs → length fx ≡ length fw
        → Going f T l m₀ rs₀ fw₀ ps₀ o k h₂ m₁ rs₁ fx ps v
    tried_on h₁ h₂ m₁ rs₁ fx i k v r t er ev eh lm lr lf =
        let q = t.fewer h₁ i k er in
        record {
          rest = rw (eh q.1.0 q.1.1, ev, ← done_so k q.0) (sym (t.left h₁ i k er K (l - n) ps) ∙ G.rest);
          most = omega (arith, G.most, q.0);
          cells = lm ∙ G.cells;
          regions = lr ∙ G.regions;
          frames = lf ∙ G.frames;
          prints = G.prints;
          placed = rw ev (onward_placed i (subst (FramePlaced s) (sym lf) G.placed));
        }

    pub tried_stopped : (m₁ rs₁ fx : List ℕ) (c : Stop) (k : ℕ) (r : Result TryDone TryStopped) (a : Answer) → Tried f T s h n m rs fw r m₁ rs₁ fx → r ≡ lacks_at c k
        → a ≡ ended_at (Stopped c) (l - k) s → Ran o a m₁ rs₁ fx ps
    unfolding ended_at
    tried_stopped m₁ rs₁ fx c k r a t er ea =
        let x = t.lacks c k er K (l - n) ps in
        ran_as (Stopped c) (l - k) x.0 m₁ rs₁ fx ps (onward_to s x.1) o a
        (ap (λ d. ended_with (Stopped c) d (words_of x.0 m₁ rs₁ fx ps (onward_to s x.1))) (sym (done_so k (t.most c k er))) ∙ sym x.2 ∙ G.rest) ea
