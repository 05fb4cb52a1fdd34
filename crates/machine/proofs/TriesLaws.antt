-- A condition from its try to where the run goes on outside it: what is done so far and the steps still to come make the whole.
use Rattle.std.specs.Prelude.{Result, Ok, Err}
use Prim.Native.Nat.{ℕ, zero, suc, ◌+◌, ◌-◌, ◌*◌, ◌≤◌, ◌<◌}
use native.Mathlib.Omega.{arith}
use mathlib.Core.Path.{◌≡◌, refl, sym, ap, ◌∙◌, subst}
use mathlib.Core.List.{List, []}
use lib.ListN.{length, get_or, replicate, length-replicate}
use Rattle.language.specs.Lists.{nth}
use Rattle.language.specs.File.{k_goal, k_try, kinds, kind_of, word, record_count}
use Rattle.language.specs.Format.{kind_word, next_word, try_kind, try_condition, try_then, try_else}
use Rattle.language.specs.Machine.{Room}
use Rattle.language.specs.declared.Stop.{Stop}
use Rattle.language.specs.declared.Stop.TheVariants.{Steps}
use Rattle.language.specs.declared.Ending.TheVariants.{Stopped}
use Rattle.records.specs.Records.{record_at, record_as_law}
use Rattle.records.specs.declared.Record.TheVariants.{Try}
use Rattle.chains.specs.Formed.{Formed}
use Rattle.memory.specs.declared.Heap.{Heap}
use Rattle.memory.specs.Log.{stored, Is, undone, freed}
use Rattle.memory.specs.Moved.{moved, moved_here}
use Rattle.frames.specs.Strays.{past_word}
use Rattle.plans.specs.Plan.{tables_in}
use Rattle.word_machine.specs.Tables.{Tables, onto}
use Rattle.word_machine.specs.Machine.{frame_words, regions_end, MachineWords, ConditionWords, Outcome, went, opens, stops, stored_in, with_stored, with_frames, saved_frame, put_back, tries, fails, leaves, enters, enters_at, after_step, settled, settled_if, steps, stepped, steps_in, stepped_in, run_on, run_in, ended_with}
use Rattle.machine.specs.declared.State.{State}
use Rattle.machine.specs.declared.TryDone.{TryDone}
use Rattle.machine.specs.declared.TryStopped.{TryStopped}
use Rattle.machine.specs.declared.ConditionStep.{ConditionStep}
use Rattle.machine.specs.declared.ConditionStep.TheVariants.{On, Fails}
use Rattle.machine.specs.Words.{FramePlaced, words_of, onward_to, onward_placed}
use Rattle.machine.specs.Steps.{of_kind}
use Rattle.machine.specs.Entries.{log_words, Logs, logs_none}
use Rattle.machine.specs.Trying.{left_at, lacks_at, frame_numbers, saved_words, count_end, Inside, SameLimits, GoesIn, Tried}
use Rattle.machine.proofs.LimitsLaws.{undone_limits, freed_limits}

-- ---- words moved from lists that agree
moved_same : (p q r n : ℕ) (a b to : List ℕ) → ((i : ℕ) → i < n → get_or a (p + i) 0 ≡ get_or b (q + i) 0) → moved p r n a to ≡ moved q r n b to
unfolding moved
moved_same p q r zero a b to e = refl
moved_same p q r (suc n) a b to e = rw (e n (omega arith)) (moved_same p q r n a b _ (λ i l. e i (omega arith)))

-- the frame's words stand from place p of `own` on, and from place 1 of `told`
abbrev Saved : ℕ → List ℕ → List ℕ → Type 0
Saved p own told = (i : ℕ) → i < frame_numbers → get_or own (p + i) 0 ≡ get_or told (1 + i) 0

pub saved_first : (at k p : ℕ) (fw own₀ own : List ℕ) → at ≡ frame_words * k → p ≤ 1 → length own₀ ≡ saved_words → own ≡ moved (at + 1) p frame_numbers fw own₀
    → Saved p own (saved_frame k fw (replicate (suc regions_end) 0))
unfolding saved_frame
saved_first at k p fw own₀ own ea lp lo eo i l =
    rw eo
    (moved_here (at + 1) p frame_numbers fw own₀ i l (omega (arith, lo)) ∙ ap (λ x. get_or fw x 0) (omega (arith, ea))
    ∙ sym (moved_here (frame_words * k + 1) 1 regions_end fw (replicate (suc regions_end) 0) i l (omega (arith, length-replicate {A = ℕ} (suc regions_end) 0))))

pub put_back_law : (at k p : ℕ) (fw own told : List ℕ) → at ≡ frame_words * k → Saved p own told → moved p (at + 1) frame_numbers own fw ≡ put_back k told fw
unfolding put_back
put_back_law at k p fw own told ea S = rw ea (moved_same p 1 (frame_words * k + 1) frame_numbers own told fw S)

-- ---- answers told apart
-- what a nested pattern matched
pub step_is : {A : Type 0} (r : Result A Stop) (x y : A) → r ≡ Ok x → x ≡ y → r ≡ Ok y
step_is r x y e d = rw (← d) e

unfoldable sort_of : Result TryDone TryStopped → ℕ
sort_of (Ok d) = 0
sort_of (Err d) = 1

left_not : {h : Heap} {i k j : ℕ} {c : Stop} → left_at h i k ≡ lacks_at c j → ⊥
unfolding sort_of
left_not e = let z : ◌≡◌ {A = ℕ} 0 1 = ap sort_of e in omega arith

same_left : {h g : Heap} {i j k n : ℕ} → left_at h i k ≡ left_at g j n → (h ≡ g) × (i ≡ j) × (k ≡ n)
same_left {h} {g} {i} {j} {k} {n} e =
    let d : ◌≡◌ {A = TryDone} (record { heap = h; goal = i; left = k }) (record { heap = g; goal = j; left = n }) = cc in
    (ap (λ (t : TryDone). t.heap) d, ap (λ (t : TryDone). t.goal) d, ap (λ (t : TryDone). t.left) d)

same_lacks : {c d : Stop} {k n : ℕ} → lacks_at c k ≡ lacks_at d n → (c ≡ d) × (k ≡ n)
same_lacks {c} {d} {k} {n} e =
    let x : ◌≡◌ {A = TryStopped} (record { stop = c; left = k }) (record { stop = d; left = n }) = cc in
    (ap (λ (t : TryStopped). t.stop) x, ap (λ (t : TryStopped). t.left) x)

module _ (f : List ℕ) (T : Tables) (K : Room) where
  -- what a condition comes to from c on, j steps being left and n done; g is its next goal
  unfoldable pub entered : ℕ → ℕ → ℕ → ConditionWords → Outcome
  entered j n zero c = run_on f T K j (settled f T (leaves c)).goal n (settled f T (leaves c))
  entered j n (suc g) c = run_in f T K j n c

  enter_at : (g j n : ℕ) (c : ConditionWords) (x : Stop → Outcome)
      → after_step (settled_if f T (enters_at g c)) (λ v. run_on f T K j v.goal n v) (λ d. run_in f T K j n d) x ≡ entered j n g c
  unfolding enters_at settled_if after_step entered
  enter_at zero j n c x = refl
  enter_at (suc g) j n c x = refl

  -- ---- the try itself
  try_at : (l n : ℕ) (W : MachineWords) (i m a b q : ℕ) → 0 < l → (i ≡ 0 → ⊥) → record_at f i ≡ Try m q a b
      → run_on f T K l i n W ≡ entered (l - 1) (suc n) q (tries W q (onto a (T.successor i)) (onto b (T.successor i)))
  unfolding run_on stepped steps enters tries with_frames
  try_at zero n W i m a b q z y e = absurd (omega arith)
  try_at (suc l) n W zero m a b q z y e = absurd (y refl)
  try_at (suc l) n W (suc i) m a b q z y e = let o : suc l - 1 ≡ l = omega arith in rw (e, o) (enter_at q l (suc n) _ _)

  module _ (c : ConditionWords) (j n : ℕ) where
    -- ---- a step on
    step_on : (d : ConditionWords) → steps_in f T c.words.goal (record_at f c.words.goal) c ≡ enters d → run_in f T K (suc j) n c ≡ entered j (suc n) d.words.goal d
    unfolding run_in stepped_in enters
    step_on d e = rw e (enter_at d.words.goal j (suc n) d _)

    step_fails : (v : MachineWords) → steps_in f T c.words.goal (record_at f c.words.goal) c ≡ went v
        → run_in f T K (suc j) n c ≡ run_on f T K j (settled f T v).goal (suc n) (settled f T v)
    unfolding run_in stepped_in settled_if after_step
    step_fails v e = rw e

    step_stops : (q : Stop) → steps_in f T c.words.goal (record_at f c.words.goal) c ≡ stops q → run_in f T K (suc j) n c ≡ ended_with (Stopped q) n c.words
    unfolding run_in stepped_in settled_if after_step
    step_stops q e = rw e

    step_past : steps_in f T c.words.goal (record_at f c.words.goal) c ≡ opens c → run_in f T K (suc j) n c ≡ run_in f T K j (suc n) c
    unfolding run_in stepped_in settled_if after_step
    step_past e = rw e

    spent_in : run_in f T K 0 n c ≡ ended_with (Stopped Steps) n c.words
    unfolding run_in
    spent_in = refl

  entered_some : (g j n : ℕ) (c : ConditionWords) → (g ≡ 0 → ⊥) → entered j n g c ≡ run_in f T K j n c
  unfolding entered
  entered_some zero j n c z = absurd (z refl)
  entered_some (suc g) j n c z = refl

  entered_none : (g j n : ℕ) (c : ConditionWords) → g ≡ 0 → entered j n g c ≡ run_on f T K j (settled f T (leaves c)).goal n (settled f T (leaves c))
  unfolding entered
  entered_none zero j n c z = refl
  entered_none (suc g) j n c z = absurd (omega arith)

past_in : (f : List ℕ) (T : Tables) (c : ConditionWords) (i : ℕ) → Formed f → record_count f ≤ i → steps_in f T i (record_at f i) c ≡ opens c
unfolding steps_in kind_of kinds nth
past_in f T c i F l = rw (record_as_law f i (ap kind_of (past_word F i 0 l)))

-- ---- the loop: the try was at state s with heap h₀ and words m₀, rs₀, fw₀, l steps being left then
module _ (f : List ℕ) (T : Tables) (s : State) (h₀ : Heap) (m₀ rs₀ fw₀ : List ℕ) (l p : ℕ) (own : List ℕ) where
  abbrev then_goal : ℕ
  then_goal = onto (word f s.goal try_then) (T.successor s.goal)

  abbrev else_goal : ℕ
  else_goal = onto (word f s.goal try_else) (T.successor s.goal)

  abbrev Whole : Room → ℕ → List ℕ → Outcome
  Whole K n ps = run_on f T K l s.goal n (words_of h₀ m₀ rs₀ fw₀ ps s)

  -- it has come to c, with k entries and j steps left
  pub record Stands (K : Room) (n : ℕ) (ps log : List ℕ) (h : Heap) (m rs fw : List ℕ) (u : State) (k j : ℕ) : Type 0 where
    pub here : ConditionWords
    pub inside : Inside log h m rs fw ps u k here
    pub saved : Saved p own here.own
    pub then_part : here.then' ≡ then_goal
    pub else_part : here.else' ≡ else_goal
    pub rest : Whole K n ps ≡ entered f T K j (n + (l - j)) u.goal here

  pub record Along (log : List ℕ) (h : Heap) (m rs fw : List ℕ) (u : State) (k j : ℕ) : Type 0 where
    pub stands : (K : Room) (n : ℕ) (ps : List ℕ) → Stands K n ps log h m rs fw u k j
    pub limits : SameLimits h h₀
    pub counted : suc (k + j) ≤ l
    pub state : u ≡ onward_to s u.goal
    pub placed : FramePlaced u (length fw)
    pub cells : length m ≡ length m₀
    pub regions : length rs ≡ length rs₀
    pub frames : length fw ≡ length fw₀

  try_record : (w : ℕ) → w ≡ word f s.goal kind_word → w ≡ try_kind
      → record_at f s.goal ≡ Try (word f s.goal next_word) (word f s.goal try_condition) (word f s.goal try_then) (word f s.goal try_else)
  unfolding kind_of kinds nth
  try_record w ew z = of_kind f s.goal w ew try_kind (k_goal k_try) refl z

  opened : (K : Room) (n : ℕ) (ps : List ℕ) → 0 < l → (s.goal ≡ 0 → ⊥) → word f s.goal kind_word ≡ try_kind
      → Whole K n ps ≡ entered f T K (l - 1) (suc n) (word f s.goal try_condition) (tries (words_of h₀ m₀ rs₀ fw₀ ps s) (word f s.goal try_condition) then_goal else_goal)
  opened K n ps q y z = try_at f T K l n (words_of h₀ m₀ rs₀ fw₀ ps s) s.goal _ _ _ _ q y (try_record _ refl z)

  pub along_first : (log own₀ : List ℕ) (g : ℕ) (u : State) → 0 < l → (s.goal ≡ 0 → ⊥) → word f s.goal kind_word ≡ try_kind → FramePlaced s (length fw₀) → length log ≡ log_words → p ≤ 1
      → length own₀ ≡ saved_words → own ≡ moved (s.at + 1) p frame_numbers fw₀ own₀ → g ≡ word f s.goal try_condition → u ≡ onward_to s g
      → Along log h₀ m₀ rs₀ fw₀ u 0 (l - 1)
  unfolding tries with_frames words_of
  along_first log own₀ g u q z t D ll lp lo eo eg eu = record {
    stands = λ K n ps. record {
      here = tries (words_of h₀ m₀ rs₀ fw₀ ps s) (word f s.goal try_condition) then_goal else_goal;
      inside = record { words = rw (eu, eg) refl; count = refl; logs = logs_none log ll };
      saved = saved_first s.at s.top p fw₀ own₀ own D.place lp lo eo;
      then_part = refl;
      else_part = refl;
      rest =
          let o : n + (l - (l - 1)) ≡ suc n = omega arith in
          rw (eu, eg, o) (opened K n ps q z t);
    };
    limits = (refl, refl);
    counted = omega arith;
    state = rw eu refl;
    placed = rw eu (onward_placed g D);
    cells = refl;
    regions = refl;
    frames = refl;
  }

  -- ---- answers told apart
  left_tried : (g : Heap) (i k : ℕ) (m₁ rs₁ fw₁ : List ℕ)
      → ((K : Room) (n : ℕ) (ps : List ℕ)
      → Whole K n ps ≡ run_on f T K k (settled f T (words_of g m₁ rs₁ fw₁ ps (onward_to s i))).goal (n + (l - k)) (settled f T (words_of g m₁ rs₁ fw₁ ps (onward_to s i))))
      → k < l → SameLimits g h₀ → Tried f T s h₀ l m₀ rs₀ fw₀ (left_at g i k) m₁ rs₁ fw₁
  left_tried g i k m₁ rs₁ fw₁ o q e = record {
    left = λ g' i' k' d. let x = same_left d in rw (← x.0, ← x.1, ← x.2) o;
    fewer = λ g' i' k' d. let x = same_left d in rw (← x.0, ← x.2) (q, e);
    lacks = λ c k' d. absurd (left_not d);
    most = λ c k' d. absurd (left_not d);
  }

  lacks_tried : (c : Stop) (k : ℕ) (m₁ rs₁ fw₁ : List ℕ)
      → ((K : Room) (n : ℕ) (ps : List ℕ) → (g : Heap) × (i : ℕ) × (Whole K n ps ≡ ended_with (Stopped c) (n + (l - k)) (words_of g m₁ rs₁ fw₁ ps (onward_to s i))))
      → k < l → Tried f T s h₀ l m₀ rs₀ fw₀ (lacks_at c k) m₁ rs₁ fw₁
  lacks_tried c k m₁ rs₁ fw₁ o q = record {
    left = λ g i k' d. absurd (left_not (sym d));
    fewer = λ g i k' d. absurd (left_not (sym d));
    lacks = λ c' k' d. let x = same_lacks d in rw (← x.0, ← x.1) o;
    most = λ c' k' d. let x = same_lacks d in rw (← x.1) q;
  }

  module _ {log : List ℕ} {h : Heap} {m rs fw : List ℕ} {u : State} {k j : ℕ} (A : Along log h m rs fw u k j) where
    -- the words as a condition leaves them
    left_words : (g : Heap) (m₁ rs₁ : List ℕ) (i : ℕ) (ps : List ℕ) (c : ConditionWords) → Inside log h m rs fw ps u k c → c.then' ≡ then_goal
        → ((told : List ℕ) → Logs log told k → Is g m₁ rs₁ (freed told k (stored h m rs))) → i ≡ then_goal → leaves c ≡ words_of g m₁ rs₁ fw ps (onward_to s i)
    unfolding leaves with_stored stored_in words_of
    left_words g m₁ rs₁ i ps c I t F ei =
        let e = F c.log I.logs in
        rw (I.words, I.count, t, ei, e.0, e.1, e.2, A.state) refl

    pub count_low : l ≤ count_end → k < count_end
    count_low e = omega (arith, A.counted)

    -- ---- the condition has ended
    pub along_leaves : u.goal ≡ 0 → (g : Heap) (m₁ rs₁ : List ℕ) (i : ℕ) → ((told : List ℕ) → Logs log told k → Is g m₁ rs₁ (freed told k (stored h m rs))) → i ≡ then_goal
        → Tried f T s h₀ l m₀ rs₀ fw₀ (left_at g i j) m₁ rs₁ fw
    along_leaves z g m₁ rs₁ i F ei = left_tried g i j m₁ rs₁ fw (λ K n ps. out K n ps) (omega (arith, A.counted)) lim
      where
        lim : SameLimits g h₀
        lim =
            let c = A.stands (record { cells = 0; regions = 0; frames = 0; prints = 0 }) 0 [] in
            let e = F c.here.log c.inside.logs in
            let q = freed_limits c.here.log k (stored h m rs) in
            (ap (λ (x : Heap). x.cells.limit) e.0 ∙ q.0 ∙ A.limits.0, ap (λ (x : Heap). x.regions.limit) e.0 ∙ q.1 ∙ A.limits.1)

        out : (K : Room) (n : ℕ) (ps : List ℕ)
            → Whole K n ps ≡ run_on f T K j (settled f T (words_of g m₁ rs₁ fw ps (onward_to s i))).goal (n + (l - j)) (settled f T (words_of g m₁ rs₁ fw ps (onward_to s i)))
        out K n ps = let c = A.stands K n ps in rw (← left_words g m₁ rs₁ i ps c.here c.inside c.then_part F ei) (c.rest ∙ entered_none f T K u.goal j (n + (l - j)) c.here z)

    -- ---- no step is left
    pub along_spent : (u.goal ≡ 0 → ⊥) → j ≡ 0 → Tried f T s h₀ l m₀ rs₀ fw₀ (lacks_at Steps j) m rs fw
    along_spent z e = lacks_tried Steps j m rs fw out (omega (arith, A.counted))
      where
        out : (K : Room) (n : ℕ) (ps : List ℕ) → (g : Heap) × (i : ℕ) × (Whole K n ps ≡ ended_with (Stopped Steps) (n + (l - j)) (words_of g m rs fw ps (onward_to s i)))
        out K n ps =
            let c = A.stands K n ps in (
              h,
              u.goal,
              c.rest ∙ entered_some f T K u.goal j (n + (l - j)) c.here z ∙ ap (λ x. run_in f T K x (n + (l - j)) c.here) e ∙ spent_in f T K c.here 0 (n + (l - j))
                  ∙ ap (ended_with (Stopped Steps) (n + (l - j))) (c.inside.words ∙ ap (words_of h m rs fw ps) A.state),
            )

    -- ---- one turn, at a goal
    module _ (z : u.goal ≡ 0 → ⊥) (q : 0 < j) where
      at_goal : {ps : List ℕ} {c : ConditionWords} → Inside log h m rs fw ps u k c → c.words.goal ≡ u.goal
      unfolding words_of
      at_goal I = ap (λ v. v.goal) I.words

      here_step : {ps : List ℕ} (c : ConditionWords) → Inside log h m rs fw ps u k c
          → steps_in f T c.words.goal (record_at f c.words.goal) c ≡ steps_in f T u.goal (record_at f u.goal) c
      here_step c I = ap (λ x. steps_in f T x (record_at f x) c) (at_goal I)

      one_less : (K : Room) (n : ℕ) (c : ConditionWords) → run_in f T K j n c ≡ run_in f T K (suc (j - 1)) n c
      one_less K n c = ap (λ x. run_in f T K x n c) (omega arith)

      later : (n : ℕ) → suc (n + (l - j)) ≡ n + (l - (j - 1))
      later n = omega (arith, A.counted)

      turn : (K : Room) (n : ℕ) (ps : List ℕ) → Whole K n ps ≡ run_in f T K (suc (j - 1)) (n + (l - j)) (A.stands K n ps).here
      turn K n ps = let c = A.stands K n ps in c.rest ∙ entered_some f T K u.goal j (n + (l - j)) c.here z ∙ one_less K (n + (l - j)) c.here

      -- no record of the file
      pub along_past : Formed f → record_count f ≤ u.goal → Along log h m rs fw u k (j - 1)
      along_past F p = record {
        stands = λ K n ps.
            let c = A.stands K n ps in
            record {
              here = c.here;
              inside = c.inside;
              saved = c.saved;
              then_part = c.then_part;
              else_part = c.else_part;
              rest =
                  turn K n ps ∙ step_past f T K c.here (j - 1) (n + (l - j)) (here_step c.here c.inside ∙ past_in f T c.here u.goal F p)
                  ∙ ap (λ x. run_in f T K (j - 1) x c.here) (later n) ∙ sym (entered_some f T K u.goal (j - 1) _ c.here z);
            };
        limits = A.limits;
        counted = omega (arith, A.counted);
        state = A.state;
        placed = A.placed;
        cells = A.cells;
        regions = A.regions;
        frames = A.frames;
      }

      module _ {r : Result ConditionStep Stop} {m₁ rs₁ fw₁ log₁ : List ℕ} (G : GoesIn f T u h k m rs fw log r m₁ rs₁ fw₁ log₁) where
        -- it goes on in the condition
        pub along_on : (g : Heap) (i b : ℕ) (v : State) → r ≡ Ok (On g i b) → v ≡ onward_to u i → length m₁ ≡ length m → length rs₁ ≡ length rs → length fw₁ ≡ length fw
            → Along log₁ g m₁ rs₁ fw₁ v b (j - 1)
        unfolding words_of
        along_on g i b v e ev lm lr lf =
            let lim = G.limits g i b e in
            record {
              stands = λ K n ps.
                  let c = A.stands K n ps in
                  let o = G.on g i b e ps c.here c.inside in
                  record {
                    here = o.next;
                    inside = rw ev o.inside;
                    saved = λ x y. c.saved x y ∙ ap (λ (t : List ℕ). get_or t (1 + x) 0) (sym o.own);
                    then_part = o.then_part ∙ c.then_part;
                    else_part = o.else_part ∙ c.else_part;
                    rest =
                        turn K n ps ∙ step_on f T K c.here (j - 1) (n + (l - j)) o.next (here_step c.here c.inside ∙ o.is)
                        ∙ ap (λ x. entered f T K (j - 1) x o.next.words.goal o.next) (later n)
                        ∙ ap (λ x. entered f T K (j - 1) (n + (l - (j - 1))) x o.next) (ap (λ v. v.goal) o.inside.words ∙ rw ev refl);
                  };
              limits = (lim.0.0 ∙ A.limits.0, lim.0.1 ∙ A.limits.1);
              counted = omega (arith, A.counted, lim.1);
              state = rw (ev, A.state) refl;
              placed = rw ev (onward_placed i (subst (FramePlaced u) (sym lf) A.placed));
              cells = lm ∙ A.cells;
              regions = lr ∙ A.regions;
              frames = lf ∙ A.frames;
            }

        -- a cause to stop
        pub along_lacks : (c : Stop) → r ≡ Err c → Tried f T s h₀ l m₀ rs₀ fw₀ (lacks_at c j) m₁ rs₁ fw₁
        along_lacks c e = let d = G.kept c e in rw (d.0, d.1, d.2) (lacks_tried c j m rs fw out (omega (arith, A.counted)))
          where
            out : (K : Room) (n : ℕ) (ps : List ℕ) → (g : Heap) × (i : ℕ) × (Whole K n ps ≡ ended_with (Stopped c) (n + (l - j)) (words_of g m rs fw ps (onward_to s i)))
            out K n ps =
                let x = A.stands K n ps in (
                  h,
                  u.goal,
                  turn K n ps ∙ step_stops f T K x.here (j - 1) (n + (l - j)) c (here_step x.here x.inside ∙ G.lacks c e ps x.here x.inside)
                      ∙ ap (ended_with (Stopped c) (n + (l - j))) (x.inside.words ∙ ap (words_of h m rs fw ps) A.state),
                )

        -- a test fails: what was done is undone
        failed_words : (g : Heap) (m₂ rs₂ fw₂ : List ℕ) (i : ℕ) (ps : List ℕ) (c : ConditionWords) → Inside log h m rs fw ps u k c → Saved p own c.own → c.else' ≡ else_goal
            → ((told : List ℕ) → Logs log told k → Is g m₂ rs₂ (undone told k (stored h m rs))) → fw₂ ≡ moved p (u.at + 1) frame_numbers own fw → i ≡ else_goal
            → fails c ≡ words_of g m₂ rs₂ fw₂ ps (onward_to s i)
        unfolding fails with_stored stored_in words_of
        failed_words g m₂ rs₂ fw₂ i ps c I S t F ef ei =
            let e = F c.log I.logs in
            rw (I.words, I.count, t, ei, e.0, e.1, e.2, ← put_back_law u.at u.top p fw own c.own A.placed.place S, ← ef, A.state) refl

        pub along_fails : r ≡ Ok Fails → (g : Heap) (m₂ rs₂ fw₂ : List ℕ) (i : ℕ)
            → ((told : List ℕ) → Logs log₁ told k → Is g m₂ rs₂ (undone told k (stored h m₁ rs₁))) → fw₂ ≡ moved p (u.at + 1) frame_numbers own fw₁ → i ≡ else_goal
            → Tried f T s h₀ l m₀ rs₀ fw₀ (left_at g i (j - 1)) m₂ rs₂ fw₂
        along_fails e g m₂ rs₂ fw₂ i F ef ei = left_tried g i (j - 1) m₂ rs₂ fw₂ (λ K n ps. out K n ps) (omega (arith, A.counted)) lim
          where
            d : (m₁ ≡ m) × (rs₁ ≡ rs) × (fw₁ ≡ fw) × (log₁ ≡ log)
            d = G.undoes e

            F' : (told : List ℕ) → Logs log told k → Is g m₂ rs₂ (undone told k (stored h m rs))
            F' = rw (← d.0, ← d.1, ← d.3) F

            lim : SameLimits g h₀
            lim =
                let c = A.stands (record { cells = 0; regions = 0; frames = 0; prints = 0 }) 0 [] in
                let x = F' c.here.log c.inside.logs in
                let y = undone_limits c.here.log k (stored h m rs) in
                (ap (λ (x : Heap). x.cells.limit) x.0 ∙ y.0 ∙ A.limits.0, ap (λ (x : Heap). x.regions.limit) x.0 ∙ y.1 ∙ A.limits.1)

            out : (K : Room) (n : ℕ) (ps : List ℕ)
                → Whole K n ps ≡ run_on f T K (j - 1) (settled f T (words_of g m₂ rs₂ fw₂ ps (onward_to s i))).goal (n + (l - (j - 1))) (settled f T (words_of g m₂ rs₂ fw₂ ps (onward_to s i)))
            out K n ps =
                let c = A.stands K n ps in
                rw (← failed_words g m₂ rs₂ fw₂ i ps c.here c.inside c.saved c.else_part F' (ef ∙ ap (moved p (u.at + 1) frame_numbers own) d.2) ei, ← later n)
                (turn K n ps ∙ step_fails f T K c.here (j - 1) (n + (l - j)) (fails c.here) (here_step c.here c.inside ∙ G.fails e ps c.here c.inside))

-- ---- the state as the code hands it on: r is s at another goal
pub along_start : (f : List ℕ) (T : Tables) (s r : State) (h : Heap) (m rs fw : List ℕ) (l p : ℕ) (own log own₀ : List ℕ) (g : ℕ) → r ≡ onward_to s g → 0 < l → (s.goal ≡ 0 → ⊥)
    → word f s.goal kind_word ≡ try_kind → FramePlaced s (length fw) → length log ≡ log_words → p ≤ 1 → length own₀ ≡ saved_words → own ≡ moved (s.at + 1) p frame_numbers fw own₀
    → g ≡ word f s.goal try_condition → Along f T (onward_to r s.goal) h m rs fw l p own log h m rs fw r 0 (l - 1)
along_start f T s r h m rs fw l p own log own₀ g er q z t D ll lp lo eo eg = rw er (along_first f T s h m rs fw l p own log own₀ g (onward_to s g) q z t D ll lp lo eo eg refl)

pub tried_as : (f : List ℕ) (T : Tables) (s r : State) (g : ℕ) → r ≡ onward_to s g → (h : Heap) (l : ℕ) (m rs fw : List ℕ) (e : Result TryDone TryStopped) (m₁ rs₁ fw₁ : List ℕ)
    → Tried f T (onward_to r s.goal) h l m rs fw e m₁ rs₁ fw₁ → Tried f T s h l m rs fw e m₁ rs₁ fw₁
tried_as f T s r g er h l m rs fw e m₁ rs₁ fw₁ t = rw er at t

pub goal_as : (plan images callees : List ℕ) (r a i : ℕ) → r ≡ onto a (get_or plan i 0) → r ≡ onto a ((tables_in plan images callees).successor i)
unfolding tables_in
goal_as plan images callees r a i e = e

-- ---- a state and a heap of its own
pub tried_apart : (f : List ℕ) (T : Tables) (s u : State) (h g : Heap) (l : ℕ) (m rs fw : List ℕ) (r : Result TryDone TryStopped) (m₁ rs₁ fw₁ : List ℕ) → u ≡ onward_to s s.goal → g ≡ h
    → Tried f T u g l m rs fw r m₁ rs₁ fw₁ → Tried f T s h l m rs fw r m₁ rs₁ fw₁
tried_apart f T s u h g l m rs fw r m₁ rs₁ fw₁ e d t = subst (λ v. Tried f T v h l m rs fw r m₁ rs₁ fw₁) e (subst (λ k. Tried f T u k l m rs fw r m₁ rs₁ fw₁) d t)
