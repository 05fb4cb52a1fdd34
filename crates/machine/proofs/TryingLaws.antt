-- What each kind of goal comes to in an open condition, from what its function promises.
use Prim.Native.Nat.{ℕ, zero, suc, ◌+◌, ◌*◌, ◌≤◌}
use Rattle.std.specs.Prelude.{Option, Some, None, Ok, Err, Result}
use native.Mathlib.Omega.{arith}
use mathlib.Core.Path.{◌≡◌, refl, sym, ap, ◌∙◌}
use mathlib.Core.Bool.{Bool, true, false}
use mathlib.Core.List.{List}
use lib.ListN.{length, get_or}
use mir.Syntax.{w32}
use mir.Val.{to_z}
use Rattle.sets.specs.Tests.{neg}
use Rattle.language.specs.Lists.{choose}
use Rattle.language.specs.File.{Kind, k_none, k_header, k_type, k_functor, k_procedure, k_variable, k_region, k_edge, k_arm, k_argument, k_goal, k_literal, k_sum, k_assign, k_construct, k_switch, k_if, k_call, k_print, k_create, k_remove, k_try, k_test, kind_of, row, row_in, word}
use Rattle.language.specs.Format.{kind_word, literal_kind, sum_kind, assign_kind, construct_kind, switch_kind, create_kind, remove_kind, test_kind, test_y, test_z, lifetime_region, term_arguments}
use Rattle.language.specs.Numbers.{less}
use Rattle.language.specs.Machine.{Room, holds}
use Rattle.language.specs.declared.Stop.{Stop}
use Rattle.language.specs.declared.Stop.TheVariants.{Sums}
use Rattle.records.specs.Records.{record_at, record_as_law}
use Rattle.chains.specs.Shapes.{goal_number}
use Rattle.records.specs.declared.Record.{Record}
use Rattle.records.specs.declared.Record.TheVariants.{Literal, Sum, Assign, Switch}
use Rattle.memory.specs.declared.Heap.{Heap}
use Rattle.memory.specs.Building.{same_made}
use Rattle.memory.specs.Memory.{created}
use Rattle.memory.specs.Log.{built_in, made_at, removed_at, entry}
use Rattle.plans.specs.Plan.{sides_from, tables_in}
use Rattle.word_machine.specs.Tables.{Tables}
use Rattle.word_machine.specs.Machine.{print_words, frame_words, regions_from, MachineWords, ConditionWords, Went, went, opens, stops, in_words, logged, with_stored, with_frames, fails, enters, enters_at, if_room, if_room_in, sums, value_of, region_for, constructs, constructed, constructed_by, constructs_in, constructed_in, makes_region, created_by, makes_region_in, created_in, drops_region_in, steps, steps_in}
use Rattle.machine.specs.declared.State.{State}
use Rattle.machine.specs.declared.Step.TheVariants.{Went as WentTo}
use Rattle.machine.specs.declared.ConditionStep.{ConditionStep}
use Rattle.machine.specs.declared.ConditionStep.TheVariants.{On, Fails}
use Rattle.machine.specs.Words.{words_of, onward_to, came_to, heap_came_to, Goes, HeapGoes}
use Rattle.machine.specs.Steps.{construct_record, create_record, remove_record}
use Rattle.machine.specs.Entries.{noted, logs_next}
use Rattle.machine.specs.Trying.{Inside, SameLimits, Onward, GoesIn, fails_in}
use Rattle.machine.proofs.StepsLaws.{literal_record, sum_record, assign_record, switch_record, test_record}

-- ---- answers told apart
unfoldable sort : Result ConditionStep Stop → ℕ
sort (Ok (On h i n)) = 0
sort (Ok Fails) = 1
sort (Err c) = 2

apart : {a b : ℕ} → (a ≡ b → ⊥) → (r s : Result ConditionStep Stop) → sort r ≡ a → sort s ≡ b → r ≡ s → ⊥
apart n r s er es e = n (sym er ∙ ap sort e ∙ es)

on_fails : (h : Heap) (i n : ℕ) → ◌≡◌ {A = Result ConditionStep Stop} (Ok (On h i n)) (Ok Fails) → ⊥
unfolding sort
on_fails h i n e = let z : ◌≡◌ {A = ℕ} 0 1 = ap sort e in omega arith

on_lacks : (h : Heap) (i n : ℕ) (q : Stop) → ◌≡◌ {A = Result ConditionStep Stop} (Ok (On h i n)) (Err q) → ⊥
unfolding sort
on_lacks h i n q e = let z : ◌≡◌ {A = ℕ} 0 2 = ap sort e in omega arith

fails_lacks : (q : Stop) → ◌≡◌ {A = Result ConditionStep Stop} (Ok Fails) (Err q) → ⊥
unfolding sort
fails_lacks q e = let z : ◌≡◌ {A = ℕ} 1 2 = ap sort e in omega arith

same_on : {h g : Heap} {i j n k : ℕ} → ◌≡◌ {A = Result ConditionStep Stop} (Ok (On h i n)) (Ok (On g j k)) → (h ≡ g) × (i ≡ j) × (n ≡ k)
same_on e = (cc, cc, cc)

same_lacks : {p q : Stop} → ◌≡◌ {A = Result ConditionStep Stop} (Err p) (Err q) → p ≡ q
same_lacks e = cc

unfoldable went_on : Went → ℕ
went_on (went w) = 0
went_on (opens c) = 1
went_on (stops q) = 2

stops_went : {q : Stop} {w : MachineWords} → stops q ≡ went w → ⊥
unfolding went_on
stops_went e = let z : ◌≡◌ {A = ℕ} 2 0 = ap went_on e in omega arith

same_went : {v w : MachineWords} → went v ≡ went w → v ≡ w
same_went e = cc

-- ---- what a step promises, from its answer
module _ (f : List ℕ) (T : Tables) (s : State) (h : Heap) (n : ℕ) (m rs fw log : List ℕ) where
  pub goes_on_in : (g : Heap) (i k : ℕ) (m₁ rs₁ fw₁ log₁ : List ℕ)
      → ((ps : List ℕ) (c : ConditionWords) → Inside log h m rs fw ps s n c → Onward f T s c log₁ g m₁ rs₁ fw₁ ps i k) → SameLimits g h → k ≤ suc n
      → ((ps : List ℕ) → fails_in (record_at f s.goal) (words_of h m rs fw ps s) ≡ false) → GoesIn f T s h n m rs fw log (Ok (On g i k)) m₁ rs₁ fw₁ log₁
  goes_on_in g i k m₁ rs₁ fw₁ log₁ o l q p = record {
    on = λ g' i' k' e ps c I. let d = same_on e in rw (← d.0, ← d.1, ← d.2) (o ps c I);
    limits = λ g' i' k' e. let d = same_on e in rw (← d.0, ← d.2) (l, q);
    passes = λ g' i' k' e ps. p ps;
    failing = λ e. absurd (on_fails g i k e);
    fails = λ e. absurd (on_fails g i k e);
    undoes = λ e. absurd (on_fails g i k e);
    lacks = λ q e. absurd (on_lacks g i k q e);
    kept = λ q e. absurd (on_lacks g i k q e);
  }

  pub lacks_in : (q : Stop) → ((ps : List ℕ) (c : ConditionWords) → Inside log h m rs fw ps s n c → steps_in f T s.goal (record_at f s.goal) c ≡ stops q)
      → (m₁ rs₁ fw₁ : List ℕ) → (m₁ ≡ m) × (rs₁ ≡ rs) × (fw₁ ≡ fw) → GoesIn f T s h n m rs fw log (Err q) m₁ rs₁ fw₁ log
  lacks_in q o m₁ rs₁ fw₁ E = record {
    on = λ g i k e. absurd (on_lacks g i k q (sym e));
    limits = λ g i k e. absurd (on_lacks g i k q (sym e));
    passes = λ g i k e. absurd (on_lacks g i k q (sym e));
    failing = λ e. absurd (fails_lacks q (sym e));
    fails = λ e. absurd (fails_lacks q (sym e));
    undoes = λ e. absurd (fails_lacks q (sym e));
    lacks = λ p e ps c I. rw (← same_lacks e) (o ps c I);
    kept = λ p e. E;
  }

  pub fails_in_law : ((ps : List ℕ) (c : ConditionWords) → Inside log h m rs fw ps s n c → steps_in f T s.goal (record_at f s.goal) c ≡ went (fails c))
      → ((ps : List ℕ) → fails_in (record_at f s.goal) (words_of h m rs fw ps s) ≡ true) → GoesIn f T s h n m rs fw log (Ok Fails) m rs fw log
  fails_in_law o p = record {
    on = λ g i k e. absurd (on_fails g i k (sym e));
    limits = λ g i k e. absurd (on_fails g i k (sym e));
    passes = λ g i k e. absurd (on_fails g i k (sym e));
    failing = λ e ps. p ps;
    fails = λ e ps c I. o ps c I;
    undoes = λ e. (refl, refl, refl, refl);
    lacks = λ q e. absurd (fails_lacks q e);
    kept = λ q e. absurd (fails_lacks q e);
  }

-- a goal that is no test does not fail
module _ (f : List ℕ) (i : ℕ) (w : MachineWords) where
  no_test : (K : Kind) → kind_of (word f i kind_word) ≡ K → (word f i kind_word ≡ test_kind → ⊥) → fails_in (record_at f i) w ≡ false
  unfolding fails_in row row_in
  no_test k_none e n = rw (record_as_law f i e)
  no_test k_header e n = rw (record_as_law f i e)
  no_test k_type e n = rw (record_as_law f i e)
  no_test k_functor e n = rw (record_as_law f i e)
  no_test k_procedure e n = rw (record_as_law f i e)
  no_test k_variable e n = rw (record_as_law f i e)
  no_test k_region e n = rw (record_as_law f i e)
  no_test k_edge e n = rw (record_as_law f i e)
  no_test k_arm e n = rw (record_as_law f i e)
  no_test k_argument e n = rw (record_as_law f i e)
  no_test (k_goal k_literal) e n = rw (record_as_law f i e)
  no_test (k_goal k_sum) e n = rw (record_as_law f i e)
  no_test (k_goal k_assign) e n = rw (record_as_law f i e)
  no_test (k_goal k_construct) e n = rw (record_as_law f i e)
  no_test (k_goal k_switch) e n = rw (record_as_law f i e)
  no_test (k_goal k_if) e n = rw (record_as_law f i e)
  no_test (k_goal k_call) e n = rw (record_as_law f i e)
  no_test (k_goal k_print) e n = rw (record_as_law f i e)
  no_test (k_goal k_create) e n = rw (record_as_law f i e)
  no_test (k_goal k_remove) e n = rw (record_as_law f i e)
  no_test (k_goal k_try) e n = rw (record_as_law f i e)
  no_test (k_goal k_test) e n = absurd (n (goal_number _ k_test e))

  pub passes_by : (a : ℕ) → a ≡ word f i kind_word → (a ≡ test_kind → ⊥) → fails_in (record_at f i) w ≡ false
  passes_by a e n = no_test _ refl (λ z. n (e ∙ z))

-- ---- goals that change values alone: as outside, but that the condition stays open
unfoldable pub via_in : Went → ConditionWords → Went
via_in (went w) c = enters (in_words c w)
via_in (opens d) c = opens c
via_in (stops q) c = stops q

module _ (f : List ℕ) (T : Tables) (k : Room) (i : ℕ) (c : ConditionWords) where
  abbrev Alike : Record → Type 0
  Alike R = steps_in f T i R c ≡ via_in (steps f T k i R c.words) c

  literal_alike : (n x v : ℕ) → Alike (Literal n x v)
  unfolding steps_in steps via_in
  literal_alike n x v = refl

  assign_alike : (n x y : ℕ) → Alike (Assign n x y)
  unfolding steps_in steps via_in
  assign_alike n x y = refl

  switch_alike : (n x cs : ℕ) → Alike (Switch n x cs)
  unfolding steps_in steps via_in
  switch_alike n x cs = refl

  room_alike : (b : Bool) (q : Stop) (w : MachineWords) → if_room_in b q (in_words c w) ≡ via_in (if_room b q w) c
  unfolding if_room_in if_room via_in
  room_alike true q w = refl
  room_alike false q w = refl

  sum_alike : (n x o y z : ℕ) → Alike (Sum n x o y z)
  unfolding steps_in steps sums
  sum_alike n x o y z = room_alike _ Sums _

room : ℕ → ℕ → Room
room a b = record { cells = 0; regions = 0; frames = a; prints = b }

module _ (f : List ℕ) (T : Tables) (s : State) (h : Heap) (n : ℕ) (m rs fw log : List ℕ) (R : Record) (eR : record_at f s.goal ≡ R)
    (A : (k : Room) (c : ConditionWords) → Alike f T k s.goal c R) (P : (w : MachineWords) → fails_in (record_at f s.goal) w ≡ false) where
  module _ (ps : List ℕ) (c : ConditionWords) (I : Inside log h m rs fw ps s n c) (w : Went)
      (e : w ≡ steps f T (room (holds (length fw) frame_words) (holds (length ps) print_words)) s.goal (record_at f s.goal) (words_of h m rs fw ps s)) where
    came : steps_in f T s.goal (record_at f s.goal) c ≡ via_in w c
    came = rw (e, eR, ← I.words) (A _ c)

  value_onward : (next : ℕ) (fx ps : List ℕ) (c : ConditionWords) → Inside log h m rs fw ps s n c → Goes f T s m fw ps (Ok (WentTo (onward_to s next))) fx ps
      → Onward f T s c log h m rs fx ps next n
  unfolding came_to via_in in_words room
  value_onward next fx ps c I g = record {
    next = in_words c (words_of h m rs fx ps (onward_to s next));
    is = came ps c I (went (words_of h m rs fx ps (onward_to s next))) (g.comes _ h rs refl refl);
    inside = record { words = refl; count = I.count; logs = I.logs };
    own = refl;
    then_part = refl;
    else_part = refl;
  }

  pub value_goes_in : (next : ℕ) (fx : List ℕ) → ((ps : List ℕ) → Goes f T s m fw ps (Ok (WentTo (onward_to s next))) fx ps)
      → GoesIn f T s h n m rs fw log (Ok (On h next n)) m rs fx log
  value_goes_in next fx g = goes_on_in f T s h n m rs fw log h next n m rs fx log (λ ps c I. value_onward next fx ps c I (g ps)) (refl, refl) (omega arith) (λ ps. P _)

  value_stops : (q : Stop) (ps : List ℕ) (c : ConditionWords) → Inside log h m rs fw ps s n c → Goes f T s m fw ps (Err q) fw ps
      → steps_in f T s.goal (record_at f s.goal) c ≡ stops q
  unfolding came_to via_in room
  value_stops q ps c I g = came ps c I (stops q) (g.comes _ h rs refl refl)

  pub value_lacks_in : (q : Stop) → ((ps : List ℕ) → Goes f T s m fw ps (Err q) fw ps) → GoesIn f T s h n m rs fw log (Err q) m rs fw log
  value_lacks_in q g = lacks_in f T s h n m rs fw log q (λ ps c I. value_stops q ps c I (g ps)) m rs fw (refl, refl, refl)

-- ---- by the number of the kind, w
module _ (f : List ℕ) (T : Tables) (s : State) (h : Heap) (n : ℕ) (m rs fw log : List ℕ) (w : ℕ) (ew : w ≡ word f s.goal kind_word) where
  abbrev Says : ℕ → List ℕ → Type 0
  Says next fx = ((ps : List ℕ) → Goes f T s m fw ps (Ok (WentTo (onward_to s next))) fx ps) → GoesIn f T s h n m rs fw log (Ok (On h next n)) m rs fx log

  pub literal_in_law : w ≡ literal_kind → (next : ℕ) (fx : List ℕ) → Says next fx
  literal_in_law z next fx g = value_goes_in f T s h n m rs fw log _ (literal_record f s.goal w ew z) (λ k c. literal_alike f T k s.goal c _ _ _) (λ v. passes_by f s.goal v w ew (λ t. omega (arith, z, t))) next fx g

  pub assign_in_law : w ≡ assign_kind → (next : ℕ) (fx : List ℕ) → Says next fx
  assign_in_law z next fx g = value_goes_in f T s h n m rs fw log _ (assign_record f s.goal w ew z) (λ k c. assign_alike f T k s.goal c _ _ _) (λ v. passes_by f s.goal v w ew (λ t. omega (arith, z, t))) next fx g

  pub switch_in : w ≡ switch_kind → (next : ℕ) (fx : List ℕ) → Says next fx
  switch_in z next fx g = value_goes_in f T s h n m rs fw log _ (switch_record f s.goal w ew z) (λ k c. switch_alike f T k s.goal c _ _ _) (λ v. passes_by f s.goal v w ew (λ t. omega (arith, z, t))) next fx g

  pub sum_in_law : w ≡ sum_kind → (next : ℕ) (fx : List ℕ) → Says next fx
  sum_in_law z next fx g = value_goes_in f T s h n m rs fw log _ (sum_record f s.goal w ew z) (λ k c. sum_alike f T k s.goal c _ _ _ _ _) (λ v. passes_by f s.goal v w ew (λ t. omega (arith, z, t))) next fx g

  pub sum_lacks_in : w ≡ sum_kind → (q : Stop) → ((ps : List ℕ) → Goes f T s m fw ps (Err q) fw ps) → GoesIn f T s h n m rs fw log (Err q) m rs fw log
  sum_lacks_in z q g = value_lacks_in f T s h n m rs fw log _ (sum_record f s.goal w ew z) (λ k c. sum_alike f T k s.goal c _ _ _ _ _) (λ v. passes_by f s.goal v w ew (λ t. omega (arith, z, t))) q g

-- ---- constructs: without arguments a constant, with some a cell, which is logged
-- the region's place p
unfoldable pub with_cell_in : ℕ → ConditionWords → MachineWords → ℕ → ConditionWords
with_cell_in zero c w p = in_words c w
with_cell_in (suc a) c w p = logged c w (entry p built_in)

module _ (c : ConditionWords) (x i p : ℕ) (m rs : List ℕ) where
  made_alike : (md : Option (ℕ × Heap)) (w : MachineWords) → constructed_by c.words x i m rs md ≡ went w → constructed_in c x i p m rs md ≡ enters (logged c w (entry p built_in))
  unfolding constructed_by constructed_in with_stored
  made_alike (Some (y, h)) w e = let z = same_went e in rw (← z) refl
  made_alike None w e = absurd (stops_went e)

  made_stops : (md : Option (ℕ × Heap)) (q : Stop) → constructed_by c.words x i m rs md ≡ stops q → constructed_in c x i p m rs md ≡ stops q
  unfolding constructed_by constructed_in
  made_stops (Some (y, h)) q e = absurd (stops_went (sym e))
  made_stops None q e = e

module _ (c : ConditionWords) (x i r t : ℕ) where
  constructs_alike : (a b d e : ℕ) (w : MachineWords) → constructs c.words x i r t a b d e ≡ went w
      → constructs_in c x i r t a b d e ≡ enters (with_cell_in a c w (region_for c.words r))
  unfolding constructs constructs_in constructed with_cell_in
  constructs_alike zero b d e w q = rw (← same_went q) refl
  constructs_alike (suc a) b d e w q = made_alike c x i _ _ _ _ w q

  constructs_stops : (a b d e : ℕ) (q : Stop) → constructs c.words x i r t a b d e ≡ stops q → constructs_in c x i r t a b d e ≡ stops q
  unfolding constructs constructs_in constructed
  constructs_stops zero b d e q z = absurd (stops_went (sym z))
  constructs_stops (suc a) b d e q z = made_stops c x i _ _ _ _ q z

module _ (f plan images callees : List ℕ) (s : State) (h : Heap) (n : ℕ) (m rs fw log : List ℕ) (D : s.at ≡ frame_words * s.top) (w : ℕ)
    (ew : w ≡ word f s.goal kind_word) where
  abbrev T : Tables
  T = tables_in plan images callees

  -- the place of the construct's region
  home_place_law : (ps : List ℕ) (p : ℕ) → p ≡ get_or fw (s.at + regions_from + get_or plan (sides_from + s.goal) 0) 0
      → region_for (words_of h m rs fw ps s) (T.region s.goal) ≡ p
  unfolding region_for words_of tables_in
  home_place_law ps p e = rw (e, D)

  module _ (z : w ≡ construct_kind) (l : Heap) (m₁ rs₁ fx : List ℕ) (G : HeapGoes f T s h m rs fw (Ok l) m₁ rs₁ fx) (next : ℕ) (en : next ≡ T.successor s.goal)
      (lim : SameLimits l h) where
    construct_onward : (ps : List ℕ) (c : ConditionWords) → Inside log h m rs fw ps s n c → (p : ℕ) → region_for (words_of h m rs fw ps s) (T.region s.goal) ≡ p
        → steps_in f T s.goal (record_at f s.goal) c ≡ enters (with_cell_in (word f s.goal term_arguments) c (words_of l m₁ rs₁ fx ps (onward_to s next)) p)
    unfolding steps_in steps heap_came_to
    construct_onward ps c I p ep =
        let g = G.comes (room 0 0) ps next en in
        let q = construct_record f s.goal w ew z in
        rw (q, ← ep, ← I.words) (constructs_alike c _ _ _ _ _ _ _ _ _ (rw I.words (sym (rw q at g))))

    -- without arguments
    pub constant_in : word f s.goal term_arguments ≡ 0 → GoesIn f T s h n m rs fw log (Ok (On l next n)) m₁ rs₁ fx log
    unfolding with_cell_in in_words
    constant_in e =
        goes_on_in f T s h n m rs fw log l next n m₁ rs₁ fx log
        (λ ps c I. record {
          next = in_words c (words_of l m₁ rs₁ fx ps (onward_to s next));
          is = construct_onward ps c I _ refl
              ∙ ap (λ a. enters (with_cell_in a c (words_of l m₁ rs₁ fx ps (onward_to s next)) (region_for (words_of h m rs fw ps s) (T.region s.goal)))) e;
          inside = record { words = refl; count = I.count; logs = I.logs };
          own = refl;
          then_part = refl;
          else_part = refl;
        }) lim (omega arith) (λ ps. passes_by f s.goal _ w ew (λ t. omega (arith, z, t)))

    some : (a : ℕ) → (a ≡ 0 → ⊥) → (c : ConditionWords) (v : MachineWords) (p : ℕ) → with_cell_in a c v p ≡ logged c v (entry p built_in)
    unfolding with_cell_in
    some zero z c v p = absurd (z refl)
    some (suc a) z c v p = refl

    pub cell_in_law : (word f s.goal term_arguments ≡ 0 → ⊥) → (p k : ℕ) (log₁ : List ℕ) → p ≡ get_or fw (s.at + regions_from + get_or plan (sides_from + s.goal) 0) 0
        → log₁ ≡ noted n p built_in log → k ≡ suc n → GoesIn f T s h n m rs fw log (Ok (On l next k)) m₁ rs₁ fx log₁
    unfolding logged
    cell_in_law e p k log₁ ep el ek =
        goes_on_in f T s h n m rs fw log l next k m₁ rs₁ fx log₁
        (λ ps c I. record {
          next = logged c (words_of l m₁ rs₁ fx ps (onward_to s next)) (entry p built_in);
          is = construct_onward ps c I p (home_place_law ps p ep) ∙ ap enters (some _ e c _ p);
          inside = record { words = refl; count = ap suc I.count ∙ sym ek; logs = rw (el, ek, I.count) (logs_next n p built_in log c.log I.logs (omega arith)) };
          own = refl;
          then_part = refl;
          else_part = refl;
        }) lim (omega arith) (λ ps. passes_by f s.goal _ w ew (λ t. omega (arith, z, t)))

  pub construct_lacks_in : w ≡ construct_kind → (q : Stop) (m₁ rs₁ fx : List ℕ) → HeapGoes f T s h m rs fw (Err q) m₁ rs₁ fx
      → GoesIn f T s h n m rs fw log (Err q) m₁ rs₁ fx log
  unfolding steps_in steps heap_came_to
  construct_lacks_in z q m₁ rs₁ fx G =
      lacks_in f T s h n m rs fw log q
      (λ ps c I.
      let g = G.comes (room 0 0) ps (T.successor s.goal) refl in
      let e = construct_record f s.goal w ew z in
      rw e (constructs_stops c _ _ _ _ _ _ _ _ q (rw I.words (sym (rw e at g))))) m₁ rs₁ fx (G.kept q refl)

  -- ---- creates
  module _ (z : w ≡ create_kind) (md : Option (ℕ × Heap)) (e : md ≡ created h rs) where
    created_alike : (c : ConditionWords) (r i y : ℕ) (rs₁ : List ℕ) (g : Heap) (v : MachineWords) → (md' : Option (ℕ × Heap)) → md' ≡ Some (y, g) → created_by c.words r i rs₁ md' ≡ went v
        → created_in c r i rs₁ md' ≡ enters (logged c v (entry y made_at))
    unfolding created_by created_in with_stored
    created_alike c r i y rs₁ g v (Some (x, k)) q d = rw (← same_went d, (same_made q).0) refl
    created_alike c r i y rs₁ g v None q d = absurd (stops_went d)

    created_stops : (c : ConditionWords) (r i : ℕ) (rs₁ : List ℕ) (q : Stop) → (md' : Option (ℕ × Heap)) → created_by c.words r i rs₁ md' ≡ stops q → created_in c r i rs₁ md' ≡ stops q
    unfolding created_by created_in
    created_stops c r i rs₁ q (Some (x, k)) d = absurd (stops_went (sym d))
    created_stops c r i rs₁ q None d = d

    pub create_in : (y : ℕ) (l : Heap) → md ≡ Some (y, l) → (rs₁ fx : List ℕ) → HeapGoes f T s h m rs fw (Ok l) m rs₁ fx → (next : ℕ) → next ≡ T.successor s.goal → SameLimits l h
        → (k : ℕ) (log₁ : List ℕ) → log₁ ≡ noted n y made_at log → k ≡ suc n → GoesIn f T s h n m rs fw log (Ok (On l next k)) m rs₁ fx log₁
    unfolding steps_in steps heap_came_to makes_region makes_region_in logged words_of
    create_in y l d rs₁ fx G next en lim k log₁ el ek =
        goes_on_in f T s h n m rs fw log l next k m rs₁ fx log₁
        (λ ps c I.
        let g = G.comes (room 0 0) ps next en in
        let q = create_record f s.goal w ew z in
        record {
          next = logged c (words_of l m rs₁ fx ps (onward_to s next)) (entry y made_at);
          is = rw q (created_alike c _ _ y _ l _ _ (ap (λ u. created u.heap u.regions) I.words ∙ sym e ∙ d) (rw I.words (sym (rw q at g))));
          inside = record { words = refl; count = ap suc I.count ∙ sym ek; logs = rw (el, ek, I.count) (logs_next n y made_at log c.log I.logs (omega arith)) };
          own = refl;
          then_part = refl;
          else_part = refl;
        }) lim (omega arith) (λ ps. passes_by f s.goal _ w ew (λ t. omega (arith, z, t)))

    pub create_lacks_in : (q : Stop) (rs₁ fx : List ℕ) → HeapGoes f T s h m rs fw (Err q) m rs₁ fx → GoesIn f T s h n m rs fw log (Err q) m rs₁ fx log
    unfolding steps_in steps heap_came_to makes_region makes_region_in
    create_lacks_in q rs₁ fx G =
        lacks_in f T s h n m rs fw log q
        (λ ps c I.
        let g = G.comes (room 0 0) ps (T.successor s.goal) refl in
        let d = create_record f s.goal w ew z in
        rw d (created_stops c _ _ _ q _ (rw I.words (sym (rw d at g))))) m rs₁ fx (G.kept q refl)

  -- ---- removes: nothing but an entry
  pub remove_in : w ≡ remove_kind → (next : ℕ) → next ≡ T.successor s.goal → (p k : ℕ) (log₁ : List ℕ) → p ≡ get_or fw (s.at + regions_from + word f s.goal lifetime_region) 0
      → log₁ ≡ noted n p removed_at log → k ≡ suc n → GoesIn f T s h n m rs fw log (Ok (On h next k)) m rs fw log₁
  unfolding steps_in drops_region_in logged with_frames region_for words_of
  remove_in z next en p k log₁ ep el ek =
      goes_on_in f T s h n m rs fw log h next k m rs fw log₁
      (λ ps c I. record {
        next = logged c (words_of h m rs fw ps (onward_to s next)) (entry p removed_at);
        is = rw (remove_record f s.goal w ew z, I.words, ep, en, D) refl;
        inside = record { words = refl; count = ap suc I.count ∙ sym ek; logs = rw (el, ek, I.count) (logs_next n p removed_at log c.log I.logs (omega arith)) };
        own = refl;
        then_part = refl;
        else_part = refl;
      }) (refl, refl) (omega arith) (λ ps. passes_by f s.goal _ w ew (λ t. omega (arith, z, t)))

  -- ---- tests
  module _ (z : w ≡ test_kind) (b : Bool) (eb : b ≡ less (to_z w32 (get_or fw (s.at + word f s.goal test_y) 0)) (to_z w32 (get_or fw (s.at + word f s.goal test_z) 0))) where
    test_as : (ps : List ℕ) (c : ConditionWords) → Inside log h m rs fw ps s n c
        → steps_in f T s.goal (record_at f s.goal) c
        ≡ choose b (enters (in_words c (with_frames (words_of h m rs fw ps s) fw (T.successor s.goal)))) (went (fails c))
    unfolding steps_in value_of words_of
    test_as ps c I = rw (test_record f s.goal w ew z, I.words, eb, D) refl

    fails_as : (ps : List ℕ) → fails_in (record_at f s.goal) (words_of h m rs fw ps s) ≡ neg b
    unfolding fails_in value_of words_of
    fails_as ps = rw (test_record f s.goal w ew z, eb, D) refl

    pub test_in : b ≡ true → (next : ℕ) → next ≡ T.successor s.goal → GoesIn f T s h n m rs fw log (Ok (On h next n)) m rs fw log
    unfolding choose neg with_frames words_of in_words
    test_in eb next en =
        goes_on_in f T s h n m rs fw log h next n m rs fw log
        (λ ps c I. record {
          next = in_words c (words_of h m rs fw ps (onward_to s next));
          is = test_as ps c I ∙ rw (eb, en) refl;
          inside = record { words = refl; count = I.count; logs = I.logs };
          own = refl;
          then_part = refl;
          else_part = refl;
        }) (refl, refl) (omega arith) (λ ps. fails_as ps ∙ ap neg eb)

    pub test_fails_in : b ≡ false → GoesIn f T s h n m rs fw log (Ok Fails) m rs fw log
    unfolding choose neg
    test_fails_in eb = fails_in_law f T s h n m rs fw log (λ ps c I. test_as ps c I ∙ rw eb refl) (λ ps. fails_as ps ∙ ap neg eb)

  -- ---- any other kind: nothing changes. No literal, sum, assign, construct, switch, create, remove or test
  enter_some : (i : ℕ) → (i ≡ 0 → ⊥) → (c : ConditionWords) → opens c ≡ enters_at i c
  unfolding enters_at
  enter_some zero z c = absurd (z refl)
  enter_some (suc i) z c = refl

  module _ (no : s.goal ≡ 0 → ⊥) where
    still_in : (ps : List ℕ) (c : ConditionWords) → Inside log h m rs fw ps s n c → opens c ≡ enters c
    unfolding enters words_of
    still_in ps c I = enter_some c.words.goal (λ z. no (ap (λ v. v.goal) (sym I.words) ∙ z)) c

    other_step : (K : Kind) → kind_of (word f s.goal kind_word) ≡ K → (w ≡ literal_kind → ⊥) → (w ≡ sum_kind → ⊥) → (w ≡ assign_kind → ⊥) → (w ≡ construct_kind → ⊥) → (w ≡ switch_kind → ⊥)
        → (w ≡ create_kind → ⊥) → (w ≡ remove_kind → ⊥) → (w ≡ test_kind → ⊥) → (c : ConditionWords) → steps_in f T s.goal (record_at f s.goal) c ≡ opens c
    unfolding steps_in row row_in
    other_step k_none e nl ns na nb nw nm nr nt c = rw (record_as_law f s.goal e)
    other_step k_header e nl ns na nb nw nm nr nt c = rw (record_as_law f s.goal e)
    other_step k_type e nl ns na nb nw nm nr nt c = rw (record_as_law f s.goal e)
    other_step k_functor e nl ns na nb nw nm nr nt c = rw (record_as_law f s.goal e)
    other_step k_procedure e nl ns na nb nw nm nr nt c = rw (record_as_law f s.goal e)
    other_step k_variable e nl ns na nb nw nm nr nt c = rw (record_as_law f s.goal e)
    other_step k_region e nl ns na nb nw nm nr nt c = rw (record_as_law f s.goal e)
    other_step k_edge e nl ns na nb nw nm nr nt c = rw (record_as_law f s.goal e)
    other_step k_arm e nl ns na nb nw nm nr nt c = rw (record_as_law f s.goal e)
    other_step k_argument e nl ns na nb nw nm nr nt c = rw (record_as_law f s.goal e)
    other_step (k_goal k_literal) e nl ns na nb nw nm nr nt c = absurd (nl (ew ∙ goal_number _ k_literal e))
    other_step (k_goal k_sum) e nl ns na nb nw nm nr nt c = absurd (ns (ew ∙ goal_number _ k_sum e))
    other_step (k_goal k_assign) e nl ns na nb nw nm nr nt c = absurd (na (ew ∙ goal_number _ k_assign e))
    other_step (k_goal k_construct) e nl ns na nb nw nm nr nt c = absurd (nb (ew ∙ goal_number _ k_construct e))
    other_step (k_goal k_switch) e nl ns na nb nw nm nr nt c = absurd (nw (ew ∙ goal_number _ k_switch e))
    other_step (k_goal k_if) e nl ns na nb nw nm nr nt c = rw (record_as_law f s.goal e)
    other_step (k_goal k_call) e nl ns na nb nw nm nr nt c = rw (record_as_law f s.goal e)
    other_step (k_goal k_print) e nl ns na nb nw nm nr nt c = rw (record_as_law f s.goal e)
    other_step (k_goal k_create) e nl ns na nb nw nm nr nt c = absurd (nm (ew ∙ goal_number _ k_create e))
    other_step (k_goal k_remove) e nl ns na nb nw nm nr nt c = absurd (nr (ew ∙ goal_number _ k_remove e))
    other_step (k_goal k_try) e nl ns na nb nw nm nr nt c = rw (record_as_law f s.goal e)
    other_step (k_goal k_test) e nl ns na nb nw nm nr nt c = absurd (nt (ew ∙ goal_number _ k_test e))

    pub other_in : (w ≡ literal_kind → ⊥) → (w ≡ sum_kind → ⊥) → (w ≡ assign_kind → ⊥) → (w ≡ construct_kind → ⊥) → (w ≡ switch_kind → ⊥)
        → (w ≡ create_kind → ⊥) → (w ≡ remove_kind → ⊥) → (w ≡ test_kind → ⊥) → GoesIn f T s h n m rs fw log (Ok (On h s.goal n)) m rs fw log
    unfolding words_of
    other_in nl ns na nb nw nm nr nt =
        goes_on_in f T s h n m rs fw log h s.goal n m rs fw log
        (λ ps c I. record {
          next = c;
          is = other_step _ refl nl ns na nb nw nm nr nt c ∙ still_in ps c I;
          inside = record { words = I.words; count = I.count; logs = I.logs };
          own = refl;
          then_part = refl;
          else_part = refl;
        }) (refl, refl) (omega arith) (λ ps. passes_by f s.goal _ w ew nt)
