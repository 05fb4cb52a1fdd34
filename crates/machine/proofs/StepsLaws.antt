-- What each kind of goal comes to, from what its function promises.
use Rattle.std.specs.Prelude.{Result, Ok, Err}
use Prim.Native.Nat.{ℕ, suc, ◌+◌, ◌-◌, ◌*◌, ◌≤◌, ◌<◌}
use native.Mathlib.Omega.{arith}
use mathlib.Core.Path.{◌≡◌, refl, sym, ap, ◌∙◌}
use mathlib.Core.Bool.{Bool, true, false}
use mathlib.Core.List.{List}
use borrow.Author.Tests.{lt-ltb, le-ltb}
use lib.IntN.{ℤ}
use lib.ListN.{length, set}
use mir.Syntax.{w32}
use mir.Val.{to_z}
use Rattle.language.specs.Lists.{nth, choose}
use Rattle.language.specs.File.{Kind, k_none, k_header, k_type, k_functor, k_procedure, k_variable, k_region, k_edge, k_arm, k_argument, k_goal, k_literal, k_sum, k_assign, k_construct, k_switch, k_if, k_call, k_print, k_create, k_remove, k_try, k_test, kinds, kind_of, row, row_in, word}
use Rattle.language.specs.Format.{kind_word, next_word, goal_x, literal_value, sum_operation, sum_y, sum_z, assign_y, switch_arms, if_y, if_z, if_then, if_else, call_procedure, call_arguments, print_y, literal_kind, sum_kind, assign_kind, construct_kind, switch_kind, if_kind, call_kind, print_kind, create_kind, remove_kind, try_kind, test_kind, test_y, test_z}
use Rattle.language.specs.Numbers.{residue, in_range, less}
use Rattle.language.specs.Machine.{Room, holds}
use Rattle.language.specs.declared.Stop.{Stop}
use Rattle.language.specs.declared.Stop.TheVariants.{Frames, Prints, Sums}
use Rattle.records.specs.Records.{record_at, record_as_law}
use Rattle.records.specs.declared.Record.TheVariants.{Literal, Sum, Assign, Switch, If, Call, Print, Test}
use Rattle.chains.specs.Records.{chain_records}
use Rattle.chains.specs.Shapes.{goal_number}
use Rattle.memory.specs.declared.Heap.{Heap}
use Rattle.memory.specs.Memory.{constants_from, cell_word}
use Rattle.word_machine.specs.Tables.{Tables, onto}
use Rattle.word_machine.specs.Machine.{print_words, Went, went, stops, frame_words, literal_word, given, sums, with_frames, value_of, prints_word, if_room, arm_of, switches, switches_on, enters_arm, arm_words, calls, callee_words, steps}
use Rattle.machine.specs.declared.State.{State}
use Rattle.machine.specs.declared.Step.{Step}
use Rattle.machine.specs.declared.Step.TheVariants.{Went as WentTo, Tries}
use Rattle.machine.specs.Words.{FramePlaced, words_of, came_to, onward_to, onward_placed, Goes, GoesOrTries}
use Rattle.machine.specs.GoalWords.{value_in, sum_at, arguments_from, words_from, functor_in, arm_for, arm_values, term_values}
use Rattle.machine.specs.Steps.{of_kind}

-- ---- the record by the number of its kind, w
module _ (f : List ℕ) (i w : ℕ) (ew : w ≡ word f i kind_word) where
  pub literal_record : w ≡ literal_kind → record_at f i ≡ Literal (word f i next_word) (word f i goal_x) (word f i literal_value)
  unfolding kind_of kinds nth
  literal_record z = of_kind f i w ew literal_kind (k_goal k_literal) refl z

  pub sum_record : w ≡ sum_kind → record_at f i ≡ Sum (word f i next_word) (word f i goal_x) (word f i sum_operation) (word f i sum_y) (word f i sum_z)
  unfolding kind_of kinds nth
  sum_record z = of_kind f i w ew sum_kind (k_goal k_sum) refl z

  pub assign_record : w ≡ assign_kind → record_at f i ≡ Assign (word f i next_word) (word f i goal_x) (word f i assign_y)
  unfolding kind_of kinds nth
  assign_record z = of_kind f i w ew assign_kind (k_goal k_assign) refl z

  pub switch_record : w ≡ switch_kind → record_at f i ≡ Switch (word f i next_word) (word f i goal_x) (word f i switch_arms)
  unfolding kind_of kinds nth
  switch_record z = of_kind f i w ew switch_kind (k_goal k_switch) refl z

  pub if_record : w ≡ if_kind → record_at f i ≡ If (word f i next_word) (word f i if_y) (word f i if_z) (word f i if_then) (word f i if_else)
  unfolding kind_of kinds nth
  if_record z = of_kind f i w ew if_kind (k_goal k_if) refl z

  pub call_record : w ≡ call_kind → record_at f i ≡ Call (word f i next_word) (word f i call_procedure) (word f i call_arguments)
  unfolding kind_of kinds nth
  call_record z = of_kind f i w ew call_kind (k_goal k_call) refl z

  pub print_record : w ≡ print_kind → record_at f i ≡ Print (word f i next_word) (word f i print_y)
  unfolding kind_of kinds nth
  print_record z = of_kind f i w ew print_kind (k_goal k_print) refl z

  pub test_record : w ≡ test_kind → record_at f i ≡ Test (word f i next_word) (word f i test_y) (word f i test_z)
  unfolding kind_of kinds nth
  test_record z = of_kind f i w ew test_kind (k_goal k_test) refl z

-- ---- answers told apart
unfoldable told : Result Step Stop → ℕ
told (Ok (WentTo t)) = 0
told (Err d) = 1
told (Ok Tries) = 2

pub went_tries : (v : State) → ◌≡◌ {A = Result Step Stop} (Ok (WentTo v)) (Ok Tries) → ⊥
unfolding told
went_tries v e = let z : ◌≡◌ {A = ℕ} 0 2 = ap told e in omega arith

pub stops_tries : (q : Stop) → ◌≡◌ {A = Result Step Stop} (Err q) (Ok Tries) → ⊥
unfolding told
stops_tries q e = let z : ◌≡◌ {A = ℕ} 1 2 = ap told e in omega arith

-- ---- a goal that leaves the heap alone
stopped_not : (s : State) (c : Stop) → ◌≡◌ {A = Result Step Stop} (Ok (WentTo s)) (Err c) → ⊥
unfolding told
stopped_not s c e = let z : ◌≡◌ {A = ℕ} 0 1 = ap told e in omega arith

-- what went on came to one state
went_same : (v t : State) → ◌≡◌ {A = Result Step Stop} (Ok (WentTo v)) (Ok (WentTo t)) → v ≡ t
went_same v t e = cc

-- the words have frame k whole, if they hold more than k
pub room_for : (n k : ℕ) → k < holds n frame_words → frame_words * suc k ≤ n
unfolding holds
room_for n k l = omega arith

-- .. and the callee's, if there is room for one frame more
pub step_fits : (s : State) (n limit : ℕ) → FramePlaced s n → limit ≡ holds n frame_words → suc s.top < limit → s.at + 2 * frame_words ≤ n
step_fits s n limit D e l = omega (arith, D.place, room_for n (suc s.top) (rw (← e) l))

module _ (f : List ℕ) (T : Tables) (s : State) (m fw ps : List ℕ) where
  -- the state as a function gives it
  pub goes_same : (u v : State) (fx px : List ℕ) → u ≡ v → Goes f T s m fw ps (Ok (WentTo v)) fx px → Goes f T s m fw ps (Ok (WentTo u)) fx px
  goes_same u v fx px e g = rw e g

module _ (f : List ℕ) (T : Tables) (s : State) (m fw ps : List ℕ) (D : FramePlaced s (length fw)) where
  abbrev Steps : Room → Heap → List ℕ → Went
  Steps k h rs = steps f T k s.goal (record_at f s.goal) (words_of h m rs fw ps s)

  -- it went on, whatever the heap is
  pub goes_on_law : (v : State) (fx px : List ℕ) → ((k : Room) (h : Heap) (rs : List ℕ) → went (words_of h m rs fx px v) ≡ Steps k h rs)
      → FramePlaced v (length fw) → Goes f T s m fw ps (Ok (WentTo v)) fx px
  unfolding came_to
  goes_on_law v fx px e d = record { comes = λ k h rs a b. e k h rs; kept = λ c z. absurd (stopped_not v c z); stays = λ t z. rw (← went_same v t z) d; done = went_tries v }

  module _ (w next : ℕ) (ew : w ≡ word f s.goal kind_word) (en : next ≡ T.successor s.goal) where
    literal_step : (k : Room) (h : Heap) (rs fx : List ℕ) → w ≡ literal_kind → fx ≡ set fw (s.at + word f s.goal goal_x) (literal_word (word f s.goal literal_value))
        → went (words_of h m rs fx ps (onward_to s next)) ≡ Steps k h rs
    unfolding steps given with_frames words_of
    literal_step k h rs fx z ex = rw (literal_record f s.goal w ew z, ex, en, D.place)

    pub literal_goes : (fx : List ℕ) → w ≡ literal_kind → fx ≡ set fw (s.at + word f s.goal goal_x) (literal_word (word f s.goal literal_value))
        → Goes f T s m fw ps (Ok (WentTo (onward_to s next))) fx ps
    literal_goes fx z ex = goes_on_law _ fx ps (λ k h rs. literal_step k h rs fx z ex) (onward_placed _ D)

    assign_step : (k : Room) (h : Heap) (rs fx : List ℕ) → w ≡ assign_kind → fx ≡ set fw (s.at + word f s.goal goal_x) (value_in s.at fw (word f s.goal assign_y))
        → went (words_of h m rs fx ps (onward_to s next)) ≡ Steps k h rs
    unfolding steps given with_frames words_of value_of
    assign_step k h rs fx z ex = rw (assign_record f s.goal w ew z, ex, en, D.place)

    pub assign_goes : (fx : List ℕ) → w ≡ assign_kind → fx ≡ set fw (s.at + word f s.goal goal_x) (value_in s.at fw (word f s.goal assign_y))
        → Goes f T s m fw ps (Ok (WentTo (onward_to s next))) fx ps
    assign_goes fx z ex = goes_on_law _ fx ps (λ k h rs. assign_step k h rs fx z ex) (onward_placed _ D)

    if_step : (k : Room) (h : Heap) (rs : List ℕ) (a g : ℕ) → w ≡ if_kind
        → a ≡ choose (less (to_z w32 (value_in s.at fw (word f s.goal if_y))) (to_z w32 (value_in s.at fw (word f s.goal if_z)))) (word f s.goal if_then) (word f s.goal if_else)
        → g ≡ onto a next → went (words_of h m rs fw ps (onward_to s g)) ≡ Steps k h rs
    unfolding steps with_frames words_of value_of
    if_step k h rs a g z ea eg = rw (if_record f s.goal w ew z, eg, ea, en, D.place)

    pub if_goes : (a g : ℕ) → w ≡ if_kind
        → a ≡ choose (less (to_z w32 (value_in s.at fw (word f s.goal if_y))) (to_z w32 (value_in s.at fw (word f s.goal if_z)))) (word f s.goal if_then) (word f s.goal if_else)
        → g ≡ onto a next → Goes f T s m fw ps (Ok (WentTo (onward_to s g))) fw ps
    if_goes a g z ea eg = goes_on_law _ fw ps (λ k h rs. if_step k h rs a g z ea eg) (onward_placed _ D)

    -- ---- a sum, v in full
    sum_step : (k : Room) (h : Heap) (rs fx : List ℕ) (v : ℤ) → w ≡ sum_kind → v ≡ sum_at f s.goal s.at fw → in_range v ≡ true
        → fx ≡ set fw (s.at + word f s.goal goal_x) (residue v) → went (words_of h m rs fx ps (onward_to s next)) ≡ Steps k h rs
    unfolding steps sums if_room given with_frames words_of value_of
    sum_step k h rs fx v z ev l ex = rw (sum_record f s.goal w ew z, ← D.place, ← ev, l, ex, en)

    pub sum_goes : (fx : List ℕ) (v : ℤ) → w ≡ sum_kind → v ≡ sum_at f s.goal s.at fw → in_range v ≡ true
        → fx ≡ set fw (s.at + word f s.goal goal_x) (residue v) → Goes f T s m fw ps (Ok (WentTo (onward_to s next))) fx ps
    sum_goes fx v z ev l ex = goes_on_law _ fx ps (λ k h rs. sum_step k h rs fx v z ev l ex) (onward_placed _ D)

    -- ---- a print
    print_step : (k : Room) (h : Heap) (rs px : List ℕ) (v : ℕ) → w ≡ print_kind → v ≡ value_in s.at fw (word f s.goal print_y) → px ≡ set ps s.printed v
        → s.printed < k.prints → went (words_of h m rs fw px (record { top = s.top; at = s.at; goal = next; printed = s.printed + 1 })) ≡ Steps k h rs
    unfolding steps if_room prints_word words_of value_of
    print_step k h rs px v z ev ex l =
        let o : s.printed + 1 ≡ suc s.printed = omega arith in rw (print_record f s.goal w ew z, lt-ltb s.printed k.prints l, ex, ev, en, o, D.place)

    pub print_goes : (px : List ℕ) (v limit : ℕ) → w ≡ print_kind → v ≡ value_in s.at fw (word f s.goal print_y) → px ≡ set ps s.printed v → limit ≡ holds (length ps) print_words
        → s.printed < limit → Goes f T s m fw ps (Ok (WentTo (record { top = s.top; at = s.at; goal = next; printed = s.printed + 1 }))) fw px
    unfolding came_to
    print_goes px v limit z ev ex el l =
        record {
          comes = λ k h rs a b. print_step k h rs px v z ev ex (rw (b ∙ sym el) l);
          kept = λ c e. absurd (stopped_not _ c e);
          stays = λ t e. rw (← went_same _ t e) (record { place = D.place; fits = D.fits });
          done = went_tries _;
        }

  module _ (w : ℕ) (ew : w ≡ word f s.goal kind_word) where
    -- by X's word, v: a cell, or a constant
    switch_as : (h : Heap) (rs fx : List ℕ) (b : Bool) (v cs j g : ℕ) → j ≡ arm_of f (choose b (cell_word m v 0) (v - constants_from)) (chain_records f cs)
        → fx ≡ choose b (arm_values f j v s.at m fw) fw → g ≡ T.entry j → words_of h m rs fx ps (onward_to s g) ≡ switches_on f T b (words_of h m rs fw ps s) v cs
    unfolding switches_on enters_arm arm_words with_frames words_of arm_values arguments_from words_from choose
    switch_as h rs fx true v cs j g ej ex eg = rw (eg, ex, ej, D.place)
    switch_as h rs fx false v cs j g ej ex eg = rw (eg, ex, ej)

    switch_step : (k : Room) (h : Heap) (rs fx : List ℕ) (j g : ℕ) → w ≡ switch_kind → j ≡ arm_for f s.goal s.at m fw
        → fx ≡ term_values f j (value_in s.at fw (word f s.goal goal_x)) s.at m fw → g ≡ T.entry j
        → went (words_of h m rs fx ps (onward_to s g)) ≡ Steps k h rs
    unfolding steps switches switches_on value_of arm_for functor_in term_values words_of
    switch_step k h rs fx j g z ej ex eg = rw (switch_record f s.goal w ew z, ← D.place) (ap went (switch_as h rs fx _ _ _ j g ej ex eg))

    pub switch_goes : (fx : List ℕ) (j g : ℕ) → w ≡ switch_kind → j ≡ arm_for f s.goal s.at m fw
        → fx ≡ term_values f j (value_in s.at fw (word f s.goal goal_x)) s.at m fw → g ≡ T.entry j
        → Goes f T s m fw ps (Ok (WentTo (onward_to s g))) fx ps
    switch_goes fx j g z ej ex eg = goes_on_law _ fx ps (λ k h rs. switch_step k h rs fx j g z ej ex eg) (onward_placed _ D)

    sum_stop : (k : Room) (h : Heap) (rs : List ℕ) (v : ℤ) → w ≡ sum_kind → v ≡ sum_at f s.goal s.at fw → in_range v ≡ false → stops Sums ≡ Steps k h rs
    unfolding steps sums if_room words_of value_of
    sum_stop k h rs v z ev l = rw (sum_record f s.goal w ew z, ← D.place, ← ev, l)

    pub sum_stops : (v : ℤ) → w ≡ sum_kind → v ≡ sum_at f s.goal s.at fw → in_range v ≡ false → Goes f T s m fw ps (Err Sums) fw ps
    unfolding came_to
    sum_stops v z ev l = record { comes = λ k h rs a b. sum_stop k h rs v z ev l; kept = λ c e. (refl, refl); stays = λ t e. absurd (stopped_not t _ (sym e)); done = stops_tries _ }

    print_stop : (k : Room) (h : Heap) (rs : List ℕ) → w ≡ print_kind → k.prints ≤ s.printed → stops Prints ≡ Steps k h rs
    unfolding steps if_room words_of
    print_stop k h rs z l = rw (print_record f s.goal w ew z, le-ltb s.printed k.prints l)

    pub print_stops : (limit : ℕ) → w ≡ print_kind → limit ≡ holds (length ps) print_words → limit ≤ s.printed → Goes f T s m fw ps (Err Prints) fw ps
    unfolding came_to
    print_stops limit z el l = record { comes = λ k h rs a b. print_stop k h rs z (rw (b ∙ sym el) l); kept = λ c e. (refl, refl); stays = λ t e. absurd (stopped_not t _ (sym e)); done = stops_tries _ }

    -- ---- a call
    call_step : (k : Room) (h : Heap) (rs fx : List ℕ) (g t p : ℕ) → w ≡ call_kind → g ≡ T.body (word f s.goal call_procedure)
        → fx ≡ callee_words f T s.top s.goal (word f s.goal call_procedure) fw → t ≡ suc s.top → suc s.top < k.frames
        → went (words_of h m rs fx ps (record { top = t; at = p; goal = g; printed = s.printed })) ≡ Steps k h rs
    unfolding steps if_room calls words_of
    call_step k h rs fx g t p z eg ex et l = rw (call_record f s.goal w ew z, lt-ltb (suc s.top) k.frames l, ex, eg, et)

    pub call_goes : (fx : List ℕ) (g t p limit : ℕ) → w ≡ call_kind → g ≡ T.body (word f s.goal call_procedure)
        → fx ≡ callee_words f T s.top s.goal (word f s.goal call_procedure) fw → t ≡ suc s.top → p ≡ s.at + frame_words → limit ≡ holds (length fw) frame_words → suc s.top < limit
        → Goes f T s m fw ps (Ok (WentTo (record { top = t; at = p; goal = g; printed = s.printed }))) fx ps
    unfolding came_to
    call_goes fx g t p limit z eg ex et ep el l =
        record {
          comes = λ k h rs a b. call_step k h rs fx g t p z eg ex et (rw (a ∙ sym el) l);
          kept = λ c e. absurd (stopped_not _ c e);
          stays = λ v e. rw (← went_same _ v e) (record { place = omega (arith, D.place); fits = omega (arith, D.place, room_for (length fw) (suc s.top) (rw (← el) l)) });
          done = went_tries _;
        }

    call_stop : (k : Room) (h : Heap) (rs : List ℕ) → w ≡ call_kind → k.frames ≤ suc s.top → stops Frames ≡ Steps k h rs
    unfolding steps if_room words_of
    call_stop k h rs z l = rw (call_record f s.goal w ew z, le-ltb (suc s.top) k.frames l)

    pub call_stops : (limit : ℕ) → w ≡ call_kind → limit ≡ holds (length fw) frame_words → limit ≤ suc s.top → Goes f T s m fw ps (Err Frames) fw ps
    unfolding came_to
    call_stops limit z el l = record { comes = λ k h rs a b. call_stop k h rs z (rw (a ∙ sym el) l); kept = λ c e. (refl, refl); stays = λ t e. absurd (stopped_not t _ (sym e)); done = stops_tries _ }

    -- ---- what is no goal: nothing changes. nl, ns, na, nb, nw, ni, nc, np, nm, nr and nt: no literal, sum, assign, construct, switch, if, call, print, create, remove, try
    else_step : (k : Room) (h : Heap) (rs : List ℕ) (K : Kind) → kind_of (word f s.goal kind_word) ≡ K → (w ≡ literal_kind → ⊥) → (w ≡ sum_kind → ⊥) → (w ≡ assign_kind → ⊥) → (w ≡ construct_kind → ⊥) → (w ≡ switch_kind → ⊥)
        → (w ≡ if_kind → ⊥) → (w ≡ call_kind → ⊥) → (w ≡ print_kind → ⊥) → (w ≡ create_kind → ⊥) → (w ≡ remove_kind → ⊥) → (w ≡ try_kind → ⊥) → went (words_of h m rs fw ps s) ≡ Steps k h rs
    unfolding steps row row_in
    else_step k h rs k_none e nl ns na nb nw ni nc np nm nr nt = rw (record_as_law f s.goal e)
    else_step k h rs k_header e nl ns na nb nw ni nc np nm nr nt = rw (record_as_law f s.goal e)
    else_step k h rs k_type e nl ns na nb nw ni nc np nm nr nt = rw (record_as_law f s.goal e)
    else_step k h rs k_functor e nl ns na nb nw ni nc np nm nr nt = rw (record_as_law f s.goal e)
    else_step k h rs k_procedure e nl ns na nb nw ni nc np nm nr nt = rw (record_as_law f s.goal e)
    else_step k h rs k_variable e nl ns na nb nw ni nc np nm nr nt = rw (record_as_law f s.goal e)
    else_step k h rs k_region e nl ns na nb nw ni nc np nm nr nt = rw (record_as_law f s.goal e)
    else_step k h rs k_edge e nl ns na nb nw ni nc np nm nr nt = rw (record_as_law f s.goal e)
    else_step k h rs k_arm e nl ns na nb nw ni nc np nm nr nt = rw (record_as_law f s.goal e)
    else_step k h rs k_argument e nl ns na nb nw ni nc np nm nr nt = rw (record_as_law f s.goal e)
    else_step k h rs (k_goal k_literal) e nl ns na nb nw ni nc np nm nr nt = absurd (nl (ew ∙ goal_number _ k_literal e))
    else_step k h rs (k_goal k_sum) e nl ns na nb nw ni nc np nm nr nt = absurd (ns (ew ∙ goal_number _ k_sum e))
    else_step k h rs (k_goal k_assign) e nl ns na nb nw ni nc np nm nr nt = absurd (na (ew ∙ goal_number _ k_assign e))
    else_step k h rs (k_goal k_construct) e nl ns na nb nw ni nc np nm nr nt = absurd (nb (ew ∙ goal_number _ k_construct e))
    else_step k h rs (k_goal k_switch) e nl ns na nb nw ni nc np nm nr nt = absurd (nw (ew ∙ goal_number _ k_switch e))
    else_step k h rs (k_goal k_if) e nl ns na nb nw ni nc np nm nr nt = absurd (ni (ew ∙ goal_number _ k_if e))
    else_step k h rs (k_goal k_call) e nl ns na nb nw ni nc np nm nr nt = absurd (nc (ew ∙ goal_number _ k_call e))
    else_step k h rs (k_goal k_print) e nl ns na nb nw ni nc np nm nr nt = absurd (np (ew ∙ goal_number _ k_print e))
    else_step k h rs (k_goal k_create) e nl ns na nb nw ni nc np nm nr nt = absurd (nm (ew ∙ goal_number _ k_create e))
    else_step k h rs (k_goal k_remove) e nl ns na nb nw ni nc np nm nr nt = absurd (nr (ew ∙ goal_number _ k_remove e))
    else_step k h rs (k_goal k_try) e nl ns na nb nw ni nc np nm nr nt = absurd (nt (ew ∙ goal_number _ k_try e))
    else_step k h rs (k_goal k_test) e nl ns na nb nw ni nc np nm nr nt = rw (record_as_law f s.goal e)

    pub else_goes : (w ≡ literal_kind → ⊥) → (w ≡ sum_kind → ⊥) → (w ≡ assign_kind → ⊥) → (w ≡ construct_kind → ⊥) → (w ≡ switch_kind → ⊥) → (w ≡ if_kind → ⊥) → (w ≡ call_kind → ⊥) → (w ≡ print_kind → ⊥) → (w ≡ create_kind → ⊥) → (w ≡ remove_kind → ⊥) → (w ≡ try_kind → ⊥)
        → Goes f T s m fw ps (Ok (WentTo s)) fw ps
    else_goes nl ns na nb nw ni nc np nm nr nt = goes_on_law s fw ps (λ k h rs. else_step k h rs _ refl nl ns na nb nw ni nc np nm nr nt) D

-- ---- what a goal comes to that may be a try
module _ (f : List ℕ) (T : Tables) (s : State) (m fw ps : List ℕ) where
  pub goes_comes : (r : Result Step Stop) (fx px : List ℕ) → Goes f T s m fw ps r fx px → GoesOrTries f T s m fw ps r fx px
  goes_comes r fx px g = record { goes = λ n. g; tries = λ e. absurd (g.done e) }

  pub try_comes : (w : ℕ) → w ≡ word f s.goal kind_word → w ≡ try_kind → GoesOrTries f T s m fw ps (Ok Tries) fw ps
  try_comes w ew z = record { goes = λ n. absurd (n refl); tries = λ e. (sym ew ∙ z, refl, refl) }
