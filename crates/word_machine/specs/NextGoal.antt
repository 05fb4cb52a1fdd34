-- The newest frame's next goal, whichever it is.
use Prim.Native.Nat.{ℕ, zero, suc, ◌≤◌}
use Rattle.std.specs.Prelude.{◌≡◌, Bool, true, false, List, ◌∷◌}
use Rattle.std.proofs.Math.Path.{refl}
use Rattle.std.proofs.Common.{ap, ◌∙◌}
use Rattle.std.proofs.lemmas.Bool.{false≢true}
use Rattle.sets.specs.Tests.{◌or◌, and_true}
use Rattle.language.specs.Lists.{is_none}
use Rattle.language.specs.File.{GoalKind, k_literal, k_sum, k_assign, k_construct, k_switch, k_if, k_call, k_print, k_create, k_remove, k_try, k_test, k_goal, word}
use Rattle.language.specs.Program.{four, arguments_of, Goals, ◌then◌, Goal, try, type_of, region_of}
use Rattle.language.specs.Typing.{functors_for, arguments_ok, step_ok, goal_ok}
use Rattle.language.specs.Regions.{goal_regions}
use Rattle.language.specs.Format.{max_records}
use Rattle.language.specs.Conditions.{step_stands, goal_stands}
use Rattle.language.specs.Frames.{closed, with_goals, sum_of, fits_step}
use Rattle.language.specs.AcceptedRun.{RegionFrame, Memory, with_frame, region_for, allowed}
use Rattle.language.specs.Machine.{Room, counted, counted_in, outlook_for}
use Rattle.language.specs.Answers.{program}
use Rattle.region_graph.specs.Typed.{arguments_regioned}
use Rattle.region_graph.specs.Procedure.{cell_region}
use Rattle.region_graph.specs.Shared.{variable_top}
use Rattle.records.specs.Records.{record_as, record_at}
use Rattle.records.specs.declared.Record.TheVariants.{Literal, Sum, Assign, Construct, Switch, If, Call, Print, Create, Remove, Try, Test}
use Rattle.chains.specs.Formed.{Formed, goals_at, arms_at}
use Rattle.word_machine.specs.GoalKinds.{goal_is}
use Rattle.chains.specs.Goals.{literal_at, sum_at_law, assign_at, construct_at, print_at, create_at, remove_at, test_at}
use Rattle.chains.specs.Parts.{switch_at, if_at, try_at, call_at}
use Rattle.safety.specs.Premises.{Accepted, fit, laws}
use Rattle.safety.specs.Variables.{type_in, types_variables}
use Rattle.safety.specs.Invariant.{Inv}
use Rattle.word_machine.specs.Tables.{Tables, Tabled}
use Rattle.word_machine.specs.Machine.{MachineWords, steps}
use Rattle.word_machine.specs.Trimmed.{no_arguments, first_argument}
use Rattle.word_machine.specs.Successors.{GoalOnward, todo_next}
use Rattle.word_machine.specs.Premises.{next_typed, next_regioned, next_allowed, sum_numbers, print_number, if_numbers, switch_found}
use Rattle.word_machine.specs.Relation.{where_in, sig, FrameOk, Waiting, MemoryStored}
use Rattle.word_machine.specs.Links.{linked}
use Rattle.word_machine.specs.Stepping.{frame_goals}
use Rattle.word_machine.specs.Steps.{After, literal_after, sum_after, assign_after}
use Rattle.word_machine.specs.MemorySteps.{print_after, create_after, remove_after, constant_after, construct_after}
use Rattle.layout.specs.Sizes.{goals_size}
use Rattle.word_machine.specs.ControlSteps.{if_after, call_after, switch_after}
use Rattle.word_machine.specs.Trying.{try_after}

module _ {f : List ℕ} {T : Tables} (B : Tabled f T) (A : Accepted (program f)) (F : Formed f) (K : Room) (qs : List ℕ) (w : MachineWords) (e : RegionFrame)
    (fs : List RegionFrame) (m : Memory) (ρ χ : ℕ → ℕ) (i : ℕ) (G : FrameOk B w.frames w.top (where_in m ρ χ) i e)
    (W : Waiting B w.frames (where_in m ρ χ) e.frame.procedure e.frame.arguments w.top fs) (Q : MemoryStored K qs w m ρ χ)
    (I : Inv (program f) e fs m) (g : Goal) (rest : Goals) (q : e.frame.goals ≡ g then rest)
    (stands : goal_stands false g ≡ true) (short : (t a b : Goals) → g ≡ try t a b → goals_size t ≤ max_records) where
  O : GoalOnward B e.frame.procedure i g rest
  O = todo_next B G.todo g rest q

  -- the frame without its goal
  abbrev u : RegionFrame
  u = with_frame e (with_goals e.frame rest)

  G' : FrameOk B w.frames w.top (where_in m ρ χ) (T.successor i) u
  G' = frame_goals B A G O.then'

  W' : Waiting B w.frames (where_in m ρ χ) u.frame.procedure u.frame.arguments w.top fs
  unfolding with_frame with_goals
  W' = W

  abbrev Goes : Goal → Type 0
  Goes a = After B A F K qs closed a u fs m (outlook_for K a e (record { frames = e ∷ fs; memory = m; condition = closed })) (steps f T K i (record_at f i) w)

  -- the goal is a; what number 3 says of it
  typed : (a : Goal) → g ≡ a → goal_ok (program f) (sig f e.frame.procedure) a ≡ true
  typed a z = rw z at (next_typed A e fs m I g rest q)

  goals_are : (a : Goal) → g ≡ a → e.frame.goals ≡ a then rest
  goals_are a z = q ∙ ap (λ b. b then rest) z

  -- a construct with arguments is one in a region that is alive
  some_alive : (ys : List ℕ) {y : ℕ} {zs : List ℕ} (b : Bool) → ys ≡ y ∷ zs → is_none ys or b ≡ true → b ≡ true
  unfolding is_none ◌or◌
  some_alive ys b q h = rw q at h

  is_literal : (n x v : ℕ) → record_at f i ≡ Literal n x v → Goes g
  unfolding outlook_for steps goal_ok step_ok with_frame with_goals
  is_literal n x v r =
      let z = O.is ∙ (literal_at F refl r).goal in
      rw (z, r) (literal_after B A F K qs w u fs m ρ χ i G' W' Q x v (type_in _ 0 x (typed _ z)).0)

  is_sum : (n x o y k : ℕ) → record_at f i ≡ Sum n x o y k → Goes g
  unfolding outlook_for fits_step sum_of steps goal_ok step_ok with_frame with_goals
  is_sum n x o y k r =
      let z = O.is ∙ (sum_at_law F refl r).goal in
      let t = and_true (typed _ z) in
      let s = and_true (and_true t.1).1 in
      let N = sum_numbers A e fs m I x o y k rest (goals_are _ z) in
      rw (z, r)
      (sum_after B A F K qs w u fs m ρ χ i G' W' Q x o y k (type_in _ 0 x t.0).0 (type_in _ 0 y s.0).0 (type_in _ 0 k s.1).0 N.0 N.1)

  is_assign : (n x y : ℕ) → record_at f i ≡ Assign n x y → Goes g
  unfolding outlook_for steps goal_ok step_ok with_frame with_goals
  is_assign n x y r =
      let z = O.is ∙ (assign_at F refl r).goal in
      let t = and_true (typed _ z) in
      rw (z, r) (assign_after B A F K qs w u fs m ρ χ i G' W' Q x y t.0 (type_in _ _ y t.1).0)

  -- without arguments a construct touches no region
  is_construct : (n x k a b c d : ℕ) → record_at f i ≡ Construct n x k a b c d → Goes g
  unfolding outlook_for counted counted_in steps goal_ok step_ok functors_for arguments_ok allowed with_frame with_goals region_for
  is_construct n x k zero b c d r =
      let z = O.is ∙ (construct_at F refl r).goal in
      let t = and_true (typed _ z) in
      let v = types_variables _ _ (arguments_of (four zero b c d)) (and_true t.1).1 in
      let o = no_arguments b c d (λ y h. variable_top _ _ (laws A e.frame.procedure) y (v y h)) in
      rw (z, r) (constant_after B A F K qs w u fs m ρ χ i G' W' Q x k b c d o t.0 (T.region i))
  is_construct n x k (suc a) b c d r =
      let z = O.is ∙ (construct_at F refl r).goal in
      let t = and_true (typed _ z) in
      let s = (and_true t.1).1 in
      let o = first_argument a b c d in
      let l = arguments_regioned (program f).types _ (type_of (sig f e.frame.procedure) x) k (suc a) _ (rw o at s) in
      let h : T.region i ≡ region_of (sig f e.frame.procedure) x = rw O.mine at (B.region i n x k a b c d r) in
      rw (z, r)
      (construct_after B A F K qs w u fs m ρ χ i G' W' Q x k a b c d (T.region i) t.0 (types_variables _ _ (arguments_of (four (suc a) b c d)) s) h
      (cell_region _ _ (fit A e.frame.procedure).typed x l).0 (some_alive _ _ o (next_allowed A e fs m I _ rest (goals_are _ z))))

  is_switch : (n x cs : ℕ) → record_at f i ≡ Switch n x cs → Goes g
  unfolding outlook_for steps goal_ok allowed with_frame with_goals
  is_switch n x cs r =
      let z = O.is ∙ (switch_at F refl r).goal in
      rw (z, r)
      (switch_after B A F K qs w u fs m ρ χ i O.mine G' W' Q n x cs r (and_true (typed _ z)).0 (next_allowed A e fs m I _ rest (goals_are _ z))
      (switch_found A e fs m I x (arms_at f cs) rest (goals_are _ z)))

  is_if : (n y k a b : ℕ) → record_at f i ≡ If n y k a b → Goes g
  unfolding outlook_for steps goal_ok with_frame with_goals
  is_if n y k a b r =
      let z = O.is ∙ (if_at F refl r).goal in
      let t = and_true (typed _ z) in
      let s = and_true t.1 in
      let N = if_numbers A e fs m I y k (goals_at f a) (goals_at f b) rest (goals_are _ z) in
      rw (z, r)
      (if_after B A F K qs w u fs m ρ χ i O.mine G' W' Q n y k a b r (type_in _ 0 y t.0).0 (type_in _ 0 k s.0).0 N.0 N.1)

  is_call : (n p ys : ℕ) → record_at f i ≡ Call n p ys → Goes g
  unfolding outlook_for steps goal_ok goal_regions with_frame with_goals
  is_call n p ys r =
      let z = O.is ∙ (call_at F refl r).goal in
      let N = linked B A F i n p ys r (rw O.mine (typed _ z)) (rw O.mine (next_regioned A e fs m I _ rest (goals_are _ z))) in
      rw (z, r) (call_after B A F K qs w u fs m ρ χ i O.mine G' W' Q p ys (rw O.mine at N))

  is_print : (n y : ℕ) → record_at f i ≡ Print n y → Goes g
  unfolding outlook_for steps goal_ok step_ok with_frame with_goals
  is_print n y r =
      let z = O.is ∙ (print_at F refl r).goal in
      rw (z, r) (print_after B A F K qs w u fs m ρ χ i G' W' Q y (type_in _ 0 y (typed _ z)).0 (print_number A e fs m I y rest (goals_are _ z)))

  is_create : (n r : ℕ) → record_at f i ≡ Create n r → Goes g
  unfolding outlook_for counted counted_in steps goal_ok step_ok with_frame with_goals
  is_create n k r =
      let z = O.is ∙ (create_at F refl r).goal in
      rw (z, r) (create_after B A F K qs w u fs m ρ χ i G' W' Q k (typed _ z))

  is_remove : (n r : ℕ) → record_at f i ≡ Remove n r → Goes g
  unfolding outlook_for steps goal_ok step_ok allowed with_frame with_goals
  is_remove n k r =
      let z = O.is ∙ (remove_at F refl r).goal in
      rw (z, r) (remove_after B A F K qs w u fs m ρ χ i G' W' Q k (typed _ z) (next_allowed A e fs m I _ rest (goals_are _ z)))

  is_try : (n c a b : ℕ) → record_at f i ≡ Try n c a b → Goes g
  unfolding outlook_for steps with_frame with_goals
  is_try n c a b r =
      let z = O.is ∙ (try_at F refl r).goal in
      rw (z, r) (try_after B A F K qs w u fs m ρ χ i O.mine G' W' Q n c a b r (short _ _ _ z))

  -- number 2: no test stands outside conditions
  is_test : (n y z : ℕ) → record_at f i ≡ Test n y z → Goes g
  unfolding goal_stands step_stands
  is_test n y z r = absurd (false≢true (rw (O.is ∙ (test_at F refl r).goal) at stands))

  by_kind : (k : GoalKind) → record_at f i ≡ record_as (k_goal k) (word f i) → Goes g
  by_kind k_literal r = is_literal _ _ _ r
  by_kind k_sum r = is_sum _ _ _ _ _ r
  by_kind k_assign r = is_assign _ _ _ r
  by_kind k_construct r = is_construct _ _ _ _ _ _ _ r
  by_kind k_switch r = is_switch _ _ _ r
  by_kind k_if r = is_if _ _ _ _ _ r
  by_kind k_call r = is_call _ _ _ r
  by_kind k_print r = is_print _ _ r
  by_kind k_create r = is_create _ _ r
  by_kind k_remove r = is_remove _ _ r
  by_kind k_try r = is_try _ _ _ _ r
  by_kind k_test r = is_test _ _ _ r

  pub goal_after : After B A F K qs closed g (with_frame e (with_goals e.frame rest)) fs m (outlook_for K g e (record { frames = e ∷ fs; memory = m; condition = closed }))
      (steps f T K i (record_at f i) w)
  goal_after = let k = goal_is O.stands O.some in by_kind k.0 k.1
