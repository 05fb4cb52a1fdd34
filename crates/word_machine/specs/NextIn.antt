-- The next goal of an open condition, whichever it is.
use Prim.Native.Nat.{ℕ, zero, suc}
use Rattle.std.specs.Prelude.{◌≡◌, Bool, true, false, List, ◌∷◌}
use Rattle.std.proofs.Math.Path.{refl, ap}
use Rattle.std.proofs.Common.{sym, ◌∙◌}
use Rattle.std.proofs.lemmas.Bool.{false≢true}
use Rattle.sets.specs.Tests.{◌or◌, ◌&◌, neg, and_true}
use Rattle.language.specs.Lists.{is_none}
use Rattle.language.specs.File.{GoalKind, k_literal, k_sum, k_assign, k_construct, k_switch, k_if, k_call, k_print, k_create, k_remove, k_try, k_test, k_goal, word}
use Rattle.language.specs.Program.{four, arguments_of, Goals, ◌then◌, Goal, type_of, region_of}
use Rattle.language.specs.Typing.{functors_for, arguments_ok, step_ok, goal_ok}
use Rattle.language.specs.Conditions.{step_stands, goal_stands}
use Rattle.language.specs.Frames.{opened, ahead, with_goals, sum_of, fits_step}
use Rattle.language.specs.AcceptedRun.{RegionFrame, Memory, with_frame, whole, region_for, allowed}
use Rattle.language.specs.Machine.{Room, counted, outlook_for}
use Rattle.language.specs.Answers.{program}
use Rattle.laws.specs.Goals.{ahead_then}
use Rattle.region_graph.specs.Typed.{arguments_regioned}
use Rattle.region_graph.specs.Procedure.{cell_region}
use Rattle.region_graph.specs.Shared.{variable_top}
use Rattle.records.specs.Records.{record_as, record_at}
use Rattle.records.specs.declared.Record.TheVariants.{Literal, Sum, Assign, Construct, Switch, Create, Remove, Test}
use Rattle.chains.specs.Formed.{Formed, goal_at, arms_at}
use Rattle.chains.specs.Goals.{literal_at, sum_at_law, assign_at, construct_at, print_at, create_at, remove_at, test_at}
use Rattle.chains.specs.Parts.{switch_at, if_at, try_at, call_at}
use Rattle.safety.specs.Premises.{Accepted, fit, laws}
use Rattle.safety.specs.Variables.{type_in, types_variables}
use Rattle.safety.specs.Invariant.{Inv}
use Rattle.word_machine.specs.GoalKinds.{goal_is}
use Rattle.word_machine.specs.Tables.{Tables, Tabled}
use Rattle.word_machine.specs.Machine.{ConditionWords, steps_in}
use Rattle.word_machine.specs.Trimmed.{no_arguments, first_argument}
use Rattle.word_machine.specs.Premises.{next_typed, next_allowed, sum_numbers, test_numbers, switch_found}
use Rattle.word_machine.specs.Relation.{sig}
use Rattle.word_machine.specs.InCondition.{open_state, Opening}
use Rattle.word_machine.specs.Steps.{After}
use Rattle.word_machine.specs.InSteps as S
use Rattle.word_machine.specs.InSteps.{literal_in_law, sum_in_law, assign_in_law, constant_in, construct_in, switch_in, create_in, remove_in, test_in}

module _ {f : List ℕ} {T : Tables} (B : Tabled f T) (A : Accepted (program f)) (F : Formed f) (K : Room) (qs : List ℕ) (v : ConditionWords) (t : RegionFrame)
    (fs : List RegionFrame) (m : Memory) (a : Goals) (e : RegionFrame) (n : Memory) (J : Opening B K qs v t fs m a e n)
    (I : Inv (program f) (whole (opened a e n) t) fs m) (g : Goal) (rest : Goals) (q : t.frame.goals ≡ g then rest) (stands : goal_stands true g ≡ true) where
  abbrev u : RegionFrame
  u = with_frame t (with_goals t.frame rest)

  abbrev i : ℕ
  i = v.words.goal

  abbrev Goes : Goal → Type 0
  Goes c = After B A F K qs (opened a e n) c u fs m (outlook_for K c t (open_state t fs m a e n)) (steps_in f T i (record_at f i) v)

  -- the goal is c, in front of all that is still to do
  ahead_goals : (c : Goal) → g ≡ c → (whole (opened a e n) t).frame.goals ≡ c then ahead (opened a e n) rest
  unfolding whole with_frame with_goals
  ahead_goals c z = ap (ahead (opened a e n)) (q ∙ ap (λ b. b then rest) z) ∙ ahead_then (opened a e n) c rest

  typed : (c : Goal) → g ≡ c → goal_ok (program f) (sig f t.frame.procedure) c ≡ true
  unfolding whole with_frame with_goals
  typed c z = next_typed A (whole (opened a e n) t) fs m I c (ahead (opened a e n) rest) (ahead_goals c z)

  -- a construct with arguments is one in a region that is alive
  some_alive : (ys : List ℕ) {y : ℕ} {zs : List ℕ} (b : Bool) → ys ≡ y ∷ zs → is_none ys or b ≡ true → b ≡ true
  unfolding is_none ◌or◌
  some_alive ys b z h = rw z at h

  abbrev all : RegionFrame
  all = whole (opened a e n) t

  abbrev onward : Goals
  onward = ahead (opened a e n) rest

  -- what stands at record i
  is : g ≡ goal_at f i
  is = (S.O B A F K qs v t fs m a e n J g rest q).is

  is_literal : (j x b : ℕ) → record_at f i ≡ Literal j x b → Goes g
  unfolding outlook_for steps_in goal_ok step_ok with_frame with_goals
  is_literal j x b r =
      let z = is ∙ (literal_at F refl r).goal in
      rw (z, r) (literal_in_law B A F K qs v t fs m a e n J g rest q x b z (type_in _ 0 x (typed _ z)).0)

  is_sum : (j x o y k : ℕ) → record_at f i ≡ Sum j x o y k → Goes g
  unfolding outlook_for fits_step sum_of steps_in goal_ok step_ok whole with_frame with_goals
  is_sum j x o y k r =
      let z = is ∙ (sum_at_law F refl r).goal in
      let c = and_true (typed _ z) in
      let s = and_true (and_true c.1).1 in
      let N = sum_numbers A all fs m I x o y k onward (ahead_goals _ z) in
      rw (z, r)
      (sum_in_law B A F K qs v t fs m a e n J g rest q x o y k z (type_in _ 0 x c.0).0 (type_in _ 0 y s.0).0 (type_in _ 0 k s.1).0 N.0 N.1)

  is_assign : (j x y : ℕ) → record_at f i ≡ Assign j x y → Goes g
  unfolding outlook_for steps_in goal_ok step_ok with_frame with_goals
  is_assign j x y r =
      let z = is ∙ (assign_at F refl r).goal in
      let c = and_true (typed _ z) in
      rw (z, r) (assign_in_law B A F K qs v t fs m a e n J g rest q x y z c.0 (type_in _ _ y c.1).0)

  -- without arguments a construct touches no region
  is_construct : (j x k b c d h : ℕ) → record_at f i ≡ Construct j x k b c d h → Goes g
  unfolding outlook_for counted steps_in goal_ok step_ok functors_for arguments_ok allowed whole with_frame with_goals region_for
  is_construct j x k zero c d h r =
      let z = is ∙ (construct_at F refl r).goal in
      let y = and_true (typed _ z) in
      let vs = types_variables _ _ (arguments_of (four zero c d h)) (and_true y.1).1 in
      let o = no_arguments c d h (λ s l. variable_top _ _ (laws A t.frame.procedure) s (vs s l)) in
      rw (z, r) (constant_in B A F K qs v t fs m a e n J g rest q x k c d h z o y.0 (T.region i))
  is_construct j x k (suc b) c d h r =
      let z = is ∙ (construct_at F refl r).goal in
      let y = and_true (typed _ z) in
      let s = (and_true y.1).1 in
      let o = first_argument b c d h in
      let l = arguments_regioned (program f).types _ (type_of (sig f t.frame.procedure) x) k (suc b) _ (rw o at s) in
      let p : T.region i ≡ region_of (sig f t.frame.procedure) x = rw (S.O B A F K qs v t fs m a e n J g rest q).mine at (B.region i j x k b c d h r) in
      rw (z, r)
      (construct_in B A F K qs v t fs m a e n J g rest q x k b c d h (T.region i) z y.0 (types_variables _ _ (arguments_of (four (suc b) c d h)) s) p
      (cell_region _ _ (fit A t.frame.procedure).typed x l).0 (some_alive _ _ o (next_allowed A all fs m I _ onward (ahead_goals _ z))))

  is_switch : (j x cs : ℕ) → record_at f i ≡ Switch j x cs → Goes g
  unfolding outlook_for steps_in goal_ok allowed whole with_frame with_goals
  is_switch j x cs r =
      let z = is ∙ (switch_at F refl r).goal in
      rw (z, r)
      (switch_in B A F K qs v t fs m a e n J g rest q j x cs r z (and_true (typed _ z)).0 (next_allowed A all fs m I _ onward (ahead_goals _ z))
      (switch_found A all fs m I x (arms_at f cs) onward (ahead_goals _ z)))

  is_create : (j r : ℕ) → record_at f i ≡ Create j r → Goes g
  unfolding outlook_for counted steps_in goal_ok step_ok with_frame with_goals
  is_create j k r =
      let z = is ∙ (create_at F refl r).goal in
      rw (z, r) (create_in B A F K qs v t fs m a e n J g rest q k z (typed _ z))

  is_remove : (j r : ℕ) → record_at f i ≡ Remove j r → Goes g
  unfolding outlook_for steps_in goal_ok step_ok allowed whole with_frame with_goals
  is_remove j k r =
      let z = is ∙ (remove_at F refl r).goal in
      rw (z, r) (remove_in B A F K qs v t fs m a e n J g rest q k z (typed _ z) (next_allowed A all fs m I _ onward (ahead_goals _ z)))

  is_test : (j y z : ℕ) → record_at f i ≡ Test j y z → Goes g
  unfolding outlook_for steps_in goal_ok step_ok whole with_frame with_goals
  is_test j y k r =
      let z = is ∙ (test_at F refl r).goal in
      let c = and_true (typed _ z) in
      let N = test_numbers A all fs m I y k onward (ahead_goals _ z) in
      rw (z, r) (test_in B A F K qs v t fs m a e n J g rest q y k z (type_in _ 0 y c.0).0 (type_in _ 0 k c.1).0 N.0 N.1)

  -- number 2: "Conditions hold no call, print, if or try"
  barred : {c : Goal} → g ≡ c → goal_stands true c ≡ false → Goes g
  barred z h = absurd (false≢true (sym h ∙ rw z at stands))

  by_kind : (k : GoalKind) → record_at f i ≡ record_as (k_goal k) (word f i) → Goes g
  unfolding goal_stands step_stands neg ◌&◌
  by_kind k_literal r = is_literal _ _ _ r
  by_kind k_sum r = is_sum _ _ _ _ _ r
  by_kind k_assign r = is_assign _ _ _ r
  by_kind k_construct r = is_construct _ _ _ _ _ _ _ r
  by_kind k_switch r = is_switch _ _ _ r
  by_kind k_if r = barred (is ∙ (if_at F refl r).goal) refl
  by_kind k_call r = barred (is ∙ (call_at F refl r).goal) refl
  by_kind k_print r = barred (is ∙ (print_at F refl r).goal) refl
  by_kind k_create r = is_create _ _ r
  by_kind k_remove r = is_remove _ _ r
  by_kind k_try r = barred (is ∙ (try_at F refl r).goal) refl
  by_kind k_test r = is_test _ _ _ r

  pub goal_in : After B A F K qs (opened a e n) g (with_frame t (with_goals t.frame rest)) fs m (outlook_for K g t (open_state t fs m a e n)) (steps_in f T v.words.goal (record_at f v.words.goal) v)
  goal_in = let O = S.O B A F K qs v t fs m a e n J g rest q in let k = goal_is O.stands O.some in by_kind k.0 k.1
