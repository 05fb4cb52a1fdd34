-- An open condition (C-20): where it was opened, what it has done to the memory since, and what a failing test goes back to.
use Rattle.std.specs.Prelude.{◌≡◌, Bool, ◌⊎◌}
use Rattle.std.proofs.Math.Path.{refl, sym, ap}
use Rattle.std.proofs.Common.{◌∙◌, inl, arith, lt-ltb}
use Rattle.std.proofs.Math.Bool.{true, false}
use Rattle.std.proofs.lemmas.Bool.{false≢true}
use mathlib.Core.List.{List, [], ◌∷◌, ◌++◌, append_assoc}
use Rattle.std.proofs.Math.Logic.{inr, ⊎_elim}
use Prim.Native.Nat.{ℕ, zero, suc, ◌≤◌, ◌<◌}
use Rattle.std.proofs.Math.Decide.{ℕ_discrete}
use Rattle.std.proofs.Math.Dec.{ltb}
use Rattle.sets.specs.Tests.{◌or◌, neg, clash, and_true, true_or_left, true_or_right}
use Rattle.language.specs.Lists.{choose, put}
use Rattle.language.specs.Program.{arguments_of, literal, sum, assign, construct, call, print, create, remove, test, Goals, done, ◌then◌, Goal, step, switch, if_less, try, ◌before◌, Program}
use Rattle.language.specs.Conditions.{step_stands, goal_stands, conditions_ok}
use Rattle.language.specs.Frames.{Frame, Condition, closed, opened, ahead, less_in, with_goals, fits, fits_step}
use Rattle.language.specs.AcceptedRun.{RegionFrame, RegionCell, Memory, State, with_frame, going, with_cell, with_built, with_printed, with_region, without_region, restored, state, within, state_in, start, failed, allowed, take, next, step_from, step_of, steps}
use Rattle.language.specs.Machine.{counted_in, counted}
use Rattle.laws.specs.Choices.{choose_false, put_same, put_false, put_other}
use Rattle.laws.specs.Runs as Runs
use Rattle.safety.specs.Standing.{is_open, next_goal_stands}

-- ---- what a condition that was opened with memory n has made of it: "A removal in a condition frees nothing", and what it made comes behind
pub record Since (n m : Memory) : Type 0 where
  pub made : n.made ≤ m.made
  pub lives : (k : ℕ) → m.alive k ≡ true → (n.alive k ≡ true) ⊎ (n.made < k)
  pub new : List RegionCell
  pub cells : m.cells ≡ n.cells ++ new

append_none : (xs : List RegionCell) → xs ≡ xs ++ []
append_none [] = refl
append_none (x ∷ xs) = ap (λ (l : List RegionCell). x ∷ l) (append_none xs)

since_now : (m : Memory) → Since m m
since_now m = record { made = omega arith; lives = λ k l. inl l; new = []; cells = append_none m.cells }

module _ {n m : Memory} (H : Since n m) where
  since_cell : (c : RegionCell) → Since n (with_cell m c)
  unfolding with_cell
  since_cell c = record {
    made = H.made;
    lives = H.lives;
    new = H.new ++ (c ∷ []);
    cells = ap (λ (l : List RegionCell). l ++ (c ∷ [])) H.cells ∙ append_assoc n.cells H.new (c ∷ []);
  }

  since_built : (r : ℕ) (f : Frame) (k : ℕ) (ys : List ℕ) → Since n (with_built m r f k ys)
  unfolding with_built
  since_built r f k [] = H
  since_built r f k (y ∷ ys) = since_cell _

  since_region : Since n (with_region m)
  unfolding with_region
  since_region = record { made = omega (arith, H.made); lives = λ k l. go k l (ℕ_discrete (suc m.made) k); new = H.new; cells = H.cells }
    where
      go : (k : ℕ) → put m.alive (suc m.made) true k ≡ true → Dec (suc m.made ≡ k) → (n.alive k ≡ true) ⊎ (n.made < k)
      go k l (yes e) = inr (omega (arith, H.made))
      go k l (no e) = H.lives k (sym (put_other m.alive (suc m.made) true k e) ∙ l)

  since_removed : (r : ℕ) → Since n (without_region m r)
  unfolding without_region
  since_removed r = record { made = H.made; lives = λ k l. H.lives k (put_false m.alive r k l).1; new = H.new; cells = H.cells }

-- ---- the memory as it counts: a cell and a region more count at once, a removal does not
module _ (a : Goals) (e : RegionFrame) (n m : Memory) where
  pub counted_cell : (c : RegionCell) → counted_in (opened a e n) (with_cell m c) ≡ with_cell (counted_in (opened a e n) m) c
  unfolding counted_in with_cell
  counted_cell c = refl

  pub counted_region : Since n m → (k : ℕ)
      → (counted_in (opened a e n) (with_region m)).alive k ≡ (with_region (counted_in (opened a e n) m)).alive k
  unfolding counted_in with_region
  counted_region H k = go (ℕ_discrete (suc m.made) k)
    where
      go : Dec (suc m.made ≡ k) → (n.alive k or ltb n.made k) ≡ put (λ j. n.alive j or ltb n.made j) (suc m.made) true k
      go (yes q) =
          true_or_right (n.alive k) (lt-ltb n.made k (omega (arith, H.made)))
          ∙ sym (ap (put (λ j. n.alive j or ltb n.made j) (suc m.made) true) (sym q) ∙ put_same _ (suc m.made) true)
      go (no q) = sym (put_other _ (suc m.made) true k q)

  pub counted_removed : (r : ℕ) → counted_in (opened a e n) (without_region m r) ≡ counted_in (opened a e n) m
  unfolding counted_in without_region
  counted_removed r = refl

-- ---- where it was opened
module _ (P : Program) where
  -- after k steps the newest frame, over fs, came to a try: a follows its condition, e and n are what is saved
  record Opening (k : ℕ) (a : Goals) (e : RegionFrame) (n : Memory) (fs : List RegionFrame) : Type 0 where
    frame : RegionFrame
    inside : Goals
    first : Goals
    second : Goals
    rest : Goals
    frames : (steps P k).frames ≡ frame ∷ fs
    goals : frame.frame.goals ≡ try inside first second then rest
    saves : (steps P k).memory ≡ n
    goes_back : e ≡ going frame (second before ahead (steps P k).condition rest)

  data Open (l : ℕ) (fs : List RegionFrame) (m : Memory) : Condition RegionFrame Memory → Type 0 where
    shut : Open l fs m closed
    open_since : {a : Goals} {e : RegionFrame} {n : Memory} (k : ℕ) → k < l → Opening k a e n fs → Since n m → Open l fs m (opened a e n)

  -- .. of a state that l steps lead to
  data OpenIn (l : ℕ) (s : State) : Type 0 where
    none : s.condition ≡ closed → OpenIn l s
    one : {f : RegionFrame} {fs : List RegionFrame} → s.frames ≡ f ∷ fs → Open l fs s.memory s.condition → OpenIn l s

  within_open : (l : ℕ) (c : Condition RegionFrame Memory) (gs : Goals) (f : RegionFrame) (fs : List RegionFrame) (m : Memory) → Open l fs m c
      → OpenIn l (within P c gs f fs m)
  unfolding within state
  within_open l closed gs f fs m o = none refl
  within_open l (opened a e n) done f fs m o = none refl
  within_open l (opened a e n) (g then gs) f fs m o = one refl o

  in_open : (l : ℕ) (c : Condition RegionFrame Memory) (f : RegionFrame) (fs : List RegionFrame) (m : Memory) → Open l fs m c
      → OpenIn l (state_in P c f fs m)
  unfolding state_in
  in_open l c f fs m o = within_open l c f.frame.goals f fs m o

  failed_open : (l : ℕ) (c : Condition RegionFrame Memory) (f : RegionFrame) (fs : List RegionFrame) (m : Memory) → OpenIn l (failed P c f fs m)
  unfolding failed state
  failed_open l closed f fs m = none refl
  failed_open l (opened a e n) f fs m = none refl

  choose_open : (l : ℕ) (b : Bool) (s t : State) → OpenIn l s → OpenIn l t → OpenIn l (choose b s t)
  unfolding choose
  choose_open l true s t p q = p
  choose_open l false s t p q = q

  -- a change of the memory that keeps what is known since the condition was opened
  open_changed : (l : ℕ) (c : Condition RegionFrame Memory) (fs : List RegionFrame) (m m' : Memory) → ((n : Memory) → Since n m → Since n m')
      → Open l fs m c → Open (suc l) fs m' c
  open_changed l closed fs m m' f shut = shut
  open_changed l (opened a e n) fs m m' f (open_since k h o s) = open_since k (omega arith) o (f n s)

  module _ (l : ℕ) (c : Condition RegionFrame Memory) (f : RegionFrame) (fs : List RegionFrame) (m : Memory) (o : Open l fs m c) where
    kept : Open (suc l) fs m c
    kept = open_changed l c fs m m (λ n s. s) o

    take_open : (g : Goal)
        → ((t a b : Goals) → g ≡ try t a b
        → Opening l (a before ahead c f.frame.goals) (going f (b before ahead c f.frame.goals)) m fs) → OpenIn (suc l) (take P c g f fs m)
    unfolding take state with_printed
    take_open (step (literal x v)) h = in_open _ c _ fs m kept
    take_open (step (sum x q y z)) h = in_open _ c _ fs m kept
    take_open (step (assign x y)) h = in_open _ c _ fs m kept
    take_open (step (construct x k ys)) h = in_open _ c _ fs _ (open_changed l c fs m _ (λ n s. since_built s _ _ k (arguments_of ys)) o)
    take_open (step (call q ys)) h = none refl
    take_open (step (print y)) h =
        in_open _ c f fs _ (open_changed l c fs m _ (λ n s. record { made = s.made; lives = s.lives; new = s.new; cells = s.cells }) o)
    take_open (step (create r)) h = in_open _ c _ fs _ (open_changed l c fs m _ (λ n s. since_region s) o)
    take_open (step (remove r)) h = in_open _ c f fs _ (open_changed l c fs m _ (λ n s. since_removed s _) o)
    take_open (step (test y z)) h = choose_open _ _ _ _ (in_open _ c f fs m kept) (failed_open _ c f fs m)
    take_open (switch x cs) h = in_open _ c _ fs m kept
    take_open (if_less y z a b) h = in_open _ c _ fs m kept
    take_open (try t a b) h = in_open _ _ _ fs m (open_since l (omega arith) (h t a b refl) (since_now m))

  opening : (l : ℕ) (f : RegionFrame) (fs : List RegionFrame) (g : Goal) (gs : Goals) → (steps P l).frames ≡ f ∷ fs → f.frame.goals ≡ g then gs
      → (t a b : Goals) → g ≡ try t a b
      → Opening l (a before ahead (steps P l).condition gs) (going f (b before ahead (steps P l).condition gs)) (steps P l).memory fs
  opening l f fs g gs e q t a b z = record {
    frame = f;
    inside = t;
    first = a;
    second = b;
    rest = gs;
    frames = e;
    goals = q ∙ ap (λ (x : Goal). x then gs) z;
    saves = refl;
    goes_back = refl;
  }

  next_open : (l : ℕ) (gs : Goals) (f : RegionFrame) (fs : List RegionFrame) → (steps P l).frames ≡ f ∷ fs → f.frame.goals ≡ gs
      → Open l fs (steps P l).memory (steps P l).condition → OpenIn (suc l) (next P gs f fs (steps P l))
  unfolding next with_frame with_goals
  next_open l done f fs e q o = one e (kept l _ f fs _ o)
  next_open l (g then gs) f fs e q o =
      choose_open (suc l) _ _ (steps P l) (take_open l (steps P l).condition (going f gs) fs (steps P l).memory o g (opening l f fs g gs e q))
      (one e (kept l _ f fs _ o))

  -- a condition that is closed is open nowhere
  shut_open : (l : ℕ) (c : Condition RegionFrame Memory) (fs : List RegionFrame) (m : Memory) → c ≡ closed → Open l fs m c
  shut_open l c fs m e = rw e shut

  from_open : (l : ℕ) (es : List RegionFrame) → (steps P l).frames ≡ es → OpenIn l (steps P l) → OpenIn (suc l) (step_from P es (steps P l))
  unfolding step_from
  from_open l [] e (none z) = none z
  from_open l [] e (one q o) = absurd (false≢true (cc))
  from_open l (f ∷ fs) e (none z) = next_open l f.frame.goals f fs e refl (shut_open l _ fs _ z)
  from_open l (f ∷ fs) e (one {fs = es} q o) =
      let a : es ≡ fs = cc in next_open l f.frame.goals f fs e refl (rw a at o)

  steps_open : (l : ℕ) → OpenIn l (steps P l)
  unfolding steps start state step_of
  steps_open zero = none refl
  steps_open (suc l) = from_open l (steps P l).frames refl (steps_open l)

  known_open : {l : ℕ} {fs : List RegionFrame} {m : Memory} {a : Goals} {e : RegionFrame} {n : Memory} → Open l fs m (opened a e n)
      → (k : ℕ) × (k < l) × Opening k a e n fs × Since n m
  known_open (open_since k h o s) = (k, h, o, s)

  never_closed : {a : Goals} {e : RegionFrame} {n : Memory} (c : Condition RegionFrame Memory) → c ≡ closed → c ≡ opened a e n → ⊥
  unfolding is_open
  never_closed c p q = clash (ap is_open q) (ap is_open p)

  open_at : {a : Goals} {e : RegionFrame} {n : Memory} (l : ℕ) (f : RegionFrame) (fs : List RegionFrame) → (steps P l).frames ≡ f ∷ fs
      → (steps P l).condition ≡ opened a e n → OpenIn l (steps P l) → (k : ℕ) × (k < l) × Opening k a e n fs × Since n (steps P l).memory
  open_at l f fs q z (none w) = absurd (never_closed _ w z)
  open_at l f fs q z (one {fs = es} w o) = let a : es ≡ fs = cc in known_open (rw z at (rw a at o))

  -- ---- THE THEOREMS
  -- 1. what is alive counts
  pub alive_counted : (l k : ℕ) → (steps P l).memory.alive k ≡ true → (counted (steps P l)).alive k ≡ true
  unfolding counted counted_in
  alive_counted l k h = go (steps P l).condition refl (steps_open l)
    where
      go : (c : Condition RegionFrame Memory) → (steps P l).condition ≡ c → OpenIn l (steps P l) → (counted_in c (steps P l).memory).alive k ≡ true
      go closed e o = h
      go (opened a x n) e (none z) = absurd (never_closed _ z e)
      go (opened a x n) e (one q o) =
          ⊎_elim (λ i. true_or_left _ i) (λ i. true_or_right _ (lt-ltb _ _ i)) ((known_open (rw e at o)).3.lives k h)

  -- 2. "When a test fails, the else part begins with variables, regions and cells exactly as before the condition": the run was outside conditions and came
  -- to a try some steps before; it goes on with the frame that it had there, at the else part, over the same waiting frames, and with the memory that it had
  -- there, but for the numbers printed
  pub record GoneBack (n : ℕ) (fs : List RegionFrame) : Type 0 where
    pub since : ℕ
    pub earlier : since < n
    pub frame : RegionFrame
    pub inside : Goals
    pub first : Goals
    pub second : Goals
    pub rest : Goals
    pub frames : (steps P since).frames ≡ frame ∷ fs
    pub goals : frame.frame.goals ≡ try inside first second then rest
    pub outside : (steps P since).condition ≡ closed
    pub back : steps P (suc n) ≡ state P (going frame (second before rest)) fs (restored (steps P since).memory (steps P n).memory)

  is_closed : (c : Condition RegionFrame Memory) → neg (is_open c) ≡ true → c ≡ closed
  unfolding is_open neg
  is_closed closed e = refl
  is_closed (opened a x n) e = absurd (false≢true e)

  module _ (ok : conditions_ok P ≡ true) where
    test_open : (n : ℕ) (f : RegionFrame) (fs : List RegionFrame) (y z : ℕ) (gs : Goals) → (steps P n).frames ≡ f ∷ fs
        → f.frame.goals ≡ step (test y z) then gs → is_open (steps P n).condition ≡ true
    unfolding goal_stands step_stands
    test_open n f fs y z gs e q = next_goal_stands P ok n f fs (step (test y z)) gs e q

    try_closed : (k : ℕ) (f : RegionFrame) (fs : List RegionFrame) (t a b gs : Goals) → (steps P k).frames ≡ f ∷ fs
        → f.frame.goals ≡ try t a b then gs → (steps P k).condition ≡ closed
    unfolding goal_stands
    try_closed k f fs t a b gs e q = is_closed _ (and_true (next_goal_stands P ok k f fs (try t a b) gs e q)).0

    failing : (n : ℕ) (f : RegionFrame) (fs : List RegionFrame) (y z : ℕ) (gs : Goals) → (steps P n).frames ≡ f ∷ fs
        → f.frame.goals ≡ step (test y z) then gs → less_in f.frame y z ≡ false
        → steps P (suc n) ≡ failed P (steps P n).condition (going f gs) fs (steps P n).memory
    unfolding steps fits fits_step allowed take less_in with_frame with_goals
    failing n f fs y z gs e q h = Runs.taken P (steps P n) f fs (step (test y z)) gs e q refl refl ∙ choose_false _ _ _ h

    pub goes_back : (n : ℕ) (f : RegionFrame) (fs : List RegionFrame) (y z : ℕ) (gs : Goals) → (steps P n).frames ≡ f ∷ fs
        → f.frame.goals ≡ step (test y z) then gs → less_in f.frame y z ≡ false → GoneBack n fs
    unfolding failed is_open ahead
    goes_back n f fs y z gs e q h = go (steps P n).condition refl
      where
        go : (c : Condition RegionFrame Memory) → (steps P n).condition ≡ c → GoneBack n fs
        go closed w = absurd (clash (test_open n f fs y z gs e q) (ap is_open w))
        go (opened a x m) w =
            let K = open_at n f fs e w (steps_open n) in
            let O = K.2 in
            let u = try_closed K.0 O.frame fs O.inside O.first O.second O.rest O.frames O.goals in
            record {
              since = K.0;
              earlier = K.1;
              frame = O.frame;
              inside = O.inside;
              first = O.first;
              second = O.second;
              rest = O.rest;
              frames = O.frames;
              goals = O.goals;
              outside = u;
              back = failing n f fs y z gs e q h ∙ ap (λ c. failed P c (going f gs) fs (steps P n).memory) w
                  ∙ ap (λ r. state P r fs (restored m (steps P n).memory)) (O.goes_back ∙ ap (λ c. going O.frame (O.second before ahead c O.rest)) u)
                  ∙ ap (λ r. state P (going O.frame (O.second before O.rest)) fs (restored r (steps P n).memory)) (sym O.saves);
            }
