-- One walk over goals for whatever is carried: what a step does, what may be read, how an arm is entered, where paths meet. Number 4 and number 8 are
-- two of its cases. The laws speak of the code: what is carried before and after as plain values, and an answer that says whether the walk goes on.
use Rattle.std.specs.Prelude.{ℕ, ◌≡◌, Bool, true, false}
use Rattle.std.proofs.Math.Path.{refl, sym}
use Rattle.std.proofs.Common.{◌∙◌}
use Rattle.sets.specs.Tests.{◌&◌}
use Rattle.language.specs.Program.{Four, Step, Goals, done, ◌then◌, Goal, step, switch, if_less, try, Arms, no_arms, arm}

-- what is carried, or that the walk has stopped
pub data WalkOutcome (A : Type 0) : Type 0 where
  stopped : WalkOutcome A
  goes_on : A → WalkOutcome A

-- the code's answer, and what it carries then
unfoldable pub outcome : {A : Type 0} → Bool → A → WalkOutcome A
outcome true a = goes_on a
outcome false a = stopped

unfoldable pub require : {A : Type 0} → Bool → WalkOutcome A → WalkOutcome A
require true c = c
require false c = stopped

unfoldable pub onwards : {A : Type 0} → WalkOutcome A → (A → WalkOutcome A) → WalkOutcome A
onwards stopped f = stopped
onwards (goes_on a) f = f a

-- what a walk does
pub record Walker (A : Type 0) : Type 0 where
  pub at_step : Step → A → WalkOutcome A
  pub readable : A → ℕ → Bool
  pub enter : Four → A → WalkOutcome A
  pub join : A → A → WalkOutcome A

module _ {A : Type 0} (W : Walker A) where
  -- both paths are gone to their ends
  unfoldable pub meet : WalkOutcome A → WalkOutcome A → WalkOutcome A
  meet stopped d = stopped
  meet (goes_on a) stopped = stopped
  meet (goes_on a) (goes_on b) = W.join a b

  unfoldable mutual
    pub walk_goals : Goals → A → WalkOutcome A
    walk_goals done a = goes_on a
    walk_goals (g then gs) a = onwards (walk_goal g a) (λ b. walk_goals gs b)

    pub walk_goal : Goal → A → WalkOutcome A
    walk_goal (step g) a = W.at_step g a
    walk_goal (switch x cs) a = require (W.readable a x) (walk_arms cs a)
    walk_goal (if_less y z bs cs) a = require (W.readable a y & W.readable a z) (meet (walk_goals bs a) (walk_goals cs a))
    walk_goal (try ds bs cs) a = meet (onwards (walk_goals ds a) (λ b. walk_goals bs b)) (walk_goals cs a)

    pub walk_arms : Arms → A → WalkOutcome A
    walk_arms no_arms a = goes_on a
    walk_arms (arm f ys gs no_arms) a = onwards (W.enter ys a) (λ b. walk_goals gs b)
    walk_arms (arm f ys gs (arm k zs hs cs)) a = meet (onwards (W.enter ys a) (λ b. walk_goals gs b)) (walk_arms (arm k zs hs cs) a)

  -- ---- along a chain: a is carried before the goals, b behind the first of them
  module _ {gs : Goals} (a : A) where
    pub chain_end_law : gs ≡ done → outcome true a ≡ walk_goals gs a
    unfolding walk_goals outcome
    chain_end_law p = rw p refl

    module _ {hs : Goals} {g : Goal} {r : Bool} (b : A) (v : gs ≡ g then hs) (m : outcome r b ≡ walk_goal g a) where
      pub chain_stop : (c : A) → r ≡ false → outcome false c ≡ walk_goals gs a
      unfolding walk_goals onwards outcome
      chain_stop c p = rw (v, sym m, p) refl

      pub chain_next : r ≡ true → walk_goals hs b ≡ walk_goals gs a
      unfolding walk_goals onwards outcome
      chain_next p = rw (v, sym m, p) refl

  pub step_goes : {g : Goal} {s : Step} (a b : A) (r : Bool) → g ≡ step s → outcome r b ≡ W.at_step s a → outcome r b ≡ walk_goal g a
  unfolding walk_goal
  step_goes a b r v m = m ∙ rw v refl

  -- ---- a switch
  module _ {g : Goal} {x : ℕ} {cs : Arms} (a : A) (v : g ≡ switch x cs) {t : Bool} (e : t ≡ W.readable a x) where
    pub switch_stop : (c : A) → t ≡ false → outcome false c ≡ walk_goal g a
    unfolding walk_goal require outcome
    switch_stop c p = rw (v, sym e ∙ p) refl

    pub switch_goes : t ≡ true → (b : A) (r : Bool) → outcome r b ≡ walk_arms cs a → outcome r b ≡ walk_goal g a
    unfolding walk_goal require
    switch_goes p b r m = m ∙ rw (v, sym e ∙ p) refl

  -- ---- two parts whose paths meet: b is carried behind the first, d behind the second, w is what the second does
  module _ {o : WalkOutcome A} (w : WalkOutcome A) (b : A) (r : Bool) (m : meet (outcome r b) w ≡ o) where
    first_stop : (c : A) → r ≡ false → outcome false c ≡ o
    unfolding outcome meet
    first_stop c p = rw p at m

    module _ (p : r ≡ true) (d : A) (s : Bool) (n : outcome s d ≡ w) where
      both_meet : meet (goes_on b) (outcome s d) ≡ o
      unfolding outcome
      both_meet = rw (p, sym n) at m

      second_stop : (c : A) → s ≡ false → outcome false c ≡ o
      unfolding outcome meet
      second_stop c q = rw q at both_meet

      both_join : (c : A) (x : Bool) → s ≡ true → outcome x c ≡ W.join b d → outcome x c ≡ o
      unfolding outcome meet
      both_join c x q j = j ∙ (rw q at both_meet)

  -- ---- an if
  module _ {g : Goal} {y z : ℕ} {gs hs : Goals} (a : A) (v : g ≡ if_less y z gs hs) {t : Bool} (e : t ≡ W.readable a y) where
    pub if_first : (c : A) → t ≡ false → outcome false c ≡ walk_goal g a
    unfolding walk_goal require outcome ◌&◌
    if_first c p = rw (v, sym e ∙ p) refl

    module _ (p : t ≡ true) {u : Bool} (h : u ≡ W.readable a z) where
      pub if_second : (c : A) → u ≡ false → outcome false c ≡ walk_goal g a
      unfolding walk_goal require outcome ◌&◌
      if_second c q = rw (v, sym e ∙ p, sym h ∙ q) refl

      module _ (q : u ≡ true) (b : A) (r : Bool) (m : outcome r b ≡ walk_goals gs a) where
        if_is : meet (outcome r b) (walk_goals hs a) ≡ walk_goal g a
        unfolding walk_goal require ◌&◌
        if_is = rw (v, sym e ∙ p, sym h ∙ q, m) refl

        pub if_then_stop : (c : A) → r ≡ false → outcome false c ≡ walk_goal g a
        if_then_stop c o = first_stop _ b r if_is c o

        module _ (o : r ≡ true) (d : A) (s : Bool) (n : outcome s d ≡ walk_goals hs a) where
          pub if_else_stop : (c : A) → s ≡ false → outcome false c ≡ walk_goal g a
          if_else_stop c k = second_stop _ b r if_is o d s n c k

          pub if_joins : (c : A) (x : Bool) → s ≡ true → outcome x c ≡ W.join b d → outcome x c ≡ walk_goal g a
          if_joins c x k j = both_join _ b r if_is o d s n c x k j

  -- ---- a try: i is carried behind its condition, b behind its then part, d behind its else part
  module _ {g : Goal} {ds gs hs : Goals} (a : A) (v : g ≡ try ds gs hs) (i : A) (t : Bool) (e : outcome t i ≡ walk_goals ds a) where
    pub try_condition_stop : (c : A) → t ≡ false → outcome false c ≡ walk_goal g a
    unfolding walk_goal onwards meet outcome
    try_condition_stop c p = rw (v, sym e, p) refl

    module _ (p : t ≡ true) (b : A) (r : Bool) (m : outcome r b ≡ walk_goals gs i) where
      try_is : meet (outcome r b) (walk_goals hs a) ≡ walk_goal g a
      unfolding walk_goal onwards outcome
      try_is = rw (v, m, sym e, p) refl

      pub try_then_stop : (c : A) → r ≡ false → outcome false c ≡ walk_goal g a
      try_then_stop c o = first_stop _ b r try_is c o

      module _ (o : r ≡ true) (d : A) (s : Bool) (n : outcome s d ≡ walk_goals hs a) where
        pub try_else_stop : (c : A) → s ≡ false → outcome false c ≡ walk_goal g a
        try_else_stop c k = second_stop _ b r try_is o d s n c k

        pub try_joins : (c : A) (x : Bool) → s ≡ true → outcome x c ≡ W.join b d → outcome x c ≡ walk_goal g a
        try_joins c x k j = both_join _ b r try_is o d s n c x k j

  -- ---- arms: i is carried where the first arm's goals start, b behind them, d behind the other arms
  first_stops : (f : ℕ) (ys : Four) (gs : Goals) (cs : Arms) (a : A) → onwards (W.enter ys a) (λ b. walk_goals gs b) ≡ stopped → stopped ≡ walk_arms (arm f ys gs cs) a
  unfolding walk_arms meet
  first_stops f ys gs no_arms a h = sym h
  first_stops f ys gs (arm k zs hs cs) a h = rw h refl

  module _ {bs : Arms} (a : A) where
    pub arms_end : bs ≡ no_arms → outcome true a ≡ walk_arms bs a
    unfolding walk_arms outcome
    arms_end p = rw p refl

    module _ {f : ℕ} {ys : Four} {gs : Goals} {cs : Arms} (i : A) {r : Bool} (v : bs ≡ arm f ys gs cs) (m : outcome r i ≡ W.enter ys a) where
      pub arms_refused : (c : A) → r ≡ false → outcome false c ≡ walk_arms bs a
      unfolding outcome onwards
      arms_refused c p = rw v (first_stops f ys gs cs a (rw (sym m, p) refl))

      module _ (p : r ≡ true) (b : A) (s : Bool) (n : outcome s b ≡ walk_goals gs i) where
        first_is : onwards (W.enter ys a) (λ b. walk_goals gs b) ≡ outcome s b
        unfolding onwards outcome
        first_is = rw (sym m, p) (sym n)

        pub arms_stop : (c : A) → s ≡ false → outcome false c ≡ walk_arms bs a
        unfolding outcome
        arms_stop c q = rw v (first_stops f ys gs cs a (first_is ∙ rw q refl))

        pub arms_last : cs ≡ no_arms → outcome s b ≡ walk_arms bs a
        unfolding walk_arms
        arms_last o = rw (v, o) (sym first_is)

        -- the rest has an arm
        module _ {k : ℕ} {zs : Four} {hs : Goals} {ds : Arms} (o : cs ≡ arm k zs hs ds) (q : s ≡ true) (d : A) (u : Bool) (l : outcome u d ≡ walk_arms cs a) where
          arms_both : meet (goes_on b) (outcome u d) ≡ walk_arms bs a
          unfolding walk_arms outcome
          arms_both = rw (l, v, o, first_is, q) refl

          pub arms_rest_stop : (c : A) → u ≡ false → outcome false c ≡ walk_arms bs a
          unfolding outcome meet
          arms_rest_stop c x = rw x at arms_both

          pub arms_join : (c : A) (x : Bool) → u ≡ true → outcome x c ≡ W.join b d → outcome x c ≡ walk_arms bs a
          unfolding outcome meet
          arms_join c x y j = j ∙ (rw y at arms_both)
