-- The laws of a walk over the records of a file, one for each way through the code, whatever it carries: what it has read of the records, what is
-- carried before and after, and the answers.
use Rattle.std.specs.Prelude.{ℕ, ◌≤◌, ◌≡◌, refl, Bool, true, false, List}
use Rattle.std.proofs.Common.{arith, sym, ◌∙◌}
use Rattle.language.specs.File.{goals, arms, word}
use Rattle.language.specs.Format.{next_word, goal_x, switch_arms, if_y, if_z, if_then, if_else, try_condition, try_then, try_else, arm_goals}
use Rattle.chains.specs.Formed.{Formed, Stands, ahead, goals_at, goal_at, arms_at, goals_none, arms_none}
use Rattle.chains.specs.Is.{goals_step, chain_next}
use Rattle.chains.specs.Shapes.{IsSwitch, IsIf, IsTry, switch_here, if_here, try_here, arm_here}
use Rattle.chains.specs.Parts.{four_at}
use Rattle.walks.specs.Walk

module _ {A : Type 0} (W : Walk.Walker A) (f : List ℕ) where
  -- with a before and c behind, the answer r is right: for the goals from record i on, for the goal there, for the arms from there on
  abbrev pub GoalsWalked : ℕ → A → Bool → A → Type 0
  GoalsWalked i a r c = Walk.outcome r c ≡ Walk.walk_goals W (goals_at f i) a

  abbrev pub GoalWalked : ℕ → A → Bool → A → Type 0
  GoalWalked i a r c = Walk.outcome r c ≡ Walk.walk_goal W (goal_at f i) a

  abbrev pub ArmsWalked : ℕ → A → Bool → A → Type 0
  ArmsWalked i a r c = Walk.outcome r c ≡ Walk.walk_arms W (arms_at f i) a

  -- ---- along a chain from record start on, where a₀ was carried; the walk is at record i and carries a
  pub record WalkedAlong (start : ℕ) (a₀ : A) (i : ℕ) (a : A) : Type 0 where
    pub stands : Stands f goals i
    pub near : ahead f i ≤ ahead f start
    pub same : Walk.walk_goals W (goals_at f i) a ≡ Walk.walk_goals W (goals_at f start) a₀

  pub along_first : {i : ℕ} (a : A) → Stands f goals i → WalkedAlong i a i a
  along_first a s = record { stands = s; near = omega arith; same = refl }

  -- no goals
  pub none_walked : {i : ℕ} (a : A) → i ≡ 0 → GoalsWalked i a true a
  none_walked a z = Walk.chain_end_law W a (goals_none f z)

  module _ (F : Formed f) {start : ℕ} {a₀ : A} {i : ℕ} {a : A} (h : WalkedAlong start a₀ i a) where
    pub along_last : i ≡ 0 → GoalsWalked start a₀ true a
    along_last z = none_walked a z ∙ h.same

    module _ (z : i ≡ 0 → ⊥) where
      module _ (b : A) {r : Bool} (m : GoalWalked i a r b) where
        pub along_stop : (c : A) → r ≡ false → GoalsWalked start a₀ false c
        along_stop c p = Walk.chain_stop W a b (goals_step F h.stands z refl) m c p ∙ h.same

        pub along_next : {w : ℕ} → r ≡ true → w ≡ word f i next_word → WalkedAlong start a₀ w b
        along_next p e =
            let o = chain_next F h.stands z e in
            record {
              stands = o.stands;
              near = omega (arith, o.falls, h.near);
              same = Walk.chain_next W a b (goals_step F h.stands z e) m p ∙ h.same;
            }

  -- ---- a switch
  module _ (F : Formed f) (i : ℕ) (k : IsSwitch f i) where
    module _ (a : A) {x : ℕ} (j : x ≡ word f i goal_x) {t : Bool} (e : t ≡ W.readable a x) where
      pub switch_stops : (c : A) → t ≡ false → GoalWalked i a false c
      switch_stops c p = Walk.switch_stop W a (switch_here F refl k).goal (rw j at e) c p

      pub switch_walked : t ≡ true → (b : A) (r : Bool) {w : ℕ} → w ≡ word f i switch_arms → ArmsWalked w a r b → GoalWalked i a r b
      switch_walked p b r l m = Walk.switch_goes W a (switch_here F refl k).goal (rw j at e) p b r (rw l at m)

  -- ---- an if
  module _ (F : Formed f) (i : ℕ) (k : IsIf f i) where
    module _ (a : A) {y : ℕ} (j : y ≡ word f i if_y) {t : Bool} (e : t ≡ W.readable a y) where
      pub if_unread : (c : A) → t ≡ false → GoalWalked i a false c
      if_unread c p = Walk.if_first W a (if_here F refl k).goal (rw j at e) c p

      module _ (p : t ≡ true) {z : ℕ} (l : z ≡ word f i if_z) {u : Bool} (h : u ≡ W.readable a z) where
        pub if_unread_2 : (c : A) → u ≡ false → GoalWalked i a false c
        if_unread_2 c q = Walk.if_second W a (if_here F refl k).goal (rw j at e) p (rw l at h) c q

        module _ (q : u ≡ true) (b : A) (r : Bool) {v : ℕ} (o : v ≡ word f i if_then) (m : GoalsWalked v a r b) where
          pub if_then_stops : (c : A) → r ≡ false → GoalWalked i a false c
          if_then_stops c d = Walk.if_then_stop W a (if_here F refl k).goal (rw j at e) p (rw l at h) q b r (rw o at m) c d

          -- what was carried before the if is carried again
          module _ (d : r ≡ true) (a' : A) (again : a' ≡ a) (g : A) (s : Bool) {w : ℕ} (x : w ≡ word f i if_else) (n : GoalsWalked w a' s g) where
            pub if_else_stops : (c : A) → s ≡ false → GoalWalked i a false c
            if_else_stops c y = Walk.if_else_stop W a (if_here F refl k).goal (rw j at e) p (rw l at h) q b r (rw o at m) d g s (rw (x, again) at n) c y

            pub if_walked : (c : A) (y : Bool) (b' : A) → b' ≡ b → s ≡ true → Walk.outcome y c ≡ W.join b' g → GoalWalked i a y c
            if_walked c y b' kept both t =
                Walk.if_joins W a (if_here F refl k).goal (rw j at e) p (rw l at h) q b r (rw o at m) d g s (rw (x, again) at n) c y both (rw kept at t)

  -- ---- a try
  module _ (F : Formed f) (i : ℕ) (k : IsTry f i) where
    module _ (a b : A) (r : Bool) {v : ℕ} (o : v ≡ word f i try_condition) (m : GoalsWalked v a r b) where
      pub condition_stops : (c : A) → r ≡ false → GoalWalked i a false c
      condition_stops c p = Walk.try_condition_stop W a (try_here F refl k).goal b r (rw o at m) c p

      module _ (p : r ≡ true) (d : A) (s : Bool) {w : ℕ} (x : w ≡ word f i try_then) (n : GoalsWalked w b s d) where
        pub try_then_stops : (c : A) → s ≡ false → GoalWalked i a false c
        try_then_stops c q = Walk.try_then_stop W a (try_here F refl k).goal b r (rw o at m) p d s (rw x at n) c q

        -- what was carried before the try is carried again
        module _ (q : s ≡ true) (a' : A) (again : a' ≡ a) (g : A) (u : Bool) {z : ℕ} (l : z ≡ word f i try_else) (j : GoalsWalked z a' u g) where
          pub try_else_stops : (c : A) → u ≡ false → GoalWalked i a false c
          try_else_stops c y = Walk.try_else_stop W a (try_here F refl k).goal b r (rw o at m) p d s (rw x at n) q g u (rw (l, again) at j) c y

          pub try_walked : (c : A) (y : Bool) (d' : A) → d' ≡ d → u ≡ true → Walk.outcome y c ≡ W.join d' g → GoalWalked i a y c
          try_walked c y d' kept both t =
              Walk.try_joins W a (try_here F refl k).goal b r (rw o at m) p d s (rw x at n) q g u (rw (l, again) at j) c y both (rw kept at t)

  -- ---- arms
  pub arms_none_walked : {i : ℕ} (a : A) → i ≡ 0 → ArmsWalked i a true a
  arms_none_walked a z = Walk.arms_end W a (arms_none f z)

  module _ (F : Formed f) {i : ℕ} (st : Stands f arms i) (z : i ≡ 0 → ⊥) where
    module _ (a b : A) {r : Bool} (m : Walk.outcome r b ≡ W.enter (four_at f i) a) where
      pub arm_refused : (c : A) → r ≡ false → ArmsWalked i a false c
      arm_refused c p = Walk.arms_refused W a b (arm_here F z st).view m c p

      module _ (p : r ≡ true) (d : A) (s : Bool) {g : ℕ} (o : g ≡ word f i arm_goals) (n : GoalsWalked g b s d) where
        pub arm_stops : (c : A) → s ≡ false → ArmsWalked i a false c
        arm_stops c q = Walk.arms_stop W a b (arm_here F z st).view m p d s (rw o at n) c q

        module _ (q : s ≡ true) {w : ℕ} (x : w ≡ word f i next_word) where
          pub arm_last : w ≡ 0 → ArmsWalked i a true d
          arm_last y = rw q at (Walk.arms_last W a b (arm_here F z st).view m p d s (rw o at n) (arms_none f (sym x ∙ y)))

          -- what was carried before the arms is carried again
          module _ (some : w ≡ 0 → ⊥) (a' : A) (again : a' ≡ a) (k : A) (u : Bool) (l : ArmsWalked w a' u k) where
            pub arm_rest_stops : (c : A) → u ≡ false → ArmsWalked i a false c
            arm_rest_stops c y = Walk.arms_rest_stop W a b (arm_here F z st).view m p d s (rw o at n) (arm_here F (λ e. some (x ∙ e)) (arm_here F z st).to_next.stands).view q k u (rw (x, again) at l) c y

            pub arms_walked : (c : A) (y : Bool) (d' : A) → d' ≡ d → u ≡ true → Walk.outcome y c ≡ W.join d' k → ArmsWalked i a y c
            arms_walked c y d' kept t j =
                Walk.arms_join W a b (arm_here F z st).view m p d s (rw o at n) (arm_here F (λ e. some (x ∙ e)) (arm_here F z st).to_next.stands).view q k u (rw (x, again) at l) c y t (rw kept at j)
