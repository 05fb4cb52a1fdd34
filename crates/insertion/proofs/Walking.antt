-- The walk over goals, one law for each way through it, over the code's own values.
use Prim.Native.Nat.{ℕ, zero, suc, ◌+◌, ◌*◌, ◌<◌}
use native.Mathlib.Omega.{arith}
use native.Mathlib.Decide.{ℕ_discrete}
use mathlib.Core.List.{List}
use mathlib.Core.Path.{◌≡◌, refl, ap, sym, ◌∙◌}
use Rattle.sets.specs.Sets.{◌∖◌}
use Rattle.sets.specs.declared.Set.{Set}
use Rattle.language.specs.Format.{next_word, goal_x, switch_arms, if_y, if_z, if_then, if_else, try_condition, try_then, try_else, arm_goals, term_functor}
use Rattle.language.specs.File.{k_switch, k_if, k_try, k_goal, goals, arms, word}
use Rattle.language.specs.Tree.{plain, leads}
use Rattle.language.specs.Layout.{reference}
use Rattle.language.specs.Records.{zeros, goals_tree, goal_tree, arms_tree}
use Rattle.language.specs.Program.{◌before◌, ◌then◌, switch, if_less, try, arm, signature_of}
use Rattle.language.specs.Lifetimes.{wanted, live}
use Rattle.language.specs.Answers.{program}
use Rattle.placement.specs.Local.{removes_to, local_goals, local_goal, local_arms}
use Rattle.chains.specs.Formed.{Formed, Stands, goals_at, goal_at, arms_at, goals_none, arms_none}
use Rattle.chains.specs.Is.{chain_next, goals_step}
use Rattle.chains.specs.Parts.{four_at}
use Rattle.chains.specs.Shapes.{IsSwitch, IsIf, IsTry, switch_here, if_here, try_here, arm_here}
use Rattle.liveness.specs.Points.{point_words, points, arms_points}
use Rattle.liveness.specs.Counts.{goals_count, goal_count, arms_count}
use Rattle.liveness.specs.Table.{before_at, after_at}
use Rattle.writer.specs.Laid.{linked}
use Rattle.writer.specs.Skips.{Behind}
use Rattle.laying.specs.Lays.{GoesOn, lays_end}
use Rattle.insertion.specs.Chains.{Fronts}
use Rattle.insertion.proofs.ChainsLaws.{fronts_head, chain_goes, lays_part}
use Rattle.insertion.specs.Wants.{WantedFrom}
use Rattle.insertion.proofs.WantsLaws.{goal_wants, start_wants, switch_wants, branches_want, try_wants, arms_want}
use Rattle.laying.specs.Heads.{SwitchStored, IfStored, TryStored, ArmStored, switch_head, if_head, try_head, arm_front}
use Rattle.insertion.specs.declared.Cursor.{Cursor}
use Rattle.insertion.specs.Along.{LaidAlong}
use Rattle.insertion.proofs.AlongLaws.{along_next, along_on}
use Rattle.insertion.specs.Starts.{first_of, StartLaid}
use Rattle.insertion.proofs.StartsLaws.{first_none, first_some}
use Rattle.insertion.specs.Done.{part_of, GoalsLaid, GoalLaid, PartLaid, ArmsLaid}

-- ---- a turn along a chain: a goal with parts, then the steps behind it
module _ {f rows t : List ℕ} {start at₀ : ℕ} {a b e g : List ℕ} {first i at c w u r j p s : ℕ} (G : LaidAlong f rows t start at₀ a b first i at c) where
  pub along_turn : Formed f → (i ≡ 0 → ⊥) → w ≡ word f i next_word → LaidAlong f rows t w u e g r j p s → GoalLaid f rows t i at b e c r u
      → LaidAlong f rows t start at₀ a g first j p s
  along_turn F z n H m = along_on (along_next G F z m n) H

pub goal_moved : {f rows : List ℕ} (t : List ℕ) {i : ℕ} (at : ℕ) {a b g : List ℕ} {d h : Cursor} {c : ℕ} → b ≡ g → d ≡ h → GoalLaid f rows t i at a g c h.next h.point
    → GoalLaid f rows t i at a b c d.next d.point
goal_moved t at p q m = rw (p, q) m

-- ---- a part
removed_is : {f : List ℕ} (t : List ℕ) {i : ℕ} (at whole : ℕ) → Formed f → Stands f goals i → (q : ℕ) (after : Set) {rs : Set} → (i ≡ 0 → rs ≡ before_at t whole ∖ after_at t whole)
    → ((i ≡ 0 → ⊥) → rs ≡ before_at t whole ∖ before_at t at) → after_at t whole ≡ wanted (signature_of (program f) q) after
    → WantedFrom (signature_of (program f) q) t at (points (program f) (goals_at f i) after)
    → rs ≡ before_at t whole ∖ wanted (signature_of (program f) q) (live (program f) (goals_at f i) after)
unfolding live
removed_is {f} t {i} at whole F st q after {rs} p n ea W = go (ℕ_discrete i 0)
  where
    go : Dec (i ≡ 0) → rs ≡ before_at t whole ∖ wanted (signature_of (program f) q) (live (program f) (goals_at f i) after)
    go (yes z) = p z ∙ ap (λ s. before_at t whole ∖ s) ea ∙ rw (goals_none f z) refl
    go (no z) = n z ∙ ap (λ s. before_at t whole ∖ s) (start_wants (program f) (signature_of (program f) q) t at after (goals_step F st z refl) W)

pub part_laid : {f : List ℕ} (rows t : List ℕ) {i : ℕ} (at whole : ℕ) {a b d : List ℕ} {c m r p : ℕ} → Formed f → Stands f goals i → StartLaid t whole i i at a b c m
    → GoalsLaid f rows t i at b d m r p → PartLaid f rows t i at a d c r p whole
unfolding part_of
part_laid {f} rows t {i} at whole F st O G = (
  G.0 ∙ O.laid.same,
  λ o q after R B ea W.
      let P = program f in
      let S = signature_of P q in
      let g = G.1 o q after R B W in
      (lays_part P S (goals_at f i) after (before_at t whole) i (removed_is t at whole F st q after O.last O.more ea W) (chain_goes P S F i after st) O.laid g.0, g.1),
)

-- ---- a condition
-- where it has no goals, the first of the then part comes next
condition_removed : {f : List ℕ} (t : List ℕ) {x y w : ℕ} (at whole : ℕ) {on : ℕ} {a b : List ℕ} {c m : ℕ} → Formed f → Stands f goals x → Stands f goals y → (q : ℕ) (after : Set)
    → w ≡ first_of x y → (O : StartLaid t whole w on at a b c m) → after_at t whole ≡ wanted (signature_of (program f) q) after
    → WantedFrom (signature_of (program f) q) t at (points (program f) (goals_at f x) (live (program f) (goals_at f y) after))
    → WantedFrom (signature_of (program f) q) t (at + 2 * goals_count (goals_at f x)) (points (program f) (goals_at f y) after)
    → O.removed ≡ before_at t whole ∖ wanted (signature_of (program f) q) (live (program f) (goals_at f x) (live (program f) (goals_at f y) after))
unfolding live goals_count
condition_removed {f} t {x} {y} {w} at whole F sx sy q after ew O ea Y W = go (ℕ_discrete x 0)
  where
    go : Dec (x ≡ 0) → O.removed ≡ before_at t whole ∖ wanted (signature_of (program f) q) (live (program f) (goals_at f x) (live (program f) (goals_at f y) after))
    go (yes z) =
        let e : w ≡ y = ew ∙ sym (first_none y z) in
        let n : at + 2 * goals_count (goals_at f x) ≡ at = rw (goals_none f z) (omega arith) in
        removed_is t at whole F sy q after (λ k. O.last (e ∙ k)) (λ k. O.more (λ l. k (sym e ∙ l))) ea (rw n at W) ∙ rw (goals_none f z) refl
    go (no z) =
        let e : w ≡ x = ew ∙ sym (first_some x y z) in
        O.more (λ l. z (sym e ∙ l))
        ∙ ap (λ s. before_at t whole ∖ s) (start_wants (program f) (signature_of (program f) q) t at (live (program f) (goals_at f y) after) (goals_step F sx z refl) Y)

-- ---- a switch
module _ {f : List ℕ} (rows t : List ℕ) (i at : ℕ) (F : Formed f) where
  pub switch_laid : {a b d : List ℕ} {c s u e p w : ℕ} → IsSwitch f i → Behind c 1 s → w ≡ word f i switch_arms → (at < point_words → u ≡ at + 2)
      → ArmsLaid f rows t w u a b s e p at → SwitchStored f i b d c s e → GoalLaid f rows t i at a d c e p
  unfolding local_goal goal_tree goal_count
  switch_laid {a} {b} {d} {c} {s} {u} {e} {p} {w} k B ew eu A H = (
    H.stored.same ∙ A.0,
    λ o q after R h W.
        let P = program f in
        let S = signature_of P q in
        let E = switch_here F refl k in
        let g : goal_at f i ≡ switch (word f i goal_x) (arms_at f w) = rw ew E.goal in
        let X = goal_wants P S t at (switch (word f i goal_x) (arms_at f w)) after (rw g at W) in
        let Y : WantedFrom S t u (arms_points P (arms_at f w) after) = rw (eu X.short) (switch_wants P S t (at + 2) after refl X.parts) in
        let L = A.1 o q after R (λ v. R.owning.to_arms i k w ew v ∙ h) X.after_is Y in
        let cs = local_arms P S (arms_at f w) after (before_at t at) in
        let K : Fronts a d c e (switch (word f i goal_x) cs then _) (word f i next_word) =
        fronts_head (switch (word f i goal_x) cs) (k_goal k_switch) (word f i next_word) (plain (word f i goal_x) (leads (arms_tree cs) (zeros 4))) (λ y. refl) (switch_head B (arms_tree cs) L.0 H) in
        let n : goal_count (goal_at f i) ≡ suc (arms_count (arms_at f w)) = ap goal_count g in
        (rw (g, sym X.before_is) K, omega (arith, L.1, eu X.short, n)),
  )

  -- ---- an if
  pub if_laid : {a b d e : List ℕ} {c s u m v r p x y : ℕ} → IsIf f i → Behind c 1 s → x ≡ word f i if_then → (at < point_words → u ≡ at + 2)
      → PartLaid f rows t x u a b s m v at → y ≡ word f i if_else → PartLaid f rows t y v b d m r p at → IfStored f i d e c s m r → GoalLaid f rows t i at a e c r p
  unfolding local_goal goal_tree goal_count part_of
  if_laid {a} {b} {d} {e} {c} {s} {u} {m} {v} {r} {p} {x} {y} k B ex eu A ey D H = (
    H.stored.same ∙ D.0 ∙ A.0,
    λ o q after R h W.
        let P = program f in
        let S = signature_of P q in
        let E = if_here F refl k in
        let g : goal_at f i ≡ if_less (word f i if_y) (word f i if_z) (goals_at f x) (goals_at f y) = rw (ex, ey) E.goal in
        let X = goal_wants P S t at (if_less (word f i if_y) (word f i if_z) (goals_at f x) (goals_at f y)) after (rw g at W) in
        let Y = branches_want P S t (at + 2) after refl X.parts in
        let L = A.1 o q after R (λ n. R.owning.to_then i k x ex n ∙ h) X.after_is (rw (eu X.short) Y.0) in
        let w : v ≡ at + 2 + 2 * goals_count (goals_at f x) = omega (arith, L.1, eu X.short) in
        let M = D.1 o q after R (λ n. R.owning.to_else i k y ey n ∙ h) X.after_is (rw w Y.1) in
        let yes_part = part_of f t at q x after in
        let no_part = part_of f t at q y after in
        let K : Fronts a e c r (if_less (word f i if_y) (word f i if_z) yes_part no_part then _) (word f i next_word) =
        fronts_head (if_less (word f i if_y) (word f i if_z) yes_part no_part) (k_goal k_if) (word f i next_word)
        (plain (word f i if_y) (plain (word f i if_z) (leads (goals_tree yes_part) (leads (goals_tree no_part) (zeros 2))))) (λ z. refl)
        (if_head B (goals_tree yes_part) (goals_tree no_part) L.0 M.0 H) in
        let n : goal_count (goal_at f i) ≡ suc (goals_count (goals_at f x) + goals_count (goals_at f y)) = ap goal_count g in
        (rw (g, sym X.before_is) K, omega (arith, M.1, w, n)),
  )

  -- ---- a try
  pub try_laid : {a b d e g h : List ℕ} {c s u l m n r v p j x y z w : ℕ} → IsTry f i → Behind c 1 s → x ≡ word f i try_condition → y ≡ word f i try_then
      → w ≡ first_of x y → (at < point_words → u ≡ at + 2) → StartLaid t at w x u a b s l → GoalsLaid f rows t x u b d l m v → GoalsLaid f rows t y v d e m n p
      → z ≡ word f i try_else → PartLaid f rows t z p e g n r j at → TryStored f i g h c s m n r → GoalLaid f rows t i at a h c r j
  unfolding local_goal goal_tree goal_count part_of
  try_laid {a} {b} {d} {e} {g} {h} {c} {s} {u} {l} {m} {n} {r} {v} {p} {j} {x} {y} {z} {w} k B ex ey ew eu O C A ez D H = (
    H.stored.same ∙ D.0 ∙ A.0 ∙ C.0 ∙ O.laid.same,
    λ o q after R b W.
        let P = program f in
        let S = signature_of P q in
        let E = try_here F refl k in
        let G : goal_at f i ≡ try (goals_at f x) (goals_at f y) (goals_at f z) = rw (ex, ey, ez) E.goal in
        let X = goal_wants P S t at (try (goals_at f x) (goals_at f y) (goals_at f z)) after (rw G at W) in
        let Y = try_wants P S t (at + 2) after refl X.parts in
        let sx : Stands f goals x = rw ex E.to_condition.stands in
        let sy : Stands f goals y = rw ey E.to_then.stands in
        let Z : WantedFrom S t u (points P (goals_at f x) (live P (goals_at f y) after)) = rw (eu X.short) Y.0 in
        let L = C.1 o q (live P (goals_at f y) after) R (λ k'. R.owning.to_condition i k x ex k' ∙ b) Z in
        let ev : v ≡ at + 2 + 2 * goals_count (goals_at f x) = omega (arith, L.1, eu X.short) in
        let M = A.1 o q after R (λ k'. R.owning.to_try_then i k y ey k' ∙ b) (rw ev Y.1.0) in
        let ep : p ≡ at + 2 + 2 * goals_count (goals_at f x) + 2 * goals_count (goals_at f y) = omega (arith, M.1, ev) in
        let N = D.1 o q after R (λ k'. R.owning.to_try_else i k z ez k' ∙ b) X.after_is (rw ep Y.1.1) in
        let er = condition_removed t u at F sx sy q after ew O X.after_is Z (rw (eu X.short) Y.1.0) in
        let condition = removes_to S (before_at t at) (live P (goals_at f x) (live P (goals_at f y) after)) before local_goals P S (goals_at f x) (live P (goals_at f y) after) in
        let yes_part = local_goals P S (goals_at f y) after in
        let no_part = part_of f t at q z after in
        let K : Fronts a h c r (try condition yes_part no_part then _) (word f i next_word) =
        fronts_head (try condition yes_part no_part) (k_goal k_try) (word f i next_word)
        (leads (goals_tree condition) (leads (goals_tree yes_part) (leads (goals_tree no_part) (zeros 3)))) (λ k'. refl)
        (try_head B (goals_tree condition) (goals_tree yes_part) (goals_tree no_part)
        (lays_part P S (goals_at f x) (live P (goals_at f y) after) (before_at t at) x er (chain_goes P S F x (live P (goals_at f y) after) sx) O.laid L.0) M.0 N.0 H) in
        let f' : goal_count (goal_at f i) ≡ suc (goals_count (goals_at f x) + (goals_count (goals_at f y) + goals_count (goals_at f z))) = ap goal_count G in
        (rw (G, sym X.before_is) K, omega (arith, N.1, ep, f')),
  )

-- ---- arms
arms_goes : {f : List ℕ} → Formed f → (t : List ℕ) (w whole q : ℕ) (after : Set) → Stands f arms w
    → GoesOn w (arms_tree (local_arms (program f) (signature_of (program f) q) (arms_at f w) after (before_at t whole)))
unfolding arms_tree local_arms linked reference
arms_goes {f} F t zero whole q after st c = rw (arms_none f refl) refl
arms_goes {f} F t (suc w) whole q after st c = rw (arm_here F (λ e. omega arith) st).view refl

pub no_arms_law : {f : List ℕ} (rows t : List ℕ) {i : ℕ} (at : ℕ) (a : List ℕ) (c whole : ℕ) → i ≡ 0 → ArmsLaid f rows t i at a a c c at whole
unfolding arms_tree local_arms arms_count
no_arms_law {f} rows t at a c whole z = (refl, λ o q after R B ea W. rw (arms_none f z) (lays_end a c, omega arith))

pub arms_laid : {f : List ℕ} (rows t : List ℕ) {i : ℕ} (at whole : ℕ) {a b d e : List ℕ} {c s m v r p x y : ℕ} → Formed f → Stands f arms i → (i ≡ 0 → ⊥) → Behind c 1 s
    → x ≡ word f i arm_goals → PartLaid f rows t x at a b s m v whole → y ≡ word f i next_word → ArmsLaid f rows t y v b d m r p whole → ArmStored f i d e c s m
    → ArmsLaid f rows t i at a e c r p whole
unfolding arms_count arms_tree local_arms part_of
arms_laid {f} rows t {i} at whole {a} {b} {d} {e} {c} {s} {m} {v} {r} {p} {x} {y} F st z B ex A ey D H = (
  H.stored.same ∙ D.0 ∙ A.0,
  λ o q after R h ea W.
      let P = program f in
      let S = signature_of P q in
      let k : arms_at f i ≡ arm (word f i term_functor) (four_at f i) (goals_at f x) (arms_at f y) = rw (ex, ey) (arm_here F z st).view in
      let U = arms_want P S t at after k W in
      let L = A.1 o q after R (λ n. R.owning.arm_goals_law i st z x ex n ∙ h z) ea U.0 in
      let M = D.1 o q after R (λ n. R.owning.arm_next i st z y ey n ∙ h z) ea (rw L.1 U.1) in
      let N : arms_count (arms_at f i) ≡ goals_count (goals_at f x) + arms_count (arms_at f y) = ap arms_count k in
      let g : GoesOn (word f i next_word) (arms_tree (local_arms P S (arms_at f y) after (before_at t whole))) =
      λ j. rw (sym ey) (arms_goes F t y whole q after (chain_next F st z ey).stands j) in
      let K = arm_front B (goals_tree (part_of f t whole q x after)) (arms_tree (local_arms P S (arms_at f y) after (before_at t whole))) g L.0 M.0 H in
      (rw k K, omega (arith, L.1, M.1, N)),
)
