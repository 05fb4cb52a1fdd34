-- The goals that a frame has still to do, as the checker sees them: segments in a row, each passed from what is held and sound where it
-- starts.
-- An arm may end with more sound variables than are counted on after it, so each segment goes on with a part of what it ends with.
use Rattle.std.specs.Prelude.{◌≡◌, ◌⊎◌, length}
use Rattle.std.proofs.Math.Path.{refl, sym, ap}
use Rattle.std.proofs.Common.{◌∙◌}
use Rattle.std.proofs.Math.Bool.{true, false≢true}
use mathlib.Core.List.{List, [], ◌∷◌}
use Rattle.std.proofs.Math.Logic.{inl, inr}
use Prim.Native.Nat.{ℕ, zero, suc, ◌+◌, ◌<◌}
use native.Mathlib.Omega.{arith}
use borrow.Author.Tests.{eqb-true, eq-eqb, ne_eqb}
use Rattle.sets.specs.Tests.{and_true}
use Rattle.sets.specs.Sets.{◌∪◌, subset, same_eq}
use Rattle.sets.specs.SetLaws.{subset_refl, subset_trans}
use Rattle.sets.specs.Members.{set_of}
use Rattle.sets.specs.declared.Set.{Set}
use Rattle.language.specs.Lists.{nth}
use Rattle.language.specs.Program.{Four, arguments_of, Functor, Goals, done, ◌then◌, Goal, Arms, no_arms, arm, ◌before◌, Signature, Program, functor_at}
use Rattle.language.specs.Typing.{types_in, have_types, arguments_ok, goals_ok, goal_ok, arms_ok}
use Rattle.language.specs.Values.{outs_of}
use Rattle.language.specs.Regions.{in_targets, goals_regions, goal_regions, arms_regions}
use Rattle.language.specs.Lifetimes.{born, kept}
use Rattle.language.specs.Checking.{carries, sound_given, check_goals, check_goal, check_arms, end_rules}
use Rattle.language.specs.Frames.{picked, pick}
use Rattle.laws.specs.Choices.{choose_true, choose_false}
use Rattle.safety.specs.Walks.{carry_on_in, join_in}

module _ (P : Program) (S : Signature) where
  pub data Doing : Goals → Set → Set → Type 0 where
    ends : {h s : Set} → end_rules S (carries h s) ≡ true → Doing done h s
    segment : {goals rest : Goals} {h s k t u : Set} (gs : Goals) → gs before rest ≡ goals → goals_ok P S gs ≡ true
        → goals_regions P S gs ≡ true → check_goals P S gs h s ≡ carries k u → subset t u ≡ true → Doing rest k t → Doing goals h s

  -- the next goal, with the sound variables that it counts on
  pub record NextGoal (g : Goal) (rest : Goals) (h s : Set) : Type 0 where
    pub counted : Set
    pub fewer : subset counted s ≡ true
    pub typed : goal_ok P S g ≡ true
    pub regioned : goal_regions P S g ≡ true
    pub held : Set
    pub sound : Set
    pub goes : check_goal P S g h counted ≡ carries held sound
    pub onward : Doing rest held sound

  never_done : (g : Goal) (gs : Goals) → done ≡ g then gs → ⊥
  never_done g gs e = false≢true cc

  next_same : {g : Goal} {rest : Goals} {h s k t u : Set} → k ≡ h → u ≡ s → subset t u ≡ true → NextGoal g rest k t → NextGoal g rest h s
  next_same {h = h} {s = s} {t = t} p q w n = record {
    counted = n.counted;
    fewer = subset_trans n.counted t s n.fewer (rw q at w);
    typed = n.typed;
    regioned = n.regioned;
    held = n.held;
    sound = n.sound;
    goes = rw p at n.goes;
    onward = n.onward;
  }

  pub next_in_law : {goals : Goals} {h s : Set} → Doing goals h s → (g : Goal) (rest : Goals) → goals ≡ g then rest → NextGoal g rest h s
  unfolding ◌before◌ goals_ok goals_regions check_goals
  next_in_law (ends e) g rest q = absurd (never_done g rest q)
  next_in_law (segment done b o r c w d) g rest q = next_same (cc) (cc) w (next_in_law d g rest (b ∙ q))
  next_in_law (segment {rest = more} {h = h} {s = s} (a then gs) b o r c w d) g rest q =
      let t : a ≡ g = cc in
      let i = carry_on_in c in
      record {
        counted = s;
        fewer = subset_refl s;
        typed = rw t at (and_true o).0;
        regioned = rw t at (and_true r).0;
        held = i.0;
        sound = i.1;
        goes = ap (λ (x : Goal). check_goal P S x h s) (sym t) ∙ i.2;
        onward = segment {goals = rest} {rest = more} gs (cc) (and_true o).1 (and_true r).1 i.3 w d;
      }

  -- "At the end: born and kept regions held, no other; out variables sound."
  pub record End (h s : Set) : Type 0 where
    pub holds : h ≡ born S ∪ kept S
    pub outs : subset (outs_of S) s ≡ true

  pub end_in : {goals : Goals} {h s : Set} → Doing goals h s → goals ≡ done → End h s
  unfolding ◌before◌ check_goals end_rules
  end_in (ends {h = h} e) q = let p = and_true e in record { holds = same_eq h (born S ∪ kept S) p.0; outs = p.1 }
  end_in (segment {h = h} {s = s} {k = k} {t = t} {u = u} done b o r c w d) q =
      let x = end_in d (b ∙ q) in
      let p : k ≡ h = cc in
      let z : u ≡ s = cc in
      record { holds = sym p ∙ x.holds; outs = rw z at (subset_trans (outs_of S) t u x.outs w) }
  end_in (segment {rest = more} (a then gs) b o r c w d) q = absurd (never_done a (gs before more) (sym (b ∙ q)))

  -- the arm that functor k takes, f being what the type says of it
  pub record ArmTaken (cs : Arms) (r : ℕ) (f : Functor) (k : ℕ) (h s h₁ s₁ : Set) : Type 0 where
    pub arguments : List ℕ
    pub goals : Goals
    pub after : Set
    pub picks : pick cs k ≡ picked arguments goals
    pub have : have_types S (types_in f) arguments ≡ true
    pub targets : in_targets P S r k 1 arguments ≡ true
    pub typed : goals_ok P S goals ≡ true
    pub regioned : goals_regions P S goals ≡ true
    pub goes : check_goals P S goals h (sound_given S (set_of arguments) h s) ≡ carries h₁ after
    pub more : subset s₁ after ≡ true

  -- the first arm, and the others if there are any
  pub record Parted (ys : List ℕ) (gs : Goals) (cs : Arms) (h s h₁ s₁ : Set) : Type 0 where
    pub first : Set
    pub goes : check_goals P S gs h (sound_given S (set_of ys) h s) ≡ carries h₁ first
    pub in_first : subset s₁ first ≡ true
    pub others : (cs ≡ no_arms) ⊎ ((t : Set) × (check_arms P S cs h s ≡ carries h₁ t) × (subset s₁ t ≡ true))

  parted : (f : ℕ) (ys : Four) (gs : Goals) (cs : Arms) {h s h₁ s₁ : Set} → check_arms P S (arm f ys gs cs) h s ≡ carries h₁ s₁
      → Parted (arguments_of ys) gs cs h s h₁ s₁
  unfolding check_arms
  parted f ys gs no_arms {s₁ = s₁} e = record { first = s₁; goes = e; in_first = subset_refl s₁; others = inl refl }
  parted f ys gs (arm g zs hs cs) e =
      let j = join_in e in
      record { first = j.left; goes = j.goes_left; in_first = j.in_left; others = inr (j.right, j.goes_right, j.in_right) }

  none_left : (cs : Arms) (fs : List Functor) (n j : ℕ) → cs ≡ no_arms → arms_ok P S cs fs n ≡ true → j < length fs → ⊥
  unfolding arms_ok
  none_left no_arms [] n j q o l = omega arith
  none_left no_arms (f ∷ fs) n j q o l = false≢true o
  none_left (arm g ys gs cs) fs n j q o l = false≢true (cc)

  pub arms_in_law : (cs : Arms) (fs : List Functor) (r n j k : ℕ) {h s h₁ s₁ : Set} → k ≡ n + j → j < length fs → arms_ok P S cs fs n ≡ true
      → arms_regions P S cs r ≡ true → check_arms P S cs h s ≡ carries h₁ s₁ → ArmTaken cs r (functor_at fs j) k h s h₁ s₁
  unfolding arms_ok arms_regions arguments_ok pick functor_at nth
  arms_in_law no_arms [] r n j k q l o w e = absurd (omega arith)
  arms_in_law no_arms (f ∷ fs) r n j k q l o w e = absurd (false≢true o)
  arms_in_law (arm g ys gs cs) [] r n j k q l o w e = absurd (omega arith)
  arms_in_law (arm g ys gs cs) (f ∷ fs) r n zero k q l o w e =
      let a = and_true o in
      let b = and_true a.1 in
      let c = and_true b.1 in
      let u = and_true w in
      let p = parted g ys gs cs e in
      let t = eqb-true g n a.0 in
      let z : g ≡ k = omega arith in
      record {
        arguments = arguments_of ys;
        goals = gs;
        after = p.first;
        picks = choose_true _ _ _ (eq-eqb g k z);
        have = b.0;
        targets = rw z at u.0;
        typed = c.0;
        regioned = (and_true u.1).0;
        goes = p.goes;
        more = p.in_first;
      }
  arms_in_law (arm g ys gs cs) (f ∷ fs) r n (suc j) k {h} {s} {h₁} {s₁} q l o w e =
      let a = and_true o in
      let c = and_true (and_true a.1).1 in
      let p = parted g ys gs cs e in
      let t = eqb-true g n a.0 in
      later t c.1 p.others (λ t₁ x. arms_in_law cs fs r (suc n) j k (omega arith) (omega arith) c.1 (and_true (and_true w).1).1 x)
    where
      later : g ≡ n → arms_ok P S cs fs (suc n) ≡ true
          → (cs ≡ no_arms) ⊎ ((t : Set) × (check_arms P S cs h s ≡ carries h₁ t) × (subset s₁ t ≡ true))
          → ((t : Set) → check_arms P S cs h s ≡ carries h₁ t → ArmTaken cs r (functor_at fs j) k h s h₁ t)
          → ArmTaken (arm g ys gs cs) r (functor_at (f ∷ fs) (suc j)) k h s h₁ s₁
      later t o' (inl z) ih = absurd (none_left cs fs (suc n) j z o' (omega arith))
      later t o' (inr z) ih =
          let y = ih z.0 z.1 in
          record {
            arguments = y.arguments;
            goals = y.goals;
            after = y.after;
            picks = choose_false _ _ _ (ne_eqb g k (λ v. omega arith)) ∙ y.picks;
            have = y.have;
            targets = y.targets;
            typed = y.typed;
            regioned = y.regioned;
            goes = y.goes;
            more = subset_trans s₁ z.0 y.after z.2 y.more;
          }
