-- Laws of `specs/Step` that only proofs cite.
use Prim.Native.Nat.{ℕ}
use mathlib.Core.Bool.{Bool, true, false}
use mathlib.Core.List.{List}
use mathlib.Core.Path.{◌≡◌, refl, sym, ap, ◌∙◌}
use Rattle.sets.specs.Tests.{◌&◌}
use Rattle.sets.specs.Sets.{apart}
use Rattle.sets.specs.declared.Set.{Set}
use Rattle.language.specs.Program.{Step, signature_of}
use Rattle.language.specs.Lifetimes.{wanted, live_step, step_classes}
use Rattle.language.specs.Answers.{program}
use Rattle.tables.specs.Rows.{bears_in, ends_in, mark_in}
use Rattle.tables.specs.Filled.{GoalIsStep, Accessed, Effected}
use Rattle.liveness.specs.Carried.{Carries}
use Rattle.liveness.specs.declared.carried.Carried.{Carried}
use Rattle.liveness.specs.Noted.{Noted}
use Rattle.liveness.specs.Wants.{wanted_in}
use Rattle.liveness.specs.Step.{StepNoted, classes_at, live_at}

-- ---- one law for each way through the tests
module _ (rows w : List ℕ) (i : ℕ) (before after : Set) {e : Set} {a : Bool} (ee : e ≡ ends_in rows i) (ea : a ≡ apart e (wanted_in w after)) where
  ended : apart (ends_in rows i) (wanted_in w after) ≡ a
  ended = ap (λ (y : Set). apart y (wanted_in w after)) (sym ee) ∙ sym ea

  pub ends_wanted : a ≡ false → false ≡ classes_at rows w i before after
  unfolding classes_at ◌&◌
  ends_wanted p = rw (ended, p) refl

  module _ {u : Set} {b : Bool} (p : a ≡ true) (eu : u ≡ bears_in rows i) (eb : b ≡ apart u (wanted_in w before)) where
    borne : apart (bears_in rows i) (wanted_in w before) ≡ b
    borne = ap (λ (y : Set). apart y (wanted_in w before)) (sym eu) ∙ sym eb

    pub bears_wanted : b ≡ false → false ≡ classes_at rows w i before after
    unfolding classes_at ◌&◌
    bears_wanted q = rw (ended, p, borne, q) refl

    pub none_shared : {c : Bool} → b ≡ true → c ≡ mark_in rows i → c ≡ classes_at rows w i before after
    unfolding classes_at ◌&◌
    none_shared q h = h ∙ rw (ended, p, borne, q) refl

-- ---- one law for each way through it
pub and_right : (x : Bool) → (x & true) ≡ x
unfolding ◌&◌
and_right true = refl
and_right false = refl

and_broken : (x : Bool) → (x & false) ≡ false
unfolding ◌&◌
and_broken true = refl
and_broken false = refl

module _ (rows : List ℕ) (i : ℕ) (c : Carried) {before after : Set} (ea : after ≡ c.live) (eb : before ≡ live_at rows i after) {b : Bool}
    (e : b ≡ classes_at rows c.wants i before after) where
  right : classes_at rows c.wants i (live_at rows i c.live) c.live ≡ b
  right = rw (sym ea, sym eb) (sym e)

  pub step_keeps_law : {t u : List ℕ} {d : Carried} → b ≡ true → Noted c t d u before after c.classes → StepNoted rows i c t d u
  step_keeps_law p n = record {
    live_is = n.live_is ∙ rw (sym ea, eb) refl;
    classes_is = n.classes_is ∙ sym (rw (right, p) (and_right c.classes));
    wants_is = n.wants_is;
    fills = rw (sym ea, sym eb) n.fills;
  }

  pub step_breaks : {t u : List ℕ} {k d : Carried} → b ≡ false → Carries k c.wants c.live c.place false → Noted k t d u before after k.classes → StepNoted rows i c t d u
  step_breaks p q n = record {
    live_is = n.live_is ∙ rw (sym ea, eb) refl;
    classes_is = n.classes_is ∙ q.classes_is ∙ sym (rw (right, p) (and_broken c.classes));
    wants_is = n.wants_is ∙ q.wants_is;
    fills = rw (sym ea, sym eb, sym q.place_is) n.fills;
  }

-- ---- they are the definition's
module _ {f rows : List ℕ} {i : ℕ} {g : Step} (A : Accessed f rows) (at : GoalIsStep f i g) where
  pub live_is : (after : Set) → live_at rows i after ≡ live_step (program f) g after
  unfolding live_at live_step
  live_is after = rw (A.gives i g at, A.reads i g at) refl

  pub classes_are : (w : List ℕ) {o : ℕ → ℕ} {q : ℕ} → Effected f o rows → ((live : Set) → wanted_in w live ≡ wanted (signature_of (program f) q) live) → o i ≡ q
      → (after : Set) → classes_at rows w i (live_at rows i after) after ≡ step_classes (program f) (signature_of (program f) q) g after
  unfolding classes_at step_classes
  classes_are w E k h after = rw (E.ends i g at, E.bears i g at, E.unshared i g at, h, live_is after, k after, k (live_step (program f) g after)) refl
