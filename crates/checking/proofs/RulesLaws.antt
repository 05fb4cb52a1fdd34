-- Laws of `specs/Rules` that only proofs cite.
use Prim.Native.Nat.{ℕ}
use mathlib.Core.Bool.{Bool, true, false}
use mathlib.Core.List.{List}
use mathlib.Core.Path.{◌≡◌, refl, sym, ap, ap₂, ◌∙◌}
use Rattle.sets.specs.Tests.{◌&◌}
use Rattle.sets.specs.Sets.{empty_set, ◌∪◌, ◌∩◌, ◌∖◌, same_set, subset, apart}
use Rattle.sets.specs.declared.Set.{Set}
use Rattle.language.specs.Program.{Step, Signature, signature_of}
use Rattle.language.specs.Lifetimes.{held_after}
use Rattle.language.specs.Checking.{broken, carries, require_rule, sound_given, sound_without, step_rules, check_step}
use Rattle.language.specs.Answers.{program}
use Rattle.tables.specs.Window.{Window, kept_place, set_in}
use Rattle.tables.specs.Rows.{reads_in, gives_in, needs_in, bears_in, ends_in, mark_in}
use Rattle.tables.specs.Filled.{GoalIsStep, Accessed, Effected}
use Rattle.walks.specs.Walk.{outcome, goes_on}
use Rattle.checking.specs.Checker.{carrying, as_outcome, checker}
use Rattle.checking.specs.declared.carried.Carried.{Carried}
use Rattle.checking.specs.Sound.{ReachesAll}
use Rattle.checking.specs.Rules.{StepChecked, rules_at}

-- ---- one law for each way through the tests
module _ (rows own : List ℕ) (i : ℕ) (held sound : Set) {r : Set} {a : Bool} (er : r ≡ reads_in rows i) (ra : a ≡ subset r sound) where
  read : subset (reads_in rows i) sound ≡ a
  read = ap (λ (y : Set). subset y sound) (sym er) ∙ sym ra

  pub rules_unread : a ≡ false → false ≡ rules_at rows own i held sound
  unfolding rules_at ◌&◌
  rules_unread p = rw (read, p) refl

  module _ {n : Set} {b : Bool} (p : a ≡ true) (en : n ≡ needs_in rows i) (rb : b ≡ subset n held) where
    needed : subset (needs_in rows i) held ≡ b
    needed = ap (λ (y : Set). subset y held) (sym en) ∙ sym rb

    pub rules_needs : b ≡ false → false ≡ rules_at rows own i held sound
    unfolding rules_at ◌&◌
    rules_needs q = rw (read, p, needed, q) refl

    module _ {e k m : Set} {c : Bool} (q : b ≡ true) (ee : e ≡ ends_in rows i) (ek : k ≡ set_in own kept_place) (rm : m ≡ e ∩ k) (rc : c ≡ same_set m empty_set) where
      ended : apart (ends_in rows i) (set_in own kept_place) ≡ c
      unfolding apart
      ended = rw (sym ee, sym ek, sym rm) (sym rc)

      pub rules_kept : c ≡ false → false ≡ rules_at rows own i held sound
      unfolding rules_at ◌&◌
      rules_kept s = rw (read, p, needed, q, ended, s) refl

      module _ {u v : Set} {d : Bool} (s : c ≡ true) (eu : u ≡ bears_in rows i) (rv : v ≡ u ∩ held) (rd : d ≡ same_set v empty_set) where
        born : apart (bears_in rows i) held ≡ d
        unfolding apart
        born = rw (sym eu, sym rv) (sym rd)

        pub rules_born : d ≡ false → false ≡ rules_at rows own i held sound
        unfolding rules_at ◌&◌
        rules_born x = rw (read, p, needed, q, ended, s, born, x) refl

        pub rules_last : {l : Bool} → d ≡ true → l ≡ mark_in rows i → l ≡ rules_at rows own i held sound
        unfolding rules_at ◌&◌
        rules_last x h = h ∙ rw (read, p, needed, q, ended, s, born, x) refl

-- ---- they are the definition's: the step at record i, of procedure q
module _ {f rows own : List ℕ} {o : ℕ → ℕ} {q i : ℕ} {g : Step} (A : Accessed f rows) (E : Effected f o rows)
    (W : Window f (signature_of (program f) q) own) (at : GoalIsStep f i g) (h : o i ≡ q) where
  abbrev S : Signature
  S = signature_of (program f) q

  rules_are : (held sound : Set) → rules_at rows own i held sound ≡ step_rules (program f) S g held sound
  unfolding rules_at step_rules
  rules_are held sound = rw (A.reads i g at, E.needs i g at, E.ends i g at, E.bears i g at, E.unshared i g at, W.kept, h) refl

  pub step_broken : (held sound : Set) {b : Bool} → b ≡ rules_at rows own i held sound → b ≡ false → broken ≡ check_step (program f) S g held sound
  unfolding check_step require_rule
  step_broken held sound p e = rw (sym (rules_are held sound), sym p ∙ e) refl

  pub step_carries : (held sound : Set) {b : Bool} {e d u after still w s : Set} → b ≡ rules_at rows own i held sound → b ≡ true → e ≡ ends_in rows i → d ≡ held ∖ e
      → u ≡ bears_in rows i → after ≡ d ∪ u → still ≡ sound_without S e sound → w ≡ gives_in rows i → s ≡ sound_given S w after still
      → carries after s ≡ check_step (program f) S g held sound
  unfolding check_step require_rule held_after
  step_carries held sound p t ee ed eu ea es ew eg =
      rw (sym (rules_are held sound), sym p ∙ t, eg, ew, es, ea, eu, ed, ee, A.gives i g at, E.ends i g at, E.bears i g at, h) refl

-- .. from the code's own values
module _ (rows own : List ℕ) (i : ℕ) (c : Carried) {held sound : Set} (eh : held ≡ c.held) (es : sound ≡ c.sound) {b : Bool} (rb : b ≡ rules_at rows own i held sound) where
  rule : b ≡ rules_at rows own i c.held c.sound
  rule = rw (eh, es) at rb

  pub step_stops : (d : Carried) → b ≡ false → StepChecked rows own i c false d
  unfolding outcome checker as_outcome
  step_stops d p f o q g A E W at h = ap as_outcome (step_broken A E W at h c.held c.sound rule p)

  pub step_goes : (d : Carried) {e r u after still w s : Set} → b ≡ true → e ≡ ends_in rows i → r ≡ held ∖ e → u ≡ bears_in rows i → after ≡ r ∪ u
      → ((S : Signature) → ReachesAll S own → still ≡ sound_without S e sound) → w ≡ gives_in rows i → ((S : Signature) → ReachesAll S own → s ≡ sound_given S w after still)
      → d.held ≡ after → d.sound ≡ s → StepChecked rows own i c true d
  unfolding outcome checker as_outcome
  step_goes d {e} p ee er eu ea ew eg ex jh js f o q g A E W at h =
      let S : Signature = signature_of (program f) q in
      ap₂ (λ (x y : Set). goes_on (carrying x y)) jh js
      ∙ ap as_outcome (step_carries A E W at h c.held c.sound rule p ee (er ∙ ap (λ (y : Set). y ∖ e) eh) eu ea
      (ew S W.reached ∙ ap (λ (y : Set). sound_without S e y) es) eg (ex S W.reached))

-- ---- where an arm's goals start: its arguments have been given their values
pub entered : (S : Signature) (rows own : List ℕ) (i : ℕ) (c : Carried) {given held sound r : Set} → ReachesAll S own
    → ((S : Signature) → ReachesAll S own → r ≡ sound_given S given held sound) → given ≡ gives_in rows i → held ≡ c.held → sound ≡ c.sound
    → r ≡ sound_given S (gives_in rows i) c.held c.sound
entered S rows own i c w h eg eh es = rw (eg, eh, es) at (h S w)
