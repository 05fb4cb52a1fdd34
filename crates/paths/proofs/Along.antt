-- The rules along several paths, each with its own held regions and sound variables, as one test of what is carried where they start; and how
-- that test goes over paths that are made of others.
use Rattle.std.specs.Prelude.{ℕ, Bool, true, false, ◌≡◌}
use Rattle.std.proofs.lemmas.Bool.{false≢true}
use mathlib.Core.List.{List, ◌∷◌, ◌++◌, []}
use Rattle.std.proofs.Math.Path.{refl, ap, ap₂}
use Rattle.std.proofs.Common.{sym, ◌∙◌}
use Rattle.sets.specs.Tests.{◌&◌, and_true}
use Rattle.sets.specs.Sets.{member}
use Rattle.sets.specs.declared.Set.{Set}
use Rattle.language.specs.Lists.{all, is_none}
use Rattle.language.specs.Program.{Four, Signature, Program}
use Rattle.laws.specs.Tests.{and_yes, and_swap}
use Rattle.laws.specs.Lists.{all_append, all_same, all_both, all_beside}
use Rattle.paths.specs.Paths.{Event, takes, compares, tries, then_each, then_all, read_by, read_sound, region_rules, event_rules, held_then, sound_then, keeps_along}
use Rattle.paths.proofs.Alls.{all_each, all_all}
use Rattle.paths.proofs.Events.{held_back, rules_meet, sound_meet}
use Rattle.paths.proofs.Steps.{compares_sound, tries_sound}
use Rattle.paths.proofs.Carrying.{Test, Splits}

module _ (P : Program) (S : Signature) where
  -- the rules hold along each of the paths ps, and K at the end of each
  unfoldable pub along_all : Test → List (List Event) → Test
  along_all K ps h s = all (λ p. keeps_along P S K p h s) ps

  -- ---- the rest of a path, and the rest of several, as a test
  -- an event, and then a test
  event_then : Event → Test → Test
  event_then e K h s = event_rules P S e h s & K (held_then P S e h) (sound_then P S e h s)

  event_splits : (e : Event) (K : Test) → Splits K → Splits (event_then e K)
  unfolding event_then event_rules
  event_splits e K split = record {
    meet = λ h s t.
        ap₂ ◌&◌ (rules_meet P S e h s t)
        (ap (K (held_then P S e h)) (sound_meet P S e h s t) ∙ split.meet (held_then P S e h) (sound_then P S e h s) (sound_then P S e h t))
        ∙ and_swap (event_rules P S e h s) (event_rules P S e h t) (K (held_then P S e h) (sound_then P S e h s)) (K (held_then P S e h) (sound_then P S e h t));
    one = λ h k s t f g.
        let a = and_true f in
        let b = and_true g in
        held_back P S e h k (and_true a.0).1 (and_true b.0).1
        (split.one (held_then P S e h) (held_then P S e k) (sound_then P S e h s) (sound_then P S e k t) a.1 b.1);
  }

  pub along_splits : (K : Test) → Splits K → (p : List Event) → Splits (keeps_along P S K p)
  unfolding keeps_along event_then
  along_splits K split [] = split
  along_splits K split (e ∷ es) = event_splits e (keeps_along P S K es) (along_splits K split es)

  first_one : (K : Test) → Splits K → (ps : List (List Event)) → is_none ps ≡ false → (h k s t : Set) → along_all K ps h s ≡ true
      → along_all K ps k t ≡ true → h ≡ k
  unfolding along_all is_none all
  first_one K split [] e h k s t f g = absurd (false≢true (sym e))
  first_one K split (p ∷ ps) e h k s t f g = (along_splits K split p).one h k s t (and_true f).0 (and_true g).0

  pub all_splits : (K : Test) → Splits K → (ps : List (List Event)) → is_none ps ≡ false → Splits (along_all K ps)
  unfolding along_all
  all_splits K split ps e = record {
    meet = λ h s t.
        all_same _ _ (λ p. (along_splits K split p).meet h s t) ps ∙ all_both (λ p. keeps_along P S K p h s) (λ p. keeps_along P S K p h t) ps;
    one = first_one K split ps e;
  }

  -- ---- paths that are made of others
  after_along : (K : Test) (u : List Event) (ps : List (List Event)) → is_none ps ≡ false → (h s : Set)
      → all (λ v. keeps_along P S K (u ++ v) h s) ps ≡ keeps_along P S (along_all K ps) u h s
  unfolding keeps_along along_all
  after_along K [] ps n h s = refl
  after_along K (e ∷ es) ps n h s =
      all_beside (event_rules P S e h s) (λ v. keeps_along P S K (es ++ v) (held_then P S e h) (sound_then P S e h s)) ps n
      ∙ ap (λ (b : Bool). event_rules P S e h s & b) (after_along K es ps n (held_then P S e h) (sound_then P S e h s))

  along_each : (K : Test) (u : List Event) (ps : List (List Event)) → is_none ps ≡ false → (h s : Set)
      → along_all K (then_each u ps) h s ≡ keeps_along P S (along_all K ps) u h s
  unfolding along_all
  along_each K u ps n h s = all_each (λ p. keeps_along P S K p h s) u ps ∙ after_along K u ps n h s

  pub along_then : (K : Test) (us ps : List (List Event)) → is_none ps ≡ false → (h s : Set)
      → along_all K (then_all us ps) h s ≡ along_all (along_all K ps) us h s
  unfolding along_all
  along_then K us ps n h s = all_all (λ p. keeps_along P S K p h s) us ps ∙ all_same _ _ (λ u. after_along K u ps n h s) us

  pub along_append : (K : Test) (us ps : List (List Event)) (h s : Set) → along_all K (us ++ ps) h s ≡ (along_all K us h s & along_all K ps h s)
  unfolding along_all
  along_append K us ps h s = all_append (λ p. keeps_along P S K p h s) us ps

  -- an arm that is taken, and an if's part: the reads, and then the paths of the goals
  pub along_takes : (K : Test) (x f : ℕ) (ys : Four) (ps : List (List Event)) → is_none ps ≡ false → (h s : Set)
      → along_all K (then_each (takes x f ys ∷ []) ps) h s ≡ (member s x & along_all K ps h (sound_then P S (takes x f ys) h s))
  unfolding keeps_along event_rules read_sound read_by region_rules held_then all
  along_takes K x f ys ps n h s =
      along_each K (takes x f ys ∷ []) ps n h s
      ∙ ap (λ (b : Bool). b & along_all K ps h (sound_then P S (takes x f ys) h s)) (and_yes (member s x & true) ∙ and_yes (member s x))

  pub along_compares : (K : Test) (y z : ℕ) (b : Bool) (ps : List (List Event)) → is_none ps ≡ false → (h s : Set)
      → along_all K (then_each (compares y z b ∷ []) ps) h s ≡ ((member s y & member s z) & along_all K ps h s)
  unfolding keeps_along event_rules read_sound read_by region_rules held_then all
  along_compares K y z b ps n h s =
      along_each K (compares y z b ∷ []) ps n h s
      ∙ ap₂ ◌&◌ (and_yes (member s y & (member s z & true)) ∙ ap (λ (b : Bool). member s y & b) (and_yes (member s z)))
      (ap (along_all K ps h) (compares_sound P S y z b h s))

  -- a try that is entered reads nothing
  pub along_tries : (K : Test) (b : Bool) (ps : List (List Event)) → is_none ps ≡ false → (h s : Set)
      → along_all K (then_each (tries b ∷ []) ps) h s ≡ along_all K ps h s
  unfolding keeps_along event_rules read_sound read_by region_rules held_then all ◌&◌
  along_tries K b ps n h s = along_each K (tries b ∷ []) ps n h s ∙ ap (along_all K ps h) (tries_sound P S b h s)
