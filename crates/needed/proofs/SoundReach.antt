-- Along each path the reach of a sound variable is held, but for some regions that do not matter.
use Rattle.std.specs.Prelude.{ℕ, true, false, ◌≡◌}
use Rattle.std.proofs.Math.Logic.{⊎_elim}
use Rattle.sets.specs.Sets.{member, ◌∩◌, ◌∖◌, subset, apart, union_left, union_in, intersection_in, difference_mk, difference_in, subset_in}
use Rattle.sets.specs.SetLaws.{apart_in}
use Rattle.sets.specs.MemberLaws.{keep_in}
use Rattle.sets.specs.declared.Set.{Set}
use Rattle.language.specs.Program.{Step, Signature, Program}
use Rattle.language.specs.Values.{gives}
use Rattle.language.specs.Regions.{reach}
use Rattle.language.specs.Lifetimes.{effect, held_after}
use Rattle.language.specs.Checking.{sound_given, sound_without}
use Rattle.needed.proofs.Carrying.{Invariant}

-- a step takes away only what it ends
pub stays_held : (P : Program) (S : Signature) (g : Step) (held : Set) (r : ℕ) → member held r ≡ true → member (effect P S g).ends r ≡ false
    → member (held_after P S g held) r ≡ true
unfolding held_after
stays_held P S g held r m e = union_left _ _ r (difference_mk held (effect P S g).ends r m e)

module _ (S : Signature) (but : Set) where
  unfoldable pub ReachHeld : Set → Set → Type 0
  ReachHeld held sound = (x r : ℕ) → member sound x ≡ true → member (reach S x) r ≡ true → member but r ≡ false → member held r ≡ true

  given_reach : (xs held sound : Set) → ReachHeld held sound → ReachHeld held (sound_given S xs held sound)
  unfolding ReachHeld sound_given
  given_reach xs held sound i x r m a b =
      ⊎_elim (λ p. i x r (difference_in sound xs x p).0 a b)
      (λ q. subset_in (reach S x) held (keep_in (λ y. subset (reach S y) held) xs x q).1 r a) (union_in (sound ∖ xs) _ x m)

  meet_reach : (held s t : Set) → ReachHeld held s → ReachHeld held t → ReachHeld held (s ∩ t)
  unfolding ReachHeld
  meet_reach held s t i j x r m a b = i x r (intersection_in s t x m).0 a b

module _ (P : Program) (S : Signature) (but : Set) where
  lost_reach : (g : Step) (held sound : Set) → ReachHeld S but held sound
      → ReachHeld S but (held_after P S g held) (sound_without S (effect P S g).ends sound)
  unfolding ReachHeld sound_without
  lost_reach g held sound i x r m a b =
      let p = keep_in (λ y. apart (reach S y) (effect P S g).ends) sound x m in
      stays_held P S g held r (i x r p.0 a b) (apart_in (reach S x) (effect P S g).ends p.1 r a)

  pub reach_invariant : Invariant P S (ReachHeld S but)
  reach_invariant = record {
    step_keeps = λ g held sound e i. given_reach S but (gives P g) (held_after P S g held) _ (lost_reach g held sound i);
    arm_keeps = given_reach S but;
    meet_keeps = meet_reach S but;
  }
