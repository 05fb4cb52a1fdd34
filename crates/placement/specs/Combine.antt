-- Readings of the small functions that the definitions are made of: what a good answer says of the parts.
use Rattle.std.specs.Prelude.{◌≡◌, refl, Bool, true, false}
use Rattle.std.proofs.lemmas.Bool.{false≢true}
use Rattle.sets.specs.Sets.{subset}
use Rattle.sets.specs.SetLaws.{intersection_left, intersection_right}
use Rattle.sets.specs.declared.Set.{Set}
use Rattle.language.specs.Values.{Valued, faulty, valued, require_values, after_values, meet_values}
use Rattle.language.specs.Checking.{Carried, broken, carries, carry_on}

-- ---- number 4: what a walk that is not faulty went through
faulty≢valued : {e s : Set} → faulty ≡ valued e s → ⊥
faulty≢valued e = false≢true cc

pub required_values : {b : Bool} {v : Valued} {e s : Set} → require_values b v ≡ valued e s → (b ≡ true) × (v ≡ valued e s)
unfolding require_values
required_values {b = true} q = (refl, q)
required_values {b = false} q = absurd (faulty≢valued q)

pub after_values_law : {v : Valued} {f : Set → Set → Valued} {e s : Set} → after_values v f ≡ valued e s
    → (d : Set) × (t : Set) × (v ≡ valued d t) × (f d t ≡ valued e s)
unfolding after_values
after_values_law {v = faulty} q = absurd (faulty≢valued q)
after_values_law {v = valued d t} q = (d, t, refl, q)

-- two walks that meet: both are good, and what has a value afterwards has one after each
pub record Met (v w : Valued) (e : Set) : Type 0 where
  pub every_left : Set
  pub some_left : Set
  pub every_right : Set
  pub some_right : Set
  pub left : v ≡ valued every_left some_left
  pub right : w ≡ valued every_right some_right
  pub in_left : subset e every_left ≡ true
  pub in_right : subset e every_right ≡ true

pub valued_every : {e s d t : Set} → valued e s ≡ valued d t → e ≡ d
valued_every q = cc

pub met_values : {v w : Valued} {e s : Set} → meet_values v w ≡ valued e s → Met v w e
unfolding meet_values
met_values {v = faulty} q = absurd (faulty≢valued q)
met_values {v = valued d t} {w = faulty} q = absurd (faulty≢valued q)
met_values {v = valued d t} {w = valued f u} q = record {
  every_left = d;
  some_left = t;
  every_right = f;
  some_right = u;
  left = refl;
  right = refl;
  in_left = rw (← valued_every q) (intersection_left d f);
  in_right = rw (← valued_every q) (intersection_right d f);
}

pub after_same : (v : Valued) {f g : Set → Set → Valued} → ((e s : Set) → f e s ≡ g e s) → after_values v f ≡ after_values v g
unfolding after_values
after_same faulty h = refl
after_same (valued e s) h = h e s

-- ---- the checker
pub carry_same : (c : Carried) {f g : Set → Set → Carried} → ((h s : Set) → f h s ≡ g h s) → carry_on c f ≡ carry_on c g
unfolding carry_on
carry_same broken h = refl
carry_same (carries k s) h = h k s
