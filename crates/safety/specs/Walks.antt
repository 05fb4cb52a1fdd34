-- What the checker's walk says of each goal when it breaks no rule.
use Rattle.std.specs.Prelude.{◌≡◌, refl, Bool, true, false}
use Rattle.std.proofs.lemmas.Bool.{false≢true}
use Rattle.sets.specs.Sets.{◌∩◌, subset, same_eq}
use Rattle.sets.specs.SetLaws.{intersection_left, intersection_right}
use Rattle.sets.specs.declared.Set.{Set}
use Rattle.language.specs.Checking.{Carried, broken, carries, require_rule, carry_on, join_arms}

pub require_in : {b : Bool} {c : Carried} {h s : Set} → require_rule b c ≡ carries h s → (b ≡ true) × (c ≡ carries h s)
unfolding require_rule
require_in {b = true} e = (refl, e)
require_in {b = false} e = (cc, cc)

pub carry_on_in : {c : Carried} {f : Set → Set → Carried} {h s : Set} → carry_on c f ≡ carries h s
    → (k : Set) × (t : Set) × (c ≡ carries k t) × (f k t ≡ carries h s)
unfolding carry_on
carry_on_in {c = broken} {h = h} {s = s} e = (h, s, cc, cc)
carry_on_in {c = carries k t} e = (k, t, refl, e)

never_carries : {h s : Set} → broken ≡ carries h s → ⊥
never_carries e = false≢true cc

-- both parts end with the same held regions, and with at least what is sound afterwards
pub record Joined (a b : Carried) (h s : Set) : Type 0 where
  pub left : Set
  pub right : Set
  pub goes_left : a ≡ carries h left
  pub goes_right : b ≡ carries h right
  pub in_left : subset s left ≡ true
  pub in_right : subset s right ≡ true

pub join_in : {a b : Carried} {h s : Set} → join_arms a b ≡ carries h s → Joined a b h s
unfolding join_arms
join_in {a = broken} e = absurd (never_carries e)
join_in {a = carries k t} {b = broken} e = absurd (never_carries e)
join_in {a = carries k t} {b = carries l u} {h = h} {s = s} e =
    let p = require_in e in
    let q : k ≡ h = cc in
    let r : k ≡ l = same_eq k l p.0 in
    let z : t ∩ u ≡ s = cc in
    record {
      left = t;
      right = u;
      goes_left = cc;
      goes_right = cc;
      in_left = rw z at (intersection_left t u);
      in_right = rw z at (intersection_right t u);
    }
