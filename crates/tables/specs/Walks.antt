-- Going through the members of a set by `Set::after`: what is gathered so far, with what the members ahead give, is the whole.
use Rattle.std.specs.Prelude.{ℕ, ◌-◌, ◌≤◌, ◌<◌, List, ◌≡◌}
use Rattle.std.proofs.Common.{arith, sym, ap, ◌∙◌}
use Rattle.std.proofs.Math.Path.{fun_ext}
use Rattle.sets.specs.Sets.{empty_set, ◌∪◌}
use Rattle.sets.specs.SetLaws.{union_empty, empty_union, union_assoc}
use Rattle.sets.specs.Members.{next_member, union_all, union_over}
use Rattle.sets.specs.Walk.{above, next_is, union_over_start, union_over_end, union_over_next}
use Rattle.sets.specs.declared.Set.{Set}
use Rattle.language.specs.Program.{Signature}
use Rattle.language.specs.Regions.{reach_all}
use Rattle.language.specs.Format.{places}
use Rattle.tables.specs.Window.{reach_in, Window}

-- the next member is above, or there is none
pub next_falls : (s : Set) {x y : ℕ} → x < places → y ≡ next_member s x → places - y < places - x
next_falls s {x} {y} l e = let n = (next_is s x).low in omega (arith, e)

pub next_ends : (s : Set) (n : ℕ) {x : ℕ} → x ≡ next_member s n → places ≤ x → next_member s n ≡ places
next_ends s n e l = let t = (next_is s n).top in omega (arith, e)

-- x is the next member, or places
pub record Gathering (F : ℕ → Set) (s found : Set) (x : ℕ) : Type 0 where
  pub done : ℕ
  pub next : x ≡ next_member s done
  pub whole : found ∪ union_all F (above s done) ≡ union_over F s

module _ (F : ℕ → Set) (s : Set) where
  pub gather_first : {x : ℕ} → x ≡ next_member s 0 → Gathering F s empty_set x
  gather_first e = record { done = 0; next = e; whole = empty_union _ ∙ union_over_start F s }

  pub gather_more : {found u found' : Set} {x x' : ℕ} → Gathering F s found x → x < places → u ≡ F x → found' ≡ found ∪ u → x' ≡ next_member s x
      → Gathering F s found' x'
  gather_more {found} {x = x} h l e g n =
      let r = union_over_next F s h.done x (sym h.next) l in
      record { done = x; next = n; whole = rw (g, e) (union_assoc found (F x) _ ∙ ap (λ t. found ∪ t) (sym r) ∙ h.whole) }

  pub gather_last : {found : Set} {x : ℕ} → Gathering F s found x → places ≤ x → found ≡ union_over F s
  gather_last {found} h l =
      sym (union_empty found) ∙ ap (λ t. found ∪ t) (sym (union_over_end F s h.done (next_ends s h.done h.next l))) ∙ h.whole

-- ---- what variables reach, by the window of a procedure that declares S
pub reach_all_is : {f t : List ℕ} {S : Signature} {found : Set} → Window f S t → (xs : Set) → found ≡ union_over (reach_in t) xs → found ≡ reach_all S xs
unfolding reach_all
reach_all_is h xs e = e ∙ ap (λ (F : ℕ → Set). union_over F xs) (fun_ext h.reached)
