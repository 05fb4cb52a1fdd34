-- Laws of `specs/Wants` that only proofs cite.
use Prim.Native.Nat.{ℕ, ◌+◌, ◌≤◌, ◌<◌}
use native.Mathlib.Omega.{arith}
use native.Mathlib.Decide.{dec_lt, ℕ_discrete}
use mathlib.Core.Bool.{Bool, true}
use mathlib.Core.List.{List}
use mathlib.Core.Path.{◌≡◌, refl, sym, ap, ap₂, ◌∙◌, fun_ext}
use borrow.Author.Tests.{lt-ltb, le-ltb}
use lib.ListN.{length, get_or, set, length-set}
use lib.Seq.{get_or-set_same, get_or-set_other}
use Rattle.sets.specs.Tests.{clash}
use Rattle.sets.specs.Sets.{empty_set, ◌∪◌, ◌∩◌, same_set, same_eq, apart, stored, loaded, loaded_stored, member_empty}
use Rattle.sets.specs.SetLaws.{apart_mk}
use Rattle.sets.specs.Members.{union_over}
use Rattle.sets.specs.declared.Set.{Set}
use Rattle.language.specs.Lists.{choose}
use Rattle.language.specs.Format.{places}
use Rattle.language.specs.Program.{Signature}
use Rattle.language.specs.Regions.{reach_all}
use Rattle.language.specs.Lifetimes.{wanted}
use Rattle.tables.specs.Window.{set_in, reach_in, kept_place, number_past, reach_none, Window}
use Rattle.liveness.specs.Wants.{Wants, want_words, reached_in, wanted_in, wants_kept}

pub reached_some : (w : List ℕ) {x : ℕ} {s : Set} → x < places → s ≡ loaded (get_or w x 0) → s ≡ reached_in w x
unfolding reached_in choose
reached_some w {x} l e = e ∙ rw (lt-ltb x places l) refl

-- ---- the copy of a window
-- as far as variable n
pub record Copying (own w : List ℕ) (n : ℕ) : Type 0 where
  pub long : want_words ≡ length w
  pub reach_is : (x : ℕ) → x < n → loaded (get_or w x 0) ≡ reach_in own x

module _ (own : List ℕ) where
  pub copying_first : {w : List ℕ} → want_words ≡ length w → Copying own w 0
  copying_first l = record { long = l; reach_is = λ x p. absurd (omega arith) }

  pub copying_next : {w : List ℕ} {n a : ℕ} {s : Set} → Copying own w n → n < places → s ≡ reach_in own n → a ≡ stored s → Copying own (set w n a) (n + 1)
  copying_next {w} {n} {a} {s} h l g e = record {
    long = h.long ∙ sym (length-set w n a);
    reach_is = λ x p.
        elim (ℕ_discrete x n) [
          | yes z ↦ rw z (ap loaded (get_or-set_same w n a 0 (omega (arith, h.long)) ∙ e) ∙ loaded_stored s ∙ g)
          | no z ↦ ap loaded (get_or-set_other w n x a 0 (λ y. z (omega arith))) ∙ h.reach_is x (omega arith)
        ];
  }

  pub copying_last : {w : List ℕ} {n a : ℕ} {s : Set} → Copying own w n → places ≤ n → s ≡ set_in own kept_place → a ≡ stored s → Wants own (set w wants_kept a)
  copying_last {w} {n} {a} {s} h l g e = record {
    kept_is = ap loaded (get_or-set_same w wants_kept a 0 (omega (arith, h.long)) ∙ e) ∙ loaded_stored s ∙ g;
    reach_is = λ x p. ap loaded (get_or-set_other w wants_kept x a 0 (λ z. omega arith)) ∙ h.reach_is x (omega arith);
  }

-- ---- it says what the definition says
reached_is : (own w : List ℕ) → Wants own w → (x : ℕ) → reached_in w x ≡ reach_in own x
unfolding reached_in choose
reached_is own w h x =
    elim (dec_lt x places) [
      | yes l ↦ rw (lt-ltb x places l) (h.reach_is x l)
      | no l ↦ rw (le-ltb x places (omega arith)) (reach_none own x refl (number_past _ x (omega arith) (omega arith)) refl)
    ]

pub wants_are : {f own w : List ℕ} {S : Signature} → Window f S own → Wants own w → (live : Set) → wanted_in w live ≡ wanted S live
unfolding wanted_in wanted reach_all
wants_are {own = own} {w = w} h k live =
    ap₂ ◌∪◌ (k.kept_is ∙ h.kept) (ap (λ (F : ℕ → Set). union_over F live) (fun_ext λ x. reached_is own w k x ∙ h.reached x))

-- ---- regions that are not wanted
module _ (w : List ℕ) (rs live : Set) where
  pub none_wanted : {b : Bool} → b ≡ same_set rs empty_set → b ≡ true → true ≡ apart rs (wanted_in w live)
  none_wanted e g = sym (rw (same_eq rs empty_set (sym e ∙ g)) (apart_mk empty_set (wanted_in w live) (λ n m. absurd (clash m (member_empty n)))))

  pub some_wanted : {s m : Set} {b : Bool} → s ≡ wanted_in w live → m ≡ rs ∩ s → b ≡ same_set m empty_set → b ≡ apart rs (wanted_in w live)
  unfolding apart
  some_wanted e g h = h ∙ ap (λ (y : Set). same_set y empty_set) (g ∙ ap (λ (y : Set). rs ∩ y) e)
