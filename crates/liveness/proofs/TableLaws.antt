-- Laws of `specs/Table` that only proofs cite.
use Prim.Native.Nat.{ℕ, suc, ◌+◌, ◌-◌, ◌≤◌}
use native.Mathlib.Omega.{arith}
use mathlib.Core.Path.{◌≡◌, refl, sym, ap, ◌∙◌}
use mathlib.Core.List.{List, ◌∷◌, ◌++◌, append_assoc, []}
use lib.ListN.{length, get_or, take, drop, set, length-append, length-set, get_or-eq_default}
use lib.Seq.{take-take, drop-cons, get_or-set_same, get_or-set_other, take-set-le, drop-set-lt}
use Rattle.sets.specs.Sets.{empty_set, stored, loaded, loaded_zero}
use Rattle.sets.specs.declared.Set.{Set}
use Rattle.liveness.specs.Points.{Point, point, words, words_append}
use Rattle.liveness.specs.Table.{Fills, before_at}

pub fills_none : (t : List ℕ) (end : ℕ) → Fills t t end end []
unfolding words
fills_none t end = record { same = refl; room = λ p q. record { place = omega arith; below = refl; above = refl } }

take_less : (t u : List ℕ) (m n : ℕ) → m ≤ n → take n u ≡ take n t → take m u ≡ take m t
take_less t u m n l e = sym (take-take m n u l) ∙ ap (take m) e ∙ take-take m n t l

-- first those that stand behind, then those in front of them
pub fills_more : {t u v : List ℕ} {s m end : ℕ} {ps qs : List Point} → Fills t u m end qs → Fills u v s m ps → Fills t v s end (ps ++ qs)
fills_more {t} {u} {v} {s} {m} {end} {ps} {qs} h k =
    record {
      same = k.same ∙ h.same;
      room = λ p q.
          let l = length-append ps qs in
          let a = h.room (omega arith) q in
          let b = k.room (omega (arith, a.place)) (omega (arith, a.place, h.same)) in
          record {
            place = omega (arith, a.place, b.place);
            below = b.below ∙ take_less t u s m (omega (arith, b.place)) a.below;
            above = b.above ∙ ap (λ r. words ps ++ r) a.above ∙ sym (append_assoc (words ps) (words qs) (drop end t))
                ∙ ap (λ r. r ++ drop end t) (sym (words_append ps qs));
          };
    }

-- one point
pub fills_point : (t : List ℕ) (b a : Set) (end : ℕ) {x y : ℕ} → 2 ≤ end → end ≤ length t → x ≡ stored b → y ≡ stored a
    → Fills t (set (set t (end - 2) x) (end - 2 + 1) y) (end - 2) end (point b a ∷ [])
unfolding words point
fills_point t b a end {x} {y} p q e g =
    let s = end - 2 in
    let u = set t s x in
    let v = set u (s + 1) y in
    let l = length-set t s x in
    let k = length-set u (s + 1) y in
    let next : suc s ≡ s + 1 = omega arith in
    let last : suc (suc s) ≡ end = omega arith in
    let first_is : get_or v s 0 ≡ stored b = get_or-set_other u (s + 1) s y 0 (λ z. omega arith) ∙ get_or-set_same t s x 0 (omega arith) ∙ e in
    let second_is : get_or v (suc s) 0 ≡ stored a = ap (λ n. get_or v n 0) next ∙ get_or-set_same u (s + 1) y 0 (omega arith) ∙ g in
    let rest-is : drop (suc (suc s)) v ≡ drop end t =
    drop-set-lt (suc (suc s)) u (s + 1) y (omega arith) ∙ drop-set-lt (suc (suc s)) t s x (omega arith) ∙ ap (λ n. drop n t) last in
    let from_second : drop (suc s) v ≡ stored a ∷ drop end t = drop-cons v (suc s) 0 (omega arith) ∙ cc (second_is, rest-is) in
    record {
      same = omega arith;
      room = λ _ _.
          record {
            place = omega arith;
            below = take-set-le s u (s + 1) y (omega arith) ∙ take-set-le s t s x (omega arith);
            above = drop-cons v s 0 (omega arith) ∙ cc (first_is, from_second);
          };
    }

-- no room for it
pub fills_full : (t : List ℕ) (b a : Set) (start end : ℕ) → (2 ≤ end → end ≤ length t → ⊥) → Fills t t start end (point b a ∷ [])
fills_full t b a start end h = record { same = refl; room = λ p q. absurd (h p q) }

-- ---- reading
-- nothing past the end
pub before_past : (t : List ℕ) (at : ℕ) → length t ≤ at → empty_set ≡ before_at t at
unfolding before_at
before_past t at h = sym loaded_zero ∙ ap loaded (sym (get_or-eq_default t 0 {n = at} h))
