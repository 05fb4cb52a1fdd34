-- Bytes put into lent memory, one text after another.
use Rattle.std.specs.Prelude.{ℕ, suc, ◌+◌, ◌≤◌, List, [], ◌∷◌, ◌++◌, ◌≡◌, refl, length, set, take, drop}
use Rattle.std.proofs.Common.{ap, sym, ◌∙◌, arith, append_assoc, length-append, take_at}
use Rattle.std.proofs.lemmas.List.Edits.{sets, sets-eq}
use Rattle.std.proofs.Math.Seq.{length-sets}
use Rattle.language.specs.Lists.{front_written}

-- `s` was put from `at` on: `next` is the place behind it, and every other byte is as it was
pub record Put (before : List ℕ) (at : ℕ) (s : List ℕ) (after : List ℕ) (next : ℕ) : Type 0 where
  pub bytes : after ≡ sets before at s
  pub behind : next ≡ at + length s

sets_append : (s t b : List ℕ) (at : ℕ) → sets b at (s ++ t) ≡ sets (sets b at s) (at + length s) t
sets_append [] t b at = ap (λ k. sets b k t) (omega arith)
sets_append (x ∷ s) t b at = sets_append s t (set b at x) (suc at) ∙ ap (λ k. sets (sets (set b at x) (suc at) s) k t) (omega arith)

pub put_none : (b : List ℕ) (at : ℕ) → Put b at [] b at
put_none b at = record { bytes = refl; behind = omega arith }

pub put_one : (b : List ℕ) (at x : ℕ) → Put b at (x ∷ []) (set b at x) (suc at)
put_one b at x = record { bytes = refl; behind = omega arith }

-- one text behind another
pub put_then : {b m e s t : List ℕ} {at k r : ℕ} → Put b at s m k → Put m k t e r → Put b at (s ++ t) e r
put_then {b} {m} {e} {s} {t} {at} {k} p q = record {
  bytes = q.bytes ∙ ap (λ l. sets l k t) p.bytes ∙ ap (λ j. sets (sets b at s) j t) p.behind ∙ sym (sets_append s t b at);
  behind = omega (arith, length-append s t, p.behind, q.behind);
}

pub put_length : {b m s : List ℕ} {at k : ℕ} → Put b at s m k → length m ≡ length b
put_length {b} {m} {s} {at} p = ap length p.bytes ∙ length-sets b at s

-- a text in its place, what was before it and behind it as it was
pub put_copied : (b s : List ℕ) {m : List ℕ} (at : ℕ) → at + length s ≤ length b → m ≡ take at b ++ (s ++ drop (at + length s) b) → Put b at s m (at + length s)
put_copied b s at l e = record {
  bytes = e ∙ sym (append_assoc (take at b) s (drop (at + length s) b)) ∙ sym (sets-eq s b at l);
  behind = refl;
}

-- `s` stands at the front of a lent memory: its first `count` bytes; the rest is as it was
pub record Front (s before after : List ℕ) (count : ℕ) : Type 0 where
  pub memory : after ≡ front_written s before
  pub front : take count after ≡ s
  pub counted : count ≡ length (take count after)
  pub fits : count ≤ length after

pub put_front : {b m s : List ℕ} {k : ℕ} → Put b 0 s m k → length s ≤ length b → Front s b m k
unfolding front_written
put_front {b} {m} {s} {k} p l =
    let z : 0 + length s ≡ length s = omega arith in
    let e : m ≡ s ++ drop (length s) b = p.bytes ∙ sets-eq s b 0 (omega arith) ∙ ap (λ j. s ++ drop j b) z in
    let n : length s ≡ k = sym (p.behind ∙ z) in
    let f : take k m ≡ s = ap (take k) e ∙ take_at s (drop (length s) b) k n in
    record { memory = e; front = f; counted = sym (ap length f ∙ n); fits = omega (arith, put_length p) }
