-- One word put, the words of a record put one by one, and a record begun.
use Prim.Native.Nat.{ℕ, zero, suc, ◌+◌, ◌*◌, ◌/◌, ◌%◌, ◌≤◌, ◌<◌}
use native.Mathlib.Omega.{arith}
use mathlib.Core.List.{List, ◌∷◌, []}
use mathlib.Core.Path.{◌≡◌, refl, ap₂, ◌∙◌}
use lib.ListN.{length, get_or, set, length-set}
use lib.Seq.{get_or-set_same, get_or-set_other}
use Rattle.language.specs.Format.{record_bytes, kind_word}
use Rattle.records.specs.Sizes.{byte_end, word_end, record_words}
use Rattle.chains.specs.Layout.{Spelled}
use Rattle.language.specs.File.{word}
use Rattle.writer.specs.Laid.{Begun, Laid, PutWord, linked, with_next}

-- ---- one word
pub put_made : (a : List ℕ) (i k x : ℕ) {p q : ℕ} → record_bytes * i + record_bytes ≤ length a → k < record_words → p ≡ x % byte_end → q ≡ x / byte_end
    → PutWord a (set (set a (record_bytes * i + 2 * k) p) (record_bytes * i + 2 * k + 1) q) i k x
unfolding word
put_made a i k x {p = p} {q = q} l h e f =
    let c = set a (record_bytes * i + 2 * k) p in
    let d = set c (record_bytes * i + 2 * k + 1) q in
    let n : length c ≡ length a = length-set a (record_bytes * i + 2 * k) p in
    record {
      same = length-set c (record_bytes * i + 2 * k + 1) q ∙ n;
      there =
          let s : get_or d (record_bytes * i + 2 * k) 0 ≡ p = get_or-set_other c (record_bytes * i + 2 * k + 1) (record_bytes * i + 2 * k) q 0 (λ z. omega arith) ∙ get_or-set_same a (record_bytes * i + 2 * k) p 0 (omega arith) in
          let t : get_or d (record_bytes * i + 2 * k + 1) 0 ≡ q = get_or-set_same c (record_bytes * i + 2 * k + 1) q 0 (omega arith) in
          omega arith;
      below = λ j g.
          get_or-set_other c (record_bytes * i + 2 * k + 1) j q 0 (λ z. omega arith) ∙ get_or-set_other a (record_bytes * i + 2 * k) j p 0 (λ z. omega arith);
      past = λ j g.
          get_or-set_other c (record_bytes * i + 2 * k + 1) j q 0 (λ z. omega arith) ∙ get_or-set_other a (record_bytes * i + 2 * k) j p 0 (λ z. omega arith);
    }

-- ---- the words of a record, from word k on
-- words k and up of record i are xs now, and no other byte changed
pub record PutWords (a b : List ℕ) (i k : ℕ) (xs : List ℕ) : Type 0 where
  pub same : length b ≡ length a
  pub there : Spelled (word b i) k xs
  pub below : (j : ℕ) → j < record_bytes * i + 2 * k → get_or b j 0 ≡ get_or a j 0
  pub past : (j : ℕ) → record_bytes * i + 2 * (k + length xs) ≤ j → get_or b j 0 ≡ get_or a j 0

pub row_none : (a : List ℕ) (i k : ℕ) → PutWords a a i k []
row_none a i k = record { same = refl; there = tt; below = λ j l. refl; past = λ j l. refl }

pub row_more : {a b d : List ℕ} {i k x : ℕ} {xs : List ℕ} → PutWord a b i k x → PutWords b d i (suc k) xs → PutWords a d i k (x ∷ xs)
unfolding word
row_more {b = b} {d = d} {i = i} {k = k} p q =
    record {
      same = q.same ∙ p.same;
      there = (ap₂ (λ u v. u + byte_end * v) (q.below (record_bytes * i + 2 * k) (omega arith)) (q.below (record_bytes * i + 2 * k + 1) (omega arith)) ∙ p.there, q.there);
      below = λ j l. q.below j (omega arith) ∙ p.below j l;
      past = λ j l. q.past j (omega arith) ∙ p.past j (omega arith);
    }

-- ---- records
pub laid_row : {a b : List ℕ} {c : ℕ} {r : List ℕ} → length r ≡ record_words → PutWords a b c 0 r → Laid a b c (r ∷ [])
laid_row e h =
    record {
      same = h.same;
      eights = (e, tt);
      there = (h.there, tt);
      below = λ j l. h.below j (omega arith);
      past = λ j l. h.past j (omega (arith, e));
    }

-- ---- a record and its parts, word by word: words 2 to k of record at are xs, then the records rs stand up to c, and no other byte changed but
pub begun_none : (a : List ℕ) (at : ℕ) → Begun a a at 2 (at + 1) [] []
begun_none a at = record {
  same = refl;
  few = omega arith;
  many = refl;
  words = tt;
  eights = tt;
  there = tt;
  place = omega arith;
  below = λ j l. refl;
  past = λ j l. refl;
}

-- ---- record i of the file f, but for the next of its chain
pub laid_next : (f : List ℕ) (i : ℕ) {a b : List ℕ} {c : ℕ} {u0 n u2 u3 u4 u5 u6 u7 : ℕ} → u0 ≡ word f i kind_word → u2 ≡ word f i 2 → u3 ≡ word f i 3 → u4 ≡ word f i 4
    → u5 ≡ word f i 5 → u6 ≡ word f i 6 → u7 ≡ word f i 7 → Laid a b c ((u0 ∷ n ∷ u2 ∷ u3 ∷ u4 ∷ u5 ∷ u6 ∷ u7 ∷ []) ∷ []) → Laid a b c (with_next f i n ∷ [])
unfolding with_next
laid_next f i p q r s t u v h = rw (← p, ← q, ← r, ← s, ← t, ← u, ← v) h

-- ---- references
pub linked_small : (w c : ℕ) {x : ℕ} → x ≡ linked w c → c < word_end → x < word_end
unfolding linked
linked_small zero c e h = omega arith
linked_small (suc w) c e h = omega arith
