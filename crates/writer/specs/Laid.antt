-- What a writer promises: these records stand from here on, every other byte is as it was, the length is kept. How such promises are joined.
use Rattle.std.specs.Prelude.{ℕ, zero, suc, ◌+◌, ◌*◌, ◌≤◌, ◌<◌, List, [], ◌∷◌, ◌++◌, ◌≡◌, refl, length, get_or}
use Rattle.std.proofs.Common.{arith, ap₂, ◌∙◌, length-append}
use Rattle.language.specs.Format.{record_bytes, kind_word, next_word}
use Rattle.records.specs.Sizes.{byte_end, word_end, record_words}
use Rattle.chains.specs.Layout.{Spelled, Stand, Eights, stand_join, stand_same, spelled_same, spelled_more}
use Rattle.language.specs.File.{word}

-- each word fits in 16 bits
abbrev pub SmallWords : List ℕ → Type 0
SmallWords [] = Unit {0}
SmallWords (x ∷ xs) = (x < word_end) × SmallWords xs

-- ---- one word
-- word k of record i is x now, and no other byte changed
pub record PutWord (a b : List ℕ) (i k x : ℕ) : Type 0 where
  pub same : length b ≡ length a
  pub there : word b i k ≡ x
  pub below : (j : ℕ) → j < record_bytes * i + 2 * k → get_or b j 0 ≡ get_or a j 0
  pub past : (j : ℕ) → record_bytes * i + 2 * k + 2 ≤ j → get_or b j 0 ≡ get_or a j 0

-- ---- records
-- the records rs stand from record c on now, and no other byte changed
pub record Laid (a b : List ℕ) (c : ℕ) (rs : List (List ℕ)) : Type 0 where
  pub same : length b ≡ length a
  pub eights : Eights rs
  pub there : Stand (word b) c rs
  pub below : (j : ℕ) → j < record_bytes * c → get_or b j 0 ≡ get_or a j 0
  pub past : (j : ℕ) → record_bytes * (c + length rs) ≤ j → get_or b j 0 ≡ get_or a j 0

pub laid_none : (a : List ℕ) (c : ℕ) → Laid a a c []
laid_none a c = record { same = refl; eights = tt; there = tt; below = λ j l. refl; past = λ j l. refl }

words_same : (a b : List ℕ) (i k : ℕ) → get_or b (record_bytes * i + 2 * k) 0 ≡ get_or a (record_bytes * i + 2 * k) 0
    → get_or b (record_bytes * i + 2 * k + 1) 0 ≡ get_or a (record_bytes * i + 2 * k + 1) 0 → word b i k ≡ word a i k
unfolding word
words_same a b i k e f = ap₂ (λ u v. u + byte_end * v) e f

eights_join : (xs ys : List (List ℕ)) → Eights xs → Eights ys → Eights (xs ++ ys)
eights_join [] ys h g = g
eights_join (x ∷ xs) ys h g = (h.0, eights_join xs ys h.1 g)

module _ {a b d : List ℕ} {c e : ℕ} {xs ys : List (List ℕ)} (q : c + length xs ≡ e) where
  -- first the front, then what follows it
  pub laid_then : Laid a b c xs → Laid b d e ys → Laid a d c (xs ++ ys)
  laid_then p r =
      record {
        same = r.same ∙ p.same;
        eights = eights_join xs ys p.eights r.eights;
        there =
            stand_join xs ys (word d) c e q
            (stand_same xs (word b) (word d) c p.eights (λ i k l m n. words_same b d i k (r.below _ (omega arith)) (r.below _ (omega arith))) p.there)
            r.there;
        below = λ j l. r.below j (omega arith) ∙ p.below j l;
        past = λ j l. r.past j (omega (arith, length-append xs ys)) ∙ p.past j (omega (arith, length-append xs ys));
      }

  -- first what follows, then the front
  pub laid_before : Laid a b e ys → Laid b d c xs → Laid a d c (xs ++ ys)
  laid_before p r =
      record {
        same = r.same ∙ p.same;
        eights = eights_join xs ys r.eights p.eights;
        there =
            stand_join xs ys (word d) c e q r.there
            (stand_same ys (word b) (word d) e p.eights (λ i k l m n. words_same b d i k (r.past _ (omega arith)) (r.past _ (omega arith))) p.there);
        below = λ j l. r.below j l ∙ p.below j (omega arith);
        past = λ j l. r.past j (omega (arith, length-append xs ys)) ∙ p.past j (omega (arith, length-append xs ys));
      }

-- ---- a record and its parts, word by word: words 2 to k of record at are xs, then the records rs stand up to c, and no other byte changed but
-- those of the words that are still to come
pub record Begun (a b : List ℕ) (at k c : ℕ) (xs : List ℕ) (rs : List (List ℕ)) : Type 0 where
  pub same : length b ≡ length a
  pub few : k ≤ record_words
  pub many : k ≡ 2 + length xs
  pub words : Spelled (word b at) 2 xs
  pub eights : Eights rs
  pub there : Stand (word b) (suc at) rs
  pub place : c ≡ suc at + length rs
  pub below : (j : ℕ) → j < record_bytes * at + 2 * 2 → get_or b j 0 ≡ get_or a j 0
  pub past : (j : ℕ) → record_bytes * c ≤ j → get_or b j 0 ≡ get_or a j 0

module _ {a b d : List ℕ} {at k c : ℕ} {xs : List ℕ} {rs : List (List ℕ)} (B : Begun a b at k c xs rs) where
  -- the next word
  pub begun_put : {x : ℕ} → k < record_words → PutWord b d at k x → Begun a d at (k + 1) c (xs ++ x ∷ []) rs
  begun_put {x} l p = record {
    same = p.same ∙ B.same;
    few = omega arith;
    many = omega (arith, B.many, length-append xs (x ∷ []));
    words =
        spelled_more xs (word d at) 2 k B.many
        (spelled_same xs (word b at) (word d at) 2 k (omega (arith, B.many))
        (λ j m n. words_same b d at j (p.below _ (omega arith)) (p.below _ (omega arith))) B.words) p.there;
    eights = B.eights;
    there =
        stand_same rs (word b) (word d) (suc at) B.eights
        (λ i j m n o. words_same b d i j (p.past _ (omega arith)) (p.past _ (omega arith))) B.there;
    place = B.place;
    below = λ j m. p.below j (omega (arith, B.many)) ∙ B.below j m;
    past = λ j m. p.past j (omega (arith, B.place)) ∙ B.past j m;
  }

  -- what a word leads to
  pub begun_part : {r : ℕ} {ys : List (List ℕ)} → Laid b d c ys → r ≡ c + length ys → Begun a d at k r xs (rs ++ ys)
  begun_part {r} {ys} p e = record {
    same = p.same ∙ B.same;
    few = B.few;
    many = B.many;
    words =
        spelled_same xs (word b at) (word d at) 2 k (omega (arith, B.many))
        (λ j m n. words_same b d at j (p.below _ (omega (arith, B.place, B.few))) (p.below _ (omega (arith, B.place, B.few)))) B.words;
    eights = eights_join rs ys B.eights p.eights;
    there =
        stand_join rs ys (word d) (suc at) c (omega (arith, B.place))
        (stand_same rs (word b) (word d) (suc at) B.eights
        (λ i j m n o. words_same b d i j (p.below _ (omega (arith, B.place))) (p.below _ (omega (arith, B.place)))) B.there)
        p.there;
    place = omega (arith, B.place, length-append rs ys);
    below = λ j m. p.below j (omega (arith, B.place)) ∙ B.below j m;
    past = λ j m. p.past j (omega arith) ∙ B.past j (omega arith);
  }

-- the first two words come last
pub begun_done : {a b d e : List ℕ} {at k c u v : ℕ} {xs : List ℕ} {rs : List (List ℕ)} → Begun a b at k c xs rs → record_words ≤ k → PutWord b d at kind_word u → PutWord d e at next_word v
    → Laid a e at ((u ∷ v ∷ xs) ∷ rs)
begun_done {a} {b} {d} {e} {at} {k} {c} {u} {v} {xs} {rs} B l p q =
    let past : (j : ℕ) → record_bytes * at + 2 * 2 ≤ j → get_or e j 0 ≡ get_or b j 0 = λ j m. q.past j (omega arith) ∙ p.past j (omega arith) in
    record {
      same = q.same ∙ p.same ∙ B.same;
      eights = (omega (arith, B.many, B.few), B.eights);
      there = (
        (
          words_same d e at 0 (q.below _ (omega arith)) (q.below _ (omega arith)) ∙ p.there,
          (q.there, spelled_same xs (word b at) (word e at) 2 k (omega (arith, B.many)) (λ j m n. words_same b e at j (past _ (omega arith)) (past _ (omega arith))) B.words),
        ),
        stand_same rs (word b) (word e) (suc at) B.eights (λ i j m n o. words_same b e i j (past _ (omega arith)) (past _ (omega arith))) B.there,
      );
      below = λ j m. q.below j (omega arith) ∙ p.below j (omega arith) ∙ B.below j (omega arith);
      past = λ j m. past j (omega arith) ∙ B.past j (omega (arith, B.place));
    }

-- ---- record i of the file f, but for the next of its chain
unfoldable pub with_next : List ℕ → ℕ → ℕ → List ℕ
with_next f i n = word f i kind_word ∷ n ∷ word f i 2 ∷ word f i 3 ∷ word f i 4 ∷ word f i 5 ∷ word f i 6 ∷ word f i 7 ∷ []

-- ---- references
unfoldable pub linked : ℕ → ℕ → ℕ
linked zero c = 0
linked (suc w) c = c

pub linked_none : {w : ℕ} (c : ℕ) → w ≡ 0 → 0 ≡ linked w c
unfolding linked
linked_none c z = rw z

pub linked_some : (w c : ℕ) → (w ≡ 0 → ⊥) → c ≡ linked w c
unfolding linked
linked_some zero c z = absurd (z refl)
linked_some (suc w) c z = refl
