-- The loop of `hand_to` over the digits of a record's words, whatever the code gives by each.
use Prim.Native.Nat.{ℕ, ◌/◌, ◌%◌, ◌<◌}
use native.Mathlib.Omega.{arith}
use mathlib.Core.Bool.{true}
use mathlib.Core.List.{List, [], ◌∷◌}
use mathlib.Core.Path.{◌≡◌, refl, sym, ap, ◌∙◌}
use lib.ListN.{set}
use Rattle.sets.specs.Members.{in_list, cons_here, cons_later}
use Rattle.language.specs.Format.{kind_word, next_word}
use Rattle.language.specs.File.{kind_of, word, record_count}
use Rattle.records.specs.Sizes.{record_words, digit_end}
use Rattle.chains.specs.Formed.{Formed}
use Rattle.owners.specs.Handed.{part_words, digits, part_digits, words_of, reference_words}
use Rattle.owners.specs.Handing.{word_below}
use Rattle.owners.specs.Digits.{part_range, digits_none, digits_some, digits_first, digits_rest}
use Rattle.owners.specs.Gives.{Gives, hand_words}

-- ---- the next record of a chain
module _ {f : List ℕ} (F : Formed f) {i : ℕ} (q : i < record_count f) where
  pub next_below : word f i next_word < record_count f
  unfolding words_of reference_words
  next_below = word_below F i q next_word (cons_here next_word next_word _ refl)

-- ---- the loop
-- record i, the table t₀ before, and what the code may give
module _ {X : Type 0} (f : List ℕ) (i : ℕ) (t₀ : List X) (results : ℕ → X → Type 0) where
  -- the words that are still to come, as digits; t is the table
  pub record Giving (left : ℕ) (t : List X) : Type 0 where
    pub words : List ℕ
    pub listed : left ≡ digits words
    pub among : (k : ℕ) → in_list k words ≡ true → in_list k (part_words (kind_of (word f i kind_word))) ≡ true
    pub rest : (g : ℕ → X) → Gives g results → hand_words g (word f i) words t ≡ hand_words g (word f i) (words_of f i) t₀

  pub giving_first : {left w : ℕ} {r : X} → left ≡ part_digits (kind_of (word f i kind_word)) → w ≡ word f i next_word → results next_word r → Giving left (set t₀ w r)
  unfolding part_digits words_of reference_words hand_words
  giving_first {left} {w} {r} l e p = record {
    words = part_words (kind_of (word f i kind_word));
    listed = l;
    among = λ k m. m;
    rest = λ g G. rw (e, G next_word r (omega arith) p) refl;
  }

  module _ {left : ℕ} {t : List X} (P : Giving left t) where
    -- the word that is next
    pub record GivingNext : Type 0 where
      pub small : left % digit_end < record_words
      pub names : Formed f → i < record_count f → word f i (left % digit_end) < record_count f
      pub after : {w : ℕ} {r : X} → w ≡ word f i (left % digit_end) → results (left % digit_end) r → Giving (left / digit_end) (set t w r)

    next_by : (k : ℕ) (ks : List ℕ) → P.words ≡ k ∷ ks → GivingNext
    unfolding words_of reference_words hand_words
    next_by k ks e =
        let m = P.among k (rw e (cons_here k k ks refl)) in
        let s = part_range (kind_of (word f i kind_word)) k m in
        let d : left ≡ digits (k ∷ ks) = P.listed ∙ ap digits e in
        let a : left % digit_end ≡ k = ap (λ n. n % digit_end) d ∙ digits_first k ks s.0 s.1 in
        record {
          small = omega (arith, a, s.1);
          names = λ F q. rw a (word_below F i q k (cons_later k next_word _ m));
          after = λ {w} {r} g p. record {
            words = ks;
            listed = ap (λ n. n / digit_end) d ∙ digits_rest k ks s.0 s.1;
            among = λ j n. P.among j (rw e (cons_later j k ks n));
            rest = λ give G.
                let h : r ≡ give k = G _ r (omega (arith, a, s.1)) p ∙ ap give a in
                let v = rw e at P.rest give G in
                rw (g, a, h) v;
          };
        }

    pub giving_next : (left ≡ 0 → ⊥) → GivingNext
    giving_next z = go P.words refl
      where
        go : (ks : List ℕ) → P.words ≡ ks → GivingNext
        go [] e = absurd (z (P.listed ∙ ap digits e ∙ digits_none))
        go (k ∷ ks) e = next_by k ks e

    done_by : (ks : List ℕ) → P.words ≡ ks → left ≡ 0 → (g : ℕ → X) → Gives g results → t ≡ hand_words g (word f i) (words_of f i) t₀
    unfolding hand_words
    done_by [] e z g G = rw e at P.rest g G
    done_by (k ∷ ks) e z g G =
        let s = part_range (kind_of (word f i kind_word)) k (P.among k (rw e (cons_here k k ks refl))) in
        absurd (digits_some k ks s.0 s.1 (sym (P.listed ∙ ap digits e) ∙ z))

    pub giving_last : left ≡ 0 → (g : ℕ → X) → Gives g results → t ≡ hand_words g (word f i) (words_of f i) t₀
    giving_last z = done_by P.words refl z
