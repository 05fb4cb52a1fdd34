-- A record that leads to no chain but its own is written as it stands, but for its next.
use Prim.Native.Nat.{ℕ, suc, ◌+◌, ◌-◌, ◌*◌, ◌≤◌, ◌<◌}
use native.Mathlib.Omega.{arith}
use mathlib.Core.List.{List, ◌∷◌, map, []}
use mathlib.Core.Path.{◌≡◌, refl, sym, ap, ◌∙◌}
use mathlib.Core.Bool.{false, false≢true}
use lib.ListN.{length}
use Rattle.language.specs.Format.{record_bytes, kind_word}
use Rattle.language.specs.Lists.{nth, up_from}
use Rattle.language.specs.File.{Use, number, unused, first, word}
use Rattle.language.specs.Tree.{Tree, read_words}
use Rattle.language.specs.Layout.{size_words, word_list, lay_words}
use Rattle.records.specs.Sizes.{word_end, record_words}
use Rattle.writer.specs.Laid.{Laid, linked, with_next}
use Rattle.writer.specs.Ready.{RecordReady, Wrote, tree_at, uses_at, words_at, front_to}
use Rattle.writer.specs.Leads.{is_first, leads_at}
use Rattle.writer.proofs.Spelling.{row_uses, number_here}

-- ---- words none of which leads
abbrev Plain : List Use → Type 0
Plain us = (n : ℕ) → n < length us → is_first (nth unused us n) ≡ false

module _ (chain : ℕ → Tree) (w : ℕ → ℕ) where
  plain_text : (us : List Use) (k b : ℕ) → Plain us → word_list b (read_words chain w k us) ≡ map w (up_from k (length us))
  unfolding read_words word_list is_first nth up_from
  plain_text [] k b h = refl
  plain_text (number ∷ us) k b h = ap (λ t. w k ∷ t) (plain_text us (suc k) b (λ n l. h (suc n) (omega arith)))
  plain_text (unused ∷ us) k b h = ap (λ t. w k ∷ t) (plain_text us (suc k) b (λ n l. h (suc n) (omega arith)))
  plain_text (first c ∷ us) k b h = absurd (false≢true (sym (h 0 (omega arith))))

  plain_laid : (us : List Use) (k b : ℕ) → Plain us → lay_words (read_words chain w k us) b ≡ []
  unfolding read_words lay_words is_first nth
  plain_laid [] k b h = refl
  plain_laid (number ∷ us) k b h = plain_laid us (suc k) b (λ n l. h (suc n) (omega arith))
  plain_laid (unused ∷ us) k b h = plain_laid us (suc k) b (λ n l. h (suc n) (omega arith))
  plain_laid (first c ∷ us) k b h = absurd (false≢true (sym (h 0 (omega arith))))

  plain_size : (us : List Use) (k : ℕ) → Plain us → size_words (read_words chain w k us) ≡ 0
  unfolding read_words size_words is_first nth
  plain_size [] k h = refl
  plain_size (number ∷ us) k h = plain_size us (suc k) (λ n l. h (suc n) (omega arith))
  plain_size (unused ∷ us) k h = plain_size us (suc k) (λ n l. h (suc n) (omega arith))
  plain_size (first c ∷ us) k h = absurd (false≢true (sym (h 0 (omega arith))))

built : {u v x y : ℕ} {s t : List ℕ} {l m : List (List ℕ)} → u ≡ v → x ≡ y → s ≡ t → l ≡ m → ◌≡◌ {A = List (List ℕ)} ((u ∷ x ∷ s) ∷ l) ((v ∷ y ∷ t) ∷ m)
built p q r s = rw (p, q, r, s) refl

-- ---- the record
pub leaf_room : {f : List ℕ} {i at len : ℕ} → RecordReady f i at len → (record_bytes * at + record_bytes ≤ len) × (at + 1 < word_end)
leaf_room R = (omega (arith, R.room), omega (arith, R.few))

module _ {f : List ℕ} {i at : ℕ} (a : List ℕ) (R : RecordReady f i at (length a)) where
  module _ {w : ℕ} (g : w ≡ word f i kind_word) (h : (k : ℕ) → 2 ≤ k → k < record_words → leads_at w k ≡ false) where
    plain : Plain (uses_at f i)
    unfolding leads_at uses_at
    plain n l = let e : n + 2 - 2 ≡ n = omega arith in rw (e, g) at (h (n + 2) (omega arith) (omega (arith, row_uses f i)))

    text : word_list (suc at) (words_at f i) ≡ word f i 2 ∷ word f i 3 ∷ word f i 4 ∷ word f i 5 ∷ word f i 6 ∷ word f i 7 ∷ []
    unfolding words_at up_from
    text = plain_text (λ j. tree_at f j) (word f i) (uses_at f i) 2 (suc at) plain ∙ ap (λ n. map (word f i) (up_from 2 n)) (row_uses f i)

    front_leaf : (on : ℕ) → front_to f i on at ≡ with_next f i (linked on (at + 1)) ∷ []
    unfolding front_to with_next words_at
    front_leaf on =
        let z : suc at + size_words (words_at f i) ≡ at + 1 = omega (arith, plain_size (λ j. tree_at f j) (word f i) (uses_at f i) 2 plain) in
        built (sym (number_here R.formed i R.below)) (ap (linked on) z) text (plain_laid (λ j. tree_at f j) (word f i) (uses_at f i) 2 (suc at) plain)

    pub leaf_wrote : {b : List ℕ} {n : ℕ} (on : ℕ) → n ≡ linked on (at + 1) → Laid a b at (with_next f i n ∷ []) → Wrote a b at (at + 1) (front_to f i on at)
    leaf_wrote on e L = rw (front_leaf on) (record { laid = rw e at L; next = refl })
