-- Skipping along a chain and along the words of a record: the invariants, and the ways through them.
use Prim.Native.Nat.{ℕ, suc, ◌+◌, ◌-◌, ◌≤◌, ◌<◌}
use native.Mathlib.Omega.{arith}
use native.Mathlib.Decide.{dec_lt}
use mathlib.Core.List.{List, ◌∷◌, []}
use mathlib.Core.Path.{◌≡◌, refl, ap, sym, ◌∙◌}
use mathlib.Core.Bool.{true, false}
use mathlib.Core.Logic.{inl, inr}
use lib.ListN.{drop, drop_of_length-le}
use Rattle.language.specs.Format.{kind_word, next_word, max_records}
use Rattle.language.specs.File.{Use, word, record_count}
use Rattle.language.specs.Tree.{read_words, read_chain}
use Rattle.language.specs.Layout.{size, size_words}
use Rattle.laws.specs.Lists.{drop_more}
use Rattle.records.specs.Sizes.{record_words}
use Rattle.chains.specs.Layout.{Used, record_used, chain_end_law}
use Rattle.chains.specs.Formed.{Formed, counted, ahead, ahead_none, ahead_some}
use Rattle.chains.specs.Records.{next_onward}
use Rattle.writer.specs.Leads.{is_first, leads_at}
use Rattle.writer.specs.Ready.{tree_at, uses_at, words_at}
use Rattle.writer.proofs.ReadyLaws.{size_is}
use Rattle.writer.proofs.Spelling.{NextWord, plain_next_law, leads_next, leads_up, some_left, row_uses, is_first_law}
use Rattle.writer.specs.Skips.{Behind, behind_none}

pub behind_more : {c m d n r : ℕ} → Behind c m d → Behind d n r → Behind c (m + n) r
behind_more {c} {m} {d} {n} {r} p q =
    elim (dec_lt max_records (c + m)) [
      | yes h ↦ (record { fits = λ g. omega arith; over = λ g. q.over (omega (arith, p.over h)) })
      | no h ↦ (let e = p.fits (omega arith) in record { fits = λ g. omega (arith, q.fits (omega arith)); over = λ g. q.over (omega arith) })
    ]

-- ---- along a chain
pub record Skipping (f : List ℕ) (start from i c : ℕ) : Type 0 where
  pub below : i < record_count f
  pub later : ahead f i ≤ ahead f start
  pub done : ℕ
  pub place : Behind from done c
  pub whole : size (tree_at f start) ≡ done + size (tree_at f i)

module _ {f : List ℕ} {start from : ℕ} where
  pub skipping_first : start < record_count f → Skipping f start from start from
  skipping_first l = record { below = l; later = omega arith; done = 0; place = behind_none from; whole = omega arith }

  module _ {i c : ℕ} (F : Formed f) (G : Skipping f start from i c) where
    pub skipping_last : i ≡ 0 → Behind from (size (tree_at f start)) c
    unfolding tree_at size
    skipping_last z =
        let e : size (tree_at f i) ≡ 0 = ap (λ j. size (read_chain (record_count f) (word f) j)) z ∙ ap size (chain_end_law (record_count f) (word f)) in
        let n : size (tree_at f start) ≡ G.done = omega (arith, G.whole, e) in
        rw n G.place

    module _ (z : i ≡ 0 → ⊥) where
      pub skipping_less : record_count f - i ≤ ahead f start
      skipping_less = omega (arith, ahead_some f i (omega arith), G.later)

      module _ {w : ℕ} (g : w ≡ word f i next_word) where
        pub skipping_falls : ahead f w < ahead f i
        skipping_falls = (next_onward F z G.below g).falls

        pub skipping_next : {r : ℕ} → Behind c (suc (size_words (words_at f i))) r → Skipping f start from w r
        skipping_next N =
            let o = next_onward F z G.below g in
            let n : size (tree_at f i) ≡ suc (size_words (words_at f i) + size (tree_at f w)) = rw g (size_is F i (omega arith) G.below) in
            record {
              below = o.stands.below;
              later = omega (arith, G.later, o.falls);
              done = G.done + suc (size_words (words_at f i));
              place = behind_more G.place N;
              whole = omega (arith, G.whole, n);
            }

-- ---- along the words of a record
pub record Passing (f : List ℕ) (i from k c : ℕ) : Type 0 where
  pub low : 2 ≤ k
  pub few : k ≤ record_words
  pub left : List Use
  pub uses : drop (k - 2) (uses_at f i) ≡ left
  pub used : Used (word f) (record_count f) i k left
  pub done : ℕ
  pub place : Behind from done c
  pub total : suc (size_words (words_at f i)) ≡ done + size_words (read_words (λ j. tree_at f j) (word f i) k left)

module _ {f : List ℕ} {i from : ℕ} (F : Formed f) (l : i < record_count f) where
  pub passing_first : {c : ℕ} → Behind from 1 c → Passing f i from 2 c
  unfolding words_at uses_at
  passing_first p = record {
    low = omega arith;
    few = omega arith;
    left = uses_at f i;
    uses = refl;
    used = record_used (word f) (record_count f) F.form i l;
    done = 1;
    place = p;
    total = omega arith;
  }

  module _ {k c : ℕ} (G : Passing f i from k c) where
    module _ (m : k < record_words) where
      here : (u : Use) × (vs : List Use) × (drop (k - 2) (uses_at f i) ≡ u ∷ vs)
      here = some_left (uses_at f i) (k - 2) (omega (arith, row_uses f i, G.low))

      left_is : G.left ≡ here.0 ∷ here.1
      left_is = sym G.uses ∙ here.2

      first_is : leads_at (word f i kind_word) k ≡ is_first here.0
      first_is = is_first_law f i k here.2

      used_here : Used (word f) (record_count f) i k (here.0 ∷ here.1)
      used_here = rw left_is at G.used

      go_on : {x e n r : ℕ} {ys : List (List ℕ)} → NextWord f i k 0 (here.0 ∷ here.1) here.1 x ys e → e ≡ n → Behind c n r → Passing f i from (k + 1) r
      go_on {e = e} {n = n} N q B =
          let z : k + 1 ≡ suc k = omega arith in
          let y : k + 1 - 2 ≡ k - 2 + 1 = omega (arith, G.low) in
          let t = ap (λ v. size_words (read_words (λ j. tree_at f j) (word f i) k v)) left_is in
          record {
            low = omega (arith, G.low);
            few = omega arith;
            left = here.1;
            uses = rw y (drop_more (uses_at f i) (k - 2) here.2);
            used = rw z N.used;
            done = G.done + n;
            place = behind_more G.place B;
            total = rw z (omega (arith, G.total, t, N.total, q));
          }

      pub passing_plain : leads_at (word f i kind_word) k ≡ false → Passing f i from (k + 1) c
      passing_plain e = go_on (plain_next_law f i k 0 here.1 here.0 (sym first_is ∙ e) used_here) refl (behind_none c)

      module _ (e : leads_at (word f i kind_word) k ≡ true) {w : ℕ} (g : w ≡ word f i k) where
        pub passing_below : w < record_count f
        passing_below =
            let n = counted F in
            rw g (elim (leads_up f i k 0 here.1 here.0 (sym first_is ∙ e) used_here) [ inl z ↦ omega arith | inr z ↦ z.1 ])

        pub passing_falls : ahead f w < record_count f - i
        passing_falls =
            rw g (elim (leads_up f i k 0 here.1 here.0 (sym first_is ∙ e) used_here) [
              | inl z ↦ omega (arith, ahead_none f z)
              | inr z ↦ omega (arith, ahead_some f (word f i k) (omega arith))
            ])

        pub passing_leads : {r : ℕ} → Behind c (size (tree_at f w)) r → Passing f i from (k + 1) r
        passing_leads B =
            go_on (leads_next f i k 0 here.1 here.0 (sym first_is ∙ e) (rw g at passing_below) used_here) (omega arith) (rw g at B)

    pub passing_done : record_words ≤ k → Behind from (suc (size_words (words_at f i))) c
    unfolding read_words size_words
    passing_done h =
        let n : G.left ≡ [] = sym G.uses ∙ drop_of_length-le (uses_at f i) {i = k - 2} (omega (arith, row_uses f i, G.low)) in
        let t : suc (size_words (words_at f i)) ≡ G.done =
        G.total ∙ ap (λ v. G.done + size_words (read_words (λ j. tree_at f j) (word f i) k v)) n ∙ omega arith in
        rw t G.place
