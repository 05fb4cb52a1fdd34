-- A chain is its first record with what its words lead to, and the rest; the invariant of a loop along it.
use Prim.Native.Nat.{ℕ, zero, suc, ◌+◌, ◌-◌, ◌≤◌, ◌<◌}
use native.Mathlib.Omega.{arith}
use mathlib.Core.List.{List, ◌∷◌, ◌++◌, append_assoc, append-nil, []}
use mathlib.Core.Path.{◌≡◌, refl, ap, sym, ◌∙◌}
use mathlib.Core.Logic.{inl, inr}
use lib.ListN.{length, length-append}
use Rattle.language.specs.Format.{kind_word, next_word}
use Rattle.language.specs.File.{row, kind_of, word, record_count}
use Rattle.language.specs.Tree.{Tree, end, node, read_record, read_chain}
use Rattle.language.specs.Layout.{size, size_words, reference, word_list, lay, lay_words}
use Rattle.chains.specs.Layout.{next_leads, lay_words_length, chain_end_law}
use Rattle.chains.specs.Formed.{Formed, counted, ahead, ahead_some}
use Rattle.chains.specs.Records.{next_onward}
use Rattle.writer.specs.Laid.{Laid, laid_none, laid_then, linked}
use Rattle.writer.specs.Ready.{ChainReady, RecordReady, Wrote, front_to, tree_is, tree_at, words_at}

-- a tree's first record and what its words lead to, from record c on
unfoldable pub front_of : Tree → ℕ → List (List ℕ)
front_of end c = []
front_of (node k t ws) c = ((row k).kind ∷ reference (suc c + size_words ws) t ∷ word_list (suc c) ws) ∷ lay_words ws (suc c)

unfoldable pub front : List ℕ → ℕ → ℕ → List (List ℕ)
front f i c = front_of (node (kind_of (word f i kind_word)) (tree_at f (word f i next_word)) (words_at f i)) c

-- ---- a reference to the chain at w, as the code makes it
reference_chain : (n : ℕ) (W : ℕ → ℕ → ℕ) (w c : ℕ) → w < n → reference c (read_chain n W w) ≡ linked w c
unfolding reference read_chain read_record linked
reference_chain (suc n) W zero c l = refl
reference_chain (suc n) W (suc w) c l = refl
reference_chain zero W w c l = absurd (omega arith)

pub reference_is : (f : List ℕ) {w : ℕ} (c : ℕ) → w < record_count f → reference c (tree_at f w) ≡ linked w c
unfolding tree_at
reference_is f {w} c h = reference_chain (record_count f) (word f) w c h

-- the file's own chain goes on where its next word is not 0
next_below : {f : List ℕ} → Formed f → (i : ℕ) → i < record_count f → word f i next_word < record_count f
next_below {f} F i q =
    let n = next_leads (word f) (record_count f) F.form i q in
    let t = counted F in
    elim n [ inl o ↦ omega arith | inr o ↦ o.1 ]

pub front_to_law : {f : List ℕ} → Formed f → (i c : ℕ) {w : ℕ} → i < record_count f → w ≡ word f i next_word → front_to f i w c ≡ front f i c
unfolding front front_of front_to
front_to_law {f} F i c q e = rw (e, reference_is f (suc c + size_words (words_at f i)) (next_below F i q)) refl

-- ---- a chain is its first record with what the words lead to, and the rest
pub front_length : (f : List ℕ) (i c : ℕ) → length (front f i c) ≡ suc (size_words (words_at f i))
unfolding front front_of
front_length f i c = ap suc (lay_words_length (words_at f i) (suc c))

module _ {f : List ℕ} (F : Formed f) (i : ℕ) (p : 0 < i) (q : i < record_count f) where
  pub size_is : size (tree_at f i) ≡ suc (size_words (words_at f i) + size (tree_at f (word f i next_word)))
  unfolding size
  size_is = ap size (tree_is F i p q)

  pub lay_front : (c : ℕ) → lay (tree_at f i) c ≡ front f i c ++ lay (tree_at f (word f i next_word)) (c + length (front f i c))
  unfolding front front_of lay
  lay_front c =
      let e : suc c + size_words (words_at f i) ≡ c + length (front f i c) = omega (arith, front_length f i c) in
      ap (λ t. lay t c) (tree_is F i p q) ∙ ap (λ d. front f i c ++ lay (tree_at f (word f i next_word)) d) e

-- ---- a loop along a chain: the chain at record start was to be written from record `from` on; what is left is the chain at i, from c on
pub record Writing (f a d : List ℕ) (start from i c : ℕ) : Type 0 where
  pub ready : ChainReady f i c (length d)
  pub later : ahead f i ≤ ahead f start
  pub done : List (List ℕ)
  pub laid : Laid a d from done
  pub place : c ≡ from + length done
  pub whole : lay (tree_at f start) from ≡ done ++ lay (tree_at f i) c

pub writing_first : {f : List ℕ} {i c : ℕ} (a : List ℕ) → ChainReady f i c (length a) → Writing f a a i c i c
writing_first {c = c} a R = record { ready = R; later = omega arith; done = []; laid = laid_none a c; place = omega arith; whole = refl }

module _ {f a d : List ℕ} {start from i c : ℕ} (G : Writing f a d start from i c) (z : i ≡ 0 → ⊥) where
  abbrev R : ChainReady f i c (length d)
  R = G.ready

  pub writing_record : RecordReady f i c (length d)
  writing_record =
      let n = size_is R.formed i (omega arith) R.below in
      record { formed = R.formed; below = R.below; room = omega (arith, R.room, n); few = omega (arith, R.few, n) }

  pub writing_less : record_count f - i ≤ ahead f start
  writing_less = omega (arith, ahead_some f i (omega arith), G.later)

  module _ {w : ℕ} (g : w ≡ word f i next_word) where
    pub writing_falls : ahead f w < ahead f i
    writing_falls = (next_onward R.formed z R.below g).falls

    pub writing_next : {e : List ℕ} {r : ℕ} → Wrote d e c r (front_to f i w c) → Writing f a e start from w r
    writing_next {e} {r} M =
        let N : Wrote d e c r (front f i c) = rw (front_to_law R.formed i c R.below g) at M in
        let o = next_onward R.formed z R.below g in
        let n : size (tree_at f i) ≡ suc (size_words (words_at f i) + size (tree_at f w)) = rw g (size_is R.formed i (omega arith) R.below) in
        let m = front_length f i c in
        record {
          ready = record {
            formed = R.formed;
            below = o.stands.below;
            room = omega (arith, R.room, N.next, n, m, N.laid.same);
            few = omega (arith, R.few, N.next, n, m);
          };
          later = omega (arith, G.later, o.falls);
          done = G.done ++ front f i c;
          laid = laid_then (sym G.place) G.laid N.laid;
          place = omega (arith, N.next, G.place, length-append G.done (front f i c));
          whole =
              G.whole
              ∙ ap (λ x. G.done ++ x) (rw (g, N.next) (lay_front R.formed i (omega arith) R.below c))
              ∙ sym (append_assoc G.done (front f i c) (lay (tree_at f w) r));
        }

pub writing_last : {f a d : List ℕ} {start from i c : ℕ} → Writing f a d start from i c → i ≡ 0 → Wrote a d from c (lay (tree_at f start) from)
unfolding tree_at lay
writing_last {f} {a} {d} {start} {from} {i} {c} G z =
    let e : lay (read_chain (record_count f) (word f) start) from ≡ G.done =
    G.whole ∙ ap (λ x. G.done ++ x) (ap (λ j. lay (read_chain (record_count f) (word f) j) c) z ∙ ap (λ t. lay t c) (chain_end_law (record_count f) (word f))) ∙ append-nil G.done in
    rw e (record { laid = G.laid; next = G.place })
