-- The loop over the words of a record: what is written so far, and the words that are left with what they lead to.
use Prim.Native.Nat.{ℕ, suc, ◌+◌, ◌-◌, ◌*◌, ◌≤◌, ◌<◌}
use native.Mathlib.Omega.{arith}
use native.Mathlib.Decide.{dec_lt}
use mathlib.Core.List.{List, ◌∷◌, ◌++◌, append_assoc, append-nil, []}
use mathlib.Core.Path.{◌≡◌, refl, ap, sym, ◌∙◌}
use mathlib.Core.Bool.{true, false, false≢true}
use mathlib.Core.Logic.{◌⊎◌, inl, inr}
use lib.ListN.{length, drop, length-drop, drop_of_length-le}
use Rattle.language.specs.Format.{record_bytes, kind_word}
use Rattle.language.specs.File.{k_header, Use, number, unused, first, row, kind_of, word, record_count}
use Rattle.language.specs.Tree.{read_words}
use Rattle.language.specs.Layout.{size, size_words, word_list, lay, lay_words}
use Rattle.laws.specs.Lists.{drop_more, drop_nth}
use Rattle.records.specs.Sizes.{word_end, record_words}
use Rattle.chains.specs.Layout.{row_length, Used, record_used, known_number, header_kind_law, lay_length}
use Rattle.chains.specs.Shapes.{kind_number}
use Rattle.chains.specs.Formed.{Formed, counted, ahead, ahead_none, ahead_some}
use Rattle.writer.specs.Laid.{PutWord, linked, Begun, begun_put, begun_part, begun_done}
use Rattle.writer.proofs.LaidLaws.{begun_none}
use Rattle.writer.specs.Ready.{Wrote, tree_at, uses_at, words_at, front_to, ChainReady, RecordReady}
use Rattle.writer.proofs.ReadyLaws.{reference_is}
use Rattle.writer.specs.Leads.{is_first, leads_at}

pub record Spelling (f : List ℕ) (i at : ℕ) (a b : List ℕ) (k c : ℕ) : Type 0 where
  pub xs : List ℕ
  pub rs : List (List ℕ)
  pub left : List Use
  pub begun : Begun a b at k c xs rs
  pub uses : drop (length xs) (uses_at f i) ≡ left
  pub used : Used (word f) (record_count f) i k left
  pub text : word_list (suc at) (words_at f i) ≡ xs ++ word_list c (read_words (λ j. tree_at f j) (word f i) k left)
  pub laid : lay_words (words_at f i) (suc at) ≡ rs ++ lay_words (read_words (λ j. tree_at f j) (word f i) k left) c
  pub total : suc at + size_words (words_at f i) ≡ c + size_words (read_words (λ j. tree_at f j) (word f i) k left)

pub spelling_first : {f : List ℕ} {i at : ℕ} (a : List ℕ) → RecordReady f i at (length a) → Spelling f i at a a 2 (at + 1)
unfolding words_at uses_at
spelling_first {f} {i} {at} a R =
    let z : at + 1 ≡ suc at = omega arith in
    record {
      xs = [];
      rs = [];
      left = uses_at f i;
      begun = begun_none a at;
      uses = refl;
      used = record_used (word f) (record_count f) R.formed.form i R.below;
      text = rw z refl;
      laid = rw z refl;
      total = rw z refl;
    }

-- ---- the next word
-- some word is left
pub some_left : (us : List Use) (n : ℕ) → n < length us → (u : Use) × (vs : List Use) × (drop n us ≡ u ∷ vs)
some_left us n l = go (drop n us) refl
  where
    go : (vs : List Use) → drop n us ≡ vs → (u : Use) × (ws : List Use) × (drop n us ≡ u ∷ ws)
    go [] e = absurd (let m = ap length e in omega (arith, length-drop n us))
    go (u ∷ vs) e = (u, vs, e)

pub row_uses : (f : List ℕ) (i : ℕ) → length (uses_at f i) ≡ 6
unfolding uses_at
row_uses f i = row_length (kind_of (word f i kind_word))

-- the use of word k says whether it leads to a chain
pub is_first_law : (f : List ℕ) (i k : ℕ) {u : Use} {vs : List Use} → drop (k - 2) (uses_at f i) ≡ u ∷ vs → leads_at (word f i kind_word) k ≡ is_first u
unfolding leads_at uses_at
is_first_law f i k e = ap is_first (drop_nth unused (uses_at f i) (k - 2) e)

-- word k is x, what it leads to is ys, and the words behind it have theirs from e on
pub record NextWord (f : List ℕ) (i k c : ℕ) (left rest : List Use) (x : ℕ) (ys : List (List ℕ)) (e : ℕ) : Type 0 where
  pub used : Used (word f) (record_count f) i (suc k) rest
  pub text : word_list c (read_words (λ j. tree_at f j) (word f i) k left) ≡ x ∷ word_list e (read_words (λ j. tree_at f j) (word f i) (suc k) rest)
  pub laid : lay_words (read_words (λ j. tree_at f j) (word f i) k left) c ≡ ys ++ lay_words (read_words (λ j. tree_at f j) (word f i) (suc k) rest) e
  pub total : c + size_words (read_words (λ j. tree_at f j) (word f i) k left) ≡ e + size_words (read_words (λ j. tree_at f j) (word f i) (suc k) rest)

module _ (f : List ℕ) (i k c : ℕ) (us : List Use) where
  pub plain_next_law : (u : Use) → is_first u ≡ false → Used (word f) (record_count f) i k (u ∷ us) → NextWord f i k c (u ∷ us) us (word f i k) [] c
  unfolding is_first read_words word_list lay_words size_words
  plain_next_law number e h = record { used = h; text = refl; laid = refl; total = refl }
  plain_next_law unused e h = record { used = h.1; text = refl; laid = refl; total = refl }
  plain_next_law (first s) e h = absurd (false≢true (sym e))

  -- a word that leads: it is above record i, or 0
  pub leads_up : (u : Use) → is_first u ≡ true → Used (word f) (record_count f) i k (u ∷ us) → (word f i k ≡ 0) ⊎ ((i < word f i k) × (word f i k < record_count f))
  unfolding is_first
  leads_up number e h = absurd (false≢true e)
  leads_up unused e h = absurd (false≢true e)
  leads_up (first s) e h = elim h.0 [ inl z ↦ inl z | inr z ↦ inr (z.0, z.1) ]

  pub leads_next : (u : Use) → is_first u ≡ true → word f i k < record_count f → Used (word f) (record_count f) i k (u ∷ us)
      → NextWord f i k c (u ∷ us) us (linked (word f i k) c) (lay (tree_at f (word f i k)) c) (c + size (tree_at f (word f i k)))
  unfolding is_first read_words word_list lay_words size_words
  leads_next number e l h = absurd (false≢true e)
  leads_next unused e l h = absurd (false≢true e)
  leads_next (first s) e l h =
      record { used = h.1; text = ap (λ x. x ∷ word_list (c + size (tree_at f (word f i k))) (read_words (λ j. tree_at f j) (word f i) (suc k) us)) (reference_is f c l); laid = refl; total = omega arith }

module _ {f : List ℕ} {i at : ℕ} {a b : List ℕ} {k c : ℕ} (R : RecordReady f i at (length a)) (G : Spelling f i at a b k c) (m : k < record_words) where
  here : (u : Use) × (vs : List Use) × (drop (length G.xs) (uses_at f i) ≡ u ∷ vs)
  here = some_left (uses_at f i) (length G.xs) (omega (arith, row_uses f i, G.begun.many))

  left_is : G.left ≡ here.0 ∷ here.1
  left_is = sym G.uses ∙ here.2

  first_is : leads_at (word f i kind_word) k ≡ is_first here.0
  first_is = let e : k - 2 ≡ length G.xs = omega (arith, G.begun.many) in is_first_law f i k {vs = here.1} (rw e here.2)

  used_here : Used (word f) (record_count f) i k (here.0 ∷ here.1)
  used_here = rw left_is at G.used

  pub spelling_room : (record_bytes * at + record_bytes ≤ length b) × (c < word_end)
  spelling_room = (omega (arith, R.room, G.begun.same), omega (arith, R.few, G.total))

  go_on : {d : List ℕ} {x e : ℕ} {ys : List (List ℕ)} → NextWord f i k c (here.0 ∷ here.1) here.1 x ys e → Begun a d at (k + 1) e (G.xs ++ x ∷ []) (G.rs ++ ys)
      → Spelling f i at a d (k + 1) e
  go_on {d} {x} {e} {ys} N B =
      let z : k + 1 ≡ suc k = omega arith in
      let l = length_snoc G.xs x in
      record {
        xs = G.xs ++ x ∷ [];
        rs = G.rs ++ ys;
        left = here.1;
        begun = B;
        uses = rw l (drop_more (uses_at f i) (length G.xs) here.2);
        used = rw z N.used;
        text = rw z (G.text ∙ ap (λ t. G.xs ++ t) (ap (λ v. word_list c (read_words (λ j. tree_at f j) (word f i) k v)) left_is ∙ N.text) ∙ sym (append_assoc G.xs (x ∷ []) _));
        laid = rw z (G.laid ∙ ap (λ t. G.rs ++ t) (ap (λ v. lay_words (read_words (λ j. tree_at f j) (word f i) k v) c) left_is ∙ N.laid) ∙ sym (append_assoc G.rs ys _));
        total = rw z (G.total ∙ ap (λ v. c + size_words (read_words (λ j. tree_at f j) (word f i) k v)) left_is ∙ N.total);
      }
    where
      length_snoc : (ys : List ℕ) (y : ℕ) → length (ys ++ y ∷ []) ≡ length ys + 1
      length_snoc [] y = refl
      length_snoc (v ∷ ys) y = omega (arith, length_snoc ys y)

  -- a word that leads nowhere
  pub spelling_plain : {d : List ℕ} {w : ℕ} → leads_at (word f i kind_word) k ≡ false → w ≡ word f i k → PutWord b d at k w → Spelling f i at a d (k + 1) c
  spelling_plain {d} {w} e g p =
      go_on (plain_next_law f i k c here.1 here.0 (sym first_is ∙ e) used_here) (rw append-nil (begun_put G.begun m (rw g at p)))

  -- a word that leads to a chain
  module _ (e : leads_at (word f i kind_word) k ≡ true) {w : ℕ} (g : w ≡ word f i k) where
    up : (word f i k ≡ 0) ⊎ ((i < word f i k) × (word f i k < record_count f))
    up = leads_up f i k c here.1 here.0 (sym first_is ∙ e) used_here

    below : word f i k < record_count f
    below = let n = counted R.formed in elim up [ inl z ↦ omega arith | inr z ↦ z.1 ]

    next : NextWord f i k c (here.0 ∷ here.1) here.1 (linked (word f i k) c) (lay (tree_at f (word f i k)) c) (c + size (tree_at f (word f i k)))
    next = leads_next f i k c here.1 here.0 (sym first_is ∙ e) below used_here

    pub spelling_falls : ahead f w < record_count f - i
    spelling_falls =
        let n = R.below in
        rw g (elim up [ inl z ↦ omega (arith, ahead_none f z) | inr z ↦ omega (arith, ahead_some f (word f i k) (omega arith)) ])

    pub spelling_chain : {d : List ℕ} {x : ℕ} → PutWord b d at k x → ChainReady f w c (length d)
    spelling_chain p =
        let t = G.total ∙ ap (λ v. c + size_words (read_words (λ j. tree_at f j) (word f i) k v)) left_is ∙ next.total in
        rw g (record {
          formed = R.formed;
          below = below;
          room = omega (arith, R.room, t, p.same, G.begun.same);
          few = omega (arith, R.few, t);
        })

    pub spelling_leads : {d h : List ℕ} {x r : ℕ} → x ≡ linked w c → PutWord b d at k x → Wrote d h c r (lay (tree_at f w) c) → Spelling f i at a h (k + 1) r
    spelling_leads {d} {h} {x} {r} q p N =
        let P : PutWord b d at k (linked (word f i k) c) = rw (q, g) at p in
        let M : Wrote d h c r (lay (tree_at f (word f i k)) c) = rw g at N in
        let o : r ≡ c + size (tree_at f (word f i k)) = M.next ∙ ap (λ n. c + n) (lay_length (tree_at f (word f i k)) c) in
        rw o (go_on next (rw o at (begun_part (begun_put G.begun m P) M.laid M.next)))

-- ---- all words are done
pub number_here : {f : List ℕ} → Formed f → (i : ℕ) → i < record_count f → word f i kind_word ≡ (row (kind_of (word f i kind_word))).kind
number_here {f} F i q =
    let h = header_kind_law f F.header F.form in
    elim (dec_lt 0 i) [
      | yes p ↦ known_number (word f) (record_count f) F.form h i p q
      | no p ↦
          let z : i ≡ 0 = omega arith in
          rw z (kind_number (word f 0 kind_word) k_header h (λ e. let q : ◌≡◌ {A = ℕ} 0 1 = cc in omega arith) ∙ ap (λ k. (row k).kind) (sym h))
    ]

module _ {f : List ℕ} {i at : ℕ} {a b : List ℕ} {k c : ℕ} (R : RecordReady f i at (length a)) (G : Spelling f i at a b k c) (l : record_words ≤ k) where
  none_left : G.left ≡ []
  unfolding uses_at
  none_left =
      let n = row_length (kind_of (word f i kind_word)) in
      sym G.uses ∙ drop_of_length-le (uses_at f i) {i = length G.xs} (omega (arith, G.begun.many))

  all_text : word_list (suc at) (words_at f i) ≡ G.xs
  unfolding read_words word_list
  all_text = G.text ∙ ap (λ v. G.xs ++ word_list c (read_words (λ j. tree_at f j) (word f i) k v)) none_left ∙ append-nil G.xs

  all_laid : lay_words (words_at f i) (suc at) ≡ G.rs
  unfolding read_words lay_words
  all_laid = G.laid ∙ ap (λ v. G.rs ++ lay_words (read_words (λ j. tree_at f j) (word f i) k v) c) none_left ∙ append-nil G.rs

  all_total : suc at + size_words (words_at f i) ≡ c
  unfolding read_words size_words
  all_total = G.total ∙ ap (λ v. c + size_words (read_words (λ j. tree_at f j) (word f i) k v)) none_left ∙ omega arith

  pub done_room : (record_bytes * at + record_bytes ≤ length b) × (c < word_end)
  done_room = (omega (arith, R.room, G.begun.same), omega (arith, R.few, all_total))

  pub spelling_done : {d e : List ℕ} {u v : ℕ} (on : ℕ) → u ≡ word f i kind_word → v ≡ linked on c → PutWord b d at 0 u → PutWord d e at 1 v
      → Wrote a e at c (front_to f i on at)
  unfolding front_to
  spelling_done {d} {e} {u} {v} on p r y z =
      let o : v ≡ linked on (suc at + size_words (words_at f i)) = r ∙ ap (linked on) (sym all_total) in
      let L = begun_done G.begun l y z in
      rw (sym o, all_text, all_laid, sym (p ∙ number_here R.formed i R.below)) (record { laid = L; next = omega (arith, G.begun.place) })
