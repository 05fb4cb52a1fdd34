-- Words of cells and regions after the memory's stores.
use Rattle.std.specs.Prelude.{ℕ, ◌+◌, ◌*◌, ◌≤◌, ◌<◌, ◌≡◌, refl, List, [], ◌∷◌, ◌≢◌, length, set}
use Rattle.std.proofs.Common.{◌∙◌, arith, get_or-set_same, get_or-set_other}
use Rattle.std.proofs.Math.Decide.{dec_le}
use Rattle.std.proofs.Math.ListN.{length-set}
use Rattle.memory.specs.declared.Contents.{Contents}
use Rattle.memory.specs.Memory.{cell_words, region_words, cell_next, region_last, cell_word, with_word, link, first, last, filled, hung}
use Rattle.memory.specs.Laws.{hang_first, hang_more}

-- ---- a store at word i of cell x
module _ (m : List ℕ) (x i v : ℕ) where
  pub word_here : cell_words * x + i < length m → cell_word (with_word m x i v) x i ≡ v
  word_here h = get_or-set_same m (cell_words * x + i) v 0 h

  -- no other word of the cell, no word of another cell
  pub word_beside : (y k : ℕ) → k ≢ i → i < cell_words → k < cell_words → cell_word (with_word m x i v) y k ≡ cell_word m y k
  word_beside y k ne li lk = get_or-set_other m (cell_words * x + i) (cell_words * y + k) v 0 (λ e. ne (omega arith))

  pub word_other : (y k : ℕ) → y ≢ x → i < cell_words → k < cell_words → cell_word (with_word m x i v) y k ≡ cell_word m y k
  word_other y k ne li lk = get_or-set_other m (cell_words * x + i) (cell_words * y + k) v 0 (λ e. ne (omega arith))

-- ---- the words of a cell's arguments, and those that a new cell is to hold
pub argument_words : List ℕ → ℕ → List ℕ
argument_words m x = cell_word m x 1 ∷ cell_word m x 2 ∷ cell_word m x 3 ∷ cell_word m x 4 ∷ []

abbrev pub words_of : Contents → List ℕ
words_of c = c.a ∷ c.b ∷ c.c ∷ c.d ∷ []

-- they are as they were if each of the four is
pub arguments_same : (m m' : List ℕ) (x : ℕ) → ((k : ℕ) → k < cell_next → cell_word m' x k ≡ cell_word m x k) → argument_words m' x ≡ argument_words m x
unfolding argument_words
arguments_same m m' x h = rw (h 1 (omega arith), h 2 (omega arith), h 3 (omega arith), h 4 (omega arith))

-- they are words 1 to 4
pub arguments_are : (m : List ℕ) (x : ℕ) → argument_words m x ≡ cell_word m x 1 ∷ cell_word m x 2 ∷ cell_word m x 3 ∷ cell_word m x 4 ∷ []
unfolding argument_words
arguments_are m x = refl

-- ---- a cell that is filled
pub record FilledCell (m : List ℕ) (x : ℕ) (c : Contents) (n : ℕ) : Type 0 where
  pub functor : cell_word m x 0 ≡ c.functor
  pub arguments : argument_words m x ≡ words_of c
  pub next : link m x ≡ n

module _ (m : List ℕ) (x : ℕ) (c : Contents) (n : ℕ) where
  abbrev m1 : List ℕ
  m1 = with_word m x 0 c.functor

  abbrev m2 : List ℕ
  m2 = with_word m1 x 1 c.a

  abbrev m3 : List ℕ
  m3 = with_word m2 x 2 c.b

  abbrev m4 : List ℕ
  m4 = with_word m3 x 3 c.c

  abbrev m5 : List ℕ
  m5 = with_word m4 x 4 c.d

  pub filled_length : length (filled m x c n) ≡ length m
  unfolding filled
  filled_length = simp length-set

  -- a word is not changed by the stores at higher words
  from5 : (k : ℕ) → k < cell_next → cell_word (with_word m5 x cell_next n) x k ≡ cell_word m5 x k
  from5 k h = word_beside m5 x cell_next n x k (λ e. omega arith) (omega arith) (omega arith)

  from4 : (k : ℕ) → k < 4 → cell_word (with_word m5 x cell_next n) x k ≡ cell_word m4 x k
  from4 k h = from5 k (omega arith) ∙ word_beside m4 x 4 c.d x k (λ e. omega arith) (omega arith) (omega arith)

  from3 : (k : ℕ) → k < 3 → cell_word (with_word m5 x cell_next n) x k ≡ cell_word m3 x k
  from3 k h = from4 k (omega arith) ∙ word_beside m3 x 3 c.c x k (λ e. omega arith) (omega arith) (omega arith)

  from2 : (k : ℕ) → k < 2 → cell_word (with_word m5 x cell_next n) x k ≡ cell_word m2 x k
  from2 k h = from3 k (omega arith) ∙ word_beside m2 x 2 c.b x k (λ e. omega arith) (omega arith) (omega arith)

  from1 : (k : ℕ) → k < 1 → cell_word (with_word m5 x cell_next n) x k ≡ cell_word m1 x k
  from1 k h = from2 k (omega arith) ∙ word_beside m1 x 1 c.a x k (λ e. omega arith) (omega arith) (omega arith)

  pub filled_here : cell_words * x + cell_words ≤ length m → FilledCell (filled m x c n) x c n
  unfolding filled argument_words
  filled_here h =
      let e1 = from2 1 (omega arith) ∙ word_here m1 x 1 c.a (simp length-set (omega arith)) in
      let e2 = from3 2 (omega arith) ∙ word_here m2 x 2 c.b (simp length-set (omega arith)) in
      let e3 = from4 3 (omega arith) ∙ word_here m3 x 3 c.c (simp length-set (omega arith)) in
      let e4 = from5 4 (omega arith) ∙ word_here m4 x 4 c.d (simp length-set (omega arith)) in
      record {
        functor = from1 0 (omega arith) ∙ word_here m x 0 c.functor (omega arith);
        arguments = rw (e1, e2, e3, e4);
        next = word_here m5 x cell_next n (simp length-set (omega arith));
      }

  pub filled_other : (y k : ℕ) → k < cell_words → y ≢ x → cell_word (filled m x c n) y k ≡ cell_word m y k
  unfolding filled
  filled_other y k hk ne =
      word_other m5 x cell_next n y k ne (omega arith) hk
      ∙ word_other m4 x 4 c.d y k ne (omega arith) hk
      ∙ word_other m3 x 3 c.c y k ne (omega arith) hk
      ∙ word_other m2 x 2 c.b y k ne (omega arith) hk
      ∙ word_other m1 x 1 c.a y k ne (omega arith) hk
      ∙ word_other m x 0 c.functor y k ne (omega arith) hk

-- ---- a region's first or last word is stored
module _ (rs : List ℕ) (r v : ℕ) where
  pub first_here : region_words * r + region_words ≤ length rs → first (set rs (region_words * r) v) r ≡ v
  first_here h = get_or-set_same rs (region_words * r) v 0 (omega arith)

  pub first_other : (q : ℕ) → q ≢ r → first (set rs (region_words * r) v) q ≡ first rs q
  first_other q ne = get_or-set_other rs (region_words * r) (region_words * q) v 0 (λ e. ne (omega arith))

  pub first_last : (q : ℕ) → first (set rs (region_words * r + region_last) v) q ≡ first rs q
  first_last q = get_or-set_other rs (region_words * r + region_last) (region_words * q) v 0 (λ e. omega arith)

  pub last_here : region_words * r + region_words ≤ length rs → last (set rs (region_words * r + region_last) v) r ≡ v
  last_here h = get_or-set_same rs (region_words * r + region_last) v 0 (omega arith)

  pub last_other : (q : ℕ) → q ≢ r → last (set rs (region_words * r + region_last) v) q ≡ last rs q
  last_other q ne = get_or-set_other rs (region_words * r + region_last) (region_words * q + region_last) v 0 (λ e. ne (omega arith))

  pub last_first : (q : ℕ) → last (set rs (region_words * r) v) q ≡ last rs q
  last_first q = get_or-set_other rs (region_words * r) (region_words * q + region_last) v 0 (λ e. omega arith)

-- ---- cell x becomes the first of region r's; n is no cell's place
module _ (rs : List ℕ) (r x n : ℕ) where
  pub record HungCell (rs' : List ℕ) : Type 0 where
    pub size : length rs' ≡ length rs
    pub front : region_words * r + region_words ≤ length rs → first rs' r ≡ x
    pub firsts : (q : ℕ) → q ≢ r → first rs' q ≡ first rs q
    pub lasts : (q : ℕ) → q ≢ r → last rs' q ≡ last rs q
    pub only : region_words * r + region_words ≤ length rs → n ≤ last rs r → last rs' r ≡ x
    pub kept : last rs r < n → last rs' r ≡ last rs r

  abbrev rs1 : List ℕ
  rs1 = set rs (region_words * r) x

  hung_first : n ≤ last rs r → HungCell (set rs1 (region_words * r + region_last) x)
  hung_first h = record {
    size = simp length-set;
    front = λ b. first_last rs1 r x r ∙ first_here rs r x b;
    firsts = λ q ne. first_last rs1 r x q ∙ first_other rs r x q ne;
    lasts = λ q ne. last_other rs1 r x q ne ∙ last_first rs r x q;
    only = λ b g. last_here rs1 r x (rw length-set b);
    kept = λ g. absurd (omega arith);
  }

  hung_more : last rs r < n → HungCell rs1
  hung_more h = record {
    size = simp length-set;
    front = λ b. first_here rs r x b;
    firsts = λ q ne. first_other rs r x q ne;
    lasts = λ q ne. last_first rs r x q;
    only = λ b g. absurd (omega arith);
    kept = λ g. last_first rs r x r;
  }

  pub hung_ok : HungCell (hung rs r x n)
  hung_ok = elim (dec_le n (last rs r)) [
    | yes h ↦ rw (← hang_first rs r x n (last rs r) refl rs1 refl h _ refl) (hung_first h)
    | no h ↦ rw (← hang_more rs r x n (last rs r) refl rs1 refl (omega arith)) (hung_more (omega arith))
  ]
