-- A construct, as the code puts it together: a cell is taken, its words are put into it up to the first argument that is numbered 0, and it is hung into
-- its region. A switch, likewise.
use Prim.Native.Nat.{ℕ, zero, suc, ◌+◌, ◌*◌, ◌<◌}
use Rattle.std.proofs.Common.{arith, sym, ap, ◌∙◌, get_or-set_other, Option, Some, None}
use Rattle.std.specs.Prelude.{◌≡◌, Bool, List, [], ◌∷◌, leb, ltb, length}
use Rattle.std.proofs.Math.Path.{refl}
use Rattle.std.proofs.Math.ListN.{get_or}
use Rattle.sets.specs.Tests.{◌&◌}
use Rattle.language.specs.File.{word}
use Rattle.language.specs.Format.{goal_x, term_functor, term_arguments}
use Rattle.memory.specs.declared.Contents.{Contents}
use Rattle.memory.specs.declared.Heap.{Heap}
use Rattle.memory.specs.Memory.{cell_words, constants_from, cell_word, with_word, with_link, first, filled, hung, built, built_cells, built_regions}
use Rattle.memory.specs.Building.{built_none, built_made, built_place, still}
use Rattle.word_machine.specs.Machine.{term_of}
use Rattle.machine.specs.GoalWords.{value_in, term_in, pours_each, arguments_from, poured, home_for, term_made, cells_made, regions_made, placed}

-- ---- words put up to the first 0, and the link, are the whole cell: the others are filled with what stands there
module _ (value : ℕ → ℕ) (m : List ℕ) (x : ℕ) where
  -- word j of the cell is as it was, in m and after a store to another of its words
  same : (t : List ℕ) (i j v : ℕ) → (i ≡ j → ⊥) → get_or t (cell_words * x + j) 0 ≡ get_or m (cell_words * x + j) 0 → get_or (with_word t x i v) (cell_words * x + j) 0 ≡ get_or m (cell_words * x + j) 0
  same t i j v n e = get_or-set_other t (cell_words * x + i) (cell_words * x + j) v 0 (λ z. n (omega arith)) ∙ e

  kept : (t : List ℕ) (j : ℕ) → get_or t (cell_words * x + j) 0 ≡ get_or m (cell_words * x + j) 0 → with_word t x j (cell_word m x j) ≡ t
  kept t j e = still t m (cell_words * x + j) e

  pour_filled : (k a b c d n : ℕ) → with_link (pours_each value x 1 (a ∷ b ∷ c ∷ d ∷ []) (with_word m x 0 k)) x n ≡ filled m x (term_of value (λ j. cell_word m x j) k a b c d) n
  unfolding pours_each term_of filled
  pour_filled k zero b c d n =
      let t = with_word m x 0 k in
      let s : (j : ℕ) → (0 ≡ j → ⊥) → get_or t (cell_words * x + j) 0 ≡ get_or m (cell_words * x + j) 0 = λ j z. same m 0 j k z refl in
      rw (kept t 1 (s 1 (λ z. omega arith)), kept t 2 (s 2 (λ z. omega arith)), kept t 3 (s 3 (λ z. omega arith)), kept t 4 (s 4 (λ z. omega arith)))
  pour_filled k (suc a) zero c d n =
      let t = with_word (with_word m x 0 k) x 1 (value (suc a)) in
      let s : (j : ℕ) → 1 < j → get_or t (cell_words * x + j) 0 ≡ get_or m (cell_words * x + j) 0 = λ j l. same (with_word m x 0 k) 1 j (value (suc a)) (λ z. omega arith) (same m 0 j k (λ z. omega arith) refl) in
      rw (kept t 2 (s 2 (omega arith)), kept t 3 (s 3 (omega arith)), kept t 4 (s 4 (omega arith)))
  pour_filled k (suc a) (suc b) zero d n =
      let t = with_word (with_word (with_word m x 0 k) x 1 (value (suc a))) x 2 (value (suc b)) in
      let s : (j : ℕ) → 2 < j → get_or t (cell_words * x + j) 0 ≡ get_or m (cell_words * x + j) 0
      = λ j l. same (with_word (with_word m x 0 k) x 1 (value (suc a))) 2 j (value (suc b)) (λ z. omega arith) (same (with_word m x 0 k) 1 j (value (suc a)) (λ z. omega arith) (same m 0 j k (λ z. omega arith) refl)) in
      rw (kept t 3 (s 3 (omega arith)), kept t 4 (s 4 (omega arith)))
  pour_filled k (suc a) (suc b) (suc c) zero n =
      let t = with_word (with_word (with_word (with_word m x 0 k) x 1 (value (suc a))) x 2 (value (suc b))) x 3 (value (suc c)) in
      let s : get_or t (cell_words * x + 4) 0 ≡ get_or m (cell_words * x + 4) 0
      = same (with_word (with_word (with_word m x 0 k) x 1 (value (suc a))) x 2 (value (suc b))) 3 4 (value (suc c)) (λ z. omega arith)
      (same (with_word (with_word m x 0 k) x 1 (value (suc a))) 2 4 (value (suc b)) (λ z. omega arith)
      (same (with_word m x 0 k) 1 4 (value (suc a)) (λ z. omega arith) (same m 0 4 k (λ z. omega arith) refl))) in
      rw (kept t 4 s)
  pour_filled k (suc a) (suc b) (suc c) (suc d) n = refl

pub poured_filled : (f : List ℕ) (i k : ℕ) (fw : List ℕ) (x n : ℕ) (m : List ℕ) → with_link (poured f i k fw x m) x n ≡ filled m x (term_in f i k fw m x) n
unfolding poured term_in arguments_from
poured_filled f i k fw x n m = pour_filled (value_in k fw) m x (word f i term_functor) _ _ _ _ n

-- ---- a construct
module _ (f plan : List ℕ) (i k : ℕ) (h : Heap) (m rs fw : List ℕ) where
  abbrev home : ℕ
  home = home_for plan i k fw

  abbrev term : Contents
  term = term_in f i k fw m h.cells.head

  abbrev argument : ℕ
  argument = word f i term_arguments

  -- what is made: r is the answer, m₁ and rs₁ are the words of cells and regions afterwards
  abbrev pub Makes : Option (ℕ × Heap) → List ℕ → List ℕ → Type 0
  Makes r m₁ rs₁ =
      (r ≡ term_made (word f i term_functor) argument h m) × (m₁ ≡ cells_made argument h m rs home term) × (rs₁ ≡ regions_made argument h m rs home)

  -- a construct with arguments makes a cell
  some_made : (b : ℕ) → (b ≡ 0 → ⊥) → (r : Option (ℕ × Heap)) (m₁ rs₁ : List ℕ) → r ≡ built h m → m₁ ≡ built_cells h m rs home term → rs₁ ≡ built_regions h m rs home
      → (r ≡ term_made (word f i term_functor) b h m) × (m₁ ≡ cells_made b h m rs home term) × (rs₁ ≡ regions_made b h m rs home)
  unfolding term_made cells_made regions_made
  some_made zero n r m₁ rs₁ er em es = absurd (n refl)
  some_made (suc b) n r m₁ rs₁ er em es = (er, em, es)

  module _ (a : ℕ) (e : a ≡ word f i term_arguments) (n : a ≡ 0 → ⊥) where
    pub make_none : (md : Option (ℕ × Heap)) → md ≡ built h m → md ≡ None → Makes None m rs
    make_none md d z = let b = built_none h m rs home term (sym z ∙ d) in some_made argument (λ x. n (e ∙ x)) None m rs (sym z ∙ d) (sym b.0) (sym b.1)

    pub make_cell : (md : Option (ℕ × Heap)) (y : ℕ) (l : Heap) → md ≡ built h m → md ≡ Some (y, l) → (m₁ m₂ rs₁ : List ℕ) (p x : ℕ) → m₁ ≡ poured f i k fw y m → p ≡ home
        → x ≡ h.cells.limit → m₂ ≡ with_link m₁ y (first rs p) → rs₁ ≡ hung rs p y x → Makes (Some (y, l)) m₂ rs₁
    make_cell md y l d z m₁ m₂ rs₁ p x e₁ ep ex e₂ er =
        let c = sym z ∙ d in
        let b = built_made h m rs home term y l c in
        some_made argument (λ q. n (e ∙ q)) (Some (y, l)) m₂ rs₁ c
        (rw (b.0, e₂, e₁, ep) (poured_filled f i k fw y (first rs home) m ∙ ap (λ x. filled m y (term_in f i k fw m x) (first rs home)) (built_place h m y l c)))
        (rw (b.1, er, ep, ex))

  -- .. and X gets it: fx are the words of frames afterwards
  abbrev pub Constructs : Option (ℕ × Heap) → List ℕ → List ℕ → List ℕ → Type 0
  Constructs r m₁ rs₁ fx = Makes r m₁ rs₁ × (fx ≡ placed (k + word f i goal_x) r fw)

-- ---- a switch
-- v is the place of a cell that is there whole
unfoldable pub whole_cell : List ℕ → ℕ → Bool
whole_cell m v = leb (cell_words * v + cell_words) (length m) & ltb v constants_from
