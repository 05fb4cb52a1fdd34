-- Laws of `specs/Firsts` and `specs/Terms` that only proofs cite.
use Prim.Native.Nat.{ℕ, ◌+◌, ◌*◌, ◌<◌, zero, suc, ◌-◌, ◌≤◌}
use native.Mathlib.Omega.{arith}
use native.Mathlib.Decide.{ℕ_discrete}
use mathlib.Core.List.{List, ◌∷◌, []}
use mathlib.Core.Path.{◌≡◌, refl, ap, ◌∙◌, sym, ap₂}
use lib.ListN.{length, get_or, set, replicate, length-set, length-replicate, get_or-replicate}
use lib.Seq.{get_or-set_same, get_or-set_other}
use Rattle.language.specs.Format.{max_functors, places, next_word, edge_functor, edge_position, edge_target, term_functor, max_arity, term_arguments}
use Rattle.chains.specs.Formed.{Formed, stands_none, Stands, edges_at}
use Rattle.regions.specs.Firsts.{FirstEdge, Firsts}
use mathlib.Core.Bool.{Bool, true, false}
use mathlib.Core.Logic.{◌≢◌}
use borrow.Author.Tests.{eq-eqb, ne_eqb}
use lib.Dec.{eqb}
use Rattle.sets.specs.Tests.{◌&◌}
use Rattle.language.specs.File.{edges, word}
use Rattle.language.specs.Lists.{choose}
use Rattle.language.specs.Program.{Edge, Signature, Program, four, arguments_of, four_words, trimmed, trim_onto, region_at}
use Rattle.language.specs.Regions.{target_for, in_targets}
use Rattle.chains.specs.Shapes.{edge_here}
use Rattle.tables.specs.Window.{Window, home_in}
use Rattle.regions.specs.Terms.{all_in, arguments_here, words_from}

pub firsts_none : {f m : List ℕ} → Formed f → m ≡ replicate places 0 → Firsts f m
firsts_none {f} {m} F e = record { size = ap length e ∙ length-replicate {A = ℕ} places 0; right = λ n h. rw (e, get_or-replicate {A = ℕ} places (2 * n) 0 0 (omega arith), get_or-replicate {A = ℕ} places (2 * n + 1) 0 0 (omega arith)) (record { stands = stands_none F refl; same = λ k. refl }) }

pub firsts_put : {f m : List ℕ} {n start first : ℕ} → Firsts f m → n < max_functors → FirstEdge f n start first → Firsts f (set (set m (2 * n) start) (2 * n + 1) first)
firsts_put {f} {m} {n} {start} {first} M h E = record {
  size = simp length-set M.size;
  right = λ j l. go j l (ℕ_discrete j n);
}
  where
    low : (j : ℕ) → get_or (set (set m (2 * n) start) (2 * n + 1) first) (2 * j) 0 ≡ get_or (set m (2 * n) start) (2 * j) 0
    low j = get_or-set_other (set m (2 * n) start) (2 * n + 1) (2 * j) first 0 (λ q. omega arith)

    go : (j : ℕ) → j < max_functors → Dec (j ≡ n) → FirstEdge f j (get_or (set (set m (2 * n) start) (2 * n + 1) first) (2 * j) 0) (get_or (set (set m (2 * n) start) (2 * n + 1) first) (2 * j + 1) 0)
    go j l (yes e) =
        rw (e, low n, get_or-set_same m (2 * n) start 0 (omega (arith, M.size)), get_or-set_same (set m (2 * n) start) (2 * n + 1) first 0 (simp length-set (omega (arith, M.size)))) E
    go j l (no e) =
        rw (low j, get_or-set_other m (2 * n) (2 * j) start 0 (λ q. e (omega arith)), get_or-set_other (set m (2 * n) start) (2 * n + 1) (2 * j + 1) first 0 (λ q. e (omega arith)), get_or-set_other m (2 * n) (2 * j + 1) start 0 (λ q. omega arith)) (M.right j l)

pub first_kept : {f m : List ℕ} {n start : ℕ} → Firsts f m → n < max_functors → get_or m (2 * n) 0 ≡ start → FirstEdge f n start (get_or m (2 * n + 1) 0)
first_kept {f} {m} {n} M h e = rw e at (M.right n h)

pub all_in_targets : {f t : List ℕ} (P : Program) {S : Signature} → Window f S t → (r fn : ℕ) {es : List Edge} → es ≡ (region_at S r).edges
    → (k : ℕ) (ys : List ℕ) → all_in t es fn k ys ≡ in_targets P S r fn k ys
unfolding all_in in_targets
all_in_targets P h r fn e k [] = refl
all_in_targets P {S} h r fn e k (y ∷ ys) =
    ap₂ ◌&◌ (ap₂ eqb (h.home y) (ap (λ (l : List Edge). target_for l fn k) e)) (all_in_targets P h r fn e (suc k) ys)

-- edges that have the same targets for a functor serve its arguments alike
same_targets : (t : List ℕ) (es ds : List Edge) (fn : ℕ) → ((k : ℕ) → target_for es fn k ≡ target_for ds fn k)
    → (k : ℕ) (ys : List ℕ) → all_in t es fn k ys ≡ all_in t ds fn k ys
unfolding all_in
same_targets t es ds fn h k [] = refl
same_targets t es ds fn h k (y ∷ ys) = ap₂ ◌&◌ (ap (eqb _) (h k)) (same_targets t es ds fn h (suc k) ys)

-- ---- a chain of edges, one at a time
pub target_none : {es : List Edge} (fn k : ℕ) → es ≡ [] → 0 ≡ target_for es fn k
unfolding target_for
target_none fn k e = rw e

target_here : {es ds : List Edge} {g p t : ℕ} (fn k : ℕ) → es ≡ record { functor = g; position = p; target = t } ∷ ds → g ≡ fn → p ≡ k → t ≡ target_for es fn k
unfolding target_for ◌&◌ choose
target_here {g = g} {p = p} fn k e a b = rw (e, eq-eqb g fn a, eq-eqb p k b)

target_position : {es ds : List Edge} {g p t : ℕ} (fn k : ℕ) → es ≡ record { functor = g; position = p; target = t } ∷ ds → g ≡ fn → p ≢ k
    → target_for ds fn k ≡ target_for es fn k
unfolding target_for ◌&◌ choose
target_position {g = g} {p = p} fn k e a b = rw (e, eq-eqb g fn a, ne_eqb p k b)

target_functor : {es ds : List Edge} {g p t : ℕ} (fn k : ℕ) → es ≡ record { functor = g; position = p; target = t } ∷ ds → g ≢ fn
    → target_for ds fn k ≡ target_for es fn k
unfolding target_for ◌&◌ choose
target_functor {g = g} fn k e a = rw (e, ne_eqb g fn a)

module _ (f : List ℕ) (i : ℕ) (F : Formed f) (s : Stands f edges i) (z : i ≡ 0 → ⊥) where
  -- the edge is another functor's
  pub functor_passed : (fn k : ℕ) {g w : ℕ} → g ≡ word f i edge_functor → g ≢ fn → w ≡ word f i next_word → target_for (edges_at f w) fn k ≡ target_for (edges_at f i) fn k
  functor_passed fn k e n h = rw h (target_functor fn k (edge_here F z s).view (λ q. n (e ∙ q)))

  -- it is for another position
  pub position_passed : (fn k : ℕ) {g p w : ℕ} → g ≡ word f i edge_functor → g ≡ fn → p ≡ word f i edge_position → p ≢ k → w ≡ word f i next_word
      → target_for (edges_at f w) fn k ≡ target_for (edges_at f i) fn k
  position_passed fn k e q j n h = rw h (target_position fn k (edge_here F z s).view (sym e ∙ q) (λ y. n (j ∙ y)))

  -- it is the one
  pub edge_found : (fn k : ℕ) {g p t : ℕ} → g ≡ word f i edge_functor → g ≡ fn → p ≡ word f i edge_position → p ≡ k → t ≡ word f i edge_target → t ≡ target_for (edges_at f i) fn k
  edge_found fn k e q j y h = h ∙ target_here fn k (edge_here F z s).view (sym e ∙ q) (sym j ∙ y)

-- ---- a zero at the end is no argument
onto_some : (x y : ℕ) (ys : List ℕ) → trim_onto x (y ∷ ys) ≡ x ∷ y ∷ ys
unfolding trim_onto
onto_some zero y ys = refl
onto_some (suc x) y ys = refl

onto_end : (x : ℕ) → x ≢ 0 → trim_onto x [] ≡ x ∷ []
unfolding trim_onto
onto_end zero n = absurd (n refl)
onto_end (suc x) n = refl

onto_none : {x : ℕ} → x ≡ 0 → trim_onto x [] ≡ []
unfolding trim_onto
onto_none e = rw e

module _ (a b c d : ℕ) where
  four_arguments : d ≢ 0 → arguments_of (four a b c d) ≡ a ∷ b ∷ c ∷ d ∷ []
  unfolding arguments_of four_words trimmed
  four_arguments n = rw (onto_end d n, onto_some c d [], onto_some b c (d ∷ []), onto_some a b (c ∷ d ∷ []))

  three_arguments : d ≡ 0 → c ≢ 0 → arguments_of (four a b c d) ≡ a ∷ b ∷ c ∷ []
  unfolding arguments_of four_words trimmed
  three_arguments e n = rw (onto_none e, onto_end c n, onto_some b c [], onto_some a b (c ∷ []))

  two_arguments : d ≡ 0 → c ≡ 0 → b ≢ 0 → arguments_of (four a b c d) ≡ a ∷ b ∷ []
  unfolding arguments_of four_words trimmed
  two_arguments e g n = rw (onto_none e, onto_none g, onto_end b n, onto_some a b [])

  one_argument : d ≡ 0 → c ≡ 0 → b ≡ 0 → a ≢ 0 → arguments_of (four a b c d) ≡ a ∷ []
  unfolding arguments_of four_words trimmed
  one_argument e g h n = rw (onto_none e, onto_none g, onto_none h, onto_end a n)

  no_argument : d ≡ 0 → c ≡ 0 → b ≡ 0 → a ≡ 0 → arguments_of (four a b c d) ≡ []
  unfolding arguments_of four_words trimmed
  no_argument e g h i = rw (onto_none e, onto_none g, onto_none h, onto_none i)

-- ---- how many there are, by the words that the code has read
module _ (f : List ℕ) (i : ℕ) where
  pub count_four : {d : ℕ} → d ≡ word f i (term_arguments + 3) → d ≢ 0 → arguments_here f i ≡ words_from f i term_arguments max_arity
  unfolding arguments_here words_from
  count_four e n = four_arguments _ _ _ _ (λ z. n (e ∙ z))

  pub count_three : {c d : ℕ} → d ≡ word f i (term_arguments + 3) → d ≡ 0 → c ≡ word f i (term_arguments + 2) → c ≢ 0
      → arguments_here f i ≡ words_from f i term_arguments 3
  unfolding arguments_here words_from
  count_three e z g n = three_arguments _ _ _ _ (sym e ∙ z) (λ y. n (g ∙ y))

  pub count_two : {b c d : ℕ} → d ≡ word f i (term_arguments + 3) → d ≡ 0 → c ≡ word f i (term_arguments + 2) → c ≡ 0 → b ≡ word f i (term_arguments + 1) → b ≢ 0
      → arguments_here f i ≡ words_from f i term_arguments 2
  unfolding arguments_here words_from
  count_two e z g y h n = two_arguments _ _ _ _ (sym e ∙ z) (sym g ∙ y) (λ x. n (h ∙ x))

  pub count_one : {a b c d : ℕ} → d ≡ word f i (term_arguments + 3) → d ≡ 0 → c ≡ word f i (term_arguments + 2) → c ≡ 0 → b ≡ word f i (term_arguments + 1)
      → b ≡ 0 → a ≡ word f i term_arguments → a ≢ 0
      → arguments_here f i ≡ words_from f i term_arguments 1
  unfolding arguments_here words_from
  count_one e z g y h x j n = one_argument _ _ _ _ (sym e ∙ z) (sym g ∙ y) (sym h ∙ x) (λ w. n (j ∙ w))

  pub count_none : {a b c d : ℕ} → d ≡ word f i (term_arguments + 3) → d ≡ 0 → c ≡ word f i (term_arguments + 2) → c ≡ 0 → b ≡ word f i (term_arguments + 1)
      → b ≡ 0 → a ≡ word f i term_arguments → a ≡ 0
      → arguments_here f i ≡ words_from f i term_arguments 0
  unfolding arguments_here words_from
  count_none e z g y h x j w = no_argument _ _ _ _ (sym e ∙ z) (sym g ∙ y) (sym h ∙ x) (sym j ∙ w)

-- ---- in turn: k of the n are done, and the rest decides
module _ (f t : List ℕ) (es : List Edge) (fn i n : ℕ) where
  unfoldable pub rest_in : ℕ → Bool
  rest_in k = all_in t es fn (k + 1) (words_from f i (term_arguments + k) (n - k))

  module _ {k : ℕ} (l : k < n) {y r u : ℕ} (e : y ≡ word f i (term_arguments + k)) (g : r ≡ home_in t y) (h : u ≡ target_for es fn (k + 1)) where
    rest_splits : rest_in k ≡ (eqb r u & rest_in (k + 1))
    unfolding rest_in all_in words_from
    rest_splits =
        let m : n - k ≡ suc (n - (k + 1)) = omega arith in
        let p : suc (k + 1) ≡ k + 1 + 1 = omega arith in
        let q : suc (term_arguments + k) ≡ term_arguments + (k + 1) = omega arith in
        rw (m, g, e, h, p, q) refl

    pub rest_stop : (r ≡ u → ⊥) → rest_in k ≡ false
    unfolding ◌&◌
    rest_stop z = rest_splits ∙ rw (ne_eqb r u z) refl

    pub rest_on : r ≡ u → rest_in (k + 1) ≡ rest_in k
    unfolding ◌&◌
    rest_on z = sym (rest_splits ∙ rw (eq-eqb r u z) refl)

  pub rest_end : {k : ℕ} → n ≤ k → rest_in k ≡ true
  unfolding rest_in all_in words_from
  rest_end {k} l = let m : n - k ≡ 0 = omega arith in rw m refl

  rest_whole : {k : ℕ} → k ≡ 0 → rest_in k ≡ all_in t es fn 1 (words_from f i term_arguments n)
  unfolding rest_in
  rest_whole {k} z = let m : n - k ≡ n = omega arith in rw (m, z) refl

-- .. which the edges from record r on serve as those from record es on do: the rest from k on decides the whole
module _ (f t : List ℕ) (es r i n : ℕ) {fn : ℕ} (e : fn ≡ word f i term_functor)
    (h : (k : ℕ) → target_for (edges_at f r) fn k ≡ target_for (edges_at f es) fn k) (g : arguments_here f i ≡ words_from f i term_arguments n) where
  terms_same : all_in t (edges_at f r) fn 1 (words_from f i term_arguments n) ≡ all_in t (edges_at f es) (word f i term_functor) 1 (arguments_here f i)
  terms_same =
      ap (all_in t (edges_at f r) fn 1) (sym g) ∙ same_targets t (edges_at f r) (edges_at f es) fn h 1 (arguments_here f i)
      ∙ ap (λ (m : ℕ). all_in t (edges_at f es) m 1 (arguments_here f i)) e

  pub terms_decided : (k : ℕ) {b : Bool} → rest_in f t (edges_at f r) fn i n k ≡ b → rest_in f t (edges_at f r) fn i n k ≡ rest_in f t (edges_at f r) fn i n 0
      → b ≡ all_in t (edges_at f es) (word f i term_functor) 1 (arguments_here f i)
  terms_decided k d w = sym d ∙ w ∙ rest_whole f t (edges_at f r) fn i n refl ∙ terms_same
