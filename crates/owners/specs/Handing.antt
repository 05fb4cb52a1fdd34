-- THE LAW OF PASSES: in a file that passes numbers 1 and 2, what a word of record j leads to has the value that the attribute gives by record j's (`handed_law`, and by the
-- record's kind `handed_by`). Each record is referred to once, and references go up.
use Prim.Native.Nat.{ℕ, zero, suc, ◌+◌, ◌-◌, ◌≤◌, ◌<◌}
use native.Mathlib.Omega.{arith}
use Rattle.std.proofs.Math.Decide.{dec_lt, ℕ_discrete}
use Rattle.std.specs.Prelude.{true, ◌≡◌, length}
use Rattle.std.proofs.Math.Bool.{false≢true}
use Rattle.std.proofs.Math.Logic.{inl, inr}
use Rattle.std.proofs.Math.Path.{refl, sym, ap}
use Rattle.std.proofs.Common.{◌∙◌}
use mathlib.Core.List.{List, [], ◌∷◌, ◌++◌, map}
use Rattle.std.proofs.Math.ListN.{get_or, set, length-set, get_or-append, get_or-eq_default}
use Rattle.std.proofs.Math.Seq.{get_or-set_same, get_or-set_other, set-append_left, set_out}
use Rattle.sets.specs.Members.{in_list, nil_in, cons_here, cons_later, cons_in}
use Rattle.language.specs.Lists.{count}
use Rattle.language.specs.File.{Kind, k_none, Use, number, unused, first, row, kind_of, kind_at, word, record_count, leading, references}
use Rattle.language.specs.Format.{kind_word}
use Rattle.laws.specs.Counts.{hit, hit_same, hit_other, count_none, count_cons}
use Rattle.chains.specs.Layout.{all_rows, real, known_chain, header_kind_law}
use Rattle.chains.specs.Formed.{Formed, counted}
use Rattle.chains.specs.Shapes.{kind_number}
use Rattle.owners.specs.Referred.{times, refers_up, times_refers, times_one, times_other}
use Rattle.owners.specs.Handed.{leading_words, part_words, reference_words, Attribute, hand_to, words_of, given, hand_down, handed_up_to, handed}

-- ---- what holds of every word of a table, by its place, still does after a store of a word of which it holds
module _ (Q : ℕ → ℕ → Type 0) where
  abbrev pub Every : List ℕ → Type 0
  Every t = (p : ℕ) → Q p (get_or t p 0)

  pub set_keeps : (t : List ℕ) (q v : ℕ) → Q q v → Every t → Every (set t q v)
  set_keeps t q v k h p = elim (ℕ_discrete p q) [
    | yes e ↦ rw e (at_place (dec_lt q (length t)))
    | no ne ↦ rw (get_or-set_other t q p v 0 ne) (h p)
  ]
    where
      at_place : Dec (q < length t) → Q q (get_or (set t q v) q 0)
      at_place (yes l) = rw (get_or-set_same t q v 0 l) k
      at_place (no l) = rw (set_out t q v (omega (arith, l))) (h q)

-- ---- values handed to the places that words ks name
pub count_in : (w : ℕ → ℕ) (ks : List ℕ) (k : ℕ) → in_list k ks ≡ true → 0 < count (w k) (map w ks)
count_in w [] k i = absurd (nil_in k i)
count_in w (l ∷ ks) k i = elim (cons_in k l ks i) [
  | inl e ↦ omega (arith, count_cons (w k) (w l) (map w ks), ap (λ x. hit (w x) (w k)) e, hit_same (w k))
  | inr h ↦ omega (arith, count_cons (w k) (w l) (map w ks), count_in w ks k h)
]

pub to_same : (g h w : ℕ → ℕ) → ((k : ℕ) → g k ≡ h k) → (ks t : List ℕ) → hand_to g w ks t ≡ hand_to h w ks t
unfolding hand_to
to_same g h w e [] t = refl
to_same g h w e (k ∷ ks) t = ap (λ v. hand_to g w ks (set t (w k) v)) (e k) ∙ to_same g h w e ks (set t (w k) (h k))

module _ (g w : ℕ → ℕ) where
  pub to_length : (ks t : List ℕ) → length (hand_to g w ks t) ≡ length t
  unfolding hand_to
  to_length [] t = refl
  to_length (k ∷ ks) t = to_length ks (set t (w k) (g k)) ∙ length-set t (w k) (g k)

  to_other : (ks t : List ℕ) (i : ℕ) → count i (map w ks) ≡ 0 → get_or (hand_to g w ks t) i 0 ≡ get_or t i 0
  unfolding hand_to
  to_other [] t i h = refl
  to_other (k ∷ ks) t i h =
      to_other ks (set t (w k) (g k)) i (omega (arith, count_cons i (w k) (map w ks)))
      ∙ get_or-set_other t (w k) i (g k) 0 (λ e. omega (arith, count_cons i (w k) (map w ks), ap (hit (w k)) e, hit_same (w k)))

  to_at : (ks t : List ℕ) (k : ℕ) → in_list k ks ≡ true → w k < length t → count (w k) (map w ks) ≤ 1 → get_or (hand_to g w ks t) (w k) 0 ≡ g k
  unfolding hand_to
  to_at [] t k i l h = absurd (nil_in k i)
  to_at (j ∷ ks) t k i l h = elim (cons_in k j ks i) [
    | inl e ↦ first_at (sym e)
    | inr m ↦ to_at ks (set t (w j) (g j)) k m (omega (arith, length-set t (w j) (g j))) (omega (arith, count_cons (w k) (w j) (map w ks)))
  ]
    where
      first_at : k ≡ j → get_or (hand_to g w ks (set t (w j) (g j))) (w k) 0 ≡ g k
      first_at e =
          rw e (to_other ks (set t (w j) (g j)) (w j) (omega (arith, rw e at h, count_cons (w j) (w j) (map w ks), hit_same (w j)))
          ∙ get_or-set_same t (w j) (g j) 0 (rw e at l))

  to_append : (ks t r : List ℕ) → ((k : ℕ) → in_list k ks ≡ true → w k < length t) → hand_to g w ks (t ++ r) ≡ hand_to g w ks t ++ r
  unfolding hand_to
  to_append [] t r h = refl
  to_append (k ∷ ks) t r h =
      ap (hand_to g w ks) (set-append_left t r (w k) (g k) (h k (cons_here k k ks refl)))
      ∙ to_append ks (set t (w k) (g k)) r (λ j i. omega (arith, length-set t (w k) (g k), h j (cons_later j k ks i)))

  to_keeps : (Q : ℕ → ℕ → Type 0) (ks t : List ℕ) → ((k : ℕ) → in_list k ks ≡ true → Q (w k) (g k)) → Every Q t → Every Q (hand_to g w ks t)
  unfolding hand_to
  to_keeps Q [] t h e = e
  to_keeps Q (k ∷ ks) t h e =
      to_keeps Q ks (set t (w k) (g k)) (λ j i. h j (cons_later j k ks i)) (set_keeps Q t (w k) (g k) (h k (cons_here k k ks refl)) e)

-- ---- a record's references are what its words ks name
words_leading : (W : ℕ → ℕ → ℕ) (n j k : ℕ) (us : List Use) → leading W n j k us ≡ map (W j) (leading_words k us)
unfolding leading leading_words
words_leading W n j k [] = refl
words_leading W n j k (number ∷ us) = words_leading W n j (suc k) us
words_leading W n j k (unused ∷ us) = words_leading W n j (suc k) us
words_leading W n j k (first c ∷ us) = ap (λ xs. W j k ∷ xs) (words_leading W n j (suc k) us)

times_words : (f : List ℕ) (j i : ℕ) → times f j i ≡ count i (map (word f j) (words_of f j))
unfolding times references words_of reference_words part_words kind_at
times_words f j i = ap (λ xs. count i (word f j 1 ∷ xs)) (words_leading (word f) (record_count f) j 2 (row (kind_of (word f j kind_word))).words)

-- ---- the pass
module _ (A : Attribute) (f : List ℕ) where
  down_length : (j : ℕ) (t : List ℕ) → length (hand_down A f j t) ≡ length t
  unfolding hand_down
  down_length j t = to_length (given A f j (get_or t j 0)) (word f j) (words_of f j) t

  pub up_to_length : (m : ℕ) (t : List ℕ) → length (handed_up_to A f m t) ≡ length t
  unfolding handed_up_to
  up_to_length zero t = refl
  up_to_length (suc m) t = down_length m (handed_up_to A f m t) ∙ up_to_length m t

  pub handed_length : (t : List ℕ) → length (handed A f t) ≡ length t
  unfolding handed
  handed_length t = length-set (handed_up_to A f (record_count f) t) 0 0 ∙ up_to_length (record_count f) t

  -- the header has the value 0
  pub handed_none : (t : List ℕ) → get_or (handed A f t) 0 0 ≡ 0
  unfolding handed
  handed_none t = elim (dec_lt 0 (length (handed_up_to A f (record_count f) t))) [
    | yes l ↦ get_or-set_same (handed_up_to A f (record_count f) t) 0 0 0 l
    | no l ↦ get_or-eq_default (set (handed_up_to A f (record_count f) t) 0 0) 0 {n = 0} (omega (arith, length-set (handed_up_to A f (record_count f) t) 0 0))
  ]

  down_other : (j i : ℕ) (t : List ℕ) → times f j i ≡ 0 → get_or (hand_down A f j t) i 0 ≡ get_or t i 0
  unfolding hand_down
  down_other j i t h = to_other (given A f j (get_or t j 0)) (word f j) (words_of f j) t i (sym (times_words f j i) ∙ h)

  -- the value of a record to which the m records from j on do not refer stays
  up_to_stays : (m j i : ℕ) (t : List ℕ) → ((l : ℕ) → j ≤ l → l < m + j → times f l i ≡ 0) → get_or (handed_up_to A f (m + j) t) i 0 ≡ get_or (handed_up_to A f j t) i 0
  unfolding handed_up_to
  up_to_stays zero j i t h = let z : 0 + j ≡ j = omega arith in rw z
  up_to_stays (suc m) j i t h =
      let z : suc m + j ≡ suc (m + j) = omega arith in
      rw z (down_other (m + j) i (handed_up_to A f (m + j) t) (h (m + j) (omega arith) (omega arith)) ∙ up_to_stays m j i t (λ l a b. h l a (omega arith)))

  stays : (j i : ℕ) (t : List ℕ) → 0 < i → j ≤ record_count f → ((l : ℕ) → j ≤ l → l < record_count f → times f l i ≡ 0)
      → get_or (handed A f t) i 0 ≡ get_or (handed_up_to A f j t) i 0
  unfolding handed
  stays j i t p q h =
      let z : record_count f ≡ (record_count f - j) + j = omega arith in
      get_or-set_other (handed_up_to A f (record_count f) t) 0 i 0 0 (λ e. omega arith)
      ∙ ap (λ m. get_or (handed_up_to A f m t) i 0) z ∙ up_to_stays (record_count f - j) j i t (λ l a b. h l a (omega arith))

module _ {f : List ℕ} (F : Formed f) where
  -- every record is of a kind that the table lists
  pub known : (j : ℕ) → j < record_count f → kind_of (word f j kind_word) ≡ k_none → ⊥
  unfolding all_rows real
  known zero q e = let h = header_kind_law f F.header F.form in false≢true cc
  known (suc j) q e =
      false≢true (ap (λ (k : Kind). real (row k).chain) (sym e) ∙ known_chain (word f) (record_count f) F.form (header_kind_law f F.header F.form) (suc j) (omega arith) q)

  not_back : (l i : ℕ) → i ≤ l → l < record_count f → 0 < i → times f l i ≡ 0
  not_back l i o q p =
      elim (dec_lt 0 (times f l i)) [
        | yes y ↦ absurd (omega (arith, (refers_up F p (times_refers l i q y).2).order))
        | no y ↦ omega arith
      ]

  module _ (j : ℕ) (q : j < record_count f) (k : ℕ) (i : in_list k (words_of f j) ≡ true) where
    refers_by : 0 < times f j (word f j k)
    refers_by = omega (arith, times_words f j (word f j k), count_in (word f j) (words_of f j) k i)

    -- a word leads to a record of the file, or to none
    pub word_below : word f j k < record_count f
    word_below =
        elim (dec_lt 0 (word f j k)) [
          | yes p ↦ (refers_up F p (times_refers j (word f j k) q refers_by).2).below
          | no p ↦ omega (arith, (counted F).some)
        ]

  module _ (A : Attribute) (t : List ℕ) (long : record_count f ≤ length t) (none : get_or t 0 0 ≡ 0) where
    abbrev value : ℕ → ℕ
    value i = get_or (handed A f t) i 0

    -- a record has its value when the pass comes to it
    pub settled : (i : ℕ) → i < record_count f → value i ≡ get_or (handed_up_to A f i t) i 0
    unfolding handed_up_to
    settled zero q = handed_none A f t ∙ sym none
    settled (suc i) q = stays A f (suc i) (suc i) t (omega arith) (omega arith) (λ l a b. not_back l (suc i) a b (omega arith))

    pub handed_law : (j : ℕ) → j < record_count f → (k : ℕ) → in_list k (words_of f j) ≡ true → (word f j k ≡ 0 → ⊥) → value (word f j k) ≡ A (word f j kind_word) j k (value j)
    unfolding handed_up_to hand_down given
    handed_law j q k i z =
        let p : 0 < word f j k = omega (arith, z) in
        let b = word_below j q k i in
        let h = refers_by j q k i in
        let u = handed_up_to A f j t in
        stays A f (suc j) (word f j k) t p (omega arith) (λ l a c. times_other F j l (word f j k) p b q c (λ e. omega arith) h)
        ∙ to_at (given A f j (get_or u j 0)) (word f j) (words_of f j) u k i (omega (arith, up_to_length A f j t))
        (omega (arith, times_words f j (word f j k), times_one F j (word f j k) p b q))
        ∙ ap (A (word f j kind_word) j k) (sym (settled j q))

    -- .. by the record's kind
    pub handed_by : (K : Kind) (j : ℕ) → j < record_count f → kind_of (word f j kind_word) ≡ K → (k : ℕ) → in_list k (reference_words K) ≡ true
        → (word f j k ≡ 0 → ⊥) → value (word f j k) ≡ A (row K).kind j k (value j)
    unfolding words_of
    handed_by K j q e k i z =
        handed_law j q k (rw e i) z
        ∙ ap (λ n. A n j k (value j)) (kind_number (word f j kind_word) K e (λ d. known j q (e ∙ d)))

  -- ---- what every value is after m records, where the attribute keeps it so
  module _ (A : Attribute) (Q : ℕ → ℕ → ℕ → Type 0) (more : (m p v : ℕ) → Q m p v → Q (suc m) p v)
      (keeps : (m : ℕ) → m < record_count f → (v : ℕ) → Q m m v → (k : ℕ) → in_list k (words_of f m) ≡ true → Q (suc m) (word f m k) (A (word f m kind_word) m k v)) where
    pub up_to_keeps : (m : ℕ) → m ≤ record_count f → (t : List ℕ) → Every (Q 0) t → Every (Q m) (handed_up_to A f m t)
    unfolding handed_up_to hand_down given
    up_to_keeps zero l t e = e
    up_to_keeps (suc m) l t e =
        let u = handed_up_to A f m t in
        let h = up_to_keeps m (omega arith) t e in
        to_keeps (given A f m (get_or u m 0)) (word f m) (Q (suc m)) (words_of f m) u (λ k i. keeps m (omega arith) (get_or u m 0) (h m) k i) (λ p. more m p _ (h p))

    pub handed_keeps : (t : List ℕ) → Q (record_count f) 0 0 → Every (Q 0) t → Every (Q (record_count f)) (handed A f t)
    unfolding handed
    handed_keeps t z e = set_keeps (Q (record_count f)) (handed_up_to A f (record_count f) t) 0 0 z (up_to_keeps (record_count f) (omega arith) t e)

  -- ---- places behind those of the records stay as they are
  module _ (A : Attribute) (t r : List ℕ) (long : record_count f ≤ length t) where
    pub up_to_append : (m : ℕ) → m ≤ record_count f → handed_up_to A f m (t ++ r) ≡ handed_up_to A f m t ++ r
    unfolding handed_up_to hand_down
    up_to_append zero l = refl
    up_to_append (suc m) l =
        let u = handed_up_to A f m t in
        let s = up_to_length A f m t in
        ap (hand_down A f m) (up_to_append m (omega arith))
        ∙ rw (get_or-append u r 0 m (omega arith)) (to_append (given A f m (get_or u m 0)) (word f m) (words_of f m) u r (λ k i. omega (arith, word_below m (omega arith) k i)))

    pub handed_append : handed A f (t ++ r) ≡ handed A f t ++ r
    unfolding handed
    handed_append =
        ap (λ (u : List ℕ). set u 0 0) (up_to_append (record_count f) (omega arith))
        ∙ set-append_left (handed_up_to A f (record_count f) t) r 0 0 (omega (arith, up_to_length A f (record_count f) t, (counted F).some))
