-- The invariants of number 2's loops: what is still ahead gives what is asked of the whole. Assumes nothing.
use Prim.Native.Nat.{ℕ, suc, ◌+◌, ◌-◌, ◌/◌, ◌%◌, ◌≤◌, ◌<◌}
use native.Mathlib.Omega.{arith}
use mathlib.Core.Path.{◌≡◌, refl, sym, ap, ◌∙◌}
use mathlib.Core.Bool.{Bool, true, false, ◌&&◌, false≢true}
use mathlib.Core.List.{List, ◌∷◌, []}
use lib.Dec.{eqb}
use lib.ListN.{length, get_or, replicate}
use Rattle.sets.specs.Tests.{◌&◌}
use Rattle.language.specs.Lists.{all, up_from}
use Rattle.language.specs.Format.{max_records, kind_word}
use Rattle.language.specs.File.{Use, number, unused, first, row, kind_of, kind_at, record_ok, leading, references, references_of, once_in, form_ok}
use Rattle.records.specs.Lists.{all_same, from_here, from_end, tally}
use Rattle.records.proofs.ListsLaws.{tally_append, tally_once}
use Rattle.records.specs.Table.{digit, pack, packed, uses}
use Rattle.records.proofs.TableLaws.{seven, pack_first, pack_rest}
use Rattle.records.specs.Form.{Tallied, UseTallied, use_ok, refers, leads, refers_ok, spare_ok, references_by_uses}
use Rattle.records.proofs.FormLaws.{leading_cons, record_apart}
use Rattle.records.specs.Sizes.{digit_end, record_words}

and_first : {a b : Bool} → a ≡ true → (a & b) ≡ b
unfolding ◌&◌
and_first e = rw e

and_none : {a : Bool} (b : Bool) → a ≡ false → (a & b) ≡ false
unfolding ◌&◌
and_none b e = rw e

and_both : (a b c : Bool) → (a & (b & c)) ≡ ((a && b) & c)
unfolding ◌&◌
and_both true b c = refl
and_both false b c = refl

and_last : (a : Bool) → (a & true) ≡ a
unfolding ◌&◌
and_last true = refl
and_last false = refl

-- ---- the words of a record, from word k on
module _ (W : ℕ → ℕ → ℕ) (n i : ℕ) where
  pub record Words (seen₀ seen : List ℕ) (digits k : ℕ) : Type 0 where
    pub ahead : List Use
    pub many : k + length ahead ≡ record_words
    pub packs : digits ≡ pack ahead
    pub same : length seen ≡ length seen₀
    pub says : refers_ok W n i ≡ refers W n i k ahead
    pub counts : tally seen (leading W n i k ahead) ≡ tally seen₀ (references W n i)

  pub words_first : (seen : List ℕ) {w p : ℕ} → w ≡ W i kind_word → p ≡ packed (kind_of w) → Words seen seen (p / digit_end) 1
  unfolding packed kind_at refers_ok
  words_first seen {w = w} e h =
      record {
        ahead = uses (row (kind_at W n i));
        many = omega (arith, seven (kind_at W n i));
        packs = ap (λ x. x / digit_end) (h ∙ ap (λ x. packed (kind_of x)) e) ∙ pack_rest _ _;
        same = refl;
        says = refl;
        counts = ap (tally seen) (sym (references_by_uses W n i));
      }

  -- what word k says of itself
  abbrev pub Said : ℕ → ℕ → Bool → List ℕ → List ℕ → Type 0
  Said k d b seen after = (u : Use) → d ≡ digit u → UseTallied W n i k u b seen after

  module _ {seen₀ seen after : List ℕ} {digits k : ℕ} {b : Bool} (h : Words seen₀ seen digits k) (l : k < record_words)
      (s : Said k (digits % digit_end) b seen after) where
    pub words_next : b ≡ true → length after ≡ length seen → Words seen₀ after (digits / digit_end) (k + 1)
    unfolding pack refers
    words_next t m = go h.ahead h.many h.packs h.says h.counts
      where
        go : (us : List Use) → k + length us ≡ record_words → digits ≡ pack us → refers_ok W n i ≡ refers W n i k us
            → tally seen (leading W n i k us) ≡ tally seen₀ (references W n i) → Words seen₀ after (digits / digit_end) (k + 1)
        go [] e p q r = absurd (omega arith)
        go (u ∷ us) e p q r =
            let g : suc k ≡ k + 1 = omega arith in
            let w = s u (ap (λ x. x % digit_end) p ∙ pack_first u us) in
            record {
              ahead = us;
              many = omega arith;
              packs = ap (λ x. x / digit_end) p ∙ pack_rest u us;
              same = m ∙ h.same;
              says = q ∙ and_first (sym w.says ∙ t) ∙ ap (λ j. refers W n i j us) g;
              counts =
                  ap (λ a. tally a (leading W n i (k + 1) us)) (w.counts t) ∙ ap (λ j. tally (tally seen (leads W n i k u)) (leading W n i j us)) (sym g)
                  ∙ sym (tally_append seen (leads W n i k u) (leading W n i (suc k) us)) ∙ ap (tally seen) (sym (leading_cons W n i k u us)) ∙ r;
            }

    pub words_refused : b ≡ false → Tallied false (refers_ok W n i) (references W n i) seen₀ after
    unfolding pack refers
    words_refused t = record { says = go h.ahead h.many h.packs h.says; counts = λ e. absurd (false≢true e) }
      where
        go : (us : List Use) → k + length us ≡ record_words → digits ≡ pack us → refers_ok W n i ≡ refers W n i k us → false ≡ refers_ok W n i
        go [] e p q = absurd (omega arith)
        go (u ∷ us) e p q =
            let w = s u (ap (λ x. x % digit_end) p ∙ pack_first u us) in
            sym (q ∙ and_none _ (sym w.says ∙ t))

  -- where no digit is left, no word leads anywhere
  none_left : (k : ℕ) (us : List Use) → pack us ≡ 0 → (refers W n i k us ≡ true) × (leading W n i k us ≡ [])
  unfolding pack digit refers use_ok leading ◌&◌
  none_left k [] e = (refl, refl)
  none_left k (number ∷ us) e = none_left (suc k) us (omega arith)
  none_left k (unused ∷ us) e = none_left (suc k) us (omega arith)
  none_left k (first c ∷ us) e = absurd (omega arith)

  pub words_none : {seen₀ seen : List ℕ} {digits k : ℕ} → Words seen₀ seen digits k → digits ≡ 0 → Tallied true (refers_ok W n i) (references W n i) seen₀ seen
  unfolding tally
  words_none {seen = seen} {k = k} h z =
      let e = none_left k h.ahead (sym h.packs ∙ z) in
      record { says = sym (h.says ∙ e.0); counts = λ _. ap (tally seen) (sym e.1) ∙ h.counts }

  pub words_last : {seen₀ seen : List ℕ} {digits k : ℕ} → Words seen₀ seen digits k → record_words ≤ k → Tallied true (refers_ok W n i) (references W n i) seen₀ seen
  unfolding tally refers leading
  words_last {seen₀} {seen} {k = k} h z = go h.ahead h.many h.says h.counts
    where
      go : (us : List Use) → k + length us ≡ record_words → refers_ok W n i ≡ refers W n i k us
          → tally seen (leading W n i k us) ≡ tally seen₀ (references W n i) → Tallied true (refers_ok W n i) (references W n i) seen₀ seen
      go [] e q r = record { says = sym q; counts = λ _. r }
      go (u ∷ us) e q r = absurd (omega arith)

-- ---- a record: its unused words, then its references
module _ (W : ℕ → ℕ → ℕ) (n i : ℕ) {a : Bool} (p : a ≡ spare_ok W i) where
  pub record_spare : (seen : List ℕ) → a ≡ false → Tallied false (record_ok W n i) (references W n i) seen seen
  record_spare seen t = record { says = sym (record_apart W n i ∙ and_none _ (sym p ∙ t)); counts = λ e. absurd (false≢true e) }

  pub record_refers : {b : Bool} {seen after : List ℕ} → a ≡ true → Tallied b (refers_ok W n i) (references W n i) seen after
      → Tallied b (record_ok W n i) (references W n i) seen after
  record_refers t s = record { says = s.says ∙ sym (record_apart W n i ∙ and_first (sym p ∙ t)); counts = s.counts }

-- ---- the records from i on
module _ (W : ℕ → ℕ → ℕ) (n : ℕ) where
  pub record Records (seen₀ seen : List ℕ) (i : ℕ) : Type 0 where
    pub same : length seen ≡ length seen₀
    pub says : all (record_ok W n) (up_from 0 n) ≡ all (record_ok W n) (up_from i (n - i))
    pub counts : tally seen (references_of W n (up_from i (n - i))) ≡ tally seen₀ (references_of W n (up_from 0 n))

  -- every record is in order, and all that they refer to is counted
  abbrev pub Referred : Bool → List ℕ → List ℕ → Type 0
  Referred b seen₀ seen = Tallied b (all (record_ok W n) (up_from 0 n)) (references_of W n (up_from 0 n)) seen₀ seen

  pub records_first : (seen : List ℕ) → Records seen seen 0
  records_first seen =
      let e : n ≡ n - 0 = omega arith in
      record {
        same = refl;
        says = ap (λ m. all (record_ok W n) (up_from 0 m)) e;
        counts = ap (λ m. tally seen (references_of W n (up_from 0 m))) (sym e);
      }

  module _ {seen₀ seen after : List ℕ} {i : ℕ} {b : Bool} (h : Records seen₀ seen i) (l : i < n) (s : Tallied b (record_ok W n i) (references W n i) seen after) where
    pub records_next : b ≡ true → length after ≡ length seen → Records seen₀ after (i + 1)
    unfolding all references_of
    records_next t m =
        record {
          same = m ∙ h.same;
          says = h.says ∙ ap (all (record_ok W n)) (from_here n i l) ∙ and_first (sym s.says ∙ t);
          counts =
              ap (λ a. tally a (references_of W n (up_from (i + 1) (n - (i + 1))))) (s.counts t)
              ∙ sym (tally_append seen (references W n i) (references_of W n (up_from (i + 1) (n - (i + 1)))))
              ∙ ap (λ js. tally seen (references_of W n js)) (sym (from_here n i l)) ∙ h.counts;
        }

    pub records_refused : b ≡ false → Referred false seen₀ after
    unfolding all
    records_refused t =
        record {
          says = sym (h.says ∙ ap (all (record_ok W n)) (from_here n i l) ∙ and_none _ (sym s.says ∙ t));
          counts = λ e. absurd (false≢true e);
        }

  pub records_last : {seen₀ seen : List ℕ} {i : ℕ} → Records seen₀ seen i → n ≤ i → Referred true seen₀ seen
  unfolding all references_of tally
  records_last {seen = seen} {i = i} h l =
      record {
        says = sym (h.says ∙ ap (all (record_ok W n)) (from_end n i l));
        counts = λ _. ap (λ js. tally seen (references_of W n js)) (sym (from_end n i l)) ∙ h.counts;
      }

-- ---- the counts from j on
module _ (seen : List ℕ) (n : ℕ) where
  abbrev pub one_at : ℕ → Bool
  one_at j = eqb (get_or seen j 0) 1

  -- those below j, as `so` says, and those from j on decide
  pub record Once (so : Bool) (j : ℕ) : Type 0 where
    pub says : all one_at (up_from 1 (n - 1)) ≡ (so & all one_at (up_from j (n - j)))

  pub once_first : Once true 1
  unfolding ◌&◌
  once_first = record { says = refl }

  pub once_next : {so : Bool} {j : ℕ} → Once so j → j < n → Once (so && eqb (get_or seen j 0) 1) (j + 1)
  unfolding all
  once_next {so} {j} h l = record { says = h.says ∙ ap (λ (x : List ℕ). so & all one_at x) (from_here n j l) ∙ and_both so (one_at j) _ }

  pub once_last : {so : Bool} {j : ℕ} → Once so j → n ≤ j → so ≡ all one_at (up_from 1 (n - 1))
  unfolding all
  once_last {so} {j} h l = sym (h.says ∙ ap (λ (x : List ℕ). so & all one_at x) (from_end n j l) ∙ and_last so)

-- ---- number 2
module _ (W : ℕ → ℕ → ℕ) (n : ℕ) {b : Bool} {seen₀ seen : List ℕ} (s : Referred W n b seen₀ seen) where
  pub form_refused : b ≡ false → false ≡ form_ok W n
  unfolding form_ok
  form_refused t = sym (and_none _ (sym s.says ∙ t))

  pub form_counted : b ≡ true → seen₀ ≡ replicate max_records 0 → n ≤ max_records → all (λ j. eqb (get_or seen j 0) 1) (up_from 1 (n - 1)) ≡ form_ok W n
  unfolding form_ok once_in
  form_counted t z l =
      all_same (n - 1) 1 _ _
      (λ j g m. ap (λ x. eqb (get_or x j 0) 1) (s.counts t ∙ ap (λ x. tally x (references_of W n (up_from 0 n))) z) ∙ tally_once max_records j _ g (omega arith))
      ∙ sym (and_first (sym s.says ∙ t))
