-- What the functions of the pass come to on each way through them, and the invariants of its loops.
use Prim.Native.Nat.{ℕ, ◌+◌, ◌-◌, ◌≤◌, ◌<◌}
use native.Mathlib.Omega.{arith}
use native.Mathlib.Numerals.{add-one}
use mathlib.Core.Bool.{Bool, true, false, ◌||◌}
use mathlib.Core.Logic.{inl, inr}
use Rattle.std.proofs.lemmas.Bool.Decides.{leb_tells}
use mathlib.Core.List.{List, ◌∷◌}
use mathlib.Core.Path.{◌≡◌, refl, sym, ap, ◌∙◌}
use borrow.Author.Tests.{eq-eqb, ne_eqb, lt-ltb, le-ltb}
use lib.Dec.{eqb, leb, ltb}
use lib.ListN.{length, get_or, replicate, length-replicate, get_or-replicate}
use Rattle.sets.specs.Tests.{◌&◌, ◌or◌, neg}
use Rattle.language.specs.Lists.{choose, all, up_from}
use Rattle.language.specs.File.{k_header, word, record_count}
use Rattle.language.specs.Format.{kind_word, try_condition, if_kind, call_kind, print_kind, try_kind, test_kind, max_records}
use Rattle.language.specs.Conditions.{conditions_ok}
use Rattle.language.specs.Answers.{program}
use Rattle.records.specs.Lists.{from_here, from_end}
use Rattle.chains.specs.Layout.{all_rows, header_kind_law}
use Rattle.chains.specs.Formed.{Formed, counted}
use Rattle.chains.specs.Shapes.{kind_number}
use Rattle.owners.specs.Handed.{hand_down, handed_up_to}
use Rattle.owners.specs.Handing.{handed_none, known, settled, up_to_length}
use Rattle.conditions.specs.Inside.{inside_by, insides, inside_at}
use Rattle.conditions.specs.Standing.{may_stand, conditions_records}
use Rattle.conditions.specs.Without.{any_condition}

-- ---- one record's kind
module _ (v n : ℕ) where
  pub bars : v ≡ 1 → may_stand true n ≡ false → false ≡ may_stand (eqb v 1) n
  bars e h = sym (rw (eq-eqb v 1 e) h)

  pub lets : v ≡ 1 → (n ≡ if_kind → ⊥) → (n ≡ call_kind → ⊥) → (n ≡ print_kind → ⊥) → (n ≡ try_kind → ⊥) → true ≡ may_stand (eqb v 1) n
  unfolding may_stand neg ◌or◌
  lets e a b c d = rw (eq-eqb v 1 e, ne_eqb n if_kind a, ne_eqb n call_kind b, ne_eqb n print_kind c, ne_eqb n try_kind d) refl

  pub outside : (v ≡ 1 → ⊥) → neg (eqb n test_kind) ≡ may_stand (eqb v 1) n
  unfolding may_stand
  outside e = rw (ne_eqb v 1 e) refl

-- ---- values handed down
neither : (b : Bool) (v : ℕ) → v ≡ choose (b & false) 1 v
unfolding choose ◌&◌
neither true v = refl
neither false v = refl

module _ (k i w own : ℕ) where
  pub mark_condition : k ≡ try_kind → w ≡ try_condition → 1 ≡ inside_by k i w own
  unfolding inside_by choose ◌&◌
  mark_condition e g = rw (eq-eqb k try_kind e, eq-eqb w try_condition g)

  pub mark_kind : (k ≡ try_kind → ⊥) → own ≡ inside_by k i w own
  unfolding inside_by choose ◌&◌
  mark_kind e = rw (ne_eqb k try_kind e)

  pub mark_word : (w ≡ try_condition → ⊥) → own ≡ inside_by k i w own
  unfolding inside_by
  mark_word e = rw (ne_eqb w try_condition e) (neither (eqb k try_kind) own)

-- ---- the loop that looks for a try or a test: b says that one of the first i records is
not_below : (k w : ℕ) → neg (leb k w) ≡ ltb w k
unfolding neg
not_below k w = elim (leb_tells k w) [ inl e ↦ rw (e.0, le-ltb w k e.1) refl | inr e ↦ rw (e.0, lt-ltb w k e.1) refl ]

found_too : (b : Bool) (k w : ℕ) (x : Bool) → (neg (b || leb k w) & x) ≡ (neg b & ltb w k & x)
unfolding neg ◌&◌
found_too true k w x = refl
found_too false k w x = rw (← not_below k w) refl

twice : (b : Bool) → b ≡ neg (neg b & true)
unfolding neg ◌&◌
twice true = refl
twice false = refl

module _ (f : List ℕ) where
  abbrev low : ℕ → Bool
  low i = ltb (word f i kind_word) try_kind

  pub record Looked (n i : ℕ) (b : Bool) : Type 0 where
    pub count : n ≡ record_count f
    pub most : i ≤ n
    pub rest : all low (up_from 0 (record_count f)) ≡ (neg b & all low (up_from i (n - i)))

  pub looked_first : {n : ℕ} → n ≡ record_count f → Looked n 0 false
  unfolding neg ◌&◌
  looked_first {n} e = let z : n - 0 ≡ n = omega arith in record { count = e; most = omega arith; rest = rw (z, e) refl }

  module _ {n i : ℕ} {b : Bool} (L : Looked n i b) where
    here : i < n → all low (up_from 0 (record_count f)) ≡ (neg b & low i & all low (up_from (i + 1) (n - (i + 1))))
    unfolding all
    here l = L.rest ∙ ap (λ xs. neg b & all low xs) (from_here n i l)

    pub looked_next : {w : ℕ} → i < n → w ≡ word f i kind_word → Looked n (i + 1) (b || leb try_kind w)
    looked_next {w} l e =
        record {
          count = L.count;
          most = omega arith;
          rest = here l ∙ ap (λ v. neg b & ltb v try_kind & all low (up_from (i + 1) (n - (i + 1)))) (sym e) ∙ sym (found_too b try_kind w _);
        }

    pub looked_last : n ≤ i → b ≡ any_condition f
    unfolding any_condition all
    looked_last l = twice b ∙ sym (ap neg (L.rest ∙ ap (λ xs. neg b & all low xs) (from_end n i l)))

-- ---- the pass: the first i records have handed down and stand where they may
module _ (f : List ℕ) where
  abbrev may : ℕ → Bool
  may i = may_stand (inside_at f i) (word f i kind_word)

  pub record Passed (n i : ℕ) (t : List ℕ) : Type 0 where
    pub count : n ≡ record_count f
    pub most : i ≤ n
    pub table : t ≡ handed_up_to inside_by f i (replicate max_records 0)
    pub rest : conditions_ok (program f) ≡ all may (up_from i (n - i))

module _ {f : List ℕ} (F : Formed f) where
  outside_header : may f 0 ≡ true
  unfolding inside_at insides may_stand neg all_rows
  outside_header =
      rw (handed_none inside_by f (replicate max_records 0), kind_number (word f 0 kind_word) k_header (header_kind_law f F.header F.form) (λ z. known F 0 (counted F).some (header_kind_law f F.header F.form ∙ z)))
      refl

  pub passed_first : {n : ℕ} {t : List ℕ} → n ≡ record_count f → t ≡ replicate max_records 0 → Passed f n 0 t
  unfolding handed_up_to all ◌&◌
  passed_first {n} {t} e b =
      let c = (counted F).some in
      let h : up_from 0 (n - 0) ≡ 0 ∷ up_from 1 (record_count f - 1) = ap (λ m. up_from 0 (m - 0)) e ∙ from_here (record_count f) 0 c in
      record { count = e; most = omega arith; table = b; rest = conditions_records F ∙ sym (ap (all (may f)) h ∙ rw outside_header refl) }

  module _ {n i : ℕ} {t : List ℕ} (P : Passed f n i t) where
    -- what the pass finds at record i
    own : i < n → get_or t i 0 ≡ get_or (insides f) i 0
    unfolding insides
    own l =
        ap (λ u. get_or u i 0) P.table
        ∙ sym (settled F inside_by (replicate max_records 0) (omega (arith, length-replicate {A = ℕ} max_records 0, (counted F).most)) (get_or-replicate {A = ℕ} max_records 0 0 0 (omega arith)) i (omega (arith, P.count)))

    tested : {b : Bool} {v w : ℕ} → i < n → v ≡ get_or t i 0 → w ≡ word f i kind_word → b ≡ may_stand (eqb v 1) w → may f i ≡ b
    unfolding inside_at
    tested l g e h = sym (h ∙ rw (g, own l, e) refl)

    here_first : i < n → conditions_ok (program f) ≡ (may f i & all (may f) (up_from (i + 1) (n - (i + 1))))
    unfolding all
    here_first l = P.rest ∙ ap (all (may f)) (from_here n i l)

    pub passed_stop : {b : Bool} {v w : ℕ} → i < n → v ≡ get_or t i 0 → w ≡ word f i kind_word → b ≡ may_stand (eqb v 1) w → b ≡ false → false ≡ conditions_ok (program f)
    unfolding ◌&◌
    passed_stop l g e h z = sym (here_first l ∙ rw (tested l g e h ∙ z) refl)

    pub passed_next : {b : Bool} {v w : ℕ} {u : List ℕ} → i < n → v ≡ get_or t i 0 → w ≡ word f i kind_word → b ≡ may_stand (eqb v 1) w → b ≡ true
        → u ≡ hand_down inside_by f i t → Passed f n (i + 1) u
    unfolding ◌&◌ handed_up_to
    passed_next l g e h z d =
        record { count = P.count; most = omega arith; table = d ∙ rw (add-one i, P.table) refl; rest = here_first l ∙ rw (tested l g e h ∙ z) refl }

    pub passed_length : length t ≡ max_records
    passed_length = ap length P.table ∙ up_to_length inside_by f i (replicate max_records 0) ∙ length-replicate {A = ℕ} max_records 0

    pub passed_last : n ≤ i → true ≡ conditions_ok (program f)
    unfolding all
    passed_last l = sym (P.rest ∙ ap (all (may f)) (from_end n i l))
