-- The numbers, in chain order, of the records that have a word: of the variables of a mode, of the regions of a class.
use Rattle.std.specs.Prelude.{ℕ, suc, ◌+◌, ◌≤◌, ◌<◌, ◌≡◌, refl, List, [], ◌∷◌, eqb}
use Rattle.std.proofs.Common.{arith, add-one, sym, ◌∙◌, eq-eqb, ne_eqb}
use Rattle.sets.specs.Sets.{empty_set, single, ◌∪◌}
use Rattle.sets.specs.SetLaws.{union_empty, empty_union, union_assoc}
use Rattle.sets.specs.Members.{set_of, cons_if}
use Rattle.sets.specs.declared.Set.{Set}
use Rattle.language.specs.File.{word, record_count}
use Rattle.language.specs.Format.{max_records, next_word}
use Rattle.chains.specs.Fields.{field_of, field_some}
use Rattle.chains.specs.Formed.{Formed, ahead, ahead_below}
use Rattle.chains.specs.Records.{chain_records, records_none, records_step, next_onward}

-- the numbers from n on, one for each of the records js, where word k is v
unfoldable pub numbered : List ℕ → ℕ → ℕ → ℕ → List ℕ → List ℕ
numbered f k v n [] = []
numbered f k v n (j ∷ js) = cons_if (eqb (field_of f j k) v) n (numbered f k v (suc n) js)

-- .. of the chain at record i
abbrev pub numbers_with : List ℕ → ℕ → ℕ → ℕ → List ℕ
numbers_with f i k v = numbered f k v 1 (chain_records f i)

-- ---- the loop's laws: what is found and what is left make the whole
pub record Numbering (f : List ℕ) (start k v : ℕ) (found : Set) (i n : ℕ) : Type 0 where
  pub below : i < record_count f
  pub few : n + ahead f i ≤ max_records
  pub whole : found ∪ set_of (numbered f k v n (chain_records f i)) ≡ set_of (numbers_with f start k v)

pub numbering_first : {f : List ℕ} {start k v : ℕ} → Formed f → start < record_count f → Numbering f start k v empty_set start 1
numbering_first {f} {start} F q = let l = ahead_below F start in record { below = q; few = omega arith; whole = empty_union _ }

module _ {f : List ℕ} {start k v : ℕ} {found : Set} {i n : ℕ} (F : Formed f) (h : Numbering f start k v found i n) (z : i ≡ 0 → ⊥) {c w : ℕ}
    (e : c ≡ word f i k) (g : w ≡ word f i next_word) where
  step_is : numbered f k v n (chain_records f i) ≡ cons_if (eqb c v) n (numbered f k v (suc n) (chain_records f w))
  unfolding numbered
  step_is = rw (records_step F z h.below g, e, ← field_some f i k z) refl

  pub numbering_one : {s u : Set} → c ≡ v → s ≡ single n → u ≡ found ∪ s → Numbering f start k v u w (n + 1)
  unfolding cons_if set_of
  numbering_one q j m =
      let o = next_onward F z h.below g in
      record {
        below = o.stands.below;
        few = omega (arith, o.falls, h.few);
        whole = rw (m, j, add-one n) (union_assoc found (single n) _ ∙ (rw (step_is, eq-eqb c v q) at h.whole));
      }

  pub numbering_other : {u : Set} → (c ≡ v → ⊥) → u ≡ found → Numbering f start k v u w (n + 1)
  unfolding cons_if
  numbering_other q m =
      let o = next_onward F z h.below g in
      record {
        below = o.stands.below;
        few = omega (arith, o.falls, h.few);
        whole = rw (m, add-one n) (rw (step_is, ne_eqb c v q) at h.whole);
      }

pub numbering_last : {f : List ℕ} {start k v : ℕ} {found : Set} {i n : ℕ} → Numbering f start k v found i n → i ≡ 0 → found ≡ set_of (numbers_with f start k v)
unfolding numbered set_of
numbering_last {f} {found = found} h z = sym (union_empty found) ∙ (rw (records_none f z) at h.whole)
