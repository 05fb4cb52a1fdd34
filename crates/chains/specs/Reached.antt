-- Records that are found by their place in a chain, and the chains that their words lead to: each may be missing, and then its number is 0.
-- After r = entry(table, n): r stands in its chain (`stands_nth`, `stands_nth1`), and w = field(file, r, k) in the chain that
-- word k leads to (`type_functors_law` and its like).
use Prim.Native.Nat.{ℕ, zero, suc, ◌≤◌, ◌<◌}
use Rattle.std.proofs.Common.{arith, sym}
use Rattle.std.proofs.Math.Decide.{dec_lt}
use Rattle.std.specs.Prelude.{◌≡◌, List, [], ◌∷◌, map, true, false, length}
use Rattle.std.proofs.Math.Path.{refl}
use borrow.Author.Tests.{le-leb, lt-leb}
use Rattle.sets.specs.Tests.{◌&◌, true_and}
use Rattle.language.specs.Format.{type_functors, procedure_variables, procedure_regions, procedure_goals, region_edges}
use Rattle.language.specs.Lists.{nth, nth1, among}
use Rattle.language.specs.File.{Chain, types, functors, procedures, variables, regions, edges, goals, word}
use Rattle.laws.specs.Lists.{nth_past}
use Rattle.layout.specs.Chains.{real}
use Rattle.chains.specs.Formed.{Formed, Stands, stands_none}
use Rattle.chains.specs.Declared.{type_at, procedure_at_law, region_at_law}
use Rattle.chains.specs.Is.{type_is, procedure_is, region_is}
use Rattle.chains.specs.Fields.{field_of}
use Rattle.chains.specs.Records.{chain_records, records_none, records_step, Somes, along}

-- ---- the n-th record of a chain stands in it
nth_cons : (P : ℕ → Type 0) {xs ys : List ℕ} {x : ℕ} → xs ≡ x ∷ ys → P x → ((k : ℕ) → P (nth 0 ys k)) → (k : ℕ) → P (nth 0 xs k)
unfolding nth
nth_cons P e p h zero = rw e p
nth_cons P e p h (suc k) = rw e (h k)

module _ {f : List ℕ} (F : Formed f) (c : Chain) (r : real c ≡ true) where
  pub stands_nth : (i : ℕ) → Stands f c i → (k : ℕ) → Stands f c (nth 0 (chain_records f i) k)
  unfolding nth
  stands_nth =
      along F c r (λ i. (k : ℕ) → Stands f c (nth 0 (chain_records f i) k)) (λ k. rw (records_none f {i = 0} refl) (stands_none F refl))
      λ i s z h. nth_cons (Stands f c) (records_step F z s.below refl) s h

  pub stands_nth1 : (i : ℕ) → Stands f c i → (k : ℕ) → Stands f c (nth1 0 (chain_records f i) k)
  unfolding nth1
  stands_nth1 i s zero = stands_none F refl
  stands_nth1 i s (suc k) = stands_nth i s k

-- ---- where the words of such a record lead
module _ {f : List ℕ} (F : Formed f) where
  field_stands : (c : Chain) (j k : ℕ) → ((j ≡ 0 → ⊥) → Stands f c (word f j k)) → Stands f c (field_of f j k)
  unfolding field_of
  field_stands c zero k h = stands_none F refl
  field_stands c (suc j) k h = h (λ z. omega arith)

  pub type_functors_law : (j : ℕ) → Stands f types j → Stands f functors (field_of f j type_functors)
  type_functors_law j s = field_stands functors j type_functors (λ z. (type_at F refl (type_is s z)).to_functors.stands)

  pub procedure_variables_law : (j : ℕ) → Stands f procedures j → Stands f variables (field_of f j procedure_variables)
  procedure_variables_law j s = field_stands variables j procedure_variables (λ z. (procedure_at_law F refl (procedure_is s z)).to_variables.stands)

  pub procedure_regions_law : (j : ℕ) → Stands f procedures j → Stands f regions (field_of f j procedure_regions)
  procedure_regions_law j s = field_stands regions j procedure_regions (λ z. (procedure_at_law F refl (procedure_is s z)).to_regions.stands)

  pub procedure_goals_law : (j : ℕ) → Stands f procedures j → Stands f goals (field_of f j procedure_goals)
  procedure_goals_law j s = field_stands goals j procedure_goals (λ z. (procedure_at_law F refl (procedure_is s z)).to_goals.stands)

  pub region_edges_law : (j : ℕ) → Stands f regions j → Stands f edges (field_of f j region_edges)
  region_edges_law j s = field_stands edges j region_edges (λ z. (region_at_law F refl (region_is s z)).to_edges.stands)

-- ---- elements by their place
pub nth_map : {A : Type 0} (el : ℕ → A) (d : A) → el 0 ≡ d → (xs : List ℕ) (k : ℕ) → nth d (map el xs) k ≡ el (nth 0 xs k)
unfolding nth
nth_map el d e [] k = sym e
nth_map el d e (x ∷ xs) zero = refl
nth_map el d e (x ∷ xs) (suc k) = nth_map el d e xs k

pub nth1_map : {A : Type 0} (el : ℕ → A) (d : A) → el 0 ≡ d → (xs : List ℕ) (k : ℕ) → nth1 d (map el xs) k ≡ el (nth1 0 xs k)
unfolding nth1
nth1_map el d e xs zero = sym e
nth1_map el d e xs (suc k) = nth_map el d e xs k

-- ---- there is a record at a place if and only if the place is one of the chain's
nth_some : (xs : List ℕ) → Somes xs → (k : ℕ) → k < length xs → 0 < nth 0 xs k
unfolding nth
nth_some [] s k h = absurd (omega arith)
nth_some (x ∷ xs) s zero h = s.0
nth_some (x ∷ xs) s (suc k) h = nth_some xs s.1 k (omega arith)

module _ (xs : List ℕ) where
  pub place_below : (k : ℕ) → (nth 0 xs k ≡ 0 → ⊥) → k < length xs
  place_below k h = elim (dec_lt k (length xs)) [ yes l ↦ l | no l ↦ absurd (h (nth_past 0 xs k (omega arith))) ]

  pub place_past : Somes xs → (k : ℕ) → nth 0 xs k ≡ 0 → length xs ≤ k
  place_past s k e = elim (dec_lt k (length xs)) [ yes l ↦ absurd (omega (arith, nth_some xs s k l)) | no l ↦ omega arith ]

  pub among_place : (n k : ℕ) → length xs ≡ n → (nth1 0 xs k ≡ 0 → ⊥) → among n k ≡ true
  unfolding nth1 among
  among_place n zero e h = absurd (h refl)
  among_place n (suc k) e h = true_and (le-leb 1 (suc k) (omega arith)) (le-leb (suc k) n (omega (arith, place_below k h)))

  pub among_past : Somes xs → (n k : ℕ) → length xs ≡ n → nth1 0 xs k ≡ 0 → among n k ≡ false
  unfolding nth1 among ◌&◌
  among_past s n zero e h = refl
  among_past s n (suc k) e h = rw (le-leb 1 (suc k) (omega arith), lt-leb (suc k) n (omega (arith, place_past s k h)))
