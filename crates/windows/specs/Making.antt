-- The window of a procedure, from its parts: the words that the code wrote are those of the window's record.
use Prim.Native.Nat.{ℕ, zero, suc, ◌≤◌, ◌<◌}
use Rattle.std.proofs.Math.Decide.{dec_lt}
use Rattle.std.proofs.Common.{add-one, arith, ◌∙◌, le-leb}
use Rattle.std.proofs.Math.Bool.{true}
use Rattle.std.specs.Prelude.{false, List, ◌≡◌, get_or}
use Rattle.std.proofs.Math.Path.{refl, sym, ap}
use Rattle.std.proofs.lemmas.Bool.{lt-leb}
use Rattle.std.proofs.Math.ListN.{length}
use Rattle.sets.specs.Sets.{empty_set, loaded}
use Rattle.sets.specs.Members.{set_of}
use Rattle.laws.specs.Lists.{nth_past}
use Rattle.language.specs.Lists.{nth1}
use Rattle.language.specs.File
use Rattle.language.specs.Program.{Signature, region_of, region_at}
use Rattle.language.specs.Typing.{is_region}
use Rattle.language.specs.Regions.{targets, targets_in, reach_from, reach}
use Rattle.language.specs.Format.{max_regions, max_variables, places, region_edges, variable_region}
use Rattle.chains.specs.Layout.{real}
use Rattle.region_graph.specs.Laws.{Declared}
use Rattle.region_graph.specs.Typed.{variables_few, regions_few, region_in_law}
use Rattle.region_graph.specs.Procedure.{declared}
use Rattle.chains.specs.Formed.{Formed, Stands, edges_at}
use Rattle.chains.specs.Fields.{field_of, field_none}
use Rattle.chains.specs.Records.{chain_records}
use Rattle.chains.specs.Elements.{variables_count, regions_count}
use Rattle.chains.specs.Reached.{stands_nth1, region_edges_law}
use Rattle.chains.specs.Lookups.{variable_of, region_of_law}
use Rattle.tables.specs.Window.{set_in, is_number, home_in, reach_in, edges_in, number_none, number_past, number_some, home_some, home_none, reach_some, reach_none, edges_some, edges_none}
use Rattle.tables.specs.TablePlaces.{edges_place, home_place, reach_place, regions_place, variables_place}
use Rattle.windows.specs.Targets.{set_at, TargetTable}
use Rattle.windows.specs.Parts.{part_at, RegionsListed}
use Rattle.windows.specs.Classed.{SignatureAt, Reached}

-- ---- numbers from 1 to n
module _ (n : ℕ) (few : n ≤ max_variables) where
  number_yes : (k : ℕ) → k < n → is_number n (suc k) ≡ true
  number_yes k l = sym (number_some n (suc k) (omega arith) (omega arith) (sym (le-leb (suc k) n (omega arith))))

  number_no : (k : ℕ) → n ≤ k → is_number n (suc k) ≡ false
  number_no k l =
      elim (dec_lt (suc k) places) [
        | yes m ↦ sym (number_some n (suc k) (omega arith) m (sym (lt-leb (suc k) n (omega arith))))
        | no m ↦ sym (number_past n (suc k) (omega arith) (omega arith))
      ]

number_zero : (n : ℕ) → is_number n 0 ≡ false
number_zero n = sym (number_none n 0 (omega arith))

module _ {f : List ℕ} {v r : ℕ} (F : Formed f) (S : Signature) (h : SignatureAt f v r S) (sv : Stands f File.variables v) (sr : Stands f File.regions r) where
  pub own_declared : Declared h.types S
  own_declared = declared h.types S h.ok

  pub few_variables : length (chain_records f v) ≤ max_variables
  few_variables = let l = variables_few h.types S h.ok in omega (arith, ap length h.variables, variables_count F v sv)

  pub few_regions : length (chain_records f r) ≤ max_regions
  few_regions = let l = regions_few h.types S h.ok in omega (arith, ap length h.regions, regions_count F r sr)

  -- a region of a variable, the first edge of a region
  home_part : (x : ℕ) → region_of S x ≡ field_of f (nth1 0 (chain_records f v) x) variable_region
  unfolding region_of
  home_part x = ap (λ y. y.region) (variable_of F S sv h.variables x refl)

  edges_part : (q : ℕ) → (region_at S q).edges ≡ edges_at f (field_of f (nth1 0 (chain_records f r) q) region_edges)
  edges_part q = ap (λ y. y.edges) (region_of_law F S sr h.regions q refl)

  pub home_at : (k : ℕ) → part_at f v k ≡ region_of S (suc k)
  unfolding part_at nth1
  home_at k = sym (home_part (suc k))

  home_past : (k : ℕ) → length (chain_records f v) ≤ k → 0 ≡ region_of S (suc k)
  unfolding nth1
  home_past k l = field_none f variable_region (nth_past 0 (chain_records f v) k l) ∙ sym (home_part (suc k))

  home_zero : 0 ≡ region_of S 0
  unfolding nth1 field_of
  home_zero = sym (home_part 0)

  -- ---- the table of targets
  pub targets_made : {t₀ t g : List ℕ} {from n : ℕ} → RegionsListed f r t₀ from n t g → n ≡ length (chain_records f r) → TargetTable S g
  unfolding targets part_at nth1
  targets_made {g = g} l e = record { at = go }
    where
      go : (q : ℕ) → is_region S q ≡ true → set_at g q ≡ set_of (targets_in (region_at S q).edges)
      go zero i = absurd (omega (arith, region_in_law S 0 i))
      go (suc k) i =
          let j = region_in_law S (suc k) i in
          ap (set_at g) (sym (add-one k)) ∙ l.targets k (omega (arith, e, ap length h.regions, regions_count F r sr))
          ∙ ap (λ es. set_of (targets_in es)) (sym (edges_part (suc k)))

  -- ---- a window w whose first word counts the variables
  module _ (w : List ℕ) (c : get_or w variables_place 0 ≡ length (chain_records f v)) where
    module _ (homes : (k : ℕ) → k < length (chain_records f v) → get_or w (home_place (suc k)) 0 ≡ part_at f v k) where
      pub home_made : (x : ℕ) → home_in w x ≡ region_of S x
      home_made zero = sym (home_none w 0 (sym c) (sym (number_zero _)) refl) ∙ home_zero
      home_made (suc k) = elim (dec_lt k (length (chain_records f v))) [
        | yes l ↦ sym (home_some w (suc k) (sym c) (sym (number_yes _ few_variables k l)) refl (sym (homes k l ∙ home_at k)))
        | no l ↦ sym (home_none w (suc k) (sym c) (sym (number_no _ few_variables k (omega arith))) refl) ∙ home_past k (omega arith)
      ]

    module _ (reaches : (k : ℕ) → k < length (chain_records f v) → loaded (get_or w (reach_place (suc k)) 0) ≡ reach S (suc k)) where
      none_reached : (x : ℕ) → 0 ≡ region_of S x → empty_set ≡ reach S x
      unfolding reach
      none_reached x e = sym own_declared.nowhere ∙ ap (reach_from S) e

      pub reach_made : Reached S w
      unfolding set_in
      reach_made = record { at = go }
        where
          go : (x : ℕ) → reach_in w x ≡ reach S x
          go zero = sym (reach_none w 0 (sym c) (sym (number_zero _)) refl) ∙ none_reached 0 home_zero
          go (suc k) = elim (dec_lt k (length (chain_records f v))) [
            | yes l ↦ sym (reach_some w (suc k) (sym c) (sym (number_yes _ few_variables k l)) refl (sym (reaches k l)))
            | no l ↦ sym (reach_none w (suc k) (sym c) (sym (number_no _ few_variables k (omega arith))) refl) ∙ none_reached (suc k) (home_past k (omega arith))
          ]

    module _ (d : get_or w regions_place 0 ≡ length (chain_records f r))
        (edges : (k : ℕ) → k < length (chain_records f r) → get_or w (edges_place (length (chain_records f v)) (suc k)) 0 ≡ part_at f r k) where
      edge_made : (q : ℕ) → edges_in w q ≡ field_of f (nth1 0 (chain_records f r) q) region_edges
      unfolding nth1 part_at field_of
      edge_made zero = sym (edges_none w 0 (sym c) (omega (arith, few_variables)) (sym d) (sym (number_zero _)) refl)
      edge_made (suc k) = elim (dec_lt k (length (chain_records f r))) [
        | yes l ↦ sym (edges_some w (suc k) (sym c) (omega (arith, few_variables)) (sym d) (sym (number_yes _ few_regions k l)) refl (sym (edges k l)))
        | no l ↦ sym (edges_none w (suc k) (sym c) (omega (arith, few_variables)) (sym d) (sym (number_no _ few_regions k (omega arith))) refl)
            ∙ field_none f region_edges (nth_past 0 (chain_records f r) k (omega arith))
      ]

      pub edges_made : (q : ℕ) → edges_at f (edges_in w q) ≡ (region_at S q).edges
      edges_made q = ap (edges_at f) (edge_made q) ∙ sym (edges_part q)

      pub edges_stand : (q : ℕ) → Stands f File.edges (edges_in w q)
      unfolding real
      edges_stand q = rw (edge_made q) (region_edges_law F (nth1 0 (chain_records f r) q) (stands_nth1 F File.regions refl r sr q))
