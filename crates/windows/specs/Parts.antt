-- A procedure's variables and regions, written into a table along their chains.
use Rattle.std.specs.Prelude.{ℕ, ◌+◌, ◌*◌, ◌≤◌, ◌<◌, true, List, ◌⊎◌, ◌≡◌, refl, length, set}
use Rattle.std.proofs.Math.Decide.{ℕ_discrete}
use Rattle.std.proofs.Common.{arith, sym, ◌∙◌}
use Rattle.std.proofs.Math.Logic.{⊎_elim}
use Rattle.std.proofs.Math.Path.{ap}
use Rattle.std.proofs.Math.ListN.{get_or}
use Rattle.sets.specs.Sets.{empty_set, stored, loaded, loaded_stored}
use Rattle.sets.specs.Members.{set_of}
use Rattle.sets.specs.declared.Set.{Set}
use Rattle.language.specs.Lists.{nth}
use Rattle.language.specs.File
use Rattle.language.specs.File.{Chain, word}
use Rattle.language.specs.Program.{Functor, Signature}
use Rattle.language.specs.Typing.{is_region}
use Rattle.language.specs.Regions.{targets_in, reach_from}
use Rattle.language.specs.Format.{places, region_edges, variable_region}
use Rattle.region_graph.specs.Laws.{Declared}
use Rattle.region_graph.specs.Typed.{region_in_law}
use Rattle.chains.specs.Formed.{Formed, Stands, edges_at}
use Rattle.chains.specs.Shapes.{region_here}
use Rattle.chains.specs.Fields.{field_of, field_some}
use Rattle.chains.specs.Records.{chain_records}
use Rattle.windows.specs.Along.{Along, along_here}
use Rattle.windows.specs.Storing.{set_here, set_else}
use Rattle.windows.specs.Targets.{set_at, ReachTable}

-- a variable's region and a region's first edge stand in the same word: that of the record at place k of a chain
abbrev pub part_word : ℕ
part_word = variable_region

unfoldable pub part_at : List ℕ → ℕ → ℕ → ℕ
part_at f first k = field_of f (nth 0 (chain_records f first) k) part_word

pub part_here : {f : List ℕ} {c : Chain} {first i n w : ℕ} → Formed f → Along f c first i n → (i ≡ 0 → ⊥) → w ≡ word f i part_word → w ≡ part_at f first n
unfolding part_at
part_here {f} {i = i} F h z e = e ∙ field_some f i part_word z ∙ ap (λ (j : ℕ). field_of f j part_word) (sym (along_here F h z))

pub edges_here : {f : List ℕ} {i w : ℕ} → Formed f → Stands f File.regions i → (i ≡ 0 → ⊥) → w ≡ word f i region_edges → Stands f File.edges w
edges_here F s z e = rw e (region_here F z s).to_edges.stands

-- ---- n regions are written from place `from` on, and where their edges lead
pub record RegionsListed (f : List ℕ) (first : ℕ) (t₀ : List ℕ) (from n : ℕ) (t g : List ℕ) : Type 0 where
  pub edges : (k : ℕ) → k < n → get_or t (from + k) 0 ≡ part_at f first k
  pub targets : (k : ℕ) → k < n → set_at g (k + 1) ≡ set_of (targets_in (edges_at f (part_at f first k)))
  pub before : (p : ℕ) → p < from → get_or t p 0 ≡ get_or t₀ p 0
  pub behind : (p : ℕ) → from + n ≤ p → get_or t p 0 ≡ get_or t₀ p 0

module _ (f : List ℕ) (first : ℕ) (t₀ : List ℕ) (from : ℕ) where
  pub regions_none : (g : List ℕ) → RegionsListed f first t₀ from 0 t₀ g
  regions_none g = record { edges = λ k l. absurd (omega arith); targets = λ k l. absurd (omega arith); before = λ p l. refl; behind = λ p l. refl }

  pub regions_more : (t g : List ℕ) {n w y : ℕ} {s : Set} {t' g' : List ℕ} → RegionsListed f first t₀ from n t g → from + n < length t → n + 1 < length g
      → w ≡ part_at f first n → s ≡ set_of (targets_in (edges_at f w)) → y ≡ stored s → t' ≡ set t (from + n) w → g' ≡ set g (n + 1) y
      → RegionsListed f first t₀ from (n + 1) t' g'
  unfolding set_at
  regions_more t g {n} {w} {y} {s} {t'} {g'} h lt lg e a b et eg = record {
    edges = λ k m. edge k m (ℕ_discrete k n);
    targets = λ k m. target k m (ℕ_discrete k n);
    before = λ p m. set_else t (from + n) w et p (λ q. omega arith) ∙ h.before p m;
    behind = λ p m. set_else t (from + n) w et p (λ q. omega arith) ∙ h.behind p (omega arith);
  }
    where
      edge : (k : ℕ) → k < n + 1 → Dec (k ≡ n) → get_or t' (from + k) 0 ≡ part_at f first k
      edge k m (yes z) = set_here t lt et (omega arith) ∙ e ∙ ap (part_at f first) (sym z)
      edge k m (no z) = set_else t (from + n) w et (from + k) (λ q. z (omega arith)) ∙ h.edges k (omega (arith, z))

      target : (k : ℕ) → k < n + 1 → Dec (k ≡ n) → loaded (get_or g' (k + 1) 0) ≡ set_of (targets_in (edges_at f (part_at f first k)))
      target k m (yes z) =
          ap loaded (set_here g lg eg {p = k + 1} (omega arith) ∙ b) ∙ loaded_stored s ∙ a
          ∙ ap (λ (j : ℕ). set_of (targets_in (edges_at f j))) (e ∙ ap (part_at f first) (sym z))
      target k m (no z) = ap loaded (set_else g (n + 1) y eg (k + 1) (λ q. z (omega arith))) ∙ h.targets k (omega (arith, z))

-- ---- n variables are written from place `from` on
-- what a variable in region h reaches, by the table of reaches
abbrev pub HomeReach : List ℕ → ℕ → Set → Type 0
HomeReach reaches h s = (T : List (List Functor)) (S : Signature) → Declared T S → ReachTable S reaches → (h ≡ 0) ⊎ (is_region S h ≡ true) → s ≡ reach_from S h

module _ (g : List ℕ) {h : ℕ} where
  pub home_none : h ≡ 0 → HomeReach g h empty_set
  home_none z T S d q o = sym (ap (reach_from S) z ∙ d.nowhere)

  pub home_some : {s : Set} → (h ≡ 0 → ⊥) → s ≡ loaded (get_or g h 0) → HomeReach g h s
  unfolding set_at
  home_some z e T S d q o = ⊎_elim (λ y. absurd (z y)) (λ i. e ∙ q.at h i) o

  pub home_past : (h ≡ 0 → ⊥) → places ≤ h → HomeReach g h empty_set
  home_past z l T S d q o = ⊎_elim (λ y. absurd (z y)) (λ i. absurd (omega (arith, region_in_law S h i, d.regions))) o

pub record VariablesListed (f : List ℕ) (first : ℕ) (g t₀ : List ℕ) (from n : ℕ) (t : List ℕ) : Type 0 where
  pub homes : (k : ℕ) → k < n → get_or t (from + 2 * k) 0 ≡ part_at f first k
  pub reaches : (k : ℕ) → k < n → HomeReach g (part_at f first k) (loaded (get_or t (from + 2 * k + 1) 0))
  pub before : (p : ℕ) → p < from → get_or t p 0 ≡ get_or t₀ p 0
  pub behind : (p : ℕ) → from + 2 * n ≤ p → get_or t p 0 ≡ get_or t₀ p 0

module _ (f : List ℕ) (first : ℕ) (g t₀ : List ℕ) (from : ℕ) where
  pub variables_none : VariablesListed f first g t₀ from 0 t₀
  variables_none = record { homes = λ k l. absurd (omega arith); reaches = λ k l. absurd (omega arith); before = λ p l. refl; behind = λ p l. refl }

  pub variables_more : (t u : List ℕ) {n w y : ℕ} {s : Set} {t' : List ℕ} → VariablesListed f first g t₀ from n t → from + 2 * n + 1 < length t → length u ≡ length t
      → w ≡ part_at f first n → HomeReach g w s → y ≡ stored s → u ≡ set t (from + 2 * n) w → t' ≡ set u (from + 2 * n + 1) y
      → VariablesListed f first g t₀ from (n + 1) t'
  variables_more t u {n} {w} {y} {s} {t'} h l lu e a b eu et = record {
    homes = λ k m. home k m (ℕ_discrete k n);
    reaches = λ k m. reached k m (ℕ_discrete k n);
    before = λ p m. else p (λ q. omega arith) (λ q. omega arith) ∙ h.before p m;
    behind = λ p m. else p (λ q. omega arith) (λ q. omega arith) ∙ h.behind p (omega arith);
  }
    where
      else : (p : ℕ) → (p ≡ from + 2 * n → ⊥) → (p ≡ from + 2 * n + 1 → ⊥) → get_or t' p 0 ≡ get_or t p 0
      else p m q = set_else u (from + 2 * n + 1) y et p q ∙ set_else t (from + 2 * n) w eu p m

      home : (k : ℕ) → k < n + 1 → Dec (k ≡ n) → get_or t' (from + 2 * k) 0 ≡ part_at f first k
      home k m (yes z) =
          set_else u (from + 2 * n + 1) y et (from + 2 * k) (λ q. omega arith) ∙ set_here t (omega arith) eu {p = from + 2 * k} (omega arith) ∙ e ∙ ap (part_at f first) (sym z)
      home k m (no z) = else (from + 2 * k) (λ q. z (omega arith)) (λ q. omega arith) ∙ h.homes k (omega (arith, z))

      reached : (k : ℕ) → k < n + 1 → Dec (k ≡ n) → HomeReach g (part_at f first k) (loaded (get_or t' (from + 2 * k + 1) 0))
      reached k m (yes z) T S d q o =
          let v : w ≡ part_at f first k = e ∙ ap (part_at f first) (sym z) in
          ap loaded (set_here u (omega (arith, lu)) et {p = from + 2 * k + 1} (omega arith) ∙ b) ∙ loaded_stored s
          ∙ a T S d q (rw v o) ∙ ap (reach_from S) v
      reached k m (no z) T S d q o =
          ap loaded (else (from + 2 * k + 1) (λ q. omega arith) (λ q. z (omega arith))) ∙ h.reaches k (omega (arith, z)) T S d q o
