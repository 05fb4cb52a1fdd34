-- The window of one procedure is written.
use Rattle.std.specs.Prelude.{ℕ, suc, ◌+◌, ◌*◌, ◌≤◌, ◌<◌, List, [], ◌∷◌, ◌≡◌, get_or, set, drop}
use Rattle.std.proofs.Common.{arith, ◌∙◌, get_or-drop}
use Rattle.std.proofs.Math.Path.{refl, sym, ap}
use Rattle.std.proofs.Math.ListN.{length}
use Rattle.sets.specs.Sets.{stored, loaded, loaded_stored}
use Rattle.sets.specs.declared.Set.{Set}
use Rattle.language.specs.File
use Rattle.language.specs.File.{word}
use Rattle.language.specs.Program.{Signature}
use Rattle.language.specs.Regions.{reach_from, reach}
use Rattle.language.specs.Lifetimes.{classes_ok}
use Rattle.language.specs.Format.{max_records, max_regions, procedure_goals, procedure_regions, procedure_variables}
use Rattle.chains.specs.Formed.{Formed, Stands, ahead_below, variables_at}
use Rattle.chains.specs.Shapes.{procedure_here}
use Rattle.chains.specs.Records.{chain_records, records_few}
use Rattle.chains.specs.Elements.{variables_count, regions_count}
use Rattle.tables.specs.Window.{set_in, Window}
use Rattle.tables.specs.TablePlaces.{body_place, born_place, dead_place, edges_place, first_place, head_size, home_place, ins_place, kept_place, outs_place, passed_place, reach_place, regions_place, variables_place, window_words}
use Rattle.windows.specs.Storing.{set_here, set_else, StoredWords}
use Rattle.windows.specs.Parts.{part_at, RegionsListed, VariablesListed}
use Rattle.windows.specs.Closing.{Closing, closing_last}
use Rattle.windows.specs.Fitting.{window_size}
use Rattle.windows.specs.Classed.{SignatureAt, Reached, Classed}
use Rattle.windows.specs.Making.{own_declared, home_at, targets_made, home_made, reach_made, edges_made, edges_stand}
use Rattle.windows.specs.declared.Classes.{Classes}
use Rattle.windows.specs.declared.Counts.{Counts}
use Rattle.windows.specs.declared.Listed.{Listed}

-- the first words of a window
unfoldable pub header_words : Counts → Classes → List ℕ
header_words n c =
    n.variables ∷ n.regions ∷ n.body ∷ stored c.ins ∷ stored c.outs ∷ stored c.born ∷ stored c.dead ∷ stored c.kept ∷ stored c.passed
    ∷ n.first ∷ []

-- the window of the procedure at record i has room from place `at` on
pub record WindowRoom (f : List ℕ) (i at size : ℕ) : Type 0 where
  pub regions : length (chain_records f (word f i procedure_regions)) ≤ max_regions
  pub words : at + window_words (length (chain_records f (word f i procedure_variables))) (length (chain_records f (word f i procedure_regions))) ≤ size

-- it is written in t, where t₀ stood
pub record ProcedureListed (f : List ℕ) (S : Signature) (i at : ℕ) (t₀ : List ℕ) (l : Listed) (t : List ℕ) : Type 0 where
  pub window : Window f S (drop at t)
  pub body : get_or (drop at t) body_place 0 ≡ word f i procedure_goals
  pub size : l.size ≡ window_size S
  pub right : l.right ≡ classes_ok S
  pub before : (p : ℕ) → p < at → get_or t p 0 ≡ get_or t₀ p 0
  pub behind : (p : ℕ) → at + l.size ≤ p → get_or t p 0 ≡ get_or t₀ p 0

-- .. whatever signature the procedure at record i declares
abbrev pub ListedAt : List ℕ → ℕ → ℕ → List ℕ → Listed → List ℕ → Type 0
ListedAt f i at t₀ l t = (S : Signature) → SignatureAt f (word f i procedure_variables) (word f i procedure_regions) S → ProcedureListed f S i at t₀ l t

module _ {f : List ℕ} {v r : ℕ} (F : Formed f) (S : Signature) (h : SignatureAt f v r S) (sv : Stands f File.variables v) (sr : Stands f File.regions r)
    (at : ℕ) (t₀ t₁ g : List ℕ) {m n : ℕ} (em : m ≡ length (chain_records f v)) (en : n ≡ length (chain_records f r))
    (R : RegionsListed f r t₀ (at + head_size + 2 * m) n t₁ g) (y : List ℕ) (Y : Closing g n y) (l : at < length t₁) (t₂ : List ℕ) (e₂ : t₂ ≡ set t₁ at m)
    (t₃ : List ℕ) (V' : VariablesListed f v y t₂ (at + head_size) (length (chain_records f v)) t₃) where
  reach_at : (k : ℕ) → k < length (chain_records f v) → loaded (get_or t₃ (at + head_size + 2 * k + 1) 0) ≡ reach S (suc k)
  unfolding reach
  reach_at k b =
      let D = own_declared F S h sv sr in
      V'.reaches k b h.types S D
      (closing_last g y Y h.types S D (targets_made F S h sv sr R en) (omega (arith, en, ap length h.regions, regions_count F r sr))) (rw (home_at F S h sv sr k) (D.own (suc k))) ∙ ap (reach_from S) (home_at F S h sv sr k)

  -- the reaches, before the header is written
  pub reached_here : Reached S (drop at t₃)
  reached_here =
      reach_made F S h sv sr (drop at t₃)
      (get_or-drop at t₃ variables_place 0 ∙ V'.before (at + variables_place) (omega arith) ∙ set_here t₁ l e₂ {p = at + variables_place} (omega arith) ∙ em)
      (λ k b.
      let z : at + reach_place (suc k) ≡ at + head_size + 2 * k + 1 = omega arith in
      ap loaded (get_or-drop at t₃ (reach_place (suc k)) 0 ∙ ap (λ (j : ℕ). get_or t₃ j 0) z) ∙ reach_at k b)

  module _ {c : Classes} (C : Classed S c) (u : ℕ) (t : List ℕ)
      (H : StoredWords t₃ at (header_words (record { variables = m; regions = n; body = u; first = v }) c) head_size t) where
    head : (k w : ℕ) → k < head_size → get_or (header_words (record { variables = m; regions = n; body = u; first = v }) c) k 0 ≡ w → get_or (drop at t) k 0 ≡ w
    head k w b e = get_or-drop at t k 0 ∙ H.there k b ∙ e

    head_set : (k : ℕ) (s s' : Set) → k < head_size → get_or (header_words (record { variables = m; regions = n; body = u; first = v }) c) k 0 ≡ stored s → s ≡ s'
        → set_in (drop at t) k ≡ s'
    unfolding set_in
    head_set k s s' b e q = ap loaded (head k (stored s) b e) ∙ loaded_stored s ∙ q

    part : (p k : ℕ) → p ≡ k + head_size → get_or (drop at t) p 0 ≡ get_or t₃ (at + head_size + k) 0
    part p k e =
        let z : at + p ≡ at + head_size + k = omega arith in
        get_or-drop at t p 0 ∙ ap (λ (j : ℕ). get_or t j 0) z ∙ H.behind (at + head_size + k) (omega arith)

    count_variables : get_or (drop at t) variables_place 0 ≡ length (chain_records f v)
    unfolding header_words
    count_variables = head variables_place m (omega arith) refl ∙ em

    count_regions : get_or (drop at t) regions_place 0 ≡ length (chain_records f r)
    unfolding header_words
    count_regions = head regions_place n (omega arith) refl ∙ en

    home_word : (k : ℕ) → k < length (chain_records f v) → get_or (drop at t) (home_place (suc k)) 0 ≡ part_at f v k
    home_word k b = part (home_place (suc k)) (2 * k) (omega arith) ∙ V'.homes k b

    reach_word : (k : ℕ) → k < length (chain_records f v) → loaded (get_or (drop at t) (reach_place (suc k)) 0) ≡ reach S (suc k)
    reach_word k b =
        let z : at + head_size + (2 * k + 1) ≡ at + head_size + 2 * k + 1 = omega arith in
        ap loaded (part (reach_place (suc k)) (2 * k + 1) (omega arith) ∙ ap (λ (j : ℕ). get_or t₃ j 0) z) ∙ reach_at k b

    edge_word : (k : ℕ) → k < length (chain_records f r) → get_or (drop at t) (edges_place (length (chain_records f v)) (suc k)) 0 ≡ part_at f r k
    edge_word k b =
        let z : at + head_size + (2 * length (chain_records f v) + k) ≡ at + head_size + 2 * m + k = omega (arith, em) in
        part (edges_place (length (chain_records f v)) (suc k)) (2 * length (chain_records f v) + k) (omega arith)
        ∙ V'.behind (at + head_size + (2 * length (chain_records f v) + k)) (omega arith)
        ∙ set_else t₁ at m e₂ (at + head_size + (2 * length (chain_records f v) + k)) (λ q. omega arith) ∙ ap (λ (j : ℕ). get_or t₁ j 0) z
        ∙ R.edges k (omega (arith, en))

    window_here : Window f S (drop at t)
    unfolding header_words
    window_here = record {
      variable_count = count_variables ∙ sym (ap length h.variables ∙ variables_count F v sv);
      region_count_law = count_regions ∙ sym (ap length h.regions ∙ regions_count F r sr);
      ins = head_set ins_place c.ins _ (omega arith) refl C.ins;
      outs = head_set outs_place c.outs _ (omega arith) refl C.outs;
      born = head_set born_place c.born _ (omega arith) refl C.born;
      dead = head_set dead_place c.dead _ (omega arith) refl C.dead;
      kept = head_set kept_place c.kept _ (omega arith) refl C.kept;
      passed = head_set passed_place c.passed _ (omega arith) refl C.passed;
      variables = ap (variables_at f) (head first_place v (omega arith) refl) ∙ sym h.variables;
      variables_stand = rw (head first_place v (omega arith) refl) sv;
      home = home_made F S h sv sr (drop at t) count_variables home_word;
      reached = (reach_made F S h sv sr (drop at t) count_variables reach_word).at;
      edges = edges_made F S h sv sr (drop at t) count_variables count_regions edge_word;
      edges_stand = edges_stand F S h sv sr (drop at t) count_variables count_regions edge_word;
    }

    pub procedure_listed : (i : ℕ) → u ≡ word f i procedure_goals → {x : Listed} → x.size ≡ window_words m n
        → ((Q : Signature) → Classed Q c → x.right ≡ classes_ok Q)
        → ProcedureListed f S i at t₀ x t
    unfolding window_size header_words
    procedure_listed i e s b = record {
      window = window_here;
      body = head body_place u (omega arith) refl ∙ e;
      size = s ∙ omega (arith, em, en, ap length h.variables, variables_count F v sv, ap length h.regions, regions_count F r sr);
      right = b S C;
      before = λ p k. H.before p k ∙ V'.before p (omega arith) ∙ set_else t₁ at m e₂ p (λ q. omega arith) ∙ R.before p (omega arith);
      behind = λ p k.
          H.behind p (omega (arith, s)) ∙ V'.behind p (omega (arith, s, em)) ∙ set_else t₁ at m e₂ p (λ q. omega (arith, s))
          ∙ R.behind p (omega (arith, s));
    }

-- ---- what the code asks before it writes
pub record AskedRoom (f : List ℕ) (v r at size : ℕ) : Type 0 where
  pub variables : Stands f File.variables v
  pub regions : Stands f File.regions r
  pub few : length (chain_records f r) ≤ max_regions
  pub some : length (chain_records f v) < max_records
  pub room : at + window_words (length (chain_records f v)) (length (chain_records f r)) ≤ size

pub entered : {f : List ℕ} {i at size v r : ℕ} → Formed f → Stands f File.procedures i → (i ≡ 0 → ⊥) → WindowRoom f i at size → v ≡ word f i procedure_variables
    → r ≡ word f i procedure_regions
    → AskedRoom f v r at size
entered {f} {i} {v = v} F s z R ev er =
    let p = procedure_here F z s in
    let sv : Stands f File.variables v = rw ev p.to_variables.stands in
    record {
      variables = sv;
      regions = rw er p.to_regions.stands;
      few = rw er R.regions;
      some = omega (arith, records_few F v sv.below, ahead_below F v);
      room = rw (ev, er) R.words;
    }

-- the header's words
pub header_stored : {t₀ t : List ℕ} {at : ℕ} (n : Counts) (c : Classes) {w3 w4 w5 w6 w7 w8 : ℕ} → w3 ≡ stored c.ins → w4 ≡ stored c.outs → w5 ≡ stored c.born
    → w6 ≡ stored c.dead → w7 ≡ stored c.kept → w8 ≡ stored c.passed
    → StoredWords t₀ at (n.variables ∷ n.regions ∷ n.body ∷ w3 ∷ w4 ∷ w5 ∷ w6 ∷ w7 ∷ w8 ∷ n.first ∷ []) head_size t → StoredWords t₀ at (header_words n c) head_size t
unfolding header_words
header_stored n c a b d e k p h = rw (← a, ← b, ← d, ← e, ← k, ← p) h
