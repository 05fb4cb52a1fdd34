-- Where regions' edges lead: along one chain of edges, and as a table whose place r has the targets of region r, as a word.
use Rattle.std.specs.Prelude.{ℕ, ◌<◌, List, [], ◌∷◌, true, ◌⊎◌, ◌≢◌, ◌≡◌, length, get_or, set}
use Rattle.std.proofs.Math.Decide.{ℕ_discrete}
use Rattle.std.proofs.Common.{inl, inr, sym, ap, ◌∙◌, get_or-set_same, get_or-set_other}
use Rattle.sets.specs.Sets.{member, single, ◌∪◌, stored, loaded, loaded_stored}
use Rattle.sets.specs.SetLaws.{union_empty, union_assoc}
use Rattle.sets.specs.Members.{set_of, in_list}
use Rattle.sets.specs.declared.Set.{Set}
use Rattle.language.specs.Program.{Functor, Signature}
use Rattle.language.specs.Typing.{is_region}
use Rattle.language.specs.Regions.{targets, reach_from}
use Rattle.region_graph.specs.Laws.{Declared}

-- ---- one chain of edges, by the words that the code has read
-- what is found so far with what the rest leads to is the whole
pub targets_none : {ts : List ℕ} {s w : Set} → ts ≡ [] → s ∪ set_of ts ≡ w → s ≡ w
unfolding set_of
targets_none {s = s} e h = sym (union_empty s) ∙ ap (λ (l : List ℕ). s ∪ set_of l) (sym e) ∙ h

pub targets_more : {ts rest : List ℕ} {t : ℕ} {u w x : Set} (s : Set) → ts ≡ t ∷ rest → u ≡ single t → x ≡ s ∪ u → s ∪ set_of ts ≡ w → x ∪ set_of rest ≡ w
unfolding set_of
targets_more {rest = rest} s e i j h = rw (j, i) (union_assoc s _ (set_of rest) ∙ ap (λ (l : List ℕ). s ∪ set_of l) (sym e) ∙ h)

-- ---- a table of sets, each stored as a word
unfoldable pub set_at : List ℕ → ℕ → Set
set_at t r = loaded (get_or t r 0)

pub set_loaded : (t : List ℕ) (r : ℕ) {s : Set} → s ≡ loaded (get_or t r 0) → s ≡ set_at t r
unfolding set_at
set_loaded t r e = e

-- x is stored at place r
pub set_stored : (t : List ℕ) {t' : List ℕ} {r w : ℕ} {x : Set} → r < length t → w ≡ stored x → t' ≡ set t r w
    → (p : ℕ) → ((p ≡ r) × (set_at t' p ≡ x)) ⊎ ((p ≢ r) × (set_at t' p ≡ set_at t p))
unfolding set_at
set_stored t {t'} {r} {w} {x} l e i p = go (ℕ_discrete p r)
  where
    go : Dec (p ≡ r) → ((p ≡ r) × (loaded (get_or t' p 0) ≡ x)) ⊎ ((p ≢ r) × (loaded (get_or t' p 0) ≡ loaded (get_or t p 0)))
    go (yes z) = inl (
      z,
      ap (λ (y : List ℕ). loaded (get_or y p 0)) i ∙ ap (λ (y : ℕ). loaded (get_or (set t r w) y 0)) z
          ∙ ap loaded (get_or-set_same t r w 0 l ∙ e) ∙ loaded_stored x,
    )
    go (no z) = inr (z, ap (λ (y : List ℕ). loaded (get_or y p 0)) i ∙ ap loaded (get_or-set_other t r p w 0 z))

-- ---- the table of targets: of each region of S
pub record TargetTable (S : Signature) (t : List ℕ) : Type 0 where
  pub at : (r : ℕ) → is_region S r ≡ true → set_at t r ≡ set_of (targets S r)

-- .. or further: each place has at least where the region's edges lead, at most what it reaches
pub record Between (S : Signature) (t : List ℕ) : Type 0 where
  pub low : (u v : ℕ) → is_region S u ≡ true → in_list v (targets S u) ≡ true → member (set_at t u) v ≡ true
  pub high : (u v : ℕ) → is_region S u ≡ true → member (set_at t u) v ≡ true → member (reach_from S u) v ≡ true

-- the table of reaches
pub record ReachTable (S : Signature) (t : List ℕ) : Type 0 where
  pub at : (r : ℕ) → is_region S r ≡ true → set_at t r ≡ reach_from S r

-- x is what region r reaches, by a table of targets
abbrev pub RegionReach : List ℕ → ℕ → Set → Type 0
RegionReach targets r x = (T : List (List Functor)) (S : Signature) → Declared T S → Between S targets → is_region S r ≡ true → x ≡ reach_from S r
