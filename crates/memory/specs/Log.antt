-- What an open condition has done is logged (C-20), so that a failing test undoes it and the then part begins with what was removed freed.
use Prim.Native.Nat.{ℕ, zero, suc, ◌+◌, ◌-◌, ◌*◌, ◌/◌, ◌%◌, ◌<◌}
use native.Mathlib.Omega.{arith}
use Rattle.std.specs.Prelude.{◌≡◌, List, get_or, set, eqb}
use Rattle.std.proofs.Math.Path.{refl, sym}
use Rattle.std.proofs.Common.{◌∙◌}
use borrow.Author.Tests.{eq-eqb, ne_eqb}
use Rattle.language.specs.Lists.{choose}
use Rattle.memory.specs.declared.Heap.{Heap}
use Rattle.memory.specs.Memory.{region_words, region_last, link, with_link, first, last, headed, removed, removed_cells, removed_regions}

-- ---- region r loses its first cell, which becomes the first of the free ones; without cells, its last word is no cell's place
unfoldable pub unbuilt : Heap → List ℕ → ℕ → Heap
unbuilt h rs r = record { cells = headed h.cells (first rs r); regions = h.regions }

unfoldable pub unbuilt_cells : Heap → List ℕ → List ℕ → ℕ → List ℕ
unbuilt_cells h m rs r = with_link m (first rs r) h.cells.head

unfoldable pub unhung : List ℕ → ℕ → ℕ → ℕ → List ℕ
unhung rs r x n = choose (eqb (first rs r) (last rs r)) (set (set rs (region_words * r) x) (region_words * r + region_last) n) (set rs (region_words * r) x)

unfoldable pub unbuilt_regions : Heap → List ℕ → List ℕ → ℕ → List ℕ
unbuilt_regions h m rs r = unhung rs r (link m (first rs r)) h.cells.limit

-- ---- an entry: what was done, and the region's place
abbrev pub kinds : ℕ
kinds = 4

abbrev pub built_in : ℕ
built_in = 0

abbrev pub made_at : ℕ
made_at = 1

abbrev pub removed_at : ℕ
removed_at = 2

abbrev pub entry : ℕ → ℕ → ℕ
entry p k = kinds * p + k

-- the heap and the words that it stands in
pub record Stored : Type 0 where
  pub heap : Heap
  pub cells : List ℕ
  pub regions : List ℕ

abbrev pub stored : Heap → List ℕ → List ℕ → Stored
stored h m rs = record { heap = h; cells = m; regions = rs }

unfoldable pub without_cell : Stored → ℕ → Stored
without_cell s r =
    record { heap = unbuilt s.heap s.regions r; cells = unbuilt_cells s.heap s.cells s.regions r; regions = unbuilt_regions s.heap s.cells s.regions r }

unfoldable pub without : Stored → ℕ → Stored
without s r =
    record { heap = removed s.heap s.regions r; cells = removed_cells s.heap s.cells s.regions r; regions = removed_regions s.heap s.regions r }

-- ---- "the else part begins with variables, regions and cells exactly as before": a cell built and a region made go again
unfoldable pub undone_of : ℕ → ℕ → Stored → Stored
undone_of k r s = choose (eqb k built_in) (without_cell s r) (choose (eqb k made_at) (without s r) s)

unfoldable pub undone_one : ℕ → Stored → Stored
undone_one e s = undone_of (e % kinds) (e / kinds) s

-- the first n entries of a log, the newest first
unfoldable pub undone : List ℕ → ℕ → Stored → Stored
undone log zero s = s
undone log (suc n) s = undone log n (undone_one (get_or log n 0) s)

-- ---- "A removal in a condition frees nothing before the then part begins": then the removed regions go
unfoldable pub freed_of : ℕ → ℕ → Stored → Stored
freed_of k r s = choose (eqb k removed_at) (without s r) s

unfoldable pub freed_one : ℕ → Stored → Stored
freed_one e s = freed_of (e % kinds) (e / kinds) s

unfoldable pub freed : List ℕ → ℕ → Stored → Stored
freed log zero s = s
freed log (suc n) s = freed log n (freed_one (get_or log n 0) s)

-- ---- what the code comes to on each way through it
module _ (h : Heap) (m rs : List ℕ) (r x l n : ℕ) (ex : x ≡ first rs r) (el : l ≡ last rs r) (en : n ≡ link m x)
    (m₁ : List ℕ) (em : m₁ ≡ with_link m x h.cells.head) (rs₁ : List ℕ) (e₁ : rs₁ ≡ set rs (region_words * r) n) where
  abbrev Out : List ℕ → Type 0
  Out rs' = (record { cells = headed h.cells x; regions = h.regions } ≡ unbuilt h rs r) × (m₁ ≡ unbuilt_cells h m rs r) × (rs' ≡ unbuilt_regions h m rs r)

  pub unbuild_only : x ≡ l → (rs₂ : List ℕ) → rs₂ ≡ set rs₁ (region_words * r + region_last) h.cells.limit → Out rs₂
  unfolding unbuilt unbuilt_cells unbuilt_regions unhung choose
  unbuild_only e rs₂ e₂ = rw (e₂, e₁, em, en, ex, eq-eqb (first rs r) (last rs r) (sym ex ∙ e ∙ el)) (refl, refl, refl)

  pub unbuild_more : (x ≡ l → ⊥) → Out rs₁
  unfolding unbuilt unbuilt_cells unbuilt_regions unhung choose
  unbuild_more ne = rw (e₁, em, en, ex, ne_eqb (first rs r) (last rs r) (λ z. ne (ex ∙ z ∙ sym el))) (refl, refl, refl)

-- what stands for s
abbrev pub Is : Heap → List ℕ → List ℕ → Stored → Type 0
Is h m rs s = (h ≡ s.heap) × (m ≡ s.cells) × (rs ≡ s.regions)

module _ (k r : ℕ) (s : Stored) where
  pub undone_built : k ≡ built_in → undone_of k r s ≡ without_cell s r
  unfolding undone_of choose
  undone_built e = rw (eq-eqb k built_in e)

  pub undone_made : k ≡ made_at → undone_of k r s ≡ without s r
  unfolding undone_of choose
  undone_made e = rw (ne_eqb k built_in (λ z. omega arith), eq-eqb k made_at e)

  pub undone_removed : (k ≡ built_in → ⊥) → (k ≡ made_at → ⊥) → undone_of k r s ≡ s
  unfolding undone_of choose
  undone_removed ne na = rw (ne_eqb k built_in ne, ne_eqb k made_at na)

  pub freed_removed : k ≡ removed_at → freed_of k r s ≡ without s r
  unfolding freed_of choose
  freed_removed e = rw (eq-eqb k removed_at e)

  pub freed_other : (k ≡ removed_at → ⊥) → freed_of k r s ≡ s
  unfolding freed_of choose
  freed_other ne = rw (ne_eqb k removed_at ne)

-- ---- an entry gives back what it was made of
pub entry_place : (p k : ℕ) → k < kinds → entry p k / kinds ≡ p
entry_place p k l = omega arith

pub entry_kind : (p k : ℕ) → k < kinds → entry p k % kinds ≡ k
entry_kind p k l = omega arith

-- ---- the loops
is_stored : {h : Heap} {m rs : List ℕ} (s : Stored) → Is h m rs s → stored h m rs ≡ s
is_stored s E = rw (E.0, E.1, E.2) refl

pub is_same : {h : Heap} {m rs : List ℕ} {s : Stored} → stored h m rs ≡ s → Is h m rs s
is_same e = rw (← e) (refl, refl, refl)

-- the first i entries are still to do: they lead to t
module _ (log : List ℕ) (t : Stored) (h h' : Heap) (m m' rs rs' : List ℕ) where
  pub undo_next : (i : ℕ) → 0 < i → undone log i (stored h m rs) ≡ t → (e : ℕ) → e ≡ get_or log (i - 1) 0 → Is h' m' rs' (undone_one e (stored h m rs))
      → undone log (i - 1) (stored h' m' rs') ≡ t
  unfolding undone
  undo_next zero l q e d E = absurd (omega arith)
  undo_next (suc i) l q e d E = let z : suc i - 1 ≡ i = omega arith in rw (z, is_stored _ E, d, z) q

  pub free_next : (i : ℕ) → 0 < i → freed log i (stored h m rs) ≡ t → (e : ℕ) → e ≡ get_or log (i - 1) 0 → Is h' m' rs' (freed_one e (stored h m rs))
      → freed log (i - 1) (stored h' m' rs') ≡ t
  unfolding freed
  free_next zero l q e d E = absurd (omega arith)
  free_next (suc i) l q e d E = let z : suc i - 1 ≡ i = omega arith in rw (z, is_stored _ E, d, z) q

pub undo_none : (log : List ℕ) (i : ℕ) (s t : Stored) → i ≡ 0 → undone log i s ≡ t → s ≡ t
unfolding undone
undo_none log zero s t z e = e
undo_none log (suc i) s t z e = absurd (omega arith)

pub free_none : (log : List ℕ) (i : ℕ) (s t : Stored) → i ≡ 0 → freed log i s ≡ t → s ≡ t
unfolding freed
free_none log zero s t z e = e
free_none log (suc i) s t z e = absurd (omega arith)
