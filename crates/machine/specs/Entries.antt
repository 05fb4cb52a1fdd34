-- The log of an open condition as the code keeps it: two words an entry, a region's place and what was done there. The machine on lists of words has one number for both.
use Rattle.std.specs.Prelude.{ℕ, suc, ◌+◌, ◌-◌, ◌*◌, ◌%◌, ◌/◌, ◌≤◌, ◌<◌, ◌≡◌, List, ltb, length, get_or, set, replicate}
use Rattle.std.proofs.Common.{arith, sym, ap, ◌∙◌, lt-ltb, le-ltb, length-set, get_or-set_same}
use Rattle.std.proofs.Math.Decide.{ℕ_discrete, dec_lt}
use Rattle.std.proofs.Math.Path.{refl}
use Rattle.std.proofs.lemmas.List.{length-replicate}
use Rattle.std.proofs.Math.ListN.{get_or-eq_default}
use Rattle.std.proofs.Math.Seq.{get_or-set_other, set_out}
use Rattle.language.specs.Lists.{choose}
use Rattle.language.specs.Format.{max_records}
use Rattle.memory.specs.declared.Heap.{Heap}
use Rattle.memory.specs.Memory.{removed, removed_cells, removed_regions}
use Rattle.memory.specs.Log.{kinds, built_in, made_at, removed_at, entry, unbuilt, unbuilt_cells, unbuilt_regions, Stored, stored, without_cell, without, Is, undone_of, undone_one, undone, freed_of, freed_one, freed, entry_kind, entry_place, undo_next, free_next, undone_built, undone_made, undone_removed, freed_removed, freed_other}

abbrev pub entry_words : ℕ
entry_words = 2

abbrev pub log_words : ℕ
log_words = entry_words * max_records

-- word k of entry i; 0 past the last one
unfoldable pub entry_word : List ℕ → ℕ → ℕ → ℕ
entry_word log i k = choose (ltb i max_records) (get_or log (entry_words * i + k) 0) 0

unfoldable pub noted : ℕ → ℕ → ℕ → List ℕ → List ℕ
noted n p k log = choose (ltb n max_records) (set (set log (entry_words * n) p) (entry_words * n + 1) k) log

-- the first n entries of the code's log are those of `told`
pub record Logs (log told : List ℕ) (n : ℕ) : Type 0 where
  pub long : length log ≡ log_words
  pub places : length told ≡ max_records
  pub same : (i : ℕ) → i < n → get_or told i 0 ≡ entry (entry_word log i 0) (entry_word log i 1)
  pub small : (i : ℕ) → i < n → entry_word log i 1 < kinds

pub logs_none : (log : List ℕ) → length log ≡ log_words → Logs log (replicate max_records 0) 0
logs_none log l = record { long = l; places = length-replicate {A = ℕ} max_records 0; same = λ i z. absurd (omega arith); small = λ i z. absurd (omega arith) }

-- ---- what the code comes to
module _ (log : List ℕ) (i k : ℕ) where
  pub entry_in : i < max_records → get_or log (entry_words * i + k) 0 ≡ entry_word log i k
  unfolding entry_word choose
  entry_in l = rw (lt-ltb i max_records l)

  pub entry_past : max_records ≤ i → 0 ≡ entry_word log i k
  unfolding entry_word choose
  entry_past l = rw (le-ltb i max_records l)

module _ (n p k : ℕ) (log : List ℕ) where
  pub noted_in : n < max_records → set (set log (entry_words * n) p) (entry_words * n + 1) k ≡ noted n p k log
  unfolding noted choose
  noted_in l = rw (lt-ltb n max_records l)

  pub noted_past : max_records ≤ n → log ≡ noted n p k log
  unfolding noted choose
  noted_past l = rw (le-ltb n max_records l)

  pub noted_length : length (noted n p k log) ≡ length log
  noted_length = elim (dec_lt n max_records) [
    | yes l ↦ rw (← noted_in l) (simp length-set refl)
    | no l ↦ rw (← noted_past (omega arith)) refl
  ]

  -- another entry
  module _ (i j : ℕ) (q : j < entry_words) where
    pub noted_other : (i ≡ n → ⊥) → entry_word (noted n p k log) i j ≡ entry_word log i j
    unfolding entry_word
    noted_other ne = elim (dec_lt n max_records) [
      | yes l ↦
          rw (← noted_in l)
          (ap (λ x. choose (ltb i max_records) x 0)
          (get_or-set_other (set log (entry_words * n) p) (entry_words * n + 1) (entry_words * i + j) k 0 (λ z. ne (omega arith))
          ∙ get_or-set_other log (entry_words * n) (entry_words * i + j) p 0 (λ z. ne (omega arith))))
      | no l ↦ rw (← noted_past (omega arith)) refl
    ]

  module _ (l : n < max_records) (e : length log ≡ log_words) where
    noted_place : entry_word (noted n p k log) n 0 ≡ p
    noted_place =
        sym (entry_in (noted n p k log) n 0 l)
        ∙ rw (← noted_in l)
        (get_or-set_other (set log (entry_words * n) p) (entry_words * n + 1) (entry_words * n + 0) k 0 (λ z. omega arith)
        ∙ ap (λ x. get_or (set log (entry_words * n) p) x 0) (omega arith) ∙ get_or-set_same log (entry_words * n) p 0 (omega arith))

    noted_kind : entry_word (noted n p k log) n 1 ≡ k
    noted_kind =
        sym (entry_in (noted n p k log) n 1 l)
        ∙ rw (← noted_in l) (get_or-set_same (set log (entry_words * n) p) (entry_words * n + 1) k 0 (simp length-set (omega arith)))

  module _ (told : List ℕ) (L : Logs log told n) (kl : k < kinds) where
    here_same : get_or (set told n (entry p k)) n 0 ≡ entry (entry_word (noted n p k log) n 0) (entry_word (noted n p k log) n 1)
    here_same = elim (dec_lt n max_records) [
      | yes l ↦ rw (noted_place l L.long, noted_kind l L.long) (get_or-set_same told n (entry p k) 0 (omega (arith, L.places)))
      | no l ↦
          rw (set_out told n (entry p k) (omega (arith, L.places)), ← entry_past (noted n p k log) n 0 (omega arith), ← entry_past (noted n p k log) n 1 (omega arith))
          (get_or-eq_default told 0 (omega (arith, L.places)))
    ]

    here_small : entry_word (noted n p k log) n 1 < kinds
    here_small = elim (dec_lt n max_records) [
      | yes l ↦ rw (noted_kind l L.long) kl
      | no l ↦ rw (← entry_past (noted n p k log) n 1 (omega arith)) (omega arith)
    ]

    pub logs_next : Logs (noted n p k log) (set told n (entry p k)) (suc n)
    logs_next = record {
      long = noted_length ∙ L.long;
      places = length-set told n (entry p k) ∙ L.places;
      same = λ i l. same_at i l (ℕ_discrete i n);
      small = λ i l. small_at i l (ℕ_discrete i n);
    }
      where
        same_at : (i : ℕ) → i < suc n → Dec (i ≡ n) → get_or (set told n (entry p k)) i 0 ≡ entry (entry_word (noted n p k log) i 0) (entry_word (noted n p k log) i 1)
        same_at i l (yes z) = rw z here_same
        same_at i l (no z) =
            rw (noted_other i 0 (omega arith) z, noted_other i 1 (omega arith) z) (get_or-set_other told n i (entry p k) 0 z ∙ L.same i (omega (arith, z)))

        small_at : (i : ℕ) → i < suc n → Dec (i ≡ n) → entry_word (noted n p k log) i 1 < kinds
        small_at i l (yes z) = rw z here_small
        small_at i l (no z) = rw (noted_other i 1 (omega arith) z) (L.small i (omega (arith, z)))

-- ---- the loops: the first i entries are still to do
module _ {log told : List ℕ} {n : ℕ} (L : Logs log told n) (i : ℕ) (l : i < n) (s : Stored) (p k : ℕ) (ep : p ≡ entry_word log i 0) (ek : k ≡ entry_word log i 1) where
  told_kind : get_or told i 0 % kinds ≡ k
  told_kind = ap (λ x. x % kinds) (L.same i l) ∙ entry_kind (entry_word log i 0) (entry_word log i 1) (L.small i l) ∙ sym ek

  told_place : get_or told i 0 / kinds ≡ p
  told_place = ap (λ x. x / kinds) (L.same i l) ∙ entry_place (entry_word log i 0) (entry_word log i 1) (L.small i l) ∙ sym ep

  pub undone_told : undone_of k p s ≡ undone_one (get_or told i 0) s
  unfolding undone_one
  undone_told = rw (told_kind, told_place)

  pub freed_told : freed_of k p s ≡ freed_one (get_or told i 0) s
  unfolding freed_one
  freed_told = rw (told_kind, told_place)

module _ {log told : List ℕ} {n : ℕ} (L : Logs log told n) (t : Stored) (h h' : Heap) (m m' rs rs' : List ℕ) (i : ℕ) (l : 0 < i) (r : i ≤ n)
    (p k : ℕ) (ep : p ≡ entry_word log (i - 1) 0) (ek : k ≡ entry_word log (i - 1) 1) where
  pub log_undo_next : undone told i (stored h m rs) ≡ t → Is h' m' rs' (undone_of k p (stored h m rs)) → undone told (i - 1) (stored h' m' rs') ≡ t
  log_undo_next q E =
      undo_next told t h h' m m' rs rs' i l q (get_or told (i - 1) 0) refl (rw (← undone_told L (i - 1) (omega arith) (stored h m rs) p k ep ek) E)

  pub log_free_next : freed told i (stored h m rs) ≡ t → Is h' m' rs' (freed_of k p (stored h m rs)) → freed told (i - 1) (stored h' m' rs') ≡ t
  log_free_next q E =
      free_next told t h h' m m' rs rs' i l q (get_or told (i - 1) 0) refl (rw (← freed_told L (i - 1) (omega arith) (stored h m rs) p k ep ek) E)

-- ---- one entry
module _ (k p : ℕ) (h : Heap) (m rs : List ℕ) where
  pub is_unbuilt : k ≡ built_in → {h' : Heap} {m' rs' : List ℕ} → (h' ≡ unbuilt h rs p) × (m' ≡ unbuilt_cells h m rs p) × (rs' ≡ unbuilt_regions h m rs p)
      → Is h' m' rs' (undone_of k p (stored h m rs))
  unfolding without_cell
  is_unbuilt e E = rw (undone_built k p (stored h m rs) e) E

  pub is_unmade : k ≡ made_at → {h' : Heap} {m' rs' : List ℕ} → (h' ≡ removed h rs p) × (m' ≡ removed_cells h m rs p) × (rs' ≡ removed_regions h rs p)
      → Is h' m' rs' (undone_of k p (stored h m rs))
  unfolding without
  is_unmade e E = rw (undone_made k p (stored h m rs) e) E

  pub is_kept : (k ≡ built_in → ⊥) → (k ≡ made_at → ⊥) → Is h m rs (undone_of k p (stored h m rs))
  is_kept a b = rw (undone_removed k p (stored h m rs) a b) (refl, refl, refl)

  pub is_freed : k ≡ removed_at → {h' : Heap} {m' rs' : List ℕ} → (h' ≡ removed h rs p) × (m' ≡ removed_cells h m rs p) × (rs' ≡ removed_regions h rs p)
      → Is h' m' rs' (freed_of k p (stored h m rs))
  unfolding without
  is_freed e E = rw (freed_removed k p (stored h m rs) e) E

  pub is_stays : (k ≡ removed_at → ⊥) → Is h m rs (freed_of k p (stored h m rs))
  is_stays a = rw (freed_other k p (stored h m rs) a) (refl, refl, refl)
