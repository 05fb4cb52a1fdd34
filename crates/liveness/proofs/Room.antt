-- A chain has fewer records than the file, since each record is referred to once: so a table of twice 4,096 places has room for the points of
-- any goals.
use Prim.Native.Nat.{ℕ, zero, suc, ◌+◌, ◌*◌, ◌≤◌, ◌<◌}
use native.Mathlib.Omega.{arith}
use native.Mathlib.Decide.{ℕ_discrete, dec_lt}
use mathlib.Core.Path.{◌≡◌, ap}
use mathlib.Core.List.{List, ◌∷◌, []}
use mathlib.Core.Bool.{true}
use mathlib.Core.Logic.{inl, inr}
use lib.ListN.{length}
use Rattle.sets.specs.declared.Set.{Set}
use Rattle.language.specs.Lists.{count}
use Rattle.language.specs.File.{Chain, Use, number, unused, first, row, kind_of, kind_at, leading, references, word, record_count, form_ok}
use Rattle.language.specs.Tree.{Tree, read_words, read_record, read_chain, read_tree, tree_of}
use Rattle.language.specs.Layout.{size, size_words}
use Rattle.language.specs.Answers.{program}
use Rattle.laws.specs.Counts.{hit_other, count_cons}
use Rattle.chains.specs.Layout.{hits, hits_suc, hits_zero, chain_end_law, Leads, Used, once, next_leads, record_used, chain_step, tree_size}
use Rattle.chains.specs.Layout.Steps
use Rattle.chains.specs.Formed.{Formed, counted, goals_at}
use Rattle.liveness.specs.Points.{point_words, points}
use Rattle.liveness.specs.Counts.{points_count}
use Rattle.liveness.proofs.CountsLaws.{tree_count}

module _ (W : ℕ → ℕ → ℕ) (n : ℕ) where
  -- ---- a reference leads upward, to a part of the record's tree
  leads_up : (i j r : ℕ) {c : Chain} → 0 < j → Leads W n i c r → r ≡ j → i < j
  leads_up i j r p (inl z) e = absurd (omega arith)
  leads_up i j r p (inr z) e = omega arith

  words_part : (g : ℕ → Tree) (j : ℕ) → 0 < j → (us : List Use) (i k : ℕ) → Used W n i k us → 0 < count j (leading W n i k us)
      → (i < j) × (size (g j) ≤ size_words (read_words g (W i) k us))
  unfolding leading read_words size count
  words_part g j p [] i k u h = absurd (omega arith)
  words_part g j p (number ∷ us) i k u h = words_part g j p us i (suc k) u h
  words_part g j p (unused ∷ us) i k u h = words_part g j p us i (suc k) u.1 h
  words_part g j p (first c ∷ us) i k u h =
      elim (ℕ_discrete (W i k) j) [
        | yes e ↦ (leads_up i j (W i k) p u.0 e, rw e (omega arith))
        | no d ↦
            (let r = words_part g j p us i (suc k) u.1 (omega (arith, count_cons j (W i k) (leading W n i (suc k) us), hit_other (W i k) j d)) in
            (r.0, omega (arith, r.1)))
      ]

  module _ (P : form_ok W n ≡ true) where
    record_tree : ℕ → Tree
    record_tree i = read_record (λ j. read_chain n W j) (W i) (kind_of (W i 0))

    record_part : (i j : ℕ) → i < n → 0 < j → 0 < count j (references W n i) → (i < j) × (size (read_chain n W j) < size (record_tree i))
    unfolding record_tree read_record references kind_at size
    record_part i j q p h =
        elim (ℕ_discrete (W i 1) j) [
          | yes e ↦ (leads_up i j (W i 1) p (next_leads W n P i q) e, rw e (omega arith))
          | no d ↦
              (let us = (row (kind_of (W i 0))).words in
              let c : 0 < count j (leading W n i 2 us) = omega (arith, count_cons j (W i 1) (leading W n i 2 us), hit_other (W i 1) j d) in
              let r = words_part (λ l. read_chain n W l) j p us i 2 (record_used W n P i q) c in
              (r.0, omega (arith, r.1)))
        ]

    -- ---- every record but the first is referred to by one below it
    some_referrer : (m b j : ℕ) → 0 < hits W n b m j → (i : ℕ) × (i < b + m) × (0 < count j (references W n i))
    some_referrer zero b j h = absurd (omega (arith, hits_zero W n b j))
    some_referrer (suc m) b j h =
        elim (dec_lt 0 (count j (references W n b))) [
          | yes c ↦ (b, omega arith, c)
          | no c ↦ (let r = some_referrer m (suc b) j (omega (arith, hits_suc W n m b j)) in (r.0, (let l = r.1 in omega arith), r.2))
        ]

    -- so its chain is smaller than the whole tree
    chain_under : size (record_tree 0) ≤ n → (m j : ℕ) → j ≤ m → 0 < j → j < n → size (read_chain n W j) < n
    unfolding record_tree
    chain_under whole zero j l p q = absurd (omega arith)
    chain_under whole (suc m) j l p q =
        referred j q p (λ i o b r. chain_under whole m i (omega arith) b r) (some_referrer n 0 j (omega (arith, once W n P j p q)))
      where
        referred : (j : ℕ) → j < n → 0 < j → ((i : ℕ) → i < j → 0 < i → i < n → size (read_chain n W i) < n)
            → (i : ℕ) × (i < 0 + n) × (0 < count j (references W n i)) → size (read_chain n W j) < n
        referred j q p below (zero, a, c) = let r = record_part 0 j (omega arith) p c in omega (arith, r.1, whole)
        referred j q p below (suc i, a, c) =
            let r = record_part (suc i) j (omega arith) p c in
            let b = below (suc i) r.0 (omega arith) (omega arith) in
            let e = ap size (chain_step W n P (suc i) (omega arith) (omega arith)) in
            omega (arith, r.1, e, b)

-- ---- a chain of the file
module _ {f : List ℕ} (F : Formed f) where
  chain_small : (i : ℕ) → i < record_count f → size (read_chain (record_count f) (word f) i) < record_count f
  unfolding record_tree tree_of read_tree size
  chain_small zero q = rw (chain_end_law (record_count f) (word f)) q
  chain_small (suc i) q =
      let e = tree_size f F.header F.form in
      chain_under (word f) (record_count f) F.form (omega arith) (suc i) (suc i) (omega arith) (omega arith) q

  -- the goals at record i have fewer points than the file has records
  pub points_few : (i : ℕ) (after : Set) → i < record_count f → length (points (program f) (goals_at f i) after) < record_count f
  unfolding goals_at Steps.goals_at
  points_few i after q =
      omega (arith, points_count (program f) (goals_at f i) after, tree_count (read_chain (record_count f) (word f) i), chain_small i q)

  pub points_room : (i : ℕ) (after : Set) → i < record_count f → 2 * length (points (program f) (goals_at f i) after) ≤ point_words
  points_room i after q = let n = counted F in omega (arith, points_few i after q, n.most)
