-- The counts after a goal, by the number of its record's kind.
use Prim.Native.Nat.{ℕ, zero, suc, ◌+◌, ◌-◌}
use Rattle.std.proofs.Common.{arith, ◌∙◌}
use Rattle.std.specs.Prelude.{◌≡◌, List, get_or}
use Rattle.std.proofs.Math.Path.{refl}
use Rattle.language.specs.File.{Kind, k_none, k_header, k_type, k_functor, k_procedure, k_variable, k_region, k_edge, k_arm, k_argument, k_goal, k_literal, k_sum, k_assign, k_construct, k_switch, k_if, k_call, k_print, k_create, k_remove, k_try, k_test, kind_of, row, row_in, word}
use Rattle.language.specs.Format.{construct_kind, create_kind, remove_kind, kind_word, term_arguments, lifetime_region}
use Rattle.records.specs.Records.{record_at, record_as_law}
use Rattle.chains.specs.Shapes.{goal_number}
use Rattle.memory.specs.declared.Heap.{Heap}
use Rattle.word_machine.specs.Machine.{region_place, region_for}
use Rattle.machine.specs.declared.State.{State}
use Rattle.machine.specs.Words.{words_of}
use Rattle.machine.specs.Steps.{construct_record, create_record, remove_record}
use Rattle.profiling.specs.declared.Counts.{Counts}
use Rattle.profiling.specs.Walking.{size_at}
use Rattle.profiling.specs.Counting.{term_counted, made_counted, counted, same_counts}

-- ---- if it removes nothing
module _ (f : List ℕ) (i : ℕ) (k : Counts) (w : ℕ) (ew : w ≡ word f i kind_word) where
  abbrev Made : Counts
  Made = made_counted (record_at f i) k

  module _ (z : w ≡ construct_kind) (a : ℕ) (ea : a ≡ word f i term_arguments) where
    pub count_constant : a ≡ 0 → k ≡ Made
    unfolding made_counted term_counted
    count_constant y = rw (construct_record f i w ew z, ← ea, y)

    one_more : (b : ℕ) → (b ≡ 0 → ⊥) → record { cells = k.cells + 1; regions = k.regions } ≡ term_counted b k
    unfolding term_counted
    one_more zero n = absurd (n refl)
    one_more (suc b) n = same_counts (omega arith) refl

    pub count_construct : (a ≡ 0 → ⊥) → record { cells = k.cells + 1; regions = k.regions } ≡ Made
    unfolding made_counted
    count_construct n = rw (construct_record f i w ew z) (one_more _ (λ y. n (ea ∙ y)))

  pub count_create : w ≡ create_kind → record { cells = k.cells; regions = k.regions + 1 } ≡ Made
  unfolding made_counted
  count_create z = rw (create_record f i w ew z) (same_counts refl (omega arith))

  -- nb and nm: no construct, create
  count_else : (K : Kind) → kind_of (word f i kind_word) ≡ K → (w ≡ construct_kind → ⊥) → (w ≡ create_kind → ⊥) → k ≡ Made
  unfolding made_counted row row_in
  count_else k_none e nb nm = rw (record_as_law f i e)
  count_else k_header e nb nm = rw (record_as_law f i e)
  count_else k_type e nb nm = rw (record_as_law f i e)
  count_else k_functor e nb nm = rw (record_as_law f i e)
  count_else k_procedure e nb nm = rw (record_as_law f i e)
  count_else k_variable e nb nm = rw (record_as_law f i e)
  count_else k_region e nb nm = rw (record_as_law f i e)
  count_else k_edge e nb nm = rw (record_as_law f i e)
  count_else k_arm e nb nm = rw (record_as_law f i e)
  count_else k_argument e nb nm = rw (record_as_law f i e)
  count_else (k_goal k_literal) e nb nm = rw (record_as_law f i e)
  count_else (k_goal k_sum) e nb nm = rw (record_as_law f i e)
  count_else (k_goal k_assign) e nb nm = rw (record_as_law f i e)
  count_else (k_goal k_construct) e nb nm = absurd (nb (ew ∙ goal_number _ k_construct e))
  count_else (k_goal k_switch) e nb nm = rw (record_as_law f i e)
  count_else (k_goal k_if) e nb nm = rw (record_as_law f i e)
  count_else (k_goal k_call) e nb nm = rw (record_as_law f i e)
  count_else (k_goal k_print) e nb nm = rw (record_as_law f i e)
  count_else (k_goal k_create) e nb nm = absurd (nm (ew ∙ goal_number _ k_create e))
  count_else (k_goal k_remove) e nb nm = rw (record_as_law f i e)
  count_else (k_goal k_try) e nb nm = rw (record_as_law f i e)
  count_else (k_goal k_test) e nb nm = rw (record_as_law f i e)

  pub count_same : (w ≡ construct_kind → ⊥) → (w ≡ create_kind → ⊥) → k ≡ Made
  count_same nb nm = count_else _ refl nb nm

-- ---- in words
module _ (f : List ℕ) (m rs fw : List ℕ) (s : State) (k : Counts) (w : ℕ) (ew : w ≡ word f s.goal kind_word) (h : Heap) (ps : List ℕ) where
  abbrev i : ℕ
  i = s.goal

  abbrev After : Counts
  After = counted (words_of h m rs fw ps s) (record_at f i) k

  pub count_remove : w ≡ remove_kind → (limit r p n a b : ℕ) → h.cells.limit ≡ limit → r ≡ word f i lifetime_region → p ≡ get_or fw (region_place s.top r) 0 → n ≡ size_at limit m rs p
      → a ≡ k.cells - n → b ≡ k.regions - 1 → record { cells = a; regions = b } ≡ After
  unfolding counted words_of region_for
  count_remove z limit r p n a b el er ep en ea eb = rw (remove_record f i w ew z) (same_counts (rw (el, ← er, ← ep, ← en) ea) eb)

  -- no remove
  kept_else : (K : Kind) → kind_of (word f i kind_word) ≡ K → (w ≡ remove_kind → ⊥) → made_counted (record_at f i) k ≡ After
  unfolding counted row row_in
  kept_else k_none e nr = rw (record_as_law f i e)
  kept_else k_header e nr = rw (record_as_law f i e)
  kept_else k_type e nr = rw (record_as_law f i e)
  kept_else k_functor e nr = rw (record_as_law f i e)
  kept_else k_procedure e nr = rw (record_as_law f i e)
  kept_else k_variable e nr = rw (record_as_law f i e)
  kept_else k_region e nr = rw (record_as_law f i e)
  kept_else k_edge e nr = rw (record_as_law f i e)
  kept_else k_arm e nr = rw (record_as_law f i e)
  kept_else k_argument e nr = rw (record_as_law f i e)
  kept_else (k_goal k_literal) e nr = rw (record_as_law f i e)
  kept_else (k_goal k_sum) e nr = rw (record_as_law f i e)
  kept_else (k_goal k_assign) e nr = rw (record_as_law f i e)
  kept_else (k_goal k_construct) e nr = rw (record_as_law f i e)
  kept_else (k_goal k_switch) e nr = rw (record_as_law f i e)
  kept_else (k_goal k_if) e nr = rw (record_as_law f i e)
  kept_else (k_goal k_call) e nr = rw (record_as_law f i e)
  kept_else (k_goal k_print) e nr = rw (record_as_law f i e)
  kept_else (k_goal k_create) e nr = rw (record_as_law f i e)
  kept_else (k_goal k_remove) e nr = absurd (nr (ew ∙ goal_number _ k_remove e))
  kept_else (k_goal k_try) e nr = rw (record_as_law f i e)
  kept_else (k_goal k_test) e nr = rw (record_as_law f i e)

  pub count_kept : (w ≡ remove_kind → ⊥) → {c : Counts} → c ≡ made_counted (record_at f i) k → c ≡ After
  count_kept nr e = e ∙ kept_else _ refl nr
