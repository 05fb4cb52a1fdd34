-- What the goals that change the heap come to, from what their functions promise.
use Prim.Native.Nat.{ℕ, zero, suc, ◌+◌, ◌*◌}
use Rattle.std.specs.Prelude.{Option, Some, None, Result, Ok, Err, ok_or}
use native.Mathlib.Omega.{arith}
use mathlib.Core.Path.{◌≡◌, refl, sym, ap, ◌∙◌}
use mathlib.Core.Bool.{true}
use mathlib.Core.List.{List}
use mathlib.Core.Logic.{inl, inr}
use Rattle.language.specs.File.{word}
use Rattle.language.specs.Format.{kind_word, construct_kind, create_kind, remove_kind, goal_x, term_functor, lifetime_region}
use Rattle.language.specs.Machine.{Room}
use Rattle.language.specs.declared.Stop.{Stop}
use Rattle.language.specs.declared.Stop.TheVariants.{Cells, Places}
use Rattle.records.specs.Records.{record_at}
use Rattle.memory.specs.declared.Contents.{Contents}
use Rattle.memory.specs.declared.Heap.{Heap}
use Rattle.memory.specs.declared.Pool.{Pool}
use Rattle.memory.specs.Memory.{cell_word, created, created_of, created_regions, created_regions_of, removed, removed_cells, removed_regions}
use Rattle.memory.specs.Building.{not_made, same_made, built_none}
use Rattle.plans.specs.Plan.{tables_in}
use Rattle.word_machine.specs.Tables.{Tables}
use Rattle.word_machine.specs.Machine.{Went, went, stops, frame_words, regions_from, given, with_frames, term_of, contents_of, value_of, region_for, constructs, constructed, constructed_by, makes_region, created_by, drops_region, steps}
use Rattle.machine.specs.declared.State.{State}
use Rattle.machine.specs.Words.{words_of, onward_to, heap_came_to, HeapGoes, Changes}
use Rattle.machine.specs.GoalWords.{value_in, term_in, home_for, term_made, cells_made, regions_made, region_for as region_named, placed}
use Rattle.machine.specs.Cells.{Constructs}
use Rattle.machine.specs.Steps.{construct_record, create_record, remove_record}

-- ---- answers told apart
unfoldable lacking : Result Heap Stop → ℕ
lacking (Ok h) = 0
lacking (Err c) = 1

left_not : (h : Heap) (c : Stop) → ◌≡◌ {A = Result Heap Stop} (Ok h) (Err c) → ⊥
unfolding lacking
left_not h c e = let z : ◌≡◌ {A = ℕ} 0 1 = ap lacking e in omega arith

-- what `ok_or` gives where there is nothing
pub lacked : {A : Type 0} (o : Option A) (q e : Stop) (r : Result A Stop) → r ≡ ok_or o q → r ≡ Err e → (o ≡ None) × (q ≡ e)
lacked {A} None q e r a b = (refl, let z : ◌≡◌ {A = Result A Stop} (Err q) (Err e) = sym a ∙ b in cc)
lacked {A} (Some x) q e r a b = let z : ◌≡◌ {A = Result A Stop} (Ok x) (Err e) = sym a ∙ b in cc

-- ---- a goal that finds no room changes nothing
created_full : (h : Heap) (rs : List ℕ) (t : Option (ℕ × Pool)) → None ≡ created_of h t → created_regions_of h rs t ≡ rs
unfolding created_of created_regions_of
created_full h rs (Some (x, p)) e = absurd (not_made _ _ e)
created_full h rs None e = refl

created_none : (h : Heap) (rs : List ℕ) → None ≡ created h rs → created_regions h rs ≡ rs
unfolding created created_regions
created_none h rs e = created_full h rs _ e

-- ---- the three
pub remaining : (w : ℕ) → Changes w true → (w ≡ construct_kind → ⊥) → (w ≡ create_kind → ⊥) → w ≡ remove_kind
remaining w (inl e) n m = absurd (n e)
remaining w (inr (inl e)) n m = absurd (m e)
remaining w (inr (inr e)) n m = e

module _ (f plan images callees : List ℕ) (s : State) (h : Heap) (m rs fw : List ℕ) (D : s.at ≡ frame_words * s.top) (w : ℕ) (ew : w ≡ word f s.goal kind_word) where
  abbrev T : Tables
  T = tables_in plan images callees

  abbrev Steps : Room → List ℕ → Went
  Steps k ps = steps f T k s.goal (record_at f s.goal) (words_of h m rs fw ps s)

  module _ (md : Option (ℕ × Heap)) (m₁ rs₁ fx : List ℕ) (z : w ≡ construct_kind) (C : Constructs f plan s.goal s.at h m rs fw md m₁ rs₁ fx) where
    abbrev t : ℕ
    t = word f s.goal term_functor

    abbrev home : ℕ
    home = home_for plan s.goal s.at fw

    abbrev term : ℕ → ℕ → ℕ → ℕ → Contents
    term a b c d = term_of (value_in s.at fw) (λ n. cell_word m h.cells.head n) t a b c d

    abbrev Comes : List ℕ → ℕ → ℕ → ℕ → ℕ → ℕ → Went
    Comes ps next a b c d = constructs (words_of h m rs fw ps s) (word f s.goal goal_x) next (T.region s.goal) t a b c d

    -- by its first argument: a constant, or a cell
    left_as : (y : ℕ) (l : Heap) → md ≡ Some (y, l) → (ps : List ℕ) (next a b c d : ℕ) → md ≡ term_made t a h m → m₁ ≡ cells_made a h m rs home (term a b c d) → rs₁ ≡ regions_made a h m rs home
        → went (words_of l m₁ rs₁ fx ps (onward_to s next)) ≡ Comes ps next a b c d
    unfolding constructs constructed constructed_by contents_of given with_frames value_of region_for words_of home_for placed tables_in term_made cells_made regions_made
    left_as y l q ps next zero b c d e em er = let o : l ≡ h = (same_made (sym q ∙ e)).1 in rw (em, er, C.1, D, e, o)
    left_as y l q ps next (suc a) b c d e em er = rw (em, er, C.1, D, ← e, q)

    construct_left : (y : ℕ) (l : Heap) → md ≡ Some (y, l) → (k : Room) (ps : List ℕ) (next : ℕ) → next ≡ T.successor s.goal
        → went (words_of l m₁ rs₁ fx ps (onward_to s next)) ≡ Steps k ps
    unfolding steps term_in
    construct_left y l q k ps next en = rw (construct_record f s.goal w ew z, ← en) (left_as y l q ps next _ _ _ _ C.0.0 C.0.1 C.0.2)

    pub construct_changes : (y : ℕ) (l : Heap) → md ≡ Some (y, l) → HeapGoes f T s h m rs fw (Ok l) m₁ rs₁ fx
    unfolding heap_came_to
    construct_changes y l q = record { comes = construct_left y l q; kept = λ c e. absurd (left_not l c e) }

    stop_as : md ≡ None → (ps : List ℕ) (next a b c d : ℕ) → md ≡ term_made t a h m → stops Cells ≡ Comes ps next a b c d
    unfolding constructs constructed constructed_by words_of term_made
    stop_as q ps next zero b c d e = absurd (not_made _ _ (sym q ∙ e))
    stop_as q ps next (suc a) b c d e = rw (← e, q)

    construct_stop : md ≡ None → (k : Room) (ps : List ℕ) → stops Cells ≡ Steps k ps
    unfolding steps
    construct_stop q k ps = rw (construct_record f s.goal w ew z) (stop_as q ps _ _ _ _ _ C.0.0)

    same_as : md ≡ None → (a : ℕ) (c : Contents) → md ≡ term_made t a h m → m₁ ≡ cells_made a h m rs home c → rs₁ ≡ regions_made a h m rs home → (m₁ ≡ m) × (rs₁ ≡ rs)
    unfolding term_made cells_made regions_made
    same_as q zero c e em er = (em, er)
    same_as q (suc a) c e em er = let b = built_none h m rs _ _ (sym q ∙ e) in (em ∙ b.0, er ∙ b.1)

    construct_same : md ≡ None → (m₁ ≡ m) × (rs₁ ≡ rs) × (fx ≡ fw)
    unfolding placed
    construct_same q = let b = same_as q _ _ C.0.0 C.0.1 C.0.2 in (b.0, b.1, rw (C.1, q))

    pub construct_lacks : md ≡ None → HeapGoes f T s h m rs fw (Err Cells) m₁ rs₁ fx
    unfolding heap_came_to
    construct_lacks q = record { comes = λ k ps next en. construct_stop q k ps; kept = λ c e. construct_same q }

  module _ (md : Option (ℕ × Heap)) (rs₁ fx : List ℕ) (z : w ≡ create_kind) (e : md ≡ created h rs) (er : rs₁ ≡ created_regions h rs)
      (ex : fx ≡ placed (s.at + regions_from + word f s.goal lifetime_region) md fw) where
    create_left : (y : ℕ) (l : Heap) → md ≡ Some (y, l) → (k : Room) (ps : List ℕ) (next : ℕ) → next ≡ T.successor s.goal
        → went (words_of l m rs₁ fx ps (onward_to s next)) ≡ Steps k ps
    unfolding steps makes_region created_by words_of placed
    create_left y l d k ps next en = rw (create_record f s.goal w ew z, en, er, ex, D, ← e, d)

    pub create_changes : (y : ℕ) (l : Heap) → md ≡ Some (y, l) → HeapGoes f T s h m rs fw (Ok l) m rs₁ fx
    unfolding heap_came_to
    create_changes y l d = record { comes = create_left y l d; kept = λ c q. absurd (left_not l c q) }

    create_stop : md ≡ None → (k : Room) (ps : List ℕ) → stops Places ≡ Steps k ps
    unfolding steps makes_region created_by words_of
    create_stop d k ps = rw (create_record f s.goal w ew z, ← e, d)

    create_same : md ≡ None → (m ≡ m) × (rs₁ ≡ rs) × (fx ≡ fw)
    unfolding placed
    create_same d = (refl, er ∙ created_none h rs (sym d ∙ e), rw (ex, d))

    pub create_lacks : md ≡ None → HeapGoes f T s h m rs fw (Err Places) m rs₁ fx
    unfolding heap_came_to
    create_lacks d = record { comes = λ k ps next en. create_stop d k ps; kept = λ c q. create_same d }

  module _ (l : Heap) (m₁ rs₁ : List ℕ) (z : w ≡ remove_kind)
      (e : (l ≡ removed h rs (region_named f s.goal s.at fw)) × (m₁ ≡ removed_cells h m rs (region_named f s.goal s.at fw))
      × (rs₁ ≡ removed_regions h rs (region_named f s.goal s.at fw))) where
    remove_left : (k : Room) (ps : List ℕ) (next : ℕ) → next ≡ T.successor s.goal → went (words_of l m₁ rs₁ fw ps (onward_to s next)) ≡ Steps k ps
    unfolding steps drops_region region_for words_of region_named
    remove_left k ps next en = rw (remove_record f s.goal w ew z, en, e.0, e.1, e.2, D)

    pub remove_changes : HeapGoes f T s h m rs fw (Ok l) m₁ rs₁ fw
    unfolding heap_came_to
    remove_changes = record { comes = remove_left; kept = λ c q. absurd (left_not l c q) }
