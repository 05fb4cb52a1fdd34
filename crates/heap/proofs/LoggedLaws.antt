-- What stands in a log that is undone newest first, or whose removals are done.
use Prim.Native.Nat.{ℕ, suc, ◌≤◌, ◌<◌}
use Rattle.std.specs.Prelude.{◌≡◌, refl, Bool, ◌≢◌, length, get_or, set}
use Rattle.std.proofs.Math.Path.{sym, ap, subst, fun_ext}
use Rattle.std.proofs.Common.{◌∙◌, lt-ltb, le-ltb, get_or-set_same, get_or-set_other}
use Rattle.std.proofs.Math.Bool.{true, false}
use Rattle.std.proofs.lemmas.Bool.{false≢true}
use mathlib.Core.List.{List, ◌∷◌, ◌++◌, []}
use native.Mathlib.Omega.{arith}
use Rattle.std.proofs.Math.Decide.{ℕ_discrete}
use Rattle.std.proofs.Math.Dec.{ltb}
use Rattle.sets.specs.Tests.{◌or◌, true_or_right}
use Rattle.language.specs.Lists.{put}
use Rattle.language.specs.Program.{Goals}
use Rattle.language.specs.Frames.{opened}
use Rattle.language.specs.AcceptedRun.{RegionFrame, RegionCell, Memory, with_cell, with_region, without_region}
use Rattle.language.specs.Machine.{Room, cells_held, regions_held, counted_in}
use Rattle.laws.specs.Choices.{put_same, put_other, put_false}
use Rattle.memory.specs.declared.Heap.{Heap}
use Rattle.memory.specs.Log.{built_in, made_at, removed_at, entry, Stored, without_cell, without, undone_one, undone, freed_one, freed, undone_built, undone_made, undone_removed, freed_removed, freed_other, entry_place, entry_kind}
use Rattle.heap.specs.Counts.{held_same, alive_same}
use Rattle.heap.specs.Represents.{Represents}
use Rattle.heap.proofs.Removing.{remove_ok}
use Rattle.heap.specs.Undoing.{Closed}
use Rattle.heap.proofs.UndoingLaws.{unbuild_ok, uncreate_ok}
use Rattle.heap.specs.Logged.{Stands, Logged, none, built, made, removed}

module _ (e p : ℕ) (s : Stored) where
  one_built : e ≡ entry p built_in → undone_one e s ≡ without_cell s p
  unfolding undone_one
  one_built q = rw (q, entry_kind p built_in (omega arith), entry_place p built_in (omega arith)) (undone_built built_in p s refl)

  one_made : e ≡ entry p made_at → undone_one e s ≡ without s p
  unfolding undone_one
  one_made q = rw (q, entry_kind p made_at (omega arith), entry_place p made_at (omega arith)) (undone_made made_at p s refl)

  one_removed : e ≡ entry p removed_at → undone_one e s ≡ s
  unfolding undone_one
  one_removed q =
      rw (q, entry_kind p removed_at (omega arith), entry_place p removed_at (omega arith)) (undone_removed removed_at p s (λ z. omega arith) (λ z. omega arith))

  free_built : e ≡ entry p built_in → freed_one e s ≡ s
  unfolding freed_one
  free_built q = rw (q, entry_kind p built_in (omega arith), entry_place p built_in (omega arith)) (freed_other built_in p s (λ z. omega arith))

  free_made : e ≡ entry p made_at → freed_one e s ≡ s
  unfolding freed_one
  free_made q = rw (q, entry_kind p made_at (omega arith), entry_place p made_at (omega arith)) (freed_other made_at p s (λ z. omega arith))

  free_removed : e ≡ entry p removed_at → freed_one e s ≡ without s p
  unfolding freed_one
  free_removed q = rw (q, entry_kind p removed_at (omega arith), entry_place p removed_at (omega arith)) (freed_removed removed_at p s refl)

module _ (log : List ℕ) {k : Room} {ρ χ : ℕ → ℕ} {n : Memory} where
  undo_one : (i : ℕ) (s t : Stored) → undone_one (get_or log i 0) s ≡ t → Stands k (undone log i t) n ρ χ → Stands k (undone log (suc i) s) n ρ χ
  unfolding undone
  undo_one i s t e R = subst (λ (u : Stored). Stands k (undone log i u) n ρ χ) (sym e) R

  -- ---- a failing test: "exactly as before the condition"
  pub undo_ok : {i : ℕ} {M m : Memory} → Logged ρ n log i M m → (s : Stored) → Stands k s M ρ χ → Stands k (undone log i s) n ρ χ
  unfolding undone without_cell without
  undo_ok none s R = R
  undo_ok (built {i} {M} c L l b e) s R =
      undo_one i s (without_cell s (ρ c.region)) (one_built _ (ρ c.region) s e) (undo_ok L (without_cell s (ρ c.region)) (unbuild_ok M c R l))
  undo_ok (made {i} {M} L C e) s R =
      undo_one i s (without s (ρ (suc M.made))) (one_made _ (ρ (suc M.made)) s e) (undo_ok L (without s (ρ (suc M.made))) (uncreate_ok M C R))
  undo_ok (removed {i} r L l b e) s R = undo_one i s s (one_removed _ (ρ r) s e) (undo_ok L s R)

-- ---- what was removed, and the regions that live without it
pub living : (ℕ → Bool) → List ℕ → ℕ → Bool
living a [] = a
living a (r ∷ rs) = living (put a r false) rs

-- each of a list is alive, once those before it are gone
pub Removable : (ℕ → Bool) → List ℕ → Type 0
Removable a [] = Unit {0}
Removable a (r ∷ rs) = (a r ≡ true) × Removable (put a r false) rs

put_at : (a b : ℕ → Bool) (r : ℕ) (v : Bool) (q : ℕ) → a q ≡ b q → put a r v q ≡ put b r v q
put_at a b r v q e = elim (ℕ_discrete r q) [
  | yes z ↦ rw (← z) (put_same a r v ∙ sym (put_same b r v))
  | no ne ↦ put_other a r v q ne ∙ e ∙ sym (put_other b r v q ne)
]

living_at : (rs : List ℕ) (a b : ℕ → Bool) (q : ℕ) → a q ≡ b q → living a rs q ≡ living b rs q
unfolding living
living_at [] a b q e = e
living_at (r ∷ rs) a b q e = living_at rs (put a r false) (put b r false) q (put_at a b r false q e)

-- the dead stay dead
living_dead : (rs : List ℕ) (a : ℕ → Bool) (q : ℕ) → a q ≡ false → living a rs q ≡ false
unfolding living
living_dead [] a q e = e
living_dead (r ∷ rs) a q e = living_dead rs (put a r false) q (dead (ℕ_discrete r q))
  where
    dead : Dec (r ≡ q) → put a r false q ≡ false
    dead (yes z) = rw (← z) (put_same a r false)
    dead (no ne) = put_other a r false q ne ∙ e

pub living_was : (rs : List ℕ) (a : ℕ → Bool) (q : ℕ) → living a rs q ≡ true → a q ≡ true
unfolding living
living_was [] a q e = e
living_was (r ∷ rs) a q e = (put_false a r q (living_was rs (put a r false) q e)).1

-- a region that is none of the removed lives on
living_new : (rs : List ℕ) (a b : ℕ → Bool) (q : ℕ) → Removable a rs → a q ≡ false → b q ≡ true → living b rs q ≡ true
unfolding living Removable
living_new [] a b q E d e = e
living_new (r ∷ rs) a b q E d e =
    let ne : r ≢ q = λ z. false≢true (sym d ∙ ap a (sym z) ∙ E.0) in
    living_new rs (put a r false) (put b r false) q E.1 (put_other a r false q ne ∙ d) (put_other b r false q ne ∙ e)

-- the same alive
removable_same : (rs : List ℕ) (a b : ℕ → Bool) → ((q : ℕ) → a q ≡ true → b q ≡ true) → Removable a rs → Removable b rs
unfolding Removable
removable_same [] a b e E = tt
removable_same (r ∷ rs) a b e E =
    (e r E.0, removable_same rs (put a r false) (put b r false) (λ q d. let z = put_false a r q d in put_other b r false q z.0 ∙ e q z.1) E.1)

-- a living one may go first
removable_first : (rs : List ℕ) (a : ℕ → Bool) (q : ℕ) → Removable a rs → living a rs q ≡ true → Removable (put a q false) rs
unfolding Removable living
removable_first [] a q E e = tt
removable_first (r ∷ rs) a q E e =
    let w = put_false a r q (living_was rs (put a r false) q e) in (
      put_other a q false r (λ z. w.0 (sym z)) ∙ E.0,
      removable_same rs (put (put a r false) q false) (put (put a q false) r false) swap (removable_first rs (put a r false) q E.1 e),
    )
  where
    swap : (p : ℕ) → put (put a r false) q false p ≡ true → put (put a q false) r false p ≡ true
    swap p d =
        let y = put_false (put a r false) q p d in
        let z = put_false a r p y.1 in
        put_other (put a q false) r false p z.0 ∙ put_other a q false p y.0 ∙ z.1

-- a region more, which is alive; a region less
dead_new : (M : Memory) → Closed M → (b : Bool) → M.alive (suc M.made) ≡ b → b ≡ false
dead_new M C true e = absurd (omega (arith, C.low (suc M.made) e))
dead_new M C false e = refl

dead : (M : Memory) → Closed M → M.alive (suc M.made) ≡ false
dead M C = dead_new M C _ refl

kept : (M : Memory) → M.alive (suc M.made) ≡ false → (q : ℕ) → M.alive q ≡ true → put M.alive (suc M.made) true q ≡ true
kept M d q a = put_other M.alive (suc M.made) true q (λ z. false≢true (sym d ∙ ap M.alive z ∙ a)) ∙ a

grown : (M m : Memory) (rs : List ℕ) → Removable M.alive rs → M.alive (suc M.made) ≡ false → m.made ≡ M.made
    → ((q : ℕ) → m.alive q ≡ living M.alive rs q) → (q : ℕ) → put m.alive (suc m.made) true q ≡ living (put M.alive (suc M.made) true) rs q
grown M m rs E d e a q = rw e (go (ℕ_discrete (suc M.made) q))
  where
    go : Dec (suc M.made ≡ q) → put m.alive (suc M.made) true q ≡ living (put M.alive (suc M.made) true) rs q
    go (yes z) =
        rw (← z) (put_same m.alive (suc M.made) true ∙ sym (living_new rs M.alive (put M.alive (suc M.made) true) (suc M.made) E d (put_same M.alive (suc M.made) true)))
    go (no ne) =
        put_other m.alive (suc M.made) true q ne ∙ a q ∙ living_at rs M.alive (put M.alive (suc M.made) true) q (sym (put_other M.alive (suc M.made) true q ne))

less : (M m : Memory) (rs : List ℕ) (r : ℕ) → ((q : ℕ) → m.alive q ≡ living M.alive rs q) → (q : ℕ) → put m.alive r false q ≡ living (put M.alive r false) rs q
less M m rs r a q = go (ℕ_discrete r q)
  where
    go : Dec (r ≡ q) → put m.alive r false q ≡ living (put M.alive r false) rs q
    go (yes z) = rw (← z) (put_same m.alive r false ∙ sym (living_dead rs (put M.alive r false) r (put_same M.alive r false)))
    go (no ne) = put_other m.alive r false q ne ∙ a q ∙ living_at rs M.alive (put M.alive r false) q (sym (put_other M.alive r false q ne))

-- ---- memory m is M without what was removed
pub record Without (M m : Memory) (rs : List ℕ) : Type 0 where
  pub cells : m.cells ≡ M.cells
  pub made : m.made ≡ M.made
  pub alive : (q : ℕ) → m.alive q ≡ living M.alive rs q
  pub removable : Removable M.alive rs

module _ {ρ : ℕ → ℕ} {n : Memory} {log : List ℕ} where
  pub removed_by : {i : ℕ} {M m : Memory} → Logged ρ n log i M m → List ℕ
  removed_by none = []
  removed_by (built c L l b e) = removed_by L
  removed_by (made L C e) = removed_by L
  removed_by (removed r L l b e) = r ∷ removed_by L

  pub without_logged : {i : ℕ} {M m : Memory} (L : Logged ρ n log i M m) → Without M m (removed_by L)
  unfolding removed_by living Removable with_cell with_region without_region
  without_logged none = record { cells = refl; made = refl; alive = λ q. refl; removable = tt }
  without_logged (built c L l b e) =
      let W = without_logged L in
      record { cells = ap (λ (cs : List RegionCell). cs ++ (c ∷ [])) W.cells; made = W.made; alive = W.alive; removable = W.removable }
  without_logged (made {M = M} {m = m} L C e) =
      let W = without_logged L in
      let d : M.alive (suc M.made) ≡ false = dead M C in
      record {
        cells = W.cells;
        made = ap suc W.made;
        alive = λ q. grown M m (removed_by L) W.removable d W.made W.alive q;
        removable = removable_same (removed_by L) M.alive (put M.alive (suc M.made) true) (λ q a. kept M d q a) W.removable;
      }
  without_logged (removed {M = M} {m = m} r L l b e) =
      let W = without_logged L in
      let a : living M.alive (removed_by L) r ≡ true = sym (W.alive r) ∙ l in
      record {
        cells = W.cells;
        made = W.made;
        alive = λ q. less M m (removed_by L) r W.alive q;
        removable = (living_was (removed_by L) M.alive r a, removable_first (removed_by L) M.alive r W.removable a);
      }

-- ---- the then part begins: "frees nothing before"
pub dropped_all : Memory → List ℕ → Memory
dropped_all M [] = M
dropped_all M (r ∷ rs) = dropped_all (without_region M r) rs

dropped_same : (M : Memory) (rs : List ℕ) → ((dropped_all M rs).cells ≡ M.cells) × ((dropped_all M rs).made ≡ M.made) × ((q : ℕ) → (dropped_all M rs).alive q ≡ living M.alive rs q)
unfolding dropped_all living without_region
dropped_same M [] = (refl, refl, λ q. refl)
dropped_same M (r ∷ rs) = dropped_same (without_region M r) rs

-- the words stand for every memory with the same cells and regions
module _ (k : Room) (h : Heap) (m rs : List ℕ) (ρ χ : ℕ → ℕ) where
  abbrev For : Memory → List RegionCell → ℕ → (ℕ → Bool) → Type 0
  For Y cs d a = Represents k h m rs (record { cells = cs; made = d; alive = a; printed = Y.printed }) ρ χ

  reprinted : (X Y : Memory) → Represents k h m rs X ρ χ → For Y X.cells X.made X.alive
  unfolding regions_held
  reprinted X Y R = record {
    own = R.own;
    reg = R.reg;
    cell_room = R.cell_room;
    region_room = R.region_room;
    labelled = R.labelled;
    low = R.low;
    made = R.made;
    lives = R.lives;
    apart = R.apart;
    spots = R.spots;
  }

  pub alike : (X Y : Memory) → X.cells ≡ Y.cells → X.made ≡ Y.made → ((q : ℕ) → X.alive q ≡ Y.alive q) → Represents k h m rs X ρ χ → Represents k h m rs Y ρ χ
  alike X Y ec em ea R =
      subst (λ (cs : List RegionCell). For Y cs Y.made Y.alive) ec
      (subst (λ (d : ℕ). For Y X.cells d Y.alive) em (subst (λ (a : ℕ → Bool). For Y X.cells X.made a) (fun_ext ea) (reprinted X Y R)))

module _ (log : List ℕ) {k : Room} {ρ χ : ℕ → ℕ} where
  free_one : (i : ℕ) (s t : Stored) (M : Memory) → freed_one (get_or log i 0) s ≡ t → Stands k (freed log i t) M ρ χ → Stands k (freed log (suc i) s) M ρ χ
  unfolding freed
  free_one i s t M e R = subst (λ (u : Stored). Stands k (freed log i u) M ρ χ) (sym e) R

  free_all : {n : Memory} {i : ℕ} {M m : Memory} (L : Logged ρ n log i M m) (s : Stored) (X : Memory) → Removable X.alive (removed_by L) → Stands k s X ρ χ
      → Stands k (freed log i s) (dropped_all X (removed_by L)) ρ χ
  unfolding freed without removed_by Removable dropped_all without_region
  free_all none s X E R = R
  free_all (built {i} c L l b e) s X E R = free_one i s s _ (free_built _ (ρ c.region) s e) (free_all L s X E R)
  free_all (made {i} {M} L C e) s X E R = free_one i s s _ (free_made _ (ρ (suc M.made)) s e) (free_all L s X E R)
  free_all (removed {i} r L l b e) s X E R =
      free_one i s (without s (ρ r)) _ (free_removed _ (ρ r) s e) (free_all L (without s (ρ r)) (without_region X r) E.1 (remove_ok R r E.0))

  pub free_ok : {n : Memory} {i : ℕ} {M m : Memory} → Logged ρ n log i M m → (s : Stored) → Stands k s M ρ χ → Stands k (freed log i s) m ρ χ
  free_ok {M = M} {m = m} L s R =
      let W = without_logged L in
      let D = dropped_same M (removed_by L) in
      alike k _ _ _ ρ χ (dropped_all M (removed_by L)) m (D.0 ∙ sym W.cells) (D.1 ∙ sym W.made) (λ q. D.2 q ∙ sym (W.alive q)) (free_all L s M W.removable R)

-- ---- the counts are the definition's
or_none : (a b : Bool) → b ≡ false → (a or b) ≡ a
unfolding ◌or◌
or_none true b e = refl
or_none false b e = e

module _ {ρ : ℕ → ℕ} {n : Memory} {log : List ℕ} where
  pub made_more : {i : ℕ} {M m : Memory} → Logged ρ n log i M m → n.made ≤ M.made
  unfolding with_cell with_region
  made_more none = omega arith
  made_more (built c L l b e) = made_more L
  made_more (made L C e) = omega (arith, made_more L)
  made_more (removed r L l b e) = made_more L

  counted_alive : {i : ℕ} {M m : Memory} → Logged ρ n log i M m → (q : ℕ) → q ≤ M.made → (n.alive q or ltb n.made q) ≡ M.alive q
  unfolding with_cell with_region
  counted_alive none q l = or_none (n.alive q) (ltb n.made q) (le-ltb n.made q l)
  counted_alive (built c L h b e) q l = counted_alive L q l
  counted_alive (made {M = M} L C e) q l = go (λ h. counted_alive L q h) (ℕ_discrete (suc M.made) q)
    where
      go : (q ≤ M.made → (n.alive q or ltb n.made q) ≡ M.alive q) → Dec (suc M.made ≡ q) → (n.alive q or ltb n.made q) ≡ put M.alive (suc M.made) true q
      go h (yes z) =
          true_or_right (n.alive q) (lt-ltb n.made q (omega (arith, made_more L)))
          ∙ sym (ap (put M.alive (suc M.made) true) (sym z) ∙ put_same M.alive (suc M.made) true)
      go h (no ne) = h (omega (arith, ne)) ∙ sym (put_other M.alive (suc M.made) true q ne)
  counted_alive (removed r L h b e) q l = counted_alive L q l

  module _ {i : ℕ} {M m : Memory} (L : Logged ρ n log i M m) (C : Closed M) (a : Goals) (f : RegionFrame) where
    pub cells_counted : cells_held (counted_in (opened a f n) m).alive (counted_in (opened a f n) m).cells ≡ cells_held M.alive M.cells
    unfolding counted_in
    cells_counted =
        rw (without_logged L).cells (held_same M.alive (λ q. n.alive q or ltb n.made q) M.made (λ q l. counted_alive L q l) M.cells C.made)

    pub regions_counted : regions_held (counted_in (opened a f n) m) ≡ regions_held M
    unfolding counted_in regions_held
    regions_counted =
        rw (without_logged L).made (alive_same M.alive (λ q. n.alive q or ltb n.made q) M.made 1 (λ q l u. counted_alive L q (omega arith)))

-- ---- a log that grows, and places of regions that are made later
pub logged_later : {ρ ρ' : ℕ → ℕ} {n : Memory} {log log' : List ℕ} {i : ℕ} {M m : Memory} → Logged ρ n log i M m → ((r : ℕ) → r ≤ M.made → ρ' r ≡ ρ r)
    → ((j : ℕ) → j < i → get_or log' j 0 ≡ get_or log j 0) → Logged ρ' n log' i M m
unfolding with_cell with_region
logged_later none t u = none
logged_later {log' = log'} (built {i} c L l b e) t u =
    built c (logged_later L t (λ j h. u j (omega arith))) l b (u i (omega arith) ∙ e ∙ ap (λ p. entry p built_in) (sym (t c.region b)))
logged_later (made {i} {M} L C e) t u =
    made (logged_later L (λ r h. t r (omega arith)) (λ j h. u j (omega arith))) C (u i (omega arith) ∙ e ∙ ap (λ p. entry p made_at) (sym (t (suc M.made) (omega arith))))
logged_later (removed {i} r L l b e) t u =
    removed r (logged_later L t (λ j h. u j (omega arith))) l b (u i (omega arith) ∙ e ∙ ap (λ p. entry p removed_at) (sym (t r b)))

module _ {ρ : ℕ → ℕ} {n : Memory} {log : List ℕ} {i : ℕ} {M m : Memory} (L : Logged ρ n log i M m) (room : i < length log) where
  grown_log : (e j : ℕ) → j < i → get_or (set log i e) j 0 ≡ get_or log j 0
  grown_log e j l = get_or-set_other log i j e 0 (λ z. omega arith)

  pub logs_cell : (c : RegionCell) → M.alive c.region ≡ true → c.region ≤ M.made
      → Logged ρ n (set log i (entry (ρ c.region) built_in)) (suc i) (with_cell M c) (with_cell m c)
  logs_cell c l b = built c (logged_later L (λ r h. refl) (grown_log _)) l b (get_or-set_same log i _ 0 room)

  pub logs_region : Closed M → (p : ℕ) → Logged (put ρ (suc M.made) p) n (set log i (entry p made_at)) (suc i) (with_region M) (with_region m)
  logs_region C p =
      made (logged_later L (λ r h. put_other ρ (suc M.made) p r (λ z. omega arith)) (grown_log _)) C
      (get_or-set_same log i _ 0 room ∙ ap (λ x. entry x made_at) (sym (put_same ρ (suc M.made) p)))

  pub logs_removal : (r : ℕ) → m.alive r ≡ true → r ≤ M.made → Logged ρ n (set log i (entry (ρ r) removed_at)) (suc i) M (without_region m r)
  logs_removal r l b = removed r (logged_later L (λ q h. refl) (grown_log _)) l b (get_or-set_same log i _ 0 room)
