-- Reach by a worklist: the regions found so far, and those whose edges have been read, each once. Where the edges of all that are found are
-- read, they are the least set that has the region and is closed under edges, which is the definition's reach.
use Rattle.std.specs.Prelude.{ℕ, ◌-◌, ◌≤◌, ◌<◌, Bool, true, false, List, ◌⊎◌, ◌≡◌}
use Rattle.std.proofs.Common.{inl, inr, ⊎_elim, sym, ap, ◌∙◌, arith}
use Rattle.sets.specs.Tests.{◌&◌, truth, clash, and_true, true_and}
use Rattle.sets.specs.Sets.{member, empty_set, single, ◌∪◌, ◌∖◌, member_empty, single_mk, single_in, member_pos, union_left, union_right, union_in, difference_mk, difference_in, subset_mk}
use Rattle.sets.specs.SetLaws.{subset_antisym}
use Rattle.sets.specs.Members.{next_member, in_list}
use Rattle.sets.specs.Walk.{next_is}
use Rattle.sets.specs.Size.{size, size_top, size_lt}
use Rattle.sets.specs.declared.Set.{Set}
use Rattle.language.specs.Program.{Functor, Signature}
use Rattle.language.specs.Typing.{is_region}
use Rattle.language.specs.Regions.{targets, reach_from}
use Rattle.language.specs.Format.{max_regions, places}
use Rattle.region_graph.specs.Laws.{Declared}
use Rattle.region_graph.specs.Reach.{reach_closed}
use Rattle.region_graph.specs.Typed.{region_in_law}
use Rattle.windows.specs.Targets.{set_at, Between}

-- the edges of the regions in x, and of no others, are read
pub record ReadJust (read x : Set) : Type 0 where
  pub all : (n : ℕ) → n ≤ max_regions → member x n ≡ true → member read n ≡ true
  pub only : (n : ℕ) → member read n ≡ true → member x n ≡ true

-- ---- the worklist from region r, where `next u` is where u's edges lead
pub record Reading (next : ℕ → Set) (r : ℕ) (found read : Set) : Type 0 where
  pub start : 1 ≤ r → r ≤ max_regions → member found r ≡ true
  pub closed : (u t : ℕ) → member read u ≡ true → member (next u) t ≡ true → member found t ≡ true
  pub only : (u : ℕ) → member read u ≡ true → member found u ≡ true
  pub least : (holds : ℕ → Bool) → holds r ≡ true → ((u t : ℕ) → holds u ≡ true → member (next u) t ≡ true → holds t ≡ true)
      → (u : ℕ) → member found u ≡ true → holds u ≡ true

module _ {next : ℕ → Set} {r : ℕ} where
  -- no edges are read at first
  first : Reading next r (single r) empty_set
  first = record {
    start = single_mk r;
    closed = λ u t m. absurd (clash m (member_empty u));
    only = λ u m. absurd (clash m (member_empty u));
    least = λ holds h onward u m. ap holds (sym (single_in r u m)) ∙ h;
  }

  pub starts : {found read : Set} → found ≡ single r → read ≡ empty_set → Reading next r found read
  starts e d = rw (e, d) first

  -- u is next: the lowest region that is found and whose edges are not read
  module _ {found read : Set} (h : Reading next r found read) {u : ℕ} (g : u ≡ next_member (found ∖ read) 0) where
    pub is_next : u < places → (1 ≤ u) × (member found u ≡ true) × (member read u ≡ false)
    is_next l =
        let x = next_is (found ∖ read) 0 in
        let n = x.low in
        let d = difference_in found read u (rw g (x.found (rw (← g) l))) in
        (omega (arith, g), d.0, d.1)

    -- none is left: what is found is read
    all_read : places ≤ u → (n : ℕ) → n ≤ max_regions → member found n ≡ true → member read n ≡ true
    all_read l n k m = go (truth (member read n))
      where
        go : (member read n ≡ true) ⊎ (member read n ≡ false) → member read n ≡ true
        go (inl p) = p
        go (inr p) =
            let d = difference_mk found read n m p in
            absurd (clash d ((next_is (found ∖ read) 0).none n (member_pos (found ∖ read) n d) (omega (arith, g))))

    pub just_read : places ≤ u → ReadJust read found
    just_read l = record { all = all_read l; only = h.only }

    -- u's edges are read
    turn : u < places → Reading next r (found ∪ next u) (read ∪ single u)
    turn l = record {
      start = λ a b. union_left found _ r (h.start a b);
      closed = λ v t m i. ⊎_elim (λ p. union_left found _ t (h.closed v t p i)) (λ q. union_right found _ t (ap (λ (x : ℕ). member (next x) t) (single_in u v q) ∙ i)) (union_in read _ v m);
      only = λ v m. ⊎_elim (λ p. union_left found _ v (h.only v p)) (λ q. union_left found _ v (ap (member found) (sym (single_in u v q)) ∙ (is_next l).1)) (union_in read _ v m);
      least = λ holds o onward v m. ⊎_elim (h.least holds o onward v) (onward u v (h.least holds o onward u (is_next l).1)) (union_in found _ v m);
    }

    -- one more is read
    more_read : u < places → size read < size (read ∪ single u)
    more_read l =
        let x = is_next l in
        size_lt read (read ∪ single u) u (subset_mk _ _ (λ v. union_left read _ v)) x.2 (union_right read _ u (single_mk u x.0 (omega arith))) (omega arith)

    -- the same in the code's terms
    pub goes : u < places → {found'' read'' s : Set} → s ≡ next u → found'' ≡ found ∪ s → read'' ≡ read ∪ single u
        → Reading next r found'' read'' × (max_regions - size read'' < max_regions - size read)
    goes l i j k = rw (k, j, i) (turn l, omega (arith, more_read l, size_top (read ∪ single u)))

-- ---- the definition's reach
module _ {t : List ℕ} {r u : ℕ} {found read : Set} (h : Reading (set_at t) r found read) (j : u ≡ next_member (found ∖ read) 0) (l : places ≤ u)
    (T : List (List Functor)) (S : Signature) (d : Declared T S) (q : Between S t) where
  leads : (u t : ℕ) → is_region S u ≡ true → in_list t (targets S u) ≡ true → is_region S t ≡ true
  leads u t i m = (d.onward u t i m).0

  -- what is reached from u is reached from r, where u is
  further : (u v : ℕ) → is_region S r ≡ true → member (reach_from S r) u ≡ true → member (reach_from S u) v ≡ true → member (reach_from S r) v ≡ true
  further u v g m i = d.least u (member (reach_from S r)) m (λ a b k n. reach_closed S d.regions leads r a b g k n) v i

  home : (v : ℕ) → is_region S v ≡ true → (1 ≤ v) × (v ≤ max_regions)
  home v i = let x = region_in_law S v i in (x.0, omega (arith, d.regions))

  pub reached : is_region S r ≡ true → found ≡ reach_from S r
  reached g = subset_antisym found (reach_from S r) (subset_mk _ _ inside) (subset_mk _ _ outside)
    where
      stays : (u v : ℕ) → member (reach_from S r) u ≡ true → member (set_at t u) v ≡ true → member (reach_from S r) v ≡ true
      stays u v m i = further u v g m (q.high u v (d.ranged r u g m) i)

      inside : (v : ℕ) → member found v ≡ true → member (reach_from S r) v ≡ true
      inside = h.least (member (reach_from S r)) (d.self r g) stays

      onward : (u t : ℕ) → (member found u & is_region S u) ≡ true → in_list t (targets S u) ≡ true → (member found t & is_region S t) ≡ true
      onward w v m i =
          let a = and_true m in
          let b = leads w v a.1 i in
          let y = home w a.1 in
          true_and (h.closed w v (all_read h j l w y.1 a.0) (q.low w v a.1 i)) b

      outside : (v : ℕ) → member (reach_from S r) v ≡ true → member found v ≡ true
      outside v m =
          (and_true (d.least r (λ w. member found w & is_region S w) (true_and (let x = home r g in h.start x.0 x.1) g) onward v m)).0
