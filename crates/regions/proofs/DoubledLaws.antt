-- Laws of `specs/Doubled` that only proofs cite.
use Prim.Native.Nat.{ℕ, ◌≤◌, ◌<◌}
use native.Mathlib.Omega.{arith}
use native.Mathlib.Decide.{dec_lt, ℕ_discrete}
use mathlib.Core.Bool.{true}
use mathlib.Core.Logic.{⊎_elim}
use mathlib.Core.List.{List, [], ◌∷◌}
use mathlib.Core.Path.{◌≡◌, refl, sym, ap, ◌∙◌}
use Rattle.sets.specs.Tests.{clash}
use Rattle.sets.specs.Sets.{member, empty_set, single, ◌∪◌, ◌∩◌, member_pos, member_empty, single_mk, single_in, union_left, union_right, union_in, intersection_mk, intersection_in}
use Rattle.sets.specs.Members.{members, next_member, in_list, nil_in}
use Rattle.sets.specs.Walk.{above, next_is, above_start, above_end, above_next, above_mk}
use Rattle.sets.specs.declared.Set.{Set}
use Rattle.language.specs.Format.{max_regions, places}
use Rattle.regions.specs.Doubled.{Doubled, Meet, Shared}

-- the first of the members above n, and those above it
above_takes : (s : Set) (n : ℕ) {x : ℕ} {rest : List ℕ} → above s n ≡ x ∷ rest → (next_member s n ≡ x) × (x < places) × (rest ≡ above s x)
above_takes s n {x} {rest} e = go (dec_lt (next_member s n) places)
  where
    go : Dec (next_member s n < places) → (next_member s n ≡ x) × (x < places) × (rest ≡ above s x)
    go (yes l) =
        let t = above_next s n (next_member s n) refl l in
        let i : next_member s n ≡ x = cc in
        let j : rest ≡ above s (next_member s n) = cc in
        (i, rw i at l, j ∙ ap (above s) i)
    go (no l) =
        let t = above_end s n (let k = (next_is s n).top in omega arith) in
        absurd (let w : ◌≡◌ {A = ℕ} 0 1 = cc in omega arith)

-- the members up to `done` are seen; `left` are those above
pub record Seeing (m : ℕ → ℕ) (rs seen twice : Set) (left : List ℕ) : Type 0 where
  pub done : ℕ
  pub above_done : left ≡ above rs done
  pub seen_in : (n : ℕ) → member seen n ≡ true → (k : ℕ) × (member rs k ≡ true) × (k ≤ done) × (m k ≡ n)
  pub seen_mk : (k : ℕ) → member rs k ≡ true → k ≤ done → 1 ≤ m k → m k ≤ max_regions → member seen (m k) ≡ true
  pub only : (n : ℕ) → member twice n ≡ true → Shared m rs n
  pub all : (a b : ℕ) → Meet m rs a b → b ≤ done → member twice (m a) ≡ true

module _ (m : ℕ → ℕ) (rs : Set) where
  pub see_first : {left : List ℕ} → left ≡ members rs → Seeing m rs empty_set empty_set left
  see_first e =
      record {
        done = 0;
        above_done = e ∙ sym (above_start rs);
        seen_in = λ n i. absurd (clash i (member_empty n));
        seen_mk = λ k i l. let p = member_pos rs k i in absurd (omega arith);
        only = λ n i. absurd (clash i (member_empty n));
        all = λ a b h l. let p = member_pos rs a h.a_in in let o = h.order in absurd (omega arith);
      }

  module _ {seen twice : Set} {left : List ℕ} (h : Seeing m rs seen twice left) where
    pub see_last : left ≡ [] → Doubled m rs twice
    see_last e = record { only = h.only; all = λ a b g t. h.all a b g (all_done b g.b_in t (dec_lt h.done b)) }
      where
        all_done : (k : ℕ) → member rs k ≡ true → k ≤ max_regions → Dec (h.done < k) → k ≤ h.done
        all_done k i t (yes g) = absurd (nil_in k (ap (in_list k) (sym e ∙ h.above_done) ∙ above_mk rs h.done k i g t))
        all_done k i t (no g) = omega arith

    module _ {x : ℕ} {rest : List ℕ} (l : left ≡ x ∷ rest) where
      takes : (next_member rs h.done ≡ x) × (x < places) × (rest ≡ above rs x)
      takes = above_takes rs h.done (sym h.above_done ∙ l)

      here : member rs x ≡ true
      here = rw (← takes.0) ((next_is rs h.done).found (rw takes.0 takes.1))

      done_before : h.done < x
      done_before = let n = (next_is rs h.done).low in omega (arith, takes.0, takes.1)

      -- a member below the next one is done
      is_done : (k : ℕ) → member rs k ≡ true → k < x → k ≤ h.done
      is_done k i b = go (dec_lt h.done k)
        where
          go : Dec (h.done < k) → k ≤ h.done
          go (yes g) = absurd (clash i ((next_is rs h.done).none k g (omega (arith, takes.0))))
          go (no g) = omega arith

      seen_in_more : (n : ℕ) → member (seen ∪ single (m x)) n ≡ true → (k : ℕ) × (member rs k ≡ true) × (k ≤ x) × (m k ≡ n)
      seen_in_more n i =
          ⊎_elim (λ p. let r = h.seen_in n p in (r.0, r.1, (let d = done_before in omega arith), r.3))
          (λ q. (x, here, omega arith, single_in (m x) n q)) (union_in seen (single (m x)) n i)

      seen_mk_more : (k : ℕ) → member rs k ≡ true → k ≤ x → 1 ≤ m k → m k ≤ max_regions → member (seen ∪ single (m x)) (m k) ≡ true
      seen_mk_more k i t a b = go (ℕ_discrete k x)
        where
          go : Dec (k ≡ x) → member (seen ∪ single (m x)) (m k) ≡ true
          go (yes z) = union_right seen (single (m x)) (m k) (rw (← z) (single_mk (m k) a b))
          go (no z) = union_left seen (single (m x)) (m k) (h.seen_mk k i (is_done k i (omega (arith, z))) a b)

      only_more : (n : ℕ) → member (twice ∪ (seen ∩ single (m x))) n ≡ true → Shared m rs n
      only_more n i = ⊎_elim (h.only n) again (union_in twice (seen ∩ single (m x)) n i)
        where
          again : member (seen ∩ single (m x)) n ≡ true → Shared m rs n
          again q =
              let p = intersection_in seen (single (m x)) n q in
              let r = h.seen_in n p.0 in
              record {
                one = r.0;
                two = x;
                one_in = r.1;
                two_in = here;
                order = let d = done_before in omega (arith, r.2);
                top = omega (arith, takes.1);
                image_one = r.3;
                image_two = single_in (m x) n p.1;
              }

      all_more : (a b : ℕ) → Meet m rs a b → b ≤ x → member (twice ∪ (seen ∩ single (m x))) (m a) ≡ true
      all_more a b g t = go (ℕ_discrete b x)
        where
          go : Dec (b ≡ x) → member (twice ∪ (seen ∩ single (m x))) (m a) ≡ true
          go (yes z) =
              let e : m x ≡ m a = ap m (sym z) ∙ sym g.same in
              union_right twice (seen ∩ single (m x)) (m a)
              (intersection_mk seen (single (m x)) (m a) (h.seen_mk a g.a_in (is_done a g.a_in (let o = g.order in omega arith)) g.low g.top)
              (rw e (single_mk (m a) g.low g.top)))
          go (no z) = union_left twice (seen ∩ single (m x)) (m a) (h.all a b g (is_done b g.b_in (omega (arith, z))))

      pub see_more : {one again twice' seen' : Set} → one ≡ single (m x) → again ≡ seen ∩ one → twice' ≡ twice ∪ again → seen' ≡ seen ∪ one
          → Seeing m rs seen' twice' rest
      see_more i j k o =
          rw (k, j, o, i)
          (record { done = x; above_done = takes.2; seen_in = seen_in_more; seen_mk = seen_mk_more; only = only_more; all = all_more })
