-- What the mapping of regions does, by induction on its bound: where it answers images, they extend those that it was given, are regions
-- of one type, and follow along all edges of the regions that are new; where it answers two ways, some region has two.
-- `Way r u` stands for whatever is to be shown of each region and its image; it must go along edges.
use Prim.Native.Nat.{ℕ, zero, suc, ◌≤◌}
use Rattle.std.specs.Prelude.{Bool, ◌≢◌, ◌⊎◌, ◌≡◌, length}
use Rattle.std.proofs.Math.Bool.{true, false}
use mathlib.Core.List.{List, ◌∷◌, map, head-eq_of_cons-eq, tail-eq_of_cons-eq}
use Rattle.std.proofs.Math.Logic.{inl, ⊎_elim}
use Rattle.std.proofs.Common.{inr, ap, ◌∙◌, suc-ne-zero, le_trans, arith}
use Rattle.std.proofs.Math.Path.{refl, sym, ap₂}
use Rattle.std.proofs.Math.Decide.{ℕ_discrete}
use borrow.Author.Tests.{eqb-true, eqb-false}
use Rattle.std.proofs.Math.Dec.{eqb}
use Rattle.sets.specs.Size.{size}
use Rattle.language.specs.Lists.{put}
use Rattle.language.specs.Program.{Signature}
use Rattle.language.specs.Regions.{targets, Mapping, two_ways, images, pairs, after_mapping, map_each, agreeing, visit, map_region, regions_of, mapping}
use Rattle.region_graph.specs.Alike.{parameter_regions, Paired, paired_nil, paired_cons, paired_map, Matched, Alike, region_some}
use Rattle.region_graph.specs.Unmapped.{put_here, put_other, unmapped, unmapped_all, unmapped_falls, unmapped_shrinks, unmapped_none}

module _ (C Q : Signature) (Way : ℕ → ℕ → Type 0) where
  -- a pair that the mapping must hold
  pub record Due (r u : ℕ) : Type 0 where
    pub alike : Alike C Q r u
    pub way : Way r u

  -- an image: a region of the same type
  pub record Image (r u : ℕ) : Type 0 where
    pub matched : Matched C Q r u
    pub way : Way r u

  -- each region has none yet, or one
  abbrev pub Good : (ℕ → ℕ) → Type 0
  Good m = (r : ℕ) → (m r ≡ 0) ⊎ Image r (m r)

  -- some region has two images
  abbrev pub Dispute : Type 0
  Dispute = (r : ℕ) × (u : ℕ) × (v : ℕ) × (r ≢ 0) × Way r u × Way r v × (u ≢ v)

  -- k has the images of m, and those that it has besides follow along edges
  pub record Extends (m k : ℕ → ℕ) : Type 0 where
    pub kept : (q : ℕ) → m q ≢ 0 → k q ≡ m q
    pub good : Good k
    pub followed : (q : ℕ) → k q ≢ 0 → (m q ≢ 0) ⊎ (map k (targets Q q) ≡ targets C (k q))

  -- what is to be shown of an answer, where `Reached` is what was wished of the images
  abbrev pub MappingShown : (ℕ → ℕ) → ((ℕ → ℕ) → Type 0) → Mapping → Type 0
  MappingShown m Reached two_ways = Dispute
  MappingShown m Reached (images k) = Extends m k × Reached k

  -- ---- images that are kept
  pub none_mapped : (m : ℕ → ℕ) → Good m → m 0 ≡ 0
  none_mapped m g = ⊎_elim (λ p. p) (λ i. absurd (region_some Q 0 i.matched.callee refl)) (g 0)

  -- a pair that holds goes on holding, and so do several
  stays : (m k : ℕ → ℕ) → Extends m k → (r u : ℕ) → Alike C Q r u → m r ≡ u → k r ≡ u
  stays m k x r u (inl p) e = ap k p.0 ∙ none_mapped k x.good ∙ sym p.1
  stays m k x r u (inr h) e = x.kept r (λ z. region_some C u h.caller (sym e ∙ z)) ∙ e

  stay : (m k : ℕ → ℕ) → Extends m k → {rs us : List ℕ} → Paired (Alike C Q) rs us → map m rs ≡ us → map k rs ≡ us
  stay m k x paired_nil e = refl
  stay m k x (paired_cons h t) e =
      ap₂ ◌∷◌ (stays m k x _ _ h (head-eq_of_cons-eq e)) (stay m k x t (tail-eq_of_cons-eq e))

  extends_refl : (m : ℕ → ℕ) → Good m → Extends m m
  extends_refl m g = record { kept = λ q n. refl; good = g; followed = λ q n. inl n }

  -- ---- one answer after another
  after : (m : ℕ → ℕ) (R W : (ℕ → ℕ) → Type 0) (a : Mapping) (next : (ℕ → ℕ) → Mapping) → MappingShown m R a
      → ((k : ℕ → ℕ) → Extends m k → R k → MappingShown m W (next k)) → MappingShown m W (after_mapping a next)
  unfolding after_mapping
  after m R W two_ways next o h = o
  after m R W (images k) next o h = h k o.0 o.1

  -- a region that has an image, or is none, is asked whether it agrees
  agrees : (m : ℕ → ℕ) → Good m → (r u : ℕ) → Due r u → (m r ≡ 0 → m r ≡ u) → (b : Bool) → eqb (m r) u ≡ b
      → MappingShown m (λ k. k r ≡ u) (agreeing b m)
  unfolding agreeing
  agrees m g r u d h true e = (extends_refl m g, eqb-true (m r) u e)
  agrees m g r u d h false e =
      ⊎_elim (λ p. absurd (eqb-false (m r) u e (h p)))
      (λ i. (r, m r, u, region_some Q r i.matched.callee, i.way, d.way, eqb-false (m r) u e)) (g r)

  -- a region that has none yet goes on along its edges
  visits : (m : ℕ → ℕ) → Good m → (r u : ℕ) → Due r u → r ≢ 0 → (onward : Mapping) → (m r ≡ 0 → Image r u → MappingShown m (λ k. k r ≡ u) onward)
      → (v : ℕ) → m r ≡ v → MappingShown m (λ k. k r ≡ u) (visit v u m onward)
  unfolding visit
  visits m g r u d n onward h zero e =
      h e (⊎_elim (λ p. absurd (n p.0)) (λ i. record { matched = i; way = d.way }) d.alike)
  visits m g r u d n onward h (suc v) e =
      agrees m g r u d (λ z. absurd (suc-ne-zero v (sym e ∙ z))) (eqb (suc v) u) (ap (λ (w : ℕ). eqb w u) e)

  -- ---- r gets its first image
  put_good : (m : ℕ → ℕ) → Good m → (r u : ℕ) → Image r u → Good (put m r u)
  put_good m g r u i q = go (ℕ_discrete r q)
    where
      go : Dec (r ≡ q) → (put m r u q ≡ 0) ⊎ Image q (put m r u q)
      go (yes p) = rw (← p) (inr (rw (put_here m r u) i))
      go (no f) = rw (put_other m r u q f) (g q)

  first : (m : ℕ → ℕ) (r u : ℕ) → m r ≡ 0 → u ≢ 0 → (k : ℕ → ℕ) → Extends (put m r u) k → map k (targets Q r) ≡ targets C u
      → Extends m k × (k r ≡ u)
  first m r u z n k x e = (record { kept = older; good = x.good; followed = further }, here)
    where
      here : k r ≡ u
      here = x.kept r (λ q. n (sym (put_here m r u) ∙ q)) ∙ put_here m r u

      older : (q : ℕ) → m q ≢ 0 → k q ≡ m q
      older q i =
          let other = put_other m r u q (λ p. i (ap m (sym p) ∙ z)) in
          x.kept q (λ p. i (sym other ∙ p)) ∙ other

      newer : (q : ℕ) → Dec (r ≡ q) → put m r u q ≢ 0 → (m q ≢ 0) ⊎ (map k (targets Q q) ≡ targets C (k q))
      newer q (yes p) i = inr (rw (← p) (e ∙ ap (targets C) (sym here)))
      newer q (no f) i = inl (λ p. i (put_other m r u q f ∙ p))

      further : (q : ℕ) → k q ≢ 0 → (m q ≢ 0) ⊎ (map k (targets Q q) ≡ targets C (k q))
      further q i = ⊎_elim (newer q (ℕ_discrete r q)) (λ p. inr p) (x.followed q i)

  first_outcome : (m : ℕ → ℕ) (r u : ℕ) → m r ≡ 0 → u ≢ 0 → (a : Mapping) → MappingShown (put m r u) (λ k. map k (targets Q r) ≡ targets C u) a
      → MappingShown m (λ k. k r ≡ u) a
  first_outcome m r u z n two_ways o = o
  first_outcome m r u z n (images k) o = first m r u z n k o.0 o.1

  -- ---- edges lead in parallel
  module _ (along : (r u : ℕ) → Image r u → Paired Due (targets Q r) (targets C u)) where
    image_of_law : (m : ℕ → ℕ) → Good m → (r : ℕ) → m r ≢ 0 → Image r (m r)
    image_of_law m g r n = ⊎_elim (λ p. absurd (n p)) (λ i. i) (g r)

    extends_trans : (m k l : ℕ → ℕ) → Extends m k → Extends k l → Extends m l
    extends_trans m k l x y = record {
      kept = λ q n. y.kept q (λ z. n (sym (x.kept q n) ∙ z)) ∙ x.kept q n;
      good = y.good;
      followed = λ q n. ⊎_elim (older q) (λ e. inr e) (y.followed q n);
    }
      where
        parallel : (q : ℕ) → k q ≢ 0 → Paired (Alike C Q) (targets Q q) (targets C (k q))
        parallel q n = paired_map (λ r u (d : Due r u). d.alike) (along q (k q) (image_of_law k x.good q n))

        older : (q : ℕ) → k q ≢ 0 → (m q ≢ 0) ⊎ (map l (targets Q q) ≡ targets C (l q))
        older q n =
            ⊎_elim (λ p. inl p) (λ e. inr (stay k l y (parallel q n) e ∙ ap (targets C) (sym (y.kept q n)))) (x.followed q n)

    -- what follows from k on follows from m on
    widen : (m k : ℕ → ℕ) (R W : (ℕ → ℕ) → Type 0) → Extends m k → ((l : ℕ → ℕ) → Extends k l → R l → W l)
        → (a : Mapping) → MappingShown k R a → MappingShown m W a
    widen m k R W x h two_ways o = o
    widen m k R W x h (images l) o = (extends_trans m k l x o.0, h l o.0 o.1)

    -- a mapping of one pair, for at most n unmapped regions
    abbrev Maker : ℕ → (ℕ → ℕ → (ℕ → ℕ) → Mapping) → Type 0
    Maker n f = (r u : ℕ) (m : ℕ → ℕ) → Due r u → Good m → size (unmapped Q m) ≤ n → MappingShown m (λ k. k r ≡ u) (f r u m)

    module _ (few : length Q.regions ≤ 64) where
      -- several pairs in turn
      each : (n : ℕ) (f : ℕ → ℕ → (ℕ → ℕ) → Mapping) → Maker n f → {rs us : List ℕ} → Paired Due rs us
          → (m : ℕ → ℕ) → Good m → size (unmapped Q m) ≤ n → MappingShown m (λ k. map k rs ≡ us) (map_each f (pairs rs us) m)
      unfolding map_each pairs
      each n f s paired_nil m g l = (extends_refl m g, refl)
      each n f s (paired_cons {r = r} {u = u} {rs = rs} {us = us} d t) m g l =
          after m (λ k. k r ≡ u) (λ k. map k (r ∷ rs) ≡ u ∷ us) (f r u m) (λ k. map_each f (pairs rs us) k) (s r u m d g l)
          (λ k x e. widen m k (λ j. map j rs ≡ us) (λ j. map j (r ∷ rs) ≡ u ∷ us) x (λ j y q. ap₂ ◌∷◌ (stays k j y r u d.alike e) q)
          (map_each f (pairs rs us) k) (each n f s t k x.good (le_trans (unmapped_shrinks Q few m k x.kept) l)))

      -- a region with all that edges lead to from it
      onto : (n : ℕ) (f : ℕ → ℕ → (ℕ → ℕ) → Mapping) → Maker n f → (r u : ℕ) (m : ℕ → ℕ) → Due r u → Good m → size (unmapped Q m) ≤ suc n
          → r ≢ 0 → MappingShown m (λ k. k r ≡ u) (visit (m r) u m (map_each f (pairs (targets Q r) (targets C u)) (put m r u)))
      onto n f s r u m d g l p = visits m g r u d p (map_each f (pairs (targets Q r) (targets C u)) (put m r u)) fresh (m r) refl
        where
          fresh : m r ≡ 0 → Image r u → MappingShown m (λ k. k r ≡ u) (map_each f (pairs (targets Q r) (targets C u)) (put m r u))
          fresh z i =
              let some = region_some C u i.matched.caller in
              let falls = unmapped_falls Q few m r u i.matched.callee z some in
              first_outcome m r u z some (map_each f (pairs (targets Q r) (targets C u)) (put m r u))
              (each n f s (along r u i) (put m r u) (put_good m g r u i) (omega arith))

      pub region_outcome : (n : ℕ) → Maker n (λ r u m. map_region C Q n r u m)
      unfolding map_region
      region_outcome zero r u m d g l =
          agrees m g r u d
          (λ e. ⊎_elim (λ p. e ∙ sym p.1) (λ h. absurd (unmapped_none Q few m l r h.callee e)) d.alike) (eqb (m r) u) refl
      region_outcome (suc n) zero u m d g l =
          (extends_refl m g, none_mapped m g ∙ ⊎_elim (λ p. sym p.1) (λ h. absurd (region_some Q 0 h.callee refl)) d.alike)
      region_outcome (suc n) (suc r) u m d g l =
          onto n (λ q v k. map_region C Q n q v k) (region_outcome n) (suc r) u m d g l (suc-ne-zero r)

      -- the mapping of a call, from pairs of arguments' regions
      pub mapping_outcome : (ys : List ℕ) → Paired Due (parameter_regions Q) (regions_of C ys)
          → MappingShown (λ r. 0) (λ k. map k (parameter_regions Q) ≡ regions_of C ys) (mapping C Q ys)
      unfolding mapping
      mapping_outcome ys h =
          each (length Q.regions) (λ r u m. map_region C Q (length Q.regions) r u m) (region_outcome (length Q.regions)) h (λ r. 0)
          (λ r. inl refl) (unmapped_all Q few (λ r. 0))
