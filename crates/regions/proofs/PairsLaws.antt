-- What a turn of the code does to the definition's mapping, whatever bound of the unmapped regions it takes.
use Prim.Native.Nat.{ℕ, zero, suc, ◌+◌, ◌≤◌, ◌<◌}
use native.Mathlib.Decide.{ℕ_discrete}
use native.Mathlib.Nat.{le_trans}
use native.Mathlib.Omega.{arith}
use mathlib.Core.Bool.{Bool, true, false}
use mathlib.Core.List.{List, ◌∷◌, []}
use mathlib.Core.Logic.{◌≢◌, ◌⊎◌, inl, inr, ⊎_elim}
use mathlib.Core.Path.{◌≡◌, refl, sym, ap, ◌∙◌, fun_ext}
use borrow.Author.Tests.{eq-eqb}
use lib.Dec.{eqb}
use lib.ListN.{length, get_or, set, length-set}
use lib.Seq.{get_or-set_same, get_or-set_other}
use Rattle.sets.specs.Size.{size}
use Rattle.language.specs.File
use Rattle.language.specs.Format.{max_regions, places}
use Rattle.language.specs.Lists.{put}
use Rattle.language.specs.Program.{Signature}
use Rattle.language.specs.Typing.{is_region}
use Rattle.language.specs.Regions.{targets, targets_in, Mapping, pairs, after_mapping, map_each, agreeing, visit, map_region}
use Rattle.region_graph.specs.Typed.{region_in_law, regions_few}
use Rattle.region_graph.specs.Alike.{Paired, paired_cons, Alike, targets_alike}
use Rattle.region_graph.specs.Unmapped.{put_here, put_other, unmapped, unmapped_falls, unmapped_shrinks, unmapped_none}
use Rattle.chains.specs.Formed.{Stands, edges_at}
use Rattle.tables.specs.Window.{Window, edges_in}
use Rattle.regions.specs.Pairs.{Grown, ImageTable, ListsMapped, RegionMapped, Sides, Standing, answer, images_in}

-- ---- images are kept, and 0 has none
pub grown_refl : (t : List ℕ) → Grown t t
grown_refl t = record { first = refl; kept = λ q n. refl }

pub grown_trans : {t u v : List ℕ} → Grown t u → Grown u v → Grown t v
grown_trans a b = record {
  first = b.first ∙ a.first;
  kept = λ q n. b.kept q (λ z. n (sym (a.kept q n) ∙ z)) ∙ a.kept q n;
}

pub grown_set : (t : List ℕ) (r u : ℕ) → r ≢ 0 → get_or t r 0 ≡ 0 → Grown t (set t r u)
grown_set t r u n z = record {
  first = get_or-set_other t r 0 u 0 (λ e. n (sym e));
  kept = λ q m. get_or-set_other t r q u 0 (λ e. m (ap (λ (x : ℕ). get_or t x 0) e ∙ z));
}

-- ---- places without an image: they fall in number
unfoldable pub bare : ℕ → ℕ
bare zero = 1
bare (suc x) = 0

unfoldable pub zeros : List ℕ → ℕ
zeros [] = 0
zeros (x ∷ xs) = bare x + zeros xs

bare_falls : (x y : ℕ) → (x ≢ 0 → y ≡ x) → bare y ≤ bare x
unfolding bare
bare_falls zero zero h = omega arith
bare_falls zero (suc y) h = omega arith
bare_falls (suc x) y h = rw (h (λ z. absurd (omega arith))) (omega arith)

zeros_kept : (t t' : List ℕ) → length t' ≡ length t → ((q : ℕ) → get_or t q 0 ≢ 0 → get_or t' q 0 ≡ get_or t q 0) → zeros t' ≤ zeros t
unfolding zeros
zeros_kept [] [] e h = omega arith
zeros_kept [] (y ∷ ys) e h = absurd (omega arith)
zeros_kept (x ∷ xs) [] e h = absurd (omega arith)
zeros_kept (x ∷ xs) (y ∷ ys) e h = omega (arith, bare_falls x y (h 0), zeros_kept xs ys (omega arith) (λ q. h (suc q)))

pub zeros_grown : {t t' : List ℕ} → length t' ≡ length t → Grown t t' → zeros t' ≤ zeros t
zeros_grown {t} {t'} e g = zeros_kept t t' e g.kept

bare_zero : {x : ℕ} → x ≡ 0 → bare x ≡ 1
unfolding bare
bare_zero e = ap bare e

bare_some : (x : ℕ) → x ≢ 0 → bare x ≡ 0
unfolding bare
bare_some zero n = absurd (n refl)
bare_some (suc x) n = refl

pub zeros_set : (t : List ℕ) (r u : ℕ) → r < length t → get_or t r 0 ≡ 0 → u ≢ 0 → zeros (set t r u) < zeros t
unfolding zeros
zeros_set [] r u l e n = absurd (omega arith)
zeros_set (x ∷ xs) zero u l e n = omega (arith, bare_zero e, bare_some u n)
zeros_set (x ∷ xs) (suc r) u l e n = omega (arith, zeros_set xs r u (omega arith) e n)

-- ---- what the mapping goes by
-- the code has read where region r's edges start
module _ (f t : List ℕ) (r : ℕ) {i : ℕ} (e : i ≡ edges_in t r) where
  pub edges_stand : Standing f t → Stands f File.edges i
  edges_stand h = rw e (h.edges r)

  targets_same : {S : Signature} → Window f S t → targets_in (edges_at f i) ≡ targets S r
  unfolding targets
  targets_same h = ap (λ (j : ℕ). targets_in (edges_at f j)) e ∙ ap targets_in (h.edges r)

-- in a loop: from the rest rs, us and the table t on, the mapping is that of the whole
abbrev pub RestMapped : List ℕ → List ℕ → List ℕ → List ℕ → List ℕ → List ℕ → List ℕ → List ℕ → List ℕ → Type 0
RestMapped f own theirs rs₀ us₀ t₀ rs us t =
    (C Q : Signature) → Sides f C Q own theirs → Paired (Alike C Q) rs₀ us₀ → (n : ℕ) → ImageTable Q t₀ n
    → Paired (Alike C Q) rs us × ImageTable Q t n
    × (map_each (λ q v k. map_region C Q n q v k) (pairs rs us) (images_in t) ≡ map_each (λ q v k. map_region C Q n q v k) (pairs rs₀ us₀) (images_in t₀))

ready_grown : {Q : Signature} {t t' : List ℕ} {n : ℕ} → length Q.regions ≤ max_regions → length t' ≡ length t → Grown t t' → ImageTable Q t n → ImageTable Q t' n
unfolding images_in
ready_grown {Q} {t} {t'} few e g h = record {
  room = e ∙ h.room;
  first = g.first ∙ h.first;
  few = le_trans (unmapped_shrinks Q few (images_in t) (images_in t') g.kept) h.few;
}

paired_head : {R : ℕ → ℕ → Type 0} {r u : ℕ} {rs us : List ℕ} → Paired R (r ∷ rs) (u ∷ us) → R r u × Paired R rs us
paired_head (paired_cons h t) = (h, t)

-- ---- the definition, one case at a time
same_answer : (b : Bool) (t : List ℕ) → agreeing b (images_in t) ≡ answer b t
unfolding agreeing answer
same_answer true t = refl
same_answer false t = refl

visit_some : (w v u : ℕ) (m : ℕ → ℕ) (onward : Mapping) → w ≡ v → v ≢ 0 → visit w u m onward ≡ agreeing (eqb v u) m
unfolding visit
visit_some zero v u m o q z = absurd (z (sym q))
visit_some (suc w) v u m o q z = ap (λ (x : ℕ). agreeing (eqb x u) m) q

visit_none : (w u : ℕ) (m : ℕ → ℕ) (onward : Mapping) → w ≡ 0 → visit w u m onward ≡ onward
unfolding visit
visit_none zero u m o e = refl
visit_none (suc w) u m o e = absurd (omega arith)

module _ (C Q : Signature) (t : List ℕ) where
  map_nowhere : (n r u : ℕ) → r ≡ 0 → u ≡ 0 → get_or t 0 0 ≡ 0 → map_region C Q n r u (images_in t) ≡ answer true t
  unfolding map_region agreeing answer images_in
  map_nowhere zero r u e g z = rw (e, g) (ap (λ (b : Bool). agreeing b (images_in t)) (eq-eqb (get_or t 0 0) 0 z))
  map_nowhere (suc n) r u e g z = rw e refl

  map_again : (n r u v : ℕ) → r ≢ 0 → get_or t r 0 ≡ v → v ≢ 0 → map_region C Q n r u (images_in t) ≡ agreeing (eqb v u) (images_in t)
  unfolding map_region images_in
  map_again zero r u v p q z = ap (λ (x : ℕ). agreeing (eqb x u) (images_in t)) q
  map_again (suc n) zero u v p q z = absurd (p refl)
  map_again (suc n) (suc r) u v p q z = visit_some (get_or t (suc r) 0) v u (images_in t) _ q z

  map_new : (n r u : ℕ) → r ≢ 0 → get_or t r 0 ≡ 0
      → map_region C Q (suc n) r u (images_in t) ≡ map_each (λ q v k. map_region C Q n q v k) (pairs (targets Q r) (targets C u)) (put (images_in t) r u)
  unfolding map_region images_in
  map_new n zero u p q = absurd (p refl)
  map_new n (suc r) u p q = visit_none (get_or t (suc r) 0) u (images_in t) _ q

-- an image is put into the function that the table stands for
placed_at : (t : List ℕ) (r u q : ℕ) → r < length t → Dec (r ≡ q) → put (images_in t) r u q ≡ images_in (set t r u) q
unfolding images_in
placed_at t r u q l (yes e) =
    ap (put (images_in t) r u) (sym e) ∙ put_here (images_in t) r u ∙ sym (get_or-set_same t r u 0 l) ∙ ap (λ (w : ℕ). get_or (set t r u) w 0) e
placed_at t r u q l (no e) = put_other (images_in t) r u q e ∙ sym (get_or-set_other t r q u 0 (λ g. e (sym g)))

placed : (t : List ℕ) (r u : ℕ) → r < length t → put (images_in t) r u ≡ images_in (set t r u)
placed t r u l = fun_ext (λ q. placed_at t r u q l (ℕ_discrete r q))

image_is : (t : List ℕ) (r : ℕ) → images_in t r ≡ get_or t r 0
unfolding images_in
image_is t r = refl

ready_set : (Q : Signature) (t : List ℕ) (r u n : ℕ) → length Q.regions ≤ max_regions → is_region Q r ≡ true → r ≢ 0 → u ≢ 0 → get_or t r 0 ≡ 0
    → length t ≡ places
    → get_or t 0 0 ≡ 0 → r < length t → size (unmapped Q (images_in t)) ≤ suc n → ImageTable Q (set t r u) n
ready_set Q t r u n few i p o z a b l g = record {
  room = length-set t r u ∙ a;
  first = (grown_set t r u p z).first ∙ b;
  few =
      (let q = unmapped_falls Q few (images_in t) r u i (image_is t r ∙ z) o in
      omega (arith, ap (λ (m : ℕ → ℕ). size (unmapped Q m)) (placed t r u l)));
}

none_new : (Q : Signature) (t : List ℕ) (r : ℕ) → length Q.regions ≤ max_regions → is_region Q r ≡ true → get_or t r 0 ≡ 0 → size (unmapped Q (images_in t)) ≤ 0
    → ⊥
unfolding images_in
none_new Q t r few i z g = unmapped_none Q few (images_in t) g r i z

no_pairs : (rs us t : List ℕ) (F : ℕ → ℕ → (ℕ → ℕ) → Mapping) → (rs ≡ []) ⊎ (us ≡ []) → map_each F (pairs rs us) (images_in t) ≡ answer true t
unfolding pairs map_each answer
no_pairs [] us t F e = refl
no_pairs (r ∷ rs) [] t F e = refl
no_pairs (r ∷ rs) (u ∷ us) t F (inl e) = absurd (omega (arith, ap length e))
no_pairs (r ∷ rs) (u ∷ us) t F (inr e) = absurd (omega (arith, ap length e))

-- ---- one pair
module _ (f own theirs : List ℕ) where
  -- neither is a region
  pub region_none : (r u : ℕ) (t : List ℕ) → (r ≡ 0) ⊎ ((u ≡ 0) ⊎ (length t ≤ r)) → RegionMapped f own theirs r u t true t
  region_none r u t h C Q s (inl p) n k = map_nowhere C Q t n r u p.0 p.1 k.first
  region_none r u t h C Q s (inr m) n k =
      let i = region_in_law Q r m.callee in
      let j = region_in_law C u m.caller in
      let l = regions_few s.types Q s.ok_q in
      absurd (⊎_elim (λ z. omega arith) (⊎_elim (λ z. omega arith) (λ z. omega (arith, k.room))) h)

  -- r has an image already
  pub region_again : (r u : ℕ) (t : List ℕ) {v : ℕ} {b : Bool} → r ≢ 0 → v ≡ get_or t r 0 → v ≢ 0 → b ≡ eqb v u → RegionMapped f own theirs r u t b t
  region_again r u t {v} {b} p e z g C Q s a n k =
      map_again C Q t n r u v p (sym e) z ∙ ap (λ (x : Bool). agreeing x (images_in t)) (sym g) ∙ same_answer b t

  -- r gets its first image, and its edges are gone along
  pub region_new : (r u : ℕ) (t : List ℕ) {i j : ℕ} (b : Bool) (t' : List ℕ) → r ≢ 0 → u ≢ 0 → r < length t → get_or t r 0 ≡ 0
      → i ≡ edges_in theirs r → j ≡ edges_in own u
      → ListsMapped f own theirs (targets_in (edges_at f i)) (targets_in (edges_at f j)) (set t r u) b t' → RegionMapped f own theirs r u t b t'
  region_new r u t b t' p o l z x y h C Q s (inl a) n k = absurd (p a.0)
  region_new r u t {i} {j} b t' p o l z x y h C Q s (inr m) n k = at n k
    where
      few : length Q.regions ≤ max_regions
      few = regions_few s.types Q s.ok_q

      rs : targets_in (edges_at f i) ≡ targets Q r
      rs = targets_same f theirs r x s.at_q

      us : targets_in (edges_at f j) ≡ targets C u
      us = targets_same f own u y s.at_c

      onward : (n : ℕ) → ImageTable Q (set t r u) n
          → map_each (λ q v k. map_region C Q n q v k) (pairs (targets Q r) (targets C u)) (images_in (set t r u)) ≡ answer b t'
      onward n g =
          rw (rs, us) at (h C Q s (rw (rs, us) (targets_alike s.types C Q s.ok_c s.ok_q r u m)) n g)

      at : (n : ℕ) → ImageTable Q t n → map_region C Q n r u (images_in t) ≡ answer b t'
      at zero k = absurd (none_new Q t r few m.callee z k.few)
      at (suc n) k =
          map_new C Q t n r u p z
          ∙ ap (λ (w : ℕ → ℕ). map_each (λ q v k. map_region C Q n q v k) (pairs (targets Q r) (targets C u)) w) (placed t r u l)
          ∙ onward n (ready_set Q t r u n few m.callee p o z k.room k.first l k.few)

  -- ---- several pairs
  module _ {rs₀ us₀ t₀ rs us t : List ℕ} (h : RestMapped f own theirs rs₀ us₀ t₀ rs us t) where
    pub rest_next : {r u : ℕ} {rs' us' t' : List ℕ} {b : Bool} → rs ≡ r ∷ rs' → us ≡ u ∷ us' → RegionMapped f own theirs r u t b t' → b ≡ true
        → length t' ≡ length t → Grown t t' → RestMapped f own theirs rs₀ us₀ t₀ rs' us' t'
    unfolding pairs map_each answer after_mapping
    rest_next {r} {u} {rs'} {us'} {t'} {b} e g m z l w C Q s p n k =
        let d = h C Q s p n k in
        let q = paired_head (rw (e, g) at d.0) in
        let one = m C Q s q.0 n d.1 ∙ ap (λ (x : Bool). answer x t') z in (
          q.1,
          ready_grown (regions_few s.types Q s.ok_q) l w d.1,
          sym (ap (λ (a : Mapping). after_mapping a (λ k. map_each (λ q v k. map_region C Q n q v k) (pairs rs' us') k)) one) ∙ (rw (e, g) at d.2),
        )

    pub rest_stops : {r u : ℕ} {rs' us' : List ℕ} {b : Bool} (t' : List ℕ) → rs ≡ r ∷ rs' → us ≡ u ∷ us' → RegionMapped f own theirs r u t b t' → b ≡ false
        → ListsMapped f own theirs rs₀ us₀ t₀ false t'
    unfolding pairs map_each answer after_mapping
    rest_stops {r} {u} {rs'} {us'} {b} t' e g m z C Q s p n k =
        let d = h C Q s p n k in
        let q = paired_head (rw (e, g) at d.0) in
        let one = m C Q s q.0 n d.1 ∙ ap (λ (x : Bool). answer x t') z in
        sym (rw (e, g) at d.2) ∙ ap (λ (a : Mapping). after_mapping a (λ k. map_each (λ q v k. map_region C Q n q v k) (pairs rs' us') k)) one

    pub rest_ends : (rs ≡ []) ⊎ (us ≡ []) → ListsMapped f own theirs rs₀ us₀ t₀ true t
    rest_ends e C Q s p n k = let d = h C Q s p n k in sym d.2 ∙ no_pairs rs us t (λ q v k. map_region C Q n q v k) e

  pub rest_first : (rs us t : List ℕ) → RestMapped f own theirs rs us t rs us t
  rest_first rs us t C Q s p n k = (p, k, refl)

-- ---- a pair in the loop along two chains of edges: it is mapped, or the table has had it before
module _ (f own theirs : List ℕ) (r u : ℕ) (t : List ℕ) where
  -- the table t' has the mapping of the pair onto t
  pub record PairMapped (t' : List ℕ) : Type 0 where
    pub mapped : RegionMapped f own theirs r u t true t'
    pub length_kept : length t' ≡ length t
    pub grown : Grown t t'

  pub pair_mapped : {b : Bool} {t' t'' : List ℕ} → RegionMapped f own theirs r u t b t' → b ≡ true → length t' ≡ length t → Grown t t' → t'' ≡ t'
      → PairMapped t''
  pair_mapped m e l g i = rw i (record { mapped = rw (← e) m; length_kept = l; grown = g })

  pub pair_known : {v : ℕ} {t'' : List ℕ} → v ≡ get_or t r 0 → v ≡ u → t'' ≡ t → PairMapped t''
  pair_known {v} e h i = rw i (record { mapped = go (ℕ_discrete r 0) (ℕ_discrete u 0); length_kept = refl; grown = grown_refl t })
    where
      go : Dec (r ≡ 0) → Dec (u ≡ 0) → RegionMapped f own theirs r u t true t
      go (yes z) d = region_none f own theirs r u t (inl z)
      go (no p) (yes z) = region_none f own theirs r u t (inr (inl z))
      go (no p) (no q) = region_again f own theirs r u t p e (λ z. q (sym h ∙ z)) (sym (eq-eqb v u h))
