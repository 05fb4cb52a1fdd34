-- Values pass into a callee and back: a value placed at a region's image in the caller is placed at the region in the callee, and the
-- other way round.
use Rattle.std.specs.Prelude.{◌≡◌, true, List, ◌∷◌, map, length, []}
use Rattle.std.proofs.Math.Path.{refl}
use Rattle.std.proofs.Common.{sym, ap, ◌∙◌, subst, inl, inr}
use Rattle.std.proofs.lemmas.Bool.{false≢true}
use Prim.Native.Nat.{ℕ, zero, suc}
use Rattle.sets.specs.Sets.{member, subset_in}
use Rattle.sets.specs.Members.{in_list, cons_here, cons_later}
use Rattle.language.specs.Program.{Functor, Signature, parameters_of, parameter_variables}
use Rattle.language.specs.Typing.{is_region, types_of}
use Rattle.language.specs.Regions.{mapping, image_in, regions_of, reach_from}
use Rattle.language.specs.Frames.{Value}
use Rattle.language.specs.AcceptedRun.{RegionCell}
use Rattle.region_graph.specs.Laws.{shared, target, Declared, Called}
use Rattle.region_graph.specs.Alike.{region_some}
use Rattle.region_graph.specs.Shared.{target_known, target_reach}
use Rattle.safety.specs.Signatures.{KnownRegion}
use Rattle.safety.specs.PlacedValues.{cell_on, along, along_in, types_at, PlacedValue, is_number, is_constant, is_cell, PlacedAll, placed_none, placed_more}

-- what the values need of a call's mapping m
pub record Across (C Q : Signature) (ys : List ℕ) (m : ℕ → ℕ) : Type 0 where
  pub nowhere : m 0 ≡ 0
  pub arguments : map m (regions_of Q (parameter_variables (parameters_of Q))) ≡ regions_of C ys
  pub types : types_of Q (parameter_variables (parameters_of Q)) ≡ types_of C ys
  pub region : (r : ℕ) → shared Q r → is_region C (m r) ≡ true
  pub follows : (r f k : ℕ) → shared Q r → target C (m r) f k ≡ m (target Q r f k)

pub called_along : {C Q : Signature} {ys : List ℕ} → Called C Q ys → Across C Q ys (image_in (mapping C Q ys))
unfolding image_in
called_along {C} {Q} {ys} K =
    subst (λ (m : ℕ → ℕ). Across C Q ys m) (sym (ap image_in K.mapped))
    (record { nowhere = K.nowhere; arguments = K.arguments; types = K.types; region = K.region; follows = K.follows })

-- what r reaches in the callee Q is shared with the caller, where it stands for what its image does
abbrev pub Comes : Signature → (ℕ → ℕ) → (ℕ → ℕ) → (ℕ → ℕ) → ℕ → Type 0
Comes Q m ρ ρ' r = (u : ℕ) → member (reach_from Q r) u ≡ true → (shared Q u) × (ρ (m u) ≡ ρ' u)

abbrev pub ComesAll : Signature → (ℕ → ℕ) → (ℕ → ℕ) → (ℕ → ℕ) → List ℕ → Type 0
ComesAll Q m ρ ρ' rs = (t : ℕ) → in_list t rs ≡ true → KnownRegion Q t × Comes Q m ρ ρ' t

module _ {T : List (List Functor)} {C Q : Signature} {ys : List ℕ} {m : ℕ → ℕ} (D : Declared T Q)
    (A : Across C Q ys m) where
  -- ---- a region and its image have equal edges
  along_from : (r f k n : ℕ) → shared Q r → along C (m r) f k n ≡ map m (along Q r f k n)
  unfolding along
  along_from r f k zero i = refl
  along_from r f k (suc n) i = cc (A.follows r f k i, along_from r f (suc k) n i)

  comes_along : (ρ ρ' : ℕ → ℕ) (r f k n : ℕ) → is_region Q r ≡ true → Comes Q m ρ ρ' r → ComesAll Q m ρ ρ' (along Q r f k n)
  comes_along ρ ρ' r f k n i g t e =
      let j = along_in Q r f k n t e in
      (rw j.1 at (target_known _ _ D r f j.0 i), λ u x. g u (subset_in _ _ (target_reach _ _ D r f j.0 (inr i)) u (rw j.1 x)))

  region_back : (r k : ℕ) → KnownRegion Q r → k ≡ m r → is_region C k ≡ true → is_region Q r ≡ true
  region_back r k (inl z) e i = absurd (region_some C 0 (sym (ap (is_region C) (e ∙ ap m z ∙ A.nowhere)) ∙ i) refl)
  region_back r k (inr j) e i = j

  module _ {ρ ρ' : ℕ → ℕ} {H : List RegionCell} where
    -- ---- into the callee
    mutual
      pub enter : {t k : ℕ} {v : Value} → PlacedValue T C ρ H t k v → (r : ℕ) → k ≡ m r → KnownRegion Q r → Comes Q m ρ ρ' r
          → PlacedValue T Q ρ' H t r v
      enter is_number r e w g = is_number
      enter (is_constant f s n) r e w g = is_constant f s n
      enter (is_cell {t = t} {r = k} {c = c} {vs = vs} f i l h s p) r e w g =
          let n = length (types_at T t f) in
          let j = region_back r k w e i in
          let b = g r (D.self r j) in
          is_cell f j l (h ∙ ap (λ (x : ℕ). cell_on x f vs) (ap ρ e ∙ b.1)) s
          (enter_all p (along Q r f 1 n) (ap (λ (x : ℕ). along C x f 1 n) e ∙ along_from r f 1 n b.0) (comes_along ρ ρ' r f 1 n j g))

      pub enter_all : {ts ks : List ℕ} {vs : List Value} → PlacedAll T C ρ H ts ks vs → (rs : List ℕ) → ks ≡ map m rs → ComesAll Q m ρ ρ' rs
          → PlacedAll T Q ρ' H ts rs vs
      enter_all placed_none [] e g = placed_none
      enter_all placed_none (r ∷ rs) e g = absurd (false≢true (cc))
      enter_all (placed_more p q) [] e g = absurd (false≢true (cc))
      enter_all (placed_more p q) (r ∷ rs) e g =
          placed_more (enter p r (cc) (g r (cons_here r r rs refl)).0 (g r (cons_here r r rs refl)).1)
          (enter_all q rs (cc) (λ t x. g t (cons_later t r rs x)))

    -- ---- back to the caller
    mutual
      pub leave : {t r : ℕ} {v : Value} → PlacedValue T Q ρ' H t r v → Comes Q m ρ ρ' r → PlacedValue T C ρ H t (m r) v
      leave is_number g = is_number
      leave (is_constant f s n) g = is_constant f s n
      leave (is_cell {t = t} {r = r} {c = c} {vs = vs} f i l h s p) g =
          let n = length (types_at T t f) in
          let b = g r (D.self r i) in
          is_cell f (A.region r b.0) l (h ∙ ap (λ (x : ℕ). cell_on x f vs) (sym b.1)) s
          (rw (along_from r f 1 n b.0) (leave_all p (comes_along ρ ρ' r f 1 n i g)))

      pub leave_all : {ts rs : List ℕ} {vs : List Value} → PlacedAll T Q ρ' H ts rs vs → ComesAll Q m ρ ρ' rs
          → PlacedAll T C ρ H ts (map m rs) vs
      leave_all placed_none g = placed_none
      leave_all (placed_more {r = r} {rs = rs} p q) g =
          placed_more (leave p (g r (cons_here r r rs refl)).1) (leave_all q (λ t x. g t (cons_later t r rs x)))
