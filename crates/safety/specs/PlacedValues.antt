-- Where values lie: a number or a constant in no region, a cell in the region that a region number of the frame stands for, and its contents
-- where that region's edges lead.
use Rattle.std.specs.Prelude.{◌≡◌, refl, true, List, [], ◌∷◌, ◌++◌, map, ◌⊎◌, ℕ, zero, suc, ◌≤◌, ◌<◌, ℤ, length}
use Rattle.std.proofs.Math.Path.{ap}
use Rattle.std.proofs.Common.{◌∙◌, arith, length-append}
use Rattle.std.proofs.Math.Logic.{inl, inr, ⊎_elim}
use Rattle.sets.specs.Sets.{member, subset_in}
use Rattle.sets.specs.Members.{in_list, nil_in, cons_in, cons_here, cons_later}
use Rattle.language.specs.Lists.{nth}
use Rattle.language.specs.Program.{Functor, Signature, functors_of, functor_at}
use Rattle.language.specs.Typing.{types_in, is_region}
use Rattle.language.specs.Regions.{reach_from}
use Rattle.language.specs.Frames.{Value, numeral, cell_at, constant, no_cell, cell_in}
use Rattle.language.specs.AcceptedRun.{RegionCell, cell_of}
use Rattle.laws.specs.Lists.{nth_front, nth_map}
use Rattle.region_graph.specs.Laws.{target, Declared}
use Rattle.region_graph.specs.Shared.{target_reach}

-- the cell numbered c
abbrev pub cell_no : List RegionCell → ℕ → RegionCell
cell_no H c = nth (record { cell = no_cell; region = 0 }) H c

-- a cell with functor f and contents vs in region k
abbrev pub cell_on : ℕ → ℕ → List Value → RegionCell
cell_on k f vs = record { cell = record { functor = f; contents = vs }; region = k }

-- every cell of H is one of H'
abbrev pub Grows : List RegionCell → List RegionCell → Type 0
Grows H H' = (c : ℕ) → c < length H → (c < length H') × (cell_no H' c ≡ cell_no H c)

pub grows_more : (H : List RegionCell) (k : RegionCell) → Grows H (H ++ (k ∷ []))
grows_more H k c l = (omega (arith, length-append H (k ∷ [])), nth_front _ H (k ∷ []) c l)

pub grows_last : (H : List RegionCell) (k : RegionCell) → length H < length (H ++ (k ∷ []))
grows_last H k = omega (arith, length-append H (k ∷ []))

-- the regions of n arguments from position k on, of a cell with functor f in region r
unfoldable pub along : Signature → ℕ → ℕ → ℕ → ℕ → List ℕ
along S r f k zero = []
along S r f k (suc n) = target S r f k ∷ along S r f (suc k) n

pub along_in : (S : Signature) (r f k n t : ℕ) → in_list t (along S r f k n) ≡ true → (j : ℕ) × (target S r f j ≡ t)
unfolding along
along_in S r f k zero t e = absurd (nil_in t e)
along_in S r f k (suc n) t e =
    ⊎_elim (λ q. (k, q)) (λ q. along_in S r f (suc k) n t q) (cons_in t (target S r f k) (along S r f (suc k) n) e)

-- the types of the arguments of functor k of type t
abbrev pub types_at : List (List Functor) → ℕ → ℕ → List ℕ
types_at T t k = types_in (functor_at (functors_of T t) k)

module _ (T : List (List Functor)) (S : Signature) (ρ : ℕ → ℕ) (H : List RegionCell) where
  -- a value of type t whose region is r, and several
  mutual
    pub data PlacedValue : ℕ → ℕ → Value → Type 0 where
      is_number : {r : ℕ} {z : ℤ} → PlacedValue 0 r (numeral z)
      is_constant : {t r : ℕ} (k : ℕ) → k < length (functors_of T t) → types_at T t k ≡ [] → PlacedValue t r (constant k)
      is_cell : {t r c : ℕ} {vs : List Value} (f : ℕ) → is_region S r ≡ true → c < length H → cell_no H c ≡ cell_on (ρ r) f vs
          → f < length (functors_of T t) → PlacedAll (types_at T t f) (along S r f 1 (length (types_at T t f))) vs → PlacedValue t r (cell_at c)

    pub data PlacedAll : List ℕ → List ℕ → List Value → Type 0 where
      placed_none : PlacedAll [] [] []
      placed_more : {t r : ℕ} {v : Value} {ts rs : List ℕ} {vs : List Value} → PlacedValue t r v → PlacedAll ts rs vs
          → PlacedAll (t ∷ ts) (r ∷ rs) (v ∷ vs)

  -- v is a cell in region r
  pub record InCell (r functor : ℕ) (contents : List Value) (v : Value) : Type 0 where
    pub number : ℕ
    pub is : v ≡ cell_at number
    pub region : is_region S r ≡ true
    pub there : cell_no H number ≡ cell_on (ρ r) functor contents

  -- a value of a type but that of numbers is a cell or a constant
  pub record Lies (t r : ℕ) (v : Value) : Type 0 where
    pub functor : ℕ
    pub contents : List Value
    pub kind : InCell r functor contents v ⊎ ((v ≡ constant functor) × (contents ≡ []))
    pub small : functor < length (functors_of T t)
    pub inside : PlacedAll (types_at T t functor) (along S r functor 1 (length (types_at T t functor))) contents

module _ {T : List (List Functor)} {S : Signature} {ρ : ℕ → ℕ} {H : List RegionCell} where
  pub lies : {t r : ℕ} {v : Value} → PlacedValue T S ρ H t r v → 1 ≤ t → Lies T S ρ H t r v
  unfolding along
  lies is_number l = absurd (omega arith)
  lies (is_constant k s e) l =
      record { functor = k; contents = []; kind = inr (refl, refl); small = s; inside = rw e placed_none }
  lies (is_cell {c = c} {vs = vs} f i h e s p) l =
      record { functor = f; contents = vs; kind = inl (record { number = c; is = refl; region = i; there = e }); small = s; inside = p }

  -- as a switch finds it
  pub cell_found : {t r : ℕ} {v : Value} (c : Lies T S ρ H t r v)
      → cell_in (map cell_of H) v ≡ record { functor = c.functor; contents = c.contents }
  unfolding cell_in cell_of
  cell_found {r = r} {v = v} c = ⊎_elim cell one c.kind
    where
      cell : InCell T S ρ H r c.functor c.contents v → cell_in (map cell_of H) v ≡ record { functor = c.functor; contents = c.contents }
      cell k = ap (cell_in (map cell_of H)) k.is ∙ nth_map cell_of _ H k.number ∙ ap cell_of k.there

      one : (v ≡ constant c.functor) × (c.contents ≡ []) → cell_in (map cell_of H) v ≡ record { functor = c.functor; contents = c.contents }
      one k = rw (k.0, k.1)

-- ---- cells are added, and region numbers outside the reach stand for something else
abbrev pub Agree : Signature → (ℕ → ℕ) → (ℕ → ℕ) → ℕ → Type 0
Agree S ρ ρ' r = (u : ℕ) → member (reach_from S r) u ≡ true → ρ u ≡ ρ' u

module _ {T : List (List Functor)} {S : Signature} (D : Declared T S) where
  agree_along : (ρ ρ' : ℕ → ℕ) (r f k n t : ℕ) → is_region S r ≡ true → Agree S ρ ρ' r → in_list t (along S r f k n) ≡ true → Agree S ρ ρ' t
  agree_along ρ ρ' r f k n t i g e u m =
      let j = along_in S r f k n t e in
      g u (subset_in _ _ (target_reach T S D r f j.0 (inr i)) u (rw j.1 m))

  module _ {ρ ρ' : ℕ → ℕ} {H H' : List RegionCell} (grows : Grows H H') where
    mutual
      pub move : {t r : ℕ} {v : Value} → PlacedValue T S ρ H t r v → Agree S ρ ρ' r → PlacedValue T S ρ' H' t r v
      move is_number g = is_number
      move (is_constant k s e) g = is_constant k s e
      move (is_cell {t = t} {r = r} {c = c} {vs = vs} f i l e s p) g =
          is_cell f i (grows c l).0 ((grows c l).1 ∙ e ∙ ap (λ (k : ℕ). cell_on k f vs) (g r (D.self r i))) s
          (move_all p (λ u m. agree_along ρ ρ' r f 1 (length (types_at T t f)) u i g m))

      pub move_all : {ts rs : List ℕ} {vs : List Value} → PlacedAll T S ρ H ts rs vs → ((u : ℕ) → in_list u rs ≡ true → Agree S ρ ρ' u)
          → PlacedAll T S ρ' H' ts rs vs
      move_all placed_none g = placed_none
      move_all (placed_more {r = r} {rs = rs} p q) g =
          placed_more (move p (g r (cons_here r r rs refl))) (move_all q (λ u m. g u (cons_later u r rs m)))
