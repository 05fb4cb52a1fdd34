-- The sound variables of a frame: each one's value lies where its region says, and all that it reaches is held.
use Rattle.std.specs.Prelude.{◌≡◌, refl, false, ◌⊎◌, ℕ, suc, ◌<◌, length}
use Rattle.std.proofs.Common.{sym, ap, ◌∙◌, eqb-true}
use Rattle.std.proofs.Math.Bool.{true}
use Rattle.std.proofs.lemmas.Bool.{false≢true}
use mathlib.Core.List.{List, [], ◌∷◌, ◌++◌, map}
use Rattle.std.proofs.Math.Logic.{inl, inr, ⊎_elim}
use Rattle.std.proofs.Math.Decide.{ℕ_discrete}
use Rattle.sets.specs.Tests.{and_true}
use Rattle.sets.specs.Sets.{member, ◌∪◌, ◌∖◌, subset, apart, union_in, difference_in, subset_in}
use Rattle.sets.specs.SetLaws.{apart_in}
use Rattle.sets.specs.Members.{set_of, keep, in_list, nil_in, cons_in, cons_here, cons_later}
use Rattle.sets.specs.MemberLaws.{set_of_in, set_of_mk, keep_in}
use Rattle.sets.specs.declared.Set.{Set}
use Rattle.language.specs.Lists.{put}
use Rattle.language.specs.Program.{Functor, Signature, Program, type_of, region_of, functors_of}
use Rattle.language.specs.Typing.{is_variable, is_region, has_type, have_types, types_of}
use Rattle.language.specs.Regions.{regions_of, reach, in_targets}
use Rattle.language.specs.Checking.{sound_given, sound_without}
use Rattle.language.specs.Frames.{Value, cell_at, give_each}
use Rattle.language.specs.AcceptedRun.{RegionCell}
use Rattle.laws.specs.Choices.{put_same, put_other}
use Rattle.laws.specs.Lists.{nth_last}
use Rattle.region_graph.specs.Laws.{target, Declared}
use Rattle.region_graph.specs.Shared.{variable_top}
use Rattle.safety.specs.PlacedValues.{cell_on, Grows, grows_more, grows_last, along, types_at, PlacedValue, is_cell, PlacedAll, placed_none, placed_more, move, move_all}

-- each of a list is a variable
abbrev pub AllVariables : Signature → List ℕ → Type 0
AllVariables S ys = (y : ℕ) → in_list y ys ≡ true → is_variable S y ≡ true

pub type_in : (S : Signature) (t x : ℕ) → has_type S t x ≡ true → (is_variable S x ≡ true) × (type_of S x ≡ t)
unfolding has_type
type_in S t x e = let p = and_true e in (p.0, eqb-true (type_of S x) t p.1)

pub types_variables : (S : Signature) (ts ys : List ℕ) → have_types S ts ys ≡ true → AllVariables S ys
unfolding have_types
types_variables S [] [] e y i = absurd (nil_in y i)
types_variables S [] (x ∷ ys) e y i = absurd (false≢true e)
types_variables S (t ∷ ts) [] e y i = absurd (nil_in y i)
types_variables S (t ∷ ts) (x ∷ ys) e y i =
    ⊎_elim (λ q. ap (is_variable S) (sym q) ∙ (type_in S t x (and_true e).0).0) (types_variables S ts ys (and_true e).1 y)
    (cons_in y x ys i)

pub types_length : (S : Signature) (ts ys : List ℕ) → have_types S ts ys ≡ true → length ys ≡ length ts
unfolding have_types
types_length S [] [] e = refl
types_length S [] (x ∷ ys) e = absurd (false≢true e)
types_length S (t ∷ ts) [] e = absurd (false≢true e)
types_length S (t ∷ ts) (x ∷ ys) e = ap suc (types_length S ts ys (and_true e).1)

-- "construct or arm argument not in its edge's target" is refused
pub targets_along : (P : Program) (S : Signature) (r f k : ℕ) (ys : List ℕ) → in_targets P S r f k ys ≡ true
    → regions_of S ys ≡ along S r f k (length ys)
unfolding in_targets regions_of along
targets_along P S r f k [] e = refl
targets_along P S r f k (y ∷ ys) e =
    cc (eqb-true (region_of S y) (target S r f k) (and_true e).0, targets_along P S r f (suc k) ys (and_true e).1)

-- h is held and s is sound, in a frame with region numbers ρ and values vr; H has the cells
pub record Vars (T : List (List Functor)) (S : Signature) (h s : Set) (ρ : ℕ → ℕ) (H : List RegionCell) (vr : ℕ → Value) : Type 0 where
  pub placed : (x : ℕ) → member s x ≡ true → PlacedValue T S ρ H (type_of S x) (region_of S x) (vr x)
  pub closed : (x u : ℕ) → member s x ≡ true → member (reach S x) u ≡ true → member h u ≡ true

module _ {T : List (List Functor)} {S : Signature} where
  pub vars_fewer : {h s t : Set} {ρ : ℕ → ℕ} {H : List RegionCell} {vr : ℕ → Value} → subset t s ≡ true → Vars T S h s ρ H vr
      → Vars T S h t ρ H vr
  vars_fewer {s = s} {t = t} w X =
      record { placed = λ x i. X.placed x (subset_in t s w x i); closed = λ x u i. X.closed x u (subset_in t s w x i) }

  -- ---- values are given
  pub give_placed : {ρ : ℕ → ℕ} {H : List RegionCell} (xs : List ℕ) {vs : List Value} (vr : ℕ → Value) (x : ℕ)
      → PlacedAll T S ρ H (types_of S xs) (regions_of S xs) vs → (in_list x xs ≡ true) ⊎ PlacedValue T S ρ H (type_of S x) (region_of S x) (vr x)
      → PlacedValue T S ρ H (type_of S x) (region_of S x) (give_each xs vs vr x)
  unfolding give_each types_of regions_of
  give_placed [] vr x placed_none (inl i) = absurd (nil_in x i)
  give_placed [] vr x placed_none (inr p) = p
  give_placed {ρ} {H} (y ∷ xs) vr x (placed_more {v = v} p q) c = give_placed xs (put vr y v) x q (go (ℕ_discrete y x) c)
    where
      go : Dec (y ≡ x) → (in_list x (y ∷ xs) ≡ true) ⊎ PlacedValue T S ρ H (type_of S x) (region_of S x) (vr x)
          → (in_list x xs ≡ true) ⊎ PlacedValue T S ρ H (type_of S x) (region_of S x) (put vr y v x)
      go (yes e) d = inr (rw (← e) (rw (put_same vr y v) p))
      go (no ne) (inl i) = ⊎_elim (λ e. absurd (ne e)) (λ j. inl j) (cons_in x y xs i)
      go (no ne) (inr r) = inr (rw (put_other vr _ v _ ne) r)

  -- "A variable given a value is sound if its whole reach is then held."
  pub vars_given : {h s : Set} {ρ : ℕ → ℕ} {H : List RegionCell} {vr : ℕ → Value} (xs : List ℕ) {vs : List Value}
      → PlacedAll T S ρ H (types_of S xs) (regions_of S xs) vs → Vars T S h s ρ H vr
      → Vars T S h (sound_given S (set_of xs) h s) ρ H (give_each xs vs vr)
  unfolding sound_given
  vars_given {h} {s} {ρ} {H} {vr} xs {vs} p X = record {
    placed =
        λ x i. ⊎_elim (λ j. give_placed xs vr x p (inr (X.placed x (old x j)))) (λ j. give_placed xs vr x p (inl (new x j).0))
        (either x i);
    closed = λ x u i m. ⊎_elim (λ j. X.closed x u (old x j) m) (λ j. subset_in (reach S x) h (new x j).1 u m) (either x i);
  }
    where
      either : (x : ℕ) → member ((s ∖ set_of xs) ∪ keep (λ y. subset (reach S y) h) (set_of xs)) x ≡ true
          → (member (s ∖ set_of xs) x ≡ true) ⊎ (member (keep (λ y. subset (reach S y) h) (set_of xs)) x ≡ true)
      either x i = union_in (s ∖ set_of xs) (keep (λ y. subset (reach S y) h) (set_of xs)) x i

      old : (x : ℕ) → member (s ∖ set_of xs) x ≡ true → member s x ≡ true
      old x j = (difference_in s (set_of xs) x j).0

      new : (x : ℕ) → member (keep (λ y. subset (reach S y) h) (set_of xs)) x ≡ true → (in_list x xs ≡ true) × (subset (reach S x) h ≡ true)
      new x j = let k = keep_in (λ y. subset (reach S y) h) (set_of xs) x j in (set_of_in xs x k.0, k.1)

  -- ---- variables are read
  pub placed_each : {h s : Set} {ρ : ℕ → ℕ} {H : List RegionCell} {vr : ℕ → Value} → Vars T S h s ρ H vr → (ys : List ℕ)
      → ((y : ℕ) → in_list y ys ≡ true → member s y ≡ true) → PlacedAll T S ρ H (types_of S ys) (regions_of S ys) (map vr ys)
  unfolding types_of regions_of
  placed_each X [] f = placed_none
  placed_each X (y ∷ ys) f = placed_more (X.placed y (f y (cons_here y y ys refl))) (placed_each X ys (λ z i. f z (cons_later z y ys i)))

  module _ (D : Declared T S) where
    pub read_sound_law : (s : Set) (ys : List ℕ) → AllVariables S ys → subset (set_of ys) s ≡ true → (y : ℕ) → in_list y ys ≡ true
        → member s y ≡ true
    read_sound_law s ys a w y i = let l = variable_top T S D y (a y i) in subset_in (set_of ys) s w y (set_of_mk ys y i l.0 l.1)

    -- ---- region numbers and cells change
    pub vars_moved : {h k s t : Set} {ρ ρ' : ℕ → ℕ} {H H' : List RegionCell} {vr : ℕ → Value} → Grows H H'
        → ((x : ℕ) → member t x ≡ true → member s x ≡ true)
        → ((x u : ℕ) → member t x ≡ true → member (reach S x) u ≡ true → (ρ u ≡ ρ' u) × (member k u ≡ true))
        → Vars T S h s ρ H vr → Vars T S k t ρ' H' vr
    unfolding reach
    vars_moved g w keeps X =
        record { placed = λ x i. move D g (X.placed x (w x i)) (λ u m. (keeps x u i m).0); closed = λ x u i m. (keeps x u i m).1 }

    pub vars_grown : {h s : Set} {ρ : ℕ → ℕ} {H H' : List RegionCell} {vr : ℕ → Value} → Grows H H' → Vars T S h s ρ H vr
        → Vars T S h s ρ H' vr
    vars_grown g X = vars_moved g (λ x i. i) (λ x u i m. (refl, X.closed x u i m)) X

    -- the regions `gone` are held no longer: "variables reaching it stop being sound"
    pub vars_without : {h k s : Set} {ρ : ℕ → ℕ} {H : List RegionCell} {vr : ℕ → Value} (gone : Set)
        → ((u : ℕ) → member h u ≡ true → member gone u ≡ false → member k u ≡ true) → Vars T S h s ρ H vr
        → Vars T S k (sound_without S gone s) ρ H vr
    unfolding sound_without
    vars_without {s = s} gone keeps X = record {
      placed = λ x i. X.placed x (left x i).0;
      closed = λ x u i m. keeps u (X.closed x u (left x i).0 m) (apart_in (reach S x) gone (left x i).1 u m);
    }
      where
        left : (x : ℕ) → member (keep (λ y. apart (reach S y) gone) s) x ≡ true → (member s x ≡ true) × (apart (reach S x) gone ≡ true)
        left x i = keep_in (λ y. apart (reach S y) gone) s x i

    -- a new cell of type t in region r
    pub placed_new : {ρ : ℕ → ℕ} {H : List RegionCell} (t r f : ℕ) {vs : List Value} → is_region S r ≡ true → f < length (functors_of T t)
        → PlacedAll T S ρ H (types_at T t f) (along S r f 1 (length (types_at T t f))) vs
        → PlacedValue T S ρ (H ++ (cell_on (ρ r) f vs ∷ [])) t r (cell_at (length H))
    placed_new {ρ} {H} t r f {vs} i l p =
        let k : RegionCell = cell_on (ρ r) f vs in
        is_cell f i (grows_last H k) (nth_last _ H k) l (move_all D (grows_more H k) p (λ w m u e. refl))
