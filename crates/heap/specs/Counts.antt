-- What creates, constructs and removes do to the counts of cells and regions held.
use Rattle.std.specs.Prelude.{ℕ, zero, suc, ◌+◌, ◌≤◌, ◌<◌, ◌≡◌, refl, Bool, true, false, List, [], ◌∷◌, ◌++◌, ◌≢◌, eqb, leb, length}
use Rattle.std.proofs.Common.{sym, ap, ap₂, ◌∙◌, arith, zero-add, eq-eqb, ne_eqb, leb-true}
use Rattle.std.proofs.Math.Decide.{ℕ_discrete}
use Rattle.sets.specs.Tests.{and_true}
use Rattle.language.specs.Lists.{nth, all, one, put, up_from}
use Rattle.language.specs.AcceptedRun.{RegionCell}
use Rattle.language.specs.Machine.{cells_held, count_alive}
use Rattle.laws.specs.Choices.{put_same, put_other}

-- cells in region r
pub cells_in : ℕ → List RegionCell → ℕ
cells_in r [] = 0
cells_in r (c ∷ cs) = one (eqb c.region r) + cells_in r cs

-- .. among the first j
pub earlier : ℕ → ℕ → List RegionCell → ℕ
earlier r zero cs = 0
earlier r (suc j) [] = 0
earlier r (suc j) (c ∷ cs) = one (eqb c.region r) + earlier r j cs

pub earlier_front : (r j : ℕ) (cs ds : List RegionCell) → j ≤ length cs → earlier r j (cs ++ ds) ≡ earlier r j cs
unfolding earlier
earlier_front r zero cs ds l = refl
earlier_front r (suc j) [] ds l = absurd (omega arith)
earlier_front r (suc j) (c ∷ cs) ds l = ap (λ n. one (eqb c.region r) + n) (earlier_front r j cs ds (omega arith))

pub earlier_all : (r : ℕ) (cs ds : List RegionCell) → earlier r (length cs) (cs ++ ds) ≡ cells_in r cs
unfolding earlier cells_in
earlier_all r [] ds = refl
earlier_all r (c ∷ cs) ds = ap (λ n. one (eqb c.region r) + n) (earlier_all r cs ds)

-- a region's cell has fewer of them before it than there are
pub earlier_less : (r j : ℕ) (d : RegionCell) (cs : List RegionCell) → j < length cs → (nth d cs j).region ≡ r → earlier r j cs < cells_in r cs
unfolding earlier cells_in nth one
earlier_less r j d [] l e = absurd (omega arith)
earlier_less r zero d (c ∷ cs) l e = rw (eq-eqb c.region r e) (omega arith)
earlier_less r (suc j) d (c ∷ cs) l e = omega (arith, earlier_less r j d cs (omega arith) e)

-- cell c lies in one of the first n regions
abbrev pub within : ℕ → RegionCell → Bool
within n c = leb c.region n

-- ---- a new region has no cells and leaves the others' counts
pub held_same : (alive alive' : ℕ → Bool) (n : ℕ) → ((r : ℕ) → r ≤ n → alive' r ≡ alive r) → (cs : List RegionCell) → all (within n) cs ≡ true
    → cells_held alive' cs ≡ cells_held alive cs
unfolding cells_held all
held_same alive alive' n e [] h = refl
held_same alive alive' n e (c ∷ cs) h =
    let q = and_true h in
    ap₂ ◌+◌ (ap one (e c.region (leb-true c.region n q.0))) (held_same alive alive' n e cs q.1)

pub in_new : (n r : ℕ) → n < r → (cs : List RegionCell) → all (within n) cs ≡ true → cells_in r cs ≡ 0
unfolding cells_in all one
in_new n r l [] h = refl
in_new n r l (c ∷ cs) h =
    let q = and_true h in
    rw (ne_eqb c.region r (λ e. omega (arith, leb-true c.region n q.0))) (zero-add (cells_in r cs) ∙ in_new n r l cs q.1)

-- ---- a new cell in region r
pub held_built : (alive : ℕ → Bool) (cs : List RegionCell) (c : RegionCell) → alive c.region ≡ true
    → cells_held alive (cs ++ (c ∷ [])) ≡ suc (cells_held alive cs)
unfolding cells_held one
held_built alive [] c e = rw e
held_built alive (d ∷ cs) c e = omega (arith, held_built alive cs c e)

pub in_built : (r : ℕ) (cs : List RegionCell) (c : RegionCell) → c.region ≡ r → cells_in r (cs ++ (c ∷ [])) ≡ suc (cells_in r cs)
unfolding cells_in one
in_built r [] c e = rw (eq-eqb c.region r e)
in_built r (d ∷ cs) c e = omega (arith, in_built r cs c e)

pub in_other : (r : ℕ) (cs : List RegionCell) (c : RegionCell) → c.region ≢ r → cells_in r (cs ++ (c ∷ [])) ≡ cells_in r cs
unfolding cells_in one
in_other r [] c ne = rw (ne_eqb c.region r ne)
in_other r (d ∷ cs) c ne = omega (arith, in_other r cs c ne)

-- ---- region r is removed: a cell lies in it, or counts as before
one_removed : (alive : ℕ → Bool) (r q : ℕ) → alive r ≡ true → one (alive q) ≡ one (eqb q r) + one (put alive r false q)
unfolding one
one_removed alive r q e = elim (ℕ_discrete r q) [
  | yes z ↦ rw (← z) (rw (e, eq-eqb r r refl, put_same alive r false))
  | no ne ↦ rw (ne_eqb q r (λ z. ne (sym z)), put_other alive r false q ne) (sym (zero-add _))
]

pub held_removed : (alive : ℕ → Bool) (r : ℕ) → alive r ≡ true → (cs : List RegionCell)
    → cells_held alive cs ≡ cells_in r cs + cells_held (put alive r false) cs
unfolding cells_held cells_in
held_removed alive r e [] = refl
held_removed alive r e (c ∷ cs) = omega (arith, one_removed alive r c.region e, held_removed alive r e cs)

-- ---- the regions that are alive among the m from b on
pub alive_same : (alive alive' : ℕ → Bool) (m b : ℕ) → ((r : ℕ) → b ≤ r → r < b + m → alive' r ≡ alive r)
    → count_alive alive' (up_from b m) ≡ count_alive alive (up_from b m)
unfolding count_alive up_from
alive_same alive alive' zero b e = refl
alive_same alive alive' (suc m) b e =
    ap₂ ◌+◌ (ap one (e b (omega arith) (omega arith))) (alive_same alive alive' m (suc b) (λ r l h. e r (omega arith) (omega arith)))

pub alive_more : (alive : ℕ → Bool) (m b r : ℕ) → b + m ≡ r → alive r ≡ true
    → count_alive alive (up_from b (suc m)) ≡ suc (count_alive alive (up_from b m))
unfolding count_alive up_from one
alive_more alive zero b r e h = let z : b ≡ r = omega arith in rw (z, h)
alive_more alive (suc m) b r e h = omega (arith, alive_more alive m (suc b) r (omega arith) h)

one_dead : (alive : ℕ → Bool) (r b : ℕ) → alive r ≡ true → r ≡ b → one (alive b) ≡ suc (one (put alive r false b))
unfolding one
one_dead alive r b h z = rw (← z) (rw (h, put_same alive r false))

pub alive_less : (alive : ℕ → Bool) (m b r : ℕ) → alive r ≡ true → b ≤ r → r < b + m
    → count_alive alive (up_from b m) ≡ suc (count_alive (put alive r false) (up_from b m))
unfolding count_alive up_from
alive_less alive zero b r h l u = absurd (omega arith)
alive_less alive (suc m) b r h l u = elim (ℕ_discrete r b) [
  | yes z ↦
      let t = alive_same alive (put alive r false) m (suc b) (λ q i j. put_other alive r false q (λ w. omega arith)) in
      omega (arith, t, one_dead alive r b h z)
  | no ne ↦
      let t = alive_less alive m (suc b) r h (omega (arith, ne)) (omega arith) in
      omega (arith, t, ap one (put_other alive r false b ne))
]
