-- Who owns the living regions. Each frame, the newest and the waiting ones, holds some of its region numbers; every living region is held
-- by a frame. What a frame holds and does not keep for its caller stands for a region of its own, which no other number of any frame stands
-- for.
use Rattle.std.specs.Prelude.{◌≡◌, Bool, true, false, List, [], ◌∷◌, ◌≢◌, ◌⊎◌, ℕ, suc, ◌<◌}
use Rattle.std.proofs.Common.{sym, ap, ◌∙◌, inl, inr, ⊎_elim, arith}
use Rattle.std.proofs.Math.Decide.{ℕ_discrete}
use Rattle.sets.specs.Tests.{clash}
use Rattle.sets.specs.Sets.{member}
use Rattle.sets.specs.declared.Set.{Set}
use Rattle.language.specs.Lists.{put}
use Rattle.language.specs.Program.{Signature}
use Rattle.language.specs.Lifetimes.{kept}
use Rattle.laws.specs.Choices.{put_same, put_other, put_false, put_true}

-- a frame's region numbers: what each stands for, and which are held
pub record Owner : Type 0 where
  pub stands : ℕ → ℕ
  pub holds : Set

abbrev pub owner : (ℕ → ℕ) → Set → Owner
owner ρ h = record { stands = ρ; holds = h }

-- k is what no held number of these frames stands for
abbrev pub Away : ℕ → List Owner → Type 0
Away k [] = Unit {0}
Away k (o ∷ os) = ((r : ℕ) → member o.holds r ≡ true → o.stands r ≢ k) × Away k os

-- what is held is alive
abbrev pub Alive : (ℕ → Bool) → List Owner → Type 0
Alive live [] = Unit {0}
Alive live (o ∷ os) = ((r : ℕ) → member o.holds r ≡ true → live (o.stands r) ≡ true) × Alive live os

-- k is what a held number stands for
abbrev pub Covered : ℕ → List Owner → Type 0
Covered k [] = ⊥
Covered k (o ∷ os) = ((r : ℕ) × (member o.holds r ≡ true) × (o.stands r ≡ k)) ⊎ Covered k os

-- what a frame with signature S owns beside the waiting frames os
pub record Owns (S : Signature) (h : Set) (ρ : ℕ → ℕ) (os : List Owner) : Type 0 where
  pub alone : (r q : ℕ) → member h r ≡ true → member h q ≡ true → member (kept S) r ≡ false → ρ r ≡ ρ q → r ≡ q
  pub away : (r : ℕ) → member h r ≡ true → member (kept S) r ≡ false → Away (ρ r) os
  pub keeps : (r : ℕ) → member (kept S) r ≡ true → member h r ≡ true

-- the regions of a run whose newest frame has signature S, holds h and has region numbers ρ: `made` are made and `live` are alive
pub record Ownership (S : Signature) (h : Set) (ρ : ℕ → ℕ) (os : List Owner) (made : ℕ) (live : ℕ → Bool) : Type 0 where
  pub alive : Alive live (owner ρ h ∷ os)
  pub low : (k : ℕ) → live k ≡ true → k < suc made
  pub covered : (k : ℕ) → live k ≡ true → Covered k (owner ρ h ∷ os)
  pub owns : Owns S h ρ os
