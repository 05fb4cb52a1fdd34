-- The mapping of a call: the regions of the callee's in and out variables, and those of the call's arguments, as chains of records have them.
use Rattle.std.specs.Prelude.{ℕ, Bool, true, List, [], ◌∷◌, ◌≡◌, refl, length, get_or}
use Rattle.std.proofs.Common.{ap₂}
use Rattle.language.specs.Format.{places}
use Rattle.language.specs.Program.{Signature}
use Rattle.language.specs.Typing.{have_types, parameter_types}
use Rattle.language.specs.Regions.{mapping, regions_of}
use Rattle.chains.specs.Formed.{arguments_at}
use Rattle.tables.specs.Window.{Window, home_in}
use Rattle.regions.specs.Pairs.{answer, Sides}

-- ---- the regions of arguments, by the caller's window
unfoldable pub homes_in : List ℕ → List ℕ → List ℕ
homes_in t [] = []
homes_in t (y ∷ ys) = home_in t y ∷ homes_in t ys

-- the arguments in the chains at records a and b are in the same regions
abbrev pub SameHomes : List ℕ → List ℕ → ℕ → ℕ → Type 0
SameHomes f t a b = homes_in t (arguments_at f a) ≡ homes_in t (arguments_at f b)

pub homes_regions : {f t : List ℕ} (C : Signature) → Window f C t → (ys : List ℕ) → homes_in t ys ≡ regions_of C ys
unfolding homes_in regions_of
homes_regions C h [] = refl
homes_regions C h (y ∷ ys) = ap₂ ◌∷◌ (h.home y) (homes_regions C h ys)

-- a table of places places without an image
pub record Blank (t : List ℕ) : Type 0 where
  pub room : length t ≡ places
  pub none : (q : ℕ) → get_or t q 0 ≡ 0

abbrev pub CallMapped : List ℕ → List ℕ → List ℕ → ℕ → List ℕ → Bool → List ℕ → Type 0
CallMapped f own theirs args t b t' =
    (C Q : Signature) → Sides f C Q own theirs → have_types C (parameter_types Q) (arguments_at f args) ≡ true → Blank t
    → mapping C Q (arguments_at f args) ≡ answer b t'
