-- The arguments of a construct or an arm against the targets of their edges, as windows and chains of records have them.
use Rattle.std.specs.Prelude.{ℕ, zero, suc, Bool, true, List, [], ◌∷◌, eqb}
use Rattle.sets.specs.Tests.{◌&◌}
use Rattle.language.specs.Format.{term_functor}
use Rattle.language.specs.File.{word}
use Rattle.language.specs.Program.{Edge, arguments_of}
use Rattle.language.specs.Regions.{target_for}
use Rattle.chains.specs.Formed.{edges_at}
use Rattle.chains.specs.Parts.{four_at}
use Rattle.tables.specs.Window.{home_in}

-- the arguments of the construct or arm at record i
unfoldable pub arguments_here : List ℕ → ℕ → List ℕ
arguments_here f i = arguments_of (four_at f i)

-- n words from word k on
unfoldable pub words_from : List ℕ → ℕ → ℕ → ℕ → List ℕ
words_from f i k zero = []
words_from f i k (suc n) = word f i k ∷ words_from f i (suc k) n

-- arguments from position k on are in the targets of their edges, by the window t
module _ (t : List ℕ) (es : List Edge) (fn : ℕ) where
  unfoldable pub all_in : ℕ → List ℕ → Bool
  all_in k [] = true
  all_in k (y ∷ ys) = eqb (home_in t y) (target_for es fn k) & all_in (suc k) ys

-- .. all those of the construct or arm at record i, by the edges in the chain at record es
abbrev pub term_in : List ℕ → List ℕ → ℕ → ℕ → Bool
term_in f t es i = all_in t (edges_at f es) (word f i term_functor) 1 (arguments_here f i)
