-- What the code gathers of a goal, variable by variable, and the lists that it stands for.
use Rattle.std.specs.Prelude.{ℕ, ◌≡◌, true, List, [], ◌∷◌, eqb}
use Rattle.sets.specs.Tests.{◌&◌, neg}
use Rattle.sets.specs.Sets.{member, empty_set, single, ◌∪◌}
use Rattle.sets.specs.Members.{set_of}
use Rattle.language.specs.Lists.{choose}
use Rattle.language.specs.Program.{Four, four_words, in_mode, out_mode}
use Rattle.tables.specs.declared.Access.{Access}
use Rattle.accesses.specs.Ranged.{fresh}

unfoldable pub no_access : Access
no_access = record { reads = empty_set; gives = empty_set; once = true }

-- y is read too
unfoldable pub read_in : Access → ℕ → Access
read_in a y = record { reads = a.reads ∪ single y; gives = a.gives; once = a.once }

-- x is given a value too
unfoldable pub given_in : Access → ℕ → Access
given_in a x = record { reads = a.reads; gives = a.gives ∪ single x; once = a.once & neg (member a.gives x) }

-- y stands at the place of a variable of that mode
unfoldable pub passed_in : ℕ → Access → ℕ → Access
passed_in m a y = choose (eqb m in_mode) (read_in a y) (choose (eqb m out_mode) (given_in a y) a)

-- a list of them
unfoldable pub read_all : Access → List ℕ → Access
read_all a [] = a
read_all a (y ∷ ys) = read_all (read_in a y) ys

unfoldable pub give_all : Access → List ℕ → Access
give_all a [] = a
give_all a (x ∷ xs) = give_all (given_in a x) xs

unfoldable pub four_read : Four → Access
four_read ws = read_all no_access (four_words ws)

unfoldable pub four_given : Four → Access
four_given ws = give_all no_access (four_words ws)

-- ---- it has read the variables ys and given the variables xs
pub record Gathers (a : Access) (ys xs : List ℕ) : Type 0 where
  pub read : a.reads ≡ set_of ys
  pub given : a.gives ≡ set_of xs
  pub none_twice : a.once ≡ fresh xs
