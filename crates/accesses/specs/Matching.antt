-- A call's arguments at the places of the callee's in and out variables.
use Rattle.std.specs.Prelude.{ℕ, List}
use Rattle.language.specs.Program.{Variable, parameters_from, arguments_in, in_mode, out_mode}
use Rattle.tables.specs.declared.Access.{Access}
use Rattle.accesses.specs.Gathering.{Gathers}

-- the arguments ys at the places of one mode, among variables numbered from x on
unfoldable pub passing : ℕ → ℕ → List Variable → List ℕ → List ℕ
passing m x vs ys = arguments_in m (parameters_from x vs) ys

-- all that a call reads and gives has been gathered
abbrev pub CallMatches : List Variable → List ℕ → Access → Type 0
CallMatches vs ys a = Gathers a (passing in_mode 1 vs ys) (passing out_mode 1 vs ys)
