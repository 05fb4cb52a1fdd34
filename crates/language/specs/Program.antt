-- What the records mean: types, procedures, variables, regions and goals, as the table of "The file" names their words.
use Rattle.std.specs.Prelude.{ℕ, zero, suc, List, [], ◌∷◌, eqb}
use Rattle.sets.specs.Members.{cons_if}
use Rattle.language.specs.Lists.{nth, nth1}

-- four words in a row: argument types or arguments
pub data Four : Type 0 where
  four : ℕ → ℕ → ℕ → ℕ → Four

pub record Functor : Type 0 where
  pub arity : ℕ
  pub argument_types : Four

pub record Variable : Type 0 where
  pub mode : ℕ
  pub type : ℕ
  pub region : ℕ

pub record Edge : Type 0 where
  pub functor : ℕ
  pub position : ℕ
  pub target : ℕ

pub record Region : Type 0 where
  pub type : ℕ
  pub class : ℕ
  pub edges : List Edge

-- goals without parts
pub data Step : Type 0 where
  literal : ℕ → ℕ → Step
  sum : ℕ → ℕ → ℕ → ℕ → Step
  assign : ℕ → ℕ → Step
  construct : ℕ → ℕ → Four → Step
  call : ℕ → List ℕ → Step
  print : ℕ → Step
  create : ℕ → Step
  remove : ℕ → Step
  test : ℕ → ℕ → Step  -- "fails unless Y < Z" (C-20)

infixr 20 ◌then◌
mutual
  pub data Goals : Type 0 where
    done : Goals
    ◌then◌ : Goal → Goals → Goals

  pub data Goal : Type 0 where
    step : Step → Goal
    switch : ℕ → Arms → Goal
    if_less : ℕ → ℕ → Goals → Goals → Goal
    try : Goals → Goals → Goals → Goal  -- "w2 condition, w3 then, w4 else" (C-20)

  -- an arm: its functor, its arguments, its goals
  pub data Arms : Type 0 where
    no_arms : Arms
    arm : ℕ → Four → Goals → Arms → Arms

infixr 20 ◌before◌
-- goals in front of others
unfoldable pub ◌before◌ : Goals → Goals → Goals
done before hs = hs
(g then gs) before hs = g then (gs before hs)

-- what a procedure declares; annotating leaves it as it is
pub record Signature : Type 0 where
  pub variables : List Variable
  pub regions : List Region

pub record Procedure : Type 0 where
  pub signature : Signature
  pub body : Goals

pub record Program : Type 0 where
  pub types : List (List Functor)
  pub procedures : List Procedure

unfoldable pub four_words : Four → List ℕ
four_words (four a b c d) = a ∷ b ∷ c ∷ d ∷ []

-- a list without the zeros at its end
unfoldable pub trim_onto : ℕ → List ℕ → List ℕ
trim_onto zero [] = []
trim_onto zero (y ∷ ys) = zero ∷ y ∷ ys
trim_onto (suc x) ys = suc x ∷ ys

unfoldable pub trimmed : List ℕ → List ℕ
trimmed [] = []
trimmed (x ∷ xs) = trim_onto x (trimmed xs)

-- the arguments of a construct or an arm: variables are numbered from 1, so a zero at the end is none
unfoldable pub arguments_of : Four → List ℕ
arguments_of ws = trimmed (four_words ws)

-- "Types, variables and regions are numbered from 1 in chain order, functors and procedures from 0."
unfoldable pub variable_at : Signature → ℕ → Variable
variable_at S x = nth1 (record { mode = 0; type = 0; region = 0 }) S.variables x

unfoldable pub type_of : Signature → ℕ → ℕ
type_of S x = (variable_at S x).type

unfoldable pub region_of : Signature → ℕ → ℕ
region_of S x = (variable_at S x).region

unfoldable pub region_at : Signature → ℕ → Region
region_at S r = nth1 (record { type = 0; class = 0; edges = [] }) S.regions r

unfoldable pub procedure_at : Program → ℕ → Procedure
procedure_at P p = nth (record { signature = record { variables = []; regions = [] }; body = done }) P.procedures p

unfoldable pub signature_of : Program → ℕ → Signature
signature_of P p = (procedure_at P p).signature

-- the functors of a type; "Type 0 is the whole number" and has none
unfoldable pub functors_of : List (List Functor) → ℕ → List Functor
functors_of T t = nth1 [] T t

unfoldable pub functor_at : List Functor → ℕ → Functor
functor_at fs f = nth (record { arity = 0; argument_types = four 0 0 0 0 }) fs f

-- a procedure's in and out variables in chain order, which a call's arguments match: mode and number
pub record Parameter : Type 0 where
  pub mode : ℕ
  pub variable : ℕ

unfoldable pub parameter_in : ℕ → ℕ → List Parameter → List Parameter
parameter_in zero x ps = ps
parameter_in (suc m) x ps = record { mode = suc m; variable = x } ∷ ps

unfoldable pub parameters_from : ℕ → List Variable → List Parameter
parameters_from x [] = []
parameters_from x (v ∷ vs) = parameter_in v.mode x (parameters_from (suc x) vs)

unfoldable pub parameters_of : Signature → List Parameter
parameters_of S = parameters_from 1 S.variables

-- "mode (0 local, 1 in, 2 out)"
abbrev pub in_mode : ℕ
in_mode = 1

abbrev pub out_mode : ℕ
out_mode = 2

unfoldable pub parameter_variables : List Parameter → List ℕ
parameter_variables [] = []
parameter_variables (a ∷ ps) = a.variable ∷ parameter_variables ps

-- the arguments that stand at the places of one mode
unfoldable pub arguments_in : ℕ → List Parameter → List ℕ → List ℕ
arguments_in m [] ys = []
arguments_in m (a ∷ ps) [] = []
arguments_in m (a ∷ ps) (y ∷ ys) = cons_if (eqb a.mode m) y (arguments_in m ps ys)

-- the variables of one mode
unfoldable pub variables_in : ℕ → Signature → List ℕ
variables_in m S = arguments_in m (parameters_of S) (parameter_variables (parameters_of S))
