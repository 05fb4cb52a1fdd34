-- "The file": bytes, words, the table of records, and numbers 1 and 2.
use Rattle.std.specs.Prelude.{ℕ, zero, suc, ◌+◌, ◌-◌, ◌*◌, Bool, true, List, [], ◌∷◌, ◌++◌, eqb, leb, ltb, length, get_or}
use Rattle.sets.specs.Tests.{◌&◌, ◌or◌}
use Rattle.language.specs.Lists.{nth, all, up_from, count}
use Rattle.language.specs.Format.{header_kind, type_kind, functor_kind, procedure_kind, variable_kind, region_kind, edge_kind, literal_kind, sum_kind, assign_kind, construct_kind, switch_kind, arm_kind, if_kind, call_kind, argument_kind, print_kind, create_kind, remove_kind, try_kind, test_kind, record_bytes, max_bytes}

-- "records of 16 bytes, each eight 16-bit words w0 to w7, low byte first": word k of record i
unfoldable pub word : List ℕ → ℕ → ℕ → ℕ
word f i k = get_or f (16 * i + 2 * k) 0 + 256 * get_or f (16 * i + 2 * k + 1) 0

-- "Record 0 is the header: .. w3 record count"
unfoldable pub record_count : List ℕ → ℕ
record_count f = word f 0 3

-- "In other records w0 is the kind": first the kinds of a goal chain, then all
pub data GoalKind : Type 0 where
  k_literal k_sum k_assign k_construct k_switch k_if k_call k_print k_create k_remove k_try k_test : GoalKind

pub data Kind : Type 0 where
  k_none k_header k_type k_functor k_procedure k_variable k_region k_edge k_arm k_argument : Kind
  k_goal : GoalKind → Kind

-- what a reference leads to: a chain of records of one sort
pub data Chain : Type 0 where
  nowhere types functors procedures variables regions edges goals arms arguments : Chain

-- the use of a word
pub data Use : Type 0 where
  number unused : Use
  first : Chain → Use

-- what document 01's table says of a kind: its number, the chain that it stands in, what w1 leads to, and w2 to w7
pub record Row : Type 0 where
  pub kind : ℕ
  pub chain : Chain
  pub next : Chain
  pub words : List Use

-- a row of a chain: "w1 the next record of its chain"; the words that are not listed are unused
unfoldable pub padded : ℕ → List Use → List Use
padded zero us = []
padded (suc n) [] = unused ∷ padded n []
padded (suc n) (u ∷ us) = u ∷ padded n us

unfoldable pub row_in : ℕ → Chain → List Use → Row
row_in k c us = record { kind = k; chain = c; next = c; words = padded 6 us }

-- The table. A kind that it does not list is k_none, which stands in no chain: such a record is refused because nothing can lead to it, and every record
-- but 0 must be led to.
unfoldable pub row : Kind → Row
row k_none = row_in 0 nowhere []
row k_header = record { kind = header_kind; chain = nowhere; next = procedures; words = padded 6 (first types ∷ number ∷ []) }
row k_type = row_in type_kind types (first functors ∷ [])
row k_functor = row_in functor_kind functors (number ∷ number ∷ number ∷ number ∷ number ∷ [])
row k_procedure = row_in procedure_kind procedures (first variables ∷ first regions ∷ first goals ∷ [])
row k_variable = row_in variable_kind variables (number ∷ number ∷ number ∷ [])
row k_region = row_in region_kind regions (number ∷ number ∷ first edges ∷ [])
row k_edge = row_in edge_kind edges (number ∷ number ∷ number ∷ [])
row (k_goal k_literal) = row_in literal_kind goals (number ∷ number ∷ [])
row (k_goal k_sum) = row_in sum_kind goals (number ∷ number ∷ number ∷ number ∷ [])
row (k_goal k_assign) = row_in assign_kind goals (number ∷ number ∷ [])
row (k_goal k_construct) = row_in construct_kind goals (number ∷ number ∷ number ∷ number ∷ number ∷ number ∷ [])
row (k_goal k_switch) = row_in switch_kind goals (number ∷ first arms ∷ [])
row k_arm = row_in arm_kind arms (first goals ∷ number ∷ number ∷ number ∷ number ∷ number ∷ [])
row (k_goal k_if) = row_in if_kind goals (number ∷ number ∷ first goals ∷ first goals ∷ [])
row (k_goal k_call) = row_in call_kind goals (number ∷ first arguments ∷ [])
row k_argument = row_in argument_kind arguments (number ∷ [])
row (k_goal k_print) = row_in print_kind goals (number ∷ [])
row (k_goal k_create) = row_in create_kind goals (number ∷ [])
row (k_goal k_remove) = row_in remove_kind goals (number ∷ [])
row (k_goal k_try) = row_in try_kind goals (first goals ∷ first goals ∷ first goals ∷ [])
row (k_goal k_test) = row_in test_kind goals (number ∷ number ∷ [])

-- the kinds in the order of their numbers; k_none stands for every other number
unfoldable pub kinds : List Kind
kinds = k_none ∷ k_header ∷ k_type ∷ k_functor ∷ k_procedure ∷ k_variable ∷ k_region ∷ k_edge ∷ k_goal k_literal ∷ k_goal k_sum ∷ k_goal k_assign ∷ k_goal k_construct ∷ k_goal k_switch ∷ k_arm ∷ k_goal k_if ∷ k_goal k_call ∷ k_argument ∷ k_goal k_print ∷ k_goal k_create ∷ k_goal k_remove ∷ k_goal k_try ∷ k_goal k_test ∷ []

unfoldable pub kind_of : ℕ → Kind
kind_of n = nth k_none kinds n

-- chains told apart by a number each
unfoldable pub code : Chain → ℕ
code nowhere = 0
code types = 1
code functors = 2
code procedures = 3
code variables = 4
code regions = 5
code edges = 6
code goals = 7
code arms = 8
code arguments = 9

-- a kind that may stand in a chain
unfoldable pub stands_in : Chain → Kind → Bool
stands_in c k = eqb (code (row k).chain) (code c)

-- Number 1: "length under 16, over 65,536, not 16 × w3, or header w0 not 1"
unfoldable pub header_ok : List ℕ → Bool
header_ok f = leb record_bytes (length f) & leb (length f) max_bytes & eqb (length f) (record_bytes * record_count f) & eqb (word f 0 0) header_kind

-- Number 2, over the words of n records
module _ (W : ℕ → ℕ → ℕ) (n : ℕ) where
  unfoldable pub kind_at : ℕ → Kind
  kind_at i = kind_of (W i 0)

  -- "a reference not above its own record or past the end; .. a wrong kind there"; "zero ends a chain"
  unfoldable pub reference_ok : ℕ → Chain → ℕ → Bool
  reference_ok i c r = eqb r 0 or ltb i r & ltb r n & stands_in c (kind_at r)

  -- "an unused word not 0"
  unfoldable pub words_ok : ℕ → ℕ → List Use → Bool
  words_ok i k [] = true
  words_ok i k (number ∷ us) = words_ok i (suc k) us
  words_ok i k (unused ∷ us) = eqb (W i k) 0 & words_ok i (suc k) us
  words_ok i k (first c ∷ us) = reference_ok i c (W i k) & words_ok i (suc k) us

  -- what number 2 asks of record i alone
  unfoldable pub record_ok : ℕ → Bool
  record_ok i = reference_ok i (row (kind_at i)).next (W i 1) & words_ok i 2 (row (kind_at i)).words

  -- the references of record i: its w1 and the words that the table calls "first"
  unfoldable pub leading : ℕ → ℕ → List Use → List ℕ
  leading i k [] = []
  leading i k (number ∷ us) = leading i (suc k) us
  leading i k (unused ∷ us) = leading i (suc k) us
  leading i k (first c ∷ us) = W i k ∷ leading i (suc k) us

  unfoldable pub references : ℕ → List ℕ
  references i = W i 1 ∷ leading i 2 (row (kind_at i)).words

  -- .. of several records
  unfoldable pub references_of : List ℕ → List ℕ
  references_of [] = []
  references_of (i ∷ is) = references i ++ references_of is

  -- "a record but 0 not referred to once"
  unfoldable pub once_in : List ℕ → Bool
  once_in rs = all (λ i. eqb (count i rs) 1) (up_from 1 (n - 1))

  -- all of number 2
  unfoldable pub form_ok : Bool
  form_ok = all record_ok (up_from 0 n) & once_in (references_of (up_from 0 n))
