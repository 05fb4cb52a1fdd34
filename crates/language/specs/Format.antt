-- Document 01's numbers: kinds, the places of words, modes, classes, limits. The code has them under the same names (src/format.rt).
use Rattle.std.specs.Prelude.{ℕ}

-- kinds: "w0 is the kind"
abbrev pub header_kind : ℕ
header_kind = 1

abbrev pub type_kind : ℕ
type_kind = 2

abbrev pub functor_kind : ℕ
functor_kind = 3

abbrev pub procedure_kind : ℕ
procedure_kind = 4

abbrev pub variable_kind : ℕ
variable_kind = 5

abbrev pub region_kind : ℕ
region_kind = 6

abbrev pub edge_kind : ℕ
edge_kind = 7

abbrev pub literal_kind : ℕ
literal_kind = 8

abbrev pub sum_kind : ℕ
sum_kind = 9

abbrev pub assign_kind : ℕ
assign_kind = 10

abbrev pub construct_kind : ℕ
construct_kind = 11

abbrev pub switch_kind : ℕ
switch_kind = 12

abbrev pub arm_kind : ℕ
arm_kind = 13

abbrev pub if_kind : ℕ
if_kind = 14

abbrev pub call_kind : ℕ
call_kind = 15

abbrev pub argument_kind : ℕ
argument_kind = 16

abbrev pub print_kind : ℕ
print_kind = 17

abbrev pub create_kind : ℕ
create_kind = 18

abbrev pub remove_kind : ℕ
remove_kind = 19

-- "Add kind 20, try .. and kind 21, test" (C-20)
abbrev pub try_kind : ℕ
try_kind = 20

abbrev pub test_kind : ℕ
test_kind = 21

-- the places of a record's words
-- every record
abbrev pub kind_word : ℕ
kind_word = 0

abbrev pub next_word : ℕ
next_word = 1

-- header
abbrev pub header_procedures : ℕ
header_procedures = 1

abbrev pub header_types : ℕ
header_types = 2

abbrev pub header_count : ℕ
header_count = 3

-- type
abbrev pub type_functors : ℕ
type_functors = 2

-- functor; its argument types are four words from there on
abbrev pub functor_arity : ℕ
functor_arity = 2

abbrev pub functor_types : ℕ
functor_types = 3

-- procedure
abbrev pub procedure_variables : ℕ
procedure_variables = 2

abbrev pub procedure_regions : ℕ
procedure_regions = 3

abbrev pub procedure_goals : ℕ
procedure_goals = 4

-- variable
abbrev pub variable_mode : ℕ
variable_mode = 2

abbrev pub variable_type : ℕ
variable_type = 3

abbrev pub variable_region : ℕ
variable_region = 4

-- region
abbrev pub region_type : ℕ
region_type = 2

abbrev pub region_class : ℕ
region_class = 3

abbrev pub region_edges : ℕ
region_edges = 4

-- edge
abbrev pub edge_functor : ℕ
edge_functor = 2

abbrev pub edge_position : ℕ
edge_position = 3

abbrev pub edge_target : ℕ
edge_target = 4

-- literal, sum, assign, construct and switch: X
abbrev pub goal_x : ℕ
goal_x = 2

-- literal, sum and assign
abbrev pub literal_value : ℕ
literal_value = 3

abbrev pub sum_operation : ℕ
sum_operation = 3

abbrev pub sum_y : ℕ
sum_y = 4

abbrev pub sum_z : ℕ
sum_z = 5

abbrev pub assign_y : ℕ
assign_y = 3

-- construct and arm; their arguments are four words from there on
abbrev pub term_functor : ℕ
term_functor = 3

abbrev pub term_arguments : ℕ
term_arguments = 4

-- switch and arm
abbrev pub switch_arms : ℕ
switch_arms = 3

abbrev pub arm_goals : ℕ
arm_goals = 2

-- if
abbrev pub if_y : ℕ
if_y = 2

abbrev pub if_z : ℕ
if_z = 3

abbrev pub if_then : ℕ
if_then = 4

abbrev pub if_else : ℕ
if_else = 5

-- try: "w2 condition, w3 then, w4 else"; test: "w2 Y, w3 Z" (C-20)
abbrev pub try_condition : ℕ
try_condition = 2

abbrev pub try_then : ℕ
try_then = 3

abbrev pub try_else : ℕ
try_else = 4

abbrev pub test_y : ℕ
test_y = 2

abbrev pub test_z : ℕ
test_z = 3

-- call and argument
abbrev pub call_procedure : ℕ
call_procedure = 2

abbrev pub call_arguments : ℕ
call_arguments = 3

abbrev pub argument_variable : ℕ
argument_variable = 2

-- print; create and remove
abbrev pub print_y : ℕ
print_y = 2

abbrev pub lifetime_region : ℕ
lifetime_region = 2

-- "class (0 none, 1 born, 2 dead)"; the modes stand in Program
abbrev pub born_class : ℕ
born_class = 1

abbrev pub dead_class : ℕ
dead_class = 2

-- limits
abbrev pub record_bytes : ℕ
record_bytes = 16

abbrev pub max_bytes : ℕ
max_bytes = 65536

abbrev pub max_records : ℕ
max_records = 4096

abbrev pub max_types : ℕ
max_types = 64

abbrev pub max_functors : ℕ
max_functors = 32

abbrev pub max_arity : ℕ
max_arity = 4

abbrev pub max_procedures : ℕ
max_procedures = 256

-- "Procedure 0 is the entry."
abbrev pub entry_procedure : ℕ
entry_procedure = 0

abbrev pub max_variables : ℕ
max_variables = 64

abbrev pub max_regions : ℕ
max_regions = 64

-- places for the numbers 0 to 64 of variables or regions
abbrev pub places : ℕ
places = 65
