-- How long the rows and the file's table are, and the places of words in them. The code has them under the same names (src/lib.rt).
use Rattle.std.specs.Prelude.{ℕ, ◌+◌, ◌*◌}
use Rattle.language.specs.Format.{max_records, max_procedures}

-- words of a row, and of the rows of 4,096 records
abbrev pub row_size : ℕ
row_size = 6

abbrev pub row_words : ℕ
row_words = row_size * max_records

-- the first words of a procedure's window
abbrev pub head_size : ℕ
head_size = 10

-- words of the file's table: for each procedure where its window starts and the window's first words; two words for each record
abbrev pub file_words : ℕ
file_words = (1 + head_size) * max_procedures + 2 * max_records

-- word k of the row of record i
abbrev pub row_place : ℕ → ℕ → ℕ
row_place i k = row_size * i + k

-- what the goal reads, gives, needs, bears and ends, and a mark
abbrev pub reads_place : ℕ
reads_place = 0

abbrev pub gives_place : ℕ
gives_place = 1

abbrev pub needs_place : ℕ
needs_place = 2

abbrev pub bears_place : ℕ
bears_place = 3

abbrev pub ends_place : ℕ
ends_place = 4

abbrev pub mark_place : ℕ
mark_place = 5

-- the first words of a window
abbrev pub variables_place : ℕ
variables_place = 0

abbrev pub regions_place : ℕ
regions_place = 1

abbrev pub body_place : ℕ
body_place = 2

abbrev pub ins_place : ℕ
ins_place = 3

abbrev pub outs_place : ℕ
outs_place = 4

abbrev pub born_place : ℕ
born_place = 5

abbrev pub dead_place : ℕ
dead_place = 6

abbrev pub kept_place : ℕ
kept_place = 7

abbrev pub passed_place : ℕ
passed_place = 8

abbrev pub first_place : ℕ
first_place = 9

-- behind them: the region and the reach of variable x, and, where there are n variables, the first edge of region r
abbrev pub home_place : ℕ → ℕ
home_place x = 2 * x + 8

abbrev pub reach_place : ℕ → ℕ
reach_place x = 2 * x + 9

abbrev pub edges_place : ℕ → ℕ → ℕ
edges_place n r = 2 * n + r + 9

-- words of a window with n variables and m regions
abbrev pub window_words : ℕ → ℕ → ℕ
window_words n m = head_size + 2 * n + m
