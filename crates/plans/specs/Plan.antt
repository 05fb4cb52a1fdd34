-- The tables of a run as the code keeps them. The plan has four words for each of 4,096 records, sort by sort:
--   i               of a goal: the goal that comes next; of an arm: where it is entered
--   ins_from + i     a link from a call to its arguments of mode in, from each to the next; of an argument, what it passes too
--   outs_from + i    .. and of mode out
--   sides_from + i   of a construct: the region number of X; of a call: the place before its images
-- A link is link_unit times the record that it leads to, which is a later one, and what an argument passes. The images have a byte for each call and region of its
-- callee, from place 1 on: the caller's region. Of each procedure a call reads four words: its first goal, how many variables it has, its dead and kept regions,
-- and its born ones.
use Rattle.std.specs.Prelude.{ℕ, zero, suc, ◌+◌, ◌-◌, ◌*◌, ◌/◌, ◌%◌, ◌<◌, ◌≤◌, ◌≡◌, List, [], ◌∷◌, eqb, ltb, length, get_or}
use Rattle.sets.specs.Sets.{loaded}
use Rattle.language.specs.File.{word}
use Rattle.language.specs.Format.{max_variables, max_regions, max_procedures, term_arguments, max_records}
use Rattle.language.specs.Lists.{choose}
use Rattle.language.specs.Program.{in_mode}
use Rattle.records.specs.Records.{record_at}
use Rattle.records.specs.declared.Record.TheVariants.{Literal, Sum, Assign, Construct, Switch, Arm, If, Print, Create, Remove, Test}
use Rattle.word_machine.specs.Tables.{link_unit, Tables, slot_of, given_of}

-- where each sort of word starts, and how many words and images there are
abbrev pub ins_from : ℕ
ins_from = max_records

abbrev pub outs_from : ℕ
outs_from = 2 * max_records

abbrev pub sides_from : ℕ
sides_from = 3 * max_records

abbrev pub plan_words : ℕ
plan_words = 4 * max_records

abbrev pub image_bytes : ℕ
image_bytes = max_regions * max_records + 1

-- the four words of procedure q
abbrev pub callee_row : ℕ
callee_row = 4

abbrev pub callee_word : List ℕ → ℕ → ℕ → ℕ
callee_word callees q k = get_or callees (callee_row * (q % max_procedures) + k) 0

abbrev pub callee_body : ℕ
callee_body = 0

abbrev pub callee_size : ℕ
callee_size = 1

abbrev pub callee_held : ℕ
callee_held = 2

abbrev pub callee_born : ℕ
callee_born = 3

abbrev pub callees_words : ℕ
callees_words = callee_row * max_procedures

-- where the links of a mode start
unfoldable pub links_from : ℕ → ℕ
links_from m = choose (eqb m in_mode) ins_from outs_from

-- the links from record a on, at most n of them: each leads to a later record
unfoldable pub linked : (ℕ → ℕ) → ℕ → ℕ → List ℕ
linked link zero a = []
linked link (suc n) a = choose (ltb a (link a / link_unit)) (link (link a / link_unit) ∷ linked link n (link a / link_unit)) []

unfoldable pub tables_in : List ℕ → List ℕ → List ℕ → Tables
tables_in plan images callees = record {
  successor = λ i. get_or plan i 0;
  entry = λ j. get_or plan j 0;
  region = λ i. get_or plan (sides_from + i) 0;
  passes = λ m i. linked (λ a. get_or plan (links_from m + a) 0) (max_records - i) i;
  image = λ i r. get_or images (get_or plan (sides_from + i) 0 + r) 0;
  body = λ q. callee_word callees q callee_body;
  size = λ q. callee_word callees q callee_size;
  held = λ q. loaded (callee_word callees q callee_held);
  bears = λ q. loaded (callee_word callees q callee_born);
}

-- what a link says can be read: numbers of variables, and a record
pub record LinkOk (w : ℕ) : Type 0 where
  pub slot : slot_of w ≤ max_variables
  pub given : given_of w ≤ max_variables
  pub next : w / link_unit < max_records

-- What a run may read without a look: every word of these tables leads to a word that is there.
pub record Narrow (plan images : List ℕ) : Type 0 where
  pub goals : (i : ℕ) → i < max_records → get_or plan i 0 < max_records
  pub ins : (a : ℕ) → a < max_records → LinkOk (get_or plan (ins_from + a) 0)
  pub outs : (a : ℕ) → a < max_records → LinkOk (get_or plan (outs_from + a) 0)
  pub sides : (i : ℕ) → i < max_records → get_or plan (sides_from + i) 0 + max_regions < image_bytes
  pub image : (p : ℕ) → get_or images p 0 ≤ max_regions
  pub long : image_bytes ≤ length images

-- The numbers of variables and regions that a file's goals have are those of words of a frame: number 3 sees to that.
pub record Numbered (f plan : List ℕ) : Type 0 where
  pub literal : (i n x v : ℕ) → record_at f i ≡ Literal n x v → x ≤ max_variables
  pub sum : (i n x o y z : ℕ) → record_at f i ≡ Sum n x o y z → (x ≤ max_variables) × (y ≤ max_variables) × (z ≤ max_variables)
  pub assign : (i n x y : ℕ) → record_at f i ≡ Assign n x y → (x ≤ max_variables) × (y ≤ max_variables)
  pub construct : (i n x k a b c d : ℕ) → record_at f i ≡ Construct n x k a b c d → (x ≤ max_variables) × (a ≤ max_variables) × (b ≤ max_variables) × (c ≤ max_variables) × (d ≤ max_variables)
  pub home : (i n x k a b c d : ℕ) → record_at f i ≡ Construct n x k a b c d → get_or plan (sides_from + i) 0 ≤ max_regions
  pub switch : (i n x cs : ℕ) → record_at f i ≡ Switch n x cs → x ≤ max_variables
  pub arm : (i n g k a b c d : ℕ) → record_at f i ≡ Arm n g k a b c d → (a ≤ max_variables) × (b ≤ max_variables) × (c ≤ max_variables) × (d ≤ max_variables)
  pub none : word f 0 term_arguments ≡ 0  -- no arm is record 0, which has no argument
  pub less : (i n y z a b : ℕ) → record_at f i ≡ If n y z a b → (y ≤ max_variables) × (z ≤ max_variables)
  pub test : (i n y z : ℕ) → record_at f i ≡ Test n y z → (y ≤ max_variables) × (z ≤ max_variables)
  pub print : (i n y : ℕ) → record_at f i ≡ Print n y → y ≤ max_variables
  pub create : (i n r : ℕ) → record_at f i ≡ Create n r → r ≤ max_regions
  pub remove : (i n r : ℕ) → record_at f i ≡ Remove n r → r ≤ max_regions
