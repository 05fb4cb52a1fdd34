-- The tables that a run reads beside the file: worked out once, before the first step. How the code keeps them is its own affair.
use Rattle.std.specs.Prelude.{ℕ, zero, suc, ◌/◌, ◌%◌, ◌<◌, ◌≡◌, true, List, map, ◌⊎◌, length}
use Rattle.sets.specs.Sets.{member}
use Rattle.sets.specs.declared.Set.{Set}
use Rattle.language.specs.Lists.{nth}
use Rattle.language.specs.File.{goals, arms, word}
use Rattle.language.specs.Program.{in_mode, out_mode, region_of, signature_of, parameters_of, arguments_in, variables_in}
use Rattle.language.specs.Regions.{mapping, image_in}
use Rattle.language.specs.Lifetimes.{born, start_held}
use Rattle.language.specs.Answers.{program}
use Rattle.language.specs.Format.{next_word, header_procedures, procedure_goals, arm_goals}
use Rattle.records.specs.Records.{record_at}
use Rattle.records.specs.declared.Record.TheVariants.{Construct, Switch, If, Try, Call}
use Rattle.chains.specs.Formed.{Stands, arguments_at}
use Rattle.chains.specs.Fields.{field_of}
use Rattle.chains.specs.Records.{chain_records}

pub record Tables : Type 0 where
  pub successor : ℕ → ℕ  -- of a goal's record: the record of the goal that comes next, 0 at the procedure's end and at a condition's
  pub entry : ℕ → ℕ  -- of an arm's record: the record of its first goal; where it has none, of the goal after the switch
  pub region : ℕ → ℕ  -- of a construct's record, if it has arguments: the region number of X
  pub passes : ℕ → ℕ → List ℕ  -- of a mode and a call's record: what its arguments of that mode pass, a word for each (slot_of, given_of)
  pub image : ℕ → ℕ → ℕ  -- of a call's record and a region of the callee: the caller's region
  pub body : ℕ → ℕ  -- of a procedure's number: the record of its first goal
  pub size : ℕ → ℕ  -- .. how many variables it has
  pub held : ℕ → Set  -- .. its dead and kept regions
  pub bears : ℕ → Set  -- .. its born regions

-- what an argument passes, as one word: the callee's variable, the caller's so many times, and so many times more that means nothing here
abbrev pub given_unit : ℕ
given_unit = 256

abbrev pub link_unit : ℕ
link_unit = 65536

unfoldable pub slot_of : ℕ → ℕ
slot_of w = w % given_unit

unfoldable pub given_of : ℕ → ℕ
given_of w = w / given_unit % given_unit

-- the modes that pass values: in and out
abbrev pub PassingMode : ℕ → Type 0
PassingMode m = (m ≡ in_mode) ⊎ (m ≡ out_mode)

-- the first record of a chain, or where to go on if the chain is empty
unfoldable pub onto : ℕ → ℕ → ℕ
onto zero c = c
onto (suc i) c = suc i

-- a chain that starts at record w goes on at record c after its end, and is procedure p's
abbrev pub Continues : (ℕ → ℕ) → (ℕ → ℕ) → ℕ → ℕ → ℕ → Type 0
Continues onward owner w c p = (w ≡ 0 → ⊥) → (onward w ≡ c) × (owner w ≡ p)

-- the record of a procedure's first goal
abbrev pub body_record : List ℕ → ℕ → ℕ
body_record f p = field_of f (nth 0 (chain_records f (word f 0 header_procedures)) p) procedure_goals

-- The tables of an accepted file. "After a goal chain ends, the next goal is the enclosing goal's next" is an equation for each reference of
-- each record, so that one pass over the records in rising order can fill the table: `onward` is where the chain of a record goes on after its
-- end, `owner` the procedure that has the record.
pub record Tabled (f : List ℕ) (T : Tables) : Type 0 where
  pub onward : ℕ → ℕ
  pub owner : ℕ → ℕ
  pub next : (i : ℕ) → Stands f goals i → (i ≡ 0 → ⊥) → T.successor i ≡ onto (word f i next_word) (onward i)
  pub goal_next : (i : ℕ) → Stands f goals i → (i ≡ 0 → ⊥) → Continues onward owner (word f i next_word) (onward i) (owner i)
  pub arm_next : (i : ℕ) → Stands f arms i → (i ≡ 0 → ⊥) → Continues onward owner (word f i next_word) (onward i) (owner i)
  pub arm_goals_law : (i : ℕ) → Stands f arms i → (i ≡ 0 → ⊥) → Continues onward owner (word f i arm_goals) (onward i) (owner i)
  pub switch_arms_law : (i n x cs : ℕ) → record_at f i ≡ Switch n x cs → Continues onward owner cs (T.successor i) (owner i)
  pub if_then_law : (i n y z a b : ℕ) → record_at f i ≡ If n y z a b → Continues onward owner a (T.successor i) (owner i)
  pub if_else_law : (i n y z a b : ℕ) → record_at f i ≡ If n y z a b → Continues onward owner b (T.successor i) (owner i)
  -- a condition goes on nowhere: it runs by itself
  pub try_condition_law : (i n c a b : ℕ) → record_at f i ≡ Try n c a b → Continues onward owner c 0 (owner i)
  pub try_then_law : (i n c a b : ℕ) → record_at f i ≡ Try n c a b → Continues onward owner a (T.successor i) (owner i)
  pub try_else_law : (i n c a b : ℕ) → record_at f i ≡ Try n c a b → Continues onward owner b (T.successor i) (owner i)
  pub bodies : (p : ℕ) → p < length (program f).procedures → Continues onward owner (T.body p) 0 p
  pub region : (i n x k a b c d : ℕ) → record_at f i ≡ Construct n x k (suc a) b c d → T.region i ≡ region_of (signature_of (program f) (owner i)) x
  pub arm_entry : (i : ℕ) → Stands f arms i → (i ≡ 0 → ⊥) → T.entry i ≡ onto (word f i arm_goals) (onward i)
  pub slots : (i n q ys m : ℕ) → record_at f i ≡ Call n q ys → PassingMode m → map slot_of (T.passes m i) ≡ variables_in m (signature_of (program f) q)
  pub givens : (i n q ys m : ℕ) → record_at f i ≡ Call n q ys → PassingMode m
      → map given_of (T.passes m i) ≡ arguments_in m (parameters_of (signature_of (program f) q)) (arguments_at f ys)
  pub image : (i n q ys r : ℕ) → record_at f i ≡ Call n q ys
      → (member (start_held (signature_of (program f) q)) r ≡ true) ⊎ (member (born (signature_of (program f) q)) r ≡ true)
      → T.image i r ≡ image_in (mapping (signature_of (program f) (owner i)) (signature_of (program f) q) (arguments_at f ys)) r
  pub body : (p : ℕ) → p < length (program f).procedures → T.body p ≡ body_record f p
  pub size : (p : ℕ) → p < length (program f).procedures → T.size p ≡ length (signature_of (program f) p).variables
  pub held : (p : ℕ) → p < length (program f).procedures → T.held p ≡ start_held (signature_of (program f) p)
  pub bears : (p : ℕ) → p < length (program f).procedures → T.bears p ≡ born (signature_of (program f) p)
