-- What the rows say of every goal, and which procedure each record belongs to: what the walks over goals ask of the tables.
use Rattle.std.specs.Prelude.{ℕ, ◌≤◌, ◌<◌, List, ◌≡◌, length}
use Rattle.sets.specs.Members.{set_of}
use Rattle.language.specs.File.{goals, arms, word}
use Rattle.language.specs.Format.{max_procedures, next_word, switch_arms, arm_goals, if_then, if_else, try_condition, try_then, try_else, procedure_goals, header_procedures}
use Rattle.language.specs.Lists.{nth}
use Rattle.language.specs.Program.{arguments_of, Step, step, signature_of}
use Rattle.language.specs.Values
use Rattle.language.specs.Lifetimes.{effect}
use Rattle.language.specs.Answers.{program}
use Rattle.chains.specs.Formed.{Stands, goal_at}
use Rattle.chains.specs.Records.{chain_records}
use Rattle.chains.specs.Parts.{four_at}
use Rattle.chains.specs.Shapes.{IsIf, IsSwitch, IsTry}
use Rattle.tables.specs.Window.{FileTable}
use Rattle.tables.specs.Rows.{reads_in, gives_in, needs_in, bears_in, ends_in, mark_in}

module _ (f : List ℕ) where
  -- the goal at record i is the step g
  pub record GoalIsStep (i : ℕ) (g : Step) : Type 0 where
    pub stands : Stands f goals i
    pub some : i ≡ 0 → ⊥
    pub view : goal_at f i ≡ step g

  -- the rows have what every step reads and gives, and what every arm gives
  pub record Accessed (rows : List ℕ) : Type 0 where
    pub reads : (i : ℕ) (g : Step) → GoalIsStep i g → reads_in rows i ≡ Values.reads (program f) g
    pub gives : (i : ℕ) (g : Step) → GoalIsStep i g → gives_in rows i ≡ Values.gives (program f) g
    pub arm_gives : (i : ℕ) → Stands f arms i → (i ≡ 0 → ⊥)
        → gives_in rows i ≡ set_of (arguments_of (four_at f i))

  -- .. and what every step does to the regions of the procedure that it belongs to
  pub record Effected (owner : ℕ → ℕ) (rows : List ℕ) : Type 0 where
    pub needs : (i : ℕ) (g : Step) → GoalIsStep i g → needs_in rows i ≡ (effect (program f) (signature_of (program f) (owner i)) g).needs
    pub bears : (i : ℕ) (g : Step) → GoalIsStep i g → bears_in rows i ≡ (effect (program f) (signature_of (program f) (owner i)) g).bears
    pub ends : (i : ℕ) (g : Step) → GoalIsStep i g → ends_in rows i ≡ (effect (program f) (signature_of (program f) (owner i)) g).ends
    pub unshared : (i : ℕ) (g : Step) → GoalIsStep i g → mark_in rows i ≡ (effect (program f) (signature_of (program f) (owner i)) g).unshared

  -- a goal or arm belongs to the procedure that the record leading to it belongs to
  pub record Owning (owner : ℕ → ℕ) : Type 0 where
    pub to_body : (q : ℕ) → q < length (program f).procedures → (j : ℕ) → j ≡ word f (nth 0 (chain_records f (word f 0 header_procedures)) q) procedure_goals
        → (j ≡ 0 → ⊥) → owner j ≡ q
    pub to_next : (i : ℕ) → Stands f goals i → (i ≡ 0 → ⊥) → (j : ℕ) → j ≡ word f i next_word → (j ≡ 0 → ⊥) → owner j ≡ owner i
    pub to_then : (i : ℕ) → IsIf f i → (j : ℕ) → j ≡ word f i if_then → (j ≡ 0 → ⊥) → owner j ≡ owner i
    pub to_else : (i : ℕ) → IsIf f i → (j : ℕ) → j ≡ word f i if_else → (j ≡ 0 → ⊥) → owner j ≡ owner i
    pub to_condition : (i : ℕ) → IsTry f i → (j : ℕ) → j ≡ word f i try_condition → (j ≡ 0 → ⊥) → owner j ≡ owner i
    pub to_try_then : (i : ℕ) → IsTry f i → (j : ℕ) → j ≡ word f i try_then → (j ≡ 0 → ⊥) → owner j ≡ owner i
    pub to_try_else : (i : ℕ) → IsTry f i → (j : ℕ) → j ≡ word f i try_else → (j ≡ 0 → ⊥) → owner j ≡ owner i
    pub to_arms : (i : ℕ) → IsSwitch f i → (j : ℕ) → j ≡ word f i switch_arms → (j ≡ 0 → ⊥) → owner j ≡ owner i
    pub arm_goals_law : (i : ℕ) → Stands f arms i → (i ≡ 0 → ⊥) → (j : ℕ) → j ≡ word f i arm_goals → (j ≡ 0 → ⊥) → owner j ≡ owner i
    pub arm_next : (i : ℕ) → Stands f arms i → (i ≡ 0 → ⊥) → (j : ℕ) → j ≡ word f i next_word → (j ≡ 0 → ⊥) → owner j ≡ owner i

-- record i belongs to procedure q, if there is such a record
abbrev pub Belongs : (ℕ → ℕ) → ℕ → ℕ → Type 0
Belongs o q i = (i ≡ 0 → ⊥) → o i ≡ q

-- the rows have what steps do to regions, each by the procedure that its record belongs to
pub record Owned (f rows : List ℕ) (owner : ℕ → ℕ) : Type 0 where
  pub effected : Effected f owner rows
  pub owning : Owning f owner

-- the file's table and its rows are filled: what the stages that all programs share leave for those of each
pub record Prepared (f table rows : List ℕ) : Type 0 where
  pub owner : ℕ → ℕ
  pub few : length (program f).procedures ≤ max_procedures
  pub windows : FileTable f table
  pub accessed : Accessed f rows
  pub effected : Effected f owner rows
  pub owning : Owning f owner
