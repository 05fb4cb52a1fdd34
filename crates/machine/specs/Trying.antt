-- What the code promises of an open condition (C-20): of each of its steps, and of a try as a whole.
use Rattle.std.specs.Prelude.{ℕ, suc, ◌+◌, ◌-◌, ◌≤◌, ◌<◌, ◌≡◌, Bool, true, false, List, Result, Ok, Err}
use Rattle.std.specs.Int.{w32}
use Rattle.std.proofs.Common.{to_z}
use Rattle.language.specs.declared.Stop.{Stop}
use Rattle.language.specs.declared.Ending.TheVariants.{Stopped}
use Rattle.sets.specs.Tests.{neg}
use Rattle.language.specs.Numbers.{less}
use Rattle.language.specs.Machine.{Room}
use Rattle.records.specs.declared.Record.{Record}
use Rattle.records.specs.declared.Record.TheVariants.{Other, Header, «Type» as TypeOf, Functor, Procedure, Variable, Region, Edge, Literal, Sum, Assign, Construct, Switch, Arm, If, Call, Argument, Print, Create, Remove, Try, Test}
use Rattle.records.specs.Records.{record_at}
use Rattle.memory.specs.declared.Heap.{Heap}
use Rattle.word_machine.specs.Tables.{Tables}
use Rattle.word_machine.specs.Machine.{MachineWords, ConditionWords, value_of, went, stops, enters, fails, steps_in, settled, run_on, ended_with}
use Rattle.machine.specs.declared.State.{State}
use Rattle.machine.specs.declared.TryDone.{TryDone}
use Rattle.machine.specs.declared.TryStopped.{TryStopped}
use Rattle.machine.specs.declared.ConditionStep.{ConditionStep}
use Rattle.machine.specs.declared.ConditionStep.TheVariants.{On, Fails}
use Rattle.machine.specs.Words.{words_of, onward_to}
use Rattle.machine.specs.Entries.{Logs}

-- the words of variables and regions of a frame, and of the array that they are saved in
abbrev pub frame_numbers : ℕ
frame_numbers = 128

abbrev pub saved_words : ℕ
saved_words = 129

-- a count below this can be one more
abbrev pub count_end : ℕ
count_end = 18446744073709551615

-- the goal at a record is a test that fails (C-20)
unfoldable pub fails_in : Record → MachineWords → Bool
fails_in (Test n y z) w = neg (less (to_z w32 (value_of w y)) (to_z w32 (value_of w z)))
fails_in (Literal n x v) w = false
fails_in (Sum n x o y z) w = false
fails_in (Assign n x y) w = false
fails_in (Construct n x t a b c d) w = false
fails_in (Switch n x cs) w = false
fails_in (If n y z a b) w = false
fails_in (Call n q ys) w = false
fails_in (Print n y) w = false
fails_in (Create n r) w = false
fails_in (Remove n r) w = false
fails_in (Try n c a b) w = false
fails_in (Header a b c) w = false
fails_in (TypeOf n fs) w = false
fails_in (Functor n a b c d e) w = false
fails_in (Procedure n a b c) w = false
fails_in (Variable n a b c) w = false
fails_in (Region n a b c) w = false
fails_in (Edge n a b c) w = false
fails_in (Arm n g t a b c d) w = false
fails_in (Argument n y) w = false
fails_in Other w = false

-- what the code has is what c says: n entries are logged
pub record Inside (log : List ℕ) (h : Heap) (m rs fw ps : List ℕ) (s : State) (n : ℕ) (c : ConditionWords) : Type 0 where
  pub words : c.words ≡ words_of h m rs fw ps s
  pub count : c.count ≡ n
  pub logs : Logs log c.log n

-- as many places for cells and regions
abbrev pub SameLimits : Heap → Heap → Type 0
SameLimits g h = (g.cells.limit ≡ h.cells.limit) × (g.regions.limit ≡ h.regions.limit)

-- the step from c leads on in the condition; words with ₁ are those afterwards, i is the next goal's record, k entries are logged
pub record Onward (f : List ℕ) (T : Tables) (s : State) (c : ConditionWords) (log₁ : List ℕ) (g : Heap) (m₁ rs₁ fw₁ ps : List ℕ) (i k : ℕ) : Type 0 where
  pub next : ConditionWords
  pub is : steps_in f T s.goal (record_at f s.goal) c ≡ enters next
  pub inside : Inside log₁ g m₁ rs₁ fw₁ ps (onward_to s i) k next
  pub own : next.own ≡ c.own
  pub then_part : next.then' ≡ c.then'
  pub else_part : next.else' ≡ c.else'

-- the goal at state s is carried out in a condition with n entries, whatever is printed: r is the answer, which tells whether it is a test that fails
pub record GoesIn (f : List ℕ) (T : Tables) (s : State) (h : Heap) (n : ℕ) (m rs fw log : List ℕ) (r : Result ConditionStep Stop) (m₁ rs₁ fw₁ log₁ : List ℕ) : Type 0 where
  pub on : (g : Heap) (i k : ℕ) → r ≡ Ok (On g i k) → (ps : List ℕ) (c : ConditionWords) → Inside log h m rs fw ps s n c → Onward f T s c log₁ g m₁ rs₁ fw₁ ps i k
  pub limits : (g : Heap) (i k : ℕ) → r ≡ Ok (On g i k) → SameLimits g h × (k ≤ suc n)
  pub passes : (g : Heap) (i k : ℕ) → r ≡ Ok (On g i k) → (ps : List ℕ) → fails_in (record_at f s.goal) (words_of h m rs fw ps s) ≡ false
  pub failing : r ≡ Ok Fails → (ps : List ℕ) → fails_in (record_at f s.goal) (words_of h m rs fw ps s) ≡ true
  pub fails : r ≡ Ok Fails → (ps : List ℕ) (c : ConditionWords) → Inside log h m rs fw ps s n c → steps_in f T s.goal (record_at f s.goal) c ≡ went (fails c)
  pub undoes : r ≡ Ok Fails → (m₁ ≡ m) × (rs₁ ≡ rs) × (fw₁ ≡ fw) × (log₁ ≡ log)
  pub lacks : (q : Stop) → r ≡ Err q → (ps : List ℕ) (c : ConditionWords) → Inside log h m rs fw ps s n c → steps_in f T s.goal (record_at f s.goal) c ≡ stops q
  pub kept : (q : Stop) → r ≡ Err q → (m₁ ≡ m) × (rs₁ ≡ rs) × (fw₁ ≡ fw)

-- what a try comes to: the run goes on at goal i with heap g, or stops; k steps are left
abbrev pub left_at : Heap → ℕ → ℕ → Result TryDone TryStopped
left_at g i k = Ok (record { heap = g; goal = i; left = k })

abbrev pub lacks_at : Stop → ℕ → Result TryDone TryStopped
lacks_at q k = Err (record { stop = q; left = k })

-- a try at state s, l steps being left: the run goes on at goal i with k steps left, or stops; W is the words before
pub record Tried (f : List ℕ) (T : Tables) (s : State) (h : Heap) (l : ℕ) (m rs fw : List ℕ) (r : Result TryDone TryStopped) (m₁ rs₁ fw₁ : List ℕ) : Type 0 where
  pub left : (g : Heap) (i k : ℕ) → r ≡ left_at g i k → (K : Room) (n : ℕ) (ps : List ℕ)
      → run_on f T K l s.goal n (words_of h m rs fw ps s)
      ≡ run_on f T K k (settled f T (words_of g m₁ rs₁ fw₁ ps (onward_to s i))).goal (n + (l - k)) (settled f T (words_of g m₁ rs₁ fw₁ ps (onward_to s i)))
  pub fewer : (g : Heap) (i k : ℕ) → r ≡ left_at g i k → (k < l) × SameLimits g h
  pub lacks : (q : Stop) (k : ℕ) → r ≡ lacks_at q k → (K : Room) (n : ℕ) (ps : List ℕ)
      → (g : Heap) × (i : ℕ) × (run_on f T K l s.goal n (words_of h m rs fw ps s) ≡ ended_with (Stopped q) (n + (l - k)) (words_of g m₁ rs₁ fw₁ ps (onward_to s i)))
  pub most : (q : Stop) (k : ℕ) → r ≡ lacks_at q k → k < l
