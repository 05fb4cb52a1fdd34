-- The procedure that a record belongs to, along the references: the laws that a walk or a loop over the records cites. `if_owned` and its like
-- stand beside chains' `if_at`; `goals_owned` where a loop reads w1 itself; `procedure_owner` for the procedure numbered q.
use Prim.Native.Nat.{ℕ, zero, suc, ◌+◌, ◌≤◌, ◌<◌}
use native.Mathlib.Omega.{arith}
use Rattle.std.specs.Prelude.{◌≡◌, true, false, List, ◌∷◌, ◌++◌, eqb, get_or, replicate}
use Rattle.std.proofs.Math.Path.{refl, ap}
use Rattle.std.proofs.Common.{sym, ◌∙◌, inl, inr, ne_eqb}
use Rattle.std.proofs.lemmas.Bool.{false≢true}
use Rattle.std.proofs.Math.ListN.{length, length-replicate, get_or-append}
use Rattle.std.proofs.lemmas.List.{get_or-replicate}
use Rattle.sets.specs.Members.{in_list}
use Rattle.language.specs.Lists.{choose, nth}
use Rattle.language.specs.Format.{max_records, kind_word, next_word, header_procedures, procedure_goals, arm_goals, switch_arms, if_then, if_else, try_condition, try_then, try_else}
use Rattle.language.specs.File.{GoalKind, k_literal, k_sum, k_assign, k_construct, k_switch, k_if, k_call, k_print, k_create, k_remove, k_try, k_test, Kind, k_header, k_procedure, k_arm, k_goal, procedures, goals, row, kind_of, word, record_count}
use Rattle.language.specs.Answers.{program}
use Rattle.chains.specs.Layout.{all_rows, number_is, header_kind_law, real, chain_kind, goals_kind}
use Rattle.records.specs.Records.{record_at}
use Rattle.records.specs.declared.Record.{Record}
use Rattle.records.specs.declared.Record.TheVariants.{Procedure, Switch, Arm, If, Try}
use Rattle.chains.specs.Formed.{Formed, Stands, counted, procedures_stand, program_procedures}
use Rattle.chains.specs.Kinds.{kind_in, kind_read}
use Rattle.chains.specs.Declared.{procedure_at_law}
use Rattle.chains.specs.Parts.{switch_at, arm_at, if_at, try_at}
use Rattle.chains.specs.Is.{procedure_is}
use Rattle.chains.specs.Reached.{stands_nth, place_past}
use Rattle.chains.specs.Records.{chain_records, records_none, records_step, records_some, along}
use Rattle.chains.specs.Elements.{procedures_count}
use Rattle.owners.specs.Handed.{reference_words, words_open, next_and}
use Rattle.owners.specs.Handing.{handed_length, handed_none, handed_by}
use Rattle.owners.specs.Owner.{owner_by, owners_of, owner_of}

-- record w, where it is one, belongs to procedure q
abbrev pub OwnedBy : List ℕ → ℕ → ℕ → Type 0
OwnedBy f q w = (w ≡ 0 → ⊥) → owner_of f w ≡ q

-- the table that `list_owners` leaves
pub owners_length : (f : List ℕ) → length (owners_of f) ≡ record_count f
unfolding owners_of
owners_length f = handed_length owner_by f (replicate (record_count f) 0) ∙ length-replicate (record_count f) 0

pub listed_owner : (f : List ℕ) {t : List ℕ} (i : ℕ) (behind : List ℕ) → t ≡ owners_of f ++ behind → i < record_count f → get_or t i 0 ≡ owner_of f i
unfolding owner_of
listed_owner f i behind e q = rw e (get_or-append (owners_of f) behind 0 i (omega (arith, owners_length f)))

-- ---- by the kind of record i
unfoldable opened : Unit {0}
unfolding words_open owner_by next_and choose
opened = tt

-- the numbers of two kinds differ
numbers_differ : (K L : Kind) → (K ≡ L → ⊥) → eqb (row K).kind (row L).kind ≡ false
numbers_differ K L n = ne_eqb (row K).kind (row L).kind (λ e. n (sym (number_is K (row K).kind refl) ∙ number_is L (row K).kind e))

module _ {f : List ℕ} (F : Formed f) (i : ℕ) (q : i < record_count f) where
  owned : (K : Kind) → kind_of (word f i kind_word) ≡ K → (k : ℕ) → in_list k (reference_words K) ≡ true
      → OwnedBy f (owner_by (row K).kind i k (owner_of f i)) (word f i k)
  unfolding owner_of owners_of
  owned K e k m z =
      handed_by F owner_by (replicate (record_count f) 0) (omega (arith, length-replicate {A = ℕ} (record_count f) 0))
      (get_or-replicate {A = ℕ} (record_count f) 0 0 0 (counted F).some) K i q e k m z

  -- what its other words lead to belongs to the procedure of the record
  pub part_owned : (K : Kind) → kind_of (word f i kind_word) ≡ K → (k : ℕ) → in_list k (reference_words K) ≡ true → eqb k next_word ≡ false
      → OwnedBy f (owner_of f i) (word f i k)
  unfolding opened
  part_owned K e k m d z = owned K e k m z ∙ rw d refl

  -- .. and so does its next, unless it is a procedure
  pub next_owned : (K : Kind) → kind_of (word f i kind_word) ≡ K → (K ≡ k_procedure → ⊥) → OwnedBy f (owner_of f i) (word f i next_word)
  unfolding opened
  next_owned K e n z = owned K e next_word refl z ∙ rw (numbers_differ K k_procedure n) refl

  pub goal_next : (g : GoalKind) → kind_of (word f i kind_word) ≡ k_goal g → OwnedBy f (owner_of f i) (word f i next_word)
  goal_next g e = next_owned (k_goal g) e (λ d. false≢true cc)

  pub switch_arms_law : kind_of (word f i kind_word) ≡ k_goal k_switch → OwnedBy f (owner_of f i) (word f i switch_arms)
  unfolding opened
  switch_arms_law e = part_owned (k_goal k_switch) e switch_arms refl refl

  pub arm_next : kind_of (word f i kind_word) ≡ k_arm → OwnedBy f (owner_of f i) (word f i next_word)
  arm_next e = next_owned k_arm e (λ d. false≢true cc)

  pub arm_goals_law : kind_of (word f i kind_word) ≡ k_arm → OwnedBy f (owner_of f i) (word f i arm_goals)
  unfolding opened
  arm_goals_law e = part_owned k_arm e arm_goals refl refl

  pub if_then_law : kind_of (word f i kind_word) ≡ k_goal k_if → OwnedBy f (owner_of f i) (word f i if_then)
  unfolding opened
  if_then_law e = part_owned (k_goal k_if) e if_then refl refl

  pub if_else_law : kind_of (word f i kind_word) ≡ k_goal k_if → OwnedBy f (owner_of f i) (word f i if_else)
  unfolding opened
  if_else_law e = part_owned (k_goal k_if) e if_else refl refl

  pub try_condition_law : kind_of (word f i kind_word) ≡ k_goal k_try → OwnedBy f (owner_of f i) (word f i try_condition)
  unfolding opened
  try_condition_law e = part_owned (k_goal k_try) e try_condition refl refl

  pub try_then_law : kind_of (word f i kind_word) ≡ k_goal k_try → OwnedBy f (owner_of f i) (word f i try_then)
  unfolding opened
  try_then_law e = part_owned (k_goal k_try) e try_then refl refl

  pub try_else_law : kind_of (word f i kind_word) ≡ k_goal k_try → OwnedBy f (owner_of f i) (word f i try_else)
  unfolding opened
  try_else_law e = part_owned (k_goal k_try) e try_else refl refl

  -- "procedures [are numbered] from 0 .. in chain order"
  pub procedure_next : kind_of (word f i kind_word) ≡ k_procedure → OwnedBy f (owner_of f i + 1) (word f i next_word)
  unfolding opened
  procedure_next e = owned k_procedure e next_word refl

  pub procedure_goals_law : kind_of (word f i kind_word) ≡ k_procedure → OwnedBy f (owner_of f i) (word f i procedure_goals)
  unfolding opened
  procedure_goals_law e = part_owned k_procedure e procedure_goals refl refl

  -- the first procedure is number 0
  header_next : kind_of (word f i kind_word) ≡ k_header → OwnedBy f (owner_of f i) (word f i next_word)
  header_next e = next_owned k_header e (λ d. false≢true cc)

-- ---- of a record that the code has read
pub record SwitchOwned (f : List ℕ) (i next cs : ℕ) : Type 0 where
  pub to_next : OwnedBy f (owner_of f i) next
  pub to_arms : OwnedBy f (owner_of f i) cs

pub record ArmOwned (f : List ℕ) (i next gs : ℕ) : Type 0 where
  pub to_next : OwnedBy f (owner_of f i) next
  pub to_goals : OwnedBy f (owner_of f i) gs

pub record IfOwned (f : List ℕ) (i next gs hs : ℕ) : Type 0 where
  pub to_next : OwnedBy f (owner_of f i) next
  pub to_then : OwnedBy f (owner_of f i) gs
  pub to_else : OwnedBy f (owner_of f i) hs

pub record TryOwned (f : List ℕ) (i next cs gs hs : ℕ) : Type 0 where
  pub to_next : OwnedBy f (owner_of f i) next
  pub to_condition : OwnedBy f (owner_of f i) cs
  pub to_then : OwnedBy f (owner_of f i) gs
  pub to_else : OwnedBy f (owner_of f i) hs

pub record ProcedureOwned (f : List ℕ) (i next gs : ℕ) : Type 0 where
  pub to_next : OwnedBy f (owner_of f i + 1) next
  pub to_goals : OwnedBy f (owner_of f i) gs

module _ {f : List ℕ} {i : ℕ} {r : Record} (F : Formed f) (e : r ≡ record_at f i) where
  pub switch_owned : {next x cs : ℕ} → r ≡ Switch next x cs → SwitchOwned f i next cs
  switch_owned g =
      let h = switch_at F e g in
      let k = sym (kind_read f i e) ∙ ap kind_in g in
      record { to_next = rw h.w1 (goal_next F i h.below k_switch k); to_arms = rw h.w3 (switch_arms_law F i h.below k) }

  pub arm_owned : {next gs functor a1 a2 a3 a4 : ℕ} → r ≡ Arm next gs functor a1 a2 a3 a4 → ArmOwned f i next gs
  arm_owned g =
      let h = arm_at F e g in
      let k = sym (kind_read f i e) ∙ ap kind_in g in
      record { to_next = rw h.w1 (arm_next F i h.below k); to_goals = rw h.w2 (arm_goals_law F i h.below k) }

  pub if_owned : {next y z gs hs : ℕ} → r ≡ If next y z gs hs → IfOwned f i next gs hs
  if_owned g =
      let h = if_at F e g in
      let k = sym (kind_read f i e) ∙ ap kind_in g in
      record {
        to_next = rw h.w1 (goal_next F i h.below k_if k);
        to_then = rw h.w4 (if_then_law F i h.below k);
        to_else = rw h.w5 (if_else_law F i h.below k);
      }

  pub try_owned : {next cs gs hs : ℕ} → r ≡ Try next cs gs hs → TryOwned f i next cs gs hs
  try_owned g =
      let h = try_at F e g in
      let k = sym (kind_read f i e) ∙ ap kind_in g in
      record {
        to_next = rw h.w1 (goal_next F i h.below k_try k);
        to_condition = rw h.w2 (try_condition_law F i h.below k);
        to_then = rw h.w3 (try_then_law F i h.below k);
        to_else = rw h.w4 (try_else_law F i h.below k);
      }

  pub procedure_owned : {next vs rs gs : ℕ} → r ≡ Procedure next vs rs gs → ProcedureOwned f i next gs
  procedure_owned g =
      let h = procedure_at_law F e g in
      let k = sym (kind_read f i e) ∙ ap kind_in g in
      record { to_next = rw h.w1 (procedure_next F i h.below k); to_goals = rw h.w4 (procedure_goals_law F i h.below k) }

-- a record that stands in a chain of goals is a goal
pub goal_kind : {f : List ℕ} {i : ℕ} → Stands f goals i → (i ≡ 0 → ⊥) → (g : GoalKind) × (kind_of (word f i kind_word) ≡ k_goal g)
goal_kind {f} {i} s z = goals_kind {k = kind_of (word f i kind_word)} (elim s.sort [ inl o ↦ absurd (z o) | inr k ↦ chain_kind goals _ k ])

-- .. and a goal stands in one
goals_chain : (k : GoalKind) → (row (k_goal k)).chain ≡ goals
unfolding all_rows
goals_chain k_literal = refl
goals_chain k_sum = refl
goals_chain k_assign = refl
goals_chain k_construct = refl
goals_chain k_switch = refl
goals_chain k_if = refl
goals_chain k_call = refl
goals_chain k_print = refl
goals_chain k_create = refl
goals_chain k_remove = refl
goals_chain k_try = refl
goals_chain k_test = refl

pub kind_goals : {f : List ℕ} {i : ℕ} → i < record_count f → (g : GoalKind) → kind_of (word f i kind_word) ≡ k_goal g → Stands f goals i
kind_goals q g e = record { below = q; sort = inr (ap (λ (k : Kind). (row k).chain) e ∙ goals_chain g) }

-- on along a chain of goals, whatever the goal
pub goals_owned : {f : List ℕ} {i w : ℕ} → Formed f → Stands f goals i → (i ≡ 0 → ⊥) → w ≡ word f i next_word → OwnedBy f (owner_of f i) w
goals_owned {f} {i} F s z e = let k = goal_kind s z in rw e (goal_next F i s.below k.0 k.1)

-- ---- procedures by their numbers
pub first_owner : {f : List ℕ} → Formed f → OwnedBy f 0 (word f 0 header_procedures)
unfolding owner_of owners_of
first_owner {f} F z = header_next F 0 (counted F).some (header_kind_law f F.header F.form) z ∙ handed_none owner_by f (replicate (record_count f) 0)

-- the record of procedure q
unfoldable pub procedure_record : List ℕ → ℕ → ℕ
procedure_record f q = nth 0 (chain_records f (word f 0 header_procedures)) q

module _ {f : List ℕ} (F : Formed f) where
  numbered_step : (i : ℕ) → Stands f procedures i → (i ≡ 0 → ⊥)
      → ((q : ℕ) → q < length (chain_records f (word f i next_word)) → owner_of f (nth 0 (chain_records f (word f i next_word)) q) ≡ owner_of f (word f i next_word) + q)
      → (q : ℕ) → q < length (i ∷ chain_records f (word f i next_word)) → owner_of f (nth 0 (i ∷ chain_records f (word f i next_word)) q) ≡ owner_of f i + q
  unfolding nth
  numbered_step i s z h zero l = omega arith
  numbered_step i s z h (suc q) l =
      let w = word f i next_word in
      let some : w ≡ 0 → ⊥ = λ e. omega (arith, ap length (records_none f e)) in
      let o = (procedure_owned F refl (procedure_is s z)).to_next some in
      omega (arith, h q (omega arith), o)

  numbered : (i : ℕ) → Stands f procedures i → (q : ℕ) → q < length (chain_records f i) → owner_of f (nth 0 (chain_records f i) q) ≡ owner_of f i + q
  unfolding real
  numbered =
      along F procedures refl (λ i. (q : ℕ) → q < length (chain_records f i) → owner_of f (nth 0 (chain_records f i) q) ≡ owner_of f i + q)
      (λ q l. absurd (omega (arith, ap length (records_none f {i = 0} refl))))
      (λ i s z h. rw (records_step F z s.below refl) (numbered_step i s z h))

  count_records : length (program f).procedures ≡ length (chain_records f (word f 0 header_procedures))
  count_records = ap length (program_procedures F) ∙ procedures_count F (word f 0 header_procedures) (procedures_stand F)

  module _ (q : ℕ) (l : q < length (program f).procedures) where
    pub procedure_owner : owner_of f (procedure_record f q) ≡ q
    unfolding procedure_record
    procedure_owner =
        let some : word f 0 header_procedures ≡ 0 → ⊥ = λ e. omega (arith, count_records, ap length (records_none f e)) in
        numbered (word f 0 header_procedures) (procedures_stand F) q (omega (arith, count_records)) ∙ omega (arith, first_owner F some)

    pub procedure_stands : Stands f procedures (procedure_record f q) × (procedure_record f q ≡ 0 → ⊥)
    unfolding procedure_record real
    procedure_stands =
        let xs = chain_records f (word f 0 header_procedures) in
        (stands_nth F procedures refl (word f 0 header_procedures) (procedures_stand F) q, λ e. omega (arith, place_past xs (records_some f (word f 0 header_procedures)) q e, count_records))

    -- its first goal
    pub procedure_first : OwnedBy f q (word f (procedure_record f q) procedure_goals)
    procedure_first z =
        let s = procedure_stands in
        (procedure_owned F refl (procedure_is s.0 s.1)).to_goals z ∙ procedure_owner

-- ---- a blank table has room for the owners
pub owners_fit : {f t : List ℕ} → Formed f → t ≡ replicate max_records 0 → record_count f ≤ length t
owners_fit {f} {t} F e = let n = counted F in omega (arith, ap length e, length-replicate {A = ℕ} max_records 0)
