-- The procedures found so far: each is marked, and they stand in the order in which they were found.
use Rattle.std.specs.Prelude.{ℕ, ◌+◌, ◌≤◌, ◌<◌, true, List, ◌≡◌, length, get_or}
use Rattle.sets.specs.Members.{in_list}
use Rattle.language.specs.Format.{entry_procedure, max_procedures}
use Rattle.language.specs.CallChains.{callees, CallChain}
use Rattle.language.specs.Answers.{program}
use Rattle.called.specs.Marks.{Marked, unmarked}

-- ---- the first n places of `order` are the procedures found so far; chains reach each of them, the entry is one
pub record Found (f marks order : List ℕ) (n : ℕ) : Type 0 where
  pub marks_long : length marks ≡ max_procedures
  pub order_long : length order ≡ max_procedures
  pub counted : n + unmarked marks (length (program f).procedures) ≡ length (program f).procedures
  pub entry : Marked marks entry_procedure
  pub listed : (q : ℕ) → Marked marks q → (k : ℕ) × (k < n) × (get_or order k 0 ≡ q)
  pub below : (k : ℕ) → k < n → get_or order k 0 < length (program f).procedures
  pub chained : (k : ℕ) → k < n → CallChain (program f) (get_or order k 0)

-- no procedure found before is lost
pub record More (marks order : List ℕ) (n : ℕ) (marks' order' : List ℕ) (n' : ℕ) : Type 0 where
  pub most : n ≤ n'
  pub marked : (q : ℕ) → Marked marks q → Marked marks' q
  pub ordered : (k : ℕ) → k < n → get_or order' k 0 ≡ get_or order k 0

-- all that procedure p calls is marked
abbrev pub CalleesMarked : List ℕ → List ℕ → ℕ → Type 0
CalleesMarked f marks p = (q : ℕ) → in_list q (callees (program f) p) ≡ true → Marked marks q
