-- The worklist: what each procedure found calls is looked at, in the order in which they were found.
use Rattle.std.specs.Prelude.{ℕ, List}
use Rattle.called.specs.Found.{Found, More, CalleesMarked}

-- once all that procedure p calls has been looked at: what was found before, and what p calls
pub record Looked (f : List ℕ) (p : ℕ) (marks₀ order₀ : List ℕ) (n₀ : ℕ) (marks order : List ℕ) (n : ℕ) : Type 0 where
  pub found : Found f marks order n
  pub more : More marks₀ order₀ n₀ marks order n
  pub callees : CalleesMarked f marks p
