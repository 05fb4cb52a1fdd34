-- A call's frame and a return, as the code puts them together.
use Rattle.std.specs.Prelude.{ℕ, ◌+◌, ◌≡◌, List, get_or, set}
use Rattle.plans.specs.Plan.{tables_in}
use Rattle.word_machine.specs.Machine.{frame_words, call_from}

-- P is the place of the caller's first word: the two words that a call keeps
unfoldable pub marked : ℕ → ℕ → ℕ → List ℕ → List ℕ
marked P next i fw = set (set fw P next) (P + frame_words + call_from) i

module _ (plan images callees : List ℕ) where
  -- what the tables say, as the code finds it
  pub successor_as : (i next : ℕ) → next ≡ get_or plan i 0 → next ≡ (tables_in plan images callees).successor i
  unfolding tables_in
  successor_as i next e = e
