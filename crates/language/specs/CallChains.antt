-- C-18: chains of calls from the entry, the procedures that they reach, and number 17.
use Rattle.std.specs.Prelude.{ℕ, zero, suc, Bool, true, List, [], ◌∷◌, ◌++◌, ◌≡◌, length}
use Rattle.sets.specs.Tests.{◌&◌}
use Rattle.sets.specs.Members.{in_list, filtered}
use Rattle.language.specs.Lists.{all, up_from}
use Rattle.language.specs.Format.{entry_procedure}
use Rattle.language.specs.Program.{Step, literal, sum, assign, construct, call, print, create, remove, test, Goals, done, ◌then◌, Goal, step, switch, if_less, try, Arms, no_arms, arm, Program, procedure_at}

-- the procedures that a step calls, that goals call, that arms do: the calls of the text, in arms that no run takes too
unfoldable pub step_callees : Step → List ℕ
step_callees (literal x v) = []
step_callees (sum x o y z) = []
step_callees (assign x y) = []
step_callees (construct x f ys) = []
step_callees (call q ys) = q ∷ []
step_callees (print y) = []
step_callees (create r) = []
step_callees (remove r) = []
step_callees (test y z) = []

unfoldable mutual
  pub goals_callees : Goals → List ℕ
  goals_callees done = []
  goals_callees (g then gs) = goal_callees g ++ goals_callees gs

  pub goal_callees : Goal → List ℕ
  goal_callees (step g) = step_callees g
  goal_callees (switch x cs) = arms_callees cs
  goal_callees (if_less y z a b) = goals_callees a ++ goals_callees b
  goal_callees (try c a b) = goals_callees c ++ goals_callees a ++ goals_callees b

  pub arms_callees : Arms → List ℕ
  arms_callees no_arms = []
  arms_callees (arm f ys gs cs) = goals_callees gs ++ arms_callees cs

-- where the chain that goes from p through qs ends
unfoldable pub chain_end : ℕ → List ℕ → ℕ
chain_end p [] = p
chain_end p (q ∷ qs) = chain_end q qs

module _ (P : Program) where
  -- the procedures that procedure p calls
  unfoldable pub callees : ℕ → List ℕ
  callees p = goals_callees (procedure_at P p).body

  -- a "chain of calls": p calls the first of qs, and each of them calls the next
  unfoldable pub is_call_chain : ℕ → List ℕ → Bool
  is_call_chain p [] = true
  is_call_chain p (q ∷ qs) = in_list q (callees p) & is_call_chain q qs

  -- a "chain of calls from the entry reaches" q; the entry is reached by the chain of none
  pub record CallChain (q : ℕ) : Type 0 where
    pub through : List ℕ
    pub chain : is_call_chain entry_procedure through ≡ true
    pub end : chain_end entry_procedure through ≡ q

  -- the same to compute, of all procedures at once: those that a list of procedures calls;
  unfoldable pub called_from : List ℕ → List ℕ
  called_from [] = []
  called_from (p ∷ ps) = callees p ++ called_from ps

  -- the procedures of a list, and those one call further;
  unfoldable pub one_call_on : List ℕ → List ℕ
  one_call_on ps = filtered (λ q. in_list q (ps ++ called_from ps)) (up_from 0 (length P.procedures))

  -- those that a chain of at most n calls reaches;
  unfoldable pub reached_within : ℕ → List ℕ
  reached_within zero = entry_procedure ∷ []
  reached_within (suc n) = one_call_on (reached_within n)

  -- and no procedure needs a chain of more calls than there are procedures
  unfoldable pub reached : List ℕ
  reached = reached_within (length P.procedures)

  -- Number 17: "a procedure, other than the entry, that no chain of calls from the entry reaches"
  unfoldable pub reached_ok : Bool
  reached_ok = all (λ q. in_list q reached) (up_from 0 (length P.procedures))
