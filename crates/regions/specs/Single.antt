-- Number 5 of single goals, their parts aside.
use Rattle.std.specs.Prelude.{ℕ, Bool, true, List}
use Rattle.sets.specs.Tests.{◌&◌}
use Rattle.language.specs.Program.{arguments_of, Goal, step, switch, if_less, try, Arms, no_arms, arm, Signature, Program, region_of, signature_of}
use Rattle.language.specs.Regions.{in_targets, step_regions}
use Rattle.language.specs.Answers.{program}

-- ---- number 5
module _ (P : Program) (S : Signature) where
  -- the arguments of the arms of a switch on a variable in region r
  unfoldable pub arms_here : Arms → ℕ → Bool
  arms_here no_arms r = true
  arms_here (arm f ys gs cs) r = in_targets P S r f 1 (arguments_of ys) & arms_here cs r

  unfoldable pub agrees_here : Goal → Bool
  agrees_here (step s) = step_regions P S s
  agrees_here (switch x cs) = arms_here cs (region_of S x)
  agrees_here (if_less y z a b) = true
  agrees_here (try c a b) = true

-- the test of a goal of procedure q
unfoldable pub agrees : List ℕ → ℕ → Goal → Bool
agrees f q = agrees_here (program f) (signature_of (program f) q)
