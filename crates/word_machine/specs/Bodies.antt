-- The goals of a procedure take no more records than a file may have.
use Rattle.std.specs.Prelude.{ℕ, zero, suc, ◌≤◌, List, [], ◌∷◌}
use Rattle.std.proofs.Common.{arith}
use Rattle.language.specs.Lists.{nth}
use Rattle.language.specs.Format.{max_records}
use Rattle.language.specs.Program.{done, Procedure, procedure_at}
use Rattle.language.specs.Answers.{program}
use Rattle.layout.specs.Sizes.{goals_size, procedures_size, program_records}
use Rattle.layout.specs.Same.{program_size}
use Rattle.chains.specs.Formed.{Formed, counted}

-- what `procedure_at` gives where there is none
abbrev none : Procedure
none = record { signature = record { variables = []; regions = [] }; body = done }

body_in : (ps : List Procedure) (q : ℕ) → goals_size (nth none ps q).body ≤ procedures_size ps
unfolding nth procedures_size goals_size
body_in [] q = omega arith
body_in (p ∷ ps) zero = omega arith
body_in (p ∷ ps) (suc q) = omega (arith, body_in ps q)

pub body_short : {f : List ℕ} → Formed f → (q : ℕ) → goals_size (procedure_at (program f) q).body ≤ max_records
unfolding procedure_at
body_short {f} F q = omega (arith, body_in (program f).procedures q, program_records (program f), program_size f F.header F.form, (counted F).most)
