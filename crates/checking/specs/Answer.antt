-- The checker's stages: those before the tables are made, and those after.
use Rattle.std.specs.Prelude.{ℕ, List, [], ◌∷◌, ◌++◌}
use Rattle.language.specs.declared.Refusal.TheVariants.{Rules}
use Rattle.language.specs.Checking.{rules_ok}
use Rattle.language.specs.Answers.{Stage, stage, program}
use Rattle.stages.specs.Stages.{table_stages}

-- numbers 4, 5, 17, 7 and 8
abbrev pub rule_stages : List ℕ → List Stage
rule_stages f = table_stages f ++ (stage Rules (rules_ok (program f)) ∷ [])
