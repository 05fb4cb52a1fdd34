-- The procedures of the annotated program, laid one behind the other.
use Rattle.std.specs.Prelude.{ℕ, List, map}
use Rattle.language.specs.Format.{next_word}
use Rattle.language.specs.File.{k_procedure, word}
use Rattle.language.specs.Tree.{Tree}
use Rattle.language.specs.Records.{chain_of, procedure_words}
use Rattle.language.specs.Program.{Goals, Procedure, Program, procedure_at}
use Rattle.language.specs.Annotation.{annotate_procedure}
use Rattle.language.specs.Answers.{program}
use Rattle.placement.specs.Whole.{Annotatable}
use Rattle.chains.specs.Formed.{Formed}
use Rattle.tables.specs.Filled.{Prepared}
use Rattle.laying.specs.Lays.{head_of}

-- a file that the annotator does not refuse, with its tables
pub record Unrefused (f table rows : List ℕ) : Type 0 where
  pub formed : Formed f
  pub prepared : Prepared f table rows
  pub annotatable : Annotatable (program f)

-- the annotated goals of procedure q
unfoldable pub placed_body : Program → ℕ → Goals
placed_body P q = (annotate_procedure P (procedure_at P q)).body

-- the annotated procedure at record i, number q, from place c on
unfoldable pub procedure_head : List ℕ → ℕ → ℕ → ℕ → List (List ℕ)
procedure_head f i q c = head_of k_procedure (word f i next_word) (procedure_words (annotate_procedure (program f) (procedure_at (program f) q))) c

-- annotated procedures as a tree
unfoldable pub procedures_tree : Program → List Procedure → Tree
procedures_tree P ps = chain_of k_procedure procedure_words (map (annotate_procedure P) ps)
