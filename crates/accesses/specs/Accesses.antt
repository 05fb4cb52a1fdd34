-- What a step reads and gives is all gathered.
use Rattle.language.specs.Program.{Step, Program}
use Rattle.language.specs.Values.{access}
use Rattle.tables.specs.declared.Access.{Access}
use Rattle.accesses.specs.Gathering.{Gathers}

-- all that the step reads and gives has been gathered
pub record Accesses (P : Program) (g : Step) (a : Access) : Type 0 where
  pub gathered : Gathers a (access P g).read (access P g).given
