use mathlib.Core.Path.{◌∙◌, ap, sym}
use Rattle.sets.specs.Members.{set_of}
use Rattle.windows.specs.Modes.{modes_numbered}
use Rattle.windows.proofs.sets_of.variables_in.Goals as goal

pub returns : goal.returns
returns c = c.numbers_with.ensures ∙ ap set_of (sym (modes_numbered _ c.requires.mode_nonzero c.requires.formed c.requires.stands))
