use mathlib.Core.Path.{◌∙◌, ap, sym}
use Rattle.sets.specs.Members.{set_of}
use Rattle.windows.specs.Sorting.{classes_numbered}
use Rattle.windows.proofs.sets_of.of_class.Goals as goal

pub returns : goal.returns
returns c = c.numbers_with.ensures ∙ ap set_of (sym (classes_numbered _ c.args.class c.requires.formed c.requires.stands))
