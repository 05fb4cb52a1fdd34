-- "Wanted at a point: the kept regions and the reach of the live variables", from its two parts.
use mathlib.Core.Path.{◌≡◌, ap₂, ◌∙◌}
use Rattle.sets.specs.Sets.{◌∪◌}
use Rattle.sets.specs.declared.Set.{Set}
use Rattle.language.specs.Program.{Signature}
use Rattle.language.specs.Regions.{reach_all}
use Rattle.language.specs.Lifetimes.{kept, wanted}

pub wanted_is : (S : Signature) (live : Set) {k reached w : Set} → k ≡ kept S → reached ≡ reach_all S live → w ≡ k ∪ reached → w ≡ wanted S live
unfolding wanted
wanted_is S live e g h = h ∙ ap₂ ◌∪◌ e g
