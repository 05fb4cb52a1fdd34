-- Tests of all paths, and that there is one, where paths are made of others.
use Rattle.std.specs.Prelude.{Bool, false, List, ◌∷◌, ◌++◌, ◌≡◌, refl, []}
use Rattle.std.proofs.lemmas.Bool.{false≢true}
use Rattle.std.proofs.Common.{sym, ap, ap₂, ◌∙◌}
use Rattle.sets.specs.Tests.{◌&◌}
use Rattle.language.specs.Lists.{all, is_none}
use Rattle.laws.specs.Lists.{all_append, none_append}
use Rattle.paths.specs.Paths.{Event, then_each, then_all}

-- ---- all of the paths that are made of others
pub all_each : (p : List Event → Bool) (u : List Event) (ps : List (List Event)) → all p (then_each u ps) ≡ all (λ v. p (u ++ v)) ps
unfolding all then_each
all_each p u [] = refl
all_each p u (v ∷ ps) = ap (λ (b : Bool). p (u ++ v) & b) (all_each p u ps)

pub all_all : (p : List Event → Bool) (us ps : List (List Event)) → all p (then_all us ps) ≡ all (λ u. all (λ v. p (u ++ v)) ps) us
unfolding all then_all
all_all p [] ps = refl
all_all p (u ∷ us) ps = all_append p (then_each u ps) (then_all us ps) ∙ ap₂ ◌&◌ (all_each p u ps) (all_all p us ps)

-- ---- and there is one
pub none_each : (u : List Event) (ps : List (List Event)) → is_none ps ≡ false → is_none (then_each u ps) ≡ false
unfolding is_none then_each
none_each u [] e = absurd (false≢true (sym e))
none_each u (p ∷ ps) e = refl

pub none_all : (us ps : List (List Event)) → is_none us ≡ false → is_none ps ≡ false → is_none (then_all us ps) ≡ false
unfolding is_none then_all
none_all [] ps e f = absurd (false≢true (sym e))
none_all (u ∷ us) ps e f = none_append (then_each u ps) (then_all us ps) (none_each u ps f)
