-- What the walk carries: the held regions and the sound variables.
use Rattle.std.specs.Prelude.{◌≡◌, true, false, Option, MatchOption}
use Rattle.language.specs.Program.{Signature, Program}
use Rattle.walks.specs.Walk.{outcome}
use Rattle.checking.specs.Checker.{CheckState, carrying, checker}
use Rattle.checking.specs.declared.carried.Carried.{Carried}

-- what is carried then
abbrev pub state : Carried → CheckState
state c = carrying c.held c.sound

-- where arms end: a is what the first ended with, b what the others did; nothing where they differ
abbrev pub JoinAfter : Carried → Carried → Option Carried → Type 0
JoinAfter a b r =
    (P : Program) (S : Signature)
    → MatchOption r ((d : Carried) → outcome false (state d) ≡ (checker P S).join (state a) (state b)) (λ d. outcome true (state d) ≡ (checker P S).join (state a) (state b))
