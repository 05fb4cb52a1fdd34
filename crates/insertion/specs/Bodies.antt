-- The goals of a procedure, by its window: the points that are filled for them, and what is laid.
use Rattle.std.specs.Prelude.{ℕ, List, ◌≡◌, length, get_or}
use Rattle.sets.specs.declared.Set.{Set}
use Rattle.language.specs.Layout.{lay}
use Rattle.language.specs.Records.{goals_tree}
use Rattle.language.specs.Program.{Goals, ◌before◌, Signature, signature_of}
use Rattle.language.specs.Values.{outs_of}
use Rattle.language.specs.Lifetimes.{start_held, live}
use Rattle.language.specs.Answers.{program}
use Rattle.placement.specs.Local.{removes_to, local_goals}
use Rattle.chains.specs.Formed.{goals_at}
use Rattle.tables.specs.Window.{Window, body_place}
use Rattle.liveness.specs.Points.{points, point_words}
use Rattle.tables.specs.Filled.{Owned, Belongs}
use Rattle.laying.specs.Lays.{Lays}
use Rattle.insertion.specs.Wants.{WantedFrom}

-- from place s on the table has what is wanted at the points of the procedure's goals; l is live before them
abbrev pub PointsFilled : List ℕ → List ℕ → List ℕ → ℕ → Set → Type 0
PointsFilled f own u s l =
    (length u ≡ point_words)
    × ((S : Signature) → Window f S own
    → (l ≡ live (program f) (goals_at f (get_or own body_place 0)) (outs_of S)) × WantedFrom S u s (points (program f) (goals_at f (get_or own body_place 0)) (outs_of S)))

-- the placement of the goals from record i on, as those of a procedure that declares S
unfoldable pub body_of : List ℕ → Signature → ℕ → Goals
body_of f S i =
    removes_to S (start_held S) (live (program f) (goals_at f i) (outs_of S)) before local_goals (program f) S (goals_at f i) (outs_of S)

abbrev pub BodyLaid : List ℕ → List ℕ → List ℕ → List ℕ → List ℕ → ℕ → ℕ → Type 0
BodyLaid f rows own a b c r =
    (length b ≡ length a)
    × ((o : ℕ → ℕ) (q : ℕ) → Owned f rows o → Window f (signature_of (program f) q) own → Belongs o q (get_or own body_place 0)
    → Lays a b c r (lay (goals_tree (body_of f (signature_of (program f) q) (get_or own body_place 0))) c))
