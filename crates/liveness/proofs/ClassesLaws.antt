-- Laws of `specs/Classes` that only proofs cite.
use Prim.Native.Nat.{ℕ, ◌-◌, ◌<◌}
use mathlib.Core.Bool.{Bool}
use mathlib.Core.List.{List}
use mathlib.Core.Path.{◌≡◌, refl, ◌∙◌}
use lib.ListN.{length, get_or, take, drop}
use Rattle.language.specs.Lists.{all}
use Rattle.language.specs.Program.{Program, procedure_at, signature_of}
use Rattle.language.specs.Lifetimes.{call_classes_ok}
use Rattle.language.specs.Answers.{program}
use Rattle.tables.specs.Window.{WindowOf, set_in, body_place, outs_place}
use Rattle.tables.specs.Starts.{start_in, window_in, window_lent, window_here, body_here}
use Rattle.tables.specs.Filled.{Prepared}
use Rattle.liveness.specs.Done.{ListClasses}
use Rattle.liveness.specs.Classes.{procedure_classes}

pub classes_all : (P : Program) → all (procedure_classes P) P.procedures ≡ call_classes_ok P
unfolding call_classes_ok procedure_classes
classes_all P = refl

-- ---- the window of procedure q, which is lent from place s on
module _ {f table rows : List ℕ} (h : Prepared f table rows) (q : ℕ) (l : q < length (program f).procedures) {s : ℕ} (e : s ≡ start_in table q) where
  here : WindowOf f (procedure_at (program f) q) (window_in table q)
  here = window_here h.windows l

  pub procedure_classes_law : {b : Bool}
      → ListClasses f rows (take (length table - s) (drop s table)) (get_or (take (length table - s) (drop s table)) body_place 0) (set_in (take (length table - s) (drop s table)) outs_place) b
      → b ≡ procedure_classes (program f) (procedure_at (program f) q)
  unfolding procedure_classes signature_of
  procedure_classes_law m =
      (rw (window_lent table q e) at m) h.owner q h.effected h.owning here.window (h.owning.to_body q l _ (body_here h.windows l))
      ∙ rw (here.body, here.window.outs) refl
