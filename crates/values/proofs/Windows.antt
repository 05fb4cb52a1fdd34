-- What the code finds in the window of procedure q, which starts at place w of the file's table.
use Prim.Native.Nat.{ℕ, ◌+◌, ◌<◌}
use mathlib.Core.Bool.{Bool, true, false}
use mathlib.Core.List.{List}
use mathlib.Core.Path.{◌≡◌, refl, ap, ap₂, ◌∙◌}
use lib.ListN.{length, get_or, drop}
use Rattle.sets.specs.Sets.{subset, loaded}
use Rattle.sets.specs.declared.Set.{Set}
use Rattle.language.specs.File.{goals}
use Rattle.language.specs.Program.{procedure_at}
use Rattle.language.specs.Typing.{typing_ok}
use Rattle.language.specs.Values.{ins_of, procedure_values}
use Rattle.language.specs.Answers.{program}
use Rattle.chains.specs.Formed.{Stands, goals_at}
use Rattle.tables.specs.Window.{ins_place, outs_place, body_place, set_in, FileTable}
use Rattle.accesses.specs.Fitting.{in_window}
use Rattle.values.specs.Valuing.{both}
use Rattle.values.specs.declared.carried.Valuation.{Valuation}
use Rattle.values.proofs.ValuingLaws.{procedure_stops, procedure_ends}
use Rattle.values.specs.Carrying.{GoalsValued}
use Rattle.values.proofs.Turns.{typed_at}

module _ {f t : List ℕ} (T : FileTable f t) {q w : ℕ} (h : q < length (program f).procedures) (e : w ≡ get_or t q 0) where
  set_in_window : {s : Set} (k : ℕ) → s ≡ set_in t (w + k) → s ≡ set_in (drop (get_or t q 0) t) k
  unfolding set_in
  set_in_window k g = g ∙ ap loaded (in_window T h e k refl)

  pub body_stands : {b : ℕ} → b ≡ get_or t (w + body_place) 0 → Stands f goals b
  body_stands g = rw (in_window T h e body_place g) (T.at q h).stands

  module _ (ok : typing_ok (program f) ≡ true) {ins outs : Set} {b : ℕ} (i : ins ≡ set_in t (w + ins_place)) (o : outs ≡ set_in t (w + outs_place))
      (g : b ≡ get_or t (w + body_place) 0) (c d : Valuation) (r : Bool) (s : c ≡ both ins ins) (m : GoalsValued f b c r d) where
    ins_are : ins ≡ ins_of (procedure_at (program f) q).signature
    ins_are = set_in_window ins_place i ∙ (T.at q h).window.ins

    body_is : goals_at f b ≡ (procedure_at (program f) q).body
    body_is = ap (goals_at f) (in_window T h e body_place g) ∙ (T.at q h).body

    pub valued_stop : r ≡ false → false ≡ procedure_values (program f) (procedure_at (program f) q)
    valued_stop p =
        procedure_stops (program f) (procedure_at (program f) q) (typed_at (program f) ok q h) c d r (s ∙ ap₂ both ins_are ins_are)
        (rw body_is at m) p

    pub valued_end : {x : Bool} {y : Set} → r ≡ true → y ≡ d.every → x ≡ subset outs y → x ≡ procedure_values (program f) (procedure_at (program f) q)
    valued_end p y x =
        procedure_ends (program f) (procedure_at (program f) q) (typed_at (program f) ok q h) c d r (s ∙ ap₂ both ins_are ins_are)
        (rw body_is at m) p (x ∙ ap₂ subset (set_in_window outs_place o ∙ (T.at q h).window.outs) y)
