-- Where a procedure's window starts in the file's table. A start that is past the table's end counts as 0, so that a window can be lent in any case.
use Rattle.std.specs.Prelude.{ℕ, ◌-◌, ◌≤◌, ◌<◌, List, ◌≡◌, leb, length, get_or, take, drop}
use Rattle.std.proofs.Common.{arith, le-leb, take_all}
use Rattle.std.proofs.Math.ListN.{length-drop}
use Rattle.language.specs.Lists.{nth, choose}
use Rattle.language.specs.File.{goals, word}
use Rattle.language.specs.Format.{header_procedures, procedure_goals}
use Rattle.language.specs.Program.{procedure_at}
use Rattle.language.specs.Answers.{program}
use Rattle.chains.specs.Formed.{Stands}
use Rattle.chains.specs.Records.{chain_records}
use Rattle.tables.specs.Window.{body_place, WindowOf, FileTable}

unfoldable pub start_in : List ℕ → ℕ → ℕ
start_in t q = choose (leb (get_or t q 0) (length t)) (get_or t q 0) 0

unfoldable pub window_in : List ℕ → ℕ → List ℕ
window_in t q = drop (start_in t q) t

module _ (t : List ℕ) (q : ℕ) where
  pub start_is : get_or t q 0 ≤ length t → start_in t q ≡ get_or t q 0
  unfolding start_in choose
  start_is h = rw (le-leb (get_or t q 0) (length t) h)

  -- what is lent from a start on is the window
  pub window_lent : {s : ℕ} → s ≡ start_in t q → take (length t - s) (drop s t) ≡ window_in t q
  unfolding window_in
  window_lent {s} e = rw (← e) (take_all (length t - s) (drop s t) (omega (arith, length-drop s t)))

-- the window of a procedure of the program
module _ {f t : List ℕ} (h : FileTable f t) {q : ℕ} (l : q < length (program f).procedures) where
  pub window_here : WindowOf f (procedure_at (program f) q) (window_in t q)
  unfolding window_in
  window_here = rw (start_is t q (h.starts q l)) (h.at q l)

  -- .. lent from place s on
  pub body_stands : {s : ℕ} → s ≡ start_in t q → Stands f goals (get_or (take (length t - s) (drop s t)) body_place 0)
  body_stands e = rw (window_lent t q e) window_here.stands

  pub body_here : get_or (window_in t q) body_place 0 ≡ word f (nth 0 (chain_records f (word f 0 header_procedures)) q) procedure_goals
  unfolding window_in
  body_here = rw (start_is t q (h.starts q l)) (h.body q l)
