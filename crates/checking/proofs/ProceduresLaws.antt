-- Laws of `specs/Procedures` that only proofs cite.
use Prim.Native.Nat.{ℕ, ◌-◌, ◌≤◌, ◌<◌}
use mathlib.Core.Bool.{Bool, true, false}
use mathlib.Core.List.{List, ◌∷◌, []}
use mathlib.Core.Path.{◌≡◌, refl, sym, ap, ◌∙◌}
use lib.ListN.{length, get_or, take, drop, length-drop}
use Rattle.sets.specs.Tests.{◌&◌}
use Rattle.sets.specs.Sets.{◌∪◌, same_set, subset}
use Rattle.sets.specs.declared.Set.{Set}
use Rattle.language.specs.File.{goals}
use Rattle.language.specs.Program.{Signature, Program, procedure_at, signature_of}
use Rattle.language.specs.Values.{ins_of}
use Rattle.language.specs.Lifetimes
use Rattle.language.specs.Lifetimes.{start_held}
use Rattle.language.specs.Lists.{all}
use Rattle.language.specs.Checking.{end_rules, procedure_rules, rules_ok}
use Rattle.language.specs.Answers.{program}
use Rattle.chains.specs.Formed.{Stands, goals_at}
use Rattle.tables.specs.Window.{WindowOf, set_in, body_place, ins_place, outs_place, born_place, dead_place, kept_place}
use Rattle.tables.specs.Filled.{Belongs, Prepared}
use Rattle.checking.specs.Carried.{state}
use Rattle.checking.specs.declared.carried.Carried.{Carried}
use Rattle.walks.specs.Walk.{outcome, walk_goals}
use Rattle.checking.specs.Checker.{carrying, checker}
use Rattle.checking.proofs.CheckerLaws.{told, goals_agree}
use Rattle.checking.specs.Ready.{Ready, GoalsChecked}
use Rattle.checking.specs.Procedures.{WindowChecked}

-- ---- one law for each way through it
module _ (f rows own : List ℕ) {k d u s : Set} (ek : k ≡ set_in own kept_place) (ed : d ≡ set_in own dead_place) (eu : u ≡ d ∪ k) (es : s ≡ set_in own ins_place)
    (c : Carried) (eh : c.held ≡ u) (ec : c.sound ≡ s) {j : ℕ} (ej : j ≡ get_or own body_place 0) (c' : Carried) (b : Bool)
    (m : GoalsChecked f rows own j c b c') where
  module _ (o : ℕ → ℕ) (q : ℕ) (y : Ready f rows own o q) (p : Belongs o q (get_or own body_place 0)) (g : goals_at f (get_or own body_place 0) ≡ (procedure_at (program f) q).body) where
    abbrev S : Signature
    S = signature_of (program f) q

    after : outcome b (state c') ≡ walk_goals (checker (program f) S) (procedure_at (program f) q).body (carrying (start_held S) (ins_of S))
    unfolding start_held
    after = rw (ej, eh, ec, eu, ed, ek, es, y.window.dead, y.window.kept, y.window.ins, g) at (m o q y (rw ej p))

    ends : (r : Bool) → r ≡ end_rules S (told (outcome b (state c'))) → r ≡ procedure_rules (program f) (procedure_at (program f) q)
    unfolding procedure_rules signature_of
    ends r e = e ∙ ap (λ a. end_rules S (told a)) after ∙ ap (λ a. end_rules S a) (goals_agree (program f) S _ _)

  pub window_broken : b ≡ false → WindowChecked f rows own false
  unfolding end_rules outcome told
  window_broken e o q y p g = ends o q y p g false (rw e refl)

  module _ (e : b ≡ true) {w v h : Set} {a : Bool} (ew : w ≡ set_in own born_place) (ev : v ≡ w ∪ k) (ei : h ≡ c'.held) (ea : a ≡ same_set h v) where
    left : (o : ℕ → ℕ) (q : ℕ) → Ready f rows own o q → same_set c'.held (Lifetimes.born (signature_of (program f) q) ∪ Lifetimes.kept (signature_of (program f) q)) ≡ a
    left o q y = rw (sym y.window.born, sym y.window.kept, sym ew, sym ek, sym ev, sym ei) (sym ea)

    pub window_differs : a ≡ false → WindowChecked f rows own false
    unfolding end_rules ◌&◌ outcome told
    window_differs n o q y p g = ends o q y p g false (rw (e, left o q y, n) refl)

    pub window_ends : {x t : Set} {r : Bool} → a ≡ true → x ≡ set_in own outs_place → t ≡ c'.sound → r ≡ subset x t → WindowChecked f rows own r
    unfolding end_rules ◌&◌ outcome told
    window_ends {r = r} n ex et er o q y p g =
        ends o q y p g r (er ∙ rw (et, ex, y.window.outs, e, left o q y, n) refl)

-- a part of a slice up to its end
take_whole : (xs : List ℕ) → take (length xs) xs ≡ xs
take_whole [] = refl
take_whole (x ∷ xs) = ap (λ (ys : List ℕ). x ∷ ys) (take_whole xs)

part_whole : (t : List ℕ) (s : ℕ) → take (length t - s) (drop s t) ≡ drop s t
part_whole t s = ap (λ (n : ℕ). take n (drop s t)) (sym (length-drop s t)) ∙ take_whole (drop s t)

-- ---- the window of procedure q
module _ {f table rows : List ℕ} (h : Prepared f table rows) (q : ℕ) (l : q < length (program f).procedures) {s : ℕ} (e : s ≡ get_or table q 0) where
  pub start_low : s ≤ length table
  start_low = rw e (h.windows.starts q l)

  of_window : WindowOf f (procedure_at (program f) q) (drop s table)
  of_window = rw e (h.windows.at q l)

  pub body_stands : Stands f goals (get_or (take (length table - s) (drop s table)) body_place 0)
  body_stands = rw (part_whole table s) of_window.stands

  pub procedure_checked : {b : Bool} → WindowChecked f rows (take (length table - s) (drop s table)) b → b ≡ procedure_rules (program f) (procedure_at (program f) q)
  unfolding signature_of
  procedure_checked m =
      (rw (part_whole table s) at m) h.owner q (record { accessed = h.accessed; owned = record { effected = h.effected; owning = h.owning }; window = of_window.window })
      (h.owning.to_body q l _ (rw e (h.windows.body q l))) of_window.body

pub rules_all : (P : Program) → all (procedure_rules P) P.procedures ≡ rules_ok P
unfolding rules_ok
rules_all P = refl
