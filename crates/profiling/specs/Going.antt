-- What each way through a step's code comes to, from where a run stands.
use Prim.Native.Nat.{ℕ, suc, ◌+◌, ◌≤◌, ◌<◌}
use Rattle.std.proofs.Common.{arith, sym, ◌∙◌, Result, Ok, Err, ControlFlow, Continue}
use Rattle.std.proofs.Math.Decide.{ℕ_discrete}
use Rattle.std.proofs.Math.Numerals.{add-one}
use Rattle.std.specs.Prelude.{◌≡◌, List, length}
use Rattle.std.proofs.Math.Path.{refl, ap}
use Rattle.language.specs.declared.Ending.{Ending}
use Rattle.language.specs.declared.Stop.{Stop}
use Rattle.language.specs.declared.Stop.TheVariants.{Steps}
use Rattle.language.specs.declared.Ending.TheVariants.{Finished, Stopped}
use Rattle.language.specs.Machine.{Room, room_in}
use Rattle.records.specs.Records.{record_at}
use Rattle.chains.specs.Shapes.{IsTry}
use Rattle.memory.specs.declared.Heap.{Heap}
use Rattle.word_machine.specs.Tables.{Tables}
use Rattle.word_machine.specs.Machine.{MachineWords, ConditionWords, steps, settled_if, stepped, lent_words}
use Rattle.word_machine.specs.Returns.{some_goal}
use Rattle.machine.specs.declared.State.{State}
use Rattle.machine.specs.Words.{words_of}
use Rattle.profiling.specs.declared.Counts.{Counts}
use Rattle.profiling.specs.declared.Open.{Open}
use Rattle.profiling.specs.declared.Point.{Point}
use Rattle.profiling.specs.declared.Turn.{Turn}
use Rattle.profiling.specs.declared.Turn.TheVariants.{On as TurnOn, Tries}
use Rattle.profiling.specs.Counting.{counted}
use Rattle.profiling.specs.Tallying.{alike}
use Rattle.profiling.specs.Standing.{outside, words_in, at_as, finished_here, steps_on, stops_here, spent_here, inside_busy, inside_spent}
use Rattle.profiling.specs.Turning.{turned_to, Turns}
use Rattle.profiling.specs.Moving.{words_at, none_open, RunStands, EndsAfter, Moves, moves_to, lent_same, before_went, before_stops, stands_outside, stands_inside}

-- ---- the run has ended, or its steps are spent
module _ {f : List ℕ} {T : Tables} {l : ℕ} {m rs fw ps log own : List ℕ} {p : Point} (H : RunStands f T l m rs fw ps log own p) where
  -- outside conditions or not, by a case of the point's number
  either : {X : Type 0} → (p.condition.at ≡ 0 → X) → ((p.condition.at ≡ 0 → ⊥) → X) → X
  either a b = elim (ℕ_discrete p.condition.at 0) [ yes z ↦ a z | no z ↦ b z ]

  goal_at_law : (v : ConditionWords) → v.words ≡ words_at p m rs fw ps → v.words.goal ≡ p.state.goal
  unfolding words_of
  goal_at_law v e = ap (λ w. w.goal) e

  pub moves_finished : p.state.goal ≡ 0 → EndsAfter f (lent_words m rs fw ps l) Finished p.done
  unfolding words_of
  moves_finished z =
      either (λ y. record { is = finished_here (stands_outside H y) z })
      (λ y. let W = stands_inside H y in absurd (inside_busy W.2 (goal_at_law W.0 W.1.kept.words ∙ z)))

  module _ (z : p.state.goal ≡ 0 → ⊥) where
    abbrev i : ℕ
    i = p.state.goal

    goal_some : (words_at p m rs fw ps).goal ≡ suc (some_goal i z).0
    unfolding words_of
    goal_some = (some_goal i z).1

    pub moves_spent : l ≤ p.done → EndsAfter f (lent_words m rs fw ps l) (Stopped Steps) p.done
    unfolding lent_words
    moves_spent q =
        either (λ y. record { is = spent_here (stands_outside H y) (some_goal i z).0 goal_some q })
        (λ y. let W = stands_inside H y in record { is = inside_spent W.2 q })

    -- ---- a step outside conditions
    module _ (o : p.condition.at ≡ 0) (q : p.done < l) {r : Result Turn Stop} {m₁ rs₁ fw₁ ps₁ : List ℕ} (t : Turns f T p.state p.heap m rs fw ps r m₁ rs₁ fw₁ ps₁) where
      abbrev K : Room
      K = room_in (lent_words m rs fw ps l)

      abbrev W : MachineWords
      W = words_at p m rs fw ps

      came : (r ≡ Ok Tries → ⊥) → turned_to r m₁ rs₁ fw₁ ps₁ ≡ settled_if f T (steps f T K (suc (some_goal i z).0) (record_at f (suc (some_goal i z).0)) W)
      unfolding stepped room_in lent_words
      came n = rw (← (some_goal i z).1) (t.comes n K refl refl)

      steps_low : p.done < (lent_words m rs fw ps l).steps
      unfolding lent_words
      steps_low = q

      lacks_done : (c : Stop) → r ≡ Err c → r ≡ Ok Tries → ⊥
      lacks_done c e d = let x : ◌≡◌ {A = ℕ} 0 1 = cc in omega arith

      on_done : (s : State) (h : Heap) → r ≡ Ok (TurnOn s h) → r ≡ Ok Tries → ⊥
      on_done s h e d = let x : ◌≡◌ {A = ℕ} 0 1 = cc in omega arith

      pub moves_lacks : (c : Stop) → r ≡ Err c → EndsAfter f (lent_words m rs fw ps l) (Stopped c) p.done
      unfolding turned_to
      moves_lacks c e = record {
        is =
            stops_here (stands_outside H o) (some_goal i z).0 goal_some c steps_low
            (before_stops f T _ c (ap (λ x. turned_to x m₁ rs₁ fw₁ ps₁) (sym e) ∙ came (lacks_done c e)));
      }

      pub moves_on : (s : State) (h : Heap) (c : Counts) (n : ℕ) (d : Open) → r ≡ Ok (TurnOn s h) → c ≡ counted W (record_at f i) p.counts → n ≡ p.done + 1 → d.at ≡ 0
          → length m₁ ≡ length m → length rs₁ ≡ length rs → length fw₁ ≡ length fw → length ps₁ ≡ length ps → (own₁ : List ℕ)
          → Moves f T l m rs fw ps p m₁ rs₁ fw₁ ps₁ log own₁ (Continue (record { state = s; heap = h; counts = c; done = n; condition = d }))
      unfolding turned_to words_in
      moves_on s h c n d e ec en ed lm lr lf lp own₁ =
          let v = before_went f T _ (words_of h m₁ rs₁ fw₁ ps₁ s) (ap (λ x. turned_to x m₁ rs₁ fw₁ ps₁) (sym e) ∙ came (on_done s h e)) in
          let a = steps_on (stands_outside H o) (some_goal i z).0 goal_some v.0 steps_low v.1 in
          let y : n ≡ suc p.done = en ∙ add-one p.done in
          let x = ec ∙ ap (λ j. counted W (record_at f j) p.counts) (some_goal i z).1 in
          moves_to (record {
            next = y;
            low = q;
            busy = z;
            stands = record {
              stand = _;
              tally = _;
              here = at_as (lent_same m m₁ rs rs₁ fw fw₁ ps ps₁ l lm lr lf lp) (sym y) (ap (λ w. outside w) (sym v.2)) (ap (λ k. alike k) (sym x)) a;
              words = refl;
              held = refl;
              condition = none_open ed;
              placed = t.stays s h e;
              long = H.long;
            };
          })

-- ---- a try is told, and the words are as they were
module _ {f : List ℕ} {T : Tables} {l : ℕ} {m rs fw ps m₁ rs₁ fw₁ ps₁ m₂ rs₂ fw₂ ps₂ log own log₂ own₂ : List ℕ} {p : Point} {x : ControlFlow Ending Point} where
  tries_as : m₁ ≡ m → rs₁ ≡ rs → fw₁ ≡ fw → ps₁ ≡ ps
      → (RunStands f T l m₁ rs₁ fw₁ ps₁ log own p → Moves f T l m₁ rs₁ fw₁ ps₁ p m₂ rs₂ fw₂ ps₂ log₂ own₂ x)
      → RunStands f T l m rs fw ps log own p → Moves f T l m rs fw ps p m₂ rs₂ fw₂ ps₂ log₂ own₂ x
  tries_as a b d e F H = rw (← a, ← b, ← d, ← e) (F (rw (a, b, d, e) H))

  pub moves_tries : {r : Result Turn Stop} → Turns f T p.state p.heap m rs fw ps r m₁ rs₁ fw₁ ps₁ → r ≡ Ok Tries
      → (RunStands f T l m₁ rs₁ fw₁ ps₁ log own p → IsTry f p.state.goal → Moves f T l m₁ rs₁ fw₁ ps₁ p m₂ rs₂ fw₂ ps₂ log₂ own₂ x)
      → RunStands f T l m rs fw ps log own p → Moves f T l m rs fw ps p m₂ rs₂ fw₂ ps₂ log₂ own₂ x
  moves_tries t e F H = let u = t.tries e in tries_as u.1 u.2 u.3 u.4 (λ G. F G u.0) H
