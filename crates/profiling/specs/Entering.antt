-- The run before its first step, in lent words.
use Rattle.std.specs.Prelude.{ℕ, ◌<◌, ◌≡◌, List, length, Ok}
use Rattle.std.proofs.Common.{arith, subst, ◌∙◌}
use Rattle.std.proofs.Math.Path.{refl, sym, ap}
use Rattle.language.specs.Machine.{holds}
use Rattle.language.specs.Answers.{checked}
use Rattle.lines.specs.Put.{Put}
use Rattle.memory.specs.declared.Heap.{Heap}
use Rattle.memory.specs.Memory.{cell_words, region_words, empty_heap}
use Rattle.word_machine.specs.Tables.{Tables, Tabled}
use Rattle.word_machine.specs.Machine.{frame_words, blocks, cleared, start_words}
use Rattle.plans.specs.Plan.{tables_in, callee_word, callee_size}
use Rattle.machine.specs.declared.State.{State}
use Rattle.machine.specs.Words.{FramePlaced, words_of}
use Rattle.machine.specs.Entries.{log_words}
use Rattle.machine.specs.Runs.{first_state}
use Rattle.profiling.specs.declared.Counts.{Counts}
use Rattle.profiling.specs.declared.Held.{Held}
use Rattle.profiling.specs.declared.Open.{Open}
use Rattle.profiling.specs.declared.Point.{Point}
use Rattle.profiling.specs.Statement.{held_after, line_text, entry_line}
use Rattle.profiling.specs.Standing.{outside, words_in, at_as, held_here}
use Rattle.profiling.specs.Beginning.{stands_first}
use Rattle.profiling.specs.Moving.{none_open, RunStands, lent_same}
use Rattle.profiling.specs.Noting.{held_at}
use Rattle.profiling.specs.Advancing.{same_held}

module _ (f plan images callees : List ℕ) (m rs fw fx ps : List ℕ) (l : ℕ) where
  abbrev T : Tables
  T = tables_in plan images callees

  entered : (size : ℕ) (s : State) (h : Heap) → size ≡ callee_word callees 0 callee_size → fx ≡ cleared 1 (blocks size) fw → s ≡ first_state callees
      → h ≡ empty_heap (holds (length m) cell_words) (holds (length rs) region_words) → start_words f T m rs fw ps ≡ words_of h m rs fx ps s
  unfolding start_words words_of first_state tables_in
  entered size s h ez ex es eh = rw (es, eh, ex, ez)

  placed_first : (s : State) → s ≡ first_state callees → length fx ≡ length fw → 0 < holds (length fw) frame_words → FramePlaced s (length fx)
  unfolding first_state holds
  placed_first s es lx some = rw es (record { place = omega arith; fits = omega (arith, lx) })

  pub begin_stands : (size : ℕ) (s : State) (h : Heap) (o : Open) (k : Counts) → size ≡ callee_word callees 0 callee_size → fx ≡ cleared 1 (blocks size) fw → s ≡ first_state callees
      → h ≡ empty_heap (holds (length m) cell_words) (holds (length rs) region_words) → o.at ≡ 0 → k ≡ record { cells = 0; regions = 0 } → length fx ≡ length fw → checked f ≡ Ok tt → Tabled f T
      → 0 < holds (length fw) frame_words → (log own : List ℕ) → length log ≡ log_words
      → RunStands f T l m rs fx ps log own (record { state = s; heap = h; counts = k; done = 0; condition = o })
  unfolding words_in
  begin_stands size s h o k ez ex es eh eo ek lx e B some log own ll = record {
    stand = _;
    tally = _;
    here =
        at_as (lent_same m m rs rs fw fx ps ps l refl refl lx refl) refl (ap (λ w. outside w) (entered size s h ez ex es eh)) refl (stands_first e B m rs fw ps l some);
    words = refl;
    held = sym ek;
    condition = none_open eo;
    placed = placed_first s es lx some;
    long = ll;
  }

-- the line of the entry's frame
module _ {f : List ℕ} {T : Tables} {l : ℕ} {m rs fw ps log own : List ℕ} {p : Point} (S : RunStands f T l m rs fw ps log own p) (z : p.done ≡ 0) where
  entry_is : (h : Held) → h ≡ held_at p → record { step = 0; held = h; goal = 0 } ≡ entry_line f
  unfolding entry_line
  entry_is h e =
      ap (λ k. record { step = 0; held = k; goal = 0 }) (e ∙ sym (same_held S) ∙ sym (held_here S.here) ∙ ap (held_after f) z)

  pub entry_put : (h : Held) → h ≡ held_at p → {b e : List ℕ} {at k : ℕ} → Put b at (line_text (record { step = 0; held = h; goal = 0 })) e k → Put b at (line_text (entry_line f)) e k
  entry_put h q {b} {e} {at} {k} u = subst (λ x. Put b at (line_text x) e k) (entry_is h q) u
