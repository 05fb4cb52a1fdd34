-- Laws of `specs/Calls` that only proofs cite.
use Prim.Native.Nat.{ℕ, zero, suc, ◌+◌, ◌*◌, ◌≤◌, ◌<◌}
use native.Mathlib.Omega.{arith}
use mathlib.Core.Path.{◌≡◌, refl, ap}
use mathlib.Core.List.{List}
use borrow.Author.Tests.{lt-ltb, le-ltb}
use lib.ListN.{get_or, set}
use Rattle.sets.specs.Members.{members}
use Rattle.sets.specs.Sets.{loaded}
use Rattle.sets.specs.declared.Set.{Set}
use Rattle.language.specs.Lists.{choose}
use Rattle.language.specs.File.{word, record_count}
use Rattle.language.specs.Format.{max_records, call_procedure}
use Rattle.memory.specs.declared.Heap.{Heap}
use Rattle.plans.specs.Plan.{Narrow, sides_from, callee_word, callee_body, callee_size, callee_held, callee_born, tables_in}
use Rattle.frames.specs.Passing.{passed_in, passed_out, passed_in_law, passed_out_law}
use Rattle.frames.specs.Naming.{Pictured, named_in, named_out, named_in_law, named_out_law}
use Rattle.word_machine.specs.Tables.{Tables}
use Rattle.word_machine.specs.Machine.{MachineWords, frame_words, call_from, call_place, cleared, blocks, callee_words, regions_in, regions_out, return_words, returned, settled_from, settled}
use Rattle.machine.specs.Words.{words_of}
use Rattle.machine.specs.Calls.{marked}

pub marked_as : (P next i : ℕ) (fw fx fy : List ℕ) → fx ≡ set fw P next → fy ≡ set fx (P + frame_words + call_from) i → fy ≡ marked P next i fw
unfolding marked
marked_as P next i fw fx fy e d = rw (d, e)

module _ (plan images callees : List ℕ) where
  pub entry_as : (j next : ℕ) → next ≡ get_or plan j 0 → next ≡ (tables_in plan images callees).entry j
  unfolding tables_in
  entry_as j next e = e

  pub body_as : (q r : ℕ) → r ≡ callee_word callees q callee_body → r ≡ (tables_in plan images callees).body q
  unfolding tables_in
  body_as q r e = e

  pub size_as : (q r : ℕ) → r ≡ callee_word callees q callee_size → r ≡ (tables_in plan images callees).size q
  unfolding tables_in
  size_as q r e = e

module _ (f plan images callees : List ℕ) where
  abbrev T : Tables
  T = tables_in plan images callees

  -- ---- a call: to is the callee's place
  enters : (k i q to : ℕ) (fw : List ℕ) → to ≡ frame_words * suc k
      → regions_in f T k i (members (loaded (callee_word callees q callee_held)))
      (passed_in plan i (frame_words * k) (cleared (to + 1) (blocks (callee_word callees q callee_size)) (set (set fw (frame_words * k) (get_or plan i 0)) (to + call_from) i)))
      ≡ callee_words f T k i q fw
  unfolding callee_words tables_in
  enters k i q to fw e =
      let o : to + 1 ≡ suc (frame_words * suc k) = omega arith in
      rw (o, e) (ap (regions_in f T k i _) (passed_in_law f plan images callees k (frame_words * k) refl i _))

  pub call_as : (k i P q size next side : ℕ) (held : Set) (hw : ℕ) (fw f₁ f₂ f₃ f₄ : List ℕ) → P ≡ frame_words * k → q ≡ word f i call_procedure → next ≡ get_or plan i 0 → f₁ ≡ marked P next i fw
      → size ≡ callee_word callees q callee_size → f₂ ≡ cleared (P + frame_words + 1) (blocks size) f₁ → f₃ ≡ passed_in plan i P f₂
      → hw ≡ callee_word callees q callee_held → held ≡ loaded hw → side ≡ get_or plan (sides_from + i) 0 → f₄ ≡ named_in images side P (members held) f₃
      → f₄ ≡ callee_words f T k i (word f i call_procedure) fw
  unfolding marked
  call_as k i P q size next side held hw fw f₁ f₂ f₃ f₄ eP eq en e₁ es e₂ e₃ ew eh ed e₄ =
      let z : P + frame_words ≡ frame_words * suc k = omega arith in
      rw (← eq, e₄, ed, named_in_law f plan images callees k P i eP (members held) f₃, eh, ew, e₃, e₂, es, e₁, en, ← enters k i q (P + frame_words) fw z, eP)

  -- ---- a return
  pub return_none : (k i to : ℕ) (fw : List ℕ) → to ≡ frame_words * k → i ≡ get_or fw (to + frame_words + call_from) 0 → record_count f ≤ i
      → fw ≡ return_words f T k (get_or fw (call_place (suc k)) 0) fw
  unfolding return_words choose
  return_none k i to fw et ei l =
      let e : to + frame_words ≡ frame_words * suc k = omega arith in
      let n : get_or fw (call_place (suc k)) 0 ≡ i = rw (ei, e) in
      rw (n, le-ltb i (record_count f) l)

  gives : (k i : ℕ) (fw : List ℕ) → i < record_count f
      → regions_out f T k i (members (loaded (callee_word callees (word f i call_procedure) callee_born))) (passed_out plan i (frame_words * k) fw) ≡ return_words f T k i fw
  unfolding return_words choose tables_in
  gives k i fw l = rw (lt-ltb i (record_count f) l) (ap (regions_out f T k i _) (passed_out_law f plan images callees k (frame_words * k) refl i fw))

  pub return_as : (k i to q side word' : ℕ) (born : Set) (fw f₁ f₂ : List ℕ) → to ≡ frame_words * k → i ≡ get_or fw (to + frame_words + call_from) 0 → i < record_count f
      → f₁ ≡ passed_out plan i to fw → q ≡ word f i call_procedure → word' ≡ callee_word callees q callee_born → born ≡ loaded word' → side ≡ get_or plan (sides_from + i) 0
      → f₂ ≡ named_out images side to (members born) f₁ → f₂ ≡ return_words f T k (get_or fw (call_place (suc k)) 0) fw
  return_as k i to q side word' born fw f₁ f₂ et ei l e₁ eq ew eb ed e₂ =
      let e : to + frame_words ≡ frame_words * suc k = omega arith in
      let n : get_or fw (call_place (suc k)) 0 ≡ i = rw (ei, e) in
      rw (n, ← gives k i fw l, e₂, ed, named_out_law f plan images callees k to i et (members born) f₁, eb, ew, eq, e₁, et)

-- the images of a call can be read
pub pictured : {plan images : List ℕ} → Narrow plan images → (i : ℕ) → i < max_records → Pictured images (get_or plan (sides_from + i) 0)
pictured N i l = record { fits = omega (arith, N.sides i l, N.long); low = N.image }

-- ---- "Whenever the newest frame has no goals left, it goes at once"
module _ (f : List ℕ) (T : Tables) (h : Heap) (m rs ps : List ℕ) (printed : ℕ) where
  abbrev at : ℕ → ℕ → ℕ → List ℕ → MachineWords
  at a k i fw = words_of h m rs fw ps (record { top = k; at = a; goal = i; printed = printed })

  pub settle_entry : (a k i : ℕ) (fw : List ℕ) → k ≡ 0 → at a k i fw ≡ settled_from f T k i (at a k i fw)
  unfolding settled_from
  settle_entry a k i fw z = rw z

  pub settle_goal : (a k i : ℕ) (fw : List ℕ) → (i ≡ 0 → ⊥) → at a k i fw ≡ settled_from f T k i (at a k i fw)
  unfolding settled_from
  settle_goal a zero zero fw n = refl
  settle_goal a zero (suc i) fw n = refl
  settle_goal a (suc k) zero fw n = absurd (n refl)
  settle_goal a (suc k) (suc i) fw n = refl

  pub settle_return : (a b k j i g : ℕ) (fw fx : List ℕ) → k ≡ suc j → i ≡ 0 → b ≡ frame_words * j → g ≡ get_or fw b 0 → fx ≡ return_words f T j (get_or fw (call_place (suc j)) 0) fw
      → settled_from f T j g (at b j g fx) ≡ settled_from f T k i (at a k i fw)
  unfolding settled_from returned words_of
  settle_return a b k j i g fw fx ek ei eb eg ex = rw (ek, ei, eg, eb, ex)

  pub settle_first : (a k i : ℕ) (fw : List ℕ) → settled_from f T k i (at a k i fw) ≡ settled f T (at a k i fw)
  unfolding settled words_of
  settle_first a k i fw = refl
