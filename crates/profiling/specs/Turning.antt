-- One step outside conditions in lent words, as the machine on lists of words does it. A try is told, not done.
use Rattle.std.specs.Prelude.{ℕ, refl, List, length, Result, Ok, Err}
use native.Mathlib.Omega.{arith}
use Rattle.std.proofs.Math.Path.{◌≡◌, ap}
use Rattle.std.proofs.Common.{sym, ◌∙◌}
use Rattle.language.specs.declared.Stop.{Stop}
use Rattle.language.specs.declared.Stop.TheVariants.{Steps}
use Rattle.language.specs.Machine.{Room, holds}
use Rattle.chains.specs.Shapes.{IsTry}
use Rattle.memory.specs.declared.Heap.{Heap}
use Rattle.word_machine.specs.Tables.{Tables}
use Rattle.word_machine.specs.Machine.{print_words, frame_words, Went, went, stops, settled, settled_if, stepped}
use Rattle.machine.specs.declared.State.{State}
use Rattle.machine.specs.declared.Step.{Step}
use Rattle.machine.specs.declared.Step.TheVariants.{Went as WentTo, Tries as TriesNext}
use Rattle.machine.specs.Words.{FramePlaced, words_of, onward_to, onward_placed, came_to, heap_came_to, Goes, GoesOrTries, HeapGoes}
use Rattle.profiling.specs.declared.Turn.{Turn}
use Rattle.profiling.specs.declared.Turn.TheVariants.{On, Tries}

-- what an answer stands for
unfoldable pub turned_to : Result Turn Stop → List ℕ → List ℕ → List ℕ → List ℕ → Went
turned_to (Ok (On s h)) m rs fw ps = went (words_of h m rs fw ps s)
turned_to (Err c) m rs fw ps = stops c
turned_to (Ok Tries) m rs fw ps = stops Steps

-- the goal at state s is carried out: r is the answer, and the words with ₁ are those afterwards
pub record Turns (f : List ℕ) (T : Tables) (s : State) (h : Heap) (m rs fw ps : List ℕ) (r : Result Turn Stop) (m₁ rs₁ fw₁ ps₁ : List ℕ) : Type 0 where
  pub tries : r ≡ Ok Tries → IsTry f s.goal × (m₁ ≡ m) × (rs₁ ≡ rs) × (fw₁ ≡ fw) × (ps₁ ≡ ps)
  pub comes : (r ≡ Ok Tries → ⊥) → (k : Room) → k.frames ≡ holds (length fw) frame_words → k.prints ≡ holds (length ps) print_words
      → turned_to r m₁ rs₁ fw₁ ps₁ ≡ stepped f T k s.goal (words_of h m rs fw ps s)
  pub stays : (v : State) (g : Heap) → r ≡ Ok (On v g) → FramePlaced v (length fw₁)

-- what a nested pattern matched
pub step_is : {A : Type 0} (r : Result A Stop) (x y : A) → r ≡ Ok x → x ≡ y → r ≡ Ok y
step_is r x y e d = rw (← d) e

-- the newest frame's words keep their place
on_placed : {u : State} {h : Heap} {n : ℕ} → FramePlaced u n → (v : State) (g : Heap) → ◌≡◌ {A = Result Turn Stop} (Ok (On u h)) (Ok (On v g)) → FramePlaced v n
on_placed {u} P v g e = let a : u ≡ v = cc in rw a at P

lacks_placed : {c : Stop} {n : ℕ} (v : State) (g : Heap) → ◌≡◌ {A = Result Turn Stop} (Err c) (Ok (On v g)) → FramePlaced v n
lacks_placed v g e = let z : ◌≡◌ {A = ℕ} 0 1 = cc in absurd (omega arith)

on_tries : {u : State} {h : Heap} {X : Type 0} → ◌≡◌ {A = Result Turn Stop} (Ok (On u h)) (Ok Tries) → X
on_tries e = let z : ◌≡◌ {A = ℕ} 0 1 = cc in absurd (omega arith)

lacks_tries : {c : Stop} {X : Type 0} → ◌≡◌ {A = Result Turn Stop} (Err c) (Ok Tries) → X
lacks_tries e = let z : ◌≡◌ {A = ℕ} 0 1 = cc in absurd (omega arith)

pub placed_long : {s : State} {a b : ℕ} → b ≡ a → FramePlaced s a → FramePlaced s b
placed_long e P = rw e P

pub placed_onward : {s v : State} {a b : ℕ} (i : ℕ) → v ≡ onward_to s i → b ≡ a → FramePlaced s a → FramePlaced v b
placed_onward i e l P = rw (e, l) (onward_placed i P)

pub went_placed : {f : List ℕ} {T : Tables} {s v : State} {m fw ps fx px : List ℕ} {r : Result Step Stop} → GoesOrTries f T s m fw ps r fx px → r ≡ Ok (WentTo v) → FramePlaced v (length fw)
went_placed {v = v} o e = (o.goes (λ d. let y : ◌≡◌ {A = ℕ} 0 1 = cc in omega arith)).stays v e

-- what `settle` promises: frames without goals have gone
abbrev pub Settles : List ℕ → Tables → State → List ℕ → State → List ℕ → Type 0
Settles f T s fw u fy = (h : Heap) (m rs ps : List ℕ) → words_of h m rs fy ps u ≡ settled f T (words_of h m rs fw ps s)

module _ (f : List ℕ) (T : Tables) (s : State) (h : Heap) (m rs fw ps : List ℕ) where
  -- ---- a goal that changes the heap
  module _ (r : Result Heap Stop) (m₁ rs₁ fx : List ℕ) (g : HeapGoes f T s h m rs fw r m₁ rs₁ fx) where
    pub changed_turns : (h₁ : Heap) (next : ℕ) (v u : State) (fy : List ℕ) → r ≡ Ok h₁ → next ≡ T.successor s.goal → v ≡ onward_to s next → Settles f T v fx u fy
        → FramePlaced u (length fy) → Turns f T s h m rs fw ps (Ok (On u h₁)) m₁ rs₁ fy ps
    unfolding turned_to stepped settled_if heap_came_to
    changed_turns h₁ next v u fy er en ev z pl = record {
      tries = on_tries;
      comes = λ x k a b.
          ap went (z h₁ m₁ rs₁ ps ∙ ap (λ t. settled f T (words_of h₁ m₁ rs₁ fx ps t)) ev)
          ∙ ap (settled_if f T) (ap (λ t. heap_came_to t m₁ rs₁ fx ps (onward_to s next)) (sym er) ∙ g.comes k ps next en);
      stays = on_placed pl;
    }

    pub change_lacks : (c : Stop) → r ≡ Err c → Turns f T s h m rs fw ps (Err c) m₁ rs₁ fx ps
    unfolding turned_to stepped settled_if heap_came_to
    change_lacks c er = record {
      tries = lacks_tries;
      comes = λ x k a b. ap (settled_if f T) (ap (λ t. heap_came_to t m₁ rs₁ fx ps (onward_to s (T.successor s.goal))) (sym er) ∙ g.comes k ps (T.successor s.goal) refl);
      stays = lacks_placed;
    }

  -- ---- a goal that leaves it alone
  module _ (r : Result Step Stop) (fx px : List ℕ) (o : GoesOrTries f T s m fw ps r fx px) where
    done : (c : Result Step Stop) → r ≡ c → (c ≡ Ok TriesNext → ⊥) → Goes f T s m fw ps r fx px
    done c e n = o.goes (λ z. n (sym e ∙ z))

    pub went_turns : (v u : State) (fy : List ℕ) → r ≡ Ok (WentTo v) → Settles f T v fx u fy → FramePlaced u (length fy) → Turns f T s h m rs fw ps (Ok (On u h)) m rs fy px
    unfolding turned_to stepped settled_if came_to
    went_turns v u fy er z pl = record {
      tries = on_tries;
      comes = λ x k a b. ap went (z h m rs px) ∙ ap (settled_if f T) (ap (λ t. came_to t h m rs fx px) (sym er) ∙ (done _ er went_tries).comes k h rs a b);
      stays = on_placed pl;
    }
      where
        went_tries : ◌≡◌ {A = Result Step Stop} (Ok (WentTo v)) (Ok TriesNext) → ⊥
        went_tries e = let y : ◌≡◌ {A = ℕ} 0 1 = cc in omega arith

    pub went_lacks : (c : Stop) → r ≡ Err c → Turns f T s h m rs fw ps (Err c) m rs fx px
    unfolding turned_to stepped settled_if came_to
    went_lacks c er = record {
      tries = lacks_tries;
      comes = λ x k a b. ap (settled_if f T) (ap (λ t. came_to t h m rs fx px) (sym er) ∙ (done _ er stops_tries).comes k h rs a b);
      stays = lacks_placed;
    }
      where
        stops_tries : ◌≡◌ {A = Result Step Stop} (Err c) (Ok TriesNext) → ⊥
        stops_tries e = let y : ◌≡◌ {A = ℕ} 0 1 = cc in omega arith

    pub went_tries : r ≡ Ok TriesNext → Turns f T s h m rs fw ps (Ok Tries) m rs fx px
    went_tries er = let t = o.tries er in record {
      tries = λ z. (t.0, refl, refl, t.1, t.2);
      comes = λ x. absurd (x refl);
      stays = λ v g e. let y : ◌≡◌ {A = ℕ} 0 1 = cc in absurd (omega arith);
    }
