-- Laws of `specs/Lays` and `specs/Heads` that only proofs cite.
use Prim.Native.Nat.{ℕ, suc, ◌≤◌, ◌+◌}
use native.Mathlib.Omega.{arith}
use mathlib.Core.List.{List, ◌∷◌, []}
use mathlib.Core.Path.{◌≡◌, sym}
use Rattle.language.specs.Format.{max_records, switch_kind, if_kind, arm_kind, next_word, goal_x, if_y, if_z, term_functor, term_arguments}
use Rattle.writer.specs.Skips.{Behind}
use Rattle.laying.specs.Lays.{Lays, Stored, RefersTo, Spans}
use Rattle.language.specs.File.{word}
use Rattle.laying.specs.Heads.{ArmStored, IfStored, SwitchStored, ThreeStored}

-- the record alone
pub lays_one : {a b : List ℕ} {c m : ℕ} {v : List ℕ} (w : List ℕ) → Behind c 1 m → Stored a b c v → (m ≤ max_records → m ≡ suc c → v ≡ w) → Lays a b c m (w ∷ [])
lays_one {c = c} {m = m} w B S e =
    record {
      same = S.same;
      place = B;
      room = λ p q.
          let n : m ≡ suc c = omega (arith, B.fits p) in
          rw (sym (e (omega arith) n)) (S.there (omega arith));
    }

-- ---- as the code stores them
module _ (f : List ℕ) (i : ℕ) {e w x : ℕ} (ew : w ≡ word f i next_word) (R : RefersTo w e x) where
  refers_next : RefersTo (word f i next_word) e x
  refers_next = rw ew at R

  pub switch_stored : {a b : List ℕ} {c s y l : ℕ} → y ≡ word f i goal_x → Spans s e l → Stored a b c (switch_kind ∷ x ∷ y ∷ l ∷ 0 ∷ 0 ∷ 0 ∷ 0 ∷ [])
      → SwitchStored f i a b c s e
  switch_stored p q o = record { next = _; link = _; refers = refers_next; spans = q; stored = rw p at o }

  pub if_stored : {a b : List ℕ} {c s m y z k l : ℕ} → y ≡ word f i if_y → z ≡ word f i if_z → Spans s m k → Spans m e l
      → Stored a b c (if_kind ∷ x ∷ y ∷ z ∷ k ∷ l ∷ 0 ∷ 0 ∷ []) → IfStored f i a b c s m e
  if_stored p q u v o = record { next = _; yes_link = _; no_link = _; refers = refers_next; yes_spans = u; no_spans = v; stored = rw (p, q) at o }

  pub arm_stored : {a b : List ℕ} {c s l functor a1 a2 a3 a4 : ℕ} → Spans s e l → functor ≡ word f i term_functor → a1 ≡ word f i term_arguments
      → a2 ≡ word f i (term_arguments + 1) → a3 ≡ word f i (term_arguments + 2) → a4 ≡ word f i (term_arguments + 3)
      → Stored a b c (arm_kind ∷ x ∷ l ∷ functor ∷ a1 ∷ a2 ∷ a3 ∷ a4 ∷ []) → ArmStored f i a b c s e
  arm_stored q ef e1 e2 e3 e4 o = record { next = _; link = _; refers = refers_next; spans = q; stored = rw (ef, e1, e2, e3, e4) at o }

  pub three_stored : (k : ℕ) {a b : List ℕ} {c s m n j l o : ℕ} → Spans s m j → Spans m n l → Spans n e o → Stored a b c (k ∷ x ∷ j ∷ l ∷ o ∷ 0 ∷ 0 ∷ 0 ∷ [])
      → ThreeStored f i a b c k s m n e
  three_stored k p q u v =
      record { next = _; first_link = _; second_link = _; third_link = _; refers = refers_next; first_spans = p; second_spans = q; third_spans = u; stored = v }
