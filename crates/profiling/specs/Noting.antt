-- A step's line, and the lines of many steps, one after the other.
use Rattle.std.specs.Prelude.{ℕ, zero, suc, ◌+◌, ◌≡◌, refl, Bool, true, false, ◌&&◌, List, eqb}
use Rattle.std.proofs.Common.{arith, sym, ap, subst, ◌∙◌, eqb-true, eq-eqb}
use Rattle.std.proofs.lemmas.Bool.{false≢true}
use Rattle.std.specs.Cmp.Derive.{both_true}
use Rattle.lines.specs.Put.{Put}
use Rattle.profiling.specs.declared.Held.{Held}
use Rattle.profiling.specs.declared.Line.{Line}
use Rattle.profiling.specs.declared.Point.{Point}
use Rattle.profiling.specs.Statement.{line_text}
use Rattle.profiling.specs.Standing.{frames_in}

unfoldable pub held_at : Point → Held
held_at p = record { cells = p.counts.cells; regions = p.counts.regions; frames = frames_in p.state.goal p.state.top }

abbrev pub Tells : Held → Held → Bool → Type 0
Tells a b true = a ≡ b
Tells a b false = a ≡ b → ⊥

-- what stands in a line behind point p, for a step to point q
abbrev pub line_to : Point → Point → Line
line_to p q = record { step = q.done; held = held_at q; goal = p.state.goal }

pub data Notes (p q : Point) (before : List ℕ) (at : ℕ) : List ℕ → ℕ → Type 0 where
  no_line : held_at q ≡ held_at p → Notes p q before at before at
  a_line : {after : List ℕ} {next : ℕ} → (held_at q ≡ held_at p → ⊥) → Put before at (line_text (line_to p q)) after next → Notes p q before at after next

-- ---- what is held
pub frames_none : (g t : ℕ) → g ≡ 0 → 0 ≡ frames_in g t
unfolding frames_in
frames_none g t z = rw z

pub frames_some : (g t : ℕ) → (g ≡ 0 → ⊥) → t + 1 ≡ frames_in g t
unfolding frames_in
frames_some zero t z = absurd (z refl)
frames_some (suc g) t z = omega arith

pub held_made : (p : Point) (n : ℕ) → n ≡ frames_in p.state.goal p.state.top → record { cells = p.counts.cells; regions = p.counts.regions; frames = n } ≡ held_at p
unfolding held_at
held_made p n e = ap (λ k. record { cells = p.counts.cells; regions = p.counts.regions; frames = k }) e

-- ---- as much is held, or not
pub held_equal : (a b : Held) → a.cells ≡ b.cells → a.regions ≡ b.regions → a.frames ≡ b.frames → a ≡ b
held_equal a b c r f =
    ap (λ n. record { cells = n; regions = a.regions; frames = a.frames }) c
    ∙ ap (λ n. record { cells = b.cells; regions = n; frames = a.frames }) r
    ∙ ap (λ n. record { cells = b.cells; regions = b.regions; frames = n }) f

both_hold : (x y : Bool) → true ≡ (x && y) → (x ≡ true) × (y ≡ true)
both_hold true y e = (refl, sym e)
both_hold false y e = absurd (false≢true (sym e))

-- what `==` of two says
pub held_told : (a b : Held) (r : Bool) → r ≡ (eqb a.cells b.cells && (eqb a.regions b.regions && eqb a.frames b.frames)) → Tells a b r
held_told a b true e =
    let (c, t) = both_hold _ _ e in
    let (r, f) = both_hold _ _ (sym t) in
    held_equal a b (eqb-true _ _ c) (eqb-true _ _ r) (eqb-true _ _ f)
held_told a b false e = λ h. false≢true (e ∙ both_true (eq-eqb _ _ (ap (λ k. k.cells) h)) (both_true (eq-eqb _ _ (ap (λ k. k.regions) h)) (eq-eqb _ _ (ap (λ k. k.frames) h))))

-- what the test of two points says
module _ (p q : Point) (h k : Held) (eh : h ≡ held_at q) (ek : k ≡ held_at p) (r : Bool) (t : Tells h k r) where
  pub notes_same : r ≡ true → (b : List ℕ) (at : ℕ) → Notes p q b at b at
  notes_same z b at = no_line (sym eh ∙ told ∙ ek)
    where
      told : h ≡ k
      told = subst (λ x. Tells h k x) z t

  pub notes_line : r ≡ false → {b e : List ℕ} {at n : ℕ} → Put b at (line_text (record { step = q.done; held = h; goal = p.state.goal })) e n → Notes p q b at e n
  notes_line z {b} {e} {at} {n} u =
      a_line (λ x. told (eh ∙ x ∙ sym ek)) (subst (λ y. Put b at (line_text (record { step = q.done; held = y; goal = p.state.goal })) e n) eh u)
    where
      told : h ≡ k → ⊥
      told = subst (λ x. Tells h k x) z t
