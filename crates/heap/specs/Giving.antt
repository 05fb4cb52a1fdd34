-- Places given back to a pool, all at once: they stand before those that were free.
use Rattle.std.specs.Prelude.{ℕ, zero, suc, ◌+◌, ◌<◌, ◌≡◌, ◌⊎◌}
use Rattle.std.proofs.Common.{ap, ◌∙◌, inl, inr, arith}
use Rattle.memory.specs.declared.Pool.{Pool}
use Rattle.memory.specs.Memory.{headed}
use Rattle.heap.specs.Labels.{fresh, free, Labels}
use Rattle.heap.specs.Pools.{PoolOk}

-- a free place was so before, at the same height, or is one of those given
abbrev pub Source : Labels → ℕ → (ℕ → ℕ → Type 0) → ℕ → ℕ → Type 0
Source own f G y i = (own y ≡ free i) ⊎ ((j : ℕ) × G y j × (i ≡ j + f))

-- suc k places are given back: G y j says that y is one of them, with j of them behind it. f were free
pub record GivenBack (own own' : Labels) (next next' : ℕ → ℕ) (p : Pool) (f : ℕ) (G : ℕ → ℕ → Type 0) (first k : ℕ) : Type 0 where
  pub front : G first k
  pub step : (y j : ℕ) → G y (suc j) → G (next' y) j
  pub final : (y : ℕ) → G y 0 → next' y ≡ p.head
  pub small : (y j : ℕ) → G y j → j < suc k
  pub inj : (x y j : ℕ) → G x j → G y j → x ≡ y
  pub frees : (y i : ℕ) → own y ≡ free i → own' y ≡ free i
  pub links : (y i : ℕ) → own y ≡ free i → next' y ≡ next y
  pub freshes : (y : ℕ) → own y ≡ fresh → own' y ≡ fresh
  pub joins : (y j : ℕ) → G y j → own' y ≡ free (j + f)
  pub whence : (y i : ℕ) → own' y ≡ free i → Source own f G y i

module _ {own own' : Labels} {next next' : ℕ → ℕ} {p : Pool} {f : ℕ} {G : ℕ → ℕ → Type 0} {first k : ℕ}
    (P : PoolOk own next p f) (W : GivenBack own own' next next' p f G first k) where
  -- behind the last one given stand those that were free
  behind : (y i : ℕ) → G y 0 → suc i ≡ f → own' (next' y) ≡ free i
  behind y i g e = ap own' (W.final y g) ∙ W.frees p.head i (head f P e)
    where
      head : (f : ℕ) → PoolOk own next p f → suc i ≡ f → own p.head ≡ free i
      head zero P e = absurd (omega arith)
      head (suc n) P e = P.front ∙ ap free (omega arith)

  ends : (y : ℕ) → G y 0 → 0 ≡ f → next' y ≡ p.top
  ends y g e = W.final y g ∙ head f P e
    where
      head : (f : ℕ) → PoolOk own next p f → 0 ≡ f → p.head ≡ p.top
      head zero P e = P.front
      head (suc n) P e = absurd (omega arith)

  final_given : (y j : ℕ) → G y j → 0 ≡ j + f → next' y ≡ p.top
  final_given y zero g e = ends y g (omega arith)
  final_given y (suc j) g e = absurd (omega arith)

  final' : (y : ℕ) → Source own f G y 0 → next' y ≡ p.top
  final' y (inl e) = W.links y 0 e ∙ P.final y e
  final' y (inr g) = final_given y g.0 g.1 g.2

  step_given : (y i j : ℕ) → G y j → suc i ≡ j + f → own' (next' y) ≡ free i
  step_given y i zero g e = behind y i g (omega arith)
  step_given y i (suc j) g e = W.joins (next' y) j (W.step y j g) ∙ ap free (omega arith)

  step' : (y i : ℕ) → Source own f G y (suc i) → own' (next' y) ≡ free i
  step' y i (inl e) = ap own' (W.links y (suc i) e) ∙ W.frees (next y) i (P.step y i e)
  step' y i (inr g) = step_given y i g.0 g.1 g.2

  small' : (y i : ℕ) → Source own f G y i → i < suc (k + f)
  small' y i (inl e) = omega (arith, P.small y i e)
  small' y i (inr g) = omega (arith, W.small y g.0 g.1, g.2)

  inj' : (x y i : ℕ) → Source own f G x i → Source own f G y i → x ≡ y
  inj' x y i (inl e) (inl d) = P.inj x y i e d
  inj' x y i (inl e) (inr g) = absurd (omega (arith, P.small x i e, g.2))
  inj' x y i (inr g) (inl d) = absurd (omega (arith, P.small y i d, g.2))
  inj' x y i (inr g) (inr h) = W.inj x y g.0 g.1 (rw (same h.0 g.0 h.2 g.2) at h.1)
    where
      same : (a b : ℕ) → i ≡ a + f → i ≡ b + f → a ≡ b
      same a b e d = omega arith

  pub give_ok : PoolOk own' next' (headed p first) (suc (k + f))
  give_ok = record {
    high = P.high;
    above = λ x h. W.freshes x (P.above x h);
    front = W.joins first k W.front;
    final = λ x e. final' x (W.whence x 0 e);
    step = λ x i e. step' x i (W.whence x (suc i) e);
    small = λ x i e. small' x i (W.whence x i e);
    inj = λ x y i e d. inj' x y i (W.whence x i e) (W.whence y i d);
  }
