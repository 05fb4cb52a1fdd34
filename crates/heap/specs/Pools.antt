-- The free places of a sort, and what taking one does to them.
use Rattle.std.specs.Prelude.{ℕ, zero, suc, ◌+◌, ◌≤◌, ◌<◌, ◌≡◌, refl, ◌≢◌, Option, Some, None}
use Rattle.std.proofs.Common.{sym, ap, ◌∙◌, arith}
use Rattle.std.proofs.Math.Decide.{dec_le}
use Rattle.memory.specs.declared.Pool.{Pool}
use Rattle.memory.specs.Memory.{unused, taken, headed, raised}
use Rattle.memory.specs.Laws.{take_full, take_top, take_link}
use Rattle.heap.specs.Labels.{fresh, free, busy, Labels, Vacant, was_fresh, was_free, fresh_free, free_busy, vacant_busy, free_height}

-- the front of a chain of f free places that ends at top
abbrev pub FreeFront : Labels → ℕ → ℕ → ℕ → Type 0
FreeFront own head top zero = head ≡ top
FreeFront own head top (suc k) = own head ≡ free k

-- the labels say truly which places of pool p are free: f on the chain along `next`, and all from its top on, never used
pub record PoolOk (own : Labels) (next : ℕ → ℕ) (p : Pool) (f : ℕ) : Type 0 where
  pub high : p.top ≤ p.limit
  pub above : (x : ℕ) → p.top ≤ x → own x ≡ fresh
  pub front : FreeFront own p.head p.top f
  pub final : (x : ℕ) → own x ≡ free 0 → next x ≡ p.top
  pub step : (x k : ℕ) → own x ≡ free (suc k) → own (next x) ≡ free k
  pub small : (x k : ℕ) → own x ≡ free k → k < f
  pub inj : (x y k : ℕ) → own x ≡ free k → own y ≡ free k → x ≡ y

-- a place with another label than `fresh` was used before
pub below : {own : Labels} {next : ℕ → ℕ} {p : Pool} {f : ℕ} → PoolOk own next p f → (x : ℕ) → (own x ≡ fresh → ⊥) → x < p.top
below {p = p} P x ne = elim (dec_le p.top x) [ yes h ↦ absurd (ne (P.above x h)) | no h ↦ omega arith ]

pub start_pool : (n : ℕ) (next : ℕ → ℕ) → PoolOk (λ x. fresh) next (unused n) 0
unfolding unused
start_pool n next = record {
  high = omega arith;
  above = λ x h. refl;
  front = refl;
  final = λ x e. absurd (fresh_free e);
  step = λ x k e. absurd (fresh_free e);
  small = λ x k e. absurd (fresh_free e);
  inj = λ x y k e d. absurd (fresh_free e);
}

-- other words and labels that agree with these but for place x, which is busy now
pub record NowBusy (own own' : Labels) (next next' : ℕ → ℕ) (x : ℕ) : Type 0 where
  pub a : ℕ
  pub b : ℕ
  pub here : own' x ≡ busy a b
  pub labels : (y : ℕ) → y ≢ x → own' y ≡ own y
  pub links : (y : ℕ) → y ≢ x → next' y ≡ next y

module _ {own own' : Labels} {next next' : ℕ → ℕ} {x : ℕ} (U : NowBusy own own' next next' x) where
  free_not : {y k : ℕ} → own' y ≡ free k → y ≢ x
  free_not e q = free_busy (sym e ∙ ap own' q ∙ U.here)

  free_was : {y k : ℕ} → own' y ≡ free k → own y ≡ free k
  free_was {y} e = sym (U.labels y (free_not e)) ∙ e

-- ---- what a pool gives: place x, and the pool that is left once the place is used
pub record Gave (own : Labels) (next : ℕ → ℕ) (p : Pool) (f x : ℕ) (p' : Pool) : Type 0 where
  pub left : ℕ
  pub low : x < p.limit
  pub vacant : Vacant (own x)
  pub high : p'.top ≤ p.limit
  pub same : p'.limit ≡ p.limit
  pub count : suc (left + p.top) ≡ f + p'.top
  pub ok : (own' : Labels) (next' : ℕ → ℕ) → NowBusy own own' next next' x → PoolOk own' next' p' left

pub data Takes (own : Labels) (next : ℕ → ℕ) (p : Pool) (f : ℕ) : Option (ℕ × Pool) → Type 0 where
  full : f ≡ 0 → p.top ≡ p.limit → Takes own next p f None
  gave : {x : ℕ} {p' : Pool} → Gave own next p f x p' → Takes own next p f (Some (x, p'))

module _ {own : Labels} {next : ℕ → ℕ} {p : Pool} where
  -- the head of the chain is taken
  module _ (k : ℕ) (P : PoolOk own next p (suc k)) {own' : Labels} {next' : ℕ → ℕ} (U : NowBusy own own' next next' p.head) where
    -- the free ones that are left stand lower
    lower : (x j : ℕ) → own' x ≡ free j → j < k
    lower x j e =
        let d : own x ≡ free j = free_was U e in
        let q : j ≢ k = λ z. free_not U e (P.inj x p.head k (d ∙ ap free z) P.front) in
        omega (arith, P.small x j d)

    kept : (y j : ℕ) → own y ≡ free j → j < k → own' y ≡ free j
    kept y j e h = U.labels y (λ q. omega (arith, free_height (sym e ∙ ap own q ∙ P.front))) ∙ e

    head_low : p.head < p.top
    head_low = below P p.head (λ z. fresh_free (sym z ∙ P.front))

    took_free : PoolOk own' next' (headed p (next p.head)) k
    took_free = record {
      high = P.high;
      above = λ x h. U.labels x (λ e. omega (arith, head_low)) ∙ P.above x h;
      front = front k P kept;
      final = λ x e. U.links x (free_not U e) ∙ P.final x (free_was U e);
      step = λ x j e. ap own' (U.links x (free_not U e)) ∙ kept (next x) j (P.step x j (free_was U e)) (omega (arith, lower x (suc j) e));
      small = lower;
      inj = λ x y j e d. P.inj x y j (free_was U e) (free_was U d);
    }
      where
        front : (k : ℕ) → (P : PoolOk own next p (suc k)) → ((y j : ℕ) → own y ≡ free j → j < k → own' y ≡ free j)
            → FreeFront own' (next p.head) p.top k
        front zero P g = P.final p.head P.front
        front (suc j) P g = g (next p.head) j (P.step p.head j P.front) (omega arith)

  -- the chain is empty: the first place that was never used is taken
  took_top : PoolOk own next p 0 → p.top < p.limit → {own' : Labels} {next' : ℕ → ℕ} → NowBusy own own' next next' p.head
      → PoolOk own' next' (raised p) 0
  took_top P h {own'} U = record {
    high = omega (arith, P.front);
    above = λ x h. U.labels x (λ e. omega (arith, P.front)) ∙ P.above x (omega (arith, P.front));
    front = refl;
    final = λ x e. no x 0 e;
    step = λ x j e. no x (suc j) e;
    small = λ x k e. no x k e;
    inj = λ x y k e d. no x k e;
  }
    where
      no : {A : Type 0} (x k : ℕ) → own' x ≡ free k → A
      no x k e = absurd (omega (arith, P.small x k (free_was U e)))

  gave_top : PoolOk own next p 0 → p.head < p.limit → Gave own next p 0 p.head (raised p)
  gave_top P h = record {
    left = 0;
    low = h;
    vacant = rw (P.above p.head (omega (arith, P.front))) was_fresh;
    high = omega arith;
    same = refl;
    count = omega (arith, P.front);
    ok = λ own' next' U. took_top P (omega (arith, P.front)) U;
  }

  gave_free : (k : ℕ) → PoolOk own next p (suc k) → p.head < p.top → Gave own next p (suc k) p.head (headed p (next p.head))
  gave_free k P lo = record {
    left = k;
    low = omega (arith, P.high);
    vacant = rw P.front was_free;
    high = P.high;
    same = refl;
    count = omega arith;
    ok = λ own' next' U. took_free k P U;
  }

  pub take_ok : (f : ℕ) → PoolOk own next p f → Takes own next p f (taken p (next p.head))
  take_ok zero P = elim (dec_le p.limit p.head) [
    | yes h ↦ rw (take_full p (next p.head) h) (full refl (omega (arith, P.front, P.high)))
    | no h ↦ rw (take_top p (next p.head) (omega arith) P.front) (gave (gave_top P (omega arith)))
  ]
  take_ok (suc k) P =
      let lo : p.head < p.top = below P p.head (λ e. fresh_free (sym e ∙ P.front)) in
      rw (take_link p (next p.head) (omega (arith, P.high)) (λ e. omega arith)) (gave (gave_free k P lo))

-- ---- a busy place that stays busy is none of the pool's
module _ {own own' : Labels} {next next' : ℕ → ℕ} {p : Pool} {f x a b : ℕ} (P : PoolOk own next p f) (e : own x ≡ busy a b)
    (U : NowBusy own own' next next' x) where
  still : (y k : ℕ) → own y ≡ free k → own' y ≡ free k
  still y k d = U.labels y (λ q. free_busy (sym d ∙ ap own q ∙ e)) ∙ d

  pub stays_ok : PoolOk own' next' p f
  stays_ok = record {
    high = P.high;
    above = λ y h. U.labels y (λ q. vacant_busy was_fresh (sym (P.above y h) ∙ ap own q ∙ e)) ∙ P.above y h;
    front = front f P;
    final = λ y d. U.links y (free_not U d) ∙ P.final y (free_was U d);
    step = λ y k d. ap own' (U.links y (free_not U d)) ∙ still (next y) k (P.step y k (free_was U d));
    small = λ y k d. P.small y k (free_was U d);
    inj = λ y z k d g. P.inj y z k (free_was U d) (free_was U g);
  }
    where
      front : (f : ℕ) → PoolOk own next p f → FreeFront own' p.head p.top f
      front zero P = P.front
      front (suc k) P = still p.head k P.front
