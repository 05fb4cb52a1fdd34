-- Whether a goal changes the heap, by the number of its kind.
use Rattle.std.specs.Prelude.{ℕ, ◌≡◌, Bool, true, false}
use Rattle.std.proofs.Common.{subst}
use Rattle.machine.specs.Words.{Changes}

pub changed : (w u : ℕ) (b : Bool) → w ≡ u → Changes w b → b ≡ true → Changes u true
changed w u b e c z = subst (λ x. Changes x true) e (subst (λ x. Changes w x) z c)

pub unchanged : (w u : ℕ) (b : Bool) → w ≡ u → Changes w b → b ≡ false → Changes u false
unchanged w u b e c z = subst (λ x. Changes x false) e (subst (λ x. Changes w x) z c)
