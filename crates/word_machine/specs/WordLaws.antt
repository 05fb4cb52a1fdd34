-- Words read as two's complement: the upper half.
use Rattle.std.specs.Prelude.{ℕ, suc, ◌-◌, ◌^◌, ◌≤◌, ◌≡◌, negsuc}
use Rattle.std.proofs.Common.{le-ltb}
use Rattle.std.specs.Int.{Width}
use mir.Val.{bits, hbits, to_z}

pub to_z_high : (w : Width) (n : ℕ) → 2 ^ hbits w ≤ n → to_z w n ≡ negsuc (2 ^ bits w - suc n)
to_z_high w n h = simp (le-ltb n (2 ^ hbits w) h)
