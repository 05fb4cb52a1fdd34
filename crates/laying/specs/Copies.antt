-- Records of the file that are laid as they are: written where they fit, skipped where not.
use Rattle.std.specs.Prelude.{ℕ, ◌*◌, ◌≤◌, ◌<◌, Bool, true, false, ◌≡◌}
use Rattle.language.specs.Format.{record_bytes, max_records}

-- b says whether records up to place e may be written into n bytes
pub record HasRoom (n e : ℕ) (b : Bool) : Type 0 where
  pub yes_room : b ≡ true → (e ≤ max_records) × (record_bytes * e ≤ n)
  pub no_room : b ≡ false → e ≤ max_records → n < record_bytes * e
