-- What bytes are below. The code has the number under the same name (src/lib.rt).
use Rattle.std.specs.Prelude.{ℕ}

abbrev pub byte_end : ℕ
byte_end = 256
