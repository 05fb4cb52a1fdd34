-- Laws of tests joined by `◌&◌`.
use Rattle.std.specs.Prelude.{Bool, true, false, ◌≡◌, refl}
use Rattle.std.proofs.lemmas.Bool.{false≢true}
use Rattle.std.proofs.Common.{sym, ◌∙◌}
use Rattle.sets.specs.Tests.{◌&◌}

pub and_assoc : (a b c : Bool) → ((a & b) & c) ≡ (a & (b & c))
unfolding ◌&◌
and_assoc true b c = refl
and_assoc false b c = refl

pub and_swap : (a b c d : Bool) → ((a & b) & (c & d)) ≡ ((a & c) & (b & d))
unfolding ◌&◌
and_swap true true c d = refl
and_swap true false true d = refl
and_swap true false false d = refl
and_swap false b c d = refl

-- a test that two share
pub and_shared : (m a b : Bool) → ((m & a) & (m & b)) ≡ (m & (a & b))
unfolding ◌&◌
and_shared true a b = refl
and_shared false a b = refl

-- ---- one of the two is known
pub and_yes : (a : Bool) → (a & true) ≡ a
unfolding ◌&◌
and_yes true = refl
and_yes false = refl

pub yes_and : {a : Bool} (b : Bool) → a ≡ true → (a & b) ≡ b
unfolding ◌&◌
yes_and b e = rw e

pub and_no : (a : Bool) {b : Bool} → b ≡ false → (a & b) ≡ false
unfolding ◌&◌
and_no true e = e
and_no false e = refl

pub no_and : {a : Bool} (b : Bool) → a ≡ false → (a & b) ≡ false
unfolding ◌&◌
no_and {a = true} b e = absurd (false≢true (sym e))
no_and {a = false} b e = refl

-- ---- tests in a row, as code makes them: the first that fails refuses the whole, and where one passes the rest decides
pub and_stop : {a : Bool} (b : Bool) → a ≡ false → false ≡ (a & b)
unfolding ◌&◌
and_stop b e = rw e

pub and_on : {a b c : Bool} → a ≡ true → c ≡ b → c ≡ (a & b)
unfolding ◌&◌
and_on e g = rw e g

-- of a test that a call made
pub refuse : {r a : Bool} (b : Bool) → r ≡ a → r ≡ false → false ≡ (a & b)
refuse b e h = and_stop b (sym e ∙ h)

pub pass : {r a b c : Bool} → r ≡ a → r ≡ true → c ≡ b → c ≡ (a & b)
pass e h g = and_on (sym e ∙ h) g
