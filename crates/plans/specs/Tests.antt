-- The test of a record's kind.
use Rattle.std.specs.Prelude.{ℕ, true, false, List, ◌≡◌}
use Rattle.std.proofs.Common.{sym, ◌∙◌}
use borrow.Author.Tests.{eq-eqb, ne_eqb, eqb-true}
use Rattle.language.specs.File.{word}
use Rattle.language.specs.Format.{kind_word}
use Rattle.plans.specs.Passes.{is_kind}

module _ (f : List ℕ) (i k : ℕ) where
  pub kind_is : is_kind f k i ≡ true → word f i kind_word ≡ k
  unfolding is_kind
  kind_is e = eqb-true (word f i kind_word) k e

  module _ {w : ℕ} (e : w ≡ word f i kind_word) where
    pub kind_yes : w ≡ k → is_kind f k i ≡ true
    unfolding is_kind
    kind_yes y = eq-eqb (word f i kind_word) k (sym e ∙ y)

    pub kind_no : (w ≡ k → ⊥) → is_kind f k i ≡ false
    unfolding is_kind
    kind_no n = ne_eqb (word f i kind_word) k (λ y. n (e ∙ y))
