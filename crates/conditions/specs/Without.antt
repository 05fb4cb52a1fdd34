-- A file without tries and tests: no record stands in a condition, and each may stand where it does.
use Rattle.std.specs.Prelude.{ℕ, ◌-◌, ◌<◌, Bool, List, ◌≡◌, get_or, replicate}
use Rattle.std.proofs.Common.{arith, sym, ◌∙◌}
use Rattle.std.proofs.Math.Bool.{true, false}
use Rattle.std.proofs.lemmas.Bool.{false≢true}
use Rattle.std.proofs.Math.Path.{refl}
use borrow.Author.Tests.{ne_eqb, ltb-true}
use Rattle.std.proofs.Math.Dec.{ltb}
use Rattle.sets.specs.Tests.{◌&◌, neg}
use Rattle.sets.specs.Members.{in_list}
use Rattle.laws.specs.Numbers.{all_at, at_all}
use Rattle.language.specs.Lists.{all, choose, up_from}
use Rattle.language.specs.Format.{kind_word, try_kind, test_kind, max_records}
use Rattle.language.specs.File.{word, record_count}
use Rattle.language.specs.Conditions.{conditions_ok}
use Rattle.language.specs.Answers.{program}
use Rattle.records.specs.Blank.{blank_zero}
use Rattle.chains.specs.Formed.{Formed, counted}
use Rattle.owners.specs.Handed.{words_of}
use Rattle.owners.specs.Handing.{handed_keeps}
use Rattle.conditions.specs.Inside.{inside_by, insides, inside_at}
use Rattle.conditions.specs.Standing.{may_stand, conditions_records}

-- some record's kind is a try or a test, the highest two; of a file that passes number 2 no other is as high
unfoldable pub any_condition : List ℕ → Bool
any_condition f = neg (all (λ i. ltb (word f i kind_word) try_kind) (up_from 0 (record_count f)))

module _ {f : List ℕ} (F : Formed f) (none : any_condition f ≡ false) where
  low_all : (b : Bool) → neg b ≡ false → b ≡ true
  unfolding neg
  low_all true e = refl
  low_all false e = absurd (false≢true (sym e))

  low : (i : ℕ) → i < record_count f → word f i kind_word < try_kind
  unfolding any_condition
  low i q = ltb-true _ _ (all_at (record_count f) 0 (λ i. ltb (word f i kind_word) try_kind) (low_all _ none) i (omega arith) (omega arith))

  stays : (m : ℕ) → m < record_count f → (v : ℕ) → v ≡ 0 → (k : ℕ) → in_list k (words_of f m) ≡ true → inside_by (word f m kind_word) m k v ≡ 0
  unfolding inside_by choose ◌&◌
  stays m l v e k i = rw (ne_eqb (word f m kind_word) try_kind (λ z. omega (arith, low m l))) e

  outside : (p : ℕ) → get_or (insides f) p 0 ≡ 0
  unfolding insides
  outside = handed_keeps F inside_by (λ m p v. v ≡ 0) (λ m p v h. h) stays (replicate max_records 0) refl (λ p. blank_zero max_records p)

  may : (i : ℕ) → i < record_count f → may_stand (inside_at f i) (word f i kind_word) ≡ true
  unfolding inside_at may_stand neg
  may i q = rw (outside i, ne_eqb (word f i kind_word) test_kind (λ z. omega (arith, low i q))) refl

  pub without_conditions : true ≡ conditions_ok (program f)
  without_conditions =
      let n = (counted F).some in
      sym (conditions_records F ∙ at_all (record_count f - 1) 1 (λ i. may_stand (inside_at f i) (word f i kind_word)) (λ i p q. may i (omega arith)))
