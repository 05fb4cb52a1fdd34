-- A test of what stands in chains, record by record: it is passed by what the header leads to if and only if every record passes its own test, where a chain passes
-- exactly if its first record does and the chains do that the record's words lead to.
use Rattle.std.specs.Prelude.{ℕ, suc, ◌-◌, ◌<◌, Bool, true, false, ◌≡◌}
use Rattle.std.proofs.Common.{arith, sym, ◌∙◌}
use mathlib.Core.List.{List, [], ◌∷◌}
use Rattle.std.proofs.Math.Path.{refl}
use Rattle.sets.specs.Tests.{◌&◌, and_true, true_and, same_truth}
use Rattle.laws.specs.Numbers.{all_at, at_all}
use Rattle.language.specs.Lists.{all, up_from}
use Rattle.language.specs.Format.{header_procedures, header_types}
use Rattle.language.specs.File.{Chain, types, procedures, Use, number, unused, first, word, record_count}
use Rattle.chains.specs.Layout.{all_rows}
use Rattle.records.specs.Table.{uses}
use Rattle.chains.specs.Formed.{Formed, counted}
use Rattle.owners.specs.Referred.{sort_of, uses_of, Each, EachOf, header_uses, outward, inward, each_later}

-- ---- tests, in another order: a record's own, its next, its parts
pub one_swap : (l r : Bool) → (l & r) ≡ (l & (r & true))
unfolding ◌&◌
one_swap true true = refl
one_swap true false = refl
one_swap false r = refl

pub two_swap : (a r : Bool) → (a & r) ≡ (r & (a & true))
unfolding ◌&◌
two_swap true true = refl
two_swap true false = refl
two_swap false true = refl
two_swap false false = refl

pub three_swap : (l a r : Bool) → ((l & a) & r) ≡ (l & (r & (a & true)))
unfolding ◌&◌
three_swap true a r = two_swap a r
three_swap false a r = refl

pub four_swap : (l a b r : Bool) → ((l & (a & b)) & r) ≡ (l & (r & (a & (b & true))))
unfolding ◌&◌
four_swap true true b r = two_swap b r
four_swap true false b true = refl
four_swap true false b false = refl
four_swap false a b r = refl

pub five_swap : (l a b c r : Bool) → ((l & (a & (b & c))) & r) ≡ (l & (r & (a & (b & (c & true)))))
unfolding ◌&◌
five_swap l true b c r = four_swap l b c r
five_swap true false b c true = refl
five_swap true false b c false = refl
five_swap false false b c r = refl

-- ---- T tests the chain of a sort at a record
module _ (T : Chain → ℕ → Bool) where
  -- .. the chains that a record's words lead to
  unfoldable pub words_test : (ℕ → ℕ) → ℕ → List Use → Bool
  words_test w k [] = true
  words_test w k (number ∷ us) = words_test w (suc k) us
  words_test w k (unused ∷ us) = words_test w (suc k) us
  words_test w k (first c ∷ us) = T c (w k) & words_test w (suc k) us

  abbrev Passes : Chain → ℕ → Type 0
  Passes c i = T c i ≡ true

  words_each : (w : ℕ → ℕ) (us : List Use) (k : ℕ) → words_test w k us ≡ true → Each Passes w k us
  unfolding words_test
  words_each w [] k e = tt
  words_each w (number ∷ us) k e = words_each w us (suc k) e
  words_each w (unused ∷ us) k e = words_each w us (suc k) e
  words_each w (first c ∷ us) k e = ((and_true e).0, words_each w us (suc k) (and_true e).1)

  each_words : (w : ℕ → ℕ) (us : List Use) (k : ℕ) → Each Passes w k us → words_test w k us ≡ true
  unfolding words_test
  each_words w [] k e = refl
  each_words w (number ∷ us) k e = each_words w us (suc k) e
  each_words w (unused ∷ us) k e = each_words w us (suc k) e
  each_words w (first c ∷ us) k e = true_and e.0 (each_words w us (suc k) e.1)

  -- R tests a record by itself
  module _ {f : List ℕ} (F : Formed f) (R : ℕ → Bool) (ends : (c : Chain) → T c 0 ≡ true) (no_types : (i : ℕ) → T types i ≡ true)
      (steps : (i : ℕ) → 0 < i → i < record_count f → T (sort_of f i) i ≡ (R i & words_test (word f i) 1 (uses_of f i))) where
    pub chain_records_law : T procedures (word f 0 header_procedures) ≡ true → (i : ℕ) → 0 < i → i < record_count f → R i ≡ true
    unfolding uses all_rows
    chain_records_law e i p q =
        let h : EachOf Passes f 0 = rw (header_uses F) (e, (no_types (word f 0 header_types), tt)) in
        (and_true (sym (steps i p q) ∙ outward F Passes h (λ j a b c. words_each (word f j) (uses_of f j) 1 (and_true (sym (steps j a b) ∙ c)).1) i p q)).0

    pub records_chain : ((i : ℕ) → 0 < i → i < record_count f → R i ≡ true) → T procedures (word f 0 header_procedures) ≡ true
    unfolding uses all_rows
    records_chain h =
        let later = inward F Passes ends (λ i p q e. steps i p q ∙ true_and (h i p q) (each_words (word f i) (uses_of f i) 1 e)) in
        let e = rw (header_uses F) at (each_later F Passes ends 0 (counted F).some (λ j o b. later j o b)) in
        e.0

    -- as one equation
    pub chain_all : T procedures (word f 0 header_procedures) ≡ all R (up_from 1 (record_count f - 1))
    chain_all =
        let n = (counted F).some in
        same_truth (λ e. at_all (record_count f - 1) 1 R (λ i p q. chain_records_law e i p (omega arith)))
        (λ e. records_chain (λ i p q. all_at (record_count f - 1) 1 R e i p (omega arith)))
