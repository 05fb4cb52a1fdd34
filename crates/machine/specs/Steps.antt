-- The record of a goal that changes the heap, by the number of its kind, w.
use Rattle.std.specs.Prelude.{ℕ, ◌+◌, ◌≡◌, List}
use Rattle.std.proofs.Math.Path.{refl}
use Rattle.std.proofs.Common.{sym, ap, ◌∙◌}
use Rattle.language.specs.Lists.{nth}
use Rattle.language.specs.File.{Kind, k_goal, k_construct, k_create, k_remove, kinds, kind_of, word}
use Rattle.language.specs.Format.{kind_word, next_word, goal_x, term_functor, term_arguments, lifetime_region, construct_kind, create_kind, remove_kind}
use Rattle.records.specs.Records.{record_at, record_as, record_as_law}
use Rattle.records.specs.declared.Record.TheVariants.{Construct, Create, Remove}

module _ (f : List ℕ) (i w : ℕ) (ew : w ≡ word f i kind_word) where
  pub of_kind : (n : ℕ) (k : Kind) → kind_of n ≡ k → w ≡ n → record_at f i ≡ record_as k (word f i)
  of_kind n k e z = record_as_law f i (ap kind_of (sym ew ∙ z) ∙ e)

  pub construct_record : w ≡ construct_kind → record_at f i
      ≡ Construct (word f i next_word) (word f i goal_x) (word f i term_functor) (word f i term_arguments) (word f i (term_arguments + 1)) (word f i (term_arguments + 2)) (word f i (term_arguments + 3))
  unfolding kind_of kinds nth
  construct_record z = of_kind construct_kind (k_goal k_construct) refl z

  pub create_record : w ≡ create_kind → record_at f i ≡ Create (word f i next_word) (word f i lifetime_region)
  unfolding kind_of kinds nth
  create_record z = of_kind create_kind (k_goal k_create) refl z

  pub remove_record : w ≡ remove_kind → record_at f i ≡ Remove (word f i next_word) (word f i lifetime_region)
  unfolding kind_of kinds nth
  remove_record z = of_kind remove_kind (k_goal k_remove) refl z
