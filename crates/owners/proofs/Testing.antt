-- The invariant of `is_unannotated`'s loop: what is left of the test, from record i on, is the whole test.
use Prim.Native.Nat.{ℕ, ◌+◌, ◌-◌, ◌≤◌, ◌<◌}
use native.Mathlib.Omega.{arith}
use mathlib.Core.Bool.{true, false}
use mathlib.Core.List.{List}
use mathlib.Core.Path.{◌≡◌, refl, ap, sym, ◌∙◌}
use Rattle.sets.specs.Tests.{◌&◌, ◌or◌}
use Rattle.language.specs.Lists.{choose, all, up_from}
use Rattle.language.specs.Format.{create_kind, remove_kind, kind_word}
use Rattle.language.specs.File.{word, record_count}
use Rattle.language.specs.Annotation.{unannotated}
use Rattle.language.specs.Answers.{program}
use Rattle.records.specs.Lists.{from_here, from_end}
use Rattle.chains.specs.Formed.{Formed, counted}
use Rattle.owners.specs.Plain.{plain_number, plain_number_law, plain_records}

-- ---- the invariant
pub record Left (f : List ℕ) (n i : ℕ) : Type 0 where
  pub count : n ≡ record_count f
  pub some : 0 < i
  pub most : i ≤ n
  pub rest : unannotated (program f) ≡ all (λ j. plain_number (word f j kind_word)) (up_from i (n - i))

pub first : {f : List ℕ} {n : ℕ} → Formed f → n ≡ record_count f → Left f n 1
first F e = record { count = e; some = omega arith; most = omega (arith, (counted F).some); rest = plain_records F ∙ rw e }

module _ {f : List ℕ} {n i : ℕ} (h : Left f n i) where
  here : i < n → unannotated (program f) ≡ (plain_number (word f i kind_word) & all (λ j. plain_number (word f j kind_word)) (up_from (i + 1) (n - (i + 1))))
  unfolding all
  here l = h.rest ∙ ap (all (λ j. plain_number (word f j kind_word))) (from_here n i l)

  stop : i < n → plain_number (word f i kind_word) ≡ false → false ≡ unannotated (program f)
  unfolding ◌&◌
  stop l e = sym (here l ∙ rw e)

  pub stop_create : {w : ℕ} → i < n → w ≡ word f i kind_word → w ≡ create_kind → false ≡ unannotated (program f)
  unfolding plain_number choose ◌or◌
  stop_create l e g = stop l (rw (sym e ∙ g) refl)

  pub stop_remove : {w : ℕ} → i < n → w ≡ word f i kind_word → w ≡ remove_kind → false ≡ unannotated (program f)
  unfolding plain_number choose ◌or◌
  stop_remove l e g = stop l (rw (sym e ∙ g) refl)

  pub next : {w : ℕ} → i < n → w ≡ word f i kind_word → (w ≡ create_kind → ⊥) → (w ≡ remove_kind → ⊥) → Left f n (i + 1)
  unfolding ◌&◌
  next {w} l e a b =
      record {
        count = h.count;
        some = omega arith;
        most = omega arith;
        rest = here l ∙ rw (← e, plain_number_law a b) refl;
      }

  pub last : n ≤ i → true ≡ unannotated (program f)
  unfolding all
  last l = sym (h.rest ∙ ap (all (λ j. plain_number (word f j kind_word))) (from_end n i l))
