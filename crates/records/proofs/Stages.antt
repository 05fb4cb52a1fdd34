-- Number 1 and the stage over plain values: the code's tests, in turn. Assumes nothing.
use Rattle.std.specs.Prelude.{Ok, Err}
use Prim.Native.Nat.{ℕ, ◌*◌, ◌≤◌, ◌<◌}
use native.Mathlib.Omega.{arith}
use mathlib.Core.Path.{◌≡◌, sym, ap, ◌∙◌}
use mathlib.Core.Bool.{true, Bool, false}
use mathlib.Core.List.{List}
use lib.ListN.{length}
use borrow.Author.Tests.{leb-true, eqb-true, le-leb, lt-leb, eq-eqb, ne_eqb}
use Rattle.sets.specs.Tests.{and_true, ◌&◌}
use Rattle.language.specs.File.{word, record_count, header_ok, form_ok}
use Rattle.language.specs.Format.{header_kind, kind_word, max_bytes, max_records, record_bytes, header_count}
use lib.Dec.{eqb}
use Rattle.language.specs.declared.Refusal.TheVariants.{Header, Form}
use Rattle.language.specs.Answers.{lowest}
use Rattle.records.specs.Verdicts.{form_stages, form_verdict}

-- what number 1 says of a file that passes it
pub record Sized (f : List ℕ) : Type 0 where
  pub some : 0 < record_count f
  pub most : record_count f ≤ max_records
  pub size : length f ≡ record_bytes * record_count f
  pub begins : word f 0 kind_word ≡ header_kind

module _ (f : List ℕ) where
  pub header_in : header_ok f ≡ true → Sized f
  unfolding header_ok
  header_in e =
      let a = and_true e in
      let b = and_true a.1 in
      let c = and_true b.1 in
      let low : record_bytes ≤ length f = leb-true _ _ a.0 in
      let high : length f ≤ max_bytes = leb-true _ _ b.0 in
      let size : length f ≡ record_bytes * record_count f = eqb-true _ _ c.0 in
      record { some = omega arith; most = omega arith; size = size; begins = eqb-true _ _ c.1 }

module _ (f : List ℕ) where
  pub header_short : length f < record_bytes → false ≡ header_ok f
  unfolding header_ok ◌&◌
  header_short h = rw (lt-leb record_bytes (length f) h)

  pub header_long : record_bytes ≤ length f → max_bytes < length f → false ≡ header_ok f
  unfolding header_ok ◌&◌
  header_long l h = rw (le-leb record_bytes (length f) l, lt-leb (length f) max_bytes h)

  pub header_count_law : record_bytes ≤ length f → length f ≤ max_bytes → {w : ℕ} → w ≡ word f 0 header_count → (length f ≡ record_bytes * w → ⊥) → false ≡ header_ok f
  unfolding header_ok ◌&◌ record_count
  header_count_law l h e n = rw (le-leb record_bytes (length f) l, le-leb (length f) max_bytes h, ← e, ne_eqb (length f) _ n)

  pub header_kind_law : record_bytes ≤ length f → length f ≤ max_bytes → {w v : ℕ} → w ≡ word f 0 header_count → length f ≡ record_bytes * w → v ≡ word f 0 kind_word
      → eqb v 1 ≡ header_ok f
  unfolding header_ok ◌&◌ record_count
  header_kind_law l h e s g = rw (le-leb record_bytes (length f) l, le-leb (length f) max_bytes h, ← e, eq-eqb (length f) _ s, g)

  -- the record count as the code reads it
  pub count_most : {b : Bool} {n : ℕ} → b ≡ header_ok f → b ≡ true → n ≡ word f 0 header_count → (n ≤ max_records) × (record_bytes * n ≤ length f)
  unfolding record_count
  count_most e t c = let s = header_in f (sym e ∙ t) in (omega arith, omega arith)

  pub form_header : {b : Bool} → b ≡ header_ok f → b ≡ false → Err Header ≡ form_verdict f
  unfolding form_verdict form_stages lowest
  form_header e h = rw (← e, h)

  module _ {a b : Bool} {n : ℕ} (e : a ≡ header_ok f) (c : n ≡ word f 0 header_count) (g : b ≡ form_ok (word f) n) where
    formed : b ≡ form_ok (word f) (record_count f)
    unfolding record_count
    formed = g ∙ ap (form_ok (word f)) c

    pub form_form : a ≡ true → b ≡ false → Err Form ≡ form_verdict f
    unfolding form_verdict form_stages lowest
    form_form h k = rw (← e, h, ← formed, k)

    pub form_accepted : a ≡ true → b ≡ true → Ok tt ≡ form_verdict f
    unfolding form_verdict form_stages lowest
    form_accepted h k = rw (← e, h, ← formed, k)
