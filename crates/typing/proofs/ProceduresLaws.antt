-- The procedures one by one, and number 3 of the whole file.
use Prim.Native.Nat.{ℕ, ◌≤◌, ◌<◌}
use native.Mathlib.Omega.{arith}
use mathlib.Core.Path.{◌≡◌, refl, ap, sym, ◌∙◌}
use mathlib.Core.Bool.{Bool, true, false}
use mathlib.Core.List.{List, ◌∷◌}
use lib.ListN.{length}
use borrow.Author.Tests.{le-leb, lt-leb}
use Rattle.sets.specs.Tests.{◌&◌}
use Rattle.language.specs.Format.{next_word, header_procedures, procedure_goals, max_procedures}
use Rattle.language.specs.Lists.{all, among}
use Rattle.language.specs.File.{procedures, word}
use Rattle.language.specs.Program.{Signature}
use Rattle.language.specs.Answers.{program}
use Rattle.language.specs.Typing.{types_ok, goals_ok, procedure_ok, typing_ok}
use Rattle.chains.specs.Formed.{Formed, Stands, program_procedures, goals_at, procedures_at}
use Rattle.chains.specs.Is.{procedure_is}
use Rattle.chains.specs.Declared.{procedure_at_law}
use Rattle.chains.specs.Elements.{procedure_count}
use Rattle.chains.specs.Records.{chain_records}
use Rattle.laws.specs.Tests.{and_assoc, and_stop, and_on, refuse, pass}
use Rattle.laws.specs.Lists.{all_no, all_yes}
use Rattle.declarations.specs.Own.{signature_from, signature_at, few_declared}
use Rattle.declarations.specs.Signatures.{each_declared, signature_parts}
use Rattle.typing.specs.Procedures.{procedure_at_record, procedures_ok}

-- ---- one procedure
module _ (f : List ℕ) (i : ℕ) {q : Bool} (e : q ≡ few_declared (signature_at f i)) where
  procedure_as : (few_declared (signature_at f i) & each_declared (program f).types (signature_at f i) & goals_ok (program f) (signature_at f i) (goals_at f (word f i procedure_goals)))
      ≡ procedure_ok (program f) (procedure_at_record f i)
  unfolding procedure_ok procedure_at_record
  procedure_as = sym (and_assoc _ _ _) ∙ ap (λ b. b & goals_ok (program f) (signature_at f i) (goals_at f (word f i procedure_goals))) (signature_parts (program f).types (signature_at f i))

  pub many_declared : q ≡ false → false ≡ procedure_ok (program f) (procedure_at_record f i)
  many_declared p = refuse _ e p ∙ procedure_as

  module _ (p : q ≡ true) {S : Signature} (es : S ≡ signature_at f i) {r : Bool} (er : r ≡ each_declared (program f).types S) where
    pub wrong_signature : r ≡ false → false ≡ procedure_ok (program f) (procedure_at_record f i)
    wrong_signature n = pass e p (refuse _ (rw es at er) n) ∙ procedure_as

    pub procedure_all : r ≡ true → {g : ℕ} {b : Bool} → g ≡ word f i procedure_goals → b ≡ goals_ok (program f) S (goals_at f g) → b ≡ procedure_ok (program f) (procedure_at_record f i)
    procedure_all n eg h = pass e p (pass (rw es at er) n (rw (sym es, sym eg) h)) ∙ procedure_as

-- ---- along the procedures
module _ (f : List ℕ) (i : ℕ) (F : Formed f) (s : Stands f procedures i) (z : i ≡ 0 → ⊥) {q : Bool} (e : q ≡ procedure_ok (program f) (procedure_at_record f i)) where
  step : procedures_at f i ≡ procedure_at_record f i ∷ procedures_at f (word f i next_word)
  unfolding procedure_at_record signature_at signature_from
  step = (procedure_at_law F refl (procedure_is s z)).view

  pub procedures_no : q ≡ false → false ≡ all (procedure_ok (program f)) (procedures_at f i)
  procedures_no p = all_no _ step e p

  pub procedures_yes : {w : ℕ} → q ≡ true → w ≡ word f i next_word → all (procedure_ok (program f)) (procedures_at f w) ≡ all (procedure_ok (program f)) (procedures_at f i)
  procedures_yes p ew = rw ew (all_yes _ step e p)

-- ---- all procedures
module _ (f : List ℕ) (F : Formed f) {i n : ℕ} (ei : i ≡ word f 0 header_procedures) (en : n ≡ length (chain_records f i)) where
  pub no_procedure_law : n ≡ 0 → false ≡ procedures_ok (program f)
  unfolding procedures_ok among
  no_procedure_law h = and_stop _ (sym (and_stop _ (lt-leb 1 (length (program f).procedures) (omega (arith, procedure_count F ei en)))))

  module _ (z : n ≡ 0 → ⊥) where
    pub many_procedures : max_procedures < n → false ≡ procedures_ok (program f)
    unfolding procedures_ok among
    many_procedures h = and_stop _ (sym (and_on (le-leb 1 (length (program f).procedures) (omega (arith, procedure_count F ei en))) (sym (lt-leb (length (program f).procedures) max_procedures (omega (arith, procedure_count F ei en))))))

    pub procedures_all : n ≤ max_procedures → {q : Bool} → q ≡ all (procedure_ok (program f)) (procedures_at f i) → q ≡ procedures_ok (program f)
    unfolding procedures_ok among
    procedures_all h eq =
        and_on (sym (and_on (le-leb 1 (length (program f).procedures) (omega (arith, procedure_count F ei en))) (sym (le-leb (length (program f).procedures) max_procedures (omega (arith, procedure_count F ei en))))))
        (eq ∙ ap (all (procedure_ok (program f))) (sym (program_procedures F ∙ ap (procedures_at f) (sym ei))))

-- ---- the whole
module _ (f : List ℕ) {q : Bool} (e : q ≡ types_ok (program f).types) where
  pub wrong_types : q ≡ false → false ≡ typing_ok (program f)
  unfolding typing_ok
  wrong_types p = refuse _ e p

  pub typing_all : q ≡ true → {b : Bool} → b ≡ procedures_ok (program f) → b ≡ typing_ok (program f)
  unfolding typing_ok procedures_ok
  typing_all p h = pass e p h
