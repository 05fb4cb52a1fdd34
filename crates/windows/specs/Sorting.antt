-- The regions of one class among those that a procedure declares, in chain order.
use Rattle.std.specs.Prelude.{ℕ, zero, suc, ◌+◌, ◌≤◌, ◌<◌, Bool, List, [], ◌∷◌, ◌≡◌, refl, eqb, length, map}
use Rattle.std.proofs.Common.{arith, sym, ap, ap₂, ◌∙◌}
use Rattle.sets.specs.Members.{cons_if, members, set_of, filtered, keep}
use Rattle.sets.specs.Rising.{Rising, rising_nil, rising_cons, members_set_of}
use Rattle.language.specs.Lists.{nth, nth1, up_from}
use Rattle.language.specs.Program.{Region, Signature, region_at}
use Rattle.language.specs.Lifetimes.{of_class, declared}
use Rattle.language.specs.File.{regions}
use Rattle.language.specs.Format.{max_regions, region_class}
use Rattle.chains.specs.Fields.{field_of}
use Rattle.chains.specs.Formed.{Formed, Stands, regions_at}
use Rattle.chains.specs.Records.{chain_records}
use Rattle.chains.specs.Elements.{region_from, regions_map}
use Rattle.windows.specs.Numbered.{numbered, numbers_with}
use Rattle.laws.specs.Numbers.{up_from_in}

-- those numbered from n on
unfoldable pub class_from : ℕ → ℕ → List Region → List ℕ
class_from c n [] = []
class_from c n (r ∷ rs) = cons_if (eqb r.class c) n (class_from c (suc n) rs)

unfoldable pub of_class_in : ℕ → List Region → List ℕ
of_class_in c rs = class_from c 1 rs

-- ---- they are the definition's
abbrev none : Region
none = record { type = 0; class = 0; edges = [] }

filtered_from : (p : ℕ → Bool) (c n : ℕ) (rs : List Region) → ((k : ℕ) → p (n + k) ≡ eqb (nth none rs k).class c)
    → filtered p (up_from n (length rs)) ≡ class_from c n rs
unfolding filtered up_from class_from nth
filtered_from p c n [] h = refl
filtered_from p c n (r ∷ rs) h =
    let z : n ≡ n + 0 = omega arith in
    ap₂ (λ (b : Bool) (xs : List ℕ). cons_if b n xs) (ap p z ∙ h 0)
    (filtered_from p c (suc n) rs (λ k. let w : suc n + k ≡ n + suc k = omega arith in ap p w ∙ h (suc k)))

up_rising : (m n k : ℕ) → m < n → Rising m (up_from n k)
unfolding up_from
up_rising m n zero l = rising_nil
up_rising m n (suc k) l = rising_cons l (up_rising n (suc n) k (omega arith))

pub of_class_law : (S : Signature) (c : ℕ) → length S.regions ≤ max_regions → set_of (of_class_in c S.regions) ≡ of_class S c (declared S)
unfolding of_class declared keep of_class_in region_at nth1
of_class_law S c few =
    ap set_of (sym (ap (filtered classed) listed ∙ filtered_from classed c 1 S.regions at))
  where
    classed : ℕ → Bool
    classed r = eqb (region_at S r).class c

    listed : members (set_of (up_from 1 (length S.regions))) ≡ up_from 1 (length S.regions)
    listed =
        members_set_of (up_from 1 (length S.regions)) (up_rising 0 1 (length S.regions) (omega arith))
        (λ n e. let i = up_from_in 1 (length S.regions) n e in omega arith)

    at : (k : ℕ) → classed (1 + k) ≡ eqb (nth none S.regions k).class c
    at k = let z : 1 + k ≡ suc k = omega arith in ap classed z

-- ---- they are the numbers of the records with that class
module _ (f : List ℕ) (c : ℕ) where
  classes_from : (n : ℕ) (js : List ℕ) → class_from c n (map (region_from f) js) ≡ numbered f region_class c n js
  unfolding numbered class_from
  classes_from n [] = refl
  classes_from n (j ∷ js) = ap (cons_if (eqb (field_of f j region_class) c) n) (classes_from (suc n) js)

  pub classes_numbered : {i : ℕ} → Formed f → Stands f regions i → of_class_in c (regions_at f i) ≡ numbers_with f i region_class c
  unfolding of_class_in
  classes_numbered {i} F s = ap (of_class_in c) (regions_map F i s) ∙ classes_from 1 (chain_records f i)
