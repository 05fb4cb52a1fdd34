-- What fills the two tables: the functors type by type, then all that the file declares; what a procedure declares.
use Prim.Native.Nat.{ℕ, zero, suc, ◌+◌, ◌*◌, ◌≤◌, ◌<◌}
use native.Mathlib.Omega.{arith}
use native.Mathlib.Decide.{dec_lt, ℕ_discrete}
use mathlib.Core.Path.{◌≡◌, refl, ap, sym, ◌∙◌}
use mathlib.Core.Bool.{true}
use borrow.Author.Tests.{leb-true}
use Rattle.sets.specs.Tests.{and_true}
use mathlib.Core.List.{List}
use mathlib.Core.Logic.{inl, inr}
use lib.ListN.{length, get_or, set, replicate, length-set}
use lib.Seq.{get_or-set_same, get_or-set_other}
use Rattle.laws.specs.Lists.{nth_past}
use Rattle.language.specs.Format.{next_word, header_types, header_procedures, type_functors, procedure_variables, procedure_regions, max_records, max_functors, max_types, max_procedures, max_variables, max_regions, places}
use Rattle.language.specs.Lists.{nth, nth1}
use Rattle.language.specs.File.{procedures, variables, regions, word, record_count}
use Rattle.language.specs.Typing.{types_ok}
use Rattle.language.specs.Answers.{program}
use Rattle.chains.specs.Fields.{field_of, field_none, field_some}
use Rattle.chains.specs.Formed.{Formed, Stands, counted, procedures_stand, program_procedures, variables_at, regions_at}
use Rattle.chains.specs.Records.{chain_records, records_none, records_step}
use Rattle.chains.specs.Elements.{procedures_count, variables_count, regions_count}
use Rattle.chains.specs.Is.{procedure_is}
use Rattle.chains.specs.Declared.{procedure_at_law}
use Rattle.declarations.specs.DeclaredPlaces.{procedure_places, functor_places, file_places, place_in, functor_in, region_places, own_places, variable_in, region_in}
use Rattle.declarations.proofs.LookupLaws.{place_past, place_there, place_same, functor_past, functor_there, functor_same}
use Rattle.declarations.specs.Listing.{Lists}
use Rattle.declarations.proofs.ListingLaws.{lists_entry, lists_place, ChainLeft, blank_at}
use Rattle.declarations.specs.Parameters.{Linked}
use Rattle.declarations.specs.Regioned.{regioned_start}
use Rattle.declarations.proofs.DeclaresLaws.{no_start, few_functors}
use Rattle.declarations.specs.Declares.{type_start, start_stands, functors_length, first_record, Declares}
use Rattle.declarations.specs.Functors.{stands_same}
use Rattle.declarations.specs.Own.{OwnOf, signature_from, signature_at, declared, few_declared}
use Rattle.declarations.proofs.TypeLaws.{few_types, type_count}
use Rattle.declarations.specs.Filling.{Functors}

-- where a type starts: no type has the number 0, and none a number past their count
start_none : (f : List ℕ) → type_start f 0 ≡ 0
unfolding type_start nth1
start_none f = sym (field_none f type_functors refl)

start_past : (f : List ℕ) (n : ℕ) → length (chain_records f (word f 0 header_types)) ≤ n → type_start f (suc n) ≡ 0
unfolding type_start nth1
start_past f n h = sym (field_none f type_functors (nth_past 0 (chain_records f (word f 0 header_types)) n h))

start_here : (f : List ℕ) (n : ℕ) {i start : ℕ} → nth 0 (chain_records f (word f 0 header_types)) n ≡ i → (i ≡ 0 → ⊥) → start ≡ word f i type_functors → start ≡ type_start f (suc n)
unfolding type_start nth1
start_here f n {i} ei z es = es ∙ field_some f i type_functors z ∙ ap (λ j. field_of f j type_functors) (sym ei)

-- at most 64 types, so another one has room
module _ {f : List ℕ} (F : Formed f) (ok : types_ok (program f).types ≡ true) where
  types_few : length (chain_records f (word f 0 header_types)) ≤ max_types
  types_few = omega (arith, type_count f (word f 0 header_types) F refl refl, few_types (program f).types ok)

  pub type_room : {n i : ℕ} → ChainLeft f (word f 0 header_types) n i → (i ≡ 0 → ⊥) → i < record_count f → n < max_types
  type_room {i = i} L z b = omega (arith, types_few, L.count, ap length (records_step {w = word f i next_word} F z b refl))

  -- and each has at most 32 functors
  pub functors_few : (n : ℕ) {i start : ℕ} → nth 0 (chain_records f (word f 0 header_types)) n ≡ i → (i ≡ 0 → ⊥) → start ≡ word f i type_functors → length (chain_records f start) ≤ max_functors
  functors_few n {start = start} ei z es = omega (arith, ap (λ j. length (chain_records f j)) (start_here f n ei z es), functors_length F (suc n), few_functors (program f).types ok (suc n))

-- ---- the functors of the first n types
pub record FunctorsSo (f t u : List ℕ) (n : ℕ) : Type 0 where
  pub kept : length u ≡ length t
  pub right : (ty m : ℕ) → ty ≤ n → m < max_functors → get_or u (functor_places + max_functors * ty + m) 0 ≡ nth 0 (chain_records f (type_start f ty)) m
  pub blank : (k : ℕ) → functor_places + max_functors * suc n ≤ k → get_or u k 0 ≡ 0
  pub starts : (ty : ℕ) → ty ≤ n → get_or u (type_start f ty) 0 ≡ regioned_start f (type_start f ty)
  pub other : (k : ℕ) → max_records ≤ k → k < functor_places → get_or u k 0 ≡ get_or t k 0

-- no type has the number 0
pub functors_zero : {f t u : List ℕ} → Functors f t u → get_or u 0 0 ≡ 0
functors_zero {f} {u = u} S = ap (λ k. get_or u k 0) (sym (start_none f)) ∙ S.starts 0 ∙ no_start f (start_none f)

no_records : (f : List ℕ) {i : ℕ} (m : ℕ) → i ≡ 0 → nth 0 (chain_records f i) m ≡ 0
unfolding nth
no_records f m z = ap (λ xs. nth 0 xs m) (records_none f z)

pub functors_none : (f : List ℕ) {t : List ℕ} → get_or t 0 0 ≡ 0 → ((k : ℕ) → functor_places ≤ k → get_or t k 0 ≡ 0) → FunctorsSo f t t 0
functors_none f {t} z b = record {
  kept = refl;
  right = λ ty m h l. let z : ty ≡ 0 = omega arith in b (functor_places + max_functors * ty + m) (omega arith) ∙ sym (no_records f m (ap (type_start f) z ∙ start_none f));
  blank = λ k h. b k (omega arith);
  starts = λ ty h. let e : ty ≡ 0 = omega arith in let q = ap (type_start f) e ∙ start_none f in ap (λ k. get_or t k 0) q ∙ z ∙ sym (no_start f q);
  other = λ k h l. refl;
}

module _ {f t u : List ℕ} {n : ℕ} (S : FunctorsSo f t u n) where
  pub functors_next : {i start at n' v : ℕ} {u' : List ℕ} → Formed f → nth 0 (chain_records f (word f 0 header_types)) n ≡ i → (i ≡ 0 → ⊥)
      → start ≡ word f i type_functors → at ≡ functor_places + max_functors * n' → n' ≡ suc n → length (chain_records f start) ≤ max_functors → file_places ≤ length t
      → Lists f start at u u' → v ≡ regioned_start f start → FunctorsSo f t (set u' start v) n'
  functors_next {i} {start} {at} {n'} {v} {u'} F ei z es ea en few long L ev = record {
    kept = simp length-set (L.kept ∙ S.kept);
    right = λ ty m h l. untouched (functor_places + max_functors * ty + m) (λ q. omega (arith, low)) ∙ there ty m h l;
    blank = λ k h. untouched k (λ q. omega (arith, low)) ∙ L.other k (inr (omega arith)) ∙ S.blank k (omega arith);
    starts = start_there;
    other = λ k h l. untouched k (λ q. omega (arith, low)) ∙ L.other k (inl (omega arith)) ∙ S.other k h l;
  }
    where
      here : start ≡ type_start f (suc n)
      here = start_here f n ei z es

      start_low : (ty : ℕ) → type_start f ty < max_records
      start_low ty = omega (arith, (start_stands F ty).below, (counted F).most)

      low : start < max_records
      low = omega (arith, here, start_low (suc n))

      untouched : (k : ℕ) → (k ≡ start → ⊥) → get_or (set u' start v) k 0 ≡ get_or u' k 0
      untouched k ne = get_or-set_other u' start k v 0 ne

      start_there : (ty : ℕ) → ty ≤ n' → get_or (set u' start v) (type_start f ty) 0 ≡ regioned_start f (type_start f ty)
      start_there ty h =
          elim (ℕ_discrete (type_start f ty) start) [
            | yes q ↦ rw q (get_or-set_same u' start v 0 (omega (arith, low, L.kept, S.kept)) ∙ ev)
            | no q ↦ untouched (type_start f ty) q ∙ L.other (type_start f ty) (inl (omega (arith, start_low ty))) ∙ S.starts ty (earlier q)
          ]
        where
          earlier : (type_start f ty ≡ start → ⊥) → ty ≤ n
          earlier q = elim (dec_lt n ty) [ yes d ↦ let e : ty ≡ suc n = omega arith in absurd (q (ap (type_start f) e ∙ sym here)) | no d ↦ omega arith ]

      there : (ty m : ℕ) → ty ≤ n' → m < max_functors → get_or u' (functor_places + max_functors * ty + m) 0 ≡ nth 0 (chain_records f (type_start f ty)) m
      there ty m h l =
          elim (dec_lt n ty) [
            | yes d ↦ let q : ty ≡ suc n = omega arith in let p : functor_places + max_functors * suc n ≡ at = omega arith in rw (q, p, sym (start_here f n ei z es)) (lists_entry L max_functors (λ k a b. S.blank k (omega arith)) m l)
            | no d ↦ L.other (functor_places + max_functors * ty + m) (inl (omega arith)) ∙ S.right ty m (omega arith) l
          ]

  module _ (F : Formed f) (ok : types_ok (program f).types ≡ true) (e : n ≡ length (chain_records f (word f 0 header_types))) where
    there : (ty m : ℕ) → ty ≤ n → functor_in u ty m ≡ nth 0 (chain_records f (type_start f ty)) m
    there ty m h = sym (functor_there u ty m (omega (arith, types_few F ok)) (sym (elim (dec_lt m max_functors) [
      | yes l ↦ sym (place_there u (functor_places + max_functors * ty) max_functors m l) ∙ S.right ty m h l
      | no l ↦ sym (place_past u (functor_places + max_functors * ty) max_functors m (omega arith)) ∙ sym (nth_past 0 (chain_records f (type_start f ty)) m (omega (arith, functors_length F ty, few_functors (program f).types ok ty)))
    ])))

    past : (ty m : ℕ) → n < ty → functor_in u ty m ≡ 0
    past ty m h =
        elim (dec_lt ty places) [
          | yes l ↦ sym (functor_there u ty m l (elim (dec_lt m max_functors) [
            | yes d ↦ sym (S.blank (functor_places + max_functors * ty + m) (omega arith)) ∙ place_there u (functor_places + max_functors * ty) max_functors m d
            | no d ↦ place_past u (functor_places + max_functors * ty) max_functors m (omega arith)
          ]))
          | no l ↦ sym (functor_past u ty m (omega arith))
        ]

    no_type : (ty : ℕ) → n < ty → type_start f ty ≡ 0
    no_type zero h = absurd (omega arith)
    no_type (suc k) h = start_past f k (omega arith)

    pub functors_all : Functors f t u
    functors_all = record { kept = S.kept; right = each; starts = start_each; other = S.other }
      where
        start_each : (ty : ℕ) → get_or u (type_start f ty) 0 ≡ regioned_start f (type_start f ty)
        start_each ty =
            elim (dec_lt n ty) [
              | yes h ↦ let e : type_start f ty ≡ type_start f 0 = no_type ty h ∙ sym (start_none f) in rw e (S.starts 0 (omega arith))
              | no h ↦ S.starts ty (omega arith)
            ]

        each : (ty m : ℕ) → functor_in u ty m ≡ nth 0 (chain_records f (type_start f ty)) m
        each zero m = there 0 m (omega arith)
        each (suc k) m = elim (dec_lt n (suc k)) [ yes h ↦ past (suc k) m h ∙ sym (no_records f m (no_type (suc k) h)) | no h ↦ there (suc k) m (omega arith) ]

-- ---- all that the file declares
module _ {f : List ℕ} (F : Formed f) (h : length (program f).procedures ≤ max_procedures) {first : ℕ} (e : first ≡ word f 0 header_procedures) where
  pub procedures_few : length (chain_records f first) ≤ max_procedures
  procedures_few = omega (arith, ap (λ i. length (chain_records f i)) e, ap length (program_procedures F), procedures_count F _ (procedures_stand F))

  pub file_listed : types_ok (program f).types ≡ true → {t0 t1 t2 t3 : List ℕ} → t0 ≡ replicate file_places 0 → Lists f first procedure_places t0 t1 → Functors f t1 t2 → Linked f t2 t3 1 → Declares f t3
  file_listed ok {t0} {t1} {t2} {t3} b L S K = record {
    formed = F;
    types_ok_law = ok;
    functors = listed;
    starts = λ ty.
        ap (λ k. get_or t3 k 0) (listed ty 0 ∙ first_record F (start_stands F ty)) ∙ K.other (type_start f ty) (inl (start_stands F ty)) ∙ S.starts ty;
    procedures = λ q.
        place_same t2 procedure_places max_procedures q t3 (λ k a b. K.other k (inr a)) ∙ place_same t1 procedure_places max_procedures q t2 (λ k a b. S.other k a b)
        ∙ lists_place L max_procedures (λ k x y. blank_at file_places b k) procedures_few q ∙ ap (λ i. nth 0 (chain_records f i) q) e;
    parameters = λ v s. K.right v (elim (dec_lt 0 v) [ yes l ↦ inr (omega arith) | no l ↦ inl (omega arith) ]) s;
  }
    where
      listed : (ty m : ℕ) → functor_in t3 ty m ≡ nth 0 (chain_records f (type_start f ty)) m
      listed ty m = functor_same t2 ty m t3 (λ k l. K.other k (inr (omega arith))) ∙ S.right ty m

-- ---- what a procedure declares: its variables from record v on, its regions from record r on
numbered : (f : List ℕ) (i : ℕ) (u : List ℕ) (at most : ℕ) → get_or u at 0 ≡ 0 → ((n : ℕ) → n < most → get_or u (at + 1 + n) 0 ≡ nth 0 (chain_records f i) n)
    → length (chain_records f i) ≤ most → (x : ℕ) → place_in u at (suc most) x ≡ nth1 0 (chain_records f i) x
unfolding nth1
numbered f i u at most z h l zero = sym (place_there u at (suc most) 0 (omega arith)) ∙ ap (λ k. get_or u k 0) (omega arith) ∙ z
numbered f i u at most z h l (suc n) =
    elim (dec_lt n most) [
      | yes d ↦ sym (place_there u at (suc most) (suc n) (omega arith)) ∙ ap (λ k. get_or u k 0) (omega arith) ∙ h n d
      | no d ↦ sym (place_past u at (suc most) (suc n) (omega arith)) ∙ sym (nth_past 0 (chain_records f i) n (omega arith))
    ]

module _ {f : List ℕ} (F : Formed f) {i : ℕ} (s : Stands f procedures i) (z : i ≡ 0 → ⊥) (h : few_declared (signature_at f i) ≡ true) where
  variables_at_law : Stands f variables (word f i procedure_variables)
  variables_at_law = (procedure_at_law F refl (procedure_is s z)).to_variables.stands

  regions_at_law : Stands f regions (word f i procedure_regions)
  regions_at_law = (procedure_at_law F refl (procedure_is s z)).to_regions.stands

  module _ {v : ℕ} (ev : v ≡ word f i procedure_variables) where
    pub variables_few : length (chain_records f v) ≤ max_variables
    unfolding few_declared signature_at signature_from
    variables_few = omega (arith, ap (λ j. length (chain_records f j)) ev, variables_count F _ variables_at_law, leb-true (length (variables_at f (word f i procedure_variables))) max_variables (and_true h).0)

    module _ {r : ℕ} (er : r ≡ word f i procedure_regions) where
      pub regions_few : length (chain_records f r) ≤ max_regions
      unfolding few_declared signature_at signature_from
      regions_few = omega (arith, ap (λ j. length (chain_records f j)) er, regions_count F _ regions_at_law, leb-true (length (regions_at f (word f i procedure_regions))) max_regions (and_true h).1)

      module _ {t0 t1 t2 : List ℕ} (e : t0 ≡ replicate own_places 0) (L : Lists f v 1 t0 t1) (M : Lists f r (region_places + 1) t1 t2) where
        variables_listed : (x : ℕ) → variable_in t2 x ≡ nth1 0 (chain_records f v) x
        variables_listed =
            numbered f v t2 0 max_variables (M.other 0 (inl (omega arith)) ∙ L.other 0 (inl (omega arith)) ∙ blank_at own_places e 0)
            (λ n l. M.other (1 + n) (inl (omega arith)) ∙ lists_entry L max_variables (λ k a b. blank_at own_places e k) n l) variables_few

        -- the places of regions had zeros
        zeros : (k : ℕ) → region_places ≤ k → get_or t1 k 0 ≡ 0
        zeros k l = L.other k (inr (omega (arith, variables_few))) ∙ blank_at own_places e k

        regions_listed : (x : ℕ) → region_in t2 x ≡ nth1 0 (chain_records f r) x
        regions_listed =
            numbered f r t2 region_places max_regions (M.other region_places (inl (omega arith)) ∙ zeros region_places (omega arith))
            (lists_entry M max_regions (λ k a b. zeros k (omega arith))) regions_few

        first_variable : variable_in t2 1 ≡ v
        unfolding nth1
        first_variable = variables_listed 1 ∙ first_record F (stands_same ev variables_at_law)

        first_region : region_in t2 1 ≡ r
        unfolding nth1
        first_region = regions_listed 1 ∙ first_record F (stands_same er regions_at_law)

        pub own_listed : OwnOf f t2 i
        unfolding declared signature_at
        own_listed = (
          record {
            variables_stand = stands_same (first_variable ∙ ev) variables_at_law;
            regions_stand = stands_same (first_region ∙ er) regions_at_law;
            variables = λ x. variables_listed x ∙ ap (λ j. nth1 0 (chain_records f j) x) (sym first_variable);
            regions = λ x. regions_listed x ∙ ap (λ j. nth1 0 (chain_records f j) x) (sym first_region);
          },
          ap (λ j. signature_from f j (region_in t2 1)) (first_variable ∙ ev) ∙ ap (signature_from f (word f i procedure_variables)) (first_region ∙ er),
        )
