-- What the definitions look up by a number, in words of the record that has this place in its chain.
use Rattle.std.specs.Prelude.{ℕ, ◌≡◌, List}
use Rattle.std.proofs.Math.Path.{refl}
use Rattle.language.specs.Lists.{nth, nth1}
use Rattle.language.specs.File.{types, functors, procedures, variables, regions}
use Rattle.language.specs.Program.{Functor, Signature, Program, variable_at, region_at, procedure_at, functors_of, functor_at}
use Rattle.chains.specs.Formed.{Formed, Stands, types_at, functors_at, procedures_at, variables_at, regions_at, functors_none, variables_none, regions_none, edges_none, goals_none}
use Rattle.chains.specs.Fields.{field_of}
use Rattle.chains.specs.Records.{chain_records}
use Rattle.chains.specs.Elements.{functors_of_type, functor_from, variable_from, region_from, procedure_from, types_map, functors_map, variables_map, regions_map, procedures_map}
use Rattle.chains.specs.Reached.{nth_map, nth1_map}

module _ {f : List ℕ} (F : Formed f) {i : ℕ} where
  pub variable_of : (S : Signature) → Stands f variables i → S.variables ≡ variables_at f i → (x : ℕ) {j : ℕ} → j ≡ nth1 0 (chain_records f i) x
      → variable_at S x ≡ variable_from f j
  unfolding variable_at field_of
  variable_of S s e x q = rw (e, variables_map F i s, q) (nth1_map (variable_from f) _ refl (chain_records f i) x)

  pub region_of_law : (S : Signature) → Stands f regions i → S.regions ≡ regions_at f i → (r : ℕ) {j : ℕ} → j ≡ nth1 0 (chain_records f i) r
      → region_at S r ≡ region_from f j
  unfolding region_at field_of
  region_of_law S s e r q = rw (e, regions_map F i s, q) (nth1_map (region_from f) _ (rw (edges_none f {i = 0} refl)) (chain_records f i) r)

  pub functors_of_law : {T : List (List Functor)} → Stands f types i → T ≡ types_at f i → (t : ℕ) {j : ℕ} → j ≡ nth1 0 (chain_records f i) t
      → functors_of T t ≡ functors_of_type f j
  unfolding functors_of field_of
  functors_of_law s e t q = rw (e, types_map F i s, q) (nth1_map (functors_of_type f) _ (functors_none f refl) (chain_records f i) t)

  pub functor_of : {fs : List Functor} → Stands f functors i → fs ≡ functors_at f i → (k : ℕ) {j : ℕ} → j ≡ nth 0 (chain_records f i) k
      → functor_at fs k ≡ functor_from f j
  unfolding functor_at field_of
  functor_of s e k q = rw (e, functors_map F i s, q) (nth_map (functor_from f) _ refl (chain_records f i) k)

  pub procedure_of_law : (P : Program) → Stands f procedures i → P.procedures ≡ procedures_at f i → (p : ℕ) {j : ℕ} → j ≡ nth 0 (chain_records f i) p
      → procedure_at P p ≡ procedure_from f j
  unfolding procedure_at field_of
  procedure_of_law P s e p q =
      rw (e, procedures_map F i s, q)
      (nth_map (procedure_from f) _ (rw (variables_none f {i = 0} refl, regions_none f {i = 0} refl, goals_none f {i = 0} refl)) (chain_records f i) p)
