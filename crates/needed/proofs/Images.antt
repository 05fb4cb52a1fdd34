-- A call's mapping goes along reach: the image of a region that no out variable of the callee reaches is in the reach of an in argument.
use Prim.Native.Nat.{ℕ, zero, suc, ◌≤◌, ◌<◌}
use Rattle.std.specs.Prelude.{Bool, ◌⊎◌, ◌≡◌, refl, eqb, length}
use Rattle.std.proofs.Math.Bool.{true, false}
use mathlib.Core.List.{List, ◌∷◌, []}
use Rattle.std.proofs.Math.Logic.{inl, inr, ⊎_elim}
use Rattle.std.proofs.Common.{sym, arith, eqb-true, eq-eqb}
use Rattle.sets.specs.Tests.{and_true, clash}
use Rattle.sets.specs.Sets.{member}
use Rattle.sets.specs.Members.{set_of, in_list, nil_in, cons_here, cons_later, cons_if_here, cons_if_later}
use Rattle.sets.specs.MemberLaws.{set_of_mk}
use Rattle.language.specs.Lists.{nth, nth1, all, among, choose, put}
use Rattle.language.specs.Program.{Functor, Variable, Signature, variable_at, region_of, region_at, Parameter, parameters_of, parameter_variables, arguments_in, variables_in, in_mode, out_mode}
use Rattle.language.specs.Regions.{targets_in, targets, reach, Mapping, two_ways, images, Pair, pairs, after_mapping, map_each, agreeing, visit, map_region, regions_of, mapping, image_in}
use Rattle.language.specs.Lifetimes.{outputs}
use Rattle.language.specs.Typing.{signature_ok}
use Rattle.region_graph.specs.Typed.{variables_few}
use Rattle.region_graph.specs.Parameters.{in_or_out, modes}
use Rattle.region_graph.specs.Procedure.{declared}
use Rattle.region_graph.specs.Shared.{reach_own, reach_closes, outputs_closed, output_own}

-- ---- a relation that goes along equal edges holds between each region and its image
module _ (R : ℕ → ℕ → Type 0) where
  unfoldable Each : List Pair → Type 0
  Each [] = Unit {0}
  Each (p ∷ ps) = R p.callee p.caller × Each ps

  Has : (ℕ → ℕ) → Type 0
  Has m = (r : ℕ) → 1 ≤ m r → R r (m r)

  unfoldable Good : Mapping → Type 0
  Good two_ways = Unit {0}
  Good (images m) = Has m

  each_pair : (qs vs : List ℕ) → ((q v : ℕ) → in_list q qs ≡ true → in_list v vs ≡ true → R q v) → Each (pairs qs vs)
  unfolding pairs Each
  each_pair [] vs f = tt
  each_pair (q ∷ qs) [] f = tt
  each_pair (q ∷ qs) (v ∷ vs) f =
      (f q v (cons_here q q qs refl) (cons_here v v vs refl), each_pair qs vs (λ p w m n. f p w (cons_later p q qs m) (cons_later w v vs n)))

  chosen : (b : Bool) (r q u v : ℕ) → (b ≡ true → r ≡ q) → R r u → (1 ≤ v → R q v) → 1 ≤ choose b u v → R q (choose b u v)
  unfolding choose
  chosen true r q u v e h k l = rw (sym (e refl)) h
  chosen false r q u v e h k l = k l

  put_has : (m : ℕ → ℕ) (r u : ℕ) → R r u → Has m → Has (put m r u)
  unfolding Has put
  put_has m r u h has q l = chosen (eqb r q) r q u (m q) (eqb-true r q) h (has q) l

  after_good : (M : Mapping) (f : (ℕ → ℕ) → Mapping) → Good M → ((m : ℕ → ℕ) → Has m → Good (f m)) → Good (after_mapping M f)
  unfolding after_mapping Good
  after_good two_ways f g k = tt
  after_good (images m) f g k = k m g

  agreeing_good : (b : Bool) (m : ℕ → ℕ) → Has m → Good (agreeing b m)
  unfolding agreeing Good
  agreeing_good true m h = h
  agreeing_good false m h = tt

  visit_good : (v u : ℕ) (m : ℕ → ℕ) (M : Mapping) → Has m → Good M → Good (visit v u m M)
  unfolding visit
  visit_good zero u m M h g = g
  visit_good (suc v) u m M h g = agreeing_good (eqb (suc v) u) m h

  each_good : (f : ℕ → ℕ → (ℕ → ℕ) → Mapping) → ((r u : ℕ) (m : ℕ → ℕ) → R r u → Has m → Good (f r u m)) → (ps : List Pair) → Each ps
      → (m : ℕ → ℕ) → Has m → Good (map_each f ps m)
  unfolding map_each Each Good
  each_good f k [] e m h = h
  each_good f k (p ∷ ps) e m h = after_good (f p.callee p.caller m) _ (k _ _ m e.0 h) (λ n g. each_good f k ps e.1 n g)

  good_image : (M : Mapping) → Good M → (r : ℕ) → 1 ≤ image_in M r → R r (image_in M r)
  unfolding Good Has image_in
  good_image two_ways g r l = absurd (omega arith)
  good_image (images m) g r l = g r l

  module _ (C Q : Signature) (edge : (r u : ℕ) → R r u → Each (pairs (targets Q r) (targets C u))) where
    region_good : (n r u : ℕ) (m : ℕ → ℕ) → R r u → Has m → Good (map_region C Q n r u m)
    unfolding map_region Good
    region_good zero r u m x h = agreeing_good (eqb (m r) u) m h
    region_good (suc n) zero u m x h = h
    region_good (suc n) (suc r) u m x h =
        visit_good (m (suc r)) u m _ h (each_good _ (region_good n) _ (edge (suc r) u x) _ (put_has m (suc r) u x h))

-- ---- a call from C to Q with arguments ys
targets_some : (S : Signature) (r t : ℕ) → in_list t (targets S r) ≡ true → 1 ≤ r
unfolding targets targets_in region_at nth1
targets_some S zero t m = absurd (nil_in t m)
targets_some S (suc r) t m = omega arith

nth_some : (vs : List Variable) (n : ℕ) → 1 ≤ (nth (record { mode = 0; type = 0; region = 0 }) vs n).region → n < length vs
unfolding nth
nth_some [] n h = absurd (omega arith)
nth_some (v ∷ vs) zero h = omega arith
nth_some (v ∷ vs) (suc n) h = let l = nth_some vs n h in omega arith

-- a variable that has a region is declared
region_some : (S : Signature) (x : ℕ) → 1 ≤ region_of S x → (1 ≤ x) × (x ≤ length S.variables)
unfolding region_of variable_at nth1
region_some S zero h = absurd (omega arith)
region_some S (suc x) h = let l = nth_some S.variables x h in (omega arith, omega arith)

module _ (T : List (List Functor)) (C Q : Signature) (ok_c : signature_ok T C ≡ true) (ok_q : signature_ok T Q ≡ true) (ys : List ℕ) where
  -- the arguments that are read
  abbrev args : List ℕ
  args = arguments_in in_mode (parameters_of Q) ys

  Along : ℕ → ℕ → Type 0
  Along r u = 1 ≤ r → 1 ≤ u → (member (outputs Q) r ≡ true) ⊎ ((y : ℕ) × (member (set_of args) y ≡ true) × (member (reach C y) u ≡ true))

  along_edge : (r u : ℕ) → Along r u → Each Along (pairs (targets Q r) (targets C u))
  unfolding Along
  along_edge r u h =
      each_pair Along (targets Q r) (targets C u)
      (λ q v m n k l. ⊎_elim (λ p. inl (outputs_closed T Q (declared T Q ok_q) r q p m)) (λ p. inr (p.0, p.1, reach_closes T C (declared T C ok_c) p.0 u v p.2 n))
      (h (targets_some Q r q m) (targets_some C u v n)))

  along_in : (x y : ℕ) → in_list y args ≡ true → Along (region_of Q x) (region_of C y)
  unfolding Along
  along_in x y m k l =
      let b = region_some C y l in
      let top = variables_few T C ok_c in
      inr (y, set_of_mk args y m b.0 (omega arith), reach_own T C (declared T C ok_c) y (λ z. omega arith))

  along_out : (x y : ℕ) → in_list x (variables_in out_mode Q) ≡ true → Along (region_of Q x) (region_of C y)
  unfolding Along
  along_out x y m k l = inl (output_own T Q (declared T Q ok_q) x m (λ z. omega arith))

  -- argument to argument: ps are parameters of Q, and zs their arguments
  along_arguments : (ps : List Parameter) (zs : List ℕ) → all (λ a. among 2 a.mode) ps ≡ true
      → ((y : ℕ) → in_list y (arguments_in in_mode ps zs) ≡ true → in_list y args ≡ true)
      → ((x : ℕ) → in_list x (arguments_in out_mode ps (parameter_variables ps)) ≡ true → in_list x (variables_in out_mode Q) ≡ true)
      → Each Along (pairs (regions_of Q (parameter_variables ps)) (regions_of C zs))
  unfolding all arguments_in parameter_variables regions_of pairs Each
  along_arguments [] zs e f g = tt
  along_arguments (a ∷ ps) [] e f g = tt
  along_arguments (a ∷ ps) (z ∷ zs) e f g = (
    ⊎_elim (λ p. along_in a.variable z (f z (cons_if_here _ z z _ (eq-eqb a.mode in_mode p) refl)))
        (λ p. along_out a.variable z (g a.variable (cons_if_here _ a.variable a.variable _ (eq-eqb a.mode out_mode p) refl))) (in_or_out a.mode (and_true e).0),
    along_arguments ps zs (and_true e).1 (λ y m. f y (cons_if_later _ y z _ m)) (λ x m. g x (cons_if_later _ x a.variable _ m)),
  )

  along_mapping : Good Along (mapping C Q ys)
  unfolding mapping variables_in Has
  along_mapping =
      each_good Along _ (region_good Along C Q along_edge (length Q.regions)) _ (along_arguments (parameters_of Q) ys (modes T Q ok_q) (λ y m. m) (λ x m. m)) _ (λ r l. absurd (omega arith))

  pub image_reached : (r : ℕ) → 1 ≤ r → 1 ≤ image_in (mapping C Q ys) r → member (outputs Q) r ≡ false
      → (y : ℕ) × (member (set_of args) y ≡ true) × (member (reach C y) (image_in (mapping C Q ys) r) ≡ true)
  unfolding Along
  image_reached r h l e = ⊎_elim (λ p. absurd (clash p e)) (λ p. p) (good_image Along (mapping C Q ys) along_mapping r l h l)
