-- Laws of `specs/CallMap` that only proofs cite.
use Prim.Native.Nat.{ℕ, zero, suc}
use native.Mathlib.Omega.{arith}
use mathlib.Core.Bool.{Bool, true}
use mathlib.Core.List.{List, ◌∷◌, ◌++◌, append_assoc, []}
use mathlib.Core.Logic.{◌≢◌}
use mathlib.Core.Path.{◌≡◌, refl, sym, ap, ap₂, ◌∙◌, fun_ext}
use lib.ListN.{length, get_or, length-append}
use Rattle.language.specs.File.{variables, arguments, word}
use Rattle.language.specs.Format.{next_word, argument_variable, variable_mode, variable_region}
use Rattle.language.specs.Lists.{nth, nth1}
use Rattle.language.specs.Program.{Variable, Signature, Parameter, region_of, variable_at, parameter_in, parameters_from, parameters_of, parameter_variables}
use Rattle.language.specs.Typing.{have_types, parameter_types}
use Rattle.language.specs.Regions.{mapping, regions_of}
use Rattle.region_graph.specs.Typed.{regions_few}
use Rattle.region_graph.specs.Alike.{Paired, Alike, arguments_alike}
use Rattle.region_graph.specs.Unmapped.{unmapped_all}
use Rattle.chains.specs.Formed.{Formed, Stands, variables_at, arguments_at}
use Rattle.chains.specs.Shapes
use Rattle.chains.specs.Shapes.{variable_here}
use Rattle.tables.specs.Window.{home_in, first_place}
use Rattle.regions.specs.Pairs.{images_in, Sides, ListsMapped}
use Rattle.regions.proofs.PairsLaws.{RestMapped}
use Rattle.regions.specs.CallMap.{CallMapped, homes_regions, homes_in}

-- ---- the regions of in and out variables
unfoldable pub parameter_region : ℕ → ℕ → List ℕ → List ℕ
parameter_region zero r rs = rs
parameter_region (suc m) r rs = r ∷ rs

unfoldable pub regions_of_parameters : List Variable → List ℕ
regions_of_parameters [] = []
regions_of_parameters (v ∷ vs) = parameter_region v.mode v.region (regions_of_parameters vs)

pub parameters_none : {vs : List Variable} → vs ≡ [] → regions_of_parameters vs ≡ []
unfolding regions_of_parameters
parameters_none e = ap regions_of_parameters e

pub parameters_local : {us vs : List Variable} {m t r : ℕ} → us ≡ record { mode = m; type = t; region = r } ∷ vs → m ≡ 0
    → regions_of_parameters us ≡ regions_of_parameters vs
unfolding regions_of_parameters parameter_region
parameters_local {vs = vs} {r = r} e z = ap regions_of_parameters e ∙ ap (λ (m : ℕ). parameter_region m r (regions_of_parameters vs)) z

parameter_some : (m r : ℕ) (rs : List ℕ) → m ≢ 0 → parameter_region m r rs ≡ r ∷ rs
unfolding parameter_region
parameter_some zero r rs n = absurd (n refl)
parameter_some (suc m) r rs n = refl

pub parameters_next : {us vs : List Variable} {m t r : ℕ} → us ≡ record { mode = m; type = t; region = r } ∷ vs → m ≢ 0
    → regions_of_parameters us ≡ r ∷ regions_of_parameters vs
unfolding regions_of_parameters
parameters_next {m = m} {r = r} e n = ap regions_of_parameters e ∙ parameter_some m r _ n

-- they are the definition's
nth_front : {A : Type 0} (d : A) (xs ys : List A) (y : A) → nth d (xs ++ y ∷ ys) (length xs) ≡ y
unfolding nth
nth_front d [] ys y = refl
nth_front d (x ∷ xs) ys y = nth_front d xs ys y

region_front : (Q : Signature) (front vs : List Variable) (v : Variable) → Q.variables ≡ front ++ v ∷ vs → region_of Q (suc (length front)) ≡ v.region
unfolding region_of variable_at nth1
region_front Q front vs v e = ap (λ (w : List Variable). (nth (record { mode = 0; type = 0; region = 0 }) w (length front)).region) e ∙ ap (λ (w : Variable). w.region) (nth_front _ front vs v)

one_parameter : (Q : Signature) (m x r : ℕ) (ps : List Parameter) (rs : List ℕ) → region_of Q x ≡ r → regions_of Q (parameter_variables ps) ≡ rs
    → regions_of Q (parameter_variables (parameter_in m x ps)) ≡ parameter_region m r rs
unfolding parameter_in parameter_variables regions_of parameter_region
one_parameter Q zero x r ps rs e g = g
one_parameter Q (suc m) x r ps rs e g = ap₂ ◌∷◌ e g

from_front : (Q : Signature) (front vs : List Variable) → Q.variables ≡ front ++ vs
    → regions_of Q (parameter_variables (parameters_from (suc (length front)) vs)) ≡ regions_of_parameters vs
unfolding regions_of_parameters parameters_from parameter_variables regions_of
from_front Q front [] e = refl
from_front Q front (v ∷ vs) e =
    let k : suc (length (front ++ v ∷ [])) ≡ suc (suc (length front)) = omega (arith, length-append front (v ∷ [])) in
    one_parameter Q v.mode (suc (length front)) v.region _ _ (region_front Q front vs v e)
    (ap (λ (n : ℕ). regions_of Q (parameter_variables (parameters_from n vs))) (sym k)
    ∙ from_front Q (front ++ v ∷ []) vs (e ∙ sym (append_assoc front (v ∷ []) vs)))

pub parameter_regions_law : (Q : Signature) → regions_of Q (parameter_variables (parameters_of Q)) ≡ regions_of_parameters Q.variables
unfolding parameters_of
parameter_regions_law Q = from_front Q [] Q.variables refl

-- ---- the regions of arguments, by the caller's window
pub homes_none : (t : List ℕ) {ys : List ℕ} → ys ≡ [] → homes_in t ys ≡ []
unfolding homes_in
homes_none t e = ap (homes_in t) e

homes_next : (t : List ℕ) {ys zs : List ℕ} {y u : ℕ} → ys ≡ y ∷ zs → u ≡ home_in t y → homes_in t ys ≡ u ∷ homes_in t zs
unfolding homes_in
homes_next t {zs = zs} e h = ap (homes_in t) e ∙ ap (λ (x : ℕ). x ∷ homes_in t zs) (sym h)

-- a variable of the callee's own takes no argument
pub rest_skips : (f own theirs : List ℕ) {rs₀ us₀ t₀ rs rs' us t : List ℕ} → rs ≡ rs' → RestMapped f own theirs rs₀ us₀ t₀ rs us t
    → RestMapped f own theirs rs₀ us₀ t₀ rs' us t
rest_skips f own theirs e h = rw (← e) h

-- ---- the definition's mapping
nothing_mapped : (t : List ℕ) → ((q : ℕ) → get_or t q 0 ≡ 0) → images_in t ≡ (λ (r : ℕ). 0)
unfolding images_in
nothing_mapped t h = fun_ext h

args_alike : {f own theirs : List ℕ} (C Q : Signature) → Sides f C Q own theirs → (ys : List ℕ) → have_types C (parameter_types Q) ys ≡ true
    → Paired (Alike C Q) (regions_of Q (parameter_variables (parameters_of Q))) (regions_of C ys)
unfolding parameter_types
args_alike C Q s ys h = arguments_alike s.types C Q s.ok_c s.ok_q (parameter_variables (parameters_of Q)) ys h

pub call_mapped : (f own theirs : List ℕ) {ps : ℕ} (args : ℕ) (t : List ℕ) (b : Bool) (t' : List ℕ) → ps ≡ get_or theirs first_place 0
    → ListsMapped f own theirs (regions_of_parameters (variables_at f ps)) (homes_in own (arguments_at f args)) t b t'
    → CallMapped f own theirs args t b t'
unfolding mapping
call_mapped f own theirs {ps} args t b t' e h C Q s y k =
    let rs : regions_of_parameters (variables_at f ps) ≡ regions_of Q (parameter_variables (parameters_of Q)) =
    ap (λ (n : ℕ). regions_of_parameters (variables_at f n)) e ∙ ap regions_of_parameters s.at_q.variables ∙ sym (parameter_regions_law Q) in
    let us = homes_regions C s.at_c (arguments_at f args) in
    let few = regions_few s.types Q s.ok_q in
    let m = nothing_mapped t k.none in
    rw (← m, ← rs, ← us)
    (h C Q s (rw (rs, us) (args_alike C Q s (arguments_at f args) y)) (length Q.regions)
    (record { room = k.room; first = k.none 0; few = unmapped_all Q few (images_in t) }))

-- ---- one at a time, over the words that the code has read
module _ (f : List ℕ) (x : ℕ) (F : Formed f) (s : Stands f variables x) (z : x ≡ 0 → ⊥) where
  -- a variable of the callee's own
  pub parameter_passed : {m w : ℕ} → m ≡ word f x variable_mode → m ≡ 0 → w ≡ word f x next_word
      → regions_of_parameters (variables_at f x) ≡ regions_of_parameters (variables_at f w)
  parameter_passed e q h = rw h (parameters_local (variable_here F z s).view (sym e ∙ q))

  pub parameter_here : {m w r : ℕ} → m ≡ word f x variable_mode → m ≢ 0 → w ≡ word f x next_word → r ≡ word f x variable_region
      → regions_of_parameters (variables_at f x) ≡ r ∷ regions_of_parameters (variables_at f w)
  parameter_here e n h g = rw (h, g) (parameters_next (variable_here F z s).view (λ q. n (e ∙ q)))

pub argument_here : (f t : List ℕ) (a : ℕ) → Formed f → Stands f arguments a → (a ≡ 0 → ⊥) → {y u w : ℕ} → y ≡ word f a argument_variable
    → u ≡ home_in t y → w ≡ word f a next_word → homes_in t (arguments_at f a) ≡ u ∷ homes_in t (arguments_at f w)
argument_here f t a F s z e h k = rw k (homes_next t (Shapes.argument_here F z s).view (h ∙ ap (home_in t) e))
