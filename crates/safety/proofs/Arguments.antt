-- A call's arguments beside the callee's in and out variables, and the region numbers that a call or a return lets stand for something.
use Rattle.std.specs.Prelude.{◌≡◌, Bool, ◌≢◌, ◌⊎◌, ℕ, eqb}
use Rattle.std.proofs.Math.Path.{refl, ap₂}
use Rattle.std.proofs.Common.{sym, ap, ◌∙◌, inl, inr}
use Rattle.std.proofs.Math.Bool.{true, false}
use Rattle.std.proofs.lemmas.Bool.{false≢true}
use mathlib.Core.List.{List, ◌∷◌, map, map-map, head-eq_of_cons-eq, tail-eq_of_cons-eq, []}
use Rattle.std.proofs.Math.Logic.{⊎_elim}
use Rattle.sets.specs.Tests.{truth, clash}
use Rattle.sets.specs.Sets.{member}
use Rattle.sets.specs.Members.{set_of, cons_if, in_list, nil_in, cons_in, cons_here, cons_later}
use Rattle.sets.specs.MemberLaws.{set_of_mk}
use Rattle.language.specs.Lists.{put}
use Rattle.language.specs.Program.{Functor, Signature, Parameter, type_of, region_of, parameter_variables, arguments_in, variables_in}
use Rattle.language.specs.Typing.{types_of}
use Rattle.language.specs.Regions.{regions_of}
use Rattle.language.specs.AcceptedRun.{stand_each}
use Rattle.laws.specs.Choices.{put_same, put_other}
use Rattle.laws.specs.Lists.{listed_image}
use Rattle.region_graph.specs.Laws.{Declared}
use Rattle.region_graph.specs.Parameters.{parameter_variable, mode_parameter}
use Rattle.region_graph.specs.Shared.{variable_top}
use Rattle.region_graph.specs.Calls.{regions_map}

-- ---- the callee's in and out variables are variables of its own
pub variables_member : {T : List (List Functor)} {S : Signature} → Declared T S → (k x : ℕ) → in_list x (variables_in k S) ≡ true
    → member (set_of (variables_in k S)) x ≡ true
variables_member {T} {S} D k x i =
    let r = variable_top T S D x (parameter_variable S x (mode_parameter S k x i)) in
    set_of_mk (variables_in k S) x i r.0 r.1

-- ---- the regions and types of arguments and of the variables that they match
-- where f says of the variables what g says of all arguments, it does so of those of one mode
module _ (f g : ℕ → ℕ) where
  cons_if_alike : (b : Bool) (x y : ℕ) (xs ys : List ℕ) → f x ≡ g y → map f xs ≡ map g ys → map f (cons_if b x xs) ≡ map g (cons_if b y ys)
  unfolding cons_if
  cons_if_alike true x y xs ys p q = ap₂ ◌∷◌ p q
  cons_if_alike false x y xs ys p q = q

  arguments_alike : (k : ℕ) (ps : List Parameter) (ys : List ℕ) → map f (parameter_variables ps) ≡ map g ys
      → map f (arguments_in k ps (parameter_variables ps)) ≡ map g (arguments_in k ps ys)
  unfolding arguments_in parameter_variables
  arguments_alike k [] ys e = refl
  arguments_alike k (a ∷ ps) [] e = absurd (false≢true (cc))
  arguments_alike k (a ∷ ps) (y ∷ ys) e =
      cons_if_alike (eqb a.mode k) a.variable y (arguments_in k ps (parameter_variables ps)) (arguments_in k ps ys) (head-eq_of_cons-eq e)
      (arguments_alike k ps ys (tail-eq_of_cons-eq e))

types_map : (S : Signature) (xs : List ℕ) → types_of S xs ≡ map (type_of S) xs
unfolding types_of
types_map S [] = refl
types_map S (x ∷ xs) = ap (λ ts. type_of S x ∷ ts) (types_map S xs)

images_map : (Q : Signature) (m : ℕ → ℕ) (xs : List ℕ) → map m (regions_of Q xs) ≡ map (λ x. m (region_of Q x)) xs
images_map Q m xs = ap (map m) (regions_map Q xs) ∙ map-map m (region_of Q) xs

pub arguments_regions : (C Q : Signature) (m : ℕ → ℕ) (k : ℕ) (ps : List Parameter) (ys : List ℕ)
    → map m (regions_of Q (parameter_variables ps)) ≡ regions_of C ys
    → map m (regions_of Q (arguments_in k ps (parameter_variables ps))) ≡ regions_of C (arguments_in k ps ys)
arguments_regions C Q m k ps ys e =
    images_map Q m _
    ∙ arguments_alike (λ x. m (region_of Q x)) (region_of C) k ps ys (sym (images_map Q m _) ∙ e ∙ regions_map C ys)
    ∙ sym (regions_map C _)

pub arguments_types : (C Q : Signature) (k : ℕ) (ps : List Parameter) (ys : List ℕ)
    → types_of Q (parameter_variables ps) ≡ types_of C ys
    → types_of Q (arguments_in k ps (parameter_variables ps)) ≡ types_of C (arguments_in k ps ys)
arguments_types C Q k ps ys e =
    types_map Q _ ∙ arguments_alike (type_of Q) (type_of C) k ps ys (sym (types_map Q _) ∙ e ∙ types_map C ys) ∙ sym (types_map C _)

pub regions_in_law : (S : Signature) (xs : List ℕ) (t : ℕ) → in_list t (regions_of S xs) ≡ true
    → (x : ℕ) × (in_list x xs ≡ true) × (region_of S x ≡ t)
regions_in_law S xs t e = listed_image (region_of S) xs t (rw (regions_map S xs) at e)

-- ---- numbers made to stand for something
module _ (name meant : ℕ → ℕ) where
  pub stand_old : (rs : List ℕ) (stands : ℕ → ℕ) (u : ℕ) → ((r : ℕ) → in_list r rs ≡ true → name r ≢ u)
      → stand_each name meant rs stands u ≡ stands u
  unfolding stand_each
  stand_old [] stands u f = refl
  stand_old (r ∷ rs) stands u f =
      stand_old rs (put stands (name r) (meant r)) u (λ q i. f q (cons_later q r rs i)) ∙ put_other stands _ (meant r) _
      (f r (cons_here r r rs refl))

  pub stand_new : (rs : List ℕ) (stands : ℕ → ℕ) → ((a b : ℕ) → in_list a rs ≡ true → in_list b rs ≡ true → name a ≡ name b → a ≡ b)
      → (r : ℕ) → in_list r rs ≡ true → stand_each name meant rs stands (name r) ≡ meant r
  unfolding stand_each
  stand_new [] stands f r i = absurd (nil_in r i)
  stand_new (y ∷ rs) stands f r i =
      go (stand_new rs (put stands (name y) (meant y)) (λ a b p q. f a b (cons_later a y rs p) (cons_later b y rs q)) r)
      (truth (in_list r rs))
    where
      go : (in_list r rs ≡ true → stand_each name meant rs (put stands (name y) (meant y)) (name r) ≡ meant r)
          → (in_list r rs ≡ true) ⊎ (in_list r rs ≡ false) → stand_each name meant rs (put stands (name y) (meant y)) (name r) ≡ meant r
      go ih (inl t) = ih t
      go ih (inr t) =
          stand_old rs (put stands (name y) (meant y)) (name r)
          (λ a j e. clash (ap (λ (k : ℕ). in_list k rs) (sym (f a r (cons_later a y rs j) i e)) ∙ j) t)
          ∙ (rw (first t) (put_same stands (name r) (meant r)))
        where
          first : in_list r rs ≡ false → y ≡ r
          first n = ⊎_elim (λ q. q) (λ q. absurd (clash q n)) (cons_in r y rs i)
