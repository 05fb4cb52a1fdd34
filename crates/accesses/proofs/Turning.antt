-- A call's arguments: what one adds, the loop through the callee's in and out variables, and one turn of it over the code's own values.
use Prim.Native.Nat.{ℕ}
use mathlib.Core.Path.{◌≡◌, refl, ap, sym, ap₂, ◌∙◌}
use mathlib.Core.Bool.{Bool, true, false}
use mathlib.Core.List.{List, ◌∷◌, ◌++◌, append-nil, append_assoc, []}
use lib.Dec.{eqb}
use borrow.Author.Tests.{eqb-true}
use Rattle.sets.specs.Tests.{clash}
use Rattle.sets.specs.Members.{cons_if, members}
use Rattle.language.specs.Lists.{choose}
use Rattle.language.specs.Program.{parameters_from, arguments_in, in_mode, out_mode, Signature, Parameter, parameters_of, parameter_variables}
use Rattle.tables.specs.declared.Access.{Access}
use Rattle.accesses.specs.Gathering.{no_access, read_in, given_in, passed_in, Gathers}
use Rattle.accesses.proofs.GatheringLaws.{gathers_none, gathers_read, gathers_give, pass_in, pass_out}
use Rattle.accesses.specs.Matching.{CallMatches, passing}
use native.Mathlib.Omega.{arith}
use Rattle.sets.specs.Sets.{member, ◌∪◌}
use Rattle.sets.specs.declared.Set.{Set}
use Rattle.language.specs.Format.{argument_variable, next_word}
use Rattle.accesses.specs.Parameters.{DeclaredSets, Told, in_turn, tell, told_cons, told_nil, told_mode}
use Rattle.language.specs.File.{arguments, word}
use Rattle.chains.specs.Formed.{Formed, Stands, arguments_at, arguments_none}
use Rattle.chains.specs.Shapes.{argument_here}

-- no variables, and so no arguments
pub none_matches : (ys : List ℕ) → CallMatches [] ys no_access
unfolding passing parameters_from arguments_in
none_matches ys = gathers_none

-- ---- what a variable's argument adds
pub snoc_if : (xs : List ℕ) (b : Bool) (x : ℕ) (rest : List ℕ) → (xs ++ cons_if b x []) ++ rest ≡ xs ++ cons_if b x rest
unfolding cons_if
snoc_if xs true x rest = append_assoc xs (x ∷ []) rest
snoc_if xs false x rest = ap (λ t. t ++ rest) (append-nil xs)

not_both : (m : ℕ) → eqb m in_mode ≡ true → eqb m out_mode ≡ false
not_both m e = rw (eqb-true m in_mode e) refl

pub gathers_pass : {a : Access} {rs gs : List ℕ} (m y : ℕ) → Gathers a rs gs
    → Gathers (passed_in m a y) (rs ++ cons_if (eqb m in_mode) y []) (gs ++ cons_if (eqb m out_mode) y [])
unfolding passed_in choose cons_if
gathers_pass {a} {rs} {gs} m y h = go (eqb m in_mode) (eqb m out_mode) (not_both m)
  where
    go : (b c : Bool) → (b ≡ true → c ≡ false)
        → Gathers (choose b (read_in a y) (choose c (given_in a y) a)) (rs ++ cons_if b y []) (gs ++ cons_if c y [])
    go true true n = absurd (clash refl (n refl))
    go true false n = rw (append-nil gs) (gathers_read h y)
    go false true n = rw (append-nil rs) (gathers_give h y)
    go false false n = rw (append-nil rs, append-nil gs) h

-- ---- some of the arguments are gathered: the parameters of the numbers xs and the arguments ys are left
pub record Gathered (S : Signature) (ins : Set) (ys₀ : List ℕ) (a : Access) (xs ys : List ℕ) : Type 0 where
  pub left : List Parameter
  pub numbers : parameter_variables left ≡ xs
  pub told : Told ins left
  pub read : List ℕ
  pub given : List ℕ
  pub gathered : Gathers a read given
  pub ins_left : read ++ arguments_in in_mode left ys ≡ passing in_mode 1 S.variables ys₀
  pub outs_left : given ++ arguments_in out_mode left ys ≡ passing out_mode 1 S.variables ys₀

pub turned_first : {S : Signature} {ins outs : Set} {xs : List ℕ} (ys : List ℕ) → DeclaredSets S ins outs → xs ≡ members (ins ∪ outs)
    → Gathered S ins ys no_access xs ys
unfolding passing parameters_of
turned_first {S} ys D e = record {
  left = parameters_of S;
  numbers = sym (in_turn D) ∙ sym e;
  told = tell D;
  read = [];
  given = [];
  gathered = gathers_none;
  ins_left = refl;
  outs_left = refl;
}

none_left : (m : ℕ) (ps : List Parameter) → arguments_in m ps [] ≡ []
unfolding arguments_in
none_left m [] = refl
none_left m (p ∷ ps) = refl

module _ {S : Signature} {ins : Set} {ys₀ : List ℕ} {a : Access} {xs ys : List ℕ} (h : Gathered S ins ys₀ a xs ys) where
  ended : ((m : ℕ) → arguments_in m h.left ys ≡ []) → CallMatches S.variables ys₀ a
  ended z = rw (sym h.ins_left, sym h.outs_left, z in_mode, z out_mode, append-nil h.read, append-nil h.given) h.gathered

  pub turned_short : ys ≡ [] → CallMatches S.variables ys₀ a
  turned_short e = ended (λ m. rw e (none_left m h.left))

  pub turned_last : xs ≡ [] → CallMatches S.variables ys₀ a
  unfolding arguments_in parameter_variables
  turned_last e = ended (go h.left (h.numbers ∙ e))
    where
      go : (ps : List Parameter) → parameter_variables ps ≡ [] → (m : ℕ) → arguments_in m ps ys ≡ []
      go [] z m = refl
      go (p ∷ ps) z m = absurd (let w : ◌≡◌ {A = ℕ} 0 1 = cc in omega arith)

step_left : (ins : Set) (ps : List Parameter) → Told ins ps → (x : ℕ) (xs : List ℕ) → parameter_variables ps ≡ x ∷ xs
    → (rest : List Parameter) × (ps ≡ record { mode = told_mode ins x; variable = x } ∷ rest) × (parameter_variables rest ≡ xs) × Told ins rest
unfolding parameter_variables
step_left ins [] told_nil x xs e = absurd (let w : ◌≡◌ {A = ℕ} 0 1 = cc in omega arith)
step_left ins (_ ∷ ps) (told_cons {x = z} q t) x xs e =
    let i : z ≡ x = cc in
    let j : parameter_variables ps ≡ xs = cc in
    (ps, rw (q, i) refl, j, t)

pub turned_next : {S : Signature} {ins : Set} {ys₀ : List ℕ} {a : Access} {xs ys : List ℕ} → Gathered S ins ys₀ a xs ys
    → {x y : ℕ} {rest zs : List ℕ} → xs ≡ x ∷ rest → ys ≡ y ∷ zs → Gathered S ins ys₀ (passed_in (told_mode ins x) a y) rest zs
unfolding arguments_in
turned_next {S} {ins} {ys₀} {a} {xs} {ys} h {x} {y} {rest} {zs} e f =
    let t = step_left ins h.left h.told x rest (h.numbers ∙ e) in
    let step : (m : ℕ) → arguments_in m h.left ys ≡ cons_if (eqb (told_mode ins x) m) y (arguments_in m t.0 zs) = λ m. ap₂ (arguments_in m) t.1 f in
    record {
      left = t.0;
      numbers = t.2;
      told = t.3;
      read = h.read ++ cons_if (eqb (told_mode ins x) in_mode) y [];
      given = h.given ++ cons_if (eqb (told_mode ins x) out_mode) y [];
      gathered = gathers_pass (told_mode ins x) y h.gathered;
      ins_left = snoc_if h.read _ y _ ∙ ap (λ t. h.read ++ t) (sym (step in_mode)) ∙ h.ins_left;
      outs_left = snoc_if h.given _ y _ ∙ ap (λ t. h.given ++ t) (sym (step out_mode)) ∙ h.outs_left;
    }

-- ---- what the code finds
pub told_in : (ins : Set) (x : ℕ) {b : Bool} → b ≡ member ins x → b ≡ true → in_mode ≡ told_mode ins x
unfolding told_mode choose
told_in ins x e h = rw (sym e ∙ h) refl

pub told_out : (ins : Set) (x : ℕ) {b : Bool} → b ≡ member ins x → b ≡ false → out_mode ≡ told_mode ins x
unfolding told_mode choose
told_out ins x e h = rw (sym e ∙ h) refl

-- an argument at the place of variable x, read or given a value
module _ (ins : Set) (x y : ℕ) (a : Access) {b : Bool} {r : Access} (e : b ≡ member ins x) where
  pub told_read : b ≡ true → r ≡ read_in a y → r ≡ passed_in (told_mode ins x) a y
  told_read h g = pass_in _ _ (sym (told_in ins x e h)) g

  pub told_give : b ≡ false → r ≡ given_in a y → r ≡ passed_in (told_mode ins x) a y
  told_give h g = pass_out _ _ (sym (told_out ins x e h)) g

-- ---- a call's arguments: the variables xs are left, and the arguments from record y on
pub record ArgumentsGoing (f : List ℕ) (ins outs : Set) (y0 : ℕ) (a : Access) (xs : List ℕ) (y : ℕ) : Type 0 where
  pub argument : Stands f arguments y
  pub turned : (S : Signature) → DeclaredSets S ins outs → Gathered S ins (arguments_at f y0) a xs (arguments_at f y)

pub going_first : {f : List ℕ} {ins outs both : Set} {y0 : ℕ} {a : Access} {xs : List ℕ} → Stands f arguments y0 → a ≡ no_access → both ≡ ins ∪ outs
    → xs ≡ members both → ArgumentsGoing f ins outs y0 a xs y0
going_first s e b n = record { argument = s; turned = λ S D. rw e (turned_first _ D (n ∙ ap members b)) }

module _ {f : List ℕ} {ins outs : Set} {y0 : ℕ} {a : Access} {xs : List ℕ} {y : ℕ} (h : ArgumentsGoing f ins outs y0 a xs y) where
  pub going_short : y ≡ 0 → (S : Signature) → DeclaredSets S ins outs → CallMatches S.variables (arguments_at f y0) a
  going_short e S D = turned_short (h.turned S D) (arguments_none f e)

  pub going_last : xs ≡ [] → (S : Signature) → DeclaredSets S ins outs → CallMatches S.variables (arguments_at f y0) a
  going_last e S D = turned_last (h.turned S D) e

  pub going_next : Formed f → (y ≡ 0 → ⊥) → {x w u : ℕ} {b : Access} {rest : List ℕ} → xs ≡ x ∷ rest → w ≡ word f y argument_variable
      → b ≡ passed_in (told_mode ins x) a w → u ≡ word f y next_word → ArgumentsGoing f ins outs y0 b rest u
  going_next F p e j k n =
      let t = argument_here F p h.argument in
      record {
        argument = rw n t.to_next.stands;
        turned = λ S D. rw (k, j, n) (turned_next (h.turned S D) e t.view);
      }
