-- A window is only read below its size: what is written behind it leaves it as it is.
use Rattle.std.specs.Prelude.{ℕ, ◌≤◌, ◌<◌, Bool, true, false, List, ◌≡◌, get_or}
use Rattle.std.proofs.Common.{arith, ◌∙◌, leb-true}
use Rattle.std.proofs.Math.Path.{refl, ap}
use Rattle.sets.specs.Tests.{and_true}
use Rattle.sets.specs.Sets.{empty_set}
use Rattle.language.specs.Lists.{choose}
use Rattle.language.specs.Program.{Signature, Procedure}
use Rattle.chains.specs.Formed.{variables_at, goals_at, edges_at}
use Rattle.tables.specs.Window.{set_in, is_number, home_in, reach_in, edges_in, Window, WindowOf}
use Rattle.tables.specs.TablePlaces.{body_place, born_place, dead_place, edges_place, first_place, head_size, home_place, ins_place, kept_place, outs_place, passed_place, reach_place, regions_place, variables_place, window_words}

choose_same : {A : Type 0} (b : Bool) (d : A) {x y : A} → (b ≡ true → x ≡ y) → choose b x d ≡ choose b y d
unfolding choose
choose_same true d h = h refl
choose_same false d h = refl

number_in : (n x : ℕ) → is_number n x ≡ true → (1 ≤ x) × (x ≤ n)
unfolding is_number
number_in n x e = let p = and_true e in (leb-true 1 x p.0, leb-true x n (and_true p.1).1)

module _ (t u : List ℕ) (same : (k : ℕ) → k < window_words (get_or t variables_place 0) (get_or t regions_place 0) → get_or u k 0 ≡ get_or t k 0) where
  set_kept : (k : ℕ) → k < head_size → set_in u k ≡ set_in t k
  unfolding set_in
  set_kept k l = rw (same k (omega arith)) refl

  home_kept : (x : ℕ) → home_in u x ≡ home_in t x
  unfolding home_in
  home_kept x =
      ap (λ (n : ℕ). choose (is_number n x) (get_or u (home_place x) 0) 0) (same variables_place (omega arith))
      ∙ choose_same (is_number (get_or t variables_place 0) x) 0 (λ e. let i = number_in (get_or t variables_place 0) x e in same (home_place x) (omega arith))

  reach_kept : (x : ℕ) → reach_in u x ≡ reach_in t x
  unfolding reach_in set_in
  reach_kept x =
      ap (λ (n : ℕ). choose (is_number n x) (set_in u (reach_place x)) empty_set) (same variables_place (omega arith))
      ∙ choose_same (is_number (get_or t variables_place 0) x) empty_set (λ e. let i = number_in (get_or t variables_place 0) x e in rw (same (reach_place x) (omega arith)) refl)

  edges_kept : (r : ℕ) → edges_in u r ≡ edges_in t r
  unfolding edges_in
  edges_kept r =
      rw (same variables_place (omega arith), same regions_place (omega arith))
      (choose_same _ 0 (λ e. let i = number_in (get_or t regions_place 0) r (and_true e).1 in same (edges_place (get_or t variables_place 0) r) (omega arith)))

  pub window_kept : {f : List ℕ} {S : Signature} → Window f S t → Window f S u
  window_kept {f} h = record {
    variable_count = same variables_place (omega arith) ∙ h.variable_count;
    region_count_law = same regions_place (omega arith) ∙ h.region_count_law;
    ins = set_kept ins_place (omega arith) ∙ h.ins;
    outs = set_kept outs_place (omega arith) ∙ h.outs;
    born = set_kept born_place (omega arith) ∙ h.born;
    dead = set_kept dead_place (omega arith) ∙ h.dead;
    kept = set_kept kept_place (omega arith) ∙ h.kept;
    passed = set_kept passed_place (omega arith) ∙ h.passed;
    variables = ap (variables_at f) (same first_place (omega arith)) ∙ h.variables;
    variables_stand = rw (same first_place (omega arith)) h.variables_stand;
    home = λ x. home_kept x ∙ h.home x;
    reached = λ x. reach_kept x ∙ h.reached x;
    edges = λ r. ap (edges_at f) (edges_kept r) ∙ h.edges r;
    edges_stand = λ r. rw (edges_kept r) (h.edges_stand r);
  }

  pub procedure_kept : {f : List ℕ} {p : Procedure} → WindowOf f p t → WindowOf f p u
  procedure_kept {f} h = record {
    window = window_kept h.window;
    body = ap (goals_at f) (same body_place (omega arith)) ∙ h.body;
    stands = rw (same body_place (omega arith)) h.stands;
  }
