-- The window of a procedure: how many variables and regions it has, its first goal, its sets, its first variable, then for each variable its region and its
-- reach, and for each region its first edge.
use Rattle.std.specs.Prelude.{ℕ, ◌≤◌, ◌<◌, Bool, true, false, List, ◌≡◌, leb, ltb, length, get_or, drop}
use Rattle.std.proofs.Math.Path.{refl, sym}
use Rattle.std.proofs.Common.{ap, ◌∙◌}
use borrow.Author.Tests.{ltb-true, le-leb, lt-leb, lt-ltb, le-ltb}
use Rattle.sets.specs.Tests.{◌&◌, and_true}
use Rattle.sets.specs.Sets.{empty_set, ◌∪◌, loaded}
use Rattle.sets.specs.declared.Set.{Set}
use Rattle.language.specs.Lists.{nth, choose}
use Rattle.language.specs.File
use Rattle.language.specs.File.{word}
use Rattle.language.specs.Format.{header_procedures, places, procedure_goals}
use Rattle.language.specs.Program.{Signature, Procedure, region_of, region_at, procedure_at}
use Rattle.language.specs.Values.{ins_of, outs_of}
use Rattle.language.specs.Regions
use Rattle.language.specs.Lifetimes
use Rattle.language.specs.Answers.{program}
use Rattle.chains.specs.Formed.{Stands, variables_at, goals_at, edges_at}
use Rattle.chains.specs.Records.{chain_records}
pub use Rattle.tables.specs.TablePlaces.{variables_place, regions_place, body_place, ins_place, outs_place, born_place, dead_place, kept_place, passed_place, first_place}
use Rattle.tables.specs.TablePlaces.{home_place, reach_place, edges_place}

-- the set at place k
unfoldable pub set_in : List ℕ → ℕ → Set
set_in t k = loaded (get_or t k 0)

-- x is a number from 1 to n, and at most 64
unfoldable pub is_number : ℕ → ℕ → Bool
is_number n x = leb 1 x & ltb x places & leb x n

-- the region and the reach of variable x, the first edge of region r
unfoldable pub home_in : List ℕ → ℕ → ℕ
home_in t x = choose (is_number (get_or t variables_place 0) x) (get_or t (home_place x) 0) 0

unfoldable pub reach_in : List ℕ → ℕ → Set
reach_in t x = choose (is_number (get_or t variables_place 0) x) (set_in t (reach_place x)) empty_set

unfoldable pub edges_in : List ℕ → ℕ → ℕ
edges_in t r =
    choose (ltb (get_or t variables_place 0) places & is_number (get_or t regions_place 0) r) (get_or t (edges_place (get_or t variables_place 0) r) 0) 0

-- ---- what the code finds, a law for each way through it
module _ (n x : ℕ) where
  pub number_none : x < 1 → false ≡ is_number n x
  unfolding is_number ◌&◌
  number_none h = rw (lt-leb 1 x h) refl

  module _ (l : 1 ≤ x) where
    pub number_past : places ≤ x → false ≡ is_number n x
    unfolding is_number ◌&◌
    number_past h = rw (le-leb 1 x l, le-ltb x places h) refl

    pub number_some : {b : Bool} → x < places → b ≡ leb x n → b ≡ is_number n x
    unfolding is_number ◌&◌
    number_some h e = e ∙ rw (le-leb 1 x l, lt-ltb x places h) refl

pub number_few : (n x : ℕ) {b : Bool} → b ≡ is_number n x → b ≡ true → x < places
unfolding is_number
number_few n x e h = ltb-true x places (and_true (and_true (sym e ∙ h)).1).0

module _ (t : List ℕ) (x : ℕ) {n : ℕ} {b : Bool} (e : n ≡ get_or t variables_place 0) (m : b ≡ is_number n x) where
  number_is : is_number (get_or t variables_place 0) x ≡ b
  number_is = ap (λ (k : ℕ). is_number k x) (sym e) ∙ sym m

  pub home_some : {r : ℕ} → b ≡ true → r ≡ get_or t (home_place x) 0 → r ≡ home_in t x
  unfolding home_in choose
  home_some h g = g ∙ rw (number_is, h) refl

  pub home_none : b ≡ false → 0 ≡ home_in t x
  unfolding home_in choose
  home_none h = rw (number_is, h) refl

  pub reach_some : {s : Set} → b ≡ true → s ≡ set_in t (reach_place x) → s ≡ reach_in t x
  unfolding reach_in choose
  reach_some h g = g ∙ rw (number_is, h) refl

  pub reach_none : b ≡ false → empty_set ≡ reach_in t x
  unfolding reach_in choose
  reach_none h = rw (number_is, h) refl

module _ (t : List ℕ) (r : ℕ) {n : ℕ} (e : n ≡ get_or t variables_place 0) where
  pub edges_past : places ≤ n → 0 ≡ edges_in t r
  unfolding edges_in choose ◌&◌
  edges_past h = rw (le-ltb (get_or t variables_place 0) places (rw e at h)) refl

  module _ {k : ℕ} {b : Bool} (l : n < places) (g : k ≡ get_or t regions_place 0) (m : b ≡ is_number k r) where
    numbered : (ltb (get_or t variables_place 0) places & is_number (get_or t regions_place 0) r) ≡ b
    unfolding ◌&◌
    numbered = rw (lt-ltb (get_or t variables_place 0) places (rw e at l)) (ap (λ (j : ℕ). is_number j r) (sym g) ∙ sym m)

    pub edges_some : {w : ℕ} → b ≡ true → w ≡ get_or t (edges_place n r) 0 → w ≡ edges_in t r
    unfolding edges_in choose
    edges_some h q = (rw e at q) ∙ rw (numbered, h) refl

    pub edges_none : b ≡ false → 0 ≡ edges_in t r
    unfolding edges_in choose
    edges_none h = rw (numbered, h) refl

-- t is the window of a procedure with this signature
pub record Window (f : List ℕ) (S : Signature) (t : List ℕ) : Type 0 where
  pub variable_count : get_or t variables_place 0 ≡ length S.variables
  pub region_count_law : get_or t regions_place 0 ≡ length S.regions
  pub ins : set_in t ins_place ≡ ins_of S
  pub outs : set_in t outs_place ≡ outs_of S
  pub born : set_in t born_place ≡ Lifetimes.born S
  pub dead : set_in t dead_place ≡ Lifetimes.dead S
  pub kept : set_in t kept_place ≡ Lifetimes.kept S
  pub passed : set_in t passed_place ≡ Lifetimes.inputs S ∪ Lifetimes.outputs S
  pub variables : variables_at f (get_or t first_place 0) ≡ S.variables
  pub variables_stand : Stands f File.variables (get_or t first_place 0)
  pub home : (x : ℕ) → home_in t x ≡ region_of S x
  pub reached : (x : ℕ) → reach_in t x ≡ Regions.reach S x
  pub edges : (r : ℕ) → edges_at f (edges_in t r) ≡ (region_at S r).edges
  pub edges_stand : (r : ℕ) → Stands f File.edges (edges_in t r)

-- .. of procedure p of the program
pub record WindowOf (f : List ℕ) (p : Procedure) (t : List ℕ) : Type 0 where
  pub window : Window f p.signature t
  pub body : goals_at f (get_or t body_place 0) ≡ p.body
  pub stands : Stands f File.goals (get_or t body_place 0)

-- the file's table: the window of procedure q starts at the place that word q says
pub record FileTable (f t : List ℕ) : Type 0 where
  pub starts : (q : ℕ) → q < length (program f).procedures → get_or t q 0 ≤ length t
  pub at : (q : ℕ) → q < length (program f).procedures → WindowOf f (procedure_at (program f) q) (drop (get_or t q 0) t)
  pub body : (q : ℕ) → q < length (program f).procedures
      → get_or (drop (get_or t q 0) t) body_place 0 ≡ word f (nth 0 (chain_records f (word f 0 header_procedures)) q) procedure_goals
