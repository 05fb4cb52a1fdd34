-- What the functions come to on each way through them.
use Rattle.std.specs.Prelude.{ℕ, ◌+◌, ◌-◌, ◌≤◌, ◌<◌, true, List, [], ◌++◌, ◌≡◌, get_or, set}
use Rattle.std.proofs.Common.{arith, add-one, sym, ap, ◌∙◌}
use Rattle.std.proofs.Math.Decide.{ℕ_discrete}
use Rattle.std.proofs.Math.Path.{refl, fun_ext}
use Rattle.language.specs.Lists.{choose, nth}
use Rattle.language.specs.File.{k_construct, k_call, k_goal, kinds, kind_of, word, record_count}
use Rattle.language.specs.Format.{next_word, kind_word, call_kind, construct_kind, goal_x, call_procedure, call_arguments}
use Rattle.language.specs.Program.{parameters_from, parameters_of}
use Rattle.records.specs.Records.{record_at}
use Rattle.records.specs.declared.Record.TheVariants.{Call}
use Rattle.chains.specs.Layout.{all_rows, header_kind_law}
use Rattle.chains.specs.Formed.{Formed, variables_at}
use Rattle.chains.specs.Records.{chain_records}
use Rattle.chains.specs.Kinds.{kind_in, kind_read}
use Rattle.chains.specs.Shapes.{IsCall, goal_number, by_number}
use Rattle.owners.specs.Handed.{handed}
use Rattle.owners.specs.Owner.{owners_of}
use Rattle.owners.specs.Owners.{listed_owner}
use Rattle.regions.specs.Here.{Given, construct_kind_law, here}
use Rattle.regions.specs.CallEffect.{call_window}
use Rattle.tables.specs.Window.{Window, home_in, first_place, regions_place}
use Rattle.tables.specs.Starts.{window_in}
use Rattle.word_machine.specs.Filling.{onward_by}
use Rattle.plans.specs.Plan.{sides_from}
use Rattle.plans.specs.Passes.{TypedAndFilled, each_from, is_kind, callee_of, placed, placed_at, placing, joining, image_count, images_before, image_of, side_at, sided_at, siding, copied, pictured_at, picturing, plan_of, images_of}
use Rattle.plans.specs.Rising.{each_more, each_end}
use Rattle.plans.specs.Tests.{kind_is, kind_yes, kind_no}
use Rattle.plans.specs.Images.{kind_differs, CallImages, LastCall}

-- ---- a pass: record i is next, of n records; t₀ stood at the start
pub record Pass (f : List ℕ) (step : ℕ → List ℕ → List ℕ) (n : ℕ) (t₀ : List ℕ) (i : ℕ) (t : List ℕ) : Type 0 where
  pub some : 0 < i
  pub count : n ≡ record_count f
  pub rest : each_from step (n - i) i t ≡ each_from step (n - 1) 1 t₀

module _ {f : List ℕ} (step : ℕ → List ℕ → List ℕ) {n : ℕ} where
  pub pass_first : (t : List ℕ) → n ≡ record_count f → Pass f step n t 1 t
  pass_first t e = record { some = omega arith; count = e; rest = refl }

  module _ {t₀ : List ℕ} {i : ℕ} {t : List ℕ} (P : Pass f step n t₀ i t) where
    pub pass_below : i < n → i < record_count f
    pass_below l = omega (arith, P.count)

    pub pass_more : i < n → {u : List ℕ} → u ≡ step i t → Pass f step n t₀ (i + 1) u
    pass_more l e = record { some = omega arith; count = P.count; rest = each_more step n i t l e ∙ P.rest }

    pub pass_last : n ≤ i → t ≡ each_from step (record_count f - 1) 1 t₀
    pass_last l = each_end step n i t l ∙ P.rest ∙ ap (λ (m : ℕ). each_from step (m - 1) 1 t₀) P.count

-- ---- the kind of record i
module _ (f : List ℕ) (i : ℕ) {w : ℕ} (e : w ≡ word f i kind_word) where
  -- what is done at records of other kinds
  pub placed_none : (w ≡ call_kind → ⊥) → (t : List ℕ) → t ≡ placed_at f i t
  unfolding placed_at choose
  placed_none n t = rw (kind_no f i call_kind e n) refl

  pub count_none : (w ≡ call_kind → ⊥) → 0 ≡ image_count f i
  unfolding image_count choose
  count_none n = rw (kind_no f i call_kind e n) refl

  pictured_none : (w ≡ call_kind → ⊥) → (t : List ℕ) → t ≡ pictured_at f i t
  unfolding pictured_at choose
  pictured_none n t = rw (kind_no f i call_kind e n) refl

  pub side_none : (w ≡ call_kind → ⊥) → (w ≡ construct_kind → ⊥) → (at : ℕ) → 0 ≡ side_at f at i
  unfolding side_at choose
  side_none n m at = rw (kind_no f i call_kind e n, kind_no f i construct_kind e m) refl

  pub side_call : w ≡ call_kind → (at : ℕ) → at ≡ side_at f at i
  unfolding side_at choose
  side_call k at = rw (kind_yes f i call_kind e k) refl

pub call_is : {f : List ℕ} → (F : Formed f) (i : ℕ) {m q ys : ℕ} → record_at f i ≡ Call m q ys → is_kind f call_kind i ≡ true
unfolding all_rows
call_is {f} F i e = kind_yes f i call_kind refl (goal_number (word f i kind_word) k_call (sym (kind_read f i refl) ∙ ap kind_in e))

pub call_record : (f : List ℕ) (i : ℕ) → is_kind f call_kind i ≡ true → record_at f i ≡ Call (word f i next_word) (word f i call_procedure) (word f i call_arguments)
unfolding all_rows
call_record f i e = by_number f i (k_goal k_call) refl (kind_is f i call_kind e)

-- ---- the table of owners
pub owners_given : {f table owners : List ℕ} (behind : List ℕ) → TypedAndFilled f table → owners ≡ owners_of f ++ behind → Given f table owners
owners_given {f} behind R e = record { formed = R.formed; typed = R.typed; windows = R.windows; owned = λ i l. listed_owner f i behind e l }

-- ---- a call, by the window of its callee
pub given_ready : {f table owners : List ℕ} → Given f table owners → TypedAndFilled f table
given_ready G = record { formed = G.formed; typed = G.typed; windows = G.windows }

module _ {f table : List ℕ} (R : TypedAndFilled f table) (i : ℕ) (p : 0 < i) (q : i < record_count f) {w : ℕ} (e : w ≡ word f i kind_word) (k : w ≡ call_kind) {n : ℕ}
    (g : n ≡ word f i call_procedure) {theirs : List ℕ} (h : theirs ≡ window_in table n) where
  is_call : IsCall f i
  is_call = sym e ∙ k

  pub callee_window : Window f (callee_of f i) theirs
  callee_window = (call_window (here (owners_given [] R refl) i p q refl) is_call R.windows g h).callee

  pub placed_call : {a : ℕ} (t : List ℕ) {u : List ℕ} → a ≡ word f i call_arguments → u ≡ placed (parameters_from 1 (variables_at f (get_or theirs first_place 0))) (chain_records f a) t
      → u ≡ placed_at f i t
  unfolding placed_at choose parameters_of
  placed_call t ea eu = rw (kind_yes f i call_kind e k, ← callee_window.variables, ← ea) eu

  pub count_call : {r : ℕ} → r ≡ get_or theirs regions_place 0 → r ≡ image_count f i
  unfolding image_count choose
  count_call er = rw (kind_yes f i call_kind e k) (er ∙ callee_window.region_count_law)

-- ---- the region of a construct's X
pub side_construct : {f table owners : List ℕ} → Given f table owners → (i : ℕ) → 0 < i → i < record_count f → (at : ℕ) {w : ℕ} → w ≡ word f i kind_word
    → (w ≡ call_kind → ⊥) → w ≡ construct_kind → {own : List ℕ} → own ≡ window_in table (get_or owners i 0) → {x r : ℕ} → x ≡ word f i goal_x → r ≡ home_in own x
    → r ≡ side_at f at i
unfolding side_at choose
side_construct {f} G i p q at e n k h {x} ex er =
    let W = (here G i p q h).window k_construct (construct_kind_law f i (sym e ∙ k)) in
    rw (kind_no f i call_kind e n, kind_yes f i construct_kind e k, ← ex) (er ∙ W.home x)

-- ---- the places before the images, and the sides
pub before_more : (f : List ℕ) (i : ℕ) {at c : ℕ} → at ≡ images_before f i → c ≡ image_count f i → at + c ≡ images_before f (i + 1)
unfolding images_before
before_more f i e g = rw (add-one i, e, g) refl

pub sided_here : (f : List ℕ) (i : ℕ) {at v : ℕ} (t : List ℕ) → at ≡ images_before f i → v ≡ side_at f at i → set t (sides_from + i) v ≡ sided_at f i t
unfolding sided_at
sided_here f i t e g = rw (g, e) refl

pub before_first : {f : List ℕ} → Formed f → 0 ≡ images_before f 1
unfolding images_before kind_of kinds nth
before_first {f} F =
    let z : image_count f 0 ≡ 0 + image_count f 0 = omega arith in
    count_none f 0 refl (λ k. kind_differs (sym (header_kind_law f F.header F.form) ∙ ap kind_of k)) ∙ z

-- ---- images
pub copied_last : (m : ℕ → ℕ) (r n at : ℕ) (t : List ℕ) {u : List ℕ} → u ≡ copied m r at t → r ≤ n → n ≤ r → u ≡ copied m n at t
copied_last m r n at t e l k = let d : r ≡ n = omega arith in e ∙ ap (λ (q : ℕ). copied m q at t) d

pub copied_more : (m : ℕ → ℕ) (r at : ℕ) (t : List ℕ) {u : List ℕ} → u ≡ copied m r at t → set u (at + (r + 1)) (m (r + 1)) ≡ copied m (r + 1) at t
unfolding copied
copied_more m r at t e = rw (add-one r, e) refl

pub copied_none : (m : ℕ → ℕ) (at : ℕ) (t : List ℕ) → t ≡ copied m 0 at t
unfolding copied
copied_none m at t = refl

pictured_call : (f : List ℕ) (i : ℕ) {w : ℕ} → w ≡ word f i kind_word → w ≡ call_kind → {n at : ℕ} → n ≡ image_count f i → at ≡ images_before f i → {found : List ℕ}
    → CallImages f i found → (t : List ℕ) {u : List ℕ} → u ≡ copied (λ r. get_or found r 0) n at t → u ≡ pictured_at f i t
unfolding pictured_at choose
pictured_call f i e k en ea {found} m t eu =
    let d : (λ (r : ℕ). get_or found r 0) ≡ image_of f i = fun_ext m.at in
    rw (kind_yes f i call_kind e k, ← en, ← ea, ← d) eu

-- .. at any record: no other has images
pub pictured_next : {f : List ℕ} {i j : ℕ} {found : List ℕ} → LastCall f j found → (IsCall f i → j ≡ i) → {n at : ℕ} → n ≡ image_count f i → at ≡ images_before f i → (t : List ℕ)
    {u : List ℕ} → u ≡ copied (λ r. get_or found r 0) n at t → u ≡ pictured_at f i t
pictured_next {f} {i} {j} {found} D h {n} {at} en ea t {u} eu = go (ℕ_discrete (word f i kind_word) call_kind)
  where
    go : Dec (word f i kind_word ≡ call_kind) → u ≡ pictured_at f i t
    go (yes k) = pictured_call f i refl k en ea (rw (h k) at (D.call (rw (h k) k))) t eu
    go (no k) =
        let z : n ≡ 0 = en ∙ sym (count_none f i refl k) in
        (rw z at eu) ∙ sym (copied_none _ at t) ∙ pictured_none f i refl k t

-- ---- the passes over the plan, one after the other
pub filled_plan : (f t : List ℕ) {u v w x : List ℕ} → u ≡ handed (onward_by f) f t → v ≡ placing f (record_count f - 1) 1 u → w ≡ joining f v
    → x ≡ siding f (record_count f - 1) 1 w → x ≡ plan_of f t
unfolding plan_of
filled_plan f t e g h k = rw (k, h, g, e) refl

pub filled_images : (f t : List ℕ) {u : List ℕ} → u ≡ picturing f (record_count f - 1) 1 t → u ≡ images_of f t
unfolding images_of
filled_images f t e = e
