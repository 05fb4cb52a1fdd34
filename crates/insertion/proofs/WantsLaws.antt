-- Laws of `specs/Wants` that only proofs cite.
use Prim.Native.Nat.{ℕ, ◌+◌, ◌*◌, ◌≤◌, ◌<◌}
use native.Mathlib.Omega.{arith}
use native.Mathlib.Decide.{dec_lt}
use mathlib.Core.List.{List, ◌∷◌, ◌++◌, []}
use mathlib.Core.Path.{◌≡◌, refl, ap, ◌∙◌}
use lib.ListN.{length, get_or, set, length-append, length-set, length-drop}
use lib.Seq.{get_or-set_same, get_or-set_other}
use Rattle.sets.specs.Sets.{stored, loaded, loaded_stored}
use Rattle.sets.specs.declared.Set.{Set}
use Rattle.language.specs.Program.{Four, Goals, ◌then◌, Goal, switch, if_less, try, Arms, arm, Signature, Program}
use Rattle.language.specs.Lifetimes.{wanted, live, live_goal}
use Rattle.tables.specs.Window.{Window}
use Rattle.liveness.specs.Points.{Point, point, points, part_points, goal_points, arms_points, words, point_words}
use Rattle.liveness.specs.Counts.{goals_count, goal_count, points_count, parts_count}
use Rattle.liveness.specs.Table.{before_at, after_at}
use Rattle.liveness.specs.Holds.{Holds, holds_before, holds_after_law, holds_behind}
use Rattle.insertion.specs.Wants.{Turned, WantedFrom}

module _ (S : Signature) (t : List ℕ) where
  pub wants_front : (at : ℕ) (ps qs : List Point) → WantedFrom S t at (ps ++ qs) → WantedFrom S t at ps
  unfolding WantedFrom
  wants_front at [] qs h = tt
  wants_front at (p ∷ ps) qs h = (h.0, (h.1.0, (h.1.1.0, wants_front (at + 2) ps qs h.1.1.1)))

  pub wants_behind : (at : ℕ) (ps qs : List Point) {n : ℕ} → WantedFrom S t at (ps ++ qs) → length ps ≡ n → WantedFrom S t (at + 2 * n) qs
  unfolding WantedFrom
  wants_behind at [] qs {n} h e = let z : at ≡ at + 2 * n = omega arith in rw z at h
  wants_behind at (p ∷ ps) qs {n} h e =
      let z : at + 2 + 2 * length ps ≡ at + 2 * n = omega arith in
      rw z at (wants_behind (at + 2) ps qs {n = length ps} h.1.1.1 refl)

-- ---- goals
module _ (P : Program) (S : Signature) (t : List ℕ) (at : ℕ) where
  -- the goal's own point
  pub record PointWants (g : Goal) (after : Set) : Type 0 where
    pub short : at < point_words
    pub before_is : before_at t at ≡ wanted S (live_goal P g after)
    pub after_is : after_at t at ≡ wanted S after
    pub parts : WantedFrom S t (at + 2) (part_points P g after)

  pub goal_wants : (g : Goal) (after : Set) → WantedFrom S t at (goal_points P g after) → PointWants g after
  unfolding goal_points point WantedFrom
  goal_wants g after h = record { short = h.0; before_is = h.1.0; after_is = h.1.1.0; parts = h.1.1.1 }

  -- the first goal of a chain, and the rest
  pub first_wants : {gs hs : Goals} {g : Goal} (after : Set) → gs ≡ g then hs → WantedFrom S t at (points P gs after)
      → WantedFrom S t at (goal_points P g (live P hs after)) × WantedFrom S t (at + 2 * goal_count g) (points P hs after)
  unfolding points goal_points
  first_wants {hs = hs} {g = g} after e h =
      let k : WantedFrom S t at (points P (g then hs) after) = rw e at h in (
        wants_front S t at (goal_points P g (live P hs after)) (points P hs after) k,
        wants_behind S t at (goal_points P g (live P hs after)) (points P hs after) k (parts_count P g (live P hs after)),
      )

  -- what is wanted where goals start
  pub start_wants : {gs hs : Goals} {g : Goal} (after : Set) → gs ≡ g then hs → WantedFrom S t at (points P gs after) → before_at t at ≡ wanted S (live P gs after)
  unfolding points point live WantedFrom
  start_wants {hs = hs} {g = g} after e h = let k : WantedFrom S t at (points P (g then hs) after) = rw e at h in rw e k.1.0

  pub switch_wants : {g : Goal} {x : ℕ} {cs : Arms} (after : Set) → g ≡ switch x cs → WantedFrom S t at (part_points P g after) → WantedFrom S t at (arms_points P cs after)
  unfolding part_points
  switch_wants after e h = rw e at h

  pub branches_want : {g : Goal} {y z : ℕ} {a b : Goals} (after : Set) → g ≡ if_less y z a b → WantedFrom S t at (part_points P g after)
      → WantedFrom S t at (points P a after) × WantedFrom S t (at + 2 * goals_count a) (points P b after)
  unfolding part_points
  branches_want {a = a} {b = b} after e h =
      let k : WantedFrom S t at (points P a after ++ points P b after) = rw e at h in
      (wants_front S t at (points P a after) (points P b after) k, wants_behind S t at (points P a after) (points P b after) k (points_count P a after))

  pub try_wants : {g : Goal} {c a b : Goals} (after : Set) → g ≡ try c a b → WantedFrom S t at (part_points P g after)
      → WantedFrom S t at (points P c (live P a after)) × (WantedFrom S t (at + 2 * goals_count c) (points P a after)
      × WantedFrom S t (at + 2 * goals_count c + 2 * goals_count a) (points P b after))
  unfolding part_points
  try_wants {c = c} {a = a} {b = b} after e h =
      let k : WantedFrom S t at (points P c (live P a after) ++ (points P a after ++ points P b after)) = rw e at h in
      let m = wants_behind S t at (points P c (live P a after)) (points P a after ++ points P b after) k (points_count P c (live P a after)) in (
        wants_front S t at (points P c (live P a after)) (points P a after ++ points P b after) k,
        (wants_front S t (at + 2 * goals_count c) (points P a after) (points P b after) m, wants_behind S t (at + 2 * goals_count c) (points P a after) (points P b after) m (points_count P a after)),
      )

  pub arms_want : {ds cs : Arms} {f : ℕ} {ys : Four} {gs : Goals} (after : Set) → ds ≡ arm f ys gs cs → WantedFrom S t at (arms_points P ds after)
      → WantedFrom S t at (points P gs after) × WantedFrom S t (at + 2 * goals_count gs) (arms_points P cs after)
  unfolding arms_points
  arms_want {cs = cs} {gs = gs} after e h =
      let k : WantedFrom S t at (points P gs after ++ arms_points P cs after) = rw e at h in
      (wants_front S t at (points P gs after) (arms_points P cs after) k, wants_behind S t at (points P gs after) (arms_points P cs after) k (points_count P gs after))

-- ---- from what is live to what is wanted
pub turned_none : (own t : List ℕ) (start : ℕ) → Turned own t t start start
turned_none own t start = record { same = refl; above = λ k l. refl; done = λ f S W k l m. absurd (omega arith) }

pub turned_more : {own t u : List ℕ} {start at x : ℕ} {l w : Set} → Turned own t u start at → at < length u → l ≡ loaded (get_or u at 0)
    → ((f : List ℕ) (S : Signature) → Window f S own → w ≡ wanted S l) → x ≡ stored w → Turned own t (set u at x) start (at + 1)
unfolding before_at
turned_more {own} {t} {u} {start} {at} {x} {l} {w} T h e n q = record {
  same = length-set u at x ∙ T.same;
  above = λ k m. get_or-set_other u at k x 0 (λ z. omega arith) ∙ T.above k (omega arith);
  done = λ f S W k m o. go f S W k m (dec_lt k at) o;
}
  where
    go : (f : List ℕ) (S : Signature) → Window f S own → (k : ℕ) → start ≤ k → Dec (k < at) → k < at + 1 → before_at (set u at x) k ≡ wanted S (before_at t k)
    go f S W k m (yes p) o = ap loaded (get_or-set_other u at k x 0 (λ z. omega arith)) ∙ T.done f S W k m p
    go f S W k m (no p) o =
        let z : k ≡ at = omega arith in
        rw z (ap loaded (get_or-set_same u at x 0 h ∙ q) ∙ loaded_stored w ∙ n f S W ∙ ap (λ (s : Set). wanted S s) (e ∙ ap loaded (T.above at (omega arith))))

pub turned_whole : {own t u : List ℕ} {start at : ℕ} → Turned own t u start at → at ≤ point_words → point_words ≤ at → Turned own t u start point_words
turned_whole {at = at} T l m = let z : at ≡ point_words = omega arith in rw z at T

-- a place that a point stands at is in the table
holds_short : {t : List ℕ} {at : ℕ} {p : Point} {ps : List Point} → Holds t at (p ∷ ps) → at + 2 ≤ length t
unfolding words
holds_short {t} {at} {p} {ps} h =
    let e = ap length h.view in
    omega (arith, length-drop at t, e, length-append (words ps) h.behind)

pub turned_wants : {own t u : List ℕ} {start : ℕ} → Turned own t u start point_words → length t ≡ point_words → {f : List ℕ} (S : Signature) → Window f S own
    → (ps : List Point) (at : ℕ) → start ≤ at → Holds t at ps → WantedFrom S u at ps
unfolding WantedFrom after_at
turned_wants T n S W [] at l h = tt
turned_wants {own} {t} {u} {start} T n {f} S W (p ∷ ps) at l h =
    let s = holds_short h in (
      omega arith,
      (
        T.done f S W at l (omega arith) ∙ ap (wanted S) (holds_before h),
        (T.done f S W (at + 1) (omega arith) (omega arith) ∙ ap (wanted S) (holds_after_law h), turned_wants T n {f = f} S W ps (at + 2) (omega arith) (holds_behind (p ∷ []) ps {n = 1} h refl)),
      ),
    )
