-- Reading a table of points in the order in which it is walked: a goal, its parts, the goals behind it. A walk carries `Holds t at ps`.
use Rattle.std.specs.Prelude.{ℕ, ◌+◌, ◌*◌, ◌≡◌, List, ◌∷◌, ◌++◌, length, drop}
use native.Mathlib.Omega.{arith}
use Rattle.std.proofs.Math.Path.{sym, ap}
use Rattle.std.proofs.Common.{◌∙◌, append_assoc, get_or-drop, drop-drop, drop_at}
use Rattle.std.proofs.Math.ListN.{get_or}
use Rattle.sets.specs.Sets.{stored, loaded, loaded_stored}
use Rattle.liveness.specs.Points.{Point, words, words_append, words_length}
use Rattle.liveness.specs.Table.{PointsWritten, before_at, after_at}

-- from that place on the table has the points ps
pub record Holds (t : List ℕ) (at : ℕ) (ps : List Point) : Type 0 where
  pub behind : List ℕ
  pub view : drop at t ≡ words ps ++ behind

pub written_holds : {t u : List ℕ} {start end : ℕ} {ps : List Point} → PointsWritten t u start end ps → Holds u start ps
written_holds {t} {end = end} h = record { behind = drop end t; view = h.above }

-- ---- those in front, those behind
pub holds_front : {t : List ℕ} {at : ℕ} (ps qs : List Point) → Holds t at (ps ++ qs) → Holds t at ps
holds_front ps qs h =
    record {
      behind = words qs ++ h.behind;
      view = h.view ∙ ap (λ ws. ws ++ h.behind) (words_append ps qs) ∙ append_assoc (words ps) (words qs) h.behind;
    }

pub holds_behind : {t : List ℕ} {at : ℕ} (ps qs : List Point) {n : ℕ} → Holds t at (ps ++ qs) → length ps ≡ n → Holds t (at + 2 * n) qs
unfolding holds_front
holds_behind {t} {at} ps qs {n} h e =
    let l : length (words ps) ≡ 2 * n = omega (arith, words_length ps, e) in
    record {
      behind = h.behind;
      view =
          sym (drop-drop (2 * n) at t) ∙ ap (drop (2 * n)) (holds_front ps qs h).view
          ∙ drop_at (words ps) (words qs ++ h.behind) (2 * n) l;
    }

-- ---- the first of them
module _ {t : List ℕ} {at : ℕ} {p : Point} {ps : List Point} (h : Holds t at (p ∷ ps)) where
  word_at : (k : ℕ) → get_or t (at + k) 0 ≡ get_or (stored p.earlier ∷ stored p.later ∷ (words ps ++ h.behind)) k 0
  unfolding words
  word_at k = sym (get_or-drop at t k 0) ∙ ap (λ l. get_or l k 0) h.view

  pub holds_before : before_at t at ≡ p.earlier
  unfolding before_at
  holds_before = let z : at ≡ at + 0 = omega arith in ap (λ n. loaded (get_or t n 0)) z ∙ ap loaded (word_at 0) ∙ loaded_stored p.earlier

  pub holds_after_law : after_at t at ≡ p.later
  unfolding after_at before_at
  holds_after_law = ap loaded (word_at 1) ∙ loaded_stored p.later
