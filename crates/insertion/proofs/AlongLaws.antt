-- Laws of `specs/Along` that only proofs cite.
use Prim.Native.Nat.{ℕ, ◌+◌}
use native.Mathlib.Omega.{arith}
use mathlib.Core.List.{List}
use mathlib.Core.Path.{◌≡◌, refl, ap, sym, ◌∙◌}
use Rattle.language.specs.Format.{next_word}
use Rattle.language.specs.File.{goals, word}
use Rattle.language.specs.Records.{goals_tree}
use Rattle.language.specs.Program.{signature_of}
use Rattle.language.specs.Lifetimes.{live}
use Rattle.language.specs.Answers.{program}
use Rattle.placement.specs.Local.{local_goals, local_goal}
use Rattle.chains.specs.Formed.{Formed, Stands, Onward, goals_at, goal_at, goals_none}
use Rattle.chains.specs.Is.{chain_next, goals_step}
use Rattle.liveness.specs.Counts.{goals_count, goal_count}
use Rattle.laying.specs.Lays.{lays_end}
use Rattle.insertion.specs.Chains.{Fronts}
use Rattle.insertion.proofs.ChainsLaws.{chain_goes, lays_first}
use Rattle.insertion.proofs.WantsLaws.{first_wants}
use Rattle.insertion.specs.Done.{GoalsLaid, GoalLaid}
use Rattle.insertion.specs.Along.{LaidAlong}

pub along_first : (f rows t : List ℕ) (start at : ℕ) (a : List ℕ) (first : ℕ) → Stands f goals start → LaidAlong f rows t start at a a first start at first
along_first f rows t start at a first st = record {
  stands = st;
  near = omega arith;
  same = refl;
  rest = λ o q after R B W. record { belongs = B; wants = W; count = refl; laid = λ d e L. L };
}

module _ {f rows t : List ℕ} {start at₀ : ℕ} {a b : List ℕ} {first i at c : ℕ} (G : LaidAlong f rows t start at₀ a b first i at c) where
  pub along_last : i ≡ 0 → GoalsLaid f rows t start at₀ a b first c at
  unfolding goals_tree local_goals goals_count
  along_last z = (
    G.same,
    λ o q after R B W.
        let l = G.rest o q after R B W in
        let n : goals_count (goals_at f i) ≡ 0 = ap goals_count (goals_none f z) in
        (l.laid b c (rw (goals_none f z) (lays_end b c)), omega (arith, l.count, n)),
  )

  module _ (F : Formed f) (z : i ≡ 0 → ⊥) where
    pub along_onward : {w : ℕ} → w ≡ word f i next_word → Onward f goals i w
    along_onward e = chain_next F G.stands z e

    pub along_next : {d : List ℕ} {r p w : ℕ} → GoalLaid f rows t i at b d c r p → w ≡ word f i next_word → LaidAlong f rows t start at₀ a d first w p r
    unfolding goals_count
    along_next {d} {r} {p} {w} m e =
        let u = along_onward e in
        let h = goals_step F G.stands z e in
        record {
          stands = u.stands;
          near = omega (arith, u.falls, G.near);
          same = m.0 ∙ G.same;
          rest = λ o q after R B W.
              let P = program f in
              let S = signature_of P q in
              let l = G.rest o q after R B W in
              let v = first_wants P S t at after h l.wants in
              let k = m.1 o q (live P (goals_at f w) after) R (l.belongs z) v.0 in
              let n : goals_count (goals_at f i) ≡ goal_count (goal_at f i) + goals_count (goals_at f w) = ap goals_count h in
              let K : Fronts b d c r (local_goal P S (goal_at f i) (live P (goals_at f w) after)) w = rw (sym e) at k.0 in
              record {
                belongs = λ y. R.owning.to_next i G.stands z w e y ∙ l.belongs z;
                wants = rw k.1 v.1;
                count = omega (arith, k.1, l.count, n);
                laid = λ d' e' L. l.laid d' e' (lays_first P S after w h (chain_goes P S F w after u.stands) K L);
              };
        }

-- one stretch of the chain behind another
pub along_on : {f rows t : List ℕ} {start at₀ : ℕ} {a b e : List ℕ} {first i at c j p r : ℕ} → LaidAlong f rows t start at₀ a b first i at c → LaidAlong f rows t i at b e c j p r
    → LaidAlong f rows t start at₀ a e first j p r
along_on G H = record {
  stands = H.stands;
  near = omega (arith, G.near, H.near);
  same = H.same ∙ G.same;
  rest = λ o q after R B W.
      let l = G.rest o q after R B W in
      let m = H.rest o q after R l.belongs l.wants in
      record { belongs = m.belongs; wants = m.wants; count = m.count ∙ l.count; laid = λ d s L. l.laid d s (m.laid d s L) };
}

-- and all goals that are left behind it
pub along_rest : {f rows t : List ℕ} {start at₀ : ℕ} {a b e : List ℕ} {first i at c p r : ℕ} → LaidAlong f rows t start at₀ a b first i at c → GoalsLaid f rows t i at b e c r p
    → GoalsLaid f rows t start at₀ a e first r p
along_rest {e = e} {r = r} G H = (
  H.0 ∙ G.same,
  λ o q after R B W.
      let l = G.rest o q after R B W in
      let k = H.1 o q after R l.belongs l.wants in
      (l.laid e r k.0, k.1 ∙ l.count),
)
