-- Laws of `specs/Bodies` that only proofs cite.
use Prim.Native.Nat.{ℕ, ◌≤◌}
use native.Mathlib.Omega.{arith}
use mathlib.Core.List.{List}
use mathlib.Core.Path.{◌≡◌, refl, ap, ◌∙◌}
use lib.ListN.{length, get_or}
use Rattle.sets.specs.Sets.{◌∪◌, ◌∖◌}
use Rattle.sets.specs.Members.{members}
use Rattle.sets.specs.declared.Set.{Set}
use Rattle.language.specs.Format.{remove_kind}
use Rattle.language.specs.File.{goals}
use Rattle.language.specs.Program.{Signature, signature_of}
use Rattle.language.specs.Values.{outs_of}
use Rattle.language.specs.Lifetimes.{start_held, wanted, live}
use Rattle.language.specs.Answers.{program}
use Rattle.chains.specs.Formed.{Formed, Stands, goals_at}
use Rattle.tables.specs.Window.{Window, set_in, body_place, outs_place, dead_place, kept_place}
use Rattle.liveness.specs.Points.{points, point_words}
use Rattle.liveness.specs.Holds.{written_holds}
use Rattle.liveness.specs.Done.{ListDone}
use Rattle.laying.specs.Lays.{Lays}
use Rattle.laying.specs.Marks.{marks}
use Rattle.insertion.proofs.ChainsLaws.{chain_goes, lays_part}
use Rattle.insertion.specs.Wants.{WantedFrom, Turned}
use Rattle.insertion.proofs.WantsLaws.{turned_wants}
use Rattle.insertion.specs.Done.{GoalsLaid}
use Rattle.insertion.specs.Bodies.{BodyLaid, PointsFilled, body_of}

-- ---- points
module _ (f own t u : List ℕ) (body s : ℕ) (outs l : Set) (n : length u ≡ point_words) (eb : body ≡ get_or own body_place 0) (eo : outs ≡ set_in own outs_place)
    (D : ListDone f body outs t u s l) where
  pub points_start : s ≤ point_words
  points_start = omega (arith, D.1.place)

  pub points_filled : {v : List ℕ} → Turned own u v s point_words → PointsFilled f own v s l
  points_filled {v} T = (
    T.same ∙ n,
    λ S W.
        let e : outs ≡ outs_of S = eo ∙ W.outs in
        let k : l ≡ live (program f) (goals_at f (get_or own body_place 0)) (outs_of S) = rw (eb, e) at D.0 in
        let h : WantedFrom S v s (points (program f) (goals_at f body) outs) = turned_wants T n S W _ s (omega arith) (written_holds D.1) in
        (k, rw (eb, e) at h),
  )

-- ---- the start
pub start_removed : {own : List ℕ} {k d h w r : Set} (l : Set) → k ≡ set_in own kept_place → d ≡ set_in own dead_place → h ≡ d ∪ k
    → ((f : List ℕ) (S : Signature) → Window f S own → w ≡ wanted S l) → r ≡ h ∖ w
    → (f : List ℕ) (S : Signature) → Window f S own → r ≡ start_held S ∖ wanted S l
unfolding start_held
start_removed l ek ed eh ew er f S W = er ∙ rw (eh, ek, ed, W.dead, W.kept, ew f S W) refl

-- ---- the whole
module _ {f : List ℕ} (rows own : List ℕ) (F : Formed f) (st : Stands f goals (get_or own body_place 0)) where
  pub body_laid : (u : List ℕ) {a b d : List ℕ} (body s : ℕ) {c m r p : ℕ} (l rs : Set) → PointsFilled f own u s l
      → ((g : List ℕ) (S : Signature) → Window g S own → rs ≡ start_held S ∖ wanted S l) → body ≡ get_or own body_place 0
      → Lays a b c m (marks remove_kind (members rs) body c) → GoalsLaid f rows u body s b d m r p → BodyLaid f rows own a d c r
  unfolding body_of
  body_laid u body s l rs P e eb k G = (
    G.0 ∙ k.same,
    λ o q R W B.
        let S = signature_of (program f) q in
        let x = P.1 S W in
        let er : rs ≡ start_held S ∖ wanted S (live (program f) (goals_at f (get_or own body_place 0)) (outs_of S)) = e f S W ∙ ap (λ y. start_held S ∖ wanted S y) x.0 in
        let g = (rw eb at G).1 o q (outs_of S) R B x.1 in
        lays_part (program f) S (goals_at f (get_or own body_place 0)) (outs_of S) (start_held S) (get_or own body_place 0) er
        (chain_goes (program f) S F (get_or own body_place 0) (outs_of S) st) (rw eb at k) g.0,
  )
