-- Laws of `specs/Marks` that only proofs cite.
use Prim.Native.Nat.{ℕ, suc, ◌+◌, ◌≤◌, ◌<◌}
use native.Mathlib.Omega.{arith}
use native.Mathlib.Decide.{dec_lt}
use mathlib.Core.List.{List, ◌∷◌, []}
use mathlib.Core.Path.{◌≡◌, refl, ap, ap₂, sym, ◌∙◌}
use lib.ListN.{length}
use Rattle.sets.specs.Members.{members, next_member}
use Rattle.sets.specs.Walk.{above, above_start, above_end, above_next}
use Rattle.sets.specs.declared.Set.{Set}
use Rattle.language.specs.Format.{places}
use Rattle.tables.specs.Walks.{next_ends}
use Rattle.writer.specs.Laid.{linked}
use Rattle.writer.specs.Skips.{Behind}
use Rattle.laying.specs.Lays.{Lays, lays_none, lays_then, Stored, RefersTo}
use Rattle.laying.proofs.HeadsLaws.{lays_one}
use Rattle.laying.specs.Marks.{mark_words, marks, more_of}

-- ---- a loop over the members of a set
-- those above `done` are left, from place c on
pub record Marking (a b : List ℕ) (k : ℕ) (s : Set) (on first : ℕ) (left : List ℕ) (c : ℕ) : Type 0 where
  pub same : length b ≡ length a
  pub done : ℕ
  pub left_is : left ≡ above s done
  pub rest : (d : List ℕ) (e : ℕ) → Lays b d c e (marks k left on c) → Lays a d first e (marks k (members s) on first)

pub marking_first : (a : List ℕ) (k : ℕ) (s : Set) (on first : ℕ) {left : List ℕ} → left ≡ members s → Marking a a k s on first left first
marking_first a k s on first e =
    record { same = refl; done = 0; left_is = e ∙ sym (above_start s); rest = λ d x L. rw e at L }

-- the first that is left is the next member, and the others are those above it
first_above : (s : Set) (n r : ℕ) (rest : List ℕ) → r ∷ rest ≡ above s n → rest ≡ above s r
first_above s n r rest e = go (dec_lt (next_member s n) places)
  where
    go : Dec (next_member s n < places) → rest ≡ above s r
    go (yes l) =
        let f = above_next s n (next_member s n) refl l in
        let same : r ≡ next_member s n = cc in
        let others : rest ≡ above s (next_member s n) = cc in
        rw same others
    go (no g) = let f = above_end s n (next_ends s n refl (omega (arith, g))) in cc

-- what follows a record: more of them where the next number is one, or what follows them all
more_is : (s : Set) (on r n m : ℕ) → n ≡ next_member s r → (n < places → m ≡ 1) → (places ≤ n → m ≡ on) → Dec (n < places) → m ≡ more_of (above s r) on
unfolding more_of
more_is s on r n m e p q (yes h) = p h ∙ ap (λ xs. more_of xs on) (sym (above_next s r n (sym e) h))
more_is s on r n m e p q (no h) = q (omega arith) ∙ ap (λ xs. more_of xs on) (sym (above_end s r (next_ends s r e (omega arith))))

pub follows_is : (s : Set) (on : ℕ) {n m : ℕ} → n ≡ next_member s 0 → (n < places → m ≡ 1) → (places ≤ n → m ≡ on) → m ≡ more_of (members s) on
follows_is s on {n} {m} e p q = more_is s on 0 n m e p q (dec_lt n places) ∙ ap (λ xs. more_of xs on) (above_start s)

module _ {a b : List ℕ} {k : ℕ} {s : Set} {on first c : ℕ} {left : List ℕ} (G : Marking a b k s on first left c) where
  pub marking_last : left ≡ [] → Lays a b first c (marks k (members s) on first)
  unfolding marks
  marking_last h = G.rest b c (rw h (lays_none b c))

  pub marking_next : {d rest : List ℕ} {r n m e w : ℕ} → left ≡ r ∷ rest → n ≡ next_member s r → (n < places → m ≡ 1) → (places ≤ n → m ≡ on) → Behind c 1 e
      → RefersTo m e w → Stored b d c (k ∷ w ∷ r ∷ 0 ∷ 0 ∷ 0 ∷ 0 ∷ 0 ∷ []) → Marking a d k s on first rest e
  unfolding marks mark_words
  marking_next {d} {rest} {r} {n} {m} {e} {w} l q i j B R S =
      let above_it = first_above s G.done r rest (sym l ∙ G.left_is) in
      record {
        same = S.same ∙ G.same;
        done = r;
        left_is = above_it;
        rest = λ d' e' L.
            let o : m ≡ more_of rest on = more_is s on r n m q i j (dec_lt n places) ∙ ap (λ xs. more_of xs on) (sym above_it) in
            let one : Lays b d c e (mark_words k (linked (more_of rest on) (suc c)) r ∷ []) =
            lays_one (mark_words k (linked (more_of rest on) (suc c)) r) B S
            (λ h g. ap (λ v. k ∷ v ∷ r ∷ 0 ∷ 0 ∷ 0 ∷ 0 ∷ 0 ∷ []) (R.is h ∙ ap₂ linked o g)) in
            let z : c + 1 ≡ suc c = omega arith in
            G.rest d' e' (rw l (rw z at (lays_then (mark_words k (linked (more_of rest on) (suc c)) r ∷ []) (marks k rest on) one L)));
      }
