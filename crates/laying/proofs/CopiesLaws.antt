-- Laws of `specs/Copies` that only proofs cite.
use Prim.Native.Nat.{ℕ, suc, ◌+◌, ◌≤◌, ◌<◌}
use native.Mathlib.Omega.{arith}
use native.Mathlib.Decide.{dec_lt}
use mathlib.Core.Bool.{Bool, true, false}
use mathlib.Core.List.{List}
use mathlib.Core.Path.{◌≡◌, refl, ap}
use lib.ListN.{length}
use Rattle.language.specs.Format.{max_records}
use Rattle.language.specs.File.{record_count}
use Rattle.language.specs.Layout.{size, size_words, lay}
use Rattle.chains.specs.Layout.{lay_length, lay_words_length}
use Rattle.chains.specs.Formed.{Formed}
use Rattle.writer.specs.Ready.{Wrote, tree_at, words_at, front_to, ChainReady, RecordReady}
use Rattle.writer.specs.Skips.{Behind}
use Rattle.laying.specs.Lays.{Lays}
use Rattle.laying.specs.Copies.{HasRoom}

-- where records end that end below 4,096
pub ends_at : {c n r : ℕ} → Behind c n r → r ≤ max_records → r ≡ c + n
ends_at {c} {n} {r} p l = go (dec_lt max_records (c + n))
  where
    go : Dec (max_records < c + n) → r ≡ c + n
    go (yes h) = absurd (omega (arith, p.over h))
    go (no h) = p.fits (omega arith)

pub front_size : (f : List ℕ) (i on c : ℕ) → length (front_to f i on c) ≡ suc (size_words (words_at f i))
unfolding front_to
front_size f i on c = ap suc (lay_words_length (words_at f i) (suc c))

-- not written: the records do not fit
pub not_written : (a : List ℕ) {c e : ℕ} (rs : List (List ℕ)) → Behind c (length rs) e → HasRoom (length a) e false → Lays a a c e rs
not_written a {c} {e} rs p h = record {
  same = refl;
  place = p;
  room = λ g k. let n = p.fits g in absurd (omega (arith, h.no_room refl (omega arith)));
}

written_is : {a b : List ℕ} {c e r : ℕ} (rs : List (List ℕ)) → Behind c (length rs) e → Wrote a b c r rs → Lays a b c e rs
written_is rs p W = record { same = W.laid.same; place = p; room = λ g k. W.laid }

module _ {f : List ℕ} (F : Formed f) (a : List ℕ) {i c e : ℕ} (l : i < record_count f) {b : Bool} (h : HasRoom (length a) e b) where
  -- a chain
  module _ (p : Behind c (size (tree_at f i)) e) where
    pub chain_ready : b ≡ true → ChainReady f i c (length a)
    chain_ready t =
        let o = h.yes_room t in
        let n = ends_at p o.0 in
        record { formed = F; below = l; room = omega (arith, o.1, n); few = omega (arith, o.0, n) }

    pub chain_laid : {d : List ℕ} {r : ℕ} → Wrote a d c r (lay (tree_at f i) c) → Lays a d c e (lay (tree_at f i) c)
    chain_laid W = written_is (lay (tree_at f i) c) (rw (lay_length (tree_at f i) c) p) W

    pub chain_not : b ≡ false → Lays a a c e (lay (tree_at f i) c)
    chain_not t = not_written a (lay (tree_at f i) c) (rw (lay_length (tree_at f i) c) p) (rw t at h)

  -- a record
  module _ (p : Behind c (suc (size_words (words_at f i))) e) where
    pub record_ready : b ≡ true → RecordReady f i c (length a)
    record_ready t =
        let o = h.yes_room t in
        let n = ends_at p o.0 in
        record { formed = F; below = l; room = omega (arith, o.1, n); few = omega (arith, o.0, n) }

    pub record_laid : (on : ℕ) {d : List ℕ} {r : ℕ} → Wrote a d c r (front_to f i on c) → Lays a d c e (front_to f i on c)
    record_laid on W = written_is (front_to f i on c) (rw (front_size f i on c) p) W

    pub record_not : (on : ℕ) → b ≡ false → Lays a a c e (front_to f i on c)
    record_not on t = not_written a (front_to f i on c) (rw (front_size f i on c) p) (rw t at h)
