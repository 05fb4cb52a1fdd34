-- What a layer of records promises, whether or not the slice has room for them: where they end, and that they stand there if they fit.
use Rattle.std.specs.Prelude.{ℕ, suc, ◌+◌, ◌*◌, ◌≤◌, ◌<◌, List, [], ◌∷◌, ◌++◌, ◌≡◌, refl, length}
use Rattle.std.proofs.Common.{arith, ap, sym, ◌∙◌, length-append}
use Rattle.std.proofs.Math.Decide.{dec_lt}
use Rattle.language.specs.Format.{record_bytes, max_records}
use Rattle.language.specs.File.{Kind, row}
use Rattle.language.specs.Tree.{Tree, end, node, Words, no_words, plain, leads}
use Rattle.language.specs.Layout.{size, size_words, reference, word_list, lay, lay_words}
use Rattle.chains.specs.Layout.{lay_length, lay_words_length}
use Rattle.writer.specs.Laid.{Laid, laid_none, laid_then, laid_before, linked}
use Rattle.writer.specs.Skips.{Behind, behind_none}

-- records rs were laid from place c on, r is the place behind them
pub record Lays (a b : List ℕ) (c r : ℕ) (rs : List (List ℕ)) : Type 0 where
  pub same : length b ≡ length a
  pub place : Behind c (length rs) r
  pub room : c + length rs ≤ max_records → record_bytes * (c + length rs) ≤ length a → Laid a b c rs

pub lays_none : (a : List ℕ) (c : ℕ) → Lays a a c c []
lays_none a c = record { same = refl; place = behind_none c; room = λ p q. laid_none a c }

-- first xs, then what follows them, wherever that is
pub lays_then : {a b d : List ℕ} {c m r : ℕ} (xs : List (List ℕ)) (ys : ℕ → List (List ℕ)) → Lays a b c m xs → Lays b d m r (ys m)
    → Lays a d c r (xs ++ ys (c + length xs))
lays_then {a} {b} {d} {c} {m} {r} xs ys p q = go (dec_lt max_records (c + length xs))
  where
    l : length (xs ++ ys (c + length xs)) ≡ length xs + length (ys (c + length xs))
    l = length-append xs (ys (c + length xs))

    s : length d ≡ length a
    s = q.same ∙ p.same

    go : Dec (max_records < c + length xs) → Lays a d c r (xs ++ ys (c + length xs))
    go (yes h) = record {
      same = s;
      place = record { fits = λ g. absurd (omega (arith, l)); over = λ g. q.place.over (omega (arith, p.place.over h)) };
      room = λ g k. absurd (omega (arith, l));
    }
    go (no h) =
        let e : m ≡ c + length xs = p.place.fits (omega arith) in
        let k : length (ys m) ≡ length (ys (c + length xs)) = ap (λ n. length (ys n)) e in
        record {
          same = s;
          place = record {
            fits = λ g. omega (arith, l, k, q.place.fits (omega (arith, l, k)));
            over = λ g. q.place.over (omega (arith, l, k));
          };
          room = λ g o.
              laid_then refl (p.room (omega arith) (omega (arith, l)))
              (rw e at (q.room (omega (arith, l, k)) (omega (arith, l, k, p.same))));
        }

-- one record was stored as record c, if the slice has room for it
pub record Stored (a b : List ℕ) (c : ℕ) (w : List ℕ) : Type 0 where
  pub same : length b ≡ length a
  pub there : record_bytes * c + record_bytes ≤ length a → Laid a b c (w ∷ [])

-- first what its words lead to, then the record in front of that
pub lays_before : {a b d : List ℕ} {c m r : ℕ} {v : List ℕ} (w : List ℕ) (ys : ℕ → List (List ℕ)) → Behind c 1 m → Lays a b m r (ys m) → Stored b d c v
    → (suc c + length (ys (suc c)) ≤ max_records → m ≡ suc c → r ≡ suc c + length (ys (suc c)) → v ≡ w) → Lays a d c r (w ∷ ys (suc c))
lays_before {a} {b} {d} {c} {m} {r} {v} w ys B p S e = go (dec_lt max_records (suc c))
  where
    go : Dec (max_records < suc c) → Lays a d c r (w ∷ ys (suc c))
    go (yes h) = record {
      same = S.same ∙ p.same;
      place = record { fits = λ g. absurd (omega arith); over = λ g. p.place.over (omega (arith, B.over (omega arith))) };
      room = λ g k. absurd (omega arith);
    }
    go (no h) =
        let n : m ≡ suc c = omega (arith, B.fits (omega arith)) in
        let P : Lays a b (suc c) r (ys (suc c)) = rw n at p in
        record {
          same = S.same ∙ p.same;
          place = record { fits = λ g. omega (arith, P.place.fits (omega arith)); over = λ g. P.place.over (omega arith) };
          room = λ g k.
              let u : v ≡ w = e (omega arith) n (P.place.fits (omega arith)) in
              rw (sym u) (laid_before (omega arith) (P.room (omega arith) (omega arith)) (S.there (omega (arith, P.same))));
        }

-- ---- trees
-- whatever place it is, a chain that goes on where w is not 0 is referred to as the tree t is
abbrev pub GoesOn : ℕ → Tree → Type 0
GoesOn w t = (c : ℕ) → linked w c ≡ reference c t

-- the record of a node, where its chain goes on if `on` is not 0, and what its words lead to
unfoldable pub head_of : Kind → ℕ → Words → ℕ → List (List ℕ)
head_of k on ws c = ((row k).kind ∷ linked on (suc c + size_words ws) ∷ word_list (suc c) ws) ∷ lay_words ws (suc c)

pub head_length : (k : Kind) (on : ℕ) (ws : Words) (c : ℕ) → length (head_of k on ws c) ≡ suc (size_words ws)
unfolding head_of
head_length k on ws c = ap suc (lay_words_length ws (suc c))

module _ {a b : List ℕ} {c r : ℕ} where
  pub lays_number : (n : ℕ) (ws : Words) → Lays a b c r (lay_words ws c) → Lays a b c r (lay_words (plain n ws) c)
  unfolding lay_words
  lays_number n ws p = p

pub lays_no_words : (a : List ℕ) (c : ℕ) → Lays a a c c (lay_words no_words c)
unfolding lay_words
lays_no_words a c = lays_none a c

pub lays_end : (a : List ℕ) (c : ℕ) → Lays a a c c (lay end c)
unfolding lay
lays_end a c = lays_none a c

-- first what a word leads to, then what the later words lead to
pub lays_leads : {a b d : List ℕ} {c m r : ℕ} (t : Tree) (ws : Words) → Lays a b c m (lay t c) → Lays b d m r (lay_words ws m)
    → Lays a d c r (lay_words (leads t ws) c)
unfolding lay_words
lays_leads {c = c} t ws p q = rw (sym (lay_length t c)) (lays_then (lay t c) (lay_words ws) p q)

-- the parts, then the record in front of them
pub lays_head : {a b d : List ℕ} {c m r : ℕ} {v : List ℕ} (k : Kind) (on : ℕ) (ws : Words) → Behind c 1 m → Lays a b m r (lay_words ws m) → Stored b d c v
    → (r ≤ max_records → m ≡ suc c → v ≡ (row k).kind ∷ linked on r ∷ word_list m ws) → Lays a d c r (head_of k on ws c)
unfolding head_of
lays_head {c = c} {m = m} {r = r} k on ws B p S e =
    lays_before ((row k).kind ∷ linked on (suc c + size_words ws) ∷ word_list (suc c) ws) (lay_words ws) B p S
    (λ g n o.
    let h : r ≡ suc c + size_words ws = o ∙ ap (λ s. suc c + s) (lay_words_length ws (suc c)) in
    rw (sym h, sym n) (e (omega arith) n))

-- a node's record with its parts, then the rest of its chain
pub lays_node : {a b d : List ℕ} {c m r : ℕ} (k : Kind) (on : ℕ) (t : Tree) (ws : Words) → GoesOn on t → Lays a b c m (head_of k on ws c) → Lays b d m r (lay t m)
    → Lays a d c r (lay (node k t ws) c)
unfolding head_of lay
lays_node {a} {b} {d} {c} {m} {r} k on t ws g p q =
    let n : c + length (head_of k on ws c) ≡ suc c + size_words ws = omega (arith, head_length k on ws c) in
    let u : Lays a d c r (head_of k on ws c ++ lay t (suc c + size_words ws)) = rw n at (lays_then (head_of k on ws c) (lay t) p q) in
    rw (sym (g (suc c + size_words ws))) u

-- the parts, the rest of its chain, then the record in front of all that
pub lays_front : {a b d e : List ℕ} {c m n r : ℕ} {v : List ℕ} (k : Kind) (on : ℕ) (t : Tree) (ws : Words) → GoesOn on t → Behind c 1 m
    → Lays a b m n (lay_words ws m) → Lays b d n r (lay t n) → Stored d e c v → (n ≤ max_records → m ≡ suc c → v ≡ (row k).kind ∷ linked on n ∷ word_list m ws)
    → Lays a e c r (lay (node k t ws) c)
unfolding lay
lays_front {a} {b} {d} {e} {c} {m} {n} {r} {v} k on t ws g B p q S h =
    let ys : ℕ → List (List ℕ) = λ i. lay_words ws i ++ lay t (i + size_words ws) in
    let l : m + length (lay_words ws m) ≡ m + size_words ws = ap (λ i. m + i) (lay_words_length ws m) in
    let u : Lays a d m r (ys m) = rw l at (lays_then (lay_words ws m) (lay t) p q) in
    lays_before ((row k).kind ∷ reference (suc c + size_words ws) t ∷ word_list (suc c) ws) ys B u S
    (λ i o j.
    let x : length (ys (suc c)) ≡ size_words ws + length (lay t (suc c + size_words ws)) =
    length-append (lay_words ws (suc c)) (lay t (suc c + size_words ws)) ∙ ap (λ z. z + length (lay t (suc c + size_words ws))) (lay_words_length ws (suc c)) in
    let y : n ≡ suc c + size_words ws = omega (arith, p.place.fits (omega (arith, x, lay_words_length ws m)), lay_words_length ws m) in
    rw (sym y, sym (g n), sym o) (h (omega (arith, x)) o))

-- ---- references that the code makes, which fit in a word
-- x refers to place c, if w is not 0
pub record RefersTo (w c x : ℕ) : Type 0 where
  pub small : x ≤ max_records
  pub is : c ≤ max_records → x ≡ linked w c

-- x refers to the records from place c up to place e, if there are any
pub record Spans (c e x : ℕ) : Type 0 where
  pub small : x ≤ max_records
  pub none : c ≡ e → x ≡ 0
  pub some : (c ≡ e → ⊥) → c ≤ max_records → x ≡ c

pub span_is : {c e x : ℕ} (t : Tree) → Spans c e x → e ≤ max_records → e ≡ c + size t → x ≡ reference c t
unfolding reference size
span_is end p l n = p.none (omega arith)
span_is (node k t ws) p l n = p.some (λ h. omega arith) (omega arith)

pub lays_span : {a b : List ℕ} {c e x : ℕ} (t : Tree) → Spans c e x → Lays a b c e (lay t c) → e ≤ max_records → (x ≡ reference c t) × (e ≡ c + size t)
lays_span {c = c} {e = e} {x = x} t p L l = go (dec_lt max_records (c + length (lay t c)))
  where
    go : Dec (max_records < c + length (lay t c)) → (x ≡ reference c t) × (e ≡ c + size t)
    go (yes h) = absurd (omega (arith, L.place.over h))
    go (no h) = let n : e ≡ c + size t = omega (arith, L.place.fits (omega arith), lay_length t c) in (span_is t p l n, n)
