-- Parts of a profile, one behind the other, make the whole.
use Rattle.std.specs.Prelude.{ℕ, zero, suc, ◌≡◌, refl, List, [], ◌∷◌, ◌++◌}
use Rattle.std.proofs.Common.{sym, ap, ◌∙◌, append_assoc}
use Rattle.lines.specs.Put.{Put, put_none, put_then}
use Rattle.language.specs.Machine.{Lent}
use Rattle.word_machine.specs.Tables.{Tables}
use Rattle.profiling.specs.declared.Line.{Line}
use Rattle.profiling.specs.Statement.{held_after, CarriesOut, Lines, none, same, more, line_text, text_of}
use Rattle.profiling.specs.Tallying.{Tally}
use Rattle.profiling.specs.Standing.{Stand, words_in, StandsAfter, held_by, held_here, carries_here}

append_none : (xs : List Line) → xs ++ [] ≡ xs
append_none [] = refl
append_none (x ∷ xs) = ap (λ ys. x ∷ ys) (append_none xs)

-- ---- the lines up to b and those from b on
pub lines_join : {f : List ℕ} {a b c : ℕ} {xs ys : List Line} → Lines f a b xs → Lines f b c ys → Lines f a c (xs ++ ys)
lines_join {xs = xs} L none = rw (append_none xs) L
lines_join L (same M e) = same (lines_join L M) e
lines_join {xs = xs} L (more {ls = ls} M d c) = rw (← append_assoc xs ls _) (more (lines_join L M) d c)

pub text_join : (xs ys : List Line) → text_of (xs ++ ys) ≡ text_of xs ++ text_of ys
unfolding text_of
text_join [] ys = refl
text_join (x ∷ xs) ys = ap (λ t. line_text x ++ t) (text_join xs ys) ∙ sym (append_assoc (line_text x) (text_of xs) (text_of ys))

text_more : (xs : List Line) (l : Line) → text_of (xs ++ (l ∷ [])) ≡ text_of xs ++ line_text l
unfolding text_of
text_more [] l = append_ℕ (line_text l)
  where
    append_ℕ : (t : List ℕ) → t ++ [] ≡ t
    append_ℕ [] = refl
    append_ℕ (x ∷ t) = ap (λ s. x ∷ s) (append_ℕ t)
text_more (x ∷ xs) l = ap (λ t. line_text x ++ t) (text_more xs l) ∙ sym (append_assoc (line_text x) (text_of xs) (line_text l))

-- ---- what a part writes at the front of a lent memory: the lines of the steps behind a up to n
pub record PartWritten (f : List ℕ) (a n : ℕ) (before after : List ℕ) (at : ℕ) : Type 0 where
  pub lines : List Line
  pub every : Lines f a n lines
  pub put : Put before 0 (text_of lines) after at

pub written_none : (f : List ℕ) (a : ℕ) (b : List ℕ) → PartWritten f a a b b 0
unfolding text_of
written_none f a b = record { lines = []; every = none; put = put_none b 0 }

module _ {f : List ℕ} {T : Tables} {lent : Lent} {n : ℕ} {v w : Stand} {c d : Tally} (H : StandsAfter f T lent n v c) (G : StandsAfter f T lent (suc n) w d)
    {a at : ℕ} {b e : List ℕ} (W : PartWritten f a n b e at) where
  pub written_same : held_by (words_in w) d.held ≡ held_by (words_in v) c.held → PartWritten f a (suc n) b e at
  written_same z = record { lines = W.lines; every = same W.every (held_here G ∙ z ∙ sym (held_here H)); put = W.put }

  carried : (i : ℕ) → (words_in v).goal ≡ i → (i ≡ 0 → ⊥) → CarriesOut f n i
  carried zero t z = absurd (z refl)
  carried (suc j) t z = carries_here H j t

  pub written_more : (held_by (words_in w) d.held ≡ held_by (words_in v) c.held → ⊥) → (i : ℕ) → (words_in v).goal ≡ i → (i ≡ 0 → ⊥) → {x : List ℕ} {k : ℕ}
      → Put e at (line_text (record { step = suc n; held = held_by (words_in w) d.held; goal = i })) x k → PartWritten f a (suc n) b x k
  written_more z i t o p = record {
    lines = W.lines ++ (record { step = suc n; held = held_after f (suc n); goal = i } ∷ []);
    every = more W.every (λ q. z (sym (held_here G) ∙ q ∙ held_here H)) (carried i t o);
    put = rw (text_more W.lines (record { step = suc n; held = held_after f (suc n); goal = i }), held_here G) (put_then W.put p);
  }
