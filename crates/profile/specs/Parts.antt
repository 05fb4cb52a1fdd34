-- What the program's loop knows: where the run stands, and that the lent memory keeps its sizes.
use Rattle.std.specs.Prelude.{ℕ, ◌*◌, ◌≤◌, ◌<◌, ◌^◌, ◌≡◌, refl, List, length, take}
use Rattle.std.proofs.Common.{arith, ◌∙◌, length-take-le}
use Rattle.language.specs.declared.Ending.{Ending}
use Rattle.language.specs.Machine.{holds}
use Rattle.language.specs.Output.{ending_line}
use Rattle.lines.specs.Widths.{ending_bytes}
use Rattle.lines.specs.Put.{Put, put_length}
use Rattle.lines.specs.Answers.{ending_length}
use Rattle.word_machine.specs.Tables.{Tables}
use Rattle.word_machine.specs.Machine.{frame_words}
use Rattle.running.specs.Lent.{frames_lent}
use Rattle.profiling.specs.declared.Point.{Point}
use Rattle.profiling.specs.declared.Part.{Part}
use Rattle.profiling.specs.declared.Part.TheVariants.{More, Last}
use Rattle.profiling.specs.Text.{line_bytes}
use Rattle.profiling.specs.Moving.{RunStands}
use Rattle.profiling.specs.Advancing.{Advances, a_part, last_part}

-- room for 80 lines
abbrev pub output_bytes : ℕ
output_bytes = 80 * line_bytes

-- a part that is not the last: where the run stands behind it
pub record PartOnward (f : List ℕ) (T : Tables) (l : ℕ) (p : Point) (m rs fw ps log own out : List ℕ) (at : ℕ) (q : Point) : Type 0 where
  pub stands : RunStands f T l m rs fw ps log own q
  pub later : p.done < q.done
  pub low : q.done ≤ l
  pub fits : at ≤ length out

module _ {f : List ℕ} {T : Tables} {l : ℕ} {m rs fw ps : List ℕ} {p : Point} {out m₁ rs₁ fw₁ ps₁ log₁ own₁ out₁ : List ℕ} where
  pub advanced : {r : Part} {at : ℕ} {q : Point} → Advances f T l m rs fw ps p out m₁ rs₁ fw₁ ps₁ log₁ own₁ out₁ r → r ≡ More at q → PartOnward f T l p m₁ rs₁ fw₁ ps₁ log₁ own₁ out₁ at q
  advanced {at = at} {q = q} (a_part {at = a} {q = x} s d u w h) z =
      let e : a ≡ at = cc in
      let g : x ≡ q = cc in
      rw (← e) (rw (← g) (record { stands = s; later = d; low = u; fits = h }))
  advanced (last_part e w h) z = let x : ◌≡◌ {A = ℕ} 0 1 = cc in absurd (omega arith)

  pub last_fits : {r : Part} {at n : ℕ} {e : Ending} → Advances f T l m rs fw ps p out m₁ rs₁ fw₁ ps₁ log₁ own₁ out₁ r → r ≡ Last at e n → at ≤ length out₁
  last_fits (a_part s d u w h) z = let x : ◌≡◌ {A = ℕ} 0 1 = cc in absurd (omega arith)
  last_fits {at = at} (last_part {at = a} e w h) z = let e : a ≡ at = cc in rw (← e) h

-- ---- the loop: what was at the entry has ₀
pub record PartsGoing (f : List ℕ) (T : Tables) (l : ℕ) (m₀ rs₀ fw₀ ps₀ out₀ m rs fw ps log own out : List ℕ) (p : Point) : Type 0 where
  pub stands : RunStands f T l m rs fw ps log own p
  pub cells : length m ≡ length m₀
  pub regions : length rs ≡ length rs₀
  pub frames : length fw ≡ length fw₀
  pub prints : length ps ≡ length ps₀
  pub size : length out ≡ length out₀

pub going_first : {f : List ℕ} {T : Tables} {l : ℕ} {m rs fw ps log own : List ℕ} {p : Point} (out : List ℕ) → RunStands f T l m rs fw ps log own p
    → PartsGoing f T l m rs fw ps out m rs fw ps log own out p
going_first out s = record { stands = s; cells = refl; regions = refl; frames = refl; prints = refl; size = refl }

pub going_on_law : {f : List ℕ} {T : Tables} {l : ℕ} {m₀ rs₀ fw₀ ps₀ out₀ m rs fw ps log own out m₁ rs₁ fw₁ ps₁ log₁ own₁ out₁ : List ℕ} {p q : Point}
    → PartsGoing f T l m₀ rs₀ fw₀ ps₀ out₀ m rs fw ps log own out p → length m₁ ≡ length m → length rs₁ ≡ length rs → length fw₁ ≡ length fw → length ps₁ ≡ length ps
    → length out₁ ≡ length out → RunStands f T l m₁ rs₁ fw₁ ps₁ log₁ own₁ q → PartsGoing f T l m₀ rs₀ fw₀ ps₀ out₀ m₁ rs₁ fw₁ ps₁ log₁ own₁ out₁ q
going_on_law G a b c d e s = record { stands = s; cells = a ∙ G.cells; regions = b ∙ G.regions; frames = c ∙ G.frames; prints = d ∙ G.prints; size = e ∙ G.size }

-- ---- the last line
pub ending_fits : {b m : List ℕ} {k : ℕ} (a : Ending) (n : ℕ) → n < 2 ^ 64 → ending_bytes ≤ length b → Put b 0 (ending_line a n) m k → k ≤ length m
ending_fits a n h l P = omega (arith, P.behind, ending_length a n h, put_length P, l)

-- ---- a part has room for a line
pub line_fits : (room : ℕ) (out : List ℕ) → line_bytes ≤ room → room ≤ length out → line_bytes ≤ length (take room out)
line_fits room out a b = rw (length-take-le room out b) a

-- ---- the entry has a frame
pub frame_room : (n : ℕ) → frames_lent ≡ n → 0 < holds n frame_words
unfolding holds
frame_room n e = rw (← e) (omega arith)
