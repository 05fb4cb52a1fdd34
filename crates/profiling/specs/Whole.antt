-- What all parts together write is the profile.
use Rattle.std.specs.Prelude.{ℕ, ◌≤◌, ◌≡◌, refl, List, [], ◌++◌, length, take, Ok}
use Rattle.std.proofs.Common.{arith, sym, ◌∙◌}
use Rattle.std.proofs.Math.Path.{ap, subst}
use Rattle.language.specs.declared.Ending.{Ending}
use Rattle.language.specs.AcceptedRun as Run
use Rattle.language.specs.Machine.{Lent}
use Rattle.language.specs.Machine as D
use Rattle.language.specs.Answers.{program, checked, run_for, ran}
use Rattle.language.specs.Output.{ending_line}
use Rattle.lines.specs.Put.{put_front, put_length}
use Rattle.profiling.specs.declared.Line.{Line}
use Rattle.profiling.specs.Statement.{Lines, none, line_text, text_of, entry_line, Profile}
use Rattle.profiling.specs.Parts.{PartWritten, lines_join, text_join}
use Rattle.profiling.specs.Moving.{EndsAfter}

-- the bytes of the parts so far, whose steps go up to n: each part is what stands at the front of a memory
pub data PartsUpTo (f : List ℕ) : ℕ → List ℕ → Type 0 where
  no_part : PartsUpTo f 0 []
  one_more : {a n at : ℕ} {text before after : List ℕ} → PartsUpTo f a text → PartWritten f a n before after at → at ≤ length after
      → PartsUpTo f n (text ++ take at after)

-- they are the lines of the steps up to n
record Joined (f : List ℕ) (n : ℕ) (text : List ℕ) : Type 0 where
  lines : List Line
  every : Lines f 0 n lines
  is : text ≡ text_of lines

joined : {f : List ℕ} {n : ℕ} {text : List ℕ} → PartsUpTo f n text → Joined f n text
unfolding text_of
joined no_part = record { lines = []; every = none; is = refl }
joined (one_more {text = text} P W h) =
    let J = joined P in
    let e = (put_front W.put (omega (arith, W.put.behind, put_length W.put, h))).front in
    record {
      lines = J.lines ++ W.lines;
      every = lines_join J.every W.every;
      is = ap (λ t. text ++ t) e ∙ ap (λ t. t ++ text_of W.lines) J.is ∙ sym (text_join J.lines W.lines);
    }

module _ (f : List ℕ) (lent : Lent) (c : checked f ≡ Ok tt) (e : Ending) (n : ℕ) (s : EndsAfter f lent e n) where
  ran_is : ran f lent ≡ D.ended_with e n (Run.steps (program f) n)
  unfolding ran run_for
  ran_is = ap (λ v. run_for v f lent) c ∙ s.is

  ending_is : (ran f lent).ending ≡ e
  unfolding D.ended_with
  ending_is = ap (λ r. r.ending) ran_is

  steps_are : (ran f lent).steps ≡ n
  unfolding D.ended_with
  steps_are = ap (λ r. r.steps) ran_is

  -- the entry's line, the parts, and the line of the ending: the whole profile
  pub profile_whole : {text : List ℕ} → PartsUpTo f n text → Profile f lent ((line_text (entry_line f) ++ text) ++ ending_line e n)
  unfolding text_of
  profile_whole P =
      let J = joined P in
      record {
        lines = J.lines;
        every = subst (λ k. Lines f 0 k J.lines) (sym steps_are) J.every;
        written =
            ap (λ t. (line_text (entry_line f) ++ t) ++ ending_line e n) J.is
            ∙ ap (λ x. (line_text (entry_line f) ++ text_of J.lines) ++ ending_line x n) (sym ending_is)
            ∙ ap (λ k. (line_text (entry_line f) ++ text_of J.lines) ++ ending_line (ran f lent).ending k) (sym steps_are);
      }
