-- The profile, part by part: the steps that are done and the lines that are put.
use Rattle.std.specs.Prelude.{ℕ, suc, ◌-◌, ◌≤◌, ◌<◌, ◌≡◌, refl, List, length}
use Rattle.std.proofs.Common.{arith, sym, subst, ◌∙◌}
use Rattle.std.proofs.Math.Decide.{dec_lt}
use Rattle.std.proofs.Math.Path.{ap}
use Rattle.language.specs.declared.Ending.{Ending}
use Rattle.word_machine.specs.Tables.{Tables}
use Rattle.word_machine.specs.Machine.{lent_words}
use Rattle.machine.specs.Words.{words_of}
use Rattle.profiling.specs.Text.{line_bytes}
use Rattle.profiling.specs.declared.Point.{Point}
use Rattle.profiling.specs.declared.Part.{Part}
use Rattle.profiling.specs.declared.Part.TheVariants.{More, Last}
use Rattle.profiling.specs.Standing.{words_in, StandsAfter, at_as, held_by}
use Rattle.profiling.specs.Parts.{PartWritten, written_none, written_same, written_more}
use Rattle.profiling.specs.Moving.{RunStands, EndsAfter, StepOnward, lent_same}
use Rattle.profiling.specs.Noting.{held_at, Notes, no_line, a_line, line_to}

-- From point p: the bytes at the front of `out₁` are the lines of the steps from p to where the run stands afterwards; or of all that were left, and
-- so the run ended. The words with ₁ are those afterwards.
pub data Advances (f : List ℕ) (T : Tables) (l : ℕ) (m rs fw ps : List ℕ) (p : Point) (out m₁ rs₁ fw₁ ps₁ log₁ own₁ out₁ : List ℕ) : Part → Type 0 where
  a_part : {at : ℕ} {q : Point} → RunStands f T l m₁ rs₁ fw₁ ps₁ log₁ own₁ q → p.done < q.done → q.done ≤ l → PartWritten f p.done q.done out out₁ at → at ≤ length out₁
      → Advances f T l m rs fw ps p out m₁ rs₁ fw₁ ps₁ log₁ own₁ out₁ (More at q)
  last_part : {at n : ℕ} {e : Ending} → EndsAfter f (lent_words m rs fw ps l) e n → PartWritten f p.done n out out₁ at → at ≤ length out₁
      → Advances f T l m rs fw ps p out m₁ rs₁ fw₁ ps₁ log₁ own₁ out₁ (Last at e n)

-- ---- the loop: what was at the entry has ₀
pub record Under (f : List ℕ) (T : Tables) (l : ℕ) (m₀ rs₀ fw₀ ps₀ : List ℕ) (p₀ : Point) (out₀ m rs fw ps log own out : List ℕ) (p : Point) (at : ℕ) : Type 0 where
  pub stands : RunStands f T l m rs fw ps log own p
  pub cells : length m ≡ length m₀
  pub regions : length rs ≡ length rs₀
  pub frames : length fw ≡ length fw₀
  pub prints : length ps ≡ length ps₀
  pub size : length out ≡ length out₀
  pub written : PartWritten f p₀.done p.done out₀ out at
  pub fits : at ≤ length out
  pub low : p₀.done ≤ p.done
  pub moved : p₀.done < p.done → p.done ≤ l
  pub still : p.done ≡ p₀.done → at ≡ 0

pub under_first : {f : List ℕ} {T : Tables} {l : ℕ} {m rs fw ps log own : List ℕ} {p : Point} (out : List ℕ) → RunStands f T l m rs fw ps log own p
    → Under f T l m rs fw ps p out m rs fw ps log own out p 0
under_first {f} {p = p} out H = record {
  stands = H;
  cells = refl;
  regions = refl;
  frames = refl;
  prints = refl;
  size = refl;
  written = written_none f p.done out;
  fits = omega arith;
  low = omega arith;
  moved = λ z. absurd (omega arith);
  still = λ z. refl;
}

-- what is held, as the points say it
pub same_held : {f : List ℕ} {T : Tables} {l : ℕ} {m rs fw ps log own : List ℕ} {p : Point} (H : RunStands f T l m rs fw ps log own p)
    → held_by (words_in H.stand) H.tally.held ≡ held_at p
unfolding held_by held_at words_of
same_held H = rw (H.words, H.held)

module _ {f : List ℕ} {T : Tables} {l : ℕ} {m₀ rs₀ fw₀ ps₀ : List ℕ} {p₀ : Point} {out₀ m rs fw ps log own out : List ℕ} {p : Point} {at : ℕ}
    (U : Under f T l m₀ rs₀ fw₀ ps₀ p₀ out₀ m rs fw ps log own out p at) where
  module _ {m₁ rs₁ fw₁ ps₁ log₁ own₁ : List ℕ} {q : Point} (lm : length m₁ ≡ length m) (lr : length rs₁ ≡ length rs) (lf : length fw₁ ≡ length fw) (lp : length ps₁ ≡ length ps)
      (M : StepOnward f T l p m₁ rs₁ fw₁ ps₁ log₁ own₁ q) where
    -- the next point, in the memory that was lent
    later : StandsAfter f T (lent_words m rs fw ps l) (suc p.done) M.stands.stand M.stands.tally
    later = at_as (sym (lent_same m m₁ rs rs₁ fw fw₁ ps ps₁ l lm lr lf lp)) M.next refl refl M.stands.here

    line_is : line_to p q ≡ record { step = suc p.done; held = held_by (words_in M.stands.stand) M.stands.tally.held; goal = p.state.goal }
    line_is =
        ap (λ n. record { step = n; held = held_at q; goal = p.state.goal }) M.next
        ∙ ap (λ h. record { step = suc p.done; held = h; goal = p.state.goal }) (sym (same_held M.stands))

    goal_there : (words_in U.stands.stand).goal ≡ p.state.goal
    unfolding words_of
    goal_there = ap (λ w. w.goal) U.stands.words

    wrote : {out₁ : List ℕ} {at₁ : ℕ} → Notes p q out at out₁ at₁ → PartWritten f p₀.done (suc p.done) out₀ out₁ at₁
    wrote (no_line e) = written_same U.stands.here later U.written (same_held M.stands ∙ e ∙ sym (same_held U.stands))
    wrote (a_line e t) =
        written_more U.stands.here later U.written (λ x. e (sym (same_held M.stands) ∙ x ∙ same_held U.stands)) p.state.goal goal_there M.busy (rw line_is at t)

    pub under_next : {out₁ : List ℕ} {at₁ : ℕ} → Notes p q out at out₁ at₁ → length out₁ ≡ length out → at₁ ≤ length out₁
        → Under f T l m₀ rs₀ fw₀ ps₀ p₀ out₀ m₁ rs₁ fw₁ ps₁ log₁ own₁ out₁ q at₁
    under_next N lo la = record {
      stands = M.stands;
      cells = lm ∙ U.cells;
      regions = lr ∙ U.regions;
      frames = lf ∙ U.frames;
      prints = lp ∙ U.prints;
      size = lo ∙ U.size;
      written = rw M.next (wrote N);
      fits = la;
      low = omega (arith, U.low, M.next);
      moved = λ z. omega (arith, M.next, M.low);
      still = λ z. absurd (omega (arith, U.low, M.next));
    }

  -- ---- the end of a part
  pub under_last : (e : Ending) (m₁ rs₁ fw₁ ps₁ log₁ own₁ : List ℕ) → EndsAfter f (lent_words m rs fw ps l) e p.done
      → Advances f T l m₀ rs₀ fw₀ ps₀ p₀ out₀ m₁ rs₁ fw₁ ps₁ log₁ own₁ out (Last at e p.done)
  under_last e m₁ rs₁ fw₁ ps₁ log₁ own₁ M =
      last_part {n = p.done} (subst (λ x. EndsAfter f x e p.done) (sym (lent_same m₀ m rs₀ rs fw₀ fw ps₀ ps l U.cells U.regions U.frames U.prints)) M)
      U.written U.fits

  pub under_more : line_bytes ≤ length out₀ → length out - at < line_bytes → Advances f T l m₀ rs₀ fw₀ ps₀ p₀ out₀ m rs fw ps log own out (More at p)
  under_more h t = let z = still_on in a_part U.stands z (U.moved z) U.written U.fits
    where
      still_on : p₀.done < p.done
      still_on = elim (dec_lt p₀.done p.done) [ yes y ↦ y | no y ↦ absurd (omega (arith, U.still (omega (arith, U.low)), U.size)) ]
