-- What a failing test goes back to: the frame's words as they were at the try, in an array of the runner's own.
use Prim.Native.Nat.{ℕ, zero, suc, ◌+◌, ◌*◌, ◌≤◌, ◌<◌}
use native.Mathlib.Omega.{arith}
use Rattle.std.specs.Prelude.{◌≡◌, refl, List, length, get_or, set}
use Rattle.std.proofs.Common.{◌∙◌, length-set, get_or-set_other}
use Rattle.language.specs.AcceptedRun.{RegionFrame}
use Rattle.memory.specs.Moved.{moved_length, moved_other, moved_here}
use Rattle.word_machine.specs.Machine.{frame_words, regions_end, call_place, saved_frame, put_back}
use Rattle.word_machine.specs.Relation.{Where, Later, not_later, later_still, later_back}

-- `Frame fw k L i e`: frame k of the words fw, with its next goal at record i, stands for e. `Waits fw L q zs k fs`: the frames below it for fs.
-- Of word_machine's FrameOk and Waiting nothing is used but that they keep as words and places do (frame-later, waiting-later there).
module _ (Frame : List ℕ → ℕ → Where → ℕ → RegionFrame → Type 0) (Waits : List ℕ → Where → ℕ → List ℕ → ℕ → List RegionFrame → Type 0) where
  pub record Keeping : Type 0 where
    pub frame_later : (L L' : Where) → Later L L' → (fw fw' : List ℕ) → length fw' ≡ length fw → (k i : ℕ) (e : RegionFrame)
        → ((j : ℕ) → 1 ≤ j → j ≤ regions_end → get_or fw' (frame_words * k + j) 0 ≡ get_or fw (frame_words * k + j) 0) → Frame fw k L i e → Frame fw' k L' i e
    pub waiting_later : (L L' : Where) → Later L L' → (fw fw' : List ℕ) → length fw' ≡ length fw → (q k : ℕ) (zs : List ℕ) (fs : List RegionFrame)
        → ((j : ℕ) → j < frame_words * k → get_or fw' j 0 ≡ get_or fw j 0) → get_or fw' (call_place k) 0 ≡ get_or fw (call_place k) 0
        → Waits fw L q zs k fs → Waits fw' L' q zs k fs

  -- at the try, with places L₀, the words were `words`: frame k stood for e, once record j is its next goal, over fs. Since then, places became L
  pub record Back (fw own : List ℕ) (k j : ℕ) (L₀ L : Where) (e : RegionFrame) (fs : List RegionFrame) : Type 0 where
    pub words : List ℕ
    pub long : length fw ≡ length words
    pub fits : frame_words * suc k ≤ length fw
    pub newest : Frame words k L₀ j e
    pub waiting : Waits words L₀ e.frame.procedure e.frame.arguments k fs
    pub copy : (i : ℕ) → i < regions_end → get_or own (1 + i) 0 ≡ get_or words (frame_words * k + 1 + i) 0
    pub below : (i : ℕ) → i < frame_words * k → get_or fw i 0 ≡ get_or words i 0
    pub call : get_or fw (call_place k) 0 ≡ get_or words (call_place k) 0
    pub later : Later L₀ L

  -- ---- a try
  pub saves : (fw own : List ℕ) (k j : ℕ) (L : Where) (e : RegionFrame) (fs : List RegionFrame) → regions_end < length own → frame_words * suc k ≤ length fw
      → Frame fw k L j e → Waits fw L e.frame.procedure e.frame.arguments k fs → Back fw (saved_frame k fw own) k j L L e fs
  unfolding saved_frame
  saves fw own k j L e fs room fits F W = record {
    words = fw;
    long = refl;
    fits = fits;
    newest = F;
    waiting = W;
    copy = λ i l. moved_here (frame_words * k + 1) 1 regions_end fw own i l (omega arith);
    below = λ i l. refl;
    call = refl;
    later = not_later L;
  }

  module _ {fw own : List ℕ} {k j : ℕ} {L₀ L : Where} {e : RegionFrame} {fs : List RegionFrame} (S : Back fw own k j L₀ L e fs) where
    -- ---- a step inside: a word of a variable or of a region changes, more is made
    pub still_back : (i v : ℕ) → 1 ≤ i → i ≤ regions_end → Back (set fw (frame_words * k + i) v) own k j L₀ L e fs
    still_back i v l h = record {
      words = S.words;
      long = length-set fw (frame_words * k + i) v ∙ S.long;
      fits = omega (arith, S.fits, length-set fw (frame_words * k + i) v);
      newest = S.newest;
      waiting = S.waiting;
      copy = S.copy;
      below = λ y g. get_or-set_other fw (frame_words * k + i) y v 0 (λ z. omega arith) ∙ S.below y g;
      call = get_or-set_other fw (frame_words * k + i) (call_place k) v 0 (λ z. omega arith) ∙ S.call;
      later = S.later;
    }

    -- .. or several words of variables
    pub still_words : (fw' : List ℕ) → length fw' ≡ length fw → ((i : ℕ) → i < frame_words * k → get_or fw' i 0 ≡ get_or fw i 0)
        → get_or fw' (call_place k) 0 ≡ get_or fw (call_place k) 0 → Back fw' own k j L₀ L e fs
    still_words fw' l h c = record {
      words = S.words;
      long = l ∙ S.long;
      fits = omega (arith, S.fits, l);
      newest = S.newest;
      waiting = S.waiting;
      copy = S.copy;
      below = λ i g. h i g ∙ S.below i g;
      call = c ∙ S.call;
      later = S.later;
    }

    pub later_on : {L' : Where} → Later L L' → Back fw own k j L₀ L' e fs
    later_on t = record {
      words = S.words;
      long = S.long;
      fits = S.fits;
      newest = S.newest;
      waiting = S.waiting;
      copy = S.copy;
      below = S.below;
      call = S.call;
      later = later_still S.later t;
    }

    -- ---- a failing test: the frame's words are put back, places stay
    abbrev pub L₁ : Where
    L₁ = record { region_at = L.region_at; cell_at = L.cell_at; made = L₀.made; cells = L₀.cells }

    put_long : length (put_back k own fw) ≡ length S.words
    unfolding put_back
    put_long = moved_length 1 (frame_words * k + 1) regions_end own fw ∙ S.long

    put_word : (i : ℕ) → 1 ≤ i → i ≤ regions_end → get_or (put_back k own fw) (frame_words * k + i) 0 ≡ get_or S.words (frame_words * k + i) 0
    unfolding put_back
    put_word zero l h = absurd (omega arith)
    put_word (suc i) l h =
        let z : frame_words * k + suc i ≡ frame_words * k + 1 + i = omega arith in
        rw z (moved_here 1 (frame_words * k + 1) regions_end own fw i (omega arith) (omega (arith, S.fits)) ∙ S.copy i (omega arith))

    put_below : (i : ℕ) → i < frame_words * k → get_or (put_back k own fw) i 0 ≡ get_or S.words i 0
    unfolding put_back
    put_below i l = moved_other 1 (frame_words * k + 1) regions_end own fw i (λ y g z. omega arith) ∙ S.below i l

    put_call : get_or (put_back k own fw) (call_place k) 0 ≡ get_or S.words (call_place k) 0
    unfolding put_back
    put_call = moved_other 1 (frame_words * k + 1) regions_end own fw (call_place k) (λ y g z. omega arith) ∙ S.call

    pub back_frame : Keeping → Frame (put_back k own fw) k L₁ j e
    back_frame K = K.frame_later L₀ L₁ (later_back S.later) S.words (put_back k own fw) put_long k j e put_word S.newest

    pub back_waiting : Keeping → Waits (put_back k own fw) L₁ e.frame.procedure e.frame.arguments k fs
    back_waiting K =
        K.waiting_later L₀ L₁ (later_back S.later) S.words (put_back k own fw) put_long e.frame.procedure k e.frame.arguments fs put_below put_call
        S.waiting
