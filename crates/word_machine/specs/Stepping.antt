-- Stores into the newest frame, and frames with other goals.
use Rattle.std.specs.Prelude.{ℕ, ◌+◌, ◌*◌, ◌≤◌, ◌≡◌, refl, true, List, ◌≢◌, length, get_or, set}
use Rattle.std.proofs.Common.{arith, length-set, get_or-set_other}
use Rattle.language.specs.Lists.{put}
use Rattle.language.specs.Program.{Goals}
use Rattle.language.specs.Typing.{is_variable, is_region}
use Rattle.language.specs.Frames.{Value, with_goals, giving}
use Rattle.language.specs.AcceptedRun.{RegionFrame, with_frame}
use Rattle.language.specs.Answers.{program}
use Rattle.language.specs.Format.{max_variables, max_regions}
use Rattle.region_graph.specs.Shared.{variable_top, region_top}
use Rattle.safety.specs.Premises.{Accepted, laws}
use Rattle.word_machine.specs.Tables.{Tables, Tabled}
use Rattle.word_machine.specs.Machine.{regions_from, frame_words, value_place, region_place, call_place}
use Rattle.word_machine.specs.Successors.{Todo}
use Rattle.word_machine.specs.Copies.{set_related}
use Rattle.word_machine.specs.Relation.{Where, Later, Means, Names, not_later, sig, FrameOk, Waiting, frame_later, waiting_later}

module _ {f : List ℕ} {T : Tables} (B : Tabled f T) (A : Accepted (program f)) where
  -- a frame with other goals
  pub frame_goals : {fw : List ℕ} {L : Where} {k i j : ℕ} {e : RegionFrame} {gs : Goals} → FrameOk B fw k L i e → Todo B e.frame.procedure j gs
      → FrameOk B fw k L j (with_frame e (with_goals e.frame gs))
  unfolding with_frame with_goals
  frame_goals G d = record { fits = G.fits; values = G.values; regions = G.regions; todo = d }

  -- more is made, words stay
  pub frame_more : {fw : List ℕ} {L L' : Where} {k i : ℕ} {e : RegionFrame} → Later L L' → FrameOk B fw k L i e → FrameOk B fw k L' i e
  frame_more t G = frame_later B t refl (λ j a b. refl) G

  pub waiting_more : {fw : List ℕ} {L L' : Where} {q k : ℕ} {zs : List ℕ} {fs : List RegionFrame} → Later L L' → Waiting B fw L q zs k fs
      → Waiting B fw L' q zs k fs
  waiting_more t W = waiting_later B t refl (λ j h. refl) refl W

  module _ {fw : List ℕ} {L : Where} {k i : ℕ} {e : RegionFrame} (G : FrameOk B fw k L i e) where
    -- ---- variable x gets the word w, which stands for the value a
    module _ (x : ℕ) (v : is_variable (sig f e.frame.procedure) x ≡ true) (w : ℕ) where
      low : 1 ≤ x
      low = (variable_top _ _ (laws A e.frame.procedure) x v).0

      high : x ≤ max_variables
      high = (variable_top _ _ (laws A e.frame.procedure) x v).1

      long : length (set fw (value_place k x) w) ≡ length fw
      long = length-set fw (value_place k x) w

      other : (j : ℕ) → j ≢ value_place k x → get_or (set fw (value_place k x) w) j 0 ≡ get_or fw j 0
      other j ne = get_or-set_other fw (value_place k x) j w 0 ne

      pub set_frame : (a : Value) → Means L w a → FrameOk B (set fw (value_place k x) w) k L i (with_frame e (giving e.frame x a))
      unfolding with_frame giving
      set_frame a s = record {
        fits = omega (arith, G.fits, long);
        values = λ y l h u. set_related (Means L) (frame_words * k) fw x w a e.frame.values y (omega (arith, G.fits, high)) s (G.values y l h u);
        regions = λ r l h. rw (other (region_place k r) (λ z. omega (arith, high))) (G.regions r l h);
        todo = G.todo;
      }

      pub set_waiting : {q : ℕ} {zs : List ℕ} {fs : List RegionFrame} → Waiting B fw L q zs k fs → Waiting B (set fw (value_place k x) w) L q zs k fs
      set_waiting W =
          waiting_later B (not_later L) long (λ j h. other j (λ z. omega arith)) (other (call_place k) (λ z. omega (arith, high))) W

    -- ---- region number r gets the place w of the region numbered s
    module _ (r : ℕ) (v : is_region (sig f e.frame.procedure) r ≡ true) (w : ℕ) where
      low' : 1 ≤ r
      low' = (region_top _ _ (laws A e.frame.procedure) r v).0

      high' : r ≤ max_regions
      high' = (region_top _ _ (laws A e.frame.procedure) r v).1

      long' : length (set fw (region_place k r) w) ≡ length fw
      long' = length-set fw (region_place k r) w

      other' : (j : ℕ) → j ≢ region_place k r → get_or (set fw (region_place k r) w) j 0 ≡ get_or fw j 0
      other' j ne = get_or-set_other fw (region_place k r) j w 0 ne

      pub name_frame : (s : ℕ) → Names L w s → FrameOk B (set fw (region_place k r) w) k L i (record { frame = e.frame; stands = put e.stands r s })
      name_frame s n = record {
        fits = omega (arith, G.fits, long');
        values = λ y l h u. rw (other' (value_place k y) (λ z. omega (arith, low'))) (G.values y l h u);
        regions = λ q l h. set_related (Names L) (frame_words * k + regions_from) fw r w s e.stands q (omega (arith, G.fits, high')) n (G.regions q l h);
        todo = G.todo;
      }

      pub name_waiting : {q : ℕ} {zs : List ℕ} {fs : List RegionFrame} → Waiting B fw L q zs k fs → Waiting B (set fw (region_place k r) w) L q zs k fs
      name_waiting W =
          waiting_later B (not_later L) long' (λ j h. other' j (λ z. omega arith)) (other' (call_place k) (λ z. omega (arith, high'))) W
