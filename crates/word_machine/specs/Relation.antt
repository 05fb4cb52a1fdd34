-- The words stand for a state of the definition's run: frames, waiting frames, memory, printed numbers.
use Rattle.std.specs.Prelude.{ℕ, suc, ◌+◌, ◌*◌, ◌≤◌, ◌<◌, ◌≡◌, refl, true, List, [], ◌∷◌, map, ◌⊎◌, length, get_or}
use Rattle.std.proofs.Common.{arith, sym, ap, ◌∙◌}
use Rattle.sets.specs.Sets.{member}
use Rattle.sets.specs.Members.{in_list}
use Rattle.language.specs.File.{word, record_count}
use Rattle.language.specs.Program.{Signature, signature_of, parameters_of, arguments_in, variables_in}
use Rattle.language.specs.Typing.{is_variable, is_region}
use Rattle.language.specs.Regions.{mapping, image_in}
use Rattle.language.specs.Lifetimes.{born, start_held}
use Rattle.language.specs.Frames.{Value}
use Rattle.language.specs.AcceptedRun.{RegionFrame, Memory}
use Rattle.language.specs.Machine.{Room}
use Rattle.language.specs.Answers.{program}
use Rattle.language.specs.Format.{call_procedure, max_variables, max_regions}
use Rattle.memory.specs.Memory.{most}
use Rattle.heap.specs.Standing.{StandsFor, stands_more}
use Rattle.heap.specs.Represents.{Represents}
use Rattle.word_machine.specs.Tables.{Tables, slot_of, given_of, PassingMode, Tabled}
use Rattle.word_machine.specs.Machine.{regions_from, regions_end, frame_words, MachineWords, goal_place, value_place, region_place, call_place}
use Rattle.word_machine.specs.Printing.{Printed}
use Rattle.word_machine.specs.Successors.{Todo}

-- where regions and cells are, by their numbers, and how many were made
pub record Where : Type 0 where
  pub region_at : ℕ → ℕ
  pub cell_at : ℕ → ℕ
  pub made : ℕ
  pub cells : ℕ

abbrev pub where_in : Memory → (ℕ → ℕ) → (ℕ → ℕ) → Where
where_in M ρ χ = record { region_at = ρ; cell_at = χ; made = M.made; cells = length M.cells }

-- a word stands for a value; a word stands for the region numbered s, if s is one
abbrev pub Means : Where → ℕ → Value → Type 0
Means L w v = StandsFor L.cell_at L.cells w v

abbrev pub Names : Where → ℕ → ℕ → Type 0
Names L w s = (s ≡ 0 → ⊥) → (s ≤ L.made) × (w ≡ L.region_at s)

-- more may be made later
pub record Later (L L' : Where) : Type 0 where
  pub same_cells : (j : ℕ) → j < L.cells → L'.cell_at j ≡ L.cell_at j
  pub more_cells : L.cells ≤ L'.cells
  pub same_regions : (s : ℕ) → s ≤ L.made → L'.region_at s ≡ L.region_at s
  pub more_regions : L.made ≤ L'.made

pub not_later : (L : Where) → Later L L
not_later L = record { same_cells = λ j l. refl; more_cells = omega arith; same_regions = λ s l. refl; more_regions = omega arith }

pub later_still : {L L' L'' : Where} → Later L L' → Later L' L'' → Later L L''
later_still t u = record {
  same_cells = λ j l. u.same_cells j (omega (arith, t.more_cells)) ∙ t.same_cells j l;
  more_cells = omega (arith, t.more_cells, u.more_cells);
  same_regions = λ s l. u.same_regions s (omega (arith, t.more_regions)) ∙ t.same_regions s l;
  more_regions = omega (arith, t.more_regions, u.more_regions);
}

-- places that agree on what was made at L: what is made since may be forgotten
pub later_back : {L L' : Where} → Later L L' → Later L (record { region_at = L'.region_at; cell_at = L'.cell_at; made = L.made; cells = L.cells })
later_back t = record { same_cells = t.same_cells; more_cells = omega arith; same_regions = t.same_regions; more_regions = omega arith }

pub means_later : {L L' : Where} → Later L L' → (w : ℕ) (v : Value) → Means L w v → Means L' w v
means_later {L} {L'} t w v s = stands_more L.cell_at L'.cell_at L.cells L'.cells t.same_cells t.more_cells w v s

pub names_later : {L L' : Where} → Later L L' → (w s : ℕ) → Names L w s → Names L' w s
names_later t w s h z = let p = h z in (omega (arith, p.0, t.more_regions), p.1 ∙ sym (t.same_regions s p.0))

abbrev pub sig : List ℕ → ℕ → Signature
sig f p = signature_of (program f) p

module _ {f : List ℕ} {T : Tables} (B : Tabled f T) where
  -- frame k of the words fw, whose next goal is at record i, stands for the frame e
  pub record FrameOk (fw : List ℕ) (k : ℕ) (L : Where) (i : ℕ) (e : RegionFrame) : Type 0 where
    pub fits : frame_words * suc k ≤ length fw
    pub values : (x : ℕ) → 1 ≤ x → x ≤ max_variables → is_variable (sig f e.frame.procedure) x ≡ true → Means L (get_or fw (value_place k x) 0) (e.frame.values x)
    pub regions : (r : ℕ) → 1 ≤ r → r ≤ max_regions → Names L (get_or fw (region_place k r) 0) (e.stands r)
    pub todo : Todo B e.frame.procedure i e.frame.goals

  -- record i is a call of q with arguments zs, from procedure p
  pub record CallLinked (i p q : ℕ) (zs : List ℕ) : Type 0 where
    pub there : i < record_count f
    pub some : q < length (program f).procedures
    pub callee : word f i call_procedure ≡ q
    pub slots : (m : ℕ) → PassingMode m → map slot_of (T.passes m i) ≡ variables_in m (sig f q)
    pub places : (m : ℕ) → PassingMode m → map given_of (T.passes m i) ≡ arguments_in m (parameters_of (sig f q)) zs
    pub variables : (y : ℕ) → in_list y zs ≡ true → is_variable (sig f p) y ≡ true
    pub images : (r : ℕ) → (member (start_held (sig f q)) r ≡ true) ⊎ (member (born (sig f q)) r ≡ true)
        → (T.image i r ≡ image_in (mapping (sig f p) (sig f q) zs) r) × (is_region (sig f p) (T.image i r) ≡ true)

  -- the frames that wait below frame k, which is procedure q's, called with arguments zs
  pub data Waiting (fw : List ℕ) (L : Where) : ℕ → List ℕ → ℕ → List RegionFrame → Type 0 where
    none : {q : ℕ} {zs : List ℕ} → Waiting fw L q zs 0 []
    more : {q k : ℕ} {zs : List ℕ} {e : RegionFrame} {fs : List RegionFrame} → CallLinked (get_or fw (call_place (suc k)) 0) e.frame.procedure q zs
        → FrameOk fw k L (get_or fw (goal_place k) 0) e → Waiting fw L e.frame.procedure e.frame.arguments k fs
        → Waiting fw L q zs (suc k) (e ∷ fs)

  -- ---- words of a frame that stay as they are
  module _ {L L' : Where} (t : Later L L') {fw fw' : List ℕ} (long : length fw' ≡ length fw) where
    pub frame_later : {k i : ℕ} {e : RegionFrame} → ((j : ℕ) → 1 ≤ j → j ≤ regions_end → get_or fw' (frame_words * k + j) 0 ≡ get_or fw (frame_words * k + j) 0)
        → FrameOk fw k L i e → FrameOk fw' k L' i e
    frame_later {k} {i} {e} same F = record {
      fits = omega (arith, F.fits);
      values = λ x l h v. rw (same x l (omega arith)) (means_later t (get_or fw (value_place k x) 0) (e.frame.values x) (F.values x l h v));
      regions = λ r l h. rw (place r l h) (names_later t (get_or fw (region_place k r) 0) (e.stands r) (F.regions r l h));
      todo = F.todo;
    }
      where
        place : (r : ℕ) → 1 ≤ r → r ≤ max_regions → get_or fw' (region_place k r) 0 ≡ get_or fw (region_place k r) 0
        place r l h = let z : frame_words * k + (regions_from + r) ≡ frame_words * k + regions_from + r = omega arith in rw (← z) (same (regions_from + r) (omega arith) (omega arith))

    pub waiting_later : {q k : ℕ} {zs : List ℕ} {fs : List RegionFrame} → ((j : ℕ) → j < frame_words * k → get_or fw' j 0 ≡ get_or fw j 0)
        → get_or fw' (call_place k) 0 ≡ get_or fw (call_place k) 0 → Waiting fw L q zs k fs → Waiting fw' L' q zs k fs
    waiting_later same call none = none
    waiting_later {q = q} {k = suc k} {zs = zs} same call (more {e = e} l F W) =
        let l' : CallLinked (get_or fw' (call_place (suc k)) 0) e.frame.procedure q zs = rw call l in
        let F' : FrameOk fw' k L' (get_or fw' (goal_place k) 0) e = rw (same (goal_place k) (omega arith)) (frame_later (λ j a b. same (frame_words * k + j) (omega arith)) F) in
        more l' F' (waiting_later (λ j h. same j (omega arith)) (same (call_place k) (omega arith)) W)

  pub waiting_depth : {fw : List ℕ} {L : Where} {q k : ℕ} {zs : List ℕ} {fs : List RegionFrame} → Waiting fw L q zs k fs → k ≡ length fs
  waiting_depth none = refl
  waiting_depth (more l F W) = ap suc (waiting_depth W)

  -- ---- a run: e is the newest frame, fs wait
  pub record Running (w : MachineWords) (L : Where) (e : RegionFrame) (fs : List RegionFrame) : Type 0 where
    pub newest : FrameOk w.frames w.top L w.goal e
    pub waiting : Waiting w.frames L e.frame.procedure e.frame.arguments w.top fs

-- the lent words stand for the memory M; qs are the words lent for printed numbers. The places of cells are below all constants
pub record MemoryStored (k : Room) (qs : List ℕ) (w : MachineWords) (M : Memory) (ρ χ : ℕ → ℕ) : Type 0 where
  pub represents : Represents k w.heap w.cells w.regions M ρ χ
  pub cell_room : k.cells ≤ most
  pub printed : Printed qs w.prints w.printed M.printed
  pub frame_room : frame_words * k.frames ≤ length w.frames
  pub print_room : k.prints ≤ length w.prints
