-- What the passes put into the plan, the images and the callees. On the way the plan has other words, which the links replace:
--   i               where the chain of record i goes on after its end
--   slots_from + i   of a call's argument: the callee's variable that it matches
--   modes_from + i   .. and that variable's mode
use Rattle.std.specs.Prelude.{ℕ, zero, suc, ◌+◌, ◌-◌, ◌*◌, ◌/◌, ◌<◌, Bool, true, List, [], ◌∷◌, ◌≡◌, eqb, length, get_or, set}
use Rattle.sets.specs.Sets.{◌∪◌, stored}
use Rattle.language.specs.Lists.{choose}
use Rattle.language.specs.File.{word, record_count}
use Rattle.language.specs.Format.{max_procedures, places, kind_word, next_word, construct_kind, arm_kind, call_kind, argument_kind, goal_x, arm_goals, call_procedure, call_arguments, argument_variable}
use Rattle.language.specs.Program.{Parameter, Signature, in_mode, out_mode, region_of, signature_of, parameters_of}
use Rattle.language.specs.Typing.{typing_ok}
use Rattle.language.specs.Regions.{mapping, image_in}
use Rattle.language.specs.Answers.{program}
use Rattle.chains.specs.Formed.{Formed, arguments_at}
use Rattle.chains.specs.Records.{chain_records}
use Rattle.owners.specs.Handed.{handed}
use Rattle.owners.specs.Owner.{owner_of}
use Rattle.tables.specs.Window.{FileTable, variables_place, body_place, born_place, dead_place, kept_place, set_in}
use Rattle.tables.specs.Starts.{window_in}
use Rattle.word_machine.specs.Tables.{link_unit, slot_of, onto}
use Rattle.word_machine.specs.Filling.{onward_by}
use Rattle.word_machine.specs.Passing.{packed}
use Rattle.plans.specs.Plan.{callee_row, ins_from, outs_from, sides_from, links_from, callee_body, callee_size, callee_held, callee_born}

abbrev pub slots_from : ℕ
slots_from = ins_from

abbrev pub modes_from : ℕ
modes_from = outs_from

-- the file passes numbers 1 to 3, and its table is filled
pub record TypedAndFilled (f table : List ℕ) : Type 0 where
  pub formed : Formed f
  pub typed : typing_ok (program f) ≡ true
  pub windows : FileTable f table

-- a pass: the step of each of the m records from b on, in turn
unfoldable pub each_from : (ℕ → List ℕ → List ℕ) → ℕ → ℕ → List ℕ → List ℕ
each_from step zero b t = t
each_from step (suc m) b t = each_from step m (suc b) (step b t)

-- .. of the records below i, from the last down
unfoldable pub each_down : (ℕ → List ℕ → List ℕ) → ℕ → List ℕ → List ℕ
each_down step zero t = t
each_down step (suc i) t = each_down step i (step i t)

-- ---- "arguments match in and out variables in order": each argument's record gets the variable and its mode
unfoldable pub placed : List Parameter → List ℕ → List ℕ → List ℕ
placed [] js t = t
placed (a ∷ ps) [] t = t
placed (a ∷ ps) (j ∷ js) t = placed ps js (set (set t (slots_from + j) a.variable) (modes_from + j) a.mode)

-- the first argument of mode m from argument a on: a itself, if its link says what it passes
unfoldable pub first_in : ℕ → ℕ → List ℕ → ℕ
first_in m a t = choose (eqb (slot_of (get_or t (links_from m + a) 0)) 0) (get_or t (links_from m + a) 0 / link_unit) a

module _ (f : List ℕ) where
  -- record i is of this kind
  unfoldable pub is_kind : ℕ → ℕ → Bool
  is_kind k i = eqb (word f i kind_word) k

  -- what the procedures declare that a call calls, and that a record belongs to
  abbrev pub callee_of : ℕ → Signature
  callee_of i = signature_of (program f) (word f i call_procedure)

  abbrev pub caller_of : ℕ → Signature
  caller_of i = signature_of (program f) (owner_of f i)

  unfoldable pub placed_at : ℕ → List ℕ → List ℕ
  placed_at i t = choose (is_kind call_kind i) (placed (parameters_of (callee_of i)) (chain_records f (word f i call_arguments)) t) t

  unfoldable pub placing : ℕ → ℕ → List ℕ → List ℕ
  placing m b t = each_from placed_at m b t

  -- ---- links
  -- an arm is entered at its first goal, after any other record comes its next one; where there is none, its chain goes on as the plan says
  unfoldable pub goal_of : ℕ → List ℕ → ℕ
  goal_of i t = onto (word f i (choose (is_kind arm_kind i) arm_goals next_word)) (get_or t i 0)

  -- an argument's link: what it passes, by the matches in t, if it has the mode; and the next argument of the mode, by the links in u
  unfoldable pub argument_link : ℕ → ℕ → List ℕ → List ℕ → ℕ
  argument_link m i t u =
      choose (eqb (get_or t (modes_from + i) 0) m) (packed (get_or t (slots_from + i) 0) (word f i argument_variable) (first_in m (word f i next_word) u))
      (packed 0 0 (first_in m (word f i next_word) u))

  unfoldable pub link_of : ℕ → ℕ → List ℕ → List ℕ → ℕ
  link_of m i t u = choose (is_kind call_kind i) (packed 0 0 (first_in m (word f i call_arguments) u)) (choose (is_kind argument_kind i) (argument_link m i t u) 0)

  unfoldable pub joined_at : ℕ → List ℕ → List ℕ
  joined_at i t = set (set (set t i (goal_of i t)) (ins_from + i) (link_of in_mode i t t)) (outs_from + i) (link_of out_mode i t t)

  unfoldable pub joining : List ℕ → List ℕ
  joining t = each_down joined_at (record_count f) t

  -- ---- images: one for each region of the callee; those of a call stand behind those of the calls before it
  unfoldable pub image_count : ℕ → ℕ
  image_count i = choose (is_kind call_kind i) (length (callee_of i).regions) 0

  unfoldable pub images_before : ℕ → ℕ
  images_before zero = 0
  images_before (suc i) = images_before i + image_count i

  -- the caller's region that stands for region r of the callee
  unfoldable pub image_of : ℕ → ℕ → ℕ
  image_of i r = image_in (mapping (caller_of i) (callee_of i) (arguments_at f (word f i call_arguments))) r

  -- ---- the side of record i: a call's is the place before its images, a construct's the region number of X
  unfoldable pub side_at : ℕ → ℕ → ℕ
  side_at at i = choose (is_kind call_kind i) at (choose (is_kind construct_kind i) (region_of (caller_of i) (word f i goal_x)) 0)

  unfoldable pub sided_at : ℕ → List ℕ → List ℕ
  sided_at i t = set t (sides_from + i) (side_at (images_before i) i)

  unfoldable pub siding : ℕ → ℕ → List ℕ → List ℕ
  siding m b t = each_from sided_at m b t

-- every word is 0 or a region's number
abbrev pub Regional : List ℕ → Type 0
Regional t = (p : ℕ) → get_or t p 0 < places

-- the images m of regions 1 to n, behind place `at`
unfoldable pub copied : (ℕ → ℕ) → ℕ → ℕ → List ℕ → List ℕ
copied m zero at t = t
copied m (suc r) at t = set (copied m r at t) (at + suc r) (m (suc r))

module _ (f : List ℕ) where
  unfoldable pub pictured_at : ℕ → List ℕ → List ℕ
  pictured_at i t = choose (is_kind f call_kind i) (copied (image_of f i) (image_count f i) (images_before f i) t) t

  unfoldable pub picturing : ℕ → ℕ → List ℕ → List ℕ
  picturing m b t = each_from pictured_at m b t

  -- ---- all of the plan, and all images
  unfoldable pub plan_of : List ℕ → List ℕ
  plan_of t = siding f (record_count f - 1) 1 (joining f (placing f (record_count f - 1) 1 (handed (onward_by f) f t)))

  unfoldable pub images_of : List ℕ → List ℕ
  images_of t = picturing (record_count f - 1) 1 t

-- ---- what calls read of their callees: the words of procedure q, whose window is own
unfoldable pub put_callee : List ℕ → ℕ → List ℕ → List ℕ
put_callee own q t =
    set (set (set (set t (callee_row * q + callee_body) (get_or own body_place 0)) (callee_row * q + callee_size) (get_or own variables_place 0))
    (callee_row * q + callee_held) (stored (set_in own dead_place ∪ set_in own kept_place))) (callee_row * q + callee_born) (stored (set_in own born_place))

unfoldable pub callees_of : List ℕ → List ℕ → List ℕ
callees_of table t = each_from (λ q. put_callee (window_in table q) q) max_procedures 0 t
