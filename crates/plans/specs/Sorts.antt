-- What stands in each sort of the plan: before the links, and at the end.
use Rattle.std.specs.Prelude.{ℕ, ◌+◌, ◌-◌, ◌≤◌, ◌<◌, true, false, List, ◌++◌, length, get_or, take, replicate}
use Rattle.std.proofs.Common.{arith, ◌∙◌}
use Rattle.std.proofs.lemmas.Bool.{false≢true}
use Rattle.std.proofs.Math.Path.{◌≡◌, refl, sym, ap}
use Rattle.std.proofs.Math.ListN.{length-replicate}
use Rattle.std.proofs.lemmas.List.{replicate-append-replicate}
use Rattle.std.proofs.Math.Seq.{take_at}
use Rattle.language.specs.Lists.{choose, nth}
use Rattle.language.specs.File.{GoalKind, k_arm, k_goal, arms, kinds, kind_of, word, record_count}
use Rattle.language.specs.Format.{max_records, kind_word, next_word, arm_kind, arm_goals}
use Rattle.language.specs.Typing.{typing_ok}
use Rattle.language.specs.Answers.{program}
use Rattle.chains.specs.Layout.{all_rows}
use Rattle.chains.specs.Formed.{Formed, Stands, counted}
use Rattle.chains.specs.Kinds.{kind_in, kind_read}
use Rattle.chains.specs.Is.{arm_is}
use Rattle.chains.specs.Shapes.{kind_number}
use Rattle.word_machine.specs.Tables.{onto}
use Rattle.owners.specs.Handed.{handed}
use Rattle.owners.specs.Handing.{handed_length, handed_append}
use Rattle.word_machine.specs.Filling.{onward_by, matches, onwards, slots, modes}
use Rattle.plans.specs.Plan.{sides_from, plan_words}
use Rattle.plans.specs.Passes.{slots_from, modes_from, is_kind, goal_of, joining, images_before, side_at, plan_of}
use Rattle.plans.specs.Tests.{kind_yes, kind_no}
use Rattle.plans.specs.Parts.{part, part_read, part_past, part_zeros}
use Rattle.plans.specs.Placing.{first_read, placing_slots, placing_modes, placing_first}
use Rattle.plans.specs.Pictures.{siding_low, siding_here}
use Rattle.plans.specs.Links.{Joinable}
use Rattle.plans.specs.Joined.{joining_ok, goal_read}
use Rattle.plans.specs.Early.{matched_plan, matched_joinable}

-- ---- arms are no goals
arm_differs : (g : GoalKind) → k_arm ≡ k_goal g → ⊥
arm_differs g e = false≢true cc

module _ (f : List ℕ) (i : ℕ) where
  pub no_arm : (g : GoalKind) → kind_of (word f i kind_word) ≡ k_goal g → is_kind f arm_kind i ≡ false
  unfolding kind_of kinds nth
  no_arm g e = kind_no f i arm_kind refl (λ k. arm_differs g (sym (ap kind_of k) ∙ e))

  pub is_arm : Stands f arms i → (i ≡ 0 → ⊥) → is_kind f arm_kind i ≡ true
  unfolding all_rows
  is_arm s z =
      kind_yes f i arm_kind refl
      (kind_number (word f i kind_word) k_arm (sym (kind_read f i refl) ∙ ap kind_in (arm_is s z)) (λ e. let q : ◌≡◌ {A = ℕ} 0 1 = cc in omega arith))

-- ---- the sorts of the plan
module _ {f : List ℕ} (F : Formed f) (ok : typing_ok (program f) ≡ true) (plan₀ : List ℕ) (zeros : plan₀ ≡ replicate plan_words 0) where
  abbrev n : ℕ
  n = record_count f - 1

  abbrev pub early : List ℕ
  early = matched_plan F ok plan₀ zeros

  abbrev pub J : Joinable f (record_count f) early
  J = matched_joinable F ok plan₀ zeros

  abbrev behind : List ℕ
  behind = replicate (plan_words - max_records) 0

  -- before the links: where chains go on in front, and nothing behind
  filled_is : handed (onward_by f) f plan₀ ≡ onwards f ++ behind
  unfolding onwards
  filled_is =
      ap (handed (onward_by f) f) (zeros ∙ sym (replicate-append-replicate max_records (plan_words - max_records) 0))
      ∙ handed_append F (onward_by f) (replicate max_records 0) behind (omega (arith, (counted F).most, length-replicate {A = ℕ} max_records 0))

  onwards_length : length (onwards f) ≡ max_records
  unfolding onwards
  onwards_length = handed_length (onward_by f) f (replicate max_records 0) ∙ length-replicate {A = ℕ} max_records 0

  first_is : part 0 early ≡ onwards f
  unfolding part
  first_is = placing_first f n 1 (handed (onward_by f) f plan₀) ∙ ap (take max_records) filled_is ∙ take_at (onwards f) behind max_records onwards_length

  later_zeros : (s : ℕ) → max_records ≤ s → s + max_records ≤ plan_words → part s (handed (onward_by f) f plan₀) ≡ replicate max_records 0
  later_zeros s a b =
      let e : s ≡ length (onwards f) + (s - max_records) = omega (arith, onwards_length) in
      ap (part s) filled_is ∙ part_past (onwards f) behind (s - max_records) e ∙ part_zeros (s - max_records) (plan_words - max_records) refl (omega arith)

  slots_are : part slots_from early ≡ slots f
  unfolding slots
  slots_are = placing_slots F n 1 (handed (onward_by f) f plan₀) ∙ ap (matches f (λ a. a.variable) n 1) (later_zeros slots_from (omega arith) (omega arith))

  modes_are : part modes_from early ≡ modes f
  unfolding modes
  modes_are = placing_modes F n 1 (handed (onward_by f) f plan₀) ∙ ap (matches f (λ a. a.mode) n 1) (later_zeros modes_from (omega arith) (omega arith))

  pub slot_read : (a : ℕ) → a < record_count f → get_or early (slots_from + a) 0 ≡ get_or (slots f) a 0
  slot_read a l = sym (part_read slots_from early a (omega (arith, (counted F).most))) ∙ ap (λ (t : List ℕ). get_or t a 0) slots_are

  pub mode_read : (a : ℕ) → a < record_count f → get_or early (modes_from + a) 0 ≡ get_or (modes f) a 0
  mode_read a l = sym (part_read modes_from early a (omega (arith, (counted F).most))) ∙ ap (λ (t : List ℕ). get_or t a 0) modes_are

  onward_read : (i : ℕ) → i < record_count f → get_or early i 0 ≡ get_or (onwards f) i 0
  onward_read i l = sym (first_read early i (omega (arith, (counted F).most))) ∙ ap (λ (t : List ℕ). get_or t i 0) first_is

  -- .. and at the end
  pub low_read : (p : ℕ) → p < sides_from + 1 → get_or (plan_of f plan₀) p 0 ≡ get_or (joining f early) p 0
  unfolding plan_of
  low_read p l = siding_low f n 1 (joining f early) p l

  pub plan_goal : (i : ℕ) → i < record_count f → get_or (plan_of f plan₀) i 0 ≡ onto (word f i (choose (is_kind f arm_kind i) arm_goals next_word)) (get_or (onwards f) i 0)
  unfolding goal_of
  plan_goal i l =
      low_read i (omega (arith, (counted F).most)) ∙ goal_read F early J i l ∙ ap (onto (word f i (choose (is_kind f arm_kind i) arm_goals next_word))) (onward_read i l)

  pub side_read : (i : ℕ) → 0 < i → i < record_count f → get_or (plan_of f plan₀) (sides_from + i) 0 ≡ side_at f (images_before f i) i
  unfolding plan_of
  side_read i a b =
      siding_here f n 1 (joining f early) (omega (arith, (counted F).most, (joining_ok F early J).long)) i a (omega arith)
