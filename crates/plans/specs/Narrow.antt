-- The plan as it is filled can be followed without a look, and so can the images.
use Rattle.std.specs.Prelude.{ℕ, ◌+◌, ◌-◌, ◌≤◌, ◌<◌, Bool, List, ◌≡◌, length, set, replicate}
use Rattle.std.proofs.Common.{arith}
use Rattle.std.proofs.Math.Bool.{true, false}
use Rattle.std.proofs.Math.Logic.{inl, inr}
use Rattle.std.proofs.Math.Path.{refl}
use Rattle.std.proofs.Math.ListN.{get_or}
use Rattle.language.specs.Lists.{choose}
use Rattle.language.specs.File.{k_arm, word, record_count}
use Rattle.language.specs.Format.{max_regions, places, next_word, arm_goals, goal_x, arm_kind, call_kind, construct_kind}
use Rattle.language.specs.Program.{Functor, Signature, in_mode, out_mode, region_of}
use Rattle.language.specs.Typing.{signature_ok, typing_ok}
use Rattle.language.specs.Answers.{program}
use Rattle.region_graph.specs.Typed.{signature_typed, regions_few, region_small}
use Rattle.region_graph.specs.Procedure.{declared}
use Rattle.chains.specs.Layout.{all_rows, next_leads}
use Rattle.chains.specs.Formed.{Formed, counted}
use Rattle.chains.specs.Parts.{arm_at}
use Rattle.chains.specs.Shapes.{by_number}
use Rattle.plans.specs.Plan.{ins_from, outs_from, sides_from, plan_words, image_bytes, Narrow}
use Rattle.plans.specs.Passes.{is_kind, caller_of, goal_of, link_of, joined_at, joining, images_before, side_at, sided_at, siding, plan_of}
use Rattle.plans.specs.Tests.{kind_is}
use Rattle.plans.specs.Kept.{Every, set_keeps, each_keeps, down_keeps}
use Rattle.plans.specs.Pictures.{siding_low, before_few}
use Rattle.plans.specs.Joined.{joining_ok}
use Rattle.plans.specs.Early.{LeadsOn, onto_few, matched_plan, early_matched, matched_joinable}

-- the region of a variable, 0 or one of the procedure's
pub home_few : (T : List (List Functor)) (S : Signature) → signature_ok T S ≡ true → (x : ℕ) → region_of S x ≤ max_regions
home_few T S ok x = elim ((declared T S ok).own x) [ inl z ↦ omega arith | inr r ↦ (region_small S (regions_few T S ok) (region_of S x) r).1 ]

module _ {f : List ℕ} (F : Formed f) where
  -- ---- where records go on
  word_few : (i : ℕ) → i < record_count f → (b : Bool) → is_kind f arm_kind i ≡ b → word f i (choose b arm_goals next_word) < record_count f
  unfolding choose all_rows
  word_few i l true e = (arm_at F refl (by_number f i k_arm refl (kind_is f i arm_kind e))).to_goals.stands.below
  word_few i l false e = elim (next_leads (word f) (record_count f) F.form i l) [ inl z ↦ omega (arith, (counted F).some) | inr u ↦ u.1 ]

  joined_reaches : (i : ℕ) → i < record_count f → (t : List ℕ) → Every LeadsOn t → Every LeadsOn (joined_at f i t)
  unfolding joined_at goal_of
  joined_reaches i l t h =
      let m = (counted F).most in
      let g = onto_few (word f i (choose (is_kind f arm_kind i) arm_goals next_word)) (get_or t i 0) (omega (arith, word_few i l (is_kind f arm_kind i) refl)) ((h i).goal (omega arith)) in
      set_keeps LeadsOn (set (set t i (goal_of f i t)) (ins_from + i) (link_of f in_mode i t t)) (outs_from + i) (link_of f out_mode i t t)
      (record { goal = λ k. absurd (omega arith); side = λ k. absurd (omega arith) })
      (set_keeps LeadsOn (set t i (goal_of f i t)) (ins_from + i) (link_of f in_mode i t t) (record { goal = λ k. absurd (omega arith); side = λ k. absurd (omega arith) })
      (set_keeps LeadsOn t i (goal_of f i t) (record { goal = λ k. g; side = λ k. absurd (omega arith) }) h))

  module _ (ok : typing_ok (program f) ≡ true) where
    -- ---- sides
    side_few : (i : ℕ) → i < record_count f → side_at f (images_before f i) i + max_regions < image_bytes
    unfolding side_at choose
    side_few i l = go (is_kind f call_kind i) (is_kind f construct_kind i)
      where
        r : region_of (caller_of f i) (word f i goal_x) ≤ max_regions
        r = home_few (program f).types (caller_of f i) (signature_typed (program f) ok _) (word f i goal_x)

        go : (b c : Bool) → choose b (images_before f i) (choose c (region_of (caller_of f i) (word f i goal_x)) 0) + max_regions < image_bytes
        go true c = omega (arith, before_few f ok i, (counted F).most)
        go false true = omega (arith, r)
        go false false = omega arith

    module _ (t : List ℕ) (zeros : t ≡ replicate plan_words 0) where
      plan_reaches : Every LeadsOn (plan_of f t)
      unfolding plan_of joining siding sided_at
      plan_reaches =
          each_keeps LeadsOn (sided_at f) (record_count f - 1) 1
          (λ i l u v h. set_keeps LeadsOn v (sides_from + i) (side_at f (images_before f i) i)
          (record { goal = λ k. absurd (omega arith); side = λ k. side_few i (omega (arith, (counted F).some)) }) h)
          (joining f (matched_plan F ok t zeros))
          (down_keeps LeadsOn (joined_at f) (record_count f) joined_reaches (matched_plan F ok t zeros) (λ p. (early_matched F ok t zeros p).reaches))

      -- whatever names they have
      pub filled_narrow : {plan images : List ℕ} → plan ≡ plan_of f t → ((p : ℕ) → get_or images p 0 < places) → image_bytes ≤ length images → Narrow plan images
      unfolding plan_of
      filled_narrow {plan} {images} e k l =
          let J = joining_ok F (matched_plan F ok t zeros) (matched_joinable F ok t zeros) in
          rw e (record {
            goals = λ i h. (plan_reaches i).goal h;
            ins = λ a h. rw (same (ins_from + a) (omega arith)) (J.ins a (omega arith) h);
            outs = λ a h. rw (same (outs_from + a) (omega arith)) (J.outs a (omega arith) h);
            sides = λ i h. (plan_reaches (sides_from + i)).side (omega arith);
            image = λ p. (let q = k p in omega arith);
            long = l;
          })
        where
          same : (p : ℕ) → p < sides_from + 1 → get_or (plan_of f t) p 0 ≡ get_or (joining f (matched_plan F ok t zeros)) p 0
          same p q = siding_low f (record_count f - 1) 1 (joining f (matched_plan F ok t zeros)) p q
