-- The arm that a switch takes, by its record.
use Rattle.std.specs.Prelude.{ℕ, true, false, List, ◌⊎◌, eqb}
use native.Mathlib.Omega.{arith}
use Rattle.std.proofs.Math.Path.{◌≡◌, refl}
use Rattle.std.proofs.Common.{sym, ap, ◌∙◌, inl, inr}
use Rattle.sets.specs.Tests.{truth}
use Rattle.language.specs.Lists.{choose}
use Rattle.language.specs.File.{arms, goals, word}
use Rattle.language.specs.Program.{arguments_of, Goals}
use Rattle.language.specs.Frames.{no_arm, picked, pick}
use Rattle.language.specs.Format.{next_word, arm_goals, term_functor}
use Rattle.laws.specs.Choices.{choose_true, choose_false}
use Rattle.chains.specs.Layout.{real}
use Rattle.chains.specs.Formed.{Formed, Stands, goals_at, arms_at, arms_none}
use Rattle.chains.specs.Is.{arm_is}
use Rattle.chains.specs.Parts.{four_at, arm_at}
use Rattle.chains.specs.Records.{chain_records, records_step, along}
use Rattle.word_machine.specs.Tables.{Tables, Tabled, onto, Continues}
use Rattle.word_machine.specs.Machine.{arm_of}

module _ {f : List ℕ} {T : Tables} (B : Tabled f T) (F : Formed f) where
  -- record j is the arm with arguments ys and goals gs, in a chain that goes on at c and is procedure p's
  pub record ArmFound (c p : ℕ) (ys : List ℕ) (gs : Goals) (j : ℕ) : Type 0 where
    pub arguments : ys ≡ arguments_of (four_at f j)
    pub goals_are : gs ≡ goals_at f (word f j arm_goals)
    pub stands : Stands f goals (word f j arm_goals)
    pub starts : Continues B.onward B.owner (word f j arm_goals) c p
    pub entered : T.entry j ≡ onto (word f j arm_goals) c

  picked_arguments : {ys zs : List ℕ} {gs hs : Goals} → picked ys gs ≡ picked zs hs → zs ≡ ys
  picked_arguments e = cc

  picked_goals : {ys zs : List ℕ} {gs hs : Goals} → picked ys gs ≡ picked zs hs → hs ≡ gs
  picked_goals e = cc

  module _ (c p k : ℕ) (ys : List ℕ) (gs : Goals) where
    here : (j : ℕ) → Stands f arms j → (j ≡ 0 → ⊥) → B.onward j ≡ c → B.owner j ≡ p
        → picked (arguments_of (four_at f j)) (goals_at f (word f j arm_goals)) ≡ picked ys gs → ArmFound c p ys gs j
    here j s z o w e = record {
      arguments = picked_arguments e;
      goals_are = picked_goals e;
      stands = (arm_at F refl (arm_is s z)).to_goals.stands;
      starts = λ y. let b = B.arm_goals_law j s z y in (b.0 ∙ o, b.1 ∙ w);
      entered = B.arm_entry j s z ∙ ap (onto (word f j arm_goals)) o;
    }

    one_arm : (j : ℕ) (s : Stands f arms j) (z : j ≡ 0 → ⊥) → B.onward j ≡ c → B.owner j ≡ p
        → (pick (arms_at f (word f j next_word)) k ≡ picked ys gs → ArmFound c p ys gs (arm_of f k (chain_records f (word f j next_word))))
        → pick (arms_at f j) k ≡ picked ys gs → ArmFound c p ys gs (arm_of f k (chain_records f j))
    unfolding pick arm_of
    one_arm j s z o w ih e =
        let v = arm_at F refl (arm_is s z) in
        rw (records_step {w = word f j next_word} F z s.below refl) (by (truth (eqb (word f j term_functor) k)) (rw v.view at e))
      where
        by : (eqb (word f j term_functor) k ≡ true) ⊎ (eqb (word f j term_functor) k ≡ false)
            → choose (eqb (word f j term_functor) k) (picked (arguments_of (four_at f j)) (goals_at f (word f j arm_goals))) (pick (arms_at f (word f j next_word)) k) ≡ picked ys gs
            → ArmFound c p ys gs (choose (eqb (word f j term_functor) k) j (arm_of f k (chain_records f (word f j next_word))))
        by (inl t) e = rw (choose_true _ j (arm_of f k (chain_records f (word f j next_word))) t) (here j s z o w (sym (choose_true _ _ _ t) ∙ e))
        by (inr t) e = rw (choose_false _ j (arm_of f k (chain_records f (word f j next_word))) t) (ih (sym (choose_false _ _ _ t) ∙ e))

    pub arm_found : (a : ℕ) → Stands f arms a → Continues B.onward B.owner a c p → pick (arms_at f a) k ≡ picked ys gs
        → ArmFound c p ys gs (arm_of f k (chain_records f a))
    unfolding pick real
    arm_found =
        along F arms refl (λ a. Continues B.onward B.owner a c p → pick (arms_at f a) k ≡ picked ys gs → ArmFound c p ys gs (arm_of f k (chain_records f a)))
        (λ s e. absurd (never (rw (arms_none f {i = 0} refl) at e)))
        (λ j s z ih o. one_arm j s z (o z).0 (o z).1 (ih (λ y. let b = B.arm_next j s z y in (b.0 ∙ (o z).0, b.1 ∙ (o z).1))))
      where
        never : no_arm ≡ picked ys gs → ⊥
        never e = let x : ◌≡◌ {A = ℕ} 0 1 = cc in omega arith
