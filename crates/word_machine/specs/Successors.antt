-- The goals that a frame has still to do are those at its next goal's record and along the table of successors.
use Prim.Native.Nat.{ℕ, zero, suc}
use Rattle.std.proofs.Common.{arith, ◌∙◌}
use Rattle.std.specs.Prelude.{◌≡◌, List}
use Rattle.std.proofs.Math.Path.{refl}
use Rattle.language.specs.File.{goals, word}
use Rattle.language.specs.Program.{Goals, done, ◌then◌, Goal, ◌before◌}
use Rattle.language.specs.Format.{next_word}
use Rattle.chains.specs.Layout.{real}
use Rattle.chains.specs.Formed.{Formed, Stands, goals_at, goal_at, goals_none}
use Rattle.chains.specs.Is.{goals_step}
use Rattle.chains.specs.Records.{along}
use Rattle.word_machine.specs.Tables.{Tables, Tabled, onto, Continues}

module _ {f : List ℕ} {T : Tables} (B : Tabled f T) where
  -- the goals of a frame of procedure p whose next goal's record is i
  pub data Todo (p : ℕ) : ℕ → Goals → Type 0 where
    todo_none : {i : ℕ} {gs : Goals} → i ≡ 0 → gs ≡ done → Todo p i gs
    todo_goal : {i : ℕ} {gs rest : Goals} → Stands f goals i → (i ≡ 0 → ⊥) → B.owner i ≡ p → gs ≡ goal_at f i then rest → Todo p (T.successor i) rest
        → Todo p i gs

  -- a chain's goals in front of others: the law of the table
  pub todo_before : Formed f → (p c : ℕ) (rest : Goals) → Todo p c rest → (i : ℕ) → Stands f goals i → Continues B.onward B.owner i c p
      → Todo p (onto i c) (goals_at f i before rest)
  unfolding onto ◌before◌ real
  todo_before F p c rest d =
      along F goals refl (λ i. Continues B.onward B.owner i c p → Todo p (onto i c) (goals_at f i before rest))
      (λ s. rw (goals_none f {i = 0} refl) d)
      (λ i s z ih e. first i s z (e z).0 (e z).1 (ih (λ y. let q = B.goal_next i s z y in (q.0 ∙ (e z).0, q.1 ∙ (e z).1))))
    where
      onto_some : (i : ℕ) → (i ≡ 0 → ⊥) → onto i c ≡ i
      onto_some zero z = absurd (z refl)
      onto_some (suc i) z = refl

      first : (i : ℕ) → Stands f goals i → (i ≡ 0 → ⊥) → B.onward i ≡ c → B.owner i ≡ p → Todo p (onto (word f i next_word) c) (goals_at f (word f i next_word) before rest)
          → Todo p (onto i c) (goals_at f i before rest)
      first i s z o q d =
          rw (onto_some i z, goals_step {w = word f i next_word} F s z refl)
          (todo_goal {rest = goals_at f (word f i next_word) before rest} s z q refl (rw (B.next i s z, o) d))

  -- what is next
  pub todo_end : {p i : ℕ} {gs : Goals} → Todo p i gs → gs ≡ done → i ≡ 0
  todo_end (todo_none z e) q = z
  todo_end (todo_goal s z o e d) q = let x : ◌≡◌ {A = ℕ} 0 1 = cc in absurd (omega arith)

  pub record GoalOnward (p i : ℕ) (g : Goal) (rest : Goals) : Type 0 where
    pub stands : Stands f goals i
    pub some : i ≡ 0 → ⊥
    pub mine : B.owner i ≡ p
    pub is : g ≡ goal_at f i
    pub then' : Todo p (T.successor i) rest

  pub todo_next : {p i : ℕ} {gs : Goals} → Todo p i gs → (g : Goal) (rest : Goals) → gs ≡ g then rest → GoalOnward p i g rest
  todo_next (todo_none z e) g rest q = let x : ◌≡◌ {A = ℕ} 0 1 = cc in absurd (omega arith)
  todo_next (todo_goal {rest = r} s z o e d) g rest q =
      let x : r ≡ rest = cc in
      record { stands = s; some = z; mine = o; is = cc; then' = rw x at d }
