-- What the functions of the pass come to on each way through them.
use Rattle.std.specs.Prelude.{ℕ, Bool, true, false, eqb, zero, suc, ◌+◌, ◌≤◌, ◌≡◌}
use native.Mathlib.Omega.{arith}
use Rattle.std.proofs.Common.{add-one, ◌∙◌}
use Rattle.std.proofs.Math.Path.{refl, ap}
use mathlib.Core.List.{List}
use borrow.Author.Tests.{eq-eqb, ne_eqb}
use Rattle.std.proofs.Math.ListN.{set}
use Rattle.sets.specs.Tests.{◌&◌, ◌or◌}
use Rattle.language.specs.Lists.{choose}
use Rattle.language.specs.File.{word, record_count}
use Rattle.language.specs.Format.{next_word, procedure_kind, switch_kind, if_kind, try_kind, try_condition}
use Rattle.owners.specs.Handed.{next_and, hand_down, handed_up_to, handed}
use Rattle.word_machine.specs.Tables.{onto}
use Rattle.word_machine.specs.Filling.{parts_onward, onward_by}

pub onto_none : (i c : ℕ) → i ≡ 0 → c ≡ onto i c
unfolding onto
onto_none i c z = rw z

pub onto_some : (i c : ℕ) → (i ≡ 0 → ⊥) → i ≡ onto i c
unfolding onto
onto_some zero c z = absurd (z refl)
onto_some (suc i) c z = refl

-- ---- by the kind
module _ (kind next v : ℕ) where
  pub procedure_onward : kind ≡ procedure_kind → 0 ≡ parts_onward kind next v
  unfolding parts_onward choose
  procedure_onward e = rw e refl

  pub switch_onward : kind ≡ switch_kind → onto next v ≡ parts_onward kind next v
  unfolding parts_onward choose ◌or◌
  switch_onward e = rw e refl

  pub if_onward : kind ≡ if_kind → onto next v ≡ parts_onward kind next v
  unfolding parts_onward choose ◌or◌
  if_onward e = rw e refl

  pub try_onward : kind ≡ try_kind → onto next v ≡ parts_onward kind next v
  unfolding parts_onward choose ◌or◌
  try_onward e = rw e refl

  pub other_onward : (kind ≡ procedure_kind → ⊥) → (kind ≡ switch_kind → ⊥) → (kind ≡ if_kind → ⊥) → (kind ≡ try_kind → ⊥) → v ≡ parts_onward kind next v
  unfolding parts_onward choose ◌or◌
  other_onward a b c t = rw (ne_eqb kind procedure_kind a, ne_eqb kind switch_kind b, ne_eqb kind if_kind c, ne_eqb kind try_kind t) refl

-- ---- by the word
neither : (b : Bool) (x y : ℕ) → y ≡ choose (b & false) x y
unfolding choose ◌&◌
neither true x y = refl
neither false x y = refl

module _ (f : List ℕ) (kind i k v : ℕ) where
  pub condition_onward : kind ≡ try_kind → k ≡ try_condition → 0 ≡ onward_by f kind i k v
  unfolding onward_by choose ◌&◌
  condition_onward e h = rw (eq-eqb kind try_kind e, eq-eqb k try_condition h)

  pub next_onward_law : k ≡ next_word → v ≡ onward_by f kind i k v
  unfolding onward_by next_and choose
  next_onward_law h = rw (ne_eqb k try_condition (λ z. omega arith), eq-eqb k next_word h) (neither (eqb kind try_kind) 0 v)

  part_onward : {n x : ℕ} → n ≡ word f i next_word → (k ≡ next_word → ⊥) → x ≡ parts_onward kind n v → x ≡ next_and v (parts_onward kind (word f i next_word) v) k
  unfolding next_and choose
  part_onward e h g = rw (ne_eqb k next_word h, ← e) g

  pub kind_onward : {n x : ℕ} → (kind ≡ try_kind → ⊥) → n ≡ word f i next_word → (k ≡ next_word → ⊥) → x ≡ parts_onward kind n v → x ≡ onward_by f kind i k v
  unfolding onward_by choose ◌&◌
  kind_onward t e h g = rw (ne_eqb kind try_kind t) (part_onward e h g)

  pub word_onward : {n x : ℕ} → (k ≡ try_condition → ⊥) → n ≡ word f i next_word → (k ≡ next_word → ⊥) → x ≡ parts_onward kind n v → x ≡ onward_by f kind i k v
  unfolding onward_by
  word_onward t e h g = part_onward e h g ∙ rw (ne_eqb k try_condition t) (neither (eqb kind try_kind) 0 _)

-- ---- the pass
module _ (f : List ℕ) (i : ℕ) (t : List ℕ) where
  pub onward_next : (t₁ : List ℕ) {u : List ℕ} → t ≡ handed_up_to (onward_by f) f i t₁ → u ≡ hand_down (onward_by f) f i t → u ≡ handed_up_to (onward_by f) f (i + 1) t₁
  unfolding handed_up_to
  onward_next t₁ e g = g ∙ rw (add-one i, e) refl

  pub onward_last : (t₁ : List ℕ) {n : ℕ} → n ≡ record_count f → t ≡ handed_up_to (onward_by f) f i t₁ → i ≤ n → n ≤ i → set t 0 0 ≡ handed (onward_by f) f t₁
  unfolding handed
  onward_last t₁ e h l m = let z : i ≡ record_count f = omega arith in ap (λ (u : List ℕ). set u 0 0) (h ∙ ap (λ j. handed_up_to (onward_by f) f j t₁) z)
