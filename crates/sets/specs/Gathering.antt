-- Going through the members of a set by `Set::members`: what is gathered so far, with what the members that are left give, is the whole.
-- Assumes nothing.
use Rattle.std.specs.Prelude.{◌≡◌, ℕ, List, [], ◌∷◌}
use Rattle.std.proofs.Common.{sym, ap, ◌∙◌}
use Rattle.sets.specs.Sets.{empty_set, ◌∪◌}
use Rattle.sets.specs.SetLaws.{union_empty, empty_union, union_assoc}
use Rattle.sets.specs.Members.{members, union_all, union_over}
use Rattle.sets.specs.declared.Set.{Set}

-- the union of F over the members of s is what is found and what F gives of those left
pub record Gathered (F : ℕ → Set) (s found : Set) (left : List ℕ) : Type 0 where
  pub whole : found ∪ union_all F left ≡ union_over F s

module _ (F : ℕ → Set) (s : Set) where
  pub gathered_first : {left : List ℕ} → left ≡ members s → Gathered F s empty_set left
  unfolding union_over
  gathered_first e = record { whole = empty_union _ ∙ ap (union_all F) e }

  pub gathered_more : {found u found' : Set} {x : ℕ} {left rest : List ℕ} → Gathered F s found left → left ≡ x ∷ rest → u ≡ F x → found' ≡ found ∪ u
      → Gathered F s found' rest
  unfolding union_all
  gathered_more {found} h e p g =
      record { whole = rw (g, p) (union_assoc found _ _ ∙ ap (λ xs. found ∪ union_all F xs) (sym e) ∙ h.whole) }

  pub gathered_last : {found : Set} {left : List ℕ} → Gathered F s found left → left ≡ [] → found ≡ union_over F s
  unfolding union_all
  gathered_last {found} h e = sym (union_empty found) ∙ ap (λ xs. found ∪ union_all F xs) (sym e) ∙ h.whole
