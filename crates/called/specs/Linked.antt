-- The calls of a procedure, linked: its table has the last of them, and each leads to the one before it.
use Rattle.std.specs.Prelude.{ℕ, zero, suc, ◌≤◌, ◌<◌, Bool, true, List, ◌⊎◌, ◌≡◌, eqb, length, get_or}
use Rattle.sets.specs.Tests.{◌&◌}
use Rattle.language.specs.Lists.{choose}
use Rattle.language.specs.Format.{kind_word, call_kind, max_procedures}
use Rattle.language.specs.File.{word, record_count}
use Rattle.owners.specs.Owner.{owner_of}
use Rattle.called.specs.Calls.{CallOf}

module _ (f : List ℕ) where
  -- record i is a call of procedure p
  unfoldable pub is_call_of : ℕ → ℕ → Bool
  is_call_of p i = eqb (word f i kind_word) call_kind & eqb (owner_of f i) p

  -- the last of them before record m, 0 where there is none
  unfoldable pub last_call : ℕ → ℕ → ℕ
  last_call p zero = 0
  last_call p (suc m) = choose (is_call_of p m) m (last_call p m)

-- ---- the table that `list_owners` leaves has the procedure of each record
pub record OwnersIn (f owners : List ℕ) : Type 0 where
  pub fits : record_count f ≤ length owners
  pub owner : (i : ℕ) → i < record_count f → get_or owners i 0 ≡ owner_of f i

-- ---- the tables once the records before i are linked: each call's place in the table of owners has the link
pub record LinkedUpTo (f : List ℕ) (i : ℕ) (links lasts : List ℕ) : Type 0 where
  pub procedures : length lasts ≡ max_procedures
  pub last : (p : ℕ) → p < max_procedures → get_or lasts p 0 ≡ last_call f p i
  pub before : (p j : ℕ) → 0 < j → j < i → is_call_of f p j ≡ true → get_or links j 0 ≡ last_call f p j

abbrev pub CallsLinked : List ℕ → List ℕ → List ℕ → Type 0
CallsLinked f links lasts = LinkedUpTo f (record_count f) links lasts

-- .. and every other place is as it was
pub record KeptFrom (f owners : List ℕ) (i : ℕ) (links : List ℕ) : Type 0 where
  pub long : length links ≡ length owners
  pub other : (j : ℕ) → (word f j kind_word ≡ call_kind → ⊥) ⊎ (i ≤ j) → get_or links j 0 ≡ get_or owners j 0

-- what is left in the table of owners: at each call the one before it of its procedure, 0 where there is none; all else is as it was
pub record LinksLeft (f owners links : List ℕ) : Type 0 where
  pub calls : (p i : ℕ) → CallOf f p i → get_or links i 0 ≡ last_call f p i
  pub kept : KeptFrom f owners (record_count f) links
