-- The rows: six words for each record, what its goal reads, gives, needs, bears and ends as sets, and a mark.
use Rattle.std.specs.Prelude.{ℕ, ◌*◌, ◌≤◌, ◌<◌, Bool, true, false, List, ◌≢◌, ◌≡◌, length, get_or, set}
use native.Mathlib.Omega.{arith}
use Rattle.std.proofs.Math.Path.{refl, ap}
use Rattle.std.proofs.Common.{◌∙◌, lt-ltb}
use Rattle.std.proofs.Math.Dec.{eqb, ltb}
use Rattle.std.proofs.Math.ListN.{length-set}
use Rattle.std.proofs.Math.Seq.{get_or-set_same, get_or-set_other}
use Rattle.sets.specs.Tests.{◌&◌}
use Rattle.sets.specs.Sets.{empty_set, loaded, stored, loaded_stored}
use Rattle.sets.specs.declared.Set.{Set}
use Rattle.language.specs.Lists.{choose}
use Rattle.language.specs.Format.{max_records}
use Rattle.tables.specs.TablePlaces.{row_words, bears_place, ends_place, gives_place, mark_place, needs_place, reads_place, row_place, row_size}
use Rattle.tables.specs.declared.Access.{Access}
use Rattle.tables.specs.declared.Effect.{Effect}

-- word k of the row of record i, as a set
unfoldable pub row_set : List ℕ → ℕ → ℕ → Set
row_set t i k = choose (ltb i max_records) (loaded (get_or t (row_place i k) 0)) empty_set

unfoldable pub reads_in : List ℕ → ℕ → Set
reads_in t i = row_set t i reads_place

unfoldable pub gives_in : List ℕ → ℕ → Set
gives_in t i = row_set t i gives_place

unfoldable pub needs_in : List ℕ → ℕ → Set
needs_in t i = row_set t i needs_place

unfoldable pub bears_in : List ℕ → ℕ → Set
bears_in t i = row_set t i bears_place

unfoldable pub ends_in : List ℕ → ℕ → Set
ends_in t i = row_set t i ends_place

unfoldable pub mark_in : List ℕ → ℕ → Bool
mark_in t i = ltb i max_records & eqb (get_or t (row_place i mark_place) 0) 1

unfoldable pub access_in : List ℕ → ℕ → Access
access_in t i = record { reads = reads_in t i; gives = gives_in t i; once = mark_in t i }

unfoldable pub effect_in : List ℕ → ℕ → Effect
effect_in t i = record { needs = needs_in t i; bears = bears_in t i; ends = ends_in t i; unshared = mark_in t i }

unfoldable pub bit_of : Bool → ℕ
bit_of true = 1
bit_of false = 0

unfoldable pub put_access : List ℕ → ℕ → Access → List ℕ
put_access t i a = set (set (set t (row_size * i) (stored a.reads)) (row_place i gives_place) (stored a.gives)) (row_place i mark_place) (bit_of a.once)

unfoldable pub put_effect : List ℕ → ℕ → Effect → List ℕ
put_effect t i e =
    set (set (set (set t (row_place i needs_place) (stored e.needs)) (row_place i bears_place) (stored e.bears)) (row_place i ends_place) (stored e.ends))
    (row_place i mark_place) (bit_of e.unshared)

-- ---- what storing leaves
-- a mark that is stored is read
pub bit_read : (b : Bool) → eqb (bit_of b) 1 ≡ b
unfolding bit_of
bit_read true = refl
bit_read false = refl

-- word k of the row of record j is in u what it is in t; and so is every word of it
abbrev pub StillAt : List ℕ → List ℕ → ℕ → ℕ → Type 0
StillAt t u j k = get_or u (row_place j k) 0 ≡ get_or t (row_place j k) 0

abbrev pub Still : List ℕ → List ℕ → ℕ → Type 0
Still t u j = (k : ℕ) → k < row_size → StillAt t u j k

-- what the row says is the same then
pub record SameRow (t u : List ℕ) (j : ℕ) : Type 0 where
  pub reads : reads_in u j ≡ reads_in t j
  pub gives : gives_in u j ≡ gives_in t j
  pub needs : needs_in u j ≡ needs_in t j
  pub bears : bears_in u j ≡ bears_in t j
  pub ends : ends_in u j ≡ ends_in t j
  pub mark : mark_in u j ≡ mark_in t j

module _ (t u : List ℕ) (j : ℕ) where
  pub word_same : (k : ℕ) → StillAt t u j k → row_set u j k ≡ row_set t j k
  unfolding row_set
  word_same k e = rw e refl

  pub row_same : Still t u j → SameRow t u j
  unfolding reads_in gives_in needs_in bears_in ends_in mark_in
  row_same h = record {
    reads = word_same reads_place (h reads_place (omega arith));
    gives = word_same gives_place (h gives_place (omega arith));
    needs = word_same needs_place (h needs_place (omega arith));
    bears = word_same bears_place (h bears_place (omega arith));
    ends = word_same ends_place (h ends_place (omega arith));
    mark = ap (λ (w : ℕ). ltb j max_records & eqb w 1) (h mark_place (omega arith));
  }

-- word k of record i's row is v
module _ (t : List ℕ) (i : ℕ) (few : i < max_records) where
  set_there : (k : ℕ) (s : Set) → get_or t (row_place i k) 0 ≡ stored s → row_set t i k ≡ s
  unfolding row_set choose
  set_there k s e = rw (lt-ltb i max_records few, e) (loaded_stored s)

  mark_there : (b : Bool) → get_or t (row_place i mark_place) 0 ≡ bit_of b → mark_in t i ≡ b
  unfolding mark_in ◌&◌
  mark_there b e = rw (lt-ltb i max_records few, e) (bit_read b)

module _ (t : List ℕ) (i : ℕ) (a : Access) where
  abbrev reads_put : List ℕ
  reads_put = set t (row_size * i) (stored a.reads)

  abbrev gives_put : List ℕ
  gives_put = set reads_put (row_place i gives_place) (stored a.gives)

  pub access_length : length (put_access t i a) ≡ length t
  unfolding put_access
  access_length = length-set gives_put (row_place i mark_place) _ ∙ length-set reads_put (row_place i gives_place) _ ∙ length-set t (row_size * i) _

  -- the words that are not stored
  pub access_word : (n : ℕ) → n ≢ row_size * i → n ≢ row_place i gives_place → n ≢ row_place i mark_place → get_or (put_access t i a) n 0 ≡ get_or t n 0
  unfolding put_access
  access_word n p q r =
      get_or-set_other gives_put (row_place i mark_place) n _ 0 r ∙ get_or-set_other reads_put (row_place i gives_place) n _ 0 q
      ∙ get_or-set_other t (row_size * i) n _ 0 p

  pub access_still : (j : ℕ) → j ≢ i → Still t (put_access t i a) j
  access_still j z k l = access_word (row_place j k) (λ e. z (omega arith)) (λ e. z (omega arith)) (λ e. z (omega arith))

  -- the row of record i has what is stored
  module _ (few : i < max_records) (long : row_words ≤ length t) where
    pub access_reads : reads_in (put_access t i a) i ≡ a.reads
    unfolding reads_in put_access
    access_reads =
        let z : row_place i reads_place ≡ row_size * i = omega arith in
        set_there (put_access t i a) i few reads_place a.reads (rw z
        (get_or-set_other gives_put (row_place i mark_place) (row_size * i) _ 0 (λ e. omega arith)
        ∙ get_or-set_other reads_put (row_place i gives_place) (row_size * i) _ 0 (λ e. omega arith)
        ∙ get_or-set_same t (row_size * i) _ 0 (omega arith)))

    pub access_gives : gives_in (put_access t i a) i ≡ a.gives
    unfolding gives_in put_access
    access_gives =
        set_there (put_access t i a) i few gives_place a.gives
        (get_or-set_other gives_put (row_place i mark_place) (row_place i gives_place) _ 0 (λ e. omega arith)
        ∙ get_or-set_same reads_put (row_place i gives_place) _ 0 (omega (arith, length-set t (row_size * i) (stored a.reads))))

    pub access_mark : mark_in (put_access t i a) i ≡ a.once
    unfolding put_access
    access_mark =
        mark_there (put_access t i a) i few a.once
        (get_or-set_same gives_put (row_place i mark_place) _ 0
        (omega (arith, length-set t (row_size * i) (stored a.reads), length-set reads_put (row_place i gives_place) (stored a.gives))))

module _ (t : List ℕ) (i : ℕ) (e : Effect) where
  abbrev needs_put : List ℕ
  needs_put = set t (row_place i needs_place) (stored e.needs)

  abbrev bears_put : List ℕ
  bears_put = set needs_put (row_place i bears_place) (stored e.bears)

  abbrev ends_put : List ℕ
  ends_put = set bears_put (row_place i ends_place) (stored e.ends)

  pub effect_length : length (put_effect t i e) ≡ length t
  unfolding put_effect
  effect_length =
      length-set ends_put (row_place i mark_place) _ ∙ length-set bears_put (row_place i ends_place) _ ∙ length-set needs_put (row_place i bears_place) _
      ∙ length-set t (row_place i needs_place) _

  -- the words that are not stored
  pub effect_word : (n : ℕ) → n ≢ row_place i needs_place → n ≢ row_place i bears_place → n ≢ row_place i ends_place → n ≢ row_place i mark_place
      → get_or (put_effect t i e) n 0 ≡ get_or t n 0
  unfolding put_effect
  effect_word n p q r s =
      get_or-set_other ends_put (row_place i mark_place) n _ 0 s ∙ get_or-set_other bears_put (row_place i ends_place) n _ 0 r
      ∙ get_or-set_other needs_put (row_place i bears_place) n _ 0 q ∙ get_or-set_other t (row_place i needs_place) n _ 0 p

  pub effect_still : (j : ℕ) → j ≢ i → Still t (put_effect t i e) j
  effect_still j z k l = effect_word (row_place j k) (λ d. z (omega arith)) (λ d. z (omega arith)) (λ d. z (omega arith)) (λ d. z (omega arith))

  -- the row of record i has what is stored
  module _ (few : i < max_records) (long : row_words ≤ length t) where
    needs_long : length needs_put ≡ length t
    needs_long = length-set t (row_place i needs_place) _

    bears_long : length bears_put ≡ length needs_put
    bears_long = length-set needs_put (row_place i bears_place) _

    ends_long : length ends_put ≡ length bears_put
    ends_long = length-set bears_put (row_place i ends_place) _

    pub effect_needs : needs_in (put_effect t i e) i ≡ e.needs
    unfolding needs_in put_effect
    effect_needs =
        set_there (put_effect t i e) i few needs_place e.needs
        (get_or-set_other ends_put (row_place i mark_place) (row_place i needs_place) _ 0 (λ d. omega arith)
        ∙ get_or-set_other bears_put (row_place i ends_place) (row_place i needs_place) _ 0 (λ d. omega arith)
        ∙ get_or-set_other needs_put (row_place i bears_place) (row_place i needs_place) _ 0 (λ d. omega arith)
        ∙ get_or-set_same t (row_place i needs_place) _ 0 (omega arith))

    pub effect_bears : bears_in (put_effect t i e) i ≡ e.bears
    unfolding bears_in put_effect
    effect_bears =
        set_there (put_effect t i e) i few bears_place e.bears
        (get_or-set_other ends_put (row_place i mark_place) (row_place i bears_place) _ 0 (λ d. omega arith)
        ∙ get_or-set_other bears_put (row_place i ends_place) (row_place i bears_place) _ 0 (λ d. omega arith)
        ∙ get_or-set_same needs_put (row_place i bears_place) _ 0 (omega (arith, needs_long)))

    pub effect_ends : ends_in (put_effect t i e) i ≡ e.ends
    unfolding ends_in put_effect
    effect_ends =
        set_there (put_effect t i e) i few ends_place e.ends
        (get_or-set_other ends_put (row_place i mark_place) (row_place i ends_place) _ 0 (λ d. omega arith)
        ∙ get_or-set_same bears_put (row_place i ends_place) _ 0 (omega (arith, needs_long, bears_long)))

    pub effect_mark : mark_in (put_effect t i e) i ≡ e.unshared
    unfolding put_effect
    effect_mark =
        mark_there (put_effect t i e) i few e.unshared (get_or-set_same ends_put (row_place i mark_place) _ 0 (omega (arith, needs_long, bears_long, ends_long)))

    pub effect_put : effect_in (put_effect t i e) i ≡ e
    unfolding effect_in
    effect_put = rw (effect_needs, effect_bears, effect_ends, effect_mark) refl
