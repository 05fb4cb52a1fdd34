-- Along the links from a call come its arguments of the mode, in chain order.
use Rattle.std.specs.Prelude.{ℕ, zero, suc, ◌+◌, ◌-◌, ◌/◌, ◌≤◌, ◌<◌, Bool, true, false, List, [], ◌∷◌, map, ◌⊎◌, eqb}
use Rattle.std.proofs.Common.{arith, inl, inr, sym, ◌∙◌, eq-eqb, ne_eqb, lt-ltb, le-ltb}
use Rattle.std.proofs.Math.Path.{◌≡◌, refl, ap}
use Rattle.std.proofs.Math.ListN.{get_or}
use Rattle.sets.specs.Members.{cons_if}
use Rattle.language.specs.Lists.{choose}
use Rattle.language.specs.File.{k_argument, arguments, word, record_count}
use Rattle.language.specs.Format.{max_variables, max_records, kind_word, next_word, argument_kind, call_kind, argument_variable}
use Rattle.laws.specs.Choices.{choose_true, choose_false}
use Rattle.records.specs.Records.{record_at}
use Rattle.records.specs.declared.Record.TheVariants.{Call}
use Rattle.chains.specs.Layout.{all_rows, real}
use Rattle.chains.specs.Formed.{Formed, Stands, counted}
use Rattle.chains.specs.Is.{argument_is, chain_next}
use Rattle.chains.specs.Kinds.{kind_in, kind_read}
use Rattle.chains.specs.Parts.{call_at}
use Rattle.chains.specs.Records.{chain_records, records_none, records_step, along}
use Rattle.chains.specs.Shapes.{kind_number}
use Rattle.word_machine.specs.Tables.{link_unit, PassingMode, slot_of}
use Rattle.word_machine.specs.Passing.{packed, packed_slot, of_mode}
use Rattle.plans.specs.Plan.{links_from, linked}
use Rattle.plans.specs.Passes.{slots_from, modes_from, is_kind, first_in, argument_link, link_of, joining}
use Rattle.plans.specs.Tests.{kind_yes, kind_no}
use Rattle.plans.specs.Turns.{call_is}
use Rattle.plans.specs.Links.{Joinable, packed_next}
use Rattle.plans.specs.Joined.{link_read, first_end}

-- ---- one link
linked_none : (link : ℕ → ℕ) (n x : ℕ) → link x / link_unit ≡ 0 → linked link n x ≡ []
unfolding linked choose
linked_none link zero x e = refl
linked_none link (suc n) x e = rw (e, le-ltb x 0 (omega arith)) refl

linked_more : (link : ℕ → ℕ) (n x a : ℕ) → x < a → link x / link_unit ≡ a → linked link (suc n) x ≡ link a ∷ linked link n a
unfolding linked choose
linked_more link n x a l e = rw (e, lt-ltb x a l) refl

module _ {f : List ℕ} (F : Formed f) (t : List ℕ) (J : Joinable f (record_count f) t) (m : ℕ) (p : PassingMode m) (slot mode link : ℕ → ℕ)
    (slot_is : (a : ℕ) → a < record_count f → get_or t (slots_from + a) 0 ≡ slot a) (mode-is : (a : ℕ) → a < record_count f → get_or t (modes_from + a) 0 ≡ mode a)
    (link_is : (a : ℕ) → a < record_count f → link a ≡ get_or (joining f t) (links_from m + a) 0) where
  -- what an argument of the mode passes
  abbrev pub more : ℕ → ℕ
  more a = first_in m (word f a next_word) (joining f t)

  abbrev pub says : ℕ → ℕ
  says a = packed (slot a) (word f a argument_variable) (more a)

  -- slots and variables of these arguments are numbers of variables
  abbrev pub Numbers : List ℕ → Type 0
  Numbers [] = Unit {0}
  Numbers (a ∷ as') = ((1 ≤ slot a) × (slot a ≤ max_variables) × (word f a argument_variable ≤ max_variables)) × Numbers as'

  -- ---- an argument's link
  module _ (a : ℕ) (s : Stands f arguments a) (z : a ≡ 0 → ⊥) where
    kind_here : word f a kind_word ≡ argument_kind
    unfolding all_rows
    kind_here = kind_number (word f a kind_word) k_argument (sym (kind_read f a refl) ∙ ap kind_in (argument_is s z)) (λ e. let q : ◌≡◌ {A = ℕ} 0 1 = cc in omega arith)

    no_call : is_kind f call_kind a ≡ false
    no_call = kind_no f a call_kind refl (λ k. omega (arith, k, kind_here))

    is_argument : is_kind f argument_kind a ≡ true
    is_argument = kind_yes f a argument_kind refl kind_here

    word_here : get_or (joining f t) (links_from m + a) 0 ≡ choose (eqb (mode a) m) (says a) (packed 0 0 (more a))
    unfolding link_of argument_link choose
    word_here = link_read F t J m p a s.below ∙ rw (no_call, is_argument, slot_is a s.below, mode-is a s.below) refl

    -- it has the mode, or the first from here on is the first behind it
    module _ (k : (1 ≤ slot a) × (slot a ≤ max_variables) × (word f a argument_variable ≤ max_variables)) (e : eqb (mode a) m ≡ true) where
      own_word : get_or (joining f t) (links_from m + a) 0 ≡ says a
      own_word = word_here ∙ choose_true _ (says a) (packed 0 0 (more a)) e

      own_first : first_in m a (joining f t) ≡ a
      unfolding first_in
      own_first =
          let w = get_or (joining f t) (links_from m + a) 0 in
          let z : slot_of w ≡ slot a = ap slot_of own_word ∙ packed_slot (slot a) (word f a argument_variable) (more a) k.1 k.2 in
          choose_false _ (w / link_unit) a (ne_eqb (slot_of w) 0 (λ q. omega (arith, k.0)))

      own_next : link a / link_unit ≡ more a
      own_next = ap (λ w. w / link_unit) (link_is a s.below ∙ own_word) ∙ packed_next (slot a) (word f a argument_variable) (more a) k.1 k.2

    other_first : eqb (mode a) m ≡ false → first_in m a (joining f t) ≡ more a
    unfolding first_in
    other_first e =
        let w = get_or (joining f t) (links_from m + a) 0 in
        let d : w ≡ packed 0 0 (more a) = word_here ∙ choose_false _ (says a) (packed 0 0 (more a)) e in
        choose_true _ (w / link_unit) a (eq-eqb (slot_of w) 0 (ap slot_of d ∙ packed_slot 0 0 (more a) (omega arith) (omega arith)))
        ∙ ap (λ v. v / link_unit) d ∙ packed_next 0 0 (more a) (omega arith) (omega arith)

  -- ---- all along the chain: x is before it, and n links are enough to its end
  abbrev Goes : ℕ → Type 0
  Goes a = Numbers (chain_records f a) → (n x : ℕ) → (a ≡ 0) ⊎ (x < a) → record_count f ≤ x + n → link x / link_unit ≡ first_in m a (joining f t)
      → linked link n x ≡ map says (of_mode mode m (chain_records f a))

  goes_end : Goes 0
  unfolding of_mode
  goes_end k n x o h e = linked_none link n x (e ∙ first_end F t J m p) ∙ (rw (records_none f {i = 0} refl) refl)

  module _ (a : ℕ) (s : Stands f arguments a) (z : a ≡ 0 → ⊥) (ih : Goes (word f a next_word)) where
    goes_own : ((1 ≤ slot a) × (slot a ≤ max_variables) × (word f a argument_variable ≤ max_variables)) × Numbers (chain_records f (word f a next_word)) → eqb (mode a) m ≡ true
        → (n x : ℕ) → x < a → record_count f ≤ x + n → link x / link_unit ≡ first_in m a (joining f t)
        → linked link n x ≡ says a ∷ map says (of_mode mode m (chain_records f (word f a next_word)))
    goes_own k c zero x o h e = absurd (omega (arith, s.below))
    goes_own k c (suc n) x o h e =
        linked_more link n x a o (e ∙ own_first a s z k.0 c)
        ∙ ap (λ w. w ∷ linked link n a) (link_is a s.below ∙ own_word a s z k.0 c)
        ∙ ap (λ ws. says a ∷ ws) (ih k.1 n a (chain_next F s z refl).order (omega arith) (own_next a s z k.0 c))

    goes_on_law : Goes a
    unfolding of_mode cons_if
    goes_on_law k n x o h e = rw r (go (eqb (mode a) m) refl)
      where
        r : chain_records f a ≡ a ∷ chain_records f (word f a next_word)
        r = records_step F z s.below refl

        before : x < a
        before = elim o [ inl y ↦ absurd (z y) | inr l ↦ l ]

        later : (word f a next_word ≡ 0) ⊎ (x < word f a next_word)
        later = elim (chain_next F s z refl).order [ inl y ↦ inl y | inr l ↦ inr (omega (arith, before)) ]

        go : (c : Bool) → eqb (mode a) m ≡ c → linked link n x ≡ map says (cons_if c a (of_mode mode m (chain_records f (word f a next_word))))
        go true c = goes_own (rw r at k) c n x before h e
        go false c = ih (rw r at k).1 n x later h (e ∙ other_first a s z c)

  goes : (a : ℕ) → Stands f arguments a → Goes a
  unfolding real
  goes = along F arguments refl Goes goes_end goes_on_law

  -- ---- from a call
  pub call_links : (i n q ys : ℕ) → record_at f i ≡ Call n q ys → Numbers (chain_records f ys)
      → linked link (max_records - i) i ≡ map says (of_mode mode m (chain_records f ys))
  unfolding link_of choose
  call_links i n q ys e k =
      let c = call_at F refl e in
      let l = c.below in
      let r : link i / link_unit ≡ first_in m ys (joining f t) =
      ap (λ w. w / link_unit) (link_is i l ∙ link_read F t J m p i l ∙ (rw (call_is F i e) refl)) ∙ packed_next 0 0 _ (omega arith) (omega arith)
      ∙ ap (λ a. first_in m a (joining f t)) (sym c.w3) in
      goes ys c.to_arguments.stands k (max_records - i) i c.to_arguments.order (omega (arith, (counted F).most)) r
