-- The records of calls' arguments: each belongs to one call, so that what its parameter says stands in the table after the pass.
use Prim.Native.Nat.{ℕ, zero, suc, ◌+◌, ◌≤◌, ◌<◌}
use native.Mathlib.Omega.{arith}
use Rattle.std.proofs.Math.Decide.{ℕ_discrete}
use Rattle.std.specs.Prelude.{Bool, ◌≡◌, ◌≢◌, ◌⊎◌, eqb, set, replicate}
use Rattle.std.proofs.Math.Bool.{true, false}
use Rattle.std.proofs.Math.Path.{refl, ap}
use Rattle.std.proofs.Common.{sym, ◌∙◌, inl, inr}
use mathlib.Core.List.{List, [], ◌∷◌}
use borrow.Author.Tests.{eqb-true, eq-eqb}
use Rattle.std.proofs.Math.ListN.{length, get_or, length-set}
use Rattle.std.proofs.lemmas.List.{length-replicate, get_or-replicate}
use Rattle.std.proofs.Math.Seq.{get_or-set_same, get_or-set_other}
use Rattle.sets.specs.Tests.{◌&◌}
use Rattle.sets.specs.Members.{in_list}
use Rattle.language.specs.Lists.{choose, count}
use Rattle.language.specs.File.{k_call, Kind, k_argument, k_goal, arguments, row, kind_of, word, record_count}
use Rattle.language.specs.Program.{Parameter, signature_of, parameters_of}
use Rattle.language.specs.Answers.{program}
use Rattle.language.specs.Format.{kind_word, next_word, call_kind, call_procedure, call_arguments, max_records}
use Rattle.laws.specs.Counts.{hit, hit_same, hit_other, count_cons, count_none}
use Rattle.chains.specs.Layout.{all_rows, real}
use Rattle.records.specs.Records.{record_at}
use Rattle.records.specs.declared.Record.TheVariants.{Call}
use Rattle.chains.specs.Formed.{Formed, Stands, counted}
use Rattle.chains.specs.Is.{argument_is}
use Rattle.chains.specs.Kinds.{kind_in, kind_read}
use Rattle.chains.specs.Parts.{call_at, argument_at}
use Rattle.chains.specs.Records.{chain_records, records_none, records_step, along}
use Rattle.chains.specs.Shapes.{goal_number, by_number}
use Rattle.owners.specs.Handed.{Attribute, reference_words, words_open, handed}
use Rattle.owners.specs.Handing.{handed_by}
use Rattle.word_machine.specs.Filling.{matched, matched_at, matches}

-- ---- stores by parameters
module _ (g : Parameter → ℕ) where
  matched_length : (ps : List Parameter) (js t : List ℕ) → length (matched g ps js t) ≡ length t
  unfolding matched
  matched_length [] js t = refl
  matched_length (a ∷ ps) [] t = refl
  matched_length (a ∷ ps) (j ∷ js) t = matched_length ps js (set t j (g a)) ∙ length-set t j (g a)

  matched_other : (ps : List Parameter) (js t : List ℕ) (p : ℕ) → count p js ≡ 0 → get_or (matched g ps js t) p 0 ≡ get_or t p 0
  unfolding matched
  matched_other [] js t p z = refl
  matched_other (a ∷ ps) [] t p z = refl
  matched_other (a ∷ ps) (j ∷ js) t p z =
      matched_other ps js (set t j (g a)) p (omega (arith, count_cons p j js)) ∙ get_or-set_other t j p (g a) 0 (λ e. differ e)
    where
      differ : p ≡ j → ⊥
      differ e = let h : count j (j ∷ js) ≡ 0 = rw e at z in omega (arith, count_cons j j js, hit_same j)

  -- the words of the records are what the parameters say
  abbrev pub Says : List Parameter → List ℕ → List ℕ → Type 0
  Says [] js t = Unit {0}
  Says (a ∷ ps) [] t = Unit {0}
  Says (a ∷ ps) (j ∷ js) t = (get_or t j 0 ≡ g a) × Says ps js t

  matched_says : (ps : List Parameter) (js t : List ℕ) → ((p : ℕ) → 0 < count p js → p < length t) → ((p : ℕ) → count p js ≤ 1) → Says ps js (matched g ps js t)
  unfolding matched
  matched_says [] js t r o = tt
  matched_says (a ∷ ps) [] t r o = tt
  matched_says (a ∷ ps) (j ∷ js) t r o = (
    matched_other ps js (set t j (g a)) j (omega (arith, o j, count_cons j j js, hit_same j))
        ∙ get_or-set_same t j (g a) 0 (r j (omega (arith, count_cons j j js, hit_same j))),
    matched_says ps js (set t j (g a)) (λ p h. omega (arith, r p (omega (arith, count_cons p j js)), length-set t j (g a))) (λ p. omega (arith, o p, count_cons p j js)),
  )

  says_kept : (ps : List Parameter) (js t t' : List ℕ) → ((p : ℕ) → 0 < count p js → get_or t' p 0 ≡ get_or t p 0) → Says ps js t → Says ps js t'
  says_kept [] js t t' e h = tt
  says_kept (a ∷ ps) [] t t' e h = tt
  says_kept (a ∷ ps) (j ∷ js) t t' e h =
      (e j (omega (arith, count_cons j j js, hit_same j)) ∙ h.0, says_kept ps js t t' (λ p l. e p (omega (arith, count_cons p j js))) h.1)

-- ---- the call that an argument's record belongs to: handed down, as where chains go on is
unfoldable call_by : Attribute
call_by kind i k v = choose (eqb k call_arguments & eqb kind call_kind) i v

-- p is the first of a list, or a later one
first_or : (p j : ℕ) (js : List ℕ) → 0 < count p (j ∷ js) → (j ≡ p) ⊎ (0 < count p js)
first_or p j js h = elim (ℕ_discrete j p) [ yes e ↦ inl e | no ne ↦ inr (omega (arith, count_cons p j js, hit_other j p ne)) ]

module _ {f : List ℕ} (F : Formed f) where
  abbrev calls : List ℕ
  calls = handed call_by f (replicate max_records 0)

  called : (K : Kind) (i : ℕ) → i < record_count f → kind_of (word f i kind_word) ≡ K → (k : ℕ) → in_list k (reference_words K) ≡ true → word f i k ≢ 0
      → get_or calls (word f i k) 0 ≡ call_by (row K).kind i k (get_or calls i 0)
  called K i q e k m z =
      handed_by F call_by (replicate max_records 0) (omega (arith, (counted F).most, length-replicate {A = ℕ} max_records 0)) (get_or-replicate {A = ℕ} max_records 0 0 0 (omega arith))
      K i q e k m z

  first_call_law : (i n q ys : ℕ) → record_at f i ≡ Call n q ys → ys ≢ 0 → get_or calls ys 0 ≡ i
  unfolding words_open call_by choose ◌&◌
  first_call_law i n q ys e =
      let c = call_at F refl e in
      rw c.w3 (λ z. called (k_goal k_call) i c.below (sym (kind_read f i refl) ∙ ap kind_in e) call_arguments refl z)

  next_call : (j : ℕ) → Stands f arguments j → j ≢ 0 → word f j next_word ≢ 0 → get_or calls (word f j next_word) 0 ≡ get_or calls j 0
  unfolding words_open call_by choose ◌&◌
  next_call j s z y = called k_argument j s.below (sym (kind_read f j refl) ∙ ap kind_in (argument_is s z)) next_word refl y

  -- ---- the records of a call's arguments are its own
  chain_call : (i j : ℕ) → Stands f arguments j → (j ≢ 0 → get_or calls j 0 ≡ i) → (p : ℕ) → 0 < count p (chain_records f j) → get_or calls p 0 ≡ i
  unfolding real
  chain_call i =
      along F arguments refl (λ j. (j ≢ 0 → get_or calls j 0 ≡ i) → (p : ℕ) → 0 < count p (chain_records f j) → get_or calls p 0 ≡ i)
      (λ e p h. absurd (empty p h))
      (λ j s z ih e p h. go j s z ih e p (first_or p j (chain_records f (word f j next_word)) (rw (records_step {w = word f j next_word} F z s.below refl) at h)))
    where
      empty : (p : ℕ) → 0 < count p (chain_records f 0) → ⊥
      empty p h = let k : 0 < count p [] = rw (records_none f {i = 0} refl) at h in omega (arith, count_none p)

      go : (j : ℕ) → Stands f arguments j → (z : j ≢ 0)
          → ((word f j next_word ≢ 0 → get_or calls (word f j next_word) 0 ≡ i) → (p : ℕ) → 0 < count p (chain_records f (word f j next_word)) → get_or calls p 0 ≡ i)
          → (j ≢ 0 → get_or calls j 0 ≡ i) → (p : ℕ) → (j ≡ p) ⊎ (0 < count p (chain_records f (word f j next_word))) → get_or calls p 0 ≡ i
      go j s z ih e p (inl y) = ap (λ k. get_or calls k 0) (sym y) ∙ e z
      go j s z ih e p (inr h) = ih (λ y. next_call j s z y ∙ e z) p h

  of_call : (i n q ys : ℕ) → record_at f i ≡ Call n q ys → (p : ℕ) → 0 < count p (chain_records f ys) → get_or calls p 0 ≡ i
  of_call i n q ys e = chain_call i ys (call_at F refl e).to_arguments.stands (first_call_law i n q ys e)

  call_record : (i : ℕ) → word f i kind_word ≡ call_kind → record_at f i ≡ Call (word f i next_word) (word f i call_procedure) (word f i call_arguments)
  unfolding all_rows
  call_record i e = by_number f i (k_goal k_call) refl e

  -- ---- they go up, so none stands there twice
  chain_low : (j : ℕ) → Stands f arguments j → (p : ℕ) → 0 < count p (chain_records f j) → (j ≤ p) × (0 < p) × (p < record_count f)
  unfolding real
  chain_low =
      along F arguments refl (λ j. (p : ℕ) → 0 < count p (chain_records f j) → (j ≤ p) × (0 < p) × (p < record_count f))
      (λ p h. absurd (empty p h))
      (λ j s z ih p h. go j s z ih p (first_or p j (chain_records f (word f j next_word)) (rw (records_step {w = word f j next_word} F z s.below refl) at h)))
    where
      empty : (p : ℕ) → 0 < count p (chain_records f 0) → ⊥
      empty p h = let k : 0 < count p [] = rw (records_none f {i = 0} refl) at h in omega (arith, count_none p)

      onward : (j p : ℕ) → 0 < count p (chain_records f (word f j next_word)) → (word f j next_word ≡ 0) ⊎ (j < word f j next_word) → j < word f j next_word
      onward j p h (inl z) = absurd (let k : 0 < count p (chain_records f 0) = rw z at h in empty p k)
      onward j p h (inr l) = l

      go : (j : ℕ) (s : Stands f arguments j) → (z : j ≢ 0)
          → ((p : ℕ) → 0 < count p (chain_records f (word f j next_word)) → (word f j next_word ≤ p) × (0 < p) × (p < record_count f))
          → (p : ℕ) → (j ≡ p) ⊎ (0 < count p (chain_records f (word f j next_word))) → (j ≤ p) × (0 < p) × (p < record_count f)
      go j s z ih p (inl y) = (omega arith, omega (arith, z), omega (arith, s.below))
      go j s z ih p (inr h) =
          let a = ih p h in
          let l = onward j p h (argument_at F refl (argument_is s z)).to_next.order in
          (omega (arith, a.0), a.1, a.2)

  chain_once : (j : ℕ) → Stands f arguments j → (p : ℕ) → count p (chain_records f j) ≤ 1
  unfolding real
  chain_once =
      along F arguments refl (λ j. (p : ℕ) → count p (chain_records f j) ≤ 1) (λ p. rw (records_none f {i = 0} refl) (omega (arith, count_none p)))
      (λ j s z ih p. rw (records_step {w = word f j next_word} F z s.below refl) (go j s z p (ih p) (ℕ_discrete j p)))
    where
      none : (j p : ℕ) (s : Stands f arguments j) → (z : j ≢ 0) → j ≡ p → (k : ℕ) → count p (chain_records f (word f j next_word)) ≡ k → k ≡ 0
      none j p s z e zero q = refl
      none j p s z e (suc k) q =
          let n = (argument_at F refl (argument_is s z)).to_next in
          let a = chain_low (word f j next_word) n.stands p (omega arith) in
          absurd (above n.order a.0 a.1)
        where
          above : (word f j next_word ≡ 0) ⊎ (j < word f j next_word) → word f j next_word ≤ p → 0 < p → ⊥
          above (inl y) l h = let b : 0 < count p (chain_records f 0) = rw y at (let g : 0 < count p (chain_records f (word f j next_word)) = omega arith in g) in
              let c : 0 < count p [] = rw (records_none f {i = 0} refl) at b in omega (arith, count_none p)
          above (inr y) l h = omega arith

      go : (j : ℕ) (s : Stands f arguments j) → (z : j ≢ 0) → (p : ℕ) → count p (chain_records f (word f j next_word)) ≤ 1 → Dec (j ≡ p)
          → count p (j ∷ chain_records f (word f j next_word)) ≤ 1
      go j s z p h (yes e) =
          let o : hit j p ≡ 1 = rw (← e) (hit_same j) in
          omega (arith, count_cons p j (chain_records f (word f j next_word)), none j p s z e _ refl)
      go j s z p h (no ne) = omega (arith, count_cons p j (chain_records f (word f j next_word)), hit_other j p ne)

  -- ---- the pass
  module _ (g : Parameter → ℕ) where
    abbrev stores : ℕ → List ℕ → List ℕ
    stores i t = matched g (parameters_of (signature_of (program f) (word f i call_procedure))) (chain_records f (word f i call_arguments)) t

    step_length : (i : ℕ) (t : List ℕ) → length (matched_at f g i t) ≡ length t
    unfolding matched_at choose
    step_length i t = go (eqb (word f i kind_word) call_kind)
      where
        go : (b : Bool) → length (choose b (stores i t) t) ≡ length t
        go true = matched_length g (parameters_of (signature_of (program f) (word f i call_procedure))) (chain_records f (word f i call_arguments)) t
        go false = refl

    -- another record's step leaves the word of a call's argument
    step_other : (i b p : ℕ) (t : List ℕ) → get_or calls p 0 ≡ i → i ≢ b → get_or (matched_at f g b t) p 0 ≡ get_or t p 0
    unfolding matched_at choose
    step_other i b p t c ne = go (eqb (word f b kind_word) call_kind) refl
      where
        none : (k : ℕ) → word f b kind_word ≡ call_kind → count p (chain_records f (word f b call_arguments)) ≡ k → k ≡ 0
        none zero e z = refl
        none (suc k) e z = absurd (ne (sym c ∙ of_call b _ _ _ (call_record b e) p (omega arith)))

        go : (b' : Bool) → eqb (word f b kind_word) call_kind ≡ b' → get_or (choose b' (stores b t) t) p 0 ≡ get_or t p 0
        go true e = matched_other g (parameters_of (signature_of (program f) (word f b call_procedure))) (chain_records f (word f b call_arguments)) t p (none _ (eqb-true _ _ e) refl)
        go false e = refl

    step_call : (i n q ys : ℕ) (t : List ℕ) → record_at f i ≡ Call n q ys → matched_at f g i t ≡ matched g (parameters_of (signature_of (program f) q)) (chain_records f ys) t
    unfolding matched_at choose all_rows
    step_call i n q ys t e =
        let c = call_at F refl e in
        rw (c.w2, c.w3, eq-eqb (word f i kind_word) call_kind (goal_number (word f i kind_word) k_call (sym (kind_read f i refl) ∙ ap kind_in e))) refl

    matches_other : (m b : ℕ) (t : List ℕ) (i p : ℕ) → get_or calls p 0 ≡ i → i < b → get_or (matches f g m b t) p 0 ≡ get_or t p 0
    unfolding matches
    matches_other zero b t i p c l = refl
    matches_other (suc m) b t i p c l =
        matches_other m (suc b) (matched_at f g b t) i p c (omega arith) ∙ step_other i b p t c (λ z. omega arith)

    pub matches_say : (m b : ℕ) (t : List ℕ) → record_count f ≤ length t → (i n q ys : ℕ) → record_at f i ≡ Call n q ys → b ≤ i → i < b + m
        → Says g (parameters_of (signature_of (program f) q)) (chain_records f ys) (matches f g m b t)
    unfolding matches
    matches_say zero b t l i n q ys e h k = absurd (omega arith)
    matches_say (suc m) b t l i n q ys e h k = elim (ℕ_discrete b i) [
      | yes z ↦ here (rw (← z) at e)
      | no ne ↦ matches_say m (suc b) (matched_at f g b t) (omega (arith, step_length b t)) i n q ys e (omega (arith, ne)) (omega arith)
    ]
      where
        here : record_at f b ≡ Call n q ys → Says g (parameters_of (signature_of (program f) q)) (chain_records f ys) (matches f g m (suc b) (matched_at f g b t))
        here d =
            let s = (call_at F refl d).to_arguments.stands in
            says_kept g (parameters_of (signature_of (program f) q)) (chain_records f ys) (matched_at f g b t) (matches f g m (suc b) (matched_at f g b t))
            (λ p c. matches_other m (suc b) (matched_at f g b t) b p (of_call b n q ys d p c) (omega arith))
            (rw (step_call b n q ys t d) (matched_says g (parameters_of (signature_of (program f) q)) (chain_records f ys) t (λ p c. omega (arith, (chain_low ys s p c).2)) (chain_once ys s)))
