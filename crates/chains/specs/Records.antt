-- The records of a chain, by their numbers: along w1 from record i on. What stands in the chain is one element for each of them.
-- In a loop that reads w1: `records_step` and `next_onward` in a turn, `records_none` at the end, `records_few` where a count must fit. For a law
-- about a chain: the inductions `climb` and `along`.
use Rattle.std.specs.Prelude.{ℕ, zero, suc, ◌≤◌, ◌<◌, ◌≡◌, refl, List, [], ◌∷◌, map, true, length}
use Rattle.std.proofs.Common.{arith, ap, sym, ◌∙◌}
use Rattle.language.specs.File.{Chain, row, kind_of, word, record_count}
use Rattle.language.specs.Format.{kind_word, next_word}
use Rattle.layout.specs.Passing.{next_leads}
use Rattle.layout.specs.Chains.{real, starts_next}
use Rattle.chains.specs.Formed.{Formed, Stands, stands_starts, leads_stands, ahead, ahead_some, Onward, leads_onward}

-- at most n records from record i on
unfoldable pub records_up_to : ℕ → (ℕ → ℕ) → ℕ → List ℕ
records_up_to zero next i = []
records_up_to (suc n) next zero = []
records_up_to (suc n) next (suc i) = suc i ∷ records_up_to n next (next (suc i))

unfoldable pub chain_records : List ℕ → ℕ → List ℕ
chain_records f i = records_up_to (record_count f) (λ j. word f j next_word) i

-- ---- one step at a time
up_to_none : (n : ℕ) (next : ℕ → ℕ) → records_up_to n next 0 ≡ []
unfolding records_up_to
up_to_none zero next = refl
up_to_none (suc n) next = refl

pub records_none : (f : List ℕ) {i : ℕ} → i ≡ 0 → chain_records f i ≡ []
unfolding chain_records
records_none f z = rw z (up_to_none (record_count f) (λ j. word f j next_word))

-- w1 goes up
pub next_onward : {f : List ℕ} {i w : ℕ} → Formed f → (i ≡ 0 → ⊥) → i < record_count f → w ≡ word f i next_word
    → Onward f (row (kind_of (word f i kind_word))).next i w
next_onward {f} {i} F z q e = rw e (leads_onward F (omega arith) q (next_leads (word f) (record_count f) F.form i q))

-- the bound does not matter where it is enough
up_to_bound : {f : List ℕ} → Formed f → (m l i : ℕ) → i < record_count f → ahead f i ≤ m → ahead f i ≤ l
    → records_up_to m (λ j. word f j next_word) i ≡ records_up_to l (λ j. word f j next_word) i
unfolding records_up_to
up_to_bound F zero l zero q a b = sym (up_to_none l _)
up_to_bound {f} F zero l (suc i) q a b = absurd (omega (arith, ahead_some f (suc i) (omega arith)))
up_to_bound F (suc m) l zero q a b = sym (up_to_none l _)
up_to_bound {f} F (suc m) zero (suc i) q a b = absurd (omega (arith, ahead_some f (suc i) (omega arith)))
up_to_bound {f} F (suc m) (suc l) (suc i) q a b =
    let o = next_onward {w = word f (suc i) 1} F (λ z. omega arith) q refl in
    ap (λ t. suc i ∷ t) (up_to_bound F m l (word f (suc i) 1) o.stands.below (omega arith) (omega arith))

up_to_suc : {f : List ℕ} → Formed f → (m i : ℕ) → 0 < i → i < record_count f → ahead f i ≤ m
    → records_up_to m (λ j. word f j next_word) i ≡ i ∷ records_up_to m (λ j. word f j next_word) (word f i next_word)
unfolding records_up_to
up_to_suc F zero zero p q a = absurd (omega arith)
up_to_suc {f} F zero (suc i) p q a = absurd (omega (arith, ahead_some f (suc i) p))
up_to_suc F (suc m) zero p q a = absurd (omega arith)
up_to_suc {f} F (suc m) (suc i) p q a =
    let o = next_onward {w = word f (suc i) 1} F (λ z. omega arith) q refl in
    ap (λ t. suc i ∷ t) (up_to_bound F m (suc m) (word f (suc i) 1) o.stands.below (omega arith) (omega arith))

pub records_step : {f : List ℕ} {i w : ℕ} → Formed f → (i ≡ 0 → ⊥) → i < record_count f → w ≡ word f i next_word → chain_records f i ≡ i ∷ chain_records f w
unfolding chain_records
records_step {f} {i} F z q e = rw e (up_to_suc F (record_count f) i (omega arith) q (omega (arith, ahead_some f i (omega arith))))

-- ---- what holds at the end of a chain, and at a record where it holds at the next, holds all along
climb_up_to : {f : List ℕ} → Formed f → (P : ℕ → Type 0) → P 0 → ((i : ℕ) → (i ≡ 0 → ⊥) → i < record_count f → P (word f i next_word) → P i)
    → (m i : ℕ) → i < record_count f → ahead f i ≤ m → P i
climb_up_to F P e h zero zero q a = e
climb_up_to {f} F P e h zero (suc i) q a = absurd (omega (arith, ahead_some f (suc i) (omega arith)))
climb_up_to F P e h (suc m) zero q a = e
climb_up_to {f} F P e h (suc m) (suc i) q a =
    let z : suc i ≡ 0 → ⊥ = λ z. omega arith in
    let o = next_onward {w = word f (suc i) 1} F z q refl in
    h (suc i) z q (climb_up_to F P e h m (word f (suc i) 1) o.stands.below (omega arith))

pub climb : {f : List ℕ} → Formed f → (P : ℕ → Type 0) → P 0 → ((i : ℕ) → (i ≡ 0 → ⊥) → i < record_count f → P (word f i next_word) → P i)
    → (i : ℕ) → i < record_count f → P i
climb {f} F P e h i q = climb_up_to F P e h (ahead f i) i q (omega arith)

-- the same along a chain of one sort
pub along : {f : List ℕ} → Formed f → (c : Chain) → real c ≡ true → (P : ℕ → Type 0) → P 0
    → ((i : ℕ) → Stands f c i → (i ≡ 0 → ⊥) → P (word f i next_word) → P i) → (i : ℕ) → Stands f c i → P i
along {f} F c r P e h i s =
    climb F (λ j. Stands f c j → P j) (λ t. e)
    (λ j z q k t. h j t z (k (leads_stands F (starts_next (word f) (record_count f) F.form j c r (omega arith) (stands_starts t)))))
    i s.below s

-- no more than are ahead
pub records_few : {f : List ℕ} → Formed f → (i : ℕ) → i < record_count f → length (chain_records f i) ≤ ahead f i
records_few {f} F =
    climb F (λ i. length (chain_records f i) ≤ ahead f i) (rw (records_none f {i = 0} refl) (omega arith))
    λ i z q h. let o = next_onward {w = word f i next_word} F z q refl in omega (arith, ap length (records_step {w = word f i next_word} F z q refl))

-- none is 0
abbrev pub Somes : List ℕ → Type 0
Somes [] = Unit {0}
Somes (x ∷ xs) = (0 < x) × Somes xs

somes_up_to : (n : ℕ) (next : ℕ → ℕ) (i : ℕ) → Somes (records_up_to n next i)
unfolding records_up_to
somes_up_to zero next i = tt
somes_up_to (suc n) next zero = tt
somes_up_to (suc n) next (suc i) = (omega arith, somes_up_to n next (next (suc i)))

pub records_some : (f : List ℕ) (i : ℕ) → Somes (chain_records f i)
unfolding chain_records
records_some f i = somes_up_to (record_count f) (λ j. word f j next_word) i

-- ---- a view that has one element in front for each record of the chain is the elements of its records
pub view_map : {A : Type 0} {f : List ℕ} → Formed f → (c : Chain) → real c ≡ true → (view : ℕ → List A) (el : ℕ → A) → view 0 ≡ []
    → ((i : ℕ) → Stands f c i → (i ≡ 0 → ⊥) → view i ≡ el i ∷ view (word f i next_word)) → (i : ℕ) → Stands f c i → view i ≡ map el (chain_records f i)
view_map {f = f} F c r view el e h =
    along F c r (λ i. view i ≡ map el (chain_records f i)) (rw (records_none f {i = 0} refl) e)
    λ i s z k. rw (records_step {w = word f i next_word} F z s.below refl) (h i s z ∙ ap (λ t. el i ∷ t) k)
