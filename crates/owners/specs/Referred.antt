-- A file that passes numbers 1 and 2 is a tree: every record but 0 is referred to by one word of one record, which stands before it.
-- What holds of every record is shown along the references: `outward` from the header on, `inward` from the ends of the chains.
use Rattle.std.specs.Prelude.{ℕ, zero, suc, ◌+◌, ◌-◌, ◌≤◌, ◌<◌, ◌≡◌, List, [], ◌∷◌}
use Rattle.std.proofs.Common.{arith, ap}
use Rattle.std.proofs.Math.Decide.{dec_lt, ℕ_discrete}
use Rattle.std.proofs.lemmas.Bool.{false≢true}
use Rattle.std.proofs.Math.Logic.{inl, inr}
use Rattle.language.specs.Lists.{nth, nth1, count}
use Rattle.language.specs.File.{k_header, Chain, Use, number, unused, first, row, kind_of, kind_at, word, record_count, references}
use Rattle.language.specs.Format.{kind_word}
use Rattle.chains.specs.Layout.{Leads, Used, once, next_leads, record_used, header_kind_law}
use Rattle.records.specs.Table.{uses}
use Rattle.records.specs.Form.{references_by_uses}
use Rattle.chains.specs.Formed.{Formed}
use Rattle.owners.specs.Counting.{count_at, hits_one, hits_two, hits_some}

-- the sort of chain that record i stands in
unfoldable pub sort_of : List ℕ → ℕ → Chain
sort_of f i = (row (kind_of (word f i kind_word))).chain

-- the uses of record i's words, from w1 on
unfoldable pub uses_of : List ℕ → ℕ → List Use
uses_of f i = uses (row (kind_of (word f i kind_word)))

-- how often record j refers to record i
unfoldable pub times : List ℕ → ℕ → ℕ → ℕ
times f j i = count i (references (word f) (record_count f) j)

-- record j refers to record i, by its word k, as to a chain of the sort c
pub record Refers (f : List ℕ) (j k : ℕ) (c : Chain) (i : ℕ) : Type 0 where
  pub below : j < record_count f
  pub use_is : nth1 unused (uses_of f j) k ≡ first c
  pub leads : word f j k ≡ i

-- .. and it goes up
pub record Upward (f : List ℕ) (j : ℕ) (c : Chain) (i : ℕ) : Type 0 where
  pub order : j < i
  pub below : i < record_count f
  pub sort : sort_of f i ≡ c

-- the record and the word that refer to record i, as to its sort of chain
pub record Referrer (f : List ℕ) (i : ℕ) : Type 0 where
  pub from : ℕ
  pub by : ℕ
  pub refers : Refers f from by (sort_of f i) i
  pub order : from < i

-- ---- what holds of each word that refers, from word k on
abbrev pub Each : (Chain → ℕ → Type 0) → (ℕ → ℕ) → ℕ → List Use → Type 0
Each P w k [] = Unit {0}
Each P w k (number ∷ us) = Each P w (suc k) us
Each P w k (unused ∷ us) = Each P w (suc k) us
Each P w k (first c ∷ us) = P c (w k) × Each P w (suc k) us

-- .. of each word of record i
abbrev pub EachOf : (Chain → ℕ → Type 0) → List ℕ → ℕ → Type 0
EachOf P f i = Each P (word f i) 1 (uses_of f i)

each_at : (P : Chain → ℕ → Type 0) (w : ℕ → ℕ) (us : List Use) (k p q : ℕ) (c : Chain) → Each P w k us → nth unused us p ≡ first c → q ≡ k + p → P c (w q)
unfolding nth
each_at P w [] k p q c e u z = absurd (false≢true cc)
each_at P w (number ∷ us) k zero q c e u z = absurd (false≢true cc)
each_at P w (number ∷ us) k (suc p) q c e u z = each_at P w us (suc k) p q c e u (omega arith)
each_at P w (unused ∷ us) k zero q c e u z = absurd (false≢true cc)
each_at P w (unused ∷ us) k (suc p) q c e u z = each_at P w us (suc k) p q c e u (omega arith)
each_at P w (first d ∷ us) k zero q c e u z = let s : d ≡ c = cc in let t : q ≡ k = omega arith in rw (t, ← s) e.0
each_at P w (first d ∷ us) k (suc p) q c e u z = each_at P w us (suc k) p q c e.1 u (omega arith)

pub each_refers : {f : List ℕ} {j k i : ℕ} {c : Chain} (P : Chain → ℕ → Type 0) → EachOf P f j → Refers f j k c i → P c i
unfolding nth1
each_refers {f} {j} {k = zero} P e r = absurd (false≢true (cc r.use_is))
each_refers {f} {j} {k = suc p} P e r = rw (← r.leads) (each_at P (word f j) (uses_of f j) 1 p (suc p) _ e r.use_is (omega arith))

pub times_refers : {f : List ℕ} (j i : ℕ) → j < record_count f → 0 < times f j i → (k : ℕ) × (c : Chain) × Refers f j k c i
unfolding nth1 times uses_of kind_at
times_refers {f} j i q h =
    let r = count_at (word f) (record_count f) j (uses_of f j) 1 i (rw (references_by_uses (word f) (record_count f) j) at h) in
    let z : 1 + r.0 ≡ suc r.0 = omega arith in
    (suc r.0, r.1, record { below = q; use_is = r.2; leads = rw z at r.3 })

-- the header refers to procedures and types
pub header_uses : {f : List ℕ} → Formed f → uses_of f 0 ≡ uses (row k_header)
unfolding uses_of
header_uses {f} F = ap (λ k. uses (row k)) (header_kind_law f F.header F.form)

module _ {f : List ℕ} (F : Formed f) where
  -- ---- a reference goes up, to a record of the sort that it asks for
  used_each : (i : ℕ) (us : List Use) (k : ℕ) → Used (word f) (record_count f) i k us → Each (Leads (word f) (record_count f) i) (word f i) k us
  used_each i [] k u = tt
  used_each i (number ∷ us) k u = used_each i us (suc k) u
  used_each i (unused ∷ us) k u = used_each i us (suc k) u.1
  used_each i (first c ∷ us) k u = (u.0, used_each i us (suc k) u.1)

  each_leads : (i : ℕ) → i < record_count f → EachOf (Leads (word f) (record_count f) i) f i
  unfolding uses_of uses
  each_leads i q = (next_leads (word f) (record_count f) F.form i q, used_each i (row (kind_of (word f i kind_word))).words 2 (record_used (word f) (record_count f) F.form i q))

  pub refers_up : {j k i : ℕ} {c : Chain} → 0 < i → Refers f j k c i → Upward f j c i
  unfolding sort_of
  refers_up {j} p r =
      elim (each_refers (Leads (word f) (record_count f) j) (each_leads j r.below) r) [
        | inl z ↦ absurd (omega arith)
        | inr z ↦ record { order = z.0; below = z.1; sort = z.2 }
      ]

  -- ---- once
  pub times_one : (j i : ℕ) → 0 < i → i < record_count f → j < record_count f → times f j i ≤ 1
  unfolding times
  times_one j i p q l = omega (arith, once (word f) (record_count f) F.form i p q, hits_one (word f) (record_count f) (record_count f) 0 j i (omega arith) (omega arith))

  -- no other record refers to it
  pub times_other : (j k i : ℕ) → 0 < i → i < record_count f → j < record_count f → k < record_count f → (j ≡ k → ⊥) → 0 < times f j i → times f k i ≡ 0
  unfolding times
  times_other j k i p q l h d t =
      let o = once (word f) (record_count f) F.form i p q in
      elim (dec_lt j k) [
        | yes y ↦ omega (arith, hits_two (word f) (record_count f) (record_count f) 0 j k i (omega arith) y (omega arith))
        | no y ↦ omega (arith, hits_two (word f) (record_count f) (record_count f) 0 k j i (omega arith) (omega (arith, d)) (omega arith))
      ]

  pub referrer : (i : ℕ) → 0 < i → i < record_count f → Referrer f i
  unfolding times
  referrer i p q =
      let s = hits_some (word f) (record_count f) (record_count f) 0 i (omega (arith, once (word f) (record_count f) F.form i p q)) in
      let r = times_refers s.0 i (omega arith) s.3 in
      let u = refers_up p r.2 in
      record { from = s.0; by = r.0; refers = rw u.sort r.2; order = u.order }

  -- ---- along the references
  module _ (P : Chain → ℕ → Type 0) where
    outward_up_to : EachOf P f 0 → ((i : ℕ) → 0 < i → i < record_count f → P (sort_of f i) i → EachOf P f i)
        → (m i : ℕ) → i ≤ m → 0 < i → i < record_count f → P (sort_of f i) i
    outward_up_to e h zero i l p q = absurd (omega arith)
    outward_up_to e h (suc m) i l p q =
        let r = referrer i p q in
        each_refers P (elim (ℕ_discrete r.from 0) [
          | yes z ↦ rw z e
          | no z ↦ h r.from (omega (arith, z)) r.refers.below (outward_up_to e h m r.from (omega (arith, r.order)) (omega (arith, z)) r.refers.below)
        ]) r.refers

    -- what holds of the header's references, and of a record's where it holds of the record, holds of every record
    pub outward : EachOf P f 0 → ((i : ℕ) → 0 < i → i < record_count f → P (sort_of f i) i → EachOf P f i) → (i : ℕ) → 0 < i → i < record_count f → P (sort_of f i) i
    outward e h i p q = outward_up_to e h i i (omega arith) p q

    each_from_law : (i : ℕ) → ((c : Chain) (r : ℕ) → Leads (word f) (record_count f) i c r → P c r) → (us : List Use) (k : ℕ)
        → Each (Leads (word f) (record_count f) i) (word f i) k us → Each P (word f i) k us
    each_from_law i h [] k e = tt
    each_from_law i h (number ∷ us) k e = each_from_law i h us (suc k) e
    each_from_law i h (unused ∷ us) k e = each_from_law i h us (suc k) e
    each_from_law i h (first c ∷ us) k e = (h c (word f i k) e.0, each_from_law i h us (suc k) e.1)

    -- what holds at the end of a chain and of every later record holds of a record's references
    pub each_later : ((c : Chain) → P c 0) → (i : ℕ) → i < record_count f → ((j : ℕ) → i < j → j < record_count f → P (sort_of f j) j) → EachOf P f i
    unfolding sort_of
    each_later z i q h =
        each_from_law i (λ c r l. elim l [ inl e ↦ rw e (z c) | inr e ↦ rw (← e.2) (h r e.0 e.1) ]) (uses_of f i) 1 (each_leads i q)

    inward_up_to : ((c : Chain) → P c 0) → ((i : ℕ) → 0 < i → i < record_count f → EachOf P f i → P (sort_of f i) i)
        → (m i : ℕ) → record_count f - i ≤ m → 0 < i → i < record_count f → P (sort_of f i) i
    inward_up_to z h zero i l p q = absurd (omega arith)
    inward_up_to z h (suc m) i l p q = h i p q (each_later z i q (λ j o b. inward_up_to z h m j (omega arith) (omega arith) b))

    -- what holds at the end of a chain, and of a record where it holds of its references, holds of every record
    pub inward : ((c : Chain) → P c 0) → ((i : ℕ) → 0 < i → i < record_count f → EachOf P f i → P (sort_of f i) i) → (i : ℕ) → 0 < i → i < record_count f → P (sort_of f i) i
    inward z h i p q = inward_up_to z h (record_count f) i (omega arith) p q
