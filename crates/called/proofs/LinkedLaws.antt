-- Laws of `specs/Linked` that only proofs cite.
use Prim.Native.Nat.{ℕ, zero, suc, ◌+◌, ◌≤◌, ◌<◌}
use native.Mathlib.Decide.{dec_lt, ℕ_discrete}
use native.Mathlib.Omega.{arith}
use mathlib.Core.Bool.{true, false}
use mathlib.Core.List.{List}
use mathlib.Core.Logic.{◌⊎◌, inl, inr, ⊎_elim}
use mathlib.Core.Path.{◌≡◌, refl, sym, ap, ◌∙◌}
use borrow.Author.Tests.{eqb-true, eq-eqb}
use lib.ListN.{length, get_or, set, replicate, length-set, length-replicate}
use lib.Seq.{get_or-set_same, get_or-set_other}
use Rattle.sets.specs.Tests.{truth, clash, false_of, and_true, true_and}
use Rattle.language.specs.Format.{kind_word, call_kind, max_records, max_procedures}
use Rattle.language.specs.File.{word, record_count}
use Rattle.language.specs.Typing.{typing_ok}
use Rattle.language.specs.Answers.{program}
use Rattle.laws.specs.Choices.{choose_true, choose_false}
use Rattle.records.specs.Blank.{blank_zero}
use Rattle.chains.specs.Formed.{Formed, counted}
use Rattle.owners.specs.Owner.{owner_of}
use Rattle.called.specs.Calls.{CallOf}
use Rattle.called.proofs.CallsLaws.{owner_low}
use Rattle.called.specs.Linked.{CallsLinked, KeptFrom, LinkedUpTo, LinksLeft, OwnersIn, is_call_of, last_call}

module _ (f : List ℕ) where
  is_call : (p i : ℕ) → word f i kind_word ≡ call_kind → owner_of f i ≡ p → is_call_of f p i ≡ true
  unfolding is_call_of
  is_call p i k o = true_and (eq-eqb (word f i kind_word) call_kind k) (eq-eqb (owner_of f i) p o)

  call_is : (p i : ℕ) → is_call_of f p i ≡ true → (word f i kind_word ≡ call_kind) × (owner_of f i ≡ p)
  unfolding is_call_of
  call_is p i e = let r = and_true e in (eqb-true (word f i kind_word) call_kind r.0, eqb-true (owner_of f i) p r.1)

  module _ (p : ℕ) where
    last_here : (m : ℕ) → is_call_of f p m ≡ true → last_call f p (suc m) ≡ m
    unfolding last_call
    last_here m e = choose_true (is_call_of f p m) m (last_call f p m) e

    last_before : (m : ℕ) → is_call_of f p m ≡ false → last_call f p (suc m) ≡ last_call f p m
    unfolding last_call
    last_before m e = choose_false (is_call_of f p m) m (last_call f p m) e

    last_none : last_call f p 0 ≡ 0
    unfolding last_call
    last_none = refl

    -- it stands before m
    last_less : (m : ℕ) → 0 < m → last_call f p m < m
    unfolding last_call
    last_less zero l = absurd (omega arith)
    last_less (suc zero) l =
        elim (truth (is_call_of f p 0)) [ inl e ↦ omega (arith, last_here 0 e) | inr e ↦ omega (arith, last_before 0 e) ]
    last_less (suc (suc m)) l =
        elim (truth (is_call_of f p (suc m))) [
          | inl e ↦ omega (arith, last_here (suc m) e)
          | inr e ↦ omega (arith, last_before (suc m) e, last_less (suc m) (omega arith))
        ]

    -- it is a call of p
    last_is : (m : ℕ) → (last_call f p m ≡ 0 → ⊥) → is_call_of f p (last_call f p m) ≡ true
    last_is zero n = absurd (n last_none)
    last_is (suc m) n =
        elim (truth (is_call_of f p m)) [
          | inl e ↦ rw (last_here m e) e
          | inr e ↦ rw (last_before m e) (last_is m (λ z. n (last_before m e ∙ z)))
        ]

    -- .. and none behind it
    last_most : (m i : ℕ) → i < m → is_call_of f p i ≡ true → i ≤ last_call f p m
    last_most zero i l e = absurd (omega arith)
    last_most (suc m) i l e =
        elim (truth (is_call_of f p m)) [
          | inl t ↦ omega (arith, last_here m t)
          | inr t ↦ elim (ℕ_discrete i m) [
            | yes z ↦ absurd (clash (ap (is_call_of f p) (sym z) ∙ e) t)
            | no z ↦ omega (arith, last_before m t, last_most m i (omega (arith, z)) e)
          ]
        ]

-- ---- the tables once the records before i are linked: each call's place in the table of owners has the link
pub linked_first : {f lasts : List ℕ} (links : List ℕ) → lasts ≡ replicate max_procedures 0 → LinkedUpTo f 1 links lasts × KeptFrom f links 1 links
linked_first {f} {lasts} links e = (
  record {
    procedures = ap length e ∙ length-replicate {A = ℕ} max_procedures 0;
    last = λ p l. ap (λ (t : List ℕ). get_or t p 0) e ∙ blank_zero max_procedures p ∙ sym (none p);
    before = λ p j a b c. absurd (omega arith);
  },
  record { long = refl; other = λ j o. refl },
)
  where
    none : (p : ℕ) → last_call f p 1 ≡ 0
    none p = omega (arith, last_less f p 1 (omega arith))

module _ {f owners links lasts : List ℕ} {i : ℕ} (h : LinkedUpTo f i links lasts) (k : KeptFrom f owners i links) where
  -- record i is no call
  pub linked_skip : (word f i kind_word ≡ call_kind → ⊥) → LinkedUpTo f (i + 1) links lasts × KeptFrom f owners (i + 1) links
  linked_skip n =
      let z : i + 1 ≡ suc i = omega arith in
      rw z (
        record {
          procedures = h.procedures;
          last = λ p l. h.last p l ∙ sym (last_before f p i (no_call p));
          before = λ p j a b e. h.before p j a (earlier p j b e) e;
        },
        record { long = k.long; other = λ j o. k.other j (⊎_elim (λ m. inl m) (λ l. inr (omega arith)) o) },
      )
    where
      no_call : (p : ℕ) → is_call_of f p i ≡ false
      no_call p = false_of (λ e. n (call_is f p i e).0)

      earlier : (p j : ℕ) → j < suc i → is_call_of f p j ≡ true → j < i
      earlier p j l e = elim (ℕ_discrete j i) [ yes z ↦ absurd (clash (ap (is_call_of f p) (sym z) ∙ e) (no_call p)) | no z ↦ omega (arith, z) ]

  -- record i is a call of procedure o
  module _ {o : ℕ} (c : word f i kind_word ≡ call_kind) (w : owner_of f i ≡ o) (s : i < length links) (l : o < max_procedures) where
    lasts_next : (p : ℕ) → p < max_procedures → get_or (set lasts o i) p 0 ≡ last_call f p (suc i)
    lasts_next p b =
        elim (ℕ_discrete p o) [
          | yes z ↦ rw z (get_or-set_same lasts o i 0 (omega (arith, h.procedures)) ∙ sym (last_here f o i (is_call f o i c w)))
          | no z ↦ get_or-set_other lasts o p i 0 z ∙ h.last p b
              ∙ sym (last_before f p i (false_of (λ e. z (sym (call_is f p i e).1 ∙ w))))
        ]

    links_next : (p j : ℕ) → 0 < j → j < suc i → is_call_of f p j ≡ true → get_or (set links i (get_or lasts o 0)) j 0 ≡ last_call f p j
    links_next p j a b e =
        elim (ℕ_discrete j i) [
          | yes z ↦ (let q : p ≡ o = sym (call_is f p i (ap (is_call_of f p) (sym z) ∙ e)).1 ∙ w in
              rw (z, q) (get_or-set_same links i (get_or lasts o 0) 0 s ∙ h.last o l))
          | no z ↦ get_or-set_other links i j (get_or lasts o 0) 0 z ∙ h.before p j a (omega (arith, z)) e
        ]

    others_next : (j : ℕ) → (word f j kind_word ≡ call_kind → ⊥) ⊎ (suc i ≤ j) → get_or (set links i (get_or lasts o 0)) j 0 ≡ get_or owners j 0
    others_next j q =
        elim (ℕ_discrete j i) [
          | yes z ↦ absurd (⊎_elim (λ m. m (ap (λ n. word f n kind_word) z ∙ c)) (λ b. omega arith) q)
          | no z ↦ get_or-set_other links i j (get_or lasts o 0) 0 z ∙ k.other j (⊎_elim (λ m. inl m) (λ b. inr (omega arith)) q)
        ]

    pub linked_call : LinkedUpTo f (i + 1) (set links i (get_or lasts o 0)) (set lasts o i) × KeptFrom f owners (i + 1) (set links i (get_or lasts o 0))
    linked_call =
        let z : i + 1 ≡ suc i = omega arith in
        rw z (
          record { procedures = length-set lasts o i ∙ h.procedures; last = lasts_next; before = links_next },
          record { long = length-set links i (get_or lasts o 0) ∙ k.long; other = others_next },
        )

-- what a call among the records still to link asks: its place has its procedure
pub call_asks_law : {f owners links : List ℕ} {i w : ℕ} → Formed f → typing_ok (program f) ≡ true → OwnersIn f owners → KeptFrom f owners i links → 0 < i
    → i < record_count f → w ≡ word f i kind_word → w ≡ call_kind
    → (get_or links i 0 ≡ owner_of f i) × (get_or links i 0 < max_procedures) × (i < length links) × (i < max_records)
call_asks_law {f} {owners} {links} {i} F t O k p q e c =
    let here : get_or links i 0 ≡ owner_of f i = k.other i (inr (omega arith)) ∙ O.owner i q in (
      here,
      omega (arith, here, owner_low F t {p = owner_of f i} {i = i} (record { some = p; below = q; kind = sym e ∙ c; owner = refl })),
      omega (arith, O.fits, k.long),
      omega (arith, (counted F).most),
    )

pub linked_last : {f owners links lasts : List ℕ} {n i : ℕ} → LinkedUpTo f i links lasts → KeptFrom f owners i links → n ≡ record_count f → i ≤ n → n ≤ i
    → CallsLinked f links lasts × LinksLeft f owners links
linked_last {f} {owners} {links} {lasts} {n} {i} h k e a b =
    let z : i ≡ record_count f = omega arith in
    let l : CallsLinked f links lasts = rw z at h in
    (l, record { calls = λ p j c. l.before p j c.some c.below (is_call f p j c.kind c.owner); kept = rw z at k })

-- ---- along the links of procedure p
-- record j, where it is one, is a call of p before record m, and none between them is
pub record OnLinks (f : List ℕ) (p m j : ℕ) : Type 0 where
  pub call : (j ≡ 0 → ⊥) → CallOf f p j
  pub less : 0 < m → j < m
  pub rest : (i : ℕ) → CallOf f p i → i < m → i ≤ j

on_links : (f : List ℕ) (p m : ℕ) → m ≤ record_count f → OnLinks f p m (last_call f p m)
on_links f p m l =
    record {
      call = is;
      less = last_less f p m;
      rest = λ i c b. last_most f p m i b (is_call f p i c.kind c.owner);
    }
  where
    is : (last_call f p m ≡ 0 → ⊥) → CallOf f p (last_call f p m)
    is z =
        let c = call_is f p (last_call f p m) (last_is f p m z) in
        let some : 0 < m = elim (dec_lt 0 m) [ yes b ↦ b | no b ↦ absurd (z (let e : m ≡ 0 = omega arith in rw e (last_none f p))) ] in
        record { some = omega (arith, z); below = omega (arith, last_less f p m some); kind = c.0; owner = c.1 }

module _ {f links lasts : List ℕ} (h : CallsLinked f links lasts) {p : ℕ} where
  pub links_start : p < max_procedures → OnLinks f p (record_count f) (get_or lasts p 0)
  links_start l = rw (h.last p l) (on_links f p (record_count f) (omega arith))

  pub links_onward : {j : ℕ} → CallOf f p j → OnLinks f p j (get_or links j 0)
  links_onward {j} c = rw (h.before p j c.some c.below (is_call f p j c.kind c.owner)) (on_links f p j (omega (arith, c.below)))
