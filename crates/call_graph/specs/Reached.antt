-- What `reached` computes are the procedures that chains of calls from the entry reach; so number 17 is for just the files that have another one.
use Prim.Native.Nat.{ℕ, zero, suc, ◌≤◌, ◌<◌}
use Rattle.std.proofs.Math.Decide.{ℕ_discrete}
use native.Mathlib.Omega.{arith}
use Rattle.std.proofs.Math.Bool.{true}
use Rattle.std.specs.Prelude.{false, ◌⊎◌, ◌≡◌}
use mathlib.Core.List.{List, [], ◌∷◌, ◌++◌}
use Rattle.std.proofs.Math.Logic.{inl, inr, ⊎_elim}
use Rattle.std.proofs.Math.Path.{refl, ap}
use Rattle.std.proofs.Common.{sym, ◌∙◌}
use Rattle.std.proofs.Math.ListN.{length}
use Rattle.sets.specs.Tests.{clash, same_truth}
use Rattle.sets.specs.Members.{in_list, nil_in, cons_here, cons_later, cons_in}
use Rattle.sets.specs.MemberLaws.{filtered_in, filtered_mk}
use Rattle.language.specs.Lists.{up_from}
use Rattle.language.specs.Format.{entry_procedure}
use Rattle.language.specs.Program.{Program}
use Rattle.language.specs.CallChains.{callees, CallChain, called_from, one_call_on, reached_within, reached, reached_ok}
use Rattle.laws.specs.Numbers.{up_from_in, up_from_mk, up_from_length, all_at, at_all, at_fails}
use Rattle.laws.specs.Lists.{append_in, append_left, append_right}
use Rattle.laws.specs.Rounds.{rounds, filtered_most, same_or_more}
use Rattle.call_graph.specs.Chains.{caller_below, chain_start, chain_on, chain_holds, chain_same}

module _ (P : Program) where
  -- ---- one call further
  called_in : (ps : List ℕ) (q : ℕ) → in_list q (called_from P ps) ≡ true → (p : ℕ) × (in_list p ps ≡ true) × (in_list q (callees P p) ≡ true)
  unfolding called_from
  called_in [] q e = absurd (nil_in q e)
  called_in (p ∷ ps) q e =
      ⊎_elim (λ c. (p, cons_here p p ps refl, c)) (λ r. let h = called_in ps q r in (h.0, cons_later h.0 p ps h.1, h.2))
      (append_in q (callees P p) (called_from P ps) e)

  called_mk : (ps : List ℕ) (p q : ℕ) → in_list p ps ≡ true → in_list q (callees P p) ≡ true → in_list q (called_from P ps) ≡ true
  unfolding called_from
  called_mk [] p q h e = absurd (nil_in p h)
  called_mk (r ∷ ps) p q h e =
      ⊎_elim (λ z. append_left q (callees P r) (called_from P ps) (ap (λ (n : ℕ). in_list q (callees P n)) z ∙ e))
      (λ l. append_right q (callees P r) (called_from P ps) (called_mk ps p q l e)) (cons_in p r ps h)

  module _ (ps : List ℕ) where
    on_in : (q : ℕ) → in_list q (one_call_on P ps) ≡ true
        → (in_list q ps ≡ true) ⊎ ((p : ℕ) × (in_list p ps ≡ true) × (in_list q (callees P p) ≡ true))
    unfolding one_call_on
    on_in q e =
        let h = filtered_in (λ (n : ℕ). in_list n (ps ++ called_from P ps)) (up_from 0 (length P.procedures)) q e in
        ⊎_elim (λ o. inl o) (λ c. inr (called_in ps q c)) (append_in q ps (called_from P ps) h.1)

    on_mk : (q : ℕ) → q < length P.procedures → in_list q (ps ++ called_from P ps) ≡ true → in_list q (one_call_on P ps) ≡ true
    unfolding one_call_on
    on_mk q l e =
        filtered_mk (λ (n : ℕ). in_list n (ps ++ called_from P ps)) (up_from 0 (length P.procedures)) q
        (up_from_mk 0 (length P.procedures) q (omega arith) (omega arith)) e

    on_old : (q : ℕ) → q < length P.procedures → in_list q ps ≡ true → in_list q (one_call_on P ps) ≡ true
    on_old q l h = on_mk q l (append_left q ps (called_from P ps) h)

    pub on_new : (p q : ℕ) → q < length P.procedures → in_list p ps ≡ true → in_list q (callees P p) ≡ true → in_list q (one_call_on P ps) ≡ true
    on_new p q l h e = on_mk q l (append_right q ps (called_from P ps) (called_mk ps p q h e))

  -- ---- what is found in n rounds, a chain reaches
  pub found_chain : (n q : ℕ) → in_list q (reached_within P n) ≡ true → CallChain P q
  unfolding reached_within
  found_chain zero q e = ⊎_elim (λ z. rw (← z) (chain_start P)) (λ o. absurd (nil_in q o)) (cons_in q entry_procedure [] e)
  found_chain (suc n) q e =
      ⊎_elim (λ o. found_chain n q o) (λ c. chain_on P (found_chain n c.0 c.1) c.2) (on_in (reached_within P n) q e)

  -- ---- with as many rounds as there are procedures all are found
  some_length : (n : ℕ) (xs : List ℕ) → in_list n xs ≡ true → 1 ≤ length xs
  some_length n [] e = absurd (nil_in n e)
  some_length n (x ∷ xs) e = omega arith

  pub entry_found : (n : ℕ) → 0 < length P.procedures → in_list entry_procedure (reached_within P n) ≡ true
  unfolding reached_within
  entry_found zero l = cons_here entry_procedure entry_procedure [] refl
  entry_found (suc n) l = on_old (reached_within P n) entry_procedure l (entry_found n l)

  -- from the first round on, a round adds a procedure or none is left to add
  on_grows : (ps : List ℕ) → (one_call_on P (one_call_on P ps) ≡ one_call_on P ps) ⊎ (length (one_call_on P ps) < length (one_call_on P (one_call_on P ps)))
  unfolding one_call_on
  on_grows ps =
      ⊎_elim (λ e. inl (sym e)) (λ l. inr l)
      (same_or_more (λ q. in_list q (ps ++ called_from P ps)) (λ q. in_list q (one_call_on P ps ++ called_from P (one_call_on P ps))) numbers
      (λ q l e. append_left q (one_call_on P ps) (called_from P (one_call_on P ps)) (on_mk ps q (let h = up_from_in 0 (length P.procedures) q l in omega arith) e)))
    where
      numbers : List ℕ
      numbers = up_from 0 (length P.procedures)

  on_most : (ps : List ℕ) → length (one_call_on P ps) ≤ length P.procedures
  unfolding one_call_on
  on_most ps =
      omega (
        arith,
        filtered_most (λ (q : ℕ). in_list q (ps ++ called_from P ps)) (up_from 0 (length P.procedures)),
        up_from_length 0 (length P.procedures),
      )

  -- after the first round and n more, no round adds, or n + 1 procedures have been found
  found_rounds : (n : ℕ) → 0 < length P.procedures
      → (one_call_on P (reached_within P (suc n)) ≡ reached_within P (suc n)) ⊎ (suc n ≤ length (reached_within P (suc n)))
  unfolding reached_within
  found_rounds n l =
      rounds (one_call_on P) length (λ k. reached_within P (suc k)) (λ k. refl) (λ k. on_grows (reached_within P k))
      (some_length entry_procedure (reached_within P 1) (entry_found 1 l)) n

  -- so no round adds then
  pub settled : (n : ℕ) → length P.procedures ≡ suc n → one_call_on P (reached_within P (suc n)) ≡ reached_within P (suc n)
  unfolding reached_within
  settled n e =
      ⊎_elim (λ s. s)
      (λ m. ⊎_elim (λ s. s) (λ l. absurd (omega (arith, on_most (one_call_on P (reached_within P n))))) (on_grows (reached_within P n)))
      (found_rounds n (omega arith))

  -- ---- number 17
  -- every procedure "other than the entry" is reached by a chain
  abbrev pub AllReached : Type 0
  AllReached = (q : ℕ) → q < length P.procedures → (q ≡ entry_procedure → ⊥) → CallChain P q
