-- What `reached` computes, as many rounds as there are procedures, is what chains of calls reach, in both directions; and number 17.
use Prim.Native.Nat.{ℕ, zero, suc, ◌<◌}
use Rattle.std.proofs.Math.Decide.{ℕ_discrete}
use native.Mathlib.Omega.{arith}
use Rattle.std.proofs.Math.Bool.{true}
use Rattle.std.specs.Prelude.{false, ◌≡◌}
use Rattle.std.proofs.Math.Path.{refl, ap}
use Rattle.std.proofs.Common.{sym, ◌∙◌}
use Rattle.std.proofs.Math.ListN.{length}
use Rattle.sets.specs.Tests.{clash, same_truth}
use Rattle.sets.specs.Members.{in_list}
use Rattle.language.specs.Format.{entry_procedure}
use Rattle.language.specs.Program.{Program}
use Rattle.language.specs.CallChains.{callees, CallChain, one_call_on, reached, reached_ok}
use Rattle.laws.specs.Numbers.{all_at, at_all, at_fails}
use Rattle.call_graph.specs.Chains.{caller_below, chain_start, chain_holds, chain_same}
use Rattle.call_graph.specs.Reached.{AllReached, settled, on_new, entry_found, found_chain}

module _ (P : Program) where
  reached_settled : (n : ℕ) → length P.procedures ≡ n → 0 < n → one_call_on P (reached P) ≡ reached P
  unfolding reached
  reached_settled zero e l = absurd (omega arith)
  reached_settled (suc n) e l = rw e (settled P n e)

  -- ---- THE THEOREM
  pub chain_reached : {q : ℕ} → CallChain P q → q < length P.procedures → in_list q (reached P) ≡ true
  unfolding reached
  chain_reached = chain_holds P (λ q. q < length P.procedures → in_list q (reached P) ≡ true) onward (entry_found P (length P.procedures))
    where
      onward : (p q : ℕ) → (p < length P.procedures → in_list p (reached P) ≡ true) → in_list q (callees P p) ≡ true
          → q < length P.procedures → in_list q (reached P) ≡ true
      onward p q h e l =
          ap (in_list q) (sym (reached_settled (length P.procedures) refl (omega arith)))
          ∙ on_new P (reached P) p q l (h (caller_below P p q e)) e

  pub reached_chain : {q : ℕ} → in_list q (reached P) ≡ true → CallChain P q
  unfolding reached
  reached_chain {q} e = found_chain P (length P.procedures) q e

  -- ---- number 17
  pub ok_reached : reached_ok P ≡ true → AllReached P
  unfolding reached_ok
  ok_reached e q l z = reached_chain (all_at (length P.procedures) 0 (λ q. in_list q (reached P)) e q (omega arith) (omega arith))

  pub reached_ok_law : AllReached P → reached_ok P ≡ true
  unfolding reached_ok
  reached_ok_law h =
      at_all (length P.procedures) 0 (λ q. in_list q (reached P))
      (λ q b l. chain_reached (elim (ℕ_discrete q entry_procedure) [ yes e ↦ rw e (chain_start P) | no z ↦ h q (omega arith) z ]) (omega arith))

  -- a file is refused for a procedure that there is
  pub unreached_one : reached_ok P ≡ false → (q : ℕ) × (q < length P.procedures) × (q ≡ entry_procedure → ⊥) × (CallChain P q → ⊥)
  unfolding reached_ok
  unreached_one e =
      let r = at_fails (length P.procedures) 0 (λ q. in_list q (reached P)) e in
      let l : r.0 < length P.procedures = omega arith in (
        r.0,
        l,
        (λ z. clash (chain_reached (rw z (chain_start P)) l) r.3),
        λ c. clash (chain_reached c l) r.3,
      )

-- the same calls, the same answer
pub same_reached : (P Q : Program) → length P.procedures ≡ length Q.procedures → ((p : ℕ) → callees P p ≡ callees Q p) → reached_ok P ≡ reached_ok Q
same_reached P Q n same =
    same_truth (λ e. reached_ok_law Q (λ q l z. chain_same P Q same (ok_reached P e q (omega arith) z)))
    (λ e. reached_ok_law P (λ q l z. chain_same Q P (λ p. sym (same p)) (ok_reached Q e q (omega arith) z)))
