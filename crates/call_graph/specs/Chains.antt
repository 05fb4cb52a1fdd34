-- Chains of calls: one call more, and what holds of the entry and is handed on by calls holds of all that chains reach.
use Rattle.std.specs.Prelude.{ℕ, ◌<◌, true, ◌≡◌, length}
use Rattle.std.proofs.Math.Decide.{dec_lt}
use Rattle.std.proofs.Common.{arith, sym, ap, ◌∙◌}
use mathlib.Core.List.{List, [], ◌∷◌, ◌++◌}
use Rattle.std.proofs.Math.Path.{refl}
use Rattle.sets.specs.Tests.{and_true, true_and}
use Rattle.sets.specs.Members.{in_list, nil_in}
use Rattle.language.specs.Format.{entry_procedure}
use Rattle.language.specs.Program.{done, Procedure, Program, procedure_at}
use Rattle.language.specs.CallChains.{goals_callees, chain_end, callees, is_call_chain, CallChain}
use Rattle.laws.specs.Lists.{nth_past}

end_more : (p : ℕ) (qs : List ℕ) (q : ℕ) → chain_end p (qs ++ (q ∷ [])) ≡ q
unfolding chain_end
end_more p [] q = refl
end_more p (r ∷ qs) q = end_more r qs q

module _ (P : Program) where
  -- whatever calls is one of the procedures
  pub caller_below : (p q : ℕ) → in_list q (callees P p) ≡ true → p < length P.procedures
  unfolding callees procedure_at goals_callees
  caller_below p q e =
      elim (dec_lt p (length P.procedures)) [
        | yes l ↦ l
        | no f ↦ (let z = nth_past (record { signature = record { variables = []; regions = [] }; body = done }) P.procedures p (omega arith) in
            absurd (nil_in q (ap (λ (r : Procedure). in_list q (goals_callees r.body)) (sym z) ∙ e)))
      ]

  -- ---- one call more
  chain_more : (p : ℕ) (qs : List ℕ) (q : ℕ) → is_call_chain P p qs ≡ true → in_list q (callees P (chain_end p qs)) ≡ true
      → is_call_chain P p (qs ++ (q ∷ [])) ≡ true
  unfolding is_call_chain chain_end
  chain_more p [] q c e = true_and e refl
  chain_more p (r ∷ qs) q c e = true_and (and_true c).0 (chain_more r qs q (and_true c).1 e)

  pub chain_start : CallChain P entry_procedure
  unfolding is_call_chain chain_end
  chain_start = record { through = []; chain = refl; end = refl }

  pub chain_on : {p q : ℕ} → CallChain P p → in_list q (callees P p) ≡ true → CallChain P q
  chain_on {p} {q} c e = record {
    through = c.through ++ (q ∷ []);
    chain = chain_more entry_procedure c.through q c.chain (rw c.end e);
    end = end_more entry_procedure c.through q;
  }

  -- ---- along a chain
  module _ (Holds : ℕ → Type 0) (onward : (p q : ℕ) → Holds p → in_list q (callees P p) ≡ true → Holds q) where
    along : (p : ℕ) (qs : List ℕ) → Holds p → is_call_chain P p qs ≡ true → Holds (chain_end p qs)
    unfolding is_call_chain chain_end
    along p [] h c = h
    along p (q ∷ qs) h c = along q qs (onward p q h (and_true c).0) (and_true c).1

    pub chain_holds : Holds entry_procedure → {q : ℕ} → CallChain P q → Holds q
    chain_holds h c = rw c.end at (along entry_procedure c.through h c.chain)

-- ---- two programs with the same calls have the same chains
module _ (P Q : Program) (same : (p : ℕ) → callees P p ≡ callees Q p) where
  chain_moved : (p : ℕ) (qs : List ℕ) → is_call_chain P p qs ≡ true → is_call_chain Q p qs ≡ true
  unfolding is_call_chain
  chain_moved p [] c = refl
  chain_moved p (q ∷ qs) c = true_and (ap (in_list q) (sym (same p)) ∙ (and_true c).0) (chain_moved q qs (and_true c).1)

  pub chain_same : {q : ℕ} → CallChain P q → CallChain Q q
  chain_same c = record { through = c.through; chain = chain_moved entry_procedure c.through c.chain; end = c.end }
