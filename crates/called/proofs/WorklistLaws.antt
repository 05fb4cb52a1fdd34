-- The worklist: what each procedure found calls is looked at, in the order in which they were found; at the end the marks are what chains reach.
use Prim.Native.Nat.{ℕ, ◌+◌, ◌≤◌, ◌<◌}
use native.Mathlib.Decide.{dec_lt, ℕ_discrete}
use native.Mathlib.Omega.{arith}
use mathlib.Core.Bool.{true}
use mathlib.Core.List.{List}
use mathlib.Core.Path.{◌≡◌, refl, sym, ap, ◌∙◌}
use borrow.Author.Tests.{eqb-true, eq-eqb}
use lib.Dec.{eqb}
use lib.ListN.{length, get_or, set}
use Rattle.sets.specs.Tests.{same_truth}
use Rattle.sets.specs.Members.{in_list}
use Rattle.language.specs.Format.{header_procedures, call_procedure, entry_procedure, max_procedures}
use Rattle.language.specs.File.{word, record_count}
use Rattle.language.specs.CallChains.{callees, CallChain, reached_ok}
use Rattle.language.specs.Typing.{typing_ok}
use Rattle.language.specs.Answers.{program}
use Rattle.call_graph.specs.Chains.{chain_on, chain_holds}
use Rattle.call_graph.proofs.AllReached.{ok_reached, reached_ok_law}
use Rattle.chains.specs.Formed.{Formed, procedures_stand, program_procedures}
use Rattle.chains.specs.Records.{chain_records}
use Rattle.chains.specs.Elements as Elements
use Rattle.called.specs.Calls.{CallOf}
use Rattle.called.proofs.CallsLaws.{called_record, record_called, callee_low}
use Rattle.called.specs.Linked.{CallsLinked}
use Rattle.called.proofs.LinkedLaws.{links_start, links_onward}
use Rattle.called.specs.Marks.{Marked}
use Rattle.called.proofs.MarksLaws.{unmarked_none, none_unmarked}
use Rattle.called.specs.Found.{Found, More, CalleesMarked}
use Rattle.called.proofs.FoundLaws.{one_more, now_marked, found_more}
use Rattle.called.specs.Worklist.{Looked}

-- ---- what procedure p calls, along its links: the calls behind record j have been looked at
pub record Looking (f : List ℕ) (p j : ℕ) (marks₀ order₀ : List ℕ) (n₀ : ℕ) (marks order : List ℕ) (n : ℕ) : Type 0 where
  pub found : Found f marks order n
  pub more : More marks₀ order₀ n₀ marks order n
  pub call : (j ≡ 0 → ⊥) → CallOf f p j
  pub ahead : (i : ℕ) → CallOf f p i → j < i → Marked marks (word f i call_procedure)

more_none : (marks order : List ℕ) (n : ℕ) → More marks order n marks order n
more_none marks order n = record { most = omega arith; marked = λ q m. m; ordered = λ k l. refl }

more_both : {marks order marks' order' marks'' order'' : List ℕ} {n n' n'' : ℕ} → More marks order n marks' order' n' → More marks' order' n' marks'' order'' n''
    → More marks order n marks'' order'' n''
more_both a b = record {
  most = omega (arith, a.most, b.most);
  marked = λ q m. b.marked q (a.marked q m);
  ordered = λ k l. b.ordered k (omega (arith, a.most)) ∙ a.ordered k l;
}

module _ {f links lasts : List ℕ} (K : CallsLinked f links lasts) {p : ℕ} where
  pub looking_first : {marks order : List ℕ} {n j : ℕ} → p < max_procedures → Found f marks order n → j ≡ get_or lasts p 0 → Looking f p j marks order n marks order n
  looking_first {j = j} l h e =
      let s = links_start K l in
      record {
        found = h;
        more = more_none _ _ _;
        call = λ z. rw e (s.call (λ y. z (e ∙ y)));
        ahead = λ i c b. absurd (omega (arith, e, s.rest i c c.below));
      }

  module _ {j : ℕ} {marks₀ order₀ marks order : List ℕ} {n₀ n : ℕ} (h : Looking f p j marks₀ order₀ n₀ marks order n) (z : j ≡ 0 → ⊥) where
    -- the call at record j, whose callee is marked by now: the link leads on
    onward : {marks' order' : List ℕ} {n' : ℕ} → Found f marks' order' n' → More marks order n marks' order' n' → Marked marks' (word f j call_procedure)
        → {i : ℕ} → i ≡ get_or links j 0 → Looking f p i marks₀ order₀ n₀ marks' order' n'
    onward {marks'} a m y {i} e =
        let s = links_onward K (h.call z) in
        record {
          found = a;
          more = more_both h.more m;
          call = λ x. rw e (s.call (λ w. x (e ∙ w)));
          ahead = λ k c b. after k c (omega (arith, e)) (ℕ_discrete k j) (dec_lt k j);
        }
      where
        after : (k : ℕ) → CallOf f p k → get_or links j 0 < k → Dec (k ≡ j) → Dec (k < j) → Marked marks' (word f k call_procedure)
        after k c b (yes x) d = rw x y
        after k c b (no x) (yes d) = absurd (omega (arith, (links_onward K (h.call z)).rest k c d))
        after k c b (no x) (no d) = m.marked _ (h.ahead k c (omega (arith, x)))

    -- what the code asks of it: the record, its callee, and the next link
    pub call_fits : Formed f → typing_ok (program f) ≡ true → {q : ℕ} → q ≡ word f j call_procedure → (j < record_count f) × (q < length (program f).procedures)
    call_fits F t e = ((h.call z).below, rw e (callee_low F t (h.call z)))

    pub link_falls : {i : ℕ} → i ≡ get_or links j 0 → i < j
    link_falls e = omega (arith, e, (links_onward K (h.call z)).less (h.call z).some)

    pub looking_old : {i q : ℕ} → q ≡ word f j call_procedure → Marked marks q → i ≡ get_or links j 0 → Looking f p i marks₀ order₀ n₀ marks order n
    looking_old e m g = onward h.found (more_none _ _ _) (rw e at m) g

    pub looking_new : {i q : ℕ} → Formed f → length (program f).procedures ≤ max_procedures → CallChain (program f) p → q ≡ word f j call_procedure
        → q < length (program f).procedures → get_or marks q 0 ≡ 0 → i ≡ get_or links j 0
        → Looking f p i marks₀ order₀ n₀ (set marks q 1) (set order n q) (n + 1)
    looking_new F few c e l m g =
        onward (found_more h.found few l m (rw e (chain_on (program f) c (record_called F (h.call z)))))
        (one_more h.found few l m) (rw (← e) (now_marked h.found few l m)) g

  pub looking_last : {j : ℕ} {marks₀ order₀ marks order : List ℕ} {n₀ n : ℕ} → Formed f → Looking f p j marks₀ order₀ n₀ marks order n → j ≡ 0
      → Looked f p marks₀ order₀ n₀ marks order n
  looking_last F h e = record {
    found = h.found;
    more = h.more;
    callees = λ q c. (let r = called_record F p q c in rw r.2 at (h.ahead r.0 r.1 (omega (arith, r.1.some))));
  }

-- ---- the worklist: of the first k procedures found, all that they call is marked
pub record Worklist (f marks order : List ℕ) (k n : ℕ) : Type 0 where
  pub found : Found f marks order n
  pub most : k ≤ n
  pub done : (i : ℕ) → i < k → CalleesMarked f marks (get_or order i 0)

pub worklist_first : {f marks order : List ℕ} → Found f marks order 1 → Worklist f marks order 0 1
worklist_first h = record { found = h; most = omega arith; done = λ i l. absurd (omega arith) }

pub worklist_next : {f marks order marks' order' : List ℕ} {k n n' p : ℕ} → Worklist f marks order k n → k < n → p ≡ get_or order k 0
    → Looked f p marks order n marks' order' n' → Worklist f marks' order' (k + 1) n'
worklist_next {f} {marks} {order} {marks'} {order'} {k} {n} h l e a = record {
  found = a.found;
  most = omega (arith, a.more.most);
  done = λ i b. each i b (ℕ_discrete i k);
}
  where
    each : (i : ℕ) → i < k + 1 → Dec (i ≡ k) → CalleesMarked f marks' (get_or order' i 0)
    each i b (yes z) = rw (z, a.more.ordered k l, ← e) a.callees
    each i b (no z) = rw (a.more.ordered i (omega (arith, z, h.most))) (λ q c. a.more.marked q (h.done i (omega (arith, z)) q c))

-- at the end the marks are what chains reach
module _ {f marks order : List ℕ} {k n : ℕ} (h : Worklist f marks order k n) (l : n ≤ k) where
  chain_marked : {q : ℕ} → CallChain (program f) q → Marked marks q
  chain_marked = chain_holds (program f) (Marked marks) onward h.found.entry
    where
      onward : (p q : ℕ) → Marked marks p → in_list q (callees (program f) p) ≡ true → Marked marks q
      onward p q m c = let s = h.found.listed p m in (rw s.2 at (h.done s.0 (omega (arith, s.1)))) q c

  marked_chain : (q : ℕ) → Marked marks q → CallChain (program f) q
  marked_chain q m = let s = h.found.listed q m in rw s.2 at (h.found.chained s.0 s.1)

  -- number 17: as many were found as there are
  pub worklist_last : {m : ℕ} → m ≡ length (program f).procedures → eqb n m ≡ reached_ok (program f)
  worklist_last {m} e = same_truth all_found found_all
    where
      N : ℕ
      N = length (program f).procedures

      all_found : eqb n m ≡ true → reached_ok (program f) ≡ true
      all_found y =
          reached_ok_law (program f)
          (λ q b z. marked_chain q (unmarked_none marks N (omega (arith, h.found.counted, eqb-true n m y, e)) q b))

      found_all : reached_ok (program f) ≡ true → eqb n m ≡ true
      found_all y = eq-eqb n m (omega (arith, e, h.found.counted, none_unmarked marks N (λ q b. marks_of q b y)))
        where
          marks_of : (q : ℕ) → q < N → reached_ok (program f) ≡ true → Marked marks q
          marks_of q b y =
              elim (ℕ_discrete q entry_procedure) [ yes z ↦ rw z h.found.entry | no z ↦ chain_marked (ok_reached (program f) y q b z) ]

-- ---- how many procedures there are: as many as their chain has records
module _ {f : List ℕ} (F : Formed f) {i : ℕ} (e : i ≡ word f 0 header_procedures) where
  pub chain_there : i < record_count f
  chain_there = rw e (procedures_stand F).below

  pub chain_total : {m : ℕ} → m ≡ length (chain_records f i) → m ≡ length (program f).procedures
  chain_total g = g ∙ rw e (sym (Elements.procedures_count F (word f 0 header_procedures) (procedures_stand F)) ∙ ap length (sym (program_procedures F)))
